-- What comes of a mode and of its parts: its own end, or why it stopped before.
use Rattle.std.specs.Prelude.{◌≡◌, ◌≢◌, ℕ, ◌≤◌, List, length, Option, Some, None, IfSome, Result, Ok, Err, ⊤}
use Rattle.kc_io.specs.Files.{Held, FilesState, HasFailed, IsWhole, IsLonger}
use Rattle.kc_io.specs.Sink.{SinkState}
use Rattle.kc_image.specs.Image.{Contents}
use Rattle.kc_image.specs.ImageFile.{contents_of}
use Rattle.kc_regions.specs.Description.{Description}
use Rattle.kc_regions.specs.Valid.{IsValid}
use Rattle.kc_config.specs.Reading.{description, IsFirstFault}
use Rattle.kc_trace.specs.declared.fault.TraceFault.TheVariants.{NoMemory as NoTraceMemory}
use Rattle.kc_trace.specs.declared.line.Line.{Line}
use Rattle.kc_replay.specs.Script.{Reads}
use Rattle.kc_top.specs.declared.load.Loaded.{Loaded}
use Rattle.kc_top.specs.declared.status.Status.{Status}
use Rattle.kc_top.specs.declared.outcome.Outcome.{Outcome}
use Rattle.kc_top.specs.declared.stop.Stop.{Stop}
use Rattle.kc_top.specs.declared.stop.Stop.TheVariants.{ReadFault, TooLarge, BadImage, BadConfig, BadCert}
use Rattle.kc_top.specs.declared.stop.Stop.TheVariants.{BadTrace, NoMemory}
use Rattle.kc_top.specs.Words.{Inputs, Gen}
use Rattle.kc_top.specs.Work.{Work, Over, Comes, read_fault, too_large}
use Rattle.kc_top.specs.Output.{TRACE_LIMIT, bad_image, bad_config, bad_cert, bad_trace, digests_of, loaded, made}
use Rattle.kc_top.specs.Output.{certified, scripted_by, work_of, Tells}

-- the outcome of a cause; want of memory has none
abbrev pub outcome_of : Stop → Option Outcome
outcome_of (ReadFault name) = Some (read_fault name.now)
outcome_of (TooLarge name) = Some (too_large name.now)
outcome_of (BadImage fault) = Some (bad_image fault)
outcome_of (BadConfig fault) = Some (bad_config fault)
outcome_of (BadCert fault) = Some (bad_cert fault)
outcome_of (BadTrace fault) = Some (bad_trace fault)
outcome_of NoMemory = None

-- why a file wasn't read between the two states
abbrev pub IsUnread : FilesState → FilesState → List ℕ → ℕ → Stop → Type 0
IsUnread before after name limit (ReadFault named) = HasFailed before after name × (named.now ≡ name)
IsUnread before after name limit (TooLarge named) = IsLonger before.held name limit × (named.now ≡ name)
IsUnread before after name limit NoMemory = ⊤
IsUnread before after name limit _ = ⊥

-- why the bytes of a file are no image
abbrev pub IsNoImage : List ℕ → Stop → Type 0
IsNoImage file (BadImage fault) = contents_of file ≡ Err fault
IsNoImage file NoMemory = ⊤
IsNoImage file _ = ⊥

-- why a text is no description
abbrev pub IsNoDescription : Contents → List ℕ → Stop → Type 0
IsNoDescription image text (BadConfig fault) = IsFirstFault image.symbols text fault
IsNoDescription image text NoMemory = ⊤
IsNoDescription image text _ = ⊥

-- why a text is no trace
abbrev pub IsNoTrace : Description → List ℕ → Stop → Type 0
IsNoTrace cfg text (BadTrace fault) = (fault ≢ NoTraceMemory) × Reads cfg text (Err fault)
IsNoTrace cfg text NoMemory = ⊤
IsNoTrace cfg text _ = ⊥

-- the lines that a trace's file says
pub record IsScripted (told : Option Held) (cfg : Description) (trace : List ℕ) (lines : List Line) : Type 0 where
  pub text : List ℕ
  pub whole : IsWhole told trace text
  pub within : length text ≤ TRACE_LIMIT
  pub reads : Reads cfg text (Ok lines)

-- no outcome comes of it: for what stops before it
abbrev pub Never : Work
Never = Over (λ o. ⊥)

-- why image and description weren't loaded: the cause's outcome comes before anything follows of them
abbrev pub IsUnloaded : Option Held → (List ℕ → Type 0) → Inputs → Stop → Type 0
IsUnloaded told rose inputs stop = IfSome (outcome_of stop) (Comes told rose (loaded inputs (λ l. Never)))

-- the same of a trace
abbrev pub IsUnscripted : Option Held → (List ℕ → Type 0) → Description → List ℕ → Stop → Type 0
IsUnscripted told rose cfg trace stop =
    IfSome (outcome_of stop) (Comes told rose (scripted_by cfg trace (λ lines. Never)))

-- the same of a certificate
abbrev pub IsUncertified : Option Held → (List ℕ → Type 0) → List ℕ → Stop → Type 0
IsUncertified told rose cert stop = IfSome (outcome_of stop) (Comes told rose (certified cert (λ c. Never)))

-- ---- an input that was made

-- the image, the description and their digests are what these bytes say
pub record IsOfBytes (file text : List ℕ) (l : Loaded) : Type 0 where
  pub is_image : contents_of file ≡ Ok l.image
  pub is_description : description l.image.symbols text ≡ Ok l.config
  pub valid : IsValid l.config
  pub digests : l.digests ≡ digests_of file text

-- why they say none: the cause's outcome comes before anything follows of them, and no file is read
abbrev pub IsUnmade : List ℕ → List ℕ → Stop → Type 0
IsUnmade file text stop = IfSome (outcome_of stop) (Comes None (λ _. ⊥) (made file text (λ l. Never)))

-- ---- how a mode ends

-- one of these outcomes was told; or memory ran out, and nothing was written
abbrev pub Concludes : (Outcome → Type 0) → SinkState → SinkState → Result Status Stop → Type 0
Concludes ends before after (Ok status) = (o : Outcome) × ends o × Tells o status before after
Concludes ends before after (Err stop) = (stop ≡ NoMemory) × (after ≡ before)

-- an outcome of the work was told; or the outcome of the cause comes of the work, and nothing was written
abbrev pub Ends : Option Held → (List ℕ → Type 0) → Work → SinkState → SinkState → Result Status Stop → Type 0
Ends told rose work before after (Ok status) = (o : Outcome) × Comes told rose work o × Tells o status before after
Ends told rose work before after (Err stop) = IfSome (outcome_of stop) (Comes told rose work) × (after ≡ before)

-- the same of an input that is made, for which no file is read
abbrev pub Makes : ℕ → ℕ → SinkState → SinkState → Result Status Stop → Type 0
Makes seed size = Ends None (λ _. ⊥) (work_of (Some (Gen seed size)))
