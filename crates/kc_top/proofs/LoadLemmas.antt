-- What comes of work that begins with an image and a description, with a certificate or with a trace, from what its
-- steps found. Each lemma takes what comes of the rest of the work to what comes of the work that begins with the file; a cause that comes
-- where nothing follows (`Never`) comes whatever follows (`-cut`).
use Rattle.std.proofs.Common.{◌≡◌, ◌≢◌, ℕ, ◌≤◌, List, length, refl, ap, sym, inl, inr, subst}
use Rattle.std.specs.Prelude.{Option, None, IfSome, IfErr, IsErrAnd, Result, Ok, Err}
use Rattle.kc_io.specs.Files.{Held, FilesState, FilesKept, HasFailed, IsWhole}
use Rattle.kc_image.specs.Image.{Contents}
use Rattle.kc_image.specs.ImageFile.{contents_of}
use Rattle.kc_regions.specs.Description.{Description}
use Rattle.kc_regions.specs.Valid.{IsValid}
use Rattle.kc_config.specs.declared.fault.ConfigFault.{ConfigFault}
use Rattle.kc_config.specs.Reading.{description, IsFirstFault}
use Rattle.kc_machine.specs.Start.{MayStart}
use Rattle.kc_trace.specs.declared.fault.TraceFault.{TraceFault}
use Rattle.kc_trace.specs.declared.fault.TraceFault.TheVariants.{BadLine, BadNumber, NotAdmitted, NoMemory as NoTraceMemory}
use Rattle.kc_trace.specs.declared.gathered.Gathered.{Gathered}
use Rattle.kc_trace.specs.declared.line.Line.{Line}
use Rattle.kc_trace.specs.Script.{scripted}
use Rattle.kc_replay.specs.Turns.{first_set}
use Rattle.kc_replay.specs.Script.{Reads}
use Rattle.kc_cert.specs.declared.certificate.Certificate.{Certificate}
use Rattle.kc_certfmt.specs.Reading.{cert_at}
use Rattle.kc_top.specs.declared.load.Loaded.{Loaded}
use Rattle.kc_top.specs.declared.outcome.Outcome.{Outcome}
use Rattle.kc_top.specs.declared.stop.Stop.{Stop}
use Rattle.kc_top.specs.declared.stop.Stop.TheVariants.{ReadFault, TooLarge, BadImage, BadConfig, BadCert}
use Rattle.kc_top.specs.declared.stop.Stop.TheVariants.{BadTrace, NoMemory}
use Rattle.kc_top.specs.Words.{Inputs}
use Rattle.kc_top.specs.Work.{Work, Ruled, form, Comes}
use Rattle.kc_top.specs.Output.{IMAGE_LIMIT, CONFIG_LIMIT, CERT_LIMIT, TRACE_LIMIT, bad_image, bad_config, bad_cert}
use Rattle.kc_top.specs.Output.{bad_trace, IsBrokenRule, of_files, stated, configured, loaded, made, certified}
use Rattle.kc_top.specs.Output.{IsNotStarted, scripted_by, AreLoaded, IsCertificateOf}
use Rattle.kc_top.specs.OutputSteps.{outcome_of, IsNoImage, IsNoDescription, IsNoTrace, IsScripted, IsOfBytes, IsUnmade}
use Rattle.kc_top.specs.OutputSteps.{Never}
use Rattle.kc_top.proofs.WorkLemmas.{Comes-more, Wants-map, form-map, Ruled-map, WantsNone, none-form}
use Rattle.kc_top.proofs.OutputLemmas.{Rose-before}
use Rattle.kc_top.proofs.ReadLemmas.{after_read, after_form, unformed}

-- what was handed on is what it was
pub handed_on : {A E : Type 0} (P : E → Type 0) (stop : E) (r : Result A E) → IsErrAnd r (λ e. e ≡ stop) → P stop →
    IfErr r P
handed_on P stop (Ok a) is holds = absurd is
handed_on P stop (Err e) is holds = subst P (sym is) holds

-- what comes of a part, after what the files kept, comes in the whole
pub Comes-later : (first second third : FilesState) (w : Work) (o : Outcome) → FilesKept first second →
    Comes second.held (HasFailed second third) w o → Comes first.held (HasFailed first third) w o
Comes-later first second third w o kept comes =
    Comes-more first.held (HasFailed second third) (HasFailed first third)
    (λ n rises. Rose-before (first.faults n) (second.faults n) (third.faults n) (kept.later n) rises) w o
    (subst (λ (told : Option Held). Comes told (HasFailed second third) w o) kept.held comes)

-- ---- the image

-- what follows of an image
abbrev pub described : Inputs → (Loaded → Work) → List ℕ → Contents → Work
described inputs next file image = configured inputs.config image (λ text cfg. next (of_files file image text cfg))

-- after an image the description is due
pub after_contents : (told : Option Held) (rose : List ℕ → Type 0) (inputs : Inputs) (next : Loaded → Work)
    (file : List ℕ) (image : Contents) → IsWhole told inputs.image file → length file ≤ IMAGE_LIMIT →
    contents_of file ≡ Ok image → (o : Outcome) → Comes told rose (described inputs next file image) o →
    Comes told rose (loaded inputs next) o
after_contents told rose inputs next file image whole within is o follows =
    after_read told rose inputs.image IMAGE_LIMIT (λ file. form bad_image (contents_of file) (described inputs next file))
    file whole within o
    (after_form told rose bad_image (contents_of file) (described inputs next file) image o is follows)

-- the file is no image
pub no_contents : (told : Option Held) (rose : List ℕ → Type 0) (inputs : Inputs) (next : Loaded → Work)
    (file : List ℕ) (stop : Stop) → IsWhole told inputs.image file → length file ≤ IMAGE_LIMIT → IsNoImage file stop →
    IfSome (outcome_of stop) (Comes told rose (loaded inputs next))
no_contents told rose inputs next file (BadImage fault) whole within is =
    after_read told rose inputs.image IMAGE_LIMIT (λ file. form bad_image (contents_of file) (described inputs next file))
    file whole within (bad_image fault)
    (unformed told rose bad_image (contents_of file) (described inputs next file) fault is)
no_contents told rose inputs next file NoMemory whole within is = tt
no_contents told rose inputs next file (ReadFault name) whole within is = absurd is
no_contents told rose inputs next file (TooLarge name) whole within is = absurd is
no_contents told rose inputs next file (BadConfig fault) whole within is = absurd is
no_contents told rose inputs next file (BadCert fault) whole within is = absurd is
no_contents told rose inputs next file (BadTrace fault) whole within is = absurd is

-- ---- the description

-- what follows of a description's tables
abbrev pub ruled : (List ℕ → Description → Work) → List ℕ → Description → Work
ruled next text cfg = Ruled (IsBrokenRule cfg) (IsValid cfg) (next text cfg)

-- the first fault of a text is its outcome
first_fault : (told : Option Held) (rose : List ℕ → Type 0) (image : Contents) (next : Description → Work)
    (text : List ℕ) (fault : ConfigFault) → IsFirstFault image.symbols text fault →
    Comes told rose (form bad_config (description image.symbols text)
    (λ cfg. Ruled (IsBrokenRule cfg) (IsValid cfg) (next cfg))) (bad_config fault)
first_fault told rose image next text fault (inl is) =
    unformed told rose bad_config (description image.symbols text)
    (λ cfg. Ruled (IsBrokenRule cfg) (IsValid cfg) (next cfg)) fault is
first_fault told rose image next text fault (inr found) =
    after_form told rose bad_config (description image.symbols text)
    (λ cfg. Ruled (IsBrokenRule cfg) (IsValid cfg) (next cfg)) found.0 (bad_config fault) found.1
    (inl (fault, found.2, refl))

-- the text is no description
pub no_description : (told : Option Held) (rose : List ℕ → Type 0) (config : List ℕ) (image : Contents)
    (next : List ℕ → Description → Work) (text : List ℕ) (stop : Stop) → IsWhole told config text →
    length text ≤ CONFIG_LIMIT → IsNoDescription image text stop →
    IfSome (outcome_of stop) (Comes told rose (configured config image next))
no_description told rose config image next text (BadConfig fault) whole within is =
    after_read told rose config CONFIG_LIMIT
    (λ text. form bad_config (description image.symbols text) (ruled next text)) text whole within (bad_config fault)
    (first_fault told rose image (next text) text fault is)
no_description told rose config image next text NoMemory whole within is = tt
no_description told rose config image next text (ReadFault name) whole within is = absurd is
no_description told rose config image next text (TooLarge name) whole within is = absurd is
no_description told rose config image next text (BadImage fault) whole within is = absurd is
no_description told rose config image next text (BadCert fault) whole within is = absurd is
no_description told rose config image next text (BadTrace fault) whole within is = absurd is

-- what was loaded is what its files say
of_its_files : (told : Option Held) (inputs : Inputs) (l : Loaded) → (are : AreLoaded told inputs l) →
    of_files are.file l.image are.text l.config ≡ l
of_its_files told inputs l are = λ i.
    record { image = l.image; config = l.config; digests = (sym are.digests) i }

-- after image and description what follows of them is due
pub after_loaded : (told : Option Held) (rose : List ℕ → Type 0) (inputs : Inputs) (next : Loaded → Work) (l : Loaded) →
    AreLoaded told inputs l → (o : Outcome) → Comes told rose (next l) o → Comes told rose (loaded inputs next) o
after_loaded told rose inputs next l are o follows =
    let rest : List ℕ → Description → Work = λ text cfg. next (of_files are.file l.image text cfg) in
    let then = subst (λ (m : Loaded). Comes told rose (next m) o) (sym (of_its_files told inputs l are)) follows in
    after_contents told rose inputs next are.file l.image are.file_whole are.file_within are.is_image o
    (after_read told rose inputs.config CONFIG_LIMIT
    (λ text. form bad_config (description l.image.symbols text) (ruled rest text)) are.text are.text_whole
    are.text_within o
    (after_form told rose bad_config (description l.image.symbols are.text) (ruled rest are.text) l.config o
    are.is_description (inr (are.valid, then))))

-- what comes where nothing follows of them
pub loaded-cut : (told : Option Held) (rose : List ℕ → Type 0) (inputs : Inputs) (next : Loaded → Work) (o : Outcome) →
    Comes told rose (loaded inputs (λ l. Never)) o → Comes told rose (loaded inputs next) o
loaded-cut told rose inputs next o =
    let none : Loaded → Work = λ l. Never in
    Wants-map told rose inputs.image IMAGE_LIMIT
    (λ file. form bad_image (contents_of file) (described inputs none file))
    (λ file. form bad_image (contents_of file) (described inputs next file)) o
    (λ file. form-map told rose bad_image (contents_of file) (described inputs none file)
    (described inputs next file) o
    (λ image. Wants-map told rose inputs.config CONFIG_LIMIT
    (λ text. form bad_config (description image.symbols text) (ruled (λ text cfg. Never) text))
    (λ text. form bad_config (description image.symbols text)
    (ruled (λ text cfg. next (of_files file image text cfg)) text)) o
    (λ text. form-map told rose bad_config (description image.symbols text) (ruled (λ text cfg. Never) text)
    (ruled (λ text cfg. next (of_files file image text cfg)) text) o
    (λ cfg. Ruled-map told rose (IsBrokenRule cfg) (IsValid cfg) Never (next (of_files file image text cfg)) o
    (λ no. absurd no)))))

-- ---- an image and a description that are made

-- what follows of an image
abbrev pub stated_by : List ℕ → List ℕ → (Loaded → Work) → Contents → Work
stated_by file text next image = stated image text (λ cfg. next (of_files file image text cfg))

-- no file is read
pub none-made : (file text : List ℕ) (next : Loaded → Work) → ((l : Loaded) → WantsNone (next l)) →
    WantsNone (made file text next)
none-made file text next none = none-form bad_image (contents_of file) (stated_by file text next)
    (λ image. none-form bad_config (description image.symbols text)
    (ruled (λ text cfg. next (of_files file image text cfg)) text) (λ cfg. none (of_files file image text cfg)))

-- the bytes are no image
pub unmade-image : (file text : List ℕ) (stop : Stop) → IsNoImage file stop → IsUnmade file text stop
unmade-image file text (BadImage fault) is =
    unformed None (λ _. ⊥) bad_image (contents_of file) (stated_by file text (λ l. Never)) fault is
unmade-image file text NoMemory is = tt
unmade-image file text (ReadFault name) is = absurd is
unmade-image file text (TooLarge name) is = absurd is
unmade-image file text (BadConfig fault) is = absurd is
unmade-image file text (BadCert fault) is = absurd is
unmade-image file text (BadTrace fault) is = absurd is

-- they are, and the text is no description
pub unmade-config : (file text : List ℕ) (image : Contents) (stop : Stop) → contents_of file ≡ Ok image →
    IsNoDescription image text stop → IsUnmade file text stop
unmade-config file text image (BadConfig fault) is fails =
    after_form None (λ _. ⊥) bad_image (contents_of file) (stated_by file text (λ l. Never)) image (bad_config fault) is
    (first_fault None (λ _. ⊥) image (λ cfg. Never) text fault fails)
unmade-config file text image NoMemory is fails = tt
unmade-config file text image (ReadFault name) is fails = absurd fails
unmade-config file text image (TooLarge name) is fails = absurd fails
unmade-config file text image (BadImage fault) is fails = absurd fails
unmade-config file text image (BadCert fault) is fails = absurd fails
unmade-config file text image (BadTrace fault) is fails = absurd fails

-- what was made is what its bytes say
of_its_bytes : (file text : List ℕ) (l : Loaded) → (is : IsOfBytes file text l) →
    of_files file l.image text l.config ≡ l
of_its_bytes file text l is = λ i. record { image = l.image; config = l.config; digests = (sym is.digests) i }

-- after both what follows of them is due
pub after_made : (told : Option Held) (rose : List ℕ → Type 0) (file text : List ℕ) (next : Loaded → Work)
    (l : Loaded) → IsOfBytes file text l → (o : Outcome) → Comes told rose (next l) o →
    Comes told rose (made file text next) o
after_made told rose file text next l is o follows =
    let then = subst (λ (m : Loaded). Comes told rose (next m) o) (sym (of_its_bytes file text l is)) follows in
    after_form told rose bad_image (contents_of file) (stated_by file text next) l.image o is.is_image
    (after_form told rose bad_config (description l.image.symbols text)
    (ruled (λ text cfg. next (of_files file l.image text cfg)) text) l.config o is.is_description
    (inr (is.valid, then)))

-- what comes where nothing follows of them
pub made-cut : (told : Option Held) (rose : List ℕ → Type 0) (file text : List ℕ) (next : Loaded → Work) (o : Outcome) →
    Comes told rose (made file text (λ l. Never)) o → Comes told rose (made file text next) o
made-cut told rose file text next o =
    let none : Loaded → Work = λ l. Never in
    form-map told rose bad_image (contents_of file) (stated_by file text none) (stated_by file text next) o
    (λ image. form-map told rose bad_config (description image.symbols text) (ruled (λ text cfg. Never) text)
    (ruled (λ text cfg. next (of_files file image text cfg)) text) o
    (λ cfg. Ruled-map told rose (IsBrokenRule cfg) (IsValid cfg) Never (next (of_files file image text cfg)) o
    (λ no. absurd no)))

-- ---- the certificate

-- after the certificate what follows of it is due
pub after_certificate : (told : Option Held) (rose : List ℕ → Type 0) (cert : List ℕ) (next : Certificate → Work)
    (c : Certificate) → IsCertificateOf told cert c → (o : Outcome) → Comes told rose (next c) o →
    Comes told rose (certified cert next) o
after_certificate told rose cert next c is o follows =
    after_read told rose cert CERT_LIMIT (λ file. form bad_cert (cert_at file) next) is.file is.whole is.within o
    (after_form told rose bad_cert (cert_at is.file) next c o is.is_certificate follows)

-- what comes where nothing follows of it
pub certified-cut : (told : Option Held) (rose : List ℕ → Type 0) (cert : List ℕ) (next : Certificate → Work)
    (o : Outcome) → Comes told rose (certified cert (λ c. Never)) o → Comes told rose (certified cert next) o
certified-cut told rose cert next o =
    let none : Certificate → Work = λ c. Never in
    Wants-map told rose cert CERT_LIMIT (λ file. form bad_cert (cert_at file) none)
    (λ file. form bad_cert (cert_at file) next) o
    (λ file. form-map told rose bad_cert (cert_at file) none next o (λ c no. absurd no))

-- ---- the trace

-- what follows of a trace's lines
abbrev pub started : Description → (List Line → Work) → Gathered → Work
started cfg next read = Ruled (IsNotStarted cfg read) (MayStart cfg (first_set cfg read.lines)) (next read.lines)

-- the first fault of a text is its outcome
trace_fault : (told : Option Held) (rose : List ℕ → Type 0) (cfg : Description) (next : List Line → Work)
    (text : List ℕ) (fault : TraceFault) → fault ≢ NoTraceMemory → Reads cfg text (Err fault) →
    Comes told rose (form bad_trace (scripted text) (started cfg next)) (bad_trace fault)
trace_fault told rose cfg next text (BadLine n) some is =
    unformed told rose bad_trace (scripted text) (started cfg next) (BadLine n) is
trace_fault told rose cfg next text (BadNumber n) some is =
    unformed told rose bad_trace (scripted text) (started cfg next) (BadNumber n) is
trace_fault told rose cfg next text (NotAdmitted n) some is =
    after_form told rose bad_trace (scripted text) (started cfg next) is.read (bad_trace (NotAdmitted n)) is.scripted
    (inl (is.refused, ap (λ n. bad_trace (NotAdmitted n)) is.at))
trace_fault told rose cfg next text NoTraceMemory some is = absurd (some refl)

-- the text is no trace
pub no_trace : (told : Option Held) (rose : List ℕ → Type 0) (cfg : Description) (trace : List ℕ)
    (next : List Line → Work) (text : List ℕ) (stop : Stop) → IsWhole told trace text → length text ≤ TRACE_LIMIT →
    IsNoTrace cfg text stop → IfSome (outcome_of stop) (Comes told rose (scripted_by cfg trace next))
no_trace told rose cfg trace next text (BadTrace fault) whole within is =
    after_read told rose trace TRACE_LIMIT (λ text. form bad_trace (scripted text) (started cfg next)) text whole within
    (bad_trace fault) (trace_fault told rose cfg next text fault is.0 is.1)
no_trace told rose cfg trace next text NoMemory whole within is = tt
no_trace told rose cfg trace next text (ReadFault name) whole within is = absurd is
no_trace told rose cfg trace next text (TooLarge name) whole within is = absurd is
no_trace told rose cfg trace next text (BadImage fault) whole within is = absurd is
no_trace told rose cfg trace next text (BadConfig fault) whole within is = absurd is
no_trace told rose cfg trace next text (BadCert fault) whole within is = absurd is

-- after the lines what follows of them is due
pub after_scripted : (told : Option Held) (rose : List ℕ → Type 0) (cfg : Description) (trace : List ℕ)
    (next : List Line → Work) (lines : List Line) → IsScripted told cfg trace lines → (o : Outcome) →
    Comes told rose (next lines) o → Comes told rose (scripted_by cfg trace next) o
after_scripted told rose cfg trace next lines is o follows =
    let read = is.reads in
    after_read told rose trace TRACE_LIMIT (λ text. form bad_trace (scripted text) (started cfg next)) is.text is.whole
    is.within o
    (after_form told rose bad_trace (scripted is.text) (started cfg next) read.read o read.scripted
    (inr (
      subst (λ (lines : List Line). MayStart cfg (first_set cfg lines)) (sym read.says) read.admitted,
      subst (λ (lines : List Line). Comes told rose (next lines) o) (sym read.says) follows,
    )))

-- what comes where nothing follows of them
pub scripted-cut : (told : Option Held) (rose : List ℕ → Type 0) (cfg : Description) (trace : List ℕ)
    (next : List Line → Work) (o : Outcome) → Comes told rose (scripted_by cfg trace (λ lines. Never)) o →
    Comes told rose (scripted_by cfg trace next) o
scripted-cut told rose cfg trace next o =
    Wants-map told rose trace TRACE_LIMIT (λ text. form bad_trace (scripted text) (started cfg (λ lines. Never)))
    (λ text. form bad_trace (scripted text) (started cfg next)) o
    (λ text. form-map told rose bad_trace (scripted text) (started cfg (λ lines. Never)) (started cfg next) o
    (λ read. Ruled-map told rose (IsNotStarted cfg read) (MayStart cfg (first_set cfg read.lines)) Never
    (next read.lines) o (λ no. absurd no)))
