-- What the program answers and writes: one definition for all that it does, this project's own.
use Rattle.std.specs.Prelude.{◌≡◌, ◌≢◌, ℕ, ◌≤◌, Bool, true, false, List, length, Option, Some, None, Ok, ◌+◌, ◌⊎◌, ⊤}
use Rattle.sha2.specs.Sha256.{sha256}
use Rattle.kc_io.specs.Files.{Held, IsWhole}
use Rattle.kc_io.specs.Sink.{SinkState, Writes, Refuses}
use Rattle.kc_image.specs.declared.fault.ImageFault.{ImageFault}
use Rattle.kc_image.specs.Image.{Contents}
use Rattle.kc_image.specs.ImageFile.{contents_of}
use Rattle.kc_regions.specs.Description.{Description}
use Rattle.kc_regions.specs.Valid.{IsValid}
use Rattle.kc_config.specs.declared.fault.ConfigFault.{ConfigFault}
use Rattle.kc_config.specs.Reading.{description, IsRuleFault}
use Rattle.kc_machine.specs.Start.{MayStart}
use Rattle.kc_trace.specs.declared.fault.TraceFault.{TraceFault}
use Rattle.kc_trace.specs.declared.fault.TraceFault.TheVariants.{NotAdmitted}
use Rattle.kc_trace.specs.declared.gathered.Gathered.{Gathered}
use Rattle.kc_trace.specs.declared.line.Line.{Line}
use Rattle.kc_trace.specs.Script.{scripted}
use Rattle.kc_replay.specs.Turns.{first_set}
use Rattle.kc_replay.specs.Told.{IsReplayed}
use Rattle.kc_cert.specs.Certified.{IsCertified}
use Rattle.kc_cert.specs.FirstRefusal.{IsFirstRefusal}
use Rattle.kc_cert.specs.declared.certificate.Certificate.{Certificate}
use Rattle.kc_cert.specs.declared.certificate.Digests.{Digests}
use Rattle.kc_cert.specs.declared.refusal.Refusal.{Refusal}
use Rattle.kc_certfields.specs.declared.fault.CertFault.{CertFault}
use Rattle.kc_certform.specs.CertBytes.{CertBytes2}
use Rattle.kc_certfmt.specs.Reading.{cert_at}
use Rattle.kc_explain.specs.Lines.{refused_line}
use Rattle.kc_explain.specs.Explanation.{explanation}
use Rattle.kc_gen.specs.Generated.{generated_image, generated_config}
use Rattle.kc_top.specs.declared.load.Loaded.{Loaded}
use Rattle.kc_top.specs.declared.status.Status.{Status}
use Rattle.kc_top.specs.declared.status.Status.TheVariants.{Done, Refused, Usage, BadImage, BadConfig, BadCert}
use Rattle.kc_top.specs.declared.status.Status.TheVariants.{BadTrace, WriteFault, NoMemory}
use Rattle.kc_top.specs.declared.outcome.Outcome.{Outcome}
use Rattle.kc_top.specs.Words.{Inputs, Request, Check, Find, Explain, ExplainCert, Replay, Gen, Upgrade, request_of}
use Rattle.kc_top.specs.Lines.{usage_line, bad_image_line, bad_config_line, bad_cert_line, bad_trace_line}
use Rattle.kc_top.specs.Lines.{accepted_line, limits_line, summary_line}
use Rattle.kc_top.specs.Work.{Work, Over, Wants, Ruled, Only, form, Comes, AreHeld}

-- the most bytes of each kind of file
abbrev pub IMAGE_LIMIT : ℕ
IMAGE_LIMIT = 67108864

abbrev pub CONFIG_LIMIT : ℕ
CONFIG_LIMIT = 1048576

abbrev pub CERT_LIMIT : ℕ
CERT_LIMIT = 201326592

abbrev pub TRACE_LIMIT : ℕ
TRACE_LIMIT = 16777216

abbrev pub usage : Outcome
usage = record { status = Usage; text = usage_line }

abbrev pub bad_image : ImageFault → Outcome
bad_image fault = record { status = BadImage; text = bad_image_line fault }

abbrev pub bad_config : ConfigFault → Outcome
bad_config fault = record { status = BadConfig; text = bad_config_line fault }

abbrev pub bad_cert : CertFault → Outcome
bad_cert fault = record { status = BadCert; text = bad_cert_line fault }

abbrev pub bad_trace : TraceFault → Outcome
bad_trace fault = record { status = BadTrace; text = bad_trace_line fault }

-- ---- images, descriptions and traces

-- a rule between the parts of the description is broken
abbrev pub IsBrokenRule : Description → Outcome → Type 0
IsBrokenRule cfg o = (fault : ConfigFault) × IsRuleFault cfg fault × (o ≡ bad_config fault)

-- a text's description, whose addresses may name the image's symbols: what its tables say, then the rules between its
-- parts
abbrev pub stated : Contents → List ℕ → (Description → Work) → Work
stated image text next =
    form bad_config (description image.symbols text) (λ cfg. Ruled (IsBrokenRule cfg) (IsValid cfg) (next cfg))

-- the description that is read
abbrev pub configured : List ℕ → Contents → (List ℕ → Description → Work) → Work
configured config image next = Wants config CONFIG_LIMIT (λ text. stated image text (next text))

-- the SHA-256 of the two files' bytes (FIPS 180-4)
abbrev pub digests_of : List ℕ → List ℕ → Digests
digests_of image config = record { image = sha256 image; config = sha256 config }

abbrev pub of_files : List ℕ → Contents → List ℕ → Description → Loaded
of_files file image text cfg = record { image = image; config = cfg; digests = digests_of file text }

-- the image, and then the description
abbrev pub loaded : Inputs → (Loaded → Work) → Work
loaded inputs next =
    Wants inputs.image IMAGE_LIMIT (λ file. form bad_image (contents_of file)
    (λ image. configured inputs.config image (λ text cfg. next (of_files file image text cfg))))

-- the same of bytes that are there, where none is read
abbrev pub made : List ℕ → List ℕ → (Loaded → Work) → Work
made file text next = form bad_image (contents_of file)
    (λ image. stated image text (λ cfg. next (of_files file image text cfg)))

-- the certificate, in either version
abbrev pub certified : List ℕ → (Certificate → Work) → Work
certified cert next = Wants cert CERT_LIMIT (λ file. form bad_cert (cert_at file) next)

-- the description's machine may not start as the first lines say
abbrev pub IsNotStarted : Description → Gathered → Outcome → Type 0
IsNotStarted cfg read o = (¬ MayStart cfg (first_set cfg read.lines)) × (o ≡ bad_trace (NotAdmitted read.start))

-- the trace: its lines, then whether the machine may start as the first ones say
abbrev pub scripted_by : Description → List ℕ → (List Line → Work) → Work
scripted_by cfg trace next =
    Wants trace TRACE_LIMIT (λ text. form bad_trace (scripted text)
    (λ read. Ruled (IsNotStarted cfg read) (MayStart cfg (first_set cfg read.lines)) (next read.lines)))

-- the status of a run: whether no turn broke
abbrev pub run_status : Bool → Status
run_status true = Done
run_status false = Refused

-- this is told of the run of these lines
abbrev pub IsRun : Contents → Description → List Line → Outcome → Type 0
IsRun image cfg lines o = (clean : Bool) × IsReplayed cfg image lines o.text clean × (o.status ≡ run_status clean)

-- ---- certificates

-- C1 to C17 hold, each a fact of its own
abbrev pub IsCertifiedFor : Loaded → Certificate → Type 0
IsCertifiedFor l cert = IsCertified l.image l.config l.digests cert

abbrev pub IsUncertifiedFor : Loaded → Certificate → Type 0
IsUncertifiedFor l cert = ¬ IsCertifiedFor l cert

-- the first condition that fails, and where
abbrev pub IsRefusedFor : Loaded → Certificate → Refusal → Type 0
IsRefusedFor l cert r = IsFirstRefusal l.image l.config l.digests cert r

-- the certificate's outcome where it is certified for what was loaded, and else that of its first refusal
abbrev pub IsJudgement : (Certificate → Outcome) → (Refusal → Outcome) → Loaded → Certificate → Outcome → Type 0
IsJudgement accept refuse l cert o =
    (IsCertifiedFor l cert × (o ≡ accept cert)) ⊎ ((r : Refusal) × IsRefusedFor l cert r × (o ≡ refuse r))

abbrev pub accepted : ℕ → ℕ → Outcome
accepted contexts nodes = record { status = Done; text = accepted_line contexts nodes }

abbrev pub counted : Certificate → Outcome
counted cert = accepted (length cert.contexts) (length cert.nodes)

abbrev pub refused : Description → Refusal → Outcome
refused cfg r = record { status = Refused; text = refused_line cfg r }

-- the refusal and why it comes
abbrev pub explained : Contents → Description → Certificate → Refusal → Outcome
explained image cfg cert r = record { status = Refused; text = explanation image cfg cert r }

-- what `check` says, and what `explain` says
abbrev pub IsVerdict : Loaded → Certificate → Outcome → Type 0
IsVerdict l cert = IsJudgement counted (refused l.config) l cert

abbrev pub IsExplained : Loaded → Certificate → Outcome → Type 0
IsExplained l cert = IsJudgement counted (explained l.image l.config cert) l cert

-- the certificate in version 2
abbrev pub printed : Certificate → Outcome
printed cert = record { status = Done; text = CertBytes2 cert }

-- ---- the search for a certificate

-- the table would pass the limits on contexts and nodes
abbrev pub limits : Outcome
limits = record { status = Refused; text = limits_line }

-- The table that the search ends with is judged, or none was found within the limits. Which table that is isn't said
-- yet: it is some certificate with the digests of what was loaded, and `limits` has no cause here.
abbrev pub IsSearched : Loaded → (Certificate → Outcome → Type 0) → Outcome → Type 0
IsSearched l judged o = ((cert : Certificate) × (cert.digests ≡ l.digests) × judged cert o) ⊎ (o ≡ limits)

abbrev pub IsFound : Loaded → Outcome → Type 0
IsFound l = IsSearched l (IsJudgement printed (refused l.config) l)

-- of an input that was made: its seed and size, what was found for it, and the SHA-256 of the certificate's bytes
abbrev pub summary : ℕ → ℕ → ℕ → ℕ → List ℕ → Outcome
summary seed size contexts nodes digest =
    record { status = Done; text = summary_line seed size contexts nodes digest }

abbrev pub summed : ℕ → ℕ → Certificate → Outcome
summed seed size cert = summary seed size (length cert.contexts) (length cert.nodes) (sha256 (CertBytes2 cert))

abbrev pub IsSummed : ℕ → ℕ → Loaded → Outcome → Type 0
IsSummed seed size l = IsSearched l (IsJudgement (summed seed size) (refused l.config) l)

-- ---- each request

-- the files that a request reads, in the order of work, and what follows from them
abbrev pub work_of : Option Request → Work
work_of None = Only usage
work_of (Some (Check inputs cert)) = loaded inputs (λ l. certified cert (λ c. Over (IsVerdict l c)))
work_of (Some (Find inputs)) = loaded inputs (λ l. Over (IsFound l))
work_of (Some (Explain inputs)) = loaded inputs (λ l. Over (IsSearched l (IsExplained l)))
work_of (Some (ExplainCert inputs cert)) = loaded inputs (λ l. certified cert (λ c. Over (IsExplained l c)))
work_of (Some (Replay inputs trace)) =
    loaded inputs (λ l. scripted_by l.config trace (λ lines. Over (IsRun l.image l.config lines)))
work_of (Some (Gen seed size)) = made (generated_image seed size) generated_config (λ l. Over (IsSummed seed size l))
work_of (Some (Upgrade cert)) = certified cert (λ c. Only (printed c))

-- the outcome of these words
abbrev pub IsDue : Option Held → (List ℕ → Type 0) → List (List ℕ) → Outcome → Type 0
IsDue told rose words = Comes told rose (work_of (request_of words))

-- how the status and the sink tell the outcome: the outcome's status with all of its text, none of which was refused,
-- or that the sink refused a part of the text
pub record Tells (o : Outcome) (status : Status) (before after : SinkState) : Type 0 where
  pub all : status ≢ WriteFault → (status ≡ o.status) × Writes before after o.text
  pub part : status ≡ WriteFault → Refuses before after o.text

-- how the status of `print_checked` tells what it wrote
abbrev pub Prints : Loaded → Certificate → SinkState → SinkState → Status → Type 0
Prints l cert before after Done = IsCertifiedFor l cert × Writes before after (CertBytes2 cert)
Prints l cert before after Refused =
    (r : Refusal) × IsRefusedFor l cert r × Writes before after (refused_line l.config r)
Prints l cert before after WriteFault =
    (IsCertifiedFor l cert × Refuses before after (CertBytes2 cert))
    ⊎ ((r : Refusal) × IsRefusedFor l cert r × Refuses before after (refused_line l.config r))
Prints l cert before after NoMemory = IsCertifiedFor l cert × (after ≡ before)
Prints l cert before after _ = ⊥

-- ---- what an accepted certificate says

-- the image, the description and their digests are what the named files say
pub record AreLoaded (told : Option Held) (inputs : Inputs) (l : Loaded) : Type 0 where
  pub file : List ℕ
  pub file_whole : IsWhole told inputs.image file
  pub file_within : length file ≤ IMAGE_LIMIT
  pub is_image : contents_of file ≡ Ok l.image
  pub text : List ℕ
  pub text_whole : IsWhole told inputs.config text
  pub text_within : length text ≤ CONFIG_LIMIT
  pub is_description : description l.image.symbols text ≡ Ok l.config
  pub valid : IsValid l.config
  pub digests : l.digests ≡ digests_of file text

-- the certificate is what the named file spells
pub record IsCertificateOf (told : Option Held) (name : List ℕ) (cert : Certificate) : Type 0 where
  pub file : List ℕ
  pub whole : IsWhole told name file
  pub within : length file ≤ CERT_LIMIT
  pub is_certificate : cert_at file ≡ Ok cert

-- the named files hold an image, a description and a certificate in their forms and limits, of which this holds
pub record HoldsInputs (held : Held) (inputs : Inputs) (cert : List ℕ) (P : Loaded → Certificate → Type 0) : Type 0 where
  pub loaded : Loaded
  pub certificate : Certificate
  pub are_loaded : AreLoaded (Some held) inputs loaded
  pub is_certificate : IsCertificateOf (Some held) cert certificate
  pub holds : P loaded certificate

-- the same of the files of a check or of an explanation, where the files report what they hold
abbrev pub OfCheck : Option Held → Option Request → (Loaded → Certificate → Type 0) → Type 0
OfCheck None request P = ⊤
OfCheck (Some held) None P = ⊤
OfCheck (Some held) (Some (Check inputs cert)) P = HoldsInputs held inputs cert P
OfCheck (Some held) (Some (Find inputs)) P = ⊤
OfCheck (Some held) (Some (Explain inputs)) P = ⊤
OfCheck (Some held) (Some (ExplainCert inputs cert)) P = HoldsInputs held inputs cert P
OfCheck (Some held) (Some (Replay inputs trace)) P = ⊤
OfCheck (Some held) (Some (Gen seed size)) P = ⊤
OfCheck (Some held) (Some (Upgrade cert)) P = ⊤

-- the named files hold an image and a description in their forms and limits, and what was written is version 2 of a
-- certificate that is certified for them
pub record HasFound (held : Held) (inputs : Inputs) (before after : SinkState) : Type 0 where
  pub loaded : Loaded
  pub certificate : Certificate
  pub are_loaded : AreLoaded (Some held) inputs loaded
  pub certified : IsCertifiedFor loaded certificate
  pub written : Writes before after (CertBytes2 certificate)

-- the same of the files of a search, where the files report what they hold
abbrev pub OfFind : Option Held → Option Request → SinkState → SinkState → Type 0
OfFind None request before after = ⊤
OfFind (Some held) None before after = ⊤
OfFind (Some held) (Some (Check inputs cert)) before after = ⊤
OfFind (Some held) (Some (Find inputs)) before after = HasFound held inputs before after
OfFind (Some held) (Some (Explain inputs)) before after = ⊤
OfFind (Some held) (Some (ExplainCert inputs cert)) before after = ⊤
OfFind (Some held) (Some (Replay inputs trace)) before after = ⊤
OfFind (Some held) (Some (Gen seed size)) before after = ⊤
OfFind (Some held) (Some (Upgrade cert)) before after = ⊤

-- the files report what they hold, and hold each file that the request wants
abbrev pub HoldsFiles : Option Held → Option Request → Type 0
HoldsFiles None request = ⊥
HoldsFiles (Some held) request = AreHeld held (work_of request)

-- one of the outcomes is known to come: of a replay this isn't shown yet, since its rules and turns are relations
abbrev pub IsDecided : Option Request → Type 0
IsDecided None = ⊤
IsDecided (Some (Check inputs cert)) = ⊤
IsDecided (Some (Find inputs)) = ⊤
IsDecided (Some (Explain inputs)) = ⊤
IsDecided (Some (ExplainCert inputs cert)) = ⊤
IsDecided (Some (Replay inputs trace)) = ⊥
IsDecided (Some (Gen seed size)) = ⊤
IsDecided (Some (Upgrade cert)) = ⊤

-- no two outcomes come: of a search this isn't shown yet, since it isn't said which table it ends with
abbrev pub IsTied : Option Request → Type 0
IsTied None = ⊤
IsTied (Some (Check inputs cert)) = ⊤
IsTied (Some (Find inputs)) = ⊥
IsTied (Some (Explain inputs)) = ⊥
IsTied (Some (ExplainCert inputs cert)) = ⊤
IsTied (Some (Replay inputs trace)) = ⊤
IsTied (Some (Gen seed size)) = ⊥
IsTied (Some (Upgrade cert)) = ⊤

-- a text has room after the bytes that are written already
abbrev pub HasRoomFor : Option (List ℕ) → Option ℕ → List ℕ → Type 0
HasRoomFor (Some written) (Some room) text = length written + length text ≤ room
HasRoomFor None room text = ⊥
HasRoomFor (Some written) None text = ⊤

-- what is due where no read fails has room in the sink
abbrev pub HasRoom : Option Held → List (List ℕ) → SinkState → Type 0
HasRoom told words sink = (o : Outcome) → IsDue told (λ _. ⊥) words o → HasRoomFor sink.written sink.plan.room o.text
