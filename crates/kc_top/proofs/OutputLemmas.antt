-- What comes of the program's own work, by cases on the request and its forms: each end has at most one outcome, whose
-- status is its own, and one where the request is decided; an accepted outcome of a check says that the certificate is
-- certified, and a refused one that it isn't. How an outcome is told is read off what was written.
use Rattle.std.proofs.Common.{◌≡◌, ◌≢◌, ℕ, ◌≤◌, Bool, true, false, List, length, refl, ap, sym, ◌∙◌, arith, inl, inr, subst}
use Rattle.std.proofs.Common.{◌+◌, ◌<◌, take, length-append, length-take}
use Rattle.std.specs.Prelude.{Option, Some, None, IfSome, IsSomeAnd, Result, Ok, Err, IsSome}
use Rattle.std.specs.Io.KnownBytes.{Appends}
use Rattle.kc_io.specs.Count.{Rose}
use Rattle.kc_io.specs.Memory.{shared_count}
use Rattle.kc_io.specs.Files.{Held}
use Rattle.kc_io.specs.Sink.{SinkState, Writes, Refuses}
use Rattle.kc_image.specs.declared.fault.ImageFault.{ImageFault}
use Rattle.kc_image.specs.Image.{Contents}
use Rattle.kc_image.specs.ImageFile.{contents_of}
use Rattle.kc_regions.specs.Description.{Description}
use Rattle.kc_regions.specs.Valid.{IsValid}
use Rattle.kc_config.specs.declared.fault.ConfigFault.{ConfigFault}
use Rattle.kc_config.specs.Reading.{description}
use Rattle.kc_trace.specs.declared.fault.TraceFault.{TraceFault}
use Rattle.kc_trace.specs.declared.fault.TraceFault.TheVariants.{NotAdmitted}
use Rattle.kc_trace.specs.declared.line.Line.{Line}
use Rattle.kc_trace.specs.Script.{scripted}
use Rattle.kc_replay.specs.Told.{IsReplayed}
use Rattle.kc_cert.specs.declared.certificate.Certificate.{Certificate}
use Rattle.kc_cert.specs.declared.refusal.Refusal.{Refusal}
use Rattle.kc_certfields.specs.declared.fault.CertFault.{CertFault}
use Rattle.kc_certform.specs.CertBytes.{CertBytes2}
use Rattle.kc_certfmt.specs.Reading.{cert_at}
use Rattle.kc_gen.specs.Generated.{generated_image, generated_config}
use Rattle.kc_top.specs.declared.load.Loaded.{Loaded}
use Rattle.kc_top.specs.declared.status.Status.{Status}
use Rattle.kc_top.specs.declared.status.Status.TheVariants.{Done, Refused, BadImage, BadConfig, BadCert, ReadFault}
use Rattle.kc_top.specs.declared.status.Status.TheVariants.{WriteFault, NoMemory, TooLarge}
use Rattle.kc_top.specs.declared.outcome.Outcome.{Outcome}
use Rattle.kc_top.specs.Words.{Inputs, Request, Check, Find, Explain, ExplainCert, Replay, Gen, Upgrade}
use Rattle.kc_top.specs.Work.{Work, Over, Wants, Ruled, Only, form, IsRead, Comes}
use Rattle.kc_top.specs.Output.{CERT_LIMIT, CONFIG_LIMIT, IMAGE_LIMIT, usage, bad_image, bad_config, bad_cert}
use Rattle.kc_top.specs.Output.{bad_trace, IsBrokenRule, of_files, stated, configured, loaded, made, certified}
use Rattle.kc_top.specs.Output.{scripted_by, run_status, IsRun, counted, refused, explained, IsJudgement, IsVerdict}
use Rattle.kc_top.specs.Output.{IsExplained, printed, limits, IsSearched, IsFound, summed, IsSummed, work_of}
use Rattle.kc_top.specs.Output.{AreLoaded, IsCertificateOf, IsCertifiedFor, IsUncertifiedFor, OfCheck, OfFind}
use Rattle.kc_top.specs.Output.{IsDecided, IsTied, Tells}
use Rattle.kc_decided.proofs.FaultLemmas.{rule_fault-once, rule_fault-none, rule_fault-or}
use Rattle.kc_top.proofs.VerdictLemmas.{judgement-once, judgement-some, judgement-done, judgement-refused}
use Rattle.kc_top.proofs.WorkLemmas.{IsEach, each-form, Comes-each, IsSingle, single-only, single-form, IsEnding}
use Rattle.kc_top.proofs.WorkLemmas.{ending-only, ending-form, ending-form-of}

-- one text is told of a run
abbrev pub IsToldOnce : Type 0
IsToldOnce = (cfg : Description) (image : Contents) (lines : List Line) (text other : List ℕ) (clean same : Bool) →
    IsReplayed cfg image lines text clean → IsReplayed cfg image lines other same → (text ≡ other) × (clean ≡ same)

-- two outcomes of a run are the same
single-run : IsToldOnce → (image : Contents) (cfg : Description) (lines : List Line) (o p : Outcome) →
    IsRun image cfg lines o → IsRun image cfg lines p → o ≡ p
single-run once image cfg lines o p is is' =
    let same = once cfg image lines o.text p.text is.0 is'.0 is.1 is'.1 in
    let status : o.status ≡ p.status = is.2 ∙ ap run_status same.1 ∙ sym is'.2 in
    λ i. record { status = status i; text = same.0 i }

-- two outcomes of a broken rule are the same
single-rule : (cfg : Description) (o p : Outcome) → IsBrokenRule cfg o → IsBrokenRule cfg p → o ≡ p
single-rule cfg o p is is' = is.2 ∙ ap bad_config (rule_fault-once cfg is.0 is'.0 is.1 is'.1) ∙ sym is'.2

-- ---- what the modes' files lead to

abbrev described : Inputs → (Loaded → Work) → List ℕ → Contents → Work
described inputs next file image = configured inputs.config image (λ text cfg. next (of_files file image text cfg))

abbrev ruled : (Description → Work) → Description → Work
ruled next cfg = Ruled (IsBrokenRule cfg) (IsValid cfg) (next cfg)

abbrev pub checks : List ℕ → Loaded → Work
checks cert l = certified cert (λ c. Over (IsVerdict l c))

abbrev pub replays : List ℕ → Loaded → Work
replays trace l = scripted_by l.config trace (λ lines. Over (IsRun l.image l.config lines))

abbrev pub finds : Loaded → Work
finds l = Over (IsFound l)

abbrev pub explains : Loaded → Work
explains l = Over (IsSearched l (IsExplained l))

abbrev pub explains_cert : List ℕ → Loaded → Work
explains_cert cert l = certified cert (λ c. Over (IsExplained l c))

abbrev pub sums_up : ℕ → ℕ → Loaded → Work
sums_up seed size l = Over (IsSummed seed size l)

abbrev pub upgrades : Certificate → Work
upgrades c = Only (printed c)

-- ---- work that begins with an image and a description, or with a certificate

single-loaded : (inputs : Inputs) (next : Loaded → Work) → ((l : Loaded) → IsSingle (next l)) →
    IsSingle (loaded inputs next)
single-loaded inputs next single = λ file. single-form bad_image (contents_of file) _
    (λ image text. single-form bad_config (description image.symbols text) _
    (λ cfg. (
      single-rule cfg,
      λ o is valid. rule_fault-none cfg is.0 valid is.1,
      λ valid. single (of_files file image text cfg),
    )))

single-certified : (cert : List ℕ) (next : Certificate → Work) → ((c : Certificate) → IsSingle (next c)) →
    IsSingle (certified cert next)
single-certified cert next single = λ file. single-form bad_cert (cert_at file) next single

ending-stated : (image : Contents) (text : List ℕ) (next : Description → Work) →
    ((cfg : Description) → IsEnding (next cfg)) → IsEnding (stated image text next)
ending-stated image text next ending = ending-form-of bad_config (description image.symbols text) (ruled next)
    (λ cfg is. elim (rule_fault-or image.symbols text cfg is) [
      | inl fault ↦ inl (bad_config fault.0, (fault.0, fault.1, refl))
      | inr valid ↦ inr (valid, ending cfg)
    ])

ending-loaded : (inputs : Inputs) (next : Loaded → Work) → ((l : Loaded) → IsEnding (next l)) →
    IsEnding (loaded inputs next)
ending-loaded inputs next ending = λ file. ending-form bad_image (contents_of file) (described inputs next file)
    (λ image text. ending-stated image text (λ cfg. next (of_files file image text cfg))
    (λ cfg. ending (of_files file image text cfg)))

ending-made : (file text : List ℕ) (next : Loaded → Work) → ((l : Loaded) → IsEnding (next l)) →
    IsEnding (made file text next)
ending-made file text next ending = ending-form bad_image (contents_of file)
    (λ image. stated image text (λ cfg. next (of_files file image text cfg)))
    (λ image. ending-stated image text (λ cfg. next (of_files file image text cfg))
    (λ cfg. ending (of_files file image text cfg)))

ending-certified : (cert : List ℕ) (next : Certificate → Work) → ((c : Certificate) → IsEnding (next c)) →
    IsEnding (certified cert next)
ending-certified cert next ending = λ file. ending-form bad_cert (cert_at file) next ending

each-stated : (P : Outcome → Type 0) (image : Contents) (text : List ℕ) (next : Description → Work) →
    ((fault : ConfigFault) → P (bad_config fault)) → ((cfg : Description) → IsEach P (next cfg)) →
    IsEach P (stated image text next)
each-stated P image text next config_fault each =
    each-form P bad_config (description image.symbols text) (ruled next) config_fault
    (λ cfg. (λ o is. subst P (sym is.2) (config_fault is.0), each cfg))

each-loaded : (P : Outcome → Type 0) (inputs : Inputs) (next : Loaded → Work) →
    ((fault : ImageFault) → P (bad_image fault)) → ((fault : ConfigFault) → P (bad_config fault)) →
    ((l : Loaded) → IsEach P (next l)) → IsEach P (loaded inputs next)
each-loaded P inputs next image_fault config_fault each =
    λ file. each-form P bad_image (contents_of file) (described inputs next file) image_fault
    (λ image text. each-stated P image text (λ cfg. next (of_files file image text cfg)) config_fault
    (λ cfg. each (of_files file image text cfg)))

each-made : (P : Outcome → Type 0) (file text : List ℕ) (next : Loaded → Work) →
    ((fault : ImageFault) → P (bad_image fault)) → ((fault : ConfigFault) → P (bad_config fault)) →
    ((l : Loaded) → IsEach P (next l)) → IsEach P (made file text next)
each-made P file text next image_fault config_fault each = each-form P bad_image (contents_of file)
    (λ image. stated image text (λ cfg. next (of_files file image text cfg))) image_fault
    (λ image. each-stated P image text (λ cfg. next (of_files file image text cfg)) config_fault
    (λ cfg. each (of_files file image text cfg)))

each-certified : (P : Outcome → Type 0) (cert : List ℕ) (next : Certificate → Work) →
    ((fault : CertFault) → P (bad_cert fault)) → ((c : Certificate) → IsEach P (next c)) → IsEach P (certified cert next)
each-certified P cert next fault each = λ file. each-form P bad_cert (cert_at file) next fault each

-- ---- each request

-- no end of a tied request has two outcomes
pub single : IsToldOnce → (request : Option Request) → IsTied request → IsSingle (work_of request)
single once None tied = single-only usage
single once (Some (Check inputs cert)) tied = single-loaded inputs (checks cert)
    (λ l. single-certified cert (λ c. Over (IsVerdict l c)) (λ c. judgement-once counted (refused l.config) l c))
single once (Some (Find inputs)) tied = absurd tied
single once (Some (Explain inputs)) tied = absurd tied
single once (Some (ExplainCert inputs cert)) tied = single-loaded inputs (explains_cert cert)
    (λ l. single-certified cert (λ c. Over (IsExplained l c))
    (λ c. judgement-once counted (explained l.image l.config c) l c))
single once (Some (Replay inputs trace)) tied = single-loaded inputs (replays trace)
    (λ l script. single-form bad_trace (scripted script) _
    (λ read. (
      λ o p is is'. is.1 ∙ sym is'.1,
      λ o is starts. is.0 starts,
      λ starts. single-run once l.image l.config read.lines,
    )))
single once (Some (Gen seed size)) tied = absurd tied
single once (Some (Upgrade cert)) tied = single-certified cert upgrades (λ c. single-only (printed c))

-- each end of a decided request has an outcome; where no certificate is found it is `limits`
pub ending : (request : Option Request) → IsDecided request → IsEnding (work_of request)
ending None decided = ending-only usage
ending (Some (Check inputs cert)) decided = ending-loaded inputs (checks cert)
    (λ l. ending-certified cert (λ c. Over (IsVerdict l c)) (λ c. judgement-some counted (refused l.config) l c))
ending (Some (Find inputs)) decided = ending-loaded inputs finds (λ l. (limits, inr refl))
ending (Some (Explain inputs)) decided = ending-loaded inputs explains (λ l. (limits, inr refl))
ending (Some (ExplainCert inputs cert)) decided = ending-loaded inputs (explains_cert cert)
    (λ l. ending-certified cert (λ c. Over (IsExplained l c))
    (λ c. judgement-some counted (explained l.image l.config c) l c))
ending (Some (Replay inputs trace)) decided = absurd decided
ending (Some (Gen seed size)) decided =
    ending-made (generated_image seed size) generated_config (sums_up seed size) (λ l. (limits, inr refl))
ending (Some (Upgrade cert)) decided = ending-certified cert upgrades (λ c. ending-only (printed c))

-- a status that an end of the work may have
pub record IsOwn (status : Status) : Type 0 where
  pub written : status ≢ WriteFault
  pub remembered : status ≢ NoMemory
  pub read : status ≢ ReadFault

abbrev pub IsOwnEnd : Outcome → Type 0
IsOwnEnd o = IsOwn o.status

own-done : (text : List ℕ) → IsOwnEnd (record { status = Done; text = text })
own-done text = record { written = λ no. cc; remembered = λ no. cc; read = λ no. cc }

own-refused : (text : List ℕ) → IsOwnEnd (record { status = Refused; text = text })
own-refused text = record { written = λ no. cc; remembered = λ no. cc; read = λ no. cc }

own-judgement : (accept : Certificate → Outcome) (refuse : Refusal → Outcome) (l : Loaded) (cert : Certificate)
    (o : Outcome) → ((c : Certificate) → IsOwnEnd (accept c)) → ((r : Refusal) → IsOwnEnd (refuse r)) →
    IsJudgement accept refuse l cert o → IsOwnEnd o
own-judgement accept refuse l cert o accepts refuses (inl a) = subst IsOwnEnd (sym a.1) (accepts cert)
own-judgement accept refuse l cert o accepts refuses (inr a) = subst IsOwnEnd (sym a.2) (refuses a.0)

own-searched : (judged : Certificate → Outcome → Type 0) (l : Loaded) (o : Outcome) →
    ((c : Certificate) (p : Outcome) → judged c p → IsOwnEnd p) → IsSearched l judged o → IsOwnEnd o
own-searched judged l o each (inl found) = each found.0 o found.2
own-searched judged l o each (inr none) = subst IsOwnEnd (sym none) (own-refused limits.text)

own-verdict : (l : Loaded) (cert : Certificate) (o : Outcome) → IsVerdict l cert o → IsOwnEnd o
own-verdict l cert o = own-judgement counted (refused l.config) l cert o (λ c. own-done (counted c).text)
    (λ r. own-refused (refused l.config r).text)

own-explained : (l : Loaded) (cert : Certificate) (o : Outcome) → IsExplained l cert o → IsOwnEnd o
own-explained l cert o = own-judgement counted (explained l.image l.config cert) l cert o
    (λ c. own-done (counted c).text) (λ r. own-refused (explained l.image l.config cert r).text)

own-found : (l : Loaded) (o : Outcome) → IsFound l o → IsOwnEnd o
own-found l o = own-searched (IsJudgement printed (refused l.config) l) l o
    (λ c p. own-judgement printed (refused l.config) l c p (λ c. own-done (printed c).text)
    (λ r. own-refused (refused l.config r).text))

own-summed : (seed size : ℕ) (l : Loaded) (o : Outcome) → IsSummed seed size l o → IsOwnEnd o
own-summed seed size l o = own-searched (IsJudgement (summed seed size) (refused l.config) l) l o
    (λ c p. own-judgement (summed seed size) (refused l.config) l c p (λ c. own-done (summed seed size c).text)
    (λ r. own-refused (refused l.config r).text))

pub own-run : (clean : Bool) → IsOwn (run_status clean)
own-run true = record { written = λ no. cc; remembered = λ no. cc; read = λ no. cc }
own-run false = record { written = λ no. cc; remembered = λ no. cc; read = λ no. cc }

own-image : (fault : ImageFault) → IsOwnEnd (bad_image fault)
own-image fault = record { written = λ no. cc; remembered = λ no. cc; read = λ no. cc }

own-config : (fault : ConfigFault) → IsOwnEnd (bad_config fault)
own-config fault = record { written = λ no. cc; remembered = λ no. cc; read = λ no. cc }

own-cert : (fault : CertFault) → IsOwnEnd (bad_cert fault)
own-cert fault = record { written = λ no. cc; remembered = λ no. cc; read = λ no. cc }

own-trace : (fault : TraceFault) → IsOwnEnd (bad_trace fault)
own-trace fault = record { written = λ no. cc; remembered = λ no. cc; read = λ no. cc }

-- no end is a failed write, want of memory or a failed read
own : (request : Option Request) → IsEach IsOwnEnd (work_of request)
own None = λ o is. subst IsOwnEnd (sym is)
    (record { written = λ no. cc; remembered = λ no. cc; read = λ no. cc })
own (Some (Check inputs cert)) = each-loaded IsOwnEnd inputs (checks cert) own-image own-config
    (λ l. each-certified IsOwnEnd cert (λ c. Over (IsVerdict l c)) own-cert (λ c. own-verdict l c))
own (Some (Find inputs)) = each-loaded IsOwnEnd inputs finds own-image own-config own-found
own (Some (Explain inputs)) = each-loaded IsOwnEnd inputs explains own-image own-config
    (λ l o. own-searched (IsExplained l) l o (own-explained l))
own (Some (ExplainCert inputs cert)) = each-loaded IsOwnEnd inputs (explains_cert cert) own-image own-config
    (λ l. each-certified IsOwnEnd cert (λ c. Over (IsExplained l c)) own-cert (λ c. own-explained l c))
own (Some (Replay inputs trace)) = each-loaded IsOwnEnd inputs (replays trace) own-image own-config
    (λ l script. each-form IsOwnEnd bad_trace (scripted script) _ own-trace
    (λ read. (
      λ o is. subst IsOwnEnd (sym is.1) (own-trace (NotAdmitted read.start)),
      λ o is. subst IsOwn (sym is.2) (own-run is.0),
    )))
own (Some (Gen seed size)) = each-made IsOwnEnd (generated_image seed size) generated_config (sums_up seed size)
    own-image own-config (own-summed seed size)
own (Some (Upgrade cert)) = each-certified IsOwnEnd cert upgrades own-cert
    (λ c o is. subst IsOwnEnd (sym is) (own-done (CertBytes2 c)))

-- a status that a text goes with
pub record IsSaid (status : Status) : Type 0 where
  pub written : status ≢ WriteFault
  pub remembered : status ≢ NoMemory

each-weaker : (P Q : Outcome → Type 0) → ((o : Outcome) → P o → Q o) → (w : Work) → IsEach P w → IsEach Q w
each-weaker P Q f (Over ends) each = λ o is. f o (each o is)
each-weaker P Q f (Wants name limit next) each = λ bytes. each-weaker P Q f (next bytes) (each bytes)
each-weaker P Q f (Ruled broken holds next) each = (λ o is. f o (each.0 o is), each-weaker P Q f next each.1)

-- no outcome is want of memory or a failed write
pub said : (told : Option Held) (rose : List ℕ → Type 0) (request : Option Request) (o : Outcome) →
    Comes told rose (work_of request) o → IsSaid o.status
said told rose request = Comes-each (λ (o : Outcome). IsSaid o.status) told rose
    (λ name rises. record { written = λ no. cc; remembered = λ no. cc })
    (λ name. record { written = λ no. cc; remembered = λ no. cc }) (work_of request)
    (each-weaker IsOwnEnd (λ (o : Outcome). IsSaid o.status)
    (λ o is. record { written = is.written; remembered = is.remembered }) (work_of request) (own request))

-- where no count rose no read has failed
pub unfailed : (told : Option Held) (request : Option Request) (o : Outcome) →
    Comes told (λ _. ⊥) (work_of request) o → o.status ≢ ReadFault
unfailed told request = Comes-each (λ (o : Outcome). o.status ≢ ReadFault) told (λ _. ⊥)
    (λ name rises. absurd rises) (λ name no. cc) (work_of request)
    (each-weaker IsOwnEnd (λ (o : Outcome). o.status ≢ ReadFault) (λ o is. is.read)
    (work_of request) (own request))

-- ---- what an accepted or a refused certificate says

-- a status that only a mode's own end has
pub record IsJudged (status : Status) : Type 0 where
  pub read : status ≢ ReadFault
  pub small : status ≢ TooLarge
  pub image : status ≢ BadImage
  pub config : status ≢ BadConfig
  pub cert : status ≢ BadCert

judged-done : (status : Status) → status ≡ Done → IsJudged status
judged-done status is = record {
  read = λ no. cc;
  small = λ no. cc;
  image = λ no. cc;
  config = λ no. cc;
  cert = λ no. cc;
}

judged-refused : (status : Status) → status ≡ Refused → IsJudged status
judged-refused status is = record {
  read = λ no. cc;
  small = λ no. cc;
  image = λ no. cc;
  config = λ no. cc;
  cert = λ no. cc;
}

-- the file was read
wants-judged : (told : Option Held) (rose : List ℕ → Type 0) (name : List ℕ) (limit : ℕ) (next : List ℕ → Work)
    (o : Outcome) → Comes told rose (Wants name limit next) o → IsJudged o.status →
    IsRead told limit name (λ bytes. Comes told rose (next bytes)) o
wants-judged told rose name limit next o (inl fault) judged = absurd (judged.read (ap (λ (p : Outcome). p.status) fault.1))
wants-judged told rose name limit next o (inr (inl long)) judged =
    absurd (judged.small (ap (λ (p : Outcome). p.status) long.1))
wants-judged told rose name limit next o (inr (inr read)) judged = read

-- it has its form
form-judged : {A E : Type 0} (told : Option Held) (rose : List ℕ → Type 0) (bad : E → Outcome) (r : Result A E)
    (next : A → Work) (o : Outcome) → ((e : E) → o.status ≡ (bad e).status → ⊥) → Comes told rose (form bad r next) o →
    (a : A) × (r ≡ Ok a) × Comes told rose (next a) o
form-judged told rose bad (Ok a) next o b is = (a, refl, is)
form-judged told rose bad (Err e) next o b is = absurd (b e (ap (λ (p : Outcome). p.status) is))

-- the description keeps its rules
rules-judged : (told : Option Held) (rose : List ℕ → Type 0) (cfg : Description) (next : Work) (o : Outcome) →
    Comes told rose (Ruled (IsBrokenRule cfg) (IsValid cfg) next) o → IsJudged o.status →
    IsValid cfg × Comes told rose next o
rules-judged told rose cfg next o (inl broken) judged =
    absurd (judged.config (ap (λ (p : Outcome). p.status) broken.2))
rules-judged told rose cfg next o (inr rest) judged = rest

-- image and description were loaded
loaded-judged : (told : Option Held) (rose : List ℕ → Type 0) (inputs : Inputs) (next : Loaded → Work) (o : Outcome) →
    Comes told rose (loaded inputs next) o → IsJudged o.status →
    (l : Loaded) × AreLoaded told inputs l × Comes told rose (next l) o
loaded-judged told rose inputs next o comes judged =
    let file = wants-judged told rose inputs.image IMAGE_LIMIT
    (λ file. form bad_image (contents_of file) (described inputs next file)) o comes judged in
    let image = form-judged told rose bad_image (contents_of file.file) (described inputs next file.file) o
    (λ e. judged.image) file.follows in
    let then : List ℕ → Description → Work = λ text cfg. next (of_files file.file image.0 text cfg) in
    let text = wants-judged told rose inputs.config CONFIG_LIMIT
    (λ text. form bad_config (description image.0.symbols text) (ruled (then text))) o image.2 judged in
    let cfg = form-judged told rose bad_config (description image.0.symbols text.file) (ruled (then text.file)) o
    (λ e. judged.config) text.follows in
    let rest = rules-judged told rose cfg.0 (then text.file cfg.0) o cfg.2 judged in (
      of_files file.file image.0 text.file cfg.0,
      record {
        file = file.file;
        file_whole = file.whole;
        file_within = file.within;
        is_image = image.1;
        text = text.file;
        text_whole = text.whole;
        text_within = text.within;
        is_description = cfg.1;
        valid = rest.0;
        digests = refl;
      },
      rest.1,
    )

-- the certificate was read
certified-judged : (told : Option Held) (rose : List ℕ → Type 0) (cert : List ℕ) (next : Certificate → Work)
    (o : Outcome) → Comes told rose (certified cert next) o → IsJudged o.status →
    (c : Certificate) × IsCertificateOf told cert c × Comes told rose (next c) o
certified-judged told rose cert next o comes judged =
    let file = wants-judged told rose cert CERT_LIMIT (λ file. form bad_cert (cert_at file) next) o comes judged in
    let read = form-judged told rose bad_cert (cert_at file.file) next o (λ e. judged.cert) file.follows in (
      read.0,
      record {
        file = file.file;
        whole = file.whole;
        within = file.within;
        is_certificate = read.1;
      },
      read.2,
    )

-- what a judgement with this status says, of the files of a check or of an explanation
pub checked : (told : Option Held) (rose : List ℕ → Type 0) (request : Option Request) (o : Outcome)
    (P : Loaded → Certificate → Type 0) → IsJudged o.status →
    ((l : Loaded) (c : Certificate) → IsVerdict l c o → P l c) →
    ((l : Loaded) (c : Certificate) → IsExplained l c o → P l c) → Comes told rose (work_of request) o →
    OfCheck told request P
checked None rose request o P judged says tells comes = tt
checked (Some held) rose None o P judged says tells comes = tt
checked (Some held) rose (Some (Check inputs cert)) o P judged says tells comes =
    let l = loaded-judged (Some held) rose inputs (checks cert) o comes judged in
    let c = certified-judged (Some held) rose cert (λ c. Over (IsVerdict l.0 c)) o l.2 judged in record {
      loaded = l.0;
      certificate = c.0;
      are_loaded = l.1;
      is_certificate = c.1;
      holds = says l.0 c.0 c.2;
    }
checked (Some held) rose (Some (Find inputs)) o P judged says tells comes = tt
checked (Some held) rose (Some (Explain inputs)) o P judged says tells comes = tt
checked (Some held) rose (Some (ExplainCert inputs cert)) o P judged says tells comes =
    let l = loaded-judged (Some held) rose inputs (explains_cert cert) o comes judged in
    let c = certified-judged (Some held) rose cert (λ c. Over (IsExplained l.0 c)) o l.2 judged in record {
      loaded = l.0;
      certificate = c.0;
      are_loaded = l.1;
      is_certificate = c.1;
      holds = tells l.0 c.0 c.2;
    }
checked (Some held) rose (Some (Replay inputs trace)) o P judged says tells comes = tt
checked (Some held) rose (Some (Gen seed size)) o P judged says tells comes = tt
checked (Some held) rose (Some (Upgrade cert)) o P judged says tells comes = tt

-- an accepted certificate is certified
pub checked-done : (told : Option Held) (rose : List ℕ → Type 0) (request : Option Request) (o : Outcome) →
    Comes told rose (work_of request) o → o.status ≡ Done → OfCheck told request IsCertifiedFor
checked-done told rose request o comes done =
    checked told rose request o IsCertifiedFor (judged-done o.status done)
    (λ l c is. (judgement-done counted (refused l.config) l c o (λ r. refl) is done).0)
    (λ l c is. (judgement-done counted (explained l.image l.config c) l c o (λ r. refl) is done).0) comes

-- a refused one isn't
pub checked-refused : (told : Option Held) (rose : List ℕ → Type 0) (request : Option Request) (o : Outcome) →
    Comes told rose (work_of request) o → o.status ≡ Refused → OfCheck told request IsUncertifiedFor
checked-refused told rose request o comes refuses =
    checked told rose request o IsUncertifiedFor (judged-refused o.status refuses)
    (λ l c is. judgement-refused counted (refused l.config) l c o (λ c. refl) is refuses)
    (λ l c is. judgement-refused counted (explained l.image l.config c) l c o (λ c. refl) is refuses) comes

-- a search that is Done has found a certified certificate, which is its text
searched-done : (l : Loaded) (o : Outcome) → IsFound l o → o.status ≡ Done →
    (cert : Certificate) × IsCertifiedFor l cert × (o ≡ printed cert)
searched-done l o (inl found) done =
    let is = judgement-done printed (refused l.config) l found.0 o (λ r. refl) found.2 done in (found.0, is.0, is.1)
searched-done l o (inr none) done = let is = ap (λ (p : Outcome). p.status) none in absurd (cc)

-- what was written where a search is Done
pub found-done : (told : Option Held) (rose : List ℕ → Type 0) (request : Option Request) (o : Outcome)
    (before after : SinkState) → Comes told rose (work_of request) o → o.status ≡ Done → Writes before after o.text →
    OfFind told request before after
found-done None rose request o before after comes done writes = tt
found-done (Some held) rose None o before after comes done writes = tt
found-done (Some held) rose (Some (Check inputs cert)) o before after comes done writes = tt
found-done (Some held) rose (Some (Find inputs)) o before after comes done writes =
    let l = loaded-judged (Some held) rose inputs finds o comes (judged-done o.status done) in
    let found = searched-done l.0 o l.2 done in record {
      loaded = l.0;
      certificate = found.0;
      are_loaded = l.1;
      certified = found.1;
      written = subst (λ (p : Outcome). Writes before after p.text) found.2 writes;
    }
found-done (Some held) rose (Some (Explain inputs)) o before after comes done writes = tt
found-done (Some held) rose (Some (ExplainCert inputs cert)) o before after comes done writes = tt
found-done (Some held) rose (Some (Replay inputs trace)) o before after comes done writes = tt
found-done (Some held) rose (Some (Gen seed size)) o before after comes done writes = tt
found-done (Some held) rose (Some (Upgrade cert)) o before after comes done writes = tt

-- how an outcome is told, from what was written
pub tells : (o : Outcome) (status : Status) (before after : SinkState) → o.status ≢ WriteFault →
    (status ≢ WriteFault → (status ≡ o.status) × Writes before after o.text) →
    (status ≡ WriteFault → o.status ≢ WriteFault → Refuses before after o.text) → Tells o status before after
tells o status before after is all part = record { all = all; part = λ fault. part fault is }

-- the same of a text that is the outcome's
pub tells_text : (o : Outcome) (status : Status) (before after : SinkState) (text : List ℕ) → o.status ≢ WriteFault →
    text ≡ o.text → (status ≢ WriteFault → (status ≡ o.status) × Writes before after text) →
    (status ≡ WriteFault → o.status ≢ WriteFault → Refuses before after text) → Tells o status before after
tells_text o status before after text is same all part = record {
  all = λ written. let told = all written in
      (told.0, subst (λ (t : List ℕ). Writes before after t) same told.1);
  part = λ fault. subst (λ (t : List ℕ). Refuses before after t) same (part fault is);
}

-- all of an outcome's text was written, or the sink refused a part of it
pub tells_all : (o : Outcome) (before after : SinkState) → o.status ≢ WriteFault → Writes before after o.text →
    Tells o o.status before after
tells_all o before after is writes = record { all = λ _. (refl, writes); part = λ fault. absurd (is fault) }

pub tells_part : (o : Outcome) (before after : SinkState) → Refuses before after o.text →
    Tells o WriteFault before after
tells_part o before after refuses = record { all = λ written. absurd (written refl); part = λ _. refuses }

-- a count that rose later rose in the whole
pub Rose-before : (first before now : ℕ) → first ≤ before → Rose before now → Rose first now
Rose-before first before now earlier rose = omega arith

-- a held name's count is the first of the two
pub shared_count-held : (o : Option (List ℕ)) (held others : ℕ) → IsSome o → shared_count o held others ≡ held
shared_count-held (Some file) held others is = refl
shared_count-held None held others is = absurd (cc)

-- a count that is 0 hasn't risen
pub Rose-none : (before now : ℕ) → now ≡ 0 → Rose before now → ⊥
Rose-none before now zero rose = omega arith

-- what was added to the bytes that were there, and what was refused, had no room
pub Refuses-room : (old new text : List ℕ) (before after : SinkState) (room : ℕ) →
    before.written ≡ Some old → after.written ≡ Some new → Refuses before after text →
    length old + length text ≤ room → room < length new + after.refused → ⊥
Refuses-room old new text before after room is is' refuses fits full =
    let n = refuses.prefix.0 in
    let from_old = subst (λ (o : Option (List ℕ)). Appends o after.written (take n text)) is refuses.prefix.2 in
    let added = subst (λ (o : Option (List ℕ)). Appends (Some old) o (take n text)) is' from_old in
    let count : length new ≡ length old + length (take n text) = rw added (length-append old (take n text)) in
    let part : length (take n text) ≤ n = rw length-take (omega arith) in
    let within = refuses.prefix.1 in
    omega arith

-- two facts of an outcome that is there
pub both_of : (P Q : Outcome → Type 0) (o : Option Outcome) → IfSome o P → IsSomeAnd o Q → (x : Outcome) × P x × Q x
both_of P Q (Some o) p q = (o, p, q)
both_of P Q None p q = absurd q
