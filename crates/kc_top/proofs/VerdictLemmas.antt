-- A certificate has one judgement, since it is certified or has a first refusal, and not both; the status tells which
-- it is. A search has an outcome in any case, and how a table that it found is printed is one.
use Rattle.std.proofs.Common.{◌≡◌, ◌≢◌, refl, ap, sym, ◌∙◌, inl, inr}
use Rattle.kc_io.specs.Sink.{SinkState}
use Rattle.kc_cert.specs.declared.certificate.Certificate.{Certificate}
use Rattle.kc_cert.specs.declared.refusal.Refusal.{Refusal}
use Rattle.kc_decided.proofs.FormLemmas.{refusal-once, refusal-none, refusal-or}
use Rattle.kc_top.specs.declared.load.Loaded.{Loaded}
use Rattle.kc_top.specs.declared.outcome.Outcome.{Outcome}
use Rattle.kc_top.specs.declared.status.Status.{Status}
use Rattle.kc_top.specs.declared.status.Status.TheVariants.{Done, Refused, Usage, BadImage, BadConfig, BadCert}
use Rattle.kc_top.specs.declared.status.Status.TheVariants.{BadTrace, ReadFault, WriteFault, NoMemory, TooLarge}
use Rattle.kc_top.specs.Output.{IsJudgement, IsCertifiedFor, IsUncertifiedFor, printed, refused, Tells, Prints}

-- two judgements are the same
pub judgement-once : (accept : Certificate → Outcome) (refuse : Refusal → Outcome) (l : Loaded) (cert : Certificate)
    (o p : Outcome) → IsJudgement accept refuse l cert o → IsJudgement accept refuse l cert p → o ≡ p
judgement-once accept refuse l cert o p (inl a) (inl b) = a.1 ∙ sym b.1
judgement-once accept refuse l cert o p (inl a) (inr b) =
    absurd (refusal-none l.image l.config l.digests cert b.0 b.1 a.0)
judgement-once accept refuse l cert o p (inr a) (inl b) =
    absurd (refusal-none l.image l.config l.digests cert a.0 a.1 b.0)
judgement-once accept refuse l cert o p (inr a) (inr b) =
    a.2 ∙ ap refuse (refusal-once l.image l.config l.digests cert a.0 b.0 a.1 b.1) ∙ sym b.2

-- there is one
pub judgement-some : (accept : Certificate → Outcome) (refuse : Refusal → Outcome) (l : Loaded) (cert : Certificate) →
    (o : Outcome) × IsJudgement accept refuse l cert o
judgement-some accept refuse l cert = elim (refusal-or l.image l.config l.digests cert) [
  | inl certified ↦ (accept cert, inl (certified, refl))
  | inr first ↦ (refuse first.0, inr (first.0, first.1, refl))
]

-- one that is Done says that the certificate is certified
pub judgement-done : (accept : Certificate → Outcome) (refuse : Refusal → Outcome) (l : Loaded) (cert : Certificate)
    (o : Outcome) → ((r : Refusal) → (refuse r).status ≡ Refused) → IsJudgement accept refuse l cert o →
    o.status ≡ Done → IsCertifiedFor l cert × (o ≡ accept cert)
judgement-done accept refuse l cert o refuses (inl a) done = a
judgement-done accept refuse l cert o refuses (inr a) done =
    let is = ap (λ (p : Outcome). p.status) a.2 ∙ refuses a.0 in absurd (cc)

-- and one that is Refused that it isn't
pub judgement-refused : (accept : Certificate → Outcome) (refuse : Refusal → Outcome) (l : Loaded) (cert : Certificate)
    (o : Outcome) → ((c : Certificate) → (accept c).status ≡ Done) → IsJudgement accept refuse l cert o →
    o.status ≡ Refused → IsUncertifiedFor l cert
judgement-refused accept refuse l cert o accepts (inl a) refuses =
    let is = ap (λ (p : Outcome). p.status) a.1 ∙ accepts cert in absurd (cc)
judgement-refused accept refuse l cert o accepts (inr a) refuses = λ certified.
    refusal-none l.image l.config l.digests cert a.0 a.1 certified

-- ---- how a certificate that was checked is printed

-- a status other than want of memory tells the judgement
pub prints-told : (l : Loaded) (cert : Certificate) (before after : SinkState) (status : Status) → status ≢ NoMemory →
    Prints l cert before after status →
    (o : Outcome) × IsJudgement printed (refused l.config) l cert o × Tells o status before after
prints-told l cert before after Done some is = (
  printed cert,
  inl (is.0, refl),
  record { all = λ _. (refl, is.1); part = λ no. absurd (cc) },
)
prints-told l cert before after Refused some is = (
  refused l.config is.0,
  inr (is.0, is.1, refl),
  record { all = λ _. (refl, is.2); part = λ no. absurd (cc) },
)
prints-told l cert before after WriteFault some (inl is) = (
  printed cert,
  inl (is.0, refl),
  record { all = λ no. absurd (no refl); part = λ _. is.1 },
)
prints-told l cert before after WriteFault some (inr is) = (
  refused l.config is.0,
  inr (is.0, is.1, refl),
  record { all = λ no. absurd (no refl); part = λ _. is.2 },
)
prints-told l cert before after NoMemory some is = absurd (some refl)
prints-told l cert before after Usage some is = absurd is
prints-told l cert before after BadImage some is = absurd is
prints-told l cert before after BadConfig some is = absurd is
prints-told l cert before after BadCert some is = absurd is
prints-told l cert before after BadTrace some is = absurd is
prints-told l cert before after ReadFault some is = absurd is
prints-told l cert before after TooLarge some is = absurd is
