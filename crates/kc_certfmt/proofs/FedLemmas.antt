-- A reader that is fed in pieces. `begins`: it was fed nothing. `feeds`: what was read of more bytes is what all bytes
-- give, by the equation of `GoesOn` and the one of `Leads`, whose lists are regrouped. `lasts`: a fault that stays does.
-- `answers`, `ends`, `gives`: what all bytes give, from `GoesOn` where no more bytes follow. By cases of the fault.
use Rattle.std.proofs.Common.{◌≡◌, ℕ, zero, suc, Bool, true, false, not, List, [], ◌∷◌, ◌++◌, length, Option, Some, None, Result, Ok, Err, ◌⊎◌, inl, inr, refl, sym, ap, ◌∙◌, subst, append_assoc, append-nil, arith}
use Rattle.std.proofs.lemmas.Bool.Decides.{nat_tests}
use Rattle.std.specs.Prelude.{◌&&◌, ◌==◌, is_err}
use Rattle.kc_rules.specs.Rules.{◌>>=◌, refuse}
use Rattle.kc_rules.proofs.AnswerLemmas.{done}
use Rattle.kc_cert.specs.declared.certificate.Certificate.{Certificate}
use Rattle.kc_certfields.specs.declared.fault.CertFault.{CertFault}
use Rattle.kc_certfields.specs.declared.fault.CertKind.TheVariants.{Short, Trailing}
use Rattle.kc_certfields.specs.Fault.{fault, no_memory}
use Rattle.kc_certfields.specs.Numbers.{u8_at}
use Rattle.kc_certfields.specs.Reads.{times}
use Rattle.kc_certfields.specs.Rest.{Rest}
use Rattle.kc_certfields.specs.Stable.{is_short, followed}
use Rattle.kc_certfmt.specs.Reading.{Nodes, magic_at, head_at, from_start, from_nodes, is_empty, certificate, cert_at}
use Rattle.kc_certfmt.specs.Resume.{Part, part_at, from_left, resume, is_whole, is_done, nodes_in}
use Rattle.kc_certfmt.specs.Fed.{Sofar, Reader, GoesOn, Keeps, HasFault, HasReadTo, HasRead, lasting, told, IsOpen, Answers}
use Rattle.kc_certfmt.specs.Steps.{Leads, StopsAt, TakesParts}
use Rattle.kc_certfmt.specs.declared.table.Left.{Left}
use Rattle.kc_certfmt.specs.declared.table.Left.TheVariants as left
use Rattle.kc_certfmt.proofs.ResumeLemmas.{goes-on, keeps, lacks}

-- nothing was read
abbrev pub nothing : Sofar
nothing = record { part = None; rest = record { at = 0; bytes = [] } }

none-short : cert_at [] ≡ Err (fault Short 0)
unfolding from_start head_at magic_at u8_at
none-short = refl

pub begins : (s : Sofar) → s ≡ nothing → HasReadTo [] s (Some (fault Short 0))
begins s is = inr ((λ more. sym (ap (λ (t : Sofar). resume t.part (followed t.rest more)) is)), none-short)

-- ---- the whole certificate

pub whole-gives : (p : Part) (i : Rest) → (is_whole p.left && is_empty i.bytes) ≡ true
    → resume (Some p) i ≡ Ok (certificate p.head p.contexts (nodes_in p.left))
unfolding from_nodes times
whole-gives p i is = of p.left is
  where
    empty : (nodes : Nodes) (b : Bool) → b ≡ true → (refuse (not b) (fault Trailing i.at) >>= λ x.
        done {E = CertFault} (certificate p.head p.contexts nodes.nodes))
        ≡ Ok (certificate p.head p.contexts nodes.nodes)
    empty nodes true e = refl
    empty nodes false e = absurd cc

    none-left : (nodes : Nodes) → is_empty i.bytes ≡ true
        → from_nodes p.head p.contexts zero nodes i ≡ Ok (certificate p.head p.contexts nodes.nodes)
    none-left nodes e = empty nodes (is_empty i.bytes) e

    of : (l : Left) → (is_whole l && is_empty i.bytes) ≡ true
        → from_left p l i ≡ Ok (certificate p.head p.contexts (nodes_in l))
    of (left.Contexts n) e = absurd cc
    of (left.Nodes nodes zero) e = none-left nodes e
    of (left.Nodes nodes (suc n)) e = absurd cc

pub done-part : (o : Option Part) (i : Rest) → is_done o i ≡ true → (p : Part) × (o ≡ Some p)
    × ((is_whole p.left && is_empty i.bytes) ≡ true)
done-part None i e = absurd cc
done-part (Some p) i e = (p, refl, e)

-- ---- no more bytes

no-more : (i : Rest) → followed i [] ≡ i
no-more i = λ k. record { at = i.at; bytes = append-nil i.bytes k }

-- what all bytes give
now : (fed : List ℕ) (s : Sofar) → GoesOn fed s → cert_at fed ≡ resume s.part s.rest
now fed s goes =
    ap cert_at (sym (append-nil fed)) ∙ goes [] ∙ ap (λ (i : Rest). resume s.part i) (no-more s.rest)

kept : (fed : List ℕ) (e : CertFault) → Keeps fed e → cert_at fed ≡ Err e
kept fed e keeps = ap cert_at (sym (append-nil fed)) ∙ keeps []

-- ---- more bytes

-- a fault that doesn't stay leaves what was read
goes : (fed : List ℕ) (s : Sofar) (f : Option CertFault) → HasReadTo fed s f → told f ≡ Ok tt → GoesOn fed s
goes fed s None is open_ = is.0
goes fed s (Some e) is open_ = of (is_short e) refl is open_
  where
    of : (b : Bool) → is_short e ≡ b → (e ≡ no_memory) ⊎ HasFault fed s b e → lasting b e ≡ Ok tt → GoesOn fed s
    of true short (inl memory) open_ = absurd (let clash : true ≡ false = sym short ∙ ap is_short memory in cc)
    of true short (inr h) open_ = h.0
    of false short h open_ = absurd cc

leads : (fed bytes : List ℕ) (s t : Sofar) → GoesOn fed s → Leads s.part (followed s.rest bytes) t.part t.rest
    → GoesOn (fed ++ bytes) t
leads fed bytes s t goes_on more_read more =
    let regrouped : followed s.rest (bytes ++ more) ≡ followed (followed s.rest bytes) more =
    λ k. record { at = s.rest.at; bytes = sym (append_assoc s.rest.bytes bytes more) k } in
    ap cert_at (append_assoc fed bytes more) ∙ goes_on (bytes ++ more) ∙ ap (λ (i : Rest). resume s.part i) regrouped
    ∙ more_read more

pub feeds : (fed bytes : List ℕ) (s t : Sofar) (f g : Option CertFault) → HasReadTo fed s f → told f ≡ Ok tt
    → TakesParts s.part (followed s.rest bytes) g t.part t.rest → HasReadTo (fed ++ bytes) t g
feeds fed bytes s t f None is open_ read =
    (leads fed bytes s t (goes fed s f is open_) read.0, read.1)
feeds fed bytes s t f (Some e) is open_ (inl memory) = inl memory
feeds fed bytes s t f (Some e) is open_ (inr stops) = inr (of (is_short e) stops)
  where
    before : GoesOn fed s
    before = goes fed s f is open_

    of : (b : Bool) → StopsAt s.part (followed s.rest bytes) t.part t.rest b e → HasFault (fed ++ bytes) t b e
    of true h = let all = leads fed bytes s t before h.0 in (all, now (fed ++ bytes) t all ∙ h.1)
    of false h = λ more.
        let regrouped : followed s.rest (bytes ++ more) ≡ followed (followed s.rest bytes) more =
        λ k. record { at = s.rest.at; bytes = sym (append_assoc s.rest.bytes bytes more) k } in
        ap cert_at (append_assoc fed bytes more) ∙ before (bytes ++ more)
        ∙ ap (λ (i : Rest). resume s.part i) regrouped ∙ h more

-- a fault that stays
pub lasts : (fed bytes : List ℕ) (s : Sofar) (f : Option CertFault) (e : CertFault) → HasReadTo fed s f
    → told f ≡ Err e → HasReadTo (fed ++ bytes) s f
lasts fed bytes s None e is stays = absurd cc
lasts fed bytes s (Some d) e (inl memory) stays = inl memory
lasts fed bytes s (Some d) e (inr h) stays = inr (of (is_short d) h stays)
  where
    of : (b : Bool) → HasFault fed s b d → lasting b d ≡ Err e → HasFault (fed ++ bytes) s b d
    of true h stays = absurd cc
    of false h stays = λ more. ap cert_at (append_assoc fed bytes more) ∙ h (bytes ++ more)

-- ---- what is answered

opened : (due : Result Certificate CertFault) (e : CertFault) → due ≡ Err e → is_short e ≡ true → IsOpen due
opened (Ok cert) e is short = tt
opened (Err d) e is short = let same : d ≡ e = cc in ap is_short same ∙ short

given : (due : Result Certificate CertFault) (cert : Certificate) → due ≡ Ok cert → IsOpen due
given (Ok cert) c is = tt
given (Err d) c is = absurd cc

pub gives : (fed : List ℕ) (s : Sofar) (cert : Certificate) → HasReadTo fed s None → resume s.part s.rest ≡ Ok cert
    → cert_at fed ≡ Ok cert
gives fed s cert is whole = now fed s is.0 ∙ whole

pub answers : (fed : List ℕ) (s : Sofar) (f : Option CertFault) → HasReadTo fed s f → Answers (told f) (cert_at fed)
answers fed s None is =
    let p = done-part s.part s.rest is.1 in
    given (cert_at fed) (certificate p.0.head p.0.contexts (nodes_in p.0.left))
    (now fed s is.0 ∙ ap (λ (o : Option Part). resume o s.rest) p.1 ∙ whole-gives p.0 s.rest p.2)
answers fed s (Some e) is = of (is_short e) refl is
  where
    of : (b : Bool) → is_short e ≡ b → (e ≡ no_memory) ⊎ HasFault fed s b e → Answers (lasting b e) (cert_at fed)
    of true short (inl memory) = absurd (let clash : true ≡ false = sym short ∙ ap is_short memory in cc)
    of true short (inr h) = opened (cert_at fed) e h.1 short
    of false short (inl memory) = inl memory
    of false short (inr h) = inr (kept fed e h, short)

-- what a fault says of all bytes
pub ends : (fed : List ℕ) (s : Sofar) (e : CertFault) → HasReadTo fed s (Some e)
    → (e ≡ no_memory) ⊎ (cert_at fed ≡ Err e)
ends fed s e (inl memory) = inl memory
ends fed s e (inr h) = inr (of (is_short e) h)
  where
    of : (b : Bool) → HasFault fed s b e → cert_at fed ≡ Err e
    of true h = h.1
    of false h = kept fed e h

-- a fault that stays is the one that there is
pub met : (f : Option CertFault) (d e : CertFault) → f ≡ Some d → told f ≡ Err e
    → ◌≡◌ {A = Result Certificate CertFault} (Err d) (Err e)
met f d e is stays = of (is_short d) (sym (ap told is) ∙ stays)
  where
    of : (b : Bool) → lasting b d ≡ Err e → ◌≡◌ {A = Result Certificate CertFault} (Err d) (Err e)
    of true h = absurd cc
    of false h = let same : d ≡ e = cc in ap (λ (x : CertFault). Err x) same

-- where there is none, none stays
pub none-met : (f : Option CertFault) (e : CertFault) → f ≡ None → told f ≡ Err e → ⊥
none-met None e is stays = absurd cc
none-met (Some d) e is stays = absurd cc

-- ---- what the calls leave

pub whole-read : (s : Sofar) (p : Part) (cert : Certificate) → s.part ≡ Some p → is_done s.part s.rest ≡ true
    → cert ≡ certificate p.head p.contexts (nodes_in p.left) → resume s.part s.rest ≡ Ok cert
whole-read s p cert there whole is =
    ap (λ (o : Option Part). resume o s.rest) there
    ∙ whole-gives p s.rest (sym (ap (λ (o : Option Part). is_done o s.rest) there) ∙ whole)
    ∙ ap (λ (c : Certificate). done {E = CertFault} c) (sym is)

-- a part more
pub leads-more : (first p : Option Part) (before i j : Rest) (q : Part) → Leads first before p i → is_done p i ≡ false
    → part_at p i ≡ Ok (q, j) → Leads first before (Some q) j
leads-more first p before i j q so open_ read = λ more. so more ∙ goes-on p q i j open_ read more

-- a part that isn't whole, or has a fault
pub stops : (first p q : Option Part) (before i j : Rest) (e : CertFault) → Leads first before p i → is_done p i ≡ false
    → (e ≡ no_memory) ⊎ (part_at p i ≡ Err e) → q ≡ p → j ≡ i
    → (e ≡ no_memory) ⊎ StopsAt first before q j (is_short e) e
stops first p q before i j e so open_ (inl memory) same place = inl memory
stops first p q before i j e so open_ (inr read) same place = inr (of (is_short e) refl)
  where
    of : (b : Bool) → is_short e ≡ b → StopsAt first before q j b e
    of true short = (
      λ more. so more ∙ sym (λ k. resume (same k) (followed (place k) more)),
      (λ k. resume (same k) (place k)) ∙ lacks p i e open_ read,
    )
    of false long = λ more. so more ∙ keeps p i e open_ read long more

pub not-err : {E : Type 0} (r : Result (Unit {0}) E) → is_err r ≡ false → r ≡ Ok tt
not-err (Ok x) is = refl
not-err (Err e) is = absurd cc

pub is-reader : (fed : List ℕ) (s : Sofar) (f : Option CertFault) (r : Reader) → record { read = s; fault = f } ≡ r
    → HasRead fed r → HasReadTo fed s f
is-reader fed s f r is h = subst (λ (x : Reader). HasRead fed x) (sym is) h

pub refused : (e : CertFault) (due : Result Certificate CertFault) → Answers (Err e) due
    → (e ≡ no_memory) ⊎ (due ≡ Err e)
refused e due (inl memory) = inl memory
refused e due (inr h) = inr h.0

pub no-bytes : (xs : List ℕ) → (length xs == 0) ≡ true → xs ≡ []
no-bytes [] e = refl
no-bytes (x ∷ xs) e = absurd (grind (arith, nat_tests, e))
