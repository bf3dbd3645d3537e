-- The bytes of the magic are read one by one: after k of them those from the k-th on are left. Each lemma opens the
-- reading of the first byte that is left, and goes on by what was read; `drop-cons` splits the list.
use Rattle.std.proofs.Common.{◌≡◌, ℕ, ◌+◌, ◌<◌, ◌≤◌, Bool, true, false, not, List, [], ◌∷◌, length, drop, get_or, Result, Ok, Err, refl, sym, ap, ◌∙◌, arith, add-one, drop-cons}
use Rattle.std.specs.Prelude.{◌==◌}
use Rattle.std.proofs.lemmas.Grind.{common_steps}
use Rattle.kc_rules.specs.Rules.{◌>>=◌, refuse}
use Rattle.kc_certfields.specs.declared.fault.CertFault.{CertFault}
use Rattle.kc_certfields.specs.Fault.{fault}
use Rattle.kc_certfields.specs.declared.fault.CertKind.TheVariants.{BadMagic}
use Rattle.kc_certfields.specs.Rest.{Rest}
use Rattle.kc_certfields.specs.Numbers.{u8_at}
use Rattle.kc_certfmt.specs.Reading.{magic_at}

-- what follows the byte that was read
abbrev after_byte : ℕ → List ℕ → ℕ → Result (ℕ × Rest) CertFault → Result (Unit {0} × Rest) CertFault
after_byte m ms at r = r >>= λ b. refuse (not (b.0 == m)) (fault BadMagic at) >>= λ x. magic_at ms b.1

opened : (ms : List ℕ) (k : ℕ) (i : Rest) → k < length ms
    → magic_at (drop k ms) i ≡ after_byte (get_or ms k 0) (drop (k + 1) ms) i.at (u8_at i)
unfolding magic_at
opened ms k i below = rw (add-one, drop-cons ms k 0 below) refl

pub magic_more : (ms : List ℕ) (k : ℕ) (i j : Rest) (b : ℕ) (due : Result (Unit {0} × Rest) CertFault) → k < length ms
    → u8_at i ≡ Ok (b, j) → refuse (not (b == get_or ms k 0)) (fault BadMagic i.at) ≡ Ok tt
    → magic_at (drop k ms) i ≡ due → magic_at (drop (k + 1) ms) j ≡ due
magic_more ms k i j b due below read same before =
    let next : Result (Unit {0}) CertFault → Result (Unit {0} × Rest) CertFault =
    λ r. r >>= λ x. magic_at (drop (k + 1) ms) j in
    sym (opened ms k i below ∙ ap (after_byte (get_or ms k 0) (drop (k + 1) ms) i.at) read ∙ ap next same) ∙ before

pub magic_stops : (ms : List ℕ) (k : ℕ) (i : Rest) (e : CertFault) (due : Result (Unit {0} × Rest) CertFault)
    → k < length ms → u8_at i ≡ Err e → magic_at (drop k ms) i ≡ due → due ≡ Err e
magic_stops ms k i e due below read before =
    sym before ∙ opened ms k i below ∙ ap (after_byte (get_or ms k 0) (drop (k + 1) ms) i.at) read

pub magic_differs : (ms : List ℕ) (k : ℕ) (i j : Rest) (b : ℕ) (e : CertFault)
    (due : Result (Unit {0} × Rest) CertFault) → k < length ms → u8_at i ≡ Ok (b, j)
    → refuse (not (b == get_or ms k 0)) (fault BadMagic i.at) ≡ Err e → magic_at (drop k ms) i ≡ due → due ≡ Err e
magic_differs ms k i j b e due below read differs before =
    let next : Result (Unit {0}) CertFault → Result (Unit {0} × Rest) CertFault =
    λ r. r >>= λ x. magic_at (drop (k + 1) ms) j in
    sym before ∙ opened ms k i below ∙ ap (after_byte (get_or ms k 0) (drop (k + 1) ms) i.at) read ∙ ap next differs

pub magic_done : (ms : List ℕ) (k : ℕ) (i : Rest) (due : Result (Unit {0} × Rest) CertFault) → length ms ≤ k
    → magic_at (drop k ms) i ≡ due → due ≡ Ok (tt, i)
unfolding magic_at
magic_done ms k i due end before =
    let none : drop k ms ≡ [] = grind (arith, common_steps) in
    sym before ∙ ap (λ (xs : List ℕ). magic_at xs i) none
