-- The instruction at an address. The bytes that follow each other from there on, at most fifteen, begin with those that
-- spell an instruction, since no spelling is longer; so what `decode` finds in them is what the image spells.
use Rattle.std.proofs.Common.{◌≡◌, ℕ, zero, suc, ◌+◌, ◌<◌, ◌≤◌, min, List, [], ◌∷◌, ◌++◌, length, take, drop, Option, Some, None, arith, refl, ap, sym, ◌∙◌, subst}
use Rattle.std.proofs.lemmas.Grind.{common_steps}
use Rattle.kc_insn.specs.declared.insn.Insn.{Insn}
use Rattle.kc_insn.specs.Spells.{Spells}
use Rattle.kc_image.specs.Image.{Contents, Segment, loaded, followed, run}
use Rattle.kc_events.specs.Fetched.{IsSpelledAt}

take-followed : (o : Option ℕ) (n : ℕ) (xs ys : List ℕ) → take n xs ≡ ys → take (suc n) (followed o xs) ≡ followed o ys
take-followed None n xs ys h = refl
take-followed (Some b) n xs ys h = ap (λ (zs : List ℕ). b ∷ zs) h

-- a shorter run is the beginning of a longer one
pub take-run : (ss : List Segment) (a n m : ℕ) → n ≤ m → take n (run ss a m) ≡ run ss a n
unfolding run
take-run ss a zero m h = refl
take-run ss a (suc n) zero h = absurd (omega arith)
take-run ss a (suc n) (suc m) h =
    take-followed (loaded ss a) n (run ss (a + 1) m) (run ss (a + 1) n) (take-run ss (a + 1) n m (omega arith))

take-whole : (xs ys : List ℕ) (n : ℕ) → n ≡ length xs → take n (xs ++ ys) ≡ xs
take-whole xs ys n e = grind (arith, common_steps)

length-cut : (xs : List ℕ) (n : ℕ) → n ≤ length xs → length (take n xs) ≡ n
length-cut xs n h = grind (arith, common_steps)

cut-fits : (xs : List ℕ) (n : ℕ) → length (take n xs) ≡ n → n ≤ length xs
cut-fits xs n h = grind (arith, common_steps)

-- what bytes_at put into a buffer is the run
pub in_buffer : (image : Contents) (at count : ℕ) (buf old s : List ℕ) → count ≡ length (run image.segments at 15)
    → buf ≡ run image.segments at 15 ++ drop count old → s ≡ take count buf → s ≡ run image.segments at 15
in_buffer image at count buf old s c e sliced =
    sliced ∙ ap (λ (xs : List ℕ). take count xs) e ∙ take-whole (run image.segments at 15) (drop count old) count c

-- what a beginning of the run spells, the image spells
pub spelled-in : (image : Contents) (at n : ℕ) (insn : Insn) (s : List ℕ) → s ≡ run image.segments at 15 → n ≤ length s
    → Spells (take n s) at insn
    → IsSpelledAt image at insn n
spelled-in image at n insn s e fits spells =
    let long : length (take n s) ≡ n = length-cut s n fits in
    let short : n ≤ 15 = omega (arith, spells.0, long) in
    let same : run image.segments at n ≡ take n s =
    sym (ap (λ (xs : List ℕ). take n xs) e ∙ take-run image.segments at n 15 short) in
    (take n s, long, same, spells)

-- what the image spells, a beginning of the run spells
pub found-in : (image : Contents) (at n : ℕ) (insn : Insn) (s : List ℕ) → s ≡ run image.segments at 15
    → IsSpelledAt image at insn n
    → (n ≤ length s) × Spells (take n s) at insn
found-in image at n insn s e h =
    let short : n ≤ 15 = omega (arith, h.1, h.3.0) in
    let same : take n s ≡ h.0 = ap (λ (xs : List ℕ). take n xs) e ∙ take-run image.segments at n 15 short ∙ h.2 in (
      cut-fits s n (ap (λ (xs : List ℕ). length xs) same ∙ h.1),
      subst (λ (xs : List ℕ). Spells xs at insn) (sym same) h.3,
    )
