-- One step of the walks over the bytes and the words that an instruction may write: what n add is what the first one
-- adds, and then the n - 1 after it.
use Rattle.std.proofs.Common.{◌≡◌, ℕ, zero, suc, ◌+◌, ◌-◌, ◌<◌, ◌≤◌, cond, refl, ap, ◌∙◌, arith}
use Rattle.kc_bits.specs.Bits.{word}
use Rattle.kc_frames.specs.Clobber.{with_word}
use Rattle.kc_frames.specs.ClobberSets.{ClobberSets}
use Rattle.kc_regions.specs.Description.{Description}
use Rattle.kc_regions.specs.Region.{stack_of}
use Rattle.kc_state.specs.Memory.{meets_word}
use Rattle.kc_state.specs.Places.{word_of}
use Rattle.kc_state.specs.declared.key.Key.{Key}
use Rattle.kc_state.specs.declared.location.Location.{Location}
use Rattle.kc_cert.specs.Placed.{rising, with_stack_in, with_stacks_of, with_words_at}

pub stacks_first : (d : Description) (c : ClobberSets) (a n : ℕ) → 0 < n → with_stacks_of d c a n
    ≡ with_stacks_of d (with_stack_in c (stack_of d.regions a)) (word (a + 1)) (n - 1)
unfolding with_stacks_of
stacks_first d c a zero h = absurd (omega (arith, h))
stacks_first d c a (suc n) h =
    let one : n ≡ suc n - 1 = omega arith in
    ap (λ (k : ℕ). with_stacks_of d (with_stack_in c (stack_of d.regions a)) (word (a + 1)) k) one

pub stacks_none : (d : Description) (c : ClobberSets) (a n : ℕ) → n ≡ 0 → with_stacks_of d c a n ≡ c
unfolding with_stacks_of
stacks_none d c a n e = ap (with_stacks_of d c a) e

-- ---- the 40 words

-- c with those of the words from number i on that the bytes meet
unfoldable pub words_from : Description → Key → Location → ℕ → ClobberSets → ℕ → ClobberSets
words_from d key l size c i = with_words_at d key l size c (rising i (40 - i))

pub words_first : (d : Description) (key : Key) (l : Location) (size : ℕ) (c : ClobberSets) (i : ℕ) → i < 40
    → words_from d key l size c i
    ≡ words_from d key l size (cond (meets_word l size (word_of d key i)) (with_word c i) c) (i + 1)
unfolding words_from with_words_at
words_first d key l size c i h =
    let some : 40 - i ≡ suc (40 - (i + 1)) = omega (arith, h) in
    let next : suc i ≡ i + 1 = omega arith in
    let one = cond (meets_word l size (word_of d key i)) (with_word c i) c in
    ap (λ (n : ℕ). with_words_at d key l size c (rising i n)) some
    ∙ ap (λ (k : ℕ). with_words_at d key l size one (rising k (40 - (i + 1)))) next

pub words_none : (d : Description) (key : Key) (l : Location) (size : ℕ) (c : ClobberSets) (i : ℕ) → 40 ≤ i
    → words_from d key l size c i ≡ c
unfolding words_from with_words_at
words_none d key l size c i h =
    let none : 40 - i ≡ 0 = omega (arith, h) in
    ap (λ (n : ℕ). with_words_at d key l size c (rising i n)) none

pub words_all : (d : Description) (key : Key) (l : Location) (size : ℕ) (c : ClobberSets)
    → words_from d key l size c 0 ≡ with_words_at d key l size c (rising 0 40)
unfolding words_from
words_all d key l size c = refl
