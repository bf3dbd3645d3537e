-- The eight bytes of a word at a multiple of 8 lie in the stack of its first byte, or in none as that does, since
-- stacks begin and end at multiples of 16: so the first byte decides whether the word may have changed. The walk over
-- the bytes asks the same test at each, and the sum of one answer with itself is that answer.
use Rattle.std.proofs.Common.{◌≡◌, ℕ, zero, suc, ◌+◌, ◌%◌, ◌^◌, ◌<◌, ◌≤◌, Bool, true, false, ◌&&◌, ◌||◌, Option, Some, None, refl, sym, ap, ◌∙◌, arith}
use Rattle.std.specs.Prelude.{not}
use Rattle.kc_bits.specs.Bits.{word}
use Rattle.kc_frames.specs.ClobberSets.{ClobberSets}
use Rattle.kc_regions.specs.Description.{Description}
use Rattle.kc_regions.specs.Region.{stack_of}
use Rattle.kc_regions.specs.Valid.{IsValid}
use Rattle.kc_regions.proofs.LayoutLemmas.{laid}
use Rattle.kc_state.specs.AbsReturn.{is_clobbered, is_protected, loses_bytes}
use Rattle.kc_state.specs.declared.location.Location.{Location}
use Rattle.kc_absevent.proofs.ByteLemmas.{loses_first}

module _ (d : Description) (valid : IsValid d) (a : ℕ) (even : a % 8 ≡ 0) where
  -- a stack that holds a byte of the word holds its first byte
  first_held : (k s : ℕ) → k < 8 → stack_of d.regions (a + k) ≡ Some s → stack_of d.regions a ≡ Some s
  first_held k s low e =
      let (r, is, held, _) = (laid d valid).stack_region s (a + k) e in
      let shape = (laid d valid).stacks s r is in
      (laid d valid).stack_bytes s r a is
      (omega (arith, even, low, held.0, shape.aligned.0), omega (arith, even, low, held.1, shape.aligned.1))

  all_held : (k s : ℕ) → k < 8 → stack_of d.regions a ≡ Some s → stack_of d.regions (a + k) ≡ Some s
  all_held k s low e =
      let (r, is, held, _) = (laid d valid).stack_region s a e in
      let shape = (laid d valid).stacks s r is in
      (laid d valid).stack_bytes s r (a + k) is
      (omega (arith, even, low, held.0, shape.aligned.0), omega (arith, even, low, held.1, shape.aligned.1))

  same_by : (k : ℕ) (one other : Option ℕ) → k < 8 → stack_of d.regions (a + k) ≡ one → stack_of d.regions a ≡ other
      → one ≡ other
  same_by k (Some s) other low e f = sym (first_held k s low e) ∙ f
  same_by k None (Some s) low e f = sym e ∙ all_held k s low f
  same_by k None None low e f = refl

  pub one_stack : (k : ℕ) → k < 8 → stack_of d.regions (a + k) ≡ stack_of d.regions a
  one_stack k low = same_by k (stack_of d.regions (a + k)) (stack_of d.regions a) low refl refl

or_none : (b : Bool) → (b || false) ≡ b
or_none true = refl
or_none false = refl

or_again : (b x : Bool) → (b || (b || x)) ≡ (b || x)
or_again true x = refl
or_again false x = refl

module _ (d : Description) (rsp : Option Location) (c : ClobberSets) (a : ℕ) where
  abbrev loses_in : Option ℕ → Bool
  loses_in stack = is_clobbered c stack && not (is_protected d rsp a stack)

  -- the bytes after the first ones add nothing
  rest : IsValid d → a < 2 ^ 64 → a % 8 ≡ 0 → (n k : ℕ) → k + n ≤ 8 →
      (loses_in (stack_of d.regions a) || loses_bytes d rsp c a (a + k) n) ≡ loses_in (stack_of d.regions a)
  unfolding loses_bytes
  rest valid fits even zero k low = or_none (loses_in (stack_of d.regions a))
  rest valid fits even (suc zero) k low =
      let b = loses_in (stack_of d.regions a) in
      let same = one_stack d valid a even k (omega (arith, low)) in
      ap (λ (o : Option ℕ). b || (loses_in o || false)) same ∙ or_again b false ∙ or_none b
  rest valid fits even (suc (suc n)) k low =
      let b = loses_in (stack_of d.regions a) in
      let same = one_stack d valid a even k (omega (arith, low)) in
      let next : word (a + k + 1) ≡ a + suc k = omega (arith, low, fits, even) in
      ap (λ (o : Option ℕ). b || (loses_in o || loses_bytes d rsp c a (word (a + k + 1)) (suc n))) same
      ∙ or_again b (loses_bytes d rsp c a (word (a + k + 1)) (suc n))
      ∙ ap (λ (at : ℕ). b || loses_bytes d rsp c a at (suc n)) next
      ∙ rest valid fits even (suc n) (suc k) (omega (arith, low))

  pub first_decides : IsValid d → a < 2 ^ 64 → a % 8 ≡ 0 → loses_bytes d rsp c a a 8
      ≡ (is_clobbered c (stack_of d.regions a) && not (is_protected d rsp a (stack_of d.regions a)))
  first_decides valid fits even =
      let next : word (a + 1) ≡ a + 1 = omega (arith, fits, even) in
      loses_first d rsp c a a 8 (omega arith)
      ∙ ap (λ (at : ℕ). loses_in (stack_of d.regions a) || loses_bytes d rsp c a at 7) next
      ∙ rest valid fits even 7 1 (omega arith)
