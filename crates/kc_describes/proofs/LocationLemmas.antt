-- A location names the number for which its value stands: by cases on the value's symbol, and for the symbol of the
-- base on whether the key has one. Where the key has none, the base and the frame below it lie in the key's stack.
use Rattle.std.proofs.Common.{◌≡◌, ℕ, ◌+◌, ◌-◌, ◌^◌, ◌<◌, ◌≤◌, ◌==◌, inl, inr, Bool, false, Option, Some, None, IfSome, option_map, ℤ, refl, sym, ap, ◌∙◌, subst, arith}
use Rattle.std.specs.Prelude.{FitsSigned}
use Rattle.std.specs.Int.{w64, cast_unsigned}
use Rattle.std.proofs.lemmas.Bool.{cases_Bool}
use Rattle.kc_words.specs.Span.{Holds}
use Rattle.kc_bits.specs.KnownBits.{KnownBits}
use Rattle.kc_bits.specs.Bits.{IsValid as AreBitsValid, bits_single, unknown, word}
use Rattle.kc_regions.specs.Description.{Description}
use Rattle.kc_regions.specs.Region.{region_of, stack_of, stack_at}
use Rattle.kc_regions.specs.Valid.{IsValid}
use Rattle.kc_regions.specs.Layout.{IsStackAt}
use Rattle.kc_regions.specs.declared.region.Region.{Region}
use Rattle.kc_regions.proofs.LayoutLemmas.{laid}
use Rattle.kc_rules.proofs.TestLemmas.{chosen}
use Rattle.kc_rules.proofs.AnswerLemmas.{some_is}
use Rattle.kc_exec.specs.declared.state.Activation.{Activation}
use Rattle.kc_value.specs.AbsValue.{AbsValue}
use Rattle.kc_value.specs.Symbol.{IsSym, Names}
use Rattle.kc_value.specs.Value.{IsValidValue, Represents}
use Rattle.kc_value.specs.declared.env.ValueEnv.{ValueEnv}
use Rattle.kc_value.specs.declared.symbol.Sym.{Sym}
use Rattle.kc_value.specs.declared.symbol.Sym.TheVariants.{Plain, Base, Entry, UserGs}
use Rattle.kc_state.specs.Location.{from_base, symbol_location, location_of}
use Rattle.kc_state.specs.Places.{below_address}
use Rattle.kc_state.specs.declared.key.Key.{Key}
use Rattle.kc_state.specs.declared.location.Location.{Location}
use Rattle.kc_state.specs.declared.location.Location.TheVariants.{Number, Relative}
use Rattle.kc_describes.specs.Fits.{IsBaseOf, Fits}
use Rattle.kc_describes.specs.Places.{address_of}
use Rattle.kc_describes.proofs.ValueLemmas.{single_is}

-- ---- addresses in stacks

-- the stack of number s holds the address
pub record IsInStack (cfg : Description) (s x : ℕ) : Type 0 where
  pub region : Region
  pub numbered : stack_at cfg.regions s ≡ Some region
  pub held : Holds region.span x
  pub found : region_of cfg.regions x ≡ Some region
  pub is : IsStackAt region

pub in_stack : (cfg : Description) (s x : ℕ) → IsValid cfg → stack_of cfg.regions x ≡ Some s → IsInStack cfg s x
in_stack cfg s x valid e =
    let there = (laid cfg valid).stack_region s x e in
    record {
      region = there.0;
      numbered = there.1;
      held = there.2;
      found = there.3;
      is = (laid cfg valid).stacks s there.0 there.1;
    }

-- an address in a stack lies in the upper half
pub record IsHigh (x : ℕ) : Type 0 where
  pub low : 2 ^ 63 + 4096 ≤ x
  pub high : x < 2 ^ 64 - 16

pub stack_high : (cfg : Description) (s x : ℕ) → IsValid cfg → stack_of cfg.regions x ≡ Some s → IsHigh x
stack_high cfg s x valid e =
    let h = in_stack cfg s x valid e in
    record { low = omega (arith, h.is.begins, h.held.0); high = omega (arith, h.is.ends, h.held.1) }

-- ---- keys without a base

-- the key has a stack and no base: the base and the frame below it lie in the stack
pub record IsRelativeKey (cfg : Description) (key : Key) (base : ℕ) : Type 0 where
  pub stack : ℕ
  pub named : key.stack ≡ Some stack
  pub none : key.base ≡ None
  pub event : key.syscall ≡ false
  pub at : stack_of cfg.regions base ≡ Some stack
  pub below : stack_of cfg.regions (below_address base 40) ≡ Some stack

pub relative_key : (cfg : Description) (key : Key) (user_gs : ℕ) (a : Activation) (s : ℕ) → Fits cfg key user_gs a
    → key.base ≡ None → key.stack ≡ Some s → IsRelativeKey cfg key a.base
relative_key cfg key user_gs a s fits none named =
    let event : key.syscall ≡ false = elim (cases_Bool key.syscall) [
      | inl h ↦ let empty = fits.rules.user (fits.rules.syscall h).1 in absurd cc
      | inr h ↦ h
    ] in
    let base : IsBaseOf cfg None false (Some s) a.base =
    subst (λ (o : Option ℕ). IsBaseOf cfg o false (Some s) a.base) none
    (subst (λ (b : Bool). IsBaseOf cfg key.base b (Some s) a.base) event
    (subst (λ (o : Option ℕ). IsBaseOf cfg key.base key.syscall o a.base) named fits.base)) in
    record { stack = s; named = named; none = none; event = event; at = base.0; below = base.1 }

-- ---- locations

-- a location of the key: a word, or an offset of 64 bits from the base of a key without one
abbrev pub IsPlaced : Description → Key → ℕ → Location → Type 0
IsPlaced cfg key base (Number a) = a < 2 ^ 64
IsPlaced cfg key base (Relative k) = FitsSigned w64 k × IsRelativeKey cfg key base

-- the location is of the key, and is the address n
abbrev pub IsAt : Description → Key → ℕ → ℕ → Location → Type 0
IsAt cfg key base n l = IsPlaced cfg key base l × (address_of base l ≡ n)

pub single_fits : (b : KnownBits) (k : ℕ) → AreBitsValid b → bits_single b ≡ Some k → k < 2 ^ 64
single_fits b k ok e = elim (chosen (unknown b == 0) (Some b.ones) None (Some k) e) [
  | inl h ↦ let same = some_is b.ones k h.1 in omega (arith, same, ok.ones_fit)
  | inr h ↦ absurd cc
]

module _ (cfg : Description) (key : Key) (user_gs : ℕ) (a : Activation) (fits : Fits cfg key user_gs a) where
  -- the base plus k, by what the key has
  by_base : (base stack : Option ℕ) (k : ℤ) (n : ℕ) (l : Location) → key.base ≡ base → key.stack ≡ stack
      → FitsSigned w64 k → n ≡ word (a.base + cast_unsigned w64 k) → from_base base stack k ≡ Some l
      → IsAt cfg key a.base n l
  by_base (Some b) stack k n l based stacked ok names e =
      let same : a.base ≡ b =
      subst (λ (o : Option ℕ). IsBaseOf cfg o key.syscall key.stack a.base) based fits.base in
      let here : IsAt cfg key a.base n (Number (word (b + cast_unsigned w64 k))) =
      (omega arith, ap (λ z. word (z + cast_unsigned w64 k)) (sym same) ∙ sym names) in
      subst (IsAt cfg key a.base n) (some_is (Number (word (b + cast_unsigned w64 k))) l e) here
  by_base None (Some s) k n l based stacked ok names e =
      let here : IsAt cfg key a.base n (Relative k) =
      ((ok, relative_key cfg key user_gs a s fits based stacked), sym names) in
      subst (IsAt cfg key a.base n) (some_is (Relative k) l e) here
  by_base None None k n l based stacked ok names e = absurd cc

  by_number : (known : Option ℕ) (n : ℕ) (l : Location) → IfSome known (λ m. (m < 2 ^ 64) × (n ≡ m))
      → option_map Number known ≡ Some l → IsAt cfg key a.base n l
  by_number (Some m) n l h e =
      let here : IsAt cfg key a.base n (Number m) = (h.0, sym h.1) in
      subst (IsAt cfg key a.base n) (some_is (Number m) l e) here
  by_number None n l h e = absurd cc

  module _ (env : ValueEnv) (based : env.base ≡ a.base) (n : ℕ) (word_fits : n < 2 ^ 64) where
    by_symbol : (s : Sym) (known : Option ℕ) (l : Location) → IsSym s → Names s env n
        → IfSome known (λ m. (m < 2 ^ 64) × (n ≡ m)) → symbol_location key s known ≡ Some l → IsAt cfg key a.base n l
    by_symbol Plain known l ok names h e = by_number known n l h e
    by_symbol (Base k) known l ok names h e =
        by_base key.base key.stack k n l refl refl ok (names ∙ ap (λ z. word (z + cast_unsigned w64 k)) based) e
    by_symbol (Entry w) known l ok names h e = by_number known n l h e
    by_symbol UserGs known l ok names h e = by_number known n l h e

    single_facts : (v : AbsValue) (o : Option ℕ) → bits_single v.bits ≡ o → IsValidValue v → Represents v env n
        → IfSome o (λ m. (m < 2 ^ 64) × (n ≡ m))
    single_facts v (Some m) e ok r = (single_fits v.bits m ok.bits_fit e, single_is v env n m ok word_fits r e)
    single_facts v None e ok r = tt

    -- the location of a value is of the key, and is the number for which the value stands
    pub located : (v : AbsValue) (l : Location) → IsValidValue v → Represents v env n → location_of key v ≡ Some l
        → IsAt cfg key a.base n l
    located v l ok r e =
        by_symbol v.sym (bits_single v.bits) l ok.sym_fits r.symbol
        (single_facts v (bits_single v.bits) refl ok r) e
