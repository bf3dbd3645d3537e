-- What made values stand for, where the environment has the description's stacks. A number has one place, that of the
-- stack that holds it, so the place of a made value is known from its number; its bits are those of kc_bits.
use Rattle.std.proofs.Common.{◌≡◌, ℕ, ◌^◌, ◌<◌, ◌≤◌, ◌==◌, inl, inr, List, length, Option, Some, None, refl, sym, ap, ◌∙◌, subst, arith}
use Rattle.std.specs.Int.{bit_at}
use Rattle.std.proofs.lemmas.Bool.{eqb-true}
use Rattle.std.proofs.lemmas.List.{get_or-map, get_or_past, length-map}
use Rattle.std.proofs.lemmas.Nat.Bits.{bit_at-zero, bit_at_ones}
use Rattle.std.proofs.lemmas.Option.{slice_get_cases, get_or_from_slice_get}
use Rattle.kc_words.specs.Range.{Range}
use Rattle.kc_words.specs.Span.{Holds}
use Rattle.kc_words.specs.Flags.{bits_of, cut}
use Rattle.kc_words.specs.declared.width.Width.{Width}
use Rattle.kc_words.specs.declared.width.Width.TheVariants.{Byte, Long, Quad}
use Rattle.kc_bits.specs.KnownBits.{KnownBits}
use Rattle.kc_bits.specs.Bits.{IsValid as AreBitsValid, StandsFor, nothing_known, unknown, bits_single, bits_cut}
use Rattle.kc_bits.proofs.Cut.{cut_apart, cut_sound}
use Rattle.kc_bits.proofs.Whole.{known_only}
use Rattle.kc_regions.specs.Description.{Description}
use Rattle.kc_regions.specs.Region.{stacks_of, stack_of, stack_at}
use Rattle.kc_regions.specs.Valid.{IsValid}
use Rattle.kc_regions.specs.declared.region.Region.{Region}
use Rattle.kc_regions.proofs.LayoutLemmas.{laid}
use Rattle.kc_rules.proofs.TestLemmas.{chosen}
use Rattle.kc_value.specs.AbsValue.{AbsValue}
use Rattle.kc_value.specs.Made.{IsPlace, plain}
use Rattle.kc_value.specs.Place.{no_addresses, stack_at as span_of, HasPlace, place_bit, LiesIn}
use Rattle.kc_value.specs.Value.{IsValidValue, Represents, all_places, value_top}
use Rattle.kc_value.specs.declared.env.ValueEnv.{ValueEnv}
use Rattle.kc_value.proofs.MadeLemmas.{constant_stands, derived_stands}
use Rattle.kc_state.specs.Operand.{number_value, bits_value, at_width}
use Rattle.kc_state.proofs.StackLemmas.{stack_below, is_place}
use Rattle.kc_describes.specs.Places.{stack_spans}

-- ---- places

none_held : (n : ℕ) → Holds no_addresses n → ⊥
none_held n h = omega (arith, h.1)

pub place_bound : (o : Option ℕ) → IsPlace o → place_bit o < 17
place_bound (Some s) h = omega (arith, h)
place_bound None h = omega arith

pub nothing_stands : (n : ℕ) → StandsFor nothing_known n
nothing_stands n = λ i. (λ e. absurd (omega (arith, e, bit_at-zero i)), λ e. absurd (omega (arith, e, bit_at-zero i)))

pub narrow : (w : Width) (n : ℕ) → cut w n < 2 ^ 64
narrow Byte n = omega arith
narrow Long n = omega arith
narrow Quad n = omega arith

-- the bits of a width with 0 above them
pub cut_valid : (w : Width) (b : KnownBits) → AreBitsValid b → AreBitsValid (bits_cut (bits_of w) b)
cut_valid Byte b h = record { zeros_fit = omega arith; ones_fit = omega arith; apart = cut_apart Byte b h }
cut_valid Long b h = record { zeros_fit = omega arith; ones_fit = omega arith; apart = cut_apart Long b h }
cut_valid Quad b h = record { zeros_fit = omega arith; ones_fit = omega arith; apart = cut_apart Quad b h }

-- all bits known, the value is the number
single_by : (b : KnownBits) (n k : ℕ) → AreBitsValid b → n < 2 ^ 64 → StandsFor b n → bits_single b ≡ Some k → n ≡ k
single_by b n k ok fits known e = elim (chosen (unknown b == 0) (Some b.ones) None (Some k) e) [
  | inl h ↦
      let only = known_only b n ok fits (eqb-true (unknown b) 0 h.0) known in
      let same : b.ones ≡ k = cc in
      only ∙ same
  | inr h ↦ absurd cc
]

pub single_is : (v : AbsValue) (env : ValueEnv) (n k : ℕ) → IsValidValue v → n < 2 ^ 64 → Represents v env n
    → bits_single v.bits ≡ Some k → n ≡ k
single_is v env n k ok fits r e = single_by v.bits n k ok.bits_fit fits r.bits e

pub plain_stands : (v : AbsValue) (env : ValueEnv) (n : ℕ) → Represents v env n → Represents (plain v) env n
plain_stands v env n r = record { symbol = tt; bits = r.bits; place = r.place }

module _ (cfg : Description) (valid : IsValid cfg) where
  span_at : (s : ℕ) (r : Region) → s < length (stacks_of cfg.regions) → stack_at cfg.regions s ≡ Some r
      → span_of (stack_spans cfg) s ≡ r.span
  span_at s r inside is =
      get_or-map (λ r. r.span) (stacks_of cfg.regions) s r no_addresses inside
      ∙ ap (λ z. z.span) (get_or_from_slice_get (stacks_of cfg.regions) s r r is)

  span_past : (s : ℕ) → length (stacks_of cfg.regions) ≤ s → span_of (stack_spans cfg) s ≡ no_addresses
  span_past s past =
      get_or_past (stack_spans cfg) s no_addresses
      (subst (λ n. n ≤ s) (sym (length-map (stacks_of cfg.regions) (λ r. r.span))) past)

  -- a stack's span by its number holds what the stack of this number holds
  held_by : (s n : ℕ) → Holds (span_of (stack_spans cfg) s) n → stack_of cfg.regions n ≡ Some s
  held_by s n held = elim (slice_get_cases (stacks_of cfg.regions) s).1 [
    | inl h ↦
        let r = h.0 in
        let inside = h.1 in
        let span = span_at s r h.1 h.2 in
        (laid cfg valid).stack_bytes s r n h.2 (subst (λ z. Holds z n) span held)
    | inr h ↦ absurd (none_held n (subst (λ z. Holds z n) (span_past s h.0) held))
  ]

  place_is : (n : ℕ) (o : Option ℕ) → stack_of cfg.regions n ≡ o → HasPlace (stack_spans cfg) o n
  place_is n (Some s) e =
      let there = (laid cfg valid).stack_region s n e in
      let span : span_of (stack_spans cfg) s ≡ there.0.span =
      elim (slice_get_cases (stacks_of cfg.regions) s).1 [
        | inl h ↦ span_at s there.0 h.1 there.1
        | inr h ↦ absurd cc
      ] in
      (stack_below cfg n s valid e, subst (λ z. Holds z n) (sym span) there.2)
  place_is n None e = λ s below held. let at = held_by s n held in absurd cc

  -- where a number lies
  pub has_place : (n : ℕ) → HasPlace (stack_spans cfg) (stack_of cfg.regions n) n
  has_place n = place_is n (stack_of cfg.regions n) refl

  none_is : (n : ℕ) (o : Option ℕ) → stack_of cfg.regions n ≡ o → HasPlace (stack_spans cfg) None n → None ≡ o
  none_is n None e h = refl
  none_is n (Some s) e h =
      let at = place_is n (Some s) e in absurd (h s at.0 at.1)

  -- it lies nowhere else
  pub one_place : (place : Option ℕ) (n : ℕ) → HasPlace (stack_spans cfg) place n → place ≡ stack_of cfg.regions n
  one_place (Some s) n h = sym (held_by s n h.1)
  one_place None n h = none_is n (stack_of cfg.regions n) refl h

  -- so a set of places in which it lies has that of its stack
  pub lies_in : (set n : ℕ) → LiesIn set (stack_spans cfg) n → bit_at set (place_bit (stack_of cfg.regions n)) ≡ 1
  lies_in set n h = subst (λ p. bit_at set (place_bit p) ≡ 1) (one_place h.0 n h.1) h.2

  pub lies_at : (set n : ℕ) → bit_at set (place_bit (stack_of cfg.regions n)) ≡ 1 → LiesIn set (stack_spans cfg) n
  lies_at set n h = (stack_of cfg.regions n, has_place n, h)

  -- ---- made values

  module _ (env : ValueEnv) (stacks : env.stacks ≡ stack_spans cfg) where
    place_in : (n : ℕ) → HasPlace env.stacks (stack_of cfg.regions n) n
    place_in n = subst (λ (z : List Range). HasPlace z (stack_of cfg.regions n) n) (sym stacks) (has_place n)

    pub number_stands : (n : ℕ) → n < 2 ^ 64 → Represents (number_value cfg n) env n
    number_stands n fits = constant_stands n (stack_of cfg.regions n) env fits (place_in n)

    pub bits_stand : (b : KnownBits) (n : ℕ) → AreBitsValid b → n < 2 ^ 64 → StandsFor b n
        → Represents (bits_value cfg b) env n
    bits_stand b n ok fits known = derived_stands (stack_of cfg.regions) b env n ok fits known (place_in n)

    pub anywhere : (n : ℕ) → LiesIn all_places env.stacks n
    anywhere n =
        let place = stack_of cfg.regions n in
        (place, place_in n, bit_at_ones 17 (place_bit place) (place_bound place (is_place cfg n valid)))

    pub top_stands : (n : ℕ) → Represents value_top env n
    top_stands n = record { symbol = tt; bits = nothing_stands n; place = anywhere n }

    cut_stands : (w : Width) (v : AbsValue) (n : ℕ) → IsValidValue v → Represents v env n
        → Represents (bits_value cfg (bits_cut (bits_of w) v.bits)) env (cut w n)
    cut_stands w v n ok r =
        bits_stand (bits_cut (bits_of w) v.bits) (cut w n) (cut_valid w v.bits ok.bits_fit) (narrow w n)
        (cut_sound w v.bits n r.bits)

    -- what an operand of a width takes of a value
    pub width_stands : (w : Width) (v : AbsValue) (n : ℕ) → IsValidValue v → n < 2 ^ 64 → Represents v env n
        → Represents (at_width cfg w v) env (cut w n)
    width_stands Quad v n ok fits r = let same : n ≡ cut Quad n = omega (arith, fits) in subst (Represents v env) same r
    width_stands Long v n ok fits r = cut_stands Long v n ok r
    width_stands Byte v n ok fits r = cut_stands Byte v n ok r
