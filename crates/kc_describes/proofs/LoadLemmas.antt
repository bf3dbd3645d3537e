-- What a load finds stands for the bytes in memory. By induction on the slots: the first one whose word holds all the
-- bytes gives its value, where they are the whole word, and else the bits of these bytes; without one the bytes above
-- those loaded are 0.
use Rattle.std.proofs.Common.{◌≡◌, ℕ, zero, suc, ◌+◌, ◌*◌, ◌/◌, ◌%◌, ◌^◌, ◌<◌, ◌≤◌, ◌==◌, nat_le, inl, inr, List, [], ◌∷◌, length, get_or, All, Option, Some, None, mod-eq_of_lt, refl, sym, ap, ◌∙◌, subst, arith}
use Rattle.std.specs.Int.{bit_at}
use Rattle.std.proofs.lemmas.Bool.{leb-true, cond_both}
use Rattle.std.proofs.lemmas.Nat.{shr-shr, shr_le, and_shr, pow-add}
use Rattle.std.proofs.lemmas.List.Elements.{All-head, All-tail}
use Rattle.std.proofs.Math.Nat.{zero-div}
use Rattle.std.proofs.Math.Numerals.{unary_clauses}
use Rattle.kc_words.specs.Flags.{bits_of, cut}
use Rattle.kc_words.specs.declared.width.Width.{Width}
use Rattle.kc_words.specs.declared.width.Width.TheVariants.{Byte, Long, Quad}
use Rattle.kc_bits.specs.KnownBits.{KnownBits}
use Rattle.kc_bits.specs.Bits.{IsValid as AreBitsValid, StandsFor, bits_cut, nothing_known, word}
use Rattle.kc_bits.proofs.Cut.{cut_sound}
use Rattle.kc_frames.specs.Slots.{slot_count}
use Rattle.kc_regions.specs.Description.{Description}
use Rattle.kc_regions.specs.Region.{stack_of}
use Rattle.kc_regions.specs.Valid.{IsValid}
use Rattle.kc_rules.proofs.AnswerLemmas.{some_is}
use Rattle.kc_rules.proofs.TestLemmas.{chosen}
use Rattle.kc_mem.specs.Memory.{Bytes, AreBytes, read}
use Rattle.kc_mem.proofs.NumberLemmas.{read_small}
use Rattle.kc_exec.specs.declared.state.Activation.{Activation}
use Rattle.kc_value.specs.AbsValue.{AbsValue}
use Rattle.kc_value.specs.Made.{derived}
use Rattle.kc_value.specs.Value.{IsValidValue, Represents, value_top}
use Rattle.kc_value.specs.declared.env.ValueEnv.{ValueEnv}
use Rattle.kc_state.specs.Memory.{distance, begins_at, offset_in, bits_from, part_of, loaded_or, loaded_from, loaded}
use Rattle.kc_state.specs.Places.{word_of}
use Rattle.kc_state.specs.declared.key.Key.{Key}
use Rattle.kc_state.specs.declared.location.Location.{Location}
use Rattle.kc_describes.specs.Chain.{newest_of, env_of}
use Rattle.kc_describes.specs.Fits.{ChainFits}
use Rattle.kc_describes.specs.Places.{address_of, WordStands, SlotsStand}
use Rattle.kc_describes.specs.Widths.{IsActivation}
use Rattle.kc_describes.proofs.MemoryLemmas.{read_part}
use Rattle.kc_describes.proofs.StoreLemmas.{IsFitting, address_fits, distance_is, word_fitting}
use Rattle.kc_describes.proofs.ValidLemmas.{none_valid, bits_valid}
use Rattle.kc_describes.proofs.ValueLemmas.{bits_stand, narrow, cut_valid, nothing_stands}

-- ---- bits of a part

power_of : (k : ℕ) → 256 ^ k ≡ 2 ^ (8 * k)
power_of zero = refl
power_of (suc k) =
    let one : 256 ^ suc k ≡ 256 ^ k * 256 = simp unary_clauses refl in
    let count : 8 * suc k ≡ 8 * k + 8 = omega arith in
    let other : 2 ^ (8 * k + 8) ≡ 2 ^ (8 * k) * 256 = pow-add 2 (8 * k) 8 in
    one ∙ ap (λ z. z * 256) (power_of k) ∙ sym other ∙ ap (λ z. 2 ^ z) (sym count)

moved_bit : (x k i : ℕ) → bit_at (x / 2 ^ k) i ≡ bit_at x (k + i)
moved_bit x k i = ap (λ z. z % 2) (shr-shr x k i)

from_stand : (b : KnownBits) (x off : ℕ) → StandsFor b x → StandsFor (bits_from b off) (x / 2 ^ (8 * off))
from_stand b x off known i = (
  λ e. moved_bit x (8 * off) i ∙ (known (8 * off + i)).0 (sym (moved_bit b.zeros (8 * off) i) ∙ e),
  λ e. moved_bit x (8 * off) i ∙ (known (8 * off + i)).1 (sym (moved_bit b.ones (8 * off) i) ∙ e),
)

less_part : (x k : ℕ) → x < 2 ^ 64 → x / 2 ^ k < 2 ^ 64
less_part x k fits = omega (arith, fits, shr_le x k)

from_valid : (b : KnownBits) (off : ℕ) → AreBitsValid b → AreBitsValid (bits_from b off)
from_valid b off ok = record {
  zeros_fit = less_part b.zeros (8 * off) ok.zeros_fit;
  ones_fit = less_part b.ones (8 * off) ok.ones_fit;
  apart = sym (and_shr b.zeros b.ones (8 * off)) ∙ ap (λ z. z / 2 ^ (8 * off)) ok.apart ∙ zero-div (2 ^ (8 * off));
}

-- how many bytes a width has, as numbers of bits and of values
whole_size : (w : Width) → 8 * (bits_of w / 8) ≡ bits_of w
whole_size Byte = refl
whole_size Long = refl
whole_size Quad = refl

size_power : (w : Width) → 256 ^ (bits_of w / 8) ≡ 2 ^ bits_of w
size_power Byte = refl
size_power Long = refl
size_power Quad = refl

-- where bytes begin in a word
begins : (size off : ℕ) (o : Option ℕ) → begins_at size o ≡ Some off → (o ≡ Some off) × (off + size ≤ 8)
begins size off (Some k) e = elim (chosen (nat_le (k + size) 8) (Some k) None (Some off) e) [
  | inl h ↦
      let same = some_is k off h.1 in
      (h.1, omega (arith, leb-true (k + size) 8 h.0, same))
  | inr h ↦ absurd cc
]
begins size off None e = absurd cc

-- what is loaded is a valid value
module _ (cfg : Description) (valid : IsValid cfg) (key : Key) (l : Location) where
  cut_part : (w : Width) (b : KnownBits) → AreBitsValid b
      → IsValidValue (derived (stack_of cfg.regions) (bits_cut (8 * (bits_of w / 8)) b))
  cut_part w b ok =
      subst (λ z. IsValidValue (derived (stack_of cfg.regions) (bits_cut z b))) (sym (whole_size w))
      (bits_valid cfg valid (bits_cut (bits_of w) b) (cut_valid w b ok))

  or_valid : (w : Width) (v rest : AbsValue) (o : Option ℕ) → IsValidValue v → IsValidValue rest
      → IsValidValue (loaded_or cfg (bits_of w / 8) v rest o)
  or_valid w v rest (Some off) ok later =
      let b = bits_cut (8 * (bits_of w / 8)) (bits_from v.bits off) in
      cond_both (bits_of w / 8 == 8) v (derived (stack_of cfg.regions) b) IsValidValue (λ h. ok)
      (λ h. cut_part w (bits_from v.bits off) (from_valid v.bits off ok.bits_fit))
  or_valid w v rest None ok later = later

  walk_valid : (w : Width) (i : ℕ) (vs : List AbsValue) → All IsValidValue vs
      → IsValidValue (loaded_from cfg key l (bits_of w / 8) i vs)
  unfolding loaded_from
  walk_valid w i [] ok = cut_part w nothing_known none_valid
  walk_valid w i (v ∷ vs) ok =
      or_valid w v (loaded_from cfg key l (bits_of w / 8) (suc i) vs)
      (offset_in l (bits_of w / 8) (word_of cfg key i)) (All-head IsValidValue v vs ok)
      (walk_valid w (suc i) vs (All-tail IsValidValue v vs ok))

  pub load_valid : (w : Width) (slots : List AbsValue) → All IsValidValue slots
      → IsValidValue (loaded cfg key l (bits_of w / 8) slots)
  load_valid w slots ok = walk_valid w 0 slots ok

module _ (cfg : Description) (valid : IsValid cfg) (key : Key) (chain : List Activation) (F : ChainFits cfg key chain)
    (typed : All IsActivation chain) (mem : Bytes) (are : AreBytes mem) (l : Location) (at_fits : IsFitting l) where
  abbrev base : ℕ
  base = (newest_of chain).base

  abbrev env : ValueEnv
  env = env_of cfg chain

  abbrev number : Width → ℕ
  number w = read mem (address_of base l) (bits_of w / 8)

  empty_stands : (w : Width)
      → Represents (derived (stack_of cfg.regions) (bits_cut (8 * (bits_of w / 8)) nothing_known)) env (number w)
  empty_stands w =
      let n = number w in
      let small : n < 2 ^ bits_of w =
      subst (λ z. n < z) (size_power w) (read_small mem (address_of base l) (bits_of w / 8) are) in
      let same : cut w n ≡ n = mod-eq_of_lt small in
      let made = bits_stand cfg valid env refl (bits_cut (bits_of w) nothing_known) (cut w n)
      (cut_valid w nothing_known none_valid) (narrow w n) (cut_sound w nothing_known n (nothing_stands n)) in
      subst (λ z. Represents (derived (stack_of cfg.regions) (bits_cut z nothing_known)) env n) (sym (whole_size w))
      (subst (Represents (derived (stack_of cfg.regions) (bits_cut (bits_of w) nothing_known)) env) same made)

  -- the bits of a word from byte off on, cut to a width
  bits_part : (w : Width) (v : AbsValue) (x off : ℕ) → IsValidValue v → StandsFor v.bits x
      → Represents (derived (stack_of cfg.regions) (bits_cut (bits_of w) (bits_from v.bits off))) env
      (cut w (x / 2 ^ (8 * off)))
  bits_part w v x off ok known =
      let b = bits_from v.bits off in
      bits_stand cfg valid env refl (bits_cut (bits_of w) b) (cut w (x / 2 ^ (8 * off)))
      (cut_valid w b (from_valid v.bits off ok.bits_fit)) (narrow w (x / 2 ^ (8 * off)))
      (cut_sound w b (x / 2 ^ (8 * off)) (from_stand v.bits x off known))

  module _ (v : AbsValue) (p : Location) (off : ℕ) (ok : IsValidValue v) (p_fits : IsFitting p)
      (stands : WordStands env mem v p) (far : address_of base l ≡ word (address_of base p + off)) where
    abbrev held : ℕ
    held = read mem (address_of base p) 8

    number_part : (w : Width) → off + bits_of w / 8 ≤ 8 → number w ≡ cut w (held / 2 ^ (8 * off))
    number_part w few =
        ap (λ z. read mem z (bits_of w / 8)) far
        ∙ read_part mem (address_of base p) off (bits_of w / 8) are (address_fits base p p_fits) few
        ∙ ap (λ z. held / z % 256 ^ (bits_of w / 8)) (power_of off)
        ∙ ap (λ z. held / 2 ^ (8 * off) % z) (size_power w)

    part_stands : (w : Width) → off + bits_of w / 8 ≤ 8
        → Represents (part_of cfg (bits_of w / 8) v off) env (number w)
    part_stands Quad few =
        let here = address_fits base p p_fits in
        let same : address_of base l ≡ address_of base p = omega (arith, far, few, here) in
        subst (Represents v env) (sym (ap (λ z. read mem z 8) same)) stands
    part_stands Long few =
        subst (Represents (part_of cfg 4 v off) env) (sym (number_part Long few))
        (bits_part Long v held off ok stands.bits)
    part_stands Byte few =
        subst (Represents (part_of cfg 1 v off) env) (sym (number_part Byte few))
        (bits_part Byte v held off ok stands.bits)

  in_word : (size off : ℕ) (q : Option Location) → offset_in l size q ≡ Some off
      → (p : Location) × (q ≡ Some p) × (distance l p ≡ Some off) × (off + size ≤ 8)
  in_word size off (Some p) e = let b = begins size off (distance l p) e in (p, refl, b.0, b.1)
  in_word size off None e = absurd cc

  -- the slot of number i decides, where its word holds the bytes
  by_offset : (w : Width) (i : ℕ) (v rest : AbsValue) (o : Option ℕ) → i < slot_count → IsValidValue v
      → ((p : Location) → word_of cfg key i ≡ Some p → WordStands env mem v p)
      → offset_in l (bits_of w / 8) (word_of cfg key i) ≡ o → Represents rest env (number w)
      → Represents (loaded_or cfg (bits_of w / 8) v rest o) env (number w)
  by_offset w i v rest (Some off) below ok stands e after =
      let there = in_word (bits_of w / 8) off (word_of cfg key i) e in
      let p_fits = word_fitting cfg valid key chain F typed i there.0 below there.1 in
      let far = distance_is base off l there.0 at_fits p_fits there.2 in
      part_stands v there.0 off ok p_fits (stands there.0 there.1) far w there.3
  by_offset w i v rest None below ok stands e after = after

  -- these are the slots from number i on, and stand for their words
  abbrev StandFrom : ℕ → List AbsValue → Type 0
  StandFrom i vs = (j : ℕ) (p : Location) → j < length vs → i + j < slot_count → word_of cfg key (i + j) ≡ Some p
      → WordStands env mem (get_or vs j value_top) p

  first_stands : (i : ℕ) (v : AbsValue) (vs : List AbsValue) → i < slot_count → StandFrom i (v ∷ vs) → (p : Location)
      → word_of cfg key i ≡ Some p → WordStands env mem v p
  first_stands i v vs below stand p e =
      let same : i ≡ i + 0 = omega arith in
      stand 0 p (omega arith) (omega (arith, below)) (subst (λ z. word_of cfg key z ≡ Some p) same e)

  later_stand : (i : ℕ) (v : AbsValue) (vs : List AbsValue) → StandFrom i (v ∷ vs) → StandFrom (suc i) vs
  later_stand i v vs stand j p inside below e =
      let same : suc i + j ≡ i + suc j = omega arith in
      stand (suc j) p (omega (arith, inside)) (omega (arith, below)) (subst (λ z. word_of cfg key z ≡ Some p) same e)

  from_stands : (w : Width) (i : ℕ) (vs : List AbsValue) → i + length vs ≤ slot_count → All IsValidValue vs
      → StandFrom i vs → Represents (loaded_from cfg key l (bits_of w / 8) i vs) env (number w)
  unfolding loaded_from
  from_stands w i [] few ok stand = empty_stands w
  from_stands w i (v ∷ vs) few ok stand =
      let below : i < slot_count = omega (arith, few) in
      let rest = from_stands w (suc i) vs (omega (arith, few)) (All-tail IsValidValue v vs ok)
      (later_stand i v vs stand) in
      by_offset w i v (loaded_from cfg key l (bits_of w / 8) (suc i) vs)
      (offset_in l (bits_of w / 8) (word_of cfg key i)) below (All-head IsValidValue v vs ok)
      (first_stands i v vs below stand) refl rest

  -- what is loaded stands for the bytes at the location
  pub load_stands : (w : Width) (slots : List AbsValue) → length slots ≡ slot_count → All IsValidValue slots
      → SlotsStand cfg key env slots mem
      → Represents (loaded cfg key l (bits_of w / 8) slots) env (read mem (address_of base l) (bits_of w / 8))
  load_stands w slots count ok stand =
      from_stands w 0 slots (omega (arith, count)) ok (λ j p inside below e.
      let same : 0 + j ≡ j = omega arith in
      stand j p (omega (arith, below)) (subst (λ z. word_of cfg key z ≡ Some p) same e))
