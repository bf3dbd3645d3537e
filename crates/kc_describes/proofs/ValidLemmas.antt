-- The values that are made are valid: their symbols, bits and sets of places are in range. By how each is made.
use Rattle.std.proofs.Common.{◌≡◌, ℕ, ◌-◌, ◌^◌, ◌<◌, ◌&&◌, int_le, Bool, true, false, cond, Option, Some, None, ℤ, pos, neg_ℤ, ◌+ℤ◌, refl, arith}
use Rattle.std.specs.Prelude.{FitsSigned}
use Rattle.std.specs.Int.{w64, cast_unsigned}
use Rattle.std.proofs.lemmas.Int.{ints}
use Rattle.std.proofs.lemmas.Bool.{and_parts, cond_both}
use Rattle.std.proofs.lemmas.Nat.{pow_below}
use Rattle.kc_bits.specs.KnownBits.{KnownBits}
use Rattle.kc_bits.specs.Bits.{IsValid as AreBitsValid, all_of, bits_single, nothing_known}
use Rattle.kc_bits.proofs.Sums.{add_valid}
use Rattle.kc_bits.proofs.Whole.{all_apart}
use Rattle.kc_regions.specs.Description.{Description}
use Rattle.kc_regions.specs.Region.{stack_of}
use Rattle.kc_regions.specs.Valid.{IsValid}
use Rattle.kc_value.specs.AbsValue.{AbsValue}
use Rattle.kc_value.specs.Made.{IsPlace, constant, derived_from}
use Rattle.kc_value.specs.Place.{place_bit}
use Rattle.kc_value.specs.Value.{IsValidValue, value_top, all_places}
use Rattle.kc_value.specs.declared.symbol.Sym.{Sym}
use Rattle.kc_value.specs.declared.symbol.Sym.TheVariants.{Plain, Base, Entry, UserGs}
use Rattle.kc_state.specs.Operand.{number_value, bits_value, at_width}
use Rattle.kc_state.specs.Shift.{is_offset, is_only_stack, has_no_base, moved_bits, shifted_from, shifted}
use Rattle.kc_state.specs.declared.key.Key.{Key}
use Rattle.kc_state.proofs.StackLemmas.{is_place}
use Rattle.kc_words.specs.declared.width.Width.{Width}
use Rattle.kc_words.specs.declared.width.Width.TheVariants.{Byte, Long, Quad}
use Rattle.kc_describes.proofs.LocationLemmas.{single_fits}
use Rattle.kc_describes.proofs.PermissionLemmas.{int_le-true}
use Rattle.kc_describes.proofs.ValueLemmas.{place_bound, cut_valid}

pub all_valid : (n : ℕ) → n < 2 ^ 64 → AreBitsValid (all_of n)
all_valid n fits = record { zeros_fit = omega (arith, fits); ones_fit = fits; apart = all_apart n fits }

pub none_valid : AreBitsValid nothing_known
none_valid = record { zeros_fit = omega arith; ones_fit = omega arith; apart = refl }

pub top_valid : IsValidValue value_top
top_valid = record { sym_fits = tt; bits_fit = none_valid; stacks_fit = omega arith }

constant_valid : (n : ℕ) (place : Option ℕ) → n < 2 ^ 64 → IsPlace place → IsValidValue (constant n place)
constant_valid n place fits here = record {
  sym_fits = tt;
  bits_fit = all_valid n fits;
  stacks_fit = pow_below (place_bit place) 17 (place_bound place here);
}

module _ (cfg : Description) (valid : IsValid cfg) where
  pub number_valid : (n : ℕ) → n < 2 ^ 64 → IsValidValue (number_value cfg n)
  number_valid n fits = constant_valid n (stack_of cfg.regions n) fits (is_place cfg n valid)

  from_valid : (b : KnownBits) (o : Option ℕ) → bits_single b ≡ o → AreBitsValid b
      → IsValidValue (derived_from (stack_of cfg.regions) b o)
  from_valid b (Some n) e ok = constant_valid n (stack_of cfg.regions n) (single_fits b n ok e) (is_place cfg n valid)
  from_valid b None e ok = record { sym_fits = tt; bits_fit = ok; stacks_fit = omega arith }

  pub bits_valid : (b : KnownBits) → AreBitsValid b → IsValidValue (bits_value cfg b)
  bits_valid b ok = from_valid b (bits_single b) refl ok

  pub width_valid : (w : Width) (v : AbsValue) → IsValidValue v → IsValidValue (at_width cfg w v)
  width_valid Quad v ok = ok
  width_valid Long v ok = bits_valid _ (cut_valid Long v.bits ok.bits_fit)
  width_valid Byte v ok = bits_valid _ (cut_valid Byte v.bits ok.bits_fit)

  -- ---- a move

  pub offset_fits : (k : ℤ) → is_offset k ≡ true → FitsSigned w64 k
  offset_fits k h =
      let p = and_parts (int_le (neg_ℤ (pos (2 ^ 63))) k) (int_le k (pos (2 ^ 63 - 1))) h in
      let low = int_le-true (neg_ℤ (pos (2 ^ 63))) k p.0 in
      let high = int_le-true k (pos (2 ^ 63 - 1)) p.1 in
      omega (arith, ints, low, high)

  moved_valid : (v : AbsValue) (c : ℤ) → IsValidValue (moved_bits cfg v c)
  moved_valid v c = bits_valid _ (add_valid v.bits (all_of (cast_unsigned w64 c)))

  places_fit : (b : Bool) (set : ℕ) → set < 2 ^ 17 → cond b set all_places < 2 ^ 17
  places_fit true set fits = fits
  places_fit false set fits = omega arith

  shifted_by : (key : Key) (v : AbsValue) (c : ℤ) (s : Sym) → IsValidValue v → IsValidValue (shifted_from cfg key v c s)
  shifted_by key v c (Base k) ok =
      cond_both (is_offset (k +ℤ c)) _ _ IsValidValue
      (λ h. record {
        sym_fits = offset_fits (k +ℤ c) h;
        bits_fit = none_valid;
        stacks_fit = places_fit (is_only_stack v.stacks key.stack && (has_no_base key.base && (int_le (pos 0) c
            && int_le (k +ℤ c) (pos 0)))) v.stacks ok.stacks_fit;
      })
      (λ h. moved_valid v c)
  shifted_by key v c Plain ok = moved_valid v c
  shifted_by key v c (Entry w) ok = moved_valid v c
  shifted_by key v c UserGs ok = moved_valid v c

  pub shifted_valid : (key : Key) (v : AbsValue) (c : ℤ) → IsValidValue v → IsValidValue (shifted cfg key v c)
  shifted_valid key v c ok = shifted_by key v c v.sym ok
