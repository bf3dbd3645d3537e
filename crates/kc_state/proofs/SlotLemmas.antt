-- One step of the walk over slots: the first one whose word holds the bytes decides, and else those after it.
use Rattle.std.proofs.Common.{◌≡◌, ℕ, suc, ◌+◌, ◌*◌, ◌/◌, ◌<◌, ◌≤◌, List, ◌∷◌, length, get_or, drop, refl, ap, ◌∙◌, arith}
use Rattle.std.proofs.lemmas.List.{drop_all}
use Rattle.kc_bits.specs.Bits.{bits_cut, nothing_known}
use Rattle.kc_lattice.proofs.ListLemmas.{drop_read}
use Rattle.kc_regions.specs.Description.{Description}
use Rattle.kc_regions.specs.Region.{stack_of}
use Rattle.kc_value.specs.AbsValue.{AbsValue}
use Rattle.kc_value.specs.Made.{derived}
use Rattle.kc_words.specs.Flags.{bits_of}
use Rattle.kc_words.specs.declared.width.Width.{Width}
use Rattle.kc_words.specs.declared.width.Width.TheVariants.{Byte, Long, Quad}
use Rattle.kc_state.specs.Memory.{offset_in, loaded_or, loaded_from}
use Rattle.kc_state.specs.Places.{word_of}
use Rattle.kc_state.specs.declared.key.Key.{Key}
use Rattle.kc_state.specs.declared.location.Location.{Location}

pub whole_bytes : (w : Width) → 8 * (bits_of w / 8) ≡ bits_of w
whole_bytes Byte = refl
whole_bytes Long = refl
whole_bytes Quad = refl

first_slot : (d : Description) (key : Key) (l : Location) (size i : ℕ) (v : AbsValue) (vs : List AbsValue) →
    loaded_from d key l size i (v ∷ vs) ≡ loaded_or d size v (loaded_from d key l size (i + 1) vs)
    (offset_in l size (word_of d key i))
unfolding loaded_from
first_slot d key l size i v vs =
    let next : suc i ≡ i + 1 = omega arith in
    ap (λ (j : ℕ). loaded_or d size v (loaded_from d key l size j vs) (offset_in l size (word_of d key i))) next

pub loaded_step : (d : Description) (key : Key) (l : Location) (size i : ℕ) (slots : List AbsValue) (v : AbsValue)
    → i < length slots → v ≡ get_or slots i v →
    loaded_from d key l size i (drop i slots) ≡ loaded_or d size v
    (loaded_from d key l size (i + 1) (drop (i + 1) slots)) (offset_in l size (word_of d key i))
loaded_step d key l size i slots v h e =
    ap (loaded_from d key l size i) (drop_read slots i v h e) ∙ first_slot d key l size i v (drop (i + 1) slots)

pub loaded_end : (d : Description) (key : Key) (l : Location) (size i : ℕ) (slots : List AbsValue) → length slots ≤ i →
    loaded_from d key l size i (drop i slots) ≡ derived (stack_of d.regions) (bits_cut (8 * size) nothing_known)
unfolding loaded_from
loaded_end d key l size i slots h = ap (loaded_from d key l size i) (drop_all i slots h)
