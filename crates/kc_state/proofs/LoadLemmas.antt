-- A load passes over a part or a block of which it meets no word: no word holds bytes that it doesn't meet.
use Rattle.std.proofs.Common.{◌≡◌, ℕ, zero, suc, ◌+◌, ◌*◌, ◌/◌, ◌<◌, ◌≤◌, Bool, true, false, cond, ◌&&◌, ◌||◌, List, length, get_or, drop, Option, Some, None, refl, sym, ap, ◌∙◌, arith}
use Rattle.std.specs.Prelude.{not, ◌==◌}
use Rattle.std.proofs.Math.Dec.{eqb-suc-zero}
use Rattle.std.proofs.lemmas.Bool.{ltb-false, lt-leb}
use Rattle.kc_regions.specs.Description.{Description}
use Rattle.kc_value.specs.AbsValue.{AbsValue}
use Rattle.kc_words.specs.Flags.{bits_of}
use Rattle.kc_words.specs.declared.width.Width.{Width}
use Rattle.kc_words.specs.declared.width.Width.TheVariants.{Byte, Long, Quad}
use Rattle.kc_state.specs.Memory.{distance, is_below, begins_at, offset_in, meets_word, loaded_or, loaded_from}
use Rattle.kc_state.specs.PartSteps.{IsApart, IsLoaded}
use Rattle.kc_state.specs.Places.{word_of}
use Rattle.kc_state.specs.declared.key.Key.{Key}
use Rattle.kc_state.specs.declared.location.Location.{Location}
use Rattle.kc_state.proofs.PartLemmas.{read_again}
use Rattle.kc_state.proofs.SlotLemmas.{loaded_step}

either : (b c : Bool) → (b || c) ≡ false → b ≡ false
either true c e = e
either false c e = refl

pub some_bytes : (w : Width) → 0 < bits_of w / 8
some_bytes Byte = omega arith
some_bytes Long = omega arith
some_bytes Quad = omega arith

begins_nowhere : (size : ℕ) (o other : Option ℕ) → 0 < size
    → (not (size == 0) && (is_below 8 o || is_below size other)) ≡ false → begins_at size o ≡ None
begins_nowhere zero o other some e = absurd (omega (arith, some))
begins_nowhere (suc m) None other some e = refl
begins_nowhere (suc m) (Some n) other some e =
    let whole : (suc m == 0) ≡ false = eqb-suc-zero m in
    let any = is_below 8 (Some n) || is_below (suc m) other in
    let none : any ≡ false = sym (ap (λ (t : Bool). not t && any) whole) ∙ e in
    let past : 8 ≤ n = ltb-false n 8 (either (is_below 8 (Some n)) (is_below (suc m) other) none) in
    ap (λ (t : Bool). cond t (Some n) None) (lt-leb (n + suc m) 8 (omega (arith, past)))

offset_missed : (l : Location) (size : ℕ) (w : Option Location) → 0 < size → meets_word l size w ≡ false
    → offset_in l size w ≡ None
offset_missed l size (Some w) some e = begins_nowhere size (distance l w) (distance w l) some e
offset_missed l size None some e = refl

module _ (d : Description) (key : Key) (l : Location) (size : ℕ) (some : 0 < size) where
  passed_some : (from few n : ℕ) (x : AbsValue) (slots : List AbsValue) → n ≤ few → from + n ≤ length slots
      → IsApart d key l size from few
      → loaded_from d key l size from (drop from slots) ≡ loaded_from d key l size (from + n) (drop (from + n) slots)
  passed_some from few zero x slots within inside apart =
      let none : from ≡ from + 0 = omega arith in
      ap (λ (i : ℕ). loaded_from d key l size i (drop i slots)) none
  passed_some from few (suc n) x slots within inside apart =
      let i = from + n in
      let more : i + 1 ≡ from + suc n = omega arith in
      let below : i < length slots = omega (arith, inside) in
      let v = get_or slots i x in
      let held = offset_missed l size (word_of d key i) some (apart i (omega arith) (omega (arith, within))) in
      passed_some from few n x slots (omega (arith, within)) (omega (arith, inside)) apart
      ∙ loaded_step d key l size i slots v below (read_again slots i x below)
      ∙ ap (loaded_or d size v (loaded_from d key l size (i + 1) (drop (i + 1) slots))) held
      ∙ ap (λ (j : ℕ). loaded_from d key l size j (drop j slots)) more

  pub passed : (part : ℕ) (x : AbsValue) (slots : List AbsValue) → 8 * part + 8 ≤ length slots
      → IsApart d key l size (8 * part) 8
      → IsLoaded d key l size (8 * part) (8 * part + 8) slots None
  passed part x slots inside apart = passed_some (8 * part) 8 8 x slots (omega arith) inside apart

  pub passed_block : (block : ℕ) (x : AbsValue) (slots : List AbsValue) → 64 * block + 104 ≤ length slots
      → IsApart d key l size (64 * block + 40) 64
      → IsLoaded d key l size (64 * block + 40) (64 * block + 104) slots None
  passed_block block x slots inside apart =
      let end : 64 * block + 40 + 64 ≡ 64 * block + 104 = omega arith in
      passed_some (64 * block + 40) 64 64 x slots (omega arith) (omega (arith, inside)) apart
      ∙ ap (λ (j : ℕ). loaded_from d key l size j (drop j slots)) end
