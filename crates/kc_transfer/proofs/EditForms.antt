-- Of a word of which nothing is known nothing is known after an edit either.
use Rattle.std.proofs.Common.{◌≡◌, ℕ, Bool, true, false, ◌||◌, Option, refl, sym, subst}
use Rattle.std.specs.Prelude.{if◌then◌else◌}
use Rattle.kc_regions.specs.Description.{Description}
use Rattle.kc_value.specs.AbsValue.{AbsValue}
use Rattle.kc_value.specs.Value.{value_top}
use Rattle.kc_state.specs.Calls.{edited_by, edited, moved_up}
use Rattle.kc_state.specs.Memory.{is_just, meets_word}
use Rattle.kc_state.specs.Places.{word_of}
use Rattle.kc_state.specs.declared.key.Key.{Key}
use Rattle.kc_state.specs.declared.location.Location.{Location}

-- the five outcomes of an edit are the top
all_top : (rip flags rsp hit : Bool)
    → (if rip then value_top else if flags then value_top else if rsp then value_top else
    if hit then value_top else value_top) ≡ value_top
all_top true flags rsp hit = refl
all_top false true rsp hit = refl
all_top false false true hit = refl
all_top false false false true = refl
all_top false false false false = refl

edited_by_top : (w : Option Location) (l : Location) → edited_by w l value_top ≡ value_top
edited_by_top w l =
    all_top (is_just l 8 w) (is_just (moved_up l 16) 8 w) (is_just (moved_up l 24) 8 w)
    (meets_word l 8 w || (meets_word (moved_up l 16) 8 w || meets_word (moved_up l 24) 8 w))

pub edited_top : (d : Description) (key : Key) (l : Location) (i : ℕ) (old : AbsValue) → old ≡ value_top
    → edited d key l i old ≡ old
edited_top d key l i old e =
    subst (λ (v : AbsValue). edited d key l i v ≡ v) (sym e) (edited_by_top (word_of d key i) l)
