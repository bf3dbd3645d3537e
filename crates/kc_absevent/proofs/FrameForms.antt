-- Of a slot after those of a frame nothing is known at an entry, where nothing was known of it.
use Rattle.std.proofs.Common.{◌≡◌, ℕ, ◌+◌, ◌-◌, ◌≤◌, Bool, true, false, cond, not, nat_le, List, length, refl, sym, ap, ◌∙◌, subst, arith}
use Rattle.std.proofs.lemmas.List.{get_or_past}
use Rattle.kc_value.specs.AbsValue.{AbsValue}
use Rattle.kc_value.specs.Value.{value_top}
use Rattle.kc_state.specs.AbsDelivery.{entered_slot}

still_top : (first : Bool) → cond first value_top value_top ≡ value_top
still_top true = refl
still_top false = refl

pub entered_top : (frame : List AbsValue) (i j : ℕ) (old : AbsValue) → length frame + 40 ≤ i → i ≤ j
    → old ≡ value_top → entered_slot frame j old ≡ old
entered_top frame i j old low above e =
    let past = get_or_past frame (j - 40) value_top (omega (arith, low, above)) in
    subst (λ (v : AbsValue). entered_slot frame j v ≡ v) (sym e)
    (ap (λ (v : AbsValue). cond (not (nat_le 40 j)) value_top v) past ∙ still_top (not (nat_le 40 j)))
