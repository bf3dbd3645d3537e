use Rattle.std.proofs.Common.{pos, neg_ℤ, ap, ◌∙◌}
use Rattle.kc_value.specs.AbsValue.{AbsValue}
use Rattle.kc_state.specs.AbsEffect.{on_stack, pushed}
use Rattle.kc_state.specs.Location.{location_of}
use Rattle.kc_state.specs.Shift.{shifted}
use Rattle.kc_state.proofs.top_of_stack.pushed.Goals as goal

-- RSP less 8, in the stack of the key
pub returns : goal.returns
returns c =
    let d = c.m.inside.cfg.now in
    let key = c.m.inside.key.now in
    let moved = c.shift.ensures.value ∙ ap (λ (v : AbsValue). shifted d key v (neg_ℤ (pos 8)))
    c.value_of.ensures.value in
    record {
      value =
          c.on_stack.ensures ∙ ap (λ (v : AbsValue). on_stack key v (location_of key v)) moved ∙ ap pushed c.m.view_is;
    }
