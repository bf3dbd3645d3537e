use Rattle.std.proofs.Common.{ℕ, ◌*◌, ◌/◌, ◌^◌, sym, ap, ◌∙◌}
use Rattle.std.proofs.Math.Nat.{zero-div}
use Rattle.std.proofs.lemmas.Nat.{and_shr}
use Rattle.kc_state.proofs.slot.bits_from.Goals as goal

pub invariant_of-result : goal.invariant_of-result
invariant_of-result c =
    let by = 8 * c.args.off in
    sym (and_shr c.bits.inside.zeros c.bits.inside.ones by) ∙ ap (λ (n : ℕ). n / 2 ^ by) c.bits.invariant
    ∙ zero-div (2 ^ by)
