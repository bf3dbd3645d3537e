use Rattle.std.proofs.Common.{◌≡◌, ℕ, true, sym, subst}
use Rattle.kc_state.specs.Scaled.{is_scale}
use Rattle.kc_state.proofs.ScaleLemmas.{scaled_apart}
use Rattle.kc_state.proofs.ScaleLemmas.{scales}
use Rattle.kc_state.proofs.operand.scaled_bits.Goals as goal

pub invariant_of-result : goal.invariant_of-result
invariant_of-result c =
    let by = c.from-by.result in
    let is : is_scale by ≡ true = subst (λ (s : ℕ). is_scale s ≡ true) (sym c.from-by.ensures) c.requires in
    scaled_apart c.b.inside.zeros c.b.inside.ones by c.b.invariant (scales by is)
