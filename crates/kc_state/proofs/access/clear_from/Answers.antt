use Rattle.std.proofs.Common.{ℕ, ◌+◌, ◌<◌, max, sym, ap, ◌∙◌, subst, arith}
use Rattle.kc_regions.specs.Description.{Description}
use Rattle.kc_regions.specs.Region.{stack_of}
use Rattle.kc_state.specs.Access.{clear_stack, HoldsBytes}
use Rattle.kc_state.proofs.ByteLemmas.{clear_within}
use Rattle.kc_state.proofs.access.clear_from.Goals as goal

-- the stack of the first byte is that of each
pub returns-then-holds_bytes : goal.returns-then-holds_bytes
returns-then-holds_bytes c =
    let d = c.args.cfg.now in
    let key = c.args.key.now in
    let floors = c.args.floors.now in
    let end = c.args.a + c.args.size in
    let some : 0 < max c.args.size 1 = omega arith in
    let held : HoldsBytes c.args.first.now.span c.args.a (max c.args.size 1) =
    subst (λ (n : ℕ). HoldsBytes c.args.first.now.span c.args.a n) c.max.ensures
    (c.holds_bytes.ensures c.if-holds_bytes.true) in
    let stack = c.stack_of.ensures.value ∙ ap (λ (z : Description). stack_of z.regions c.args.a) c.cfg.view_is in
    c.clear_stack.ensures ∙ ap (clear_stack key floors end) stack
    ∙ sym (clear_within d key floors c.args.first.now end c.args.a (max c.args.size 1) c.tell.ensures.valid.regions
    c.requires some held)
