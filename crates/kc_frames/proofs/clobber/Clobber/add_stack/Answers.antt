use Rattle.std.proofs.Common.{◌≡◌, ℕ, ◌*◌, ◌%◌, ◌^◌, ◌<◌, bit_or, sym, subst, arith}
use Rattle.std.proofs.lemmas.Nat.{one_shl}
use Rattle.kc_shapes.specs.SetLaws.{added_fits, added_bit}
use Rattle.kc_frames.proofs.clobber.Clobber.add_stack.Goals as goal

pub invariant_of-self : goal.invariant_of-self
invariant_of-self c =
    let bit : 1 * 2 ^ c.args.s % 2 ^ 32 ≡ 2 ^ c.args.s = one_shl c.args.s 32 (omega (arith, c.requires)) in (
      subst (λ (n : ℕ). bit_or c.self.inside.stacks n < 2 ^ 16) (sym bit)
          (added_fits 16 c.self.inside.stacks c.args.s c.self.invariant.0 c.requires),
      c.self.invariant.1,
    )

pub returns-clause-stacks : goal.returns-clause-stacks
returns-clause-stacks c =
    let bit : 1 * 2 ^ c.args.s % 2 ^ 32 ≡ 2 ^ c.args.s = one_shl c.args.s 32 (omega (arith, c.requires)) in
    rw (bit, ← c.self.view_is) (λ t. added_bit c.self.inside.stacks c.args.s t)
