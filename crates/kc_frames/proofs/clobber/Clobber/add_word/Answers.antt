use Rattle.std.proofs.Common.{◌≡◌, ℕ, ◌*◌, ◌%◌, ◌^◌, ◌<◌, bit_or, sym, subst, arith}
use Rattle.std.proofs.lemmas.Nat.{one_shl}
use Rattle.kc_shapes.specs.SetLaws.{added_fits, added_bit}
use Rattle.kc_frames.proofs.clobber.Clobber.add_word.Goals as goal

pub invariant_of-self : goal.invariant_of-self
invariant_of-self c =
    let bit : 1 * 2 ^ c.args.w % 2 ^ 64 ≡ 2 ^ c.args.w = one_shl c.args.w 64 (omega (arith, c.requires)) in (
      c.self.invariant.0,
      subst (λ (n : ℕ). bit_or c.self.inside.words n < 2 ^ 40) (sym bit)
          (added_fits 40 c.self.inside.words c.args.w c.self.invariant.1 c.requires),
    )

pub returns-clause-words : goal.returns-clause-words
returns-clause-words c =
    let bit : 1 * 2 ^ c.args.w % 2 ^ 64 ≡ 2 ^ c.args.w = one_shl c.args.w 64 (omega (arith, c.requires)) in
    rw (bit, ← c.self.view_is) (λ t. added_bit c.self.inside.words c.args.w t)
