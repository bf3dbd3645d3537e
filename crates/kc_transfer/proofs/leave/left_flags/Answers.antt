use Rattle.std.proofs.Common.{◌≡◌, bit_and, bit_or, sym, ◌∙◌, subst}
use Rattle.kc_bits.specs.KnownBits.{KnownBits}
use Rattle.kc_bits.specs.Bits.{flipped}
use Rattle.kc_transfer.proofs.MaskLemmas.{left_apart}
use Rattle.kc_transfer.proofs.leave.left_flags.Goals as goal

pub invariant_of-result : goal.invariant_of-result
invariant_of-result c =
    subst (λ (f : KnownBits). bit_and (bit_or (bit_or (flipped 0x240FD7) 0x400) f.zeros) (bit_or 2 f.ones) ≡ 0)
    (sym (c.flag.view_is ∙ c.left_if-flag.ensures)) (left_apart c.args.b.now c.args.after_if c.tell.ensures.valid.apart)
