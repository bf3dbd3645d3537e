use Rattle.std.proofs.Common.{◌≡◌, ◌∙◌, sym, ap}
use Rattle.kc_bits.specs.KnownBits.{KnownBits}
use Rattle.kc_bits.proofs.Masks.{least_stands}
use Rattle.kc_bits.proofs.Whole.{known_only}
use Rattle.kc_bits.proofs.bits.Bits.single.Goals as goal

-- with no bit open, the ones are the only word
pub returns-then-open-eq0-clause-only : goal.returns-then-open-eq0-clause-only
returns-then-open-eq0-clause-only c =
    let ones : c.self.inside.ones ≡ c.args.self.now.ones = ap (λ (b : KnownBits). b.ones) c.self.view_is in
    rw ones (
      least_stands c.args.self.now c.tell.ensures.valid,
      λ n h s. known_only c.args.self.now n c.tell.ensures.valid h (sym c.unknown-open.ensures ∙ c.if-open-eq0.true) s,
    )
