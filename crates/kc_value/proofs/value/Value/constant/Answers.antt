use Rattle.std.proofs.Common.{◌≡◌, ℕ, ◌*◌, ◌%◌, ◌^◌, ◌<◌, sym, ap, ◌∙◌, subst, arith}
use Rattle.std.proofs.lemmas.Nat.{one_shl}
use Rattle.kc_bits.specs.KnownBits.{KnownBits}
use Rattle.kc_bits.specs.Bits.{StandsFor}
use Rattle.kc_value.specs.Place.{LiesIn, place_bit}
use Rattle.kc_value.proofs.MadeLemmas.{constant_stands}
use Rattle.kc_value.proofs.value.Value.constant.Goals as goal

-- the shifted bit is that of the place
pub returns-clause-sound : goal.returns-clause-sound
returns-clause-sound c = λ env at.
    let n = c.args.n in
    let whole = constant_stands n c.args.stack env (omega arith) at in
    let below : c.place_bit.result < 32 = omega (arith, c.place_bit.ensures.bound) in
    let stacks : 1 * 2 ^ c.place_bit.result % 2 ^ 32 ≡ 2 ^ place_bit c.args.stack =
    one_shl c.place_bit.result 32 below ∙ ap (λ (k : ℕ). 2 ^ k) c.place_bit.ensures.value in
    record {
      symbol = tt;
      bits = subst (λ (b : KnownBits). StandsFor b n) (sym c.of.ensures.value) whole.bits;
      place = subst (λ (set : ℕ). LiesIn set env.stacks n) (sym stacks) whole.place;
    }
