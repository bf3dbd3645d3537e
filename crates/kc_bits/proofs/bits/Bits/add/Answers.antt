use Rattle.std.proofs.Common.{ℕ, ◌+◌, ◌≡◌, sym, subst, rules}
use Rattle.kc_bits.specs.KnownBits.{KnownBits}
use Rattle.kc_bits.specs.Bits.{IsSound, bits_add, word}
use Rattle.kc_bits.proofs.Sums.{add_sound, add_monotone}
use Rattle.kc_bits.proofs.bits.Bits.add.Goals as goal

pub returns-clause-sound : goal.returns-clause-sound
returns-clause-sound c =
    let a = c.args.self.now in
    let b = c.args.other.now in
    let value : c.known_but.result ≡ bits_add a b = search rules in
    subst (λ (r : KnownBits). IsSound (λ (x : ℕ) (y : ℕ). word (x + y)) a b r) (sym value)
    (add_sound a b c.tell.ensures.valid c.tell-2.ensures.valid)

pub returns-clause-monotone : goal.returns-clause-monotone
returns-clause-monotone c = add_monotone c.args.self.now c.args.other.now c.tell.ensures.valid c.tell-2.ensures.valid
