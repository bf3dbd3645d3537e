use Rattle.std.proofs.Common.{ap, subst}
use Rattle.kc_bits.specs.Bits.{IsValid}
use Rattle.kc_value.specs.AbsValue.{AbsValue}
use Rattle.kc_value.proofs.MadeLemmas.{low_stands, low_grows}
use Rattle.kc_value.proofs.value.Value.low.Goals as goal

pub returns-clause-sound : goal.returns-clause-sound
returns-clause-sound c = λ place env n h r at.
    low_stands place c.args.self.now env n (subst IsValid (ap (λ (v : AbsValue). v.bits) c.self.view_is)
    c.tell.ensures.valid) r at

pub returns-clause-monotone : goal.returns-clause-monotone
returns-clause-monotone c = λ place greater places h below.
    low_grows place c.args.self.now greater places
    (subst IsValid (ap (λ (v : AbsValue). v.bits) c.self.view_is) c.tell.ensures.valid) h.bits_fit below
