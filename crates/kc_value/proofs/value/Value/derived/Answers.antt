use Rattle.kc_value.proofs.MadeLemmas.{derived_stands, derived_grows}
use Rattle.kc_value.proofs.value.Value.derived.Goals as goal

pub returns-in-Some-clause-sound : goal.returns-in-Some-clause-sound
returns-in-Some-clause-sound c =
    λ place env n h s at. derived_stands place c.args.bits.now env n c.tell.ensures.valid h s at

pub returns-in-Some-clause-monotone : goal.returns-in-Some-clause-monotone
returns-in-Some-clause-monotone c =
    λ place greater places h below. derived_grows place c.args.bits.now greater places c.tell.ensures.valid h below

pub returns-in-None-clause-sound : goal.returns-in-None-clause-sound
returns-in-None-clause-sound c =
    λ place env n h s at. derived_stands place c.args.bits.now env n c.tell.ensures.valid h s at

pub returns-in-None-clause-monotone : goal.returns-in-None-clause-monotone
returns-in-None-clause-monotone c =
    λ place greater places h below. derived_grows place c.args.bits.now greater places c.tell.ensures.valid h below
