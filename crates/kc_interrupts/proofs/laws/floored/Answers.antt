use Rattle.std.proofs.Common.{refl}
use Rattle.kc_interrupts.proofs.ChainFloorLemmas.{interrupted_stand}
use Rattle.kc_interrupts.proofs.laws.floored.Goals as goal

pub returns : goal.returns
returns c = record {
  bound = λ cfg key chain floors a base stays stack n valid F ok stand.
      interrupted_stand cfg valid key chain F floors ok stand a.saved a refl base stays stack n;
}
