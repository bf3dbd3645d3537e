use Rattle.std.proofs.Common.{◌^◌, refl}
use Rattle.kc_config.proofs.AddressLemmas.{seven_below}
use Rattle.kc_config.proofs.cpu.add_seven.Goals as goal

pub returns-clause-in_range : goal.returns-clause-in_range
returns-clause-in_range c = (
  refl,
  seven_below (2 ^ 64) _ _ _ _ _ _ _ c.in_ok-add.ensures.in_range c.in_ok-add-2.ensures.in_range
      c.in_ok-add-3.ensures.in_range
      c.in_ok-add-4.ensures.in_range c.in_ok-add-5.ensures.in_range c.in_ok-add-6.ensures.in_range
      c.in_ok-add-7.ensures.in_range,
)
