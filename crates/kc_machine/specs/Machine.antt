-- What contracts see of a machine.
use Rattle.std.specs.Prelude.{List}
use Rattle.kc_image.specs.Image.{Contents}
use Rattle.kc_regions.specs.Description.{Description}
use Rattle.kc_exec.specs.declared.access.Access.{Access}
use Rattle.kc_exec.specs.declared.state.State.{State}

-- the description, the image and the state, and the accesses of the last turn
pub record MachineValue : Type 0 where
  pub config : Description
  pub image : Contents
  pub state : State
  pub accesses : List Access
