-- What stands after a return, this project's own.
use Rattle.std.specs.Prelude.{◌≡◌, false, [], ◌∷◌, ◌++◌}
use Rattle.kc_regions.specs.Description.{Description}
use Rattle.kc_cpu.specs.declared.cpu.Mode.TheVariants.{User}
use Rattle.kc_exec.specs.declared.state.Activation.{Activation}
use Rattle.kc_exec.specs.declared.state.State.{State}
use Rattle.kc_exec.specs.Admitted.{IsAdmitted}
use Rattle.kc_events.specs.Breaks.{Restores}
use Rattle.kc_describes.specs.Widths.{IsMachine}

-- T is S after a return: the newest activation is gone, its context is back in its own mode, and no byte of memory has
-- changed. After a return to the user the chain is empty and the processor an admitted one.
pub record GivesBack (cfg : Description) (S T : State) : Type 0 where
  pub typed : IsMachine T
  pub running : T.stopped ≡ false
  pub activation : Activation
  pub chain : S.chain ≡ T.chain ++ activation ∷ []
  pub context : Restores T.cpu activation
  pub mode : T.cpu.mode ≡ activation.saved.mode
  pub memory : T.mem.bytes ≡ S.mem.bytes
  pub user : activation.saved.mode ≡ User → (T.chain ≡ []) × IsAdmitted cfg T.cpu
