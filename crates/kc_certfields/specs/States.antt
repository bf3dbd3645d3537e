-- Reading states, this project's own.
use Rattle.std.specs.Prelude.{ℕ, Ok}
use Rattle.kc_rules.specs.Rules.{◌>>=◌}
use Rattle.kc_frames.specs.Slots.{slot_count}
use Rattle.kc_state.specs.declared.state.AbsState.{AbsState}
use Rattle.kc_state.specs.declared.user.UserState.{UserState}
use Rattle.kc_certfields.specs.Rest.{Rest}
use Rattle.kc_certfields.specs.Reads.{Reading}
use Rattle.kc_certfields.specs.Spaces.{tri_at, gs_at, map_at, latches_at}
use Rattle.kc_certfields.specs.Values.{value_at, values_at}
use Rattle.kc_certfields.specs.Slots.{slots_at}
use Rattle.kc_certfields.specs.Floors.{floors_at}

-- with the floors of so many stacks
unfoldable pub state_at : ℕ → Reading AbsState
state_at stacks i = do
  regs ← values_at 16 i
  flags ← value_at regs.1
  gs ← gs_at flags.1
  map ← map_at gs.1
  latches ← latches_at map.1
  floors ← floors_at stacks latches.1
  slots ← slots_at slot_count floors.1
  Ok (
    record {
      regs = regs.0;
      flags = flags.0;
      gs = gs.0;
      map = map.0;
      latches = latches.0;
      floors = floors.0;
      slots = slots.0;
    },
    slots.1,
  )

-- the words that the user's state may know: the TSS's and the configuration's
abbrev pub user_slots : ℕ
user_slots = 40

unfoldable pub user_at : Reading UserState
user_at i = do
  nmi ← tri_at i
  mcip ← tri_at nmi.1
  slots ← slots_at user_slots mcip.1
  Ok (record { nmi_blocked = nmi.0; mcip = mcip.0; slots = slots.0 }, slots.1)
