-- What is known while the user runs, this project's own: order, join and top part by part.
use Rattle.std.specs.Prelude.{ℕ, ◌+◌, Bool, ◌&&◌, map, sum_by}
use Rattle.kc_lattice.specs.Rows.{rows_below, rows_joined}
use Rattle.kc_frames.specs.Slots.{every_slot, AreSlots}
use Rattle.kc_space.specs.Latches.{tri_below, tri_joined, tri_rank}
use Rattle.kc_space.specs.declared.tri.Tri.TheVariants.{Any}
use Rattle.kc_value.specs.Value.{IsValidValue, value_below, value_joined, value_top, value_rank}
use Rattle.kc_state.specs.declared.user.UserState.{UserState}

abbrev pub IsUserState : UserState → Type 0
IsUserState u = AreSlots IsValidValue u.slots

abbrev pub user_below : UserState → UserState → Bool
user_below lesser greater =
    tri_below lesser.nmi_blocked greater.nmi_blocked
    && (tri_below lesser.mcip greater.mcip && rows_below value_below lesser.slots greater.slots)

abbrev pub user_joined : UserState → UserState → UserState
user_joined x y = record {
  nmi_blocked = tri_joined x.nmi_blocked y.nmi_blocked;
  mcip = tri_joined x.mcip y.mcip;
  slots = rows_joined value_joined x.slots y.slots;
}

-- nothing is known
abbrev pub user_top : UserState
user_top = record { nmi_blocked = Any; mcip = Any; slots = every_slot value_top }

-- the same, part by part
abbrev pub top_of_user : UserState → UserState
top_of_user u = record { nmi_blocked = Any; mcip = Any; slots = map (λ v. value_top) u.slots }

abbrev pub user_rank : UserState → ℕ
user_rank u = tri_rank u.nmi_blocked + (tri_rank u.mcip + sum_by value_rank u.slots)
