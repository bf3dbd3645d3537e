-- The laws of user states: the `Domain` of `UserState` cites these.
use Rattle.std.proofs.Common.{◌+◌, ◌*◌, ◌^◌, ◌≤◌, List, refl, sym, ◌∙◌, arith}
use Rattle.kc_lattice.specs.Laws.{Laws, AllAlike}
use Rattle.kc_lattice.specs.PairLaws.{both_laws}
use Rattle.kc_lattice.specs.declared.both.Both.{Both}
use Rattle.kc_shapes.specs.RowLaws.{all_alike_rows}
use Rattle.kc_shapes.specs.ShapeLaws.{reshaped_laws}
use Rattle.kc_frames.specs.SlotsLaws.{slots_laws, slots_rank-le}
use Rattle.kc_space.specs.LatchesLaws.{tri_laws, tri_rank-le}
use Rattle.kc_space.specs.declared.tri.Tri.{Tri}
use Rattle.kc_value.specs.AbsValue.{AbsValue}
use Rattle.kc_value.specs.ValueLaws.{value_laws}
use Rattle.kc_state.specs.StateLaws.{value_rank-le}
use Rattle.kc_state.specs.User.{IsUserState, user_below, user_joined, top_of_user, user_rank}
use Rattle.kc_state.specs.declared.user.UserState.{UserState}

abbrev parts : UserState → Both Tri (Both Tri (List AbsValue))
parts u = record { first = u.nmi_blocked; second = record { first = u.mcip; second = u.slots } }

abbrev of_parts : Both Tri (Both Tri (List AbsValue)) → UserState
of_parts b = record { nmi_blocked = b.first; mcip = b.second.first; slots = b.second.second }

pub user_laws : Laws IsUserState AllAlike user_below user_joined top_of_user user_rank
user_laws = reshaped_laws (both_laws tri_laws (both_laws tri_laws (slots_laws value_laws))) parts of_parts (λ x. refl)
    (λ y. refl) IsUserState
    (λ x h. (tt, (tt, h))) (λ y h. h.1.1) (λ x y hx hy. (tt, (tt, all_alike_rows x.slots y.slots (hx.1 ∙ sym hy.1))))

-- 296 values and two latches
pub user_rank-le : (u : UserState) → IsUserState u → user_rank u ≤ 296 * (2 ^ 64 + 2 ^ 17) + 2
user_rank-le u h =
    let slots = slots_rank-le value_laws (2 ^ 64 + 2 ^ 17) value_rank-le u.slots h in
    omega (arith, slots, tri_rank-le u.nmi_blocked, tri_rank-le u.mcip)
