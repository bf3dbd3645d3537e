-- What the contracts of a round see of the table: how it stood when the round began, and how many values it will have. This
-- project's own.
use Rattle.std.specs.Prelude.{◌≡◌, ◌≤◌, ℕ, ◌+◌, ◌-◌, List, length, sum_by}
use Rattle.kc_frames.specs.Clobber.{clobber_rank}
use Rattle.kc_frames.specs.ClobberSets.{ClobberSets}
use Rattle.kc_state.specs.State.{state_rank}
use Rattle.kc_state.specs.User.{user_rank}
use Rattle.kc_state.specs.declared.state.AbsState.{AbsState}
use Rattle.kc_state.specs.declared.user.UserState.{UserState}
use Rattle.kc_cert.specs.declared.certificate.TheConstants.{MAX_CONTEXTS, MAX_NODES}

-- the values as they stood, and how many there will be
abbrev pub Values : Type 0 → Type 0
Values A = List A × ℕ

-- no value came since
abbrev pub IsSettled : {A : Type 0} → Values A → Type 0
IsSettled v = v.1 ≡ length v.0

-- what is known while the user runs, what contexts may write, and what is known at nodes
pub record Rounds : Type 0 where
  pub user : UserState
  pub contexts : Values ClobberSets
  pub nodes : Values AbsState

pub record AreSettled (t : Rounds) : Type 0 where
  pub contexts : IsSettled t.contexts
  pub nodes : IsSettled t.nodes

-- how many contexts and nodes there will be
abbrev pub count : Rounds → ℕ
count t = t.contexts.1 + t.nodes.1

-- how many more there may be
abbrev pub room : Rounds → ℕ
room t = MAX_CONTEXTS + MAX_NODES - count t

-- how the table stood when the round began
abbrev pub stood : Rounds → UserState × (List ClobberSets × List AbsState)
stood t = (t.user, (t.contexts.0, t.nodes.0))

-- contexts and nodes come, and none goes
abbrev pub IsGrown : Rounds → Rounds → Type 0
IsGrown old new = (old.contexts.1 ≤ new.contexts.1) × (old.nodes.1 ≤ new.nodes.1)

-- the ranks of all values, which fall where values rise
abbrev pub total_rank : Rounds → ℕ
total_rank t = user_rank t.user + sum_by clobber_rank t.contexts.0 + sum_by state_rank t.nodes.0
