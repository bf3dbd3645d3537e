-- What is said of the machine while the user runs, this project's own.
use Rattle.std.specs.Prelude.{◌≡◌, ℕ, ◌<◌, false, List, [], Some}
use Rattle.kc_regions.specs.Description.{Description}
use Rattle.kc_cpu.specs.declared.cpu.Mode.TheVariants.{User}
use Rattle.kc_mem.specs.Memory.{Bytes}
use Rattle.kc_exec.specs.declared.state.State.{State}
use Rattle.kc_exec.specs.Admitted.{IsAdmitted}
use Rattle.kc_space.specs.Latches.{TriStands}
use Rattle.kc_value.specs.AbsValue.{AbsValue}
use Rattle.kc_value.specs.declared.symbol.Sym.TheVariants.{Plain}
use Rattle.kc_state.specs.Places.{word_of}
use Rattle.kc_state.specs.declared.key.Key.{Key}
use Rattle.kc_state.specs.declared.location.Location.{Location}
use Rattle.kc_state.specs.declared.user.UserState.{UserState}
use Rattle.kc_describes.specs.Chain.{env_of}
use Rattle.kc_describes.specs.Places.{WordStands}
use Rattle.kc_describes.specs.Row.{value_at}
use Rattle.kc_describes.specs.Widths.{IsMachine}

-- The words of the TSS and of the configuration, which lie at the same addresses whatever the key, are stood for by
-- values without a symbol.
abbrev pub FixedWordsStand : Description → List AbsValue → Bytes → Type 0
FixedWordsStand cfg slots mem = (key : Key) (i : ℕ) (l : Location) → i < 40 → word_of cfg key i ≡ Some l
    → ((value_at slots i).sym ≡ Plain) × WordStands (env_of cfg []) mem (value_at slots i) l

pub record UserDescribes (cfg : Description) (u : UserState) (S : State) : Type 0 where
  pub typed : IsMachine S
  pub running : S.stopped ≡ false
  pub mode : S.cpu.mode ≡ User
  pub chain : S.chain ≡ []
  pub processor : IsAdmitted cfg S.cpu
  pub shadow : S.latch.shadow ≡ false
  pub nmi_blocked : TriStands u.nmi_blocked S.latch.nmi_blocked
  pub mcip : TriStands u.mcip S.latch.mcip
  pub words : FixedWordsStand cfg u.slots S.mem.bytes
