-- The two ends of a chain of activations, and what the symbols of values name there, this project's own.
use Rattle.std.specs.Prelude.{◌≡◌, ◌≢◌, ℕ, false, List, [], ◌∷◌, ◌++◌, replicate, All}
use Rattle.std.specs.Option.{unwrap_or}
use Rattle.kc_regions.specs.Description.{Description}
use Rattle.kc_cpu.specs.declared.cpu.Cpu.{Cpu}
use Rattle.kc_cpu.specs.declared.cpu.Mode.TheVariants.{User}
use Rattle.kc_exec.specs.declared.state.Activation.{Activation}
use Rattle.kc_exec.specs.Admitted.{IsAdmitted}
use Rattle.kc_exec.specs.Register.{register, with_register, rsp}
use Rattle.kc_events.specs.Turns.{newest}
use Rattle.kc_value.specs.declared.env.ValueEnv.{ValueEnv}
use Rattle.kc_describes.specs.Places.{stack_spans}

-- ---- the ends

-- an activation for the chain that has none, so that both ends are functions of the chain
abbrev pub no_cpu : Cpu
no_cpu = record {
  regs = replicate 16 0;
  rip = 0;
  flags = 0;
  cs = 0;
  ss = 0;
  gs = 0;
  kgs = 0;
  cr3 = 0;
  mode = User;
}

abbrev pub no_activation : Activation
no_activation = record { syscall = false; vector = 0; saved = no_cpu; base = 0; due = no_cpu }

abbrev pub newest_of : List Activation → Activation
newest_of chain = unwrap_or (newest chain) no_activation

abbrev pub oldest_of : List Activation → Activation
oldest_of [] = no_activation
oldest_of (a ∷ newer) = a

-- ---- the words that symbols name

-- the 16 registers, RIP, RFLAGS, CS and SS
abbrev pub words_of : Cpu → List ℕ
words_of cpu = cpu.regs ++ cpu.rip ∷ cpu.flags ∷ cpu.cs ∷ cpu.ss ∷ []

-- the active GS base of the user whom the oldest activation interrupted
abbrev pub user_gs_of : List Activation → ℕ
user_gs_of chain = (oldest_of chain).saved.gs

-- the words of the processor that the newest activation's return has to restore, that activation's base, the user's GS
-- base, and the stacks
abbrev pub env_of : Description → List Activation → ValueEnv
env_of cfg chain = record {
  words = words_of (newest_of chain).due;
  base = (newest_of chain).base;
  user_gs = user_gs_of chain;
  stacks = stack_spans cfg;
}

-- ---- who was interrupted

-- the oldest activation, and no other, interrupted the user
abbrev pub OnlyOldestIsUser : List Activation → Type 0
OnlyOldestIsUser [] = ⊥
OnlyOldestIsUser (a ∷ newer) = (a.saved.mode ≡ User) × All (λ b. b.saved.mode ≢ User) newer

-- this is the saved processor with a RIP, RFLAGS and RSP that handlers may have edited
abbrev pub IsEdited : Cpu → Cpu → Type 0
IsEdited saved due =
    due ≡ record (with_register rsp (register due rsp) saved) { rip = due.rip; flags = due.flags }

-- What a return has to restore: of the kernel what was interrupted; of the user an admitted processor, which handlers
-- may have edited.
pub record IsDue (cfg : Description) (a : Activation) : Type 0 where
  pub kernel : a.saved.mode ≢ User → a.due ≡ a.saved
  pub user : a.saved.mode ≡ User → IsAdmitted cfg a.due × IsEdited a.saved a.due
