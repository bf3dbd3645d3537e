-- What a C handler's turns do where a state describes the machine while the handler runs, each a law. This project's
-- own.
use Rattle.std.specs.Prelude.{◌≡◌, ℕ, ◌+◌, true, false, length, All, Option, Some}
use Rattle.kc_bits.specs.Bits.{word}
use Rattle.kc_insn.specs.declared.insn.Insn.{Insn}
use Rattle.kc_image.specs.Image.{Contents}
use Rattle.kc_regions.specs.Description.{Description}
use Rattle.kc_regions.specs.Valid.{IsValid}
use Rattle.kc_exec.specs.declared.state.State.{State}
use Rattle.kc_events.specs.declared.turn.LeaveSet.{LeaveSet}
use Rattle.kc_events.specs.declared.turn.Turn.TheVariants.{Leave}
use Rattle.kc_events.specs.Allowed.{IsAllowed}
use Rattle.kc_events.specs.Run.{Breaks, Steps}
use Rattle.kc_state.specs.Calls.{after_handler}
use Rattle.kc_state.specs.State.{IsState}
use Rattle.kc_state.specs.declared.key.Key.{Key}
use Rattle.kc_state.specs.declared.site.Site.{Site}
use Rattle.kc_state.specs.declared.state.AbsState.{AbsState}
use Rattle.kc_describes.specs.Describes.{Describes}
use Rattle.kc_describes.specs.Widths.{IsWord}

-- the body of the handler that the instruction at this address calls, and the code at an address
abbrev pub body_of : ℕ → Site
body_of at = record { at = at; inside = true }

abbrev pub code_at : ℕ → Site
code_at t = record { at = t; inside = false }

-- ---- the end

-- each number of the turn fits its register, as its type says
pub record IsLeaveSet (l : LeaveSet) : Type 0 where
  pub regs : (length l.regs ≡ 16) × All IsWord l.regs
  pub flags : IsWord l.flags

-- There is a state after the handler's end. The turn breaks nothing, and the state describes the machine that it leads
-- to, at the instruction after the call; `found` is what is there.
pub record IsLeaveCovered (cfg : Description) (image : Contents) (key : Key) (at : ℕ) (insn : Insn) (len : ℕ)
    (s : AbsState) (S : State) (l : LeaveSet) : Type 0
  where
    pub out : AbsState
    pub known : after_handler cfg key s insn ≡ Some out
    pub quiet : (b : ℕ) → ¬ Breaks cfg image S (Leave l) b
    pub goes : (found : Option (Insn × ℕ)) (T : State) → Steps cfg image S (Leave l) T
        → Describes cfg key (code_at (word (at + len))) found out T

-- a handler's end that may come is covered, where a state describes the machine while the handler runs
abbrev pub LeaveIsCovered : Type 0
LeaveIsCovered = (cfg : Description) (image : Contents) (key : Key) (at : ℕ) (insn : Insn) (len : ℕ) (s : AbsState)
    (S : State) (l : LeaveSet) (here : Option (Insn × ℕ)) → IsValid cfg → IsState s → IsLeaveSet l
    → Describes cfg key (body_of at) (Some (insn, len)) s S → IsAllowed cfg here S (Leave l)
    → IsLeaveCovered cfg image key at insn len s S l
