-- A C handler's edit of the user's saved frame where a state describes the machine while the handler runs, a law. This
-- project's own. The places of the words: Intel SDM vol. 3A, "64-Bit Mode Stack Frame".
use Rattle.std.specs.Prelude.{◌≡◌, ℕ, Option, Some, IfSome, slice_get}
use Rattle.kc_insn.specs.declared.insn.Insn.{Insn}
use Rattle.kc_regions.specs.Description.{Description}
use Rattle.kc_regions.specs.Valid.{IsValid}
use Rattle.kc_regions.specs.declared.entry.Handler.{Handler}
use Rattle.kc_regions.specs.declared.region.Region.{Region}
use Rattle.kc_cpu.specs.declared.cpu.Call.{Call}
use Rattle.kc_cpu.specs.declared.cpu.Mode.TheVariants.{Inside}
use Rattle.kc_exec.specs.declared.state.State.{State}
use Rattle.kc_events.specs.declared.turn.Edit.{Edit}
use Rattle.kc_events.specs.Allowed.{InterruptedUser, FrameFits, AreEditsValid, stack_over}
use Rattle.kc_events.specs.Attempt.{frame_of}
use Rattle.kc_events.specs.Delivery.{with_pushed}
use Rattle.kc_events.specs.Edits.{edited_words, with_edit}
use Rattle.kc_state.specs.Location.{location_of}
use Rattle.kc_state.specs.State.{IsState}
use Rattle.kc_state.specs.declared.key.Key.{Key}
use Rattle.kc_state.specs.declared.location.Location.{Location}
use Rattle.kc_state.specs.declared.state.AbsState.{AbsState}
use Rattle.kc_describes.specs.Describes.{Describes}
use Rattle.kc_describes.specs.Row.{value_at}
use Rattle.kc_describes.specs.Widths.{IsWord}
use Rattle.kc_calls.specs.Laws.{body_of}

-- each edited word fits its register, as its type says
pub record IsEditSet (edit : Edit) : Type 0 where
  pub rip : IfSome edit.rip IsWord
  pub flags : IfSome edit.flags IsWord
  pub rsp : IfSome edit.rsp IsWord

-- The handler that runs may make the edit: the user was interrupted, the frame lies in the handler's stack, the edited
-- words are a user's, and the state knows RSP's location, as C4 asks.
pub record IsEditing (cfg : Description) (key : Key) (s : AbsState) (S : State) (call : Call) (edit : Edit) : Type 0
  where
    pub handler : Handler
    pub stack : Region
    pub location : Location
    pub mode : S.cpu.mode ≡ Inside call
    pub contract : slice_get cfg.handlers call.handler ≡ Some handler
    pub over : stack_over cfg.regions call.rsp ≡ Some stack
    pub user : InterruptedUser S.chain
    pub frame : FrameFits call.rsp handler.frame stack
    pub edits : AreEditsValid cfg edit
    pub words : IsEditSet edit
    pub placed : location_of key (value_at s.regs 4) ≡ Some location

-- the edited words are in memory, and the newest activation's return has to restore them
abbrev pub edited_state : Description → State → Call → Edit → State
edited_state cfg S call edit = record S {
  mem = record S.mem { bytes = with_pushed S.mem.bytes (edited_words (frame_of cfg call) edit) };
  chain = with_edit edit S.chain;
}

-- An edit that the handler may make leaves a machine that the same state describes. What else a turn of the handler
-- leaves comes first: S is the machine after the turn's registers and the bytes that it writes.
abbrev pub EditIsDescribed : Type 0
EditIsDescribed = (cfg : Description) (key : Key) (at : ℕ) (found : Option (Insn × ℕ)) (s : AbsState) (S : State)
    (call : Call) (edit : Edit) → IsValid cfg → IsState s → Describes cfg key (body_of at) found s S
    → IsEditing cfg key s S call edit → Describes cfg key (body_of at) found s (edited_state cfg S call edit)
