-- Instructions on GS bases, model-specific registers and CR3 in the form of any row: their laws say the same of what is
-- after one, and C9 and C11 are among the conditions that hold. UD2 breaks C11 wherever it stands.
use Rattle.std.proofs.Common.{◌≡◌, List, Option, None, sym, subst}
use Rattle.std.proofs.lemmas.Bool.{false≢true}
use Rattle.kc_insn.specs.declared.insn.Insn.{Insn}
use Rattle.kc_insn.specs.declared.insn.Insn.TheVariants.{Ud2, Swapgs, Rdmsr, Wrmsr, ReadCr3, WriteCr3, ReadGs, WriteGs}
use Rattle.kc_insn.specs.declared.insn.Reg.{Reg}
use Rattle.kc_exec.specs.Moment.{Moment}
use Rattle.kc_exec.specs.declared.access.Write.{Write}
use Rattle.kc_exec.specs.declared.executed.Executed.{Executed}
use Rattle.kc_exec.specs.declared.state.Activation.{Activation}
use Rattle.kc_state.specs.AbsEffect.{AbsChange, AbsStore}
use Rattle.kc_state.specs.declared.key.Key.{Key}
use Rattle.kc_state.specs.declared.state.AbsState.{AbsState}
use Rattle.kc_system.specs.Laws.{CoversAlways, CoversKnownCr3, CoversAllowed}
use Rattle.kc_system.specs.System.{FallsThrough}
use Rattle.kc_system.proofs.LawLemmas as system
use Rattle.kc_moves.specs.Moves.{StoreAgrees}
use Rattle.kc_stack.specs.Rows.{GoesOnAt, RowGoesOn, CoversRow}

no_store : (m : Moment) (chain : List Activation) (store : Option AbsStore) (write : Option Write) → store ≡ None
    → write ≡ None → StoreAgrees m.cfg chain store write
no_store m chain store write e f =
    subst (λ o. StoreAgrees m.cfg chain o write) (sym e) (subst (StoreAgrees m.cfg chain None) (sym f) tt)

goes_on : (key : Key) (chain : List Activation) (s : AbsState) (m : Moment) (change : AbsChange) (done : Executed)
    → FallsThrough key chain s m change done → RowGoesOn key chain s m change done
goes_on key chain s m change done falls = record {
  row = falls.row;
  typed = falls.typed;
  kernel = falls.kernel;
  point = subst (λ u. GoesOnAt m u done.cpu) (sym falls.succ) (falls.mode, falls.rip);
  floors = falls.floors;
  store = no_store m chain change.store done.write falls.store falls.write;
  end = falls.end;
}

always : (insn : Insn) → CoversAlways insn → CoversRow insn
always insn law key chain s m K M spelling pass unguarded = goes_on key chain s m _ _ (law key chain s m K).falls

-- C9 holds
by_cr3 : (insn : Insn) → CoversKnownCr3 insn → CoversRow insn
by_cr3 insn law key chain s m K M spelling pass unguarded =
    goes_on key chain s m _ _ (law key chain s m K pass.cr3).falls

-- C11 holds
allowed : (insn : Insn) → CoversAllowed insn → CoversRow insn
allowed insn law key chain s m K M spelling pass unguarded =
    goes_on key chain s m _ _ (law key chain s m K pass.allowed).falls

pub ud2 : CoversRow Ud2
ud2 key chain s m K M spelling pass unguarded = absurd (false≢true pass.allowed)

pub swapgs : CoversRow Swapgs
swapgs = always Swapgs system.swapgs

pub rdmsr : CoversRow Rdmsr
rdmsr = allowed Rdmsr system.rdmsr

pub wrmsr : CoversRow Wrmsr
wrmsr = allowed Wrmsr system.wrmsr

pub read_cr3 : (r : Reg) → CoversRow (ReadCr3 r)
read_cr3 r = always (ReadCr3 r) (system.read_cr3 r)

pub write_cr3 : (r : Reg) → CoversRow (WriteCr3 r)
write_cr3 r = by_cr3 (WriteCr3 r) (system.write_cr3 r)

pub read_gs : (r : Reg) → CoversRow (ReadGs r)
read_gs r = always (ReadGs r) (system.read_gs r)

pub write_gs : (r : Reg) → CoversRow (WriteGs r)
write_gs r = allowed (WriteGs r) (system.write_gs r)
