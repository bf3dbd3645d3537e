-- Moves in the form of any row: their law says the same of what is after one, and each goes on at the next instruction.
use Rattle.std.proofs.Common.{List, sym, subst}
use Rattle.kc_words.specs.declared.width.Width.{Width}
use Rattle.kc_insn.specs.declared.insn.Insn.{Insn}
use Rattle.kc_insn.specs.declared.insn.Insn.TheVariants.{Nop, Endbr64, Lfence, Mov, Lea, Xchg}
use Rattle.kc_insn.specs.declared.insn.Mem.{Mem}
use Rattle.kc_insn.specs.declared.insn.Place.{Place}
use Rattle.kc_insn.specs.declared.insn.Reg.{Reg}
use Rattle.kc_insn.specs.declared.insn.Source.{Source}
use Rattle.kc_insn.specs.declared.insn.Source.TheVariants as source
use Rattle.kc_insn.specs.Fields.{source_of}
use Rattle.kc_exec.specs.Moment.{Moment}
use Rattle.kc_exec.specs.declared.executed.Executed.{Executed}
use Rattle.kc_exec.specs.declared.state.Activation.{Activation}
use Rattle.kc_state.specs.AbsEffect.{AbsChange}
use Rattle.kc_state.specs.declared.key.Key.{Key}
use Rattle.kc_state.specs.declared.state.AbsState.{AbsState}
use Rattle.kc_moves.specs.Moves.{HasDisp, HasDisps, MovesOn, CoversMove}
use Rattle.kc_moves.proofs.RowLemmas as moves
use Rattle.kc_stack.specs.Rows.{FitsSource, FitsTypes, GoesOnAt, RowGoesOn, CoversRow}

disp_of : (x : Source) → FitsSource x → HasDisp x
disp_of (source.Reg r) h = tt
disp_of (source.Mem a) h = h
disp_of (source.Imm z) h = tt

goes_on : (key : Key) (chain : List Activation) (s : AbsState) (m : Moment) (change : AbsChange) (done : Executed)
    → MovesOn key chain s m change done → RowGoesOn key chain s m change done
goes_on key chain s m change done moved = record {
  row = moved.row;
  typed = moved.typed;
  kernel = moved.kernel;
  point = subst (λ u. GoesOnAt m u done.cpu) (sym moved.succ) (moved.mode, moved.rip);
  floors = moved.floors;
  store = moved.store;
  end = moved.end;
}

covers : (insn : Insn) → (FitsTypes insn → HasDisps insn) → CoversMove insn → CoversRow insn
covers insn disps law key chain s m K M spelling pass unguarded =
    goes_on key chain s m _ _
    (law key chain s m K M (record { encodable = spelling.encodable; disps = disps spelling.fits }))

pub nop : CoversRow Nop
nop = covers Nop (λ h. h) moves.nop

pub endbr64 : CoversRow Endbr64
endbr64 = covers Endbr64 (λ h. h) moves.endbr64

pub lfence : CoversRow Lfence
lfence = covers Lfence (λ h. h) moves.lfence

pub mov : (w : Width) (dest : Place) (src : Source) → CoversRow (Mov w dest src)
mov w dest src =
    covers (Mov w dest src) (λ h. (disp_of (source_of dest) h.0, disp_of src h.1)) (moves.mov w dest src)

pub lea : (w : Width) (dest : Reg) (src : Mem) → CoversRow (Lea w dest src)
lea w dest src = covers (Lea w dest src) (λ h. h) (moves.lea w dest src)

pub xchg : (w : Width) (dest : Place) (src : Reg) → CoversRow (Xchg w dest src)
xchg w dest src = covers (Xchg w dest src) (λ h. disp_of (source_of dest) h) (moves.xchg w dest src)
