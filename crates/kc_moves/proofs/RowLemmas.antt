-- The rows of moves. Each changes registers and makes one store at most, so one lemma makes what is after it from the
-- registers and the store; operands and addresses are known on both sides by one lemma each.
use Rattle.std.proofs.Common.{ℕ, ◌^◌, ◌<◌, List, [], Option, None, set, refl, subst}
use Rattle.kc_words.specs.Flags.{bits_of, cut}
use Rattle.kc_words.specs.declared.width.Width.{Width}
use Rattle.kc_insn.specs.Fields.{source_of}
use Rattle.kc_insn.specs.declared.insn.Insn.TheVariants.{Nop, Endbr64, Lfence, Mov, Lea, Xchg}
use Rattle.kc_insn.specs.declared.insn.Mem.{Mem}
use Rattle.kc_insn.specs.declared.insn.Place.{Place}
use Rattle.kc_insn.specs.declared.insn.Place.TheVariants as place
use Rattle.kc_insn.specs.declared.insn.Reg.{Reg}
use Rattle.kc_insn.specs.declared.insn.Source.{Source}
use Rattle.kc_insn.specs.declared.insn.Source.TheVariants as source
use Rattle.kc_regions.specs.Description.{Description}
use Rattle.kc_exec.specs.Change.{falls}
use Rattle.kc_exec.specs.Effect.{row}
use Rattle.kc_exec.specs.Moment.{Moment}
use Rattle.kc_exec.specs.Operand as machine
use Rattle.kc_exec.specs.declared.access.Access.{Access}
use Rattle.kc_exec.specs.declared.access.Write.{Write}
use Rattle.kc_exec.specs.declared.state.Activation.{Activation}
use Rattle.kc_value.specs.AbsValue.{AbsValue}
use Rattle.kc_value.specs.declared.env.ValueEnv.{ValueEnv}
use Rattle.kc_state.specs.AbsEffect as known
use Rattle.kc_state.specs.AbsEffect.{AbsStore, abs_row}
use Rattle.kc_state.specs.Operand.{AbsMoment, at_width, effective, linear, operand}
use Rattle.kc_state.specs.declared.key.Key.{Key}
use Rattle.kc_state.specs.declared.state.AbsState.{AbsState}
use Rattle.kc_describes.specs.Chain.{env_of}
use Rattle.kc_describes.proofs.InsnLemmas as spelled
use Rattle.kc_describes.proofs.InsnLemmas.{has_operands}
use Rattle.kc_describes.proofs.OperandLemmas.{AreRegisters, IsFor, IsSeen, IsAddress, IsOperand, size_is, set_register, effective_is, linear_is, location_is, operand_is, width_is}
use Rattle.kc_system.specs.System.{known_moment, IsKernelMoment}
use Rattle.kc_system.proofs.RowLemmas.{registers}
use Rattle.kc_moves.specs.Moves.{IsKnownMemory, HasDisp, StoreAgrees, MovesOn, CoversMove}
use Rattle.kc_moves.proofs.WidthLemmas.{operand_fits, cut_same}

-- ---- displacements

disp_of : (x : Source) → HasDisp x → spelled.HasDisp x
disp_of (source.Reg r) h = tt
disp_of (source.Mem a) h = h
disp_of (source.Imm z) h = tt

-- ---- rows

module _ (key : Key) (chain : List Activation) (s : AbsState) (m : Moment) (K : IsKernelMoment key chain s m)
    (M : IsKnownMemory key chain s m) where
  abbrev cfg : Description
  cfg = m.cfg

  abbrev env : ValueEnv
  env = env_of cfg chain

  abbrev before : AbsMoment
  before = known_moment key s m

  pub seen : IsSeen cfg key chain before.cpu s.slots m.cpu m.mem m.next
  seen = record {
    regs = registers key chain s m K;
    gs = K.row.spaces.gs.active;
    gs_fits = K.typed.gs;
    next_fits = K.next;
    count = K.state.slots.1;
    slots_valid = K.state.slots.0;
    words = M.slots;
    bytes = M.bytes;
  }

  -- what is after an instruction that changes registers and makes this store
  after : (values : List AbsValue) (regs : List ℕ) (store : Option AbsStore) (reads : List Access)
      (write : Option Write) → AreRegisters env values regs → StoreAgrees cfg chain store write
      → MovesOn key chain s m (known.falls before (record before.cpu { regs = values }) store)
      (falls m (record m.cpu { regs = regs }) reads write)
  after values regs store reads write are agrees = record {
    row = record {
      file = record { each = are.stand; rflags = K.row.file.rflags };
      spaces = record {
        gs = record { active = K.row.spaces.gs.active; inactive = K.row.spaces.gs.inactive };
        map = K.row.spaces.map;
        latches = record {
          nmi_blocked = K.row.spaces.latches.nmi_blocked;
          shadow = refl;
          mcip = K.row.spaces.latches.mcip;
        };
      };
    };
    typed = record {
      regs = (are.size, are.words);
      rip = K.next;
      flags = K.typed.flags;
      cs = K.typed.cs;
      ss = K.typed.ss;
      gs = K.typed.gs;
      kgs = K.typed.kgs;
      cr3 = K.typed.cr3;
      mode = K.typed.mode;
    };
    kernel = record { cs = K.kernel.cs; ss = K.kernel.ss; flags = K.kernel.flags };
    mode = K.mode;
    rip = refl;
    succ = refl;
    floors = refl;
    store = agrees;
    end = refl;
  }

  -- a register takes an operand of this width
  put : (w : Width) (values : List AbsValue) (regs : List ℕ) (r n : ℕ) (v : AbsValue) → AreRegisters env values regs
      → IsFor env v n → n < 2 ^ bits_of w → AreRegisters env (set values r (at_width cfg w v)) (set regs r n)
  put w values regs r n v are is narrow =
      let cut_is : IsFor env (at_width cfg w v) n = subst (IsFor env (at_width cfg w v)) (cut_same w n narrow)
      (width_is cfg K.context.valid key chain K.context.fits K.context.typed before.cpu s.slots m.cpu m.latch m.mem
      m.next seen w v n is) in
      set_register cfg K.context.valid key chain K.context.fits K.context.typed values regs r n (at_width cfg w v) are
      cut_is.valid cut_is.fits cut_is.stands

  known_operand : (w : Width) (src : Source) → IsOperand src
      → IsFor env (operand before w src) (machine.operand m w src)
  known_operand w src is =
      operand_is cfg K.context.valid key chain K.context.fits K.context.typed before.cpu s.slots m.cpu m.latch m.mem
      m.next seen w src is

  -- an operand goes into memory
  stored_at : (w : Width) (a : Mem) (n : ℕ) (v : AbsValue) → IsAddress a → IsFor env v n
      → StoreAgrees cfg chain (known.store_of before w (place.Mem a) v) (machine.write_of m w (place.Mem a) n)
  stored_at w a n v address is = record {
    size = size_is w;
    gs = refl;
    at = λ l e. (location_is cfg K.context.valid key chain K.context.fits K.context.typed before.cpu s.slots m.cpu
        m.latch m.mem m.next seen (linear before a) (machine.linear m a) l
        (linear_is cfg K.context.valid key chain K.context.fits K.context.typed before.cpu s.slots m.cpu m.latch m.mem
        m.next seen a address) e).1;
    valid = is.valid;
    fits = is.fits;
    value = λ whole. is.stands;
  }

  pub mov_row : (w : Width) (dest : Place) (src : Source) → IsOperand (source_of dest) → IsOperand src
      → MovesOn key chain s m (abs_row before (Mov w dest src)) (row m (Mov w dest src))
  unfolding abs_row row
  mov_row w (place.Reg d) src into from =
      let v = operand before w src in
      let n = machine.operand m w src in
      after (set s.regs d.0 (at_width cfg w v)) (set m.cpu.regs d.0 n) None (machine.reads_of m w src) None
      (put w s.regs m.cpu.regs d.0 n v seen.regs (known_operand w src from) (operand_fits m w src M.bytes)) tt
  mov_row w (place.Mem a) src into from =
      let v = operand before w src in
      let n = machine.operand m w src in
      after s.regs m.cpu.regs (known.store_of before w (place.Mem a) v) (machine.reads_of m w src)
      (machine.write_of m w (place.Mem a) n) seen.regs (stored_at w a n v into (known_operand w src from))

  pub lea_row : (w : Width) (dest : Reg) (src : Mem) → IsAddress src
      → MovesOn key chain s m (abs_row before (Lea w dest src)) (row m (Lea w dest src))
  unfolding abs_row row
  lea_row w dest src address =
      let v = effective before src in
      let n = machine.effective m src in
      let is = width_is cfg K.context.valid key chain K.context.fits K.context.typed before.cpu s.slots m.cpu m.latch
      m.mem m.next seen w v n (effective_is cfg K.context.valid key chain K.context.fits K.context.typed before.cpu
      s.slots m.cpu m.latch m.mem m.next seen src address) in
      after (set s.regs dest.0 (at_width cfg w v)) (set m.cpu.regs dest.0 (cut w n)) None [] None
      (set_register cfg K.context.valid key chain K.context.fits K.context.typed s.regs m.cpu.regs dest.0 (cut w n)
      (at_width cfg w v) seen.regs is.valid is.fits is.stands) tt

  pub xchg_row : (w : Width) (dest : Place) (src : Reg) → IsOperand (source_of dest)
      → MovesOn key chain s m (abs_row before (Xchg w dest src)) (row m (Xchg w dest src))
  unfolding abs_row row
  xchg_row w (place.Reg d) src into =
      let t = operand before w (source.Reg d) in
      let k = machine.operand m w (source.Reg d) in
      let v = operand before w (source.Reg src) in
      let n = machine.operand m w (source.Reg src) in
      let first = put w s.regs m.cpu.regs d.0 n v seen.regs (known_operand w (source.Reg src) tt)
      (operand_fits m w (source.Reg src) M.bytes) in
      after (set (set s.regs d.0 (at_width cfg w v)) src.0 (at_width cfg w t)) (set (set m.cpu.regs d.0 n) src.0 k) None
      (machine.reads_of m w (source.Reg d)) None
      (put w (set s.regs d.0 (at_width cfg w v)) (set m.cpu.regs d.0 n) src.0 k t first
      (known_operand w (source.Reg d) tt) (operand_fits m w (source.Reg d) M.bytes)) tt
  xchg_row w (place.Mem a) src into =
      let t = operand before w (source.Mem a) in
      let k = machine.operand m w (source.Mem a) in
      let v = operand before w (source.Reg src) in
      let n = machine.operand m w (source.Reg src) in
      after (set s.regs src.0 (at_width cfg w t)) (set m.cpu.regs src.0 k)
      (known.store_of before w (place.Mem a) v) (machine.reads_of m w (source.Mem a))
      (machine.write_of m w (place.Mem a) n)
      (put w s.regs m.cpu.regs src.0 k t seen.regs (known_operand w (source.Mem a) into)
      (operand_fits m w (source.Mem a) M.bytes)) (stored_at w a n v into (known_operand w (source.Reg src) tt))

  pub nop_row : MovesOn key chain s m (abs_row before Nop) (row m Nop)
  unfolding abs_row row
  nop_row = after s.regs m.cpu.regs None [] None seen.regs tt

  pub endbr64_row : MovesOn key chain s m (abs_row before Endbr64) (row m Endbr64)
  unfolding abs_row row
  endbr64_row = after s.regs m.cpu.regs None [] None seen.regs tt

  pub lfence_row : MovesOn key chain s m (abs_row before Lfence) (row m Lfence)
  unfolding abs_row row
  lfence_row = after s.regs m.cpu.regs None [] None seen.regs tt

-- ---- the laws

pub nop : CoversMove Nop
nop key chain s m K M spelling = nop_row key chain s m K M

pub endbr64 : CoversMove Endbr64
endbr64 key chain s m K M spelling = endbr64_row key chain s m K M

pub lfence : CoversMove Lfence
lfence key chain s m K M spelling = lfence_row key chain s m K M

pub mov : (w : Width) (dest : Place) (src : Source) → CoversMove (Mov w dest src)
mov w dest src key chain s m K M spelling =
    let are = has_operands (Mov w dest src) spelling.encodable
    (disp_of (source_of dest) spelling.disps.0, disp_of src spelling.disps.1) in
    mov_row key chain s m K M w dest src are.0 are.1

pub lea : (w : Width) (dest : Reg) (src : Mem) → CoversMove (Lea w dest src)
lea w dest src key chain s m K M spelling =
    lea_row key chain s m K M w dest src (has_operands (Lea w dest src) spelling.encodable spelling.disps)

pub xchg : (w : Width) (dest : Place) (src : Reg) → CoversMove (Xchg w dest src)
xchg w dest src key chain s m K M spelling =
    xchg_row key chain s m K M w dest src
    (has_operands (Xchg w dest src) spelling.encodable (disp_of (source_of dest) spelling.disps))
