-- The rows of SWAPGS, of reads and writes of the GS base, of RDMSR and WRMSR, and of CR3. Each changes registers, bases,
-- CR3 or MCIP and nothing else of the processor, so one lemma makes the description of all of them from the parts that
-- changed; the premises of each instruction are the conditions on it.
use Rattle.std.proofs.Common.{◌≡◌, ℕ, ◌/◌, ◌%◌, ◌^◌, Bool, true, false, not, if◌then◌else◌, List, [], Option, Some, None, slice_index, set, refl, sym, ap, subst, arith}
use Rattle.kc_bits.specs.KnownBits.{KnownBits}
use Rattle.kc_bits.specs.Bits.{bits_cut, bits_single}
use Rattle.kc_insn.specs.declared.insn.Insn.{Insn}
use Rattle.kc_insn.specs.declared.insn.Insn.TheVariants.{Swapgs, Rdmsr, Wrmsr, ReadCr3, WriteCr3, ReadGs, WriteGs}
use Rattle.kc_insn.specs.declared.insn.Reg.{Reg}
use Rattle.kc_regions.specs.Description.{Description}
use Rattle.kc_space.specs.Latches.{TriStands}
use Rattle.kc_space.specs.declared.gs.GsPair.{GsPair}
use Rattle.kc_space.specs.declared.latches.Latches.{Latches}
use Rattle.kc_space.specs.declared.map.MapState.{MapState}
use Rattle.kc_space.specs.declared.tri.Tri.TheVariants.{No}
use Rattle.kc_cpu.specs.declared.cpu.Latch.{Latch}
use Rattle.kc_exec.specs.Admitted.{IsAdmitted}
use Rattle.kc_exec.specs.Breaks.{break_of, judged, effect}
use Rattle.kc_exec.specs.Change.{falls}
use Rattle.kc_exec.specs.Effect.{row, msr, msr_number, edx_eax, with_msr, stored_cr3}
use Rattle.kc_exec.specs.Moment.{Moment}
use Rattle.kc_exec.specs.declared.state.Activation.{Activation}
use Rattle.kc_value.specs.AbsValue.{AbsValue}
use Rattle.kc_value.specs.declared.env.ValueEnv.{ValueEnv}
use Rattle.kc_state.specs.AbsEffect as known
use Rattle.kc_state.specs.AbsEffect.{abs_row, upper, gs_value, cr3_value, map_of, who_of, who_of_bits}
use Rattle.kc_state.specs.Conditions.{loads_known_cr3, is_allowed}
use Rattle.kc_state.specs.Operand.{AbsMoment, bits_value}
use Rattle.kc_state.specs.declared.key.Key.{Key}
use Rattle.kc_state.specs.declared.state.AbsState.{AbsState}
use Rattle.kc_describes.specs.Chain.{oldest_of, user_gs_of, env_of}
use Rattle.kc_describes.specs.Row.{value_at}
use Rattle.kc_describes.specs.Spaces.{IsGsOf, IsCr3Of}
use Rattle.kc_describes.specs.Widths.{IsWord}
use Rattle.kc_describes.proofs.OperandLemmas.{AreRegisters, IsFor, word_at, value_at_valid, register_stands, set_register}
use Rattle.kc_describes.proofs.ValidLemmas.{bits_valid}
use Rattle.kc_describes.proofs.ValueLemmas.{bits_stand}
use Rattle.kc_arith.specs.Covers.{Covers}
use Rattle.kc_arith.proofs.HalfLemmas.{upper_covers, joined_covers}
use Rattle.kc_arith.proofs.WidthLemmas.{cut_stands}
use Rattle.kc_words.specs.declared.width.Width.TheVariants.{Long}
use Rattle.kc_system.specs.System.{known_moment, IsKernelMoment, FallsThrough, IsCovered}
use Rattle.kc_system.proofs.BaseLemmas.{gs_is, cr3_is, who_is, bits_who_is, written_canonical, written_map, written_cr3}
use Rattle.kc_system.proofs.MsrLemmas.{IsMsr, number_in, by_number, read_number, known_number, written_number, written_is, number_takes, mcip_covers}

module _ (key : Key) (chain : List Activation) (s : AbsState) (m : Moment) (K : IsKernelMoment key chain s m) where
  abbrev cfg : Description
  cfg = m.cfg

  abbrev env : ValueEnv
  env = env_of cfg chain

  abbrev before : AbsMoment
  before = known_moment key s m

  pub admitted : IsAdmitted cfg (oldest_of chain).saved
  admitted = K.context.fits.admitted

  pub registers : AreRegisters env s.regs m.cpu.regs
  registers = record {
    count = K.state.reg_count;
    valid = K.state.regs;
    size = K.typed.regs.0;
    words = K.typed.regs.1;
    stand = K.row.file.each;
  }

  pub register_is : (r : ℕ) → IsFor env (value_at s.regs r) (slice_index m.cpu.regs r)
  register_is r = record {
    valid = value_at_valid s.regs r K.state.regs;
    fits = word_at m.cpu.regs r K.typed.regs.1;
    stands = register_stands cfg K.context.valid key chain K.context.fits K.context.typed s.regs m.cpu.regs r registers;
  }

  -- a register takes a value and its number
  with_result : (values : List AbsValue) (regs : List ℕ) (r n : ℕ) (v : AbsValue) → AreRegisters env values regs
      → IsFor env v n → AreRegisters env (set values r v) (set regs r n)
  with_result values regs r n v are is =
      set_register cfg K.context.valid key chain K.context.fits K.context.typed values regs r n v are is.valid is.fits
      is.stands

  -- what is after an instruction that changes these alone
  after : (values : List AbsValue) (regs : List ℕ) (pair : GsPair) (gs kgs : ℕ) (map : MapState) (cr3 : ℕ)
      (latches : Latches) (latch : Latch) → AreRegisters env values regs
      → IsGsOf cfg (user_gs_of chain) pair.active gs → IsGsOf cfg (user_gs_of chain) pair.inactive kgs
      → IsWord gs → IsWord kgs → IsCr3Of cfg map cr3 → IsWord cr3
      → TriStands latches.nmi_blocked latch.nmi_blocked → TriStands latches.mcip latch.mcip
      → FallsThrough key chain s m
      (known.falls before (record { regs = values; flags = s.flags; gs = pair; map = map; latches = latches }) None)
      (falls (record m { latch = latch }) (record m.cpu { regs = regs; gs = gs; kgs = kgs; cr3 = cr3 }) [] None)
  after values regs pair gs kgs map cr3 latches latch are active inactive gs_fits kgs_fits is cr3_fits nmi mcip = record {
    row = record {
      file = record { each = are.stand; rflags = K.row.file.rflags };
      spaces = record {
        gs = record { active = active; inactive = inactive };
        map = is;
        latches = record { nmi_blocked = nmi; shadow = refl; mcip = mcip };
      };
    };
    typed = record {
      regs = (are.size, are.words);
      rip = K.next;
      flags = K.typed.flags;
      cs = K.typed.cs;
      ss = K.typed.ss;
      gs = gs_fits;
      kgs = kgs_fits;
      cr3 = cr3_fits;
      mode = K.typed.mode;
    };
    kernel = record { cs = K.kernel.cs; ss = K.kernel.ss; flags = K.kernel.flags };
    mode = K.mode;
    rip = refl;
    succ = refl;
    floors = refl;
    slots = refl;
    store = refl;
    reads = refl;
    write = refl;
    end = refl;
  }

  -- the parts that stay
  with_registers : (values : List AbsValue) (regs : List ℕ) → AreRegisters env values regs
      → FallsThrough key chain s m (known.falls before (record before.cpu { regs = values }) None)
      (falls m (record m.cpu { regs = regs }) [] None)
  with_registers values regs are =
      after values regs s.gs m.cpu.gs m.cpu.kgs s.map m.cpu.cr3 s.latches m.latch are K.row.spaces.gs.active
      K.row.spaces.gs.inactive K.typed.gs K.typed.kgs K.row.spaces.map K.typed.cr3 K.row.spaces.latches.nmi_blocked
      K.row.spaces.latches.mcip

  with_bases : (pair : GsPair) (gs kgs : ℕ) → IsGsOf cfg (user_gs_of chain) pair.active gs
      → IsGsOf cfg (user_gs_of chain) pair.inactive kgs → IsWord gs → IsWord kgs
      → FallsThrough key chain s m (known.falls before (record before.cpu { gs = pair }) None)
      (falls m (record m.cpu { gs = gs; kgs = kgs }) [] None)
  with_bases pair gs kgs active inactive gs_fits kgs_fits =
      after s.regs m.cpu.regs pair gs kgs s.map m.cpu.cr3 s.latches m.latch registers active inactive gs_fits kgs_fits
      K.row.spaces.map K.typed.cr3 K.row.spaces.latches.nmi_blocked K.row.spaces.latches.mcip

  covered : (insn : Insn) → break_of m insn ≡ None → FallsThrough key chain s m (abs_row before insn) (row m insn)
      → IsCovered key chain s m insn
  unfolding effect
  covered insn free falls_on =
      record { unbroken = free; is_row = ap (λ b. judged b (row m insn)) free; falls = falls_on }

  -- ---- GS bases

  pub swapgs_row : IsCovered key chain s m Swapgs
  unfolding abs_row row
  swapgs_row =
      covered Swapgs refl
      (with_bases (record { active = s.gs.inactive; inactive = s.gs.active }) m.cpu.kgs m.cpu.gs
      K.row.spaces.gs.inactive K.row.spaces.gs.active K.typed.kgs K.typed.gs)

  pub read_gs_row : (r : Reg) → IsCovered key chain s m (ReadGs r)
  unfolding abs_row row
  read_gs_row r =
      covered (ReadGs r) refl
      (with_registers (set s.regs r.0 (gs_value cfg s.gs.active)) (set m.cpu.regs r.0 m.cpu.gs)
      (with_result s.regs m.cpu.regs r.0 m.cpu.gs (gs_value cfg s.gs.active) registers
      (gs_is cfg K.context.valid chain admitted s.gs.active m.cpu.gs K.typed.gs K.row.spaces.gs.active)))

  pub write_gs_row : (r : Reg) → is_allowed before (WriteGs r) ≡ true → IsCovered key chain s m (WriteGs r)
  unfolding abs_row row
  write_gs_row r allowed =
      let v = value_at s.regs r.0 in
      let n = slice_index m.cpu.regs r.0 in
      let is = register_is r.0 in
      let canonical = written_canonical cfg chain admitted v n is allowed in
      covered (WriteGs r) (ap (λ (b : Bool). if◌then◌else◌ {A = Option ℕ} (not b) (Some 8) None) canonical)
      (with_bases (record { active = who_of cfg v; inactive = s.gs.inactive }) n m.cpu.kgs
      (who_is cfg chain v n is) K.row.spaces.gs.inactive is.fits K.typed.kgs)

  -- ---- CR3

  pub read_cr3_row : (r : Reg) → IsCovered key chain s m (ReadCr3 r)
  unfolding abs_row row
  read_cr3_row r =
      covered (ReadCr3 r) refl
      (with_registers (set s.regs r.0 (cr3_value cfg s.map)) (set m.cpu.regs r.0 m.cpu.cr3)
      (with_result s.regs m.cpu.regs r.0 m.cpu.cr3 (cr3_value cfg s.map) registers
      (cr3_is cfg K.context.valid chain admitted s.map m.cpu.cr3 K.typed.cr3 K.row.spaces.map)))

  pub write_cr3_row : (r : Reg) → loads_known_cr3 before (WriteCr3 r) ≡ true → IsCovered key chain s m (WriteCr3 r)
  unfolding abs_row row
  write_cr3_row r allowed =
      let v = value_at s.regs r.0 in
      let n = slice_index m.cpu.regs r.0 in
      let is = register_is r.0 in
      let one = written_cr3 cfg env v n is allowed in
      covered (WriteCr3 r) (ap (λ (b : Bool). if◌then◌else◌ {A = Option ℕ} (not b) (Some 6) None) one)
      (after s.regs m.cpu.regs s.gs m.cpu.gs m.cpu.kgs (map_of cfg (bits_single v.bits)) (stored_cr3 n) s.latches
      m.latch registers K.row.spaces.gs.active K.row.spaces.gs.inactive K.typed.gs K.typed.kgs
      (written_map cfg env v n is) (omega arith) K.row.spaces.latches.nmi_blocked K.row.spaces.latches.mcip)

  -- ---- model-specific registers

  -- the known number in ECX is the number there
  pub single : (k : ℕ) → known.msr_number before.cpu ≡ Some k → msr_number m.cpu ≡ k
  single k e = number_in (value_at s.regs 1).bits (slice_index m.cpu.regs 1) k (register_is 1).stands.bits e

  bits_is : (b : KnownBits) (n : ℕ) → Covers b n → IsFor env (bits_value cfg b) n
  bits_is b n c = record {
    valid = bits_valid cfg K.context.valid b c.valid;
    fits = c.fits;
    stands = bits_stand cfg K.context.valid env refl b n c.valid c.fits c.stands;
  }

  covers : (v : AbsValue) (n : ℕ) → IsFor env v n → Covers v.bits n
  covers v n is = record { valid = is.valid.bits_fit; fits = is.fits; stands = is.stands.bits }

  -- what is known of a register covers what it holds
  pub msr_covers : (o : Option ℕ) (n : ℕ) → ((k : ℕ) → o ≡ Some k → n ≡ k) → IsMsr o
      → Covers (known.msr_bits before o) (msr m n)
  msr_covers o n only is =
      by_number (λ o n. Covers (known.msr_bits before o) (msr m n)) o n only is
      (covers (gs_value cfg s.gs.active) m.cpu.gs
      (gs_is cfg K.context.valid chain admitted s.gs.active m.cpu.gs K.typed.gs K.row.spaces.gs.active))
      (covers (gs_value cfg s.gs.inactive) m.cpu.kgs
      (gs_is cfg K.context.valid chain admitted s.gs.inactive m.cpu.kgs K.typed.kgs K.row.spaces.gs.inactive))
      (mcip_covers s.latches.mcip m.latch.mcip K.row.spaces.latches.mcip)

  pub rdmsr_row : is_allowed before Rdmsr ≡ true → IsCovered key chain s m Rdmsr
  unfolding abs_row row
  rdmsr_row allowed =
      let o = known.msr_number before.cpu in
      let is = read_number o allowed in
      let b = known.msr_bits before o in
      let v = msr m (msr_number m.cpu) in
      let c = msr_covers o (msr_number m.cpu) single is in
      let high = with_result s.regs m.cpu.regs 2 (v / 2 ^ 32) (bits_value cfg (upper b)) registers
      (bits_is (upper b) (v / 2 ^ 32) (upper_covers b v c)) in
      covered Rdmsr
      (ap (λ (b : Bool). if◌then◌else◌ {A = Option ℕ} (not b) (Some 8) None)
      (known_number o (msr_number m.cpu) single is))
      (with_registers (set (set s.regs 2 (bits_value cfg (upper b))) 0 (bits_value cfg (bits_cut 32 b)))
      (set (set m.cpu.regs 2 (v / 2 ^ 32)) 0 (v % 2 ^ 32))
      (with_result (set s.regs 2 (bits_value cfg (upper b))) (set m.cpu.regs 2 (v / 2 ^ 32)) 0 (v % 2 ^ 32)
      (bits_value cfg (bits_cut 32 b)) high
      (bits_is (bits_cut 32 b) (v % 2 ^ 32) (cut_stands Long b v c.stands))))

  -- EDX:EAX
  pub written_covers : Covers (known.edx_eax before.cpu) (edx_eax m.cpu)
  written_covers =
      joined_covers (value_at s.regs 2).bits (value_at s.regs 0).bits (slice_index m.cpu.regs 2)
      (slice_index m.cpu.regs 0) (register_is 2).stands.bits (register_is 0).stands.bits

  msr_written : (o : Option ℕ) (n : ℕ) (b : KnownBits) (v : ℕ) → ((k : ℕ) → o ≡ Some k → n ≡ k) → IsMsr o
      → known.edx_eax before.cpu ≡ b → Covers b v
      → FallsThrough key chain s m (known.falls before (known.with_msr before o) None) (with_msr m n v)
  msr_written o n b v only is same c =
      let whose = bits_who_is cfg chain (known.edx_eax before.cpu) v
      (subst (λ z. Covers z v) (sym same) c) in
      by_number (λ o n. FallsThrough key chain s m (known.falls before (known.with_msr before o) None) (with_msr m n v)) o
      n only is
      (with_bases (record { active = who_of_bits cfg (known.edx_eax before.cpu); inactive = s.gs.inactive }) v m.cpu.kgs
      whose K.row.spaces.gs.inactive c.fits K.typed.kgs)
      (with_bases (record { active = s.gs.active; inactive = who_of_bits cfg (known.edx_eax before.cpu) }) m.cpu.gs v
      K.row.spaces.gs.active whose K.typed.gs c.fits)
      (after s.regs m.cpu.regs s.gs m.cpu.gs m.cpu.kgs s.map m.cpu.cr3 (record s.latches { mcip = No })
      (record m.latch { mcip = false }) registers K.row.spaces.gs.active K.row.spaces.gs.inactive K.typed.gs K.typed.kgs
      K.row.spaces.map K.typed.cr3 K.row.spaces.latches.nmi_blocked refl)

  pub wrmsr_row : is_allowed before Wrmsr ≡ true → IsCovered key chain s m Wrmsr
  unfolding abs_row row
  wrmsr_row allowed =
      let o = known.msr_number before.cpu in
      let b = known.edx_eax before.cpu in
      let n = msr_number m.cpu in
      let v = edx_eax m.cpu in
      let is = written_number o b allowed in
      covered Wrmsr
      (ap (λ (b : Bool). if◌then◌else◌ {A = Option ℕ} (not b) (Some 8) None)
      (number_takes o b n v single written_covers is))
      (msr_written o n b v single (written_is o b is) refl written_covers)
