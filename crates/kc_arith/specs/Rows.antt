-- When what is known after an instruction covers what it leaves, of registers, flags, the value of its store, and where
-- the program goes on. This project's own.
use Rattle.std.specs.Prelude.{◌≡◌, ℕ, ◌+◌, ◌/◌, ◌^◌, ◌<◌, true, ◌⊎◌, List, length, get_or, Option, Some, None, ℤ, pos, FitsSigned, slice_index}
use Rattle.std.specs.Int.{w64, cast_unsigned}
use Rattle.kc_bits.specs.Bits.{word}
use Rattle.kc_cpu.specs.declared.cpu.Cpu.{Cpu}
use Rattle.kc_insn.specs.declared.insn.Place.{Place}
use Rattle.kc_insn.specs.declared.insn.Place.TheVariants as place
use Rattle.kc_insn.specs.declared.insn.Source.{Source}
use Rattle.kc_space.specs.Latches.{TriStands}
use Rattle.kc_value.specs.AbsValue.{AbsValue}
use Rattle.kc_value.specs.Value.{Represents, value_top}
use Rattle.kc_value.specs.declared.env.ValueEnv.{ValueEnv}
use Rattle.kc_words.specs.Flags.{bits_of}
use Rattle.kc_words.specs.declared.width.Width.{Width}
use Rattle.kc_words.specs.declared.width.Width.TheVariants.{Quad}
use Rattle.kc_state.specs.AbsEffect.{AbsChange, AbsStore, is_based}
use Rattle.kc_state.specs.Operand.{AbsMoment, operand as known_operand}
use Rattle.kc_state.specs.Shift.{shifted}
use Rattle.kc_state.specs.declared.cpu.AbsCpu.{AbsCpu}
use Rattle.kc_state.specs.declared.succ.Succ.{Succ}
use Rattle.kc_state.specs.declared.succ.Succ.TheVariants.{Falls, Jumps, Branches, Calls, Returns}
use Rattle.kc_exec.specs.Moment.{Moment}
use Rattle.kc_exec.specs.Operand.{operand}
use Rattle.kc_exec.specs.declared.access.Write.{Write}
use Rattle.kc_exec.specs.declared.executed.ExecEnd.TheVariants.{Next}
use Rattle.kc_exec.specs.declared.executed.Executed.{Executed}
use Rattle.kc_arith.specs.Covers.{SamePlaces, StandsAt, AreModelled}

-- ---- before

-- what is known of each register and of RFLAGS covers them
pub record FileStands (env : ValueEnv) (values : List AbsValue) (known_flags : AbsValue) (regs : List ℕ) (flags : ℕ)
    : Type 0
  where
    pub known_count : length values ≡ 16
    pub count : length regs ≡ 16
    pub words : (i : ℕ) → i < 16 → slice_index regs i < 2 ^ 64
    pub registers : (i : ℕ) → i < 16 → Represents (get_or values i value_top) env (slice_index regs i)
    pub flags_fit : flags < 2 ^ 64
    pub rflags : Represents known_flags env flags

abbrev pub ProcessorStands : ValueEnv → AbsCpu → Cpu → Type 0
ProcessorStands env s cpu = FileStands env s.regs s.flags cpu.regs cpu.flags

-- what is known before an instruction covers what it finds, of places, registers and flags
pub record Finds (env : ValueEnv) (known : AbsMoment) (m : Moment) : Type 0 where
  pub places : SamePlaces known.d env
  pub file : ProcessorStands env known.cpu m.cpu

-- one of the 16 registers, or memory
abbrev pub IsWritable : Place → Type 0
IsWritable (place.Reg r) = r.0 < 16
IsWritable (place.Mem a) = Unit {0}

-- what is known of the operand stands for it
abbrev pub OperandStands : ValueEnv → AbsMoment → Moment → Width → Source → Type 0
OperandStands env known m w x = StandsAt env w (known_operand known w x) (operand m w x)

-- a move by a signed number of 64 bits, or up by 2^63
abbrev pub IsMove : ℤ → Type 0
IsMove c = FitsSigned w64 c ⊎ (c ≡ pos (2 ^ 63))

-- what is known of a value that is moved by a number covers the number n that is moved by it
abbrev pub MovesStand : ValueEnv → AbsMoment → AbsValue → ℕ → Type 0
MovesStand env known v n =
    (c : ℤ) → IsMove c → Represents (shifted known.d known.key v c) env (word (n + cast_unsigned w64 c))

-- operands of 64 bits that are relative to the base can be moved
abbrev pub IsMovable : ValueEnv → AbsMoment → Width → AbsValue → ℕ → Type 0
IsMovable env known w v n = is_based v.sym ≡ true → w ≡ Quad → MovesStand env known v n

-- ---- after

-- a result that goes into an operand of this width, or none
abbrev pub ResultStands : ValueEnv → Width → Option AbsValue → Option ℕ → Type 0
ResultStands env w None None = Unit {0}
ResultStands env w (Some v) (Some n) = (n < 2 ^ bits_of w) × Represents v env n
ResultStands env w _ _ = ⊥

-- where the store goes isn't said here
pub record IsStoreOf (env : ValueEnv) (s : AbsStore) (w : Write) : Type 0 where
  pub size : s.size ≡ bits_of w.width / 8
  pub gs : s.gs ≡ w.gs
  pub value : StandsAt env w.width s.value w.value

abbrev pub StoreStands : ValueEnv → Option AbsStore → Option Write → Type 0
StoreStands env None None = Unit {0}
StoreStands env (Some s) (Some w) = IsStoreOf env s w
StoreStands env _ _ = ⊥

-- the program goes on at a successor; calls of handlers and returns aren't spoken of here
abbrev pub LeadsTo : ℕ → Succ → ℕ → Type 0
LeadsTo next Falls rip = rip ≡ next
LeadsTo next (Jumps target) rip = rip ≡ target
LeadsTo next (Branches target) rip = (rip ≡ next) ⊎ (rip ≡ target)
LeadsTo next (Calls h) rip = ⊥
LeadsTo next Returns rip = ⊥

-- beside registers, flags, RIP and the gap after an STI nothing changes
pub record ChangesFile (known : AbsMoment) (m : Moment) (change : AbsChange) (done : Executed) : Type 0 where
  pub gs : change.cpu.gs ≡ known.cpu.gs
  pub map : change.cpu.map ≡ known.cpu.map
  pub known_latches : change.cpu.latches ≡ record known.cpu.latches { shadow = change.cpu.latches.shadow }
  pub cpu : done.cpu ≡ record m.cpu { regs = done.cpu.regs; rip = done.cpu.rip; flags = done.cpu.flags }
  pub latch : done.latch ≡ record m.latch { shadow = done.latch.shadow }
  pub end : done.end ≡ Next

-- what is known afterwards covers what the instruction leaves, and flags of the model stay such
pub record CoversChange (env : ValueEnv) (known : AbsMoment) (m : Moment) (change : AbsChange) (done : Executed)
    : Type 0
  where
    pub file : ProcessorStands env change.cpu done.cpu
    pub rest : ChangesFile known m change done
    pub store : StoreStands env change.store done.write
    pub next : LeadsTo m.next change.succ done.cpu.rip
    pub shadow : TriStands change.cpu.latches.shadow done.latch.shadow
    pub modelled : AreModelled m.cpu.flags → AreModelled done.cpu.flags
