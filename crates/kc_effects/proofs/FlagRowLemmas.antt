-- The rows of branches and of the flag instructions in the form of any row, each by kc_arith's row of it: none has a
-- store, and the program goes on at the next instruction or at a target, which is a word. POPFQ loads the word at RSP,
-- and RSP moves up by 8.
use Rattle.std.proofs.Common.{◌≡◌, ℕ, Bool, true, false, if◌then◌else◌, List, slice_index, subst, arith}
use Rattle.kc_words.specs.declared.width.Width.TheVariants.{Quad}
use Rattle.kc_insn.specs.declared.insn.Insn.TheVariants.{Jcc, Jmp, Cli, Cld, Clac, Stac, Sti, Popfq}
use Rattle.kc_regions.specs.Description.{Description}
use Rattle.kc_mem.specs.Memory.{read}
use Rattle.kc_exec.specs.Change.{stack_address, stack_word}
use Rattle.kc_exec.specs.Effect.{row}
use Rattle.kc_exec.specs.Moment.{Moment}
use Rattle.kc_exec.specs.RFlags.{holds}
use Rattle.kc_exec.specs.Register.{register, rsp}
use Rattle.kc_exec.specs.declared.state.Activation.{Activation}
use Rattle.kc_value.specs.declared.env.ValueEnv.{ValueEnv}
use Rattle.kc_state.specs.AbsEffect as known
use Rattle.kc_state.specs.AbsEffect.{abs_row}
use Rattle.kc_state.specs.Operand.{AbsMoment, register as known_register}
use Rattle.kc_state.specs.declared.key.Key.{Key}
use Rattle.kc_state.specs.declared.state.AbsState.{AbsState}
use Rattle.kc_describes.specs.Chain.{env_of}
use Rattle.kc_describes.specs.Row.{value_at}
use Rattle.kc_describes.specs.Widths.{IsWord}
use Rattle.kc_describes.proofs.OperandLemmas.{IsFor, load_is}
use Rattle.kc_describes.proofs.ShiftLemmas.{shift_stands}
use Rattle.kc_arith.specs.Rows.{MovesStand}
use Rattle.kc_arith.proofs.RowLemmas as covered
use Rattle.kc_system.specs.System.{known_moment, IsKernelMoment}
use Rattle.kc_system.proofs.RowLemmas.{register_is}
use Rattle.kc_moves.specs.Moves.{IsKnownMemory}
use Rattle.kc_stack.specs.Rows.{IsRowCovered, CoversRow}
use Rattle.kc_stack.proofs.PushLemmas.{seen}
use Rattle.kc_effects.proofs.ArithGoesLemmas.{finds, goes_on}

-- a branch goes on at a word
either_word : (b : Bool) (x y : ℕ) → IsWord x → IsWord y → IsWord (if◌then◌else◌ {A = ℕ} b x y)
either_word true x y one other = one
either_word false x y one other = other

module _ (key : Key) (chain : List Activation) (s : AbsState) (m : Moment) (K : IsKernelMoment key chain s m) where
  abbrev cfg : Description
  cfg = m.cfg

  abbrev env : ValueEnv
  env = env_of cfg chain

  abbrev before : AbsMoment
  before = known_moment key s m

  -- ---- branches

  jcc_row : (code target : ℕ) → IsWord target → IsRowCovered key chain s m (Jcc code target)
  unfolding abs_row row
  jcc_row code target fits =
      goes_on key chain s m K (abs_row before (Jcc code target)) (row m (Jcc code target))
      (covered.jcc_row env before m (finds key chain s m K) code target)
      (either_word (holds code m.cpu.flags) target m.next fits K.next) tt

  jmp_row : (target : ℕ) → IsWord target → IsRowCovered key chain s m (Jmp target)
  unfolding abs_row row
  jmp_row target fits =
      goes_on key chain s m K (abs_row before (Jmp target)) (row m (Jmp target))
      (covered.jmp_row env before m (finds key chain s m K) target) fits tt

  -- ---- flags

  cli_row : IsRowCovered key chain s m Cli
  unfolding abs_row row
  cli_row =
      goes_on key chain s m K (abs_row before Cli) (row m Cli) (covered.cli_row env before m (finds key chain s m K))
      K.next tt

  cld_row : IsRowCovered key chain s m Cld
  unfolding abs_row row
  cld_row =
      goes_on key chain s m K (abs_row before Cld) (row m Cld) (covered.cld_row env before m (finds key chain s m K))
      K.next tt

  clac_row : IsRowCovered key chain s m Clac
  unfolding abs_row row
  clac_row =
      goes_on key chain s m K (abs_row before Clac) (row m Clac)
      (covered.clac_row env before m (finds key chain s m K)) K.next tt

  stac_row : IsRowCovered key chain s m Stac
  unfolding abs_row row
  stac_row =
      goes_on key chain s m K (abs_row before Stac) (row m Stac)
      (covered.stac_row env before m (finds key chain s m K)) K.next tt

  sti_row : IsRowCovered key chain s m Sti
  unfolding abs_row row
  sti_row =
      goes_on key chain s m K (abs_row before Sti) (row m Sti) (covered.sti_row env before m (finds key chain s m K))
      K.next tt

  -- ---- POPFQ

  -- what is known of RSP can be moved
  rsp_moves : MovesStand env before (known_register before.cpu known.rsp) (register m.cpu rsp)
  rsp_moves c move =
      let r = register_is key chain s m K 4 in
      shift_stands cfg K.context.valid key chain K.context.fits (value_at s.regs 4) (slice_index m.cpu.regs 4) c r.valid
      r.fits r.stands move

  -- the word at RSP
  word_is : IsKnownMemory key chain s m → IsFor env (known.stack_word before) (stack_word m 0)
  word_is M =
      let r = register_is key chain s m K 4 in
      let there : slice_index m.cpu.regs 4 ≡ stack_address m 0 = omega (arith, r.fits) in
      subst (λ a. IsFor env (known.stack_word before) (read m.mem a 8)) there
      (load_is cfg K.context.valid key chain K.context.fits K.context.typed before.cpu s.slots m.cpu m.latch m.mem
      m.next (seen key chain s m K M) Quad (value_at s.regs 4) (slice_index m.cpu.regs 4) r)

  popfq_row : IsKnownMemory key chain s m → IsRowCovered key chain s m Popfq
  unfolding abs_row row
  popfq_row M =
      goes_on key chain s m K (abs_row before Popfq) (row m Popfq)
      (covered.popfq_row env before m (finds key chain s m K) rsp_moves (word_is M).stands) K.next tt

-- ---- the laws

pub jcc : (code target : ℕ) → CoversRow (Jcc code target)
jcc code target key chain s m K M spelling pass unguarded = jcc_row key chain s m K code target spelling.fits

pub jmp : (target : ℕ) → CoversRow (Jmp target)
jmp target key chain s m K M spelling pass unguarded = jmp_row key chain s m K target spelling.fits

pub cli : CoversRow Cli
cli key chain s m K M spelling pass unguarded = cli_row key chain s m K

pub cld : CoversRow Cld
cld key chain s m K M spelling pass unguarded = cld_row key chain s m K

pub clac : CoversRow Clac
clac key chain s m K M spelling pass unguarded = clac_row key chain s m K

pub stac : CoversRow Stac
stac key chain s m K M spelling pass unguarded = stac_row key chain s m K

pub sti : CoversRow Sti
sti key chain s m K M spelling pass unguarded = sti_row key chain s m K

pub popfq : CoversRow Popfq
popfq key chain s m K M spelling pass unguarded = popfq_row key chain s m K M
