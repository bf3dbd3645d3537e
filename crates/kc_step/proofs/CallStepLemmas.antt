-- The call of a handler as a step. CALL alone leads into a handler: by cases on the instruction. And the conditions of
-- the step, with no byte of its accesses in a guard, are all that the law of calls asks for.
use Rattle.std.proofs.Common.{◌≡◌, ℕ, ◌%◌, false, ◌&&◌, Option, Some, None, refl, ap}
use Rattle.std.proofs.lemmas.Bool.{cond_both}
use Rattle.kc_bits.specs.Bits.{bits_cut}
use Rattle.kc_bits.specs.KnownBits.{KnownBits}
use Rattle.kc_words.specs.Flags.{bits_of}
use Rattle.kc_words.specs.declared.width.Width.{Width}
use Rattle.kc_insn.specs.declared.insn.AluOp.{AluOp}
use Rattle.kc_insn.specs.declared.insn.Insn.{Insn}
use Rattle.kc_insn.specs.declared.insn.Insn.TheVariants.{Iretq, Ret, Alu, Bit, Jcc, Call}
use Rattle.kc_insn.specs.declared.insn.Place.{Place}
use Rattle.kc_image.specs.Image.{Contents}
use Rattle.kc_regions.specs.Description.{Description}
use Rattle.kc_regions.specs.Lookup.{handler_of}
use Rattle.kc_space.specs.declared.tri.Tri.{Tri}
use Rattle.kc_space.specs.declared.tri.Tri.TheVariants as tri
use Rattle.kc_exec.specs.Breaks.{effect}
use Rattle.kc_exec.specs.Execution as machine
use Rattle.kc_exec.specs.Execution.{stops}
use Rattle.kc_exec.specs.declared.state.State.{State}
use Rattle.kc_events.specs.Run.{IsLike}
use Rattle.kc_value.specs.AbsValue.{AbsValue}
use Rattle.kc_state.specs.AbsEffect.{AbsChange, abs_row, operated, alu_result, alu_change, bit_result}
use Rattle.kc_state.specs.AbsEffect.{cancels, is_same_reg, call_or_jump, branch, jump_or_fall}
use Rattle.kc_state.specs.Flags.{alu_flags, bit_flags}
use Rattle.kc_state.specs.Operand.{AbsMoment, number_value, operand, destination}
use Rattle.kc_state.specs.declared.key.Key.{Key}
use Rattle.kc_state.specs.declared.state.AbsState.{AbsState}
use Rattle.kc_state.specs.declared.succ.Succ.TheVariants.{Calls}
use Rattle.kc_describes.specs.Describes.{Describes}
use Rattle.kc_calls.specs.Laws.{body_of}
use Rattle.kc_calls.specs.Entered.{machine_after, known_after}
use Rattle.kc_calls.proofs.EnteredLemmas.{call_covered}
use Rattle.kc_calls.proofs.InsideLemmas.{like_described}
use Rattle.kc_step.specs.Step.{IsAtInsn}
use Rattle.kc_step.proofs.PassLemmas.{PassesAll}
use Rattle.kc_step.proofs.AccessLemmas.{there, before, open_data}

-- ---- which instruction calls a handler

-- it is a CALL, and the target is the handler's entry
pub record IsCallOf (m : AbsMoment) (insn : Insn) (h : ℕ) : Type 0 where
  pub target : ℕ
  pub is : insn ≡ Call target
  pub entry : handler_of m.d.handlers target ≡ Some h

abbrev LeadsIn : ℕ → AbsChange → Type 0
LeadsIn h c = c.succ ≡ Calls h

operated_stays : (m : AbsMoment) (w : Width) (dest : Place) (flags : KnownBits) (r : Option AbsValue) (h : ℕ)
    → LeadsIn h (operated m w dest flags r) → ⊥
operated_stays m w dest flags None h e = absurd cc
operated_stays m w dest flags (Some v) h e = absurd cc

alu_stays : (m : AbsMoment) (op : AluOp) (w : Width) (dest : Place) (x y : AbsValue) (h : ℕ)
    → LeadsIn h (alu_change m op w dest x y) → ⊥
alu_stays m op w dest x y h e =
    let n = bits_of w in
    operated_stays m w dest (alu_flags op n (bits_cut n x.bits) (bits_cut n y.bits) m.cpu.flags.bits)
    (alu_result m op w x y) h e

branch_stays : (t : Tri) (target h : ℕ) → branch t target ≡ Calls h → ⊥
branch_stays tri.Yes target h e = absurd cc
branch_stays tri.No target h e = absurd cc
branch_stays tri.Any target h e = absurd cc

ret_stays : (o : Option ℕ) (h : ℕ) → jump_or_fall o ≡ Calls h → ⊥
ret_stays (Some target) h e = absurd cc
ret_stays None h e = absurd cc

number_of : (a b : ℕ) → Calls a ≡ Calls b → a ≡ b
number_of a b e = cc

entry_of : (target h : ℕ) (o : Option ℕ) → call_or_jump target o ≡ Calls h → o ≡ Some h
entry_of target h (Some n) e = ap Some (number_of n h e)
entry_of target h None e = absurd cc

pub caller : (m : AbsMoment) (insn : Insn) (h : ℕ) → LeadsIn h (abs_row m insn) → IsCallOf m insn h
unfolding abs_row
caller m (Call target) h e =
    record { target = target; is = refl; entry = entry_of target h (handler_of m.d.handlers target) e }
caller m (Alu op w dest src) h e =
    let zero = number_value m.d 0 in
    absurd (cond_both (cancels op && is_same_reg dest src) _ _ (λ c. LeadsIn h c → ⊥)
    (λ same. alu_stays m op w dest zero zero h)
    (λ other. alu_stays m op w dest (destination m w dest) (operand m w src) h) e)
caller m (Bit op w dest number) h e =
    let x = bits_cut (bits_of w) (destination m w dest).bits in
    let i = number % bits_of w in
    absurd (operated_stays m w dest (bit_flags i x m.cpu.flags.bits) (bit_result m op i x) h e)
caller m (Jcc code target) h e = absurd (branch_stays _ target h e)
caller m Ret h e = absurd (ret_stays _ h e)
caller m insn h e = absurd cc

-- ---- where it leads

-- a machine that the instruction leaves is described while its handler runs
abbrev pub LeadsInside : Description → Contents → Key → ℕ → ℕ → AbsState → State → Insn → Type 0
LeadsInside cfg image key at len s S insn = (H : IsAtInsn cfg image key at insn len s S)
    → PassesAll (before cfg image key at insn len s S H) s insn
    → stops cfg (machine.accesses_of S.cpu len (effect (there cfg image key at insn len s S H) insn)) ≡ false
    → (T : State) → IsLike T (machine_after cfg S len insn)
    → Describes cfg key (body_of at) (Some (insn, len)) (known_after cfg key s S len insn) T

no_iretq : (target : ℕ) → Call target ≡ Iretq → ⊥
no_iretq target e = absurd cc

pub call_leads : (cfg : Description) (image : Contents) (key : Key) (at len : ℕ) (s : AbsState) (S : State)
    (target number : ℕ) → handler_of cfg.handlers target ≡ Some number
    → LeadsInside cfg image key at len s S (Call target)
call_leads cfg image key at len s S target number entry H pass runs T like =
    let call = Call target in
    like_described cfg key (body_of at) (Some (call, len)) (known_after cfg key s S len call) T
    (machine_after cfg S len call) like
    (call_covered cfg key at len target number s S H.valid H.state (record {
      described = H.described;
      entry = entry;
      permitted = pass.permitted;
      calls = pass.calls;
      unguarded = open_data cfg image key at call len s S H pass (no_iretq target) runs;
    }))
