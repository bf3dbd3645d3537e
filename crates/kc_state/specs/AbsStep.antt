-- The abstract step of an instruction, this project's own: the least condition that fails, or where the program goes on
-- and what is known there.
use Rattle.std.specs.Prelude.{ℕ, false, not, Option, Some, None, Result, Ok, Err, slice_get}
use Rattle.kc_insn.specs.declared.insn.Insn.{Insn}
use Rattle.kc_regions.specs.Description.{Description}
use Rattle.kc_regions.specs.declared.entry.Handler.{Handler}
use Rattle.kc_rules.specs.Rules.{refuse, ◌>>=◌}
use Rattle.kc_state.specs.AbsEffect.{AbsChange, abs_row, applied, moment_of}
use Rattle.kc_state.specs.Calls.{called}
use Rattle.kc_state.specs.Conditions.{accesses_of, is_exact, uses_kernel_gs, is_permitted, is_clear, loads_known_cr3, calls_well, is_allowed, restores}
use Rattle.kc_state.specs.Operand.{AbsMoment}
use Rattle.kc_state.specs.declared.condition.Condition.{Condition}
use Rattle.kc_state.specs.declared.key.Key.{Key}
use Rattle.kc_state.specs.declared.state.AbsState.{AbsState}
use Rattle.kc_state.specs.declared.succ.Succ.{Succ}
use Rattle.kc_state.specs.declared.succ.Succ.TheVariants.{Calls}

abbrev pub condition : ℕ → Condition
condition n = record { 0 = n }

abbrev pub entered : Description → Key → AbsState → Option Handler → AbsState
entered d key s (Some h) = called d key h s
entered d key s None = s

-- at a call of a handler the state is that at its body
abbrev pub with_call : Description → Key → AbsState → Succ → AbsState
with_call d key s (Calls h) = entered d key s (slice_get d.handlers h)
with_call d key s _ = s

-- C4 and C6 to C12 in their order
abbrev pub conditions : AbsMoment → AbsState → Insn → AbsChange → Result (Unit {0}) Condition
conditions m s insn c = do
  ok ← refuse (not (is_exact m false)) (condition 4)
  ok ← refuse (not (uses_kernel_gs m (accesses_of m insn c.store))) (condition 6)
  ok ← refuse (not (is_permitted m insn (accesses_of m insn c.store))) (condition 7)
  ok ← refuse (not (is_clear m s.floors (accesses_of m insn c.store))) (condition 8)
  ok ← refuse (not (loads_known_cr3 m insn)) (condition 9)
  ok ← refuse (not (calls_well m s.floors insn)) (condition 10)
  ok ← refuse (not (is_allowed m insn)) (condition 11)
  refuse (not (restores m insn)) (condition 12)

abbrev pub answer : Description → Key → AbsState → AbsChange → Result (Unit {0}) Condition
    → Result (Succ × AbsState) Condition
answer d key s c (Ok u) = Ok (c.succ, with_call d key (applied d key s c) c.succ)
answer d key s c (Err e) = Err e

-- the step of an instruction after which the address next stands
abbrev pub abs_step : Description → Key → AbsState → Insn → ℕ → Result (Succ × AbsState) Condition
abs_step d key s insn next =
    let m : AbsMoment = moment_of d key s next in
    let c : AbsChange = abs_row m insn in
    answer d key s c (conditions m s insn c)
