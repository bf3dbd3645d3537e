-- Where the abstract step of a return is answered, its conditions hold: each of them refuses where its test fails.
use Rattle.std.proofs.Common.{◌≡◌, ◌⊎◌, inl, inr, Bool, true, false, not, Result, Ok, Err, refl, sym, ap, ◌∙◌}
use Rattle.kc_insn.specs.declared.insn.Insn.{Insn}
use Rattle.kc_insn.specs.declared.insn.Insn.TheVariants.{Iretq, Sysretq}
use Rattle.kc_regions.specs.Description.{Description}
use Rattle.kc_rules.specs.Rules.{refuse, ◌>>=◌}
use Rattle.kc_rules.proofs.AnswerLemmas.{done, ok_is}
use Rattle.kc_state.specs.AbsEffect.{abs_row, moment_of}
use Rattle.kc_state.specs.AbsStep.{condition, conditions, answer}
use Rattle.kc_state.specs.Conditions.{accesses_of, is_exact, uses_kernel_gs, is_permitted, is_clear}
use Rattle.kc_state.specs.Conditions.{loads_known_cr3, calls_well, is_allowed, restores}
use Rattle.kc_state.specs.Operand.{AbsMoment}
use Rattle.kc_state.specs.declared.condition.Condition.{Condition}
use Rattle.kc_state.specs.declared.key.Key.{Key}
use Rattle.kc_state.specs.declared.state.AbsState.{AbsState}
use Rattle.kc_state.specs.declared.succ.Succ.{Succ}
use Rattle.kc_state.specs.declared.succ.Succ.TheVariants.{Returns}
use Rattle.kc_returns.specs.Whole.{PassesReturn, StepPassesReturn}

-- a test that is asked first holds, and the rest is answered
first_holds : (test : Bool) (fault : Condition) (rest : Unit {0} → Result (Unit {0}) Condition) (x : Unit {0})
    → (refuse (not test) fault >>= rest) ≡ Ok x → (test ≡ true) × (rest tt ≡ Ok x)
first_holds true fault rest x h = (refl, h)
first_holds false fault rest x h = absurd cc

last_holds : (test : Bool) (fault : Condition) (x : Unit {0}) → refuse (not test) fault ≡ Ok x → test ≡ true
last_holds true fault x h = refl
last_holds false fault x h = absurd cc

passed : (m : AbsMoment) (s : AbsState) (insn : Insn) (x : Unit {0})
    → conditions m s insn (abs_row m insn) ≡ Ok x → PassesReturn m insn
passed m s insn x h =
    let accesses = accesses_of m insn (abs_row m insn).store in
    let a = first_holds (is_exact m false) (condition 4) _ x h in
    let b = first_holds (uses_kernel_gs m accesses) (condition 6) _ x a.1 in
    let c = first_holds (is_permitted m insn accesses) (condition 7) _ x b.1 in
    let d = first_holds (is_clear m s.floors accesses) (condition 8) _ x c.1 in
    let e = first_holds (loads_known_cr3 m insn) (condition 9) _ x d.1 in
    let f = first_holds (calls_well m s.floors insn) (condition 10) _ x e.1 in
    let g = first_holds (is_allowed m insn) (condition 11) _ x f.1 in
    record {
      exact = a.0;
      permitted = c.0;
      allowed = g.0;
      restores = last_holds (restores m insn) (condition 12) x g.1;
    }

returns_to : (m : AbsMoment) (insn : Insn) → (insn ≡ Iretq) ⊎ (insn ≡ Sysretq) → (abs_row m insn).succ ≡ Returns
unfolding abs_row
returns_to m insn (inl e) = ap (λ i. (abs_row m i).succ) e
returns_to m insn (inr e) = ap (λ i. (abs_row m i).succ) e

same_first : (a b : Succ) (x y : AbsState) → done {A = Succ × AbsState} {E = Condition} (a, x) ≡ done (b, y) → a ≡ b
same_first a b x y h =
    let one : Succ × AbsState = (a, x) in
    let other : Succ × AbsState = (b, y) in
    ap (λ (p : Succ × AbsState). p.0) (ok_is one other h)

by_answer : (cfg : Description) (key : Key) (s : AbsState) (insn : Insn) (m : AbsMoment) (succ : Succ) (out : AbsState)
    (r : Result (Unit {0}) Condition) → conditions m s insn (abs_row m insn) ≡ r
    → answer cfg key s (abs_row m insn) r ≡ Ok (succ, out) → PassesReturn m insn × ((abs_row m insn).succ ≡ succ)
by_answer cfg key s insn m succ out (Ok x) e h =
    (passed m s insn x e, same_first (abs_row m insn).succ succ _ out h)
by_answer cfg key s insn m succ out (Err fault) e h = absurd cc

pub step_passes : StepPassesReturn
step_passes cfg key s insn next succ out which h =
    let m : AbsMoment = moment_of cfg key s next in
    let there = by_answer cfg key s insn m succ out (conditions m s insn (abs_row m insn)) refl h in
    (there.0, sym there.1 ∙ returns_to m insn which)
