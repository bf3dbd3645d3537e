-- Where the abstract step of an instruction has an answer, its conditions hold, since each refuses where its test fails;
-- and the answer is the change of the instruction.
use Rattle.std.proofs.Common.{◌≡◌, ℕ, Bool, true, false, not, Result, Ok, Err, refl, ap}
use Rattle.kc_insn.specs.declared.insn.Insn.{Insn}
use Rattle.kc_regions.specs.Description.{Description}
use Rattle.kc_rules.specs.Rules.{refuse, ◌>>=◌}
use Rattle.kc_rules.proofs.AnswerLemmas.{ok_is}
use Rattle.kc_state.specs.AbsEffect.{abs_row, applied, moment_of}
use Rattle.kc_state.specs.AbsStep.{condition, conditions, answer, with_call, abs_step}
use Rattle.kc_state.specs.Conditions.{accesses_of, is_exact, uses_kernel_gs, is_permitted, is_clear, loads_known_cr3}
use Rattle.kc_state.specs.Conditions.{calls_well, is_allowed, restores}
use Rattle.kc_state.specs.Operand.{AbsMoment}
use Rattle.kc_state.specs.declared.condition.Condition.{Condition}
use Rattle.kc_state.specs.declared.key.Key.{Key}
use Rattle.kc_state.specs.declared.state.AbsState.{AbsState}
use Rattle.kc_state.specs.declared.succ.Succ.{Succ}

-- C4 and C6 to C12 hold
pub record PassesAll (m : AbsMoment) (s : AbsState) (insn : Insn) : Type 0 where
  pub exact : is_exact m false ≡ true
  pub own_gs : uses_kernel_gs m (accesses_of m insn (abs_row m insn).store) ≡ true
  pub permitted : is_permitted m insn (accesses_of m insn (abs_row m insn).store) ≡ true
  pub clear : is_clear m s.floors (accesses_of m insn (abs_row m insn).store) ≡ true
  pub cr3 : loads_known_cr3 m insn ≡ true
  pub calls : calls_well m s.floors insn ≡ true
  pub allowed : is_allowed m insn ≡ true
  pub restores : restores m insn ≡ true

-- a test that is asked first holds, and the rest is answered
first_holds : (test : Bool) (fault : Condition) (rest : Unit {0} → Result (Unit {0}) Condition) (x : Unit {0})
    → (refuse (not test) fault >>= rest) ≡ Ok x → (test ≡ true) × (rest tt ≡ Ok x)
first_holds true fault rest x h = (refl, h)
first_holds false fault rest x h = absurd cc

last_holds : (test : Bool) (fault : Condition) (x : Unit {0}) → refuse (not test) fault ≡ Ok x → test ≡ true
last_holds true fault x h = refl
last_holds false fault x h = absurd cc

passed : (m : AbsMoment) (s : AbsState) (insn : Insn) (x : Unit {0}) → conditions m s insn (abs_row m insn) ≡ Ok x
    → PassesAll m s insn
passed m s insn x h =
    let accesses = accesses_of m insn (abs_row m insn).store in
    let a = first_holds (is_exact m false) (condition 4) _ x h in
    let b = first_holds (uses_kernel_gs m accesses) (condition 6) _ x a.1 in
    let c = first_holds (is_permitted m insn accesses) (condition 7) _ x b.1 in
    let d = first_holds (is_clear m s.floors accesses) (condition 8) _ x c.1 in
    let e = first_holds (loads_known_cr3 m insn) (condition 9) _ x d.1 in
    let f = first_holds (calls_well m s.floors insn) (condition 10) _ x e.1 in
    let g = first_holds (is_allowed m insn) (condition 11) _ x f.1 in
    record {
      exact = a.0;
      own_gs = b.0;
      permitted = c.0;
      clear = d.0;
      cr3 = e.0;
      calls = f.0;
      allowed = g.0;
      restores = last_holds (restores m insn) (condition 12) x g.1;
    }

-- the abstract step's conditions hold, and its answer is this
pub record IsAnswer (cfg : Description) (key : Key) (s : AbsState) (insn : Insn) (m : AbsMoment) (succ : Succ)
    (out : AbsState) : Type 0
  where
    pub passes : PassesAll m s insn
    pub leads : (abs_row m insn).succ ≡ succ
    pub leaves : with_call cfg key (applied cfg key s (abs_row m insn)) (abs_row m insn).succ ≡ out

by_answer : (cfg : Description) (key : Key) (s : AbsState) (insn : Insn) (m : AbsMoment) (succ : Succ) (out : AbsState)
    (r : Result (Unit {0}) Condition) → conditions m s insn (abs_row m insn) ≡ r
    → answer cfg key s (abs_row m insn) r ≡ Ok (succ, out) → IsAnswer cfg key s insn m succ out
by_answer cfg key s insn m succ out (Ok x) e h =
    let after = with_call cfg key (applied cfg key s (abs_row m insn)) (abs_row m insn).succ in
    let same = ok_is ((abs_row m insn).succ, after) (succ, out) h in
    record {
      passes = passed m s insn x e;
      leads = ap (λ (p : Succ × AbsState). p.0) same;
      leaves = ap (λ (p : Succ × AbsState). p.1) same;
    }
by_answer cfg key s insn m succ out (Err fault) e h = absurd cc

pub answered : (cfg : Description) (key : Key) (s : AbsState) (insn : Insn) (next : ℕ) (succ : Succ) (out : AbsState)
    → abs_step cfg key s insn next ≡ Ok (succ, out)
    → IsAnswer cfg key s insn (moment_of cfg key s next) succ out
answered cfg key s insn next succ out h =
    let m : AbsMoment = moment_of cfg key s next in
    by_answer cfg key s insn m succ out (conditions m s insn (abs_row m insn)) refl h
