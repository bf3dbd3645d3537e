-- What the abstract step of an instruction says of where the program goes on is what the conditions read: by cases on
-- what they answered.
use Rattle.std.proofs.Common.{◌≡◌, Bool, false, Result, Ok, Err, refl, sym, ap, ◌∙◌}
use Rattle.std.specs.Prelude.{if◌then◌else◌}
use Rattle.kc_regions.specs.Description.{Description}
use Rattle.kc_rules.proofs.AnswerLemmas.{ok_is}
use Rattle.kc_state.specs.AbsStep.{abs_step, answer, conditions}
use Rattle.kc_state.specs.Calls.{after_handler}
use Rattle.kc_state.specs.declared.condition.Condition.{Condition}
use Rattle.kc_state.specs.declared.scratch.Scratch.{Scratch}
use Rattle.kc_state.specs.declared.state.AbsState.{AbsState}
use Rattle.kc_state.specs.declared.succ.Succ.{Succ}
use Rattle.kc_transfer.specs.Step.{Steps}
use Rattle.kc_cert.specs.FirstRefusal.{body_or}
use Rattle.kc_cert.specs.Placed.{Placed, Successors, after_body, after_insn, change, moment, next_address, sites_after, successors}
use Rattle.kc_placed.specs.Goes.{GoesOn}

not-inside : (d : Description) (p : Placed) → p.site.inside ≡ false → successors d p ≡ after_insn d p
not-inside d p e = ap (λ (t : Bool). if t then after_body p (after_handler d p.key p.state p.insn) else after_insn d p) e

abbrev step_of : Description → Placed → Result (Unit {0}) Condition → Result (Succ × AbsState) Condition
step_of d p r = answer d p.key p.state (change d p) r

-- a step that was answered met the conditions, and has the successor and the state of the instruction's change
answered : (d : Description) (p : Placed) (r : Result (Unit {0}) Condition) (succ : Succ) (s : AbsState)
    → step_of d p r ≡ Ok (succ, s) → (r ≡ Ok tt) × ((change d p).succ ≡ succ) × ((after_insn d p).state ≡ s)
answered d p (Ok u) succ s e =
    let pair : ((change d p).succ, (after_insn d p).state) ≡ (succ, s) =
    ok_is {E = Condition} ((change d p).succ, (after_insn d p).state) (succ, s) e in
    (refl, ap (λ q. q.0) pair, ap (λ q. q.1) pair)
answered d p (Err k) succ s e = absurd cc

refused : (d : Description) (p : Placed) (r : Result (Unit {0}) Condition) (k : Condition)
    → step_of d p r ≡ Err k → r ≡ Err k
refused d p (Ok u) k e = absurd cc
refused d p (Err c) k e = cc

pub insn-goes : (d : Description) (p : Placed) (r : Result Succ Condition) (old new : Scratch) → p.site.inside ≡ false
    → Steps r old new (abs_step d p.key p.state p.insn (next_address p)) → GoesOn d p r new.out
insn-goes d p (Ok succ) old new outside h =
    let met = answered d p (conditions (moment d p) p.state p.insn (change d p)) succ new.out h.0 in
    let next : successors d p ≡ after_insn d p = not-inside d p outside in (
      ap (λ (t : Bool). body_or t (conditions (moment d p) p.state p.insn (change d p))) outside ∙ met.0,
      record {
        sites = sym (ap (sites_after p) met.1) ∙ sym (ap (λ (n : Successors). n.sites) next);
        state = λ ne. sym met.2 ∙ sym (ap (λ (n : Successors). n.state) next);
      },
    )
insn-goes d p (Err k) old new outside h =
    ap (λ (t : Bool). body_or t (conditions (moment d p) p.state p.insn (change d p))) outside
    ∙ refused d p (conditions (moment d p) p.state p.insn (change d p)) k h.0
