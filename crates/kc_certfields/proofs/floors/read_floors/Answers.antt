use Rattle.std.proofs.Common.{◌≡◌, ◌+◌, ◌-◌, ℕ, List, [], ◌∷◌, ◌++◌, take, drop, replicate, length-set, Result, Ok, sym, ap, subst, ◌∙◌, arith}
use Rattle.std.proofs.lemmas.List.{take_more_set}
use Rattle.std.proofs.lemmas.Result.{err_from_is_err_and}
use Rattle.kc_frames.specs.Floors.{none_live}
use Rattle.kc_frames.specs.declared.floor.Floor.{Floor}
use Rattle.kc_frames.specs.declared.floor.Floor.TheVariants.{At}
use Rattle.kc_certfields.specs.declared.fault.CertFault.{CertFault}
use Rattle.kc_certfields.specs.Rest.{Rest}
use Rattle.kc_certfields.specs.Reads.{times}
use Rattle.kc_certfields.specs.Floors.{floor_at, next_floor}
use Rattle.kc_certfields.proofs.TimesLemmas.{times_more, times_stops, times_done}
use Rattle.kc_certfields.proofs.LoopLemmas.{made_ok, made_err, floors-done, floors-stop, left-more}
use Rattle.kc_certfields.proofs.floors.read_floors.Goals as goal

pub loop-s-preserved : goal.loop-s-preserved
loop-s-preserved c =
    let at = c.loop-s.floors.at in
    let before = take c.loop-s.s at in record {
      read = subst (λ (fs : List Floor). times next_floor (c.args.stacks - (c.loop-s.s + 1)) fs c.read_floor.new.input
          ≡ times next_floor c.args.stacks [] c.args.input.now)
          (sym (take_more_set at c.loop-s.s c.in_ok-floors.field-0 (omega (arith, c.loop-s.invariant.count))))
          (times_more next_floor c.args.stacks c.loop-s.s before _ _ _ _ c.loop-s-test.true
          (made_ok floor_at (λ (f : Floor). before ++ f ∷ []) _ _ _ c.in_ok-floors.ensures.read)
          c.loop-s.invariant.read);
      count = length-set at c.loop-s.s c.in_ok-floors.field-0 ∙ c.loop-s.invariant.count;
      left = left-more at c.loop-s.s c.in_ok-floors.field-0 (omega arith) c.loop-s.invariant.left;
    }

pub returns-in_err-floors : goal.returns-in_err-floors
returns-in_err-floors c =
    let before = take c.loop-s.s c.loop-s.floors.at in
    let exit = err_from_is_err_and c.from_residual.result c.from_residual.ensures.1 in
    record {
      read = rw (exit.1, exit.2)
          (floors-stop c.args.stacks _ _
          (times_stops next_floor c.args.stacks c.loop-s.s before _ _ _ c.loop-s-test.true
          (made_err floor_at (λ (f : Floor). before ++ f ∷ []) _ _ c.in_err-floors.ensures.read)
          c.loop-s.invariant.read));
    }

pub returns : goal.returns
returns c =
    let at = c.loop-s.floors.at in
    let end : c.loop-s.s ≡ c.args.stacks = omega arith in
    let ends : ℕ → Result (List Floor × Rest) CertFault = λ n. Ok (take n at, c.loop-s.input) in
    record {
      read = floors-done c.args.stacks at c.args.input.now c.loop-s.input
          (times_done next_floor c.args.stacks c.loop-s.s _ _ _ c.loop-s-test.false c.loop-s.invariant.read ∙ ap ends end)
          (subst (λ (n : ℕ). drop n at ≡ replicate (16 - n) (At none_live)) end c.loop-s.invariant.left);
    }
