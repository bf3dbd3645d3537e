use Rattle.std.proofs.Common.{◌≡◌, ◌+◌, ◌-◌, List, [], ◌∷◌, ◌++◌, take, Result, Ok, length-set, sym, ap, subst, ◌∙◌, arith}
use Rattle.std.proofs.lemmas.List.{take_more_set}
use Rattle.std.proofs.lemmas.Result.{err_from_is_err_and}
use Rattle.kc_value.specs.AbsValue.{AbsValue}
use Rattle.kc_certfields.specs.declared.fault.CertFault.{CertFault}
use Rattle.kc_certfields.specs.Rest.{Rest}
use Rattle.kc_certfields.specs.Reads.{times}
use Rattle.kc_certfields.specs.Values.{value_at, next_value, values_at}
use Rattle.kc_certfields.proofs.TimesLemmas.{times_more, times_stops, times_done}
use Rattle.kc_certfields.proofs.LoopLemmas.{made_ok, made_err, take-all}
use Rattle.kc_certfields.proofs.values.read_registers.Goals as goal

pub loop-r-preserved : goal.loop-r-preserved
loop-r-preserved c =
    let before = take c.loop-r.r c.loop-r.regs in
    record {
      read = subst (λ (vs : List AbsValue). times next_value (16 - (c.loop-r.r + 1)) vs c.read_value.new.input
          ≡ values_at 16 c.args.input.now)
          (sym (take_more_set c.loop-r.regs c.loop-r.r c.in_ok-regs.field-0 (omega (arith, c.loop-r.invariant.count))))
          (times_more next_value 16 c.loop-r.r before _ _ _ _ c.loop-r-test.true
          (made_ok value_at (λ (v : AbsValue). before ++ v ∷ []) _ _ _ c.in_ok-regs.ensures.read) c.loop-r.invariant.read);
      count = length-set c.loop-r.regs c.loop-r.r c.in_ok-regs.field-0 ∙ c.loop-r.invariant.count;
    }

pub returns-in_err-regs : goal.returns-in_err-regs
returns-in_err-regs c =
    let before = take c.loop-r.r c.loop-r.regs in
    let exit = err_from_is_err_and c.from_residual.result c.from_residual.ensures.1 in
    record {
      read = rw (exit.1, exit.2)
          (times_stops next_value 16 c.loop-r.r before _ _ _ c.loop-r-test.true
          (made_err value_at (λ (v : AbsValue). before ++ v ∷ []) _ _ c.in_err-regs.ensures.read)
          c.loop-r.invariant.read);
    }

pub returns : goal.returns
returns c =
    let all : take c.loop-r.r c.loop-r.regs ≡ c.loop-r.regs = take-all c.loop-r.r c.loop-r.regs (omega (arith, c.loop-r.invariant.count)) in
    let ends : List AbsValue → Result (List AbsValue × Rest) CertFault = λ vs. Ok (vs, c.loop-r.input) in
    record {
      read = times_done next_value 16 c.loop-r.r _ _ _ c.loop-r-test.false c.loop-r.invariant.read ∙ ap ends all;
    }
