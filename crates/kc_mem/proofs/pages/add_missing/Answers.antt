use Rattle.std.proofs.lemmas.List.Elements.{All-push, All-same}
use Rattle.kc_mem.specs.PageSteps.{HasPage, IsAt}
use Rattle.kc_mem.proofs.PlaceLemmas.{none_in_gap}
use Rattle.kc_mem.proofs.pages.add_missing.Goals as goal

-- the place is a gap, so no page has the number
gone : (c : goal.In_ok-push) → ¬ HasPage c.args.pages.now c.args.number
gone c (i, at) = none_in_gap c.args.pages.now c.args.number c.in-Err.field-0 c.in-Err.ensures.absent i at.in_range at.is

pub returns-in_err-push-clause-absent : goal.returns-in_err-push-clause-absent
returns-in_err-push-clause-absent c = λ absent.
    All-same (λ n. ¬ HasPage c.args.pages.now n) c.push.new.self.items c.args.numbers.now.items
    c.in_err-push.ensures.items absent

pub returns-in_ok-push-clause-absent : goal.returns-in_ok-push-clause-absent
returns-in_ok-push-clause-absent c = λ absent.
    All-same (λ n. ¬ HasPage c.args.pages.now n) c.push.new.self.items _ c.in_ok-push.ensures.items
    (All-push (λ n. ¬ HasPage c.args.pages.now n) c.args.numbers.now.items c.args.number absent (gone c))
