use Rattle.std.proofs.Common.{ℕ, ◌<◌, ◌+◌, ◌/◌, ◌⊎◌, inl, inr, take, length, get_or, subst, sym, ap, arith}
use Rattle.std.specs.List.{All, Contains}
use Rattle.std.proofs.lemmas.List.Elements.{All-more, All-weaker, All-same}
use Rattle.std.proofs.lemmas.List.{take_all}
use Rattle.kc_mem.specs.PageSteps.{HasPage}
use Rattle.kc_mem.proofs.pages.missing_numbers.Goals as goal

-- what stands in the numbers before the push stands in them after it
kept : (c : goal.In_ok-add_missing) → (w : ℕ × ℕ) → HasPage c.args.pages.now (w.0 / 4096)
    ⊎ Contains c.loop-a.numbers.items (w.0 / 4096)
    → HasPage c.args.pages.now (w.0 / 4096) ⊎ Contains c.add_missing.new.numbers.items (w.0 / 4096)
kept c w (inl has) = inl has
kept c w (inr there) = inr (c.in_ok-add_missing.ensures.kept (w.0 / 4096) there)

pub loop-a-preserved : goal.loop-a-preserved
loop-a-preserved c = (
  c.in_ok-add_missing.ensures.absent c.loop-a.invariant.0,
  All-more (λ w. HasPage c.args.pages.now (w.0 / 4096) ⊎ Contains c.add_missing.new.numbers.items (w.0 / 4096))
      c.args.writes.now c.loop-a.a-index (0, 0) c.loop-a-test.true
      (All-weaker (λ w. HasPage c.args.pages.now (w.0 / 4096) ⊎ Contains c.loop-a.numbers.items (w.0 / 4096)) _
      (kept c) _ c.loop-a.invariant.1) c.in_ok-add_missing.ensures.there,
)

pub returns-clause-enough : goal.returns-clause-enough
returns-clause-enough c = All-same (λ w. HasPage c.args.pages.now (w.0 / 4096) ⊎ Contains c.loop-a.numbers.items
    (w.0 / 4096)) c.args.writes.now _ (sym (take_all c.loop-a.a-index c.args.writes.now (omega arith)))
    c.loop-a.invariant.1
