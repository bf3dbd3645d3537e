use Rattle.std.proofs.Common.{◌≡◌, ◌∙◌}
use Rattle.std.specs.List.{All}
use Rattle.std.proofs.lemmas.Result.{IfOk-weaker}
use Rattle.kc_mem.specs.PageSteps.{numbers_of, AreZeros, AreMissing, HavePages}
use Rattle.kc_mem.proofs.MergeLemmas.{missing_made, have_pages, ok_both}
use Rattle.kc_mem.proofs.pages.missing_pages.Goals as goal

pub returns-clause-missing : goal.returns-clause-missing
returns-clause-missing c =
    let sorted = c.sorted_distinct-numbers in
    ok_both c.numbered_pages.result
    (λ more. numbers_of more.items ≡ c.deref.result.now) (λ more. All (λ p. AreZeros p.bytes.items) more.items)
    (λ more. AreMissing c.args.pages.now more.items)
    (λ more is zeros. missing_made c.args.pages.now more.items c.in_ok-missing_numbers.field-0.items sorted.result.items
    (is ∙ c.deref.ensures.value) sorted.ensures.rises zeros
    sorted.ensures.adds_none c.in_ok-missing_numbers.ensures.absent)
    c.numbered_pages.ensures.numbers c.numbered_pages.ensures.zeros

pub returns-clause-enough : goal.returns-clause-enough
returns-clause-enough c =
    let sorted = c.sorted_distinct-numbers in
    IfOk-weaker c.numbered_pages.result
    (λ more. numbers_of more.items ≡ c.deref.result.now)
    (λ more. HavePages c.args.pages.now more.items c.args.writes.now)
    (λ more is. have_pages c.args.pages.now more.items c.in_ok-missing_numbers.field-0.items sorted.result.items
    c.args.writes.now (is ∙ c.deref.ensures.value)
    sorted.ensures.keeps c.in_ok-missing_numbers.ensures.enough)
    c.numbered_pages.ensures.numbers
