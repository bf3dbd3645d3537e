use Rattle.std.proofs.Common.{rules, is_lt}
use Rattle.std.proofs.lemmas.Cmp.{nat_list_cmp_total}
use Rattle.std.proofs.lemmas.Fn.{always_returns_same}
use Rattle.std.proofs.lemmas.List.Sorted.{ranks_by}
use Rattle.kc_image.specs.SymbolSteps.{name_of}
use Rattle.kc_image.proofs.IndexLemmas.{compared, found_in_sorted}
use Rattle.kc_image.proofs.index.sort_by_name.Goals as goal

pub returns-clause-sorted : goal.returns-clause-sorted
returns-clause-sorted c =
    let file = c.args.file.now in
    c.in_ok-sort_by.ensures.sorted (λ a b. is_lt (compared (name_of file a) (name_of file b)))
    (ranks_by nat_list_cmp_total (name_of file)) (always_returns_same _ _ _ (λ a r f k. search rules))

pub returns-clause-first : goal.returns-clause-first
returns-clause-first c = λ name.
    let file = c.args.file.now in
    found_in_sorted file name c.args.names.items c.sort_by.new.self.items
    (c.in_ok-sort_by.ensures.stable (λ a b. is_lt (compared (name_of file a) (name_of file b)))
    (ranks_by nat_list_cmp_total (name_of file)) (always_returns_same _ _ _ (λ a r f k. search rules)))
