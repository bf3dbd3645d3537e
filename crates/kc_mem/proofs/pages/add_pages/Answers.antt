use Rattle.std.proofs.Common.{rules, List, subst, ap, ◌∙◌, ◌++◌}
use Rattle.std.specs.List.Sorted.{IsPermutation, IsNonDecreasingBy}
use Rattle.std.proofs.lemmas.List.Sorted.{IsNonDecreasingBy-from_sort_by_key}
use Rattle.kc_mem.specs.declared.pages.Page.{Page}
use Rattle.kc_mem.proofs.MergeLemmas.{merged_pages, merged_bytes, merged_there}
use Rattle.kc_mem.proofs.pages.add_pages.Goals as goal

moved : (c : goal.After-drop-more-2) → IsPermutation (c.args.pages.now.items ++ c.args.more.items)
    c.sort_unstable_by_key.new.self.items
moved c =
    subst (λ (ps : List Page). IsPermutation (ps ++ c.args.more.items) c.sort_unstable_by_key.new.self.items)
    c.reserve.ensures.items
    (subst (λ (ps : List Page). IsPermutation ps c.sort_unstable_by_key.new.self.items) c.in_ok-append.ensures.items
    c.sort_unstable_by_key.ensures.permutation)

sorted : (c : goal.After-drop-more-2) → IsNonDecreasingBy (λ (p : Page). p.number) c.sort_unstable_by_key.new.self.items
sorted c = IsNonDecreasingBy-from_sort_by_key (λ (p : Page). p.number) _ c.sort_unstable_by_key.ensures.sorted
    (λ a r q k. search rules)

pub returns-clause-pages : goal.returns-clause-pages
returns-clause-pages c = merged_pages _ _ _ c.requires.pages c.requires.missing (moved c) (sorted c)

pub returns-clause-bytes : goal.returns-clause-bytes
returns-clause-bytes c = merged_bytes _ _ _ c.requires.pages c.requires.missing (moved c) (sorted c)

pub returns-clause-there : goal.returns-clause-there
returns-clause-there c = merged_there _ _ _ c.requires.pages c.requires.missing (moved c) (sorted c)
