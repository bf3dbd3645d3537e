use Rattle.std.proofs.Common.{◌≡◌, ◌/◌, ◌%◌, set, ap, refl, ◌∙◌, sym, subst, get_or}
use Rattle.kc_mem.specs.declared.pages.Page.{Page}
use Rattle.kc_mem.specs.PageSteps.{IsAt, IsWhole}
use Rattle.kc_mem.proofs.PlaceLemmas.{number_is}
use Rattle.kc_mem.proofs.EditLemmas.{numbers-set, pages_set, bytes_set, whole_set}
use Rattle.kc_mem.proofs.pages.put_byte.Goals as goal

found : (c : goal.After-pages-1) → IsAt c.args.pages.now.items (c.args.a / 4096) c.in-Ok.at
found c = subst (λ ps. IsAt ps (c.args.a / 4096) c.in-Ok.at) c.deref.ensures.value c.in-Ok.ensures.found

number : (c : goal.After-pages-1) → c.index_mut.result.now.number ≡ c.args.a / 4096
number c =
    ap (λ (p : Page). p.number) c.index_mut.ensures.value
    ∙ number_is c.args.pages.now.items c.in-Ok.at c.index_mut.result.now (found c).in_range ∙ (found c).is

is_at : (c : goal.After-pages-1) → IsAt c.args.pages.now.items c.index_mut.result.now.number c.in-Ok.at
is_at c = subst (λ n. IsAt c.args.pages.now.items n c.in-Ok.at) (sym (number c)) (found c)

pub returns-in-Ok-clause-pages : goal.returns-in-Ok-clause-pages
returns-in-Ok-clause-pages c =
    let page = c.index_mut.result.now in
    let whole : IsWhole page = subst IsWhole (sym c.index_mut.ensures.value)
    (c.requires.pages.whole c.in-Ok.at page (found c).in_range) in
    pages_set _ _ c.in-Ok.at (is_at c) (whole_set page _ _ _ c.ranges.v.fits refl whole) c.requires.pages

pub returns-in-Ok-clause-numbers : goal.returns-in-Ok-clause-numbers
returns-in-Ok-clause-numbers c = numbers-set _ _ c.in-Ok.at (is_at c)

pub returns-in-Ok-clause-bytes : goal.returns-in-Ok-clause-bytes
returns-in-Ok-clause-bytes c =
    let page = c.index_mut.result.now in
    bytes_set _ _ c.in-Ok.at c.args.a c.args.v page c.requires.pages (found c) (number c)
    (ap (λ (p : Page). set p.bytes.items (c.args.a % 4096) c.args.v) c.index_mut.ensures.value) c.ranges.v.fits
