use Rattle.std.proofs.Common.{◌<◌, ◌%◌, length, sym, ◌∙◌, arith, get_or}
use Rattle.std.proofs.lemmas.List.{get_or_default}
use Rattle.kc_mem.proofs.PlaceLemmas.{stored_absent, stored_present, none_before_at, none_in_gap}
use Rattle.kc_mem.proofs.pages.stored_byte.Goals as goal

pub returns-in-Ok : goal.returns-in-Ok
returns-in-Ok c =
    let found = c.in-Ok.ensures.found in
    let page = get_or c.args.pages.now c.in-Ok.at c.index-pages-at.result in
    let whole = c.requires.whole c.in-Ok.at c.index-pages-at.result found.in_range in
    let within : c.args.a % 4096 < length page.bytes.items = omega (arith, whole.size) in
    c.index.ensures ∙ get_or_default page.bytes.items (c.args.a % 4096) c.index.result.now 0 within
    ∙ sym (stored_present c.args.pages.now c.args.a c.in-Ok.at c.index-pages-at.result found
    (none_before_at _ c.requires.rising _ _ found))

pub returns-in-Err : goal.returns-in-Err
returns-in-Err c = sym (stored_absent c.args.pages.now c.args.a (none_in_gap _ _ _ c.in-Err.ensures.absent))
