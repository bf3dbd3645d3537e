use Rattle.std.proofs.Common.{List, ◌/◌, get_or, subst}
use Rattle.kc_mem.specs.declared.pages.Page.{Page}
use Rattle.kc_mem.specs.PageSteps.{HavePages}
use Rattle.kc_mem.proofs.memory.Memory.apply.Goals as goal

-- each write has its page in the old list or among the new pages
pub put_bytes-requires-clause-there : goal.put_bytes-requires-clause-there
put_bytes-requires-clause-there c k d lt =
    let enough = subst (λ (ps : List Page). HavePages ps c.in_ok-more.more.items c.args.writes.now)
    c.deref.ensures.value c.in_ok-more.ensures.enough in
    c.in_ok-add_pages.ensures.there ((get_or c.args.writes.now k d).0 / 4096) (enough k d lt)
