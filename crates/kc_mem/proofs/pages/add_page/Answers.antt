use Rattle.std.proofs.Common.{◌≡◌, Some, ap, sym, subst, ◌∙◌, ◌++◌, ◌∷◌, [], List}
use Rattle.std.specs.List.{All}
use Rattle.std.proofs.lemmas.List.Elements.{All-pop}
use Rattle.kc_mem.specs.PageSteps.{bytes_of, ArePages, AreZeros, IsGapFor}
use Rattle.kc_mem.proofs.EditLemmas.{pages_insert, bytes_insert, whole_zeros}
use Rattle.kc_mem.proofs.pages.add_page.Goals as goal

-- the page that was popped is one of the empty ones
zeros : (c : goal.After-insert_in_room) → AreZeros c.in-Some.bytes.items
zeros c = (All-pop (λ p. AreZeros p.items) c.args.empty.now.items c.pop.new.self.items (Some c.in-Some.bytes)
    c.in-Some.ensures.items c.requires.empty).1

gap : (c : goal.After-insert_in_room) → IsGapFor c.args.pages.now.items c.args.number c.in-Err.at
gap c = subst (λ ps. IsGapFor ps c.args.number c.in-Err.at) c.deref.ensures.value c.in-Err.ensures.absent

pub returns-in-Some-clause-pages : goal.returns-in-Some-clause-pages
returns-in-Some-clause-pages c =
    subst ArePages (sym c.insert_in_room.ensures.items)
    (pages_insert _ _ _ (gap c) (whole_zeros _ (zeros c)) c.requires.pages)

pub returns-in-Some-clause-bytes : goal.returns-in-Some-clause-bytes
returns-in-Some-clause-bytes c =
    ap bytes_of c.insert_in_room.ensures.items ∙ bytes_insert _ _ _ (gap c) (zeros c) c.requires.pages
