use Rattle.kc_lattice.proofs.row.RowMeaning.stands.Goals as goal

-- the slices are the row's list and the list of what it stands for
pub returns : goal.returns
returns g c = record {
  is = rw (c.deref.ensures.value, c.self.view_is, c.deref-2.ensures.value) at c.stands_each.ensures.is;
}
