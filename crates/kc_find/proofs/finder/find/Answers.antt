-- a cell that is let go holds what it did
use Rattle.kc_find.proofs.finder.find.Goals as goal

pub invariant_of-table-inside-in_err-rise_all : goal.invariant_of-table-inside-in_err-rise_all
invariant_of-table-inside-in_err-rise_all c = record { rises = c.table-2.inside.user.rises }
