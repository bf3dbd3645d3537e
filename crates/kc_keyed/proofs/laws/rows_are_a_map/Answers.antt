use Rattle.kc_keyed.proofs.KeyedLemmas.{rows-joined, rows-inserted, rows-came, rows-counted, rows-found, rows-no-other}
use Rattle.kc_keyed.proofs.laws.rows_are_a_map.Goals as goal

pub returns-clause-joined : goal.returns-clause-joined
returns-clause-joined g c R keys values o h = rows-joined R o keys values h

pub returns-clause-inserted : goal.returns-clause-inserted
returns-clause-inserted g c R keys values o h = rows-inserted R o keys values h

pub returns-clause-came : goal.returns-clause-came
returns-clause-came g c R keys values o h = rows-came R o keys values h

pub returns-clause-counted : goal.returns-clause-counted
returns-clause-counted g c R keys values o h = rows-counted R o keys values h

pub returns-clause-found : goal.returns-clause-found
returns-clause-found g c R keys values o h = rows-found R o keys values h

pub returns-clause-nothing : goal.returns-clause-nothing
returns-clause-nothing g c R keys values o h = rows-no-other R o keys values
