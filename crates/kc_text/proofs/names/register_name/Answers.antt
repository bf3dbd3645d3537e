use Rattle.kc_text.proofs.names.register_name.Goals as goal

pub returns-in-2-clause-is : goal.returns-in-2-clause-is
returns-in-2-clause-is c = rw c.in-2.is c.by_width-in-2.ensures.is
