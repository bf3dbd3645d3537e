use Rattle.kc_machine.proofs.JudgeLemmas.{judged-absent, judged-live, judged-stopped, judged-free}
use Rattle.kc_machine.proofs.judge.judge.Goals as goal

pub returns-then-has_forbidden : goal.returns-then-has_forbidden
returns-then-has_forbidden c = λ S t is. judged-absent _ S t _ _ _ _ _ _ _ _ is c.front_of-judged.ensures
    c.uses_other_gs.ensures c.has_forbidden.ensures c.if-uses_other_gs.false c.if-has_forbidden.true

-- no GS access uses another base, and no byte is absent
pub returns-then-writes_live : goal.returns-then-writes_live
returns-then-writes_live c = λ S t is. judged-live _ S t _ _ _ _ _ _ _ _ _ _
    (record {
      is = is;
      front_is = c.front_of-judged.ensures;
      stopped_is = c.is_cut-stops.ensures;
      gs_is = c.uses_other_gs.ensures;
      absent_is = c.has_forbidden.ensures;
      written_is = c.writes_live.ensures;
      no_gs = c.if-uses_other_gs.false;
      none_absent = c.if-has_forbidden.false;
    })
    c.if-writes_live.true

pub returns-then-stops : goal.returns-then-stops
returns-then-stops c = λ S t is. judged-stopped _ S t _ _ _ _ _ _ _ _ _ _
    (record {
      is = is;
      front_is = c.front_of-judged.ensures;
      stopped_is = c.is_cut-stops.ensures;
      gs_is = c.uses_other_gs.ensures;
      absent_is = c.has_forbidden.ensures;
      written_is = c.writes_live.ensures;
      no_gs = c.if-uses_other_gs.false;
      none_absent = c.if-has_forbidden.false;
    })
    c.if-writes_live.false c.if-stops.true

pub returns-else-stops : goal.returns-else-stops
returns-else-stops c = λ S t is. judged-free _ S t _ _ _ _ _ _ _ _ _ _
    (record {
      is = is;
      front_is = c.front_of-judged.ensures;
      stopped_is = c.is_cut-stops.ensures;
      gs_is = c.uses_other_gs.ensures;
      absent_is = c.has_forbidden.ensures;
      written_is = c.writes_live.ensures;
      no_gs = c.if-uses_other_gs.false;
      none_absent = c.if-has_forbidden.false;
    })
    c.if-writes_live.false c.if-stops.false
