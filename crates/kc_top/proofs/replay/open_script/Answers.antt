use Rattle.kc_top.proofs.TraceLemmas.{counted_lines}
use Rattle.kc_top.proofs.replay.open_script.Goals as goal

-- a text within the limit has few lines
pub script_of-requires : goal.script_of-requires
script_of-requires g c = record {
  lines = rw c.deref.ensures.value (counted_lines c.in_ok-text.text.items c.in_ok-text.ensures.within);
}
