-- A trace within its limit has fewer lines than a number of 32 bits counts: a text has at most as many lines as bytes.
use Rattle.std.proofs.Common.{ℕ, ◌-◌, ◌^◌, ◌<◌, ◌≤◌, List, length, arith}
use Rattle.kc_trace.specs.Words.{lines_of}
use Rattle.kc_trace.proofs.CutLemmas.{few_lines}
use Rattle.kc_top.specs.Output.{TRACE_LIMIT}

pub counted_lines : (text : List ℕ) → length text ≤ TRACE_LIMIT → length (lines_of text) < 2 ^ 32 - 1
counted_lines text within = let few = few_lines text in omega (arith, within, few)
