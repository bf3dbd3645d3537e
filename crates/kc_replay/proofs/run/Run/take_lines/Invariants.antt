use Rattle.std.proofs.Common.{◌≡◌, ◌+◌, length, drop}
use Rattle.kc_replay.specs.declared.run.Run.{Run}
use Rattle.kc_replay.specs.declared.run.Progress.{Progress}
use Rattle.kc_replay.specs.Turns.{turns_of}
use Rattle.kc_replay.specs.Progress.{Advances}
use Rattle.kc_replay.proofs.run.Run.take_lines.Given as goal

-- The turns of the lines left go on where those of the lines before led.
abbrev pub invariant-loop-i : goal.invariant-loop-i
invariant-loop-i l = record {
  config : l.self.machine.config ≡ l.fn.self.machine.config;
  count : l.self.count + length (turns_of l.fn.self.machine.config (drop l.i l.lines))
      ≡ l.fn.self.count + length (turns_of l.fn.self.machine.config l.lines);
  goes : (Q : Run) (end : Progress)
      → Advances l.self Q (turns_of l.fn.self.machine.config (drop l.i l.lines)) end
      → Advances l.fn.self Q (turns_of l.fn.self.machine.config l.lines) end;
}
