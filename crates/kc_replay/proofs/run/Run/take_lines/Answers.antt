use Rattle.std.proofs.Common.{◌≡◌, ◌+◌, ◌-◌, List, length, take, drop, subst, sym, ap, ◌∙◌, arith}
use Rattle.std.proofs.lemmas.List.{length-append}
use Rattle.kc_cpu.specs.declared.cpu.Cpu.{Cpu}
use Rattle.kc_events.specs.declared.turn.Turn.{Turn}
use Rattle.kc_replay.specs.declared.run.Progress.{Progress}
use Rattle.kc_replay.specs.declared.run.Progress.TheVariants.{GoesOn, Over}
use Rattle.kc_replay.specs.Turns.{turns_at, turns_of}
use Rattle.kc_replay.specs.Progress.{LeadsTo, EndsIn, Advances}
use Rattle.kc_replay.proofs.CountLemmas.{turns_more, no_turns}
use Rattle.kc_replay.proofs.ProgressLemmas.{nowhere, goes_on, is_over}
use Rattle.kc_replay.proofs.run.Run.take_lines.Goals as goal

pub returns-in-Over : goal.returns-in-Over
returns-in-Over c =
    let cfg = c.args.self.now.machine.config in
    let lines = c.args.lines.now in
    let before = c.loop-i.self in
    let now = c.take_line.new.self in
    let here = turns_at before.machine.config c.index-lines-i.result
    (take (length lines - (c.loop-i.i + 1)) (drop (c.loop-i.i + 1) lines)) in
    let step = turns_more cfg before.machine.config lines c.loop-i.i c.index-lines-i.result c.loop-i-test.true
    c.index-lines-i.is c.loop-i.invariant.config in
    let one = subst (λ (p : Progress). Advances before now here p) c.in-Over.is c.in_ok-clean.ensures in
    c.loop-i.invariant.goes now (Over c.in-Over.clean)
    (subst (λ (turns : List (Cpu → Turn)). EndsIn before now turns c.in-Over.clean) step
    (is_over before now here (turns_of cfg (drop (c.loop-i.i + 1) lines)) c.in-Over.clean one))

pub loop-i-preserved : goal.loop-i-preserved
loop-i-preserved c =
    let cfg = c.args.self.now.machine.config in
    let lines = c.args.lines.now in
    let before = c.loop-i.self in
    let now = c.take_line.new.self in
    let here = turns_at before.machine.config c.index-lines-i.result
    (take (length lines - (c.loop-i.i + 1)) (drop (c.loop-i.i + 1) lines)) in
    let later = turns_of cfg (drop (c.loop-i.i + 1) lines) in
    let step = turns_more cfg before.machine.config lines c.loop-i.i c.index-lines-i.result c.loop-i-test.true
    c.index-lines-i.is c.loop-i.invariant.config in
    let one = subst (λ (p : Progress). Advances before now here p) c.in_default.is c.in_ok-clean.ensures in
    let taken = one.count in
    let total = c.loop-i.invariant.count in
    let sum : length here + length later ≡ length (turns_of cfg (drop c.loop-i.i lines)) =
    sym (length-append here later) ∙ ap length step in
    record {
      config = one.config ∙ c.loop-i.invariant.config;
      count = omega (arith, taken, total, sum);
      goes = λ Q end rest.
          c.loop-i.invariant.goes Q end
          (subst (λ (turns : List (Cpu → Turn)). Advances before Q turns end) step
          (goes_on before now Q here later end one rest));
    }

pub returns : goal.returns
returns c =
    let now = c.loop-i.self in
    c.loop-i.invariant.goes now GoesOn
    (subst (λ (turns : List (Cpu → Turn)). LeadsTo now now turns)
    (no_turns c.args.self.now.machine.config c.args.lines.now c.loop-i.i c.loop-i-test.false) (nowhere now))
