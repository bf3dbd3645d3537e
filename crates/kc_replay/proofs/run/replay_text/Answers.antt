use Rattle.std.proofs.Common.{◌≡◌, ◌++◌, List, length, string_bytes, subst, ap, ◌∙◌, arith}
use Rattle.kc_events.specs.declared.turn.UserSet.{UserSet}
use Rattle.kc_trace.specs.declared.line.Line.{Line}
use Rattle.kc_trace.specs.Script.{count_of}
use Rattle.kc_replay.specs.Turns.{turns_of, first_set}
use Rattle.kc_replay.specs.Told.{IsReplayed, turns_line}
use Rattle.kc_replay.specs.Progress.{Advances, IsFresh, is_clean}
use Rattle.kc_replay.proofs.CountLemmas.{counted}
use Rattle.kc_replay.proofs.ProgressLemmas.{replayed, ok_both}
use Rattle.kc_replay.proofs.run.replay_text.Goals as goal

-- a script has few turns
pub take_lines-requires : goal.take_lines-requires
take_lines-requires c =
    let cfg = c.in_ok-run.run'.machine.config in
    let none = c.in_ok-run.ensures.count in
    let few = c.lines-2.ensures.few in
    let long : length (turns_of cfg c.lines-2.result.now) ≡ count_of c.args.script.now =
    ap (λ (lines : List Line). length (turns_of cfg lines)) c.lines-2.ensures.lines ∙ counted cfg c.args.script.now in
    omega (arith, none, few, long)

pub returns : goal.returns
returns c =
    let cfg = c.args.config in
    let begun = c.in_ok-run.run' in
    let ended = c.take_lines.new.self in
    let first : c.in_ok-first.first ≡ first_set cfg c.args.script.now =
    c.in_ok-first.ensures.first ∙ ap (first_set cfg) c.lines.ensures.lines in
    let fresh = subst (λ (u : UserSet). IsFresh cfg c.args.image u begun) first c.in_ok-run.ensures in
    let advanced = subst
    (λ (lines : List Line). Advances begun ended (turns_of begun.machine.config lines) c.in_ok-progress.progress)
    c.lines-2.ensures.lines c.in_ok-progress.ensures in
    record {
      told =
          ok_both c.finish.result (λ r. r.text ≡ string_bytes ended.told ++ turns_line ended.count)
          (λ r. r.clean ≡ is_clean c.in_ok-progress.progress)
          (λ r. IsReplayed cfg c.args.image c.args.script.now r.text r.clean)
          (λ r text clean.
          replayed cfg c.args.image c.args.script.now begun ended r.text r.clean c.in_ok-progress.progress fresh
          advanced text clean)
          c.finish.ensures.text c.finish.ensures.clean;
    }
