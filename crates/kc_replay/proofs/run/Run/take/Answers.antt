use Rattle.std.proofs.Common.{◌+◌, [], Ok, ◌∙◌, ap, sym, refl}
use Rattle.std.proofs.lemmas.List.{append-nil}
use Rattle.kc_replay.specs.Told.{NotAllowed, Done, Stopped, Broke, not_allowed_line, stopped_line, break_line}
use Rattle.kc_replay.proofs.ProgressLemmas.{passes, told_passes, told_ends}
use Rattle.kc_replay.proofs.run.Run.take.Goals as goal

pub returns-in-Done : goal.returns-in-Done
returns-in-Done c =
    passes c.args.self.now _ (λ _. c.args.turn.now) [] c.step.ensures.parts.0 c.step.ensures.parts.1 refl
    (sym (append-nil _)) (Done (c.step.ensures.done (c.in_ok-step.was ∙ ap Ok c.in-Done.is)) refl)

pub returns-in_ok-tell-in-NotAllowed : goal.returns-in_ok-tell-in-NotAllowed
returns-in_ok-tell-in-NotAllowed c =
    told_passes c.args.self.now c.tell.new.self c.step.new.self (c.args.self.now.count + 1) (λ _. c.args.turn.now)
    (not_allowed_line (c.args.self.now.count + 1)) _ c.tell.ensures.rest.0 c.tell.ensures.rest.1 refl
    c.in_ok-tell-in-NotAllowed.ensures.told (c.in_ok-not_allowed_line-in-NotAllowed).ensures c.step.ensures.parts.0
    c.step.ensures.parts.1
    (NotAllowed (c.step.ensures.not_allowed (c.in_ok-step.was ∙ ap Ok c.in-NotAllowed.is)) refl)

pub returns-in_ok-tell-in-Stopped : goal.returns-in_ok-tell-in-Stopped
returns-in_ok-tell-in-Stopped c =
    told_ends c.args.self.now c.tell-in-Stopped.new.self (c.args.self.now.count + 1) (λ _. c.args.turn.now)
    (stopped_line (c.args.self.now.count + 1)) _ _ c.tell-in-Stopped.ensures.rest.1 refl
    c.in_ok-tell-in-Stopped.ensures.told c.in_ok-stopped_line-in-Stopped.ensures
    (Stopped (c.step.ensures.stopped (c.in_ok-step.was ∙ ap Ok c.in-Stopped.is)).0 refl refl)

pub returns-in_ok-tell-in-Broke : goal.returns-in_ok-tell-in-Broke
returns-in_ok-tell-in-Broke c =
    told_ends c.args.self.now c.tell-in-Broke.new.self (c.args.self.now.count + 1) (λ _. c.args.turn.now)
    (break_line (c.args.self.now.count + 1) c.in-Broke.number) _ _ c.tell-in-Broke.ensures.rest.1 refl
    c.in_ok-tell-in-Broke.ensures.told c.in_ok-break_line-in-Broke.ensures
    (Broke c.in-Broke.number (c.step.ensures.broke c.in-Broke.number (c.in_ok-step.was ∙ ap Ok c.in-Broke.is)).0 refl
    refl)
