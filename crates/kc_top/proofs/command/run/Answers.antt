use Rattle.std.proofs.Common.{rules, ◌≡◌, ◌≢◌, Option, Some, None, sym, subst, ◌∙◌}
use Rattle.kc_io.specs.Files.{HasFailed}
use Rattle.kc_top.specs.declared.outcome.Outcome.{Outcome}
use Rattle.kc_top.specs.declared.status.Status.TheVariants.{WriteFault}
use Rattle.kc_top.specs.Words.{Request, request_of}
use Rattle.kc_top.specs.RequestSteps.{asked}
use Rattle.kc_top.specs.Work.{Comes}
use Rattle.kc_io.specs.Sink.{SinkState}
use Rattle.kc_top.specs.OutputSteps.{outcome_of}
use Rattle.kc_top.specs.Output.{work_of, IsDue, usage, Tells}
use Rattle.kc_top.proofs.OutputLemmas.{said, tells, checked-done, checked-refused, found-done, both_of}
use Rattle.kc_top.proofs.command.run.Goals as goal

-- words that are no command
pub returns-in_default-clause-outcome : goal.returns-in_default-clause-outcome
returns-in_default-clause-outcome g c = λ _.
    let told = (g.F.Files.state c.args.files.now).held in
    let rose = HasFailed (g.F.Files.state c.args.files.now) (g.F.Files.state c.args.files.now) in
    let none : request_of c.args.words.now ≡ None = search rules in
    let due : IsDue told rose c.args.words.now usage = rw none in (
      usage,
      due,
      tells usage c.say.result _ _ (said told rose (request_of c.args.words.now) usage due).written
          c.say.ensures.all c.say.ensures.part,
    )

-- no outcome that was told is want of memory
pub returns-in-Ok-clause-memory : goal.returns-in-Ok-clause-memory
returns-in-Ok-clause-memory g c = λ no.
    let told = (g.F.Files.state c.args.files.now).held in
    let rose = HasFailed (g.F.Files.state c.args.files.now) (g.F.Files.state c.perform.new.files) in
    let written : c.in-Ok.status ≢ WriteFault = λ fault. cc in
    absurd ((said told rose (Some (asked c.in-Some.request)) c.in-Ok.ensures.ends.0 c.in-Ok.ensures.ends.1).remembered
    (sym (c.in-Ok.ensures.ends.2.all written).0 ∙ no))

-- an accepted certificate is certified
pub returns-in-Ok-clause-certified : goal.returns-in-Ok-clause-certified
returns-in-Ok-clause-certified g c = λ done.
    let told = (g.F.Files.state c.args.files.now).held in
    let rose = HasFailed (g.F.Files.state c.args.files.now) (g.F.Files.state c.perform.new.files) in
    let request : Some (asked c.in-Some.request) ≡ request_of c.args.words.now = search rules in
    let o = c.in-Ok.ensures.ends.0 in
    let due : IsDue told rose c.args.words.now o = subst
    (λ (r : Option Request). Comes told rose (work_of r) o) request c.in-Ok.ensures.ends.1 in
    let written : c.in-Ok.status ≢ WriteFault = λ fault. cc in
    checked-done told rose (request_of c.args.words.now) o due (sym (c.in-Ok.ensures.ends.2.all written).0 ∙ done)

-- a refused one isn't
pub returns-in-Ok-clause-uncertified : goal.returns-in-Ok-clause-uncertified
returns-in-Ok-clause-uncertified g c = λ refuses.
    let told = (g.F.Files.state c.args.files.now).held in
    let rose = HasFailed (g.F.Files.state c.args.files.now) (g.F.Files.state c.perform.new.files) in
    let request : Some (asked c.in-Some.request) ≡ request_of c.args.words.now = search rules in
    let o = c.in-Ok.ensures.ends.0 in
    let due : IsDue told rose c.args.words.now o = subst
    (λ (r : Option Request). Comes told rose (work_of r) o) request c.in-Ok.ensures.ends.1 in
    let written : c.in-Ok.status ≢ WriteFault = λ fault. cc in
    checked-refused told rose (request_of c.args.words.now) o due (sym (c.in-Ok.ensures.ends.2.all written).0 ∙ refuses)

-- what a search wrote is a certified certificate
pub returns-in-Ok-clause-found : goal.returns-in-Ok-clause-found
returns-in-Ok-clause-found g c = λ done.
    let told = (g.F.Files.state c.args.files.now).held in
    let rose = HasFailed (g.F.Files.state c.args.files.now) (g.F.Files.state c.perform.new.files) in
    let request : Some (asked c.in-Some.request) ≡ request_of c.args.words.now = search rules in
    let o = c.in-Ok.ensures.ends.0 in
    let due : IsDue told rose c.args.words.now o = subst
    (λ (r : Option Request). Comes told rose (work_of r) o) request c.in-Ok.ensures.ends.1 in
    let written : c.in-Ok.status ≢ WriteFault = λ fault. cc in
    let all = c.in-Ok.ensures.ends.2.all written in
    found-done told rose (request_of c.args.words.now) o _ _ due (sym all.0 ∙ done) all.1

-- the mode stopped before its own end
pub returns-in-Err-clause-outcome : goal.returns-in-Err-clause-outcome
returns-in-Err-clause-outcome g c = λ remembered.
    let told = (g.F.Files.state c.args.files.now).held in
    let rose = HasFailed (g.F.Files.state c.args.files.now) (g.F.Files.state c.perform.new.files) in
    let request : Some (asked c.in-Some.request) ≡ request_of c.args.words.now = search rules in
    let due : (o : Outcome) → Comes told rose (work_of (Some (asked c.in-Some.request))) o →
    IsDue told rose c.args.words.now o = λ o. subst (λ (r : Option Request). Comes told rose (work_of r) o) request in
    let end = both_of (Comes told rose (work_of (Some (asked c.in-Some.request))))
    (λ o. Tells o c.report.result (g.S.Sink.state c.perform.new.out) (g.S.Sink.state c.report.new.out))
    (outcome_of c.in-Err.stop) c.in-Err.ensures.ends.0 (c.report.ensures.told remembered) in (
      end.0,
      due end.0 end.1,
      subst (λ (sink : SinkState). Tells end.0 c.report.result sink (g.S.Sink.state c.report.new.out))
          c.in-Err.ensures.ends.1 end.2,
    )
