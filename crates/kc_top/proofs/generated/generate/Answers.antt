use Rattle.std.specs.Prelude.{None}
use Rattle.kc_gen.specs.Generated.{generated_image, generated_config}
use Rattle.kc_top.specs.Work.{Comes}
use Rattle.kc_top.specs.Output.{made, IsSummed}
use Rattle.kc_top.specs.OutputSteps.{outcome_of, Never}
use Rattle.kc_top.proofs.OutputLemmas.{sums_up}
use Rattle.kc_top.proofs.ReadLemmas.{IfSome-map, ends_early, concludes-ends}
use Rattle.kc_top.proofs.LoadLemmas.{made-cut, after_made}
use Rattle.kc_top.proofs.generated.generate.Goals as goal

-- the bytes say no image or no description
pub returns-in_err-loaded-clause-ends : goal.returns-in_err-loaded-clause-ends
returns-in_err-loaded-clause-ends g c =
    let file = generated_image c.args.made.seed c.args.made.size in
    let next = sums_up c.args.made.seed c.args.made.size in
    let stop = c.in_err-loaded.field-0.0 in
    ends_early None (λ _. ⊥) (made file generated_config next) (g.S.Sink.state c.args.out.now) stop
    c.from_residual.result c.from_residual.ensures.1
    (IfSome-map (Comes None (λ _. ⊥) (made file generated_config (λ l. Never)))
    (Comes None (λ _. ⊥) (made file generated_config next)) (made-cut None (λ _. ⊥) file generated_config next)
    (outcome_of stop) c.in_err-loaded.ensures.unmade)

-- they do, and what was found was written
pub returns-clause-ends : goal.returns-clause-ends
returns-clause-ends g c =
    let seed = c.args.made.seed in
    let size = c.args.made.size in
    let file = generated_image seed size in
    let l = c.in_ok-loaded.loaded in
    concludes-ends None (λ _. ⊥) (made file generated_config (sums_up seed size)) (IsSummed seed size l)
    (g.S.Sink.state c.args.out.now) (g.S.Sink.state c.sum_up_found.new.out) c.sum_up_found.result
    (after_made None (λ _. ⊥) file generated_config (sums_up seed size) l c.in_ok-loaded.ensures.made)
    c.sum_up_found.ensures.told
