use Rattle.std.proofs.Common.{◌∙◌, sym}
use Rattle.kc_config.specs.Addresses.{meant}
use Rattle.kc_config.specs.Seen.{spelled, sum}
use Rattle.kc_config.specs.declared.address.Spelling.{Spelling}
use Rattle.kc_config.proofs.ArrayLemmas.{every_map, every_more, every_none, every_all}
use Rattle.kc_config.proofs.cpu.find_each.Goals as goal

pub loop-form-preserved : goal.loop-form-preserved
loop-form-preserved c =
    every_more (λ (f : Spelling). meant c.args.image.now.symbols (spelled f)) sum c.args.forms.now
    c.loop-form.form-index _
    c.loop-form.sums.items c.push.new.self.items c.in-Some.sum
    c.loop-form-test.true c.in-Some.ensures c.in_ok-push-in-Some.ensures.items c.loop-form.invariant

pub returns-in-None : goal.returns-in-None
returns-in-None c =
    sym (every_map (meant c.args.image.now.symbols) spelled c.args.forms.now
    ∙ every_none (λ (f : Spelling). meant c.args.image.now.symbols (spelled f)) c.args.forms.now c.loop-form.form-index
    _ _
    c.loop-form-test.true c.in-None.ensures c.loop-form.invariant)

pub returns : goal.returns
returns c =
    sym (every_map (meant c.args.image.now.symbols) spelled c.args.forms.now
    ∙ every_all (λ (f : Spelling). meant c.args.image.now.symbols (spelled f)) c.args.forms.now c.loop-form.form-index _
    c.loop-form-test.false c.loop-form.invariant)
