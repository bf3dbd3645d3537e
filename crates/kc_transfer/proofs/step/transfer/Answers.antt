use Rattle.std.proofs.Common.{◌+◌}
use Rattle.kc_bits.specs.Bits.{word}
use Rattle.kc_transfer.proofs.CoverLemmas.{steps_covered}
use Rattle.kc_transfer.proofs.StepForms.{steps_formed}
use Rattle.kc_state.proofs.KeyLemmas.{key_place}
use Rattle.kc_transfer.proofs.step.transfer.Goals as goal

pub step-requires-clause-stack : goal.step-requires-clause-stack
step-requires-clause-stack c = key_place c.args.cfg.now c.args.key.now c.tell.ensures.valid c.requires.stack

pub returns-clause-well_formed : goal.returns-clause-well_formed
returns-clause-well_formed c = λ h.
    steps_formed c.args.cfg.now c.args.key.now c.args.state.now c.args.insn.now (word (c.args.at + c.from.result))
    c.step.result c.args.out.now c.step.new.out
    c.step.ensures h

pub returns-clause-covers : goal.returns-clause-covers
returns-clause-covers c =
    steps_covered c.args.cfg.now c.args.key.now c.args.state.now c.args.insn.now c.args.len c.args.at c.from.result
    c.from.ensures c.step.result c.args.out.now c.step.new.out c.tell.ensures.valid c.tell-2.ensures.valid c.step.ensures
