use Rattle.kc_insn.proofs.Encoded.{spelled-true}
use Rattle.kc_insn.proofs.insn.Insn.encodable.Goals as goal

pub returns-clause-spelled : goal.returns-clause-spelled
returns-clause-spelled c =
    λ bytes at h. spelled-true c.is_encodable_insn.result c.args.self.now c.is_encodable_insn.ensures bytes at h
