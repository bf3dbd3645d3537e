use Rattle.std.proofs.Common.{◌≡◌, ℕ, arith}
use Rattle.std.specs.Prelude.{Result, Ok, Err}
use Rattle.kc_decode.proofs.Answers.{are-bytes}
use Rattle.kc_decode.specs.declared.fault.DecodeFault.{DecodeFault}
use Rattle.kc_insn.specs.declared.insn.Insn.{Insn}
use Rattle.kc_cert.proofs.CodeLemmas.{read-value, none-value}
use Rattle.kc_cert.proofs.code.read.Goals as goal

pub returns-in-Ok-clause-value : goal.returns-in-Ok-clause-value
returns-in-Ok-clause-value c =
    read-value c.args.at c.args.bytes.now c.in-Ok.found
    (are-bytes c.args.bytes.now (λ i. omega (arith, c.type_inv.bytes i))) c.in-Ok.ensures.found

pub returns-in-Err-clause-value : goal.returns-in-Err-clause-value
returns-in-Err-clause-value c =
    none-value c.args.at c.args.bytes.now (are-bytes c.args.bytes.now (λ i. omega (arith, c.type_inv.bytes i)))
    (λ n insn le spells.
    let clash : ◌≡◌ {A = Result (Insn × ℕ) DecodeFault} (Err c.in-Err.field-0) (Ok (insn, n)) =
    c.in-Err.ensures.only n insn le spells in
    cc (clash))

pub returns-in-Err-clause-absent : goal.returns-in-Err-clause-absent
returns-in-Err-clause-absent c e n insn le spells =
    let clash : ◌≡◌ {A = Result (Insn × ℕ) DecodeFault} (Err c.in-Err.field-0) (Ok (insn, n)) =
    c.in-Err.ensures.only n insn le spells in
    cc (clash)
