use Rattle.std.proofs.Common.{ℕ, ap, ◌∙◌, sym}
use Rattle.std.proofs.lemmas.Nat.{and_mask}
use Rattle.kc_words.specs.declared.width.Width.{Width}
use Rattle.kc_mem.specs.Memory.{write}
use Rattle.kc_exec.specs.Operand.{size_of}
use Rattle.kc_exec.proofs.StoreLemmas.{write-byte, write-long}
use Rattle.kc_machine.proofs.code.store.Goals as goal

-- the low byte is masked, and that is all that the write takes
pub returns-in-Byte : goal.returns-in-Byte
returns-in-Byte c =
    let mem = c.args.mem.now.bytes in
    let w = c.args.write.now in
    c.write1.ensures.bytes ∙ ap (λ (v : ℕ). write mem w.at 1 v) (and_mask w.value 8) ∙ write-byte mem w.at w.value
    ∙ ap (λ (width : Width). write mem w.at (size_of width) w.value) (sym c.in-Byte.is)

-- the same of the low 32 bits
pub returns-in-Long : goal.returns-in-Long
returns-in-Long c =
    let mem = c.args.mem.now.bytes in
    let w = c.args.write.now in
    c.write4.ensures.bytes ∙ ap (λ (v : ℕ). write mem w.at 4 v) (and_mask w.value 32) ∙ write-long mem w.at w.value
    ∙ ap (λ (width : Width). write mem w.at (size_of width) w.value) (sym c.in-Long.is)
