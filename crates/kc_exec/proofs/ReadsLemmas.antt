-- No instruction makes more than seven data reads. An operand is read by one access at most, and so two operands by
-- two; IRETQ has five words and two descriptors. By cases on the instruction, over these.
use Rattle.std.proofs.Common.{◌≡◌, ℕ, ◌+◌, ◌%◌, ◌^◌, ◌≤◌, Bool, true, false, cond, List, [], ◌∷◌, ◌++◌, length, Option, Some, None, arith, lit≤, length-append, ◌==◌}
use Rattle.kc_words.specs.declared.width.Width.{Width}
use Rattle.kc_words.specs.declared.width.Width.TheVariants.{Quad}
use Rattle.kc_insn.specs.declared.insn.Place.{Place}
use Rattle.kc_insn.specs.declared.insn.Place.TheVariants as place
use Rattle.kc_insn.specs.declared.insn.Source.{Source}
use Rattle.kc_insn.specs.declared.insn.Source.TheVariants as source
use Rattle.kc_insn.specs.declared.insn.Insn.{Insn}
use Rattle.kc_insn.specs.declared.insn.Insn.TheVariants.{Nop, Endbr64, Lfence, Ud2, Cld, Clac, Stac, Cli, Sti, Swapgs, Sysretq, Iretq, Rdmsr, Wrmsr, Pushfq, Popfq, Ret, ReadCr3, WriteCr3, ReadGs, WriteGs, Mov, Lea, Xchg, Push, Pop, Alu, Test, Bit, Jcc, Jmp, Call}
use Rattle.kc_insn.specs.Fields.{source_of}
use Rattle.kc_exec.specs.declared.access.Access.{Access}
use Rattle.kc_exec.specs.declared.executed.Executed.{Executed}
use Rattle.kc_exec.specs.Moment.{Moment}
use Rattle.kc_exec.specs.Operand.{operand, reads_of}
use Rattle.kc_exec.specs.Change.{falls, operated, stack_read, stack_word}
use Rattle.kc_exec.specs.Effect.{row, is_null, descriptor_read, iret_reads, gs_base, kernel_gs_base, mcg_status, msr_number, edx_eax, with_msr}

-- one operand
few-of : (m : Moment) (w : Width) (src : Source) → length (reads_of m w src) ≤ 1
few-of m w (source.Reg r) = lit≤ tt
few-of m w (source.Mem a) = lit≤ tt
few-of m w (source.Imm z) = lit≤ tt

-- two operands
few-pair : (m : Moment) (w : Width) (dest src : Source) → length (reads_of m w dest ++ reads_of m w src) ≤ 7
few-pair m w dest src =
    omega (arith, length-append (reads_of m w dest) (reads_of m w src), few-of m w dest, few-of m w src)

few-one : (m : Moment) (w : Width) (src : Source) → length (reads_of m w src) ≤ 7
few-one m w src = omega (arith, few-of m w src)

reads-operated : (m : Moment) (w : Width) (dest : Place) (reads : List Access) (flags : ℕ) (v : Option ℕ)
    → length reads ≤ 7 → length (operated m w dest reads flags v).reads ≤ 7
reads-operated m w dest reads flags None h = h
reads-operated m w dest reads flags (Some v) h = h

few-if : (b : Bool) (e f : Executed) → length e.reads ≤ 7 → length f.reads ≤ 7 → length (cond b e f).reads ≤ 7
few-if true e f p q = p
few-if false e f p q = q

few-end : (b : Bool) (x y z u v w d : Access) → length (x ∷ y ∷ z ∷ u ∷ v ∷ w ∷ (cond b [] (d ∷ []))) ≤ 7
few-end true x y z u v w d = lit≤ tt
few-end false x y z u v w d = lit≤ tt

few-iret : (m : Moment) → length (iret_reads m) ≤ 7
few-iret m =
    few-end (is_null (stack_word m 4 % 2 ^ 16)) (stack_read m 0) (stack_read m 1) (stack_read m 2) (stack_read m 3)
    (stack_read m 4)
    (descriptor_read m (stack_word m 1 % 2 ^ 16)) (descriptor_read m (stack_word m 4 % 2 ^ 16))

none : 0 ≤ 7
none = lit≤ tt

one : 1 ≤ 7
one = lit≤ tt

few-msr : (m : Moment) (n v : ℕ) → length (with_msr m n v).reads ≤ 7
few-msr m n v =
    let last = falls m m.cpu [] None in
    let third = cond (n == mcg_status) (falls (record m { latch = record m.latch { mcip = false } }) m.cpu [] None)
    last in
    let second = cond (n == kernel_gs_base) (falls m (record m.cpu { kgs = v }) [] None) third in
    few-if (n == gs_base) (falls m (record m.cpu { gs = v }) [] None) second none
    (few-if (n == kernel_gs_base) (falls m (record m.cpu { kgs = v }) [] None) third none
    (few-if (n == mcg_status) (falls (record m { latch = record m.latch { mcip = false } }) m.cpu [] None) last none
    none))

pub few-reads : (m : Moment) (insn : Insn) → length (row m insn).reads ≤ 7
unfolding row
few-reads m Nop = none
few-reads m Endbr64 = none
few-reads m Lfence = none
few-reads m Ud2 = none
few-reads m (Mov w dest src) = few-one m w src
few-reads m (Lea w dest src) = none
few-reads m (Xchg w dest src) = few-one m w (source_of dest)
few-reads m (Push src) = few-one m Quad src
few-reads m (Pop dest) = one
few-reads m Pushfq = none
few-reads m Popfq = one
few-reads m (Alu op w dest src) = reads-operated m w dest _ _ _ (few-pair m w (source_of dest) src)
few-reads m (Test w dest src) = few-pair m w (source_of dest) src
few-reads m (Bit op w dest number) = reads-operated m w dest _ _ _ (few-one m w (source_of dest))
few-reads m (Jcc code target) = none
few-reads m (Jmp target) = none
few-reads m (Call target) = none
few-reads m Ret = one
few-reads m Cli = none
few-reads m Cld = none
few-reads m Clac = none
few-reads m Stac = none
few-reads m Sti = none
few-reads m Swapgs = none
few-reads m (ReadGs r) = none
few-reads m (WriteGs r) = none
few-reads m Rdmsr = none
few-reads m Wrmsr = few-msr m (msr_number m.cpu) (edx_eax m.cpu)
few-reads m (ReadCr3 r) = none
few-reads m (WriteCr3 r) = none
few-reads m Sysretq = none
few-reads m Iretq = few-iret m
