-- Where each field of an instruction fits its type, each displacement is a signed number of 32 bits, as the lemmas on
-- operands ask: by cases on the instruction.
use Rattle.kc_insn.specs.declared.insn.Insn.{Insn}
use Rattle.kc_insn.specs.declared.insn.Insn.TheVariants.{Mov, Lea, Xchg, Push, Pop, Alu, Test, Bit}
use Rattle.kc_insn.specs.declared.insn.Source.{Source}
use Rattle.kc_insn.specs.declared.insn.Source.TheVariants as source
use Rattle.kc_insn.specs.Fields.{source_of}
use Rattle.kc_describes.proofs.InsnLemmas.{HasDisp, HasDisps}
use Rattle.kc_stack.specs.Rows.{FitsSource, FitsTypes}

disp_of : (x : Source) → FitsSource x → HasDisp x
disp_of (source.Reg r) h = tt
disp_of (source.Mem a) h = h
disp_of (source.Imm z) h = tt

pub disps_of : (insn : Insn) → FitsTypes insn → HasDisps insn
disps_of (Mov w dest src) h = (disp_of (source_of dest) h.0, disp_of src h.1)
disps_of (Lea w dest src) h = h
disps_of (Xchg w dest src) h = disp_of (source_of dest) h
disps_of (Push src) h = disp_of src h
disps_of (Pop dest) h = disp_of (source_of dest) h
disps_of (Alu op w dest src) h = (disp_of (source_of dest) h.0, disp_of src h.1)
disps_of (Test w dest src) h = (disp_of (source_of dest) h.0, disp_of src h.1)
disps_of (Bit op w dest number) h = disp_of (source_of dest) h.0
disps_of insn h = tt
