-- Each instruction but a return is covered: by cases on the instruction, each by the lemma on its row.
use Rattle.std.proofs.Common.{refl}
use Rattle.kc_insn.specs.declared.insn.Insn.TheVariants as insn
use Rattle.kc_stack.proofs.PushLemmas as push
use Rattle.kc_stack.proofs.PopLemmas as pop
use Rattle.kc_effects.specs.Effects.{EachRowIsCovered}
use Rattle.kc_effects.proofs.ArithLemmas as arith
use Rattle.kc_effects.proofs.FlagRowLemmas as flags
use Rattle.kc_effects.proofs.MoveRowLemmas as moves
use Rattle.kc_effects.proofs.SystemRowLemmas as system

pub covered_rows : EachRowIsCovered
covered_rows insn.Nop keeps = moves.nop
covered_rows insn.Endbr64 keeps = moves.endbr64
covered_rows insn.Lfence keeps = moves.lfence
covered_rows insn.Ud2 keeps = system.ud2
covered_rows insn.Cld keeps = flags.cld
covered_rows insn.Clac keeps = flags.clac
covered_rows insn.Stac keeps = flags.stac
covered_rows insn.Cli keeps = flags.cli
covered_rows insn.Sti keeps = flags.sti
covered_rows insn.Swapgs keeps = system.swapgs
covered_rows insn.Sysretq keeps = absurd (keeps.sysretq refl)
covered_rows insn.Iretq keeps = absurd (keeps.iretq refl)
covered_rows insn.Rdmsr keeps = system.rdmsr
covered_rows insn.Wrmsr keeps = system.wrmsr
covered_rows insn.Pushfq keeps = push.pushfq
covered_rows insn.Popfq keeps = flags.popfq
covered_rows insn.Ret keeps = pop.ret
covered_rows (insn.ReadCr3 r) keeps = system.read_cr3 r
covered_rows (insn.WriteCr3 r) keeps = system.write_cr3 r
covered_rows (insn.ReadGs r) keeps = system.read_gs r
covered_rows (insn.WriteGs r) keeps = system.write_gs r
covered_rows (insn.Mov w dest src) keeps = moves.mov w dest src
covered_rows (insn.Lea w dest src) keeps = moves.lea w dest src
covered_rows (insn.Xchg w dest src) keeps = moves.xchg w dest src
covered_rows (insn.Push src) keeps = push.push src
covered_rows (insn.Pop dest) keeps = pop.pop dest
covered_rows (insn.Alu op w dest src) keeps = arith.alu op w dest src
covered_rows (insn.«Test» w dest src) keeps = arith.test w dest src
covered_rows (insn.Bit op w dest number) keeps = arith.bit op w dest number
covered_rows (insn.Jcc code target) keeps = flags.jcc code target
covered_rows (insn.Jmp target) keeps = flags.jmp target
covered_rows (insn.Call target) keeps = push.call target
