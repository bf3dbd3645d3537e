-- The generated input, this project's own: S1, whose SYSCALL routine jumps from before its handler's call to a run of
-- instructions and back. A seed chooses them by the linear congruential generator of D. E. Knuth's MMIX.
use Rattle.std.specs.Prelude.{ℕ, zero, suc, ◌+◌, ◌*◌, ◌/◌, ◌%◌, ◌^◌, ◌==◌, if◌then◌else◌, List, [], ◌∷◌, ◌++◌, pos}
use Rattle.kc_words.specs.declared.width.Width.TheVariants.{Quad}
use Rattle.kc_insn.specs.declared.insn.Place.TheVariants as place
use Rattle.kc_insn.specs.declared.insn.Source.TheVariants as source
use Rattle.kc_insn.specs.declared.insn.AluOp.TheVariants as alu
use Rattle.kc_insn.specs.declared.insn.Insn.{Insn}
use Rattle.kc_insn.specs.declared.insn.Insn.TheVariants.{Nop, Mov, Alu, Lea, Jmp}
use Rattle.kc_gen.specs.declared.line.Line.{Line}
use Rattle.kc_gen.specs.declared.line.Line.TheVariants.{At, Code}
use Rattle.kc_gen.specs.Image.{image_of}
use Rattle.kc_gen.specs.Samples.{load_address, rax, rdx, from, syscall_frame, syscall_handler, s1_events}
use Rattle.kc_gen.specs.Texts as text

-- the multiplier and the increment of MMIX
abbrev pub number_after : ℕ → ℕ
number_after x = (6364136223846793005 * x + 1442695040888963407) % 2 ^ 64

-- the numbers from the seed on, which has index 0
abbrev pub number_at : ℕ → ℕ → ℕ
number_at seed zero = seed
number_at seed (suc i) = number_after (number_at seed i)

-- bits 32 to 61 of a number
abbrev pub operand : ℕ → ℕ
operand x = x / 2 ^ 32 % 2 ^ 30

-- the instruction that the top two bits of a number choose
abbrev pub chosen : ℕ → Insn
chosen x =
    if x / 2 ^ 62 == 0 then Nop else
    if x / 2 ^ 62 == 1 then Mov Quad (place.Reg rax) (source.Imm (pos (operand x))) else
    if x / 2 ^ 62 == 2 then Alu alu.Add Quad (place.Reg rax) (source.Imm (pos (operand x))) else
    Lea Quad rdx (from rax (operand x))

-- `size` instructions: instruction i, from 1, is chosen by the number with index i
abbrev pub chosen_lines : ℕ → ℕ → List Line
chosen_lines seed zero = []
chosen_lines seed (suc i) = chosen_lines seed i ++ Code (chosen (number_at seed (suc i))) ∷ []

-- S1 with a jump to the instructions between the frame and the handler's call, and the instructions with the jump back
abbrev pub generated_lines : ℕ → ℕ → List Line
generated_lines seed size =
    syscall_frame ++ Code (Jmp 0xffffffff81100000) ∷ syscall_handler ++ s1_events
    ++ At 0xffffffff81100000 ∷ chosen_lines seed size ++ Code (Jmp 0xffffffff81000036) ∷ []

unfoldable pub generated_image : ℕ → ℕ → List ℕ
generated_image seed size = image_of load_address (generated_lines seed size)

-- the description of S1, with the region of the instructions after region `quiet`
unfoldable pub generated_config : List ℕ
generated_config =
    text.head ++ text.entry ++ text.quiet_region ++ text.generated_region ++ text.stacks ++ text.user ++ text.gates ++
    text.handlers ++ text.nmi_handler ++ text.other_handlers ++ text.cpu
