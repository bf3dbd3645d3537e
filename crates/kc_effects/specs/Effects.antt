-- What every instruction but a return leaves, and what an image spells, each a law. This project's own.
use Rattle.std.specs.Prelude.{◌≡◌, ℕ, Some}
use Rattle.kc_insn.specs.declared.insn.Insn.{Insn}
use Rattle.kc_insn.specs.declared.insn.Insn.TheVariants.{Iretq, Sysretq}
use Rattle.kc_image.specs.Image.{Contents}
use Rattle.kc_events.specs.Fetched.{IsAt}
use Rattle.kc_stack.specs.Rows.{IsSpelled, CoversRow}

-- an instruction that is no return
pub record IsNoReturn (insn : Insn) : Type 0 where
  pub iretq : insn ≡ Iretq → ⊥
  pub sysretq : insn ≡ Sysretq → ⊥

-- the instruction that an image spells has a spelling, and its fields fit their types
abbrev pub FoundIsSpelled : Type 0
FoundIsSpelled = (image : Contents) (at : ℕ) (insn : Insn) (len : ℕ) → IsAt image at (Some (insn, len))
    → IsSpelled insn

-- what is known after any instruction but a return stands for what it leaves
abbrev pub EachRowIsCovered : Type 0
EachRowIsCovered = (insn : Insn) → IsNoReturn insn → CoversRow insn
