-- What a handler's edit of the user's saved frame does: SDM vol. 3A, "64-Bit Mode Stack Frame", for the places of the
-- words; that handlers may edit them is this project's own.
use Rattle.std.specs.Prelude.{ℕ, ◌+◌, List, [], ◌∷◌, ◌++◌, Option, Some, None}
use Rattle.std.specs.Option.{unwrap_or}
use Rattle.kc_regions.specs.Description.{Description}
use Rattle.kc_cpu.specs.declared.cpu.Cpu.{Cpu}
use Rattle.kc_exec.specs.declared.state.Activation.{Activation}
use Rattle.kc_exec.specs.Operand.{plus}
use Rattle.kc_exec.specs.Register.{register, with_register, rsp}
use Rattle.kc_events.specs.declared.turn.Edit.{Edit}

-- the word, where it is edited, with the address that it goes to
abbrev pub edited_word : ℕ → Option ℕ → List (ℕ × ℕ)
edited_word at None = []
edited_word at (Some word) = (at, word) ∷ []

-- The edited words with their addresses: RIP where the saved RIP lies, RFLAGS 16 and RSP 24 bytes above it.
abbrev pub edited_words : ℕ → Edit → List (ℕ × ℕ)
edited_words at edit =
    edited_word at edit.rip ++ (edited_word (plus at 16) edit.flags ++ edited_word (plus at 24) edit.rsp)

-- the processor that a return restores, with the edited words
abbrev pub edited_cpu : Edit → Cpu → Cpu
edited_cpu edit cpu = record (with_register rsp (unwrap_or edit.rsp (register cpu rsp)) cpu) {
  rip = unwrap_or edit.rip cpu.rip;
  flags = unwrap_or edit.flags cpu.flags;
}

-- the newest activation, the last of the chain, has this edit
abbrev pub with_edit : Edit → List Activation → List Activation
with_edit edit [] = []
with_edit edit (a ∷ []) = record a { due = edited_cpu edit a.due } ∷ []
with_edit edit (a ∷ (b ∷ rest)) = a ∷ with_edit edit (b ∷ rest)
