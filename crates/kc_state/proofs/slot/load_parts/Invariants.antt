use Rattle.std.proofs.Common.{◌≡◌, ◌*◌, ◌/◌, drop}
use Rattle.kc_words.specs.Flags.{bits_of}
use Rattle.kc_state.specs.Memory.{loaded_from}
use Rattle.kc_state.proofs.slot.load_parts.Given as goal

-- what is left decides
abbrev pub invariant-loop-part : goal.invariant-loop-part
invariant-loop-part l = loaded_from l.words.cfg.now l.words.key.now l.l (bits_of l.width / 8) (8 * l.part)
    (drop (8 * l.part) l.slots)
    ≡ loaded_from l.words.cfg.now l.words.key.now l.l (bits_of l.width / 8) (8 * l.from) (drop (8 * l.from) l.slots)
