use Rattle.std.proofs.Common.{◌≡◌, ◌*◌, ◌/◌, drop}
use Rattle.kc_words.specs.Flags.{bits_of}
use Rattle.kc_state.specs.Memory.{loaded_from}
use Rattle.kc_state.proofs.slot.find_in.Given as goal

-- what is left decides
abbrev pub invariant-loop-i : goal.invariant-loop-i
invariant-loop-i l = loaded_from l.words.cfg.now l.words.key.now l.l (bits_of l.width / 8) l.i (drop l.i l.slots)
    ≡ loaded_from l.words.cfg.now l.words.key.now l.l (bits_of l.width / 8) (8 * l.part) (drop (8 * l.part) l.slots)
