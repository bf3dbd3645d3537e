use Rattle.std.proofs.Common.{◌≡◌, ◌+◌, ◌*◌, ◌/◌, drop}
use Rattle.kc_words.specs.Flags.{bits_of}
use Rattle.kc_state.specs.Memory.{loaded_from, loaded}
use Rattle.kc_state.proofs.slot.load.Given as goal

-- what is left decides
abbrev pub invariant-loop-block : goal.invariant-loop-block
invariant-loop-block l = loaded_from l.cfg l.key l.l (bits_of l.width / 8) (64 * l.block + 40)
    (drop (64 * l.block + 40) l.slots)
    ≡ loaded l.cfg l.key l.l (bits_of l.width / 8) l.slots
