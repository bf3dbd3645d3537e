-- One step of the walk over registers: the first one and those after it.
use Rattle.std.proofs.Common.{◌≡◌, ℕ, ◌+◌, ◌<◌, ◌≤◌, true, ◌&&◌, ◌||◌, ◌==◌, List, length, get_or, drop, ap}
use Rattle.std.proofs.lemmas.List.{drop_all}
use Rattle.kc_lattice.proofs.ListLemmas.{drop_read}
use Rattle.kc_value.specs.AbsValue.{AbsValue}
use Rattle.kc_state.specs.Conditions.{is_entry, are_entries}

pub entries_step : (regs : List AbsValue) (w : ℕ) (v : AbsValue) → w < length regs → v ≡ get_or regs w v →
    are_entries w (drop w regs) ≡ (((w == 4) || is_entry v w) && are_entries (w + 1) (drop (w + 1) regs))
entries_step regs w v h e = ap (are_entries w) (drop_read regs w v h e)

pub entries_end : (regs : List AbsValue) (w : ℕ) → length regs ≤ w → are_entries w (drop w regs) ≡ true
entries_end regs w h = ap (are_entries w) (drop_all w regs h)
