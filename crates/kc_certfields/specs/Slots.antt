-- Reading tracked words, this project's own: those that aren't top, by rising index.
use Rattle.std.specs.Prelude.{ℕ, ◌+◌, not, nat_lt, nat_le, List, set, Ok}
use Rattle.kc_rules.specs.Rules.{◌>>=◌, refuse}
use Rattle.kc_value.specs.AbsValue.{AbsValue}
use Rattle.kc_value.specs.Value.{value_top}
use Rattle.kc_frames.specs.Slots.{slot_count, every_slot}
use Rattle.kc_certfields.specs.Fault.{fault}
use Rattle.kc_certfields.specs.declared.fault.CertKind.TheVariants.{Order, TooMany}
use Rattle.kc_certfields.specs.Rest.{Rest}
use Rattle.kc_certfields.specs.Reads.{Reading, in_range, times}
use Rattle.kc_certfields.specs.Numbers.{u16_at}
use Rattle.kc_certfields.specs.Values.{value_at}
use Rattle.kc_certfields.specs.Spelling.{is_value_top}

-- an index below limit and from least on, and a value that isn't top
unfoldable pub slot_at : ℕ → ℕ → Reading (ℕ × AbsValue)
slot_at limit least i = do
  index ← u16_at i
  _ ← in_range (nat_lt index.0 limit) i.at
  _ ← refuse (nat_lt index.0 least) (fault Order i.at)
  value ← value_at index.1
  _ ← in_range (not (is_value_top value.0)) index.1.at
  Ok ((index.0, value.0), value.1)

-- a slot more: the least index of the next one, and the slots
abbrev pub next_slot : ℕ → ℕ × List AbsValue → Reading (ℕ × List AbsValue)
next_slot limit known i = do
  s ← slot_at limit known.0 i
  Ok ((s.0.0 + 1, set known.1 s.0.0 s.0.1), s.1)

-- so many slots in place of these
unfoldable pub slots_from : ℕ → ℕ → List AbsValue → Reading (List AbsValue)
slots_from limit count slots i = do
  known ← times (next_slot limit) count (0, slots) i
  Ok (known.0.1, known.1)

-- the slots whose indexes are below limit
unfoldable pub slots_at : ℕ → Reading (List AbsValue)
slots_at limit i = do
  count ← u16_at i
  _ ← refuse (nat_lt slot_count count.0) (fault TooMany i.at)
  slots_from limit count.0 (every_slot value_top) count.1
