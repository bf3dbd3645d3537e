-- Which address a location is, and what is said of the words and of the live bytes of memory, this project's own.
use Rattle.std.specs.Prelude.{◌≡◌, ℕ, ◌+◌, ◌<◌, Some, List, map, get_or}
use Rattle.std.specs.Int.{w64, cast_unsigned}
use Rattle.kc_words.specs.Range.{Range}
use Rattle.kc_bits.specs.Bits.{word}
use Rattle.kc_frames.specs.Floors.{FloorStands, floor_top}
use Rattle.kc_frames.specs.Slots.{slot_count}
use Rattle.kc_frames.specs.declared.floors.Floors.{Floors}
use Rattle.kc_regions.specs.Description.{Description}
use Rattle.kc_regions.specs.Region.{stacks_of, stack_of}
use Rattle.kc_mem.specs.Memory.{Bytes, read}
use Rattle.kc_exec.specs.declared.state.Activation.{Activation}
use Rattle.kc_exec.specs.Live.{IsLive}
use Rattle.kc_value.specs.AbsValue.{AbsValue}
use Rattle.kc_value.specs.Value.{Represents, value_top}
use Rattle.kc_value.specs.declared.env.ValueEnv.{ValueEnv}
use Rattle.kc_state.specs.Places.{word_of}
use Rattle.kc_state.specs.declared.key.Key.{Key}
use Rattle.kc_state.specs.declared.location.Location.{Location}
use Rattle.kc_state.specs.declared.location.Location.TheVariants.{Number, Relative}

-- the spans of the stacks by their numbers
abbrev pub stack_spans : Description → List Range
stack_spans cfg = map (λ r. r.span) (stacks_of cfg.regions)

-- the address of a location, where the newest activation has this base
abbrev pub address_of : ℕ → Location → ℕ
address_of base (Number a) = a
address_of base (Relative k) = word (base + cast_unsigned w64 k)

-- the value stands for the 8 bytes at the location
abbrev pub WordStands : ValueEnv → Bytes → AbsValue → Location → Type 0
WordStands env mem v l = Represents v env (read mem (address_of env.base l) 8)

-- each slot that has a word stands for it
abbrev pub SlotsStand : Description → Key → ValueEnv → List AbsValue → Bytes → Type 0
SlotsStand cfg key env slots mem = (i : ℕ) (l : Location) → i < slot_count → word_of cfg key i ≡ Some l
    → WordStands env mem (get_or slots i value_top) l

-- every live byte is at or above the floor of its stack
abbrev pub FloorsStand : Description → Floors → ℕ → List Activation → Type 0
FloorsStand cfg floors base chain = (x s : ℕ) → IsLive cfg chain x → stack_of cfg.regions x ≡ Some s
    → FloorStands (get_or floors.at s floor_top) base (Some x)
