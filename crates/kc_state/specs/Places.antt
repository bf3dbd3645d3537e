-- Where abstract values point and where the tracked words lie, this project's own.
use Rattle.std.specs.Prelude.{ℕ, ◌+◌, ◌-◌, ◌*◌, ◌/◌, ◌%◌, ◌^◌, Bool, true, false, cond, ◌==◌, nat_lt, Option, Some, None, option_map, slice_get, pos, neg_ℤ}
use Rattle.kc_bits.specs.Bits.{word}
use Rattle.kc_regions.specs.Description.{Description}
use Rattle.kc_regions.specs.Lookup.{tss_word}
use Rattle.kc_regions.specs.Region.{stack_of, marked_of}
use Rattle.kc_value.specs.AbsValue.{AbsValue}
use Rattle.kc_value.specs.declared.symbol.Sym.{Sym}
use Rattle.kc_value.specs.declared.symbol.Sym.TheVariants.{Entry}
use Rattle.kc_state.specs.Location.{location_of}
use Rattle.kc_state.specs.declared.key.Key.{Key}
use Rattle.kc_state.specs.declared.location.Location.{Location}
use Rattle.kc_state.specs.declared.location.Location.TheVariants.{Number, Relative}

-- ---- stacks

-- the stack of a location: that of the key, where it is an offset, and else the one that holds the number
abbrev pub location_stack : Description → Key → Option Location → Option ℕ
location_stack d key (Some (Relative k)) = key.stack
location_stack d key (Some (Number a)) = stack_of d.regions a
location_stack d key None = None

-- the word that is the interrupted RSP
abbrev pub is_interrupted_rsp : Sym → Bool
is_interrupted_rsp (Entry w) = w == 4
is_interrupted_rsp _ = false

-- the stack in which a value points: that of the key, where it is the interrupted RSP
abbrev pub value_stack : Description → Key → AbsValue → Option ℕ
value_stack d key v = cond (is_interrupted_rsp v.sym) key.stack (location_stack d key (location_of key v))

-- n below the address a
abbrev pub below_address : ℕ → ℕ → ℕ
below_address a n = word (a + (2 ^ 64 - n))

abbrev pub home_of : Description → Option ℕ → Bool → Option ℕ → Option ℕ
home_of d (Some base) syscall stack = stack_of d.regions (below_address base 8)
home_of d None true stack = None
home_of d None false stack = stack

-- the stack on which an event's frame stands; none for SYSCALL
abbrev pub home_stack : Description → Key → Option ℕ
home_stack d key = home_of d key.base key.syscall key.stack

-- ---- the words of slots

abbrev pub tracked_word : Description → ℕ → Option Location
tracked_word d n = option_map (λ w. Number w.at) (slice_get d.words n)

-- the n-th word below the base
abbrev pub base_word : Option ℕ → Bool → ℕ → Option Location
base_word (Some base) syscall n = Some (Number (below_address base (8 * n)))
base_word None true n = None
base_word None false n = Some (Relative (neg_ℤ (pos (8 * n))))

-- the n-th word below the top of marked stack m
abbrev pub marked_word : Description → ℕ → ℕ → Option Location
marked_word d m n = option_map (λ r. Number (below_address r.span.to (8 * n))) (slice_get (marked_of d.regions) m)

-- the word of slot i: RSP0 and IST1 to IST7, the configuration's words, 64 words below the base, and 64 below
-- the top of each marked stack
abbrev pub word_of : Description → Key → ℕ → Option Location
word_of d key i =
    cond (nat_lt i 8) (Some (Number (word (tss_word d.cpu.tss i))))
    (cond (nat_lt i 40) (tracked_word d (i - 8)) (cond (nat_lt i 104) (base_word key.base key.syscall (i - 39))
    (marked_word d ((i - 104) / 64) ((i - 104) % 64 + 1))))
