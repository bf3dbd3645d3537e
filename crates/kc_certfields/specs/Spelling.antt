-- The spelling of a certificate's fields, this project's own. Numbers are little-endian.
use Rattle.std.specs.Prelude.{ℕ, suc, ◌+◌, ◌-◌, ◌*◌, ◌^◌, Bool, true, false, cond, ◌&&◌, ◌==◌, List, [], ◌∷◌, ◌++◌, length, take, flat_map, count_by, not, Option, Some, None, is_some, unwrap_or}
use Rattle.std.specs.Int.{w16, w32, w64, to_le_bytes, cast_unsigned}
use Rattle.kc_space.specs.Latches.{tri_number}
use Rattle.kc_space.specs.Spaces.{gs_number, map_number}
use Rattle.kc_space.specs.declared.latches.Latches.{Latches}
use Rattle.kc_value.specs.AbsValue.{AbsValue}
use Rattle.kc_value.specs.Symbol.{is_plain}
use Rattle.kc_value.specs.Value.{all_places}
use Rattle.kc_value.specs.declared.symbol.Sym.{Sym}
use Rattle.kc_value.specs.declared.symbol.Sym.TheVariants.{Plain, Base, Entry, UserGs}
use Rattle.kc_frames.specs.declared.floor.Floor.{Floor}
use Rattle.kc_frames.specs.declared.floor.Floor.TheVariants as floor
use Rattle.kc_state.specs.declared.key.Key.{Key}
use Rattle.kc_state.specs.declared.summary.Summary.{Summary}
use Rattle.kc_state.specs.declared.state.AbsState.{AbsState}
use Rattle.kc_state.specs.declared.user.UserState.{UserState}

abbrev pub u8_bytes : ℕ → List ℕ
u8_bytes n = n ∷ []

abbrev pub u16_bytes : ℕ → List ℕ
u16_bytes n = to_le_bytes w16 n

abbrev pub u32_bytes : ℕ → List ℕ
u32_bytes n = to_le_bytes w32 n

abbrev pub u64_bytes : ℕ → List ℕ
u64_bytes n = to_le_bytes w64 n

abbrev pub latches_bytes : Latches → List ℕ
latches_bytes l = tri_number l.nmi_blocked ∷ tri_number l.shadow ∷ tri_number l.mcip ∷ []

-- ---- values

-- a tag, and after 1 an offset, after 2 the number of a word
abbrev pub symbol_bytes : Sym → List ℕ
symbol_bytes Plain = 0 ∷ []
symbol_bytes (Base k) = 1 ∷ u64_bytes (cast_unsigned w64 k)
symbol_bytes (Entry w) = 2 ∷ w ∷ []
symbol_bytes UserGs = 3 ∷ []

abbrev pub value_bytes : AbsValue → List ℕ
value_bytes v = symbol_bytes v.sym ++ (u64_bytes v.bits.zeros ++ (u64_bytes v.bits.ones ++ u32_bytes v.stacks))

-- nothing is known
abbrev pub is_value_top : AbsValue → Bool
is_value_top v = is_plain v.sym && (v.bits.zeros == 0 && (v.bits.ones == 0 && v.stacks == all_places))

-- ---- slots: those that aren't top, each with its index

abbrev pub slot_bytes : ℕ → AbsValue → List ℕ
slot_bytes i v = cond (is_value_top v) [] (u16_bytes i ++ value_bytes v)

unfoldable pub slot_records : ℕ → List AbsValue → List ℕ
slot_records i [] = []
slot_records i (v ∷ vs) = slot_bytes i v ++ slot_records (suc i) vs

abbrev pub known_slots : List AbsValue → ℕ
known_slots slots = count_by (λ v. not (is_value_top v)) slots

abbrev pub slots_bytes : List AbsValue → List ℕ
slots_bytes slots = u16_bytes (known_slots slots) ++ slot_records 0 slots

-- ---- states

abbrev pub floor_bytes : Floor → List ℕ
floor_bytes (floor.At a) = 0 ∷ u64_bytes a
floor_bytes floor.Base = 1 ∷ []

-- with the floors of so many stacks
abbrev pub state_bytes : ℕ → AbsState → List ℕ
state_bytes stacks s =
    flat_map value_bytes s.regs ++ (value_bytes s.flags ++ (u8_bytes (gs_number s.gs) ++ (u8_bytes (map_number s.map)
    ++ (latches_bytes s.latches ++ (flat_map floor_bytes (take stacks s.floors.at) ++ slots_bytes s.slots)))))

abbrev pub user_bytes : UserState → List ℕ
user_bytes u = tri_number u.nmi_blocked ∷ tri_number u.mcip ∷ slots_bytes u.slots

-- ---- contexts

-- kind, vector, origin, GS pair, map, stack or 255, and whether there is a base
abbrev pub key_head_bytes : Key → List ℕ
key_head_bytes k =
    cond (not k.syscall) 1 0 ∷ k.vector ∷ cond k.kernel 1 0 ∷ gs_number k.gs ∷ map_number k.map ∷ unwrap_or k.stack 255
    ∷ cond (is_some k.base) 1 0 ∷ []

-- and the base, or 0 where there is none
abbrev pub key_bytes : Key → List ℕ
key_bytes k = key_head_bytes k ++ u64_bytes (unwrap_or k.base 0)

abbrev pub summary_bytes : Summary → List ℕ
summary_bytes s = u32_bytes s.clobber.stacks ++ (u64_bytes s.clobber.words ++ latches_bytes s.latches)
