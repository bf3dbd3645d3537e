-- The numbers of a state, by which states are told apart and ordered: this project's own.
use Rattle.std.specs.Prelude.{ℕ, List, [], ◌∷◌, ◌++◌, flat_map, Bool, bytes_eq}
use Rattle.std.specs.Cmp.Lexicographic.{slice_cmp}
use Rattle.std.specs.Ordering.{nat_cmp}
use Rattle.std.specs.declared.cmp.Ordering.{Ordering}
use Rattle.std.specs.Int.{w64, cast_unsigned}
use Rattle.kc_space.specs.Latches.{tri_number}
use Rattle.kc_space.specs.Spaces.{gs_number, map_number}
use Rattle.kc_value.specs.AbsValue.{AbsValue}
use Rattle.kc_value.specs.declared.symbol.Sym.{Sym}
use Rattle.kc_value.specs.declared.symbol.Sym.TheVariants.{Plain, Base, Entry, UserGs}
use Rattle.kc_frames.specs.declared.floor.Floor.{Floor}
use Rattle.kc_frames.specs.declared.floor.Floor.TheVariants as floor
use Rattle.kc_state.specs.declared.state.AbsState.{AbsState}

-- a tag, and what it stands beside
abbrev pub symbol_numbers : Sym → List ℕ
symbol_numbers Plain = 0 ∷ 0 ∷ []
symbol_numbers (Base k) = 1 ∷ cast_unsigned w64 k ∷ []
symbol_numbers (Entry w) = 2 ∷ w ∷ []
symbol_numbers UserGs = 3 ∷ 0 ∷ []

abbrev pub value_numbers : AbsValue → List ℕ
value_numbers v = symbol_numbers v.sym ++ (v.bits.zeros ∷ v.bits.ones ∷ v.stacks ∷ [])

abbrev pub floor_numbers : Floor → List ℕ
floor_numbers (floor.At a) = 0 ∷ a ∷ []
floor_numbers floor.Base = 1 ∷ 0 ∷ []

-- the GS pair, the map and the three latches
abbrev pub space_numbers : AbsState → List ℕ
space_numbers s =
    gs_number s.gs ∷ map_number s.map ∷ tri_number s.latches.nmi_blocked ∷ tri_number s.latches.shadow
    ∷ tri_number s.latches.mcip ∷ []

-- what stands after the registers and the flags
abbrev pub rest_numbers : AbsState → List ℕ
rest_numbers s =
    space_numbers s ++ (flat_map floor_numbers s.floors.at ++ flat_map value_numbers s.slots)

unfoldable pub state_numbers : AbsState → List ℕ
state_numbers s = flat_map value_numbers s.regs ++ (value_numbers s.flags ++ rest_numbers s)

-- the two states are the same
abbrev pub is_same_state : AbsState → AbsState → Bool
is_same_state s t = bytes_eq (state_numbers s) (state_numbers t)

-- the order of states is that of the lists of their numbers
abbrev pub state_order : AbsState → AbsState → Ordering
state_order s t = slice_cmp nat_cmp (state_numbers s) (state_numbers t)
