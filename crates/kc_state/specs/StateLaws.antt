-- The laws of abstract states: the `Domain` of `AbsState` cites these.
use Rattle.std.proofs.Common.{◌≡◌, ℕ, ◌+◌, ◌-◌, ◌*◌, ◌^◌, ◌≤◌, ◌<◌, List, [], ◌∷◌, length, map, replicate, sum_by, bit_or, refl, sym, ap, ◌∙◌, subst, arith}
use Rattle.std.proofs.lemmas.Nat.{or_disjoint, or_lt}
use Rattle.kc_lattice.specs.Laws.{Laws, AllAlike}
use Rattle.kc_lattice.specs.PairLaws.{both_laws}
use Rattle.kc_lattice.specs.declared.both.Both.{Both}
use Rattle.kc_shapes.specs.RowLaws.{counted_laws, rows_rank-le, all_alike_rows}
use Rattle.kc_shapes.specs.ShapeLaws.{reshaped_laws}
use Rattle.kc_frames.specs.Floors.{floor_top}
use Rattle.kc_frames.specs.FloorsLaws.{floors_laws, floors_rank-le}
use Rattle.kc_frames.specs.Slots.{every_slot}
use Rattle.kc_frames.specs.SlotsLaws.{slots_laws, slots_rank-le}
use Rattle.kc_frames.specs.declared.floors.Floors.{Floors}
use Rattle.kc_space.specs.LatchesLaws.{latches_laws, latches_rank-le}
use Rattle.kc_space.specs.SpacesLaws.{gs_laws, gs_rank-le, map_laws, map_rank-le}
use Rattle.kc_space.specs.declared.gs.GsPair.{GsPair}
use Rattle.kc_space.specs.declared.latches.Latches.{Latches}
use Rattle.kc_space.specs.declared.map.MapState.{MapState}
use Rattle.kc_value.specs.AbsValue.{AbsValue}
use Rattle.kc_value.specs.Symbol.{sym_rank}
use Rattle.kc_value.specs.declared.symbol.Sym.{Sym}
use Rattle.kc_value.specs.declared.symbol.Sym.TheVariants.{Plain, Base, Entry, UserGs}
use Rattle.kc_value.specs.Value.{IsValidValue, value_top, value_rank}
use Rattle.kc_value.specs.ValueLaws.{value_laws}
use Rattle.kc_state.specs.State.{IsState, state_below, state_joined, state_top, top_of_state, state_rank}
use Rattle.kc_state.specs.declared.state.AbsState.{AbsState}

-- the state as pairs of its parts
abbrev Parts : Type 0
Parts = Both (List AbsValue) (Both AbsValue (Both GsPair (Both MapState (Both Latches (Both Floors (List AbsValue))))))

abbrev parts : AbsState → Parts
parts s = record {
  first = s.regs;
  second = record {
    first = s.flags;
    second = record {
      first = s.gs;
      second = record {
        first = s.map;
        second = record { first = s.latches; second = record { first = s.floors; second = s.slots } };
      };
    };
  };
}

abbrev of_parts : Parts → AbsState
of_parts b = record {
  regs = b.first;
  flags = b.second.first;
  gs = b.second.second.first;
  map = b.second.second.second.first;
  latches = b.second.second.second.second.first;
  floors = b.second.second.second.second.second.first;
  slots = b.second.second.second.second.second.second;
}

pub state_laws : Laws IsState AllAlike state_below state_joined top_of_state state_rank
state_laws = reshaped_laws
    (both_laws (counted_laws value_laws 16)
    (both_laws value_laws (both_laws gs_laws
    (both_laws map_laws (both_laws latches_laws (both_laws floors_laws (slots_laws value_laws)))))))
    parts of_parts (λ x. refl) (λ y. refl) IsState
    (λ x h. ((h.regs, h.reg_count), (h.flags, (tt, (tt, (tt, (h.floors, h.slots)))))))
    (λ y h. record { regs = h.0.0; reg_count = h.0.1; flags = h.1.0; floors = h.1.1.1.1.1.0; slots = h.1.1.1.1.1.1 })
    (λ x y hx hy. (
      all_alike_rows x.regs y.regs (hx.reg_count ∙ sym hy.reg_count),
      (tt, (tt, (tt, (tt, (tt, all_alike_rows x.slots y.slots (hx.slots.1 ∙ sym hy.slots.1)))))),
    ))

tops : {A B : Type 0} (top : B) (xs : List A) → map (λ x. top) xs ≡ replicate (length xs) top
tops top [] = refl
tops top (x ∷ xs) = ap (λ (ys : List _). top ∷ ys) (tops top xs)

-- the top of each state is the one in which nothing is known
pub one_top : (s : AbsState) → IsState s → top_of_state s ≡ state_top
unfolding every_slot
one_top s h =
    let regs = tops value_top s.regs ∙ ap (λ (n : ℕ). replicate n value_top) h.reg_count in
    let floors = tops floor_top s.floors.at ∙ ap (λ (n : ℕ). replicate n floor_top) h.floors.count in
    let slots = tops value_top s.slots ∙ ap (λ (n : ℕ). replicate n value_top) h.slots.1 in
    λ i. record {
      regs = regs i;
      flags = value_top;
      gs = state_top.gs;
      map = state_top.map;
      latches = state_top.latches;
      floors = record { at = floors i };
      slots = slots i;
    }

-- ---- bounds of the rank

symbol_rank-le : (s : Sym) → sym_rank s ≤ 1
symbol_rank-le Plain = omega arith
symbol_rank-le (Base k) = omega arith
symbol_rank-le (Entry w) = omega arith
symbol_rank-le UserGs = omega arith

-- no two known bits are one, so both masks together are one word
pub value_rank-le : (v : AbsValue) → IsValidValue v → value_rank v ≤ 2 ^ 64 + 2 ^ 17
value_rank-le v h =
    let sum : bit_or v.bits.zeros v.bits.ones ≡ v.bits.zeros + v.bits.ones =
    or_disjoint v.bits.zeros v.bits.ones h.bits_fit.apart in
    let fits : bit_or v.bits.zeros v.bits.ones < 2 ^ 64 = or_lt 64 v.bits.zeros v.bits.ones h.bits_fit.zeros_fit
    h.bits_fit.ones_fit in
    omega (arith, sum, fits, symbol_rank-le v.sym)

-- 313 values, the pair, the map, three latches and 16 floors
pub state_rank-le : (s : AbsState) → IsState s → state_rank s ≤ 313 * (2 ^ 64 + 2 ^ 17) + 6 + 16 * (2 ^ 64 - 1)
state_rank-le s h =
    let regs = subst (λ (n : ℕ). sum_by value_rank s.regs ≤ n * (2 ^ 64 + 2 ^ 17)) h.reg_count
    (rows_rank-le value_laws (2 ^ 64 + 2 ^ 17) value_rank-le s.regs h.regs) in
    let slots = slots_rank-le value_laws (2 ^ 64 + 2 ^ 17) value_rank-le s.slots h.slots in
    omega (
      arith,
      regs,
      slots,
      value_rank-le s.flags h.flags,
      gs_rank-le s.gs,
      map_rank-le s.map,
      latches_rank-le s.latches,
      floors_rank-le s.floors h.floors,
    )
