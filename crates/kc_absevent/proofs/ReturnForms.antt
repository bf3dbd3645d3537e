-- What is known after an event's return is well-formed where it was before: a slot stays or becomes the top. And it is
-- at or below what was known before just where the latches and the slots are: the other parts stay.
use Rattle.std.proofs.Common.{◌≡◌, ℕ, Bool, true, false, cond, ◌&&◌, get_or, Option, refl, sym, subst}
use Rattle.kc_regions.specs.Description.{Description}
use Rattle.kc_frames.specs.Floors.{floors_below}
use Rattle.kc_space.specs.Latches.{latches_below}
use Rattle.kc_space.specs.Spaces.{gs_below, map_below}
use Rattle.kc_lattice.specs.Rows.{rows_below}
use Rattle.kc_frames.specs.ClobberSets.{ClobberSets}
use Rattle.kc_frames.specs.Slots.{redone}
use Rattle.kc_value.specs.AbsValue.{AbsValue}
use Rattle.kc_value.specs.Value.{IsValidValue, value_below, value_top}
use Rattle.kc_value.specs.ValueLaws.{value_laws}
use Rattle.kc_state.specs.AbsReturn.{loses, kept, returned}
use Rattle.kc_state.specs.Location.{location_of}
use Rattle.kc_state.specs.State.{IsState, state_below}
use Rattle.kc_state.specs.StateLaws.{state_laws}
use Rattle.kc_state.specs.WellFormed.{IsStateWellFormed}
use Rattle.kc_state.specs.declared.key.Key.{Key}
use Rattle.kc_state.specs.declared.location.Location.{Location}
use Rattle.kc_state.specs.declared.state.AbsState.{AbsState}
use Rattle.kc_state.specs.declared.summary.Summary.{Summary}
use Rattle.kc_state.proofs.MomentForms.{redone_formed}
use Rattle.kc_state.proofs.ValueForms.{value_if, top_formed}

pub returned_formed : (d : Description) (key : Key) (s : AbsState) (summary : Summary) → IsStateWellFormed d key s
    → IsStateWellFormed d key (returned d key s summary)
returned_formed d key s summary h =
    let rsp = location_of key (get_or s.regs 4 value_top) in
    record {
      regs = h.regs;
      flags = h.flags;
      slots = redone_formed d key (kept d key rsp summary.clobber) 0 s.slots
          (λ i old formed. value_if d key (loses d key rsp summary.clobber i) value_top old (top_formed d key) formed)
          h.slots;
    }

below_top : (lost : Bool) (old : AbsValue) → IsValidValue old → value_below (cond lost value_top old) value_top ≡ true
below_top true old h = value_laws.below_refl value_top (value_laws.top_valid old h)
below_top false old h = value_laws.top_above old old h h tt

-- whatever a slot becomes, the top is above it
pub kept_below_top : (d : Description) (key : Key) (rsp : Option Location) (c : ClobberSets) (i : ℕ)
    (old new : AbsValue) → IsValidValue old → new ≡ value_top → value_below (kept d key rsp c i old) new ≡ true
kept_below_top d key rsp c i old new h e =
    subst (λ (v : AbsValue). value_below (kept d key rsp c i old) v ≡ true) (sym e)
    (below_top (loses d key rsp c i) old h)

still_top : (lost : Bool) → cond lost value_top value_top ≡ value_top
still_top true = refl
still_top false = refl

-- a slot of which nothing is known stays so
pub kept_top : (d : Description) (key : Key) (rsp : Option Location) (c : ClobberSets) (i : ℕ) (old : AbsValue)
    → old ≡ value_top → kept d key rsp c i old ≡ old
kept_top d key rsp c i old e =
    subst (λ (v : AbsValue). kept d key rsp c i v ≡ v) (sym e) (still_top (loses d key rsp c i))

-- of seven tests that hold, two are replaced
two_decide : (a b c d e f g latches slots : Bool) → (a && (b && (c && (d && (e && (f && g)))))) ≡ true
    → (a && (b && (c && (d && (latches && (f && slots)))))) ≡ (latches && slots)
two_decide true true true true true true g latches slots h = refl
two_decide true true true true true false g latches slots h = absurd cc
two_decide true true true true false f g latches slots h = absurd cc
two_decide true true true false e f g latches slots h = absurd cc
two_decide true true false d e f g latches slots h = absurd cc
two_decide true false c d e f g latches slots h = absurd cc
two_decide false b c d e f g latches slots h = absurd cc

pub returned_below : (d : Description) (key : Key) (s : AbsState) (summary : Summary) → IsState s
    → state_below (returned d key s summary) s
    ≡ (latches_below summary.latches s.latches
    && rows_below value_below
    (redone (kept d key (location_of key (get_or s.regs 4 value_top)) summary.clobber) 0 s.slots) s.slots)
returned_below d key s summary h =
    two_decide (rows_below value_below s.regs s.regs) (value_below s.flags s.flags) (gs_below s.gs s.gs)
    (map_below s.map s.map) (latches_below s.latches s.latches) (floors_below s.floors s.floors)
    (rows_below value_below s.slots s.slots) (latches_below summary.latches s.latches)
    (rows_below value_below
    (redone (kept d key (location_of key (get_or s.regs 4 value_top)) summary.clobber) 0 s.slots) s.slots)
    (state_laws.below_refl s h)
