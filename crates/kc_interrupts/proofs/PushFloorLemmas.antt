-- A frame below a constant base that may be pushed has no live byte: it lies in one stack, whose floor isn't below the
-- base.
use Rattle.std.proofs.Common.{◌≡◌, ℕ, ◌+◌, ◌<◌, ◌≤◌, ◌&&◌, true, List, Option, Some, None, subst, arith}
use Rattle.std.proofs.lemmas.Bool.{and_parts, leb-true, false≢true}
use Rattle.kc_regions.specs.Description.{Description}
use Rattle.kc_regions.specs.Permission.{passes}
use Rattle.kc_regions.specs.Region.{stack_of}
use Rattle.kc_regions.specs.Valid.{IsValid}
use Rattle.kc_regions.specs.declared.touch.Touch.TheVariants.{Write}
use Rattle.kc_regions.proofs.LayoutLemmas.{laid}
use Rattle.kc_frames.specs.Floors.{FloorStands, floor_number}
use Rattle.kc_frames.specs.declared.floor.Floor.{Floor}
use Rattle.kc_frames.specs.declared.floor.Floor.TheVariants as floor
use Rattle.kc_frames.specs.declared.floors.Floors.{Floors}
use Rattle.kc_space.specs.declared.map.MapState.{MapState}
use Rattle.kc_exec.specs.Live.{IsLive}
use Rattle.kc_exec.specs.declared.state.Activation.{Activation}
use Rattle.kc_state.specs.AbsDelivery.{floor_at, may_push, holds_below, is_under_floor}
use Rattle.kc_state.specs.Access.{may_bytes, is_floor_from}
use Rattle.kc_state.specs.Conditions.{stack_region}
use Rattle.kc_state.specs.Places.{below_address}
use Rattle.kc_describes.specs.Places.{FloorsStand}
use Rattle.kc_delivers.proofs.PermittedLemmas.{in_one_stack}

floor_above : (f : Floor) (old top x : ℕ) → is_floor_from top (floor_number None f) ≡ true
    → FloorStands f old (Some x) → top ≤ x
floor_above (floor.At a) old top x h stands = let under = leb-true top a h in omega (arith, under, stands.1)
floor_above floor.Base old top x h stands = absurd (false≢true h)

-- no byte of the frame is live
pub push_unlive : (cfg : Description) (map_is : MapState) (floors : Floors) (base n old : ℕ) (chain : List Activation)
    → IsValid cfg → may_push cfg map_is floors base n ≡ true → FloorsStand cfg floors old chain → (x : ℕ)
    → base ≤ x + n → x < base → IsLive cfg chain x → ⊥
push_unlive cfg map_is floors base n old chain valid h stand x low high live =
    let stack = stack_of cfg.regions (below_address base 8) in
    let In = in_one_stack cfg map_is floors base n h in
    let p = and_parts (passes (holds_below base n) (stack_region cfg stack))
    (may_bytes cfg map_is Write (below_address base n) n && is_under_floor floors base stack) h in
    let q = and_parts (may_bytes cfg map_is Write (below_address base n) n) (is_under_floor floors base stack) p.1 in
    let under = subst (λ (o : Option ℕ). is_under_floor floors base o ≡ true) In.named q.1 in
    let at = (laid cfg valid).stack_bytes In.stack In.region x In.numbered
    (omega (arith, low, In.low), omega (arith, high, In.high)) in
    let over = floor_above (floor_at floors In.stack) old base x under (stand x In.stack live at) in
    omega (arith, over, high)
