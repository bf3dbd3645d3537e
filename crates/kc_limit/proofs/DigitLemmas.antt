-- How many contexts and nodes a table of the rounds may have: the numbers of a key, and of a place, are digits.
use Rattle.std.proofs.Common.{◌≡◌, ℕ, ◌^◌, ◌<◌, ◌≤◌, Bool, true, false, Option, Some, None, IfSome, is_some, unwrap_or, refl, arith}
use Rattle.std.proofs.lemmas.List.Elements.{All-from_recursion}
use Rattle.std.specs.FinMap.{FinMap, len}
use Rattle.std.specs.declared.cmp.Ordering.TheVariants.{Less}
use Rattle.kc_frames.specs.Clobber.{IsClobber}
use Rattle.kc_frames.specs.ClobberSets.{ClobberSets}
use Rattle.kc_space.specs.Spaces.{gs_number, map_number}
use Rattle.kc_space.specs.declared.gs.GsPair.{GsPair}
use Rattle.kc_space.specs.declared.map.MapState.{MapState}
use Rattle.kc_space.specs.declared.map.MapState.TheVariants.{Kernel as KernelMap, User as UserMap, Any as AnyMap}
use Rattle.kc_state.specs.Key.{key_numbers}
use Rattle.kc_state.specs.State.{IsState}
use Rattle.kc_state.specs.declared.key.Key.{Key}
use Rattle.kc_state.specs.declared.site.Site.{Site}
use Rattle.kc_state.specs.declared.state.AbsState.{AbsState}
use Rattle.kc_value.specs.Made.{IsPlace}
use Rattle.kc_cert.specs.IterationLimit.{place_numbers, place_order}
use Rattle.kc_cert.specs.Table.{key_order}
use Rattle.kc_limit.specs.Valid.{IsKeyValue, IsMap, IsNodePlace}
use Rattle.kc_limit.proofs.CountLemmas.{AreDigits, code, code-bound, code-rises, few-keys}
use Rattle.kc_limit.proofs.KeyLemmas.{bit, turned, who-few}

module _ (base : ℕ) (wide : 2 ^ 64 ≤ base) where
  bit-digit : (b : Bool) → bit b < base
  bit-digit true = omega (arith, wide)
  bit-digit false = omega (arith, wide)

  turned-digit : (b : Bool) → turned b < base
  turned-digit true = omega (arith, wide)
  turned-digit false = omega (arith, wide)

  gs-digit : (x : GsPair) → gs_number x < base
  gs-digit x =
      let a = who-few x.active in
      let b = who-few x.inactive in
      omega (arith, a, b, wide)

  map-digit : (x : MapState) → map_number x < base
  map-digit KernelMap = omega (arith, wide)
  map-digit UserMap = omega (arith, wide)
  map-digit AnyMap = omega (arith, wide)

  stack-digit : (stack : Option ℕ) → IsPlace stack → unwrap_or stack 255 < base
  stack-digit None h = omega (arith, wide)
  stack-digit (Some s) h = omega (arith, h, wide)

  base-digit : (o : Option ℕ) → IfSome o (λ b. b < 2 ^ 64) → unwrap_or o 0 < base
  base-digit None h = omega (arith, wide)
  base-digit (Some b) h = omega (arith, h, wide)

  -- the first seven numbers of a key, before the rest
  front : (k : Key) → k.vector < base → unwrap_or k.stack 255 < base → (Rest : Type 0) → Rest
      → (turned k.syscall < base) × ((k.vector < base) × ((bit k.kernel < base) × ((gs_number k.gs < base)
      × ((map_number k.map < base) × ((unwrap_or k.stack 255 < base) × ((bit (is_some k.base) < base) × Rest))))))
  front k vector stack Rest rest = (
    turned-digit k.syscall,
    (vector, (bit-digit k.kernel, (gs-digit k.gs, (map-digit k.map, (stack, (bit-digit (is_some k.base), rest)))))),
  )

  key-digits : (k : Key) → IsKeyValue k → AreDigits base (key_numbers k)
  key-digits k h =
      let vector : k.vector < base = omega (arith, h.vector, wide) in
      let last : (unwrap_or k.base 0 < base) × Unit {0} = (base-digit k.base h.base, tt) in
      All-from_recursion (λ x. x < base) (key_numbers k)
      (front k vector (stack-digit k.stack h.place) ((unwrap_or k.base 0 < base) × Unit {0}) last)

  place-digits : (p : Key × Site) → IsNodePlace p → AreDigits base (place_numbers p)
  place-digits (k, site) h =
      let vector : k.vector < base = omega (arith, h.0.vector, wide) in
      let at : site.at < base = omega (arith, h.1, wide) in
      let last : (unwrap_or k.base 0 < base) × ((site.at < base) × ((bit site.inside < base) × Unit {0})) =
      (base-digit k.base h.0.base, (at, (bit-digit site.inside, tt))) in
      All-from_recursion (λ x. x < base) (place_numbers (k, site))
      (front k vector (stack-digit k.stack h.0.place)
      ((unwrap_or k.base 0 < base) × ((site.at < base) × ((bit site.inside < base) × Unit {0}))) last)

  pub few-contexts : (m : FinMap key_order ClobberSets) → IsMap IsKeyValue IsClobber m → len m ≤ base ^ 8
  few-contexts m h =
      few-keys key_order IsKeyValue (λ k. code base (key_numbers k)) (base ^ 8)
      (λ k v. code-bound base (key_numbers k) (key-digits k v))
      (λ k l v w less. code-rises base (key_numbers k) (key_numbers l) (key-digits k v) (key-digits l w) refl less)
      m h.keys

  place-bound : (p : Key × Site) → IsNodePlace p → code base (place_numbers p) < base ^ 10
  place-bound (k, site) v = code-bound base (place_numbers (k, site)) (place-digits (k, site) v)

  place-rises : (p q : Key × Site) → IsNodePlace p → IsNodePlace q → place_order p q ≡ Less
      → code base (place_numbers p) < code base (place_numbers q)
  place-rises (k, s) (l, r) v w less =
      code-rises base (place_numbers (k, s)) (place_numbers (l, r)) (place-digits (k, s) v) (place-digits (l, r) w)
      refl less

  pub few-nodes : (m : FinMap place_order AbsState) → IsMap IsNodePlace IsState m → len m ≤ base ^ 10
  few-nodes m h =
      few-keys place_order IsNodePlace (λ p. code base (place_numbers p)) (base ^ 10) place-bound place-rises m h.keys
