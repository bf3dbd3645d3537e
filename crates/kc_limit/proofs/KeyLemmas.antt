-- Keys with a stack that there may be are told apart by their numbers, and so are places of nodes: each field is read
-- from the number that stands for it.
use Rattle.std.proofs.Common.{◌≡◌, ℕ, ◌≤◌, Bool, true, false, cond, List, Option, Some, None, get_or, is_some, take, unwrap_or, refl, ap, arith}
use Rattle.std.proofs.lemmas.Map.Lookups.{exact_bytes}
use Rattle.std.specs.Cmp.{IsTotalOrder}
use Rattle.std.specs.Cmp.Lexicographic.{on_texts}
use Rattle.std.specs.declared.cmp.Ordering.TheVariants.{Equal}
use Rattle.kc_space.specs.Spaces.{gs_number, map_number, who_number}
use Rattle.kc_space.specs.declared.gs.GsPair.{GsPair}
use Rattle.kc_space.specs.declared.map.MapState.{MapState}
use Rattle.kc_space.specs.declared.map.MapState.TheVariants.{Kernel as KernelMap, User as UserMap, Any as AnyMap}
use Rattle.kc_space.specs.declared.who.Who.{Who}
use Rattle.kc_space.specs.declared.who.Who.TheVariants.{Kernel, User, Any}
use Rattle.kc_state.specs.Key.{key_numbers}
use Rattle.kc_state.specs.declared.key.Key.{Key}
use Rattle.kc_state.specs.declared.site.Site.{Site}
use Rattle.kc_value.specs.Made.{IsPlace}
use Rattle.kc_cert.specs.IterationLimit.{place_numbers, place_order}
use Rattle.kc_cert.specs.Table.{key_order}
use Rattle.kc_limit.specs.Valid.{IsKeyValue, IsNodePlace}

abbrev pub bit : Bool → ℕ
bit b = cond b 1 0

abbrev pub turned : Bool → ℕ
turned b = cond b 0 1

bit-same : (a b : Bool) → bit a ≡ bit b → a ≡ b
bit-same true true e = refl
bit-same true false e = absurd (omega (arith, e))
bit-same false true e = absurd (omega (arith, e))
bit-same false false e = refl

turned-same : (a b : Bool) → turned a ≡ turned b → a ≡ b
turned-same true true e = refl
turned-same true false e = absurd (omega (arith, e))
turned-same false true e = absurd (omega (arith, e))
turned-same false false e = refl

pub who-few : (x : Who) → who_number x ≤ 2
who-few Kernel = omega arith
who-few User = omega arith
who-few Any = omega arith

who-same : (x y : Who) → who_number x ≡ who_number y → x ≡ y
who-same Kernel Kernel e = refl
who-same Kernel User e = absurd (omega (arith, e))
who-same Kernel Any e = absurd (omega (arith, e))
who-same User Kernel e = absurd (omega (arith, e))
who-same User User e = refl
who-same User Any e = absurd (omega (arith, e))
who-same Any Kernel e = absurd (omega (arith, e))
who-same Any User e = absurd (omega (arith, e))
who-same Any Any e = refl

gs-same : (x y : GsPair) → gs_number x ≡ gs_number y → x ≡ y
gs-same x y e =
    let a = who-few x.active in
    let b = who-few y.active in
    let active = who-same x.active y.active (omega (arith, a, b, e)) in
    let inactive = who-same x.inactive y.inactive (omega (arith, a, b, e)) in
    λ i. record { active = active i; inactive = inactive i }

map-same : (x y : MapState) → map_number x ≡ map_number y → x ≡ y
map-same KernelMap KernelMap e = refl
map-same KernelMap UserMap e = absurd (omega (arith, e))
map-same KernelMap AnyMap e = absurd (omega (arith, e))
map-same UserMap KernelMap e = absurd (omega (arith, e))
map-same UserMap UserMap e = refl
map-same UserMap AnyMap e = absurd (omega (arith, e))
map-same AnyMap KernelMap e = absurd (omega (arith, e))
map-same AnyMap UserMap e = absurd (omega (arith, e))
map-same AnyMap AnyMap e = refl

stack-same : (x y : Option ℕ) → IsPlace x → IsPlace y → unwrap_or x 255 ≡ unwrap_or y 255 → x ≡ y
stack-same None None h k e = refl
stack-same None (Some y) h k e = absurd (omega (arith, k, e))
stack-same (Some x) None h k e = absurd (omega (arith, h, e))
stack-same (Some x) (Some y) h k e = ap Some e

base-same : (x y : Option ℕ) → bit (is_some x) ≡ bit (is_some y) → unwrap_or x 0 ≡ unwrap_or y 0 → x ≡ y
base-same None None e f = refl
base-same None (Some y) e f = absurd (omega (arith, e))
base-same (Some x) None e f = absurd (omega (arith, e))
base-same (Some x) (Some y) e f = ap Some f

key-same : (k l : Key) → IsKeyValue k → IsKeyValue l → key_numbers k ≡ key_numbers l → k ≡ l
key-same k l h g e =
    let syscall = turned-same k.syscall l.syscall (ap (λ (ns : List ℕ). get_or ns 0 0) e) in
    let vector : k.vector ≡ l.vector = ap (λ (ns : List ℕ). get_or ns 1 0) e in
    let kernel = bit-same k.kernel l.kernel (ap (λ (ns : List ℕ). get_or ns 2 0) e) in
    let gs = gs-same k.gs l.gs (ap (λ (ns : List ℕ). get_or ns 3 0) e) in
    let space = map-same k.map l.map (ap (λ (ns : List ℕ). get_or ns 4 0) e) in
    let stack = stack-same k.stack l.stack h.place g.place (ap (λ (ns : List ℕ). get_or ns 5 0) e) in
    let base = base-same k.base l.base (ap (λ (ns : List ℕ). get_or ns 6 0) e)
    (ap (λ (ns : List ℕ). get_or ns 7 0) e) in
    λ i. record {
      syscall = syscall i;
      vector = vector i;
      kernel = kernel i;
      gs = gs i;
      map = space i;
      stack = stack i;
      base = base i;
    }

pub key-told : (k l : Key) → IsKeyValue k → IsKeyValue l → key_order k l ≡ Equal → k ≡ l
key-told k l h g e = key-same k l h g (exact_bytes (key_numbers k) (key_numbers l) e)

place-same : (p q : Key × Site) → IsNodePlace p → IsNodePlace q → place_numbers p ≡ place_numbers q → p ≡ q
place-same (k, s) (l, r) h g e =
    let key = key-same k l h.0 g.0 (ap (λ (ns : List ℕ). take 8 ns) e) in
    let at : s.at ≡ r.at = ap (λ (ns : List ℕ). get_or ns 8 0) e in
    let inside = bit-same s.inside r.inside (ap (λ (ns : List ℕ). get_or ns 9 0) e) in
    λ i. (key i, record { at = at i; inside = inside i })

pub place-told : (p q : Key × Site) → IsNodePlace p → IsNodePlace q → place_order p q ≡ Equal → p ≡ q
place-told p q h g e = place-same p q h g (exact_bytes (place_numbers p) (place_numbers q) e)

pub key-total : IsTotalOrder key_order
key-total = on_texts key_numbers

pub place-total : IsTotalOrder place_order
place-total = on_texts place_numbers
