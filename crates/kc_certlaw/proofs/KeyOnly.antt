-- A key that is read keeps the rules of keys: each field's test is one of them. The fields are read in their order, and
-- `after-..` reads what stands after the one it is named for.
use Rattle.std.proofs.Common.{◌≡◌, ℕ, ◌<◌, Bool, true, false, not, Option, Some, None, Ok, refl, arith}
use Rattle.std.specs.Prelude.{◌&&◌, ◌||◌, ◌==◌, nat_lt, if◌then◌else◌, IfSome, ⊤}
use Rattle.std.proofs.lemmas.Bool.Decides.{nat_tests}
use Rattle.kc_rules.specs.Rules.{◌>>=◌}
use Rattle.kc_space.specs.declared.gs.GsPair.{GsPair}
use Rattle.kc_space.specs.declared.map.MapState.{MapState}
use Rattle.kc_state.specs.Key.{IsKey}
use Rattle.kc_state.specs.declared.key.Key.{Key}
use Rattle.kc_certfields.specs.Fault.{fault}
use Rattle.kc_certfields.specs.declared.fault.CertKind.TheVariants.{Range}
use Rattle.kc_certfields.specs.Reads.{Reading, in_range}
use Rattle.kc_certfields.specs.Numbers.{u8_at, u64_at}
use Rattle.kc_certfields.specs.Spaces.{gs_at, map_at}
use Rattle.kc_certfields.specs.Keys.{bit_at, vector_at, bit_where, stack_at, base_at, key_at}
use Rattle.kc_certlaw.proofs.Only.{Only, anything, only-then, only-test, only-pure}

-- ---- the tests

holds-or : (a b : Bool) → not (a || b) ≡ false → a ≡ false → b ≡ true
holds-or true b e f = absurd cc
holds-or false true e f = refl
holds-or false false e f = absurd cc

off : (b : Bool) → not b ≡ true → b ≡ false
off true e = absurd cc
off false e = refl

is-zero : (n : ℕ) → (n == 0) ≡ true → n ≡ 0
is-zero n e = grind (arith, nat_tests, e)

-- ---- the fields

vector-only : (event : Bool) → Only (λ n. event ≡ false → n ≡ 0) (vector_at event)
unfolding vector_at
vector-only event =
    only-then (λ n. ⊤) (λ n. event ≡ false → n ≡ 0) u8_at
    (λ at n i. in_range (event || n == 0) at >>= λ x. Ok (n, i)) (anything u8_at)
    (λ at n u. only-test (λ n. event ≡ false → n ≡ 0) (not (event || n == 0)) (fault Range at) (λ i. Ok (n, i))
    (λ kept. only-pure (λ n. event ≡ false → n ≡ 0) n (λ e. is-zero n (holds-or event (n == 0) kept e))))

bit-only : (may : Bool) → Only (λ b. may ≡ false → b ≡ false) (bit_where may)
unfolding bit_where
bit-only may =
    only-then (λ b. ⊤) (λ b. may ≡ false → b ≡ false) bit_at
    (λ at b i. in_range (may || not b) at >>= λ x. Ok (b, i)) (anything bit_at)
    (λ at b u. only-test (λ b. may ≡ false → b ≡ false) (not (may || not b)) (fault Range at) (λ i. Ok (b, i))
    (λ kept. only-pure (λ b. may ≡ false → b ≡ false) b (λ e. off b (holds-or may (not b) kept e))))

-- what the rules ask of the stack
abbrev IsStack : ℕ → Bool → Option ℕ → Type 0
IsStack stacks kernel s = (kernel ≡ false → s ≡ None) × IfSome s (λ k. k < stacks)

abbrev stack_of : ℕ → Option ℕ
stack_of n = if n == 255 then None else Some n

named : (stacks n : ℕ) (kernel is : Bool) → not (is || (kernel && nat_lt n stacks)) ≡ false
    → IsStack stacks kernel (if is then None else Some n)
named stacks n kernel true e = (λ u. refl, tt)
named stacks n true false e = (λ u. absurd cc, grind (arith, nat_tests, e))
named stacks n false false e = absurd cc

stack-only : (stacks : ℕ) (kernel : Bool) → Only (IsStack stacks kernel) (stack_at stacks kernel)
unfolding stack_at
stack-only stacks kernel =
    only-then (λ n. ⊤) (IsStack stacks kernel) u8_at
    (λ at n i. in_range (n == 255 || (kernel && nat_lt n stacks)) at >>= λ x. Ok (stack_of n, i)) (anything u8_at)
    (λ at n u. only-test (IsStack stacks kernel) (not (n == 255 || (kernel && nat_lt n stacks))) (fault Range at)
    (λ i. Ok (stack_of n, i))
    (λ kept. only-pure (IsStack stacks kernel) (stack_of n) (named stacks n kernel (n == 255) kept)))

abbrev base_of : Bool → ℕ → Option ℕ
base_of based n = if based then Some n else None

no-base : (based : Bool) (n : ℕ) → based ≡ false → base_of based n ≡ None
no-base true n e = absurd cc
no-base false n e = refl

base-only : (based : Bool) → Only (λ b. based ≡ false → b ≡ None) (base_at based)
unfolding base_at
base-only based =
    only-then (λ n. ⊤) (λ b. based ≡ false → b ≡ None) u64_at
    (λ at n i. in_range (based || n == 0) at >>= λ x. Ok (base_of based n, i)) (anything u64_at)
    (λ at n u. only-test (λ b. based ≡ false → b ≡ None) (not (based || n == 0)) (fault Range at)
    (λ i. Ok (base_of based n, i))
    (λ kept. only-pure (λ b. based ≡ false → b ≡ None) (base_of based n) (no-base based n)))

-- ---- the key

abbrev key_of : Bool → ℕ → Bool → GsPair → MapState → Option ℕ → Option ℕ → Key
key_of event vector kernel gs map stack base = record {
  syscall = not event;
  vector = vector;
  kernel = kernel;
  gs = gs;
  map = map;
  stack = stack;
  base = base;
}

kept : (stacks : ℕ) (event : Bool) (vector : ℕ) (kernel : Bool) (gs : GsPair) (map : MapState) (stack base : Option ℕ)
    → (event ≡ false → vector ≡ 0) → (event ≡ false → kernel ≡ false) → IsStack stacks kernel stack
    → (event ≡ false → base ≡ None) → IsKey stacks (key_of event vector kernel gs map stack base)
kept stacks event vector kernel gs map stack base v k s b = record {
  syscall = λ e. (v (off event e), k (off event e), b (off event e));
  user = s.0;
  stack = s.1;
}

abbrev after-based : Bool → ℕ → Bool → GsPair → MapState → Option ℕ → Bool → Reading Key
after-based event vector kernel gs map stack based i =
    base_at based i >>= λ base. Ok (key_of event vector kernel gs map stack base.0, base.1)

abbrev after-stack : Bool → ℕ → Bool → GsPair → MapState → Option ℕ → Reading Key
after-stack event vector kernel gs map stack i =
    bit_where event i >>= λ based. after-based event vector kernel gs map stack based.0 based.1

abbrev after-map : ℕ → Bool → ℕ → Bool → GsPair → MapState → Reading Key
after-map stacks event vector kernel gs map i =
    stack_at stacks kernel i >>= λ stack. after-stack event vector kernel gs map stack.0 stack.1

abbrev after-gs : ℕ → Bool → ℕ → Bool → GsPair → Reading Key
after-gs stacks event vector kernel gs i = map_at i >>= λ map. after-map stacks event vector kernel gs map.0 map.1

abbrev after-kernel : ℕ → Bool → ℕ → Bool → Reading Key
after-kernel stacks event vector kernel i = gs_at i >>= λ gs. after-gs stacks event vector kernel gs.0 gs.1

abbrev after-vector : ℕ → Bool → ℕ → Reading Key
after-vector stacks event vector i =
    bit_where event i >>= λ kernel. after-kernel stacks event vector kernel.0 kernel.1

abbrev after-event : ℕ → Bool → Reading Key
after-event stacks event i = vector_at event i >>= λ vector. after-vector stacks event vector.0 vector.1

pub key-only : (stacks : ℕ) → Only (IsKey stacks) (key_at stacks)
unfolding key_at
key-only stacks =
    only-then (λ b. ⊤) (IsKey stacks) bit_at (λ at event. after-event stacks event) (anything bit_at)
    (λ at event u.
    only-then (λ n. event ≡ false → n ≡ 0) (IsKey stacks) (vector_at event)
    (λ at vector. after-vector stacks event vector) (vector-only event)
    (λ at vector v.
    only-then (λ b. event ≡ false → b ≡ false) (IsKey stacks) (bit_where event)
    (λ at kernel. after-kernel stacks event vector kernel) (bit-only event)
    (λ at kernel k.
    only-then (λ g. ⊤) (IsKey stacks) gs_at (λ at gs. after-gs stacks event vector kernel gs) (anything gs_at)
    (λ at gs u.
    only-then (λ m. ⊤) (IsKey stacks) map_at (λ at map. after-map stacks event vector kernel gs map) (anything map_at)
    (λ at map u.
    only-then (IsStack stacks kernel) (IsKey stacks) (stack_at stacks kernel)
    (λ at stack. after-stack event vector kernel gs map stack) (stack-only stacks kernel)
    (λ at stack s.
    only-then (λ b. event ≡ false → b ≡ false) (IsKey stacks) (bit_where event)
    (λ at based. after-based event vector kernel gs map stack based) (bit-only event)
    (λ at based e.
    only-then (λ b. based ≡ false → b ≡ None) (IsKey stacks) (base_at based)
    (λ at base i. Ok (key_of event vector kernel gs map stack base, i)) (base-only based)
    (λ at base b.
    only-pure (IsKey stacks) (key_of event vector kernel gs map stack base)
    (kept stacks event vector kernel gs map stack base v k s (λ is. b (e is)))))))))))
