-- The readings of values, slots, floors, states, keys and summaries are stable: from those of their fields, in their
-- order. What follows a field is named for it: `after-flags` reads what stands after the flags.
use Rattle.std.proofs.Common.{ℕ, ◌+◌, ◌-◌, ◌^◌, Bool, not, List, [], ◌∷◌, ◌++◌, set, replicate, Option, Some, None, Ok, Err, bit_and}
use Rattle.std.specs.Prelude.{nat_lt, if◌then◌else◌, ◌==◌, ◌&&◌, ◌||◌}
use Rattle.kc_rules.specs.Rules.{◌>>=◌, refuse}
use Rattle.kc_value.specs.AbsValue.{AbsValue}
use Rattle.kc_value.specs.Value.{value_top}
use Rattle.kc_value.specs.declared.symbol.Sym.{Sym}
use Rattle.kc_frames.specs.Floors.{none_live}
use Rattle.kc_frames.specs.Slots.{slot_count, every_slot}
use Rattle.kc_frames.specs.declared.floor.Floor.{Floor}
use Rattle.kc_frames.specs.declared.floor.Floor.TheVariants as floor
use Rattle.kc_frames.specs.declared.floors.Floors.{Floors}
use Rattle.kc_space.specs.declared.gs.GsPair.{GsPair}
use Rattle.kc_space.specs.declared.latches.Latches.{Latches}
use Rattle.kc_space.specs.declared.map.MapState.{MapState}
use Rattle.kc_space.specs.declared.tri.Tri.{Tri}
use Rattle.kc_state.specs.declared.state.AbsState.{AbsState}
use Rattle.kc_state.specs.declared.user.UserState.{UserState}
use Rattle.kc_state.specs.declared.key.Key.{Key}
use Rattle.kc_state.specs.declared.summary.Summary.{Summary}
use Rattle.kc_certfields.specs.Fault.{fault}
use Rattle.kc_certfields.specs.declared.fault.CertKind.TheVariants.{Order, Range, TooMany}
use Rattle.kc_certfields.specs.Reads.{Reading, times, in_range}
use Rattle.kc_certfields.specs.Numbers.{u8_at, u16_at, u32_at, u64_at}
use Rattle.kc_certfields.specs.Spaces.{tri_at, map_at, gs_at, latches_at}
use Rattle.kc_certfields.specs.Spelling.{is_value_top}
use Rattle.kc_certfields.specs.Values.{symbol_at, value_at, next_value, values_at}
use Rattle.kc_certfields.specs.Slots.{slot_at, next_slot, slots_from, slots_at}
use Rattle.kc_certfields.specs.Floors.{address_at, floor_after, floor_at, next_floor, floors_at}
use Rattle.kc_certfields.specs.States.{state_at, user_slots, user_at}
use Rattle.kc_certfields.specs.Keys.{bit_at, vector_at, bit_where, stack_at, base_at, key_at, summary_at}
use Rattle.kc_certfields.specs.Stable.{Stable}
use Rattle.kc_certfields.proofs.StableLemmas.{stable-then, stable-test, stable-pure, stable-fault, stable-if, stable-map, stable-times}
use Rattle.kc_certfields.proofs.FieldsStable.{in-range, stable-u8, stable-u16, stable-u32, stable-u64, stable-tri, stable-map_at, stable-gs, stable-latches, stable-symbol}

-- ---- values

abbrev after-ones : ℕ → Sym → ℕ → ℕ → Reading AbsValue
after-ones at sym zeros ones i = do
  _ ← in_range (bit_and zeros ones == 0) at
  stacks ← u32_at i
  _ ← in_range (nat_lt stacks.0 (2 ^ 17)) i.at
  Ok (record { sym = sym; bits = record { zeros = zeros; ones = ones }; stacks = stacks.0 }, stacks.1)

ones-stable : (at : ℕ) (sym : Sym) (zeros ones : ℕ) → Stable (after-ones at sym zeros ones)
ones-stable at sym zeros ones =
    let value : ℕ → AbsValue =
    λ n. record { sym = sym; bits = record { zeros = zeros; ones = ones }; stacks = n } in
    let rest : Reading AbsValue =
    λ i. u32_at i >>= λ stacks. in_range (nat_lt stacks.0 (2 ^ 17)) i.at >>= λ x. Ok (value stacks.0, stacks.1) in
    stable-test (in_range (bit_and zeros ones == 0) at) (λ x. rest)
    (λ x. in-range u32_at (λ (n : ℕ). nat_lt n (2 ^ 17)) value stable-u32)

abbrev after-zeros : ℕ → Sym → ℕ → Reading AbsValue
after-zeros at sym zeros i = u64_at i >>= λ ones. after-ones at sym zeros ones.0 ones.1

abbrev after-symbol : ℕ → Sym → Reading AbsValue
after-symbol at sym i = u64_at i >>= λ zeros. after-zeros at sym zeros.0 zeros.1

pub stable-value : Stable value_at
unfolding value_at
stable-value =
    stable-then symbol_at after-symbol stable-symbol
    (λ at sym. stable-then u64_at (λ a zeros. after-zeros at sym zeros) stable-u64
    (λ a zeros. stable-then u64_at (λ b ones. after-ones at sym zeros ones) stable-u64
    (λ b ones. ones-stable at sym zeros ones)))

pub stable-values : (n : ℕ) → Stable (values_at n)
stable-values n =
    stable-times next_value (λ vs. stable-map value_at (λ (v : AbsValue). vs ++ v ∷ []) stable-value) n []

-- ---- slots

abbrev known-value : ℕ → Reading (ℕ × AbsValue)
known-value index i = do
  value ← value_at i
  _ ← in_range (not (is_value_top value.0)) i.at
  Ok ((index, value.0), value.1)

abbrev ordered-value : ℕ → ℕ → ℕ → Reading (ℕ × AbsValue)
ordered-value at least index i = refuse (nat_lt index least) (fault Order at) >>= λ x. known-value index i

abbrev after-index : ℕ → ℕ → ℕ → ℕ → Reading (ℕ × AbsValue)
after-index limit least at index i = in_range (nat_lt index limit) at >>= λ x. ordered-value at least index i

pub stable-slot : (limit least : ℕ) → Stable (slot_at limit least)
unfolding slot_at
stable-slot limit least =
    stable-then u16_at (after-index limit least) stable-u16
    (λ at index. stable-test (in_range (nat_lt index limit) at) (λ x. ordered-value at least index)
    (λ x. stable-test (refuse (nat_lt index least) (fault Order at)) (λ y. known-value index)
    (λ y. in-range value_at (λ (v : AbsValue). not (is_value_top v)) (λ (v : AbsValue). (index, v)) stable-value)))

stable-slots_from : (limit count : ℕ) (slots : List AbsValue) → Stable (slots_from limit count slots)
unfolding slots_from
stable-slots_from limit count slots =
    stable-map (times (next_slot limit) count (0, slots)) (λ (x : ℕ × List AbsValue). x.1)
    (stable-times (next_slot limit) (λ known. stable-map (slot_at limit known.0)
    (λ (s : ℕ × AbsValue). (s.0 + 1, set known.1 s.0 s.1)) (stable-slot limit known.0)) count (0, slots))

pub stable-slots : (limit : ℕ) → Stable (slots_at limit)
unfolding slots_at
stable-slots limit =
    stable-then u16_at
    (λ at count i. refuse (nat_lt slot_count count) (fault TooMany at) >>= λ x.
    slots_from limit count (every_slot value_top) i) stable-u16
    (λ at count. stable-test (refuse (nat_lt slot_count count) (fault TooMany at))
    (λ x. slots_from limit count (every_slot value_top))
    (λ x. stable-slots_from limit count (every_slot value_top)))

-- ---- floors

stable-address : Stable address_at
unfolding address_at
stable-address = stable-map u64_at (λ (a : ℕ). floor.At a) stable-u64

stable-floor : Stable floor_at
unfolding floor_at
stable-floor =
    stable-then u8_at floor_after stable-u8
    (λ at tag. stable-if (tag == 0) address_at (λ i. if tag == 1 then Ok (floor.Base, i) else Err (fault Range at))
    stable-address
    (stable-if (tag == 1) (λ i. Ok (floor.Base, i)) (λ i. Err (fault Range at)) (stable-pure floor.Base)
    (stable-fault (fault Range at))))

pub stable-floors : (stacks : ℕ) → Stable (floors_at stacks)
unfolding floors_at
stable-floors stacks =
    let whole : List Floor → Floors = λ fs. record { at = fs ++ replicate (16 - stacks) (floor.At none_live) } in
    stable-map (times next_floor stacks []) whole
    (stable-times next_floor (λ fs. stable-map floor_at (λ (f : Floor). fs ++ f ∷ []) stable-floor) stacks [])

-- ---- states

abbrev after-floors : List AbsValue → AbsValue → GsPair → MapState → Latches → Floors → Reading AbsState
after-floors regs flags gs map latches floors i = do
  slots ← slots_at slot_count i
  Ok (
    record {
      regs = regs;
      flags = flags;
      gs = gs;
      map = map;
      latches = latches;
      floors = floors;
      slots = slots.0;
    },
    slots.1,
  )

abbrev after-latches : ℕ → List AbsValue → AbsValue → GsPair → MapState → Latches → Reading AbsState
after-latches stacks regs flags gs map latches i =
    floors_at stacks i >>= λ floors. after-floors regs flags gs map latches floors.0 floors.1

abbrev after-map : ℕ → List AbsValue → AbsValue → GsPair → MapState → Reading AbsState
after-map stacks regs flags gs map i =
    latches_at i >>= λ latches. after-latches stacks regs flags gs map latches.0 latches.1

abbrev after-gs : ℕ → List AbsValue → AbsValue → GsPair → Reading AbsState
after-gs stacks regs flags gs i = map_at i >>= λ map. after-map stacks regs flags gs map.0 map.1

abbrev after-flags : ℕ → List AbsValue → AbsValue → Reading AbsState
after-flags stacks regs flags i = gs_at i >>= λ gs. after-gs stacks regs flags gs.0 gs.1

abbrev after-regs : ℕ → List AbsValue → Reading AbsState
after-regs stacks regs i = value_at i >>= λ flags. after-flags stacks regs flags.0 flags.1

pub stable-state : (stacks : ℕ) → Stable (state_at stacks)
unfolding state_at
stable-state stacks =
    stable-then (values_at 16) (λ a regs. after-regs stacks regs) (stable-values 16)
    (λ a regs. stable-then value_at (λ b flags. after-flags stacks regs flags) stable-value
    (λ b flags. stable-then gs_at (λ c gs. after-gs stacks regs flags gs) stable-gs
    (λ c gs. stable-then map_at (λ d map. after-map stacks regs flags gs map) stable-map_at
    (λ d map. stable-then latches_at (λ e latches. after-latches stacks regs flags gs map latches) stable-latches
    (λ e latches. stable-then (floors_at stacks) (λ f floors. after-floors regs flags gs map latches floors)
    (stable-floors stacks)
    (λ f floors.
    let whole : List AbsValue → AbsState = λ slots. record {
      regs = regs;
      flags = flags;
      gs = gs;
      map = map;
      latches = latches;
      floors = floors;
      slots = slots;
    } in
    stable-map (slots_at slot_count) whole (stable-slots slot_count)))))))

pub stable-user : Stable user_at
unfolding user_at
stable-user =
    stable-then tri_at
    (λ a nmi i. tri_at i >>= λ mcip. slots_at user_slots mcip.1 >>= λ slots.
    Ok (record { nmi_blocked = nmi; mcip = mcip.0; slots = slots.0 }, slots.1)) stable-tri
    (λ a nmi. stable-then tri_at
    (λ b mcip i. slots_at user_slots i >>= λ slots.
    Ok (record { nmi_blocked = nmi; mcip = mcip; slots = slots.0 }, slots.1)) stable-tri
    (λ b mcip.
    let whole : List AbsValue → UserState = λ slots. record { nmi_blocked = nmi; mcip = mcip; slots = slots } in
    stable-map (slots_at user_slots) whole (stable-slots user_slots)))

-- ---- contexts

stable-bit : Stable bit_at
unfolding bit_at
stable-bit = in-range u8_at (λ (n : ℕ). nat_lt n 2) (λ (n : ℕ). n == 1) stable-u8

stable-vector : (event : Bool) → Stable (vector_at event)
unfolding vector_at
stable-vector event = in-range u8_at (λ (n : ℕ). event || n == 0) (λ (n : ℕ). n) stable-u8

stable-where : (may : Bool) → Stable (bit_where may)
unfolding bit_where
stable-where may = in-range bit_at (λ (b : Bool). may || not b) (λ (b : Bool). b) stable-bit

stable-stack : (stacks : ℕ) (kernel : Bool) → Stable (stack_at stacks kernel)
unfolding stack_at
stable-stack stacks kernel =
    let stack : ℕ → Option ℕ = λ n. if n == 255 then None else Some n in
    in-range u8_at (λ (n : ℕ). n == 255 || (kernel && nat_lt n stacks)) stack stable-u8

stable-base : (based : Bool) → Stable (base_at based)
unfolding base_at
stable-base based =
    let base : ℕ → Option ℕ = λ n. if based then Some n else None in
    in-range u64_at (λ (n : ℕ). based || n == 0) base stable-u64

-- what was read of a key so far
record KeyFront : Type 0 where
  event : Bool
  vector : ℕ
  kernel : Bool
  gs : GsPair
  map : MapState
  stack : Option ℕ

abbrev whole-key : KeyFront → Option ℕ → Key
whole-key f base = record {
  syscall = not f.event;
  vector = f.vector;
  kernel = f.kernel;
  gs = f.gs;
  map = f.map;
  stack = f.stack;
  base = base;
}

abbrev after-based : KeyFront → Bool → Reading Key
after-based f based i = base_at based i >>= λ base. Ok (whole-key f base.0, base.1)

abbrev after-stack : KeyFront → Reading Key
after-stack f i = bit_where f.event i >>= λ based. after-based f based.0 based.1

abbrev after-key-map : ℕ → Bool → ℕ → Bool → GsPair → MapState → Reading Key
after-key-map stacks event vector kernel gs map i = stack_at stacks kernel i >>= λ stack.
    after-stack (record { event = event; vector = vector; kernel = kernel; gs = gs; map = map; stack = stack.0 }) stack.1

abbrev after-key-gs : ℕ → Bool → ℕ → Bool → GsPair → Reading Key
after-key-gs stacks event vector kernel gs i =
    map_at i >>= λ map. after-key-map stacks event vector kernel gs map.0 map.1

abbrev after-kernel : ℕ → Bool → ℕ → Bool → Reading Key
after-kernel stacks event vector kernel i = gs_at i >>= λ gs. after-key-gs stacks event vector kernel gs.0 gs.1

abbrev after-vector : ℕ → Bool → ℕ → Reading Key
after-vector stacks event vector i =
    bit_where event i >>= λ kernel. after-kernel stacks event vector kernel.0 kernel.1

abbrev after-event : ℕ → Bool → Reading Key
after-event stacks event i = vector_at event i >>= λ vector. after-vector stacks event vector.0 vector.1

front-stable : (f : KeyFront) → Stable (after-stack f)
front-stable f =
    stable-then (bit_where f.event) (λ a based. after-based f based) (stable-where f.event)
    (λ a based. stable-map (base_at based) (whole-key f) (stable-base based))

pub stable-key : (stacks : ℕ) → Stable (key_at stacks)
unfolding key_at
stable-key stacks =
    stable-then bit_at (λ a event. after-event stacks event) stable-bit
    (λ a event. stable-then (vector_at event) (λ b vector. after-vector stacks event vector) (stable-vector event)
    (λ b vector. stable-then (bit_where event) (λ c kernel. after-kernel stacks event vector kernel)
    (stable-where event)
    (λ c kernel. stable-then gs_at (λ d gs. after-key-gs stacks event vector kernel gs) stable-gs
    (λ d gs. stable-then map_at (λ e map. after-key-map stacks event vector kernel gs map) stable-map_at
    (λ e map.
    let front : Option ℕ → KeyFront =
    λ stack. record { event = event; vector = vector; kernel = kernel; gs = gs; map = map; stack = stack } in
    stable-then (stack_at stacks kernel) (λ f stack. after-stack (front stack)) (stable-stack stacks kernel)
    (λ f stack. front-stable (front stack)))))))

abbrev after-words : ℕ → ℕ → Reading Summary
after-words stacks words i = do
  latches ← latches_at i
  Ok (record { clobber = record { stacks = stacks; words = words }; latches = latches.0 }, latches.1)

abbrev words-in-range : ℕ → ℕ → ℕ → Reading Summary
words-in-range stacks at words i = in_range (nat_lt words (2 ^ 40)) at >>= λ x. after-words stacks words i

abbrev words-after : ℕ → Reading Summary
words-after stacks i = u64_at i >>= λ words. words-in-range stacks i.at words.0 words.1

pub stable-summary : Stable summary_at
unfolding summary_at
stable-summary =
    stable-then u32_at (λ a stacks i. in_range (nat_lt stacks (2 ^ 16)) a >>= λ x. words-after stacks i) stable-u32
    (λ a stacks. stable-test (in_range (nat_lt stacks (2 ^ 16)) a) (λ x. words-after stacks)
    (λ x. stable-then u64_at (words-in-range stacks) stable-u64
    (λ b words. stable-test (in_range (nat_lt words (2 ^ 40)) b) (λ y. after-words stacks words)
    (λ y.
    let whole : Latches → Summary = λ l. record { clobber = record { stacks = stacks; words = words }; latches = l } in
    stable-map latches_at whole stable-latches))))
