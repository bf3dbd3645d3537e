-- The accesses of a delivery from a constant base break nothing, and none has a byte in a guard: what it reads may be
-- read, and the frame lies in one stack, may be written, and has no live byte.
use Rattle.std.proofs.Common.{◌≡◌, ℕ, zero, suc, ◌+◌, ◌-◌, ◌*◌, ◌%◌, ◌^◌, ◌⊎◌, nat_le, ◌<◌, ◌≤◌, ◌||◌, ◌&&◌, nat_eq, inl, inr, Bool, true, false, List, [], ◌∷◌, ◌++◌, length, map, All, Option, Some, None, IfSome, refl, ap, ◌∙◌, subst, arith}
use Rattle.std.proofs.lemmas.Bool.{and_parts, leb-true, false≢true}
use Rattle.std.proofs.lemmas.List.Elements.{All-nil, All-cons, All-head, All-tail, All-append}
use Rattle.kc_bits.specs.Bits.{word}
use Rattle.kc_regions.specs.Description.{Description}
use Rattle.kc_regions.specs.Layout.{InBytes}
use Rattle.kc_regions.specs.Lookup.{gate_of, tss_word}
use Rattle.kc_regions.specs.Permission.{passes, in_guard, permits}
use Rattle.kc_regions.specs.Ranges.{IsGateInRange}
use Rattle.kc_regions.specs.Region.{region_of, stack_of, stack_at}
use Rattle.kc_regions.specs.Valid.{IsValid}
use Rattle.kc_regions.specs.declared.entry.Gate.{Gate}
use Rattle.kc_regions.specs.declared.region.Kind.TheVariants.{Area}
use Rattle.kc_regions.specs.declared.region.Region.{Region}
use Rattle.kc_regions.specs.declared.touch.Touch.TheVariants.{Read, Write}
use Rattle.kc_regions.proofs.LayoutLemmas.{laid}
use Rattle.kc_rules.proofs.AnswerLemmas.{some_is}
use Rattle.kc_rules.proofs.TestLemmas.{chosen}
use Rattle.kc_space.specs.declared.map.MapState.{MapState}
use Rattle.kc_exec.specs.Execution.{guarded, stops}
use Rattle.kc_exec.specs.Live.{IsLive}
use Rattle.kc_exec.specs.Operand.{plain_read}
use Rattle.kc_exec.specs.declared.access.Access.{Access}
use Rattle.kc_exec.specs.declared.state.Activation.{Activation}
use Rattle.kc_events.specs.Delivery.{pushed, push_access, stack_reads}
use Rattle.kc_frames.specs.declared.floors.Floors.{Floors}
use Rattle.kc_state.specs.AbsDelivery.{may_touch, may_read_word, may_push, holds_below, is_under_floor}
use Rattle.kc_state.specs.Access.{may_bytes}
use Rattle.kc_state.specs.Conditions.{stack_region}
use Rattle.kc_state.specs.Places.{below_address}
use Rattle.kc_state.specs.declared.key.Key.{Key}
use Rattle.kc_state.specs.declared.location.Location.TheVariants.{Number}
use Rattle.kc_describes.specs.Fits.{IsFrameBase}
use Rattle.kc_describes.specs.Spaces.{IsCr3Of}
use Rattle.kc_describes.proofs.LocationLemmas.{in_stack}
use Rattle.kc_describes.proofs.PermissionLemmas.{IsKnownCr3, passed, may_permits, may_number}
use Rattle.kc_describes.proofs.QuietLemmas.{IsQuiet}
use Rattle.kc_describes.proofs.SlotLemmas.{region_fits}
use Rattle.kc_delivers.proofs.EntryLemmas.{IsFrameAt}
use Rattle.kc_delivers.proofs.ReadLemmas.{unguarded, pushes_all}

-- ---- gates

found_gate : (P : Gate → Type 0) (v : ℕ) (gates : List Gate) (g : Gate) → gate_of gates v ≡ Some g → All P gates → P g
found_gate P v [] g e all = absurd cc
found_gate P v (x ∷ xs) g e all = elim (chosen (nat_eq x.vector v) (Some x) (gate_of xs v) (Some g) e) [
  | inl h ↦ subst P (some_is x g h.1) (All-head P x xs all)
  | inr h ↦ found_gate P v xs g h.1 (All-tail P x xs all)
]

pub gate_in_range : (cfg : Description) (v : ℕ) (g : Gate) → IsValid cfg → gate_of cfg.gates v ≡ Some g
    → IsGateInRange g
gate_in_range cfg v g valid e = found_gate IsGateInRange v cfg.gates g e valid.ranges.gates

-- the words of the TSS don't wrap
pub tss_fits : (cfg : Description) (n : ℕ) → IsValid cfg → n < 8 → tss_word cfg.cpu.tss n < 2 ^ 64
tss_fits cfg zero valid few =
    let last = (laid cfg valid).tss 103 (omega arith) in
    let fits = region_fits cfg (cfg.cpu.tss + 103) last.0 valid last.1 in
    omega (arith, fits)
tss_fits cfg (suc n) valid few =
    let last = (laid cfg valid).tss 103 (omega arith) in
    let fits = region_fits cfg (cfg.cpu.tss + 103) last.0 valid last.1 in
    omega (arith, fits, few)

-- ---- accesses

-- it breaks nothing, and has no byte in a guard
abbrev pub IsFree : Description → ℕ → ℕ → List Activation → Access → Type 0
IsFree cfg cr3 gs chain a = IsQuiet cfg cr3 gs chain a × (guarded cfg.regions a.at a.size ≡ false)

free_test : (cfg : Description) (a : Access) (more : List Access) → guarded cfg.regions a.at a.size ≡ false
    → stops cfg more ≡ false → stops cfg (a ∷ more) ≡ false
free_test cfg a more one rest = ap (λ (b : Bool). b || stops cfg more) one ∙ rest

pub none_stops : (cfg : Description) (cr3 gs : ℕ) (chain : List Activation) (ds : List Access)
    → All (IsFree cfg cr3 gs chain) ds → stops cfg ds ≡ false
none_stops cfg cr3 gs chain [] all = refl
none_stops cfg cr3 gs chain (d ∷ ds) all =
    free_test cfg d ds (All-head (IsFree cfg cr3 gs chain) d ds all).1
    (none_stops cfg cr3 gs chain ds (All-tail (IsFree cfg cr3 gs chain) d ds all))

pub all_quiet : (cfg : Description) (cr3 gs : ℕ) (chain : List Activation) (ds : List Access)
    → All (IsFree cfg cr3 gs chain) ds → All (IsQuiet cfg cr3 gs chain) ds
all_quiet cfg cr3 gs chain [] all = All-nil (IsQuiet cfg cr3 gs chain)
all_quiet cfg cr3 gs chain (d ∷ ds) all =
    All-cons (IsQuiet cfg cr3 gs chain) d ds (All-head (IsFree cfg cr3 gs chain) d ds all).0
    (all_quiet cfg cr3 gs chain ds (All-tail (IsFree cfg cr3 gs chain) d ds all))

of_inside : (a n x : ℕ) (i : ℕ) → a < 2 ^ 64 → i < n → x ≡ (a + i) % 2 ^ 64 → (x < 2 ^ 64) × InBytes x a n
of_inside a n x i fits few is = (omega (arith, is), omega (arith, fits, few, is))

of_frame : (base n x : ℕ) → base < 2 ^ 64 → n ≤ base → base ≤ x + n → x < base → InBytes x (below_address base n) n
of_frame base n x fits room low high =
    let at : below_address base n ≡ base - n = omega (arith, fits, room, low, high) in
    omega (arith, at, fits, room, low, high)

module _ (cfg : Description) (valid : IsValid cfg) (map_is : MapState) (cr3 gs : ℕ) (chain : List Activation)
    (stands : IsCr3Of cfg map_is cr3) (known : IsKnownCr3 cfg cr3) where
  abbrev Free : Access → Type 0
  Free = IsFree cfg cr3 gs chain

  -- a read of bytes that may be read
  free_read : (key : Key) (a n : ℕ) → a < 2 ^ 64 → n < 2 ^ 64 → may_bytes cfg map_is Read a n ≡ true
      → Free (plain_read a n)
  free_read key a n fits few h = (
    record {
      permitted = λ x of.
          let inside = of_inside a n x of.0 fits of.1 of.2 in
          may_permits cfg key 0 map_is cr3 (Number a) n x Read valid fits (λ e. absurd cc) stands known h inside.0
          inside.1;
      unlive = λ e. absurd cc;
      own_gs = λ e. absurd (false≢true e);
      fits = fits;
    },
    unguarded cfg.regions a n fits few (λ x low inside. may_number cfg map_is a n x Read fits low h inside),
  )

  free_word : (key : Key) (taken : Option ℕ) → IfSome taken (λ n. n < 8) → may_read_word cfg map_is taken ≡ true
      → All Free (stack_reads cfg taken)
  free_word key None few h = All-nil Free
  free_word key (Some n) few h =
      let fits = tss_fits cfg n valid few in
      let same : word (tss_word cfg.cpu.tss n) ≡ tss_word cfg.cpu.tss n = omega (arith, fits) in
      All-cons Free (plain_read (tss_word cfg.cpu.tss n) 8) []
      (free_read key (tss_word cfg.cpu.tss n) 8 fits (omega arith)
      (subst (λ a. may_bytes cfg map_is Read a 8 ≡ true) same h))
      (All-nil Free)

  -- what a delivery reads
  pub free_reads : (key : Key) (v : ℕ) (taken : Option ℕ) (more : List Access) → IfSome taken (λ n. n < 8)
      → may_touch cfg map_is v taken ≡ true → All Free more
      → All Free (plain_read (word (cfg.cpu.idt + 16 * v)) 16
      ∷ plain_read (word (cfg.cpu.gdt + cfg.cpu.star_kernel)) 8 ∷ (stack_reads cfg taken ++ more))
  free_reads key v taken more few h rest =
      let gate = word (cfg.cpu.idt + 16 * v) in
      let selector = word (cfg.cpu.gdt + cfg.cpu.star_kernel) in
      let p = and_parts (may_bytes cfg map_is Read gate 16)
      (may_bytes cfg map_is Read selector 8 && may_read_word cfg map_is taken) h in
      let q = and_parts (may_bytes cfg map_is Read selector 8) (may_read_word cfg map_is taken) p.1 in
      All-cons Free (plain_read gate 16) (plain_read selector 8 ∷ (stack_reads cfg taken ++ more))
      (free_read key gate 16 (omega arith) (omega arith) p.0)
      (All-cons Free (plain_read selector 8) (stack_reads cfg taken ++ more)
      (free_read key selector 8 (omega arith) (omega arith) q.0)
      (All-append Free (stack_reads cfg taken) more (free_word key taken few q.1) rest))

  -- a push whose bytes may be written and aren't live
  pub free_push : (key : Key) (base n : ℕ) (ws : List ℕ) → base < 2 ^ 64 → 8 * length ws ≡ n → n ≤ base
      → may_bytes cfg map_is Write (below_address base n) n ≡ true
      → ((x : ℕ) → base ≤ x + n → x < base → IsLive cfg chain x → ⊥)
      → All Free (map push_access (pushed base ws))
  free_push key base n ws fits size room may unlive =
      let low : below_address base n < 2 ^ 64 = omega arith in
      pushes_all Free
      (λ x. ((in_guard cfg.regions x ≡ true) ⊎ (permits cfg cr3 Write x ≡ true)) × (in_guard cfg.regions x ≡ false)
      × (IsLive cfg chain x → ⊥))
      ws base fits (omega (arith, size, room))
      (λ x small of.
      let inside = of_frame base n x fits room (omega (arith, of.0, size)) of.1 in (
        may_permits cfg key 0 map_is cr3 (Number (below_address base n)) n x Write valid low (λ e. absurd cc) stands
            known may small inside,
        may_number cfg map_is (below_address base n) n x Write low small may inside,
        unlive x (omega (arith, of.0, size)) of.1,
      ))
      (λ w small bytes. (
        record {
          permitted = λ x of.
              let inside = of_inside w.0 8 x of.0 small of.1 of.2 in (bytes x inside.0 inside.1).0;
          unlive = λ e x of.
              let inside = of_inside w.0 8 x of.0 small of.1 of.2 in (bytes x inside.0 inside.1).2;
          own_gs = λ e. absurd (false≢true e);
          fits = small;
        },
        unguarded cfg.regions w.0 8 small (omega arith) (λ x inside held. (bytes x inside held).1),
      ))

-- ---- the frame below a constant base

-- the frame lies in one stack
pub record IsInOneStack (cfg : Description) (base n : ℕ) : Type 0 where
  pub stack : ℕ
  pub region : Region
  pub numbered : stack_at cfg.regions stack ≡ Some region
  pub named : stack_of cfg.regions (below_address base 8) ≡ Some stack
  pub low : region.span.from + n ≤ base
  pub high : base ≤ region.span.to

stack_there : (cfg : Description) (base n : ℕ) (o : Option ℕ) → stack_of cfg.regions (below_address base 8) ≡ o
    → passes (holds_below base n) (stack_region cfg o) ≡ true → IsInOneStack cfg base n
stack_there cfg base n None e h = absurd (false≢true h)
stack_there cfg base n (Some s) e h =
    let there = passed (holds_below base n) (stack_at cfg.regions s) h in
    let r = there.0 in
    let p = and_parts (nat_le (r.span.from + n) base) (nat_le base r.span.to) there.2 in
    record {
      stack = s;
      region = r;
      numbered = there.1;
      named = e;
      low = leb-true (r.span.from + n) base p.0;
      high = leb-true base r.span.to p.1;
    }

module _ (cfg : Description) (valid : IsValid cfg) (base n : ℕ) (aligned : base % 16 ≡ 0) (count : 40 ≤ n)
    (In : IsInOneStack cfg base n) where
  pub base_fits : base < 2 ^ 64
  base_fits = let is = (laid cfg valid).stacks In.stack In.region In.numbered in omega (arith, is.ends, In.high)

  byte_of : (x : ℕ) → base ≤ x + n → x < base → stack_of cfg.regions x ≡ Some In.stack
  byte_of x low high =
      (laid cfg valid).stack_bytes In.stack In.region x In.numbered
      (omega (arith, low, In.low), omega (arith, high, In.high))

  no_area : (x : ℕ) (r : Region) → base ≤ x + n → x < base → region_of cfg.regions x ≡ Some r → r.kind ≡ Area → ⊥
  no_area x r low high e area =
      let there = in_stack cfg In.stack x valid (byte_of x low high) in
      let kind = there.is.kind in
      let found = there.found in
      absurd cc

  frame_base : IsFrameBase cfg base
  frame_base =
      let room = In.low in
      let fits = base_fits in
      let first : below_address base 40 ≡ base - 40 = omega (arith, room, fits, count) in
      record {
        aligned = aligned;
        stack = In.stack;
        first = byte_of (below_address base 40) (omega (arith, first, room, count)) (omega (arith, first, room, count));
        last = In.named;
      }

  pub frame_at : (k : ℕ) → 8 * k ≡ n → IsFrameAt cfg k base
  frame_at k size = record {
    fits = base_fits;
    room = let room = In.low in omega (arith, size, room);
    is = frame_base;
    apart = λ x r of e area. no_area x r (omega (arith, size, of.0)) of.1 e area;
  }

pub in_one_stack : (cfg : Description) (map_is : MapState) (floors : Floors) (base n : ℕ)
    → may_push cfg map_is floors base n ≡ true → IsInOneStack cfg base n
in_one_stack cfg map_is floors base n h =
    let stack = stack_of cfg.regions (below_address base 8) in
    stack_there cfg base n stack refl
    (and_parts (passes (holds_below base n) (stack_region cfg stack))
    (may_bytes cfg map_is Write (below_address base n) n && is_under_floor floors base stack) h).0

pub may_write : (cfg : Description) (map_is : MapState) (floors : Floors) (base n : ℕ)
    → may_push cfg map_is floors base n ≡ true → may_bytes cfg map_is Write (below_address base n) n ≡ true
may_write cfg map_is floors base n h =
    let stack = stack_of cfg.regions (below_address base 8) in
    let rest = may_bytes cfg map_is Write (below_address base n) n && is_under_floor floors base stack in
    let p = and_parts (passes (holds_below base n) (stack_region cfg stack)) rest h in
    (and_parts (may_bytes cfg map_is Write (below_address base n) n) (is_under_floor floors base stack) p.1).0
