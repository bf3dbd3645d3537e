-- What is read of a certificate's parts: floors of stacks that aren't there are bottom, slots from 40 on of the user's
-- state are top, contexts and nodes rise and are as many as their counts. Each part's fields are read in their order; a
-- list of parts goes by what one more part keeps.
use Rattle.std.proofs.Common.{◌≡◌, ℕ, zero, suc, ◌+◌, ◌-◌, ◌<◌, ◌≤◌, Bool, true, false, not, List, [], ◌∷◌, ◌++◌, length, drop, map, set, get_or, Option, Some, None, Ok, refl, sym, ap, ◌∙◌, subst, arith}
use Rattle.std.specs.Prelude.{⊤, All, nat_lt, is_some, slice_get, replicate, ◌==◌}
use Rattle.std.specs.Ordering.{is_lt}
use Rattle.std.specs.declared.cmp.Ordering.{Ordering}
use Rattle.std.specs.declared.cmp.Ordering.TheVariants.{Less, Equal, Greater}
use Rattle.std.proofs.lemmas.Bool.Decides.{nat_tests}
use Rattle.std.proofs.lemmas.List.{map-append, length-append, length-map, drop-set-lt}
use Rattle.std.proofs.lemmas.Option.{slice_get-get_or, slice_get_within, get_or_from_slice_get}
use Rattle.kc_rules.specs.Rules.{◌>>=◌, refuse}
use Rattle.kc_rules.proofs.AnswerLemmas.{bind_ok, ok_is, refuse_ok}
use Rattle.kc_value.specs.AbsValue.{AbsValue}
use Rattle.kc_value.specs.Value.{value_top}
use Rattle.kc_frames.specs.Floors.{none_live}
use Rattle.kc_frames.specs.Slots.{slot_count, every_slot}
use Rattle.kc_frames.specs.declared.floor.Floor.{Floor}
use Rattle.kc_frames.specs.declared.floor.Floor.TheVariants.{At}
use Rattle.kc_frames.specs.declared.floors.Floors.{Floors}
use Rattle.kc_state.specs.Key.{IsKey}
use Rattle.kc_state.specs.declared.key.Key.{Key}
use Rattle.kc_state.specs.declared.state.AbsState.{AbsState}
use Rattle.kc_cert.specs.Table.{Position, RisesBy, key_order, position_of, position_order}
use Rattle.kc_cert.specs.declared.certificate.Certificate.{Certificate}
use Rattle.kc_cert.specs.declared.certificate.Context.{Context}
use Rattle.kc_cert.specs.declared.certificate.Node.{Node}
use Rattle.kc_cert.specs.declared.certificate.TheConstants.{MAX_CONTEXTS, MAX_NODES}
use Rattle.kc_cert.proofs.PositionLemmas.{key_trans, position_trans}
use Rattle.kc_certfields.specs.declared.fault.CertFault.{CertFault}
use Rattle.kc_certfields.specs.Fault.{fault}
use Rattle.kc_certfields.specs.declared.fault.CertKind.TheVariants.{TooMany, Order, Range, Trailing}
use Rattle.kc_certfields.specs.Rest.{Rest}
use Rattle.kc_certfields.specs.Reads.{in_range, one_of, times}
use Rattle.kc_certfields.specs.Numbers.{u8_at, u16_at, u32_at, u64_at, bytes_at}
use Rattle.kc_certfields.specs.Spaces.{tri_at, gs_at, map_at, latches_at}
use Rattle.kc_certfields.specs.Values.{value_at, values_at}
use Rattle.kc_certfields.specs.Spelling.{is_value_top}
use Rattle.kc_certfields.specs.Slots.{slot_at, next_slot, slots_from, slots_at}
use Rattle.kc_certfields.specs.Floors.{floor_at, next_floor, floors_at}
use Rattle.kc_certfields.specs.States.{state_at, user_slots, user_at}
use Rattle.kc_certfields.specs.Keys.{bit_at, key_at, summary_at}
use Rattle.kc_certform.specs.CertBytes.{magic, share_of}
use Rattle.kc_certform.specs.HasSpelling.{HasSpelling}
use Rattle.kc_certfmt.specs.Reading.{last_of, magic_at, version_at, stacks_at, count_at, head_at, key_rises, context_at, next_context, Nodes, position_rises, position_at, StateRead, plain_state_at, new_state_at, shared_state, state_after, shared_state_at, node_state_at, with_written, with_node, node_with, next_node, certificate, is_empty, from_nodes, from_count, from_contexts, from_start, cert_at}
use Rattle.kc_certfmt.specs.declared.head.Head.{Head}
use Rattle.kc_certlaw.proofs.Only.{Only, anything, only-then, only-test, only-pure, only-if, only-times}
use Rattle.kc_certlaw.proofs.KeyOnly.{key-only}
use Rattle.kc_certlaw.proofs.ListOnly.{one-more, rises-more, all-same-after, all-same-behind}

-- ---- counts

at-most : (limit n : ℕ) → nat_lt limit n ≡ false → n ≤ limit
at-most limit n e = grind (arith, nat_tests, e)

counted : (limit : ℕ) → Only (λ n. n ≤ limit) (count_at limit)
unfolding count_at
counted limit =
    only-then (λ n. ⊤) (λ n. n ≤ limit) u32_at
    (λ at n i. refuse (nat_lt limit n) (fault TooMany at) >>= λ x. Ok (n, i)) (anything u32_at)
    (λ at n u. only-test (λ n. n ≤ limit) (nat_lt limit n) (fault TooMany at) (λ i. Ok (n, i))
    (λ e. only-pure (λ n. n ≤ limit) n (at-most limit n e)))

few-stacks : Only (λ n. n ≤ 16) stacks_at
unfolding stacks_at
few-stacks =
    only-then (λ n. ⊤) (λ n. n ≤ 16) u8_at
    (λ at n i. refuse (nat_lt 16 n) (fault TooMany at) >>= λ x. Ok (n, i)) (anything u8_at)
    (λ at n u. only-test (λ n. n ≤ 16) (nat_lt 16 n) (fault TooMany at) (λ i. Ok (n, i))
    (λ e. only-pure (λ n. n ≤ 16) n (at-most 16 n e)))

-- ---- floors

abbrev AreBottom : ℕ → List Floor → Type 0
AreBottom stacks floors = All (λ f. f ≡ At none_live) (drop stacks floors)

floor-more : (k : ℕ) (fs : List Floor) → length fs ≡ k → Only (λ gs. length gs ≡ suc k) (next_floor fs)
floor-more k fs e =
    only-then (λ f. ⊤) (λ gs. length gs ≡ suc k) floor_at (λ at f i. Ok (fs ++ f ∷ [], i)) (anything floor_at)
    (λ at f u. only-pure (λ gs. length gs ≡ suc k) (fs ++ f ∷ []) (omega (arith, length-append fs (f ∷ []), e)))

floors-only : (stacks : ℕ) → Only (λ fs. AreBottom stacks fs.at) (floors_at stacks)
unfolding floors_at
floors-only stacks =
    let made : List Floor → Floors = λ fs. record { at = fs ++ replicate (16 - stacks) (At none_live) } in
    only-then (λ fs. length fs ≡ stacks + 0) (λ fs. AreBottom stacks fs.at) (times next_floor stacks [])
    (λ at fs i. Ok (made fs, i)) (only-times (λ k fs. length fs ≡ k) next_floor floor-more stacks 0 [] refl)
    (λ at fs e.
    only-pure (λ fs. AreBottom stacks fs.at) (made fs)
    (all-same-behind (At none_live) fs stacks (16 - stacks) (omega (arith, e))))

-- ---- slots

abbrev AreTop : ℕ → List AbsValue → Type 0
AreTop limit slots = All (λ v. v ≡ value_top) (drop limit slots)

slot-only : (limit least : ℕ) → Only (λ s. s.0 < limit) (slot_at limit least)
unfolding slot_at
slot-only limit least =
    only-then (λ n. ⊤) (λ s. s.0 < limit) u16_at
    (λ at n i. in_range (nat_lt n limit) at >>= λ x. refuse (nat_lt n least) (fault Order at) >>= λ x. value_at i
    >>= λ value. in_range (not (is_value_top value.0)) i.at >>= λ x. Ok ((n, value.0), value.1)) (anything u16_at)
    (λ at n u. only-test (λ s. s.0 < limit) (not (nat_lt n limit)) (fault Range at)
    (λ i. refuse (nat_lt n least) (fault Order at) >>= λ x. value_at i
    >>= λ value. in_range (not (is_value_top value.0)) i.at >>= λ x. Ok ((n, value.0), value.1))
    (λ below. only-test (λ s. s.0 < limit) (nat_lt n least) (fault Order at)
    (λ i. value_at i >>= λ value. in_range (not (is_value_top value.0)) i.at >>= λ x. Ok ((n, value.0), value.1))
    (λ above. only-then (λ v. ⊤) (λ s. s.0 < limit) value_at
    (λ there v i. in_range (not (is_value_top v)) there >>= λ x. Ok ((n, v), i)) (anything value_at)
    (λ there v u. only-test (λ s. s.0 < limit) (not (not (is_value_top v))) (fault Range there) (λ i. Ok ((n, v), i))
    (λ e. only-pure (λ s. s.0 < limit) (n, v) (grind (arith, nat_tests, below)))))))

abbrev Known : ℕ → ℕ → ℕ × List AbsValue → Type 0
Known limit k known = AreTop limit known.1

slot-more : (limit k : ℕ) (known : ℕ × List AbsValue) → AreTop limit known.1
    → Only (Known limit (suc k)) (next_slot limit known)
slot-more limit k known top =
    only-then (λ s. s.0 < limit) (Known limit (suc k)) (slot_at limit known.0)
    (λ at s i. Ok ((s.0 + 1, set known.1 s.0 s.1), i)) (slot-only limit known.0)
    (λ at s below.
    only-pure (Known limit (suc k)) (s.0 + 1, set known.1 s.0 s.1)
    (subst (λ (l : List AbsValue). All (λ v. v ≡ value_top) l) (sym (drop-set-lt limit known.1 s.0 s.1 below)) top))

from-only : (limit count : ℕ) (slots : List AbsValue) → AreTop limit slots
    → Only (AreTop limit) (slots_from limit count slots)
unfolding slots_from
from-only limit count slots top =
    only-then (Known limit (count + 0)) (AreTop limit) (times (next_slot limit) count (0, slots))
    (λ at known i. Ok (known.1, i)) (only-times (Known limit) (next_slot limit) (slot-more limit) count 0 (0, slots) top)
    (λ at known t. only-pure (AreTop limit) known.1 t)

all-top : (limit : ℕ) → AreTop limit (every_slot value_top)
unfolding every_slot
all-top limit = all-same-after value_top limit slot_count

slots-only : (limit : ℕ) → Only (AreTop limit) (slots_at limit)
unfolding slots_at
slots-only limit =
    only-then (λ n. ⊤) (AreTop limit) u16_at
    (λ at n i. refuse (nat_lt slot_count n) (fault TooMany at) >>= λ x. slots_from limit n (every_slot value_top) i)
    (anything u16_at)
    (λ at n u. only-test (AreTop limit) (nat_lt slot_count n) (fault TooMany at)
    (slots_from limit n (every_slot value_top)) (λ e. from-only limit n (every_slot value_top) (all-top limit)))

user-only : Only (λ u. AreTop user_slots u.slots) user_at
unfolding user_at
user-only =
    only-then (λ t. ⊤) (λ u. AreTop user_slots u.slots) tri_at
    (λ at nmi i. tri_at i >>= λ mcip. slots_at user_slots mcip.1
    >>= λ slots. Ok (record { nmi_blocked = nmi; mcip = mcip.0; slots = slots.0 }, slots.1)) (anything tri_at)
    (λ at nmi u. only-then (λ t. ⊤) (λ u. AreTop user_slots u.slots) tri_at
    (λ at mcip i. slots_at user_slots i
    >>= λ slots. Ok (record { nmi_blocked = nmi; mcip = mcip; slots = slots.0 }, slots.1)) (anything tri_at)
    (λ at mcip u. only-then (AreTop user_slots) (λ u. AreTop user_slots u.slots) (slots_at user_slots)
    (λ at slots i. Ok (record { nmi_blocked = nmi; mcip = mcip; slots = slots }, i)) (slots-only user_slots)
    (λ at slots top. only-pure (λ u. AreTop user_slots u.slots)
    (record { nmi_blocked = nmi; mcip = mcip; slots = slots }) top)))

-- ---- states

abbrev IsBottomed : ℕ → AbsState → Type 0
IsBottomed stacks s = AreBottom stacks s.floors.at

state-only : (stacks : ℕ) → Only (IsBottomed stacks) (state_at stacks)
unfolding state_at
state-only stacks i j s h =
    let regs = bind_ok (values_at 16 i) _ (s, j) h in
    let flags = bind_ok (value_at regs.0.1) _ (s, j) regs.2 in
    let gs = bind_ok (gs_at flags.0.1) _ (s, j) flags.2 in
    let map = bind_ok (map_at gs.0.1) _ (s, j) gs.2 in
    let latches = bind_ok (latches_at map.0.1) _ (s, j) map.2 in
    let floors = bind_ok (floors_at stacks latches.0.1) _ (s, j) latches.2 in
    let slots = bind_ok (slots_at slot_count floors.0.1) _ (s, j) floors.2 in
    let made : AbsState = record {
      regs = regs.0.0;
      flags = flags.0.0;
      gs = gs.0.0;
      map = map.0.0;
      latches = latches.0.0;
      floors = floors.0.0;
      slots = slots.0.0;
    } in
    let pair : (made, slots.0.1) ≡ (s, j) = ok_is {E = CertFault} (made, slots.0.1) (s, j) slots.2 in
    subst (IsBottomed stacks) (ap (λ (p : AbsState × Rest). p.0) pair)
    (floors-only stacks latches.0.1 floors.0.1 floors.0.0 floors.1)

-- ---- what stands before the contexts

pub record IsHead (h : Head) : Type 0 where
  stacks : h.stacks ≤ 16
  user : AreTop user_slots h.user.slots

head-only : Only IsHead head_at
unfolding head_at
head-only i j h e =
    let start = bind_ok (magic_at magic i) _ (h, j) e in
    let version = bind_ok (version_at start.0.1) _ (h, j) start.2 in
    let image = bind_ok (bytes_at 32 version.0.1) _ (h, j) version.2 in
    let config = bind_ok (bytes_at 32 image.0.1) _ (h, j) image.2 in
    let stacks = bind_ok (stacks_at config.0.1) _ (h, j) config.2 in
    let user = bind_ok (user_at stacks.0.1) _ (h, j) stacks.2 in
    let made : Head = record {
      version = version.0.0;
      digests = record { image = image.0.0; config = config.0.0 };
      stacks = stacks.0.0;
      user = user.0.0;
    } in
    let pair : (made, user.0.1) ≡ (h, j) = ok_is {E = CertFault} (made, user.0.1) (h, j) user.2 in
    subst IsHead (ap (λ (p : Head × Rest). p.0) pair)
    (record {
      stacks = few-stacks config.0.1 stacks.0.1 stacks.0.0 stacks.1;
      user = user-only stacks.0.1 user.0.1 user.0.0 user.1;
    })

-- ---- lists that rise

is-less : (r : Ordering) → is_lt r ≡ true → r ≡ Less
is-less Less e = refl
is-less Equal e = absurd cc
is-less Greater e = absurd cc

passed : (b : Bool) → not b ≡ false → b ≡ true
passed true e = refl
passed false e = absurd cc

abbrev keys : List Context → List Key
keys cs = map (λ c. c.key) cs

key-above : (cs : List Context) (o : Option Context) (key d : Key) → last_of cs ≡ o → key_rises o key ≡ true
    → 0 < length (keys cs) → key_order (get_or (keys cs) (length (keys cs) - 1) d) key ≡ Less
key-above [] o key d is e lt = absurd (omega (arith, lt))
key-above (c ∷ cs) None key d is e lt =
    absurd (let some = slice_get-get_or (c ∷ cs) (length (c ∷ cs) - 1) c (omega arith) in cc)
key-above (c ∷ cs) (Some last) key d is e lt =
    let there = get_or_from_slice_get (c ∷ cs) (length (c ∷ cs) - 1) last c is in
    let long : length (keys (c ∷ cs)) ≡ length (c ∷ cs) = length-map (c ∷ cs) (λ x. x.key) in
    ap (λ (n : ℕ). key_order (get_or (keys (c ∷ cs)) (n - 1) d) key) long
    ∙ ap (λ (k : Key). key_order k key) (nth (c ∷ cs) (length (c ∷ cs) - 1) d c (omega arith) ∙ ap (λ (x : Context). x.key) there)
    ∙ is-less (key_order last.key key) e
  where
    nth : (xs : List Context) (k : ℕ) (d : Key) (e : Context) → k < length xs
        → get_or (keys xs) k d ≡ (get_or xs k e).key
    nth [] k d e lt = absurd (omega (arith, lt))
    nth (x ∷ xs) zero d e lt = refl
    nth (x ∷ xs) (suc k) d e lt = nth xs k d e (omega (arith, lt))

abbrev positions : List Node → List Position
positions ns = map position_of ns

position-above : (ns : List Node) (o : Option Node) (p d : Position) → last_of ns ≡ o → position_rises o p ≡ true
    → 0 < length (positions ns) → position_order (get_or (positions ns) (length (positions ns) - 1) d) p ≡ Less
position-above [] o p d is e lt = absurd (omega (arith, lt))
position-above (n ∷ ns) None p d is e lt =
    absurd (let some = slice_get-get_or (n ∷ ns) (length (n ∷ ns) - 1) n (omega arith) in cc)
position-above (n ∷ ns) (Some last) p d is e lt =
    let there = get_or_from_slice_get (n ∷ ns) (length (n ∷ ns) - 1) last n is in
    let long : length (positions (n ∷ ns)) ≡ length (n ∷ ns) = length-map (n ∷ ns) position_of in
    ap (λ (k : ℕ). position_order (get_or (positions (n ∷ ns)) (k - 1) d) p) long
    ∙ ap (λ (q : Position). position_order q p)
    (nth (n ∷ ns) (length (n ∷ ns) - 1) d n (omega arith) ∙ ap position_of there)
    ∙ is-less (position_order (position_of last) p) e
  where
    nth : (xs : List Node) (k : ℕ) (d : Position) (e : Node) → k < length xs
        → get_or (positions xs) k d ≡ position_of (get_or xs k e)
    nth [] k d e lt = absurd (omega (arith, lt))
    nth (x ∷ xs) zero d e lt = refl
    nth (x ∷ xs) (suc k) d e lt = nth xs k d e (omega (arith, lt))

-- ---- contexts

pub record AreContexts (stacks k : ℕ) (cs : List Context) : Type 0 where
  each : All (IsKey stacks) (keys cs)
  rise : RisesBy key_order (keys cs)
  long : length cs ≡ k

none : (stacks : ℕ) → AreContexts stacks 0 []
none stacks = record {
  each = λ i d lt. absurd (omega (arith, lt));
  rise = λ i j d lt fits. absurd (omega (arith, fits));
  long = refl;
}

context-more : (stacks k : ℕ) (cs : List Context) → AreContexts stacks k cs
    → Only (AreContexts stacks (suc k)) (next_context stacks cs)
unfolding context_at
context-more stacks k cs are i j more h =
    let c = bind_ok (context_at stacks cs i) (λ c. Ok (cs ++ c.0 ∷ [], c.1)) (more, j) h in
    let key = bind_ok (key_at stacks i) _ c.0 c.1 in
    let rises = bind_ok (refuse (not (key_rises (last_of cs) key.0.0)) (fault Order i.at)) _ c.0 key.2 in
    let summary = bind_ok (summary_at key.0.1) _ c.0 rises.2 in
    let made : Context = record { key = key.0.0; summary = summary.0.0 } in
    let is : (made, summary.0.1) ≡ c.0 = ok_is {E = CertFault} (made, summary.0.1) c.0 summary.2 in
    let same : made ≡ c.0.0 = ap (λ (p : Context × Rest). p.0) is in
    let pair : (cs ++ c.0.0 ∷ [], c.0.1) ≡ (more, j) =
    ok_is {E = CertFault} (cs ++ c.0.0 ∷ [], c.0.1) (more, j) c.2 in
    let whole : cs ++ made ∷ [] ≡ more =
    ap (λ (x : Context). cs ++ x ∷ []) same ∙ ap (λ (p : List Context × Rest). p.0) pair in
    let above = passed (key_rises (last_of cs) key.0.0)
    (refuse_ok (not (key_rises (last_of cs) key.0.0)) (fault Order i.at) rises.0 rises.1) in
    let list : keys (cs ++ made ∷ []) ≡ keys cs ++ key.0.0 ∷ [] = map-append (λ x. x.key) cs (made ∷ []) in
    subst (AreContexts stacks (suc k)) whole
    (record {
      each = subst (All (IsKey stacks)) (sym list)
          (one-more (IsKey stacks) (keys cs) key.0.0 are.each (key-only stacks i key.0.1 key.0.0 key.1));
      rise = subst (RisesBy key_order) (sym list)
          (rises-more key_order key_trans (keys cs) key.0.0 are.rise
          (λ d lt. key-above cs (last_of cs) key.0.0 d refl above lt));
      long = omega (arith, length-append cs (made ∷ []), are.long);
    })

-- ---- nodes

-- a node of one of so many contexts, and its floors
pub record IsRead (stacks contexts : ℕ) (n : Node) : Type 0 where
  named : n.context < contexts
  floors : IsBottomed stacks n.state

pub record AreNodes (stacks contexts k : ℕ) (ns : Nodes) : Type 0 where
  each : All (IsRead stacks contexts) ns.nodes
  rise : RisesBy position_order (positions ns.nodes)
  long : length ns.nodes ≡ k
  written : All (IsBottomed stacks) ns.written

pub record IsPosition (contexts : ℕ) (before : List Node) (p : Position) : Type 0 where
  named : p.0 < contexts
  above : position_rises (last_of before) p ≡ true

position-only : (contexts : ℕ) (before : List Node) → Only (IsPosition contexts before) (position_at contexts before)
unfolding position_at
position-only contexts before i j p h =
    let context = bind_ok (u32_at i) _ (p, j) h in
    let named = bind_ok (in_range (nat_lt context.0.0 contexts) i.at) _ (p, j) context.2 in
    let address = bind_ok (u64_at context.0.1) _ (p, j) named.2 in
    let inside = bind_ok (bit_at address.0.1) _ (p, j) address.2 in
    let made : Position = (context.0.0, record { at = address.0.0; inside = inside.0.0 }) in
    let rises = bind_ok (refuse (not (position_rises (last_of before) made)) (fault Order i.at)) _ (p, j) inside.2 in
    let pair : (made, inside.0.1) ≡ (p, j) = ok_is {E = CertFault} (made, inside.0.1) (p, j) rises.2 in
    let below = refuse_ok (not (nat_lt context.0.0 contexts)) (fault Range i.at) named.0 named.1 in
    subst (IsPosition contexts before) (ap (λ (q : Position × Rest). q.0) pair)
    (record {
      named = grind (arith, nat_tests, below);
      above = passed (position_rises (last_of before) made)
          (refuse_ok (not (position_rises (last_of before) made)) (fault Order i.at) rises.0 rises.1);
    })

abbrev IsStateRead : ℕ → StateRead → Type 0
IsStateRead stacks s = IsBottomed stacks s.0

plain-only : (stacks : ℕ) → Only (IsStateRead stacks) (plain_state_at stacks)
unfolding plain_state_at
plain-only stacks =
    only-then (IsBottomed stacks) (IsStateRead stacks) (state_at stacks) (λ at s i. Ok ((s, false), i)) (state-only stacks)
    (λ at s b. only-pure (IsStateRead stacks) (s, false) b)

new-only : (stacks : ℕ) (written : List AbsState) → Only (IsStateRead stacks) (new_state_at stacks written)
unfolding new_state_at
new-only stacks written =
    only-then (IsBottomed stacks) (IsStateRead stacks) (state_at stacks)
    (λ at s i. refuse (is_some (share_of written s)) (fault Order at) >>= λ x. Ok ((s, true), i)) (state-only stacks)
    (λ at s b. only-test (IsStateRead stacks) (is_some (share_of written s)) (fault Order at) (λ i. Ok ((s, true), i))
    (λ e. only-pure (IsStateRead stacks) (s, true) b))

found : (P : AbsState → Type 0) (xs : List AbsState) (k : ℕ) (x : AbsState) → All P xs → slice_get xs k ≡ Some x → P x
found P xs k x all is =
    subst P (get_or_from_slice_get xs k x x is) (all k x (slice_get_within xs k x is))

shared-only : (stacks : ℕ) (written : List AbsState) (at share : ℕ) → All (IsBottomed stacks) written
    → Only (IsStateRead stacks) (shared_state written at share)
shared-only stacks written at share all i j s h = go (slice_get written (share - 1)) refl h
  where
    go : (o : Option AbsState) → slice_get written (share - 1) ≡ o
        → ◌>>=◌ {B = StateRead × Rest} (one_of o at) (λ s. Ok ((s, false), i)) ≡ Ok (s, j) → IsStateRead stacks s
    go None is e = absurd cc
    go (Some x) is e =
        only-pure (IsStateRead stacks) (x, false) (found (IsBottomed stacks) written (share - 1) x all is) i j s e

share-only : (stacks : ℕ) (written : List AbsState) → All (IsBottomed stacks) written
    → Only (IsStateRead stacks) (shared_state_at stacks written)
unfolding shared_state_at
share-only stacks written all =
    only-then (λ n. ⊤) (IsStateRead stacks) u32_at (λ at n. state_after stacks written at n) (anything u32_at)
    (λ at n u. only-if (IsStateRead stacks) (n == 0) (new_state_at stacks written) (shared_state written at n)
    (new-only stacks written) (shared-only stacks written at n all))

node-state-only : (head : Head) (written : List AbsState) → All (IsBottomed head.stacks) written
    → Only (IsStateRead head.stacks) (node_state_at head written)
node-state-only head written all =
    only-if (IsStateRead head.stacks) (head.version == 1) (plain_state_at head.stacks)
    (shared_state_at head.stacks written) (plain-only head.stacks) (share-only head.stacks written all)

all-written : (stacks : ℕ) (written : List AbsState) (s : StateRead) → All (IsBottomed stacks) written
    → IsStateRead stacks s → All (IsBottomed stacks) (with_written written s)
all-written stacks written (s, true) all b = one-more (IsBottomed stacks) written s all b
all-written stacks written (s, false) all b = all

node-more : (head : Head) (contexts k : ℕ) (ns : Nodes) → AreNodes head.stacks contexts k ns
    → Only (AreNodes head.stacks contexts (suc k)) (next_node head contexts ns)
node-more head contexts k ns are =
    only-then (IsPosition contexts ns.nodes) (AreNodes head.stacks contexts (suc k)) (position_at contexts ns.nodes)
    (λ at p. node_with ns p (node_state_at head ns.written)) (position-only contexts ns.nodes)
    (λ at p is.
    only-then (IsStateRead head.stacks) (AreNodes head.stacks contexts (suc k)) (node_state_at head ns.written)
    (λ at s i. Ok (with_node ns p s, i)) (node-state-only head ns.written are.written)
    (λ at s b.
    let made : Node = record { context = p.0; site = p.1; state = s.0 } in
    let list : positions (ns.nodes ++ made ∷ []) ≡ positions ns.nodes ++ p ∷ [] =
    map-append position_of ns.nodes (made ∷ []) in
    only-pure (AreNodes head.stacks contexts (suc k)) (with_node ns p s)
    (record {
      each = one-more (IsRead head.stacks contexts) ns.nodes made are.each (record { named = is.named; floors = b });
      rise = subst (RisesBy position_order) (sym list)
          (rises-more position_order position_trans (positions ns.nodes) p are.rise
          (λ d lt. position-above ns.nodes (last_of ns.nodes) p d refl is.above lt));
      long = omega (arith, length-append ns.nodes (made ∷ []), are.long);
      written = all-written head.stacks ns.written s are.written b;
    })))

-- ---- the whole

abbrev no_nodes : Nodes
no_nodes = record { nodes = []; written = [] }

no-nodes : (stacks contexts : ℕ) → AreNodes stacks contexts 0 no_nodes
no-nodes stacks contexts = record {
  each = λ i d lt. absurd (omega (arith, lt));
  rise = λ i j d lt fits. absurd (omega (arith, fits));
  long = refl;
  written = λ i d lt. absurd (omega (arith, lt));
}

spelt : (head : Head) (cs : List Context) (ns : Nodes) (m n : ℕ) → IsHead head → AreContexts head.stacks m cs
    → m ≤ MAX_CONTEXTS → AreNodes head.stacks (length cs) n ns → n ≤ MAX_NODES
    → HasSpelling (certificate head cs ns.nodes)
spelt head cs ns m n is contexts few nodes less = record {
  stacks = is.stacks;
  user = is.user;
  few_contexts = omega (arith, contexts.long, few);
  few_nodes = omega (arith, nodes.long, less);
  keys = contexts.each;
  keys_rise = contexts.rise;
  nodes = λ i d lt. let n = nodes.each i d lt in record { named = n.named; floors = n.floors };
  nodes_rise = nodes.rise;
}

pub read-spelling : (bytes : List ℕ) (cert : Certificate) → cert_at bytes ≡ Ok cert → HasSpelling cert
unfolding from_start from_contexts from_count from_nodes
read-spelling bytes cert h =
    let start : Rest = record { at = 0; bytes = bytes } in
    let head = bind_ok (head_at start) _ cert h in
    let m = bind_ok (count_at MAX_CONTEXTS head.0.1) _ cert head.2 in
    let cs = bind_ok (times (next_context head.0.0.stacks) m.0.0 [] m.0.1) _ cert m.2 in
    let n = bind_ok (count_at MAX_NODES cs.0.1) _ cert cs.2 in
    let ns = bind_ok (times (next_node head.0.0 (length cs.0.0)) n.0.0 no_nodes n.0.1) _ cert n.2 in
    let end = bind_ok (refuse (not (is_empty ns.0.1.bytes)) (fault Trailing ns.0.1.at))
    (λ x. Ok (certificate head.0.0 cs.0.0 ns.0.0.nodes)) cert ns.2 in
    let is : certificate head.0.0 cs.0.0 ns.0.0.nodes ≡ cert =
    ok_is {E = CertFault} (certificate head.0.0 cs.0.0 ns.0.0.nodes) cert end.2 in
    let stacks : ℕ = head.0.0.stacks in
    subst HasSpelling is
    (spelt head.0.0 cs.0.0 ns.0.0 (m.0.0 + 0) (n.0.0 + 0) (head-only start head.0.1 head.0.0 head.1)
    (only-times (AreContexts stacks) (next_context stacks) (context-more stacks) m.0.0 0 [] (none stacks) m.0.1 cs.0.1
    cs.0.0 cs.1)
    (let few = counted MAX_CONTEXTS head.0.1 m.0.1 m.0.0 m.1 in omega (arith, few))
    (only-times (AreNodes stacks (length cs.0.0)) (next_node head.0.0 (length cs.0.0))
    (node-more head.0.0 (length cs.0.0)) n.0.0 0 no_nodes (no-nodes stacks (length cs.0.0)) n.0.1 ns.0.1 ns.0.0 ns.1)
    (let few = counted MAX_NODES cs.0.1 n.0.1 n.0.0 n.1 in omega (arith, few)))
