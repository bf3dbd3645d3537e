-- Slots are read exactly. What is written are the known slots, each with its number; `known_items` lists them.
-- `filled`: the items that were read, put among slots that are top, give a list whose known slots are just these, by
-- induction on the items: the slots before an item stay top. `refilled`: the known slots of a list, put among slots
-- that are top, give it back, by induction on the list. Both go with the slots before (`front`) and those after that
-- are still top.
use Rattle.std.proofs.Common.{◌≡◌, ℕ, zero, suc, ◌+◌, ◌-◌, ◌^◌, ◌≤◌, ◌<◌, Bool, true, false, cond, not, List, [], ◌∷◌, ◌++◌, length, drop, replicate, set, Result, Ok, refl, sym, ap, ◌∙◌, subst, append_assoc, arith}
use Rattle.std.specs.Prelude.{nat_lt, All, ◌==◌, ◌&&◌}
use Rattle.std.specs.List.{flat_map}
use Rattle.std.proofs.lemmas.Bool.{and_parts}
use Rattle.std.proofs.lemmas.Bool.Decides.{nat_tests}
use Rattle.std.proofs.lemmas.Grind.{common_steps}
use Rattle.std.proofs.lemmas.List.{length-append, replicate-append-replicate}
use Rattle.std.proofs.lemmas.List.Elements.{All-nil, All-cons, All-head, All-tail, All-append}
use Rattle.std.proofs.lemmas.List.Sums.{sum_by-cons, count_by-le-length}
use Rattle.std.proofs.Math.Seq.{set-append_seam, drop-append-add}
use Rattle.kc_rules.specs.Rules.{◌>>=◌}
use Rattle.kc_rules.proofs.AnswerLemmas.{bind_ok, ok_is, done}
use Rattle.kc_value.specs.AbsValue.{AbsValue}
use Rattle.kc_value.specs.Value.{IsValidValue, value_top, all_places}
use Rattle.kc_value.specs.Symbol.{is_plain}
use Rattle.kc_value.specs.declared.symbol.Sym.{Sym}
use Rattle.kc_value.specs.declared.symbol.Sym.TheVariants.{Plain, Base, Entry, UserGs}
use Rattle.kc_frames.specs.Slots.{slot_count, every_slot, AreSlots}
use Rattle.kc_certfields.specs.declared.fault.CertFault.{CertFault}
use Rattle.kc_certfields.specs.declared.fault.CertKind.TheVariants.{Order, TooMany}
use Rattle.kc_certfields.specs.Fault.{fault}
use Rattle.kc_certfields.specs.Rest.{Rest}
use Rattle.kc_certfields.specs.Reads.{times}
use Rattle.kc_certfields.specs.Slots.{slot_at, next_slot, slots_from, slots_at}
use Rattle.kc_certfields.specs.Spelling.{u16_bytes, value_bytes, is_value_top, slot_records, known_slots, slots_bytes}
use Rattle.kc_certexact.specs.Exact.{AreBytes, Given, Exact}
use Rattle.kc_certexact.proofs.ExactLemmas.{step, passed, fitted, joined, split, ended, is-number, not-true}
use Rattle.kc_certexact.proofs.NumbersExact.{exact-u16}
use Rattle.kc_certexact.proofs.ValuesExact.{exact-value}
use Rattle.kc_certexact.proofs.TimesExact.{Adds, Always, adds-item, run, spelled, Chain, times-takes, times-gives, spelled-flat}

-- ---- the top value

is-plain : (s : Sym) → is_plain s ≡ true → s ≡ Plain
is-plain Plain e = refl
is-plain (Base k) e = absurd cc
is-plain (Entry w) e = absurd cc
is-plain UserGs e = absurd cc

pub top-is : (v : AbsValue) → is_value_top v ≡ true → v ≡ value_top
top-is v t =
    let a = and_parts (is_plain v.sym) (v.bits.zeros == 0 && (v.bits.ones == 0 && v.stacks == all_places)) t in
    let b = and_parts (v.bits.zeros == 0) (v.bits.ones == 0 && v.stacks == all_places) a.1 in
    let c = and_parts (v.bits.ones == 0) (v.stacks == all_places) b.1 in
    let sym_ = is-plain v.sym a.0 in
    let zeros = is-number v.bits.zeros 0 b.0 in
    let ones = is-number v.bits.ones 0 c.0 in
    let stacks = is-number v.stacks all_places c.1 in
    λ i. record { sym = sym_ i; bits = record { zeros = zeros i; ones = ones i }; stacks = stacks i }

top-test : is_value_top value_top ≡ true
top-test = refl

top-valid : IsValidValue value_top
top-valid = record {
  sym_fits = tt;
  bits_fit = record { zeros_fit = omega arith; ones_fit = omega arith; apart = refl };
  stacks_fit = omega arith;
}

-- ---- one slot

abbrev Item : Type 0
Item = ℕ × AbsValue

abbrev pub item_bytes : Item → List ℕ
item_bytes s = u16_bytes s.0 ++ value_bytes s.1

-- a slot that is read where the least index is this
pub record IsSlot (limit least : ℕ) (s : Item) : Type 0 where
  pub word : s.0 < 2 ^ 16
  pub below : s.0 < limit
  pub above : least ≤ s.0
  pub valid : IsValidValue s.1
  pub known : is_value_top s.1 ≡ false

exact-slot : (limit least : ℕ) → Exact (slot_at limit least) item_bytes (IsSlot limit least)
unfolding slot_at
exact-slot limit least = record {
  takes = λ i j x are h.
      let n = step i _ (x, j) exact-u16 are h in
      let below = fitted (nat_lt n.value limit) i.at _ (x, j) n.more in
      let above = passed (nat_lt n.value least) (fault Order i.at) _ (x, j) below.1 in
      let v = step n.rest _ (x, j) exact-value n.bytes above.1 in
      let known = fitted (not (is_value_top v.value)) n.rest.at _ (x, j) v.more in
      ended item_bytes (IsSlot limit least) i v.rest j (n.value, v.value) x known.1
      (record {
        word = n.fits;
        below = (let t = below.0 in grind (arith, nat_tests, t));
        above = (let t = above.0 in grind (arith, nat_tests, t));
        valid = v.fits;
        known = not-true (is_value_top v.value) known.0;
      })
      (joined i.bytes (u16_bytes n.value) (value_bytes v.value) n.rest.bytes v.rest.bytes n.spelled v.spelled);
  gives = λ i x more fits e.
      let n = exact-u16.gives i x.0 (value_bytes x.1 ++ more) fits.word
      (split i.bytes (u16_bytes x.0) (value_bytes x.1) more e) in
      let v = exact-value.gives n.after x.1 more fits.valid n.left in
      let below : nat_lt x.0 limit ≡ true = (let t = fits.below in grind (arith, nat_tests, t)) in
      let above : nat_lt x.0 least ≡ false = (let t = fits.above in grind (arith, nat_tests, t)) in
      let known = fits.known in
      record { after = v.after; is = rw (n.is, below, above, v.is, known) refl; left = v.left };
}

abbrev State : Type 0
State = ℕ × List AbsValue

abbrev put : State → Item → State
put known s = (s.0 + 1, set known.1 s.0 s.1)

abbrev Fits : ℕ → State → Item → Type 0
Fits limit known = IsSlot limit known.0

adds-slot : (limit : ℕ) → Adds (next_slot limit) put (λ known. item_bytes) (Fits limit) Always
adds-slot limit = adds-item (λ known. slot_at limit known.0) put (λ known. item_bytes) (Fits limit)
    (λ known. exact-slot limit known.0)

-- the state after these items, and that each fits where it stands
abbrev after : ℕ → State → List Item → State
after limit s items = run put (λ known. item_bytes) (Fits limit) s items

abbrev Rises : ℕ → State → List Item → Type 0
Rises limit s items = Chain put (λ known. item_bytes) (Fits limit) s items

-- ---- the known slots of a list, where the first has this number

abbrev pub known_items : ℕ → List AbsValue → List Item
known_items k [] = []
known_items k (v ∷ vs) = cond (is_value_top v) (known_items (suc k) vs) ((k, v) ∷ known_items (suc k) vs)

abbrev tops : ℕ → List AbsValue
tops m = replicate m value_top

known-tops : (d k : ℕ) (vs : List AbsValue) → known_items k (tops d ++ vs) ≡ known_items (k + d) vs
known-tops zero k vs = ap (λ (n : ℕ). known_items n vs) (let e : k ≡ k + 0 = omega arith in e)
known-tops (suc d) k vs =
    known-tops d (suc k) vs ∙ ap (λ (n : ℕ). known_items n vs) (let e : suc k + d ≡ k + suc d = omega arith in e)

known-none : (m k : ℕ) → known_items k (tops m) ≡ []
known-none zero k = refl
known-none (suc m) k = known-none m (suc k)

known-here : (k : ℕ) (v : AbsValue) (vs : List AbsValue) → is_value_top v ≡ false
    → known_items k (v ∷ vs) ≡ (k, v) ∷ known_items (k + 1) vs
known-here k v vs known =
    ap (λ (b : Bool). cond b (known_items (suc k) vs) ((k, v) ∷ known_items (suc k) vs)) known
    ∙ ap (λ (n : ℕ). (k, v) ∷ known_items n vs) (let e : suc k ≡ k + 1 = omega arith in e)

abbrev AreTop : List AbsValue → Type 0
AreTop vs = All (λ v. v ≡ value_top) vs

tops-top : (m : ℕ) → AreTop (tops m)
tops-top zero = All-nil (λ (v : AbsValue). v ≡ value_top)
tops-top (suc m) = All-cons (λ (v : AbsValue). v ≡ value_top) value_top (tops m) refl (tops-top m)

tops-valid : (m : ℕ) → All IsValidValue (tops m)
tops-valid zero = All-nil IsValidValue
tops-valid (suc m) = All-cons IsValidValue value_top (tops m) top-valid (tops-valid m)

drop-tops : (n m : ℕ) → AreTop (drop n (tops m))
drop-tops zero m = tops-top m
drop-tops (suc n) zero = All-nil (λ (v : AbsValue). v ≡ value_top)
drop-tops (suc n) (suc m) = drop-tops n m

-- ---- items put among slots that are top

record Filled (limit k m : ℕ) (items : List Item) (front t : List AbsValue) : Type 0 where
  rest : List AbsValue
  is : t ≡ front ++ rest
  long : length rest ≡ m
  known : known_items k rest ≡ items
  valid : All IsValidValue rest
  beyond : AreTop (drop (limit - k) rest)

-- a value put after d slots that stay top
set-tops : (front : List AbsValue) (d m : ℕ) (v : AbsValue)
    → set (front ++ tops (d + suc m)) (length front + d) v ≡ (front ++ (tops d ++ v ∷ [])) ++ tops m
set-tops front d m v =
    let xs : List AbsValue = front ++ tops d in
    let long : length xs ≡ length front + d = grind (arith, common_steps) in
    let open_ : front ++ tops (d + suc m) ≡ xs ++ value_top ∷ tops m =
    ap (λ (l : List AbsValue). front ++ l) (sym (replicate-append-replicate d (suc m) value_top))
    ∙ sym (append_assoc front (tops d) (value_top ∷ tops m)) in
    ap (λ (l : List AbsValue). set l (length front + d) v) open_
    ∙ ap (λ (n : ℕ). set (xs ++ value_top ∷ tops m) n v) (sym long)
    ∙ set-append_seam xs value_top (tops m) v
    ∙ sym (append_assoc xs (v ∷ []) (tops m))
    ∙ ap (λ (l : List AbsValue). l ++ tops m) (append_assoc front (tops d) (v ∷ []))

filled : (limit : ℕ) (items : List Item) (k m : ℕ) (front : List AbsValue) → length front ≡ k → limit ≤ k + m
    → Rises limit (k, front ++ tops m) items
    → Filled limit k m items front (after limit (k, front ++ tops m) items).1
filled limit [] k m front long most rises = record {
  rest = tops m;
  is = refl;
  long = grind (arith, common_steps);
  known = known-none m k;
  valid = tops-valid m;
  beyond = drop-tops (limit - k) m;
}
filled limit (x ∷ xs) k m front long most rises =
    let below : x.0 < limit = rises.0.below in
    let above : k ≤ x.0 = rises.0.above in
    let d : ℕ = x.0 - k in
    let m2 : ℕ = m - d - 1 in
    let before : List AbsValue = tops d ++ x.1 ∷ [] in
    let front2 : List AbsValue = front ++ before in
    let size : m ≡ d + suc m2 = omega arith in
    let at : x.0 ≡ length front + d = omega (arith, long) in
    let here : set (front ++ tops m) x.0 x.1 ≡ front2 ++ tops m2 =
    ap (λ (n : ℕ). set (front ++ tops n) x.0 x.1) size
    ∙ ap (λ (n : ℕ). set (front ++ tops (d + suc m2)) n x.1) at ∙ set-tops front d m2 x.1 in
    let long-before : length before ≡ d + 1 = grind (arith, common_steps) in
    let long2 : length front2 ≡ x.0 + 1 = omega (arith, length-append front before, long-before, long) in
    let later = filled limit xs (x.0 + 1) m2 front2 long2 (omega arith)
    (subst (λ (l : List AbsValue). Rises limit (x.0 + 1, l) xs) here rises.1) in
    record {
      rest = before ++ later.rest;
      is = ap (λ (l : List AbsValue). (after limit (x.0 + 1, l) xs).1) here ∙ later.is
          ∙ append_assoc front before later.rest;
      long = length-append before later.rest ∙ (let l = later.long in omega (arith, long-before, l, size));
      known = ap (known_items k) (append_assoc (tops d) (x.1 ∷ []) later.rest)
          ∙ known-tops d k (x.1 ∷ later.rest) ∙ known-here (k + d) x.1 later.rest rises.0.known
          ∙ (λ i. (let e : k + d ≡ x.0 = omega arith in e i, x.1) ∷ known_items
          (let f : k + d + 1 ≡ x.0 + 1 = omega arith in f i) later.rest)
          ∙ ap (λ (l : List Item). x ∷ l) later.known;
      valid = All-append IsValidValue before later.rest
          (All-append IsValidValue (tops d) (x.1 ∷ []) (tops-valid d)
          (All-cons IsValidValue x.1 [] rises.0.valid (All-nil IsValidValue))) later.valid;
      beyond = subst (λ (l : List AbsValue). AreTop l)
          (sym (ap (λ (n : ℕ). drop n (before ++ later.rest))
          (let e : limit - k ≡ length before + (limit - (x.0 + 1)) = omega (arith, long-before) in e)
          ∙ drop-append-add before later.rest (limit - (x.0 + 1)))) later.beyond;
    }

-- ---- and back

refilled-is : (limit : ℕ) (vs : List AbsValue) (k least : ℕ) (front : List AbsValue) → length front ≡ k
    → (after limit (least, front ++ tops (length vs)) (known_items k vs)).1 ≡ front ++ vs
refilled-is limit [] k least front long = refl
refilled-is limit (v ∷ vs) k least front long =
    go (λ l. refilled-is limit vs (suc k) l next long2) (is_value_top v) refl
  where
    n : ℕ
    n = length vs

    next : List AbsValue
    next = front ++ v ∷ []

    long2 : length next ≡ suc k
    long2 = omega (arith, length-append front (v ∷ []), long)

    ends : next ++ vs ≡ front ++ v ∷ vs
    ends = append_assoc front (v ∷ []) vs

    go : ((l : ℕ) → (after limit (l, next ++ tops n) (known_items (suc k) vs)).1 ≡ next ++ vs) → (b : Bool)
        → is_value_top v ≡ b
        → (after limit (least, front ++ tops (suc n)) (cond b (known_items (suc k) vs)
        ((k, v) ∷ known_items (suc k) vs))).1
        ≡ front ++ v ∷ vs
    go again true t =
        let same : front ++ tops (suc n) ≡ next ++ tops n =
        sym (append_assoc front (value_top ∷ []) (tops n))
        ∙ ap (λ (w : AbsValue). (front ++ w ∷ []) ++ tops n) (sym (top-is v t)) in
        ap (λ (l : List AbsValue). (after limit (least, l) (known_items (suc k) vs)).1) same
        ∙ again least ∙ ends
    go again false t =
        let here : set (front ++ tops (suc n)) k v ≡ next ++ tops n =
        ap (λ (j : ℕ). set (front ++ value_top ∷ tops n) j v) (sym long)
        ∙ set-append_seam front value_top (tops n) v ∙ sym (append_assoc front (v ∷ []) (tops n)) in
        ap (λ (l : List AbsValue). (after limit (k + 1, l) (known_items (suc k) vs)).1) here
        ∙ again (k + 1) ∙ ends

refilled-rises : (limit : ℕ) (vs : List AbsValue) (k least : ℕ) (slots : List AbsValue) → least ≤ k
    → k + length vs ≤ slot_count → All IsValidValue vs → AreTop (drop (limit - k) vs)
    → Rises limit (least, slots) (known_items k vs)
refilled-rises limit [] k least slots above size valid beyond = tt
refilled-rises limit (v ∷ vs) k least slots above size valid beyond =
    go (λ l s le. refilled-rises limit vs (suc k) l s le (omega (arith, size)) (All-tail IsValidValue v vs valid) later)
    (is_value_top v) refl
  where
    later : AreTop (drop (limit - suc k) vs)
    later = rest (limit - k) refl beyond
      where
        rest : (n : ℕ) → limit - k ≡ n → AreTop (drop n (v ∷ vs)) → AreTop (drop (limit - suc k) vs)
        rest zero e top =
            ap-drop (All-tail (λ (w : AbsValue). w ≡ value_top) v vs top)
          where
            ap-drop : AreTop vs → AreTop (drop (limit - suc k) vs)
            ap-drop all = subst (λ (m : ℕ). AreTop (drop m vs)) (let f : 0 ≡ limit - suc k = omega (arith, e) in f) all
        rest (suc n) e top =
            subst (λ (m : ℕ). AreTop (drop m vs)) (let f : n ≡ limit - suc k = omega (arith, e) in f) top

    inside : is_value_top v ≡ false → k < limit
    inside known = within (limit - k) refl beyond
      where
        within : (n : ℕ) → limit - k ≡ n → AreTop (drop n (v ∷ vs)) → k < limit
        within zero e top =
            let is : v ≡ value_top = All-head (λ (w : AbsValue). w ≡ value_top) v vs top in
            absurd (let clash : true ≡ false = sym (ap is_value_top is) ∙ known in cc)
        within (suc n) e top = omega (arith, e)

    go : ((l : ℕ) (s : List AbsValue) → l ≤ suc k → Rises limit (l, s) (known_items (suc k) vs)) → (b : Bool)
        → is_value_top v ≡ b
        → Rises limit (least, slots) (cond b (known_items (suc k) vs) ((k, v) ∷ known_items (suc k) vs))
    go again true t = again least slots (omega (arith, above))
    go again false t = (
      record {
        word = omega (arith, size);
        below = inside t;
        above = above;
        valid = All-head IsValidValue v vs valid;
        known = t;
      },
      again (k + 1) (set slots k v) (omega arith),
    )

-- ---- how they are written

records-are : (k : ℕ) (vs : List AbsValue) → flat_map item_bytes (known_items k vs) ≡ slot_records k vs
unfolding slot_records
records-are k [] = refl
records-are k (v ∷ vs) = go (records-are (suc k) vs) (is_value_top v)
  where
    go : flat_map item_bytes (known_items (suc k) vs) ≡ slot_records (suc k) vs → (b : Bool) → flat_map item_bytes
        (cond b (known_items (suc k) vs) ((k, v) ∷ known_items (suc k) vs))
        ≡ cond b [] (u16_bytes k ++ value_bytes v) ++ slot_records (suc k) vs
    go again true = again
    go again false =
        ap (λ (l : List ℕ). item_bytes (k, v) ++ l) again

known-count : (k : ℕ) (vs : List AbsValue) → length (known_items k vs) ≡ known_slots vs
known-count k [] = refl
known-count k (v ∷ vs) = go (known-count (suc k) vs) (is_value_top v) ∙ sym
    (sum_by-cons (λ (w : AbsValue). cond (not (is_value_top w)) 1 0) v vs)
  where
    go : length (known_items (suc k) vs) ≡ known_slots vs → (b : Bool) → length
        (cond b (known_items (suc k) vs) ((k, v) ∷ known_items (suc k) vs))
        ≡ cond (not b) 1 0 + known_slots vs
    go again true = again ∙ (let e : known_slots vs ≡ 0 + known_slots vs = omega arith in e)
    go again false = ap suc again ∙ (let e : suc (known_slots vs) ≡ 1 + known_slots vs = omega arith in e)

-- ---- all slots

-- 296 valid values, of which those from the limit on are top
pub record AreKnown (limit : ℕ) (slots : List AbsValue) : Type 0 where
  pub valid : AreSlots IsValidValue slots
  pub beyond : All (λ v. v ≡ value_top) (drop limit slots)

known-few : (vs : List AbsValue) → length vs ≡ slot_count → known_slots vs ≤ slot_count
known-few vs long = omega (arith, count_by-le-length (λ (w : AbsValue). not (is_value_top w)) vs, long)

less-none : (n : ℕ) → n - 0 ≡ n
less-none n = omega arith

-- the slots that were read
slots-taken : (limit n : ℕ) (i j : Rest) (x : List AbsValue) → limit ≤ slot_count → AreBytes i.bytes
    → slots_from limit n (every_slot value_top) i ≡ Ok (x, j)
    → (AreKnown limit x) × (known_slots x ≡ n) × (i.bytes ≡ slot_records 0 x ++ j.bytes)
unfolding slots_from every_slot
slots-taken limit n i j x most are h =
    let b = bind_ok (times (next_slot limit) n (0, tops slot_count) i) (λ known. Ok (known.0.1, known.1)) (x, j) h in
    let r = times-takes (next_slot limit) put (λ known. item_bytes) (Fits limit) Always (adds-slot limit) n
    (0, tops slot_count) i b.0.1 b.0.0 tt are b.1 in
    let f = filled limit r.items 0 slot_count [] refl most r.fits in
    let pair : (b.0.0.1, b.0.1) ≡ (x, j) = ok_is {E = CertFault} (b.0.0.1, b.0.1) (x, j) b.2 in
    let same : f.rest ≡ b.0.0.1 = sym (ap (λ (s : State). s.1) r.is ∙ f.is) in
    let slots = same ∙ ap (λ (p : List AbsValue × Rest). p.0) pair in
    let rest = ap (λ (p : List AbsValue × Rest). p.1.bytes) pair in
    let count : known_slots f.rest ≡ n = sym (known-count 0 f.rest) ∙ ap length f.known ∙ r.count in
    let bytes : i.bytes ≡ slot_records 0 f.rest ++ b.0.1.bytes =
    r.spelled ∙ ap (λ (l : List ℕ). l ++ b.0.1.bytes)
    (spelled-flat put item_bytes (Fits limit) (0, tops slot_count) r.items
    ∙ ap (flat_map item_bytes) (sym f.known) ∙ records-are 0 f.rest) in
    subst (λ (l : List AbsValue). AreKnown limit l × (known_slots l ≡ n) × (i.bytes ≡ slot_records 0 l ++ j.bytes))
    slots (
      record {
        valid = (f.valid, f.long);
        beyond = subst (λ (m : ℕ). AreTop (drop m f.rest)) (less-none limit) f.beyond;
      },
      count,
      bytes ∙ ap (λ (l : List ℕ). slot_records 0 f.rest ++ l) rest,
    )

slots-given : (limit : ℕ) (i : Rest) (x : List AbsValue) (more : List ℕ) → AreKnown limit x
    → i.bytes ≡ slot_records 0 x ++ more → Given (slots_from limit (known_slots x) (every_slot value_top)) i x more
unfolding slots_from every_slot
slots-given limit i x more known e =
    let items : List Item = known_items 0 x in
    let long : length x ≡ slot_count = known.valid.1 in
    let beyond = subst (λ (m : ℕ). AreTop (drop m x)) (sym (less-none limit)) known.beyond in
    let rises = refilled-rises limit x 0 0 (tops slot_count) (omega arith) (omega (arith, long)) known.valid.0 beyond in
    let written : i.bytes ≡ spelled put (λ s. item_bytes) (Fits limit) (0, tops slot_count) items ++ more =
    e ∙ ap (λ (l : List ℕ). l ++ more)
    (sym (spelled-flat put item_bytes (Fits limit) (0, tops slot_count) items ∙ records-are 0 x)) in
    let g = times-gives (next_slot limit) put (λ s. item_bytes) (Fits limit) Always (adds-slot limit) items
    (0, tops slot_count) i more tt rises written in
    let all : (after limit (0, tops slot_count) items).1 ≡ x =
    ap (λ (m : ℕ). (after limit (0, tops m) items).1) (sym long) ∙ refilled-is limit x 0 0 [] refl in
    let ends : Result (State × Rest) CertFault → Result (List AbsValue × Rest) CertFault =
    λ r. r >>= λ known. Ok (known.0.1, known.1) in
    record {
      after = g.after;
      is = ap (λ (m : ℕ). ends (times (next_slot limit) m (0, tops slot_count) i)) (sym (known-count 0 x))
          ∙ ap ends g.is ∙ ap (λ (l : List AbsValue). done (l, g.after)) all;
      left = g.left;
    }

pub exact-slots : (limit : ℕ) → limit ≤ slot_count → Exact (slots_at limit) slots_bytes (AreKnown limit)
unfolding slots_at
exact-slots limit most = record {
  takes = λ i j x are h.
      let n = step i _ (x, j) exact-u16 are h in
      let few = passed (nat_lt slot_count n.value) (fault TooMany i.at) _ (x, j) n.more in
      let t = slots-taken limit n.value n.rest j x most n.bytes few.1 in
      record {
        fits = t.0;
        spelled = joined i.bytes (u16_bytes (known_slots x)) (slot_records 0 x) n.rest.bytes j.bytes
            (n.spelled ∙ ap (λ (m : ℕ). u16_bytes m ++ n.rest.bytes) (sym t.1)) t.2;
      };
  gives = λ i x more fits e.
      let few = known-few x fits.valid.1 in
      let n = exact-u16.gives i (known_slots x) (slot_records 0 x ++ more) (omega (arith, few))
      (split i.bytes (u16_bytes (known_slots x)) (slot_records 0 x) more e) in
      let test : nat_lt slot_count (known_slots x) ≡ false = grind (arith, nat_tests, few) in
      let g = slots-given limit n.after x more fits n.left in
      record { after = g.after; is = rw (n.is, test) g.is; left = g.left };
}
