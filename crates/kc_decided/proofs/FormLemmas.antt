-- Each certificate is certified or has a first refusal: its digests are those of the files or not, and its table has its
-- form or not, fact by fact (`Decided`); the conditions that follow are tests, whose answer is read off. A refusal is one,
-- and a certified certificate has none, since each condition that could be refused holds.
use Rattle.std.proofs.Common.{◌≡◌, ◌≢◌, ℕ, zero, suc, [], ◌∷◌, take, length-take, ◌<◌, ◌≤◌, ◌+◌, Bool, true, false, List, length, drop, refl, ap, sym, ◌∙◌, arith, subst, inl, inr}
use Rattle.std.specs.Prelude.{◌⊎◌, Option, Some, None, IfSome, IsSomeAnd, Result, Ok, Err, All, AllPairs, is_some, slice_get, slice_index_or, map, bytes_eq}
use Rattle.std.specs.Bool.{Decides}
use Rattle.std.specs.declared.cmp.Ordering.{Ordering}
use Rattle.std.specs.declared.cmp.Ordering.TheVariants.{Less, Equal, Greater}
use Rattle.std.proofs.lemmas.Option.{slice_get_within, get_or_from_slice_get}
use Rattle.std.proofs.lemmas.List.Kept.{AllPairs-cons}
use Rattle.std.proofs.lemmas.Slice.Eq.{bytes_eq-Decides}
use Rattle.kc_bits.specs.KnownBits.{KnownBits}
use Rattle.kc_value.specs.AbsValue.{AbsValue}
use Rattle.kc_value.specs.Value.{value_top, all_places}
use Rattle.kc_value.specs.declared.symbol.Sym.{Sym}
use Rattle.kc_value.specs.declared.symbol.Sym.TheVariants.{Plain, Base, Entry, UserGs}
use Rattle.kc_frames.specs.Floors.{none_live}
use Rattle.kc_frames.specs.declared.floor.Floor.{Floor}
use Rattle.kc_frames.specs.declared.floor.Floor.TheVariants as floor
use Rattle.kc_image.specs.Image.{Contents}
use Rattle.kc_regions.specs.Description.{Description}
use Rattle.kc_regions.specs.Region.{stacks_of}
use Rattle.kc_state.specs.Key.{IsKey}
use Rattle.kc_state.specs.declared.key.Key.{Key}
use Rattle.kc_state.specs.declared.site.Site.{Site}
use Rattle.kc_cert.specs.Certified.{IsCertified}
use Rattle.kc_cert.specs.FirstRefusal.{IsFirstRefusal, IsUnrefused, refusal_from_start, at_table}
use Rattle.kc_cert.specs.Form.{IsNode, IsContext, HasForm}
use Rattle.kc_cert.specs.Placed.{entry_site}
use Rattle.kc_cert.specs.Table.{EachNumbered, RisesBy, node_at, key_order, keys_of, position_of, position_order}
use Rattle.kc_cert.specs.declared.certificate.Certificate.{Certificate}
use Rattle.kc_cert.specs.declared.certificate.Context.{Context}
use Rattle.kc_cert.specs.declared.certificate.Digests.{Digests}
use Rattle.kc_cert.specs.declared.certificate.Node.{Node}
use Rattle.kc_cert.specs.declared.certificate.TheConstants.{MAX_CONTEXTS, MAX_NODES}
use Rattle.kc_cert.specs.declared.refusal.Refusal.{Refusal}
use Rattle.kc_cert.proofs.RefusalLemmas.{certified-of, unrefused-of}
use Rattle.kc_decided.proofs.RuleLemmas.{Decided, both, where_true, less, at_most, same, some_item, first_broken}
use Rattle.kc_regions.specs.Each.{Each, IsFirstBreaking}

-- ---- lists

all : {X : Type 0} (P : X → Type 0) → ((x : X) → Decided (P x)) → (xs : List X) → Decided (All P xs)
all P decided xs = elim (first_broken (λ earlier x. P x) (λ earlier x. decided x) xs) [
  | inl broken ↦ inr (λ kept. let d = some_item xs broken.0 broken.1.inside in
      broken.1.breaks d (kept broken.0 d broken.1.inside))
  | inr kept ↦ inl kept
]

item_at : {X : Type 0} (xs : List X) (i : ℕ) (d : X) → i < length xs → slice_get xs i ≡ Some (slice_index_or xs i d)
item_at [] i d inside = absurd (omega (arith, inside))
item_at (x ∷ xs) zero d inside = refl
item_at (x ∷ xs) (suc i) d inside = item_at xs i d (omega (arith, inside))

-- what is decided of each item and its number
numbered : {X : Type 0} (P : ℕ → X → Type 0) → ((i : ℕ) (x : X) → Decided (P i x)) → (xs : List X) →
    Decided (EachNumbered P xs)
numbered {X} P decided xs = elim (first_broken keeps (λ earlier x. decided (length earlier) x) xs) [
  | inl broken ↦ inr (λ kept. let d = some_item xs broken.0 broken.1.inside in
      broken.1.breaks d (counted broken.0 d broken.1.inside
      (subst (λ (o : Option X). IfSome o (P broken.0)) (item_at xs broken.0 d broken.1.inside) (kept broken.0))))
  | inr kept ↦ inl (λ i. if_some i (slice_get xs i) refl kept)
]
  where
    keeps : List X → X → Type 0
    keeps earlier x = P (length earlier) x

    number : (i : ℕ) → i < length xs → length (take i xs) ≡ i
    number i inside = length-take i xs ∙ omega (arith, inside)

    counted : (i : ℕ) (d : X) → i < length xs → P i (slice_index_or xs i d) → P (length (take i xs)) (slice_index_or xs i d)
    counted i d inside = subst (λ (n : ℕ). P n (slice_index_or xs i d)) (sym (number i inside))

    if_some : (i : ℕ) (o : Option X) → slice_get xs i ≡ o → Each keeps xs → IfSome o (P i)
    if_some i None is kept = tt
    if_some i (Some x) is kept =
        let inside = slice_get_within xs i x is in
        subst (λ (y : X). P i y) (get_or_from_slice_get xs i x x is)
        (subst (λ (n : ℕ). P n (slice_index_or xs i x)) (number i inside) (kept i x inside))

pairs : {X : Type 0} (R : X → X → Type 0) → ((x y : X) → Decided (R x y)) → (xs : List X) → Decided (AllPairs R xs)
pairs R decided [] = inl (λ i j d before inside. absurd (omega (arith, inside)))
pairs R decided (x ∷ xs) = elim (both (all (R x) (decided x) xs) (pairs R decided xs)) [
  | inl there ↦ inl (AllPairs-cons R x xs there.0 there.1)
  | inr not_all ↦ inr (λ every. not_all (
    λ k d inside. every 0 (suc k) d (omega arith) (omega (arith, inside)),
    λ i j d before inside. every (suc i) (suc j) d (omega (arith, before)) (omega (arith, inside)),
  ))
]

is_less : (o : Ordering) → Decided (o ≡ Less)
is_less Less = inl refl
is_less Equal = inr (λ is. cc)
is_less Greater = inr (λ is. cc)

rises : {X : Type 0} (order : X → X → Ordering) (xs : List X) → Decided (RisesBy order xs)
rises order xs = pairs (λ x y. order x y ≡ Less) (λ x y. is_less (order x y)) xs

if_some : {X : Type 0} (P : X → Type 0) → ((x : X) → Decided (P x)) → (o : Option X) → Decided (IfSome o P)
if_some P decided (Some x) = decided x
if_some P decided None = inl tt

is_some_and : {X : Type 0} (P : X → Type 0) → ((x : X) → Decided (P x)) → (o : Option X) → Decided (IsSomeAnd o P)
is_some_and P decided (Some x) = decided x
is_some_and P decided None = inr (λ none. none)

true_or_not : (b : Bool) → Decided (b ≡ true)
true_or_not true = inl refl
true_or_not false = inr (λ is. cc)

false_or_not : (b : Bool) → Decided (b ≡ false)
false_or_not false = inl refl
false_or_not true = inr (λ is. cc)

none_or_not : {X : Type 0} (o : Option X) → Decided (o ≡ None)
none_or_not None = inl refl
none_or_not (Some x) = inr (λ is. cc)

-- ---- values and floors

sym_plain : (s : Sym) → Decided (s ≡ Plain)
sym_plain Plain = inl refl
sym_plain (Base k) = inr (λ is. cc)
sym_plain (Entry w) = inr (λ is. cc)
sym_plain UserGs = inr (λ is. cc)

tells_nothing : (v : AbsValue) → Decided (v ≡ value_top)
tells_nothing v =
    elim (both (sym_plain v.sym) (both (same v.bits.zeros 0) (both (same v.bits.ones 0) (same v.stacks all_places)))) [
      | inl parts ↦ inl (λ i. record {
        sym = parts.0 i;
        bits = record { zeros = parts.1.0 i; ones = parts.1.1.0 i };
        stacks = parts.1.1.1 i;
      })
      | inr some ↦ inr (λ is. some (
        ap (λ (w : AbsValue). w.sym) is,
        (
          ap (λ (w : AbsValue). w.bits.zeros) is,
          (ap (λ (w : AbsValue). w.bits.ones) is, ap (λ (w : AbsValue). w.stacks) is),
        ),
      ))
    ]

floor_address : Floor → ℕ
floor_address (floor.At a) = a
floor_address floor.Base = 0

no_live_byte : (f : Floor) → Decided (f ≡ floor.At none_live)
no_live_byte (floor.At a) = elim (same a none_live) [
  | inl e ↦ inl (ap floor.At e)
  | inr apart ↦ inr (λ is. apart (address is))
]
  where
    address : floor.At a ≡ floor.At none_live → a ≡ none_live
    address is = cc
no_live_byte floor.Base = inr (λ is. cc)

-- ---- the form of a table

key_kept : (stacks : ℕ) (k : Key) → Decided (IsKey stacks k)
key_kept stacks k = elim (both
    (where_true k.syscall (both (same k.vector 0) (both (false_or_not k.kernel) (none_or_not k.base))))
    (both (where_false k.kernel (none_or_not k.stack)) (if_some (λ s. s < stacks) (λ s. less s stacks) k.stack))) [
      | inl parts ↦ inl (record {
        syscall = λ is. let p = parts.0 is in (p.0, p.1.0, p.1.1);
        user = parts.1.0;
        stack = parts.1.1;
      })
      | inr some ↦ inr (λ kept. some (
        λ is. let p = kept.syscall is in (p.0, (p.1, p.2)),
        (kept.user, kept.stack),
      ))
    ]
  where
    where_false : {P : Type 0} (b : Bool) → Decided P → Decided (b ≡ false → P)
    where_false false (inl p) = inl (λ _. p)
    where_false false (inr not_p) = inr (λ f. not_p (f refl))
    where_false true other = inl (λ is. absurd (cc))

node_kept : (cert : Certificate) (n : Node) → Decided (IsNode cert n)
node_kept cert n = elim (both (less n.context (length cert.contexts))
    (all (λ f. f ≡ floor.At none_live) no_live_byte (drop cert.stacks n.state.floors.at))) [
      | inl parts ↦ inl (record { named = parts.0; floors = parts.1 })
      | inr some ↦ inr (λ kept. some (kept.named, kept.floors))
    ]

context_kept : (d : Description) (cert : Certificate) (i : ℕ) (c : Context) → Decided (IsContext d cert i c)
context_kept d cert i c = elim (both (key_kept cert.stacks c.key)
    (is_some_and (λ site. is_some (node_at cert i site) ≡ true) (λ site. true_or_not (is_some (node_at cert i site)))
    (entry_site d c.key))) [
      | inl parts ↦ inl (record { key = parts.0; entry = parts.1 })
      | inr some ↦ inr (λ kept. some (kept.key, kept.entry))
    ]

pub form-decided : (d : Description) (cert : Certificate) → Decided (HasForm d cert)
form-decided d cert = elim (both (same cert.stacks (length (stacks_of d.regions)))
    (both (all (λ v. v ≡ value_top) tells_nothing (drop (8 + length d.words) cert.user.slots))
    (both (at_most (length cert.contexts) MAX_CONTEXTS) (both (at_most (length cert.nodes) MAX_NODES)
    (both (rises key_order (keys_of cert)) (both (rises position_order (map position_of cert.nodes))
    (both (all (IsNode cert) (node_kept cert) cert.nodes)
    (numbered (IsContext d cert) (context_kept d cert) cert.contexts)))))))) [
      | inl parts ↦ inl (record {
        stacks = parts.0;
        user_slots = parts.1.0;
        few_contexts = parts.1.1.0;
        few_nodes = parts.1.1.1.0;
        keys_rise = parts.1.1.1.1.0;
        nodes_rise = parts.1.1.1.1.1.0;
        nodes = parts.1.1.1.1.1.1.0;
        contexts = parts.1.1.1.1.1.1.1;
      })
      | inr some ↦ inr (λ form. some (
        form.stacks,
        (
          form.user_slots,
          (
            form.few_contexts,
            (
              form.few_nodes,
              (form.keys_rise, (form.nodes_rise, (form.nodes, form.contexts))),
            ),
          ),
        ),
      ))
    ]

-- ---- digests

same_bytes : (xs ys : List ℕ) → Decided (xs ≡ ys)
same_bytes xs ys = by_bytes (bytes_eq xs ys) (bytes_eq-Decides xs ys)
  where
    by_bytes : (b : Bool) → Decides b (xs ≡ ys) → Decided (xs ≡ ys)
    by_bytes true decides = inl (decides.0 refl)
    by_bytes false decides = inr (λ is. let no_test = decides.1 is in cc)

digests-decided : (a b : Digests) → Decided (a ≡ b)
digests-decided a b = elim (both (same_bytes a.image b.image) (same_bytes a.config b.config)) [
  | inl parts ↦ inl (λ i. record { image = parts.0 i; config = parts.1 i })
  | inr some ↦ inr (λ is. some (ap (λ (d : Digests). d.image) is, ap (λ (d : Digests). d.config) is))
]

-- ---- the whole

-- an answer is one refusal
same_refusal : {r s : Refusal} (answer : Result (Unit {0}) Refusal) → answer ≡ Err r → answer ≡ Err s → r ≡ s
same_refusal (Ok u) is is' = absurd (cc)
same_refusal {r} {s} (Err e) is is' =
    let both : ◌≡◌ {A = Result (Unit {0}) Refusal} (Err r) (Err s) = sym is ∙ is' in cc

no_answer : {r : Refusal} (answer : Result (Unit {0}) Refusal) → answer ≡ Err r → answer ≡ Ok tt → ⊥
no_answer answer is is' = let both = sym is ∙ is' in absurd (cc)

-- the first refusal is one
pub refusal-once : (image : Contents) (d : Description) (due : Digests) (cert : Certificate) (r s : Refusal) →
    IsFirstRefusal image d due cert r → IsFirstRefusal image d due cert s → r ≡ s
refusal-once image d due cert r s (inl a) (inl b) = a.1 ∙ sym b.1
refusal-once image d due cert r s (inl a) (inr (inl b)) = absurd (a.0 b.0)
refusal-once image d due cert r s (inl a) (inr (inr b)) = absurd (a.0 b.0)
refusal-once image d due cert r s (inr (inl a)) (inl b) = absurd (b.0 a.0)
refusal-once image d due cert r s (inr (inl a)) (inr (inl b)) = a.2 ∙ sym b.2
refusal-once image d due cert r s (inr (inl a)) (inr (inr b)) = absurd (a.1 b.1)
refusal-once image d due cert r s (inr (inr a)) (inl b) = absurd (b.0 a.0)
refusal-once image d due cert r s (inr (inr a)) (inr (inl b)) = absurd (b.1 a.1)
refusal-once image d due cert r s (inr (inr a)) (inr (inr b)) =
    same_refusal (refusal_from_start image d cert) a.2 b.2

-- a certified certificate has none
pub refusal-none : (image : Contents) (d : Description) (due : Digests) (cert : Certificate) (r : Refusal) →
    IsFirstRefusal image d due cert r → IsCertified image d due cert → ⊥
refusal-none image d due cert r (inl a) certified = a.0 certified.digests
refusal-none image d due cert r (inr (inl a)) certified = a.1 certified.table_form
refusal-none image d due cert r (inr (inr a)) certified =
    no_answer (refusal_from_start image d cert) a.2 (unrefused-of image d due cert certified).2

-- a certificate is certified or has one
pub refusal-or : (image : Contents) (d : Description) (due : Digests) (cert : Certificate) →
    IsCertified image d due cert ⊎ ((r : Refusal) × IsFirstRefusal image d due cert r)
refusal-or image d due cert = by_digests (digests-decided cert.digests due)
  where
    by_answer : cert.digests ≡ due → HasForm d cert → (answer : Result (Unit {0}) Refusal) →
        refusal_from_start image d cert ≡ answer →
        IsCertified image d due cert ⊎ ((r : Refusal) × IsFirstRefusal image d due cert r)
    by_answer same form (Ok u) is = inl (certified-of image d due cert (same, form, is))
    by_answer same form (Err r) is = inr (r, inr (inr (same, form, is)))

    by_form : cert.digests ≡ due → Decided (HasForm d cert) →
        IsCertified image d due cert ⊎ ((r : Refusal) × IsFirstRefusal image d due cert r)
    by_form same (inl form) = by_answer same form (refusal_from_start image d cert) refl
    by_form same (inr formless) = inr (at_table 2, inr (inl (same, formless, refl)))

    by_digests : Decided (cert.digests ≡ due) →
        IsCertified image d due cert ⊎ ((r : Refusal) × IsFirstRefusal image d due cert r)
    by_digests (inl same) = by_form same (form-decided d cert)
    by_digests (inr other) = inr (at_table 1, inl (other, refl))
