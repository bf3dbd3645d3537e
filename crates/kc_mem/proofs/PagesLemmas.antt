-- The bytes of a list of pages, address by address: `held (stored ps q)`. A page is a run of bytes that are put, by
-- induction on the run; the list by induction on the pages. `omega` is left with 4096 * (q / 4096) + q % 4096 ≡ q.
use Rattle.std.proofs.Common.{◌≡◌, ℕ, zero, suc, lit<, subst, ◌+◌, ◌-◌, ◌*◌, ◌/◌, ◌%◌, ◌<◌, ◌≤◌, cond, eqb, ltb, leb, ◌&&◌, Bool, true, false, List, [], ◌∷◌, length, get_or, Option, Some, None, refl, ap, sym, inl, inr, ◌∙◌, arith}
use Rattle.std.specs.List.{All}
use Rattle.std.specs.Option.{IfSome, unwrap_or}
use Rattle.std.specs.FinMap.{get, get-empty}
use Rattle.std.specs.Ordering.{nat_cmp}
use Rattle.std.proofs.lemmas.Bool.{cases_lt}
use Rattle.std.proofs.lemmas.Bool.Decides.{nat_tests}
use Rattle.std.proofs.lemmas.List.{get_or_past}
use Rattle.std.proofs.lemmas.List.Elements.{All-head, All-tail}
use Rattle.kc_mem.specs.declared.pages.Page.{Page}
use Rattle.kc_mem.specs.Memory.{Bytes, AreBytes, byte, put}
use Rattle.kc_mem.specs.PageSteps.{put_run, bytes_of, stored, IsWhole}
use Rattle.kc_mem.proofs.BytesLemmas.{held, held_byte, get-put}

-- address q is one of the n from a on
abbrev pub is_within : ℕ → ℕ → ℕ → Bool
is_within a n q = leb a q && ltb q (a + n)

-- one byte more at the beginning of a run
abbrev pub OneMore : ℕ → ℕ → ℕ → ℕ → List ℕ → Option ℕ → Type 0
OneMore a q n b bs o =
    cond (eqb q a) (held b) (cond (is_within (a + 1) n q) (held (get_or bs (q - (a + 1)) 0)) o)
    ≡ cond (is_within a (suc n) q) (held (get_or (b ∷ bs) (q - a) 0)) o

one_more_here : (q n b : ℕ) (bs : List ℕ) (o : Option ℕ) (k : ℕ) → k ≡ 0
    → cond (eqb q q) (held b) (cond (is_within (q + 1) n q) (held (get_or bs (q - (q + 1)) 0)) o)
    ≡ cond (is_within q (suc n) q) (held (get_or (b ∷ bs) k 0)) o
one_more_here q n b bs o zero is = grind (arith, nat_tests)
one_more_here q n b bs o (suc k) is = absurd (omega arith)

one_more_above : (a q n b : ℕ) (bs : List ℕ) (o : Option ℕ) (k j : ℕ) → a < q → k ≡ suc j
    → cond (eqb q a) (held b) (cond (is_within (a + 1) n q) (held (get_or bs j 0)) o)
    ≡ cond (is_within a (suc n) q) (held (get_or (b ∷ bs) k 0)) o
one_more_above a q n b bs o zero j above is = absurd (omega arith)
one_more_above a q n b bs o (suc k) j above is =
    let same : k ≡ j = omega arith in
    rw same (grind (arith, nat_tests))

one_more_below : (a q n b : ℕ) (bs : List ℕ) (o : Option ℕ) → q < a → OneMore a q n b bs o
one_more_below a q n b bs o below = grind (arith, nat_tests)

run_chosen : (a q n b : ℕ) (bs : List ℕ) (o : Option ℕ) → OneMore a q n b bs o
run_chosen a q n b bs o = elim (cases_lt a q) [
  | inl above ↦ one_more_above a q n b bs o (q - a) (q - (a + 1)) above (omega arith)
  | inr rest ↦ elim (cases_lt q a) [
    | inl below ↦ one_more_below a q n b bs o below
    | inr same ↦ subst (λ x. OneMore x q n b bs o) {x = q} {y = a} (omega arith)
        (one_more_here q n b bs o (q - q) (omega arith))
  ]
]

pub get-put_run : (m : Bytes) (a : ℕ) (bs : List ℕ) (q : ℕ)
    → get (put_run m a bs) q ≡ cond (is_within a (length bs) q) (held (get_or bs (q - a) 0)) (get m q)
get-put_run m a [] q = grind (arith, nat_tests)
get-put_run m a (b ∷ bs) q =
    get-put (put_run m (a + 1) bs) a b q
    ∙ ap (cond (eqb q a) (held b)) (get-put_run m (a + 1) bs q)
    ∙ run_chosen a q (length bs) b bs (get m q)

page_chosen : (n q : ℕ) (bs : List ℕ) (o : Option ℕ) (rest : ℕ) → length bs ≡ 4096 → o ≡ held rest
    → cond (is_within (4096 * n) (length bs) q) (held (get_or bs (q - 4096 * n) 0)) o
    ≡ held (cond (eqb n (q / 4096)) (get_or bs (q % 4096) 0) rest)
page_chosen n q bs o rest size is =
    let cut : 4096 * (q / 4096) + q % 4096 ≡ q = omega arith in
    let here : n ≡ q / 4096 → q - 4096 * n ≡ q % 4096 = λ e. omega arith in
    rw is (grind (arith, nat_tests, size, here, ap (λ i. get_or bs i 0)))

pub get-bytes_of : (ps : List Page) → All IsWhole ps → (q : ℕ) → get (bytes_of ps) q ≡ held (stored ps q)
get-bytes_of [] whole q = get-empty nat_cmp q
get-bytes_of (p ∷ ps) whole q =
    get-put_run (bytes_of ps) (4096 * p.number) p.bytes.items q
    ∙ page_chosen p.number q p.bytes.items _ _ (All-head IsWhole p ps whole).size
    (get-bytes_of ps (All-tail IsWhole p ps whole) q)

abbrev pub IsHeldByte : Option ℕ → Type 0
IsHeldByte o = IfSome o (λ v. (0 < v) × (v < 256))

held_in_range : (v : ℕ) (b : Bool) → eqb v 0 ≡ b → v < 256 → IsHeldByte (cond b None (Some v))
held_in_range v true is lt = tt
held_in_range v false is lt = grind (arith, nat_tests)

stored_in_range : (ps : List Page) → All IsWhole ps → (q : ℕ) → stored ps q < 256
stored_in_range [] whole q = omega arith
stored_in_range (p ∷ ps) whole q =
    in_page (eqb p.number (q / 4096)) (All-head IsWhole p ps whole) (q % 4096) _
    (stored_in_range ps (All-tail IsWhole p ps whole) q)
  where
    in_page : (b : Bool) → IsWhole p → (i rest : ℕ) → rest < 256 → cond b (get_or p.bytes.items i 0) rest < 256
    in_page true h i rest lt = elim (cases_lt i (length p.bytes.items)) [
      | inl below ↦ h.bytes i 0 below
      | inr above ↦ rw (get_or_past p.bytes.items i 0 above) (omega arith)
    ]
    in_page false h i rest lt = lt

-- what the pages hold are bytes other than 0
pub are_bytes : (ps : List Page) → All IsWhole ps → AreBytes (bytes_of ps)
are_bytes ps whole q =
    subst IsHeldByte (sym (get-bytes_of ps whole q)) (held_in_range (stored ps q) _ refl (stored_in_range ps whole q))

pub byte-bytes_of : (ps : List Page) → All IsWhole ps → (q : ℕ) → byte (bytes_of ps) q ≡ stored ps q
byte-bytes_of ps whole q = ap (λ (o : Option ℕ). unwrap_or o 0) (get-bytes_of ps whole q) ∙ held_byte (stored ps q)
