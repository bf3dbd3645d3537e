-- Edits of a list of pages that keep it in order. Order is a fact on the numbers alone, so an edit of pages is first
-- one of numbers (by induction on the list), and `grind` is left with indices. The bytes follow address by address from
-- what the list stores then.
use Rattle.std.proofs.Common.{◌≡◌, ℕ, zero, suc, ◌+◌, ◌-◌, ◌*◌, ◌/◌, ◌%◌, ◌<◌, ◌≤◌, ◌≢◌, ◌⊎◌, cond, eqb, Bool, true, false, List, [], ◌∷◌, map, length, get_or, set, replicate, Option, refl, ap, sym, inl, inr, subst, ◌∙◌, arith, get_or-set_other, get_or-set_same, length-set, take, drop}
use Rattle.std.specs.List.{All, insert}
use Rattle.std.specs.FinMap.{get}
use Rattle.std.proofs.lemmas.Bool.{cases_lt}
use Rattle.std.proofs.lemmas.List.{length-map, get_or-replicate, get_or_default}
use Rattle.std.proofs.lemmas.List.Elements.{All-set, All-append, All-cons, All-take, All-drop}
use Rattle.std.proofs.lemmas.List.Edits.{length-insert, get_or-insert_below, get_or-insert_at, get_or-insert_above}
use Rattle.std.proofs.lemmas.Bool.Decides.{nat_tests}
use Rattle.std.proofs.lemmas.Grind.{common_steps}
use Rattle.kc_mem.specs.declared.pages.Page.{Page}
use Rattle.kc_mem.specs.Memory.{Bytes, put}
use Rattle.kc_mem.specs.PageSteps.{bytes_of, stored, numbers_of, number_at, AreRising, AreZeros, IsWhole, ArePages, IsAt, IsGapFor, HasPage}
use Rattle.kc_mem.proofs.BytesLemmas.{held, get-put, same_bytes}
use Rattle.kc_mem.proofs.PagesLemmas.{get-bytes_of}
use Rattle.kc_mem.proofs.PlaceLemmas.{stored_with, stored-set, stored-insert, stored_present, stored_absent, none_before_at, none_in_gap}

cases_eq : (m n : ℕ) → (m ≡ n) ⊎ (m ≢ n)
cases_eq m n = elim (cases_lt m n) [
  | inl below ↦ inr (λ e. omega arith)
  | inr rest ↦ elim (cases_lt n m) [ inl above ↦ inr (λ e. omega arith) | inr same ↦ inl (omega arith) ]
]

zero_at : (n i : ℕ) → get_or {A = ℕ} (replicate n 0) i 0 ≡ 0
zero_at zero i = refl
zero_at (suc n) zero = refl
zero_at (suc n) (suc i) = zero_at n i

pub are_zeros : (n : ℕ) (bs : List ℕ) → bs ≡ replicate n 0 → length bs ≡ 4096 → AreZeros bs
are_zeros n bs is size = record { size = size; zeros = λ i. ap (λ (xs : List ℕ). get_or xs i 0) is ∙ zero_at n i }

pub whole_zeros : (p : Page) → AreZeros p.bytes.items → IsWhole p
whole_zeros p zeros = record {
  size = zeros.size;
  bytes = λ k d lt. rw (get_or_default p.bytes.items k d 0 lt, zeros.zeros k) (omega arith);
}

pub whole_set : (p n : Page) (i v : ℕ) → v < 256 → n.bytes.items ≡ set p.bytes.items i v → IsWhole p → IsWhole n
whole_set p n i v small is whole = record {
  size = ap length is ∙ length-set p.bytes.items i v ∙ whole.size;
  bytes = subst (All (λ (b : ℕ). b < 256)) (sym is) (All-set (λ (b : ℕ). b < 256) p.bytes.items i v small whole.bytes);
}

pub numbers-set : (ps : List Page) (n : Page) (i : ℕ) → IsAt ps n.number i → numbers_of (set ps i n) ≡ numbers_of ps
numbers-set [] n i at = refl
numbers-set (p ∷ ps) n zero at = ap (λ k. k ∷ numbers_of ps) (sym at.is)
numbers-set (p ∷ ps) n (suc i) at =
    ap (λ ks. p.number ∷ ks) (numbers-set ps n i (record { in_range = omega (arith, at.in_range); is = at.is }))

-- each number of the list is below all later ones
abbrev pub NumbersRise : List ℕ → Type 0
NumbersRise ns = (i j : ℕ) → i < j → j < length ns → get_or ns i 0 < get_or ns j 0

numbers_length : (ps : List Page) → length (numbers_of ps) ≡ length ps
numbers_length ps = length-map ps (λ (p : Page). p.number)

pub rising_numbers : (ps : List Page) → AreRising ps → NumbersRise (numbers_of ps)
rising_numbers ps rising i j lt in_range = rising i j lt (omega (arith, numbers_length ps))

pub numbers_rising : (ps : List Page) → NumbersRise (numbers_of ps) → AreRising ps
numbers_rising ps rising i j lt in_range = rising i j lt (omega (arith, numbers_length ps))

pub rising_same : (ps qs : List Page) → numbers_of qs ≡ numbers_of ps → AreRising ps → AreRising qs
rising_same ps qs same rising = numbers_rising qs (subst NumbersRise (sym same) (rising_numbers ps rising))

numbers-insert : (ps : List Page) (n : Page) (i : ℕ) → numbers_of (insert ps i n) ≡ insert (numbers_of ps) i n.number
numbers-insert ps n zero = refl
numbers-insert [] n (suc i) = refl
numbers-insert (p ∷ ps) n (suc i) = ap (λ ks. p.number ∷ ks) (numbers-insert ps n i)

-- a number in its gap keeps the order: each number is an old one below the gap, n at it, or an old one moved up by one
rise_insert : (ns : List ℕ) (n at : ℕ) → at ≤ length ns → ((j : ℕ) → j < at → get_or ns j 0 < n)
    → ((j : ℕ) → at ≤ j → j < length ns → n < get_or ns j 0)
    → NumbersRise ns → NumbersRise (insert ns at n)
rise_insert ns n at fits below above rise i j lt in_range =
    let new = insert ns at n in
    let length_new = length-insert ns at n fits in
    let at_below : (i : ℕ) → i < at → get_or new i 0 ≡ get_or ns i 0 = λ i b. get_or-insert_below ns at n 0 i b fits in
    let at_here : (i : ℕ) → i ≡ at → get_or new i 0 ≡ n = λ i here. rw here (get_or-insert_at ns at n 0 fits) in
    let at_above : (i : ℕ) → at < i → get_or new i 0 ≡ get_or ns (i - 1) 0 =
    λ i b. subst (λ q. get_or new q 0 ≡ get_or ns (i - 1) 0) {x = i - 1 + 1} (omega arith)
    (get_or-insert_above ns at n 0 (i - 1) (omega arith) fits) in
    grind (
      arith,
      at_below i,
      at_here i,
      at_above i,
      at_below j,
      at_here j,
      at_above j,
      rise i j,
      rise i (j - 1),
      rise (i - 1) (j - 1),
      below i,
      above (j - 1),
    )

rising_insert : (ps : List Page) (n : Page) (at : ℕ) → IsGapFor ps n.number at → AreRising ps
    → AreRising (insert ps at n)
rising_insert ps n at gap rising =
    let size = numbers_length ps in
    numbers_rising (insert ps at n) (subst NumbersRise (sym (numbers-insert ps n at))
    (rise_insert (numbers_of ps) n.number at (omega (arith, gap.in_range)) gap.below
    (λ j le lt. gap.above j le (omega arith)) (rising_numbers ps rising)))

pub pages_insert : (ps : List Page) (n : Page) (at : ℕ) → IsGapFor ps n.number at → IsWhole n → ArePages ps
    → ArePages (insert ps at n)
pages_insert ps n at gap whole are = record {
  rising = rising_insert ps n at gap are.rising;
  whole = All-append IsWhole (take at ps) (n ∷ drop at ps) (All-take IsWhole at ps are.whole)
      (All-cons IsWhole n (drop at ps) whole (All-drop IsWhole at ps are.whole));
}

pub pages_set : (ps : List Page) (n : Page) (at : ℕ) → IsAt ps n.number at → IsWhole n → ArePages ps
    → ArePages (set ps at n)
pages_set ps n at is whole are = record {
  rising = rising_same ps (set ps at n) (numbers-set ps n at is) are.rising;
  whole = All-set IsWhole ps at n whole are.whole;
}

-- a page of zeros in a gap stores what was stored without it
zeros_chosen : (b : Bool) (x rest : ℕ) → x ≡ 0 → (b ≡ true → rest ≡ 0) → cond b x rest ≡ rest
zeros_chosen true x rest is none = is ∙ sym (none refl)
zeros_chosen false x rest is none = refl

stored_zeros : (ps : List Page) (n : Page) (at q : ℕ) → IsGapFor ps n.number at → AreZeros n.bytes.items
    → stored (insert ps at n) q ≡ stored ps q
stored_zeros ps n at q gap zeros =
    let none = none_in_gap ps n.number at gap in
    stored-insert ps n at q (λ j lt. none j (omega (arith, gap.in_range)))
    ∙ zeros_chosen (eqb n.number (q / 4096)) _ (stored ps q) (zeros.zeros (q % 4096))
    (λ same. stored_absent ps q (λ j lt. subst (λ k. number_at ps j ≢ k) (grind (arith, nat_tests, same)) (none j lt)))

pub bytes_insert : (ps : List Page) (n : Page) (at : ℕ) → IsGapFor ps n.number at → AreZeros n.bytes.items → ArePages ps
    → bytes_of (insert ps at n) ≡ bytes_of ps
bytes_insert ps n at gap zeros are =
    same_bytes _ _ (λ q. get-bytes_of (insert ps at n) (pages_insert ps n at gap (whole_zeros n zeros) are).whole q
    ∙ ap held (stored_zeros ps n at q gap zeros) ∙ sym (get-bytes_of ps are.whole q))

-- a byte written into its page
abbrev pub Written : ℕ → ℕ → List ℕ → ℕ → ℕ → ℕ → Type 0
Written a v bs n q rest =
    held (cond (eqb n (q / 4096)) (get_or (set bs (a % 4096) v) (q % 4096) 0) rest) ≡ cond (eqb q a) (held v)
    (held rest)

written_here : (a v rest : ℕ) (bs : List ℕ) → length bs ≡ 4096 → Written a v bs (a / 4096) a rest
written_here a v rest bs size =
    let within : a % 4096 < length bs = omega arith in
    let got = get_or-set_same bs (a % 4096) v 0 within in
    grind (arith, nat_tests, got)

written_apart : (a v q rest : ℕ) (bs : List ℕ) → a / 4096 ≢ q / 4096 → Written a v bs (a / 4096) q rest
written_apart a v q rest bs apart = grind (arith, nat_tests, λ (same : q ≡ a). ap (λ k. k / 4096) same)

written_beside : (a v q rest : ℕ) (bs : List ℕ) → q ≢ a → a / 4096 ≡ q / 4096 → rest ≡ get_or bs (q % 4096) 0
    → Written a v bs (a / 4096) q rest
written_beside a v q rest bs other same old =
    let beside : q % 4096 ≢ a % 4096 = λ e. other (omega arith) in
    let kept = get_or-set_other bs (a % 4096) (q % 4096) v 0 beside in
    grind (arith, nat_tests, kept)

written : (a v q rest : ℕ) (bs : List ℕ) → length bs ≡ 4096 → (a / 4096 ≡ q / 4096 → rest ≡ get_or bs (q % 4096) 0)
    → Written a v bs (a / 4096) q rest
written a v q rest bs size old = elim (cases_eq q a) [
  | inl here ↦ subst (λ x. Written a v bs (a / 4096) x rest) (sym here) (written_here a v rest bs size)
  | inr other ↦ elim (cases_eq (a / 4096) (q / 4096)) [
    | inl same ↦ written_beside a v q rest bs other same (old same)
    | inr apart ↦ written_apart a v q rest bs apart
  ]
]

pub bytes_set : (ps : List Page) (n : Page) (at a v : ℕ) (d : Page) → ArePages ps → IsAt ps (a / 4096) at
    → n.number ≡ a / 4096
    → n.bytes.items ≡ set (get_or ps at d).bytes.items (a % 4096) v → v < 256 → bytes_of (set ps at n)
    ≡ put (bytes_of ps) a v
bytes_set ps n at a v d are is number bytes small =
    let page = get_or ps at d in
    let page_whole : IsWhole page = are.whole at d is.in_range in
    let is_at : IsAt ps n.number at = subst (λ k. IsAt ps k at) (sym number) is in
    let new_whole = (pages_set ps n at is_at (whole_set page n (a % 4096) v small bytes page_whole) are).whole in
    let old : (q : ℕ) → a / 4096 ≡ q / 4096 → stored ps q ≡ get_or page.bytes.items (q % 4096) 0 =
    λ q same.
    let here : IsAt ps (q / 4096) at = subst (λ k. IsAt ps k at) same is in
    stored_present ps q at d here (none_before_at ps are.rising (q / 4096) at here) in
    let stored_now : (q : ℕ) → stored (set ps at n) q ≡ cond (eqb (a / 4096) (q / 4096))
    (get_or (set page.bytes.items (a % 4096) v) (q % 4096) 0) (stored ps q) =
    λ q. stored-set ps n at q is_at (none_before_at ps are.rising n.number at is_at)
    ∙ ap (λ (bs : List ℕ). cond (eqb n.number (q / 4096)) (get_or bs (q % 4096) 0) (stored ps q)) bytes
    ∙ ap (λ k. cond (eqb k (q / 4096)) (get_or (set page.bytes.items (a % 4096) v) (q % 4096) 0) (stored ps q))
    number in
    same_bytes _ _ (λ q. get-bytes_of (set ps at n) new_whole q ∙ ap held (stored_now q)
    ∙ written a v q (stored ps q) page.bytes.items page_whole.size (old q)
    ∙ ap (cond (eqb q a) (held v)) (sym (get-bytes_of ps are.whole q)) ∙ sym (get-put (bytes_of ps) a v q))
