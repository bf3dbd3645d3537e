-- Numbers that are listed where they are marked: a mark that is set adds its number at the end, and one that is taken
-- away takes the last number away. Each number's times are compared, where it is the one and where it is another.
use Rattle.std.proofs.Common.{◌≡◌, ◌≢◌, ℕ, zero, suc, ◌+◌, ◌<◌, ◌≤◌, ◌==◌, Bool, true, false, cond, if◌then◌else◌}
use Rattle.std.proofs.Common.{◌⊎◌, ◌↔◌, inl, inr, List, [], ◌∷◌, ◌++◌, get_or, set, length, refl, sym, ◌∙◌, arith}
use Rattle.std.proofs.lemmas.Bool.{cases_Bool, false≢true}
use Rattle.std.proofs.lemmas.Bool.Decides.{eqb_tells}
use Rattle.std.proofs.lemmas.List.{get_or-set_same, get_or-set_other, get_or_past}
use Rattle.kc_rising.specs.Listed.{times, IsListed, AreListed}

pub times-push : (xs : List ℕ) (x n : ℕ) → times (xs ++ x ∷ []) n ≡ times xs n + cond (x == n) 1 0
times-push [] x n = omega arith
times-push (y ∷ ys) x n = omega (arith, times-push ys x n)

one : (b : Bool) → b ≡ true → ◌≡◌ {A = ℕ} (cond b 1 0) 1
one b e i = cond (e i) 1 0

none : (b : Bool) → b ≡ false → ◌≡◌ {A = ℕ} (cond b 1 0) 0
none b e i = cond (e i) 1 0

alike : (b c : Bool) → b ≡ c → ◌≡◌ {A = ℕ} (cond b 1 0) (cond c 1 0)
alike b c e i = cond (e i) 1 0

at_most_one : (b : Bool) → cond b 1 0 ≤ 1
at_most_one true = omega arith
at_most_one false = omega arith

-- a number that wasn't marked
pub listed-push : (xs : List ℕ) (x : ℕ) (old new : ℕ → Bool) → AreListed xs old → old x ≡ false → new x ≡ true
    → ((n : ℕ) → n ≢ x → new n ≡ old n) → AreListed (xs ++ x ∷ []) new
listed-push xs x old new h before after others n = elim (eqb_tells x n) [
  | inl e ↦
      let is : x ≡ n = e.1 in
      let marked : new n ≡ true = (λ i. new (sym is i)) ∙ after in
      let was : old n ≡ false = (λ i. old (sym is i)) ∙ before in
      omega (arith, times-push xs x n, one (x == n) e.0, one (new n) marked, none (old n) was, h n)
  | inr e ↦
      let same = alike (new n) (old n) (others n (λ k. e.1 (sym k))) in
      omega (arith, times-push xs x n, none (x == n) e.0, same, h n)
]

-- the last number
pub listed-pop : (xs : List ℕ) (x : ℕ) (old new : ℕ → Bool) → AreListed (xs ++ x ∷ []) old → new x ≡ false
    → ((n : ℕ) → n ≢ x → new n ≡ old n) → AreListed xs new
listed-pop xs x old new h after others n = elim (eqb_tells x n) [
  | inl e ↦
      let is : x ≡ n = e.1 in
      let marked : new n ≡ false = (λ i. new (sym is i)) ∙ after in
      let few = at_most_one (old n) in
      omega (arith, times-push xs x n, one (x == n) e.0, none (new n) marked, few, h n)
  | inr e ↦
      let same = alike (new n) (old n) (others n (λ k. e.1 (sym k))) in
      omega (arith, times-push xs x n, none (x == n) e.0, same, h n)
]

-- what the list has after a number is added where it wasn't marked
pub times-added : (xs : List ℕ) (x n : ℕ) (marked : ℕ → Bool) → AreListed xs marked → marked x ≡ false
    → times (xs ++ x ∷ []) n ≡ (if x == n then 1 else times xs n)
times-added xs x n marked h before = elim (eqb_tells x n) [
  | inl e ↦
      let was : times xs n ≡ 0 = h n ∙ none (marked n) ((λ i. marked (sym e.1 i)) ∙ before) in
      omega (arith, times-push xs x n, one (x == n) e.0, was) ∙ sym (λ i. if e.0 i then 1 else times xs n)
  | inr e ↦ omega (arith, times-push xs x n, none (x == n) e.0) ∙ sym (λ i. if e.0 i then 1 else times xs n)
]

-- and where it was
pub times-kept : (xs : List ℕ) (x n : ℕ) (marked : ℕ → Bool) → AreListed xs marked → marked x ≡ true
    → times xs n ≡ (if x == n then 1 else times xs n)
times-kept xs x n marked h before = elim (eqb_tells x n) [
  | inl e ↦
      (h n ∙ one (marked n) ((λ i. marked (sym e.1 i)) ∙ before)) ∙ sym (λ i. if e.0 i then 1 else times xs n)
  | inr e ↦ sym (λ i. if e.0 i then 1 else times xs n)
]

-- after a number is added, it and what was listed is listed
pub IsListed-added : (old new x n : ℕ) → new ≡ (if x == n then 1 else old) → (0 < new) ↔ ((0 < old) ⊎ (n ≡ x))
IsListed-added old new x n e = elim (eqb_tells x n) [
  | inl k ↦
      let is : new ≡ 1 = e ∙ (λ i. if k.0 i then 1 else old) in
      ((λ h. inr (sym k.1)), (λ h. omega (arith, is)))
  | inr k ↦
      let is : new ≡ old = e ∙ (λ i. if k.0 i then 1 else old) in (
        (λ h. inl (omega (arith, is, h))),
        (λ s. elim s [
          | inl h ↦ omega (arith, is, h)
          | inr h ↦ absurd (k.1 (sym h))
        ]),
      )
]

-- the mark after the last one
pub get_or-more : {A : Type 0} (xs : List A) (d : A) (n : ℕ) → get_or (xs ++ d ∷ []) n d ≡ get_or xs n d
get_or-more [] d zero = refl
get_or-more [] d (suc n) = refl
get_or-more (x ∷ xs) d zero = refl
get_or-more (x ∷ xs) d (suc n) = get_or-more xs d n

-- a mark is set for the number that comes last
pub marked-push : (xs : List ℕ) (marks : List Bool) (x : ℕ) → AreListed xs (λ n. get_or marks n false)
    → x < length marks → get_or marks x false ≡ false
    → AreListed (xs ++ x ∷ []) (λ n. get_or (set marks x true) n false)
marked-push xs marks x h within absent =
    listed-push xs x (λ n. get_or marks n false) (λ n. get_or (set marks x true) n false) h absent
    (get_or-set_same marks x true false within) (λ n other. get_or-set_other marks x n true false other)

-- and one is taken away from the last number, which may have none
pub marked-pop : (xs : List ℕ) (marks : List Bool) (x : ℕ) → AreListed (xs ++ x ∷ []) (λ n. get_or marks n false)
    → x < length marks → AreListed xs (λ n. get_or (set marks x false) n false)
marked-pop xs marks x h within =
    listed-pop xs x (λ n. get_or marks n false) (λ n. get_or (set marks x false) n false) h
    (get_or-set_same marks x false false within) (λ n other. get_or-set_other marks x n false false other)

pub marked-past : (xs : List ℕ) (marks : List Bool) (x : ℕ) → AreListed (xs ++ x ∷ []) (λ n. get_or marks n false)
    → length marks ≤ x → AreListed xs (λ n. get_or marks n false)
marked-past xs marks x h past =
    listed-pop xs x (λ n. get_or marks n false) (λ n. get_or marks n false) h (get_or_past marks x false past)
    (λ n other. refl)

-- of the numbers that were marked first, those that aren't any more are listed beside those that were listed before
pub record IsCounted (first now : ℕ → Bool) (before changed : List ℕ) : Type 0 where
  pub among : (n : ℕ) → now n ≡ true → first n ≡ true
  pub counted : (n : ℕ) → IsListed changed n ↔ (IsListed before n ⊎ ((first n ≡ true) × (now n ≡ false)))

-- the last of the numbers is marked
pub last-marked : (xs : List ℕ) (x : ℕ) (marked : ℕ → Bool) → AreListed (xs ++ x ∷ []) marked → marked x ≡ true
last-marked xs x marked h = elim (cases_Bool (marked x)) [
  | inl e ↦ e
  | inr e ↦
      let is : (x == x) ≡ true = elim (eqb_tells x x) [
        | inl k ↦ k.0
        | inr k ↦ absurd (k.1 refl)
      ] in
      absurd (omega (arith, h x, times-push xs x x, one (x == x) is, none (marked x) e))
]

-- where the mark of one is taken away, and it is added
pub counted-more : (first old new : ℕ → Bool) (before changed more : List ℕ) (x : ℕ)
    → IsCounted first old before changed → old x ≡ true → new x ≡ false → ((n : ℕ) → n ≢ x → new n ≡ old n)
    → ((n : ℕ) → times more n ≡ (if x == n then 1 else times changed n)) → IsCounted first new before more
counted-more first old new before changed more x h was gone others added = record {
  among = λ n e. elim (eqb_tells x n) [
    | inl k ↦ absurd (false≢true (sym ((λ i. new (sym k.1 i)) ∙ gone) ∙ e))
    | inr k ↦ h.among n (sym (others n (λ p. k.1 (sym p))) ∙ e)
  ];
  counted = λ n. elim (eqb_tells x n) [
    | inl k ↦
        let there : times more n ≡ 1 = added n ∙ (λ i. if k.0 i then 1 else times changed n) in (
          (λ l. inr ((λ i. first (sym k.1 i)) ∙ h.among x was, (λ i. new (sym k.1 i)) ∙ gone)),
          (λ s. omega (arith, there)),
        )
    | inr k ↦
        let same : times more n ≡ times changed n = added n ∙ (λ i. if k.0 i then 1 else times changed n) in
        let stays = others n (λ p. k.1 (sym p)) in (
          (λ l. elim ((h.counted n).0 (omega (arith, same, l))) [
            | inl p ↦ inl p
            | inr p ↦ inr (p.0, stays ∙ p.1)
          ]),
          (λ s.
              let l : 0 < times changed n = (h.counted n).1 (elim s [
                | inl p ↦ inl p
                | inr p ↦ inr (p.0, sym stays ∙ p.1)
              ]) in
              omega (arith, same, l)),
        )
  ];
}

pub unmarked : (b : Bool) → ◌≡◌ {A = ℕ} (cond b 1 0) 0 → b ≡ false
unmarked true e = absurd (omega (arith, e))
unmarked false e = refl

-- numbers that follow each other
pub listed-range : (before changed more : List ℕ) (low x : ℕ) → low ≤ x
    → ((n : ℕ) → IsListed changed n ↔ (IsListed before n ⊎ ((low ≤ n) × (n < x))))
    → ((n : ℕ) → times more n ≡ (if x == n then 1 else times changed n))
    → (n : ℕ) → IsListed more n ↔ (IsListed before n ⊎ ((low ≤ n) × (n < x + 1)))
listed-range before changed more low x above h added n = elim (eqb_tells x n) [
  | inl k ↦
      let there : times more n ≡ 1 = added n ∙ (λ i. if k.0 i then 1 else times changed n) in
      let is : x ≡ n = k.1 in
      ((λ l. inr (omega (arith, is, above), omega (arith, is))), (λ s. omega (arith, there)))
  | inr k ↦
      let same : times more n ≡ times changed n = added n ∙ (λ i. if k.0 i then 1 else times changed n) in
      let other : x ≢ n = k.1 in (
        (λ l. elim ((h n).0 (omega (arith, same, l))) [
          | inl p ↦ inl p
          | inr p ↦ inr (p.0, omega (arith, p.1))
        ]),
        (λ s.
            let l : 0 < times changed n = (h n).1 (elim s [
              | inl p ↦ inl p
              | inr p ↦ inr (p.0, omega (arith, p.1, other))
            ]) in
            omega (arith, same, l)),
      )
]
