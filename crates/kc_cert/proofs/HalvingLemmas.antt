-- Halving a list that rises: the items before `low` are less than what is looked for and those from `high` on aren't.
-- Where the item in the middle is less, so is each before it; where it isn't, none after it is. What is left halves with
-- each probe, so that the probes are at most as many as the length has binary digits.
use Rattle.std.proofs.Common.{◌≡◌, ℕ, zero, suc, ◌+◌, ◌-◌, ◌*◌, ◌/◌, ◌^◌, ◌<◌, ◌≤◌, ◌⊎◌, inl, inr, Bool, true, false, List, [], ◌∷◌, length, Option, Some, None, refl, sym, ap, subst, ◌∙◌, arith}
use Rattle.std.specs.Prelude.{slice_index_or}
use Rattle.std.specs.Ordering.{is_eq, is_lt}
use Rattle.std.specs.declared.cmp.Ordering.{Ordering}
use Rattle.std.specs.declared.cmp.Ordering.TheVariants.{Less, Equal, Greater}
use Rattle.kc_cert.specs.Table.{RisesBy, IsFirstFrom}

pub record Window {A : Type 0} (order : A → A → Ordering) (items : List A) (p : A) (low high : ℕ) : Type 0 where
  pub ordered : low ≤ high
  pub within : high ≤ length items
  pub before : (i : ℕ) (d : A) → i < low → is_lt (order (slice_index_or items i d) p) ≡ true
  pub after : (i : ℕ) (d : A) → high ≤ i → i < length items → is_lt (order (slice_index_or items i d) p) ≡ false

less-is : (r : Ordering) → is_lt r ≡ true → r ≡ Less
less-is Less e = refl
less-is Equal e = absurd cc
less-is Greater e = absurd cc

not-less : (b : Bool) → (b ≡ true → ⊥) → b ≡ false
not-less true h = absurd (h refl)
not-less false h = refl

pub three : (i j : ℕ) → (i < j) ⊎ ((i ≡ j) ⊎ (j < i))
three zero zero = inr (inl refl)
three zero (suc j) = inl (omega arith)
three (suc i) zero = inr (inr (omega arith))
three (suc i) (suc j) = moved (three i j)
  where
    moved : (i < j) ⊎ ((i ≡ j) ⊎ (j < i)) → (suc i < suc j) ⊎ ((suc i ≡ suc j) ⊎ (suc j < suc i))
    moved (inl h) = inl (omega (arith, h))
    moved (inr (inl h)) = inr (inl (omega (arith, h)))
    moved (inr (inr h)) = inr (inr (omega (arith, h)))

module _ {A : Type 0} (order : A → A → Ordering) (trans : (x y z : A) → order x y ≡ Less → order y z ≡ Less
    → order x z ≡ Less) (items : List A) (rises : RisesBy order items) (p : A) where
  item : ℕ → A → A
  item i d = slice_index_or items i d

  -- an item before one that is less is less
  less-before : (i j : ℕ) (d : A) → i < j → j < length items → is_lt (order (slice_index_or items j d) p) ≡ true
      → is_lt (order (slice_index_or items i d) p) ≡ true
  less-before i j d lt fits h =
      ap is_lt (trans (slice_index_or items i d) (slice_index_or items j d) p (rises i j d lt fits)
      (less-is (order (slice_index_or items j d) p) h))

  pub whole : Window order items p 0 (length items)
  whole = record {
    ordered = omega arith;
    within = omega arith;
    before = λ i d lt. absurd (omega (arith, lt));
    after = λ i d ge lt. absurd (omega (arith, ge, lt));
  }

  -- the item at m is less: what is looked for comes after it
  pub upper : (low high m : ℕ) → Window order items p low high → m < high
      → ((d : A) → is_lt (order (slice_index_or items m d) p) ≡ true)
      → Window order items p (m + 1) high
  upper low high m w lt h = record {
    ordered = omega (arith, lt);
    within = w.within;
    before = λ i d below. go i d below (three i m);
    after = w.after;
  }
    where
      go : (i : ℕ) (d : A) → i < m + 1 → (i < m) ⊎ ((i ≡ m) ⊎ (m < i))
          → is_lt (order (slice_index_or items i d) p) ≡ true
      go i d below (inl less) = less-before i m d less (omega (arith, lt, w.within)) (h d)
      go i d below (inr (inl same)) =
          subst (λ (k : ℕ). is_lt (order (slice_index_or items k d) p) ≡ true) (sym same) (h d)
      go i d below (inr (inr more)) = absurd (omega (arith, below, more))

  -- the item at m isn't less: none after it is
  pub lower : (low high m : ℕ) → Window order items p low high → low ≤ m → m < high
      → ((d : A) → is_lt (order (slice_index_or items m d) p) ≡ false)
      → Window order items p low m
  lower low high m w le lt h = record {
    ordered = le;
    within = omega (arith, lt, w.within);
    before = w.before;
    after = λ i d ge fits. go i d ge fits (three m i);
  }
    where
      go : (i : ℕ) (d : A) → m ≤ i → i < length items → (m < i) ⊎ ((m ≡ i) ⊎ (i < m))
          → is_lt (order (slice_index_or items i d) p) ≡ false
      go i d ge fits (inl less) = not-less _ (λ t. clash (sym (h d) ∙ less-before m i d less fits t))
        where
          clash : false ≡ true → ⊥
          clash e = absurd cc
      go i d ge fits (inr (inl same)) =
          subst (λ (k : ℕ). is_lt (order (slice_index_or items k d) p) ≡ false) same (h d)
      go i d ge fits (inr (inr more)) = absurd (omega (arith, ge, more))

  pub found : (low : ℕ) → Window order items p low low → IsFirstFrom order items p low
  found low w = record { within = w.within; before = w.before; after = w.after }

-- ---- probes

-- of `count` items `width` are left, where there were `old` probes and now are `now`
abbrev pub Halved : ℕ → ℕ → ℕ → ℕ → Type 0
Halved count old now width = (k : ℕ) → count < 2 ^ k → (j : ℕ) × (now + j ≤ old + k) × (width < 2 ^ j)

pub unprobed : (count old : ℕ) → Halved count old old count
unprobed count old k h = (k, omega arith, h)

-- a probe leaves at most half
pub probed : (count old now more width rest : ℕ) → Halved count old now width → more ≡ now + 1 → 0 < width
    → rest ≤ width / 2 → Halved count old more rest
probed count old now more width rest halved one some half k h = go (halved k h)
  where
    go : ((j : ℕ) × (now + j ≤ old + k) × (width < 2 ^ j)) → (j : ℕ) × (more + j ≤ old + k) × (rest < 2 ^ j)
    go (zero, few, fits) = absurd (omega (arith, some, fits))
    go (suc j, few, fits) =
        let twice : width < 2 * 2 ^ j = omega (arith, fits) in
        (j, omega (arith, few, one), omega (arith, twice, half))
