-- A state put into its gap: what rises still does, and each written state is among the sorted ones. `added` puts the
-- parts together for the next node.
use Rattle.std.proofs.Common.{◌≡◌, ℕ, zero, suc, ◌+◌, ◌<◌, ◌≤◌, ◌⊎◌, inl, inr, List, [], ◌∷◌, ◌++◌, length, map, take, drop, get_or, sym, ap, ◌∙◌, subst, arith}
use Rattle.std.specs.Prelude.{All, Contains}
use Rattle.std.specs.List.{insert}
use Rattle.std.specs.declared.cmp.Ordering.{Ordering}
use Rattle.std.specs.declared.cmp.Ordering.TheVariants.{Less}
use Rattle.std.proofs.lemmas.List.{length-append, map-append}
use Rattle.std.proofs.lemmas.List.Edits.{length-insert, get_or-insert_below, get_or-insert_at, get_or-insert_above}
use Rattle.std.proofs.lemmas.List.Elements.{All-append, All-cons, All-drop, All-push, All-take, All-weaker}
use Rattle.kc_state.specs.declared.state.AbsState.{AbsState}
use Rattle.kc_cert.specs.Table.{RisesBy}
use Rattle.kc_cert.specs.declared.certificate.Node.{Node}
use Rattle.kc_cert.proofs.HalvingLemmas.{three}
use Rattle.kc_certform.specs.Numbers.{state_order}
use Rattle.kc_certform.specs.Written.{WrittenNodes, IsWritten, IsGap, items_at, written_states, sorted_states}
use Rattle.kc_certform.proofs.PickLemmas.{AreWithin, picked-append, picked-kept, picked-last, picked-insert}
use Rattle.kc_certform.proofs.WrittenLemmas.{states-long}
use Rattle.kc_certform.proofs.FindLemmas.{sorted-long}

-- ---- an item put between those that are less and those that are greater

module _ {A : Type 0} (order : A → A → Ordering) (items : List A) (g : ℕ) (y : A) (rises : RisesBy order items)
    (fits : g ≤ length items) (before : (i : ℕ) (d : A) → i < g → order (get_or items i d) y ≡ Less)
    (after : (i : ℕ) (d : A) → g ≤ i → i < length items → order y (get_or items i d) ≡ Less) where
  abbrev new : List A
  new = insert items g y

  -- two that differ by where they are
  side : (i j : ℕ) (d : A) (a b : A) → get_or new i d ≡ a → get_or new j d ≡ b → order a b ≡ Less
      → order (get_or new i d) (get_or new j d) ≡ Less
  side i j d a b ea eb h =
      ap (λ (x : A). order x (get_or new j d)) ea ∙ ap (λ (x : A). order a x) eb ∙ h

  later : (j : ℕ) → g < j → (k : ℕ) × (j ≡ k + 1) × (g ≤ k)
  later zero lt = absurd (omega (arith, lt))
  later (suc k) lt = (k, omega arith, omega (arith, lt))

  pub rises-insert : RisesBy order new
  rises-insert i j d lt below = go (three i g) (three j g)
    where
      long : length new ≡ length items + 1
      long = length-insert items g y fits

      go : (i < g) ⊎ ((i ≡ g) ⊎ (g < i)) → (j < g) ⊎ ((j ≡ g) ⊎ (g < j))
          → order (get_or new i d) (get_or new j d) ≡ Less
      go (inl a) (inl b) = side i j d (get_or items i d) (get_or items j d) (get_or-insert_below items g y d i a fits)
          (get_or-insert_below items g y d j b fits) (rises i j d lt (omega (arith, b, fits)))
      go (inl a) (inr (inl b)) = side i j d (get_or items i d) y (get_or-insert_below items g y d i a fits)
          (ap (λ (n : ℕ). get_or new n d) b ∙ get_or-insert_at items g y d fits) (before i d a)
      go (inl a) (inr (inr b)) =
          let k = later j b in
          side i j d (get_or items i d) (get_or items k.0 d) (get_or-insert_below items g y d i a fits)
          (ap (λ (n : ℕ). get_or new n d) k.1 ∙ get_or-insert_above items g y d k.0 k.2 fits)
          (rises i k.0 d (omega (arith, a, k.2)) (omega (arith, k.1, below, long)))
      go (inr (inl a)) (inr (inr b)) =
          let k = later j b in
          side i j d y (get_or items k.0 d) (ap (λ (n : ℕ). get_or new n d) a ∙ get_or-insert_at items g y d fits)
          (ap (λ (n : ℕ). get_or new n d) k.1 ∙ get_or-insert_above items g y d k.0 k.2 fits)
          (after k.0 d k.2 (omega (arith, k.1, below, long)))
      go (inr (inr a)) (inr (inr b)) =
          let l = later i a in
          let k = later j b in
          side i j d (get_or items l.0 d) (get_or items k.0 d)
          (ap (λ (n : ℕ). get_or new n d) l.1 ∙ get_or-insert_above items g y d l.0 l.2 fits)
          (ap (λ (n : ℕ). get_or new n d) k.1 ∙ get_or-insert_above items g y d k.0 k.2 fits)
          (rises l.0 k.0 d (omega (arith, l.1, k.1, lt)) (omega (arith, k.1, below, long)))
      go (inr (inl a)) (inl b) = absurd (omega (arith, a, b, lt))
      go (inr (inl a)) (inr (inl b)) = absurd (omega (arith, a, b, lt))
      go (inr (inr a)) (inl b) = absurd (omega (arith, a, b, lt))
      go (inr (inr a)) (inr (inl b)) = absurd (omega (arith, a, b, lt))

-- ---- numbers put between others

within-insert : (n : ℕ) (numbers : List ℕ) (g : ℕ) → AreWithin n numbers → AreWithin (n + 1) (insert numbers g n)
within-insert n numbers g fits =
    let P : ℕ → Type 0 = λ k. k < n + 1 in
    let more : All P numbers = All-weaker (λ (k : ℕ). k < n) P (λ k lt. omega (arith, lt)) numbers fits in
    All-append P (take g numbers) (n ∷ drop g numbers) (All-take P g numbers more)
    (All-cons P n (drop g numbers) (omega arith) (All-drop P g numbers more))

contains-insert : (numbers : List ℕ) (g y x : ℕ) → g ≤ length numbers → Contains numbers x
    → Contains (insert numbers g y) x
contains-insert numbers g y x fits (a, below, here) = go (three a g)
  where
    long : length (insert numbers g y) ≡ length numbers + 1
    long = length-insert numbers g y fits

    go : (a < g) ⊎ ((a ≡ g) ⊎ (g < a)) → Contains (insert numbers g y) x
    go (inl less) = (a, omega (arith, below, long), get_or-insert_below numbers g y x a less fits ∙ here)
    go (inr (inl same)) = (
      a + 1,
      omega (arith, below, long),
      get_or-insert_above numbers g y x a (omega (arith, same)) fits ∙ here,
    )
    go (inr (inr more)) = (
      a + 1,
      omega (arith, below, long),
      get_or-insert_above numbers g y x a (omega (arith, more)) fits ∙ here,
    )

contains-new : (numbers : List ℕ) (g y : ℕ) → g ≤ length numbers → Contains (insert numbers g y) y
contains-new numbers g y fits =
    (g, omega (arith, fits, length-insert numbers g y fits), get_or-insert_at numbers g y y fits)

-- ---- the next node

module _ (nodes : List Node) (n : Node) (w : WrittenNodes) (gap : ℕ) (is : IsWritten nodes w)
    (g : IsGap nodes w n.state gap) where
  abbrev grown : WrittenNodes
  grown = record { nodes = w.nodes ++ length nodes ∷ []; sorted = insert w.sorted gap (length w.nodes) }

  abbrev all : List Node
  all = nodes ++ n ∷ []

  pub states-added : written_states all grown ≡ written_states nodes w ++ n.state ∷ []
  states-added =
      ap (λ (l : List Node). map (λ m. m.state) l)
      (picked-append all w.nodes (length nodes ∷ [])
      ∙ ap (λ (l : List Node). l ++ items_at all (length nodes ∷ [])) (picked-kept nodes (n ∷ []) w.nodes is.named)
      ∙ ap (λ (l : List Node). items_at nodes w.nodes ++ l) (picked-last nodes n))
      ∙ map-append (λ (m : Node). m.state) (items_at nodes w.nodes) (n ∷ [])

  long : length (written_states nodes w) ≡ length w.nodes
  long = states-long nodes w is

  sorted-added : sorted_states all grown ≡ insert (sorted_states nodes w) gap n.state
  sorted-added =
      ap (λ (l : List AbsState). items_at l (insert w.sorted gap (length w.nodes))) states-added
      ∙ ap (λ (k : ℕ). items_at (written_states nodes w ++ n.state ∷ []) (insert w.sorted gap k)) (sym long)
      ∙ picked-insert (written_states nodes w) n.state w.sorted gap
      (subst (λ (k : ℕ). AreWithin k w.sorted) (sym long) is.within)

  rises-added : RisesBy state_order (sorted_states all grown)
  rises-added =
      let same : length (sorted_states nodes w) ≡ length w.sorted = sorted-long nodes w is n.state in
      subst (λ (l : List AbsState). RisesBy state_order l) (sym sorted-added)
      (rises-insert state_order (sorted_states nodes w) gap n.state is.rises (omega (arith, g.within, same)) g.before
      (λ i d ge lt. g.after i d ge (omega (arith, lt, same))))

  each-added : (i : ℕ) → i < length grown.nodes → Contains grown.sorted i
  each-added i below = go (three i (length w.nodes))
    where
      go : (i < length w.nodes) ⊎ ((i ≡ length w.nodes) ⊎ (length w.nodes < i)) → Contains grown.sorted i
      go (inl less) = contains-insert w.sorted gap (length w.nodes) i g.within (is.each i less)
      go (inr (inl same)) =
          subst (λ (k : ℕ). Contains grown.sorted k) (sym same) (contains-new w.sorted gap (length w.nodes) g.within)
      go (inr (inr more)) = absurd (omega (arith, below, more, length-append w.nodes (length nodes ∷ [])))

  pub added : IsWritten all grown
  added = record {
    named = All-push (λ (k : ℕ). k < length all) w.nodes (length nodes)
        (All-weaker (λ (k : ℕ). k < length nodes) (λ (k : ℕ). k < length all)
        (λ k lt. omega (arith, lt, length-append nodes (n ∷ []))) w.nodes is.named)
        (omega (arith, length-append nodes (n ∷ [])));
    few = omega (arith, is.few, length-append nodes (n ∷ []), length-append w.nodes (length nodes ∷ []));
    within = subst (λ (k : ℕ). AreWithin k grown.sorted) (sym (length-append w.nodes (length nodes ∷ [])))
        (within-insert (length w.nodes) w.sorted gap is.within);
    each = each-added;
    rises = rises-added;
  }
