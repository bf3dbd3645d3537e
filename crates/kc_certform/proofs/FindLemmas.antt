-- Halving finds a written state or its gap. States of one order of numbers are the same ones, and the sorted ones rise
-- strictly, so that at most one of them is the state; each written one is among the sorted ones. `found` and `missing`
-- are the two answers.
use Rattle.std.proofs.Common.{◌≡◌, ℕ, ◌<◌, ◌≤◌, ◌⊎◌, inl, inr, Bool, true, false, List, length, get_or, Some, None, refl, sym, ap, ◌∙◌, subst, arith}
use Rattle.std.specs.Prelude.{Contains}
use Rattle.std.specs.Cmp.Lexicographic.{slice_cmp}
use Rattle.std.specs.Ordering.{is_eq, is_lt, nat_cmp, ordering_reverse}
use Rattle.std.specs.declared.cmp.Ordering.{Ordering}
use Rattle.std.specs.declared.cmp.Ordering.TheVariants.{Less, Equal, Greater}
use Rattle.std.proofs.lemmas.Cmp.{nat_list_cmp_total, tied_itself}
use Rattle.std.proofs.lemmas.Grind.{get_or_default_zero}
use Rattle.std.proofs.lemmas.List.{get_or-map, get_or_default}
use Rattle.std.proofs.lemmas.Map.Lookups.{exact_bytes}
use Rattle.std.proofs.lemmas.Map.Text.{is_eq-slice_cmp}
use Rattle.kc_state.specs.declared.state.AbsState.{AbsState}
use Rattle.kc_cert.specs.Table.{IsFirstFrom}
use Rattle.kc_cert.specs.declared.certificate.Node.{Node}
use Rattle.kc_cert.proofs.HalvingLemmas.{three}
use Rattle.kc_cert.proofs.LookupLemmas.{position-found, position-absent}
use Rattle.kc_cert.proofs.PositionLemmas.{equal-is}
use Rattle.kc_certform.specs.Numbers.{state_numbers, state_order, is_same_state}
use Rattle.kc_certform.specs.CertBytes.{share_of}
use Rattle.kc_certform.specs.Written.{WrittenNodes, IsWritten, IsGap, items_at, written_states, sorted_states}
use Rattle.kc_certform.proofs.PickLemmas.{AreWithin, picked-long, picked-at}
use Rattle.kc_certform.proofs.WrittenLemmas.{states-long}

-- ---- the order of states

pub order_trans : (x y z : AbsState) → state_order x y ≡ Less → state_order y z ≡ Less → state_order x z ≡ Less
order_trans x y z = nat_list_cmp_total.trans (state_numbers x) (state_numbers y) (state_numbers z)

is-same : (x y : AbsState) → is_eq (state_order x y) ≡ is_same_state x y
is-same x y = is_eq-slice_cmp (state_numbers x) (state_numbers y)

same-numbers : (x y : AbsState) → is_same_state x y ≡ true → state_numbers x ≡ state_numbers y
same-numbers x y e = exact_bytes (state_numbers x) (state_numbers y) (equal-is (state_order x y) (is-same x y ∙ e))

less-differs : (x y : AbsState) → state_order x y ≡ Less → is_same_state x y ≡ false
less-differs x y e = sym (is-same x y) ∙ ap is_eq e

turned : (x y : AbsState) (r : Ordering) → state_order x y ≡ r → state_order y x ≡ ordering_reverse r
turned x y r e = nat_list_cmp_total.antisymm (state_numbers y) (state_numbers x) ∙ ap ordering_reverse e

greater-differs : (x y : AbsState) → state_order y x ≡ Less → is_same_state x y ≡ false
greater-differs x y e = sym (is-same x y) ∙ ap is_eq (turned y x Less e)

less-is : (r : Ordering) → is_lt r ≡ true → r ≡ Less
less-is Less e = refl
less-is Equal e = absurd cc
less-is Greater e = absurd cc

greater-is : (r : Ordering) → is_lt r ≡ false → is_eq r ≡ false → r ≡ Greater
greater-is Less e f = absurd cc
greater-is Equal e f = absurd cc
greater-is Greater e f = refl

not-less-itself : (x y : AbsState) → state_numbers x ≡ state_numbers y → state_order x y ≡ Less → ⊥
not-less-itself x y same less = clash (sym less ∙ equal)
  where
    equal : state_order x y ≡ Equal
    equal = ap (λ (l : List ℕ). slice_cmp nat_cmp l (state_numbers y)) same
        ∙ tied_itself nat_list_cmp_total (state_numbers y)

    clash : Less ≡ Equal → ⊥
    clash e = absurd cc

not-true : (b : Bool) → (b ≡ true → ⊥) → b ≡ false
not-true true h = absurd (h refl)
not-true false h = refl

-- ---- the sorted states

module _ (nodes : List Node) (w : WrittenNodes) (is : IsWritten nodes w) (s : AbsState) where
  abbrev states : List AbsState
  states = written_states nodes w

  abbrev ordered : List AbsState
  ordered = sorted_states nodes w

  within : AreWithin (length states) w.sorted
  within = subst (λ (n : ℕ). AreWithin n w.sorted) (sym (states-long nodes w is)) is.within

  pub sorted-long : length ordered ≡ length w.sorted
  sorted-long = picked-long states w.sorted within

  sorted-at : (a : ℕ) → a < length w.sorted → get_or ordered a s ≡ get_or states (get_or w.sorted a 0) s
  sorted-at a below = picked-at states w.sorted a s within below

  -- where a written state is among the sorted ones
  placed : (j : ℕ) → j < length states
      → (a : ℕ) × (a < length w.sorted) × (get_or w.sorted a 0 ≡ j) × (get_or ordered a s ≡ get_or states j s)
  placed j below = go (is.each j (omega (arith, below, states-long nodes w is)))
    where
      go : Contains w.sorted j
          → (a : ℕ) × (a < length w.sorted) × (get_or w.sorted a 0 ≡ j) × (get_or ordered a s ≡ get_or states j s)
      go (a, fits, here) =
          let number : get_or w.sorted a 0 ≡ j = sym (get_or_default_zero w.sorted a j fits) ∙ here in
          (a, fits, number, sorted-at a fits ∙ ap (λ (i : ℕ). get_or states i s) number)

  -- no other one is the state
  pub found : (at : ℕ) → at < length w.sorted → is_eq (state_order (get_or ordered at s) s) ≡ true
      → share_of states s ≡ Some (get_or w.sorted at 0)
  found at below e =
      let k = get_or w.sorted at 0 in
      sym (position-found (λ x. is_same_state x s) states k s (within at 0 below) before here)
    where
      here : is_same_state (get_or states (get_or w.sorted at 0) s) s ≡ true
      here = sym (is-same (get_or states (get_or w.sorted at 0) s) s)
          ∙ ap (λ (x : AbsState). is_eq (state_order x s)) (sym (sorted-at at below))
          ∙ e

      apart : (j : ℕ) → j < get_or w.sorted at 0
          → ((a : ℕ) × (a < length w.sorted) × (get_or w.sorted a 0 ≡ j) × (get_or ordered a s ≡ get_or states j s))
          → is_same_state (get_or states j s) s ≡ true → ⊥
      apart j lt (a, fits, number, state) same = go (three a at)
        where
          alike : state_numbers (get_or ordered a s) ≡ state_numbers (get_or ordered at s)
          alike = ap state_numbers state ∙ same-numbers (get_or states j s) s same
              ∙ sym (same-numbers (get_or states (get_or w.sorted at 0) s) s here)
              ∙ ap state_numbers (sym (sorted-at at below))

          go : (a < at) ⊎ ((a ≡ at) ⊎ (at < a)) → ⊥
          go (inl less) = not-less-itself (get_or ordered a s) (get_or ordered at s) alike
              (is.rises a at s less (omega (arith, below, sorted-long)))
          go (inr (inl equal)) = absurd (omega (arith, lt, number, ap (λ (i : ℕ). get_or w.sorted i 0) equal))
          go (inr (inr more)) = not-less-itself (get_or ordered at s) (get_or ordered a s) (sym alike)
              (is.rises at a s more (omega (arith, fits, sorted-long)))

      before : (j : ℕ) → j < get_or w.sorted at 0 → is_same_state (get_or states j s) s ≡ false
      before j lt = not-true _ (apart j lt (placed j (omega (arith, lt, within at 0 below))))

  -- where none is the state, it belongs before the first one that isn't less
  pub missing : (at : ℕ) → IsFirstFrom state_order ordered s at
      → (at < length w.sorted → is_eq (state_order (get_or ordered at s) s) ≡ false) → IsGap nodes w s at
  missing at first other = record {
    within = omega (arith, first.within, sorted-long);
    before = λ i d lt. less-is (state_order (get_or ordered i d) s) (first.before i d lt);
    after = λ i d ge fits. go i d fits (three at i) ge;
  }
    where
      here : (d : AbsState) → at < length w.sorted → state_order s (get_or ordered at d) ≡ Less
      here d fits =
          let same : get_or ordered at s ≡ get_or ordered at d =
          get_or_default ordered at s d (omega (arith, fits, sorted-long)) in
          turned (get_or ordered at d) s Greater
          (greater-is (state_order (get_or ordered at d) s)
          (first.after at d (omega arith) (omega (arith, fits, sorted-long)))
          (ap (λ (x : AbsState). is_eq (state_order x s)) (sym same) ∙ other fits))

      go : (i : ℕ) (d : AbsState) → i < length w.sorted → (at < i) ⊎ ((at ≡ i) ⊎ (i < at)) → at ≤ i
          → state_order s (get_or ordered i d) ≡ Less
      go i d fits (inl less) ge =
          order_trans s (get_or ordered at d) (get_or ordered i d) (here d (omega (arith, less, fits)))
          (is.rises at i d less (omega (arith, fits, sorted-long)))
      go i d fits (inr (inl same)) ge =
          subst (λ (n : ℕ). state_order s (get_or ordered n d) ≡ Less) same
          (here d (subst (λ (n : ℕ). n < length w.sorted) (sym same) fits))
      go i d fits (inr (inr more)) ge = absurd (omega (arith, ge, more))

  -- what belongs into a gap is no written state
  pub unshared : (gap : ℕ) → IsGap nodes w s gap → share_of states s ≡ None
  unshared gap g = sym (position-absent (λ x. is_same_state x s) states s (λ j fits. differs j (placed j fits)))
    where
      differs : (j : ℕ)
          → ((a : ℕ) × (a < length w.sorted) × (get_or w.sorted a 0 ≡ j) × (get_or ordered a s ≡ get_or states j s))
          → is_same_state (get_or states j s) s ≡ false
      differs j (a, fits, number, state) =
          ap (λ (x : AbsState). is_same_state x s) (sym state) ∙ go (three a gap)
        where
          go : (a < gap) ⊎ ((a ≡ gap) ⊎ (gap < a)) → is_same_state (get_or ordered a s) s ≡ false
          go (inl less) = less-differs (get_or ordered a s) s (g.before a s less)
          go (inr (inl same)) = greater-differs (get_or ordered a s) s (g.after a s (omega (arith, same)) fits)
          go (inr (inr more)) = greater-differs (get_or ordered a s) s (g.after a s (omega (arith, more)) fits)

-- the sorted state at index i, where i names the written one j, and this the node k
pub state-at : (nodes : List Node) (w : WrittenNodes) (i j k : ℕ) (e : Node) (d : AbsState) → IsWritten nodes w
    → i < length w.sorted → j ≡ get_or w.sorted i j → k ≡ get_or w.nodes j k
    → (get_or nodes k e).state ≡ get_or (sorted_states nodes w) i d
state-at nodes w i j k e d is below ej ek =
    let states = written_states nodes w in
    let long = states-long nodes w is in
    let number : get_or w.sorted i 0 ≡ j = get_or_default w.sorted i 0 j below ∙ sym ej in
    let fits : j < length w.nodes = subst (λ (m : ℕ). m < length w.nodes) number (is.within i 0 below) in
    let node : get_or w.nodes j 0 ≡ k = get_or_default w.nodes j 0 k fits ∙ sym ek in
    sym (picked-at states w.sorted i d (subst (λ (m : ℕ). AreWithin m w.sorted) (sym long) is.within) below
    ∙ ap (λ (m : ℕ). get_or states m d) number
    ∙ get_or-map (λ (m : Node). m.state) (items_at nodes w.nodes) j e d
    (omega (arith, fits, picked-long nodes w.nodes is.named))
    ∙ ap (λ (m : Node). m.state)
    (picked-at nodes w.nodes j e is.named fits ∙ ap (λ (m : ℕ). get_or nodes m e) node))
