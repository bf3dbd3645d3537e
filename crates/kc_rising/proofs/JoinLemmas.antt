-- What a join does to a value, by the laws of its domain: nothing where the value covers what is joined, and else its
-- rank falls, since values of one rank that are in order are equal.
use Rattle.std.proofs.Common.{◌≡◌, ℕ, ◌<◌, ◌≤◌, ◌≢◌, Bool, true, false, sym, ◌∙◌, arith}
use Rattle.std.proofs.lemmas.Bool.{false≢true}
use Rattle.kc_lattice.specs.Laws.{Laws}

module _ {A : Type 0} {valid : A → Type 0} {alike : A → A → Type 0} {below : A → A → Bool} {joined : A → A → A}
    {top_of : A → A} {rank : A → ℕ} (m : Laws valid alike below joined top_of rank)
    (x y : A) (vx : valid x) (vy : valid y) (same : alike x y) where
  pub covered-joined : below y x ≡ true → joined x y ≡ x
  covered-joined h =
      m.below_antisym (joined x y) x (m.join_valid x y vx vy same) vx
      (m.join_least x y x vx vy vx same (m.below_refl x vx) h) (m.join_left x y vx vy same)

  pub open-falls : below y x ≡ false → rank (joined x y) < rank x
  open-falls h =
      let vj = m.join_valid x y vx vy same in
      let above = m.join_left x y vx vy same in
      let falls : rank (joined x y) ≤ rank x = m.rank_falls x (joined x y) vx vj above in
      let moved : rank x ≢ rank (joined x y) = λ e.
      let is : x ≡ joined x y = m.rank_tied x (joined x y) vx vj above e in
      false≢true (sym h ∙ (λ i. below y (is i)) ∙ m.join_right x y vx vy same) in
      omega (arith, falls, moved)
