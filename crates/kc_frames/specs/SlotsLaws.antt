-- The laws of slots: the `Domain` of `Slots` cites these.
use Rattle.std.proofs.Common.{ℕ, ◌*◌, ◌≤◌, Bool, List, map, sum_by, subst}
use Rattle.std.specs.List.{AllZip}
use Rattle.kc_lattice.specs.Laws.{Laws}
use Rattle.kc_lattice.specs.Rows.{rows_below, rows_joined}
use Rattle.kc_shapes.specs.RowLaws.{counted_laws, rows_rank-le}
use Rattle.kc_frames.specs.Slots.{slot_count, AreSlots}

module _ {A : Type 0} {valid : A → Type 0} {alike : A → A → Type 0} {below : A → A → Bool} {joined : A → A → A}
    {top_of : A → A} {rank : A → ℕ}
    (m : Laws valid alike below joined top_of rank) where
  pub slots_laws : Laws (AreSlots valid) (AllZip alike) (rows_below below) (rows_joined joined) (map top_of)
      (sum_by rank)
  slots_laws = counted_laws m slot_count

  pub slots_rank-le : (bound : ℕ) → ((x : A) → valid x → rank x ≤ bound) → (slots : List A) → AreSlots valid slots
      → sum_by rank slots ≤ slot_count * bound
  slots_rank-le bound each slots h =
      subst (λ (n : ℕ). sum_by rank slots ≤ n * bound) h.1 (rows_rank-le m bound each slots h.0)
