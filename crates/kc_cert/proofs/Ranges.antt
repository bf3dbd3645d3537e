-- The nodes of context i lie between the first position that isn't before those of context i and the first that isn't
-- before those of context i + 1.
use Rattle.std.proofs.Common.{◌≡◌, ℕ, ◌+◌, ◌-◌, ◌<◌, ◌≤◌, ◌⊎◌, inl, inr, List, length, map, take, drop, refl, sym, ap, ◌∙◌, subst, arith}
use Rattle.std.proofs.lemmas.List.{length-map}
use Rattle.std.specs.Prelude.{slice_index_or, filter, ◌==◌}
use Rattle.kc_cert.specs.Table.{Position, IsFirstFrom, position_of, position_order}
use Rattle.kc_cert.specs.declared.certificate.Node.{Node}
use Rattle.kc_cert.proofs.LookupLemmas.{side-by-side}
use Rattle.kc_cert.proofs.HalvingLemmas.{three}
use Rattle.kc_cert.proofs.PositionLemmas.{first_site, before-context, from-context}

abbrev Begins : ℕ → List Node → ℕ → Type 0
Begins i nodes at = IsFirstFrom position_order (map position_of nodes) (i, first_site) at

least-position : Position
least-position = (0, first_site)

pub ends-in-order : (i : ℕ) (nodes : List Node) (s e : ℕ) → Begins i nodes s → Begins (i + 1) nodes e → s ≤ e
ends-in-order i nodes s e first next = go (three s e)
  where
    go : (s < e) ⊎ ((s ≡ e) ⊎ (e < s)) → s ≤ e
    go (inl less) = omega (arith, less)
    go (inr (inl same)) = omega (arith, same)
    go (inr (inr lt)) =
        let here = slice_index_or (map position_of nodes) e least-position in
        let below = before-context here i (first.before e least-position lt) in
        let more = from-context here (i + 1) (next.after e least-position (omega arith) (omega (arith, lt, first.within))) in
        omega (arith, below, more)

pub range-is : (i : ℕ) (nodes : List Node) (s e : ℕ) → Begins i nodes s → Begins (i + 1) nodes e
    → take (e - s) (drop s nodes) ≡ filter (λ n. n.context == i) nodes
range-is i nodes s e first next =
    let ordered = ends-in-order i nodes s e first next in
    let long : length (map position_of nodes) ≡ length nodes = length-map nodes position_of in
    side-by-side i nodes s (e - s) (omega (arith, ordered, next.within, long))
    (λ k d lt. before-context (slice_index_or (map position_of nodes) k d) i (first.before k d lt))
    (λ k d le lt.
    let least = from-context (slice_index_or (map position_of nodes) k d) i
    (first.after k d le (omega (arith, lt, ordered, next.within))) in
    let most = before-context (slice_index_or (map position_of nodes) k d) (i + 1)
    (next.before k d (omega (arith, lt, ordered))) in
    omega (arith, least, most))
    (λ k d le lt.
    let least = from-context (slice_index_or (map position_of nodes) k d) (i + 1)
    (next.after k d (omega (arith, le, ordered)) (omega (arith, lt, long))) in
    omega (arith, least))
