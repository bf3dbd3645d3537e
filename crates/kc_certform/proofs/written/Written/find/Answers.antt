use Rattle.std.proofs.Common.{◌≡◌, ◌<◌, ℕ, Some, get_or, length, ap, sym, ◌∙◌, arith}
use Rattle.std.proofs.lemmas.List.{get_or_default}
use Rattle.std.specs.Ordering.{is_eq}
use Rattle.kc_certform.specs.Written.{WrittenNodes, IsGap}
use Rattle.kc_certform.proofs.FindLemmas.{found, missing, unshared}
use Rattle.kc_certform.proofs.written.Written.find.Goals as goal
use Rattle.kc_certform.proofs.written.Written.find.Goals.{else-at-count-via-then-at-count+else-is_eq, else-at-count-via-else-at-count}

-- the first one that isn't less is the state
pub returns-then-is_eq : goal.returns-then-is_eq
returns-then-is_eq c =
    let nodes = c.args.nodes.now in
    let w = c.args.self.now in
    let s = c.args.state.now in
    let at = c.first_from-at.result in
    let i = c.index.result.now in
    let below : at < length w.sorted = omega (arith, c.if-at-count.true, c.count.ensures.count) in
    let index : get_or w.sorted at 0 ≡ i =
    get_or_default w.sorted at 0 i below
    ∙ sym (c.index.ensures ∙ ap (λ (v : WrittenNodes). get_or v.sorted at i) c.self.view_is) in
    record {
      found = (
        i,
        omega arith,
        found nodes w c.requires.written s at below
            (sym (ap is_eq (c.order_at.ensures.order s)) ∙ sym c.is_eq.ensures ∙ c.if-is_eq.true)
            ∙ ap (λ (n : ℕ). Some n) index,
      );
    }

-- it is another one, or there is none
pub returns-else-at-count : goal.returns-else-at-count
returns-else-at-count c =
    let nodes = c.args.nodes.now in
    let w = c.args.self.now in
    let s = c.args.state.now in
    let at = c.first_from-at.result in
    let gap : IsGap nodes w s at =
    elim c.else-at-count.branch [
      | else-at-count-via-then-at-count+else-is_eq v ↦
          missing nodes w c.requires.written s at c.first_from-at.ensures.first
          (λ fits. sym (ap is_eq (v.order_at.ensures.order s)) ∙ sym v.is_eq.ensures ∙ v.if-is_eq.false)
      | else-at-count-via-else-at-count v ↦
          missing nodes w c.requires.written s at c.first_from-at.ensures.first
          (λ fits. absurd (omega (arith, fits, v.if-at-count.false, c.count.ensures.count)))
    ] in
    record { found = (unshared nodes w c.requires.written s at gap, gap) }
