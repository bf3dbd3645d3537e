-- a number that wasn't marked comes last
use Rattle.std.proofs.Common.{◌≡◌, ℕ, ◌<◌, ◌==◌, ◌∷◌, ◌++◌, [], List, if◌then◌else◌, cond, false, true, get_or, set}
use Rattle.std.proofs.Common.{length, sym, subst, ◌∙◌, arith}
use Rattle.kc_rising.specs.Listed.{times, AreListed}
use Rattle.kc_rising.proofs.ListedLemmas.{marked-push, times-added}
use Rattle.kc_rising.proofs.numbers.Numbers.add.Goals as goal

pub invariant_of-self-then-not-index : goal.invariant_of-self-then-not-index
invariant_of-self-then-not-index c =
    let xs = c.loop-self.self-inside.items.items in
    let marks = c.loop-self.self-inside.marks.items in
    let x = c.args.number in
    let listed : AreListed xs (λ n. get_or marks n false) = λ n.
    (λ i. times (c.loop-self.invariant.items i).items n) ∙ c.self.invariant n
    ∙ (λ i. cond (sym (c.loop-self.invariant.marks n) i) 1 0) in
    let within : x < length marks = omega (arith, c.len.ensures, c.loop-self-test.false) in
    let absent : get_or marks x false ≡ false =
    (λ i. get_or marks x (sym c.if-not-index.true i)) ∙ sym c.index.ensures ∙ c.if-not-index.true in
    subst (λ (zs : List ℕ). AreListed zs (λ n. get_or (set marks x true) n false)) (sym c.in_ok-push-2.ensures.items)
    (marked-push xs marks x listed within absent)

pub returns-in_ok-push-2-clause-added : goal.returns-in_ok-push-2-clause-added
returns-in_ok-push-2-clause-added c n =
    let xs = c.self.inside.items.items in
    let marks = c.self.inside.marks.items in
    let x = c.args.number in
    let absent : get_or c.loop-self.self-inside.marks.items x false ≡ false =
    (λ i. get_or c.loop-self.self-inside.marks.items x (sym c.if-not-index.true i)) ∙ sym c.index.ensures
    ∙ c.if-not-index.true in
    let is : c.push-then-not-index.new.self.items ≡ xs ++ x ∷ [] =
    c.in_ok-push-2.ensures.items ∙ (λ i. (c.loop-self.invariant.items i).items ++ x ∷ []) in
    (λ i. times (is i) n)
    ∙ times-added xs x n (λ m. get_or marks m false) c.self.invariant (sym (c.loop-self.invariant.marks x) ∙ absent)
    ∙ (λ i. if x == n then 1 else times (c.self.view_is i) n)
