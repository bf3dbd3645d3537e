-- the last number's mark is taken away with it
use Rattle.std.proofs.Common.{◌∷◌, ◌++◌, [], false, get_or, sym, ◌∙◌, arith}
use Rattle.kc_rising.specs.Listed.{times, AreListed}
use Rattle.kc_rising.proofs.ListedLemmas.{marked-pop, marked-past}
use Rattle.kc_rising.proofs.numbers.Numbers.clear.Goals as goal

pub loop-number-preserved-then-number-len : goal.loop-number-preserved-then-number-len
loop-number-preserved-then-number-len c =
    let xs = c.pop.new.self.items in
    let marks = c.loop-number.self-inside.marks.items in
    let x = c.in-Some.number in
    let listed : AreListed (xs ++ x ∷ []) (λ n. get_or marks n false) = λ n.
    (λ i. times (sym c.in-Some.ensures.items i) n) ∙ c.loop-number.invariant n in
    marked-pop xs marks x listed (omega (arith, c.len.ensures, c.if-number-len.true))

pub loop-number-preserved : goal.loop-number-preserved
loop-number-preserved c =
    let xs = c.pop.new.self.items in
    let marks = c.loop-number.self-inside.marks.items in
    let x = c.in-Some.number in
    let listed : AreListed (xs ++ x ∷ []) (λ n. get_or marks n false) = λ n.
    (λ i. times (sym c.in-Some.ensures.items i) n) ∙ c.loop-number.invariant n in
    marked-past xs marks x listed (omega (arith, c.len.ensures, c.if-number-len.false))
