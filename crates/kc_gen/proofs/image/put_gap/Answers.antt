use Rattle.std.proofs.Common.{◌≡◌, ◌∙◌, ℕ, List, ◌+◌, ◌-◌, ◌++◌, ◌∷◌, [], ap, replicate, append_assoc, arith}
use Rattle.std.proofs.lemmas.List.{replicate_more}
use Rattle.kc_gen.proofs.image.put_gap.Goals as goal

pub loop-preserved : goal.loop-preserved
loop-preserved c =
    let l = c.loop in
    let filled : List ℕ = replicate (l.counter - c.args.at) 0x90 in
    let more : l.counter - c.args.at + 1 ≡ l.counter + 1 - c.args.at = omega (arith, l.auto.counter) in
    c.in_ok-push.ensures.items ∙ ap (λ xs. xs ++ 0x90 ∷ []) l.invariant
    ∙ append_assoc c.args.out.now.items filled (0x90 ∷ [])
    ∙ ap (λ xs. c.args.out.now.items ++ xs) (replicate_more (l.counter - c.args.at) 0x90
    ∙ ap (λ k. replicate k 0x90) more)
