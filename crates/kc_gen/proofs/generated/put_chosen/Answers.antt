use Rattle.std.proofs.Common.{◌≡◌, ◌∙◌, sym, ap, refl, subst, ℕ, suc, ◌+◌, [], ◌∷◌, ◌++◌, append-nil, append_assoc, arith}
use Rattle.kc_gen.specs.declared.line.Line.TheVariants.{Code}
use Rattle.kc_gen.specs.Generated.{number_after, number_at, chosen, chosen_lines}
use Rattle.kc_gen.proofs.generated.put_chosen.Goals as goal

pub loop-init : goal.loop-init
loop-init c = (sym (append-nil c.args.lines.now.items), refl)

-- the next number chooses the next line
pub loop-preserved : goal.loop-preserved
loop-preserved c =
    let l = c.loop in
    let seed : ℕ = c.args.seed in
    let x : c.next_number-x.result ≡ number_at seed (suc l.counter) =
    c.next_number-x.ensures ∙ ap (λ n. number_after n) l.invariant.1 in
    let line : c.choose.result ≡ chosen (number_at seed (suc l.counter)) = c.choose.ensures ∙ ap (λ n. chosen n) x in
    let up : suc l.counter ≡ l.counter + 1 = omega arith in
    subst
    (λ (n : ℕ). (c.push.new.self.items ≡ c.args.lines.now.items ++ chosen_lines seed n)
    × (c.next_number-x.result ≡ number_at seed n)) up (
      c.in_ok-push.ensures.items ∙ (λ i. l.invariant.0 i ++ Code (line i) ∷ [])
          ∙ append_assoc c.args.lines.now.items (chosen_lines seed l.counter)
          (Code (chosen (number_at seed (suc l.counter))) ∷ []),
      x,
    )
