use Rattle.std.proofs.Common.{rules, ◌≡◌, ◌∙◌, ap, [], ◌∷◌, ◌++◌}
use Rattle.kc_insn.specs.declared.insn.Insn.TheVariants.{Jmp}
use Rattle.kc_gen.specs.declared.line.Line.TheVariants.{At, Code}
use Rattle.kc_gen.specs.Samples.{syscall_frame, syscall_handler, s1_events}
use Rattle.kc_gen.specs.Generated.{chosen_lines}
use Rattle.kc_gen.proofs.generated.listing.Goals as goal

pub returns : goal.returns
returns c =
    let frame : c.in_ok-lines.lines.items ≡ syscall_frame ++ Code (Jmp 0xffffffff81100000) ∷ [] = search rules in
    let rest : c.deref.result.now ≡ syscall_handler ++ s1_events = c.deref.ensures.value ∙ c.in_ok-rest.ensures in
    c.in_ok-push-2.ensures.items
    ∙ ap (λ xs. xs ++ Code (Jmp 0xffffffff81000036) ∷ []) (c.in_ok-put_chosen.ensures
    ∙ ap (λ xs. xs ++ chosen_lines c.args.seed c.args.size) (c.in_ok-push.ensures.items
    ∙ ap (λ xs. xs ++ At 0xffffffff81100000 ∷ []) (c.in_ok-extend_from_slice.ensures.items
    ∙ (λ i. frame i ++ rest i))))
