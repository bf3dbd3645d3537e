use Rattle.std.proofs.Common.{rules, ◌≡◌, ◌∙◌, ◌++◌}
use Rattle.kc_gen.specs.Samples.{syscall_frame, syscall_handler, s1_events}
use Rattle.kc_gen.proofs.samples.s1_lines.Goals as goal

pub returns : goal.returns
returns c =
    let frame : c.in_ok-lines.lines.items ≡ syscall_frame = search rules in
    let rest : c.deref.result.now ≡ syscall_handler ++ s1_events = c.deref.ensures.value ∙ c.in_ok-rest.ensures in
    c.in_ok-extend_from_slice.ensures.items ∙ (λ i. frame i ++ rest i)
