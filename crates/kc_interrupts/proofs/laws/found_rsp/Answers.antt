use Rattle.kc_interrupts.proofs.PlaceLemmas.{place_is_stack}
use Rattle.kc_interrupts.proofs.laws.found_rsp.Goals as goal

pub returns : goal.returns
returns c = record {
  stack = λ cfg key site insn len s S valid is D exact. place_is_stack cfg valid key site insn len s is S D exact;
}
