use Rattle.std.proofs.lemmas.Bool.{false≢true}
use Rattle.kc_machine.proofs.OneRegionLemmas.{all-code}
use Rattle.kc_machine.proofs.cause.has_other_byte.Goals as goal

-- each byte lies in the region of the first
pub returns-then-are_code : goal.returns-then-are_code
returns-then-are_code c =
    let code = c.are_code.ensures.0 c.if-are_code.true in (
      λ t. absurd (false≢true t),
      λ h. absurd (h.2 (all-code c.args.cfg.now c.tell.ensures.valid c.args.at c.args.len code.0 code.1 h.0 h.1)),
    )
