use Rattle.std.proofs.Common.{◌≡◌, ℕ, ◌-◌, ◌+◌, ◌++◌, arith, ap, sym, ◌∙◌, append-nil}
use Rattle.kc_machine.specs.Start.{bytes_of_word}
use Rattle.kc_machine.proofs.StartLemmas.{word-step}
use Rattle.kc_machine.proofs.start.add_bytes.Goals as goal

-- one byte more
pub loop-preserved : goal.loop-preserved
loop-preserved c =
    c.loop.invariant
    ∙ word-step c.loop.bytes.items c.push.new.self.items (8 - c.loop.counter) (8 - (c.loop.counter + 1)) c.loop.at
    c.loop.rest (omega arith) c.in_ok-push.ensures.items

-- eight bytes are all
pub returns : goal.returns
returns c =
    let all : 8 - c.loop.counter ≡ 0 = omega arith in
    sym (c.loop.invariant ∙ ap (λ (k : ℕ). c.loop.bytes.items ++ bytes_of_word k c.loop.at c.loop.rest) all
    ∙ append-nil c.loop.bytes.items)
