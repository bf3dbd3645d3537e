use Rattle.std.proofs.Common.{ℕ, arith, sym, ◌∙◌}
use Rattle.std.proofs.lemmas.Bool.{false≢true}
use Rattle.kc_exec.specs.Live.{IsLive}
use Rattle.kc_exec.specs.Operand.{plus}
use Rattle.kc_machine.proofs.ListLemmas.{up-to}
use Rattle.kc_machine.proofs.judge.finds_live_byte.Goals as goal

-- this byte isn't live either
pub loop-i-preserved : goal.loop-i-preserved
loop-i-preserved c =
    up-to (λ (k : ℕ). ¬ IsLive c.args.cfg.now c.args.chain.now (plus c.args.at k)) c.loop-i.i c.loop-i.invariant
    (λ h. false≢true (sym c.if-is_live.false ∙ c.is_live.ensures.is.1 h))

-- none of them is
pub returns : goal.returns
returns c = (λ t. absurd (false≢true t), λ h. absurd (c.loop-i.invariant h.0 (omega (arith, h.1)) h.2))
