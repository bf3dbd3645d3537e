use Rattle.std.proofs.Common.{◌∷◌, [], ℕ, ap, sym, ◌∙◌}
use Rattle.std.specs.Prelude.{Option}
use Rattle.kc_certform.specs.CertBytes.{written_after}
use Rattle.kc_certform.specs.Written.{written_states}
use Rattle.kc_certform.proofs.WrittenLemmas.{written-kept, states-kept}
use Rattle.kc_certwrite.specs.Shares.{share_number}
use Rattle.kc_certwrite.proofs.sharing.plan_share.Goals as goal

-- the state was written before
pub returns-in-At : goal.returns-in-At
returns-in-At c =
    let before = c.args.before.now in
    let n = c.args.node.now in
    let w = c.args.written.now in
    let states = written_states before w in
    let found = c.in-At.ensures.found in
    record {
      next = record {
        is = found.1 ∙ ap share_number (sym found.2);
        written = written-kept before (n ∷ []) w c.requires.written;
        states = states-kept before (n ∷ []) w c.requires.written
            ∙ ap (λ (o : Option ℕ). written_after states n.state o) (sym found.2);
      };
    }
