use Rattle.std.proofs.Common.{rules, ◌≡◌, ℕ, List, sym, subst}
use Rattle.kc_insn.specs.Spells.{Spells}
use Rattle.kc_encode.specs.Canonical.{canonical_bytes}
use Rattle.kc_encode.proofs.encoder.encode.Goals as goal

pub returns-in-Ok-clause-spelled : goal.returns-in-Ok-clause-spelled
returns-in-Ok-clause-spelled c =
    let is : c.put_insn.new.out.items ≡ canonical_bytes c.args.insn.now c.args.at = search rules in
    subst (λ (bytes : List ℕ). Spells bytes c.args.at c.args.insn.now) (sym is) c.is_spelled.ensures
