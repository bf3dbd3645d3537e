use Rattle.std.proofs.lemmas.Bool.{false≢true}
use Rattle.kc_lattice.proofs.ListLemmas.{length-AllZip}
use Rattle.kc_lattice.proofs.list.stands_each.Goals as goal

-- lists of two lengths stand nowhere for each other
pub returns-then-items-concs : goal.returns-then-items-concs
returns-then-items-concs g c = record {
  is = (
    λ h. absurd (false≢true h),
    λ h. absurd (c.if-items-concs.true
        (length-AllZip (λ x k. g.V.Meaning.holds x c.args.env.now k) c.args.items.now c.args.concs.now h)),
  );
}
