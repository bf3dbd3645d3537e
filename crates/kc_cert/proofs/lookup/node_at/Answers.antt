use Rattle.std.proofs.Common.{◌≡◌, Some, ap, sym, ◌∙◌, refl, List, subst, map}
use Rattle.std.specs.Prelude.{slice_get, Contains}
use Rattle.kc_cert.specs.Table.{Position, position_of}
use Rattle.kc_cert.proofs.LookupLemmas.{node-found, node-absent}
use Rattle.kc_cert.proofs.lookup.node_at.Goals as goal

pub returns-in-Some : goal.returns-in-Some
returns-in-Some c = record {
  value = c.get.ensures.item
      ∙ node-found c.args.cert.now.nodes (c.args.i, c.args.site.now) c.in-Some.at c.requires.rises
      (subst (λ (l : List Position). slice_get l c.in-Some.at ≡ Some (c.args.i, c.args.site.now))
      c.new-sites.ensures.sites c.in-Some.ensures.found);
}

pub returns-in-None : goal.returns-in-None
returns-in-None c = record {
  value = node-absent c.args.cert.now.nodes (c.args.i, c.args.site.now)
      (subst (λ (l : List Position). ¬ Contains l (c.args.i, c.args.site.now)) c.new-sites.ensures.sites
      (c.in-None.ensures.absent refl));
}
