-- the list that the search ran over is the value of the regions, as the view says
use Rattle.std.proofs.Common.{◌∙◌, ap, subst, slice_get}
use Rattle.kc_regions.specs.Regions.{AreRegions}
use Rattle.kc_regions.specs.Order.{IsHolder, NoneHolds}
use Rattle.kc_regions.proofs.OrderLemmas.{region-held, region-none}
use Rattle.kc_regions.proofs.regions.Regions.of.Goals as goal

pub returns-in-Some : goal.returns-in-Some
returns-in-Some c =
    let list = c.args.self.now in
    let regions = subst AreRegions c.self.view_is c.self.invariant.regions in
    let held = subst (λ l. IsHolder l c.args.a c.in-Some.i) (c.as_slice.ensures.items ∙ c.self.view_is)
    c.in-Some.ensures.found in
    record {
      value = c.get.ensures.item
          ∙ ap (λ l. slice_get l c.in-Some.i) c.self.view_is
          ∙ region-held list c.args.a c.in-Some.i regions held;
    }

pub returns-in-None : goal.returns-in-None
returns-in-None c =
    let none = subst (λ l. NoneHolds l c.args.a) (c.as_slice.ensures.items ∙ c.self.view_is) c.in-None.ensures.none in
    record { value = region-none c.args.self.now c.args.a none }
