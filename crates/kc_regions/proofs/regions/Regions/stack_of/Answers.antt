-- the list that the search ran over is the value of the regions, as the view says
use Rattle.std.proofs.Common.{◌∙◌, ap, subst}
use Rattle.kc_regions.specs.Regions.{AreRegions}
use Rattle.kc_regions.specs.Order.{IsHolder, NoneHolds, number_at}
use Rattle.kc_regions.proofs.OrderLemmas.{number-held, number-none}
use Rattle.kc_regions.proofs.regions.Regions.stack_of.Goals as goal

pub returns-in-Some : goal.returns-in-Some
returns-in-Some c =
    let list = c.args.self.now in
    let regions = subst AreRegions c.self.view_is c.self.invariant.regions in
    let held = subst (λ l. IsHolder l c.args.a c.in-Some.i) (c.as_slice.ensures.items ∙ c.self.view_is)
    c.in-Some.ensures.found in
    let is = c.as_slice-in-Some.ensures.items ∙ c.self.view_is in
    record {
      value = c.number_at.ensures
          ∙ ap (λ l. number_at l c.in-Some.i) is
          ∙ number-held list c.args.a c.in-Some.i regions held;
    }

pub returns-in-None : goal.returns-in-None
returns-in-None c =
    let none = subst (λ l. NoneHolds l c.args.a) (c.as_slice.ensures.items ∙ c.self.view_is) c.in-None.ensures.none in
    record { value = number-none c.args.self.now c.args.a none }
