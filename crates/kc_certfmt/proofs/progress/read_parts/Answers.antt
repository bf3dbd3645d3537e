use Rattle.std.proofs.Common.{◌≡◌, ◌<◌, Option, sym, ◌∙◌, subst}
use Rattle.kc_certfmt.specs.Resume.{Part}
use Rattle.kc_certfmt.specs.Steps.{Leads}
use Rattle.kc_certfmt.proofs.ResumeLemmas.{parts_left, fewer}
use Rattle.kc_certfmt.proofs.FedLemmas.{leads-more, stops}
use Rattle.kc_certfmt.proofs.progress.read_parts.Goals as goal

-- the part isn't whole, or has a fault
pub returns-in-Err : goal.returns-in-Err
returns-in-Err c =
    let place : c.new.result ≡ c.loop-alloc.input =
    c.new.ensures.value ∙ (λ k. record { at = c.at-at.ensures.value k; bytes = c.rest-rest.ensures.value k }) in
    record {
      read = stops c.args.table.now c.loop-alloc.table c.read_part.new.table c.args.input.now c.loop-alloc.input
          c.new.result c.in-Err.fault c.loop-alloc.invariant (sym c.loop-alloc-test.ensures.value)
          c.in-Err.ensures.read.0 c.in-Err.ensures.read.1 place;
    }

pub loop-alloc-smaller : goal.loop-alloc-smaller
loop-alloc-smaller c =
    let part = c.in_default.ensures.read in
    subst (λ (o : Option Part). parts_left o < parts_left c.loop-alloc.table) (sym part.1)
    (fewer c.loop-alloc.table part.0 c.loop-alloc.input c.read_part.new.input part.2)

pub loop-alloc-preserved : goal.loop-alloc-preserved
loop-alloc-preserved c =
    let part = c.in_default.ensures.read in
    subst (λ (o : Option Part). Leads c.args.table.now c.args.input.now o c.read_part.new.input) (sym part.1)
    (leads-more c.args.table.now c.loop-alloc.table c.args.input.now c.loop-alloc.input c.read_part.new.input part.0
    c.loop-alloc.invariant (sym c.loop-alloc-test.ensures.value) part.2)
