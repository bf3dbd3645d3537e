use Rattle.std.proofs.Common.{sym, subst}
use Rattle.kc_regions.specs.Description.{Description}
use Rattle.kc_value.specs.Made.{IsPlace}
use Rattle.kc_state.proofs.StackLemmas.{is_place}
use Rattle.kc_state.proofs.moment.place_of.Goals as goal

pub returns-clause-place : goal.returns-clause-place
returns-clause-place c =
    let parts = c.cfg.inside in
    let d : Description = record {
      cpu = parts.cpu;
      regions = parts.regions;
      gates = parts.gates;
      handlers = parts.handlers;
      words = parts.words;
    } in
    subst IsPlace (sym c.stack_of.ensures.value) (is_place d c.args.n c.cfg.invariant)
