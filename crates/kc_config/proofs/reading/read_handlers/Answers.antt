use Rattle.std.proofs.Common.{All, subst, sym}
use Rattle.std.proofs.lemmas.List.Elements.{All-push}
use Rattle.std.proofs.lemmas.Result.{err_from_is_err_and}
use Rattle.kc_regions.specs.Ranges.{IsHandlerInRange}
use Rattle.kc_config.specs.declared.path.Place.TheVariants.{InHandler}
use Rattle.kc_config.specs.Tables.{handler}
use Rattle.kc_config.specs.Reading.{add_table}
use Rattle.kc_config.proofs.EachLemmas.{members_now, each_more, each_stops, over_done, one_longer}
use Rattle.kc_config.proofs.reading.read_handlers.Goals as goal

pub loop-i-preserved : goal.loop-i-preserved
loop-i-preserved c =
    let before = c.loop-i.invariant in
    let pushed = c.in_ok-push.ensures.items in
    record {
      read = each_more handler (λ i. InHandler i) c.args.image.now.symbols c.args.tables.now c.loop-i.i
          c.index-tables-i.result
          c.loop-i.handlers.items c.push.new.self.items _ _
          c.loop-i-test.true c.index-tables-i.is before.count c.in_ok-read_handler.ensures.read pushed before.read;
      count = one_longer c.loop-i.handlers.items c.push.new.self.items _ c.loop-i.i pushed before.count;
      in_range = subst (All IsHandlerInRange) (sym pushed)
          (All-push IsHandlerInRange c.loop-i.handlers.items _ before.in_range c.in_ok-read_handler.ensures.in_range);
    }

pub returns-in_err-read_handler-clause-read : goal.returns-in_err-read_handler-clause-read
returns-in_err-read_handler-clause-read c =
    let exit = err_from_is_err_and c.from_residual.result c.from_residual.ensures.1 in
    rw (exit.1, exit.2)
    (each_stops handler (λ i. InHandler i) c.args.image.now.symbols c.args.tables.now c.loop-i.i c.index-tables-i.result
    c.loop-i.handlers.items c.in_err-read_handler.field-0.0 _
    c.loop-i-test.true c.index-tables-i.is c.loop-i.invariant.count c.in_err-read_handler.ensures.read
    c.loop-i.invariant.read)

pub returns-clause-read : goal.returns-clause-read
returns-clause-read c =
    over_done (add_table handler (λ i. InHandler i) c.args.image.now.symbols) members_now c.args.tables.now c.loop-i.i
    c.loop-i.handlers.items _
    c.loop-i-test.false c.loop-i.invariant.read
