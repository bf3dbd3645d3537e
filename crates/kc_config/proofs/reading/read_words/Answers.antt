use Rattle.std.proofs.Common.{All, subst, sym}
use Rattle.std.proofs.lemmas.List.Elements.{All-push}
use Rattle.std.proofs.lemmas.Result.{err_from_is_err_and}
use Rattle.kc_regions.specs.Ranges.{IsWordInRange}
use Rattle.kc_config.specs.declared.path.Place.TheVariants.{InWord}
use Rattle.kc_config.specs.Tables.{tracked_word}
use Rattle.kc_config.specs.Reading.{add_table}
use Rattle.kc_config.proofs.EachLemmas.{members_now, each_more, each_stops, over_done, one_longer}
use Rattle.kc_config.proofs.reading.read_words.Goals as goal

pub loop-i-preserved : goal.loop-i-preserved
loop-i-preserved c =
    let before = c.loop-i.invariant in
    let pushed = c.in_ok-push.ensures.items in
    record {
      read = each_more tracked_word (λ i. InWord i) c.args.image.now.symbols c.args.tables.now c.loop-i.i
          c.index-tables-i.result
          c.loop-i.words.items c.push.new.self.items _ _
          c.loop-i-test.true c.index-tables-i.is before.count c.in_ok-read_word.ensures.read pushed before.read;
      count = one_longer c.loop-i.words.items c.push.new.self.items _ c.loop-i.i pushed before.count;
      in_range = subst (All IsWordInRange) (sym pushed)
          (All-push IsWordInRange c.loop-i.words.items _ before.in_range c.in_ok-read_word.ensures.in_range);
    }

pub returns-in_err-read_word-clause-read : goal.returns-in_err-read_word-clause-read
returns-in_err-read_word-clause-read c =
    let exit = err_from_is_err_and c.from_residual.result c.from_residual.ensures.1 in
    rw (exit.1, exit.2)
    (each_stops tracked_word (λ i. InWord i) c.args.image.now.symbols c.args.tables.now c.loop-i.i
    c.index-tables-i.result
    c.loop-i.words.items c.in_err-read_word.field-0.0 _
    c.loop-i-test.true c.index-tables-i.is c.loop-i.invariant.count c.in_err-read_word.ensures.read
    c.loop-i.invariant.read)

pub returns-clause-read : goal.returns-clause-read
returns-clause-read c =
    over_done (add_table tracked_word (λ i. InWord i) c.args.image.now.symbols) members_now c.args.tables.now c.loop-i.i
    c.loop-i.words.items _
    c.loop-i-test.false c.loop-i.invariant.read
