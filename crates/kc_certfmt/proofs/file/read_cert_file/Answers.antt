use Rattle.std.proofs.Common.{arith}
use Rattle.std.proofs.lemmas.Result.{err_from_is_err_and}
use Rattle.kc_certfmt.proofs.FileLemmas.{none-fed, none-taken, kept-self, kept-both, taken-both, fed-same, read-ends, read-finishes}
use Rattle.kc_certfmt.proofs.file.read_cert_file.Goals as goal

pub loop-piece-init : goal.loop-piece-init
loop-piece-init g c =
    let files = g.F.Files.state c.args.files.now in record {
      below = omega arith;
      room = c.in_ok-piece.ensures.len;
      fed = none-fed files.held c.args.name.now c.new-reader.result c.new-reader.ensures.fed;
      taken = none-taken files;
      kept = kept-self files;
    }

-- a piece more was fed
pub loop-piece-preserved : goal.loop-piece-preserved
loop-piece-preserved g c =
    let first = g.F.Files.state c.args.files.now in
    let before = g.F.Files.state c.loop-piece.files in
    let after = g.F.Files.state c.feed_piece.new.files in
    let feeds = c.in_ok-count.ensures.feeds in
    record {
      below = feeds.within;
      room = c.loop-piece.invariant.room;
      fed = fed-same before.held first.held c.args.name.now _ c.feed_piece.new.reader c.loop-piece.invariant.kept.held feeds.more;
      taken = taken-both first before after c.loop-piece.taken c.in_ok-count.count c.loop-piece.invariant.taken feeds.taken;
      kept = kept-both first before after c.loop-piece.invariant.kept c.feed_piece.ensures.kept;
    }

-- a read failed, or there are too many bytes
pub returns-in_err-count-clause-reads : goal.returns-in_err-count-clause-reads
returns-in_err-count-clause-reads g c =
    let exit = err_from_is_err_and c.from_residual-in_err-count.result c.from_residual-in_err-count.ensures.1 in
    rw (exit.1, exit.2)
    (read-ends (g.F.Files.state c.args.files.now) (g.F.Files.state c.loop-piece.files)
    (g.F.Files.state c.feed_piece.new.files) c.args.name.now c.loop-piece.taken c.args.limit c.feed_piece.new.reader
    c.in_err-count.field-0.0 c.loop-piece.invariant.kept c.loop-piece.invariant.taken c.in_err-count.ensures.feeds)

pub returns-in_err-count-clause-kept : goal.returns-in_err-count-clause-kept
returns-in_err-count-clause-kept g c =
    kept-both (g.F.Files.state c.args.files.now) (g.F.Files.state c.loop-piece.files)
    (g.F.Files.state c.feed_piece.new.files) c.loop-piece.invariant.kept c.feed_piece.ensures.kept

-- the whole file was read
pub returns-then-count-eq0-clause-reads : goal.returns-then-count-eq0-clause-reads
returns-then-count-eq0-clause-reads g c =
    read-finishes (g.F.Files.state c.args.files.now) (g.F.Files.state c.loop-piece.files)
    (g.F.Files.state c.feed_piece.new.files) c.args.name.now c.loop-piece.taken c.args.limit c.in_ok-count.count
    c.feed_piece.new.reader c.finish.result c.loop-piece.invariant.kept c.loop-piece.invariant.taken
    c.in_ok-count.ensures.feeds c.if-count-eq0.true c.finish.ensures.ends

pub returns-then-count-eq0-clause-kept : goal.returns-then-count-eq0-clause-kept
returns-then-count-eq0-clause-kept g c =
    kept-both (g.F.Files.state c.args.files.now) (g.F.Files.state c.loop-piece.files)
    (g.F.Files.state c.feed_piece.new.files) c.loop-piece.invariant.kept c.feed_piece.ensures.kept
