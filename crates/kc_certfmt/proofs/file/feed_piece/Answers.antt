use Rattle.std.proofs.Common.{◌≤◌, ◌+◌, length, arith}
use Rattle.kc_certfmt.proofs.FileLemmas.{feeds-more}
use Rattle.kc_certfmt.proofs.file.feed_piece.Goals as goal

-- a fault of form, which the reader keeps
pub returns-in_default-feed-clause-feeds : goal.returns-in_default-feed-clause-feeds
returns-in_default-feed-clause-feeds g c =
    let room : 1 ≤ length c.read_at.new.buf = omega (arith, c.read_at.auto.buf) in
    let within : c.args.taken + c.in-Ok.count ≤ c.args.limit = omega arith in
    feeds-more (g.F.Files.state c.args.files.now) (g.F.Files.state c.read_at.new.self) c.args.name.now c.args.taken
    c.args.limit c.in-Ok.count c.read_at.new.buf c.args.reader.now c.feed.new.self c.requires.fed c.in-Ok.ensures.bytes
    c.in-Ok.ensures.bound.0 room c.feed.ensures.fed within c.in-Ok.ensures.taken

pub returns-in_default-feed-2-clause-feeds : goal.returns-in_default-feed-2-clause-feeds
returns-in_default-feed-2-clause-feeds g c =
    let room : 1 ≤ length c.read_at.new.buf = omega (arith, c.read_at.auto.buf) in
    let within : c.args.taken + c.in-Ok.count ≤ c.args.limit = omega arith in
    feeds-more (g.F.Files.state c.args.files.now) (g.F.Files.state c.read_at.new.self) c.args.name.now c.args.taken
    c.args.limit c.in-Ok.count c.read_at.new.buf c.args.reader.now c.feed.new.self c.requires.fed c.in-Ok.ensures.bytes
    c.in-Ok.ensures.bound.0 room c.feed.ensures.fed within c.in-Ok.ensures.taken
