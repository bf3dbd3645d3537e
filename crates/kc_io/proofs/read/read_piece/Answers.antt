use Rattle.std.proofs.Common.{◌≡◌, ◌-◌, ◌≤◌, ℕ, length, take, Ok, arith, subst, sym}
use Rattle.std.proofs.lemmas.Grind.{common_steps}
use Rattle.kc_io.specs.Files.{Reads}
use Rattle.kc_io.proofs.Prefixes.{IsPrefix-more, take-filled}
use Rattle.kc_io.proofs.read.read_piece.Goals as goal

-- the prefix that was there, and then what was read
pub returns-clause-prefix : goal.returns-clause-prefix
returns-clause-prefix g c =
    let within : c.args.filled ≤ length c.args.buffer.now = omega arith in
    let kept : length (take c.args.filled c.args.buffer.now) ≡ c.args.filled = grind (arith, common_steps) in
    let read = subst (λ (k : ℕ). Reads (g.F.Files.state c.args.files.now).held c.args.name.now k
    (Ok c.in_ok-count.count) c.read_at.new.buf) (sym kept) c.in_ok-count.ensures.bytes in
    rw (take-filled c.args.filled (length c.args.buffer.now - c.args.filled) c.in_ok-count.count c.args.buffer.now
    c.read_at.new.buf within c.in_ok-count.ensures.bound.0)
    (IsPrefix-more (g.F.Files.state c.args.files.now).held c.args.name.now (take c.args.filled c.args.buffer.now)
    c.read_at.new.buf c.in_ok-count.count c.requires.prefix read)
