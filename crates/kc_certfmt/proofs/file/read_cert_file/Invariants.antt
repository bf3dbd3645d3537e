use Rattle.std.proofs.Common.{◌≡◌, ◌+◌, ◌-◌, ◌≤◌, vec_len}
use Rattle.kc_io.specs.Files.{FilesKept, HasTaken}
use Rattle.kc_certfmt.specs.File.{IsFed}
use Rattle.kc_certfmt.proofs.file.read_cert_file.Given as goal

-- the first bytes of the file were fed
abbrev pub invariant-loop-piece : goal.invariant-loop-piece
invariant-loop-piece g l = record {
  below : l.taken ≤ l.limit;
  room : vec_len l.piece ≡ 65536;
  fed : IsFed (g.F.Files.state l.initial.files).held l.name l.taken l.reader;
  taken : HasTaken (g.F.Files.state l.initial.files) (g.F.Files.state l.files) l.taken;
  kept : FilesKept (g.F.Files.state l.initial.files) (g.F.Files.state l.files);
}

abbrev pub decreases-loop-piece : goal.decreases-loop-piece
decreases-loop-piece g l = l.limit + 1 - l.taken
