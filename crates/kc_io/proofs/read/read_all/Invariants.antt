use Rattle.std.proofs.Common.{◌+◌, ◌-◌, ◌≤◌, take, vec_len}
use Rattle.kc_io.specs.Files.{FilesKept, HasTaken}
use Rattle.kc_io.specs.ReadSteps.{IsPrefix}
use Rattle.kc_io.proofs.read.read_all.Given as goal

-- what was read so far are the file's first bytes
abbrev pub invariant-loop-buffer : goal.invariant-loop-buffer
invariant-loop-buffer g l = record {
  within : l.filled ≤ vec_len l.buffer;
  below : l.filled ≤ l.most;
  bounded : vec_len l.buffer ≤ l.most + 1;
  prefix : IsPrefix (g.F.Files.state l.initial.files).held l.name (take l.filled l.buffer.items);
  taken : HasTaken (g.F.Files.state l.initial.files) (g.F.Files.state l.files) l.filled;
  kept : FilesKept (g.F.Files.state l.initial.files) (g.F.Files.state l.files);
}

abbrev pub decreases-loop-buffer : goal.decreases-loop-buffer
decreases-loop-buffer g l = l.most + 1 - l.filled
