use Rattle.std.proofs.Common.{◌≡◌, ◌+◌, ◌*◌, length, take}
use Rattle.hex.specs.Hex.{encode_lower}
use Rattle.kc_plain.specs.Appended.{Appended}
use Rattle.kc_trace_text.specs.BytesSteps.{bytes_of}
use Rattle.kc_trace_text.proofs.bytes.put_written.Given as goal

abbrev pub invariant-loop-write : goal.invariant-loop-write
invariant-loop-write l = record {
  text : Appended l.fn.line.items l.line.items (encode_lower (bytes_of (take l.write-index l.writes)));
  long : length l.line.items ≡ length l.fn.line.items + 2 * l.write-index;
}
