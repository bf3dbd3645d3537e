use Rattle.kc_image.proofs.LoadedLemmas.{IsSoFar}
use Rattle.kc_image.proofs.image.Image.bytes_at.Given as goal

abbrev pub invariant-loop-n : goal.invariant-loop-n
invariant-loop-n l = IsSoFar l.self.segments l.a l.at l.n l.initial.buf l.buf
