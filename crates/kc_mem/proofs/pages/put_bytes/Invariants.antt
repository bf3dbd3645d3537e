use Rattle.std.proofs.Common.{◌≡◌, ◌/◌, drop}
use Rattle.std.specs.List.{All}
use Rattle.std.specs.Vec.{vec_len, vec_capacity}
use Rattle.kc_mem.specs.Memory.{put_all}
use Rattle.kc_mem.specs.PageSteps.{ArePages, HasPage, bytes_of}
use Rattle.kc_mem.proofs.pages.put_bytes.Given as goal

abbrev pub invariant-loop-a : goal.invariant-loop-a
invariant-loop-a l = record {
  pages : ArePages l.pages.items;
  there : All (λ w. HasPage l.pages.items (w.0 / 4096)) l.writes;
  bytes : put_all (bytes_of l.pages.items) (drop l.a-index l.writes) ≡ put_all (bytes_of l.initial.pages.items)
      l.writes;
  len : vec_len l.pages ≡ vec_len l.initial.pages;
  capacity : vec_capacity l.pages ≡ vec_capacity l.initial.pages;
}
