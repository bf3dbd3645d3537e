-- What a memory keeps of its pages.
use Rattle.std.specs.Prelude.{◌+◌, ◌≤◌}
use Rattle.std.specs.List.{All}
use Rattle.std.specs.Vec.{vec_len, vec_capacity}
use Rattle.kc_mem.specs.declared.memory.Memory.TheInside.{Inside}
use Rattle.kc_mem.specs.PageSteps.{ArePages, AreZeros}

pub record IsInOrder (m : Inside) : Type 0 where
  pub pages : ArePages m.pages.items
  pub zeros : All (λ p. AreZeros p.items) m.empty.items
  pub room : vec_len m.pages + vec_len m.empty ≤ vec_capacity m.pages
