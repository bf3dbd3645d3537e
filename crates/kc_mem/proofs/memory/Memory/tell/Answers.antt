use Rattle.std.proofs.Common.{ap}
use Rattle.kc_mem.specs.Memory.{AreBytes, MemoryValue}
use Rattle.kc_mem.proofs.PagesLemmas.{are_bytes}
use Rattle.kc_mem.proofs.memory.Memory.tell.Goals as goal

pub returns : goal.returns
returns c = record { exact = rw (← c.self.view_is) (are_bytes c.self.inside.pages.items c.self.invariant.pages.whole) }
