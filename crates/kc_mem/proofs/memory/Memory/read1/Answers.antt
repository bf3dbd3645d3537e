use Rattle.std.proofs.Common.{ap, ◌∙◌, sym}
use Rattle.kc_mem.specs.Memory.{MemoryValue, byte}
use Rattle.kc_mem.specs.PageSteps.{stored}
use Rattle.kc_mem.proofs.NumberLemmas.{read-one}
use Rattle.kc_mem.proofs.PagesLemmas.{byte-bytes_of}
use Rattle.kc_mem.proofs.memory.Memory.read1.Goals as goal

pub returns : goal.returns
returns c = record {
  value = c.stored_byte.ensures
      ∙ ap (λ ps. stored ps c.args.a) c.deref.ensures.value
      ∙ sym (byte-bytes_of _ c.self.invariant.pages.whole c.args.a)
      ∙ ap (λ (m : MemoryValue). byte m.bytes c.args.a) c.self.view_is
      ∙ sym (read-one c.args.self.now.bytes c.args.a);
}
