use Rattle.std.proofs.Common.{ap, ◌∙◌, sym}
use Rattle.kc_mem.specs.Memory.{Bytes, MemoryValue, put}
use Rattle.kc_mem.proofs.NumberLemmas.{write-one}
use Rattle.kc_mem.proofs.memory.Memory.write1.Goals as goal

pub returns-clause-bytes : goal.returns-clause-bytes
returns-clause-bytes c =
    c.put_byte.ensures.bytes
    ∙ ap (λ (m : Bytes). put m c.args.a c.args.v) c.add_page.ensures.bytes
    ∙ ap (λ (m : MemoryValue). put m.bytes c.args.a c.args.v) c.self.view_is
    ∙ sym (write-one c.args.self.now.bytes c.args.a c.args.v c.ranges.v.fits)
