use Rattle.std.proofs.Common.{◌+◌, ◌-◌, ◌%◌, ◌/◌, ◌^◌, ap, sym, ◌∙◌, refl, arith}
use Rattle.kc_mem.specs.Memory.{Bytes, write, next}
use Rattle.kc_mem.proofs.NumberLemmas.{write-none, write_more}
use Rattle.kc_mem.proofs.memory.Memory.put_number.Goals as goal

pub loop-preserved : goal.loop-preserved
loop-preserved c = (
  ap (λ (m : Bytes). write m (next c.loop.at) (c.args.size - (c.loop.counter + 1)) (c.loop.rest / 256))
      c.write1.ensures.bytes
      ∙ write_more c.loop.self.bytes c.loop.at c.args.size c.loop.counter c.loop.rest c.loop-test.true
      ∙ c.loop.invariant.0,
  omega (arith, c.write1.ensures.spare, c.loop.invariant.1),
)

pub returns-clause-bytes : goal.returns-clause-bytes
returns-clause-bytes c =
    sym (write-none c.loop.self.bytes c.loop.at c.loop.rest)
    ∙ ap (λ k. write c.loop.self.bytes c.loop.at k c.loop.rest) (omega arith) ∙ c.loop.invariant.0
