use Rattle.std.proofs.Common.{◌≡◌, ◌≤◌, ◌<◌, ◌+◌, ◌-◌, ◌*◌, ◌%◌, ◌^◌, Fits, w64, ap, sym, ◌∙◌, subst, refl, arith}
use Rattle.kc_mem.specs.Memory.{read}
use Rattle.kc_mem.proofs.NumberLemmas.{read-none, read_word, read_shifted, number_more}
use Rattle.kc_mem.proofs.memory.Memory.number.Goals as goal

pub loop-left-init : goal.loop-left-init
loop-left-init c = (
  omega arith,
  sym (read-none _ _) ∙ ap (read c.args.self.now.bytes ((c.args.a + c.args.size) % 2 ^ 64)) (omega arith),
)

more : (c : goal.After-read1) → 256 * c.loop-left.v + c.read1.result ≡ read c.args.self.now.bytes
    ((c.args.a + (c.loop-left.left - 1)) % 2 ^ 64) (c.args.size - (c.loop-left.left - 1))
more c = number_more _ c.args.a c.args.size c.loop-left.left c.loop-left.v c.read1.result c.loop-left-test.true
    c.loop-left.invariant.0 c.loop-left.invariant.1 c.read1.ensures.value

pub overflow_mul-v : goal.overflow_mul-v
overflow_mul-v c =
    let m = c.args.self.now.bytes in
    let at = (c.args.a + c.loop-left.left) % 2 ^ 64 in
    let shifted : 256 * read m at (c.args.size - c.loop-left.left) < 2 ^ 64 =
    read_shifted m at _ (omega arith) c.tell.ensures.exact in
    omega (arith, shifted, c.loop-left.invariant.1)

pub overflow_add-v : goal.overflow_add-v
overflow_add-v c = omega (
  arith,
  more c,
  read_word c.args.self.now.bytes ((c.args.a + (c.loop-left.left - 1)) % 2 ^ 64) (c.args.size - (c.loop-left.left - 1))
      (omega arith) c.tell.ensures.exact,
)

pub loop-left-preserved : goal.loop-left-preserved
loop-left-preserved c = (omega arith, more c)
