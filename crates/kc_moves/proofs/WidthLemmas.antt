-- An operand fits its width, and a number that does is as it is when it is cut to it. By cases on the width.
use Rattle.std.proofs.Common.{◌≡◌, ℕ, ◌^◌, ◌<◌, arith}
use Rattle.std.specs.Int.{w64, cast_unsigned}
use Rattle.kc_words.specs.Flags.{bits_of, cut}
use Rattle.kc_words.specs.declared.width.Width.{Width}
use Rattle.kc_words.specs.declared.width.Width.TheVariants.{Byte, Long, Quad}
use Rattle.kc_insn.specs.declared.insn.Source.{Source}
use Rattle.kc_insn.specs.declared.insn.Source.TheVariants as source
use Rattle.kc_mem.specs.Memory.{Bytes, AreBytes, read}
use Rattle.kc_mem.proofs.NumberLemmas.{read_small}
use Rattle.kc_exec.specs.Moment.{Moment}
use Rattle.kc_exec.specs.Operand.{size_of, linear, operand}
use Rattle.kc_exec.specs.Register.{register}
use Rattle.kc_arith.proofs.WidthLemmas.{cut_fits}

read_fits : (w : Width) (mem : Bytes) (a : ℕ) → AreBytes mem → read mem a (size_of w) < 2 ^ bits_of w
read_fits Byte mem a ok = omega (arith, read_small mem a 1 ok)
read_fits Long mem a ok = omega (arith, read_small mem a 4 ok)
read_fits Quad mem a ok = omega (arith, read_small mem a 8 ok)

pub operand_fits : (m : Moment) (w : Width) (src : Source) → AreBytes m.mem → operand m w src < 2 ^ bits_of w
operand_fits m w (source.Reg r) ok = cut_fits w (register m.cpu r)
operand_fits m w (source.Mem a) ok = read_fits w m.mem (linear m a) ok
operand_fits m w (source.Imm z) ok = cut_fits w (cast_unsigned w64 z)

pub cut_same : (w : Width) (n : ℕ) → n < 2 ^ bits_of w → cut w n ≡ n
cut_same Byte n fits = omega (arith, fits)
cut_same Long n fits = omega (arith, fits)
cut_same Quad n fits = omega (arith, fits)
