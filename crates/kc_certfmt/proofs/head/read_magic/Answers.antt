use Rattle.std.proofs.Common.{sym, arith}
use Rattle.std.proofs.lemmas.Result.{err_from_is_err_and}
use Rattle.kc_certfmt.proofs.MagicLemmas.{magic_more, magic_stops, magic_differs, magic_done}
use Rattle.kc_certfmt.proofs.head.read_magic.Goals as goal

-- a byte of the magic was read
pub loop-byte-preserved : goal.loop-byte-preserved
loop-byte-preserved c =
    magic_more c.args.bytes.now c.loop-byte.byte-index c.loop-byte.input c.read_u8.new.input c.in_ok-read.read _
    c.loop-byte-test.true c.in_ok-read.ensures.read (sym (rw c.at-at.ensures.value at c.in_ok-refuse_if.ensures.value))
    c.loop-byte.invariant

-- no byte is there
pub returns-in_err-read : goal.returns-in_err-read
returns-in_err-read c =
    let exit = err_from_is_err_and c.from_residual.result c.from_residual.ensures.1 in
    record {
      read = rw (exit.1, exit.2)
          (magic_stops c.args.bytes.now c.loop-byte.byte-index c.loop-byte.input _ _ c.loop-byte-test.true
          c.in_err-read.ensures.read c.loop-byte.invariant);
    }

-- another byte is there
pub returns-in_err-refuse_if : goal.returns-in_err-refuse_if
returns-in_err-refuse_if c =
    let exit = err_from_is_err_and c.from_residual-in_err-refuse_if.result c.from_residual-in_err-refuse_if.ensures.1 in
    record {
      read = rw (exit.1, exit.2)
          (magic_differs c.args.bytes.now c.loop-byte.byte-index c.loop-byte.input c.read_u8.new.input c.in_ok-read.read
          _ _ c.loop-byte-test.true c.in_ok-read.ensures.read
          (sym (rw c.at-at.ensures.value at c.in_err-refuse_if.ensures.value)) c.loop-byte.invariant);
    }

pub returns : goal.returns
returns c = record {
  read = (magic_done c.args.bytes.now c.loop-byte.byte-index c.loop-byte.input _ c.loop-byte-test.false
      c.loop-byte.invariant);
}
