-- The instruction that an image's bytes spell at an address: the relation of kc_events, `IsAt`, as a function, by the
-- decoder's reading.
use Rattle.std.specs.Prelude.{ℕ, Option, Some, None, Result, Ok, Err}
use Rattle.kc_decode.specs.Reading.{decode_at}
use Rattle.kc_decode.specs.declared.fault.DecodeFault.{DecodeFault}
use Rattle.kc_image.specs.Image.{Contents, run}
use Rattle.kc_insn.specs.declared.insn.Insn.{Insn}
use Rattle.kc_insn.specs.declared.insn.Insn.TheVariants.{Iretq, Sysretq}

abbrev pub what_is_read : Result (Insn × ℕ) DecodeFault → Option (Insn × ℕ)
what_is_read (Ok (insn, n)) = Some (insn, n)
what_is_read (Err fault) = None

-- the instruction at address a and the number of its bytes
unfoldable pub insn_at : Contents → ℕ → Option (Insn × ℕ)
insn_at image a = what_is_read (decode_at (run image.segments a 15) a)
