-- The samples' listings have images: each instruction is encodable, each target in reach, no address is set back.
use Rattle.std.proofs.Common.{refl}
use Rattle.std.specs.Prelude.{IsTrue}
use Rattle.kc_encode.specs.Canonical.{is_signed_byte, four_bytes, eight_bytes, rex, rex_bytes, mode, disp_bytes, sib, needs_sib, memory, operand, opcode_register, with_register, with_digit, on_register, signed_at, canonical_bytes}
use Rattle.kc_gen.specs.Image.{is_listing}
use Rattle.kc_gen.specs.Samples.{load_address, s1_lines, s2_lines}

pub s1_is_listing : IsTrue (is_listing load_address load_address s1_lines)
unfolding is_signed_byte four_bytes eight_bytes rex rex_bytes mode disp_bytes sib needs_sib memory operand
    opcode_register with_register with_digit on_register signed_at canonical_bytes
s1_is_listing = refl

pub s2_is_listing : IsTrue (is_listing load_address load_address s2_lines)
unfolding is_signed_byte four_bytes eight_bytes rex rex_bytes mode disp_bytes sib needs_sib memory operand
    opcode_register with_register with_digit on_register signed_at canonical_bytes
s2_is_listing = refl
