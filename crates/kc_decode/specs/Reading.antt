-- Reading an instruction from left to right, with the first fault that is met.
use Rattle.std.specs.Prelude.{◌≡◌, ℕ, ◌+◌, ◌-◌, ◌^◌, length, ◌/◌, ◌%◌, Bool, true, false, not, ◌&&◌, ◌||◌, ◌==◌, nat_le, nat_lt, if◌then◌else◌, List, [], ◌∷◌, Option, Some, None, is_some, option_map, Result, Ok, Err, ℤ, pos}
use Rattle.std.specs.Int.{w64, cast_signed}
use Rattle.kc_words.specs.declared.width.Width.{Width}
use Rattle.kc_words.specs.declared.width.Width.TheVariants.{Byte, Quad}
use Rattle.kc_rules.specs.Rules.{◌>>=◌}
use Rattle.kc_reading.specs.Reading.{byte_at, number_at}
use Rattle.kc_insn.specs.declared.insn.Insn.{Insn}
use Rattle.kc_insn.specs.declared.insn.Insn.TheVariants as insn
use Rattle.kc_insn.specs.declared.insn.BitOp.{BitOp}
use Rattle.kc_insn.specs.declared.insn.Mem.{Mem}
use Rattle.kc_insn.specs.declared.insn.Reg.{Reg}
use Rattle.kc_insn.specs.declared.insn.Base.TheVariants as base
use Rattle.kc_insn.specs.declared.insn.Place.{Place}
use Rattle.kc_insn.specs.declared.insn.Place.TheVariants as place
use Rattle.kc_insn.specs.declared.insn.Source.{Source}
use Rattle.kc_insn.specs.declared.insn.Source.TheVariants as source
use Rattle.kc_insn.specs.declared.rex.Rex.{Rex}
use Rattle.kc_insn.specs.Fields.{w_bit, r_bit, x_bit, b_bit, register, extended, width_of, signed, Size, ib, id, size_bytes, immediate, disp_bytes, base_of, index_of}
use Rattle.kc_insn.specs.Table.{Form, plain, plain_w, last_byte, opcode_register, register_imm, rm_reg, reg_rm, address, rm_imm, rm_byte_imm, rm_bit, rm_quad, rm_register, rm_register_w, rm_unused, imm_quad, rax_imm, al_imm, relative, lookup, one_byte, two_byte, two_byte_f3}
use Rattle.kc_insn.specs.Spells.{permits, Draft, whole, jump, resolve}
use Rattle.kc_decode.specs.declared.fault.DraftFault.{DraftFault}
use Rattle.kc_decode.specs.declared.fault.DraftFault.TheVariants.{Short, Unknown}
use Rattle.kc_decode.specs.declared.fault.DecodeFault.{DecodeFault}
use Rattle.kc_decode.specs.declared.fault.DecodeFault.TheVariants as fault

-- bytes are missing
abbrev pub is_short : DraftFault → Bool
is_short Short = true
is_short Unknown = false

-- ---- the operand rm

abbrev pub mode_field : ℕ → ℕ
mode_field m = m / 64

abbrev pub reg_field : ℕ → ℕ
reg_field m = m / 8 % 8

abbrev pub rm_field : ℕ → ℕ
rm_field m = m % 8

unfoldable pub disp_at : ℕ → List ℕ → Result (ℤ × List ℕ) DraftFault
disp_at n bs = number_at Short n bs >>= λ v. Ok (signed n v.0, v.1)

unfoldable pub sib_at : Bool → Option Rex → ℕ → List ℕ → Result (Mem × List ℕ) DraftFault
sib_at gs rex mode bs = byte_at Short bs >>= λ s. disp_at (disp_bytes mode (rm_field s.0)) s.1 >>= λ d.
    Ok (
      record {
        gs = gs;
        base = base_of base.Absent rex mode (rm_field s.0);
        index =
            index_of rex (mode_field s.0) (reg_field s.0);
        disp = d.0;
      },
      d.1,
    )

unfoldable pub no_sib_at : Bool → Option Rex → ℕ → ℕ → List ℕ → Result (Mem × List ℕ) DraftFault
no_sib_at gs rex mode rm bs = disp_at (disp_bytes mode rm) bs >>= λ d.
    Ok (record { gs = gs; base = base_of base.Rip rex mode rm; index = None; disp = d.0 }, d.1)

unfoldable pub memory_at : Bool → Option Rex → ℕ → ℕ → List ℕ → Result (Mem × List ℕ) DraftFault
memory_at gs rex mode rm bs =
    if rm == 4 then sib_at gs rex mode bs else
    if x_bit rex then Err Unknown else no_sib_at gs rex mode rm bs

unfoldable pub rm_at : Bool → Option Rex → ℕ → ℕ → List ℕ → Result (Place × List ℕ) DraftFault
rm_at gs rex mode rm bs =
    if mode == 3
    then (if gs || x_bit rex then Err Unknown else Ok (place.Reg (extended (b_bit rex) rm), bs))
    else (memory_at gs rex mode rm bs >>= λ m. Ok (place.Mem m.0, m.1))

-- whether a form takes a ModRM byte with these fields; forms that don't ask here read the byte themselves
abbrev pub takes_modrm : Form → Option Rex → ℕ → ℕ → ℕ → Bool
takes_modrm (rm_reg make) rex mode reg rm = true
takes_modrm (reg_rm make) rex mode reg rm = true
takes_modrm rm_byte_imm rex mode reg rm = reg == 0 && (not (mode == 3) || is_some rex || nat_lt rm 4)
takes_modrm (rm_quad n make) rex mode reg rm = reg == n
takes_modrm rm_unused rex mode reg rm = reg == 0
takes_modrm form rex mode reg rm = false

-- the ModRM byte and its operand: the reg field, the operand
unfoldable pub operand_at : Form → Bool → Option Rex → List ℕ → Result ((ℕ × Place) × List ℕ) DraftFault
operand_at form gs rex bs = byte_at Short bs >>= λ m.
    if takes_modrm form rex (mode_field m.0) (reg_field m.0) (rm_field m.0)
    then (rm_at gs rex (mode_field m.0) (rm_field m.0) m.1 >>= λ p. Ok ((reg_field m.0, p.0), p.1))
    else Err Unknown

-- ---- what stands after the opcode

unfoldable pub imm_at : Width → Size → List ℕ → Result (ℤ × List ℕ) DraftFault
imm_at w size bs = number_at Short (size_bytes size) bs >>= λ v. Ok (immediate w size v.0, v.1)

-- the instruction, where there is one
abbrev pub made : Option Insn → List ℕ → Result (Draft × List ℕ) DraftFault
made None bs = Err Unknown
made (Some i) bs = Ok (whole i, bs)

-- an operand rm and an immediate, after the ModRM byte m that selected the instruction
abbrev pub rm_imm_at : Option (Width → Place → Source → Insn) → Size → Bool → Option Rex → ℕ → List ℕ
    → Result (Draft × List ℕ) DraftFault
rm_imm_at None size gs rex m bs = Err Unknown
rm_imm_at (Some make) size gs rex m bs =
    rm_at gs rex (mode_field m) (rm_field m) bs >>= λ p. imm_at (width_of rex) size p.1 >>= λ z.
    Ok (whole (make (width_of rex) p.0 (source.Imm z.0)), z.1)

-- an operand rm and the number of a bit, after the ModRM byte m that selected the operation
abbrev pub rm_bit_at : Option BitOp → Bool → Option Rex → ℕ → List ℕ → Result (Draft × List ℕ) DraftFault
rm_bit_at None gs rex m bs = Err Unknown
rm_bit_at (Some op) gs rex m bs =
    rm_at gs rex (mode_field m) (rm_field m) bs >>= λ p. number_at Short 1 p.1 >>= λ v.
    Ok (whole (insn.Bit op (width_of rex) p.0 v.0), v.1)

-- a register as the operand rm
abbrev pub register_at : (ℕ → Option (Reg → Insn)) → Option Rex → List ℕ → Result (Draft × List ℕ) DraftFault
register_at select rex bs = byte_at Short bs >>= λ m.
    if mode_field m.0 == 3
    then made (option_map (λ make. make (extended (b_bit rex) (rm_field m.0))) (select (reg_field m.0))) m.1
    else Err Unknown

unfoldable pub tail_at : Form → Bool → Option Rex → List ℕ → Result (Draft × List ℕ) DraftFault
tail_at (plain i) gs rex bs = Ok (whole i, bs)
tail_at (plain_w i) gs rex bs = Ok (whole i, bs)
tail_at (last_byte select) gs rex bs = byte_at Short bs >>= λ b. made (select b.0) b.1
tail_at (opcode_register make r) gs rex bs = Ok (whole (make (extended (b_bit rex) r)), bs)
tail_at (register_imm r) gs rex bs = number_at Short (if w_bit rex then 8 else 4) bs >>= λ v.
    Ok (
      whole (insn.Mov (width_of rex) (place.Reg (extended (b_bit rex) r))
          (source.Imm (if w_bit rex then cast_signed w64 v.0 else pos v.0))),
      v.1,
    )
tail_at (rm_reg make) gs rex bs =
    operand_at (rm_reg make) gs rex bs >>= λ o. Ok (whole (make (width_of rex) o.0.1 (extended (r_bit rex) o.0.0)), o.1)
tail_at (reg_rm make) gs rex bs =
    operand_at (reg_rm make) gs rex bs >>= λ o. Ok (whole (make (width_of rex) (extended (r_bit rex) o.0.0) o.0.1), o.1)
tail_at address gs rex bs = byte_at Short bs >>= λ m.
    if mode_field m.0 == 3 then Err Unknown else (memory_at gs rex (mode_field m.0) (rm_field m.0) m.1 >>= λ x.
    Ok (whole (insn.Lea (width_of rex) (extended (r_bit rex) (reg_field m.0)) x.0), x.1))
tail_at (rm_imm select size) gs rex bs =
    byte_at Short bs >>= λ m. rm_imm_at (select (reg_field m.0)) size gs rex m.0 m.1
tail_at rm_byte_imm gs rex bs =
    operand_at rm_byte_imm gs rex bs >>= λ o. imm_at Byte ib o.1 >>= λ z. Ok
    (whole (insn.«Test» Byte o.0.1 (source.Imm z.0)), z.1)
tail_at (rm_bit select) gs rex bs = byte_at Short bs >>= λ m. rm_bit_at (select (reg_field m.0)) gs rex m.0 m.1
tail_at (rm_quad n make) gs rex bs = operand_at (rm_quad n make) gs rex bs >>= λ o. Ok (whole (make o.0.1), o.1)
tail_at (rm_register select) gs rex bs = register_at select rex bs
tail_at (rm_register_w select) gs rex bs = register_at select rex bs
tail_at rm_unused gs rex bs = operand_at rm_unused gs rex bs >>= λ o. Ok (whole insn.Nop, o.1)
tail_at (imm_quad size) gs rex bs = imm_at Quad size bs >>= λ z. Ok (whole (insn.Push (source.Imm z.0)), z.1)
tail_at rax_imm gs rex bs =
    imm_at (width_of rex) id bs >>= λ z. Ok (
      whole
          (insn.«Test» (width_of rex) (place.Reg (register 0)) (source.Imm z.0)),
      z.1,
    )
tail_at al_imm gs rex bs =
    imm_at Byte ib bs >>= λ z. Ok (whole (insn.«Test» Byte (place.Reg (register 0)) (source.Imm z.0)), z.1)
tail_at (relative make size) gs rex bs = disp_at (size_bytes size) bs >>= λ z. Ok (jump make z.0, z.1)

-- ---- prefixes and opcodes

-- what stands after the opcode of a row, where there is one that takes these prefixes
abbrev pub row_at : Option Form → Bool → Option Rex → List ℕ → Result (Draft × List ℕ) DraftFault
row_at None gs rex bs = Err Unknown
row_at (Some form) gs rex bs = if permits form gs rex then tail_at form gs rex bs else Err Unknown

-- after the opcode byte op
unfoldable pub opcode_at : Bool → Option Rex → ℕ → List ℕ → Result (Draft × List ℕ) DraftFault
opcode_at gs rex op bs =
    if op == 0x0F
    then (if r_bit rex then Err Unknown else (byte_at Short bs >>= λ b. row_at (lookup b.0 two_byte) gs rex b.1))
    else row_at (lookup op one_byte) gs rex bs

abbrev pub is_rex : ℕ → Bool
is_rex b = nat_le 64 b && nat_lt b 80

abbrev pub rex_of : ℕ → Rex
rex_of b = record { w = b / 8 % 2 == 1; r = b / 4 % 2 == 1; x = b / 2 % 2 == 1; b = b % 2 == 1 }

-- after the byte b, which is REX or an opcode
unfoldable pub plain_at : Bool → ℕ → List ℕ → Result (Draft × List ℕ) DraftFault
plain_at gs b bs =
    if is_rex b
    then (byte_at Short bs >>= λ op. opcode_at gs (Some (rex_of b)) op.0 op.1)
    else opcode_at gs None b bs

-- ---- after F3

unfoldable pub f3_row_at : Option Rex → List ℕ → Result (Draft × List ℕ) DraftFault
f3_row_at rex bs = byte_at Short bs >>= λ op. row_at (lookup op.0 two_byte_f3) false rex op.1

unfoldable pub f3_escape_at : Rex → List ℕ → Result (Draft × List ℕ) DraftFault
f3_escape_at rex bs = byte_at Short bs >>= λ e. if e.0 == 0x0F then f3_row_at (Some rex) e.1 else Err Unknown

unfoldable pub f3_at : List ℕ → Result (Draft × List ℕ) DraftFault
f3_at bs = byte_at Short bs >>= λ b.
    if is_rex b.0
    then (if (rex_of b.0).w && (not (rex_of b.0).r && not (rex_of b.0).x) then f3_escape_at (rex_of b.0) b.1 else Err
    Unknown)
    else (if b.0 == 0x0F then f3_row_at None b.1 else Err Unknown)

-- ---- after the padding prefixes of a long NOP

unfoldable pub nop_tail_at : Option Rex → List ℕ → Result (Draft × List ℕ) DraftFault
nop_tail_at rex bs = byte_at Short bs >>= λ op. if op.0 == 0x1F then tail_at rm_unused false rex op.1 else Err Unknown

unfoldable pub nop_escape_at : Rex → List ℕ → Result (Draft × List ℕ) DraftFault
nop_escape_at rex bs = byte_at Short bs >>= λ e. if e.0 == 0x0F then nop_tail_at (Some rex) e.1 else Err Unknown

-- after the byte b
unfoldable pub nop_at : ℕ → List ℕ → Result (Draft × List ℕ) DraftFault
nop_at b bs =
    if is_rex b
    then (if (rex_of b).w || (rex_of b).r then Err Unknown else nop_escape_at (rex_of b) bs)
    else (if b == 0x0F then nop_tail_at None bs else Err Unknown)

unfoldable pub after_2e_at : List ℕ → Result (Draft × List ℕ) DraftFault
after_2e_at bs = byte_at Short bs >>= λ b. nop_at b.0 b.1

-- after a 66: any more of them
unfoldable pub padded_at : List ℕ → Result (Draft × List ℕ) DraftFault
padded_at [] = Err Short
padded_at (b ∷ bs) = if b == 0x66 then padded_at bs else (if b == 0x2E then after_2e_at bs else nop_at b bs)

-- after the first 66
unfoldable pub after_66_at : List ℕ → Result (Draft × List ℕ) DraftFault
after_66_at [] = Err Short
after_66_at (b ∷ bs) = if b == 0x90 then Ok (whole insn.Nop, bs) else padded_at (b ∷ bs)

-- after the prefix 65
unfoldable pub after_65_at : List ℕ → Result (Draft × List ℕ) DraftFault
after_65_at bs = byte_at Short bs >>= λ b. plain_at true b.0 b.1

-- an instruction or jump, whatever the number of its bytes
unfoldable pub draft_at : List ℕ → Result (Draft × List ℕ) DraftFault
draft_at bs = byte_at Short bs >>= λ b.
    if b.0 == 0x65 then after_65_at b.1 else
    if b.0 == 0xF3 then f3_at b.1 else
    if b.0 == 0x66 then after_66_at b.1 else
    if b.0 == 0x2E then after_2e_at b.1 else plain_at false b.0 b.1

-- ---- the bound of fifteen bytes: only padding can pass it

-- the least number of bytes of an operand that begins so, where x says that it has a SIB byte
abbrev pub least_sib : ℕ → List ℕ → ℕ
least_sib mode [] = disp_bytes mode 0
least_sib mode (s ∷ bs) = disp_bytes mode (rm_field s)

abbrev pub least_operand : Bool → List ℕ → ℕ
least_operand x [] = if x then 2 else 1
least_operand x (m ∷ bs) =
    if mode_field m == 3 then 1 else
    if rm_field m == 4 then 2 + least_sib (mode_field m) bs else 1 + disp_bytes (mode_field m) (rm_field m)

-- the same of what stands after 0F, after REX, and after padding
abbrev pub least_nop_tail : Bool → List ℕ → ℕ
least_nop_tail x [] = 1 + least_operand x []
least_nop_tail x (op ∷ bs) = 1 + least_operand x bs

abbrev pub least_escape : Bool → List ℕ → ℕ
least_escape x [] = 1 + least_nop_tail x []
least_escape x (e ∷ bs) = 1 + least_nop_tail x bs

abbrev pub least_nop : List ℕ → ℕ
least_nop [] = 3
least_nop (b ∷ bs) = if is_rex b then 1 + least_escape (rex_of b).x bs else 1 + least_nop_tail false bs

unfoldable pub least_padded : List ℕ → ℕ
least_padded [] = 3
least_padded (b ∷ bs) =
    if b == 0x66 then 1 + least_padded bs else (if b == 0x2E then 1 + least_nop bs else least_nop (b ∷ bs))

abbrev pub least_66 : List ℕ → ℕ
least_66 [] = 1
least_66 (b ∷ bs) = if b == 0x90 then 1 else least_padded (b ∷ bs)

-- whether an instruction that begins so may end within fifteen bytes
unfoldable pub fits : List ℕ → Bool
fits [] = true
fits (b ∷ bs) = if b == 0x66 then nat_le (1 + least_66 bs) 15 else true

-- the instruction at an address and its length
abbrev pub bounded : List ℕ → ℕ → Result (Draft × List ℕ) DraftFault → Result (Insn × ℕ) DecodeFault
bounded bs at (Ok d) =
    if nat_lt 15 (length bs - length d.1) then Err fault.TooLong
    else Ok (resolve ((at + (length bs - length d.1)) % 2 ^ 64) d.0, length bs - length d.1)
bounded bs at (Err Short) = if fits bs then Err fault.Short else Err fault.TooLong
bounded bs at (Err Unknown) = Err fault.Unknown

unfoldable pub decode_at : List ℕ → ℕ → Result (Insn × ℕ) DecodeFault
decode_at bs at = bounded bs at (draft_at bs)
