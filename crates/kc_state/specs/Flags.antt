-- What is known of RFLAGS after arithmetic, this project's own: exact where both operands are known, and else by simple
-- rules.
use Rattle.std.specs.Prelude.{ℕ, ◌-◌, ◌/◌, ◌%◌, Bool, true, false, cond, not, ◌&&◌, ◌==◌, if◌then◌else◌, Option, Some, None, bit_and, bit_or, bit_xor}
use Rattle.std.specs.Int.{bit_at}
use Rattle.kc_bits.specs.KnownBits.{KnownBits}
use Rattle.kc_bits.specs.Bits.{flipped, bits_and, bits_or, bits_xor, bits_add, bits_sub, bits_cut, bits_single}
use Rattle.kc_insn.specs.declared.insn.AluOp.{AluOp}
use Rattle.kc_insn.specs.declared.insn.AluOp.TheVariants as alu
use Rattle.kc_space.specs.declared.tri.Tri.{Tri}
use Rattle.kc_space.specs.declared.tri.Tri.TheVariants.{No, Yes, Any}
use Rattle.kc_words.specs.Flags.{result_flags, sum_flags, difference_flags}

-- ---- masks of RFLAGS: Intel SDM vol. 1, "EFLAGS Register"

-- CF, PF, AF, ZF, SF and OF
abbrev pub status : ℕ
status = 0x8D5

-- the same without AF
abbrev pub logic_status : ℕ
logic_status = 0x8C5

abbrev pub cf : ℕ
cf = 0x1

abbrev pub zf : ℕ
zf = 0x40

abbrev pub sf : ℕ
sf = 0x80

abbrev pub cf_and_of : ℕ
cf_and_of = 0x801

-- ---- known flags

-- the flags of `forget` are no longer known, and then those of `ones` and `zeros` are
abbrev pub marked : KnownBits → ℕ → ℕ → ℕ → KnownBits
marked b forget ones zeros = record {
  zeros = bit_or (bit_and b.zeros (flipped forget)) zeros;
  ones = bit_or (bit_and b.ones (flipped forget)) ones;
}

-- a flag that is set and one that is clear
abbrev pub set_flag : ℕ → KnownBits → KnownBits
set_flag mask b = marked b mask mask 0

abbrev pub clear_flag : ℕ → KnownBits → KnownBits
clear_flag mask b = marked b mask 0 mask

-- these flags become exactly those of n, and the other status flags are unknown
abbrev pub exact_flags : KnownBits → ℕ → ℕ → KnownBits
exact_flags b defined n = marked b status (bit_and n defined) (bit_and (flipped n) defined)

-- ---- results of n bits, of operands that have 0 above them

abbrev pub alu_bits : AluOp → ℕ → KnownBits → KnownBits → KnownBits
alu_bits alu.Add n x y = bits_cut n (bits_add x y)
alu_bits alu.Or n x y = bits_or x y
alu_bits alu.And n x y = bits_and x y
alu_bits alu.Sub n x y = bits_cut n (bits_sub x y)
alu_bits alu.Xor n x y = bits_xor x y
alu_bits alu.Cmp n x y = bits_cut n (bits_sub x y)

-- what is known of bit i
abbrev pub known_flag : KnownBits → ℕ → Tri
known_flag b i = if bit_at b.ones i == 1 then Yes else if bit_at b.zeros i == 1 then No else Any

-- ---- flags of these

abbrev pub is_difference : AluOp → Bool
is_difference alu.Sub = true
is_difference alu.Cmp = true
is_difference _ = false

abbrev pub is_logic : AluOp → Bool
is_logic alu.Or = true
is_logic alu.And = true
is_logic alu.Xor = true
is_logic _ = false

-- a bit is known in both, and differs
abbrev pub differ : KnownBits → KnownBits → Bool
differ x y = not (bit_or (bit_and x.zeros y.ones) (bit_and x.ones y.zeros) == 0)

abbrev pub is_known_zero : Option ℕ → Bool
is_known_zero (Some n) = n == 0
is_known_zero None = false

-- ZF is 1 where the result is known to be 0, and 0 where it has a known 1 or is a difference of numbers that differ
abbrev pub known_zf : AluOp → KnownBits → KnownBits → KnownBits → Tri
known_zf op x y r =
    if is_known_zero (bits_single r) then Yes else
    if not (r.ones == 0) then No else
    if is_difference op && differ x y then No else Any

-- SF is the top bit of n
abbrev pub known_sf : ℕ → KnownBits → Tri
known_sf n r = known_flag r (n - 1)

-- the flags of the mask as far as they are known
abbrev pub with_tri : ℕ → Tri → KnownBits → KnownBits
with_tri mask Yes b = set_flag mask b
with_tri mask No b = clear_flag mask b
with_tri mask Any b = b

abbrev pub forgotten : KnownBits → ℕ → KnownBits
forgotten b mask = marked b mask 0 0

-- where an operand isn't known
abbrev pub known_flags : AluOp → ℕ → KnownBits → KnownBits → KnownBits → KnownBits
known_flags op n x y b =
    with_tri zf (known_zf op x y (alu_bits op n x y)) (with_tri sf (known_sf n (alu_bits op n x y))
    (cond (is_logic op) (clear_flag cf_and_of (forgotten b status)) (forgotten b status)))

-- where both are
abbrev pub exact_alu : AluOp → ℕ → ℕ → ℕ → KnownBits → KnownBits
exact_alu alu.Add n x y b = exact_flags b status (sum_flags n x y)
exact_alu alu.Or n x y b = exact_flags b logic_status (result_flags n (bit_or x y))
exact_alu alu.And n x y b = exact_flags b logic_status (result_flags n (bit_and x y))
exact_alu alu.Sub n x y b = exact_flags b status (difference_flags n x y)
exact_alu alu.Xor n x y b = exact_flags b logic_status (result_flags n (bit_xor x y))
exact_alu alu.Cmp n x y b = exact_flags b status (difference_flags n x y)

abbrev pub alu_flags_by : AluOp → ℕ → KnownBits → KnownBits → KnownBits → Option ℕ → Option ℕ → KnownBits
alu_flags_by op n x y b (Some i) (Some j) = exact_alu op n i j b
alu_flags_by op n x y b (Some i) None = known_flags op n x y b
alu_flags_by op n x y b None j = known_flags op n x y b

-- the flags after an operation of n bits, of flags of which b is known
abbrev pub alu_flags : AluOp → ℕ → KnownBits → KnownBits → KnownBits → KnownBits
alu_flags op n x y b = alu_flags_by op n x y b (bits_single x) (bits_single y)

-- after BT, BTS and BTR: CF is the operand's bit, ZF stays, and the other status flags are unknown
abbrev pub bit_flags : ℕ → KnownBits → KnownBits → KnownBits
bit_flags i x b = with_tri cf (known_flag x i) (forgotten b (status - zf))

-- ---- conditions, in three values

abbrev pub tri_not : Tri → Tri
tri_not No = Yes
tri_not Yes = No
tri_not Any = Any

abbrev pub tri_or : Tri → Tri → Tri
tri_or Yes t = Yes
tri_or No t = t
tri_or Any Yes = Yes
tri_or Any _ = Any

abbrev pub tri_differ : Tri → Tri → Tri
tri_differ Any t = Any
tri_differ No t = t
tri_differ Yes t = tri_not t

-- the condition of the upper three bits of a condition code: O, B, Z, BE, S, P, L, LE
abbrev pub holds_even : ℕ → KnownBits → Tri
holds_even n b =
    if n == 0 then known_flag b 11 else
    if n == 1 then known_flag b 0 else
    if n == 2 then known_flag b 6 else
    if n == 3 then tri_or (known_flag b 0) (known_flag b 6) else
    if n == 4 then known_flag b 7 else
    if n == 5 then known_flag b 2 else
    if n == 6 then tri_differ (known_flag b 7) (known_flag b 11) else
    tri_or (known_flag b 6) (tri_differ (known_flag b 7) (known_flag b 11))

-- the condition of a code; an odd code is the opposite of the even one below it
abbrev pub holds : ℕ → KnownBits → Tri
holds code b = if code % 2 == 0 then holds_even (code / 2) b else tri_not (holds_even (code / 2) b)
