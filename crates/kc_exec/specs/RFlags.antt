-- The flags of RFLAGS: Intel SDM vol. 1, "EFLAGS Register" and "EFLAGS Condition Codes".
use Rattle.std.specs.Prelude.{ℕ, ◌+◌, ◌*◌, ◌/◌, ◌%◌, ◌^◌, Bool, not, ◌&&◌, ◌||◌, ◌==◌, cond, if◌then◌else◌, bit_and, bit_or}
use Rattle.std.specs.Int.{w64, bit_at, bit_not}

-- ---- places and masks

-- CF, PF, AF, ZF, SF and OF: bits 0, 2, 4, 6, 7 and 11
abbrev pub status : ℕ
status = 0x8D5

-- the same without AF, which AND, OR, XOR and TEST leave undefined
abbrev pub logic_status : ℕ
logic_status = 0x8C5

-- IF (bit 9), DF (bit 10) and AC (bit 18)
abbrev pub if_mask : ℕ
if_mask = 0x200

abbrev pub df_mask : ℕ
df_mask = 0x400

abbrev pub ac_mask : ℕ
ac_mask = 0x40000

-- What POPFQ and IRETQ load: CF, PF, AF, ZF, SF, TF, IF, DF, OF, AC and ID. RF, VM, IOPL, NT and the virtual flags are
-- 0 everywhere: this project's own.
abbrev pub loadable : ℕ
loadable = 0x240FD5

-- what SYSRETQ loads: SDM vol. 2, "SYSRET", "Operation"
abbrev pub sysret_mask : ℕ
sysret_mask = 0x3C7FD7

-- whether the flag at this place is set
abbrev pub is_set : ℕ → ℕ → Bool
is_set flags place = bit_at flags place == 1

abbrev pub with_set : ℕ → ℕ → ℕ
with_set flags mask = bit_or flags mask

abbrev pub with_clear : ℕ → ℕ → ℕ
with_clear flags mask = bit_and flags (bit_not w64 mask)

-- the flags that an instruction defines become those of `new`; the others stay, those too that the manual leaves
-- undefined (this project's own)
abbrev pub replaced : ℕ → ℕ → ℕ → ℕ
replaced defined new flags = bit_or (bit_and flags (bit_not w64 defined)) (bit_and new defined)

-- the flags that a word gives, with bit 1 set
abbrev pub loaded : ℕ → ℕ → ℕ
loaded mask word = bit_or (bit_and word mask) 2

-- ---- conditions

-- SF differs from OF
abbrev pub is_less_by : ℕ → Bool
is_less_by flags = not (bit_at flags 7 == bit_at flags 11)

-- the condition of the upper three bits of a condition code: O, B, Z, BE, S, P, L, LE
abbrev pub holds_even : ℕ → ℕ → Bool
holds_even n flags =
    if n == 0 then is_set flags 11 else
    if n == 1 then is_set flags 0 else
    if n == 2 then is_set flags 6 else
    if n == 3 then (is_set flags 0 || is_set flags 6) else
    if n == 4 then is_set flags 7 else
    if n == 5 then is_set flags 2 else
    if n == 6 then is_less_by flags else
    (is_set flags 6 || is_less_by flags)

-- the condition of a code; an odd code is the opposite of the even one below it
abbrev pub holds : ℕ → ℕ → Bool
holds code flags = if code % 2 == 0 then holds_even (code / 2) flags else not (holds_even (code / 2) flags)
