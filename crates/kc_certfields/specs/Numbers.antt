-- Reading numbers of a certificate, this project's own. They are little-endian.
use Rattle.std.specs.Prelude.{ℕ, ◌<◌, nat_lt, if◌then◌else◌, List, [], ◌∷◌, length, take, Result, Ok, Err}
use Rattle.std.specs.Int.{w16, w32, w64, from_le_bytes}
use Rattle.kc_certfields.specs.declared.fault.CertFault.{CertFault}
use Rattle.kc_certfields.specs.Rest.{Rest}
use Rattle.kc_certfields.specs.Reads.{Reading, past, short}

-- n bytes
unfoldable pub bytes_at : ℕ → Reading (List ℕ)
bytes_at n i = if nat_lt (length i.bytes) n then Err (short i) else Ok (take n i.bytes, past n i)

abbrev pub first_of : List ℕ → Rest → Result (ℕ × Rest) CertFault
first_of [] i = Err (short i)
first_of (b ∷ bs) i = Ok (b, past 1 i)

unfoldable pub u8_at : Reading ℕ
u8_at i = first_of i.bytes i

unfoldable pub u16_at : Reading ℕ
u16_at i = if nat_lt (length i.bytes) 2 then Err (short i) else Ok (from_le_bytes w16 (take 2 i.bytes), past 2 i)

unfoldable pub u32_at : Reading ℕ
u32_at i = if nat_lt (length i.bytes) 4 then Err (short i) else Ok (from_le_bytes w32 (take 4 i.bytes), past 4 i)

unfoldable pub u64_at : Reading ℕ
u64_at i = if nat_lt (length i.bytes) 8 then Err (short i) else Ok (from_le_bytes w64 (take 8 i.bytes), past 8 i)
