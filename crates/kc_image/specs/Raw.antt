-- Raw images, this project's own: the letters ENTRYRAW, the load address, and the code up to the file's end.
use Rattle.std.specs.Prelude.{ℕ, ◌+◌, ◌-◌, ◌^◌, Bool, nat_eq, nat_le, nat_lt, List, [], ◌∷◌, length, Result, Ok}
use Rattle.std.specs.List.{starts_with}
use Rattle.kc_image.specs.declared.fault.ImageFault.{ImageFault}
use Rattle.kc_image.specs.declared.fault.ImageKind.TheVariants.{HeaderOut, SegmentOut}
use Rattle.kc_image.specs.declared.segments.Place.{Place}
use Rattle.kc_image.specs.declared.raw.TheConstants.{RAW_MAGIC, RAW_ADDRESS, RAW_HEADER}
use Rattle.kc_image.specs.Field.{xword}
use Rattle.kc_rules.specs.Rules.{refuse, ◌>>=◌}
use Rattle.kc_image.specs.Fault.{fault}
use Rattle.kc_image.specs.Image.{Contents, contents}

abbrev pub is_raw : List ℕ → Bool
is_raw file = starts_with nat_eq file RAW_MAGIC

-- where the code lies
abbrev pub code_place : List ℕ → Place
code_place file =
    let address = xword file RAW_ADDRESS in
    let size = length file - RAW_HEADER in
    record { span = record { from = address; to = address + size }; offset = RAW_HEADER; size = size }

-- one segment and no symbols
unfoldable pub raw : List ℕ → Result Contents ImageFault
raw file = do
  ok ← refuse (nat_lt (length file) RAW_HEADER) (fault HeaderOut (length file))
  ok ← refuse (nat_le (2 ^ 64) (xword file RAW_ADDRESS + (length file - RAW_HEADER))) (fault SegmentOut RAW_ADDRESS)
  Ok (contents file (code_place file ∷ []) [])
