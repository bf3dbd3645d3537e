-- What is kept of an image's instructions. Machinery of the fetch.
use Rattle.std.specs.Prelude.{◌≡◌, ℕ, Option, Some}
use Rattle.kc_insn.specs.declared.insn.Insn.{Insn}
use Rattle.kc_image.specs.Image.{Contents}
use Rattle.kc_events.specs.Fetched.{IsAt}
use Rattle.kc_machine.specs.declared.fetcher.Kept.{Kept}

-- that instruction, or none, is at the address, and no other is
pub record IsFetched (image : Contents) (at : ℕ) (found : Option (Insn × ℕ)) : Type 0 where
  pub spelled : IsAt image at found
  pub only : (other : Option (Insn × ℕ)) → IsAt image at other → other ≡ found

-- what is kept was fetched
abbrev pub IsKept : Contents → Kept → Type 0
IsKept image kept = IsFetched image kept.at (Some (kept.insn, kept.len))
