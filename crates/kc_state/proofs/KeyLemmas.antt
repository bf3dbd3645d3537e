-- A stack of the description has a number below 16.
use Rattle.std.proofs.Common.{ℕ, Option, Some, None, arith}
use Rattle.kc_regions.specs.Description.{Description}
use Rattle.kc_regions.specs.Valid.{IsValid}
use Rattle.kc_regions.proofs.LayoutLemmas.{laid}
use Rattle.kc_value.specs.Made.{IsPlace}
use Rattle.kc_state.specs.AbsEvents.{HasStack, IsStackOf}
use Rattle.kc_state.specs.declared.key.Key.{Key}

place_of : (d : Description) (stack : Option ℕ) → IsValid d → IsStackOf d stack → IsPlace stack
place_of d (Some s) valid h = omega (arith, (laid d valid).stack_count, h)
place_of d None valid h = tt

pub key_place : (d : Description) (key : Key) → IsValid d → HasStack d key → IsPlace key.stack
key_place d key valid h = place_of d key.stack valid h
