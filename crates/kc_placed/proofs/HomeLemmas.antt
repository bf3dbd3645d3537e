-- The stack of a context's frame is one of the sixteen: by cases on what its key knows of the frame.
use Rattle.std.proofs.Common.{◌≡◌, ℕ, ◌<◌, Bool, true, false, Option, Some, None, subst}
use Rattle.kc_regions.specs.Description.{Description}
use Rattle.kc_regions.specs.Valid.{IsValid}
use Rattle.kc_value.specs.Made.{IsPlace}
use Rattle.kc_state.proofs.KeyLemmas.{key_place}
use Rattle.kc_state.proofs.StackLemmas.{is_place}
use Rattle.kc_state.specs.AbsEvents.{HasStack}
use Rattle.kc_state.specs.Places.{below_address, home_of, home_stack}
use Rattle.kc_state.specs.declared.key.Key.{Key}

module _ (d : Description) (valid : IsValid d) where
  home-of : (base : Option ℕ) (syscall : Bool) (stack : Option ℕ) → IsPlace stack → IsPlace (home_of d base syscall stack)
  home-of (Some base) syscall stack h = is_place d (below_address base 8) valid
  home-of None true stack h = tt
  home-of None false stack h = h

  pub home-below : (key : Key) (s : ℕ) → HasStack d key → home_stack d key ≡ Some s → s < 16
  home-below key s h e =
      subst (λ (o : Option ℕ). IsPlace o) e (home-of key.base key.syscall key.stack (key_place d key valid h))
