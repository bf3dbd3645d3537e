-- Tests on Bool and Option with their outcomes: which arm a choice took, and what is there where something is.
use Rattle.std.specs.Prelude.{is_some}
use Rattle.std.proofs.Common.{◌≡◌, Bool, true, false, cond, Option, Some, None, ◌⊎◌, inl, inr, refl, ap}

pub chosen : {A : Type 0} (b : Bool) (x y z : A) → cond b x y ≡ z → ((b ≡ true) × (x ≡ z)) ⊎ ((b ≡ false) × (y ≡ z))
chosen true x y z e = inl (refl, e)
chosen false x y z e = inr (refl, e)

pub some-is : {A : Type 0} (o : Option A) → is_some o ≡ true → (x : A) × (o ≡ Some x)
some-is (Some x) e = (x, refl)
some-is None e = absurd cc

pub is-some : {A : Type 0} (o : Option A) (x : A) → o ≡ Some x → is_some o ≡ true
is-some o x e = ap is_some e
