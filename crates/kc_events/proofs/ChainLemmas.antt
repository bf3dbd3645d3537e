-- The newest activation is the last of the list.
use Rattle.std.proofs.Common.{◌≡◌, ℕ, suc, ◌-◌, List, [], ◌∷◌, length, Option, Some, None, IsSomeAnd, slice_get, arith, refl, ap, sym, ◌∙◌, subst}
use Rattle.kc_cpu.specs.declared.cpu.Mode.TheVariants.{User}
use Rattle.kc_exec.specs.declared.state.Activation.{Activation}
use Rattle.kc_events.specs.Allowed.{InterruptedUser}
use Rattle.kc_events.specs.Turns.{newest}

pub newest-last : (chain : List Activation) → newest chain ≡ slice_get chain (length chain - 1)
newest-last [] = refl
newest-last (a ∷ []) = refl
newest-last (a ∷ (b ∷ rest)) =
    let there : length (b ∷ rest) - 1 ≡ length rest = omega arith in
    let here : length (a ∷ (b ∷ rest)) - 1 ≡ suc (length rest) = omega arith in
    newest-last (b ∷ rest) ∙ ap (λ (k : ℕ). slice_get (b ∷ rest) k) there
    ∙ sym (ap (λ (k : ℕ). slice_get (a ∷ (b ∷ rest)) k) here)

-- whether it interrupted user code
pub interrupted-by : (chain : List Activation) (a : Activation) → newest chain ≡ Some a → a.saved.mode ≡ User
    → InterruptedUser chain
interrupted-by chain a e h = subst (λ (o : Option Activation). IsSomeAnd o (λ x. x.saved.mode ≡ User)) (sym e) h

pub interrupted-is : (chain : List Activation) (a : Activation) → newest chain ≡ Some a → InterruptedUser chain
    → a.saved.mode ≡ User
interrupted-is chain a e h = subst (λ (o : Option Activation). IsSomeAnd o (λ x. x.saved.mode ≡ User)) e h
