-- The chain with a new activation: it is the newest, the oldest stays, and what is live is live of the chain or of it.
-- By the list with one more at its end.
use Rattle.std.proofs.Common.{◌≡◌, ◌≢◌, ℕ, ◌⊎◌, inl, inr, List, [], ◌∷◌, ◌++◌, All, Contains, Option, Some, refl, sym, ap, subst}
use Rattle.std.specs.Option.{unwrap_or}
use Rattle.std.proofs.lemmas.List.Elements.{All-nil, All-cons, All-append, Contains-push_cases}
use Rattle.kc_regions.specs.Description.{Description}
use Rattle.kc_cpu.specs.declared.cpu.Mode.TheVariants.{User}
use Rattle.kc_exec.specs.Live.{IsLive, IsLiveFor}
use Rattle.kc_exec.specs.declared.state.Activation.{Activation}
use Rattle.kc_events.specs.Turns.{newest}
use Rattle.kc_describes.specs.Chain.{no_activation, newest_of, oldest_of, OnlyOldestIsUser}

newest_last : (chain : List Activation) (a : Activation) → newest (chain ++ a ∷ []) ≡ Some a
newest_last [] a = refl
newest_last (b ∷ []) a = refl
newest_last (b ∷ (c ∷ rest)) a = newest_last (c ∷ rest) a

pub newest_is : (chain : List Activation) (a : Activation) → newest_of (chain ++ a ∷ []) ≡ a
newest_is chain a = ap (λ (o : Option Activation). unwrap_or o no_activation) (newest_last chain a)

pub oldest_is : (chain : List Activation) (a : Activation) → OnlyOldestIsUser chain
    → oldest_of (chain ++ a ∷ []) ≡ oldest_of chain
oldest_is [] a some = absurd some
oldest_is (b ∷ rest) a some = refl

-- one that didn't interrupt the user
pub one_user : (chain : List Activation) (a : Activation) → OnlyOldestIsUser chain → a.saved.mode ≢ User
    → OnlyOldestIsUser (chain ++ a ∷ [])
one_user [] a some other = absurd some
one_user (b ∷ rest) a some other =
    let P : Activation → Type 0 = λ d. d.saved.mode ≢ User in
    (some.0, All-append P rest (a ∷ []) some.1 (All-cons P a [] other (All-nil P)))

pub each : (P : Activation → Type 0) (chain : List Activation) (a : Activation) → All P chain → P a
    → All P (chain ++ a ∷ [])
each P chain a all own = All-append P chain (a ∷ []) all (All-cons P a [] own (All-nil P))

-- live of the new chain is live of the old one, or of the new activation
pub live_cases : (cfg : Description) (chain : List Activation) (a : Activation) (x : ℕ)
    → IsLive cfg (chain ++ a ∷ []) x → IsLive cfg chain x ⊎ IsLiveFor cfg a x
live_cases cfg chain a x h =
    let among : Contains (chain ++ a ∷ []) h.1 = (h.0, h.2, h.3) in
    elim (Contains-push_cases chain a h.1 among) [
      | inl old ↦ inl (old.0, h.1, old.1, old.2, h.4)
      | inr is ↦ inr (subst (λ (b : Activation). IsLiveFor cfg b x) (sym is) h.4)
    ]
