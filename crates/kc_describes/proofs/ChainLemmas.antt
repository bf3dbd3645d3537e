-- The newest activation of a chain, which isn't empty where its oldest interrupted the user, is one of the chain.
use Rattle.std.proofs.Common.{◌^◌, ◌<◌, List, [], ◌∷◌, All}
use Rattle.std.proofs.lemmas.List.Elements.{All-head, All-tail}
use Rattle.kc_exec.specs.declared.state.Activation.{Activation}
use Rattle.kc_describes.specs.Chain.{newest_of, OnlyOldestIsUser}
use Rattle.kc_describes.specs.Widths.{IsActivation}

last_all : (P : Activation → Type 0) (a : Activation) (newer : List Activation) → All P (a ∷ newer)
    → P (newest_of (a ∷ newer))
last_all P a [] all = All-head P a [] all
last_all P a (b ∷ newer) all = last_all P b newer (All-tail P a (b ∷ newer) all)

-- what is true of each activation is true of the newest one
pub newest_all : (P : Activation → Type 0) (chain : List Activation) → OnlyOldestIsUser chain → All P chain
    → P (newest_of chain)
newest_all P [] some all = absurd some
newest_all P (a ∷ newer) some all = last_all P a newer all

pub newest_base : (chain : List Activation) → OnlyOldestIsUser chain → All IsActivation chain
    → (newest_of chain).base < 2 ^ 64
newest_base chain some all = (newest_all IsActivation chain some all).base
