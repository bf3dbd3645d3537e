-- Changes of the newest activation, the last of the chain. Machinery: it cites the words by which a turn is defined.
use Rattle.std.specs.Prelude.{ℕ, List, [], ◌∷◌}
use Rattle.kc_exec.specs.declared.state.Activation.{Activation}
use Rattle.kc_events.specs.declared.delivery.DeliverEnd.{DeliverEnd}
use Rattle.kc_events.specs.declared.delivery.DeliverEnd.TheVariants.{Delivered, Stopped}

-- another newest activation
abbrev pub with_newest : Activation → List Activation → List Activation
with_newest n [] = []
with_newest n (a ∷ []) = n ∷ []
with_newest n (a ∷ (b ∷ rest)) = a ∷ with_newest n (b ∷ rest)

-- the newest activation has this base
abbrev pub with_base : ℕ → List Activation → List Activation
with_base base [] = []
with_base base (a ∷ []) = record a { base = base } ∷ []
with_base base (a ∷ (b ∷ rest)) = a ∷ with_base base (b ∷ rest)

-- the base from which a frame was pushed; 0 where none was
abbrev pub base_after : DeliverEnd → ℕ
base_after (Delivered base) = base
base_after Stopped = 0
