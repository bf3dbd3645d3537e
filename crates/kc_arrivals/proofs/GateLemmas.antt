-- The gates of events: one found for a vector has that vector, a valid description has the four that events need, and
-- a latch that is clear may be.
use Rattle.std.proofs.Common.{◌≡◌, ℕ, nat_eq, inl, inr, Bool, true, false, List, [], ◌∷◌, All, find, Option, Some, None, IsSome, refl, sym, ap, ◌∙◌, subst, arith}
use Rattle.std.proofs.lemmas.Bool.{eqb-true, false≢true}
use Rattle.std.proofs.lemmas.List.Elements.{All-head, All-tail}
use Rattle.kc_regions.specs.Description.{Description}
use Rattle.kc_regions.specs.Lookup.{gate_of}
use Rattle.kc_regions.specs.Ranges.{IsGateInRange}
use Rattle.kc_regions.specs.Valid.{IsValid}
use Rattle.kc_regions.specs.declared.entry.Gate.{Gate}
use Rattle.kc_rules.proofs.AnswerLemmas.{some_is}
use Rattle.kc_rules.proofs.TestLemmas.{chosen}
use Rattle.kc_space.specs.Latches.{TriStands}
use Rattle.kc_space.specs.declared.tri.Tri.{Tri}
use Rattle.kc_space.specs.declared.tri.Tri.TheVariants.{No, Yes, Any}
use Rattle.kc_state.specs.AbsEvents.{may_be_clear, is_gate}

-- a latch that is clear may be clear
pub clear_latch : (t : Tri) (set : Bool) → TriStands t set → set ≡ false → may_be_clear t ≡ true
clear_latch No set stands clear = refl
clear_latch Any set stands clear = refl
clear_latch Yes true stands clear = absurd (false≢true (sym clear))
clear_latch Yes false stands clear = absurd (false≢true stands)

-- the gate that is found has the vector, and is one of the list
pub found_gate : (gates : List Gate) (v : ℕ) (g : Gate) → gate_of gates v ≡ Some g → All IsGateInRange gates
    → (g.vector ≡ v) × IsGateInRange g
found_gate [] v g e all = absurd cc
found_gate (x ∷ xs) v g e all = elim (chosen (nat_eq x.vector v) (Some x) (find (λ z. nat_eq z.vector v) xs)
    (Some g) e) [
      | inl h ↦
          let same = some_is x g h.1 in (
            sym (ap (λ z. z.vector) same) ∙ eqb-true x.vector v h.0,
            subst IsGateInRange same
                (All-head IsGateInRange x xs all),
          )
      | inr h ↦ found_gate xs v g h.1 (All-tail IsGateInRange x xs all)
    ]

-- what is true of each gate with this vector is true of the one that is there
pub by_gate : (test : Gate → Bool) (gates : List Gate) (v : ℕ) (o : Option Gate) → gate_of gates v ≡ o → IsSome o
    → ((g : Gate) → gate_of gates v ≡ Some g → test g ≡ true) → is_gate test o ≡ true
by_gate test gates v (Some g) e there each = each g e
by_gate test gates v None e there each = absurd (false≢true there)

pub has_debug : (cfg : Description) → IsValid cfg → IsSome (gate_of cfg.gates 1)
has_debug cfg valid = valid.rules.gates 0 0 (omega arith)

pub has_nmi : (cfg : Description) → IsValid cfg → IsSome (gate_of cfg.gates 2)
has_nmi cfg valid = valid.rules.gates 1 0 (omega arith)

pub has_page_fault : (cfg : Description) → IsValid cfg → IsSome (gate_of cfg.gates 14)
has_page_fault cfg valid = valid.rules.gates 2 0 (omega arith)

pub has_check : (cfg : Description) → IsValid cfg → IsSome (gate_of cfg.gates 18)
has_check cfg valid = valid.rules.gates 3 0 (omega arith)
