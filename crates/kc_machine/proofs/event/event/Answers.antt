use Rattle.std.proofs.Common.{◌≡◌, ℕ, Bool, true, false, cond, eqb, List, [], ◌∷◌, Option, Some, None, refl, ap, sym, ◌∙◌, subst}
use Rattle.std.proofs.lemmas.Bool.{eqb-true}
use Rattle.kc_regions.specs.declared.entry.Gate.{Gate}
use Rattle.kc_regions.specs.Lookup.{gate_of}
use Rattle.kc_machine.proofs.event.event.Goals as goal

-- the gate that is found for a vector has it
found-here : (b : Bool) (v : ℕ) (x g : Gate) (rest : Option Gate) → eqb x.vector v ≡ b → (rest ≡ Some g → g.vector ≡ v)
    → cond b (Some x) rest ≡ Some g → g.vector ≡ v
found-here true v x g rest is others e =
    let same : x ≡ g = cc (e) in sym (ap (λ (y : Gate). y.vector) same) ∙ eqb-true x.vector v is
found-here false v x g rest is others e = others e

found-vector : (gates : List Gate) (v : ℕ) (g : Gate) → gate_of gates v ≡ Some g → g.vector ≡ v
found-vector [] v g e = absurd (let k : ◌≡◌ {A = Option Gate} None (Some g) = e in cc)
found-vector (x ∷ xs) v g e = found-here (eqb x.vector v) v x g (gate_of xs v) refl (found-vector xs v g) e

pub enter-requires : goal.enter-requires
enter-requires c =
    let gates = c.args.cfg.now.gates in
    let g = c.in-Some.gate in
    let found = sym c.in-Some.ensures.value in
    subst (λ (v : ℕ). gate_of gates v ≡ Some g) (sym (found-vector gates c.args.vector g found)) found
