-- What the ranges of a valid description say of one gate and of the TSS.
use Rattle.std.proofs.Common.{◌≡◌, ℕ, zero, suc, ◌+◌, ◌^◌, ◌<◌, ◌≤◌, Bool, true, false, cond, List, [], ◌∷◌, length, Option, Some, None, arith, lit<, subst}
use Rattle.std.specs.List.{All, find}
use Rattle.std.proofs.lemmas.List.Elements.{All-contains}
use Rattle.kc_regions.specs.declared.entry.Gate.{Gate}
use Rattle.kc_regions.specs.Description.{Description}
use Rattle.kc_regions.specs.Lookup.{gate_of}
use Rattle.kc_regions.specs.Ranges.{IsGateInRange, IsRegionInRange}
use Rattle.kc_regions.specs.Valid.{IsValid}

-- the first of two, or one of the others
pick : (P : Gate → Type 0) (b : Bool) (g h : Gate) (rest : Option Gate) → P g → (rest ≡ Some h → P h)
    → cond b (Some g) rest ≡ Some h → P h
pick P true g h rest p others e = let same : g ≡ h = cc (e) in subst P same p
pick P false g h rest p others e = others e

found-has : (P : Gate → Type 0) (test : Gate → Bool) (gs : List Gate) (h : Gate) → All P gs → find test gs ≡ Some h
    → P h
found-has P test [] h all e = absurd (let k : ◌≡◌ {A = Option Gate} None (Some h) = e in cc)
found-has P test (g ∷ gs) h all e =
    pick P (test g) g h (find test gs) (all 0 g (omega arith))
    (found-has P test gs h (λ k d lt. all (suc k) d (omega arith))) e

-- a gate's IST is at most 7
pub ist-range : (d : Description) (v : ℕ) (g : Gate) → IsValid d → gate_of d.gates v ≡ Some g → g.ist ≤ 7
ist-range d v g valid found = (found-has IsGateInRange _ d.gates g valid.ranges.gates found).ist

-- the TSS doesn't wrap, since a region holds it
pub tss-fits : (d : Description) → IsValid d → d.cpu.tss + 104 ≤ 2 ^ 64
tss-fits d valid =
    let area = valid.rules.tss in
    let last = area.3 103 (lit< tt) in
    let range : IsRegionInRange area.0 = All-contains IsRegionInRange d.regions area.0 valid.ranges.regions area.1 in
    omega (arith, last.1, range.span.1)
