use Rattle.std.proofs.Common.{◌≡◌, ◌++◌, drop}
use Rattle.std.specs.List.{flat_map}
use Rattle.kc_gen.proofs.parts.joined.Given as goal

-- what is joined and the parts that are left give all
abbrev pub invariant-loop-part : goal.invariant-loop-part
invariant-loop-part l =
    l.lines.items ++ flat_map (λ p. p.now) (drop l.part-index l.parts) ≡ flat_map (λ p. p.now) l.parts
