-- The laws of clobbers: the `Domain` of `Clobber` cites these.
use Rattle.std.proofs.Common.{◌≡◌, ℕ, ◌+◌, ◌≤◌, ◌^◌, true, refl, arith}
use Rattle.std.proofs.lemmas.Bool.{and_parts}
use Rattle.kc_lattice.specs.Laws.{Laws, AllAlike}
use Rattle.kc_lattice.specs.PairLaws.{both_laws}
use Rattle.kc_lattice.specs.declared.both.Both.{Both}
use Rattle.kc_shapes.specs.Sets.{is_subset}
use Rattle.kc_shapes.specs.SetLaws.{set_laws, set_rank-le, subset_bit}
use Rattle.kc_shapes.specs.ShapeLaws.{reshaped_laws}
use Rattle.kc_frames.specs.ClobberSets.{ClobberSets}
use Rattle.kc_frames.specs.Clobber.{IsClobber, HasStack, HasWord, clobber_below, clobber_joined, clobber_top, clobber_rank}

abbrev parts : ClobberSets → Both ℕ ℕ
parts c = record { first = c.stacks; second = c.words }

abbrev of_parts : Both ℕ ℕ → ClobberSets
of_parts b = record { stacks = b.first; words = b.second }

pub clobber_laws : Laws IsClobber AllAlike clobber_below clobber_joined (λ x. clobber_top) clobber_rank
clobber_laws = reshaped_laws (both_laws (set_laws 16) (set_laws 40)) parts of_parts (λ x. refl) (λ y. refl) IsClobber
    (λ x h. (h.stacks_fit, h.words_fit)) (λ y h. record { stacks_fit = h.0; words_fit = h.1 }) (λ x y hx hy. (tt, tt))

pub clobber_rank-le : (c : ClobberSets) → clobber_rank c ≤ 2 ^ 40 + 2 ^ 16
clobber_rank-le c = omega (arith, set_rank-le 16 c.stacks, set_rank-le 40 c.words)

-- what a lesser clobber may write, a greater one may write too
pub stacks_grow : (c d : ClobberSets) (s : ℕ) → clobber_below c d ≡ true → HasStack c s → HasStack d s
stacks_grow c d s h k =
    subset_bit c.stacks d.stacks s (and_parts (is_subset c.stacks d.stacks) (is_subset c.words d.words) h).0 k

pub words_grow : (c d : ClobberSets) (w : ℕ) → clobber_below c d ≡ true → HasWord c w → HasWord d w
words_grow c d w h k =
    subset_bit c.words d.words w (and_parts (is_subset c.stacks d.stacks) (is_subset c.words d.words) h).1 k
