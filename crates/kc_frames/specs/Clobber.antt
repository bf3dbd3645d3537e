-- What events may write, this project's own: stacks and tracked words, where a lesser clobber is a subset.
use Rattle.std.specs.Prelude.{◌≡◌, ℕ, ◌+◌, ◌^◌, Bool, ◌&&◌, bit_or}
use Rattle.std.specs.Int.{bit_at}
use Rattle.kc_shapes.specs.Sets.{IsSet, is_subset, union, all_below, set_rank}
use Rattle.kc_frames.specs.ClobberSets.{ClobberSets}

-- 16 stacks and 40 words
pub record IsClobber (c : ClobberSets) : Type 0 where
  pub stacks_fit : IsSet 16 c.stacks
  pub words_fit : IsSet 40 c.words

abbrev pub HasStack : ClobberSets → ℕ → Type 0
HasStack c s = bit_at c.stacks s ≡ 1

abbrev pub HasWord : ClobberSets → ℕ → Type 0
HasWord c w = bit_at c.words w ≡ 1

abbrev pub nothing_written : ClobberSets
nothing_written = record { stacks = 0; words = 0 }

abbrev pub with_stack : ClobberSets → ℕ → ClobberSets
with_stack c s = record c { stacks = bit_or c.stacks (2 ^ s) }

abbrev pub with_word : ClobberSets → ℕ → ClobberSets
with_word c w = record c { words = bit_or c.words (2 ^ w) }

abbrev pub clobber_below : ClobberSets → ClobberSets → Bool
clobber_below lesser greater = is_subset lesser.stacks greater.stacks && is_subset lesser.words greater.words

abbrev pub clobber_joined : ClobberSets → ClobberSets → ClobberSets
clobber_joined c d = record { stacks = union c.stacks d.stacks; words = union c.words d.words }

abbrev pub clobber_top : ClobberSets
clobber_top = record { stacks = all_below 16; words = all_below 40 }

abbrev pub clobber_rank : ClobberSets → ℕ
clobber_rank c = set_rank 16 c.stacks + set_rank 40 c.words
