-- When what the analysis knows of a number covers what the processor has. This project's own.
use Rattle.std.specs.Prelude.{◌≡◌, ℕ, ◌+◌, ◌*◌, ◌%◌, ◌^◌, ◌<◌, bit_and}
use Rattle.std.specs.Int.{bit_at}
use Rattle.kc_bits.specs.KnownBits.{KnownBits}
use Rattle.kc_bits.specs.Bits.{IsValid, StandsFor, flipped, bits_cut}
use Rattle.kc_bits.specs.BitsLaws.{Has}
use Rattle.kc_regions.specs.Description.{Description}
use Rattle.kc_regions.specs.Region.{stack_of}
use Rattle.kc_value.specs.AbsValue.{AbsValue}
use Rattle.kc_value.specs.Place.{HasPlace}
use Rattle.kc_value.specs.Value.{Represents}
use Rattle.kc_value.specs.declared.env.ValueEnv.{ValueEnv}
use Rattle.kc_words.specs.Flags.{bits_of}
use Rattle.kc_words.specs.declared.width.Width.{Width}
use Rattle.kc_words.specs.declared.width.Width.TheVariants.{Quad}
use Rattle.kc_exec.specs.Admitted.{model_flags}

-- ---- known bits

-- these are known bits of the word n
pub record Covers (b : KnownBits) (n : ℕ) : Type 0 where
  pub valid : IsValid b
  pub fits : n < 2 ^ 64
  pub stands : StandsFor b n

-- and n is an operand of this width
pub record CoversOperand (w : Width) (b : KnownBits) (n : ℕ) : Type 0 where
  pub fits : n < 2 ^ bits_of w
  pub covers : Covers b n

-- The analysis forgets some flags, and knows the given ones and zeros afterwards; the processor replaces the defined
-- flags by those of `new`. What is given is right.
pub record Gives (forget ones zeros defined new : ℕ) : Type 0 where
  pub forget_fits : forget < 2 ^ 64
  pub defined_fits : defined < 2 ^ 64
  pub new_fits : new < 2 ^ 64
  pub forgets : Has forget defined
  pub ones_given : Has (bit_and new defined) ones
  pub zeros_given : Has (bit_and (flipped new) defined) zeros

-- n is an operand of this width, and the bits of b that the width has are known bits of it
pub record HasBits (w : Width) (b : KnownBits) (n : ℕ) : Type 0 where
  pub fits : n < 2 ^ bits_of w
  pub known : StandsFor (bits_cut (bits_of w) b) n

-- the lower halves of two words, one above the other
abbrev pub joined : KnownBits → KnownBits → KnownBits
joined high low = record {
  zeros = high.zeros % 2 ^ 32 * 2 ^ 32 + low.zeros % 2 ^ 32;
  ones = high.ones % 2 ^ 32 * 2 ^ 32 + low.ones % 2 ^ 32;
}

-- bit 1 is set, and no flag outside the model is
pub record AreModelled (flags : ℕ) : Type 0 where
  pub fixed : bit_at flags 1 ≡ 1
  pub modelled : bit_and flags model_flags ≡ flags

-- ---- values

-- the stacks of the description are those of the values
abbrev pub SamePlaces : Description → ValueEnv → Type 0
SamePlaces d env = (n : ℕ) → n < 2 ^ 64 → HasPlace env.stacks (stack_of d.regions n) n

-- n is an operand of this width, of which v is known: bits of the width alone, but at 64 bits all that a value says
pub record StandsAt (env : ValueEnv) (w : Width) (v : AbsValue) (n : ℕ) : Type 0 where
  pub bits : HasBits w v.bits n
  pub whole : w ≡ Quad → Represents v env n
