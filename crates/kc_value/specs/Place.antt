-- Where a number lies: in one of up to 16 stacks, or outside all of them; this project's own.
use Rattle.std.specs.Prelude.{◌≡◌, ℕ, ◌<◌, List, get_or, Option, Some, None}
use Rattle.std.specs.Int.{bit_at}
use Rattle.kc_words.specs.Range.{Range}
use Rattle.kc_words.specs.Span.{Holds}

abbrev pub no_addresses : Range
no_addresses = record { from = 0; to = 0 }

abbrev pub stack_at : List Range → ℕ → Range
stack_at stacks s = get_or stacks s no_addresses

-- stack s holds n, or no stack does
abbrev pub HasPlace : List Range → Option ℕ → ℕ → Type 0
HasPlace stacks (Some s) n = (s < 16) × Holds (stack_at stacks s) n
HasPlace stacks None n = (s : ℕ) → s < 16 → Holds (stack_at stacks s) n → ⊥

-- the bit of a set of places: the stack's number, or 16 for outside
abbrev pub place_bit : Option ℕ → ℕ
place_bit (Some s) = s
place_bit None = 16

-- the place of n is in the set
abbrev pub LiesIn : ℕ → List Range → ℕ → Type 0
LiesIn set stacks n = (place : Option ℕ) × HasPlace stacks place n × (bit_at set (place_bit place) ≡ 1)
