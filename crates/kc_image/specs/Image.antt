-- What an image file means: segments of bytes by address, and symbols by name.
use Rattle.std.specs.Prelude.{ℕ, zero, suc, ◌+◌, ◌-◌, Bool, ◌&&◌, nat_le, nat_lt, max, min, List, [], ◌∷◌, take, drop, map, slice_index, Option, Some, None, if◌then◌else◌}
use Rattle.std.specs.List.{list_any, AllPairs}
use Rattle.std.specs.Map.{lookup}
use Rattle.std.specs.Str.{bytes_eq}
use Rattle.kc_words.specs.Range.{Range}
use Rattle.kc_words.specs.Span.{Meets}
use Rattle.kc_image.specs.declared.segments.Place.{Place}

-- a loaded segment: its addresses, and its bytes in the file, which the first addresses hold
pub record Segment : Type 0 where
  pub range : Range
  pub bytes : List ℕ

-- each kept symbol's name and address
abbrev pub Symbols : Type 0
Symbols = List (List ℕ × ℕ)

-- the segments, and the kept symbols, both in the file's order
pub record Contents : Type 0 where
  pub segments : List Segment
  pub symbols : List (List ℕ × ℕ)

-- what the file holds at a place
abbrev pub segment_at : List ℕ → Place → Segment
segment_at file p = record { range = p.span; bytes = take p.size (drop p.offset file) }

abbrev pub segments_at : List ℕ → List Place → List Segment
segments_at file places = map (segment_at file) places

-- what the file holds at these places, with these symbols
abbrev pub contents : List ℕ → List Place → Symbols → Contents
contents file places symbols = record { segments = segments_at file places; symbols = symbols }

-- address a lies in the range
abbrev pub holds : Range → ℕ → Bool
holds r a = nat_le r.from a && nat_lt a r.to

-- some address lies in both ranges
abbrev pub meets : Range → Range → Bool
meets r s = nat_lt (max r.from s.from) (min r.to s.to)

-- some address of the range lies in one of the places
abbrev pub meets_any : Range → List Place → Bool
meets_any r places = list_any (λ p. meets r p.span) places

-- the place that holds address a
abbrev pub place_of_address : List Place → ℕ → Option Place
place_of_address [] a = None
place_of_address (p ∷ ps) a = if holds p.span a then Some p else place_of_address ps a

-- The loaded byte at address a: that of the segment that holds it, 0 past the segment's bytes in the file. An address
-- in no segment has none.
abbrev pub loaded : List Segment → ℕ → Option ℕ
loaded [] a = None
loaded (s ∷ ss) a = if holds s.range a then Some (slice_index s.bytes (a - s.range.from)) else loaded ss a

-- no address lies in two of the segments
abbrev pub AreApart : List Segment → Type 0
AreApart ss = AllPairs (λ s t. ¬ Meets s.range t.range) ss

-- the address of the first symbol of this name
abbrev pub address_of : Symbols → List ℕ → Option ℕ
address_of symbols name = lookup (bytes_eq name) symbols

-- a byte, where there is one, and those after it
abbrev pub followed : Option ℕ → List ℕ → List ℕ
followed None rest = []
followed (Some b) rest = b ∷ rest

-- the loaded bytes that follow each other from address a on, at most so many
unfoldable pub run : List Segment → ℕ → ℕ → List ℕ
run ss a zero = []
run ss a (suc most) = followed (loaded ss a) (run ss (a + 1) most)
