-- The tests by which the code asks the rules between the parts. Machinery: what each means stands in CrossRules.
use Rattle.std.specs.Prelude.{ℕ, ◌-◌, ◌^◌, Bool, ◌&&◌, ◌||◌, nat_eq, nat_lt, nat_le, cond, min, max}
use Rattle.std.specs.Int.{abs_diff}
use Rattle.kc_words.specs.Range.{Range}
use Rattle.kc_regions.specs.declared.region.Kind.{Kind}
use Rattle.kc_regions.specs.declared.region.Kind.TheVariants.{User}
use Rattle.kc_regions.specs.declared.region.Region.{Region}
use Rattle.kc_regions.specs.Region.{is_area, is_guard}

-- a span with an address lies on the side of the kind by its end or its beginning
abbrev pub ends_on_side : Kind → Range → Bool
ends_on_side User s = nat_le s.to (2 ^ 47)
ends_on_side _ s = nat_le (2 ^ 63) s.from

abbrev pub on_side : Kind → Range → Bool
on_side kind s = nat_le s.to s.from || ends_on_side kind s

-- g is a guard of at least 4,096 bytes that ends where the stack begins
abbrev pub guards : Region → Region → Bool
guards stack g = is_guard g.kind && nat_eq g.span.to stack.span.from && nat_le 4096 (g.span.to - g.span.from)

-- r is an area that holds the n bytes from a on
abbrev pub area_holds : ℕ → ℕ → Region → Bool
area_holds a n r = is_area r.kind && nat_le r.span.from a && nat_lt a r.span.to && nat_le n (r.span.to - a)

-- some byte lies in both words
abbrev pub words_meet : ℕ → ℕ → Bool
words_meet v w = nat_lt (abs_diff v w) 8

-- the word at this address meets neither RSP0 nor one of IST1 to IST7, by its distance from the TSS
abbrev pub clear_of_tss : ℕ → Bool
clear_of_tss place = nat_le 12 place && (nat_le place 28 || nat_le 92 place)

abbrev pub tss_apart : ℕ → ℕ → Bool
tss_apart tss word = cond (nat_le tss word) (clear_of_tss (word - tss)) (nat_le 4 (tss - word))

-- no address lies in both spans
abbrev pub spans_apart : Range → Range → Bool
spans_apart s t = nat_le (min s.to t.to) (max s.from t.from)
