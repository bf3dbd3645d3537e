-- The bytes of a sink after several writes. By cases of whether the sink reports its bytes: where it does, each write
-- is
-- an equation of lists, and two of them compose by the associativity of `++`. No number is left to `omega` but that a
-- count above 0 isn't 0.
use Rattle.std.proofs.Common.{◌≡◌, ℕ, zero, suc, ◌<◌, List, [], ◌++◌, refl, sym, append_assoc, append-nil, arith}
use Rattle.std.specs.Prelude.{Option, Some, None, Ok}
use Rattle.kc_io.specs.Sink.{refused_length}
use Rattle.std.specs.Io.KnownBytes.{Appends}

-- two pieces one after the other are their joined bytes
pub Appends-both : (a b c : Option (List ℕ)) (xs ys : List ℕ) → Appends a b xs → Appends b c ys → Appends a c (xs ++ ys)
Appends-both None b c xs ys first second = tt
Appends-both (Some old) None c xs ys first second = absurd first
Appends-both (Some old) (Some mid) None xs ys first second = absurd second
Appends-both (Some old) (Some mid) (Some new) xs ys first second = rw (second, first) (append_assoc old xs ys)

-- no piece
pub Appends-none : (a : Option (List ℕ)) → Appends a a []
Appends-none None = tt
Appends-none (Some old) = sym (append-nil old)

-- a write that takes some bytes refuses nothing
pub taken_some : (refused n : ℕ) (piece : List ℕ) → 0 < n → refused_length refused (Ok n) piece ≡ refused
taken_some refused zero piece some = absurd (omega arith)
taken_some refused (suc n) piece some = refl
