-- Texts written one after the other. Both are written: their bytes are joined. The first one is refused: what was added
-- is a prefix of the whole too. The second one is: the first, and then a prefix of the second. A text that is written
-- piece by piece is what was written and what is left of it (`Printed`). `omega` is left the counts and the lengths.
use Rattle.std.proofs.Common.{◌≡◌, ◌∙◌, refl, sym, subst, append_assoc, append-nil, ℕ, ◌+◌, ◌≤◌, List, [], ◌++◌, length, take, arith}
use Rattle.std.proofs.Math.Seq.{take-append-add}
use Rattle.std.proofs.lemmas.Grind.{common_steps}
use Rattle.std.specs.Io.KnownBytes.{Appends}
use Rattle.kc_io.specs.Sink.{SinkState, SinkKept, Writes, Refuses}
use Rattle.kc_io.proofs.Written.{Appends-both, Appends-none}

pub Writes-none : (a : SinkState) → Writes a a []
Writes-none a = record { added = Appends-none a.written; quiet = λ i. a.refused }

pub SinkKept-both : (a b c : SinkState) → SinkKept a b → SinkKept b c → SinkKept a c
SinkKept-both a b c first second =
    record { later = omega (arith, first.later, second.later); plan = second.plan ∙ first.plan }

module _ (a b : SinkState) (xs ys : List ℕ) where
  pub Writes-both : (c : SinkState) → Writes a b xs → Writes b c ys → Writes a c (xs ++ ys)
  Writes-both c first second = record {
    added = Appends-both a.written b.written c.written xs ys first.added second.added;
    quiet = second.quiet ∙ first.quiet;
  }

  pub Refuses-first : Refuses a b xs → Refuses a b (xs ++ ys)
  Refuses-first refused =
      let n = refused.prefix.0 in
      let within : n + b.refused ≤ length xs = refused.prefix.1 in
      let cut : take n (xs ++ ys) ≡ take n xs = grind (arith, common_steps, within) in
      let fits : n + b.refused ≤ length (xs ++ ys) = grind (arith, common_steps, within) in
      record {
        rose = refused.rose;
        prefix = (n, fits, rw cut refused.prefix.2);
        some = refused.some;
      }

  pub Refuses-second : (c : SinkState) → Writes a b xs → SinkKept a b → Refuses b c ys → Refuses a c (xs ++ ys)
  Refuses-second c first kept refused =
      let n = refused.prefix.0 in
      let within : n + c.refused ≤ length ys = refused.prefix.1 in
      let fits : length xs + n + c.refused ≤ length (xs ++ ys) = grind (arith, common_steps, within) in
      let added : Appends a.written c.written (xs ++ take n ys) =
      Appends-both a.written b.written c.written xs (take n ys) first.added refused.prefix.2 in
      record {
        rose = let rose = refused.rose in let later = kept.later in omega (arith, rose, later);
        prefix = (length xs + n, fits, rw (take-append-add xs ys n) added);
        some = refused.some;
      }

-- ---- a text that is written piece by piece

-- a first part of the whole text was written, and this is left of it
pub record Printed (a b : SinkState) (whole left : List ℕ) : Type 0 where
  pub done : List ℕ
  pub split : whole ≡ done ++ left
  pub writes : Writes a b done
  pub kept : SinkKept a b

pub Printed-none : (a : SinkState) (whole : List ℕ) → Printed a a whole whole
Printed-none a whole = record {
  done = [];
  split = refl;
  writes = Writes-none a;
  kept = record { later = omega arith; plan = refl };
}

module _ (a b : SinkState) (whole piece left : List ℕ) (before : Printed a b whole (piece ++ left)) where
  -- the next piece is written
  pub Printed-more : (c : SinkState) → Writes b c piece → SinkKept b c → Printed a c whole left
  Printed-more c writes kept = record {
    done = before.done ++ piece;
    split = before.split ∙ sym (append_assoc before.done piece left);
    writes = Writes-both a b before.done piece c before.writes writes;
    kept = SinkKept-both a b c before.kept kept;
  }

  -- or refused
  pub Printed-refused : (c : SinkState) → Refuses b c piece → Refuses a c whole
  Printed-refused c refused =
      subst (λ (t : List ℕ). Refuses a c t) (sym before.split)
      (Refuses-second a b before.done (piece ++ left) c before.writes before.kept
      (Refuses-first b c piece left refused))

-- all that is left is written
pub Printed-last : (a b c : SinkState) (whole left : List ℕ) → Printed a b whole left → Writes b c left
    → Writes a c whole
Printed-last a b c whole left before writes =
    subst (λ (t : List ℕ). Writes a c t) (sym before.split)
    (Writes-both a b before.done left c before.writes writes)

-- or refused
pub Printed-cut : (a b c : SinkState) (whole left : List ℕ) → Printed a b whole left → Refuses b c left
    → Refuses a c whole
Printed-cut a b c whole left before refused =
    subst (λ (t : List ℕ). Refuses a c t) (sym before.split)
    (Refuses-second a b before.done left c before.writes before.kept refused)

-- nothing is left
pub Printed-whole : (a b : SinkState) (whole : List ℕ) → Printed a b whole [] → Writes a b whole
Printed-whole a b whole before =
    subst (λ (t : List ℕ). Writes a b t) (sym (before.split ∙ append-nil before.done)) before.writes
