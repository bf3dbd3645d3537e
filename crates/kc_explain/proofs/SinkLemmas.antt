-- Texts written one after the other. Both are written: their bytes are joined. The first one is refused: what was added
-- is a prefix of the whole too. The second one is: the first, and then a prefix of the second. Three texts are a first
-- two and a last one. `omega` is left the counts and the lengths.
use Rattle.std.proofs.Common.{◌≡◌, ◌∙◌, ℕ, ◌+◌, ◌≤◌, List, ◌++◌, length, take, arith}
use Rattle.std.proofs.Math.Seq.{take-append-add}
use Rattle.std.proofs.lemmas.Grind.{common_steps}
use Rattle.std.specs.Io.KnownBytes.{Appends}
use Rattle.std.specs.Prelude.{Result, Ok, Err, OnOk, OnErr}
use Rattle.kc_io.specs.Sink.{SinkState, SinkKept, Writes, Refuses}
use Rattle.kc_io.proofs.Written.{Appends-both}

pub on_err : {A E : Type 0} (result : Result A E) (P : Type 0) → P → OnErr result P
on_err (Ok x) P p = tt
on_err (Err e) P p = p

pub on_err_too : {A E : Type 0} (result : Result A E) (P Q : Type 0) → (P → Q) → OnErr result P → OnErr result Q
on_err_too (Ok x) P Q f p = tt
on_err_too (Err e) P Q f p = f p

pub on_ok_too : {A E : Type 0} (result : Result A E) (P Q : Type 0) → (P → Q) → OnOk result P → OnOk result Q
on_ok_too (Ok x) P Q f p = f p
on_ok_too (Err e) P Q f p = tt

kept_both : (a b c : SinkState) → SinkKept a b → SinkKept b c → SinkKept a c
kept_both a b c first second =
    record { later = omega (arith, first.later, second.later); plan = second.plan ∙ first.plan }

-- two texts
module _ (a b : SinkState) (xs ys : List ℕ) where
  -- the first one is refused
  pub first_refused : Refuses a b xs → Refuses a b (xs ++ ys)
  first_refused refused =
      let n = refused.prefix.0 in
      let within : n + b.refused ≤ length xs = refused.prefix.1 in
      let cut : take n (xs ++ ys) ≡ take n xs = grind (arith, common_steps, within) in
      let fits : n + b.refused ≤ length (xs ++ ys) = grind (arith, common_steps, within) in
      record {
        rose = refused.rose;
        prefix = (n, fits, rw cut refused.prefix.2);
        some = refused.some;
      }

  pub both_written : (c : SinkState) → Writes a b xs → Writes b c ys → Writes a c (xs ++ ys)
  both_written c first second = record {
    added = Appends-both a.written b.written c.written xs ys first.added second.added;
    quiet = second.quiet ∙ first.quiet;
  }

  -- the second one is refused
  pub second_refused : (c : SinkState) → Writes a b xs → SinkKept a b → Refuses b c ys → Refuses a c (xs ++ ys)
  second_refused c first kept refused =
      let n = refused.prefix.0 in
      let within : n + c.refused ≤ length ys = refused.prefix.1 in
      let fits : length xs + n + c.refused ≤ length (xs ++ ys) = grind (arith, common_steps, within) in
      let added : Appends a.written c.written (xs ++ take n ys) =
      Appends-both a.written b.written c.written xs (take n ys) first.added refused.prefix.2 in
      record {
        rose = let rose = refused.rose in let later = kept.later in omega (arith, rose, later);
        prefix = (length xs + n, fits, rw (take-append-add xs ys n) added);
        some = refused.some;
      }

-- three texts
module _ (a b : SinkState) (xs ys zs : List ℕ) where
  pub first_of_three_refused : Refuses a b xs → Refuses a b (xs ++ ys ++ zs)
  first_of_three_refused refused = first_refused a b (xs ++ ys) zs (first_refused a b xs ys refused)

  module _ (c : SinkState) (first : Writes a b xs) (kept : SinkKept a b) where
    pub second_of_three_refused : Refuses b c ys → Refuses a c (xs ++ ys ++ zs)
    second_of_three_refused refused =
        first_refused a c (xs ++ ys) zs (second_refused a b xs ys c first kept refused)

    module _ (d : SinkState) (second : Writes b c ys) where
      pub three_written : Writes c d zs → Writes a d (xs ++ ys ++ zs)
      three_written third = both_written a c (xs ++ ys) zs d (both_written a b xs ys c first second) third

      pub third_refused : SinkKept b c → Refuses c d zs → Refuses a d (xs ++ ys ++ zs)
      third_refused kept-2 refused =
          second_refused a c (xs ++ ys) zs d (both_written a b xs ys c first second) (kept_both a b c kept kept-2)
          refused
