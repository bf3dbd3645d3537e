-- The loaded bytes of an image, by the places of its segments. The claims: the byte found at a place is the loaded one,
-- and the bytes put into a buffer one after the other are the run. Plan: by recursion over the places, by cases on each
-- holding the address; for the run, what is put so far and the run from the next address on are the whole run
-- (`IsSoFar`), which one byte more keeps (`run_more`). omega is left to count to 15.
use Rattle.std.proofs.Common.{◌≡◌, ℕ, suc, ◌+◌, ◌-◌, ◌<◌, ◌≤◌, List, [], ◌∷◌, ◌++◌, length, take, drop, set, Some, None, refl, sym, ap, subst, ◌∙◌, inl, inr, arith, append_assoc}
use Rattle.std.specs.Prelude.{slice_index}
use Rattle.std.proofs.lemmas.Bool.{cases_Bool}
use Rattle.std.proofs.lemmas.List.{append-nil, length-take, length-set, take-append-drop, take_more_set, drop-set-lt, drop-drop}
use Rattle.kc_words.specs.Span.{Holds}
use Rattle.kc_image.specs.declared.segments.Place.{Place}
use Rattle.kc_image.specs.Image.{Segment, segment_at, segments_at, holds, place_of_address, loaded, run}
use Rattle.kc_rules.proofs.AnswerLemmas.{some_is}
use Rattle.kc_image.proofs.ByAddressLemmas.{holds-from}

pub place_holds : (list : List Place) (a : ℕ) (p : Place) → Some p ≡ place_of_address list a → Holds p.span a
place_holds [] a p e = absurd cc
place_holds (x ∷ xs) a p e = elim (cases_Bool (holds x.span a)) [
  | inl t ↦
      let is : Some p ≡ Some x = rw t at e in
      subst (λ (y : Place). Holds y.span a) (sym (some_is p x is)) (holds-from x.span a t)
  | inr f ↦ place_holds xs a p (rw f at e)
]

pub loaded_some : (file : List ℕ) (list : List Place) (a : ℕ) (p : Place) → Some p ≡ place_of_address list a
    → Some (slice_index (segment_at file p).bytes (a - p.span.from)) ≡ loaded (segments_at file list) a
loaded_some file [] a p e = absurd cc
loaded_some file (x ∷ xs) a p e = elim (cases_Bool (holds x.span a)) [
  | inl t ↦
      let is : Some p ≡ Some x = rw t at e in
      rw t (ap (λ (y : Place). Some (slice_index (segment_at file y).bytes (a - y.span.from))) (some_is p x is))
  | inr f ↦ rw f (loaded_some file xs a p (rw f at e))
]

pub loaded_none : (file : List ℕ) (list : List Place) (a : ℕ) → None ≡ place_of_address list a
    → None ≡ loaded (segments_at file list) a
loaded_none file [] a e = refl
loaded_none file (x ∷ xs) a e = elim (cases_Bool (holds x.span a)) [
  | inl t ↦ let nothing : None ≡ Some x = rw t at e in absurd cc
  | inr f ↦ rw f (loaded_none file xs a (rw f at e))
]

-- ---- runs

-- what the first n bytes of the buffer and the run from the next address on are together
pub record IsSoFar (ss : List Segment) (a at n : ℕ) (old buf : List ℕ) : Type 0 where
  pub front : run ss a 15 ≡ take n buf ++ run ss at (15 - n)
  pub back : drop n buf ≡ drop n old
  pub len : length buf ≡ 15

-- the run is the first n bytes of the buffer
pub record IsWritten (ss : List Segment) (a n : ℕ) (old buf : List ℕ) : Type 0 where
  pub count : n ≡ length (run ss a 15)
  pub bytes : buf ≡ run ss a 15 ++ drop n old

written : (ss : List Segment) (a at n : ℕ) (old buf : List ℕ) → n ≤ 15 → run ss a 15 ≡ take n buf
    → IsSoFar ss a at n old buf → IsWritten ss a n old buf
written ss a at n old buf le e so_far = record {
  count = rw e (omega (arith, length-take n buf, so_far.len));
  bytes = rw (e, ← so_far.back) (sym (take-append-drop n buf));
}

pub run_ends : (ss : List Segment) (a at n : ℕ) (old buf : List ℕ) → n < 15 → None ≡ loaded ss at
    → IsSoFar ss a at n old buf → IsWritten ss a n old buf
unfolding run
run_ends ss a at n old buf lt none so_far =
    let left : 15 - n ≡ suc (15 - (n + 1)) = omega arith in
    written ss a at n old buf (omega arith) (so_far.front ∙ rw (left, ← none) (append-nil (take n buf))) so_far

pub run_full : (ss : List Segment) (a at n : ℕ) (old buf : List ℕ) → n ≡ 15 → IsSoFar ss a at n old buf
    → IsWritten ss a n old buf
unfolding run
run_full ss a at n old buf e so_far =
    let left : 15 - n ≡ 0 = omega arith in
    written ss a at n old buf (omega arith) (so_far.front ∙ rw left (append-nil (take n buf))) so_far

pub run_more : (ss : List Segment) (a at n b : ℕ) (old buf : List ℕ) → n < 15 → Some b ≡ loaded ss at
    → IsSoFar ss a at n old buf
    → IsSoFar ss a (at + 1) (n + 1) old (set buf n b)
unfolding run
run_more ss a at n b old buf lt some so_far =
    let left : 15 - n ≡ suc (15 - (n + 1)) = omega arith in
    let fits : n < length buf = omega (arith, so_far.len) in
    record {
      front =
          so_far.front
          ∙ rw (left, ← some, take_more_set buf n b fits)
          (sym (append_assoc (take n buf) (b ∷ []) (run ss (at + 1) (15 - (n + 1)))));
      back =
          drop-set-lt (n + 1) buf n b (omega arith) ∙ sym (drop-drop 1 n buf)
          ∙ ap (λ (xs : List ℕ). drop 1 xs) so_far.back ∙ drop-drop 1 n old;
      len = length-set buf n b ∙ so_far.len;
    }
