-- Texts that are written in pieces: what was written so far and a piece are their joined bytes, and a refusal of a
-- piece is a refusal of the whole text. By regrouping lists and by the prefix of what was refused; lengths are left to
-- omega.
use Rattle.std.proofs.Common.{◌≡◌, ℕ, ◌+◌, ◌<◌, ◌≤◌, List, [], ◌∷◌, ◌++◌, length, take, drop, get_or, refl, sym, ap, subst, ◌∙◌, append_assoc, append-nil, arith}
use Rattle.std.specs.Prelude.{Result, Ok, Err, OnOk, OnErr}
use Rattle.std.specs.List.{flat_map}
use Rattle.std.proofs.lemmas.List.{length-append, take-append-le, take_more, take-append-drop}
use Rattle.std.proofs.lemmas.Grind.{common_steps, flat_map-append}
use Rattle.std.proofs.Math.Seq.{take-append-add}
use Rattle.std.specs.Io.KnownBytes.{Appends}
use Rattle.kc_io.specs.Sink.{SinkState, SinkKept, Writes, Refuses}
use Rattle.kc_io.specs.declared.files.Failed.{Failed}
use Rattle.kc_io.proofs.Written.{Appends-both, Appends-none}

pub kept-both : (a b c : SinkState) → SinkKept a b → SinkKept b c → SinkKept a c
kept-both a b c first second = record {
  later = omega (arith, first.later, second.later);
  plan = second.plan ∙ first.plan;
}

pub kept-none : (a : SinkState) → SinkKept a a
kept-none a = record { later = omega arith; plan = refl }

pub writes-none : (a : SinkState) → Writes a a []
writes-none a = record { added = Appends-none a.written; quiet = refl }

pub writes-both : (a b c : SinkState) (xs ys : List ℕ) → Writes a b xs → Writes b c ys → Writes a c (xs ++ ys)
writes-both a b c xs ys first second = record {
  added = Appends-both a.written b.written c.written xs ys first.added second.added;
  quiet = second.quiet ∙ first.quiet;
}

-- a piece is refused after what was written
pub refuses-after : (a b c : SinkState) (xs ys : List ℕ) → SinkKept a b → Writes a b xs → Refuses b c ys
    → Refuses a c (xs ++ ys)
refuses-after a b c xs ys kept first second =
    let n = second.prefix.0 in
    record {
      rose = omega (arith, kept.later, second.rose);
      prefix = (
        length xs + n,
        omega (arith, length-append xs ys, second.prefix.1),
        subst (λ (t : List ℕ). Appends a.written c.written t) (sym (take-append-add xs ys n))
            (Appends-both a.written b.written c.written xs (take n ys) first.added second.prefix.2),
      );
      some = second.some;
    }

-- a piece is refused, and more would have followed
pub refuses-before : (a b : SinkState) (xs ys : List ℕ) → Refuses a b xs → Refuses a b (xs ++ ys)
refuses-before a b xs ys first =
    let n = first.prefix.0 in
    record {
      rose = first.rose;
      prefix = (
        n,
        omega (arith, length-append xs ys, first.prefix.1),
        subst (λ (t : List ℕ). Appends a.written b.written t) (sym (take-append-le n xs ys
            (omega (arith, first.prefix.1)))) first.prefix.2,
      );
      some = first.some;
    }

-- an item more of a list
pub flat-more : {A : Type 0} (f : A → List ℕ) (items : List A) (k : ℕ) (x : A) → k < length items
    → x ≡ get_or items k x → flat_map f (take (k + 1) items) ≡ flat_map f (take k items) ++ f x
flat-more {A} f items k x below e =
    ap (flat_map f) (take_more items k x below ∙ ap (λ (y : A). take k items ++ y ∷ []) (sym e))
    ∙ flat_map-append f (take k items) (x ∷ []) ∙ ap (λ (t : List ℕ). flat_map f (take k items) ++ t) (append-nil (f x))

-- the items up to one, that one, and those after it
pub flat-split : {A : Type 0} (f : A → List ℕ) (items : List A) (k : ℕ) (x : A) → k < length items
    → x ≡ get_or items k x
    → flat_map f items ≡ flat_map f (take k items) ++ (f x ++ flat_map f (drop (k + 1) items))
flat-split {A} f items k x below e =
    ap (flat_map f) (sym (take-append-drop (k + 1) items))
    ∙ flat_map-append f (take (k + 1) items) (drop (k + 1) items)
    ∙ ap (λ (t : List ℕ). t ++ flat_map f (drop (k + 1) items)) (flat-more f items k x below e)
    ∙ append_assoc (flat_map f (take k items)) (f x) (flat_map f (drop (k + 1) items))

-- one more item is written
pub each-more : {A : Type 0} (f : A → List ℕ) (items : List A) (k : ℕ) (x : A) (a b c : SinkState) → k < length items
    → x ≡ get_or items k x → Writes a b (flat_map f (take k items)) → Writes b c (f x)
    → Writes a c (flat_map f (take (k + 1) items))
each-more f items k x a b c below e before here =
    subst (λ (t : List ℕ). Writes a c t) (sym (flat-more f items k x below e))
    (writes-both a b c (flat_map f (take k items)) (f x) before here)

-- an item is refused
pub each-refused : {A : Type 0} (f : A → List ℕ) (items : List A) (k : ℕ) (x : A) (a b c : SinkState)
    → k < length items → x ≡ get_or items k x → SinkKept a b → Writes a b (flat_map f (take k items))
    → Refuses b c (f x) → Refuses a c (flat_map f items)
each-refused f items k x a b c below e kept before here =
    subst (λ (t : List ℕ). Refuses a c t) (sym (flat-split f items k x below e))
    (refuses-after a b c (flat_map f (take k items)) (f x ++ flat_map f (drop (k + 1) items)) kept before
    (refuses-before b c (f x) (flat_map f (drop (k + 1) items)) here))

-- a last piece is written, or refused
pub writes-last : (r : Result (Unit {0}) Failed) (a b c : SinkState) (xs ys : List ℕ) → Writes a b xs
    → OnOk r (Writes b c ys) → OnOk r (Writes a c (xs ++ ys))
writes-last (Ok x) a b c xs ys first second = writes-both a b c xs ys first second
writes-last (Err e) a b c xs ys first second = tt

pub refuses-last : (r : Result (Unit {0}) Failed) (a b c : SinkState) (xs ys : List ℕ) → SinkKept a b → Writes a b xs
    → OnErr r (Refuses b c ys) → OnErr r (Refuses a c (xs ++ ys))
refuses-last (Ok x) a b c xs ys kept first second = tt
refuses-last (Err e) a b c xs ys kept first second = refuses-after a b c xs ys kept first second

pub take-all : {A : Type 0} (n : ℕ) (items : List A) → length items ≤ n → take n items ≡ items
take-all n items e = grind (arith, common_steps, e)

-- a part and what follows it were added
pub joined : (a b c xs ys : List ℕ) → b ≡ a ++ xs → c ≡ b ++ ys → c ≡ a ++ (xs ++ ys)
joined a b c xs ys first second = second ∙ ap (λ (t : List ℕ). t ++ ys) first ∙ append_assoc a xs ys
