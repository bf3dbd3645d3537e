-- The list of nodes: what a push leaves, and that a push taken back leaves all as it was.
use Rattle.std.proofs.Common.{◌≡◌, List, [], ◌∷◌, ◌++◌, length, take, Option, Some, None, Result, Ok, Err, refl, sym, ap, ◌∙◌, subst, arith}
use Rattle.std.specs.Prelude.{true, is_err, OnOk, OnErr, MatchOption}
use Rattle.std.proofs.lemmas.List.{length-append, take-append-le}
use Rattle.std.proofs.Math.Seq.{take-length}
use Rattle.kc_plain.specs.Appended.{Appended}
use Rattle.kc_cert.specs.declared.certificate.Node.{Node}
use Rattle.kc_certform.specs.Written.{WrittenNodes, IsWritten, written_states}
use Rattle.kc_certform.proofs.WrittenLemmas.{states-kept, written-kept}
use Rattle.kc_certfmt.specs.Reading.{Nodes}

pub on-err : {T E P : Type 0} (r : Result T E) → is_err r ≡ true → OnErr r P → P
on-err (Ok x) is h = absurd cc
on-err (Err e) is h = h

-- the nodes and what they have written
abbrev pub seen : List Node → WrittenNodes → Nodes
seen nodes w = record { nodes = nodes; written = written_states nodes w }

pub pushed-written : {E : Type 0} (r : Result (Unit {0}) E) (nodes new : List Node) (n : Node) (w : WrittenNodes)
    → IsWritten nodes w → OnOk r (Appended nodes new (n ∷ [])) → OnErr r (new ≡ nodes) → IsWritten new w
pushed-written (Ok x) nodes new n w is added unchanged =
    subst (λ (l : List Node). IsWritten l w) (sym added) (written-kept nodes (n ∷ []) w is)
pushed-written (Err e) nodes new n w is added unchanged =
    subst (λ (l : List Node). IsWritten l w) (sym unchanged) is

pub pushed-seen : {E : Type 0} (r : Result (Unit {0}) E) (nodes new : List Node) (n : Node) (w : WrittenNodes)
    (old : Nodes) → IsWritten nodes w → seen nodes w ≡ old → OnOk r (Appended nodes new (n ∷ []))
    → OnOk r (seen new w ≡ record { nodes = old.nodes ++ n ∷ []; written = old.written })
pushed-seen (Ok x) nodes new n w old is view added =
    ap (λ (l : List Node). seen l w) added
    ∙ (λ i. record { nodes = nodes ++ n ∷ []; written = states-kept nodes (n ∷ []) w is i })
    ∙ ap (λ (v : Nodes). record { nodes = v.nodes ++ n ∷ []; written = v.written }) view
pushed-seen (Err e) nodes new n w old is view added = tt

fronts : {A : Type 0} (xs ys : List A) (x y : A) → xs ++ x ∷ [] ≡ ys ++ y ∷ [] → xs ≡ ys
fronts {A} xs ys x y e =
    let long : length xs ≡ length ys =
    omega (arith, length-append xs (x ∷ []), length-append ys (y ∷ []), ap length e) in
    sym (take-append-le (length xs) xs (x ∷ []) (omega arith) ∙ take-length xs)
    ∙ ap (take (length xs)) e ∙ ap (λ n. take n (ys ++ y ∷ [])) long
    ∙ take-append-le (length ys) ys (y ∷ []) (omega arith) ∙ take-length ys

-- the last node was taken away again
pub unpushed : (nodes pushed new : List Node) (n : Node) (o : Option Node) → Appended nodes pushed (n ∷ [])
    → MatchOption o ((pushed ≡ []) × (new ≡ [])) (λ last. pushed ≡ new ++ last ∷ []) → new ≡ nodes
unpushed nodes pushed new n (Some last) added rest = fronts new nodes last n (sym rest ∙ added)
unpushed nodes pushed new n None added rest =
    absurd (omega (arith, length-append nodes (n ∷ []), ap length added, ap length rest.0))

-- the same nodes, with what they have written, are there
pub unpushed-written : (nodes new : List Node) (w v : WrittenNodes) → IsWritten nodes w → new ≡ nodes → v ≡ w
    → IsWritten new v
unpushed-written nodes new w v is same unchanged =
    subst (λ (l : List Node). IsWritten l v) (sym same) (subst (λ (u : WrittenNodes). IsWritten nodes u) (sym unchanged) is)

pub unpushed-seen : (nodes new : List Node) (w v : WrittenNodes) → new ≡ nodes → v ≡ w → seen new v ≡ seen nodes w
unpushed-seen nodes new w v same unchanged = λ i. seen (same i) (unchanged i)
