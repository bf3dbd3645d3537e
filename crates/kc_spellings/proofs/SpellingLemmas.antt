-- The two spellings of a certificate are what is read. What was read: each part in its order took its bytes, and
-- contexts and nodes that rise one after the other rise as a whole. And what is read: each part gives what is spelled,
-- from the facts of a certificate that has a spelling. Bytes are regrouped by `layout`.
use Rattle.std.proofs.Common.{◌≡◌, ℕ, suc, ◌+◌, ◌^◌, ◌≤◌, ◌<◌, Bool, true, false, List, [], ◌∷◌, ◌++◌, length, Option, Some, None, refl, sym, ◌∙◌, subst, append_assoc, append-nil, arith}
use Rattle.std.specs.Prelude.{if◌then◌else◌, All, IfSome}
use Rattle.std.specs.declared.cmp.Ordering.{Ordering}
use Rattle.std.specs.declared.cmp.Ordering.TheVariants.{Less}
use Rattle.std.proofs.lemmas.List.{length-append}
use Rattle.std.proofs.lemmas.List.Elements.{All-nil, All-cons, All-head, All-tail}
use Rattle.std.proofs.lemmas.List.Quantifiers.{position-Some}
use Rattle.kc_state.specs.Summary.{IsSummary}
use Rattle.kc_state.specs.declared.state.AbsState.{AbsState}
use Rattle.kc_cert.specs.Table.{RisesBy, key_order, position_of, position_order}
use Rattle.kc_cert.specs.declared.certificate.Context.{Context}
use Rattle.kc_cert.specs.declared.certificate.Node.{Node}
use Rattle.kc_cert.specs.declared.certificate.TheConstants.{MAX_NODES}
use Rattle.kc_cert.proofs.PositionLemmas.{key_trans, position_trans}
use Rattle.kc_certform.specs.CertBytes.{context_bytes, share_of}
use Rattle.kc_certform.specs.Numbers.{is_same_state}
use Rattle.kc_certexact.proofs.KeysExact.{IsKeyOf}
use Rattle.kc_certexact.proofs.StatesExact.{IsStateOf}
use Rattle.kc_certexact.proofs.TimesExact.{push, Chain}
use Rattle.kc_certfmt.specs.Reading.{last_of, key_rises, position_rises, Nodes}
use Rattle.kc_spellings.proofs.RisingLemmas.{is_above, rises-push, rises-last}
use Rattle.kc_spellings.proofs.TableExact.{IsNext}
use Rattle.kc_spellings.proofs.NodesExact.{IsNodeOf, HasNumber, is_written, put, spell}

-- ---- contexts that rise

abbrev pub by_key : Context → Context → Ordering
by_key c d = key_order c.key d.key

by_key_trans : (x y z : Context) → by_key x y ≡ Less → by_key y z ≡ Less → by_key x z ≡ Less
by_key_trans x y z = key_trans x.key y.key z.key

key-above : (o : Option Context) (c : Context) → is_above by_key by_key_trans o c ≡ key_rises o c.key
key-above (Some d) c = refl
key-above None c = refl

-- each by itself
pub record IsEach (stacks : ℕ) (c : Context) : Type 0 where
  pub key : IsKeyOf stacks c.key
  pub summary : IsSummary c.summary

abbrev pub Contexts : ℕ → List Context → List Context → Type 0
Contexts stacks before cs = Chain push (λ b. context_bytes) (IsNext stacks) before cs

pub contexts-rise : (stacks : ℕ) (cs before : List Context) → RisesBy by_key before → Contexts stacks before cs
    → RisesBy by_key (before ++ cs)
contexts-rise stacks [] before rises chain = subst (RisesBy by_key) (sym (append-nil before)) rises
contexts-rise stacks (c ∷ cs) before rises chain =
    subst (RisesBy by_key) (append_assoc before (c ∷ []) cs)
    (contexts-rise stacks cs (before ++ c ∷ [])
    (rises-push by_key by_key_trans before c rises (key-above (last_of before) c ∙ chain.0.rises)) chain.1)

pub contexts-each : (stacks : ℕ) (cs before : List Context) → Contexts stacks before cs → All (IsEach stacks) cs
contexts-each stacks [] before chain = All-nil (IsEach stacks)
contexts-each stacks (c ∷ cs) before chain =
    All-cons (IsEach stacks) c cs (record { key = chain.0.key; summary = chain.0.summary })
    (contexts-each stacks cs (before ++ c ∷ []) chain.1)

pub contexts-chain : (stacks : ℕ) (cs before : List Context) → RisesBy by_key (before ++ cs) → All (IsEach stacks) cs
    → Contexts stacks before cs
contexts-chain stacks [] before rises each = tt
contexts-chain stacks (c ∷ cs) before rises each =
    let here = All-head (IsEach stacks) c cs each in (
      record {
        key = here.key;
        summary = here.summary;
        rises = sym (key-above (last_of before) c) ∙ rises-last by_key by_key_trans before cs c rises;
      },
      contexts-chain stacks cs (before ++ c ∷ []) (subst (RisesBy by_key) (sym (append_assoc before (c ∷ []) cs)) rises)
          (All-tail (IsEach stacks) c cs each),
    )

-- ---- nodes that rise

abbrev pub by_place : Node → Node → Ordering
by_place m n = position_order (position_of m) (position_of n)

by_place_trans : (x y z : Node) → by_place x y ≡ Less → by_place y z ≡ Less → by_place x z ≡ Less
by_place_trans x y z = position_trans (position_of x) (position_of y) (position_of z)

place-above : (o : Option Node) (n : Node) → is_above by_place by_place_trans o n ≡ position_rises o (position_of n)
place-above (Some m) n = refl
place-above None n = refl

pub record IsOne (stacks contexts : ℕ) (n : Node) : Type 0 where
  pub below : n.context < contexts
  pub word : n.site.at < 2 ^ 64
  pub state : IsStateOf stacks n.state

abbrev pub NodesAre : ℕ → ℕ → Bool → Nodes → List Node → Type 0
NodesAre stacks contexts plain before ns =
    Chain (put plain) (spell stacks plain) (IsNodeOf stacks contexts plain) before ns

pub nodes-rise : (stacks contexts : ℕ) (plain : Bool) (ns : List Node) (before : Nodes) → RisesBy by_place before.nodes
    → NodesAre stacks contexts plain before ns → RisesBy by_place (before.nodes ++ ns)
nodes-rise stacks contexts plain [] before rises chain = subst (RisesBy by_place) (sym (append-nil before.nodes)) rises
nodes-rise stacks contexts plain (n ∷ ns) before rises chain =
    subst (RisesBy by_place) (append_assoc before.nodes (n ∷ []) ns)
    (nodes-rise stacks contexts plain ns (put plain before n)
    (rises-push by_place by_place_trans before.nodes n rises
    (place-above (last_of before.nodes) n ∙ chain.0.place.rises)) chain.1)

pub nodes-each : (stacks contexts : ℕ) (plain : Bool) (ns : List Node) (before : Nodes)
    → NodesAre stacks contexts plain before ns → All (IsOne stacks contexts) ns
nodes-each stacks contexts plain [] before chain = All-nil (IsOne stacks contexts)
nodes-each stacks contexts plain (n ∷ ns) before chain =
    All-cons (IsOne stacks contexts) n ns
    (record { below = chain.0.place.below; word = chain.0.place.word; state = chain.0.state })
    (nodes-each stacks contexts plain ns (put plain before n) chain.1)

-- a share's number fits, since there are no more states than nodes
has-number : (plain : Bool) (before : Nodes) (s : AbsState) → length before.written ≤ length before.nodes
    → length before.nodes < MAX_NODES → HasNumber plain before.written s
has-number true before s few most = tt
has-number false before s few most = go (share_of before.written s) refl
  where
    go : (o : Option ℕ) → share_of before.written s ≡ o → IfSome o (λ k. suc k < 2 ^ 32)
    go None is = tt
    go (Some k) is =
        let p = position-Some (λ w. is_same_state w s) before.written k s is in omega (arith, p.0, few, most)

written-more : (plain : Bool) (before : Nodes) (n : Node) → length before.written ≤ length before.nodes
    → length (put plain before n).written ≤ length before.nodes + 1
written-more plain before n few = go (is_written plain before.written n.state)
  where
    go : (b : Bool) → length (if b then before.written ++ n.state ∷ [] else before.written) ≤ length before.nodes + 1
    go true = omega (arith, few, length-append before.written (n.state ∷ []))
    go false = omega (arith, few)

pub nodes-chain : (stacks contexts : ℕ) (plain : Bool) (ns : List Node) (before : Nodes)
    → RisesBy by_place (before.nodes ++ ns) → All (IsOne stacks contexts) ns
    → length before.written ≤ length before.nodes → length before.nodes + length ns ≤ MAX_NODES
    → NodesAre stacks contexts plain before ns
nodes-chain stacks contexts plain [] before rises each few most = tt
nodes-chain stacks contexts plain (n ∷ ns) before rises each few most =
    let here = All-head (IsOne stacks contexts) n ns each in
    let long = length-append before.nodes (n ∷ []) in
    let more = written-more plain before n few in (
      record {
        place = record {
          below = here.below;
          word = here.word;
          rises = sym (place-above (last_of before.nodes) n) ∙ rises-last by_place by_place_trans before.nodes ns n rises;
        };
        state = here.state;
        number = has-number plain before n.state few (omega (arith, most));
      },
      nodes-chain stacks contexts plain ns (put plain before n)
          (subst (RisesBy by_place) (sym (append_assoc before.nodes (n ∷ []) ns)) rises)
          (All-tail (IsOne stacks contexts) n ns each) (omega (arith, more, long)) (omega (arith, most, long)),
    )
