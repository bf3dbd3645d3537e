-- The two spellings of a certificate are what is read. `read-..`: what was read took just these bytes, part by part from
-- the last to the first. `given-..`: what is spelled so is read, in the same order. Then `spelled-of` and `read-of` say it
-- of whole certificates, and the bytes are regrouped by `layout`.
use Rattle.std.proofs.Common.{◌≡◌, ℕ, ◌≤◌, ◌⊎◌, inl, inr, Bool, true, false, not, List, [], ◌∷◌, ◌++◌, length, map, Result, Ok, refl, sym, ap, ◌∙◌, subst, append_assoc, append-nil, arith}
use Rattle.std.specs.Prelude.{◌==◌, All}
use Rattle.std.specs.List.{flat_map}
use Rattle.std.specs.declared.cmp.Ordering.{Ordering}
use Rattle.std.proofs.lemmas.Bool.Decides.{nat_tests}
use Rattle.std.proofs.lemmas.List.Elements.{All-nil, All-cons, All-head, All-tail, All-weaker}
use Rattle.kc_rules.specs.Rules.{◌>>=◌, refuse}
use Rattle.kc_rules.proofs.AnswerLemmas.{bind_ok, done}
use Rattle.kc_state.specs.Key.{IsKey}
use Rattle.kc_cert.specs.Form.{IsNode}
use Rattle.kc_cert.specs.Table.{RisesBy, key_order, position_of, position_order}
use Rattle.kc_cert.specs.declared.certificate.Certificate.{Certificate}
use Rattle.kc_cert.specs.declared.certificate.Context.{Context}
use Rattle.kc_cert.specs.declared.certificate.Node.{Node}
use Rattle.kc_cert.specs.declared.certificate.TheConstants.{MAX_CONTEXTS, MAX_NODES}
use Rattle.kc_certfields.specs.declared.fault.CertFault.{CertFault}
use Rattle.kc_certfields.specs.declared.fault.CertKind.TheVariants.{Trailing}
use Rattle.kc_certfields.specs.Fault.{fault}
use Rattle.kc_certfields.specs.Rest.{Rest}
use Rattle.kc_certfields.specs.Reads.{times}
use Rattle.kc_certfields.specs.Spelling.{u8_bytes, u32_bytes, user_bytes}
use Rattle.kc_certform.specs.CertBytes.{magic, context_bytes, contexts_bytes, node_bytes, shared_bytes, CertBytes1, CertBytes2}
use Rattle.kc_certform.specs.HasSpelling.{HasSpelling}
use Rattle.kc_certexact.specs.Exact.{AreBytes}
use Rattle.kc_certexact.proofs.ExactLemmas.{step, passed, bytes-after, is-number}
use Rattle.kc_certexact.proofs.TimesExact.{Always, push, run, run-push, spelled, spelled-flat, times-takes, times-gives}
use Rattle.kc_certfmt.specs.Reading.{Nodes, count_at, next_context, next_node, certificate, is_empty, whole, from_nodes, from_count, from_contexts, from_start, cert_at}
use Rattle.kc_spellings.specs.Values.{IsContextValue, IsNodeValue, IsCertificate}
use Rattle.kc_certfmt.specs.declared.head.Head.{Head}
use Rattle.kc_spellings.proofs.RisingLemmas.{rises-keys, keys-rise}
use Rattle.kc_spellings.proofs.TableExact.{IsHead, IsNext, IsVersion, start_bytes, exact-count, exact-head, adds-context}
use Rattle.kc_spellings.proofs.NodesExact.{IsNodeOf, InOrder, next_by, put, spell, adds-node, none-ordered, run-nodes, plain-spelled, shared-spelled}
use Rattle.kc_spellings.proofs.SpellingLemmas.{by_key, by_place, IsEach, IsOne, Contexts, NodesAre, contexts-rise, contexts-each, contexts-chain, nodes-rise, nodes-each, nodes-chain}

abbrev none : Nodes
none = record { nodes = []; written = [] }

-- version 1
abbrev is_plain : Head → Bool
is_plain head = head.version == 1

abbrev nodes_spelled : Head → ℕ → List Node → List ℕ
nodes_spelled head k ns =
    spelled (put (is_plain head)) (spell head.stacks (is_plain head)) (IsNodeOf head.stacks k (is_plain head)) none ns

abbrev NodesOf : Head → ℕ → List Node → Type 0
NodesOf head k ns = NodesAre head.stacks k (is_plain head) none ns

-- ---- what was read

record NodesRead (head : Head) (contexts : List Context) (m : ℕ) (i : Rest) (cert : Certificate) : Type 0 where
  nodes : List Node
  chain : NodesOf head (length contexts) nodes
  count : length nodes ≡ m
  is : cert ≡ certificate head contexts nodes
  spelled : i.bytes ≡ nodes_spelled head (length contexts) nodes

empty-is : (bs : List ℕ) → not (is_empty bs) ≡ false → bs ≡ []
empty-is [] e = refl
empty-is (b ∷ bs) e = absurd cc

certificate-is : (x y : Certificate) → done {E = CertFault} x ≡ done y → y ≡ x
certificate-is x y e = cc

read-end : (head : Head) (contexts : List Context) (nodes : Nodes) (i : Rest) (cert : Certificate)
    → whole head contexts nodes i ≡ Ok cert → (i.bytes ≡ []) × (cert ≡ certificate head contexts nodes.nodes)
read-end head contexts nodes i cert h =
    let e = passed (not (is_empty i.bytes)) (fault Trailing i.at)
    (λ x. done {E = CertFault} (certificate head contexts nodes.nodes)) cert h in
    (empty-is i.bytes e.0, certificate-is (certificate head contexts nodes.nodes) cert e.1)

read-nodes : (head : Head) (contexts : List Context) (m : ℕ) (i : Rest) (cert : Certificate) → head.stacks ≤ 16
    → length contexts ≤ MAX_CONTEXTS → AreBytes i.bytes → from_nodes head contexts m none i ≡ Ok cert
    → NodesRead head contexts m i cert
unfolding from_nodes
read-nodes head contexts m i cert most few are h =
    let k = length contexts in
    let plain = is_plain head in
    let b = bind_ok (times (next_node head k) m none i) (λ x. whole head contexts x.0 x.1) cert h in
    let r = times-takes (next_by head.stacks k plain) (put plain) (spell head.stacks plain) (IsNodeOf head.stacks k plain)
    (λ s. InOrder head.stacks s.written) (adds-node head.stacks k plain most (omega (arith, few))) m none i b.0.1 b.0.0
    (none-ordered head.stacks) are b.1 in
    let e = read-end head contexts b.0.0 b.0.1 cert b.2 in
    let all = ap (λ (n : Nodes). n.nodes) r.is ∙ run-nodes head.stacks k plain none r.items in
    record {
      nodes = r.items;
      chain = r.fits;
      count = r.count;
      is = e.1 ∙ ap (λ (ns : List Node). certificate head contexts ns) all;
      spelled = r.spelled ∙ ap (λ (l : List ℕ). nodes_spelled head k r.items ++ l) e.0
          ∙ append-nil (nodes_spelled head k r.items);
    }

record CountRead (head : Head) (contexts : List Context) (i : Rest) (cert : Certificate) : Type 0 where
  nodes : List Node
  chain : NodesOf head (length contexts) nodes
  few : length nodes ≤ MAX_NODES
  is : cert ≡ certificate head contexts nodes
  spelled : i.bytes ≡ u32_bytes (length nodes) ++ nodes_spelled head (length contexts) nodes

read-count : (head : Head) (contexts : List Context) (i : Rest) (cert : Certificate) → head.stacks ≤ 16
    → length contexts ≤ MAX_CONTEXTS → AreBytes i.bytes → from_count head contexts i ≡ Ok cert
    → CountRead head contexts i cert
unfolding from_count
read-count head contexts i cert most few are h =
    let n = step i (λ n. from_nodes head contexts n.0 none n.1) cert (exact-count MAX_NODES (omega arith)) are h in
    let r = read-nodes head contexts n.value n.rest cert most few n.bytes n.more in
    let count = r.count in
    let below = n.fits in
    record {
      nodes = r.nodes;
      chain = r.chain;
      few = omega (arith, count, below);
      is = r.is;
      spelled = n.spelled ∙ (λ t. u32_bytes (sym r.count t) ++ r.spelled t);
    }

record TableRead (head : Head) (n : ℕ) (i : Rest) (cert : Certificate) : Type 0 where
  contexts : List Context
  nodes : List Node
  count : length contexts ≡ n
  each : Contexts head.stacks [] contexts
  chain : NodesOf head (length contexts) nodes
  few : length nodes ≤ MAX_NODES
  is : cert ≡ certificate head contexts nodes
  spelled : i.bytes ≡ flat_map context_bytes contexts
      ++ (u32_bytes (length nodes) ++ nodes_spelled head (length contexts) nodes)

abbrev contexts_spelled : Head → List Context → List ℕ
contexts_spelled head cs = spelled push (λ b. context_bytes) (IsNext head.stacks) [] cs

read-contexts : (head : Head) (n : ℕ) (i : Rest) (cert : Certificate) → head.stacks ≤ 16 → n ≤ MAX_CONTEXTS
    → AreBytes i.bytes → from_contexts head n [] i ≡ Ok cert → TableRead head n i cert
unfolding from_contexts
read-contexts head n i cert most few are h =
    let b = bind_ok (times (next_context head.stacks) n [] i) (λ contexts. from_count head contexts.0 contexts.1) cert h in
    let r = times-takes (next_context head.stacks) push (λ x. context_bytes) (IsNext head.stacks) Always
    (adds-context head.stacks most) n [] i b.0.1 b.0.0 tt are b.1 in
    let all : b.0.0 ≡ r.items = r.is ∙ run-push (λ x. context_bytes) (IsNext head.stacks) [] r.items in
    let flat = spelled-flat push context_bytes (IsNext head.stacks) [] r.items in
    let count = r.count in
    let c = read-count head r.items b.0.1 cert most (omega (arith, count, few))
    (bytes-after (contexts_spelled head r.items) b.0.1.bytes i.bytes are r.spelled)
    (ap (λ (cs : List Context). from_count head cs b.0.1) (sym all) ∙ b.2) in
    record {
      contexts = r.items;
      nodes = c.nodes;
      count = r.count;
      each = r.fits;
      chain = c.chain;
      few = c.few;
      is = c.is;
      spelled = r.spelled ∙ (λ t. flat t ++ c.spelled t);
    }

record WholeRead (i : Rest) (cert : Certificate) : Type 0 where
  head : Head
  fits : IsHead head
  contexts : List Context
  nodes : List Node
  few_contexts : length contexts ≤ MAX_CONTEXTS
  each : Contexts head.stacks [] contexts
  chain : NodesOf head (length contexts) nodes
  few_nodes : length nodes ≤ MAX_NODES
  is : cert ≡ certificate head contexts nodes
  spelled : i.bytes ≡ start_bytes head ++ (u32_bytes (length contexts) ++ (flat_map context_bytes contexts
      ++ (u32_bytes (length nodes) ++ nodes_spelled head (length contexts) nodes)))

read-start : (i : Rest) (cert : Certificate) → AreBytes i.bytes → from_start i ≡ Ok cert → WholeRead i cert
unfolding from_start
read-start i cert are h =
    let s = step i (λ head. count_at MAX_CONTEXTS head.1 >>= λ n. from_contexts head.0 n.0 [] n.1) cert exact-head are h in
    let n = step s.rest (λ n. from_contexts s.value n.0 [] n.1) cert (exact-count MAX_CONTEXTS (omega arith)) s.bytes s.more in
    let t = read-contexts s.value n.value n.rest cert s.fits.stacks n.fits n.bytes n.more in
    let count = t.count in
    let few = n.fits in
    record {
      head = s.value;
      fits = s.fits;
      contexts = t.contexts;
      nodes = t.nodes;
      few_contexts = omega (arith, count, few);
      each = t.each;
      chain = t.chain;
      few_nodes = t.few;
      is = t.is;
      spelled = s.spelled ∙ ap (λ (l : List ℕ). start_bytes s.value ++ l)
          (n.spelled ∙ (λ k. u32_bytes (sym t.count k) ++ t.spelled k));
    }

-- ---- what is spelled is read

given-nodes : (head : Head) (contexts : List Context) (ns : List Node) (i : Rest) → head.stacks ≤ 16
    → length contexts ≤ MAX_CONTEXTS → NodesOf head (length contexts) ns
    → i.bytes ≡ nodes_spelled head (length contexts) ns
    → from_nodes head contexts (length ns) none i ≡ Ok (certificate head contexts ns)
unfolding from_nodes
given-nodes head contexts ns i most few chain e =
    let k = length contexts in
    let plain = is_plain head in
    let g = times-gives (next_by head.stacks k plain) (put plain) (spell head.stacks plain) (IsNodeOf head.stacks k plain)
    (λ s. InOrder head.stacks s.written) (adds-node head.stacks k plain most (omega (arith, few))) ns none i []
    (none-ordered head.stacks) chain (e ∙ sym (append-nil (nodes_spelled head k ns))) in
    let after : Result (Nodes × Rest) CertFault → Result Certificate CertFault =
    λ r. r >>= λ x. whole head contexts x.0 x.1 in
    let last : Nodes = run (put plain) (spell head.stacks plain) (IsNodeOf head.stacks k plain) none ns in
    ap after g.is
    ∙ ap (λ (l : List ℕ). refuse (not (is_empty l)) (fault Trailing g.after.at) >>= λ x.
    done {E = CertFault} (certificate head contexts last.nodes)) g.left
    ∙ ap (λ (l : List Node). done (certificate head contexts l)) (run-nodes head.stacks k plain none ns)

given-count : (head : Head) (contexts : List Context) (ns : List Node) (i : Rest) → head.stacks ≤ 16
    → length contexts ≤ MAX_CONTEXTS → length ns ≤ MAX_NODES → NodesOf head (length contexts) ns
    → i.bytes ≡ u32_bytes (length ns) ++ nodes_spelled head (length contexts) ns
    → from_count head contexts i ≡ Ok (certificate head contexts ns)
unfolding from_count
given-count head contexts ns i most few less chain e =
    let n = (exact-count MAX_NODES (omega arith)).gives i (length ns) (nodes_spelled head (length contexts) ns) less e in
    let after : Result (ℕ × Rest) CertFault → Result Certificate CertFault =
    λ r. r >>= λ n. from_nodes head contexts n.0 none n.1 in
    ap after n.is ∙ given-nodes head contexts ns n.after most few chain n.left

given-contexts : (head : Head) (cs : List Context) (ns : List Node) (i : Rest) → head.stacks ≤ 16
    → length cs ≤ MAX_CONTEXTS → length ns ≤ MAX_NODES → Contexts head.stacks [] cs → NodesOf head (length cs) ns
    → i.bytes ≡ flat_map context_bytes cs ++ (u32_bytes (length ns) ++ nodes_spelled head (length cs) ns)
    → from_contexts head (length cs) [] i ≡ Ok (certificate head cs ns)
unfolding from_contexts
given-contexts head cs ns i most few less each chain e =
    let later = u32_bytes (length ns) ++ nodes_spelled head (length cs) ns in
    let flat = spelled-flat push context_bytes (IsNext head.stacks) [] cs in
    let g = times-gives (next_context head.stacks) push (λ x. context_bytes) (IsNext head.stacks) Always
    (adds-context head.stacks most) cs [] i later tt each (e ∙ ap (λ (l : List ℕ). l ++ later) (sym flat)) in
    let after : Result (List Context × Rest) CertFault → Result Certificate CertFault =
    λ r. r >>= λ c. from_count head c.0 c.1 in
    ap after g.is
    ∙ ap (λ (l : List Context). from_count head l g.after) (run-push (λ x. context_bytes) (IsNext head.stacks) [] cs)
    ∙ given-count head cs ns g.after most few less chain g.left

given-start : (head : Head) (cs : List Context) (ns : List Node) (i : Rest) → IsHead head → length cs ≤ MAX_CONTEXTS
    → length ns ≤ MAX_NODES → Contexts head.stacks [] cs → NodesOf head (length cs) ns
    → i.bytes ≡ start_bytes head ++ (u32_bytes (length cs) ++ (flat_map context_bytes cs
    ++ (u32_bytes (length ns) ++ nodes_spelled head (length cs) ns)))
    → from_start i ≡ Ok (certificate head cs ns)
unfolding from_start
given-start head cs ns i fits few less each chain e =
    let later = flat_map context_bytes cs ++ (u32_bytes (length ns) ++ nodes_spelled head (length cs) ns) in
    let s = exact-head.gives i head (u32_bytes (length cs) ++ later) fits e in
    let n = (exact-count MAX_CONTEXTS (omega arith)).gives s.after (length cs) later few s.left in
    let first : Result (Head × Rest) CertFault → Result Certificate CertFault =
    λ r. r >>= λ head. count_at MAX_CONTEXTS head.1 >>= λ n. from_contexts head.0 n.0 [] n.1 in
    let second : Result (ℕ × Rest) CertFault → Result Certificate CertFault =
    λ r. r >>= λ n. from_contexts head n.0 [] n.1 in
    ap first s.is ∙ ap second n.is ∙ given-contexts head cs ns n.after fits.stacks few less each chain n.left

-- ---- certificates

layout : (m v g c s u n cs k ns : List ℕ)
    → (m ++ (v ++ (g ++ (c ++ (s ++ u))))) ++ (n ++ (cs ++ (k ++ ns)))
    ≡ ((m ++ (v ++ (g ++ (c ++ (s ++ (u ++ n)))))) ++ (cs ++ k)) ++ ns
layout m v g c s u n cs k ns = simp append_assoc

-- the bytes with the nodes' bytes by version
abbrev bytes_by : ℕ → Certificate → List ℕ → List ℕ
bytes_by version cert ns = contexts_bytes version cert ++ ns

bytes-are : (head : Head) (cs : List Context) (nodes : List Node) (ns : List ℕ)
    → start_bytes head ++ (u32_bytes (length cs) ++ (flat_map context_bytes cs ++ (u32_bytes (length nodes) ++ ns)))
    ≡ bytes_by head.version (certificate head cs nodes) ns
bytes-are head cs nodes ns =
    layout magic (u32_bytes head.version) head.digests.image head.digests.config (u8_bytes head.stacks)
    (user_bytes head.user) (u32_bytes (length cs)) (flat_map context_bytes cs) (u32_bytes (length nodes)) ns

all-map : {A B : Type 0} (f : A → B) (P : B → Type 0) (xs : List A) → All (λ x. P (f x)) xs → All P (map f xs)
all-map f P [] all = All-nil P
all-map f P (x ∷ xs) all =
    All-cons P (f x) (map f xs) (All-head (λ y. P (f y)) x xs all) (all-map f P xs (All-tail (λ y. P (f y)) x xs all))

all-unmap : {A B : Type 0} (f : A → B) (P : B → Type 0) (xs : List A) → All P (map f xs) → All (λ x. P (f x)) xs
all-unmap f P [] all = All-nil (λ y. P (f y))
all-unmap f P (x ∷ xs) all =
    All-cons (λ y. P (f y)) x xs (All-head P (f x) (map f xs) all) (all-unmap f P xs (All-tail P (f x) (map f xs) all))

-- ---- what is read is one of the two spellings

pub record ReadBack (bytes : List ℕ) (cert : Certificate) : Type 0 where
  pub is : IsCertificate cert
  pub has : HasSpelling cert
  pub one : (bytes ≡ CertBytes1 cert) ⊎ (bytes ≡ CertBytes2 cert)

version-two : (n : ℕ) → IsVersion n → (n == 1) ≡ false → n ≡ 2
version-two n two one = grind (arith, nat_tests, two, one)

one-of : (head : Head) (cs : List Context) (nodes : List Node) (bytes : List ℕ) → IsVersion head.version
    → bytes ≡ bytes_by head.version (certificate head cs nodes) (nodes_spelled head (length cs) nodes)
    → (bytes ≡ CertBytes1 (certificate head cs nodes)) ⊎ (bytes ≡ CertBytes2 (certificate head cs nodes))
one-of head cs nodes bytes version e = go (is_plain head) refl
  where
    cert : Certificate
    cert = certificate head cs nodes

    by : Bool → List ℕ
    by b = spelled (put b) (spell head.stacks b) (IsNodeOf head.stacks (length cs) b) none nodes

    go : (b : Bool) → is_plain head ≡ b → (bytes ≡ CertBytes1 cert) ⊎ (bytes ≡ CertBytes2 cert)
    go true t =
        let one : head.version ≡ 1 = is-number head.version 1 t in
        inl (e ∙ ap (λ (v : ℕ). bytes_by v cert (nodes_spelled head (length cs) nodes)) one
        ∙ ap (bytes_by 1 cert) (ap by t ∙ plain-spelled head.stacks (length cs) none nodes))
    go false t =
        let two = version-two head.version version t in
        inr (e ∙ ap (λ (v : ℕ). bytes_by v cert (nodes_spelled head (length cs) nodes)) two
        ∙ ap (bytes_by 2 cert) (ap by t ∙ shared-spelled head.stacks (length cs) none nodes))

value-of : (stacks : ℕ) (c : Context) → IsEach stacks c → IsContextValue c
value-of stacks c is = record { vector = is.key.vector; base = is.key.base; summary = is.summary }

node-of : (stacks contexts : ℕ) (n : Node) → IsOne stacks contexts n → IsNodeValue n
node-of stacks contexts n is = record { address = is.word; state = is.state.state }

whole-read : (i : Rest) (cert : Certificate) → WholeRead i cert → ReadBack i.bytes cert
whole-read i cert w = subst (ReadBack i.bytes) (sym w.is) (record {
  is = record {
    image = record { bytes = w.fits.image.bytes; count = w.fits.image.long };
    config = record { bytes = w.fits.config.bytes; count = w.fits.config.long };
    user = w.fits.user.known.valid;
    contexts = All-weaker (IsEach w.head.stacks) IsContextValue (value-of w.head.stacks) w.contexts each;
    nodes = All-weaker (IsOne w.head.stacks k) IsNodeValue (node-of w.head.stacks k) w.nodes ones;
  };
  has = record {
    stacks = w.fits.stacks;
    user = w.fits.user.known.beyond;
    few_contexts = w.few_contexts;
    few_nodes = w.few_nodes;
    keys = all-map (λ (c : Context). c.key) (IsKey w.head.stacks) w.contexts
        (All-weaker (IsEach w.head.stacks) (λ (c : Context). IsKey w.head.stacks c.key) (λ c is. is.key.key) w.contexts each);
    keys_rise = rises-keys (λ (c : Context). c.key) key_order w.contexts
        (contexts-rise w.head.stacks w.contexts [] (none-rise by_key) w.each);
    nodes = All-weaker (IsOne w.head.stacks k) (IsNode (certificate w.head w.contexts w.nodes))
        (λ n is. record { named = is.below; floors = is.state.others }) w.nodes ones;
    nodes_rise = rises-keys position_of position_order w.nodes
        (nodes-rise w.head.stacks k (is_plain w.head) w.nodes none (none-rise by_place) w.chain);
  };
  one = one-of w.head w.contexts w.nodes i.bytes w.fits.version
      (w.spelled ∙ bytes-are w.head w.contexts w.nodes (nodes_spelled w.head k w.nodes));
})
  where
    k : ℕ
    k = length w.contexts

    each : All (IsEach w.head.stacks) w.contexts
    each = contexts-each w.head.stacks w.contexts [] w.each

    ones : All (IsOne w.head.stacks k) w.nodes
    ones = nodes-each w.head.stacks k (is_plain w.head) w.nodes none w.chain

    none-rise : {A : Type 0} (order : A → A → Ordering) → RisesBy order []
    none-rise order i j d less below = absurd (omega (arith, below))

pub read-of : (bytes : List ℕ) (cert : Certificate) → AreBytes bytes → cert_at bytes ≡ Ok cert → ReadBack bytes cert
read-of bytes cert are h =
    let i : Rest = record { at = 0; bytes = bytes } in whole-read i cert (read-start i cert are h)

-- ---- both spellings are read

each-of : (cert : Certificate) → IsCertificate cert → HasSpelling cert → All (IsEach cert.stacks) cert.contexts
each-of cert is has =
    let keys = all-unmap (λ (c : Context). c.key) (IsKey cert.stacks) cert.contexts has.keys in
    λ k d below.
    let value = is.contexts k d below in
    record {
      key = record { key = keys k d below; vector = value.vector; base = value.base };
      summary = value.summary;
    }

ones-of : (cert : Certificate) → IsCertificate cert → HasSpelling cert
    → All (IsOne cert.stacks (length cert.contexts)) cert.nodes
ones-of cert is has = λ k d below.
    let value = is.nodes k d below in
    let node = has.nodes k d below in
    record {
      below = node.named;
      word = value.address;
      state = record { state = value.state; others = node.floors };
    }

abbrev head_of : ℕ → Certificate → Head
head_of version cert =
    record { version = version; digests = cert.digests; stacks = cert.stacks; user = cert.user }

spelled-of : (version : ℕ) (cert : Certificate) (ns : List ℕ) → IsVersion version → IsCertificate cert → HasSpelling cert
    → nodes_spelled (head_of version cert) (length cert.contexts) cert.nodes ≡ ns
    → cert_at (bytes_by version cert ns) ≡ Ok cert
spelled-of version cert ns v is has e =
    let head = head_of version cert in
    let cs = cert.contexts in
    let fits : IsHead head = record {
      version = v;
      image = record { long = is.image.count; bytes = is.image.bytes };
      config = record { long = is.config.count; bytes = is.config.bytes };
      stacks = has.stacks;
      user = record { known = record { valid = is.user; beyond = has.user } };
    } in
    let few = has.few_nodes in
    given-start head cs cert.nodes (record { at = 0; bytes = bytes_by version cert ns }) fits has.few_contexts has.few_nodes
    (contexts-chain cert.stacks cs [] (keys-rise (λ (c : Context). c.key) key_order cs has.keys_rise) (each-of cert is has))
    (nodes-chain cert.stacks (length cs) (is_plain head) cert.nodes none
    (keys-rise position_of position_order cert.nodes has.nodes_rise) (ones-of cert is has) (omega arith)
    (omega (arith, few)))
    (ap (bytes_by version cert) (sym e)
    ∙ sym (bytes-are head cs cert.nodes (nodes_spelled head (length cs) cert.nodes)))

pub spelled-1 : (cert : Certificate) → IsCertificate cert → HasSpelling cert → cert_at (CertBytes1 cert) ≡ Ok cert
spelled-1 cert is has =
    spelled-of 1 cert (flat_map (node_bytes cert.stacks) cert.nodes) refl is has
    (plain-spelled cert.stacks (length cert.contexts) none cert.nodes)

pub spelled-2 : (cert : Certificate) → IsCertificate cert → HasSpelling cert → cert_at (CertBytes2 cert) ≡ Ok cert
spelled-2 cert is has =
    spelled-of 2 cert (shared_bytes cert.stacks [] cert.nodes) refl is has
    (shared-spelled cert.stacks (length cert.contexts) none cert.nodes)
