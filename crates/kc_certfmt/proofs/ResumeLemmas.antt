-- Reading part by part. `stable-part`: each part is read stably. `resume-part`: the rest after a part is the next part
-- and the rest after that, by cases on what was read; two readings one after the other are regrouped by cases of the
-- first answer. `goes-on`, `keeps` and `lacks` say this of bytes that may be followed by more. `fewer`: less is left.
use Rattle.std.proofs.Common.{◌≡◌, ℕ, zero, suc, ◌+◌, ◌<◌, ◌≤◌, Bool, true, false, not, List, [], ◌∷◌, ◌++◌, length, Option, Some, None, Result, Ok, Err, refl, sym, ap, ◌∙◌, arith}
use Rattle.std.proofs.lemmas.Bool.Decides.{nat_tests}
use Rattle.std.specs.Prelude.{◌&&◌, nat_lt}
use Rattle.kc_rules.specs.Rules.{◌>>=◌, refuse}
use Rattle.kc_rules.proofs.AnswerLemmas.{bind_ok, refuse_ok, ok_is, done}
use Rattle.kc_cert.specs.declared.certificate.Certificate.{Certificate}
use Rattle.kc_cert.specs.declared.certificate.Context.{Context}
use Rattle.kc_cert.specs.declared.certificate.TheConstants.{MAX_CONTEXTS, MAX_NODES}
use Rattle.kc_certfields.specs.declared.fault.CertFault.{CertFault}
use Rattle.kc_certfields.specs.Fault.{fault}
use Rattle.kc_certfields.specs.declared.fault.CertKind.TheVariants.{Trailing, TooMany}
use Rattle.kc_certfields.specs.Rest.{Rest}
use Rattle.kc_certfields.specs.Numbers.{u32_at}
use Rattle.kc_certfields.specs.Reads.{Reading, times}
use Rattle.kc_certfields.specs.Stable.{Stable, is_short, followed}
use Rattle.kc_certfields.proofs.StableLemmas.{stable-then, stable-fault, stable-map}
use Rattle.kc_certfmt.specs.Reading.{Nodes, count_at, head_at, is_empty, next_context, next_node, from_start, from_contexts, from_count, from_nodes, whole, certificate}
use Rattle.kc_certfmt.specs.Resume.{Part, start_at, context_more, node_count_more, node_more, after_part, more_at, part_at, from_left, resume, is_whole, is_done}
use Rattle.kc_certfmt.specs.declared.head.Head.{Head}
use Rattle.kc_certfmt.specs.declared.table.Left.{Left}
use Rattle.kc_certfmt.specs.declared.table.Left.TheVariants as left
use Rattle.kc_certfmt.proofs.ReadingStable.{stable-head, stable-count, stable-contexts, stable-nodes}

abbrev no_nodes : Nodes
no_nodes = record { nodes = []; written = [] }

-- ---- each part is read stably

stable-start : Stable start_at
unfolding start_at
stable-start =
    stable-then head_at
    (λ a head i. count_at MAX_CONTEXTS i >>= λ n.
    Ok (record { head = head; contexts = []; left = left.Contexts n.0 }, n.1)) stable-head
    (λ a head.
    let part : ℕ → Part = λ n. record { head = head; contexts = []; left = left.Contexts n } in
    stable-map (count_at MAX_CONTEXTS) part (stable-count MAX_CONTEXTS))

stable-context_more : (p : Part) (n : ℕ) → Stable (context_more p n)
unfolding context_more
stable-context_more p n =
    let part : List Context → Part = λ contexts. record p { contexts = contexts; left = left.Contexts n } in
    stable-map (next_context p.head.stacks p.contexts) part (stable-contexts p.head.stacks p.contexts)

stable-node_count_more : (p : Part) → Stable (node_count_more p)
unfolding node_count_more
stable-node_count_more p =
    let part : ℕ → Part = λ n. record p { left = left.Nodes no_nodes n } in
    stable-map (count_at MAX_NODES) part (stable-count MAX_NODES)

stable-node_more : (p : Part) (before : Nodes) (n : ℕ) → Stable (node_more p before n)
unfolding node_more
stable-node_more p before n =
    let part : Nodes → Part = λ nodes. record p { left = left.Nodes nodes n } in
    stable-map (next_node p.head (length p.contexts) before) part (stable-nodes p.head (length p.contexts) before)

-- after the last node every byte is one too many
stable-trailing : Stable {A = Part} (λ i. Err (fault Trailing i.at))
stable-trailing = record { goes_on = λ i j y more h. absurd cc; stays = λ i d more h s. h }

stable-after : (p : Part) (l : Left) → Stable (after_part p l)
stable-after p (left.Contexts zero) = stable-node_count_more p
stable-after p (left.Contexts (suc n)) = stable-context_more p n
stable-after p (left.Nodes nodes zero) = stable-trailing
stable-after p (left.Nodes nodes (suc n)) = stable-node_more p nodes n

pub stable-part : (p : Option Part) → Stable (part_at p)
stable-part None = stable-start
stable-part (Some p) = stable-after p p.left

-- ---- the next part, and the rest after it

abbrev rest_of : Result (Part × Rest) CertFault → Result Certificate CertFault
rest_of r = r >>= λ x. resume (Some x.0) x.1

resume-start : (i : Rest) → from_start i ≡ rest_of (start_at i)
unfolding from_start start_at
resume-start i = of-head (head_at i)
  where
    of-count : (head : Head) (r : Result (ℕ × Rest) CertFault)
        → (r >>= λ n. from_contexts head n.0 [] n.1)
        ≡ rest_of (r >>= λ n. Ok (record { head = head; contexts = []; left = left.Contexts n.0 }, n.1))
    of-count head (Ok n) = refl
    of-count head (Err e) = refl

    of-head : (r : Result (Head × Rest) CertFault)
        → (r >>= λ head. count_at MAX_CONTEXTS head.1 >>= λ n. from_contexts head.0 n.0 [] n.1)
        ≡ rest_of (r >>= λ head. count_at MAX_CONTEXTS head.1 >>= λ n.
        Ok (record { head = head.0; contexts = []; left = left.Contexts n.0 }, n.1))
    of-head (Ok head) = of-count head.0 (count_at MAX_CONTEXTS head.1)
    of-head (Err e) = refl

resume-context : (p : Part) (n : ℕ) (i : Rest) → from_contexts p.head (suc n) p.contexts i ≡ rest_of (context_more p n i)
unfolding from_contexts context_more times
resume-context p n i = of (next_context p.head.stacks p.contexts i)
  where
    of : (r : Result (List Context × Rest) CertFault)
        → ((r >>= λ more. times (next_context p.head.stacks) n more.0 more.1) >>= λ contexts.
        from_count p.head contexts.0 contexts.1)
        ≡ rest_of (r >>= λ contexts. Ok (record p { contexts = contexts.0; left = left.Contexts n }, contexts.1))
    of (Ok x) = refl
    of (Err e) = refl

resume-count : (p : Part) (i : Rest) → from_contexts p.head zero p.contexts i ≡ rest_of (node_count_more p i)
unfolding from_contexts from_count node_count_more times
resume-count p i = of (count_at MAX_NODES i)
  where
    of : (r : Result (ℕ × Rest) CertFault)
        → (r >>= λ n. from_nodes p.head p.contexts n.0 no_nodes n.1)
        ≡ rest_of (r >>= λ n. Ok (record p { left = left.Nodes no_nodes n.0 }, n.1))
    of (Ok x) = refl
    of (Err e) = refl

resume-node : (p : Part) (nodes : Nodes) (n : ℕ) (i : Rest)
    → from_nodes p.head p.contexts (suc n) nodes i ≡ rest_of (node_more p nodes n i)
unfolding from_nodes node_more times
resume-node p nodes n i = of (next_node p.head (length p.contexts) nodes i)
  where
    of : (r : Result (Nodes × Rest) CertFault)
        → ((r >>= λ more. times (next_node p.head (length p.contexts)) n more.0 more.1) >>= λ x.
        whole p.head p.contexts x.0 x.1)
        ≡ rest_of (r >>= λ x. Ok (record p { left = left.Nodes x.0 n }, x.1))
    of (Ok x) = refl
    of (Err e) = refl

resume-end : (p : Part) (nodes : Nodes) (i : Rest) → is_empty i.bytes ≡ false
    → from_nodes p.head p.contexts zero nodes i ≡ Err (fault Trailing i.at)
unfolding from_nodes times
resume-end p nodes i some = go (is_empty i.bytes) some
  where
    go : (b : Bool) → b ≡ false → (refuse (not b) (fault Trailing i.at) >>= λ x.
        done {E = CertFault} (certificate p.head p.contexts nodes.nodes)) ≡ Err (fault Trailing i.at)
    go true e = absurd cc
    go false e = refl

resume-after : (p : Part) (l : Left) (i : Rest) → (is_whole l && is_empty i.bytes) ≡ false
    → from_left p l i ≡ rest_of (after_part p l i)
resume-after p (left.Contexts zero) i more = resume-count p i
resume-after p (left.Contexts (suc n)) i more = resume-context p n i
resume-after p (left.Nodes nodes zero) i more = resume-end p nodes i more
resume-after p (left.Nodes nodes (suc n)) i more = resume-node p nodes n i

pub resume-part : (p : Option Part) (i : Rest) → is_done p i ≡ false → resume p i ≡ rest_of (part_at p i)
resume-part None i more = resume-start i
resume-part (Some p) i more = resume-after p p.left i more

-- ---- with more bytes

not-done : (p : Option Part) (i : Rest) (more : List ℕ) → is_done p i ≡ false → is_done p (followed i more) ≡ false
not-done None i more open_ = refl
not-done (Some p) i more open_ = go (is_whole p.left) i.bytes open_
  where
    go : (b : Bool) (bytes : List ℕ) → (b && is_empty bytes) ≡ false → (b && is_empty (bytes ++ more)) ≡ false
    go false bytes e = refl
    go true [] e = absurd cc
    go true (x ∷ xs) e = refl

pub goes-on : (p : Option Part) (q : Part) (i j : Rest) → is_done p i ≡ false → part_at p i ≡ Ok (q, j)
    → (more : List ℕ) → resume p (followed i more) ≡ resume (Some q) (followed j more)
goes-on p q i j open_ read more =
    resume-part p (followed i more) (not-done p i more open_)
    ∙ ap rest_of ((stable-part p).goes_on i j q more read)

pub keeps : (p : Option Part) (i : Rest) (e : CertFault) → is_done p i ≡ false → part_at p i ≡ Err e
    → is_short e ≡ false → (more : List ℕ) → resume p (followed i more) ≡ Err e
keeps p i e open_ read lasts more =
    resume-part p (followed i more) (not-done p i more open_) ∙ ap rest_of ((stable-part p).stays i e more read lasts)

pub lacks : (p : Option Part) (i : Rest) (e : CertFault) → is_done p i ≡ false → part_at p i ≡ Err e
    → resume p i ≡ Err e
lacks p i e open_ read = resume-part p i open_ ∙ ap rest_of read

-- ---- less is left

-- how many parts are left at most
abbrev pub left_count : Left → ℕ
left_count (left.Contexts n) = MAX_NODES + 2 + n
left_count (left.Nodes nodes n) = n

abbrev pub parts_left : Option Part → ℕ
parts_left None = MAX_CONTEXTS + MAX_NODES + 3
parts_left (Some p) = left_count p.left

count-most : (limit : ℕ) (i j : Rest) (n : ℕ) → count_at limit i ≡ Ok (n, j) → n ≤ limit
unfolding count_at
count-most limit i j n h =
    let b = bind_ok (u32_at i) (λ x. refuse (nat_lt limit x.0) (fault TooMany i.at) >>= λ y. Ok x) (n, j) h in
    let c = bind_ok (refuse (nat_lt limit b.0.0) (fault TooMany i.at)) (λ y. Ok b.0) (n, j) b.2 in
    let same : b.0 ≡ (n, j) = ok_is {E = CertFault} b.0 (n, j) c.2 in
    let number : b.0.0 ≡ n = ap (λ (x : ℕ × Rest). x.0) same in
    let within = refuse_ok (nat_lt limit b.0.0) (fault TooMany i.at) c.0 c.1 in
    grind (arith, nat_tests, within, number)

-- the part that was read, and what is left then
left-is : (p q : Part) (i j : Rest) → done {A = Part × Rest} {E = CertFault} (p, i) ≡ done (q, j) → left_count p.left ≡ left_count q.left
left-is p q i j h = ap (λ (x : Part × Rest). left_count x.0.left) (ok_is {E = CertFault} (p, i) (q, j) h)

fewer-start : (q : Part) (i j : Rest) → start_at i ≡ Ok (q, j) → left_count q.left < MAX_CONTEXTS + MAX_NODES + 3
unfolding start_at
fewer-start q i j h =
    let b = bind_ok (head_at i) (λ head. count_at MAX_CONTEXTS head.1 >>= λ n.
    Ok (record { head = head.0; contexts = []; left = left.Contexts n.0 }, n.1)) (q, j) h in
    let c = bind_ok (count_at MAX_CONTEXTS b.0.1) (λ n.
    Ok (record { head = b.0.0; contexts = []; left = left.Contexts n.0 }, n.1)) (q, j) b.2 in
    let most = count-most MAX_CONTEXTS b.0.1 c.0.1 c.0.0 c.1 in
    let is = left-is (record { head = b.0.0; contexts = []; left = left.Contexts c.0.0 }) q c.0.1 j c.2 in
    omega (arith, most, is)

fewer-context : (p q : Part) (n : ℕ) (i j : Rest) → context_more p n i ≡ Ok (q, j) → left_count q.left ≡ MAX_NODES + 2 + n
unfolding context_more
fewer-context p q n i j h =
    let b = bind_ok (next_context p.head.stacks p.contexts i) (λ contexts.
    Ok (record p { contexts = contexts.0; left = left.Contexts n }, contexts.1)) (q, j) h in
    sym (left-is (record p { contexts = b.0.0; left = left.Contexts n }) q b.0.1 j b.2)

fewer-count : (p q : Part) (i j : Rest) → node_count_more p i ≡ Ok (q, j) → left_count q.left ≤ MAX_NODES
unfolding node_count_more
fewer-count p q i j h =
    let b = bind_ok (count_at MAX_NODES i) (λ n. Ok (record p { left = left.Nodes no_nodes n.0 }, n.1)) (q, j) h in
    let most = count-most MAX_NODES i b.0.1 b.0.0 b.1 in
    let is = left-is (record p { left = left.Nodes no_nodes b.0.0 }) q b.0.1 j b.2 in
    omega (arith, most, is)

fewer-node : (p q : Part) (before : Nodes) (n : ℕ) (i j : Rest) → node_more p before n i ≡ Ok (q, j)
    → left_count q.left ≡ n
unfolding node_more
fewer-node p q before n i j h =
    let b = bind_ok (next_node p.head (length p.contexts) before i) (λ nodes.
    Ok (record p { left = left.Nodes nodes.0 n }, nodes.1)) (q, j) h in
    sym (left-is (record p { left = left.Nodes b.0.0 n }) q b.0.1 j b.2)

fewer-after : (p q : Part) (l : Left) (i j : Rest) → after_part p l i ≡ Ok (q, j) → left_count q.left < left_count l
fewer-after p q (left.Contexts zero) i j h = omega (arith, fewer-count p q i j h)
fewer-after p q (left.Contexts (suc n)) i j h = omega (arith, fewer-context p q n i j h)
fewer-after p q (left.Nodes nodes zero) i j h = absurd cc
fewer-after p q (left.Nodes nodes (suc n)) i j h = omega (arith, fewer-node p q nodes n i j h)

pub fewer : (p : Option Part) (q : Part) (i j : Rest) → part_at p i ≡ Ok (q, j)
    → parts_left (Some q) < parts_left p
fewer None q i j h = fewer-start q i j h
fewer (Some p) q i j h = fewer-after p q p.left i j h
