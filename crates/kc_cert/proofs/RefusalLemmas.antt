-- The seventeen facts and the refusals in their order say the same: no condition is refused exactly where all of them
-- hold. A row of rules passes where each of its rules does; the nodes of the contexts in order are all nodes, since each
-- names its context.
use Rattle.std.proofs.Common.{◌≡◌, ℕ, zero, suc, ◌+◌, ◌<◌, Bool, true, false, cond, not, ◌&&◌, List, [], ◌∷◌, length, Option, Some, None, Result, Ok, Err, refl, sym, ap, ◌∙◌, subst, arith}
use Rattle.std.proofs.lemmas.Bool.{eq-eqb, eqb-true}
use Rattle.std.proofs.lemmas.List.Elements.{All-cons}
use Rattle.std.proofs.lemmas.Option.{slice_get_within, get_or_from_slice_get}
use Rattle.std.specs.List.{list_all}
use Rattle.std.specs.Prelude.{All, IfSome, IsSomeAnd, IsTrue, ◌↔◌, ◌==◌, filter, slice_get, slice_index_or}
use Rattle.kc_frames.specs.declared.floors.Floors.{Floors}
use Rattle.kc_image.specs.Image.{Contents}
use Rattle.kc_insn.specs.declared.insn.Insn.{Insn}
use Rattle.kc_regions.specs.Description.{Description}
use Rattle.kc_rules.specs.Rules.{refuse, ◌>>=◌}
use Rattle.kc_state.specs.AbsEffect.{AbsChange, moment_of}
use Rattle.kc_state.specs.AbsStep.{conditions, condition}
use Rattle.kc_state.specs.Conditions.{accesses_of, calls_well, is_allowed, is_clear, is_exact, is_permitted, loads_known_cr3, restores, uses_kernel_gs}
use Rattle.kc_state.specs.Operand.{AbsMoment}
use Rattle.kc_state.specs.declared.condition.Condition.{Condition}
use Rattle.kc_state.specs.declared.state.AbsState.{AbsState}
use Rattle.kc_cert.proofs.LookupLemmas.{got}
use Rattle.kc_cert.specs.Certified.{EachNode, EachPlaced, EventsCovered, IsCertified, SummariesCover, accesses, placed}
use Rattle.kc_cert.specs.Code.{insn_at}
use Rattle.kc_cert.specs.Conditions.{are_successors_covered, is_event_counted, is_event_covered, is_home_counted, is_node_counted, is_return_covered, is_start_covered, is_text, is_user_covered, is_user_event_covered}
use Rattle.kc_cert.specs.FirstRefusal.{IsUnrefused, at_context, at_event, at_node, at_table, at_user, body_or, context_refusal, decoded_refusal, demand, each, each_from, insn_conditions, node_refusal, of_insn, of_nodes, placed_at, placed_refusal, refusal_from_start}
use Rattle.kc_cert.specs.Form.{HasForm}
use Rattle.kc_cert.specs.Placed.{Placed, change, events_of, moment, user_vectors}
use Rattle.kc_cert.specs.Table.{nodes_of}
use Rattle.kc_cert.specs.declared.certificate.Certificate.{Certificate}
use Rattle.kc_cert.specs.declared.certificate.Context.{Context}
use Rattle.kc_cert.specs.declared.certificate.Digests.{Digests}
use Rattle.kc_cert.specs.declared.certificate.Node.{Node}
use Rattle.kc_cert.specs.declared.refusal.Event.TheVariants.{Vector, Syscall}
use Rattle.kc_cert.specs.declared.refusal.Refusal.{Refusal}

-- ---- rules in a row

abbrev Passes : {E : Type 0} → Result (Unit {0}) E → Type 0
Passes r = r ≡ Ok tt

demand-ok : {E : Type 0} (b : Bool) (r : E) → Passes (demand b r) → b ≡ true
demand-ok true r e = refl
demand-ok false r e = absurd cc

ok-demand : {E : Type 0} (b : Bool) (r : E) → b ≡ true → Passes (demand b r)
ok-demand true r e = refl
ok-demand false r e = absurd cc

chain : {E : Type 0} (a b : Result (Unit {0}) E) → Passes (a >>= λ ok. b) → Passes a × Passes b
chain (Ok u) b e = (refl, e)
chain (Err d) b e = absurd cc

link : {E : Type 0} (a b : Result (Unit {0}) E) → Passes a → Passes b → Passes (a >>= λ ok. b)
link (Ok u) b p q = q
link (Err d) b p q = absurd cc

each-all : {A E : Type 0} (ask : A → Result (Unit {0}) E) (items : List A) → Passes (each ask items)
    → All (λ x. Passes (ask x)) items
unfolding each
each-all ask [] e = λ k d lt. absurd (omega (arith, lt))
each-all ask (x ∷ xs) e =
    let both = chain (ask x) (each ask xs) e in All-cons (λ y. Passes (ask y)) x xs both.0 (each-all ask xs both.1)

all-each : {A E : Type 0} (ask : A → Result (Unit {0}) E) (items : List A) → All (λ x. Passes (ask x)) items
    → Passes (each ask items)
unfolding each
all-each ask [] h = refl
all-each ask (x ∷ xs) h =
    link (ask x) (each ask xs) (h 0 x (omega arith)) (all-each ask xs (λ k d lt. h (suc k) d (omega (arith, lt))))

from-each : {A E : Type 0} (ask : ℕ → A → Result (Unit {0}) E) (i : ℕ) (items : List A) → Passes (each_from ask i items)
    → (k : ℕ) (d : A) → k < length items → Passes (ask (k + i) (slice_index_or items k d))
unfolding each_from
from-each ask i [] e k d lt = absurd (omega (arith, lt))
from-each ask i (x ∷ xs) e zero d lt =
    let same : i ≡ 0 + i = omega arith in
    subst (λ (n : ℕ). Passes (ask n x)) same (chain (ask i x) (each_from ask (suc i) xs) e).0
from-each ask i (x ∷ xs) e (suc k) d lt =
    let rest = from-each ask (suc i) xs (chain (ask i x) (each_from ask (suc i) xs) e).1 k d (omega (arith, lt)) in
    let same : k + suc i ≡ suc k + i = omega arith in
    subst (λ (n : ℕ). Passes (ask n (slice_index_or xs k d))) same rest

to-each : {A E : Type 0} (ask : ℕ → A → Result (Unit {0}) E) (i : ℕ) (items : List A)
    → ((k : ℕ) (d : A) → k < length items → Passes (ask (k + i) (slice_index_or items k d)))
    → Passes (each_from ask i items)
unfolding each_from
to-each ask i [] h = refl
to-each ask i (x ∷ xs) h =
    let first : 0 + i ≡ i = omega arith in
    link (ask i x) (each_from ask (suc i) xs) (subst (λ (n : ℕ). Passes (ask n x)) first (h 0 x (omega arith)))
    (to-each ask (suc i) xs (λ k d lt.
    let same : suc k + i ≡ k + suc i = omega arith in
    subst (λ (n : ℕ). Passes (ask n (slice_index_or xs k d))) same (h (suc k) d (omega (arith, lt)))))

-- ---- lists and options

from-filter : {A : Type 0} (test : A → Bool) (P : A → Type 0) (xs : List A) → All P (filter test xs)
    → All (λ x. test x ≡ true → P x) xs
from-filter test P [] h = λ k d lt. absurd (omega (arith, lt))
from-filter test P (x ∷ xs) h = go (test x) refl (from-filter test P xs)
  where
    go : (b : Bool) → test x ≡ b → (All P (filter test xs) → All (λ y. test y ≡ true → P y) xs)
        → All (λ y. test y ≡ true → P y) (x ∷ xs)
    go true e rest =
        let all : All P (x ∷ filter test xs) =
        subst (λ (c : Bool). All P (cond c (x ∷ filter test xs) (filter test xs))) e h in
        All-cons (λ y. test y ≡ true → P y) x xs (λ t. all 0 x (omega arith))
        (rest (λ k d lt. all (suc k) d (omega (arith, lt))))
    go false e rest =
        let all : All P (filter test xs) =
        subst (λ (c : Bool). All P (cond c (x ∷ filter test xs) (filter test xs))) e h in
        let never : test x ≡ true → ⊥ = λ t. (let clash : false ≡ true = sym e ∙ t in absurd cc) in
        All-cons (λ y. test y ≡ true → P y) x xs (λ t. absurd (never t)) (rest all)

to-filter : {A : Type 0} (test : A → Bool) (P : A → Type 0) (xs : List A) → All (λ x. test x ≡ true → P x) xs
    → All P (filter test xs)
to-filter test P [] h = λ k d lt. absurd (omega (arith, lt))
to-filter test P (x ∷ xs) h =
    go (test x) refl (to-filter test P xs (λ k d lt. h (suc k) d (omega (arith, lt))))
  where
    go : (b : Bool) → test x ≡ b → All P (filter test xs) → All P (filter test (x ∷ xs))
    go true e rest = subst (λ (c : Bool). All P (cond c (x ∷ filter test xs) (filter test xs))) (sym e)
        (All-cons P x (filter test xs) (h 0 x (omega arith) e) rest)
    go false e rest = subst (λ (c : Bool). All P (cond c (x ∷ filter test xs) (filter test xs))) (sym e) rest

and-both : (a b : Bool) → (a && b) ≡ true → (a ≡ true) × (b ≡ true)
and-both true b e = (refl, e)
and-both false b e = absurd cc

both-and : (a b : Bool) → a ≡ true → b ≡ true → (a && b) ≡ true
both-and true b p q = q
both-and false b p q = absurd cc

all-list : {A : Type 0} (test : A → Bool) (xs : List A) → list_all test xs ≡ true → All (λ x. test x ≡ true) xs
all-list test [] e = λ k d lt. absurd (omega (arith, lt))
all-list test (x ∷ xs) e =
    let both = and-both (test x) (list_all test xs) e in
    All-cons (λ y. test y ≡ true) x xs both.0 (all-list test xs both.1)

list-all : {A : Type 0} (test : A → Bool) (xs : List A) → All (λ x. test x ≡ true) xs → list_all test xs ≡ true
list-all test [] h = refl
list-all test (x ∷ xs) h =
    both-and (test x) (list_all test xs) (h 0 x (omega arith)) (list-all test xs (λ k d lt. h (suc k) d (omega (arith, lt))))

if-some : {A : Type 0} (o : Option A) (P : A → Type 0) → ((x : A) → o ≡ Some x → P x) → IfSome o P
if-some (Some x) P h = h x refl
if-some None P h = tt

there : {A : Type 0} (o : Option A) (P : A → Type 0) (x : A) → o ≡ Some x → IfSome o P → P x
there {A = A} o P x e h = subst (λ (q : Option A). IfSome q P) e h

some-there : {A : Type 0} (o : Option A) (P : A → Type 0) (x : A) → o ≡ Some x → IsSomeAnd o P → P x
some-there {A = A} o P x e h = subst (λ (q : Option A). IsSomeAnd q P) e h

weaken : {A : Type 0} (o : Option A) (P Q : A → Type 0) → ((x : A) → P x → Q x) → IsSomeAnd o P → IfSome o Q
weaken (Some x) P Q f h = f x h
weaken None P Q f h = absurd h

some-and : {A : Type 0} (o : Option A) (P Q : A → Type 0) → ((x : A) → P x → Q x) → IsSomeAnd o P → IsSomeAnd o Q
some-and (Some x) P Q f h = f x h
some-and None P Q f h = absurd h

-- ---- C6 to C12

record Tests (m : AbsMoment) (s : AbsState) (insn : Insn) (c : AbsChange) : Type 0 where
  exact : is_exact m false ≡ true
  kernel_gs : uses_kernel_gs m (accesses_of m insn c.store) ≡ true
  permitted : is_permitted m insn (accesses_of m insn c.store) ≡ true
  no_live : is_clear m s.floors (accesses_of m insn c.store) ≡ true
  cr3 : loads_known_cr3 m insn ≡ true
  calls : calls_well m s.floors insn ≡ true
  allowed : is_allowed m insn ≡ true
  restored : restores m insn ≡ true

tests-of : (m : AbsMoment) (s : AbsState) (insn : Insn) (c : AbsChange) → Passes (conditions m s insn c) → Tests m s insn c
tests-of m s insn c e =
    let all = accesses_of m insn c.store in
    let r4 = demand (is_exact m false) (condition 4) in
    let r6 = demand (uses_kernel_gs m all) (condition 6) in
    let r7 = demand (is_permitted m insn all) (condition 7) in
    let r8 = demand (is_clear m s.floors all) (condition 8) in
    let r9 = demand (loads_known_cr3 m insn) (condition 9) in
    let r10 = demand (calls_well m s.floors insn) (condition 10) in
    let r11 = demand (is_allowed m insn) (condition 11) in
    let r12 = demand (restores m insn) (condition 12) in
    let from11 = r11 >>= λ ok. r12 in
    let from10 = r10 >>= λ ok. from11 in
    let from9 = r9 >>= λ ok. from10 in
    let from8 = r8 >>= λ ok. from9 in
    let from7 = r7 >>= λ ok. from8 in
    let from6 = r6 >>= λ ok. from7 in
    let p4 = chain r4 from6 e in
    let p6 = chain r6 from7 p4.1 in
    let p7 = chain r7 from8 p6.1 in
    let p8 = chain r8 from9 p7.1 in
    let p9 = chain r9 from10 p8.1 in
    let p10 = chain r10 from11 p9.1 in
    let p11 = chain r11 r12 p10.1 in
    record {
      exact = demand-ok (is_exact m false) (condition 4) p4.0;
      kernel_gs = demand-ok (uses_kernel_gs m all) (condition 6) p6.0;
      permitted = demand-ok (is_permitted m insn all) (condition 7) p7.0;
      no_live = demand-ok (is_clear m s.floors all) (condition 8) p8.0;
      cr3 = demand-ok (loads_known_cr3 m insn) (condition 9) p9.0;
      calls = demand-ok (calls_well m s.floors insn) (condition 10) p10.0;
      allowed = demand-ok (is_allowed m insn) (condition 11) p11.0;
      restored = demand-ok (restores m insn) (condition 12) p11.1;
    }

of-tests : (m : AbsMoment) (s : AbsState) (insn : Insn) (c : AbsChange) → Tests m s insn c → Passes (conditions m s insn c)
of-tests m s insn c t =
    let all = accesses_of m insn c.store in
    let r4 = demand (is_exact m false) (condition 4) in
    let r6 = demand (uses_kernel_gs m all) (condition 6) in
    let r7 = demand (is_permitted m insn all) (condition 7) in
    let r8 = demand (is_clear m s.floors all) (condition 8) in
    let r9 = demand (loads_known_cr3 m insn) (condition 9) in
    let r10 = demand (calls_well m s.floors insn) (condition 10) in
    let r11 = demand (is_allowed m insn) (condition 11) in
    let r12 = demand (restores m insn) (condition 12) in
    let from11 = r11 >>= λ ok. r12 in
    let from10 = r10 >>= λ ok. from11 in
    let from9 = r9 >>= λ ok. from10 in
    let from8 = r8 >>= λ ok. from9 in
    let from7 = r7 >>= λ ok. from8 in
    let from6 = r6 >>= λ ok. from7 in
    link r4 from6 (ok-demand (is_exact m false) (condition 4) t.exact)
    (link r6 from7 (ok-demand (uses_kernel_gs m all) (condition 6) t.kernel_gs)
    (link r7 from8 (ok-demand (is_permitted m insn all) (condition 7) t.permitted)
    (link r8 from9 (ok-demand (is_clear m s.floors all) (condition 8) t.no_live)
    (link r9 from10 (ok-demand (loads_known_cr3 m insn) (condition 9) t.cr3)
    (link r10 from11 (ok-demand (calls_well m s.floors insn) (condition 10) t.calls)
    (link r11 r12 (ok-demand (is_allowed m insn) (condition 11) t.allowed)
    (ok-demand (restores m insn) (condition 12) t.restored)))))))

abbrev PlacedTests : Description → Placed → Type 0
PlacedTests d p = Tests (moment d p) p.state p.insn (change d p)

insn-tests : (d : Description) (p : Placed) → Passes (insn_conditions d p) → p.site.inside ≡ false → PlacedTests d p
insn-tests d p h e =
    tests-of (moment d p) p.state p.insn (change d p)
    (subst (λ (b : Bool). Passes (body_or b (conditions (moment d p) p.state p.insn (change d p)))) e h)

tests-insn : (d : Description) (p : Placed) → (p.site.inside ≡ false → PlacedTests d p) → Passes (insn_conditions d p)
tests-insn d p h = go p.site.inside refl
  where
    go : (b : Bool) → p.site.inside ≡ b → Passes (body_or p.site.inside (conditions (moment d p) p.state p.insn (change d p)))
    go true e = ap (λ (b : Bool). body_or b (conditions (moment d p) p.state p.insn (change d p))) e
    go false e = ap (λ (b : Bool). body_or b (conditions (moment d p) p.state p.insn (change d p))) e
        ∙ of-tests (moment d p) p.state p.insn (change d p) (h e)

-- ---- at a node

placed-ok : (n : Node) (r : Result (Unit {0}) Condition) → Passes (placed_at n r) → Passes r
placed-ok n (Ok u) e = refl
placed-ok n (Err k) e = absurd cc

ok-placed : (n : Node) (r : Result (Unit {0}) Condition) → Passes r → Passes (placed_at n r)
ok-placed n (Ok u) e = refl
ok-placed n (Err k) e = absurd cc

record Row (image : Contents) (d : Description) (cert : Certificate) (c : Context) (n : Node) (p : Placed) : Type 0 where
  text : is_text d p ≡ true
  insn : Passes (insn_conditions d p)
  next : are_successors_covered d cert n.context p ≡ true
  events : All (λ v. is_event_covered d cert p v ≡ true) (events_of d p)
  back : All (λ v. is_return_covered image d cert p v ≡ true) (events_of d p)
  counted : All (λ v. is_event_counted image d cert c.summary.clobber p v ≡ true) (events_of d p)

module _ (image : Contents) (d : Description) (cert : Certificate) (c : Context) (n : Node) (p : Placed) where
  abbrev step14 : ℕ → Result (Unit {0}) Refusal
  step14 v = demand (is_event_covered d cert p v) (at_event n 14 v)

  abbrev step15 : ℕ → Result (Unit {0}) Refusal
  step15 v = demand (is_return_covered image d cert p v) (at_event n 15 v)

  abbrev step16 : ℕ → Result (Unit {0}) Refusal
  step16 v = demand (is_event_counted image d cert c.summary.clobber p v) (at_event n 16 v)

  row-of : Passes (placed_refusal image d cert c n p) → Row image d cert c n p
  row-of e =
      let a = demand (is_text d p) (at_node n (condition 5)) in
      let b = placed_at n (insn_conditions d p) in
      let f = demand (are_successors_covered d cert n.context p) (at_node n (condition 13)) in
      let g = each step14 (events_of d p) in
      let h = each step15 (events_of d p) in
      let i = each step16 (events_of d p) in
      let from15 = h >>= λ ok. i in
      let from14 = g >>= λ ok. from15 in
      let from13 = f >>= λ ok. from14 in
      let from6 = b >>= λ ok. from13 in
      let p5 = chain a from6 e in
      let p6 = chain b from13 p5.1 in
      let p13 = chain f from14 p6.1 in
      let p14 = chain g from15 p13.1 in
      let p15 = chain h i p14.1 in
      let e14 = each-all step14 (events_of d p) p14.0 in
      let e15 = each-all step15 (events_of d p) p15.0 in
      let e16 = each-all step16 (events_of d p) p15.1 in
      record {
        text = demand-ok (is_text d p) (at_node n (condition 5)) p5.0;
        insn = placed-ok n (insn_conditions d p) p6.0;
        next = demand-ok (are_successors_covered d cert n.context p) (at_node n (condition 13)) p13.0;
        events = λ k w lt. demand-ok _ _ (e14 k w lt);
        back = λ k w lt. demand-ok _ _ (e15 k w lt);
        counted = λ k w lt. demand-ok _ _ (e16 k w lt);
      }

  of-row : Row image d cert c n p → Passes (placed_refusal image d cert c n p)
  of-row t =
      let a = demand (is_text d p) (at_node n (condition 5)) in
      let b = placed_at n (insn_conditions d p) in
      let f = demand (are_successors_covered d cert n.context p) (at_node n (condition 13)) in
      let g = each step14 (events_of d p) in
      let h = each step15 (events_of d p) in
      let i = each step16 (events_of d p) in
      let from15 = h >>= λ ok. i in
      let from14 = g >>= λ ok. from15 in
      let from13 = f >>= λ ok. from14 in
      let from6 = b >>= λ ok. from13 in
      link a from6 (ok-demand (is_text d p) (at_node n (condition 5)) t.text)
      (link b from13 (ok-placed n (insn_conditions d p) t.insn)
      (link f from14 (ok-demand (are_successors_covered d cert n.context p) (at_node n (condition 13)) t.next)
      (link g from15 (all-each step14 (events_of d p) (λ k w lt. ok-demand _ _ (t.events k w lt)))
      (link h i (all-each step15 (events_of d p) (λ k w lt. ok-demand _ _ (t.back k w lt)))
      (all-each step16 (events_of d p) (λ k w lt. ok-demand _ _ (t.counted k w lt)))))))

record AtNode (image : Contents) (d : Description) (cert : Certificate) (c : Context) (n : Node) : Type 0 where
  exact : is_exact (moment_of d c.key n.state 0) n.site.inside ≡ true
  row : IsSomeAnd (insn_at image n.site.at) (λ x. Row image d cert c n (placed c n x))

decoded : (image : Contents) (d : Description) (cert : Certificate) (c : Context) (n : Node) (o : Option (Insn × ℕ))
    → Passes (decoded_refusal image d cert c n o) → IsSomeAnd o (λ x. Row image d cert c n (placed c n x))
decoded image d cert c n (Some x) e = row-of image d cert c n (placed c n x) e
decoded image d cert c n None e = absurd cc

recoded : (image : Contents) (d : Description) (cert : Certificate) (c : Context) (n : Node) (o : Option (Insn × ℕ))
    → IsSomeAnd o (λ x. Row image d cert c n (placed c n x)) → Passes (decoded_refusal image d cert c n o)
recoded image d cert c n (Some x) h = of-row image d cert c n (placed c n x) h
recoded image d cert c n None h = absurd h

node-of : (image : Contents) (d : Description) (cert : Certificate) (c : Context) (n : Node)
    → Passes (node_refusal image d cert c n) → AtNode image d cert c n
node-of image d cert c n e =
    let parts = chain (demand (is_exact (moment_of d c.key n.state 0) n.site.inside) (at_node n (condition 4)))
    (decoded_refusal image d cert c n (insn_at image n.site.at)) e in
    record {
      exact = demand-ok (is_exact (moment_of d c.key n.state 0) n.site.inside) (at_node n (condition 4)) parts.0;
      row = decoded image d cert c n (insn_at image n.site.at) parts.1;
    }

of-node : (image : Contents) (d : Description) (cert : Certificate) (c : Context) (n : Node)
    → AtNode image d cert c n → Passes (node_refusal image d cert c n)
of-node image d cert c n t =
    link (demand (is_exact (moment_of d c.key n.state 0) n.site.inside) (at_node n (condition 4)))
    (decoded_refusal image d cert c n (insn_at image n.site.at))
    (ok-demand (is_exact (moment_of d c.key n.state 0) n.site.inside) (at_node n (condition 4)) t.exact)
    (recoded image d cert c n (insn_at image n.site.at) t.row)

-- ---- at a context

insn-some : (test : Placed → Bool) (c : Context) (n : Node) (o : Option (Insn × ℕ)) → of_insn test c n o ≡ true
    → IfSome o (λ x. test (placed c n x) ≡ true)
insn-some test c n (Some x) e = e
insn-some test c n None e = tt

some-insn : (test : Placed → Bool) (c : Context) (n : Node) (o : Option (Insn × ℕ))
    → IfSome o (λ x. test (placed c n x) ≡ true) → of_insn test c n o ≡ true
some-insn test c n (Some x) h = h
some-insn test c n None h = refl

record AtContext (image : Contents) (d : Description) (cert : Certificate) (i : ℕ) (c : Context) : Type 0 where
  nodes : All (λ n. Passes (node_refusal image d cert c n)) (nodes_of cert i)
  home : is_home_counted d c ≡ true
  counted : of_nodes image (is_node_counted d c.summary) c (nodes_of cert i) ≡ true
  user : of_nodes image (is_user_covered cert) c (nodes_of cert i) ≡ true

context-of : (image : Contents) (d : Description) (cert : Certificate) (i : ℕ) (c : Context)
    → Passes (context_refusal image d cert i c) → AtContext image d cert i c
context-of image d cert i c e =
    let counted = of_nodes image (is_node_counted d c.summary) c (nodes_of cert i) in
    let covered = of_nodes image (is_user_covered cert) c (nodes_of cert i) in
    let nodes = each (node_refusal image d cert c) (nodes_of cert i) in
    let own = demand (is_home_counted d c && counted) (at_context i 16) in
    let user = demand covered (at_context i 17) in
    let from16 = own >>= λ ok. user in
    let p = chain nodes from16 e in
    let q = chain own user p.1 in
    let both = and-both (is_home_counted d c) counted (demand-ok (is_home_counted d c && counted) (at_context i 16) q.0) in
    record {
      nodes = each-all (node_refusal image d cert c) (nodes_of cert i) p.0;
      home = both.0;
      counted = both.1;
      user = demand-ok covered (at_context i 17) q.1;
    }

of-context : (image : Contents) (d : Description) (cert : Certificate) (i : ℕ) (c : Context)
    → AtContext image d cert i c → Passes (context_refusal image d cert i c)
of-context image d cert i c t =
    let counted = of_nodes image (is_node_counted d c.summary) c (nodes_of cert i) in
    let covered = of_nodes image (is_user_covered cert) c (nodes_of cert i) in
    let nodes = each (node_refusal image d cert c) (nodes_of cert i) in
    let own = demand (is_home_counted d c && counted) (at_context i 16) in
    let user = demand covered (at_context i 17) in
    let from16 = own >>= λ ok. user in
    link nodes from16 (all-each (node_refusal image d cert c) (nodes_of cert i) t.nodes)
    (link own user
    (ok-demand (is_home_counted d c && counted) (at_context i 16) (both-and (is_home_counted d c) counted t.home t.counted))
    (ok-demand covered (at_context i 17) t.user))

-- ---- the whole

record Whole (image : Contents) (d : Description) (cert : Certificate) : Type 0 where
  start : is_start_covered d cert ≡ true
  user : All (λ v. is_user_event_covered d cert (Some v) ≡ true) (user_vectors d cert.user)
  syscall : is_user_event_covered d cert None ≡ true
  contexts : (k : ℕ) (c : Context) → slice_get cert.contexts k ≡ Some c → AtContext image d cert k c

whole-of : (image : Contents) (d : Description) (cert : Certificate) → Passes (refusal_from_start image d cert)
    → Whole image d cert
whole-of image d cert e =
    let ask = λ (v : ℕ). demand (is_user_event_covered d cert (Some v)) (at_user (Vector v)) in
    let a = demand (is_start_covered d cert) (at_table 3) in
    let b = each ask (user_vectors d cert.user) in
    let s = demand (is_user_event_covered d cert None) (at_user Syscall) in
    let f = each_from (context_refusal image d cert) 0 cert.contexts in
    let from-syscall = s >>= λ ok. f in
    let from-user = b >>= λ ok. from-syscall in
    let p = chain a from-user e in
    let q = chain b from-syscall p.1 in
    let r = chain s f q.1 in
    let users = each-all ask (user_vectors d cert.user) q.0 in
    record {
      start = demand-ok (is_start_covered d cert) (at_table 3) p.0;
      user = λ k w lt. demand-ok _ _ (users k w lt);
      syscall = demand-ok (is_user_event_covered d cert None) (at_user Syscall) r.0;
      contexts = λ k c at.
          let within = slice_get_within cert.contexts k c at in
          let here = from-each (context_refusal image d cert) 0 cert.contexts r.1 k c within in
          let zeroth : k + 0 ≡ k = omega arith in
          let is = get_or_from_slice_get cert.contexts k c c at in
          context-of image d cert k c
          (subst (λ (x : Context). Passes (context_refusal image d cert k x)) is
          (subst (λ (m : ℕ). Passes (context_refusal image d cert m (slice_index_or cert.contexts k c))) zeroth here));
    }

of-whole : (image : Contents) (d : Description) (cert : Certificate) → Whole image d cert
    → Passes (refusal_from_start image d cert)
of-whole image d cert t =
    let ask = λ (v : ℕ). demand (is_user_event_covered d cert (Some v)) (at_user (Vector v)) in
    let a = demand (is_start_covered d cert) (at_table 3) in
    let b = each ask (user_vectors d cert.user) in
    let s = demand (is_user_event_covered d cert None) (at_user Syscall) in
    let f = each_from (context_refusal image d cert) 0 cert.contexts in
    let from-syscall = s >>= λ ok. f in
    let from-user = b >>= λ ok. from-syscall in
    link a from-user (ok-demand (is_start_covered d cert) (at_table 3) t.start)
    (link b from-syscall (all-each ask (user_vectors d cert.user) (λ k w lt. ok-demand _ _ (t.user k w lt)))
    (link s f (ok-demand (is_user_event_covered d cert None) (at_user Syscall) t.syscall)
    (to-each (context_refusal image d cert) 0 cert.contexts (λ k c lt.
    let zeroth : k ≡ k + 0 = omega arith in
    subst (λ (m : ℕ). Passes (context_refusal image d cert m (slice_index_or cert.contexts k c))) zeroth
    (of-context image d cert k (slice_index_or cert.contexts k c)
    (t.contexts k (slice_index_or cert.contexts k c) (got cert.contexts k c lt)))))))

-- a node is one of the nodes of the context that it names
own : (image : Contents) (d : Description) (cert : Certificate) (P : Node → Type 0) (k : ℕ) (e : Node)
    → k < length cert.nodes → All P (nodes_of cert (slice_index_or cert.nodes k e).context) → P (slice_index_or cert.nodes k e)
own image d cert P k e lt h =
    let n = slice_index_or cert.nodes k e in
    from-filter (λ m. m.context == n.context) P cert.nodes h k e lt (eq-eqb n.context n.context refl)

pub certified-of : (image : Contents) (d : Description) (due : Digests) (cert : Certificate)
    → IsUnrefused image d due cert → IsCertified image d due cert
certified-of image d due cert (digests, form, passes) =
    let w = whole-of image d cert passes in
    let at-node : (k : ℕ) (e : Node) → k < length cert.nodes → (c : Context)
    → slice_get cert.contexts (slice_index_or cert.nodes k e).context ≡ Some c
    → AtNode image d cert c (slice_index_or cert.nodes k e)
    = λ k e lt c at. node-of image d cert c (slice_index_or cert.nodes k e)
    (own image d cert (λ m. Passes (node_refusal image d cert c m)) k e lt
    (w.contexts (slice_index_or cert.nodes k e).context c at).nodes) in
    let each-node : (P : Context → Node → Type 0)
    → ((c : Context) (n : Node) → AtNode image d cert c n → P c n) → EachNode cert P
    = λ P f k e lt. if-some (slice_get cert.contexts (slice_index_or cert.nodes k e).context)
    (λ c. P c (slice_index_or cert.nodes k e)) (λ c at. f c (slice_index_or cert.nodes k e) (at-node k e lt c at)) in
    let each-row : (P : Context → Node → Placed → Type 0)
    → ((c : Context) (n : Node) (p : Placed) → Row image d cert c n p → P c n p) → EachPlaced image cert P
    = λ P f. each-node (λ c n. IfSome (insn_at image n.site.at) (λ x. P c n (placed c n x)))
    (λ c n t. weaken (insn_at image n.site.at) (λ x. Row image d cert c n (placed c n x)) (λ x. P c n (placed c n x))
    (λ x row. f c n (placed c n x) row) t.row) in
    let counted : EachPlaced image cert (λ c n p. is_node_counted d c.summary p ≡ true)
    = λ k e lt. if-some (slice_get cert.contexts (slice_index_or cert.nodes k e).context)
    (λ c. IfSome (insn_at image (slice_index_or cert.nodes k e).site.at)
    (λ x. is_node_counted d c.summary (placed c (slice_index_or cert.nodes k e) x) ≡ true))
    (λ c at. insn-some (is_node_counted d c.summary) c (slice_index_or cert.nodes k e)
    (insn_at image (slice_index_or cert.nodes k e).site.at)
    (own image d cert (λ m. of_insn (is_node_counted d c.summary) c m (insn_at image m.site.at) ≡ true) k e lt
    (all-list (λ m. of_insn (is_node_counted d c.summary) c m (insn_at image m.site.at))
    (nodes_of cert (slice_index_or cert.nodes k e).context)
    (w.contexts (slice_index_or cert.nodes k e).context c at).counted))) in
    let covered : EachPlaced image cert (λ c n p. is_user_covered cert p ≡ true)
    = λ k e lt. if-some (slice_get cert.contexts (slice_index_or cert.nodes k e).context)
    (λ c. IfSome (insn_at image (slice_index_or cert.nodes k e).site.at)
    (λ x. is_user_covered cert (placed c (slice_index_or cert.nodes k e) x) ≡ true))
    (λ c at. insn-some (is_user_covered cert) c (slice_index_or cert.nodes k e)
    (insn_at image (slice_index_or cert.nodes k e).site.at)
    (own image d cert (λ m. of_insn (is_user_covered cert) c m (insn_at image m.site.at) ≡ true) k e lt
    (all-list (λ m. of_insn (is_user_covered cert) c m (insn_at image m.site.at))
    (nodes_of cert (slice_index_or cert.nodes k e).context)
    (w.contexts (slice_index_or cert.nodes k e).context c at).user))) in
    record {
      digests = digests;
      table_form = form;
      start_covered = w.start;
      exact_spaces = each-node (λ c n. is_exact (moment_of d c.key n.state 0) n.site.inside ≡ true) (λ c n t. t.exact);
      executable_text = each-node (λ c n. IsSomeAnd (insn_at image n.site.at) (λ x. is_text d (placed c n x) ≡ true))
          (λ c n t. some-and (insn_at image n.site.at) (λ x. Row image d cert c n (placed c n x))
          (λ x. is_text d (placed c n x) ≡ true) (λ x row. row.text) t.row);
      kernel_gs = each-row (λ c n p. p.site.inside ≡ false → uses_kernel_gs (moment d p) (accesses d p) ≡ true)
          (λ c n p row e. (insn-tests d p row.insn e).kernel_gs);
      access_permitted = each-row
          (λ c n p. p.site.inside ≡ false → is_permitted (moment d p) p.insn (accesses d p) ≡ true)
          (λ c n p row e. (insn-tests d p row.insn e).permitted);
      no_live_byte_written = each-row
          (λ c n p. p.site.inside ≡ false → is_clear (moment d p) p.state.floors (accesses d p) ≡ true)
          (λ c n p row e. (insn-tests d p row.insn e).no_live);
      cr3_value = each-row (λ c n p. p.site.inside ≡ false → loads_known_cr3 (moment d p) p.insn ≡ true)
          (λ c n p row e. (insn-tests d p row.insn e).cr3);
      handler_call = each-row (λ c n p. p.site.inside ≡ false → calls_well (moment d p) p.state.floors p.insn ≡ true)
          (λ c n p row e. (insn-tests d p row.insn e).calls);
      nothing_forbidden = each-row (λ c n p. p.site.inside ≡ false → is_allowed (moment d p) p.insn ≡ true)
          (λ c n p row e. (insn-tests d p row.insn e).allowed);
      return_test = each-row (λ c n p. p.site.inside ≡ false → restores (moment d p) p.insn ≡ true)
          (λ c n p row e. (insn-tests d p row.insn e).restored);
      successor_covered = each-row (λ c n p. are_successors_covered d cert n.context p ≡ true) (λ c n p row. row.next);
      event_covered = record {
        user = w.user;
        syscall = w.syscall;
        nodes = each-row (λ c n p. All (λ v. is_event_covered d cert p v ≡ true) (events_of d p)) (λ c n p row. row.events);
      };
      after_return_covered = each-row (λ c n p. All (λ v. is_return_covered image d cert p v ≡ true) (events_of d p))
          (λ c n p row. row.back);
      summary_covers = record {
        events = each-row
            (λ c n p. All (λ v. is_event_counted image d cert c.summary.clobber p v ≡ true) (events_of d p))
            (λ c n p row. row.counted);
        homes = λ k c lt. (w.contexts k (slice_index_or cert.contexts k c) (got cert.contexts k c lt)).home;
        nodes = counted;
      };
      user_state_covers = covered;
    }

-- what all facts say of one node
module _ (image : Contents) (d : Description) (due : Digests) (cert : Certificate) (f : IsCertified image d due cert)
    (k : ℕ) (e : Node) (lt : k < length cert.nodes) (c : Context)
    (at : slice_get cert.contexts (slice_index_or cert.nodes k e).context ≡ Some c) where
  abbrev node : Node
  node = slice_index_or cert.nodes k e

  row-fact : (P : Context → Node → Placed → Type 0) (x : Insn × ℕ) → insn_at image node.site.at ≡ Some x
      → EachPlaced image cert P → P c node (placed c node x)
  row-fact P x is h = there (insn_at image node.site.at) (λ y. P c node (placed c node y)) x is
      (there (slice_get cert.contexts node.context) (λ b. IfSome (insn_at image node.site.at) (λ y. P b node (placed b node y)))
      c at (h k e lt))

  exact-fact : is_exact (moment_of d c.key node.state 0) node.site.inside ≡ true
  exact-fact = there (slice_get cert.contexts node.context)
      (λ b. is_exact (moment_of d b.key node.state 0) node.site.inside ≡ true) c at (f.exact_spaces k e lt)

  text-fact : IsSomeAnd (insn_at image node.site.at) (λ x. is_text d (placed c node x) ≡ true)
  text-fact = there (slice_get cert.contexts node.context)
      (λ b. IsSomeAnd (insn_at image node.site.at) (λ x. is_text d (placed b node x) ≡ true)) c at (f.executable_text k e lt)

  row-facts : (x : Insn × ℕ) → insn_at image node.site.at ≡ Some x → Row image d cert c node (placed c node x)
  row-facts (insn, len) is =
      let p = placed c node (insn, len) in
      record {
        text = some-there (insn_at image node.site.at) (λ x. is_text d (placed c node x) ≡ true) (insn, len) is text-fact;
        insn = tests-insn d p (λ outside. record {
          exact = subst (λ (b : Bool). is_exact (moment_of d c.key node.state 0) b ≡ true) outside exact-fact;
          kernel_gs = row-fact (λ c n p. p.site.inside ≡ false → uses_kernel_gs (moment d p) (accesses d p) ≡ true)
              (insn, len) is f.kernel_gs outside;
          permitted = row-fact
              (λ c n p. p.site.inside ≡ false → is_permitted (moment d p) p.insn (accesses d p) ≡ true)
              (insn, len) is f.access_permitted outside;
          no_live = row-fact
              (λ c n p. p.site.inside ≡ false → is_clear (moment d p) p.state.floors (accesses d p) ≡ true)
              (insn, len) is f.no_live_byte_written outside;
          cr3 = row-fact (λ c n p. p.site.inside ≡ false → loads_known_cr3 (moment d p) p.insn ≡ true)
              (insn, len) is f.cr3_value outside;
          calls = row-fact (λ c n p. p.site.inside ≡ false → calls_well (moment d p) p.state.floors p.insn ≡ true)
              (insn, len) is f.handler_call outside;
          allowed = row-fact (λ c n p. p.site.inside ≡ false → is_allowed (moment d p) p.insn ≡ true)
              (insn, len) is f.nothing_forbidden outside;
          restored = row-fact (λ c n p. p.site.inside ≡ false → restores (moment d p) p.insn ≡ true)
              (insn, len) is f.return_test outside;
        });
        next = row-fact (λ c n p. are_successors_covered d cert n.context p ≡ true) (insn, len) is f.successor_covered;
        events = row-fact (λ c n p. All (λ v. is_event_covered d cert p v ≡ true) (events_of d p)) (insn, len) is
            f.event_covered.nodes;
        back = row-fact (λ c n p. All (λ v. is_return_covered image d cert p v ≡ true) (events_of d p)) (insn, len) is
            f.after_return_covered;
        counted = row-fact
            (λ c n p. All (λ v. is_event_counted image d cert c.summary.clobber p v ≡ true) (events_of d p)) (insn, len) is
            f.summary_covers.events;
      }

  node-facts : AtNode image d cert c node
  node-facts = record { exact = exact-fact; row = go (insn_at image node.site.at) refl text-fact }
    where
      go : (o : Option (Insn × ℕ)) → insn_at image node.site.at ≡ o
          → IsSomeAnd o (λ x. is_text d (placed c node x) ≡ true)
          → IsSomeAnd o (λ x. Row image d cert c node (placed c node x))
      go (Some x) is t = row-facts x is
      go None is t = absurd t

  counted-fact : of_insn (is_node_counted d c.summary) c node (insn_at image node.site.at) ≡ true
  counted-fact = some-insn (is_node_counted d c.summary) c node (insn_at image node.site.at)
      (there (slice_get cert.contexts node.context)
      (λ b. IfSome (insn_at image node.site.at) (λ x. is_node_counted d b.summary (placed b node x) ≡ true)) c at
      (f.summary_covers.nodes k e lt))

  user-fact : of_insn (is_user_covered cert) c node (insn_at image node.site.at) ≡ true
  user-fact = some-insn (is_user_covered cert) c node (insn_at image node.site.at)
      (there (slice_get cert.contexts node.context)
      (λ b. IfSome (insn_at image node.site.at) (λ x. is_user_covered cert (placed b node x) ≡ true)) c at
      (f.user_state_covers k e lt))

pub unrefused-of : (image : Contents) (d : Description) (due : Digests) (cert : Certificate)
    → IsCertified image d due cert → IsUnrefused image d due cert
unrefused-of image d due cert f =
    let at-context : (i : ℕ) (c : Context) → slice_get cert.contexts i ≡ Some c → AtContext image d cert i c
    = λ i c at.
    let named : (k : ℕ) (e : Node) → ((slice_index_or cert.nodes k e).context == i) ≡ true
    → slice_get cert.contexts (slice_index_or cert.nodes k e).context ≡ Some c
    = λ k e t. subst (λ (m : ℕ). slice_get cert.contexts m ≡ Some c)
    (sym (eqb-true (slice_index_or cert.nodes k e).context i t)) at in
    record {
      nodes = to-filter (λ n. n.context == i) (λ n. Passes (node_refusal image d cert c n)) cert.nodes
          (λ k e lt t. of-node image d cert c (slice_index_or cert.nodes k e)
          (node-facts image d due cert f k e lt c (named k e t)));
      home = subst (λ (x : Context). is_home_counted d x ≡ true) (get_or_from_slice_get cert.contexts i c c at)
          (f.summary_covers.homes i c (slice_get_within cert.contexts i c at));
      counted = list-all (λ m. of_insn (is_node_counted d c.summary) c m (insn_at image m.site.at)) (nodes_of cert i)
          (to-filter (λ n. n.context == i)
          (λ m. of_insn (is_node_counted d c.summary) c m (insn_at image m.site.at) ≡ true) cert.nodes
          (λ k e lt t. counted-fact image d due cert f k e lt c (named k e t)));
      user = list-all (λ m. of_insn (is_user_covered cert) c m (insn_at image m.site.at)) (nodes_of cert i)
          (to-filter (λ n. n.context == i)
          (λ m. of_insn (is_user_covered cert) c m (insn_at image m.site.at) ≡ true) cert.nodes
          (λ k e lt t. user-fact image d due cert f k e lt c (named k e t)));
    } in (
      f.digests,
      f.table_form,
      of-whole image d cert (record {
        start = f.start_covered;
        user = f.event_covered.user;
        syscall = f.event_covered.syscall;
        contexts = at-context;
      }),
    )
