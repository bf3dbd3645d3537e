-- Nodes are read exactly, in both versions. A state that is shared has the number of the written state that it equals:
-- those that were written are apart, so it has one number, and equal numbers of a state make equal states. `InOrder` says
-- this of the states written so far; a state that is written is none of them, so it stays so.
use Rattle.std.proofs.Common.{◌≡◌, ℕ, suc, ◌-◌, ◌^◌, ◌≤◌, ◌<◌, Bool, true, false, cond, not, List, [], ◌∷◌, ◌++◌, length, get_or, Option, Some, None, Result, Ok, inl, inr, refl, sym, ap, ◌∙◌, subst, append_assoc, append-nil, arith}
use Rattle.std.specs.Prelude.{nat_lt, if◌then◌else◌, ◌==◌, All, AllPairs, IfSome, slice_get, is_none, is_some}
use Rattle.std.specs.List.{flat_map, position_or_len}
use Rattle.std.proofs.lemmas.Bool.Decides.{nat_tests}
use Rattle.std.proofs.lemmas.List.Elements.{All-nil, All-push}
use Rattle.std.proofs.lemmas.List.Sums.{fails_before_first}
use Rattle.std.proofs.lemmas.List.Quantifiers.{all_pairs_push, position-Some}
use Rattle.std.proofs.lemmas.Option.{slice_get-get_or, get_or_from_slice_get, slice_get_within}
use Rattle.std.proofs.lemmas.Slice.Eq.{bytes_eq-Decides}
use Rattle.kc_rules.specs.Rules.{◌>>=◌, refuse}
use Rattle.kc_rules.proofs.AnswerLemmas.{done, ok_is}
use Rattle.kc_state.specs.declared.state.AbsState.{AbsState}
use Rattle.kc_cert.specs.Table.{Position, position_of}
use Rattle.kc_cert.specs.declared.certificate.Node.{Node}
use Rattle.kc_cert.proofs.LookupLemmas.{position-found}
use Rattle.kc_certfields.specs.declared.fault.CertFault.{CertFault}
use Rattle.kc_certfields.specs.declared.fault.CertKind.TheVariants.{Order}
use Rattle.kc_certfields.specs.Fault.{fault}
use Rattle.kc_certfields.specs.Rest.{Rest}
use Rattle.kc_certfields.specs.Reads.{Reading}
use Rattle.kc_certfields.specs.Spelling.{u8_bytes, u32_bytes, u64_bytes, state_bytes}
use Rattle.kc_certform.specs.CertBytes.{position_bytes, node_bytes, share_of, share_bytes, written_after, shared_bytes}
use Rattle.kc_certform.specs.Numbers.{state_numbers, is_same_state}
use Rattle.kc_certexact.specs.Exact.{AreBytes, Given, Exact}
use Rattle.kc_certexact.proofs.ExactLemmas.{step, passed, fitted, found, joined, split, ended, not-false, false-not, chosen}
use Rattle.kc_certexact.proofs.NumbersExact.{exact-u32, exact-u64}
use Rattle.kc_certexact.proofs.StatesExact.{IsStateOf, exact-state}
use Rattle.kc_certexact.proofs.KeysExact.{exact-bit}
use Rattle.kc_certexact.proofs.TimesExact.{Adds, Added, run, spelled}
use Rattle.kc_certfmt.specs.Reading.{last_of, Nodes, position_rises, position_at, StateRead, plain_state_at, new_state_at, shared_state, state_after, shared_state_at, with_written, with_node, node_with}
use Rattle.kc_spellings.proofs.NumbersLemmas.{same-state}

-- ---- positions

-- a position after these nodes, with one of so many contexts
pub record IsPlace (contexts : ℕ) (before : List Node) (p : Position) : Type 0 where
  pub below : p.0 < contexts
  pub word : p.1.at < 2 ^ 64
  pub rises : position_rises (last_of before) p ≡ true

abbrev place_bytes : Position → List ℕ
place_bytes p = u32_bytes p.0 ++ (u64_bytes p.1.at ++ u8_bytes (cond p.1.inside 1 0))

exact-position : (contexts : ℕ) (before : List Node) → contexts < 2 ^ 32
    → Exact (position_at contexts before) place_bytes (IsPlace contexts before)
unfolding position_at
exact-position contexts before few = record {
  takes = λ i j x are h.
      let c = step i _ (x, j) exact-u32 are h in
      let below = fitted (nat_lt c.value contexts) i.at _ (x, j) c.more in
      let a = step c.rest _ (x, j) exact-u64 c.bytes below.1 in
      let b = step a.rest _ (x, j) exact-bit a.bytes a.more in
      let p : Position = (c.value, record { at = a.value; inside = b.value }) in
      let rises = passed (not (position_rises (last_of before) p)) (fault Order i.at) _ (x, j) b.more in
      ended place_bytes (IsPlace contexts before) i b.rest j p x rises.1
      (record {
        below = (let t = below.0 in grind (arith, nat_tests, t));
        word = a.fits;
        rises = not-false (position_rises (last_of before) p) rises.0;
      })
      (joined i.bytes (u32_bytes c.value) (u64_bytes a.value ++ u8_bytes (cond b.value 1 0)) c.rest.bytes b.rest.bytes
      c.spelled
      (joined c.rest.bytes (u64_bytes a.value) (u8_bytes (cond b.value 1 0)) a.rest.bytes b.rest.bytes a.spelled b.spelled));
  gives = λ i x more fits e.
      let within = fits.below in
      let after = u64_bytes x.1.at ++ u8_bytes (cond x.1.inside 1 0) in
      let c = exact-u32.gives i x.0 (after ++ more) (omega (arith, within, few)) (split i.bytes (u32_bytes x.0) after more e) in
      let a = exact-u64.gives c.after x.1.at (u8_bytes (cond x.1.inside 1 0) ++ more) fits.word
      (split c.after.bytes (u64_bytes x.1.at) (u8_bytes (cond x.1.inside 1 0)) more c.left) in
      let b = exact-bit.gives a.after x.1.inside more tt a.left in
      let below : nat_lt x.0 contexts ≡ true = grind (arith, nat_tests, within) in
      let rises = false-not (position_rises (last_of before) x) fits.rises in
      record { after = b.after; is = rw (c.is, below, a.is, b.is, rises) refl; left = b.left };
}

-- ---- the states written so far

-- they fit, and no two are the same
pub record InOrder (stacks : ℕ) (written : List AbsState) : Type 0 where
  pub fit : All (IsStateOf stacks) written
  pub apart : AllPairs (λ x y. is_same_state x y ≡ false) written

same-self : (s : AbsState) → is_same_state s s ≡ true
same-self s = (bytes_eq-Decides (state_numbers s) (state_numbers s)).1 refl

-- the number of a written state is the one where it stands
share-here : (stacks : ℕ) (written : List AbsState) (k : ℕ) (s : AbsState) → InOrder stacks written
    → slice_get written k ≡ Some s → share_of written s ≡ Some k
share-here stacks written k s order is =
    let below = slice_get_within written k s is in
    let here : get_or written k s ≡ s = get_or_from_slice_get written k s s is in
    sym (position-found (λ w. is_same_state w s) written k s below
    (λ l less. sym (ap (λ (t : AbsState). is_same_state (get_or written l s) t) here) ∙ order.apart l k s less below)
    (ap (λ (t : AbsState). is_same_state t s) here ∙ same-self s))

-- the written state that is named is the state
share-is : (stacks : ℕ) (written : List AbsState) (k : ℕ) (s : AbsState) → InOrder stacks written → IsStateOf stacks s
    → share_of written s ≡ Some k → slice_get written k ≡ Some s
share-is stacks written k s order fits is =
    let p = position-Some (λ w. is_same_state w s) written k s is in
    let w : AbsState = get_or written k s in
    let equal : w ≡ s = same-state w s (order.fit k s p.0).state fits.state p.1 in
    slice_get-get_or written k s p.0 ∙ ap Some equal

no-index : (b : Bool) (k : ℕ) → cond b (Some k) None ≡ None → b ≡ false
no-index true k e = absurd cc
no-index false k e = refl

-- a state without a number is none of them
unshared : (written : List AbsState) (s : AbsState) → share_of written s ≡ None → (k : ℕ) (d : AbsState)
    → k < length written → is_same_state (get_or written k d) s ≡ false
unshared written s none k d below =
    let test : AbsState → Bool = λ w. is_same_state w s in
    let all = no-index (nat_lt (position_or_len test written) (length written)) (position_or_len test written) none in
    let past : length written ≤ position_or_len test written = grind (arith, nat_tests, all) in
    fails_before_first test written k d (omega (arith, below, past))

-- ---- a state, by the version

-- whether a node writes its state
abbrev pub is_written : Bool → List AbsState → AbsState → Bool
is_written true written s = false
is_written false written s = is_none (share_of written s)

abbrev pub read_bytes : ℕ → Bool → List AbsState → AbsState → List ℕ
read_bytes stacks true written s = state_bytes stacks s
read_bytes stacks false written s = share_bytes stacks s (share_of written s)

-- the number of a shared state fits four bytes
abbrev pub HasNumber : Bool → List AbsState → AbsState → Type 0
HasNumber true written s = Unit {0}
HasNumber false written s = IfSome (share_of written s) (λ k. suc k < 2 ^ 32)

pub record IsRead (stacks : ℕ) (plain : Bool) (written : List AbsState) (r : StateRead) : Type 0 where
  pub fits : IsStateOf stacks r.0
  pub is : r.1 ≡ is_written plain written r.0
  pub number : HasNumber plain written r.0

-- version 1 where this is true
abbrev state_by : ℕ → Bool → List AbsState → Reading StateRead
state_by stacks plain written k =
    if plain then plain_state_at stacks k else shared_state_at stacks written k

abbrev bytes_by : ℕ → Bool → List AbsState → StateRead → List ℕ
bytes_by stacks plain written r = read_bytes stacks plain written r.0

exact-plain : (stacks : ℕ) (written : List AbsState) → stacks ≤ 16
    → Exact (plain_state_at stacks) (bytes_by stacks true written) (IsRead stacks true written)
unfolding plain_state_at
exact-plain stacks written most = record {
  takes = λ i j x are h.
      let s = step i _ (x, j) (exact-state stacks most) are h in
      ended (bytes_by stacks true written) (IsRead stacks true written) i s.rest j (s.value, false) x s.more
      (record { fits = s.fits; is = refl; number = tt }) s.spelled;
  gives = λ i x more fits e.
      let s = (exact-state stacks most).gives i x.0 more fits.fits e in
      record {
        after = s.after;
        is = rw s.is (ap (λ (b : Bool). done ((x.0, b), s.after)) (sym fits.is));
        left = s.left;
      };
}

-- a state that isn't written yet
abbrev absent : Option ℕ → Type 0
absent o = is_some o ≡ false

none-is : (o : Option ℕ) → is_some o ≡ false → o ≡ None
none-is (Some k) e = absurd cc
none-is None e = refl

abbrev Shared : Type 0
Shared = Result (StateRead × Rest) CertFault

-- what follows a share
record AfterShare (stacks : ℕ) (written : List AbsState) (n : ℕ) (k j : Rest) (x : StateRead) : Type 0 where
  read : IsRead stacks false written x
  spelled : u32_bytes n ++ k.bytes ≡ bytes_by stacks false written x ++ j.bytes

after-new : (stacks : ℕ) (written : List AbsState) → stacks ≤ 16 → (n : ℕ) (k j : Rest) (x : StateRead) → n ≡ 0
    → AreBytes k.bytes → new_state_at stacks written k ≡ Ok (x, j) → AfterShare stacks written n k j x
unfolding new_state_at
after-new stacks written most n k j x zero are h =
    let s = step k (λ s. refuse (is_some (share_of written s.0)) (fault Order k.at) >>= λ y. Ok ((s.0, true), s.1)) (x, j)
    (exact-state stacks most) are h in
    let none = passed (is_some (share_of written s.value)) (fault Order k.at) (λ y. Ok ((s.value, true), s.rest)) (x, j)
    s.more in
    let o = none-is (share_of written s.value) none.0 in
    let pair : ((s.value, true), s.rest) ≡ (x, j) = ok_is {E = CertFault} ((s.value, true), s.rest) (x, j) none.1 in
    subst (λ (p : StateRead × Rest). AfterShare stacks written n k p.1 p.0) pair (record {
      read = record {
        fits = s.fits;
        is = sym (ap is_none o);
        number = subst (λ (q : Option ℕ). IfSome q (λ m. suc m < 2 ^ 32)) (sym o) tt;
      };
      spelled = ap (λ (m : ℕ). u32_bytes m ++ k.bytes) zero ∙ ap (λ (l : List ℕ). u32_bytes 0 ++ l) s.spelled
          ∙ sym (append_assoc (u32_bytes 0) (state_bytes stacks s.value) s.rest.bytes)
          ∙ ap (λ (q : Option ℕ). share_bytes stacks s.value q ++ s.rest.bytes) (sym o);
    })

after-old : (stacks : ℕ) (written : List AbsState) → InOrder stacks written → (at n : ℕ) (k j : Rest) (x : StateRead)
    → (n == 0) ≡ false → n < 2 ^ 32 → shared_state written at n k ≡ Ok (x, j) → AfterShare stacks written n k j x
after-old stacks written order at n k j x some small h =
    let f = found (slice_get written (n - 1)) at (λ s. Ok ((s, false), k)) (x, j) h in
    let s : AbsState = f.0 in
    let o = share-here stacks written (n - 1) s order f.1 in
    let below = slice_get_within written (n - 1) s f.1 in
    let back : suc (n - 1) ≡ n = grind (arith, nat_tests, some) in
    let here : get_or written (n - 1) s ≡ s = get_or_from_slice_get written (n - 1) s s f.1 in
    let pair : ((s, false), k) ≡ (x, j) = ok_is {E = CertFault} ((s, false), k) (x, j) f.2 in
    subst (λ (p : StateRead × Rest). AfterShare stacks written n k p.1 p.0) pair (record {
      read = record {
        fits = subst (IsStateOf stacks) here (order.fit (n - 1) s below);
        is = sym (ap is_none o);
        number = subst (λ (q : Option ℕ). IfSome q (λ m. suc m < 2 ^ 32)) (sym o) (omega (arith, back, small));
      };
      spelled = ap (λ (m : ℕ). u32_bytes m ++ k.bytes) (sym back)
          ∙ ap (λ (q : Option ℕ). share_bytes stacks s q ++ k.bytes) (sym o);
    })

shared-gives : (stacks : ℕ) (written : List AbsState) → stacks ≤ 16 → InOrder stacks written → (i : Rest) (x : StateRead)
    (more : List ℕ) → (o : Option ℕ) → share_of written x.0 ≡ o → IsStateOf stacks x.0 → x.1 ≡ is_none o
    → IfSome o (λ k. suc k < 2 ^ 32) → i.bytes ≡ share_bytes stacks x.0 o ++ more
    → Given (shared_state_at stacks written) i x more
unfolding shared_state_at new_state_at
shared-gives stacks written most order i x more None is fits flag number e =
    let n = exact-u32.gives i 0 (state_bytes stacks x.0 ++ more) (omega arith)
    (split i.bytes (u32_bytes 0) (state_bytes stacks x.0) more e) in
    let s = (exact-state stacks most).gives n.after x.0 more fits n.left in
    record {
      after = s.after;
      is = rw (n.is, s.is, is) (ap (λ (b : Bool). done ((x.0, b), s.after)) (sym flag));
      left = s.left;
    }
shared-gives stacks written most order i x more (Some k) is fits flag number e =
    let n = exact-u32.gives i (suc k) more number e in
    let test : (suc k == 0) ≡ false = grind (arith, nat_tests) in
    let back : suc k - 1 ≡ k = omega arith in
    let here = share-is stacks written k x.0 order fits is in
    record {
      after = n.after;
      is = rw (n.is, test, back, here) (ap (λ (b : Bool). done ((x.0, b), n.after)) (sym flag));
      left = n.left;
    }

exact-shared : (stacks : ℕ) (written : List AbsState) → stacks ≤ 16 → InOrder stacks written
    → Exact (shared_state_at stacks written) (bytes_by stacks false written) (IsRead stacks false written)
unfolding shared_state_at
exact-shared stacks written most order = record {
  takes = λ i j x are h.
      let n = step i (λ n. state_after stacks written i.at n.0 n.1) (x, j) exact-u32 are h in
      let a = after-share i n.value n.rest j x n.fits n.bytes n.more in
      record { fits = a.read; spelled = n.spelled ∙ a.spelled };
  gives = λ i x more fits e.
      shared-gives stacks written most order i x more (share_of written x.0) refl fits.fits fits.is fits.number e;
}
  where
    after-share : (i : Rest) (n : ℕ) (k j : Rest) (x : StateRead) → n < 2 ^ 32 → AreBytes k.bytes
        → state_after stacks written i.at n k ≡ Ok (x, j) → AfterShare stacks written n k j x
    after-share i n k j x small are h =
        elim (chosen {A = Shared} (n == 0) (new_state_at stacks written k) (shared_state written i.at n k) (Ok (x, j)) h) [
          | inl a ↦
              let zero : n ≡ 0 = (let t = a.0 in grind (arith, nat_tests, t)) in
              after-new stacks written most n k j x zero are a.1
          | inr b ↦ after-old stacks written order i.at n k j x b.0 small b.1
        ]

exact-by : (stacks : ℕ) (plain : Bool) (written : List AbsState) → stacks ≤ 16 → InOrder stacks written
    → Exact (state_by stacks plain written) (bytes_by stacks plain written) (IsRead stacks plain written)
exact-by stacks true written most order = exact-plain stacks written most
exact-by stacks false written most order = exact-shared stacks written most order

-- ---- nodes

abbrev pub next_by : ℕ → ℕ → Bool → Nodes → Reading Nodes
next_by stacks contexts plain before i = do
  p ← position_at contexts before.nodes i
  node_with before p.0 (λ k. if plain then plain_state_at stacks k else shared_state_at stacks before.written k) p.1

-- the nodes and the written states after a node
abbrev pub put : Bool → Nodes → Node → Nodes
put plain before n = with_node before (position_of n) (n.state, is_written plain before.written n.state)

abbrev pub spell : ℕ → Bool → Nodes → Node → List ℕ
spell stacks plain before n = position_bytes n ++ read_bytes stacks plain before.written n.state

pub record IsNodeOf (stacks contexts : ℕ) (plain : Bool) (before : Nodes) (n : Node) : Type 0 where
  pub place : IsPlace contexts before.nodes (position_of n)
  pub state : IsStateOf stacks n.state
  pub number : HasNumber plain before.written n.state

abbrev Ordered : ℕ → Nodes → Type 0
Ordered stacks before = InOrder stacks before.written

node-takes : (stacks contexts : ℕ) (plain : Bool) → stacks ≤ 16 → contexts < 2 ^ 32 → (before : Nodes) (i j : Rest)
    (t : Nodes) → Ordered stacks before → AreBytes i.bytes → next_by stacks contexts plain before i ≡ Ok (t, j)
    → Added (put plain) (spell stacks plain) (IsNodeOf stacks contexts plain) before i j t
node-takes stacks contexts plain most few before i j t order are h =
    let p = step i (λ p. node_with before p.0 (state_by stacks plain before.written) p.1) (t, j)
    (exact-position contexts before.nodes few) are h in
    let s = step p.rest (λ s. Ok (with_node before p.value s.0, s.1)) (t, j)
    (exact-by stacks plain before.written most order) p.bytes p.more in
    let node : Node = record { context = p.value.0; site = p.value.1; state = s.value.0 } in
    let pair : (with_node before p.value s.value, s.rest) ≡ (t, j) =
    ok_is {E = CertFault} (with_node before p.value s.value, s.rest) (t, j) s.more in
    let written : with_node before p.value s.value ≡ put plain before node =
    ap (λ (b : Bool). with_node before p.value (s.value.0, b)) s.fits.is in
    record {
      item = node;
      fits = record { place = p.fits; state = s.fits.fits; number = s.fits.number };
      is = sym (ap (λ (q : Nodes × Rest). q.0) pair) ∙ written;
      spelled = joined i.bytes (place_bytes p.value) (read_bytes stacks plain before.written s.value.0) p.rest.bytes
          s.rest.bytes p.spelled s.spelled
          ∙ ap (λ (q : Nodes × Rest). spell stacks plain before node ++ q.1.bytes) pair;
    }

node-gives : (stacks contexts : ℕ) (plain : Bool) → stacks ≤ 16 → contexts < 2 ^ 32 → (before : Nodes) (i : Rest)
    (n : Node) (more : List ℕ) → Ordered stacks before → IsNodeOf stacks contexts plain before n
    → i.bytes ≡ spell stacks plain before n ++ more
    → Given (next_by stacks contexts plain before) i (put plain before n) more
node-gives stacks contexts plain most few before i n more order fits e =
    let state : StateRead = (n.state, is_written plain before.written n.state) in
    let back = read_bytes stacks plain before.written n.state in
    let p = (exact-position contexts before.nodes few).gives i (position_of n) (back ++ more) fits.place
    (split i.bytes (position_bytes n) back more e) in
    let s = (exact-by stacks plain before.written most order).gives p.after state more
    (record { fits = fits.state; is = refl; number = fits.number }) p.left in
    let first : Result (Position × Rest) CertFault → Result (Nodes × Rest) CertFault =
    λ r. r >>= λ p. node_with before p.0 (state_by stacks plain before.written) p.1 in
    let second : Result (StateRead × Rest) CertFault → Result (Nodes × Rest) CertFault =
    λ r. r >>= λ s. Ok (with_node before (position_of n) s.0, s.1) in
    record { after = s.after; is = ap first p.is ∙ ap second s.is; left = s.left }

node-keeps : (stacks contexts : ℕ) (plain : Bool) (before : Nodes) (n : Node) → Ordered stacks before
    → IsNodeOf stacks contexts plain before n → Ordered stacks (put plain before n)
node-keeps stacks contexts true before n order fits = order
node-keeps stacks contexts false before n order fits = go (share_of before.written n.state) refl
  where
    go : (o : Option ℕ) → share_of before.written n.state ≡ o
        → InOrder stacks (with_written before.written (n.state, is_none o))
    go (Some k) is = order
    go None is = record {
      fit = All-push (IsStateOf stacks) before.written n.state order.fit fits.state;
      apart = all_pairs_push (λ (x y : AbsState). is_same_state x y ≡ false) before.written n.state order.apart
          (unshared before.written n.state is);
    }

pub adds-node : (stacks contexts : ℕ) (plain : Bool) → stacks ≤ 16 → contexts < 2 ^ 32
    → Adds (next_by stacks contexts plain) (put plain) (spell stacks plain) (IsNodeOf stacks contexts plain)
    (Ordered stacks)
adds-node stacks contexts plain most few = record {
  takes = node-takes stacks contexts plain most few;
  gives = node-gives stacks contexts plain most few;
  keeps = node-keeps stacks contexts plain;
}

pub none-ordered : (stacks : ℕ) → InOrder stacks []
none-ordered stacks = record {
  fit = All-nil (IsStateOf stacks);
  apart = λ i j d less below. absurd (omega (arith, below));
}

-- ---- what is spelled

-- the nodes after these
pub run-nodes : (stacks contexts : ℕ) (plain : Bool) (before : Nodes) (ns : List Node)
    → (run (put plain) (spell stacks plain) (IsNodeOf stacks contexts plain) before ns).nodes ≡ before.nodes ++ ns
run-nodes stacks contexts plain before [] = sym (append-nil before.nodes)
run-nodes stacks contexts plain before (n ∷ ns) =
    run-nodes stacks contexts plain (put plain before n) ns ∙ append_assoc before.nodes (n ∷ []) ns

pub plain-spelled : (stacks contexts : ℕ) (before : Nodes) (ns : List Node)
    → spelled (put true) (spell stacks true) (IsNodeOf stacks contexts true) before ns ≡ flat_map (node_bytes stacks) ns
plain-spelled stacks contexts before [] = refl
plain-spelled stacks contexts before (n ∷ ns) =
    ap (λ (l : List ℕ). node_bytes stacks n ++ l) (plain-spelled stacks contexts (put true before n) ns)

pub shared-spelled : (stacks contexts : ℕ) (before : Nodes) (ns : List Node)
    → spelled (put false) (spell stacks false) (IsNodeOf stacks contexts false) before ns
    ≡ shared_bytes stacks before.written ns
unfolding shared_bytes
shared-spelled stacks contexts before [] = refl
shared-spelled stacks contexts before (n ∷ ns) =
    let share = share_of before.written n.state in
    let later = shared_bytes stacks (with_written before.written (n.state, is_none share)) ns in
    ap (λ (l : List ℕ). spell stacks false before n ++ l) (shared-spelled stacks contexts (put false before n) ns)
    ∙ append_assoc (position_bytes n) (share_bytes stacks n.state share) later
    ∙ ap (λ (w : List AbsState). position_bytes n ++ (share_bytes stacks n.state share ++ shared_bytes stacks w ns))
    (go share)
  where
    go : (o : Option ℕ) → with_written before.written (n.state, is_none o) ≡ written_after before.written n.state o
    go (Some k) = refl
    go None = refl
