-- Reading so many times takes exactly what spells the items, one after the other. An item may depend on what was read
-- before, the state: `run` is the state after the items, `spelled` their bytes, and `Chain` says that each fits where
-- it stands. By induction on the number of times, and back on the items. For lists that grow at their end, `listed`
-- says the same without states.
use Rattle.std.proofs.Common.{◌≡◌, ℕ, zero, suc, List, [], ◌∷◌, ◌++◌, length, Result, Ok, refl, sym, ap, ◌∙◌, subst, append_assoc, append-nil}
use Rattle.std.specs.Prelude.{All}
use Rattle.std.specs.List.{flat_map}
use Rattle.std.proofs.lemmas.List.Elements.{All-nil, All-cons, All-head, All-tail}
use Rattle.kc_rules.specs.Rules.{◌>>=◌}
use Rattle.kc_rules.proofs.AnswerLemmas.{bind_ok, ok_is, done}
use Rattle.kc_certfields.specs.declared.fault.CertFault.{CertFault}
use Rattle.kc_certfields.specs.Rest.{Rest}
use Rattle.kc_certfields.specs.Reads.{Reading, times}
use Rattle.kc_certexact.specs.Exact.{AreBytes, Given, Exact}
use Rattle.kc_certexact.proofs.ExactLemmas.{bytes-after, joined, split}

-- the state was changed by an item that fits, and the bytes that were taken spell it
pub record Added {S X : Type 0} (put : S → X → S) (spell : S → X → List ℕ) (Fits : S → X → Type 0) (s : S)
    (before after : Rest) (t : S) : Type 0 where
  pub item : X
  pub fits : Fits s item
  pub is : t ≡ put s item
  pub spelled : before.bytes ≡ spell s item ++ after.bytes

-- where the state is in order, the reading takes exactly an item, and leaves it in order
pub record Adds {S X : Type 0} (next : S → Reading S) (put : S → X → S) (spell : S → X → List ℕ)
    (Fits : S → X → Type 0) (InOrder : S → Type 0) : Type 0 where
  pub takes : (s : S) (i j : Rest) (t : S) → InOrder s → AreBytes i.bytes → next s i ≡ Ok (t, j)
      → Added put spell Fits s i j t
  pub gives : (s : S) (i : Rest) (x : X) (more : List ℕ) → InOrder s → Fits s x → i.bytes ≡ spell s x ++ more
      → Given (next s) i (put s x) more
  pub keeps : (s : S) (x : X) → InOrder s → Fits s x → InOrder (put s x)

-- every state is in order
abbrev pub Always : {S : Type 0} → S → Type 0
Always s = Unit {0}

-- an item's reading, and the state with it
pub adds-item : {S X : Type 0} (item : S → Reading X) (put : S → X → S) (spell : S → X → List ℕ)
    (Fits : S → X → Type 0) → ((s : S) → Exact (item s) (spell s) (Fits s))
    → Adds (λ s i. item s i >>= λ x. Ok (put s x.0, x.1)) put spell Fits Always
adds-item {S} {X} item put spell Fits exact = record {
  takes = λ s i j t order are h.
      let b = bind_ok (item s i) (λ x. Ok (put s x.0, x.1)) (t, j) h in
      let pair : (put s b.0.0, b.0.1) ≡ (t, j) = ok_is {E = CertFault} (put s b.0.0, b.0.1) (t, j) b.2 in
      let taken = (exact s).takes i b.0.1 b.0.0 are b.1 in
      record {
        item = b.0.0;
        fits = taken.fits;
        is = sym (ap (λ (p : S × Rest). p.0) pair);
        spelled = taken.spelled ∙ ap (λ (p : S × Rest). spell s b.0.0 ++ p.1.bytes) pair;
      };
  gives = λ s i x more order fits e.
      let g = (exact s).gives i x more fits e in
      let after : Result (X × Rest) CertFault → Result (S × Rest) CertFault = λ r. r >>= λ x. Ok (put s x.0, x.1) in
      record { after = g.after; is = ap after g.is; left = g.left };
  keeps = λ s x order fits. tt;
}

module _ {S X : Type 0} (put : S → X → S) (spell : S → X → List ℕ) (Fits : S → X → Type 0) where
  abbrev pub run : S → List X → S
  run s [] = s
  run s (x ∷ xs) = run (put s x) xs

  abbrev pub spelled : S → List X → List ℕ
  spelled s [] = []
  spelled s (x ∷ xs) = spell s x ++ spelled (put s x) xs

  abbrev pub Chain : S → List X → Type 0
  Chain s [] = Unit {0}
  Chain s (x ∷ xs) = Fits s x × Chain (put s x) xs

-- ---- so many times

pub record Ran {S X : Type 0} (put : S → X → S) (spell : S → X → List ℕ) (Fits : S → X → Type 0) (n : ℕ) (s : S)
    (before after : Rest) (t : S) : Type 0 where
  pub items : List X
  pub count : length items ≡ n
  pub fits : Chain put spell Fits s items
  pub is : t ≡ run put spell Fits s items
  pub spelled : before.bytes ≡ spelled put spell Fits s items ++ after.bytes

pub times-takes : {S X : Type 0} (next : S → Reading S) (put : S → X → S) (spell : S → X → List ℕ)
    (Fits : S → X → Type 0) (InOrder : S → Type 0) → Adds next put spell Fits InOrder → (n : ℕ) (s : S) (i j : Rest)
    (t : S) → InOrder s → AreBytes i.bytes → times next n s i ≡ Ok (t, j) → Ran put spell Fits n s i j t
unfolding times
times-takes {S} {X} next put spell Fits InOrder adds zero s i j t order are h =
    let pair : (s, i) ≡ (t, j) = ok_is {E = CertFault} (s, i) (t, j) h in record {
      items = [];
      count = refl;
      fits = tt;
      is = sym (ap (λ (p : S × Rest). p.0) pair);
      spelled = ap (λ (p : S × Rest). p.1.bytes) pair;
    }
times-takes {S} {X} next put spell Fits InOrder adds (suc n) s i j t order are h =
    let b = bind_ok (next s i) (λ more. times next n more.0 more.1) (t, j) h in
    let a = adds.takes s i b.0.1 b.0.0 order are b.1 in
    let kept = subst InOrder (sym a.is) (adds.keeps s a.item order a.fits) in
    let later = times-takes next put spell Fits InOrder adds n b.0.0 b.0.1 j t kept
    (bytes-after (spell s a.item) b.0.1.bytes i.bytes are a.spelled) b.2 in
    let R : S → Type 0 = λ u. Ran put spell Fits n u b.0.1 j t in
    let rest = subst R a.is later in
    record {
      items = a.item ∷ rest.items;
      count = ap suc rest.count;
      fits = (a.fits, rest.fits);
      is = rest.is;
      spelled = joined i.bytes (spell s a.item) (spelled put spell Fits (put s a.item) rest.items) b.0.1.bytes j.bytes
          a.spelled rest.spelled;
    }

pub times-gives : {S X : Type 0} (next : S → Reading S) (put : S → X → S) (spell : S → X → List ℕ)
    (Fits : S → X → Type 0) (InOrder : S → Type 0) → Adds next put spell Fits InOrder → (items : List X) (s : S)
    (i : Rest) (more : List ℕ) → InOrder s → Chain put spell Fits s items → i.bytes ≡ spelled put spell Fits s items
    ++ more
    → Given (times next (length items) s) i (run put spell Fits s items) more
unfolding times
times-gives next put spell Fits InOrder adds [] s i more order fits e = record { after = i; is = refl; left = e }
times-gives {S} {X} next put spell Fits InOrder adds (x ∷ xs) s i more order fits e =
    let later = spelled put spell Fits (put s x) xs in
    let g = adds.gives s i x (later ++ more) order fits.0 (split i.bytes (spell s x) later more e) in
    let rest = times-gives next put spell Fits InOrder adds xs (put s x) g.after more (adds.keeps s x order fits.0)
    fits.1
    g.left in
    let after : Result (S × Rest) CertFault → Result (S × Rest) CertFault =
    λ r. r >>= λ m. times next (length xs) m.0 m.1 in
    record { after = rest.after; is = ap after g.is ∙ rest.is; left = rest.left }

-- ---- lists that grow at their end

abbrev pub push : {X : Type 0} → List X → X → List X
push xs x = xs ++ x ∷ []

pub run-push : {X : Type 0} (spell : List X → X → List ℕ) (Fits : List X → X → Type 0) (before items : List X)
    → run push spell Fits before items ≡ before ++ items
run-push spell Fits before [] = sym (append-nil before)
run-push spell Fits before (x ∷ xs) =
    run-push spell Fits (before ++ x ∷ []) xs ∙ append_assoc before (x ∷ []) xs

-- items whose bytes don't depend on the state
pub spelled-flat : {S X : Type 0} (put : S → X → S) (spell : X → List ℕ) (Fits : S → X → Type 0) (s : S)
    (items : List X)
    → spelled put (λ u. spell) Fits s items ≡ flat_map spell items
spelled-flat put spell Fits s [] = refl
spelled-flat put spell Fits s (x ∷ xs) = ap (λ (l : List ℕ). spell x ++ l) (spelled-flat put spell Fits (put s x) xs)

-- items that don't depend on those before them
module _ {X : Type 0} (spell : X → List ℕ) (Fits : X → Type 0) where
  abbrev spells : List X → X → List ℕ
  spells xs = spell

  abbrev fit : List X → X → Type 0
  fit xs = Fits

  pub chain-all : (before items : List X) → Chain push spells fit before items → All Fits items
  chain-all before [] fits = All-nil Fits
  chain-all before (x ∷ xs) fits = All-cons Fits x xs fits.0 (chain-all (before ++ x ∷ []) xs fits.1)

  pub all-chain : (before items : List X) → All Fits items → Chain push spells fit before items
  all-chain before [] fits = tt
  all-chain before (x ∷ xs) fits = (All-head Fits x xs fits, all-chain (before ++ x ∷ []) xs (All-tail Fits x xs fits))

-- n items were read after none
pub record Listed {X : Type 0} (spell : X → List ℕ) (Fits : X → Type 0) (n : ℕ) (i j : Rest) (items : List X) : Type
    0 where
  pub count : length items ≡ n
  pub fits : All Fits items
  pub spelled : i.bytes ≡ flat_map spell items ++ j.bytes

module _ {X : Type 0} (item : Reading X) (spell : X → List ℕ) (Fits : X → Type 0) (exact : Exact item spell Fits) where
  abbrev next : List X → Reading (List X)
  next xs i = item i >>= λ x. Ok (xs ++ x.0 ∷ [], x.1)

  adds : Adds next push (λ xs. spell) (λ xs. Fits) Always
  adds = adds-item (λ xs. item) push (λ xs. spell) (λ xs. Fits) (λ xs. exact)

  pub listed-takes : (n : ℕ) (i j : Rest) (items : List X) → AreBytes i.bytes → times next n [] i ≡ Ok (items, j)
      → Listed spell Fits n i j items
  listed-takes n i j items are h =
      let r = times-takes next push (λ xs. spell) (λ xs. Fits) Always adds n [] i j items tt are h in
      let same : r.items ≡ items = sym (r.is ∙ run-push (λ xs. spell) (λ xs. Fits) [] r.items) in
      subst (λ (l : List X). Listed spell Fits n i j l) same (record {
        count = r.count;
        fits = chain-all spell Fits [] r.items r.fits;
        spelled = r.spelled ∙ ap (λ (l : List ℕ). l ++ j.bytes) (spelled-flat push spell (λ xs. Fits) [] r.items);
      })

  pub listed-gives : (items : List X) (i : Rest) (more : List ℕ) → All Fits items
      → i.bytes ≡ flat_map spell items ++ more → Given (times next (length items) []) i items more
  listed-gives items i more fits e =
      let g = times-gives next push (λ xs. spell) (λ xs. Fits) Always adds items [] i more tt
      (all-chain spell Fits [] items fits)
      (e ∙ ap (λ (l : List ℕ). l ++ more) (sym (spelled-flat push spell (λ xs. Fits) [] items))) in
      record {
        after = g.after;
        is = g.is ∙ ap (λ (l : List X). done (l, g.after)) (run-push (λ xs. spell) (λ xs. Fits) [] items);
        left = g.left;
      }
