-- Keys and summaries of contexts are read exactly: from their fields, in their order. A rule that joins two fields is a
-- premise of the later one.
use Rattle.std.proofs.Common.{◌≡◌, ℕ, ◌^◌, ◌≤◌, ◌<◌, Bool, true, false, cond, not, List, [], ◌∷◌, ◌++◌, Option, Some, None, Ok, refl, sym, ap, ◌∙◌, subst, arith}
use Rattle.std.specs.Prelude.{nat_lt, if◌then◌else◌, ◌==◌, ◌&&◌, ◌||◌, IfSome, is_some, unwrap_or}
use Rattle.std.proofs.lemmas.Bool.Decides.{nat_tests}
use Rattle.kc_rules.specs.Rules.{◌>>=◌}
use Rattle.kc_rules.proofs.AnswerLemmas.{done}
use Rattle.kc_space.specs.Spaces.{gs_number, map_number}
use Rattle.kc_space.specs.declared.gs.GsPair.{GsPair}
use Rattle.kc_space.specs.declared.map.MapState.{MapState}
use Rattle.kc_state.specs.Key.{IsKey}
use Rattle.kc_state.specs.Summary.{IsSummary}
use Rattle.kc_state.specs.declared.key.Key.{Key}
use Rattle.kc_certfields.specs.Rest.{Rest}
use Rattle.kc_certfields.specs.Reads.{Reading}
use Rattle.kc_certfields.specs.Keys.{bit_at, vector_at, bit_where, stack_at, base_at, key_at, summary_at}
use Rattle.kc_certfields.specs.Spelling.{u8_bytes, u32_bytes, u64_bytes, latches_bytes, key_bytes, summary_bytes}
use Rattle.kc_certexact.specs.Exact.{AreBytes, Taken, Given, Exact}
use Rattle.kc_certexact.proofs.ExactLemmas.{step, fitted, joined, split, ended, is-number, not-true, true-not}
use Rattle.kc_certexact.proofs.NumbersExact.{exact-u8, exact-u32, exact-u64}
use Rattle.kc_certexact.proofs.SpacesExact.{Any, exact-map, exact-gs, exact-latches}

-- ---- bits

abbrev pub bit : Bool → ℕ
bit b = cond b 1 0

bit-is : (n : ℕ) → n < 2 → bit (n == 1) ≡ n
bit-is n below = go (n == 1) refl
  where
    go : (b : Bool) → (n == 1) ≡ b → bit b ≡ n
    go true t = grind (arith, nat_tests, t)
    go false t = grind (arith, nat_tests, t)

bit-back : (b : Bool) → (bit b == 1) ≡ b
bit-back true = refl
bit-back false = refl

bit-small : (b : Bool) → nat_lt (bit b) 2 ≡ true
bit-small true = refl
bit-small false = refl

bit-byte : (b : Bool) → bit b < 256
bit-byte true = omega arith
bit-byte false = omega arith

pub exact-bit : Exact bit_at (λ b. u8_bytes (bit b)) Any
unfolding bit_at
exact-bit = record {
  takes = λ i j x are h.
      let n = step i _ (x, j) exact-u8 are h in
      let below = fitted (nat_lt n.value 2) i.at _ (x, j) n.more in
      ended (λ (b : Bool). u8_bytes (bit b)) Any i n.rest j (n.value == 1) x below.1 tt
      (n.spelled ∙ ap (λ (m : ℕ). m ∷ n.rest.bytes)
      (sym (bit-is n.value (let t = below.0 in grind (arith, nat_tests, t)))));
  gives = λ i x more fits e.
      let n = exact-u8.gives i (bit x) more (bit-byte x) e in
      let small = bit-small x in
      record {
        after = n.after;
        is = rw (n.is, small) (ap (λ (b : Bool). done (b, n.after)) (bit-back x));
        left = n.left;
      };
}

-- ---- fields with a rule

or-right : (a b : Bool) → (a || b) ≡ true → a ≡ false → b ≡ true
or-right true b e f = absurd cc
or-right false b e f = e

or-of : (a b : Bool) → (a ≡ false → b ≡ true) → (a || b) ≡ true
or-of true b h = refl
or-of false b h = h refl

-- SYSCALL has vector 0
record IsVector (event : Bool) (n : ℕ) : Type 0 where
  byte : n < 256
  rule : event ≡ false → n ≡ 0

exact-vector : (event : Bool) → Exact (vector_at event) u8_bytes (IsVector event)
unfolding vector_at
exact-vector event = record {
  takes = λ i j x are h.
      let n = step i _ (x, j) exact-u8 are h in
      let fits = fitted (event || n.value == 0) i.at _ (x, j) n.more in
      ended u8_bytes (IsVector event) i n.rest j n.value x fits.1
      (record { byte = n.fits; rule = λ f. is-number n.value 0 (or-right event (n.value == 0) fits.0 f) }) n.spelled;
  gives = λ i x more fits e.
      let n = exact-u8.gives i x more fits.byte e in
      let test = or-of event (x == 0) (λ f. let z = fits.rule f in grind (arith, nat_tests, z)) in
      record { after = n.after; is = rw (n.is, test) refl; left = n.left };
}

-- it is 0 where it may not be 1
record IsBit (may b : Bool) : Type 0 where
  rule : may ≡ false → b ≡ false

exact-where : (may : Bool) → Exact (bit_where may) (λ b. u8_bytes (bit b)) (IsBit may)
unfolding bit_where
exact-where may = record {
  takes = λ i j x are h.
      let b = step i _ (x, j) exact-bit are h in
      let fits = fitted (may || not b.value) i.at _ (x, j) b.more in
      ended (λ (c : Bool). u8_bytes (bit c)) (IsBit may) i b.rest j b.value x fits.1
      (record { rule = λ f. not-true b.value (or-right may (not b.value) fits.0 f) }) b.spelled;
  gives = λ i x more fits e.
      let b = exact-bit.gives i x more tt e in
      let test = or-of may (not x) (λ f. true-not x (fits.rule f)) in
      record { after = b.after; is = rw (b.is, test) refl; left = b.left };
}

-- the user's RSP lies in none, and a stack is one of so many
record IsStack (stacks : ℕ) (kernel : Bool) (s : Option ℕ) : Type 0 where
  one : IfSome s (λ n. n < stacks)
  rule : kernel ≡ false → s ≡ None

and-both : (a b : Bool) → (a && b) ≡ true → (a ≡ true) × (b ≡ true)
and-both true true e = (refl, refl)
and-both true false e = absurd cc
and-both false b e = absurd cc

abbrev stack : ℕ → Option ℕ
stack n = if n == 255 then None else Some n

stack-is : (stacks : ℕ) (kernel : Bool) (n : ℕ) → (n == 255 || (kernel && nat_lt n stacks)) ≡ true
    → IsStack stacks kernel (stack n) × (unwrap_or (stack n) 255 ≡ n)
stack-is stacks kernel n h = go (n == 255) refl h
  where
    none : (n == 255) ≡ true → 255 ≡ n
    none t = grind (arith, nat_tests, t)

    inside : nat_lt n stacks ≡ true → n < stacks
    inside t = grind (arith, nat_tests, t)

    go : (b : Bool) → (n == 255) ≡ b → (b || (kernel && nat_lt n stacks)) ≡ true
        → IsStack stacks kernel (if b then None else Some n) × (unwrap_or (if b then None else Some n) 255 ≡ n)
    go true t e = (record { one = tt; rule = λ f. refl }, none t)
    go false t e =
        let both = and-both kernel (nat_lt n stacks) e in
        (record { one = inside both.1; rule = λ f. absurd (let k = both.0 in cc) }, refl)

stack-test : (stacks : ℕ) (kernel : Bool) (s : Option ℕ) → stacks ≤ 16 → IsStack stacks kernel s
    → ((unwrap_or s 255 == 255 || (kernel && nat_lt (unwrap_or s 255) stacks)) ≡ true)
    × (stack (unwrap_or s 255) ≡ s) × (unwrap_or s 255 < 256)
stack-test stacks kernel None most fits = (refl, refl, omega arith)
stack-test stacks kernel (Some n) most fits =
    let below : n < stacks = fits.one in
    let other : (n == 255) ≡ false = grind (arith, nat_tests, below, most) in
    let inside : nat_lt n stacks ≡ true = grind (arith, nat_tests, below) in
    let here = kernel-is kernel fits.rule in (
      or-of (n == 255) (kernel && nat_lt n stacks) (λ f. (λ k. here k && inside k)),
      ap (λ (b : Bool). if◌then◌else◌ {A = Option ℕ} b None (Some n)) other,
      omega (arith, below, most),
    )
  where
    kernel-is : (b : Bool) → (b ≡ false → Some n ≡ None) → b ≡ true
    kernel-is true h = refl
    kernel-is false h = absurd (let clash = h refl in cc)

exact-stack : (stacks : ℕ) (kernel : Bool) → stacks ≤ 16
    → Exact (stack_at stacks kernel) (λ s. u8_bytes (unwrap_or s 255)) (IsStack stacks kernel)
unfolding stack_at
exact-stack stacks kernel most = record {
  takes = λ i j x are h.
      let n = step i _ (x, j) exact-u8 are h in
      let test = fitted (n.value == 255 || (kernel && nat_lt n.value stacks)) i.at _ (x, j) n.more in
      let is = stack-is stacks kernel n.value test.0 in
      ended (λ (s : Option ℕ). u8_bytes (unwrap_or s 255)) (IsStack stacks kernel) i n.rest j (stack n.value) x test.1
      is.0 (n.spelled ∙ ap (λ (m : ℕ). m ∷ n.rest.bytes) (sym is.1));
  gives = λ i x more fits e.
      let test = stack-test stacks kernel x most fits in
      let n = exact-u8.gives i (unwrap_or x 255) more test.2 e in
      let passes = test.0 in
      record {
        after = n.after;
        is = rw (n.is, passes) (ap (λ (s : Option ℕ). done (s, n.after)) test.1);
        left = n.left;
      };
}

-- it is there where this says so
record IsBase (based : Bool) (o : Option ℕ) : Type 0 where
  there : is_some o ≡ based
  word : IfSome o (λ b. b < 2 ^ 64)

abbrev base : Bool → ℕ → Option ℕ
base based n = if based then Some n else None

base-is : (based : Bool) (n : ℕ) → n < 2 ^ 64 → (based || n == 0) ≡ true
    → IsBase based (base based n) × (unwrap_or (base based n) 0 ≡ n)
base-is true n fits h = (record { there = refl; word = fits }, refl)
base-is false n fits h = (record { there = refl; word = tt }, sym (is-number n 0 h))

base-test : (based : Bool) (o : Option ℕ) → IsBase based o
    → ((based || unwrap_or o 0 == 0) ≡ true) × (base based (unwrap_or o 0) ≡ o) × (unwrap_or o 0 < 2 ^ 64)
base-test true (Some b) fits = (refl, refl, fits.word)
base-test true None fits = absurd (let t = fits.there in cc)
base-test false (Some b) fits = absurd (let t = fits.there in cc)
base-test false None fits = (refl, refl, omega arith)

exact-base : (based : Bool) → Exact (base_at based) (λ o. u64_bytes (unwrap_or o 0)) (IsBase based)
unfolding base_at
exact-base based = record {
  takes = λ i j x are h.
      let n = step i _ (x, j) exact-u64 are h in
      let test = fitted (based || n.value == 0) i.at _ (x, j) n.more in
      let is = base-is based n.value n.fits test.0 in
      ended (λ (o : Option ℕ). u64_bytes (unwrap_or o 0)) (IsBase based) i n.rest j (base based n.value) x test.1 is.0
      (n.spelled ∙ ap (λ (m : ℕ). u64_bytes m ++ n.rest.bytes) (sym is.1));
  gives = λ i x more fits e.
      let test = base-test based x fits in
      let n = exact-u64.gives i (unwrap_or x 0) more test.2 e in
      let passes = test.0 in
      record {
        after = n.after;
        is = rw (n.is, passes) (ap (λ (o : Option ℕ). done (o, n.after)) test.1);
        left = n.left;
      };
}

-- ---- keys

-- a key that keeps the rules of keys, with a byte for its vector and a word for its base
pub record IsKeyOf (stacks : ℕ) (k : Key) : Type 0 where
  pub key : IsKey stacks k
  pub vector : k.vector < 256
  pub base : IfSome k.base (λ b. b < 2 ^ 64)

not-not : (b : Bool) → not (not b) ≡ b
not-not true = refl
not-not false = refl

no-base : (o : Option ℕ) → is_some o ≡ false → o ≡ None
no-base (Some b) e = absurd cc
no-base None e = refl

-- what is read of a key before its stack
record Front : Type 0 where
  event : Bool
  vector : ℕ
  kernel : Bool
  gs : GsPair
  map : MapState

abbrev whole : Front → Option ℕ → Option ℕ → Key
whole f s o = record {
  syscall = not f.event;
  vector = f.vector;
  kernel = f.kernel;
  gs = f.gs;
  map = f.map;
  stack = s;
  base = o;
}

-- from the stack on
abbrev back_at : ℕ → Front → Reading Key
back_at stacks f i =
    stack_at stacks f.kernel i >>= λ s. bit_where f.event s.1 >>= λ b. base_at b.0 b.1 >>= λ o. Ok
    (whole f s.0 o.0, o.1)

abbrev back_bytes : Key → List ℕ
back_bytes k = unwrap_or k.stack 255 ∷ bit (is_some k.base) ∷ u64_bytes (unwrap_or k.base 0)

record IsBack (stacks : ℕ) (f : Front) (k : Key) : Type 0 where
  is : k ≡ whole f k.stack k.base
  stack : IsStack stacks f.kernel k.stack
  base : IfSome k.base (λ b. b < 2 ^ 64)
  none : f.event ≡ false → k.base ≡ None

exact-back : (stacks : ℕ) (f : Front) → stacks ≤ 16 → Exact (back_at stacks f) back_bytes (IsBack stacks f)
exact-back stacks f most = record {
  takes = λ i j x are h.
      let s = step i (λ s. bit_where f.event s.1 >>= λ b. base_at b.0 b.1 >>= λ o. Ok (whole f s.0 o.0, o.1)) (x, j)
      (exact-stack stacks f.kernel most) are h in
      let b = step s.rest (λ b. base_at b.0 b.1 >>= λ o. Ok (whole f s.value o.0, o.1)) (x, j) (exact-where f.event)
      s.bytes s.more in
      let o = step b.rest (λ o. Ok (whole f s.value o.0, o.1)) (x, j) (exact-base b.value) b.bytes b.more in
      ended back_bytes (IsBack stacks f) i o.rest j (whole f s.value o.value) x o.more
      (record {
        is = refl;
        stack = s.fits;
        base = o.fits.word;
        none = λ e. no-base o.value (o.fits.there ∙ b.fits.rule e);
      })
      (s.spelled ∙ ap (λ (l : List ℕ). unwrap_or s.value 255 ∷ l) (b.spelled
      ∙ (λ t. bit (sym o.fits.there t) ∷ o.spelled t)));
  gives = λ i x more fits h.
      let last = u64_bytes (unwrap_or x.base 0) ++ more in
      let s = (exact-stack stacks f.kernel most).gives i x.stack (bit (is_some x.base) ∷ last) fits.stack h in
      let b = (exact-where f.event).gives s.after (is_some x.base) last
      (record { rule = λ e. ap is_some (fits.none e) }) s.left in
      let o = (exact-base (is_some x.base)).gives b.after x.base more (record { there = refl; word = fits.base })
      b.left in
      record {
        after = o.after;
        is = rw (s.is, b.is, o.is) (ap (λ (k : Key). done (k, o.after)) (sym fits.is));
        left = o.left;
      };
}

abbrev front_bytes : Front → List ℕ
front_bytes f = bit f.event ∷ f.vector ∷ bit f.kernel ∷ gs_number f.gs ∷ map_number f.map ∷ []

-- the key's fields in its bytes
key-spelled : (f : Front) (k : Key) → k ≡ whole f k.stack k.base → front_bytes f ++ back_bytes k ≡ key_bytes k
key-spelled f k is =
    ap (λ (b : Bool). front_bytes (record f { event = b }) ++ back_bytes k) (sym (not-not f.event))
    ∙ ap key_bytes (sym is)

key-fits : (stacks : ℕ) (f : Front) (k : Key) → IsVector f.event f.vector → IsBit f.event f.kernel → IsBack stacks f k
    → IsKeyOf stacks k
key-fits stacks f k vector kernel fits = subst (IsKeyOf stacks) (sym fits.is) (record {
  key = record {
    syscall = λ s. let event = not-true f.event s in (vector.rule event, kernel.rule event, fits.none event);
    user = fits.stack.rule;
    stack = fits.stack.one;
  };
  vector = vector.byte;
  base = fits.base;
})

key-takes : (stacks : ℕ) → stacks ≤ 16 → (i j : Rest) (x : Key) → AreBytes i.bytes → key_at stacks i ≡ Ok (x, j)
    → Taken key_bytes (IsKeyOf stacks) i j x
unfolding key_at
key-takes stacks most i j x are h =
    let e = step i _ (x, j) exact-bit are h in
    let v = step e.rest _ (x, j) (exact-vector e.value) e.bytes e.more in
    let n = step v.rest _ (x, j) (exact-where e.value) v.bytes v.more in
    let g = step n.rest _ (x, j) exact-gs n.bytes n.more in
    let m = step g.rest _ (x, j) exact-map g.bytes g.more in
    let f : Front =
    record { event = e.value; vector = v.value; kernel = n.value; gs = g.value; map = m.value } in
    let t = (exact-back stacks f most).takes m.rest j x m.bytes m.more in
    record {
      fits = key-fits stacks f x v.fits n.fits t.fits;
      spelled = begun f i.bytes e.rest.bytes v.rest.bytes n.rest.bytes g.rest.bytes m.rest.bytes e.spelled v.spelled
          n.spelled g.spelled m.spelled
          ∙ ap (λ (l : List ℕ). front_bytes f ++ l) t.spelled
          ∙ ap (λ (l : List ℕ). l ++ j.bytes) (key-spelled f x t.fits.is);
    }
  where
    begun : (f : Front) (all a b c d rest : List ℕ) → all ≡ bit f.event ∷ a → a ≡ f.vector ∷ b → b ≡ bit f.kernel ∷ c
        → c ≡ gs_number f.gs ∷ d → d ≡ map_number f.map ∷ rest → all ≡ front_bytes f ++ rest
    begun f all a b c d rest ea eb ec ed er =
        ea ∙ ap (λ (l : List ℕ). bit f.event ∷ l) (eb ∙ ap (λ (l : List ℕ). f.vector ∷ l) (ec
        ∙ ap (λ (l : List ℕ). bit f.kernel ∷ l) (ed ∙ ap (λ (l : List ℕ). gs_number f.gs ∷ l) er)))

key-gives : (stacks : ℕ) → stacks ≤ 16 → (i : Rest) (x : Key) (more : List ℕ) → IsKeyOf stacks x
    → i.bytes ≡ key_bytes x ++ more → Given (key_at stacks) i x more
unfolding key_at
key-gives stacks most i x more fits h =
    let event = not x.syscall in
    let f : Front =
    record { event = event; vector = x.vector; kernel = x.kernel; gs = x.gs; map = x.map } in
    let last = back_bytes x ++ more in
    let m3 = map_number x.map ∷ last in
    let m2 = gs_number x.gs ∷ m3 in
    let m1 = bit x.kernel ∷ m2 in
    let call : event ≡ false → x.syscall ≡ true = λ g. sym (not-not x.syscall) ∙ ap not g in
    let e = exact-bit.gives i event (x.vector ∷ m1) tt h in
    let v = (exact-vector event).gives e.after x.vector m1
    (record { byte = fits.vector; rule = λ g. (fits.key.syscall (call g)).0 }) e.left in
    let n = (exact-where event).gives v.after x.kernel m2 (record { rule = λ g. (fits.key.syscall (call g)).1 })
    v.left in
    let g = exact-gs.gives n.after x.gs m3 tt n.left in
    let m = exact-map.gives g.after x.map last tt g.left in
    let b = (exact-back stacks f most).gives m.after x more
    (record {
      is = (λ t. record {
        syscall = sym (not-not x.syscall) t;
        vector = x.vector;
        kernel = x.kernel;
        gs = x.gs;
        map = x.map;
        stack = x.stack;
        base = x.base;
      });
      stack = record { one = fits.key.stack; rule = fits.key.user };
      base = fits.base;
      none = λ g. (fits.key.syscall (call g)).2;
    }) m.left in
    record { after = b.after; is = rw (e.is, v.is, n.is, g.is, m.is) b.is; left = b.left }

pub exact-key : (stacks : ℕ) → stacks ≤ 16 → Exact (key_at stacks) key_bytes (IsKeyOf stacks)
exact-key stacks most = record { takes = key-takes stacks most; gives = key-gives stacks most }

-- ---- summaries

pub exact-summary : Exact summary_at summary_bytes IsSummary
unfolding summary_at
exact-summary = record {
  takes = λ i j x are h.
      let s = step i _ (x, j) exact-u32 are h in
      let few = fitted (nat_lt s.value (2 ^ 16)) i.at _ (x, j) s.more in
      let w = step s.rest _ (x, j) exact-u64 s.bytes few.1 in
      let less = fitted (nat_lt w.value (2 ^ 40)) s.rest.at _ (x, j) w.more in
      let l = step w.rest _ (x, j) exact-latches w.bytes less.1 in
      ended summary_bytes IsSummary i l.rest j
      (record { clobber = record { stacks = s.value; words = w.value }; latches = l.value }) x l.more
      (record {
        stacks_fit = (let t = few.0 in grind (arith, nat_tests, t));
        words_fit = (let t = less.0 in grind (arith, nat_tests, t));
      })
      (joined i.bytes (u32_bytes s.value) (u64_bytes w.value ++ latches_bytes l.value) s.rest.bytes l.rest.bytes
      s.spelled
      (joined s.rest.bytes (u64_bytes w.value) (latches_bytes l.value) w.rest.bytes l.rest.bytes w.spelled l.spelled));
  gives = λ i x more fits e.
      let stacks : x.clobber.stacks < 2 ^ 16 = fits.stacks_fit in
      let words : x.clobber.words < 2 ^ 40 = fits.words_fit in
      let after = u64_bytes x.clobber.words ++ latches_bytes x.latches in
      let s = exact-u32.gives i x.clobber.stacks (after ++ more) (omega (arith, stacks))
      (split i.bytes (u32_bytes x.clobber.stacks) after more e) in
      let w = exact-u64.gives s.after x.clobber.words (latches_bytes x.latches ++ more) (omega (arith, words))
      (split s.after.bytes (u64_bytes x.clobber.words) (latches_bytes x.latches) more s.left) in
      let l = exact-latches.gives w.after x.latches more tt w.left in
      let few : nat_lt x.clobber.stacks (2 ^ 16) ≡ true = grind (arith, nat_tests, stacks) in
      let less : nat_lt x.clobber.words (2 ^ 40) ≡ true = grind (arith, nat_tests, words) in
      record { after = l.after; is = rw (s.is, few, w.is, less, l.is) refl; left = l.left };
}
