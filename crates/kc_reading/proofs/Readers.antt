-- How readers that are exact for their grammars are put together.
-- Each combinator makes the record Exact of the whole from those of its parts, a field at a time: takes and again by
-- regrouping the bytes, refuses and completes by cases on the part that refused (bind_err). A reader after another
-- also has to know that each start of the first part goes on to something that both spell (`live`). So many bytes are
-- read by induction on their number. omega is left lengths alone.
use Rattle.std.proofs.Common.{◌≡◌, ℕ, zero, suc, ◌<◌, Bool, true, false, cond, List, [], ◌∷◌, ◌++◌, length, replicate, Result, Ok, Err, ◌⊎◌, inl, inr, refl, sym, ap, subst, ◌∙◌, append_assoc, arith, lit<}
use Rattle.std.proofs.lemmas.List.{append-nil, length-append, nil_from_length, length-replicate, append_cancel_right}
use Rattle.kc_rules.specs.Rules.{◌>>=◌}
use Rattle.kc_rules.proofs.AnswerLemmas.{bind_ok, bind_err, ok_is}
use Rattle.kc_reading.specs.Reading.{AreBytes, Exact, Then, ByteThen, AreManyBytes, byte_at, bytes_at, IsNumber, number_at}
use Rattle.kc_words.specs.LittleEndian.{little_endian}

-- ---- bytes

pub AreBytes-front : (xs ys : List ℕ) → AreBytes (xs ++ ys) → AreBytes xs
AreBytes-front [] ys h = tt
AreBytes-front (x ∷ xs) ys h = (h.0, AreBytes-front xs ys h.1)

pub AreBytes-back : (xs ys : List ℕ) → AreBytes (xs ++ ys) → AreBytes ys
AreBytes-back [] ys h = h
AreBytes-back (x ∷ xs) ys h = AreBytes-back xs ys h.1

pub AreBytes-zeros : (n : ℕ) → AreBytes (replicate n 0)
AreBytes-zeros zero = tt
AreBytes-zeros (suc n) = (lit< tt, AreBytes-zeros n)

many-split : (n : ℕ) (bs xs : List ℕ) → length bs ≡ suc n → AreBytes bs → xs ≡ bs
    → ByteThen (λ b back y. (others : List ℕ) × AreManyBytes n back others × (y ≡ b ∷ others)) bs xs
many-split n [] xs len fits e = absurd cc
many-split n (b ∷ bs) xs len fits e = (b, bs, fits.0, (bs, (cc, fits.1, refl), e), refl)

-- ---- composition

module _ {E : Type 0} (short : E → Bool) where
  -- always refuses
  pub exact-none : {A : Type 0} (e : E) → short e ≡ false → Exact {A = A} short (λ bs. Err e) (λ bs x. ⊥)
  exact-none e stays = record {
    takes = λ bs rest x fits h. absurd cc;
    again = λ front rest x h. absurd h;
    refuses = λ bs more d fits h s. h;
    completes = λ bs d fits h s. absurd (let same : e ≡ d = cc in let clash : true ≡ false = sym s
        ∙ ap short (sym same) ∙ stays in cc);
  }

  -- takes nothing
  pub exact-pure : {A : Type 0} (x : A) → Exact {A = A} short (λ bs. Ok (x, bs)) (λ bs y. (bs ≡ []) × (y ≡ x))
  exact-pure {A} x = record {
    takes = λ bs rest y fits h.
        let pair : (x, bs) ≡ (y, rest) = ok_is {E = E} (x, bs) (y, rest) h in
        ([], (refl, sym (ap (λ (p : A × List ℕ). p.0) pair)), ap (λ (p : A × List ℕ). p.1) pair);
    again = λ front rest y h. rw (h.0, h.1) refl;
    refuses = λ bs more d fits h s. absurd cc;
    completes = λ bs d fits h s. absurd cc;
  }

  -- another wording of the grammar
  pub exact-words : {A : Type 0} (read : List ℕ → Result (A × List ℕ) E) (S T : List ℕ → A → Type 0)
      → Exact short read S
      → ((bs : List ℕ) (x : A) → S bs x → T bs x) → ((bs : List ℕ) (x : A) → T bs x → S bs x) → Exact short read T
  exact-words read S T ex to back = record {
    takes = λ bs rest x fits h. let t = ex.takes bs rest x fits h in (t.0, to t.0 x t.1, t.2);
    again = λ front rest x h. ex.again front rest x (back front x h);
    refuses = ex.refuses;
    completes = λ bs e fits h s. let c = ex.completes bs e fits h s in (c.0, c.1, c.2, to (bs ++ c.0) c.1 c.3);
  }

  -- another wording of the reader
  pub exact-same : {A : Type 0} (read other : List ℕ → Result (A × List ℕ) E) (S : List ℕ → A → Type 0)
      → Exact short read S
      → ((bs : List ℕ) → other bs ≡ read bs) → Exact short other S
  exact-same read other S ex same = record {
    takes = λ bs rest x fits h. ex.takes bs rest x fits (sym (same bs) ∙ h);
    again = λ front rest x h. same (front ++ rest) ∙ ex.again front rest x h;
    refuses = λ bs more e fits h s. same (bs ++ more) ∙ ex.refuses bs more e fits (sym (same bs) ∙ h) s;
    completes = λ bs e fits h s. ex.completes bs e fits (sym (same bs) ∙ h) s;
  }

  -- one reader after another, where each start of the first goes on to something that both spell
  module _ {A B : Type 0} (read : List ℕ → Result (A × List ℕ) E) (f : A → List ℕ → Result (B × List ℕ) E)
      (S : List ℕ → A → Type 0) (T : A → List ℕ → B → Type 0)
      (first : Exact short read S) (second : (front : List ℕ) (x : A) → S front x → Exact short (f x) (T x))
      (live : (bs : List ℕ) (e : E) → AreBytes bs → read bs ≡ Err e → short e ≡ true
      → (more : List ℕ) × (x : A) × (back : List ℕ) × (y : B) × (0 < length more) × S (bs ++ more) x × T x back y) where
    both : List ℕ → Result (B × List ℕ) E
    both bs = read bs >>= λ x. f x.0 x.1

    then-takes : (bs rest : List ℕ) (y : B) → AreBytes bs → both bs ≡ Ok (y, rest) → (front : List ℕ)
        × Then S T front y × (bs ≡ front ++ rest)
    unfolding both
    then-takes bs rest y fits h =
        let b = bind_ok (read bs) (λ x. f x.0 x.1) (y, rest) h in
        let one = first.takes bs b.0.1 b.0.0 fits b.1 in
        let fits2 : AreBytes (one.0 ++ b.0.1) = subst AreBytes one.2 fits in
        let two = (second one.0 b.0.0 one.1).takes b.0.1 rest y (AreBytes-back one.0 b.0.1 fits2) b.2 in (
          one.0 ++ two.0,
          (b.0.0, one.0, two.0, one.1, two.1, refl),
          one.2 ∙ ap (λ (t : List ℕ). one.0 ++ t) two.2
              ∙ sym (append_assoc one.0 two.0 rest),
        )

    then-again : (front rest : List ℕ) (y : B) → Then S T front y → both (front ++ rest) ≡ Ok (y, rest)
    unfolding both
    then-again front rest y h =
        let x = h.0 in
        let regrouped : front ++ rest ≡ h.1 ++ (h.2 ++ rest) = ap (λ (t : List ℕ). t ++ rest) h.5
        ∙ append_assoc h.1 h.2 rest in
        let one : read (front ++ rest) ≡ Ok (x, h.2 ++ rest) = ap read regrouped
        ∙ first.again h.1 (h.2 ++ rest) x h.3 in
        ap (λ (r : Result (A × List ℕ) E). r >>= λ v. f v.0 v.1) one ∙ (second h.1 x h.3).again h.2 rest y h.4

    then-refuses : (bs more : List ℕ) (e : E) → AreBytes bs → both bs ≡ Err e → short e ≡ false
        → both (bs ++ more) ≡ Err e
    unfolding both
    then-refuses bs more e fits h s =
        elim (bind_err (read bs) (λ x. f x.0 x.1) e h) [
          | inl one ↦ ap (λ (r : Result (A × List ℕ) E). r >>= λ v. f v.0 v.1) (first.refuses bs more e fits one s)
          | inr b ↦
              let one = first.takes bs b.0.1 b.0.0 fits b.1 in
              let fits2 : AreBytes (one.0 ++ b.0.1) = subst AreBytes one.2 fits in
              let regrouped : bs ++ more ≡ one.0 ++ (b.0.1 ++ more) = ap (λ (t : List ℕ). t ++ more) one.2
              ∙ append_assoc one.0 b.0.1 more in
              let again : read (bs ++ more) ≡ Ok (b.0.0, b.0.1 ++ more) = ap read regrouped
              ∙ first.again one.0 (b.0.1 ++ more) b.0.0 one.1 in
              ap (λ (r : Result (A × List ℕ) E). r >>= λ v. f v.0 v.1) again
              ∙ (second one.0 b.0.0 one.1).refuses b.0.1 more e (AreBytes-back one.0 b.0.1 fits2) b.2 s
        ]

    then-completes : (bs : List ℕ) (e : E) → AreBytes bs → both bs ≡ Err e → short e ≡ true → (more : List ℕ) × (y : B)
        × (0 < length more) × Then S T (bs ++ more) y
    unfolding both
    then-completes bs e fits h s =
        elim (bind_err (read bs) (λ x. f x.0 x.1) e h) [
          | inl one ↦
              let c = live bs e fits one s in (
                c.0 ++ c.2,
                c.3,
                omega (arith, length-append c.0 c.2),
                (c.1, bs ++ c.0, c.2, c.5, c.6, sym (append_assoc bs c.0 c.2)),
              )
          | inr b ↦
              let one = first.takes bs b.0.1 b.0.0 fits b.1 in
              let fits2 : AreBytes (one.0 ++ b.0.1) = subst AreBytes one.2 fits in
              let c = (second one.0 b.0.0 one.1).completes b.0.1 e (AreBytes-back one.0 b.0.1 fits2) b.2 s in (
                c.0,
                c.1,
                c.2,
                (
                  b.0.0,
                  one.0,
                  b.0.1 ++ c.0,
                  one.1,
                  c.3,
                  ap (λ (t : List ℕ). t ++ c.0) one.2
                      ∙ append_assoc one.0 b.0.1 c.0,
                ),
              )
        ]

    pub exact-then : Exact short (λ bs. read bs >>= λ x. f x.0 x.1) (Then S T)
    unfolding both
    exact-then = record { takes = then-takes; again = then-again; refuses = then-refuses; completes = then-completes }

  -- a byte, and a reader that depends on it
  module _ {A : Type 0} (missing : E) (is_short : short missing ≡ true)
      (f : ℕ → List ℕ → Result (A × List ℕ) E) (T : ℕ → List ℕ → A → Type 0)
      (second : (b : ℕ) → b < 256 → Exact short (f b) (T b))
      (live : (b : ℕ) × (back : List ℕ) × (y : A) × (b < 256) × T b back y) where
    byte_then : List ℕ → Result (A × List ℕ) E
    byte_then bs = byte_at missing bs >>= λ x. f x.0 x.1

    byte-takes : (bs rest : List ℕ) (y : A) → AreBytes bs → byte_then bs ≡ Ok (y, rest) → (front : List ℕ)
        × ByteThen T front y × (bs ≡ front ++ rest)
    unfolding byte_then
    byte-takes [] rest y fits h = absurd cc
    byte-takes (b ∷ bs) rest y fits h =
        let two = (second b fits.0).takes bs rest y fits.1 h in
        (b ∷ two.0, (b, two.0, fits.0, two.1, refl), ap (λ (t : List ℕ). b ∷ t) two.2)

    byte-again : (front rest : List ℕ) (y : A) → ByteThen T front y → byte_then (front ++ rest) ≡ Ok (y, rest)
    unfolding byte_then
    byte-again front rest y h = rw h.4 ((second h.0 h.2).again h.1 rest y h.3)

    byte-refuses : (bs more : List ℕ) (e : E) → AreBytes bs → byte_then bs ≡ Err e → short e ≡ false
        → byte_then (bs ++ more) ≡ Err e
    unfolding byte_then
    byte-refuses [] more e fits h s =
        absurd (let same : missing ≡ e = cc in let clash : true ≡ false = sym is_short ∙ ap short same ∙ s in cc)
    byte-refuses (b ∷ bs) more e fits h s = (second b fits.0).refuses bs more e fits.1 h s

    byte-completes : (bs : List ℕ) (e : E) → AreBytes bs → byte_then bs ≡ Err e → short e ≡ true → (more : List ℕ)
        × (y : A) × (0 < length more) × ByteThen T (bs ++ more) y
    unfolding byte_then
    byte-completes [] e fits h s = (live.0 ∷ live.1, live.2, omega arith, (live.0, live.1, live.3, live.4, refl))
    byte-completes (b ∷ bs) e fits h s =
        let c = (second b fits.0).completes bs e fits.1 h s in
        (c.0, c.1, c.2, (b, bs ++ c.0, fits.0, c.3, refl))

    pub exact-byte : Exact short (λ bs. byte_at missing bs >>= λ x. f x.0 x.1) (ByteThen T)
    unfolding byte_then
    exact-byte = record { takes = byte-takes; again = byte-again; refuses = byte-refuses; completes = byte-completes }

  -- a value made of what was read
  pub exact-map : {A B : Type 0} (read : List ℕ → Result (A × List ℕ) E) (S : List ℕ → A → Type 0) (g : A → B)
      → Exact short read S
      → Exact short (λ bs. read bs >>= λ x. Ok (g x.0, x.1)) (λ bs y. (x : A) × S bs x × (y ≡ g x))
  exact-map {A} {B} read S g ex =
      exact-words (λ bs. read bs >>= λ x. Ok (g x.0, x.1)) (Then S (λ x bs y. (bs ≡ []) × (y ≡ g x))) (λ bs y. (x : A)
      × S bs x × (y ≡ g x))
      (exact-then read (λ x bs. Ok (g x, bs)) S (λ x bs y. (bs ≡ []) × (y ≡ g x)) ex (λ front x h. exact-pure (g x))
      (λ bs e fits h s. let c = ex.completes bs e fits h s in (c.0, c.1, [], g c.1, c.2, c.3, (refl, refl))))
      (λ bs y h. (
        h.0,
        subst (λ (t : List ℕ). S t h.0)
            (sym (h.5 ∙ ap (λ (t : List ℕ). h.1 ++ t) h.4.0 ∙ append-nil h.1)) h.3,
        h.4.1,
      ))
      (λ bs y h. (h.0, bs, [], h.1, (refl, h.2), sym (append-nil bs)))

  -- a test of what was read before
  pub exact-if : {A : Type 0} (test : Bool) (read other : List ℕ → Result (A × List ℕ) E) (S T : List ℕ → A → Type 0)
      → (test ≡ true → Exact short read S) → (test ≡ false → Exact short other T)
      → Exact short (λ bs. cond test (read bs) (other bs)) (λ bs x. cond test (S bs x) (T bs x))
  exact-if true read other S T then_exact else_exact = then_exact refl
  exact-if false read other S T then_exact else_exact = else_exact refl

  -- so many bytes
  pub exact-bytes : (missing : E) → short missing ≡ true → (n : ℕ) → Exact short (bytes_at missing n) (AreManyBytes n)
  exact-bytes missing is_short zero =
      exact-words (bytes_at missing 0) (λ bs xs. (bs ≡ []) × (xs ≡ [])) (AreManyBytes 0) (exact-pure [])
      (λ bs xs h. (ap (λ (t : List ℕ). length t) h.0, subst AreBytes (sym h.0) tt, h.1 ∙ sym h.0))
      (λ bs xs h. let none : bs ≡ [] = nil_from_length bs h.0 in (none, h.2 ∙ none))
  exact-bytes missing is_short (suc n) =
      let rest = λ (b : ℕ). exact-map (bytes_at missing n) (AreManyBytes n) (λ (others : List ℕ). b ∷ others)
      (exact-bytes missing is_short n) in
      exact-words (bytes_at missing (suc n)) (ByteThen (λ b bs y. (others : List ℕ) × AreManyBytes n bs others
      × (y ≡ b ∷ others))) (AreManyBytes (suc n))
      (exact-byte missing is_short (λ b bs. bytes_at missing n bs >>= λ others. Ok (b ∷ others.0, others.1))
      (λ b bs y. (others : List ℕ) × AreManyBytes n bs others × (y ≡ b ∷ others))
      (λ b fits. rest b) (
        0,
        replicate n 0,
        0 ∷ replicate n 0,
        omega arith,
        (replicate n 0, (length-replicate n 0, AreBytes-zeros n, refl), refl),
      ))
      (λ bs xs h. (
        ap (λ (t : List ℕ). length t) h.4 ∙ ap suc h.3.1.0,
        subst AreBytes (sym h.4) (h.2, h.3.1.1),
        h.3.2
            ∙ ap (λ (t : List ℕ). h.0 ∷ t) h.3.1.2 ∙ sym h.4,
      ))
      (λ bs xs h. many-split n bs xs h.0 h.1 h.2)

  -- n bytes as a number
  pub exact-number : (missing : E) → short missing ≡ true → (n : ℕ) → Exact short (number_at missing n) (IsNumber n)
  exact-number missing is_short n =
      exact-words (number_at missing n) (λ bs v. (xs : List ℕ) × AreManyBytes n bs xs × (v ≡ little_endian xs))
      (IsNumber n)
      (exact-map (bytes_at missing n) (AreManyBytes n) little_endian (exact-bytes missing is_short n))
      (λ bs v h. (h.1.0, h.1.1, h.2 ∙ ap little_endian h.1.2))
      (λ bs v h. (bs, (h.0, h.1, refl), h.2))

  -- a test of what was read before, where both branches are exact for one grammar
  pub exact-cases : {A : Type 0} (test : Bool) (read other : List ℕ → Result (A × List ℕ) E) (S : List ℕ → A → Type 0)
      → (test ≡ true → Exact short read S) → (test ≡ false → Exact short other S)
      → Exact short (λ bs. cond test (read bs) (other bs)) S
  exact-cases true read other S then_exact else_exact = then_exact refl
  exact-cases false read other S then_exact else_exact = else_exact refl

  -- ---- what follows for any exact reader

  module _ {A : Type 0} (read : List ℕ → Result (A × List ℕ) E) (S : List ℕ → A → Type 0) (ex : Exact short read S)
    where
      -- no spelling begins another, and one list of bytes has one reading
      pub exact-unique : (a b u v : List ℕ) (x y : A) → S a x → S b y → a ++ u ≡ b ++ v → (a ≡ b) × (x ≡ y) × (u ≡ v)
      exact-unique a b u v x y one two same =
          let pair : (x, u) ≡ (y, v) =
          ok_is {E = E} (x, u) (y, v) (sym (ex.again a u x one) ∙ ap read same ∙ ex.again b v y two) in
          let rest : u ≡ v = ap (λ (p : A × List ℕ). p.1) pair in (
            append_cancel_right a b v (subst (λ (t : List ℕ). a ++ t ≡ b ++ v) rest same),
            ap (λ (p : A × List ℕ). p.0)
                pair,
            rest,
          )

      -- what is a proper prefix of a spelling lacks bytes
      pub exact-short : (bs more : List ℕ) (x : A) → AreBytes bs → 0 < length more → S (bs ++ more) x → (e : E)
          × (read bs ≡ Err e) × (short e ≡ true)
      exact-short bs more x fits some spelt = go (read bs) refl
        where
          stays : (e : E) → read bs ≡ Err e → (t : Bool) → short e ≡ t → t ≡ true
          stays e h true s = refl
          stays e h false s =
              let one : read (bs ++ more) ≡ Err e = ex.refuses bs more e fits h s in
              let two : read (bs ++ more) ≡ Ok (x, []) = ap read (sym (append-nil (bs ++ more)))
              ∙ ex.again (bs ++ more) [] x spelt in
              absurd (let clash : Err e ≡ Ok (x, []) = sym one ∙ two in cc)

          go : (r : Result (A × List ℕ) E) → read bs ≡ r → (e : E) × (read bs ≡ Err e) × (short e ≡ true)
          go (Err e) h = (e, h, stays e h (short e) refl)
          go (Ok y) h =
              let t = ex.takes bs y.1 y.0 fits h in
              let regrouped : t.0 ++ (y.1 ++ more) ≡ (bs ++ more) ++ [] =
              sym (append_assoc t.0 y.1 more) ∙ ap (λ (l : List ℕ). l ++ more) (sym t.2)
              ∙ sym (append-nil (bs ++ more)) in
              let u = exact-unique t.0 (bs ++ more) (y.1 ++ more) [] y.0 x t.1 spelt regrouped in
              let none : length (y.1 ++ more) ≡ 0 = ap (λ (l : List ℕ). length l) u.2 in
              absurd (omega (arith, none, length-append y.1 more))
