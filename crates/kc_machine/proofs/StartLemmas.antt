-- The words that a description sets hold their values at the start. A word that is written is read back, by induction
-- on its bytes; a byte that is written elsewhere doesn't show, and no two of the words have a byte in common. All of
-- them end below 2^64, so no address wraps.
use Rattle.std.proofs.Common.{◌≡◌, ℕ, zero, suc, ◌+◌, ◌-◌, ◌*◌, ◌/◌, ◌%◌, ◌^◌, ◌<◌, ◌≤◌, Bool, true, false, cond, eqb, List, [], ◌∷◌, ◌++◌, length, map, take, get_or, ◌⊎◌, inl, inr, arith, refl, ap, sym, ◌∙◌, subst, lit<, append_assoc}
use Rattle.std.proofs.lemmas.Bool.{eqb-true, eqb-false}
use Rattle.std.proofs.lemmas.Bool.{cases_lt}
use Rattle.std.proofs.lemmas.List.Elements.{All-contains}
use Rattle.std.proofs.lemmas.List.{get_or_default}
use Rattle.std.specs.FinMap as finite
use Rattle.std.specs.List.{All, Any}
use Rattle.std.proofs.Math.Numerals.{unary_clauses}
use Rattle.kc_regions.specs.declared.entry.Word.{Word}
use Rattle.kc_regions.specs.declared.cpu.CpuSetup.{CpuSetup}
use Rattle.kc_regions.specs.Description.{Description}
use Rattle.kc_regions.specs.Lookup.{tss_word}
use Rattle.kc_regions.specs.CrossRules.{IsWordPlaced, IsInArea, WordsMeet}
use Rattle.kc_regions.specs.Ranges.{IsRegionInRange, IsWordInRange}
use Rattle.kc_regions.specs.Valid.{IsValid}
use Rattle.kc_mem.specs.Memory.{Bytes, byte, next, put, put_all, read, write}
use Rattle.kc_mem.proofs.BytesLemmas.{byte-put}
use Rattle.kc_exec.specs.Admitted.{HoldsConfigured, tss_value}
use Rattle.kc_events.specs.Delivery.{with_pushed}
use Rattle.kc_machine.proofs.ListLemmas.{contains-first, join-right}
use Rattle.kc_machine.specs.Start.{tss_words, tracked_words, configured_words, IsByteOfWord, bytes_of_word}

-- ---- bytes elsewhere

-- q isn't one of the n bytes from a on
abbrev Free : ℕ → ℕ → ℕ → Type 0
Free q a n = (q < a) ⊎ (a + n ≤ q)

free-later : (q a n : ℕ) → Free q a (suc n) → Free q (a + 1) n
free-later q a n (inl h) = inl (omega (arith, h))
free-later q a n (inr h) = inr (omega (arith, h))

free-here : (q a n : ℕ) → Free q a (suc n) → q ≡ a → ⊥
free-here q a n (inl h) e = omega (arith, h, e)
free-here q a n (inr h) e = omega (arith, h, e)

chosen-other : {A : Type 0} (b : Bool) (q a : ℕ) (x y : A) → eqb q a ≡ b → (q ≡ a → ⊥) → cond b x y ≡ y
chosen-other true q a x y e other = absurd (other (eqb-true q a e))
chosen-other false q a x y e other = refl

byte-elsewhere : (m : Bytes) (a v q : ℕ) → (q ≡ a → ⊥) → byte (put m a v) q ≡ byte m q
byte-elsewhere m a v q other = byte-put m a v q ∙ chosen-other (eqb q a) q a v (byte m q) refl other

chosen-same : {A : Type 0} (b : Bool) (q : ℕ) (x y : A) → eqb q q ≡ b → cond b x y ≡ x
chosen-same true q x y e = refl
chosen-same false q x y e = absurd (eqb-false q q e refl)

byte-here : (m : Bytes) (a v : ℕ) → byte (put m a v) a ≡ v
byte-here m a v = byte-put m a v a ∙ chosen-same (eqb a a) a v (byte m a) refl

next-is : (a n : ℕ) → a + suc n < 2 ^ 64 → next a ≡ a + 1
next-is a n fits = omega (arith, fits)

write-elsewhere : (m : Bytes) (a n v q : ℕ) → a + n < 2 ^ 64 → Free q a n → byte (write m a n v) q ≡ byte m q
unfolding write
write-elsewhere m a zero v q fits free = refl
write-elsewhere m a (suc n) v q fits free =
    let on = write-elsewhere (put m a (v % 256)) (a + 1) n (v / 256) q (omega (arith, fits)) (free-later q a n free) in
    ap (λ (k : ℕ). byte (write (put m a (v % 256)) k n (v / 256)) q) (next-is a n fits) ∙ on ∙ byte-elsewhere m a
    (v % 256) q (free-here q a n free)

read-elsewhere : (m : Bytes) (a n q v : ℕ) → a + n < 2 ^ 64 → Free q a n → read (put m q v) a n ≡ read m a n
unfolding read
read-elsewhere m a zero q v fits free = refl
read-elsewhere m a (suc n) q v fits free =
    let first : byte (put m q v) a ≡ byte m a = byte-elsewhere m q v a (λ e. free-here q a n free (sym e)) in
    let at = next-is a n fits in
    let rest = read-elsewhere m (a + 1) n q v (omega (arith, fits)) (free-later q a n free) in
    let same : read (put m q v) (next a) n ≡ read m (next a) n =
    ap (λ (k : ℕ). read (put m q v) k n) at ∙ rest ∙ sym (ap (λ (k : ℕ). read m k n) at) in
    λ i. first i + 256 * same i

-- ---- words

-- two words of 8 bytes have no byte in common
abbrev pub Far : ℕ → ℕ → Type 0
Far v w = (v + 8 ≤ w) ⊎ (w + 8 ≤ v)

free-put : (b k a : ℕ) → b + suc k ≤ a → Free b a 8
free-put b k a h = inl (omega (arith, h))

read-below : (m : Bytes) (a b k v : ℕ) → a + 8 < 2 ^ 64 → b + k < 2 ^ 64 → b + k ≤ a → read (write m b k v) a 8
    ≡ read m a 8
unfolding write
read-below m a b zero v fits other apart = refl
read-below m a b (suc k) v fits other apart =
    ap (λ (x : ℕ). read (write (put m b (v % 256)) x k (v / 256)) a 8) (next-is b k other)
    ∙ read-below (put m b (v % 256)) a (b + 1) k (v / 256) fits (omega (arith, other)) (omega (arith, apart))
    ∙ read-elsewhere m a 8 b (v % 256) fits (inl (omega (arith, apart)))

read-above : (m : Bytes) (a b k v : ℕ) → a + 8 < 2 ^ 64 → b + k < 2 ^ 64 → a + 8 ≤ b → read (write m b k v) a 8
    ≡ read m a 8
unfolding write
read-above m a b zero v fits other apart = refl
read-above m a b (suc k) v fits other apart =
    ap (λ (x : ℕ). read (write (put m b (v % 256)) x k (v / 256)) a 8) (next-is b k other)
    ∙ read-above (put m b (v % 256)) a (b + 1) k (v / 256) fits (omega (arith, other)) (omega (arith, apart))
    ∙ read-elsewhere m a 8 b (v % 256) fits (inr (omega (arith, apart)))

read-far : (m : Bytes) (a b v : ℕ) → a + 8 < 2 ^ 64 → b + 8 < 2 ^ 64 → Far b a → read (write m b 8 v) a 8 ≡ read m a 8
read-far m a b v fits other (inl h) = read-below m a b 8 v fits other h
read-far m a b v fits other (inr h) = read-above m a b 8 v fits other h

-- what was written is read back
read-back : (m : Bytes) (a n v : ℕ) → a + n < 2 ^ 64 → v < 256 ^ n → read (write m a n v) a n ≡ v
unfolding read write
read-back m a zero v fits small = omega (arith, small)
read-back m a (suc n) v fits small =
    let at = next-is a n fits in
    let power : 256 ^ suc n ≡ 256 ^ n * 256 = simp unary_clauses refl in
    let start = put m a (v % 256) in
    let first : byte (write start (next a) n (v / 256)) a ≡ v % 256 =
    ap (λ (k : ℕ). byte (write start k n (v / 256)) a) at
    ∙ write-elsewhere start (a + 1) n (v / 256) a (omega (arith, fits)) (inl (omega arith)) ∙ byte-here m a (v % 256) in
    let rest : read (write start (next a) n (v / 256)) (next a) n ≡ v / 256 =
    ap (λ (k : ℕ). read (write start k n (v / 256)) k n) at ∙ read-back start (a + 1) n (v / 256) (omega (arith, fits))
    (omega (arith, small, power)) in
    let whole : v % 256 + 256 * (v / 256) ≡ v = omega arith in
    (λ i. first i + 256 * rest i) ∙ whole

-- ---- lists of words

-- each of them ends below 2^64 and has a value of 64 bits; none has a byte of the word at a; no two have a byte in
-- common
abbrev pub ArePlaced : List (ℕ × ℕ) → Type 0
ArePlaced [] = Unit {0}
ArePlaced (w ∷ ws) = ((w.0 + 8 < 2 ^ 64) × (w.1 < 2 ^ 64)) × ArePlaced ws

abbrev pub AreOthers : ℕ → List (ℕ × ℕ) → Type 0
AreOthers a [] = Unit {0}
AreOthers a (w ∷ ws) = Far w.0 a × AreOthers a ws

abbrev pub AreApart : List (ℕ × ℕ) → Type 0
AreApart [] = Unit {0}
AreApart (w ∷ ws) = AreOthers w.0 ws × AreApart ws

-- each holds its value
abbrev pub AreHeld : Bytes → List (ℕ × ℕ) → Type 0
AreHeld m [] = Unit {0}
AreHeld m (w ∷ ws) = (read m w.0 8 ≡ w.1) × AreHeld m ws

pushed-far : (m : Bytes) (ws : List (ℕ × ℕ)) (a : ℕ) → a + 8 < 2 ^ 64 → ArePlaced ws → AreOthers a ws
    → read (with_pushed m ws) a 8 ≡ read m a 8
pushed-far m [] a fits placed others = refl
pushed-far m (w ∷ ws) a fits placed others =
    pushed-far (write m w.0 8 w.1) ws a fits placed.1 others.1 ∙ read-far m a w.0 w.1 fits placed.0.0 others.0

pub pushed-held : (m : Bytes) (ws : List (ℕ × ℕ)) → ArePlaced ws → AreApart ws → AreHeld (with_pushed m ws) ws
pushed-held m [] placed apart = tt
pushed-held m (w ∷ ws) placed apart =
    let small : w.1 < 256 ^ 8 = omega (arith, placed.0.1) in (
      pushed-far (write m w.0 8 w.1) ws w.0 placed.0.0 placed.1 apart.0 ∙ read-back m w.0 8 w.1 placed.0.0 small,
      pushed-held (write m w.0 8 w.1) ws placed.1 apart.1,
    )

-- ---- the user set's writes

-- x isn't a byte of the word at a
free-of : (x a : ℕ) → a + 8 < 2 ^ 64 → (IsByteOfWord x (a, 0) → ⊥) → Free x a 8
free-of x a fits outside = elim (cases_lt x a) [
  | inl low ↦ inl low
  | inr from ↦ elim (cases_lt x (a + 8)) [
    | inl within ↦ absurd (outside (omega (arith, fits, from, within)))
    | inr high ↦ inr high
  ]
]

put-far : (m : Bytes) (writes : List (ℕ × ℕ)) (a : ℕ) → a + 8 < 2 ^ 64 → All (λ w. IsByteOfWord w.0 (a, 0) → ⊥) writes
    → read (put_all m writes) a 8 ≡ read m a 8
put-far m [] a fits none = refl
put-far m (w ∷ ws) a fits none =
    put-far (put m w.0 w.1) ws a fits (λ k d lt. none (suc k) d (omega (arith, lt)))
    ∙ read-elsewhere m a 8 w.0 w.1 fits (free-of w.0 a fits (none 0 w (omega arith)))

pub put-held : (m : Bytes) (writes ws : List (ℕ × ℕ)) → ArePlaced ws → All (λ w. All (λ v. IsByteOfWord w.0 v → ⊥) ws)
    writes → AreHeld m ws
    → AreHeld (put_all m writes) ws
put-held m writes [] placed none held = tt
put-held m writes (w ∷ ws) placed none held = (
  put-far m writes w.0 placed.0.0 (λ k d lt. none k d lt 0 w (omega arith)) ∙ held.0,
  put-held m writes ws placed.1 (λ k d lt j e below. none k d lt (suc j) e (omega (arith, below))) held.1,
)

any-at : {A : Type 0} (P : A → Type 0) (xs : List A) (k : ℕ) (d : A) → k < length xs → P (get_or xs k d) → Any P xs
any-at P xs k d lt p = (k, get_or xs k d, lt, get_or_default xs k (get_or xs k d) d lt, p)

-- ---- the words of a description

far-of : (v w : ℕ) → ¬ WordsMeet v w → Far v w
far-of v w apart = elim (cases_lt w (v + 8)) [
  | inl low ↦ elim (cases_lt v (w + 8)) [
    | inl high ↦ elim (cases_lt v w) [
      | inl up ↦ absurd (apart (w, (omega arith, low), (omega arith, omega arith)))
      | inr down ↦ absurd (apart (v, (omega arith, omega arith), (down, high)))
    ]
    | inr below ↦ inr below
  ]
  | inr above ↦ inl above
]

far-turn : (v w : ℕ) → Far v w → Far w v
far-turn v w (inl h) = inr h
far-turn v w (inr h) = inl h

-- the tracked words are others than the word at a, where none of them meets it
others-of : (a : ℕ) (words : List Word) → All (λ w. Far w.at a) words → AreOthers a (tracked_words words)
others-of a [] all = tt
others-of a (w ∷ ws) all = (all 0 w (omega arith), others-of a ws (λ k d lt. all (suc k) d (omega (arith, lt))))

abbrev Rule : Description → List Word → Word → Type 0
Rule d earlier w = IsWordPlaced d.cpu.tss d.regions earlier w

-- the words keep the rule after some earlier ones
abbrev KeepAfter : Description → List Word → List Word → Type 0
KeepAfter d front words = (i : ℕ) (e : Word) → i < length words → Rule d (front ++ take i words) (get_or words i e)

-- a later word doesn't meet the first
tracked-apart : (d : Description) (front words : List Word) → KeepAfter d front words → AreApart (tracked_words words)
tracked-apart d front [] keep = tt
tracked-apart d front (w ∷ ws) keep =
    let first : (k : ℕ) (e : Word) → k < length ws → Far (get_or ws k e).at w.at =
    λ k e lt.
    let there = keep (suc k) e (omega (arith, lt)) in
    let v = get_or ws k e in
    let clear = All-contains (λ (x : Word). ¬ WordsMeet x.at v.at) (front ++ w ∷ take k ws) w there.words
    (join-right front (w ∷ take k ws) w (contains-first w (take k ws))) in
    far-turn w.at v.at (far-of w.at v.at clear) in
    let rest : KeepAfter d (front ++ w ∷ []) ws =
    λ k e lt. subst (λ (xs : List Word). Rule d xs (get_or ws k e)) (sym (append_assoc front (w ∷ []) (take k ws)))
    (keep (suc k) e (omega (arith, lt))) in
    (others-of w.at ws first, tracked-apart d (front ++ w ∷ []) ws rest)

-- an area ends below 2^64
area-ends : (d : Description) (a n : ℕ) → IsValid d → 0 < n → IsInArea d.regions a n → a + n < 2 ^ 64
area-ends d a n valid some area =
    let last = area.3 (n - 1) (omega (arith, some)) in
    let range : IsRegionInRange area.0 = All-contains IsRegionInRange d.regions area.0 valid.ranges.regions area.1 in
    omega (arith, last.1, range.span.1, some)

tracked-placed : (d : Description) (words : List Word) → IsValid d → All IsWordInRange words
    → ((i : ℕ) (e : Word) → i < length words → IsInArea d.regions (get_or words i e).at 8)
    → ArePlaced (tracked_words words)
tracked-placed d [] valid ranges areas = tt
tracked-placed d (w ∷ ws) valid ranges areas = (
  (area-ends d w.at 8 valid (omega arith) (areas 0 w (omega arith)), (ranges 0 w (omega arith)).value),
  tracked-placed d ws valid (λ k e lt. ranges (suc k) e (omega (arith, lt)))
      (λ k e lt. areas (suc k) e (omega (arith, lt))),
)

-- ---- all words together

placed-append : (xs ys : List (ℕ × ℕ)) → ArePlaced xs → ArePlaced ys → ArePlaced (xs ++ ys)
placed-append [] ys p q = q
placed-append (x ∷ xs) ys p q = (p.0, placed-append xs ys p.1 q)

others-append : (a : ℕ) (xs ys : List (ℕ × ℕ)) → AreOthers a xs → AreOthers a ys → AreOthers a (xs ++ ys)
others-append a [] ys p q = q
others-append a (x ∷ xs) ys p q = (p.0, others-append a xs ys p.1 q)

-- each of the first is apart from each of the second
abbrev AreCrossed : List (ℕ × ℕ) → List (ℕ × ℕ) → Type 0
AreCrossed [] ys = Unit {0}
AreCrossed (x ∷ xs) ys = AreOthers x.0 ys × AreCrossed xs ys

apart-append : (xs ys : List (ℕ × ℕ)) → AreApart xs → AreApart ys → AreCrossed xs ys → AreApart (xs ++ ys)
apart-append [] ys p q cross = q
apart-append (x ∷ xs) ys p q cross = (others-append x.0 xs ys p.0 cross.0, apart-append xs ys p.1 q cross.1)

held-append : (m : Bytes) (xs ys : List (ℕ × ℕ)) → AreHeld m (xs ++ ys) → AreHeld m xs × AreHeld m ys
held-append m [] ys h = (tt, h)
held-append m (x ∷ xs) ys h = let rest = held-append m xs ys h.1 in ((h.0, rest.0), rest.1)

-- ---- the TSS

abbrev pairs : CpuSetup → List ℕ → List (ℕ × ℕ)
pairs cpu ns = map (λ n. (tss_word cpu.tss n, tss_value cpu n)) ns

tss-ends : (d : Description) → IsValid d → d.cpu.tss + 104 < 2 ^ 64
tss-ends d valid = area-ends d d.cpu.tss 104 valid (omega arith) valid.rules.tss

value-small : (d : Description) (n : ℕ) → IsValid d → n < 8 → tss_value d.cpu n < 2 ^ 64
value-small d zero valid lt = valid.ranges.cpu.rsp0
value-small d (suc n) valid lt = valid.ranges.cpu.ist.1 n 0 (omega (arith, lt, valid.ranges.cpu.ist.0))

place-small : (d : Description) (n : ℕ) → IsValid d → n < 8 → tss_word d.cpu.tss n + 8 < 2 ^ 64
place-small d zero valid lt = omega (arith, tss-ends d valid)
place-small d (suc n) valid lt = omega (arith, tss-ends d valid, lt)

abbrev AreBelow : List ℕ → Type 0
AreBelow [] = Unit {0}
AreBelow (n ∷ ns) = (n < 8) × AreBelow ns

tss-placed : (d : Description) (ns : List ℕ) → IsValid d → AreBelow ns → ArePlaced (pairs d.cpu ns)
tss-placed d [] valid below = tt
tss-placed d (n ∷ ns) valid below =
    ((place-small d n valid below.0, value-small d n valid below.0), tss-placed d ns valid below.1)

far-up : (tss n k : ℕ) → n < k → Far (tss_word tss k) (tss_word tss n)
far-up tss zero zero lt = absurd (omega (arith, lt))
far-up tss zero (suc k) lt = inr (omega arith)
far-up tss (suc n) zero lt = absurd (omega (arith, lt))
far-up tss (suc n) (suc k) lt = inr (omega (arith, lt))

abbrev AreAbove : ℕ → List ℕ → Type 0
AreAbove n [] = Unit {0}
AreAbove n (k ∷ ks) = (n < k) × AreAbove n ks

abbrev AreRising : List ℕ → Type 0
AreRising [] = Unit {0}
AreRising (n ∷ ns) = AreAbove n ns × AreRising ns

tss-others : (cpu : CpuSetup) (n : ℕ) (ks : List ℕ) → AreAbove n ks → AreOthers (tss_word cpu.tss n) (pairs cpu ks)
tss-others cpu n [] above = tt
tss-others cpu n (k ∷ ks) above = (far-up cpu.tss n k above.0, tss-others cpu n ks above.1)

tss-apart : (cpu : CpuSetup) (ns : List ℕ) → AreRising ns → AreApart (pairs cpu ns)
tss-apart cpu [] rise = tt
tss-apart cpu (n ∷ ns) rise = (tss-others cpu n ns rise.0, tss-apart cpu ns rise.1)

tss-crossed : (d : Description) (ns : List ℕ) → IsValid d → AreBelow ns
    → AreCrossed (pairs d.cpu ns) (tracked_words d.words)
tss-crossed d [] valid below = tt
tss-crossed d (n ∷ ns) valid below =
    let far : (k : ℕ) (e : Word) → k < length d.words → Far (get_or d.words k e).at (tss_word d.cpu.tss n) =
    λ k e lt.
    let w = get_or d.words k e in
    far-turn (tss_word d.cpu.tss n) w.at
    (far-of (tss_word d.cpu.tss n) w.at ((valid.rules.words k e lt).tss_words n below.0)) in
    (others-of (tss_word d.cpu.tss n) d.words far, tss-crossed d ns valid below.1)

abbrev eight : List ℕ
eight = 0 ∷ 1 ∷ 2 ∷ 3 ∷ 4 ∷ 5 ∷ 6 ∷ 7 ∷ []

eight-below : AreBelow eight
eight-below = (lit< tt, (lit< tt, (lit< tt, (lit< tt, (lit< tt, (lit< tt, (lit< tt, (lit< tt, tt))))))))

eight-rising : AreRising eight
eight-rising = (
  (lit< tt, (lit< tt, (lit< tt, (lit< tt, (lit< tt, (lit< tt, (lit< tt, tt))))))),
  (
    (lit< tt, (lit< tt, (lit< tt, (lit< tt, (lit< tt, (lit< tt, tt)))))),
    (
      (lit< tt, (lit< tt, (lit< tt, (lit< tt, (lit< tt, tt))))),
      (
        (lit< tt, (lit< tt, (lit< tt, (lit< tt, tt)))),
        (
          (lit< tt, (lit< tt, (lit< tt, tt))),
          ((lit< tt, (lit< tt, tt)), ((lit< tt, tt), (tt, tt))),
        ),
      ),
    ),
  ),
)

-- all the words of a valid description are placed and apart
words-placed : (d : Description) → IsValid d → ArePlaced (configured_words d)
words-placed d valid =
    placed-append (tss_words d.cpu) (tracked_words d.words) (tss-placed d eight valid eight-below)
    (tracked-placed d d.words valid valid.ranges.words (λ k e lt. (valid.rules.words k e lt).area))

words-apart : (d : Description) → IsValid d → AreApart (configured_words d)
words-apart d valid =
    apart-append (tss_words d.cpu) (tracked_words d.words) (tss-apart d.cpu eight eight-rising)
    (tracked-apart d [] d.words valid.rules.words)
    (tss-crossed d eight valid eight-below)

-- ---- the memory at the start

tss-at : (m : Bytes) (cpu : CpuSetup) (n : ℕ) → n < 8 → AreHeld m (tss_words cpu) → read m (tss_word cpu.tss n) 8
    ≡ tss_value cpu n
tss-at m cpu zero lt h = h.0
tss-at m cpu (suc zero) lt h = h.1.0
tss-at m cpu (suc (suc zero)) lt h = h.1.1.0
tss-at m cpu (suc (suc (suc zero))) lt h = h.1.1.1.0
tss-at m cpu (suc (suc (suc (suc zero)))) lt h = h.1.1.1.1.0
tss-at m cpu (suc (suc (suc (suc (suc zero))))) lt h = h.1.1.1.1.1.0
tss-at m cpu (suc (suc (suc (suc (suc (suc zero)))))) lt h = h.1.1.1.1.1.1.0
tss-at m cpu (suc (suc (suc (suc (suc (suc (suc zero))))))) lt h = h.1.1.1.1.1.1.1.0
tss-at m cpu (suc (suc (suc (suc (suc (suc (suc (suc n)))))))) lt h = absurd (omega (arith, lt))

tracked-at : (m : Bytes) (words : List Word) (k : ℕ) (e : Word) → k < length words → AreHeld m (tracked_words words)
    → read m (get_or words k e).at 8 ≡ (get_or words k e).value
tracked-at m [] k e lt h = absurd (omega (arith, lt))
tracked-at m (w ∷ ws) zero e lt h = h.0
tracked-at m (w ∷ ws) (suc k) e lt h = tracked-at m ws k e (omega (arith, lt)) h.1

no-names : (ws writes : List (ℕ × ℕ)) → (Any (λ w. Any (IsByteOfWord w.0) ws) writes → ⊥)
    → All (λ w. All (λ v. IsByteOfWord w.0 v → ⊥) ws) writes
no-names ws writes none k d lt j e below h =
    none (any-at (λ w. Any (IsByteOfWord w.0) ws) writes k d lt
    (any-at (IsByteOfWord (get_or writes k d).0) ws j e below h))

-- the words hold their values, whatever else the user set writes
pub holds-configured : (d : Description) (writes : List (ℕ × ℕ)) → IsValid d
    → (Any (λ w. Any (IsByteOfWord w.0) (configured_words d)) writes → ⊥)
    → HoldsConfigured d (put_all (with_pushed finite.empty (configured_words d)) writes)
holds-configured d writes valid none =
    let placed = words-placed d valid in
    let m = put_all (with_pushed finite.empty (configured_words d)) writes in
    let held = put-held (with_pushed finite.empty (configured_words d)) writes (configured_words d) placed
    (no-names (configured_words d) writes none)
    (pushed-held finite.empty (configured_words d) placed (words-apart d valid)) in
    let parts = held-append m (tss_words d.cpu) (tracked_words d.words) held in
    record { tss = λ n lt. tss-at m d.cpu n lt parts.0; words = λ k e lt. tracked-at m d.words k e lt parts.1 }

-- ---- the bytes of words

-- a word's bytes, put one by one, write it
pub put-word : (m : Bytes) (n a v : ℕ) → put_all m (bytes_of_word n a v) ≡ write m a n v
unfolding write
put-word m zero a v = refl
put-word m (suc n) a v = put-word (put m a (v % 256)) n (next a) (v / 256)

put-append : (m : Bytes) (xs ys : List (ℕ × ℕ)) → put_all m (xs ++ ys) ≡ put_all (put_all m xs) ys
put-append m [] ys = refl
put-append m (x ∷ xs) ys = put-append (put m x.0 x.1) xs ys

-- one word more
pub word-more : (m : Bytes) (bytes more : List (ℕ × ℕ)) (words rest : List (ℕ × ℕ)) (w : ℕ × ℕ)
    → more ≡ bytes ++ bytes_of_word 8 w.0 w.1
    → words ≡ w ∷ rest → with_pushed (put_all m bytes) words ≡ with_pushed (put_all m more) rest
word-more m bytes more words rest w more_is words_is =
    ap (λ (ws : List (ℕ × ℕ)). with_pushed (put_all m bytes) ws) words_is
    ∙ ap (λ (x : Bytes). with_pushed x rest) (sym (put-word (put_all m bytes) 8 w.0 w.1)
    ∙ sym (put-append m bytes (bytes_of_word 8 w.0 w.1)) ∙ sym (ap (λ (xs : List (ℕ × ℕ)). put_all m xs) more_is))

-- one byte of a word more
pub word-step : (bytes more : List (ℕ × ℕ)) (k n at rest : ℕ) → k ≡ suc n → more ≡ bytes ++ (at, rest % 256) ∷ []
    → bytes ++ bytes_of_word k at rest ≡ more ++ bytes_of_word n (next at) (rest / 256)
word-step bytes more k n at rest k_is more_is =
    ap (λ (j : ℕ). bytes ++ bytes_of_word j at rest) k_is
    ∙ sym (append_assoc bytes ((at, rest % 256) ∷ []) (bytes_of_word n (next at) (rest / 256)))
    ∙ sym (ap (λ (xs : List (ℕ × ℕ)). xs ++ bytes_of_word n (next at) (rest / 256)) more_is)
