-- The instruction at an address. One alone is found there, since no spelling begins another. Where its bytes may be
-- executed, each lies in a region that is present and executable, so in text: the fetch breaks nothing.
use Rattle.std.proofs.Common.{◌≡◌, ℕ, ◌≤◌, ◌^◌, ◌<◌, ◌&&◌, ◌⊎◌, inl, inr, Bool, true, List, [], ◌∷◌, ◌++◌, length, drop, find, All, Option, Some, None, IsSomeAnd, refl, sym, ap, ◌∙◌, subst, arith}
use Rattle.std.proofs.lemmas.Bool.{cases_lt, and_parts, and_from, false≢true}
use Rattle.std.proofs.lemmas.List.{append-nil, take-append-drop}
use Rattle.std.proofs.lemmas.List.Elements.{All-head, All-tail}
use Rattle.kc_insn.specs.declared.insn.Insn.{Insn}
use Rattle.kc_insn.specs.Spells.{Spells}
use Rattle.kc_decode.proofs.Answers.{unique}
use Rattle.kc_image.specs.Image.{Contents, run}
use Rattle.kc_regions.specs.Description.{Description}
use Rattle.kc_regions.specs.Layout.{InBytes}
use Rattle.kc_regions.specs.Permission.{passes, is_present, has_right, permits}
use Rattle.kc_regions.specs.Ranges.{IsRegionInRange}
use Rattle.kc_regions.specs.Region.{holds}
use Rattle.kc_regions.specs.Valid.{IsValid}
use Rattle.kc_regions.specs.declared.region.Kind.TheVariants.{Text}
use Rattle.kc_regions.specs.declared.region.Region.{Region}
use Rattle.kc_regions.specs.declared.touch.Touch.TheVariants.{Fetch, Read}
use Rattle.kc_rules.proofs.AnswerLemmas.{some_is}
use Rattle.kc_rules.proofs.TestLemmas.{chosen}
use Rattle.kc_space.specs.declared.map.MapState.{MapState}
use Rattle.kc_cpu.specs.declared.cpu.Cpu.{Cpu}
use Rattle.kc_exec.specs.Execution.{fetch_of}
use Rattle.kc_exec.specs.Operand.{plus}
use Rattle.kc_exec.specs.declared.state.Activation.{Activation}
use Rattle.kc_events.specs.Breaks.{IsUndecodable}
use Rattle.kc_events.specs.Fetched.{IsSpelledAt, IsAt}
use Rattle.kc_events.proofs.FetchLemmas.{take-run}
use Rattle.kc_state.specs.Access.{is_present_under, may_region, may_byte, may_bytes}
use Rattle.kc_state.specs.declared.key.Key.{Key}
use Rattle.kc_state.specs.declared.location.Location.TheVariants.{Number}
use Rattle.kc_describes.specs.Spaces.{IsCr3Of}
use Rattle.kc_describes.proofs.PermissionLemmas.{IsKnownCr3, IsOpen, open_byte, may_each, may_permits}
use Rattle.kc_describes.proofs.QuietLemmas.{IsQuiet}

-- ---- one instruction

begins : (image : Contents) (a n m : ℕ) → n ≤ m
    → run image.segments a n ++ drop n (run image.segments a m) ≡ run image.segments a m ++ []
begins image a n m le =
    ap (λ (front : List ℕ). front ++ drop n (run image.segments a m)) (sym (take-run image.segments a n m le))
    ∙ take-append-drop n (run image.segments a m) ∙ sym (append-nil (run image.segments a m))

shorter_once : (image : Contents) (a : ℕ) (i j : Insn) (n m : ℕ) → n ≤ m → IsSpelledAt image a i n
    → IsSpelledAt image a j m → (i ≡ j) × (n ≡ m)
shorter_once image a i j n m le s t =
    let first : Spells (run image.segments a n) a i = subst (λ (bytes : List ℕ). Spells bytes a i) (sym s.2) s.3 in
    let second : Spells (run image.segments a m) a j = subst (λ (bytes : List ℕ). Spells bytes a j) (sym t.2) t.3 in
    let same = unique (run image.segments a n) (run image.segments a m) (drop n (run image.segments a m)) [] a i j
    first second (begins image a n m le) in
    (same.1, sym s.1 ∙ ap length (sym s.2 ∙ same.0 ∙ t.2) ∙ t.1)

by_order : (n m : ℕ) → (n < m) ⊎ (m ≤ n) → (image : Contents) (a : ℕ) (i j : Insn) → IsSpelledAt image a i n
    → IsSpelledAt image a j m → (i ≡ j) × (n ≡ m)
by_order n m (inl less) image a i j s t = shorter_once image a i j n m (omega (arith, less)) s t
by_order n m (inr le) image a i j s t =
    let same = shorter_once image a j i m n le t s in (sym same.0, sym same.1)

-- what is found is the instruction that is spelled
pub one_found : (image : Contents) (a : ℕ) (found : Option (Insn × ℕ)) (insn : Insn) (len : ℕ)
    → IsAt image a (Some (insn, len)) → IsAt image a found → found ≡ Some (insn, len)
one_found image a None insn len here there = absurd (there insn len here)
one_found image a (Some (j, m)) insn len here there =
    let same = by_order m len (cases_lt m len) image a j insn there here in
    λ k. Some (same.0 k, same.1 k)

-- ---- executable text

found_in : (P : Region → Type 0) (test : Region → Bool) (xs : List Region) (r : Region) → find test xs ≡ Some r
    → All P xs → P r
found_in P test [] r e all = absurd cc
found_in P test (x ∷ xs) r e all = elim (chosen (test x) (Some x) (find test xs) (Some r) e) [
  | inl h ↦ subst P (some_is x r h.1) (All-head P x xs all)
  | inr h ↦ found_in P test xs r h.1 (All-tail P x xs all)
]

byte_in : (at size x i : ℕ) → at < 2 ^ 64 → i < size → x ≡ plus at i → InBytes x at size
byte_in at size x i fits few is = omega (arith, fits, few, is)

module _ (cfg : Description) (valid : IsValid cfg) (map : MapState) (at len : ℕ) (fits : at < 2 ^ 64)
    (text : may_bytes cfg map Fetch at len ≡ true) where
  open_text : (i : ℕ) → i < len → IsOpen cfg map Fetch (plus at i)
  open_text i few =
      open_byte cfg map Fetch (plus at i)
      (may_each cfg map Fetch at len (plus at i) fits (omega arith) text
      (byte_in at len (plus at i) i fits few refl))

  -- B1 doesn't come
  pub decodable : (insn : Insn) → ¬ IsUndecodable cfg at (Some (insn, len))
  decodable insn (i, few, none) =
      let o = open_text i few in
      let is = found_in IsRegionInRange (λ r. holds r.span (plus at i)) cfg.regions o.region o.found
      valid.ranges.regions in
      none (subst (λ (r : Option Region). IsSomeAnd r (λ z. (z.kind ≡ Text) × (z.exec ≡ true))) (sym o.found)
      (is.exec o.right, o.right))

  module _ (key : Key) (cr3 : ℕ) (stands : IsCr3Of cfg map cr3) (known : IsKnownCr3 cfg cr3) where
    present_at : (x : ℕ) → x < 2 ^ 64 → IsOpen cfg map Fetch x → permits cfg cr3 Read x ≡ true
    unfolding may_bytes
    present_at x low o =
        let byte : may_byte cfg map Read x ≡ true =
        ap (passes (λ r. may_region map Read r)) o.found ∙ and_from (is_present_under map o.region) true o.present refl
        in
        let all : may_bytes cfg map Read x 1 ≡ true = and_from (may_byte cfg map Read x) true byte refl in
        elim (may_permits cfg key 0 map cr3 (Number x) 1 x Read valid low (λ e. absurd cc) stands known all low
        (omega arith)) [
          | inl guard ↦ absurd (false≢true (sym o.unguarded ∙ guard))
          | inr allowed ↦ allowed
        ]

    text_permitted : (x : ℕ) → x < 2 ^ 64 → IsOpen cfg map Fetch x → permits cfg cr3 Fetch x ≡ true
    text_permitted x low o =
        let there = subst (λ (r : Option Region). passes (λ z. is_present cfg.cpu cr3 z && has_right Read z) r ≡ true)
        o.found (present_at x low o) in
        let p = and_parts (is_present cfg.cpu cr3 o.region) true there in
        ap (passes (λ z. is_present cfg.cpu cr3 z && has_right Fetch z)) o.found
        ∙ and_from (is_present cfg.cpu cr3 o.region) (has_right Fetch o.region) p.0 o.right

    -- the fetch breaks nothing
    pub fetch_quiet : (gs : ℕ) (chain : List Activation) (cpu : Cpu) → cpu.rip ≡ at
        → IsQuiet cfg cr3 gs chain (fetch_of cpu len)
    fetch_quiet gs chain cpu here = record {
      permitted = λ x of.
          let same : plus cpu.rip of.0 ≡ plus at of.0 = ap (λ a. plus a of.0) here in
          let o = subst (λ z. IsOpen cfg map Fetch z) (sym (of.2 ∙ same)) (open_text of.0 of.1) in
          inr (text_permitted x (omega (arith, of.2)) o);
      unlive = λ writes. absurd cc;
      own_gs = λ prefix. absurd cc;
      fits = subst (λ a. a < 2 ^ 64) (sym here) fits;
    }
