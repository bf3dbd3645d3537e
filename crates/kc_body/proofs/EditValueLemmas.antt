-- What values stand for once the saved RIP, RFLAGS or RSP is another number. A value without an edited symbol names
-- what it named. A join with an edit has the edit's symbol or Plain, and the edit's bits and places or fewer: so it
-- stands for the new word, and where its own word isn't edited, for the old one.
use Rattle.std.proofs.Common.{◌≡◌, ℕ, ◌-◌, ◌^◌, ◌<◌, ◌≤◌, inl, inr, false, List, get_or, Option, Some, None, IfSome, min, bit_or, refl, sym, ap, ◌∙◌, subst, arith}
use Rattle.std.specs.Int.{bit_at}
use Rattle.std.specs.Option.{unwrap_or}
use Rattle.std.proofs.lemmas.Bool.{cases_Bool, cases_lt, cases_eq, cond-true, cond-false}
use Rattle.std.proofs.lemmas.Nat.{and_le_r}
use Rattle.std.proofs.lemmas.Nat.Bits.{bit_at_and, bit_at_or, bit_at-lt, bit_at-zero, bit_at_above, bit_at_ones, bit_at-pow_other}
use Rattle.kc_bits.specs.KnownBits.{KnownBits}
use Rattle.kc_bits.specs.Bits.{StandsFor, bits_joined, flipped}
use Rattle.kc_bits.proofs.Masks.{bit_at-flipped}
use Rattle.kc_words.specs.Range.{Range}
use Rattle.kc_regions.specs.Description.{Description}
use Rattle.kc_regions.specs.Region.{stack_of}
use Rattle.kc_regions.specs.Valid.{IsValid}
use Rattle.kc_exec.specs.Admitted.{model_flags, AreUserFlags}
use Rattle.kc_value.specs.AbsValue.{AbsValue}
use Rattle.kc_value.specs.Made.{plain}
use Rattle.kc_value.specs.Place.{place_bit, LiesIn}
use Rattle.kc_value.specs.Symbol.{Names, sym_joined}
use Rattle.kc_value.specs.SymbolLaws.{joined_cases}
use Rattle.kc_value.specs.Value.{Represents, value_joined}
use Rattle.kc_value.specs.declared.env.ValueEnv.{ValueEnv}
use Rattle.kc_value.specs.declared.symbol.Sym.{Sym}
use Rattle.kc_value.specs.declared.symbol.Sym.TheVariants.{Plain, Base, Entry, UserGs}
use Rattle.kc_state.specs.Calls.{edited_rip, edited_flags, edited_rsp, is_edited_word, is_edited_sym, tame}
use Rattle.kc_describes.specs.Places.{stack_spans}
use Rattle.kc_describes.proofs.ValueLemmas.{anywhere, lies_at, nothing_stands}

-- ---- joins

joined_names : (s t : Sym) (env : ValueEnv) (n : ℕ) → Names t env n → Names (sym_joined s t) env n
joined_names s t env n h = elim (joined_cases s t) [
  | inl same ↦ subst (λ z. Names z env n) (sym same.0 ∙ sym same.1) h
  | inr other ↦ subst (λ z. Names z env n) (sym other.1) tt
]

joined_bits : (a b : KnownBits) (n : ℕ) → StandsFor b n → StandsFor (bits_joined a b) n
joined_bits a b n known i = (
  λ e. (known i).0 (omega (arith, e, bit_at_and a.zeros b.zeros i, bit_at-lt a.zeros i, bit_at-lt b.zeros i)),
  λ e. (known i).1 (omega (arith, e, bit_at_and a.ones b.ones i, bit_at-lt a.ones i, bit_at-lt b.ones i)),
)

joined_places : (set more : ℕ) (stacks : List Range) (n : ℕ) → LiesIn more stacks n → LiesIn (bit_or set more) stacks n
joined_places set more stacks n h =
    let i = place_bit h.0 in
    (h.0, h.1, omega (arith, h.2, bit_at_or set more i, bit_at-lt set i))

-- a join stands for what its second value stands for
pub join_right : (v e : AbsValue) (env : ValueEnv) (n : ℕ) → Represents e env n → Represents (value_joined v e) env n
join_right v e env n r = record {
  symbol = joined_names v.sym e.sym env n r.symbol;
  bits = joined_bits v.bits e.bits n r.bits;
  place = joined_places v.stacks e.stacks env.stacks n r.place;
}

-- ---- other words

-- the same stacks, base and GS base, and these words
abbrev pub with_words : ValueEnv → List ℕ → ValueEnv
with_words env words = record env { words = words }

module _ (env : ValueEnv) (words : List ℕ) where
  names_kept : (s : Sym) (n : ℕ) → ((w : ℕ) → s ≡ Entry w → get_or words w 0 ≡ get_or env.words w 0) → Names s env n
      → Names s (with_words env words) n
  names_kept Plain n same h = h
  names_kept (Base k) n same h = h
  names_kept (Entry w) n same h = h ∙ sym (same w refl)
  names_kept UserGs n same h = h

  -- a value whose symbol names no other word stands for the same number
  pub words_kept : (v : AbsValue) (n : ℕ) → ((w : ℕ) → v.sym ≡ Entry w → get_or words w 0 ≡ get_or env.words w 0)
      → Represents v env n → Represents v (with_words env words) n
  words_kept v n same r =
      record { symbol = names_kept v.sym n same r.symbol; bits = r.bits; place = r.place }

  plain_is_none : (w : ℕ) → Plain ≡ Entry w → ⊥
  plain_is_none w h = absurd cc

  tamed : (v : AbsValue) (w : ℕ) → (tame v).sym ≡ Entry w → is_edited_word w ≡ false
  tamed v w h = elim (cases_Bool (is_edited_sym v.sym)) [
    | inl is ↦
        let made = cond-true (is_edited_sym v.sym) (plain v) v is in
        absurd (plain_is_none w (sym (ap (λ z. z.sym) made) ∙ h))
    | inr is ↦
        let made = cond-false (is_edited_sym v.sym) (plain v) v is in
        sym (ap is_edited_sym (sym (ap (λ z. z.sym) made) ∙ h)) ∙ is
  ]

  -- a value without an edited symbol stands for the same number
  pub tame_kept : (v : AbsValue) (n : ℕ)
      → ((w : ℕ) → is_edited_word w ≡ false → get_or words w 0 ≡ get_or env.words w 0) → Represents (tame v) env n
      → Represents (tame v) (with_words env words) n
  tame_kept v n same r = words_kept (tame v) n (λ w h. same w (tamed v w h)) r

  joined_entry : (v e : AbsValue) (k w : ℕ) → e.sym ≡ Entry k → (value_joined v e).sym ≡ Entry w → w ≡ k
  joined_entry v e k w is h = elim (joined_cases v.sym e.sym) [
    | inl same ↦
        let one : Entry w ≡ Entry k = sym h ∙ same.1 ∙ same.0 ∙ is in entry_number w k one
    | inr other ↦ absurd (plain_is_none w (sym other.1 ∙ h))
  ]
    where
      number_of : Sym → ℕ
      number_of (Entry i) = i
      number_of _ = 0

      entry_number : (i j : ℕ) → Entry i ≡ Entry j → i ≡ j
      entry_number i j h = ap number_of h

  -- a join with the edit of word k, which is edited or isn't: it stands for the word after it
  pub joined_after : (v e : AbsValue) (k n : ℕ) (o : Option ℕ) → e.sym ≡ Entry k
      → get_or words k 0 ≡ unwrap_or o (get_or env.words k 0) → IfSome o (λ m. Represents e (with_words env words) m)
      → Represents (value_joined v e) env n → Represents (value_joined v e) (with_words env words) (unwrap_or o n)
  joined_after v e k n (Some m) is same stands r = join_right v e (with_words env words) m stands
  joined_after v e k n None is same stands r =
      words_kept (value_joined v e) n (λ w h.
      let one = joined_entry v e k w is h in
      ap (λ z. get_or words z 0) one ∙ same ∙ ap (λ z. get_or env.words z 0) (sym one)) r

-- ---- what the three words may be

rip_bits : (n : ℕ) → n < 2 ^ 47 → StandsFor edited_rip.bits n
rip_bits n low i = (λ e. high e, λ e. absurd (omega (arith, e, bit_at-zero i)))
  where
    high : bit_at (2 ^ 64 - 2 ^ 47) i ≡ 1 → bit_at n i ≡ 0
    high e = elim (cases_lt i 47) [
      | inl below ↦
          let out : bit_at (flipped (2 ^ 47 - 1)) i ≡ 1 - bit_at (2 ^ 47 - 1) i =
          bit_at-flipped (2 ^ 47 - 1) i (omega arith) (omega (arith, below)) in
          let one = bit_at_ones 47 i below in
          let same : bit_at (2 ^ 64 - 2 ^ 47) i ≡ bit_at (flipped (2 ^ 47 - 1)) i = refl in
          absurd (omega (arith, e, out, one, same))
      | inr up ↦ bit_at_above n 47 i low up
    ]

modelled_at : (n i : ℕ) → AreUserFlags n → bit_at n i ≤ bit_at model_flags i
modelled_at n i m =
    let e : min (bit_at n i) (bit_at model_flags i) ≡ bit_at n i =
    sym (bit_at_and n model_flags i) ∙ ap (λ v. bit_at v i) m.modelled in
    omega (arith, e)

user_flags_fit : (n : ℕ) → AreUserFlags n → n < 2 ^ 64
user_flags_fit n m = let le = and_le_r n model_flags in omega (arith, le, m.modelled)

flags_bits : (n : ℕ) → AreUserFlags n → StandsFor edited_flags.bits n
flags_bits n m i = (λ e. unset e, λ e. set e)
  where
    unset : bit_at (flipped model_flags) i ≡ 1 → bit_at n i ≡ 0
    unset e = elim (cases_lt i 64) [
      | inl below ↦
          let out = bit_at-flipped model_flags i (omega arith) below in
          omega (arith, e, out, modelled_at n i m)
      | inr up ↦ bit_at_above n 64 i (user_flags_fit n m) up
    ]

    set : bit_at 0x202 i ≡ 1 → bit_at n i ≡ 1
    set e = elim (cases_eq i 1) [
      | inl one ↦ subst (λ j. bit_at n j ≡ 1) (sym one) m.fixed
      | inr other ↦ elim (cases_eq i 9) [
        | inl nine ↦ subst (λ j. bit_at n j ≡ 1) (sym nine) m.interrupts
        | inr none ↦
            let both : bit_at 0x202 i ≡ bit_at (bit_or 2 0x200) i = refl in
            let first : bit_at 2 i ≡ 0 = bit_at-pow_other 1 i other in
            let second : bit_at 0x200 i ≡ 0 = bit_at-pow_other 9 i none in
            absurd (omega (arith, e, both, bit_at_or 2 0x200 i, first, second))
      ]
    ]

module _ (cfg : Description) (valid : IsValid cfg) (env : ValueEnv) (stacks : env.stacks ≡ stack_spans cfg) where
  -- a RIP below 2^47
  pub rip_stands : (n : ℕ) → n < 2 ^ 47 → n ≡ get_or env.words 16 0 → Represents edited_rip env n
  rip_stands n low is = record { symbol = is; bits = rip_bits n low; place = anywhere cfg valid env stacks n }

  -- flags of a user
  pub flags_stands : (n : ℕ) → AreUserFlags n → n ≡ get_or env.words 17 0 → Represents edited_flags env n
  flags_stands n m is = record { symbol = is; bits = flags_bits n m; place = anywhere cfg valid env stacks n }

  -- an RSP in no stack
  pub rsp_stands : (n : ℕ) → stack_of cfg.regions n ≡ None → n ≡ get_or env.words 4 0 → Represents edited_rsp env n
  rsp_stands n out is = record {
    symbol = is;
    bits = nothing_stands n;
    place =
        subst (λ z. LiesIn (2 ^ 16) z n) (sym stacks)
        (lies_at cfg valid (2 ^ 16) n (ap (λ o. bit_at (2 ^ 16) (place_bit o)) out));
  }
