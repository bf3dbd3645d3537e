-- The changes of a handler's call keep what stands: a slot that the handler's stack may change becomes the top, one
-- that is a word of the frame is joined with what an edit may leave, and elsewhere a value at most loses its symbol.
-- Each of these stands for what the value stood for.
use Rattle.std.proofs.Common.{◌≡◌, ℕ, suc, ◌≤◌, ◌||◌, inl, inr, List, [], ◌∷◌, length, map, All, Option, Some, None, bit_or, refl, sym, ap, ◌∙◌, subst, arith}
use Rattle.std.proofs.lemmas.Bool.{cases_lt, cond_both}
use Rattle.std.proofs.lemmas.List.{get_or-map, get_or_past, length-map}
use Rattle.std.proofs.lemmas.Nat.Bits.{bit_at_and, bit_at_or, bit_at-lt}
use Rattle.kc_bits.specs.Bits.{StandsFor, bits_joined}
use Rattle.kc_bits.specs.KnownBits.{KnownBits}
use Rattle.kc_frames.specs.Slots.{slot_count, redone}
use Rattle.kc_regions.specs.Description.{Description}
use Rattle.kc_regions.specs.Valid.{IsValid}
use Rattle.kc_regions.specs.declared.entry.Handler.{Handler}
use Rattle.kc_mem.specs.Memory.{Bytes}
use Rattle.kc_exec.specs.declared.state.Activation.{Activation}
use Rattle.kc_value.specs.AbsValue.{AbsValue}
use Rattle.kc_value.specs.Made.{plain}
use Rattle.kc_value.specs.Place.{place_bit, LiesIn}
use Rattle.kc_value.specs.Symbol.{Names, sym_joined}
use Rattle.kc_value.specs.SymbolLaws.{joined_cases}
use Rattle.kc_value.specs.Value.{Represents, value_joined, value_top}
use Rattle.kc_value.specs.declared.env.ValueEnv.{ValueEnv}
use Rattle.kc_value.specs.declared.symbol.Sym.{Sym}
use Rattle.kc_words.specs.Range.{Range}
use Rattle.kc_state.specs.Calls.{moved_up, used, edited_rip, edited_flags, edited_rsp, is_edited_sym, tame, edited_by, edited, with_edits, frame_of, called_at, called}
use Rattle.kc_state.specs.Location.{location_of}
use Rattle.kc_state.specs.Memory.{is_just, meets_word}
use Rattle.kc_state.specs.Places.{word_of}
use Rattle.kc_state.specs.declared.key.Key.{Key}
use Rattle.kc_state.specs.declared.location.Location.{Location}
use Rattle.kc_state.specs.declared.state.AbsState.{AbsState}
use Rattle.kc_describes.specs.Chain.{env_of}
use Rattle.kc_describes.specs.Describes.{AreBaseSlotsTop}
use Rattle.kc_describes.specs.Fits.{ChainFits}
use Rattle.kc_describes.specs.Places.{SlotsStand}
use Rattle.kc_describes.specs.Row.{value_at}
use Rattle.kc_describes.specs.Widths.{IsActivation}
use Rattle.kc_describes.proofs.SlotLemmas.{redone_stand}
use Rattle.kc_describes.proofs.StoreLemmas.{bare_redone, used_stands, used_top}
use Rattle.kc_describes.proofs.ValueLemmas.{plain_stands, top_stands}

-- ---- values

joined_names : (s t : Sym) (env : ValueEnv) (n : ℕ) → Names s env n → Names (sym_joined s t) env n
joined_names s t env n h = elim (joined_cases s t) [
  | inl same ↦ subst (λ z. Names z env n) (sym same.1) h
  | inr other ↦ subst (λ z. Names z env n) (sym other.1) tt
]

joined_bits : (a b : KnownBits) (n : ℕ) → StandsFor a n → StandsFor (bits_joined a b) n
joined_bits a b n known i = (
  λ e. (known i).0 (omega (arith, e, bit_at_and a.zeros b.zeros i, bit_at-lt a.zeros i, bit_at-lt b.zeros i)),
  λ e. (known i).1 (omega (arith, e, bit_at_and a.ones b.ones i, bit_at-lt a.ones i, bit_at-lt b.ones i)),
)

joined_places : (set more : ℕ) (stacks : List Range) (n : ℕ) → LiesIn set stacks n → LiesIn (bit_or set more) stacks n
joined_places set more stacks n h =
    let i = place_bit h.0 in
    (h.0, h.1, omega (arith, h.2, bit_at_or set more i, bit_at-lt more i))

-- a join stands for what its first value stands for
pub join_stands : (v w : AbsValue) (env : ValueEnv) (n : ℕ) → Represents v env n → Represents (value_joined v w) env n
join_stands v w env n r = record {
  symbol = joined_names v.sym w.sym env n r.symbol;
  bits = joined_bits v.bits w.bits n r.bits;
  place = joined_places v.stacks w.stacks env.stacks n r.place;
}

pub tame_stands : (v : AbsValue) (env : ValueEnv) (n : ℕ) → Represents v env n → Represents (tame v) env n
tame_stands v env n r =
    cond_both (is_edited_sym v.sym) (plain v) v (λ z. Represents z env n) (λ h. plain_stands v env n r) (λ h. r)

tame_top : tame value_top ≡ value_top
tame_top = refl

-- ---- slots

length-redone : {V : Type 0} (f : ℕ → V → V) (i : ℕ) (vs : List V) → length (redone f i vs) ≡ length vs
length-redone f i [] = refl
length-redone f i (v ∷ vs) = ap suc (length-redone f (suc i) vs)

module _ (cfg : Description) (valid : IsValid cfg) (key : Key) (chain : List Activation) (F : ChainFits cfg key chain)
    (typed : All IsActivation chain) where
  abbrev env : ValueEnv
  env = env_of cfg chain

  edit_stands : (w : Option Location) (l : Location) (v : AbsValue) (n : ℕ) → Represents v env n
      → Represents (edited_by w l v) env n
  edit_stands w l v n r =
      let P = λ (z : AbsValue). Represents z env n in
      cond_both (is_just l 8 w) _ _ P (λ h. join_stands v edited_rip env n r)
      (λ h. cond_both (is_just (moved_up l 16) 8 w) _ _ P (λ g. join_stands v edited_flags env n r)
      (λ g. cond_both (is_just (moved_up l 24) 8 w) _ _ P (λ k. join_stands v edited_rsp env n r)
      (λ k. cond_both (meets_word l 8 w || (meets_word (moved_up l 16) 8 w || meets_word (moved_up l 24) 8 w)) _ _ P
      (λ m. top_stands cfg valid env refl n) (λ m. tame_stands v env n r))))

  -- without a word nothing is met, and the top has no symbol
  edit_top : (l : Location) → edited_by None l value_top ≡ value_top
  edit_top l = refl

  -- what a call of the handler changes keeps all that stands
  pub record Keeps (s t : AbsState) (mem : Bytes) : Type 0 where
    pub regs : (i n : ℕ) → Represents (value_at s.regs i) env n → Represents (value_at t.regs i) env n
    pub flags : (n : ℕ) → Represents s.flags env n → Represents t.flags env n
    pub slots : SlotsStand cfg key env s.slots mem → SlotsStand cfg key env t.slots mem
    pub bare : AreBaseSlotsTop key s.slots → AreBaseSlotsTop key t.slots
    pub count : length t.slots ≡ slot_count
    pub gs : t.gs ≡ s.gs
    pub map : t.map ≡ s.map
    pub latches : t.latches ≡ s.latches
    pub floors : t.floors ≡ s.floors

  tame_at : (values : List AbsValue) (i n : ℕ) → Represents (value_at values i) env n
      → Represents (value_at (map tame values) i) env n
  tame_at values i n r = elim (cases_lt i (length values)) [
    | inl inside ↦
        let same = get_or-map tame values i value_top value_top inside in
        subst (λ z. Represents z env n) (sym same) (tame_stands (value_at values i) env n r)
    | inr past ↦
        let none : value_at (map tame values) i ≡ value_top =
        get_or_past (map tame values) i value_top (subst (λ z. z ≤ i) (sym (length-map values tame)) past) in
        subst (λ z. Represents z env n) (sym none) (top_stands cfg valid env refl n)
  ]

  module _ (h : Handler) (s : AbsState) (mem : Bytes) (count : length s.slots ≡ slot_count) where
    abbrev after_use : Location → List AbsValue
    after_use l = redone (used cfg key l h.stack) 0 s.slots

    use_count : (l : Location) → length (after_use l) ≡ slot_count
    use_count l = length-redone (used cfg key l h.stack) 0 s.slots ∙ count

    use_bare : (l : Location) → AreBaseSlotsTop key s.slots → AreBaseSlotsTop key (after_use l)
    use_bare l bare =
        bare_redone cfg valid key chain F typed s.slots (used cfg key l h.stack) count
        (λ i none. used_top cfg valid key chain F typed l h.stack i) bare

    by_frame : (l : Location) (frame : Option ℕ)
        → Keeps s (with_edits cfg key frame l (record s { slots = after_use l })) mem
    by_frame l None = record {
      regs = λ i n r. r;
      flags = λ n r. r;
      slots = used_stands cfg valid key chain F typed l h.stack s.slots mem count;
      bare = use_bare l;
      count = use_count l;
      gs = refl;
      map = refl;
      latches = refl;
      floors = refl;
    }
    by_frame l (Some f) = record {
      regs = tame_at s.regs;
      flags = λ n r. tame_stands s.flags env n r;
      slots = λ stand.
          redone_stand cfg key env (after_use l) mem mem (edited cfg key (moved_up l f)) (use_count l)
          (used_stands cfg valid key chain F typed l h.stack s.slots mem count stand)
          (λ i p v below e r. edit_stands (word_of cfg key i) (moved_up l f) v _ r);
      bare = λ bare.
          bare_redone cfg valid key chain F typed (after_use l) (edited cfg key (moved_up l f)) (use_count l)
          (λ i none. ap (λ w. edited_by w (moved_up l f) value_top) none ∙ edit_top (moved_up l f)) (use_bare l bare);
      count = length-redone (edited cfg key (moved_up l f)) 0 (after_use l) ∙ use_count l;
      gs = refl;
      map = refl;
      latches = refl;
      floors = refl;
    }

    by_location : (o : Option Location) → Keeps s (called_at cfg key h s o) mem
    by_location (Some l) = by_frame l (frame_of key h)
    by_location None = record {
      regs = λ i n r. r;
      flags = λ n r. r;
      slots = λ stand. stand;
      bare = λ bare. bare;
      count = count;
      gs = refl;
      map = refl;
      latches = refl;
      floors = refl;
    }

    pub called_keeps : Keeps s (called cfg key h s) mem
    called_keeps = by_location (location_of key (value_at s.regs 4))
