-- The changes of a handler's call, made twice, are those made once. RSP's location is the same, since a value that
-- loses its symbol points where it did; a slot that is hit is the top, which every edit keeps; a join with an edit is
-- above the edit; and a value without an edited symbol stays.
use Rattle.std.proofs.Common.{◌≡◌, ℕ, suc, ◌||◌, inl, inr, Bool, true, false, cond, if◌then◌else◌, List, [], ◌∷◌, map, All, Option, Some, None, refl, sym, ap, ◌∙◌, arith, lit<}
use Rattle.std.proofs.lemmas.Bool.{cases_Bool, cond-true, cond-false}
use Rattle.std.proofs.lemmas.List.{get_or-map}
use Rattle.std.proofs.lemmas.List.Elements.{All-head, All-tail}
use Rattle.kc_bits.specs.Bits.{bits_single}
use Rattle.kc_frames.specs.Slots.{redone}
use Rattle.kc_regions.specs.Description.{Description}
use Rattle.kc_regions.specs.declared.entry.Handler.{Handler}
use Rattle.kc_value.specs.AbsValue.{AbsValue}
use Rattle.kc_value.specs.Made.{plain}
use Rattle.kc_value.specs.Value.{IsValidValue, value_joined, value_top}
use Rattle.kc_value.specs.ValueLaws.{value_laws}
use Rattle.kc_value.specs.declared.symbol.Sym.{Sym}
use Rattle.kc_value.specs.declared.symbol.Sym.TheVariants.{Plain, Base, Entry, UserGs}
use Rattle.kc_state.specs.Calls.{moved_down, moved_up, used, edited_rip, edited_flags, edited_rsp, is_edited_sym, tame, edited_by, edited, with_edits, frame_of, called_at, called}
use Rattle.kc_state.specs.Location.{symbol_location, location_of}
use Rattle.kc_state.specs.Memory.{is_just, meets_word, hits}
use Rattle.kc_state.specs.Places.{location_stack, word_of}
use Rattle.kc_state.specs.State.{IsState}
use Rattle.kc_state.specs.declared.key.Key.{Key}
use Rattle.kc_state.specs.declared.location.Location.{Location}
use Rattle.kc_state.specs.declared.state.AbsState.{AbsState}
use Rattle.kc_describes.specs.Row.{value_at}

-- ---- values

-- an edit is a valid value
pub rip_valid : IsValidValue edited_rip
rip_valid = record {
  sym_fits = lit< tt;
  bits_fit = record { zeros_fit = lit< tt; ones_fit = lit< tt; apart = refl };
  stacks_fit = lit< tt;
}

pub flags_valid : IsValidValue edited_flags
flags_valid = record {
  sym_fits = lit< tt;
  bits_fit = record { zeros_fit = lit< tt; ones_fit = lit< tt; apart = refl };
  stacks_fit = lit< tt;
}

pub rsp_valid : IsValidValue edited_rsp
rsp_valid = record {
  sym_fits = lit< tt;
  bits_fit = record { zeros_fit = lit< tt; ones_fit = lit< tt; apart = refl };
  stacks_fit = lit< tt;
}

-- a join with a value that is below it already
pub joined_again : (v e : AbsValue) → IsValidValue v → IsValidValue e
    → value_joined (value_joined v e) e ≡ value_joined v e
joined_again v e ok also =
    let j = value_joined v e in
    let valid = value_laws.join_valid v e ok also tt in
    let again = value_laws.join_valid j e valid also tt in
    value_laws.below_antisym (value_joined j e) j again valid
    (value_laws.join_least j e j valid also valid tt (value_laws.below_refl j valid)
    (value_laws.join_right v e ok also tt)) (value_laws.join_left j e valid also tt)

tame_again : (v : AbsValue) → tame (tame v) ≡ tame v
tame_again v = elim (cases_Bool (is_edited_sym v.sym)) [
  | inl is ↦
      let once : tame v ≡ plain v = cond-true (is_edited_sym v.sym) (plain v) v is in
      ap tame once ∙ sym once
  | inr is ↦ ap tame (cond-false (is_edited_sym v.sym) (plain v) v is)
]

-- ---- slots

-- what an edit does, by which of its words the slot is
abbrev pub pick : Bool → Bool → Bool → Bool → AbsValue → AbsValue
pick a b c d v =
    if a then value_joined v edited_rip else
    if b then value_joined v edited_flags else
    if c then value_joined v edited_rsp else
    if d then value_top else tame v

pick_again : (a b c d : Bool) (v : AbsValue) → IsValidValue v → pick a b c d (pick a b c d v) ≡ pick a b c d v
pick_again true b c d v ok = joined_again v edited_rip ok rip_valid
pick_again false true c d v ok = joined_again v edited_flags ok flags_valid
pick_again false false true d v ok = joined_again v edited_rsp ok rsp_valid
pick_again false false false true v ok = refl
pick_again false false false false v ok = tame_again v

edits_again : (w : Option Location) (l : Location) (v : AbsValue) → IsValidValue v
    → edited_by w l (edited_by w l v) ≡ edited_by w l v
edits_again w l v ok =
    pick_again (is_just l 8 w) (is_just (moved_up l 16) 8 w) (is_just (moved_up l 24) 8 w)
    (meets_word l 8 w || (meets_word (moved_up l 16) 8 w || meets_word (moved_up l 24) 8 w)) v ok

pub redone_both : {V : Type 0} (f g : ℕ → V → V) (i : ℕ) (vs : List V)
    → redone f i (redone g i vs) ≡ redone (λ j v. f j (g j v)) i vs
redone_both f g i [] = refl
redone_both f g i (v ∷ vs) = ap (λ us. f i (g i v) ∷ us) (redone_both f g (suc i) vs)

redone_same : (P : AbsValue → Type 0) (f g : ℕ → AbsValue → AbsValue) (i : ℕ) (vs : List AbsValue)
    → ((j : ℕ) (v : AbsValue) → P v → f j v ≡ g j v) → All P vs → redone f i vs ≡ redone g i vs
redone_same P f g i [] same all = refl
redone_same P f g i (v ∷ vs) same all =
    let rest = redone_same P f g (suc i) vs same (All-tail P v vs all) in
    ap (λ u. u ∷ redone f (suc i) vs) (same i v (All-head P v vs all)) ∙ ap (λ us. g i v ∷ us) rest

chosen_again : (hit : Bool) (v : AbsValue) → cond hit value_top (cond hit value_top v) ≡ cond hit value_top v
chosen_again true v = refl
chosen_again false v = refl

edit_chosen : (hit : Bool) (w : Option Location) (l : Location) (v : AbsValue) → IsValidValue v
    → edited_by w l (cond hit value_top (edited_by w l (cond hit value_top v))) ≡ edited_by w l (cond hit value_top v)
edit_chosen true w l v ok = refl
edit_chosen false w l v ok = edits_again w l v ok

map_again : (values : List AbsValue) → map tame (map tame values) ≡ map tame values
map_again [] = refl
map_again (v ∷ vs) =
    ap (λ u. u ∷ map tame (map tame vs)) (tame_again v) ∙ ap (λ us. tame v ∷ us) (map_again vs)

-- ---- locations

same_place : (key : Key) (s : Sym) (known : Option ℕ) → is_edited_sym s ≡ true
    → symbol_location key Plain known ≡ symbol_location key s known
same_place key Plain known h = refl
same_place key (Base k) known h = absurd cc
same_place key (Entry w) known h = refl
same_place key UserGs known h = refl

-- a value that loses its symbol points where it did
pub location_tame : (key : Key) (v : AbsValue) → location_of key (tame v) ≡ location_of key v
location_tame key v = elim (cases_Bool (is_edited_sym v.sym)) [
  | inl is ↦
      ap (location_of key) (cond-true (is_edited_sym v.sym) (plain v) v is)
      ∙ same_place key v.sym (bits_single v.bits) is
  | inr is ↦ ap (location_of key) (cond-false (is_edited_sym v.sym) (plain v) v is)
]

-- ---- the call

module _ (cfg : Description) (key : Key) (h : Handler) (s : AbsState) (is : IsState s) where
  abbrev hit : Location → ℕ → Bool
  hit l i = hits cfg key (location_stack cfg key (Some l)) (moved_down l h.stack) h.stack i

  abbrev changed : Location → Option ℕ → AbsState → AbsState
  changed l frame t = with_edits cfg key frame l (record t { slots = redone (used cfg key l h.stack) 0 t.slots })

  uses_again : (l : Location)
      → redone (used cfg key l h.stack) 0 (redone (used cfg key l h.stack) 0 s.slots)
      ≡ redone (used cfg key l h.stack) 0 s.slots
  uses_again l =
      let f = used cfg key l h.stack in
      redone_both f f 0 s.slots
      ∙ redone_same IsValidValue (λ j v. f j (f j v)) f 0 s.slots (λ j v ok. chosen_again (hit l j) v) is.slots.0

  slots_again : (l : Location) (n : ℕ) → let f = used cfg key l h.stack in let g = edited cfg key (moved_up l n) in
      redone g 0 (redone f 0 (redone g 0 (redone f 0 s.slots))) ≡ redone g 0 (redone f 0 s.slots)
  slots_again l n =
      let f = used cfg key l h.stack in
      let g = edited cfg key (moved_up l n) in
      let once = redone_both g f 0 s.slots in
      ap (λ vs. redone g 0 (redone f 0 vs)) once
      ∙ ap (redone g 0) (redone_both f (λ j v. g j (f j v)) 0 s.slots)
      ∙ redone_both g (λ j v. f j (g j (f j v))) 0 s.slots
      ∙ redone_same IsValidValue (λ j v. g j (f j (g j (f j v)))) (λ j v. g j (f j v)) 0 s.slots
      (λ j v ok. edit_chosen (hit l j) (word_of cfg key j) (moved_up l n) v ok) is.slots.0
      ∙ sym once

  by_frame : (l : Location) (frame : Option ℕ) → changed l frame (changed l frame s) ≡ changed l frame s
  by_frame l None = let slots = uses_again l in λ i. record s { slots = slots i }
  by_frame l (Some n) =
      let slots = slots_again l n in
      let regs = map_again s.regs in
      let flags = tame_again s.flags in
      λ i. record s { regs = regs i; flags = flags i; slots = slots i }

  by_location : (o : Option Location) → called_at cfg key h (called_at cfg key h s o) o ≡ called_at cfg key h s o
  by_location (Some l) = by_frame l (frame_of key h)
  by_location None = refl

  rsp_tame : location_of key (value_at (map tame s.regs) 4) ≡ location_of key (value_at s.regs 4)
  rsp_tame =
      ap (location_of key) (get_or-map tame s.regs 4 value_top value_top (omega (arith, is.reg_count)))
      ∙ location_tame key (value_at s.regs 4)

  frame_place : (l : Location) (frame : Option ℕ)
      → location_of key (value_at (changed l frame s).regs 4) ≡ location_of key (value_at s.regs 4)
  frame_place l None = refl
  frame_place l (Some n) = rsp_tame

  same_rsp : (o : Option Location)
      → location_of key (value_at (called_at cfg key h s o).regs 4) ≡ location_of key (value_at s.regs 4)
  same_rsp (Some l) = frame_place l (frame_of key h)
  same_rsp None = refl

  -- the changes of a call leave the state that they made as it is
  pub called_again : called cfg key h (called cfg key h s) ≡ called cfg key h s
  called_again =
      let o = location_of key (value_at s.regs 4) in
      ap (called_at cfg key h (called cfg key h s)) (same_rsp o) ∙ by_location o
