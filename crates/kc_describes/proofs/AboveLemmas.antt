-- A call's changes that leave a state as it is leave a greater one too, where RSP points to the same place in both, or
-- nowhere known in the greater one. By each slot and register: a top stays the top; where a join with an edit changes
-- nothing, the edit is below the value, and so below a greater one; a value without an edited symbol has none above.
use Rattle.std.proofs.Common.{◌≡◌, ℕ, suc, ◌+◌, ◌<◌, ◌⊎◌, ◌||◌, inl, inr, Bool, true, false, cond, List, [], ◌∷◌, length, map, Option, Some, None, refl, sym, ap, ◌∙◌, subst, arith}
use Rattle.std.proofs.lemmas.Bool.{cases_Bool, cond-true, cond-false}
use Rattle.std.proofs.lemmas.List.{get_or-map}
use Rattle.std.proofs.lemmas.List.Elements.{All-get_or}
use Rattle.kc_frames.specs.Slots.{redone}
use Rattle.kc_regions.specs.Description.{Description}
use Rattle.kc_regions.specs.declared.entry.Handler.{Handler}
use Rattle.kc_value.specs.AbsValue.{AbsValue}
use Rattle.kc_value.specs.Made.{plain}
use Rattle.kc_value.specs.SymbolLaws.{below_cases}
use Rattle.kc_value.specs.Value.{IsValidValue, value_below, value_joined, value_top}
use Rattle.kc_value.specs.ValueLaws.{value_laws, value_facts}
use Rattle.kc_state.specs.Calls.{moved_down, moved_up, used, edited_rip, edited_flags, edited_rsp, is_edited_sym, tame, edited_by, edited, with_edits, frame_of, called_at, called}
use Rattle.kc_state.specs.Location.{location_of}
use Rattle.kc_state.specs.Memory.{is_just, meets_word, hits}
use Rattle.kc_state.specs.Places.{location_stack, word_of}
use Rattle.kc_state.specs.State.{IsState}
use Rattle.kc_state.specs.declared.key.Key.{Key}
use Rattle.kc_state.specs.declared.location.Location.{Location}
use Rattle.kc_state.specs.declared.state.AbsState.{AbsState}
use Rattle.kc_describes.specs.Row.{value_at}
use Rattle.kc_describes.proofs.FrameLemmas.{rows_at, IsStateBelow}
use Rattle.kc_describes.proofs.SlotLemmas.{get_or-redone}
use Rattle.kc_describes.proofs.TwiceLemmas.{redone_both, pick, rip_valid, flags_valid, rsp_valid}
use Rattle.kc_describes.proofs.ValidLemmas.{top_valid}

-- ---- values

module _ (v w : AbsValue) (ok : IsValidValue v) (also : IsValidValue w) (below : value_below v w ≡ true) where
  top_above : value_top ≡ v → w ≡ value_top
  top_above e =
      value_laws.below_antisym w value_top also top_valid (value_laws.top_above w w also also tt)
      (subst (λ z. value_below z w ≡ true) (sym e) below)

  join_still : (e : AbsValue) → IsValidValue e → value_joined v e ≡ v → value_joined w e ≡ w
  join_still e fits still =
      let up : value_below e v ≡ true =
      subst (λ z. value_below e z ≡ true) still (value_laws.join_right v e ok fits tt) in
      let over = value_laws.below_trans e v w fits ok also up below in
      value_laws.below_antisym (value_joined w e) w (value_laws.join_valid w e also fits tt) also
      (value_laws.join_least w e w also fits also tt (value_laws.below_refl w also) over)
      (value_laws.join_left w e also fits tt)

  no_symbol : tame v ≡ v → is_edited_sym v.sym ≡ false
  no_symbol still = elim (cases_Bool (is_edited_sym v.sym)) [
    | inl is ↦
        let same : plain v ≡ v = sym (cond-true (is_edited_sym v.sym) (plain v) v is) ∙ still in
        sym (ap (λ z. is_edited_sym z.sym) same)
    | inr is ↦ is
  ]

  tame_still : tame v ≡ v → tame w ≡ w
  tame_still still =
      let none = no_symbol still in
      let other : is_edited_sym w.sym ≡ false = elim (below_cases v.sym w.sym (value_facts v w below).sym_below) [
        | inl is ↦ ap is_edited_sym is
        | inr is ↦ ap is_edited_sym (sym is) ∙ none
      ] in
      cond-false (is_edited_sym w.sym) (plain w) w other

  pick_still : (a b c d : Bool) → pick a b c d v ≡ v → pick a b c d w ≡ w
  pick_still true b c d still = join_still edited_rip rip_valid still
  pick_still false true c d still = join_still edited_flags flags_valid still
  pick_still false false true d still = join_still edited_rsp rsp_valid still
  pick_still false false false true still = sym (top_above still)
  pick_still false false false false still = tame_still still

  edits_still : (p : Option Location) (l : Location) → edited_by p l v ≡ v → edited_by p l w ≡ w
  edits_still p l still =
      pick_still (is_just l 8 p) (is_just (moved_up l 16) 8 p) (is_just (moved_up l 24) 8 p)
      (meets_word l 8 p || (meets_word (moved_up l 16) 8 p || meets_word (moved_up l 24) 8 p)) still

  used_still : (hit : Bool) → cond hit value_top v ≡ v → cond hit value_top w ≡ w
  used_still true still = sym (top_above still)
  used_still false still = refl

pick_top : (a b c d : Bool) → pick a b c d value_top ≡ value_top
pick_top true b c d = refl
pick_top false true c d = refl
pick_top false false true d = refl
pick_top false false false true = refl
pick_top false false false false = refl

edits_top : (p : Option Location) (l : Location) → edited_by p l value_top ≡ value_top
edits_top p l =
    pick_top (is_just l 8 p) (is_just (moved_up l 16) 8 p) (is_just (moved_up l 24) 8 p)
    (meets_word l 8 p || (meets_word (moved_up l 16) 8 p || meets_word (moved_up l 24) 8 p))

both_still : (v w : AbsValue) (ok : IsValidValue v) (also : IsValidValue w) (below : value_below v w ≡ true)
    (hit : Bool) (p : Option Location) (l : Location) → edited_by p l (cond hit value_top v) ≡ v
    → edited_by p l (cond hit value_top w) ≡ w
both_still v w ok also below true p l still =
    let top = edits_top p l in top ∙ sym (top_above v w ok also below (sym top ∙ still))
both_still v w ok also below false p l still = edits_still v w ok also below p l still

-- ---- lists

redone_still : (f : ℕ → AbsValue → AbsValue) (i : ℕ) (vs : List AbsValue)
    → ((j : ℕ) → j < length vs → f (i + j) (value_at vs j) ≡ value_at vs j) → redone f i vs ≡ vs
redone_still f i [] still = refl
redone_still f i (v ∷ vs) still =
    let number : i ≡ i + 0 = omega arith in
    let first : f i v ≡ v = ap (λ z. f z v) number ∙ still 0 (omega arith) in
    let rest = redone_still f (suc i) vs (λ j inside.
    let next : suc i + j ≡ i + suc j = omega arith in
    ap (λ z. f z (value_at vs j)) next ∙ still (suc j) (omega (arith, inside))) in
    ap (λ u. u ∷ redone f (suc i) vs) first ∙ ap (λ us. v ∷ us) rest

items_still : (f : ℕ → AbsValue → AbsValue) (vs : List AbsValue)
    → ((j : ℕ) → j < length vs → f j (value_at vs j) ≡ value_at vs j) → redone f 0 vs ≡ vs
items_still f vs still =
    redone_still f 0 vs (λ j inside.
    let number : 0 + j ≡ j = omega arith in ap (λ z. f z (value_at vs j)) number ∙ still j inside)

map_still : (vs : List AbsValue) → ((j : ℕ) → j < length vs → tame (value_at vs j) ≡ value_at vs j) → map tame vs ≡ vs
map_still [] still = refl
map_still (v ∷ vs) still =
    let rest = map_still vs (λ j inside. still (suc j) (omega (arith, inside))) in
    ap (λ u. u ∷ map tame vs) (still 0 (omega arith)) ∙ ap (λ us. v ∷ us) rest

-- what leaves a list as it is leaves each item
item_still : (f : ℕ → AbsValue → AbsValue) (vs : List AbsValue) (j : ℕ) → redone f 0 vs ≡ vs → j < length vs
    → f j (value_at vs j) ≡ value_at vs j
item_still f vs j still inside =
    let number : j ≡ 0 + j = omega arith in
    ap (λ z. f z (value_at vs j)) number ∙ sym (get_or-redone f value_top 0 j vs inside) ∙ ap (λ z. value_at z j) still

-- ---- the call

module _ (cfg : Description) (key : Key) (h : Handler) (s t : AbsState) (is : IsState s) (also : IsState t)
    (below : IsStateBelow s t) where
  slot_ok : (j : ℕ) → j < 296 → IsValidValue (value_at s.slots j)
  slot_ok j inside = All-get_or IsValidValue s.slots j value_top (omega (arith, inside, is.slots.1)) is.slots.0

  slot_also : (j : ℕ) → j < 296 → IsValidValue (value_at t.slots j)
  slot_also j inside = All-get_or IsValidValue t.slots j value_top (omega (arith, inside, also.slots.1)) also.slots.0

  slot_below : (j : ℕ) → j < 296 → value_below (value_at s.slots j) (value_at t.slots j) ≡ true
  slot_below j inside = rows_at value_below s.slots t.slots j value_top below.slots (omega (arith, inside, is.slots.1))

  abbrev hit : Location → ℕ → Bool
  hit l i = hits cfg key (location_stack cfg key (Some l)) (moved_down l h.stack) h.stack i

  abbrev changed : Location → Option ℕ → AbsState → AbsState
  changed l frame x = with_edits cfg key frame l (record x { slots = redone (used cfg key l h.stack) 0 x.slots })

  uses_above : (l : Location) → redone (used cfg key l h.stack) 0 s.slots ≡ s.slots
      → redone (used cfg key l h.stack) 0 t.slots ≡ t.slots
  uses_above l still =
      items_still (used cfg key l h.stack) t.slots (λ j inside.
      let low : j < 296 = omega (arith, inside, also.slots.1) in
      let own = item_still (used cfg key l h.stack) s.slots j still (omega (arith, low, is.slots.1)) in
      used_still (value_at s.slots j) (value_at t.slots j) (slot_ok j low) (slot_also j low) (slot_below j low)
      (hit l j) own)

  slots_above : (l : Location) (n : ℕ)
      → redone (edited cfg key (moved_up l n)) 0 (redone (used cfg key l h.stack) 0 s.slots) ≡ s.slots
      → redone (edited cfg key (moved_up l n)) 0 (redone (used cfg key l h.stack) 0 t.slots) ≡ t.slots
  slots_above l n still =
      let f = used cfg key l h.stack in
      let g = edited cfg key (moved_up l n) in
      let both : redone (λ j v. g j (f j v)) 0 s.slots ≡ s.slots = sym (redone_both g f 0 s.slots) ∙ still in
      redone_both g f 0 t.slots ∙ items_still (λ j v. g j (f j v)) t.slots (λ j inside.
      let low : j < 296 = omega (arith, inside, also.slots.1) in
      let own = item_still (λ i v. g i (f i v)) s.slots j both (omega (arith, low, is.slots.1)) in
      both_still (value_at s.slots j) (value_at t.slots j) (slot_ok j low) (slot_also j low) (slot_below j low)
      (hit l j) (word_of cfg key j) (moved_up l n) own)

  regs_above : map tame s.regs ≡ s.regs → map tame t.regs ≡ t.regs
  regs_above still =
      map_still t.regs (λ j inside.
      let low : j < 16 = omega (arith, inside, also.reg_count) in
      let here : j < length s.regs = omega (arith, low, is.reg_count) in
      let own : tame (value_at s.regs j) ≡ value_at s.regs j =
      sym (get_or-map tame s.regs j value_top value_top here) ∙ ap (λ z. value_at z j) still in
      tame_still (value_at s.regs j) (value_at t.regs j) (All-get_or IsValidValue s.regs j value_top here is.regs)
      (All-get_or IsValidValue t.regs j value_top inside also.regs)
      (rows_at value_below s.regs t.regs j value_top below.regs here) own)

  by_frame : (l : Location) (frame : Option ℕ) → changed l frame s ≡ s → changed l frame t ≡ t
  by_frame l None still =
      let slots = uses_above l (ap (λ x. x.slots) still) in λ i. record t { slots = slots i }
  by_frame l (Some n) still =
      let slots = slots_above l n (ap (λ x. x.slots) still) in
      let regs = regs_above (ap (λ x. x.regs) still) in
      let flags = tame_still s.flags t.flags is.flags also.flags below.flags (ap (λ x. x.flags) still) in
      λ i. record t { regs = regs i; flags = flags i; slots = slots i }

  by_location : (o : Option Location) → called_at cfg key h s o ≡ s → called_at cfg key h t o ≡ t
  by_location (Some l) still = by_frame l (frame_of key h) still
  by_location None still = refl

  -- RSP points to the same place in both states, or nowhere known in the greater one
  abbrev pub IsSamePlace : Type 0
  IsSamePlace =
      (location_of key (value_at t.regs 4) ≡ location_of key (value_at s.regs 4))
      ⊎ (location_of key (value_at t.regs 4) ≡ None)

  -- the changes of a call that leave a state as it is leave a greater one too
  pub called_above : IsSamePlace → called cfg key h s ≡ s → called cfg key h t ≡ t
  called_above (inl same) still =
      ap (called_at cfg key h t) same ∙ by_location (location_of key (value_at s.regs 4)) still
  called_above (inr none) still = ap (called_at cfg key h t) none
