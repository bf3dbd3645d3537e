-- Slots after an edit. A state that the call's changes leave as it is has in each slot what an edit leaves there: the
-- join where the slot is one of the three words, the top where it meets one, and a value without an edited symbol
-- elsewhere. The first stands for the word that is read after the edit, and the last for a word that stays.
use Rattle.std.proofs.Common.{◌≡◌, ℕ, suc, ◌+◌, ◌^◌, ◌<◌, ◌||◌, Bool, true, false, List, [], ◌∷◌, length, get_or, Option, Some, None, IfSome, refl, sym, ap, ◌∙◌, subst, arith}
use Rattle.std.specs.Option.{unwrap_or}
use Rattle.std.proofs.lemmas.Bool.{or_parts}
use Rattle.kc_frames.specs.Slots.{slot_count, redone}
use Rattle.kc_regions.specs.Description.{Description}
use Rattle.kc_regions.specs.Region.{stack_of}
use Rattle.kc_regions.specs.Valid.{IsValid}
use Rattle.kc_mem.specs.Memory.{Bytes, read}
use Rattle.kc_exec.specs.Operand.{plus}
use Rattle.kc_events.specs.declared.turn.Edit.{Edit}
use Rattle.kc_events.specs.Allowed.{AreEditsValid}
use Rattle.kc_value.specs.AbsValue.{AbsValue}
use Rattle.kc_value.specs.Value.{Represents, value_joined, value_top}
use Rattle.kc_value.specs.declared.env.ValueEnv.{ValueEnv}
use Rattle.kc_state.specs.Calls.{edited_rip, edited_flags, edited_rsp, is_edited_word, tame, edited_by, edited}
use Rattle.kc_state.specs.Memory.{is_just, meets_word}
use Rattle.kc_state.specs.Places.{word_of}
use Rattle.kc_state.specs.declared.key.Key.{Key}
use Rattle.kc_state.specs.declared.location.Location.{Location}
use Rattle.kc_state.specs.declared.location.Location.TheVariants.{Number}
use Rattle.kc_describes.specs.Places.{stack_spans, address_of, SlotsStand}
use Rattle.kc_describes.specs.Row.{value_at}
use Rattle.kc_describes.proofs.SlotLemmas.{get_or-redone}
use Rattle.kc_describes.proofs.StoreLemmas.{just_there}
use Rattle.kc_describes.proofs.TwiceLemmas.{pick}
use Rattle.kc_describes.proofs.ValueLemmas.{top_stands}
use Rattle.kc_body.specs.Edit.{IsEditSet}
use Rattle.kc_body.proofs.EditMemoryLemmas.{edited_memory, apart_words, rip_after, flags_after, rsp_after, other_after}
use Rattle.kc_body.proofs.EditValueLemmas.{with_words, joined_after, tame_kept, rip_stands, flags_stands, rsp_stands}

-- the words after the edit: the three edited ones, and all others as they were
pub record AreWordsEdited (edit : Edit) (old new : List ℕ) : Type 0 where
  pub rip : get_or new 16 0 ≡ unwrap_or edit.rip (get_or old 16 0)
  pub flags : get_or new 17 0 ≡ unwrap_or edit.flags (get_or old 17 0)
  pub rsp : get_or new 4 0 ≡ unwrap_or edit.rsp (get_or old 4 0)
  pub others : (w : ℕ) → is_edited_word w ≡ false → get_or new w 0 ≡ get_or old w 0

-- what is asked of an edited word is asked of it with the equation of the word that it is
given : (P Q : ℕ → Type 0) (o : Option ℕ) (k old : ℕ) → k ≡ unwrap_or o old → IfSome o P
    → ((n : ℕ) → P n → n ≡ k → Q n) → IfSome o Q
given P Q (Some n) k old e h from = from n h (sym e)
given P Q None k old e h from = tt

length-redone : {V : Type 0} (f : ℕ → V → V) (i : ℕ) (vs : List V) → length (redone f i vs) ≡ length vs
length-redone f i [] = refl
length-redone f i (v ∷ vs) = ap suc (length-redone f (suc i) vs)

module _ (cfg : Description) (valid : IsValid cfg) (env : ValueEnv) (stacks : env.stacks ≡ stack_spans cfg)
    (edit : Edit) (edits : AreEditsValid cfg edit) (fit : IsEditSet edit) (new : List ℕ)
    (are : AreWordsEdited edit env.words new)
    (mem : Bytes) (at : ℕ) (whole : at + 40 < 2 ^ 64)
  where
    abbrev env_after : ValueEnv
    env_after = with_words env new

    abbrev mem_after : Bytes
    mem_after = edited_memory mem at edit

    -- the join with each of the three edits, at its word
    rip_joined : (u : AbsValue) → Represents (value_joined u edited_rip) env (read mem at 8)
        → Represents (value_joined u edited_rip) env_after (read mem_after at 8)
    rip_joined u r =
        let stands = given (λ n. n < 2 ^ 47) (Represents edited_rip env_after) edit.rip (get_or new 16 0)
        (get_or env.words 16 0) are.rip edits.rip (rip_stands cfg valid env_after stacks) in
        subst (Represents (value_joined u edited_rip) env_after) (sym (rip_after mem at edit whole fit))
        (joined_after env new u edited_rip 16 (read mem at 8) edit.rip refl are.rip stands r)

    flags_joined : (u : AbsValue) → Represents (value_joined u edited_flags) env (read mem (plus at 16) 8)
        → Represents (value_joined u edited_flags) env_after (read mem_after (plus at 16) 8)
    flags_joined u r =
        let stands = given _ (Represents edited_flags env_after) edit.flags (get_or new 17 0)
        (get_or env.words 17 0) are.flags edits.flags (flags_stands cfg valid env_after stacks) in
        subst (Represents (value_joined u edited_flags) env_after) (sym (flags_after mem at edit whole fit))
        (joined_after env new u edited_flags 17 (read mem (plus at 16) 8) edit.flags refl are.flags stands r)

    rsp_joined : (u : AbsValue) → Represents (value_joined u edited_rsp) env (read mem (plus at 24) 8)
        → Represents (value_joined u edited_rsp) env_after (read mem_after (plus at 24) 8)
    rsp_joined u r =
        let stands = given (λ n. stack_of cfg.regions n ≡ None) (Represents edited_rsp env_after) edit.rsp
        (get_or new 4 0) (get_or env.words 4 0) are.rsp edits.rsp (rsp_stands cfg valid env_after stacks) in
        subst (Represents (value_joined u edited_rsp) env_after) (sym (rsp_after mem at edit whole fit))
        (joined_after env new u edited_rsp 4 (read mem (plus at 24) 8) edit.rsp refl are.rsp stands r)

    abbrev StaysAt : AbsValue → ℕ → Type 0
    StaysAt v w = Represents v env (read mem w 8) → Represents v env_after (read mem_after w 8)

    -- by which of the three words the slot's word is
    by_pick : (a b c d : Bool) (u : AbsValue) (w : ℕ) → (a ≡ true → w ≡ at) → (b ≡ true → w ≡ plus at 16)
        → (c ≡ true → w ≡ plus at 24) → (d ≡ false → read mem_after w 8 ≡ read mem w 8)
        → StaysAt (pick a b c d u) w
    by_pick true b c d u w one two three none =
        subst (StaysAt (value_joined u edited_rip)) (sym (one refl)) (rip_joined u)
    by_pick false true c d u w one two three none =
        subst (StaysAt (value_joined u edited_flags)) (sym (two refl)) (flags_joined u)
    by_pick false false true d u w one two three none =
        subst (StaysAt (value_joined u edited_rsp)) (sym (three refl)) (rsp_joined u)
    by_pick false false false true u w one two three none =
        λ r. top_stands cfg valid env_after stacks (read mem_after w 8)
    by_pick false false false false u w one two three none =
        λ r. subst (Represents (tame u) env_after) (sym (none refl)) (tame_kept env new u (read mem w 8) are.others r)

    place_of : (b w : ℕ) → b < 2 ^ 64 → w < 2 ^ 64 → is_just (Number b) 8 (Some (Number w)) ≡ true → w ≡ b
    place_of b w low high h = sym (just_there 0 8 (Number b) (Number w) low high h).1

    flags_at_fits : plus at 16 < 2 ^ 64
    flags_at_fits = omega arith

    rsp_at_fits : plus at 24 < 2 ^ 64
    rsp_at_fits = omega arith

    -- a word that meets none of the three stays
    unmet : (w : ℕ) → w < 2 ^ 64 → (meets_word (Number at) 8 (Some (Number w))
        || (meets_word (Number (plus at 16)) 8 (Some (Number w))
        || meets_word (Number (plus at 24)) 8 (Some (Number w)))) ≡ false
        → read mem_after w 8 ≡ read mem w 8
    unmet w fits h =
        let one = meets_word (Number at) 8 (Some (Number w)) in
        let two = meets_word (Number (plus at 16)) 8 (Some (Number w)) in
        let three = meets_word (Number (plus at 24)) 8 (Some (Number w)) in
        let p = or_parts one (two || three) h in
        let q = or_parts two three p.1 in
        other_after mem at edit whole fit w fits (apart_words w at fits (omega (arith, whole)) p.0)
        (apart_words w (plus at 16) fits flags_at_fits q.0) (apart_words w (plus at 24) fits rsp_at_fits q.1)

    -- what an edit leaves in a slot at this word stands for the word after the edit
    at_word : (u : AbsValue) (w : ℕ) → w < 2 ^ 64 → StaysAt (edited_by (Some (Number w)) (Number at) u) w
    at_word u w fits =
        by_pick _ _ _ _ u w (place_of at w (omega (arith, whole)) fits) (place_of (plus at 16) w flags_at_fits fits)
        (place_of (plus at 24) w rsp_at_fits fits) (unmet w fits)

    module _ (key : Key) (words_are : (i : ℕ) (p : Location) → i < slot_count → word_of cfg key i ≡ Some p
        → (w : ℕ) × (p ≡ Number w) × (w < 2 ^ 64)) (f : ℕ → AbsValue → AbsValue) (slots : List AbsValue)
        (count : length slots ≡ slot_count)
        (fixed : redone (edited cfg key (Number at)) 0 (redone f 0 slots) ≡ slots)
      where
        -- each slot holds what an edit leaves
        is_edited : (i : ℕ) → i < slot_count
            → value_at slots i ≡ edited cfg key (Number at) i (f i (value_at slots i))
        is_edited i below =
            let inner : length (redone f 0 slots) ≡ slot_count = length-redone f 0 slots ∙ count in
            let number : 0 + i ≡ i = omega arith in
            sym (ap (λ z. value_at z i) fixed)
            ∙ get_or-redone (edited cfg key (Number at)) value_top 0 i (redone f 0 slots) (omega (arith, inner, below))
            ∙ ap (λ j. edited cfg key (Number at) j (value_at (redone f 0 slots) i)) number
            ∙ ap (edited cfg key (Number at) i)
            (get_or-redone f value_top 0 i slots (omega (arith, count, below))
            ∙ ap (λ j. f j (value_at slots i)) number)

        -- the slots stand after the edit
        pub slots_edited : SlotsStand cfg key env slots mem → SlotsStand cfg key env_after slots mem_after
        slots_edited stand i p below e =
            let at_p = words_are i p below e in
            let w = at_p.0 in
            let found : word_of cfg key i ≡ Some (Number w) = e ∙ ap (λ z. Some z) at_p.1 in
            let u = f i (value_at slots i) in
            let is : value_at slots i ≡ edited_by (Some (Number w)) (Number at) u =
            is_edited i below ∙ ap (λ z. edited_by z (Number at) u) found in
            let stays : StaysAt (value_at slots i) w = subst (λ v. StaysAt v w) (sym is) (at_word u w at_p.2) in
            let before : Represents (value_at slots i) env (read mem w 8) =
            subst (λ z. Represents (value_at slots i) env (read mem (address_of env.base z) 8)) at_p.1
            (stand i p below e) in
            subst (λ z. Represents (value_at slots i) env_after (read mem_after (address_of env.base z) 8)) (sym at_p.1)
            (stays before)
