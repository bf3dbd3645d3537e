-- What a delivery enters: its key keeps the rules of keys, and where what is interrupted is well-formed for its own key,
-- the entry state is for the one that is entered. The one word that asks for a reason is the saved RSP: where all its
-- bits are known, it is a number in the stack of the new key.
use Rattle.std.proofs.Common.{◌≡◌, ◌≢◌, ℕ, zero, suc, ◌+◌, ◌-◌, ◌^◌, ◌<◌, ◌≤◌, Bool, true, false, cond, not, ◌&&◌, ◌||◌, ◌==◌, nat_le, if◌then◌else◌, List, [], ◌∷◌, length, get_or, slice_set, bit_xor, All, Option, Some, None, IfSome, IfOk, is_some, option_map, Result, Ok, Err, arith, lit≤, refl, sym, subst}
use Rattle.std.specs.Int.Count.{count_leading_zeros}
use Rattle.std.proofs.Math.Nat.{pow-le-pow_right}
use Rattle.std.proofs.lemmas.Bool.{eqb-true}
use Rattle.std.proofs.lemmas.List.Elements.{All-from_recursion, All-nil, All-cons, All-head, All-tail}
use Rattle.kc_bits.specs.KnownBits.{KnownBits}
use Rattle.kc_bits.specs.Bits.{unknown, bits_single, bits_prefix, nothing_known}
use Rattle.kc_bits.proofs.Masks.{known_but-valid}
use Rattle.kc_bits.proofs.Prefix.{prefix_sound}
use Rattle.kc_bits.proofs.Whole.{known_only}
use Rattle.kc_frames.specs.Slots.{redone}
use Rattle.kc_frames.specs.declared.floor.Floor.TheVariants as floor
use Rattle.kc_frames.specs.declared.floors.Floors.{Floors}
use Rattle.kc_insn.specs.declared.insn.Insn.{Insn}
use Rattle.kc_regions.specs.Description.{Description}
use Rattle.kc_regions.specs.Lookup.{gate_of}
use Rattle.kc_regions.specs.Region.{stacks_of, stack_of, stack_at}
use Rattle.kc_regions.specs.Valid.{IsValid}
use Rattle.kc_regions.specs.declared.entry.Gate.{Gate}
use Rattle.kc_regions.specs.declared.entry.Handler.{Handler}
use Rattle.kc_regions.specs.declared.region.Region.{Region}
use Rattle.kc_regions.proofs.LayoutLemmas.{laid}
use Rattle.kc_value.specs.AbsValue.{AbsValue}
use Rattle.kc_value.specs.Made.{plain}
use Rattle.kc_value.specs.Place.{place_bit}
use Rattle.kc_value.specs.Value.{value_top}
use Rattle.kc_value.specs.declared.symbol.Sym.{Sym}
use Rattle.kc_value.specs.declared.symbol.Sym.TheVariants.{Plain, Base, Entry, UserGs}
use Rattle.kc_state.specs.AbsDelivery.{entry_of, own_register, in_region, is_relative, own_rsp, frame_words, interrupted_at, user_registers, interrupted_user, entered_slot, entered, entered_key, delivered_from, delivered_at, delivered_below, delivered, by_gate, delivery, syscall_key, user_entry, own_frame, frame_size, may_touch, may_push, stack_taken, aligned, with_floor, chosen_rsp}
use Rattle.kc_state.specs.AbsEffect.{moment_of}
use Rattle.kc_state.specs.Access.{is_stack_present}
use Rattle.kc_state.specs.AbsEvents.{HasStack, IsStackOf, handler_called_by}
use Rattle.kc_state.specs.Calls.{edited_rip, edited_flags, edited_rsp}
use Rattle.kc_state.specs.Conditions.{clear_at, is_exact, stack_region}
use Rattle.kc_state.specs.Key.{IsKey}
use Rattle.kc_state.specs.Location.{from_base, symbol_location, location_of}
use Rattle.kc_state.specs.Operand.{number_value}
use Rattle.kc_state.specs.Places.{below_address, location_stack, is_interrupted_rsp, value_stack}
use Rattle.kc_state.specs.WellFormed.{IsSymbolWellFormed, IsWellFormed, IsStateWellFormed, IsUserWellFormed}
use Rattle.kc_state.specs.declared.condition.Condition.{Condition}
use Rattle.kc_state.specs.declared.interrupted.Interrupted.{Interrupted}
use Rattle.kc_state.specs.declared.key.Key.{Key}
use Rattle.kc_state.specs.declared.location.Location.{Location}
use Rattle.kc_state.specs.declared.location.Location.TheVariants.{Number}
use Rattle.kc_state.specs.declared.scratch.Scratch.{Scratch}
use Rattle.kc_state.specs.declared.site.Site.{Site}
use Rattle.kc_state.specs.declared.state.AbsState.{AbsState}
use Rattle.kc_state.specs.declared.user.UserState.{UserState}
use Rattle.kc_state.proofs.MomentForms.{redone_all}
use Rattle.kc_state.proofs.ValueForms.{one_place, any_place, value_if, number_formed, each_read, each_set}
use Rattle.kc_absevent.specs.Ends.{Delivers}
use Rattle.kc_absevent.proofs.RegionLemmas.{value_among}

-- ---- words of the interrupted processor

-- any word but RSP
word_formed : (d : Description) (key : Key) (w : ℕ) (b : KnownBits) (places : ℕ) → w ≢ 4 → places ≢ 0
    → IsWellFormed d key (record { sym = Entry w; bits = b; stacks = places })
word_formed d key w b places other some = record { symbol = λ e. absurd (other e); somewhere = some }

entry_formed : (d : Description) (key : Key) (w : ℕ) (b : KnownBits) → w ≢ 4 → IsWellFormed d key (entry_of w b)
entry_formed d key w b other = word_formed d key w b _ other any_place

own_formed : (d : Description) (key : Key) (inside : Bool) (w : ℕ) (v : AbsValue) → w ≢ 4 → v.stacks ≢ 0
    → IsWellFormed d key (own_register inside w v)
own_formed d key true w v other some = entry_formed d key w nothing_known other
own_formed d key false w v other some = word_formed d key w v.bits v.stacks other some

-- ---- the saved RSP

full_is : (d : Description) (s n : ℕ) (b : KnownBits) (full : Bool) → (unknown b == 0) ≡ full
    → (unknown b ≡ 0 → n ≡ b.ones) → stack_of d.regions n ≡ Some s
    → IfSome (cond full (Some b.ones) None) (λ k. stack_of d.regions k ≡ Some s)
full_is d s n b true e is h = subst (λ (k : ℕ). stack_of d.regions k ≡ Some s) (is (eqb-true (unknown b) 0 e)) h
full_is d s n b false e is h = tt

-- a number that all addresses of a stack agree in lies in the stack
prefix_place : (d : Description) (s : ℕ) (r : Region) → IsValid d → stack_at d.regions s ≡ Some r
    → IfSome (bits_single (bits_prefix r.span)) (λ n. stack_of d.regions n ≡ Some s)
prefix_place d s r valid at =
    let it = (laid d valid).stacks s r at in
    let fits : r.span.to < 2 ^ 64 = omega (arith, it.ends) in
    let width : ℕ = 64 - count_leading_zeros 64 (bit_xor r.span.from (r.span.to - 1)) in
    let most : width ≤ 64 = omega arith in
    let le : 2 ^ width ≤ 2 ^ 64 = pow-le-pow_right (lit≤ tt) most in
    let from_fits : r.span.from < 2 ^ 64 = omega (arith, fits, it.filled) in
    let known = known_but-valid r.span.from (2 ^ width - 1) from_fits (omega (arith, le)) in
    full_is d s r.span.from (bits_prefix r.span) (unknown (bits_prefix r.span) == 0) refl
    (λ whole. known_only (bits_prefix r.span) r.span.from known from_fits whole
    (prefix_sound r.span it.filled fits r.span.from (omega arith, it.filled)))
    ((laid d valid).stack_bytes s r r.span.from at (omega arith, it.filled))

in_formed : (d : Description) (key : Key) (stack : Option ℕ) (o : Option Region) → IsValid d → key.stack ≡ stack
    → stack_region d stack ≡ o
    → IsWellFormed d key (in_region stack o)
in_formed d key (Some s) (Some r) valid same at = record {
  symbol = λ e. subst (λ (k : Option ℕ). IfSome (bits_single (bits_prefix r.span)) (λ n. stack_of d.regions n ≡ k))
      (sym same) (prefix_place d s r valid at);
  somewhere = one_place (place_bit (Some s));
}
in_formed d key None (Some r) valid same at = absurd cc
in_formed d key stack None valid same at = record { symbol = λ e. tt; somewhere = one_place (place_bit stack) }

own_number : (d : Description) (old : Key) (known : Option ℕ)
    → IfSome known (λ n. stack_of d.regions n ≡ location_stack d old (option_map Number known))
own_number d old (Some n) = refl
own_number d old None = tt

of_word : (d : Description) (old : Key) (v : AbsValue) (w : ℕ) (rsp : Bool) → (w == 4) ≡ rsp
    → IsSymbolWellFormed d old v (Entry w)
    → IfSome (bits_single v.bits)
    (λ n. stack_of d.regions n ≡ cond rsp old.stack (location_stack d old (option_map Number (bits_single v.bits))))
of_word d old v w true e h = h (eqb-true w 4 e)
of_word d old v w false e h = own_number d old (bits_single v.bits)

-- by symbols: of the base no bit is known, the interrupted RSP lies in the key's stack, and any other number where it is
number_place : (d : Description) (old : Key) (v : AbsValue) (s : Sym) → IsSymbolWellFormed d old v s
    → IfSome (bits_single v.bits) (λ n. stack_of d.regions n ≡ cond (is_interrupted_rsp s) old.stack
    (location_stack d old (symbol_location old s (bits_single v.bits))))
number_place d old v Plain h = own_number d old (bits_single v.bits)
number_place d old v (Base k) h =
    subst (λ (b : KnownBits). IfSome (bits_single b)
    (λ n. stack_of d.regions n ≡ location_stack d old (from_base old.base old.stack k))) (sym h) tt
number_place d old v (Entry w) h = of_word d old v w (w == 4) refl h
number_place d old v UserGs h = own_number d old (bits_single v.bits)

own_rsp_formed : (d : Description) (old key : Key) (hidden : Bool) (v : AbsValue) → IsValid d
    → key.stack ≡ value_stack d old v
    → IsWellFormed d old v
    → IsWellFormed d key (own_rsp d hidden (value_stack d old v) v)
own_rsp_formed d old key true v valid same h =
    in_formed d key (value_stack d old v) (stack_region d (value_stack d old v)) valid same refl
own_rsp_formed d old key false v valid same h = record {
  symbol = λ e. subst (λ (k : Option ℕ). IfSome (bits_single v.bits) (λ n. stack_of d.regions n ≡ k)) (sym same)
      (number_place d old v v.sym h.symbol);
  somewhere = h.somewhere;
}

-- ---- the interrupted processor

-- its words for every key with this stack, and its own place for RSP
record IsContextFormed (d : Description) (i : Interrupted) : Type 0 where
  regs : (key : Key) (rsp : AbsValue) → IsWellFormed d key rsp → All (IsWellFormed d key) (slice_set i.regs 4 rsp)
  frame : (key : Key) → key.stack ≡ i.stack → All (IsWellFormed d key) i.frame

-- the registers above RSP
above_formed : (d : Description) (key : Key) (inside : Bool) (w : ℕ) (regs : List AbsValue) → 4 < w
    → All (λ v. v.stacks ≢ 0) regs
    → All (IsWellFormed d key) (redone (own_register inside) w regs)
above_formed d key inside w [] lt h = All-nil (IsWellFormed d key)
above_formed d key inside w (v ∷ vs) lt h =
    All-cons (IsWellFormed d key) (own_register inside w v) (redone (own_register inside) (suc w) vs)
    (own_formed d key inside w v (λ e. absurd (omega (arith, lt, e))) (All-head (λ v. v.stacks ≢ 0) v vs h))
    (above_formed d key inside (suc w) vs (omega (arith, lt)) (All-tail (λ v. v.stacks ≢ 0) v vs h))

-- the registers from w on, of which the one that is `left` further is RSP
registers_formed : (d : Description) (key : Key) (inside : Bool) (w left : ℕ) (regs : List AbsValue) (rsp : AbsValue)
    → w + left ≡ 4 → All (λ v. v.stacks ≢ 0) regs → IsWellFormed d key rsp
    → All (IsWellFormed d key) (slice_set (redone (own_register inside) w regs) left rsp)
registers_formed d key inside w left [] rsp e h hr = All-nil (IsWellFormed d key)
registers_formed d key inside w zero (v ∷ vs) rsp e h hr =
    All-cons (IsWellFormed d key) rsp (redone (own_register inside) (suc w) vs) hr
    (above_formed d key inside (suc w) vs (omega (arith, e)) (All-tail (λ v. v.stacks ≢ 0) v vs h))
registers_formed d key inside w (suc left) (v ∷ vs) rsp e h hr =
    All-cons (IsWellFormed d key) (own_register inside w v)
    (slice_set (redone (own_register inside) (suc w) vs) left rsp)
    (own_formed d key inside w v (λ four. absurd (omega (arith, e, four))) (All-head (λ v. v.stacks ≢ 0) v vs h))
    (registers_formed d key inside (suc w) left vs rsp (omega (arith, e)) (All-tail (λ v. v.stacks ≢ 0) v vs h) hr)

words_formed : (d : Description) (key : Key) (ss : KnownBits) (rsp : AbsValue) (flags cs rip : KnownBits)
    → IsWellFormed d key rsp
    → All (IsWellFormed d key) (frame_words ss rsp flags cs rip)
words_formed d key ss rsp flags cs rip h = All-from_recursion (IsWellFormed d key) (frame_words ss rsp flags cs rip) (
  entry_formed d key 19 ss (λ e. absurd (omega (arith, e))),
  (
    h,
    (
      entry_formed d key 17 flags (λ e. absurd (omega (arith, e))),
      (
        entry_formed d key 18 cs (λ e. absurd (omega (arith, e))),
        (entry_formed d key 16 rip (λ e. absurd (omega (arith, e))), tt),
      ),
    ),
  ),
)

placed : (d : Description) (key : Key) (values : List AbsValue) → All (IsWellFormed d key) values
    → All (λ v. v.stacks ≢ 0) values
placed d key values h = λ k e lt. (h k e lt).somewhere

kernel_formed : (d : Description) (key : Key) (site : Site) (s : AbsState) (h : Option Handler) → IsValid d
    → IsStateWellFormed d key s
    → IsContextFormed d (interrupted_at d key site s h)
kernel_formed d key site s h valid formed = record {
  regs = λ new rsp hr. registers_formed d new site.inside 0 4 s.regs rsp refl (placed d key s.regs formed.regs) hr;
  frame = λ new same.
      let v : AbsValue = get_or s.regs 4 value_top in
      words_formed d new _ _ _ _ _ (own_rsp_formed d key new (site.inside || is_relative (location_of key v)) v valid same
      (each_read d key s.regs 4 formed.regs));
}

-- the user's RSP: none of its bits is known
user_rsp_formed : (d : Description) (key : Key) → IsWellFormed d key edited_rsp
user_rsp_formed d key = record { symbol = λ e. tt; somewhere = one_place 16 }

user_registers_formed : (d : Description) (key : Key) → All (IsWellFormed d key) user_registers
user_registers_formed d key =
    let word = λ (w : ℕ) (other : w ≢ 4). entry_formed d key w nothing_known other in
    All-from_recursion (IsWellFormed d key) user_registers (
      word 0 (λ e. absurd (omega (arith, e))),
      (
        word 1 (λ e. absurd (omega (arith, e))),
        (
          word 2 (λ e. absurd (omega (arith, e))),
          (
            word 3 (λ e. absurd (omega (arith, e))),
            (
              user_rsp_formed d key,
              (
                word 5 (λ e. absurd (omega (arith, e))),
                (
                  word 6 (λ e. absurd (omega (arith, e))),
                  (
                    word 7 (λ e. absurd (omega (arith, e))),
                    (
                      word 8 (λ e. absurd (omega (arith, e))),
                      (
                        word 9 (λ e. absurd (omega (arith, e))),
                        (
                          word 10 (λ e. absurd (omega (arith, e))),
                          (
                            word 11 (λ e. absurd (omega (arith, e))),
                            (
                              word 12 (λ e. absurd (omega (arith, e))),
                              (
                                word 13 (λ e. absurd (omega (arith, e))),
                                (
                                  word 14 (λ e. absurd (omega (arith, e))),
                                  (
                                    word 15 (λ e. absurd (omega (arith, e))),
                                    tt,
                                  ),
                                ),
                              ),
                            ),
                          ),
                        ),
                      ),
                    ),
                  ),
                ),
              ),
            ),
          ),
        ),
      ),
    )

user_formed : (d : Description) (u : UserState) → IsContextFormed d (interrupted_user d u)
user_formed d u = record {
  regs = λ key rsp hr. each_set d key user_registers 4 rsp hr (user_registers_formed d key);
  frame = λ key same. words_formed d key _ _ _ _ _ (user_rsp_formed d key);
}

-- ---- the entry

slots_formed : (d : Description) (key : Key) (frame slots : List AbsValue) → All (IsWellFormed d key) frame
    → All (λ v. v.stacks ≢ 0) slots
    → All (IsWellFormed d key) (redone (entered_slot frame) 0 slots)
slots_formed d key frame slots hf hs =
    redone_all (λ v. v.stacks ≢ 0) (IsWellFormed d key) (entered_slot frame) 0 slots
    (λ j v some. value_if d key (not (nat_le 40 j)) (plain v) (get_or frame (j - 40) value_top)
    (record { symbol = tt; somewhere = some }) (each_read d key frame (j - 40) hf)) hs

entered_formed : (d : Description) (key : Key) (i : Interrupted) (slots : List AbsValue) (g : Gate) (rsp : AbsValue)
    (floors : Floors) → IsContextFormed d i → key.stack ≡ i.stack → All (λ v. v.stacks ≢ 0) slots
    → IsWellFormed d key rsp
    → IsStateWellFormed d key (entered i slots g rsp floors)
entered_formed d key i slots g rsp floors h same hs hr = record {
  regs = h.regs key rsp hr;
  flags = record { symbol = tt; somewhere = any_place };
  slots = slots_formed d key i.frame slots (h.frame key same) hs;
}

-- ---- the key

record IsContextKeyed (d : Description) (i : Interrupted) : Type 0 where
  stack : IsStackOf d i.stack
  user : i.kernel ≡ false → i.stack ≡ None

key_formed : (d : Description) (i : Interrupted) (v : ℕ) (base : Option ℕ) → IsContextKeyed d i
    → IsKey (length (stacks_of d.regions)) (entered_key i v base)
key_formed d i v base h = record { syscall = λ e. absurd cc; user = h.user; stack = h.stack }

-- ---- deliveries: the key keeps its rules, and the state is well-formed where the premise F holds

abbrev IsEntry : Description → Type 0 → (Key × AbsState) → Type 0
IsEntry d F e = IsKey (length (stacks_of d.regions)) e.0 × (F → IsStateWellFormed d e.0 e.1)

some_if : {X : Type 0} (P : X → Type 0) (b : Bool) (o : Option X) → IfSome o P → IfSome (if b then o else None) P
some_if P true o h = h
some_if P false o h = tt

either_if : {X : Type 0} (P : X → Type 0) (b : Bool) (x y : Option X) → IfSome x P → IfSome y P
    → IfSome (if b then x else y) P
either_if P true x y hx hy = hx
either_if P false x y hx hy = hy

module _ (d : Description) (F : Type 0) (i : Interrupted) (slots : List AbsValue) (g : Gate) (keyed : IsContextKeyed d i)
    (formed : F → IsContextFormed d i) (some : F → All (λ v. v.stacks ≢ 0) slots)
  where
    one_entry : (base : Option ℕ) (rsp : AbsValue) (floors : Floors)
        → ((key : Key) → IsWellFormed d key rsp)
        → IsEntry d F (entered_key i g.vector base, entered i slots g rsp floors)
    one_entry base rsp floors hr = (
      key_formed d i g.vector base keyed,
      λ f. entered_formed d (entered_key i g.vector base) i slots g rsp floors (formed f) refl (some f) (hr _),
    )

    from_entry : (base : ℕ) → IfSome (delivered_from d i slots g base) (IsEntry d F)
    from_entry base =
        let n : ℕ = frame_size g.vector in
        let rsp : ℕ = below_address base n in
        some_if (IsEntry d F)
        (may_touch d i.map g.vector (stack_taken g.ist i.kernel) && may_push d i.map i.floors base n)
        (Some (entered_key i g.vector (Some base), entered i slots g (number_value d rsp) i.floors))
        (one_entry (Some base) (number_value d rsp) i.floors (λ key. number_formed d key rsp))

    at_entry : (chosen : Option ℕ) → IfSome (delivered_at d i slots g chosen) (IsEntry d F)
    at_entry (Some n) = from_entry (aligned n)
    at_entry None = tt

    below_entry : (clear : Bool) → IfSome (delivered_below d i slots g clear) (IsEntry d F)
    below_entry clear =
        let rsp : AbsValue = own_frame i.stack (frame_size g.vector) in
        let floors : Floors = with_floor i.floors i.stack floor.Base in
        some_if (IsEntry d F) (may_touch d i.map g.vector None && (clear && is_stack_present d i.stack i.map))
        (Some (entered_key i g.vector None, entered i slots g rsp floors))
        (one_entry None rsp floors (λ key. record { symbol = refl; somewhere = one_place (place_bit i.stack) }))

gate_entry : (d : Description) (F : Type 0) (f : Gate → Option (Key × AbsState)) (g : Option Gate)
    → ((g : Gate) → IfSome (f g) (IsEntry d F))
    → IfSome (by_gate f g) (IsEntry d F)
gate_entry d F f (Some g) h = h g
gate_entry d F f None h = tt

pub delivery_entry : (d : Description) (key : Key) (site : Site) (s : AbsState) (insn : Insn) (v : ℕ) → IsValid d
    → HasStack d key
    → IfSome (delivery d key site s insn v) (IsEntry d (IsStateWellFormed d key s))
delivery_entry d key site s insn v valid stack =
    let F : Type 0 = IsStateWellFormed d key s in
    let h : Option Handler = handler_called_by d insn in
    let i : Interrupted = interrupted_at d key site s h in
    let rsp : AbsValue = get_or s.regs 4 value_top in
    let keyed : IsContextKeyed d i = record { stack = value_among d key rsp stack; user = λ e. absurd cc } in
    let formed : F → IsContextFormed d i = λ f. kernel_formed d key site s h valid f in
    let some : F → All (λ v. v.stacks ≢ 0) s.slots = λ f. placed d key s.slots f.slots in
    let at : Option Location = location_of key rsp in
    let clear : Bool = clear_at (moment_of d key s 0) s.floors at 0 in
    some_if (IsEntry d F) (is_exact (moment_of d key s 0) site.inside && (not site.inside || is_some h))
    (by_gate (delivered d key site s h) (gate_of d.gates v))
    (gate_entry d F (delivered d key site s h) (gate_of d.gates v) (λ g.
    let chosen : Option ℕ = chosen_rsp s.slots at (stack_taken g.ist true) in
    either_if (IsEntry d F) ((g.ist == 0) && (site.inside || is_relative at))
    (delivered_below d i s.slots g clear) (delivered_at d i s.slots g chosen)
    (below_entry d F i s.slots g keyed formed some clear)
    (at_entry d F i s.slots g keyed formed some chosen)))

user_keyed : (d : Description) (u : UserState) → IsContextKeyed d (interrupted_user d u)
user_keyed d u = record { stack = tt; user = λ e. refl }

pub user_entry_is : (d : Description) (u : UserState) (entry : Option ℕ)
    → IfSome (user_entry d u entry) (IsEntry d (IsUserWellFormed u))
user_entry_is d u (Some v) =
    gate_entry d (IsUserWellFormed u) _ (gate_of d.gates v) (λ g.
    at_entry d (IsUserWellFormed u) (interrupted_user d u) u.slots g (user_keyed d u) (λ f. user_formed d u) (λ f. f)
    _)
user_entry_is d u None = (
  record { syscall = λ e. (refl, refl, refl); user = λ e. refl; stack = tt },
  λ f.
      let key : Key = syscall_key d u in
      record {
        regs = each_set d key (slice_set user_registers 1 edited_rip) 11 edited_flags
            (word_formed d key 17 _ _ (λ e. absurd (omega (arith, e))) any_place)
            (each_set d key user_registers 1 edited_rip (word_formed d key 16 _ _ (λ e. absurd (omega (arith, e))) any_place)
            (user_registers_formed d key));
        flags = record { symbol = tt; somewhere = any_place };
        slots = slots_formed d key [] u.slots (All-nil (IsWellFormed d key)) f;
      },
)

-- ---- answers

pub ends_keyed : (d : Description) (F : Type 0) (result : Result Key Condition) (old new : Scratch)
    (due : Option (Key × AbsState)) → Delivers result old new due → IfSome due (IsEntry d F)
    → IfOk result (IsKey (length (stacks_of d.regions)))
ends_keyed d F (Ok key) old new due h e = (subst (λ (o : Option (Key × AbsState)). IfSome o (IsEntry d F)) h.0 e).0
ends_keyed d F (Err c) old new due h e = tt

pub ends_formed : (d : Description) (F : Type 0) (result : Result Key Condition) (old new : Scratch)
    (due : Option (Key × AbsState)) → Delivers result old new due → IfSome due (IsEntry d F) → F
    → IfOk result (λ key. IsStateWellFormed d key new.out)
ends_formed d F (Ok key) old new due h e f =
    (subst (λ (o : Option (Key × AbsState)). IfSome o (IsEntry d F)) h.0 e).1 f
ends_formed d F (Err c) old new due h e f = tt
