-- What C10 says of the handler's stack. The handler stands in the list, and its entry is a word; the base and the CR3
-- are the kernel's; the pushed return address lies in a stack with the handler's room; and below it no byte of that
-- stack is live, since 0 bytes are clear there.
use Rattle.std.proofs.Common.{◌≡◌, ℕ, ◌+◌, ◌^◌, ◌<◌, ◌≤◌, ◌&&◌, not, true, is_some, nat_le, List, [], ◌∷◌, All, Option, Some, None, slice_get, get_or, inl, inr, refl, sym, ap, ◌∙◌, subst, arith}
use Rattle.std.specs.Prelude.{nat_eq}
use Rattle.std.proofs.lemmas.Bool.{false≢true, and_parts, eqb-true, leb-true}
use Rattle.std.proofs.lemmas.List.Elements.{All-get_or}
use Rattle.std.proofs.lemmas.List.Quantifiers.{position-Some}
use Rattle.std.proofs.lemmas.Option.{slice_get_cases}
use Rattle.kc_regions.specs.Description.{Description}
use Rattle.kc_regions.specs.Lookup.{handler_of}
use Rattle.kc_regions.specs.Ranges.{IsHandlerInRange}
use Rattle.kc_regions.specs.Region.{stack_of, stack_at}
use Rattle.kc_regions.specs.Valid.{IsValid}
use Rattle.kc_regions.specs.declared.entry.Handler.{Handler}
use Rattle.kc_regions.specs.declared.region.Region.{Region}
use Rattle.kc_space.specs.Spaces.{is_same_map, MapStands}
use Rattle.kc_space.specs.declared.env.SpaceEnv.{SpaceEnv}
use Rattle.kc_space.specs.declared.map.MapState.{MapState}
use Rattle.kc_space.specs.declared.map.MapState.TheVariants as map
use Rattle.kc_frames.specs.declared.floors.Floors.{Floors}
use Rattle.kc_exec.specs.Live.{IsLive}
use Rattle.kc_exec.specs.declared.state.Activation.{Activation}
use Rattle.kc_state.specs.Access.{clear}
use Rattle.kc_state.specs.Calls.{frame_of}
use Rattle.kc_state.specs.Conditions.{holds_frame, has_room_in, stack_region, has_room}
use Rattle.kc_state.specs.Operand.{AbsMoment}
use Rattle.kc_state.specs.declared.key.Key.{Key}
use Rattle.kc_state.specs.declared.location.Location.{Location}
use Rattle.kc_state.specs.declared.location.Location.TheVariants.{Number, Relative}
use Rattle.kc_describes.specs.Fits.{IsBaseOf}
use Rattle.kc_describes.specs.Places.{address_of, FloorsStand}
use Rattle.kc_describes.proofs.LiveLemmas.{clear_of_none}
use Rattle.kc_describes.proofs.LocationLemmas.{IsAt, in_stack}

-- ---- the handler

-- a handler that is called is one of the list
pub handler_at : (handlers : List Handler) (a h : ℕ) → handler_of handlers a ≡ Some h
    → (x : Handler) × (slice_get handlers h ≡ Some x)
handler_at [] a h e = absurd cc
handler_at (x ∷ xs) a h e = elim (slice_get_cases (x ∷ xs) h).1 [
  | inl is ↦ (is.0, is.2)
  | inr past ↦
      let inside = (position-Some (λ y. nat_eq y.entry a) (x ∷ xs) h x e).0 in absurd (omega (arith, past.0, inside))
]

-- its entry is a word
pub entry_fits : (handlers : List Handler) (a h : ℕ) → All IsHandlerInRange handlers → handler_of handlers a ≡ Some h
    → a < 2 ^ 64
entry_fits [] a h all e = absurd cc
entry_fits (x ∷ xs) a h all e =
    let at = position-Some (λ y. nat_eq y.entry a) (x ∷ xs) h x e in
    let same = eqb-true (get_or (x ∷ xs) h x).entry a at.1 in
    let fits = (All-get_or IsHandlerInRange (x ∷ xs) h x at.0 all).entry in
    omega (arith, same, fits)

pub kernel_map : (m : MapState) (env : SpaceEnv) (n : ℕ) → is_same_map m map.Kernel ≡ true → MapStands m env n
    → n ≡ env.kernel
kernel_map map.Kernel env n e h = h
kernel_map map.User env n e h = absurd (false≢true e)
kernel_map map.Any env n e h = absurd (false≢true e)

-- ---- its stack

-- the stack, with the handler's room below the address
record HasRoomBelow (cfg : Description) (a depth : ℕ) (o : Option ℕ) : Type 0 where
  stack : ℕ
  holds : o ≡ Some stack
  region : Region
  numbered : stack_at cfg.regions stack ≡ Some region
  room : region.span.from + depth ≤ a + 4096

room_of : (cfg : Description) (a : ℕ) (h : Handler) (frame : Option ℕ) (s : ℕ) (o : Option Region)
    → stack_at cfg.regions s ≡ o → has_room_in a h frame o ≡ true → HasRoomBelow cfg a h.stack (Some s)
room_of cfg a h frame s (Some r) e well =
    let p = and_parts (nat_le (r.span.from + h.stack) (a + 4096)) (holds_frame r a frame) well in
    record {
      stack = s;
      holds = refl;
      region = r;
      numbered = e;
      room = leb-true (r.span.from + h.stack) (a + 4096) p.0;
    }
room_of cfg a h frame s None e well = absurd (false≢true well)

room_in : (cfg : Description) (a : ℕ) (h : Handler) (frame o : Option ℕ)
    → has_room_in a h frame (stack_region cfg o) ≡ true → HasRoomBelow cfg a h.stack o
room_in cfg a h frame (Some s) well = room_of cfg a h frame s (stack_at cfg.regions s) refl well
room_in cfg a h frame None well = absurd (false≢true well)

some_of : (o : Option ℕ) → is_some o ≡ true → (s : ℕ) × (o ≡ Some s)
some_of (Some s) e = (s, refl)
some_of None e = absurd (false≢true e)

-- the return address lies in a stack with room for the handler, and there no live byte lies below it
pub record IsRoomAt (cfg : Description) (chain : List Activation) (at depth : ℕ) : Type 0 where
  pub stack : ℕ
  pub region : Region
  pub numbered : stack_at cfg.regions stack ≡ Some region
  pub holds : stack_of cfg.regions at ≡ Some stack
  pub room : region.span.from + depth ≤ at + 4096
  pub live : (x : ℕ) → IsLive cfg chain x → stack_of cfg.regions x ≡ Some stack → at ≤ x

-- at an offset the address lies in the key's stack
abbrev pub LiesInKeyStack : Description → Key → Location → ℕ → Type 0
LiesInKeyStack cfg key (Number a) at = Unit {0}
LiesInKeyStack cfg key (Relative k) at = stack_of cfg.regions at ≡ key.stack

module _ (cfg : Description) (valid : IsValid cfg) (key : Key) (floors : Floors) (base : ℕ) (chain : List Activation)
    (based : IsBaseOf cfg key.base key.syscall key.stack base) (stand : FloorsStand cfg floors base chain)
    (m : AbsMoment) (of_cfg : m.d ≡ cfg) (of_key : m.key ≡ key) where
  pub room_at : (h : Handler) (l : Location) (at : ℕ) → IsAt cfg key base at l → LiesInKeyStack cfg key l at
      → clear cfg key floors l 0 ≡ true → has_room m h l ≡ true → IsRoomAt cfg chain at h.stack
  room_at h (Number a) at placed lies free well =
      let there : has_room_in a h (frame_of m.key h) (stack_region cfg (stack_of cfg.regions a)) ≡ true =
      subst (λ d. has_room_in a h (frame_of m.key h) (stack_region d (stack_of d.regions a)) ≡ true) of_cfg well in
      let r = room_in cfg a h (frame_of m.key h) (stack_of cfg.regions a) there in
      record {
        stack = r.stack;
        region = r.region;
        numbered = r.numbered;
        holds = ap (stack_of cfg.regions) (sym placed.1) ∙ r.holds;
        room = omega (arith, r.room, placed.1);
        live = λ x live here.
            let up = clear_of_none cfg valid key floors base chain based stand (Number a) r.stack x placed.0 r.holds
            free live here in
            omega (arith, up, placed.1);
      }
  room_at h (Relative k) at placed lies free well =
      let there : (is_some key.stack && (nat_le h.stack 4096 && not (is_some (frame_of key h)))) ≡ true =
      subst (λ z. (is_some z.stack && (nat_le h.stack 4096 && not (is_some (frame_of z h)))) ≡ true) of_key well in
      let p = and_parts (is_some key.stack) (nat_le h.stack 4096 && not (is_some (frame_of key h))) there in
      let q = and_parts (nat_le h.stack 4096) (not (is_some (frame_of key h))) p.1 in
      let few = leb-true h.stack 4096 q.0 in
      let s = some_of key.stack p.0 in
      let in_it = in_stack cfg s.0 at valid (lies ∙ s.1) in
      record {
        stack = s.0;
        region = in_it.region;
        numbered = in_it.numbered;
        holds = lies ∙ s.1;
        room = omega (arith, few, in_it.held.0);
        live = λ x live here.
            let up = clear_of_none cfg valid key floors base chain based stand (Relative k) s.0 x placed.0 s.1
            free live here in
            let same : (address_of base (Relative k)) ≡ at = placed.1 in
            omega (arith, up, same);
      }
