-- Floors, states and the user's state are read exactly: from their fields, in their order.
use Rattle.std.proofs.Common.{◌≡◌, ℕ, zero, suc, ◌+◌, ◌-◌, ◌^◌, ◌≤◌, ◌<◌, inl, inr, true, List, [], ◌∷◌, ◌++◌, length, take, drop, replicate, Result, Ok, Err, refl, sym, ap, ◌∙◌, subst, arith}
use Rattle.std.specs.Prelude.{if◌then◌else◌, ◌==◌, All}
use Rattle.std.specs.List.{flat_map}
use Rattle.std.proofs.lemmas.Grind.{common_steps}
use Rattle.std.proofs.lemmas.List.{length-append, take-append-drop}
use Rattle.std.proofs.lemmas.List.Elements.{All-nil, All-cons, All-head, All-tail, All-append, All-take}
use Rattle.std.proofs.Math.Seq.{take-append_seam, drop-append_seam}
use Rattle.kc_rules.specs.Rules.{◌>>=◌}
use Rattle.kc_rules.proofs.AnswerLemmas.{bind_ok, done}
use Rattle.kc_space.specs.Latches.{tri_number}
use Rattle.kc_space.specs.Spaces.{gs_number, map_number}
use Rattle.kc_value.specs.AbsValue.{AbsValue}
use Rattle.kc_value.specs.Value.{IsValidValue, value_top}
use Rattle.kc_frames.specs.Floors.{IsFloor, AreFloors, none_live}
use Rattle.kc_frames.specs.Slots.{slot_count}
use Rattle.kc_frames.specs.declared.floor.Floor.{Floor}
use Rattle.kc_frames.specs.declared.floor.Floor.TheVariants.{At, Base}
use Rattle.kc_frames.specs.declared.floors.Floors.{Floors}
use Rattle.kc_state.specs.State.{IsState}
use Rattle.kc_state.specs.declared.state.AbsState.{AbsState}
use Rattle.kc_state.specs.declared.user.UserState.{UserState}
use Rattle.kc_certfields.specs.declared.fault.CertFault.{CertFault}
use Rattle.kc_certfields.specs.declared.fault.CertKind.TheVariants.{Range}
use Rattle.kc_certfields.specs.Fault.{fault}
use Rattle.kc_certfields.specs.Rest.{Rest}
use Rattle.kc_certfields.specs.Reads.{times}
use Rattle.kc_certfields.specs.Floors.{address_at, floor_after, floor_at, next_floor, floors_at}
use Rattle.kc_certfields.specs.Values.{value_at, values_at}
use Rattle.kc_certfields.specs.States.{state_at, user_slots, user_at}
use Rattle.kc_certfields.specs.Spelling.{u8_bytes, u64_bytes, floor_bytes, value_bytes, latches_bytes, slots_bytes, state_bytes, user_bytes}
use Rattle.kc_certexact.specs.Exact.{AreBytes, Taken, Given, Exact}
use Rattle.kc_certexact.proofs.ExactLemmas.{step, joined, split, ended, is-number, chosen}
use Rattle.kc_certexact.proofs.NumbersExact.{exact-u8, exact-u64}
use Rattle.kc_certexact.proofs.SpacesExact.{exact-tri, exact-map, exact-gs, exact-latches}
use Rattle.kc_certexact.proofs.ValuesExact.{exact-value}
use Rattle.kc_certexact.proofs.TimesExact.{listed-takes, listed-gives}
use Rattle.kc_certexact.proofs.SlotsExact.{AreKnown, exact-slots}

-- ---- floors

abbrev Read : Type 0
Read = Result (Floor × Rest) CertFault

floor-takes : (i j : Rest) (x : Floor) → AreBytes i.bytes → floor_at i ≡ Ok (x, j) → Taken floor_bytes IsFloor i j x
unfolding floor_at address_at
floor-takes i j x are h =
    let t = step i (λ tag. floor_after i.at tag.0 tag.1) (x, j) exact-u8 are h in
    let k = t.rest in
    let tagged : (n : ℕ) → (t.value == n) ≡ true → i.bytes ≡ n ∷ k.bytes =
    λ n e. t.spelled ∙ ap (λ (m : ℕ). m ∷ k.bytes) (is-number t.value n e) in
    elim (chosen {A = Read} (t.value == 0) (address_at k)
    (if t.value == 1 then Ok (Base, k) else Err (fault Range i.at)) (Ok (x, j)) t.more) [
      | inl a ↦
          let n = step k _ (x, j) exact-u64 t.bytes a.1 in
          ended floor_bytes IsFloor i n.rest j (At n.value) x n.more n.fits
          (tagged 0 a.0 ∙ ap (λ (l : List ℕ). 0 ∷ l) n.spelled)
      | inr a ↦ elim (chosen {A = Read} (t.value == 1) (Ok (Base, k)) (Err (fault Range i.at)) (Ok (x, j)) a.1) [
        | inl b ↦ ended floor_bytes IsFloor i k j Base x b.1 tt (tagged 1 b.0)
        | inr b ↦ absurd (let e = b.1 in cc)
      ]
    ]

floor-gives : (i : Rest) (x : Floor) (more : List ℕ) → IsFloor x → i.bytes ≡ floor_bytes x ++ more
    → Given floor_at i x more
unfolding floor_at address_at
floor-gives i (At a) more fits e =
    let t = exact-u8.gives i 0 (u64_bytes a ++ more) (omega arith) e in
    let n = exact-u64.gives t.after a more fits t.left in
    record { after = n.after; is = rw (t.is, n.is) refl; left = n.left }
floor-gives i Base more fits e =
    let t = exact-u8.gives i 1 more (omega arith) e in
    record { after = t.after; is = rw t.is refl; left = t.left }

exact-floor : Exact floor_at floor_bytes IsFloor
exact-floor = record { takes = floor-takes; gives = floor-gives }

-- floors of so many stacks: of the others no byte is live
pub record AreOf (stacks : ℕ) (f : Floors) : Type 0 where
  pub floors : AreFloors f
  pub others : All (λ x. x ≡ At none_live) (drop stacks f.at)

abbrev none : ℕ → List Floor
none n = replicate n (At none_live)

none-all : (P : Floor → Type 0) → P (At none_live) → (n : ℕ) → All P (none n)
none-all P here zero = All-nil P
none-all P here (suc n) = All-cons P (At none_live) (none n) here (none-all P here n)

-- floors of which no byte is live are so many of them
are-none : (fs : List Floor) → All (λ f. f ≡ At none_live) fs → fs ≡ none (length fs)
are-none [] all = refl
are-none (f ∷ fs) all =
    let here : f ≡ At none_live = All-head (λ (x : Floor). x ≡ At none_live) f fs all in
    let rest = are-none fs (All-tail (λ (x : Floor). x ≡ At none_live) f fs all) in
    λ k. here k ∷ rest k

live : none_live < 2 ^ 64
live = omega arith

abbrev floors_bytes : ℕ → Floors → List ℕ
floors_bytes stacks f = flat_map floor_bytes (take stacks f.at)

exact-floors : (stacks : ℕ) → stacks ≤ 16 → Exact (floors_at stacks) (floors_bytes stacks) (AreOf stacks)
unfolding floors_at
exact-floors stacks most = record {
  takes = λ i j x are h.
      let b = bind_ok (times next_floor stacks [] i)
      (λ fs. Ok (record { at = fs.0 ++ none (16 - stacks) }, fs.1)) (x, j) h in
      let l = listed-takes floor_at floor_bytes IsFloor exact-floor stacks i b.0.1 b.0.0 are b.1 in
      let fs : List Floor = b.0.0 in
      let all : List Floor = fs ++ none (16 - stacks) in
      let front : take stacks all ≡ fs =
      ap (λ (n : ℕ). take n all) (sym l.count) ∙ take-append_seam fs (none (16 - stacks)) in
      let back : drop stacks all ≡ none (16 - stacks) =
      ap (λ (n : ℕ). drop n all) (sym l.count) ∙ drop-append_seam fs (none (16 - stacks)) in
      let count = l.count in
      let long : length (none (16 - stacks)) ≡ 16 - stacks = grind (arith, common_steps) in
      ended (floors_bytes stacks) (AreOf stacks) i b.0.1 j (record { at = all }) x b.2
      (record {
        floors = record {
          each = All-append IsFloor fs (none (16 - stacks)) l.fits (none-all IsFloor live (16 - stacks));
          count = length-append fs (none (16 - stacks)) ∙
              (let e : length fs + length (none (16 - stacks)) ≡ 16 = omega (arith, count, long) in e);
        };
        others = subst (λ (m : List Floor). All (λ f. f ≡ At none_live) m) (sym back)
            (none-all (λ f. f ≡ At none_live) refl (16 - stacks));
      })
      (l.spelled ∙ ap (λ (m : List Floor). flat_map floor_bytes m ++ b.0.1.bytes) (sym front));
  gives = λ i x more fits e.
      let fs : List Floor = take stacks x.at in
      let others : List Floor = drop stacks x.at in
      let all = fits.floors.count in
      let front : length fs ≡ stacks = grind (arith, common_steps, all) in
      let back : length others ≡ 16 - stacks = grind (arith, common_steps, all) in
      let rest : others ≡ none (16 - stacks) = are-none others fits.others ∙ ap none back in
      let whole : fs ++ none (16 - stacks) ≡ x.at =
      ap (λ (l : List Floor). fs ++ l) (sym rest) ∙ take-append-drop stacks x.at in
      let g = listed-gives floor_at floor_bytes IsFloor exact-floor fs i more
      (All-take IsFloor stacks x.at fits.floors.each) e in
      let after : Result (List Floor × Rest) CertFault → Result (Floors × Rest) CertFault =
      λ r. r >>= λ l. Ok (record { at = l.0 ++ none (16 - stacks) }, l.1) in
      record {
        after = g.after;
        is = ap (λ (n : ℕ). after (times next_floor n [] i)) (sym front) ∙ ap after g.is
            ∙ ap (λ (l : List Floor). done (record { at = l }, g.after)) whole;
        left = g.left;
      };
}

-- ---- states

-- 16 valid values
pub record AreRegisters (vs : List AbsValue) : Type 0 where
  pub valid : All IsValidValue vs
  pub count : length vs ≡ 16

abbrev values_bytes : List AbsValue → List ℕ
values_bytes vs = flat_map value_bytes vs

exact-registers : Exact (values_at 16) values_bytes AreRegisters
exact-registers = record {
  takes = λ i j x are h.
      let l = listed-takes value_at value_bytes IsValidValue exact-value 16 i j x are h in
      record { fits = record { valid = l.fits; count = l.count }; spelled = l.spelled };
  gives = λ i x more fits e.
      let g = listed-gives value_at value_bytes IsValidValue exact-value x i more fits.valid e in
      record {
        after = g.after;
        is = ap (λ (n : ℕ). values_at n i) (sym fits.count) ∙ g.is;
        left = g.left;
      };
}

-- a state that tells nothing of stacks from this number on
pub record IsStateOf (stacks : ℕ) (s : AbsState) : Type 0 where
  pub state : IsState s
  pub others : All (λ f. f ≡ At none_live) (drop stacks s.floors.at)

known-all : (limit : ℕ) (slots : List AbsValue) → length slots ≤ limit → All (λ v. v ≡ value_top) (drop limit slots)
known-all limit slots all =
    let none : drop limit slots ≡ [] = grind (arith, common_steps, all) in
    subst (λ (l : List AbsValue). All (λ v. v ≡ value_top) l) (sym none) (All-nil (λ (v : AbsValue). v ≡ value_top))

pub exact-state : (stacks : ℕ) → stacks ≤ 16 → Exact (state_at stacks) (state_bytes stacks) (IsStateOf stacks)
unfolding state_at
exact-state stacks most = record {
  takes = λ i j x are h.
      let r = step i _ (x, j) exact-registers are h in
      let f = step r.rest _ (x, j) exact-value r.bytes r.more in
      let g = step f.rest _ (x, j) exact-gs f.bytes f.more in
      let m = step g.rest _ (x, j) exact-map g.bytes g.more in
      let l = step m.rest _ (x, j) exact-latches m.bytes m.more in
      let o = step l.rest _ (x, j) (exact-floors stacks most) l.bytes l.more in
      let k = step o.rest _ (x, j) (exact-slots slot_count (omega arith)) o.bytes o.more in
      let s : AbsState = record {
        regs = r.value;
        flags = f.value;
        gs = g.value;
        map = m.value;
        latches = l.value;
        floors = o.value;
        slots = k.value;
      } in
      let e6 = slots_bytes k.value in
      let e5 = floors_bytes stacks o.value ++ e6 in
      let e4 = latches_bytes l.value ++ e5 in
      let e3 = u8_bytes (map_number m.value) ++ e4 in
      let e2 = u8_bytes (gs_number g.value) ++ e3 in
      let e1 = value_bytes f.value ++ e2 in
      let last = k.rest.bytes in
      ended (state_bytes stacks) (IsStateOf stacks) i k.rest j s x k.more
      (record {
        state = record {
          regs = r.fits.valid;
          reg_count = r.fits.count;
          flags = f.fits;
          floors = o.fits.floors;
          slots = k.fits.valid;
        };
        others = o.fits.others;
      })
      (joined i.bytes (values_bytes r.value) e1 r.rest.bytes last r.spelled
      (joined r.rest.bytes (value_bytes f.value) e2 f.rest.bytes last f.spelled
      (joined f.rest.bytes (u8_bytes (gs_number g.value)) e3 g.rest.bytes last g.spelled
      (joined g.rest.bytes (u8_bytes (map_number m.value)) e4 m.rest.bytes last m.spelled
      (joined m.rest.bytes (latches_bytes l.value) e5 l.rest.bytes last l.spelled
      (joined l.rest.bytes (floors_bytes stacks o.value) e6 o.rest.bytes last o.spelled k.spelled))))));
  gives = λ i x more fits e.
      let e6 = slots_bytes x.slots in
      let e5 = floors_bytes stacks x.floors ++ e6 in
      let e4 = latches_bytes x.latches ++ e5 in
      let e3 = u8_bytes (map_number x.map) ++ e4 in
      let e2 = u8_bytes (gs_number x.gs) ++ e3 in
      let e1 = value_bytes x.flags ++ e2 in
      let long = fits.state.slots.1 in
      let r = exact-registers.gives i x.regs (e1 ++ more)
      (record { valid = fits.state.regs; count = fits.state.reg_count })
      (split i.bytes (values_bytes x.regs) e1 more e) in
      let f = exact-value.gives r.after x.flags (e2 ++ more) fits.state.flags
      (split r.after.bytes (value_bytes x.flags) e2 more r.left) in
      let g = exact-gs.gives f.after x.gs (e3 ++ more) tt
      (split f.after.bytes (u8_bytes (gs_number x.gs)) e3 more f.left) in
      let m = exact-map.gives g.after x.map (e4 ++ more) tt
      (split g.after.bytes (u8_bytes (map_number x.map)) e4 more g.left) in
      let l = exact-latches.gives m.after x.latches (e5 ++ more) tt
      (split m.after.bytes (latches_bytes x.latches) e5 more m.left) in
      let o = (exact-floors stacks most).gives l.after x.floors (e6 ++ more)
      (record { floors = fits.state.floors; others = fits.others })
      (split l.after.bytes (floors_bytes stacks x.floors) e6 more l.left) in
      let k = (exact-slots slot_count (omega arith)).gives o.after x.slots more
      (record { valid = fits.state.slots; beyond = known-all slot_count x.slots (omega (arith, long)) }) o.left in
      record { after = k.after; is = rw (r.is, f.is, g.is, m.is, l.is, o.is, k.is) refl; left = k.left };
}

-- ---- the user's state

-- only the words of the TSS and of the configuration may be known
pub record IsUser (u : UserState) : Type 0 where
  pub known : AreKnown user_slots u.slots

pub exact-user : Exact user_at user_bytes IsUser
unfolding user_at
exact-user = record {
  takes = λ i j x are h.
      let n = step i _ (x, j) exact-tri are h in
      let m = step n.rest _ (x, j) exact-tri n.bytes n.more in
      let k = step m.rest _ (x, j) (exact-slots user_slots (omega arith)) m.bytes m.more in
      ended user_bytes IsUser i k.rest j (record { nmi_blocked = n.value; mcip = m.value; slots = k.value }) x k.more
      (record { known = k.fits })
      (n.spelled ∙ ap (λ (l : List ℕ). tri_number n.value ∷ l) (m.spelled
      ∙ ap (λ (l : List ℕ). tri_number m.value ∷ l) k.spelled));
  gives = λ i x more fits e.
      let n = exact-tri.gives i x.nmi_blocked (tri_number x.mcip ∷ slots_bytes x.slots ++ more) tt e in
      let m = exact-tri.gives n.after x.mcip (slots_bytes x.slots ++ more) tt n.left in
      let k = (exact-slots user_slots (omega arith)).gives m.after x.slots more fits.known m.left in
      record { after = k.after; is = rw (n.is, m.is, k.is) refl; left = k.left };
}
