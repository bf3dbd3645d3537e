-- A state's numbers give it back: so two states of the same numbers are the same. Each part has its numbers side by side,
-- as many in one state as in the other, so equal lists have equal parts; a value, a floor and a space are made again from
-- their numbers.
use Rattle.std.proofs.Common.{◌≡◌, ℕ, zero, suc, true, List, [], ◌∷◌, ◌++◌, length, take, drop, refl, sym, ap, ◌∙◌, arith}
use Rattle.std.specs.Prelude.{if◌then◌else◌, ◌==◌, All}
use Rattle.std.specs.List.{flat_map}
use Rattle.std.specs.Int.{w64, cast_signed}
use Rattle.std.proofs.lemmas.Int.{to_z-of_z}
use Rattle.std.proofs.lemmas.List.{length-append}
use Rattle.std.proofs.lemmas.List.Elements.{All-head, All-tail}
use Rattle.std.proofs.lemmas.Slice.Eq.{bytes_eq-Decides}
use Rattle.std.proofs.Math.Seq.{take-append_seam, drop-append_seam}
use Rattle.kc_rules.proofs.AnswerLemmas.{some_is}
use Rattle.kc_space.specs.Latches.{tri_number}
use Rattle.kc_space.specs.Spaces.{gs_number, map_number}
use Rattle.kc_space.specs.declared.gs.GsPair.{GsPair}
use Rattle.kc_space.specs.declared.map.MapState.{MapState}
use Rattle.kc_space.specs.declared.tri.Tri.{Tri}
use Rattle.kc_value.specs.AbsValue.{AbsValue}
use Rattle.kc_value.specs.Symbol.{IsSym}
use Rattle.kc_value.specs.Value.{IsValidValue}
use Rattle.kc_value.specs.declared.symbol.Sym.{Sym}
use Rattle.kc_value.specs.declared.symbol.Sym.TheVariants.{Plain, Base, Entry, UserGs}
use Rattle.kc_frames.specs.declared.floor.Floor.{Floor}
use Rattle.kc_frames.specs.declared.floor.Floor.TheVariants as floor
use Rattle.kc_state.specs.State.{IsState}
use Rattle.kc_state.specs.declared.state.AbsState.{AbsState}
use Rattle.kc_certfields.specs.Spaces.{tri_of, map_of, gs_of}
use Rattle.kc_certform.specs.Numbers.{value_numbers, floor_numbers, space_numbers, rest_numbers, state_numbers, is_same_state}
use Rattle.kc_certexact.proofs.SpacesExact.{tri-forth, map-forth, gs-forth}

-- equal lists have equal parts, where these are as long
pub parts : (xs ys more others : List ℕ) → length xs ≡ length ys → xs ++ more ≡ ys ++ others
    → (xs ≡ ys) × (more ≡ others)
parts xs ys more others long e = (
  sym (take-append_seam xs more) ∙ ap (take (length xs)) e ∙ ap (λ (n : ℕ). take n (ys ++ others)) long
      ∙ take-append_seam ys others,
  sym (drop-append_seam xs more) ∙ ap (drop (length xs)) e ∙ ap (λ (n : ℕ). drop n (ys ++ others)) long
      ∙ drop-append_seam ys others,
)

-- items of which each is made again from its numbers
module _ {A : Type 0} (numbers : A → List ℕ) (back : List ℕ → A) (Fits : A → Type 0)
    (gives : (x : A) → Fits x → back (numbers x) ≡ x) (even : (x y : A) → length (numbers x) ≡ length (numbers y)) where
  pub same-item : (x y : A) → Fits x → Fits y → numbers x ≡ numbers y → x ≡ y
  same-item x y f g e = sym (gives x f) ∙ ap back e ∙ gives y g

  pub same-items : (xs ys : List A) → length xs ≡ length ys → All Fits xs → All Fits ys
      → flat_map numbers xs ≡ flat_map numbers ys → xs ≡ ys
  same-items [] [] long f g e = refl
  same-items [] (y ∷ ys) long f g e = absurd (omega (arith, long))
  same-items (x ∷ xs) [] long f g e = absurd (omega (arith, long))
  same-items (x ∷ xs) (y ∷ ys) long f g e =
      let p = parts (numbers x) (numbers y) (flat_map numbers xs) (flat_map numbers ys) (even x y) e in
      let here = same-item x y (All-head Fits x xs f) (All-head Fits y ys g) p.0 in
      let rest = same-items xs ys (omega (arith, long)) (All-tail Fits x xs f) (All-tail Fits y ys g) p.1 in
      λ i. here i ∷ rest i

-- ---- values

symbol_back : ℕ → ℕ → Sym
symbol_back tag n =
    if tag == 0 then Plain else
    if tag == 1 then Base (cast_signed w64 n) else
    if tag == 2 then Entry n else UserGs

value_back : List ℕ → AbsValue
value_back (tag ∷ n ∷ zeros ∷ ones ∷ stacks ∷ more) =
    record { sym = symbol_back tag n; bits = record { zeros = zeros; ones = ones }; stacks = stacks }
value_back more = record { sym = Plain; bits = record { zeros = 0; ones = 0 }; stacks = 0 }

value-gives : (v : AbsValue) → IsValidValue v → value_back (value_numbers v) ≡ v
unfolding value_back symbol_back
value-gives v fits = of v.sym fits.sym_fits
  where
    of : (s : Sym) → IsSym s → value_back (value_numbers (record { sym = s; bits = v.bits; stacks = v.stacks }))
        ≡ record { sym = s; bits = v.bits; stacks = v.stacks }
    of Plain f = refl
    of (Base k) f = λ i. record { sym = Base (to_z-of_z w64 k f i); bits = v.bits; stacks = v.stacks }
    of (Entry w) f = refl
    of UserGs f = refl

value-long : (v : AbsValue) → length (value_numbers v) ≡ 5
value-long v = of v.sym
  where
    of : (s : Sym) → length (value_numbers (record { sym = s; bits = v.bits; stacks = v.stacks })) ≡ 5
    of Plain = refl
    of (Base k) = refl
    of (Entry w) = refl
    of UserGs = refl

values-even : (v w : AbsValue) → length (value_numbers v) ≡ length (value_numbers w)
values-even v w = value-long v ∙ sym (value-long w)

-- ---- floors

floor_back : List ℕ → Floor
floor_back (tag ∷ a ∷ more) = if tag == 0 then floor.At a else floor.Base
floor_back more = floor.Base

abbrev AnyFloor : Floor → Type 0
AnyFloor f = Unit {0}

floor-gives : (f : Floor) → AnyFloor f → floor_back (floor_numbers f) ≡ f
unfolding floor_back
floor-gives (floor.At a) fits = refl
floor-gives floor.Base fits = refl

floor-long : (f : Floor) → length (floor_numbers f) ≡ 2
floor-long (floor.At a) = refl
floor-long floor.Base = refl

floors-even : (f g : Floor) → length (floor_numbers f) ≡ length (floor_numbers g)
floors-even f g = floor-long f ∙ sym (floor-long g)

any-floors : (fs : List Floor) → All AnyFloor fs
any-floors fs = λ k d below. tt

-- ---- spaces

same-tri : (s t : Tri) → tri_number s ≡ tri_number t → s ≡ t
same-tri s t e = some_is s t (sym (tri-forth s) ∙ ap tri_of e ∙ tri-forth t)

same-map : (s t : MapState) → map_number s ≡ map_number t → s ≡ t
same-map s t e = some_is s t (sym (map-forth s) ∙ ap map_of e ∙ map-forth t)

same-gs : (s t : GsPair) → gs_number s ≡ gs_number t → s ≡ t
same-gs s t e = some_is s t (sym (gs-forth s) ∙ ap gs_of e ∙ gs-forth t)

abbrev numbered : ℕ → List ℕ → ℕ
numbered k [] = 0
numbered zero (x ∷ xs) = x
numbered (suc k) (x ∷ xs) = numbered k xs

-- the numbers of a list of so many items
many-long : {A : Type 0} (numbers : A → List ℕ) (xs ys : List A)
    → ((x y : A) → length (numbers x) ≡ length (numbers y)) → length xs ≡ length ys
    → length (flat_map numbers xs) ≡ length (flat_map numbers ys)
many-long numbers [] [] even long = refl
many-long numbers [] (y ∷ ys) even long = absurd (omega (arith, long))
many-long numbers (x ∷ xs) [] even long = absurd (omega (arith, long))
many-long numbers (x ∷ xs) (y ∷ ys) even long =
    let rest = many-long numbers xs ys even (omega (arith, long)) in
    let here = even x y in
    omega (arith, here, rest, length-append (numbers x) (flat_map numbers xs), length-append (numbers y) (flat_map numbers ys))

-- ---- states

same-spaces : (s t : AbsState) → space_numbers s ≡ space_numbers t
    → (s.gs ≡ t.gs) × (s.map ≡ t.map) × (s.latches ≡ t.latches)
same-spaces s t e =
    let nmi = same-tri s.latches.nmi_blocked t.latches.nmi_blocked (ap (numbered 2) e) in
    let shadow = same-tri s.latches.shadow t.latches.shadow (ap (numbered 3) e) in
    let mcip = same-tri s.latches.mcip t.latches.mcip (ap (numbered 4) e) in (
      same-gs s.gs t.gs (ap (numbered 0) e),
      same-map s.map t.map (ap (numbered 1) e),
      λ i. record { nmi_blocked = nmi i; shadow = shadow i; mcip = mcip i },
    )

pub same-state : (s t : AbsState) → IsState s → IsState t → is_same_state s t ≡ true → s ≡ t
unfolding state_numbers
same-state s t f g same =
    let e = (bytes_eq-Decides (state_numbers s) (state_numbers t)).0 same in
    let registers : length s.regs ≡ length t.regs = f.reg_count ∙ sym g.reg_count in
    let floors : length s.floors.at ≡ length t.floors.at = f.floors.count ∙ sym g.floors.count in
    let slots : length s.slots ≡ length t.slots = f.slots.1 ∙ sym g.slots.1 in
    let a = parts (flat_map value_numbers s.regs) (flat_map value_numbers t.regs) (value_numbers s.flags ++ rest_numbers s)
    (value_numbers t.flags ++ rest_numbers t) (many-long value_numbers s.regs t.regs values-even registers) e in
    let b = parts (value_numbers s.flags) (value_numbers t.flags) (rest_numbers s) (rest_numbers t)
    (values-even s.flags t.flags) a.1 in
    let c = parts (space_numbers s) (space_numbers t) (flat_map floor_numbers s.floors.at ++ flat_map value_numbers s.slots)
    (flat_map floor_numbers t.floors.at ++ flat_map value_numbers t.slots) refl b.1 in
    let d = parts (flat_map floor_numbers s.floors.at) (flat_map floor_numbers t.floors.at) (flat_map value_numbers s.slots)
    (flat_map value_numbers t.slots) (many-long floor_numbers s.floors.at t.floors.at floors-even floors) c.1 in
    let values = same-items value_numbers value_back IsValidValue value-gives values-even in
    let regs = values s.regs t.regs registers f.regs g.regs a.0 in
    let flags = same-item value_numbers value_back IsValidValue value-gives values-even s.flags t.flags f.flags g.flags b.0 in
    let spaces = same-spaces s t c.0 in
    let at = same-items floor_numbers floor_back AnyFloor floor-gives floors-even s.floors.at t.floors.at floors
    (any-floors s.floors.at) (any-floors t.floors.at) d.0 in
    let known = values s.slots t.slots slots f.slots.0 g.slots.0 d.1 in
    λ i. record {
      regs = regs i;
      flags = flags i;
      gs = spaces.0 i;
      map = spaces.1 i;
      latches = spaces.2 i;
      floors = record { at = at i };
      slots = known i;
    }
