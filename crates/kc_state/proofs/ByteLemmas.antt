-- What is asked of bytes that lie in one region: since no two regions meet, each of them lies in that one alone, and so
-- in one stack at most. The region decides what may be accessed, and the floor of the stack whether a byte is live.
use Rattle.std.proofs.Common.{◌≡◌, ℕ, zero, suc, ◌+◌, ◌<◌, Bool, true, false, ◌&&◌, List, length, slice_index_or, slice_get, Option, Some, refl, sym, ap, ◌∙◌, subst, arith}
use Rattle.std.specs.List.{position_or_len}
use Rattle.std.proofs.lemmas.List.Folds.{find_at}
use Rattle.std.proofs.lemmas.Option.{slice_get-get_or, slice_get_within}
use Rattle.kc_words.specs.Span.{Holds}
use Rattle.kc_bits.specs.Bits.{word}
use Rattle.kc_frames.specs.declared.floors.Floors.{Floors}
use Rattle.kc_regions.specs.Description.{Description}
use Rattle.kc_regions.specs.Order.{IsHolder}
use Rattle.kc_regions.specs.Permission.{passes}
use Rattle.kc_regions.specs.Region.{holds, region_of, stack_of}
use Rattle.kc_regions.specs.Regions.{AreRegions}
use Rattle.kc_regions.specs.declared.region.Region.{Region}
use Rattle.kc_regions.specs.declared.touch.Touch.{Touch}
use Rattle.kc_regions.proofs.OrderLemmas.{holder-of, region-held, number-held}
use Rattle.kc_space.specs.declared.map.MapState.{MapState}
use Rattle.kc_state.specs.Access.{may_region, may_bytes, clear_stack, clear_bytes, HoldsBytes}
use Rattle.kc_state.specs.declared.key.Key.{Key}

some_is : (x y : Region) → Some x ≡ Some y → x ≡ y
some_is x y e = cc

-- where a region stands in the list
record Standing (list : List Region) (r : Region) : Type 0 where
  index : ℕ
  inside : index < length list
  at : slice_index_or list index r ≡ r

standing : (list : List Region) (a : ℕ) (r : Region) → region_of list a ≡ Some r → Standing list r
standing list a r e =
    let i = position_or_len (λ r. holds r.span a) list in
    let is : slice_get list i ≡ Some r = sym (find_at (λ r. holds r.span a) list) ∙ e in
    let inside = slice_get_within list i r is in
    record {
      index = i;
      inside = inside;
      at = some_is (slice_index_or list i r) r (sym (slice_get-get_or list i r inside) ∙ is);
    }

and_same : (b : Bool) → (b && b) ≡ b
and_same true = refl
and_same false = refl

and_end : (b : Bool) → (b && true) ≡ b
and_end true = refl
and_end false = refl

module _ (d : Description) (regions : AreRegions d.regions) (r : Region) (in_list : Standing d.regions r) where
  holder : (x : ℕ) → Holds r.span x → IsHolder d.regions x in_list.index
  holder x held =
      holder-of d.regions x in_list.index r in_list.inside (subst (λ z. Holds z.span x) (sym in_list.at) held)

  its_region : (x : ℕ) → Holds r.span x → region_of d.regions x ≡ Some r
  its_region x held =
      sym (region-held d.regions x in_list.index regions (holder x held))
      ∙ slice_get-get_or d.regions in_list.index r in_list.inside ∙ ap (λ z. Some z) in_list.at

  its_stack : (x y : ℕ) → Holds r.span x → Holds r.span y → stack_of d.regions x ≡ stack_of d.regions y
  its_stack x y here there =
      sym (number-held d.regions x in_list.index regions (holder x here))
      ∙ number-held d.regions y in_list.index regions (holder y there)

  may_some : (map : MapState) (touch : Touch) (a n : ℕ) → HoldsBytes r.span a (suc n)
      → may_bytes d map touch a (suc n) ≡ may_region map touch r
  unfolding may_bytes
  may_some map touch a zero h =
      ap (λ (o : Option Region). passes (λ z. may_region map touch z) o && true)
      (its_region a (h.from, omega (arith, h.to)))
      ∙ and_end (may_region map touch r)
  may_some map touch a (suc n) h =
      let next : word (a + 1) ≡ a + 1 = omega (arith, h.to, h.fits) in
      let rest : HoldsBytes r.span (a + 1) (suc n) = record {
        from = omega (arith, h.from);
        to = omega (arith, h.to);
        fits = h.fits;
      } in
      ap (λ (o : Option Region). passes (λ z. may_region map touch z) o && may_bytes d map touch (word (a + 1)) (suc n))
      (its_region a (h.from, omega (arith, h.to)))
      ∙ ap (λ (b : ℕ). may_region map touch r && may_bytes d map touch b (suc n)) next
      ∙ ap (λ (t : Bool). may_region map touch r && t) (may_some map touch (a + 1) n rest)
      ∙ and_same (may_region map touch r)

  clear_some : (key : Key) (floors : Floors) (end b a n : ℕ) → Holds r.span b → HoldsBytes r.span a (suc n)
      → clear_bytes d key floors end a (suc n) ≡ clear_stack key floors end (stack_of d.regions b)
  unfolding clear_bytes
  clear_some key floors end b a zero held h =
      ap (λ (s : Option ℕ). clear_stack key floors end s && true) (its_stack a b (h.from, omega (arith, h.to)) held)
      ∙ and_end (clear_stack key floors end (stack_of d.regions b))
  clear_some key floors end b a (suc n) held h =
      let next : word (a + 1) ≡ a + 1 = omega (arith, h.to, h.fits) in
      let rest : HoldsBytes r.span (a + 1) (suc n) = record {
        from = omega (arith, h.from);
        to = omega (arith, h.to);
        fits = h.fits;
      } in
      let here = clear_stack key floors end (stack_of d.regions b) in
      ap (λ (s : Option ℕ). clear_stack key floors end s && clear_bytes d key floors end (word (a + 1)) (suc n))
      (its_stack a b (h.from, omega (arith, h.to)) held)
      ∙ ap (λ (m : ℕ). here && clear_bytes d key floors end m (suc n)) next
      ∙ ap (λ (t : Bool). here && t) (clear_some key floors end b (a + 1) n held rest)
      ∙ and_same here

-- some bytes, by how many they are
pub may_within : (d : Description) (map : MapState) (touch : Touch) (r : Region) (a n : ℕ) → AreRegions d.regions
    → region_of d.regions a ≡ Some r → 0 < n → HoldsBytes r.span a n
    → may_bytes d map touch a n ≡ may_region map touch r
may_within d map touch r a zero regions is some h = absurd (omega (arith, some))
may_within d map touch r a (suc n) regions is some h =
    may_some d regions r (standing d.regions a r is) map touch a n h

pub clear_within : (d : Description) (key : Key) (floors : Floors) (r : Region) (end a n : ℕ) → AreRegions d.regions
    → region_of d.regions a ≡ Some r → 0 < n → HoldsBytes r.span a n
    → clear_bytes d key floors end a n ≡ clear_stack key floors end (stack_of d.regions a)
clear_within d key floors r end a zero regions is some h = absurd (omega (arith, some))
clear_within d key floors r end a (suc n) regions is some h =
    clear_some d regions r (standing d.regions a r is) key floors end a a n (h.from, omega (arith, h.to)) h
