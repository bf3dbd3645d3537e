-- Page faults of an instruction. The byte at fault is one of an access that both sides have. Where the place of the
-- access isn't known, a fault may come; at a number the walk over its bytes meets the byte; at an offset the byte lies
-- by C7 in the zone of the key's stack, and not in the guard, since guards never fault: so in the stack.
use Rattle.std.proofs.Common.{◌≡◌, ℕ, zero, suc, ◌+◌, ◌^◌, ◌<◌, inl, inr, true, false, List, [], ◌∷◌, Any, Option, Some, None, refl, sym, ap, ◌∙◌, subst, arith}
use Rattle.std.specs.List.{list_all, list_any}
use Rattle.std.proofs.lemmas.Bool.{cases_eq, and_parts, or_left, or_right, false≢true}
use Rattle.kc_bits.specs.Bits.{word}
use Rattle.kc_regions.specs.Description.{Description}
use Rattle.kc_regions.specs.Layout.{InBytes}
use Rattle.kc_regions.specs.Permission.{passes}
use Rattle.kc_regions.specs.Region.{is_guard, region_of}
use Rattle.kc_regions.specs.Valid.{IsValid}
use Rattle.kc_regions.specs.declared.region.Region.{Region}
use Rattle.kc_regions.proofs.LayoutLemmas.{laid}
use Rattle.kc_exec.specs.declared.access.Access.{Access}
use Rattle.kc_events.specs.Allowed.{IsTouched}
use Rattle.kc_state.specs.AbsEvents.{may_fault_bytes, may_fault_at, faults}
use Rattle.kc_state.specs.Conditions.{AbsAccess, may_at, stack_region}
use Rattle.kc_state.specs.Operand.{AbsMoment}
use Rattle.kc_state.specs.declared.key.Key.{Key}
use Rattle.kc_state.specs.declared.location.Location.{Location}
use Rattle.kc_state.specs.declared.location.Location.TheVariants.{Number, Relative}
use Rattle.kc_describes.proofs.AccessLemmas.{AccessAgrees, Agree}
use Rattle.kc_describes.proofs.LocationLemmas.{in_stack, IsAt}
use Rattle.kc_describes.proofs.PermissionLemmas.{relative_zone}

-- the walk meets each byte
meets_fault : (cfg : Description) (a n x : ℕ) → a < 2 ^ 64 → x < 2 ^ 64 → InBytes x a n
    → passes (λ r. r.may_fault) (region_of cfg.regions x) ≡ true → may_fault_bytes cfg a n ≡ true
unfolding may_fault_bytes
meets_fault cfg a zero x fits low inside h = absurd (omega (arith, inside))
meets_fault cfg a (suc n) x fits low inside h =
    let here = passes (λ r. r.may_fault) (region_of cfg.regions a) in
    let rest = may_fault_bytes cfg (word (a + 1)) n in
    elim (cases_eq x a) [
      | inl e ↦ or_left here rest (ap (λ z. passes (λ r. r.may_fault) (region_of cfg.regions z)) (sym e) ∙ h)
      | inr e ↦
          or_right here rest
          (meets_fault cfg (word (a + 1)) n x (omega arith) low (omega (arith, fits, low, inside, e)) h)
    ]

module _ (cfg : Description) (valid : IsValid cfg) (key : Key) (base : ℕ) (m : AbsMoment) (of_cfg : m.d ≡ cfg)
    (of_key : m.key ≡ key) (x : ℕ) (r : Region) (low : x < 2 ^ 64) (found : region_of cfg.regions x ≡ Some r)
    (faulty : r.may_fault ≡ true) (no_guard : is_guard r.kind ≡ false) where
  at_place : (size : ℕ) (l : AbsAccess) (at : ℕ) (p : Location) → IsAt cfg key base at p → InBytes x at l.size
      → may_at m (Some p) l.size l.touch ≡ true → may_fault_at cfg key (Some p) l.size ≡ true
  at_place size l at (Number b) is inside h =
      meets_fault cfg b l.size x is.0 low (subst (λ z. InBytes x z l.size) (sym is.1) inside)
      (ap (passes (λ z. z.may_fault)) found ∙ faulty)
  at_place size l at (Relative k) is inside h =
      let K = is.0.1 in
      let may_key = subst (λ z. may_at (record m { d = z }) (Some (Relative k)) l.size l.touch ≡ true) of_cfg
      h in
      let may_both = subst (λ z. may_at (record m { d = cfg; key = z }) (Some (Relative k)) l.size l.touch ≡ true)
      of_key
      may_key in
      let zone = relative_zone cfg valid key base K m.cpu.map k l.size x l.touch is.0.0 may_both low
      (subst (λ z. InBytes x z l.size) (sym is.1) inside) in
      elim ((laid cfg valid).zone_byte K.stack x zone) [
        | inl there ↦
            let X = in_stack cfg K.stack x valid there in
            let same : X.region ≡ r = cc in
            ap (λ z. passes (λ q. q.may_fault) (stack_region cfg z)) K.named
            ∙ ap (passes (λ q. q.may_fault)) X.numbered ∙ ap (λ q. q.may_fault) same ∙ faulty
        | inr guard ↦
            absurd (false≢true (sym no_guard ∙ sym (ap (passes (λ q. is_guard q.kind)) found) ∙ guard))
      ]

  at_access : (l : AbsAccess) (a : Access) (o : Option Location) → l.at ≡ o → AccessAgrees cfg key base l a
      → may_at m l.at l.size l.touch ≡ true → IsTouched x a → may_fault_at cfg key o l.size ≡ true
  at_access l a None e agrees h touched = refl
  at_access l a (Some p) e agrees h touched =
      at_place l.size l a.at p (agrees.at p e) (subst (λ z. InBytes x a.at z) agrees.size touched)
      (subst (λ z. may_at m z l.size l.touch ≡ true) e h)

  first_fault : (l : AbsAccess) (a : Access) → AccessAgrees cfg key base l a → may_at m l.at l.size l.touch ≡ true
      → IsTouched x a → faults m l ≡ true
  first_fault l a agrees h touched =
      subst (λ d. may_fault_at d m.key l.at l.size ≡ true) (sym of_cfg)
      (subst (λ k. may_fault_at cfg k l.at l.size ≡ true) (sym of_key) (at_access l a l.at refl agrees h touched))

  -- the byte at place i of the list of accesses
  pub some_fault : (ls : List AbsAccess) (ds : List Access) → Agree cfg key base ls ds
      → list_all (λ a. may_at m a.at a.size a.touch) ls ≡ true → Any (IsTouched x) ds → list_any (faults m) ls ≡ true
  some_fault [] [] agree h (i, d, few, at, touched) = absurd (omega (arith, few))
  some_fault [] (d ∷ ds) agree h any = absurd agree
  some_fault (l ∷ ls) [] agree h any = absurd agree
  some_fault (l ∷ ls) (d ∷ ds) agree h (zero, e, few, at, touched) =
      let p = and_parts (may_at m l.at l.size l.touch) (list_all (λ a. may_at m a.at a.size a.touch) ls) h in
      or_left (faults m l) (list_any (faults m) ls)
      (first_fault l d agree.0 p.0 (subst (IsTouched x) (sym at) touched))
  some_fault (l ∷ ls) (d ∷ ds) agree h (suc i, e, few, at, touched) =
      let p = and_parts (may_at m l.at l.size l.touch) (list_all (λ a. may_at m a.at a.size a.touch) ls) h in
      or_right (faults m l) (list_any (faults m) ls)
      (some_fault ls ds agree.1 p.1 (i, e, omega (arith, few), at, touched))
