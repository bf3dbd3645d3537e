-- Going over a table's entries. The claim: what is gathered so far, and what the rest adds to it, is what all of them
-- give; so at the end it is the answer, and at a fault the fault is. Plan: the rest from entry i on is entry i and the
-- rest from i + 1 on (`next_entry`), by which `over` takes one step; omega is left to count the entries. Before that,
-- that a table whose rules hold lies in the file: the last rule of the row says so.
use Rattle.std.proofs.Common.{◌≡◌, ℕ, zero, suc, ◌+◌, ◌-◌, ◌*◌, ◌<◌, ◌≤◌, not, eqb, List, [], ◌∷◌, ◌++◌, length, Result, Ok, Err, refl, sym, ap, ◌∙◌, inl, inr, arith}
use Rattle.std.specs.Prelude.{◌⊎◌}
use Rattle.std.proofs.lemmas.Bool.{ltb-false, eqb-true, cases_Bool}
use Rattle.kc_rules.specs.Rules.{over, refuse, ◌>>=◌}
use Rattle.kc_rules.proofs.AnswerLemmas.{bind_ok, refuse_ok}
use Rattle.kc_image.specs.declared.fault.ImageFault.{ImageFault}
use Rattle.kc_image.specs.declared.fault.ImageKind.TheVariants.{HeaderOut}
use Rattle.kc_image.specs.declared.elf.TheConstants.{E_PHENTSIZE, E_PHNUM, E_SHENTSIZE, PHDR_SIZE, PN_XNUM, SHDR_SIZE}
use Rattle.kc_image.specs.declared.elf.FileHeader.{FileHeader}
use Rattle.kc_image.specs.Fault.{fault, no_memory}
use Rattle.kc_image.specs.FirstFault.{entries, passes, program_table, section_table}

-- ---- tables in the file

pub program_bound : (file : List ℕ) (h : FileHeader) → 0 < h.e_phnum → program_table file h ≡ Ok tt
    → h.e_phoff + PHDR_SIZE * h.e_phnum ≤ length file
unfolding program_table
program_bound file h some e =
    elim (cases_Bool (eqb h.e_phnum 0)) [
      | inl none ↦ absurd (omega (arith, eqb-true _ _ none))
      | inr there ↦
          let past = passes file h.e_phoff (PHDR_SIZE * h.e_phnum) in
          let last = refuse past (fault HeaderOut (length file)) in
          let number = refuse (eqb h.e_phnum PN_XNUM) (fault HeaderOut E_PHNUM) in
          let size = refuse (not (eqb h.e_phentsize PHDR_SIZE)) (fault HeaderOut E_PHENTSIZE) in
          let one = bind_ok size (λ ok. number >>= λ ok. last) tt (rw there at e) in
          let two = bind_ok number (λ ok. last) tt one.2 in
          ltb-false _ _ (refuse_ok past (fault HeaderOut (length file)) tt two.2)
    ]

pub section_bound : (file : List ℕ) (h : FileHeader) → 0 < h.e_shnum → section_table file h ≡ Ok tt
    → h.e_shoff + SHDR_SIZE * h.e_shnum ≤ length file
unfolding section_table
section_bound file h some e =
    elim (cases_Bool (eqb h.e_shnum 0)) [
      | inl none ↦ absurd (omega (arith, eqb-true _ _ none))
      | inr there ↦
          let past = passes file h.e_shoff (SHDR_SIZE * h.e_shnum) in
          let last = refuse past (fault HeaderOut (length file)) in
          let size = refuse (not (eqb h.e_shentsize SHDR_SIZE)) (fault HeaderOut E_SHENTSIZE) in
          let one = bind_ok size (λ ok. last) tt (rw there at e) in
          ltb-false _ _ (refuse_ok past (fault HeaderOut (length file)) tt one.2)
    ]

-- ---- entries

-- what is left from entry i on begins with entry i
pub next_entry : (at size n i : ℕ) → i < n
    → entries (at + size * i) size (n - i) ≡ (at + size * i) ∷ entries (at + size * (i + 1)) size (n - (i + 1))
unfolding entries
next_entry at size n i lt =
    let left : n - i ≡ suc (n - (i + 1)) = omega arith in
    let next : (at + size * i) + size ≡ at + size * (i + 1) = omega arith in
    rw (left, next) refl

pub no_entry : (at size n i : ℕ) → n ≤ i → entries (at + size * i) size (n - i) ≡ []
unfolding entries
no_entry at size n i le = let left : n - i ≡ 0 = omega arith in rw left refl

pub all_entries : (at size n : ℕ) → entries (at + size * 0) size (n - 0) ≡ entries at size n
all_entries at size n =
    let from : at + size * 0 ≡ at = omega arith in
    let left : n - 0 ≡ n = omega arith in
    rw (from, left) refl

-- the first i + 1 end with entry i
pub last_entry : (at size i : ℕ) → entries at size (i + 1) ≡ entries at size i ++ (at + size * i) ∷ []
unfolding entries
last_entry at size zero = let from : at + size * 0 ≡ at = omega arith in rw from refl
last_entry at size (suc i) =
    let one : suc i + 1 ≡ suc (i + 1) = omega arith in
    let here : at + size * suc i ≡ (at + size) + size * i = omega arith in
    rw (one, here) (ap (λ (offsets : List ℕ). at ∷ offsets) (last_entry (at + size) size i))

pub length_entries : (at size n : ℕ) → length (entries at size n) ≡ n
unfolding entries
length_entries at size zero = refl
length_entries at size (suc n) = omega (arith, length_entries (at + size) size n)

-- ---- one entry more

pub over_more : {A : Type 0} (add : A → ℕ → Result A ImageFault) (g t : A) (at size n i p : ℕ)
    (total : Result A ImageFault)
    → i < n → p ≡ at + size * i → add g p ≡ Ok t
    → over add g (entries (at + size * i) size (n - i)) ≡ total
    → over add t (entries (at + size * (i + 1)) size (n - (i + 1))) ≡ total
unfolding over
over_more add g t at size n i p total lt here step so_far =
    let rest = entries (at + size * (i + 1)) size (n - (i + 1)) in
    let one : over add g (entries (at + size * i) size (n - i)) ≡ over add t rest =
    rw (next_entry at size n i lt, ← here, step) refl in
    sym one ∙ so_far

pub over_refuses : {A : Type 0} (add : A → ℕ → Result A ImageFault) (g : A) (at size n i p : ℕ)
    (total : Result A ImageFault) (e : ImageFault) → i < n → p ≡ at + size * i → add g p ≡ Err e
    → over add g (entries (at + size * i) size (n - i)) ≡ total → total ≡ Err e
unfolding over
over_refuses add g at size n i p total e lt here step so_far =
    let one : over add g (entries (at + size * i) size (n - i)) ≡ Err e =
    rw (next_entry at size n i lt, ← here, step) refl in
    sym so_far ∙ one

pub over_fails : {A : Type 0} (add : A → ℕ → Result A ImageFault) (g : A) (at size n i p : ℕ)
    (total : Result A ImageFault) (e : ImageFault) → i < n → p ≡ at + size * i → (e ≡ no_memory) ⊎ (add g p ≡ Err e)
    → over add g (entries (at + size * i) size (n - i)) ≡ total → (e ≡ no_memory) ⊎ (total ≡ Err e)
over_fails add g at size n i p total e lt here (inl memory) so_far = inl memory
over_fails add g at size n i p total e lt here (inr step) so_far =
    inr (over_refuses add g at size n i p total e lt here step so_far)

pub over_all : {A : Type 0} (add : A → ℕ → Result A ImageFault) (g : A) (at size n i : ℕ) (total : Result A ImageFault)
    → n ≤ i → over add g (entries (at + size * i) size (n - i)) ≡ total → total ≡ Ok g
unfolding over
over_all add g at size n i total le so_far =
    let one : over add g (entries (at + size * i) size (n - i)) ≡ Ok g = rw (no_entry at size n i le) refl in
    sym so_far ∙ one
