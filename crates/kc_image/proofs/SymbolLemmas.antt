-- What symbol tables hold. The claims: a table whose entries pass adds its symbols to any list, and symbols are looked
-- up in one table after the other. Plan: each entry's verdict doesn't depend on what was gathered (`entry_is`), so the
-- entries so far add what they keep (`passed_more`, by `over_more`); a look-up in two lists is one in the first and
-- then one in the second (`found_in_two`). A name is the same in the strings and in the file, since the strings end in
-- a 0 (`name_in_file`, by `text_ends`). omega is left to count offsets.
use Rattle.std.proofs.Common.{◌≡◌, ℕ, zero, suc, ◌+◌, ◌-◌, ◌*◌, ◌/◌, ◌<◌, ◌≤◌, Bool, true, false, eqb, leb, List, [], ◌∷◌, ◌++◌, length, get_or, take, drop, Option, Some, None, is_some, option_to_list, Result, Ok, Err, refl, sym, ap, subst, ◌∙◌, inl, inr, arith, not, append_assoc, append-nil, eq-eqb, length-append, length-take, length-drop}
use mir.Val.{bool_byte}
use Rattle.std.specs.Option.{option_or}
use Rattle.std.specs.Str.{bytes_eq}
use Rattle.std.proofs.lemmas.Bool.{cases_Bool, eqb-true, ltb-false, not-false, ne_eqb}
use Rattle.std.proofs.lemmas.List.Sums.{sum_by-append}
use Rattle.std.proofs.lemmas.List.{take-append-drop, drop-drop, drop-append-le, get_or-drop, take_more, drop_more, map-append}
use Rattle.kc_rules.specs.Rules.{refuse, over, GivesExactly, ◌>>=◌}
use Rattle.kc_rules.proofs.AnswerLemmas.{bind_ok, refuse_ok}
use Rattle.kc_image.specs.declared.fault.ImageFault.{ImageFault}
use Rattle.kc_image.specs.declared.fault.ImageKind.TheVariants.{SymbolOut}
use Rattle.kc_image.specs.declared.elf.TheConstants.{SHN_UNDEF, SHT_STRTAB, SHT_SYMTAB, SYM_SIZE}
use Rattle.kc_image.specs.declared.elf.FileHeader.{FileHeader}
use Rattle.kc_image.specs.declared.elf.SectionHeader.{SectionHeader}
use Rattle.kc_image.specs.declared.elf.SymbolEntry.{SymbolEntry}
use Rattle.kc_image.specs.declared.index.Named.{Named}
use Rattle.kc_image.specs.declared.tables.Table.{Table}
use Rattle.kc_image.specs.Elf.{section_header, symbol_entry}
use Rattle.kc_image.specs.Fault.{fault}
use Rattle.kc_image.specs.Image.{Symbols, address_of}
use Rattle.kc_image.specs.FirstFault.{entries, passes, section_bytes, ends_in_zero, strings_of, text, is_kept_name, with_kept, begins_past, add_symbol, add_table, add_section}
use Rattle.kc_image.specs.SymbolSteps.{name_of, entry_count, strings_in, symbol_at, symbols_at, table_symbols, symbols_in, IsTable, spelled, spelled_one}
use Rattle.kc_image.proofs.TextLemmas.{kept_within}
use Rattle.kc_image.proofs.TableLemmas.{next_entry, no_entry, all_entries, last_entry, length_entries, over_more, over_refuses, over_all}

-- ---- names in the file

-- a text that ends in the first part is that of the whole
text_ends : (ys zs : List ℕ) (i : ℕ) → i < length ys → get_or ys i 0 ≡ 0 → text (ys ++ zs) ≡ text ys
unfolding text
text_ends [] zs i lt e = absurd (omega arith)
text_ends (y ∷ ys) zs zero lt e = let is : eqb y 0 ≡ true = eq-eqb y 0 e in rw is refl
text_ends (y ∷ ys) zs (suc i) lt e = elim (cases_Bool (eqb y 0)) [
  | inl t ↦ rw t refl
  | inr f ↦ rw f (ap (λ (bs : List ℕ). y ∷ bs) (text_ends ys zs i (omega arith) e))
]

-- the last of some bytes that end in zero
last_is_zero : (bytes : List ℕ) → 0 < length bytes → ends_in_zero bytes ≡ true → get_or bytes (length bytes - 1) 0 ≡ 0
last_is_zero bytes some e = elim (cases_Bool (eqb (length bytes) 0)) [
  | inl t ↦ absurd (omega (arith, eqb-true _ _ t))
  | inr f ↦ eqb-true _ _ (rw f at e)
]

pub name_in_file : (file : List ℕ) (t : Table) (k : ℕ) → IsTable file t → k < t.strings_size
    → text (drop (t.strings + k) file) ≡ text (drop k (strings_in file t))
name_in_file file t k valid lt =
    let rest = drop t.strings file in
    let strings = strings_in file t in
    let size : length strings ≡ t.strings_size =
    omega (arith, length-take t.strings_size rest, length-drop t.strings file, valid.strings_within) in
    let last = last_is_zero strings (omega (arith, size)) valid.ended in
    let end : k + (length strings - 1 - k) ≡ length strings - 1 = omega (arith, size) in
    let there : get_or (drop k strings) (length strings - 1 - k) 0 ≡ 0 =
    get_or-drop k strings (length strings - 1 - k) 0 ∙ ap (λ (i : ℕ). get_or strings i 0) end ∙ last in
    let parts : drop k rest ≡ drop k strings ++ drop t.strings_size rest =
    ap (λ (bs : List ℕ). drop k bs) (sym (take-append-drop t.strings_size rest))
    ∙ drop-append-le k strings (drop t.strings_size rest) (omega (arith, size)) in
    ap text (sym (drop-drop k t.strings file) ∙ parts)
    ∙ text_ends (drop k strings) (drop t.strings_size rest) (length strings - 1 - k)
    (omega (arith, length-drop k strings, size)) there

-- ---- a table's place

-- a string table that passed lies in the file and ends in a zero
pub strings_hold : (file : List ℕ) (h : SectionHeader) (at : ℕ) (s : List ℕ) → strings_of file h at ≡ Ok s
    → (h.sh_offset + h.sh_size ≤ length file) × (ends_in_zero (section_bytes file h) ≡ true)
unfolding strings_of
strings_hold file h at s e =
    let broken = fault SymbolOut at in
    let kind = refuse (not (eqb h.sh_type SHT_STRTAB)) broken in
    let inside = refuse (passes file h.sh_offset h.sh_size) broken in
    let ended = refuse (not (ends_in_zero (section_bytes file h))) broken in
    let result = Ok (section_bytes file h) in
    let one = bind_ok kind (λ ok. inside >>= λ ok. ended >>= λ ok. result) s e in
    let two = bind_ok inside (λ ok. ended >>= λ ok. result) s one.2 in
    let three = bind_ok ended (λ ok. result) s two.2 in
    (ltb-false _ _ (refuse_ok _ broken two.0 two.1), not-false _ (refuse_ok _ broken three.0 three.1))

pub table_is : (file : List ℕ) (section strings : SectionHeader) (at : ℕ) (s : List ℕ)
    → passes file section.sh_offset section.sh_size ≡ false → strings_of file strings at ≡ Ok s
    → IsTable file (record {
      first = section.sh_offset;
      count = section.sh_size / SYM_SIZE;
      strings = strings.sh_offset;
      strings_size = strings.sh_size;
    })
table_is file section strings at s inside e =
    let held = strings_hold file strings at s e in
    record {
      entries_within = omega (arith, ltb-false _ _ inside);
      strings_within = held.0;
      ended = held.1;
    }

-- ---- one entry

kept_after : (symbols : Symbols) (s : SymbolEntry) (name : List ℕ)
    → with_kept symbols s name ≡ symbols ++ with_kept [] s name
kept_after symbols s name = elim (cases_Bool (eqb s.st_shndx SHN_UNDEF)) [
  | inl t ↦ rw t (sym (append-nil symbols))
  | inr f ↦ elim (cases_Bool (is_kept_name name)) [
    | inl t ↦ rw (f, t) refl
    | inr g ↦ rw (f, g) (sym (append-nil symbols))
  ]
]

pub entry_is : (file strings : List ℕ) (at : ℕ) (r : Result (Unit {0}) ImageFault)
    → r ≡ refuse (begins_past strings (symbol_entry file at)) (fault SymbolOut at) → (symbols : Symbols)
    → GivesExactly (λ x. symbols ++ symbol_at file strings at) r (add_symbol file strings symbols at)
unfolding add_symbol symbol_at
entry_is file strings at (Ok x) e symbols =
    let passed = refuse_ok (begins_past strings (symbol_entry file at)) (fault SymbolOut at) x (sym e) in
    rw passed (ap Ok (kept_after symbols (symbol_entry file at) (text (drop (symbol_entry file at).st_name strings))))
entry_is file strings at (Err broken) e symbols = rw (← e) refl

pub entry_zero : (file strings : List ℕ) (at : ℕ) → (symbol_entry file at).st_name ≡ 0 → (symbols : Symbols)
    → GivesExactly {X = Unit {0}} (λ x. symbols ++ symbol_at file strings at) (Ok tt)
    (add_symbol file strings symbols at)
entry_zero file strings at none symbols =
    let within : false ≡ begins_past strings (symbol_entry file at) = rw none refl in
    entry_is file strings at (Ok tt) (ap (λ (b : Bool). refuse b (fault SymbolOut at)) within) symbols

pub entry_named : (file strings : List ℕ) (at k : ℕ) (r : Result (Unit {0}) ImageFault)
    → k ≡ (symbol_entry file at).st_name
    → (k ≡ 0 → ⊥) → r ≡ refuse (leb (length strings) k) (fault SymbolOut at) → (symbols : Symbols)
    → GivesExactly (λ x. symbols ++ symbol_at file strings at) r (add_symbol file strings symbols at)
entry_named file strings at k r named some e symbols =
    let other : eqb k 0 ≡ false = ne_eqb k 0 some in
    let past : leb (length strings) k ≡ begins_past strings (symbol_entry file at) =
    rw (← named, other) refl in
    entry_is file strings at r (e ∙ ap (λ (b : Bool). refuse b (fault SymbolOut at)) past) symbols

-- the symbol of an entry whose name is kept
pub symbol_read : (file : List ℕ) (t : Table) (at k : ℕ) (s : SymbolEntry) → IsTable file t → s ≡ symbol_entry file at
    → k ≡ s.st_name
    → (s.st_shndx ≡ SHN_UNDEF → ⊥) → is_kept_name (text (drop k (strings_in file t))) ≡ true
    → ◌≡◌ {A = Symbols} ((text (drop (t.strings + k) file), s.st_value) ∷ []) (symbol_at file (strings_in file t) at)
unfolding symbol_at
symbol_read file t at k s valid is named defined keeps =
    let size : length (strings_in file t) ≤ t.strings_size =
    omega (arith, length-take t.strings_size (drop t.strings file)) in
    let name = name_in_file file t k valid (omega (arith, size, kept_within (strings_in file t) k keeps)) in
    let other : eqb s.st_shndx SHN_UNDEF ≡ false = ne_eqb s.st_shndx SHN_UNDEF defined in
    rw (← is, ← named, other, keeps, name) refl

pub symbol_dropped : (file strings : List ℕ) (at k : ℕ) (s : SymbolEntry) → s ≡ symbol_entry file at → k ≡ s.st_name
    → is_kept_name (text (drop k strings)) ≡ false → ◌≡◌ {A = Symbols} [] (symbol_at file strings at)
unfolding symbol_at
symbol_dropped file strings at k s is named drops = elim (cases_Bool (eqb s.st_shndx SHN_UNDEF)) [
  | inl t ↦ rw (← is, t) refl
  | inr f ↦ rw (← is, f, ← named, drops) refl
]

-- ---- the entries so far

symbols_of_two : (file strings xs ys : List ℕ)
    → symbols_at file strings (xs ++ ys) ≡ symbols_at file strings xs ++ symbols_at file strings ys
unfolding symbols_at
symbols_of_two file strings [] ys = refl
symbols_of_two file strings (x ∷ xs) ys =
    ap (λ (more : Symbols). symbol_at file strings x ++ more) (symbols_of_two file strings xs ys)
    ∙ sym (append_assoc (symbol_at file strings x) (symbols_at file strings xs) (symbols_at file strings ys))

pub symbols_of_last : (file strings : List ℕ) (at i : ℕ)
    → symbols_at file strings (entries at SYM_SIZE (i + 1))
    ≡ symbols_at file strings (entries at SYM_SIZE i) ++ symbol_at file strings (at + SYM_SIZE * i)
unfolding symbols_at
symbols_of_last file strings at i =
    ap (symbols_at file strings) (last_entry at SYM_SIZE i)
    ∙ symbols_of_two file strings (entries at SYM_SIZE i) ((at + SYM_SIZE * i) ∷ [])
    ∙ ap (λ (more : Symbols). symbols_at file strings (entries at SYM_SIZE i) ++ more)
    (append-nil (symbol_at file strings (at + SYM_SIZE * i)))

pub symbols_of_rest : (file strings : List ℕ) (at n i : ℕ) → i < n
    → symbols_at file strings (entries (at + SYM_SIZE * i) SYM_SIZE (n - i))
    ≡ symbol_at file strings (at + SYM_SIZE * i)
    ++ symbols_at file strings (entries (at + SYM_SIZE * (i + 1)) SYM_SIZE (n - (i + 1)))
unfolding symbols_at
symbols_of_rest file strings at n i lt = rw (next_entry at SYM_SIZE n i lt) refl

pub symbols_of_none : (file strings : List ℕ) (at n i : ℕ) → n ≤ i
    → symbols_at file strings (entries (at + SYM_SIZE * i) SYM_SIZE (n - i)) ≡ []
unfolding symbols_at
symbols_of_none file strings at n i le = rw (no_entry at SYM_SIZE n i le) refl

-- the entries before entry i passed, and added what they keep
abbrev pub PassedSoFar : List ℕ → List ℕ → ℕ → ℕ → ℕ → Type 0
PassedSoFar file strings at n i = (symbols : Symbols)
    → over (add_symbol file strings) (symbols ++ symbols_at file strings (entries at SYM_SIZE i))
    (entries (at + SYM_SIZE * i) SYM_SIZE (n - i))
    ≡ over (add_symbol file strings) symbols (entries at SYM_SIZE n)

pub passed_none : (file strings : List ℕ) (at n : ℕ) → PassedSoFar file strings at n 0
unfolding symbols_at entries
passed_none file strings at n symbols = rw (append-nil symbols, all_entries at SYM_SIZE n) refl

pub passed_more : (file strings : List ℕ) (at n i : ℕ) → i < n
    → ((symbols : Symbols) → add_symbol file strings symbols (at + SYM_SIZE * i)
    ≡ Ok (symbols ++ symbol_at file strings (at + SYM_SIZE * i)))
    → PassedSoFar file strings at n i → PassedSoFar file strings at n (i + 1)
passed_more file strings at n i lt step so_far symbols =
    let add = add_symbol file strings in
    let here = at + SYM_SIZE * i in
    let before = symbols_at file strings (entries at SYM_SIZE i) in
    let more =
    over_more add (symbols ++ before) ((symbols ++ before) ++ symbol_at file strings here) at SYM_SIZE n i here
    (over add symbols (entries at SYM_SIZE n)) lt refl (step (symbols ++ before)) (so_far symbols) in
    rw (symbols_of_last file strings at i, ← append_assoc symbols before (symbol_at file strings here)) more

pub passed_all : (file strings : List ℕ) (at n i : ℕ) → i ≡ n → PassedSoFar file strings at n i → (symbols : Symbols)
    → over (add_symbol file strings) symbols (entries at SYM_SIZE n)
    ≡ Ok (symbols ++ symbols_at file strings (entries at SYM_SIZE n))
passed_all file strings at n i all so_far symbols =
    let end =
    over_all (add_symbol file strings) (symbols ++ symbols_at file strings (entries at SYM_SIZE i)) at SYM_SIZE n i
    (over (add_symbol file strings) symbols (entries at SYM_SIZE n)) (omega (arith, all)) (so_far symbols) in
    rw all at end

pub refused_here : (file strings : List ℕ) (at n i : ℕ) (e : ImageFault) → i < n
    → ((symbols : Symbols) → add_symbol file strings symbols (at + SYM_SIZE * i) ≡ Err e)
    → PassedSoFar file strings at n i → (symbols : Symbols)
    → over (add_symbol file strings) symbols (entries at SYM_SIZE n) ≡ Err e
refused_here file strings at n i e lt step so_far symbols =
    let before = symbols ++ symbols_at file strings (entries at SYM_SIZE i) in
    over_refuses (add_symbol file strings) before at SYM_SIZE n i (at + SYM_SIZE * i)
    (over (add_symbol file strings) symbols (entries at SYM_SIZE n)) e lt refl (step before) (so_far symbols)

-- ---- tables in their order

-- the table that list look-ups past the end give
abbrev pub no_table : Table
no_table = record { first = 0; count = 0; strings = 0; strings_size = 0 }

-- what a symbol table's section header adds
pub section_adds : (file : List ℕ) (e : FileHeader) (symbols : Symbols) (at : ℕ) (h : SectionHeader)
    (r : Result Symbols ImageFault)
    → h ≡ section_header file at → h.sh_type ≡ SHT_SYMTAB → add_table file e symbols h at ≡ r
    → add_section file e symbols at ≡ r
unfolding add_section
section_adds file e symbols at h r is kind added =
    let test : eqb (section_header file at).sh_type SHT_SYMTAB ≡ true =
    eq-eqb _ _ (ap (λ (s : SectionHeader). s.sh_type) (sym is) ∙ kind) in
    rw test (subst (λ (s : SectionHeader). add_table file e symbols s at ≡ r) is added)

pub symbols_in_two : (file : List ℕ) (xs ys : List Table)
    → symbols_in file (xs ++ ys) ≡ symbols_in file xs ++ symbols_in file ys
unfolding symbols_in
symbols_in_two file [] ys = refl
symbols_in_two file (t ∷ ts) ys =
    ap (λ (more : Symbols). table_symbols file t ++ more) (symbols_in_two file ts ys)
    ∙ sym (append_assoc (table_symbols file t) (symbols_in file ts) (symbols_in file ys))

pub symbols_in_one : (file : List ℕ) (t : Table) → symbols_in file (t ∷ []) ≡ table_symbols file t
unfolding symbols_in
symbols_in_one file t = append-nil (table_symbols file t)

pub symbols_in_none : (file : List ℕ) → symbols_in file [] ≡ []
unfolding symbols_in
symbols_in_none file = refl

pub symbols_in_push : (file : List ℕ) (ts : List Table) (t : Table)
    → symbols_in file (ts ++ t ∷ []) ≡ symbols_in file ts ++ table_symbols file t
symbols_in_push file ts t =
    symbols_in_two file ts (t ∷ []) ∙ ap (λ (more : Symbols). symbols_in file ts ++ more) (symbols_in_one file t)

pub symbols_in_more : (file : List ℕ) (ts : List Table) (i : ℕ) (d : Table) → i < length ts
    → symbols_in file (take (i + 1) ts) ≡ symbols_in file (take i ts) ++ table_symbols file (get_or ts i d)
symbols_in_more file ts i d lt =
    ap (symbols_in file) (take_more ts i d lt) ∙ symbols_in_push file (take i ts) (get_or ts i d)

pub symbols_in_rest : (file : List ℕ) (ts : List Table) (i : ℕ) (d : Table) → i < length ts
    → symbols_in file (drop i ts) ≡ table_symbols file (get_or ts i d) ++ symbols_in file (drop (i + 1) ts)
unfolding symbols_in
symbols_in_rest file ts i d lt = ap (symbols_in file) (drop_more ts i d lt)

-- ---- look-ups

pub found_in_two : (xs ys : Symbols) (name : List ℕ)
    → address_of (xs ++ ys) name ≡ option_or (address_of xs name) (address_of ys name)
found_in_two [] ys name = refl
found_in_two (x ∷ xs) ys name = elim (cases_Bool (bytes_eq name x.0)) [
  | inl t ↦ rw t refl
  | inr f ↦ rw f (found_in_two xs ys name)
]

pub found_in_parts : (file : List ℕ) (ts : List Table) (k : ℕ) (name : List ℕ)
    → address_of (symbols_in file ts) name
    ≡ option_or (address_of (symbols_in file (take k ts)) name) (address_of (symbols_in file (drop k ts)) name)
found_in_parts file ts k name =
    ap (λ (tables : List Table). address_of (symbols_in file tables) name) (sym (take-append-drop k ts))
    ∙ ap (λ (symbols : Symbols). address_of symbols name) (symbols_in_two file (take k ts) (drop k ts))
    ∙ found_in_two (symbols_in file (take k ts)) (symbols_in file (drop k ts)) name

-- what the first of two look-ups says of both
pub or_some : {X : Type 0} (o p : Option X) (x : X) → Some x ≡ o → option_or o p ≡ Some x
or_some None p x e = absurd cc
or_some (Some y) p x e = sym e

pub or_none : {X : Type 0} (o p : Option X) → None ≡ o → option_or o p ≡ p
or_none None p e = refl
or_none (Some y) p e = absurd cc

-- the first symbol of the name is at entry i, or is none of it
pub found_here : (file strings : List ℕ) (at n i : ℕ) (name : List ℕ) (value : ℕ) → i < n
    → Some value ≡ address_of (symbol_at file strings (at + SYM_SIZE * i)) name
    → address_of (symbols_at file strings (entries (at + SYM_SIZE * i) SYM_SIZE (n - i))) name ≡ Some value
found_here file strings at n i name value lt here =
    let one = symbol_at file strings (at + SYM_SIZE * i) in
    let rest = symbols_at file strings (entries (at + SYM_SIZE * (i + 1)) SYM_SIZE (n - (i + 1))) in
    ap (λ (symbols : Symbols). address_of symbols name) (symbols_of_rest file strings at n i lt)
    ∙ found_in_two one rest name ∙ or_some (address_of one name) (address_of rest name) value here

pub not_found_here : (file strings : List ℕ) (at n i : ℕ) (name : List ℕ) → i < n
    → None ≡ address_of (symbol_at file strings (at + SYM_SIZE * i)) name
    → address_of (symbols_at file strings (entries (at + SYM_SIZE * i) SYM_SIZE (n - i))) name
    ≡ address_of (symbols_at file strings (entries (at + SYM_SIZE * (i + 1)) SYM_SIZE (n - (i + 1)))) name
not_found_here file strings at n i name lt here =
    let one = symbol_at file strings (at + SYM_SIZE * i) in
    let rest = symbols_at file strings (entries (at + SYM_SIZE * (i + 1)) SYM_SIZE (n - (i + 1))) in
    ap (λ (symbols : Symbols). address_of symbols name) (symbols_of_rest file strings at n i lt)
    ∙ found_in_two one rest name ∙ or_none (address_of one name) (address_of rest name) here

-- ---- names spelled out

spelled_more : (file : List ℕ) (ns : List Named) (o : Option Named)
    → spelled file (ns ++ option_to_list o) ≡ spelled file ns ++ spelled_one file o
spelled_more file ns None = map-append (λ (n : Named). (name_of file n, n.value)) ns []
spelled_more file ns (Some n) = map-append (λ (n : Named). (name_of file n, n.value)) ns (n ∷ [])

pub spelled_so_far : (file strings : List ℕ) (at i : ℕ) (start old new : List Named) (o : Option Named)
    → new ≡ old ++ option_to_list o → spelled_one file o ≡ symbol_at file strings (at + SYM_SIZE * i)
    → spelled file old ≡ spelled file start ++ symbols_at file strings (entries at SYM_SIZE i)
    → spelled file new ≡ spelled file start ++ symbols_at file strings (entries at SYM_SIZE (i + 1))
spelled_so_far file strings at i start old new o grown is so_far =
    let before = symbols_at file strings (entries at SYM_SIZE i) in
    let here = symbol_at file strings (at + SYM_SIZE * i) in
    ap (spelled file) grown ∙ spelled_more file old o
    ∙ ap (λ (more : Symbols). spelled file old ++ more) is ∙ ap (λ (more : Symbols). more ++ here) so_far
    ∙ append_assoc (spelled file start) before here
    ∙ ap (λ (more : Symbols). spelled file start ++ more) (sym (symbols_of_last file strings at i))

-- ---- counts

pub spelled_length : (file : List ℕ) (ns : List Named) → length (spelled file ns) ≡ length ns
spelled_length file [] = refl
spelled_length file (n ∷ ns) = omega (arith, spelled_length file ns)

-- a test that there is a symbol counts it
pub counted : (file : List ℕ) (o : Option Named) → bool_byte (is_some o) ≡ length (spelled_one file o)
counted file None = refl
counted file (Some n) = refl

pub bool_byte_le : (b : Bool) → bool_byte b ≤ 1
bool_byte_le true = omega arith
bool_byte_le false = omega arith

kept_length : (s : SymbolEntry) (name : List ℕ) → length (with_kept [] s name) ≤ 1
kept_length s name = elim (cases_Bool (eqb s.st_shndx SHN_UNDEF)) [
  | inl t ↦ rw t (omega arith)
  | inr f ↦ elim (cases_Bool (is_kept_name name)) [ inl t ↦ rw (f, t) (omega arith) | inr g ↦ rw (f, g) (omega arith) ]
]

symbol_length : (file strings : List ℕ) (at : ℕ) → length (symbol_at file strings at) ≤ 1
unfolding symbol_at
symbol_length file strings at = kept_length (symbol_entry file at) (text (drop (symbol_entry file at).st_name strings))

symbols_length : (file strings offsets : List ℕ) → length (symbols_at file strings offsets) ≤ length offsets
unfolding symbols_at
symbols_length file strings [] = omega arith
symbols_length file strings (at ∷ offsets) =
    omega (
      arith,
      length-append (symbol_at file strings at) (symbols_at file strings offsets),
      symbol_length file strings at,
      symbols_length file strings offsets,
    )

pub so_far_length : (file strings : List ℕ) (at i : ℕ) → length (symbols_at file strings (entries at SYM_SIZE i)) ≤ i
so_far_length file strings at i =
    omega (arith, symbols_length file strings (entries at SYM_SIZE i), length_entries at SYM_SIZE i)

-- a table keeps at most as many symbols as it has entries
pub table_length : (file : List ℕ) (t : Table) → length (table_symbols file t) ≤ t.count
table_length file t =
    omega (
      arith,
      symbols_length file (strings_in file t) (entries t.first SYM_SIZE t.count),
      length_entries t.first SYM_SIZE t.count,
    )

pub tables_length : (file : List ℕ) (ts : List Table) → length (symbols_in file ts) ≤ entry_count ts
unfolding symbols_in
tables_length file [] = omega arith
tables_length file (t ∷ ts) =
    omega (
      arith,
      length-append (table_symbols file t) (symbols_in file ts),
      table_length file t,
      tables_length file ts,
      sum_by-append (λ (u : Table). u.count) (t ∷ []) ts,
    )
