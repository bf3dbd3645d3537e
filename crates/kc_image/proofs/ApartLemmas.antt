-- The claim: no address lies in two segments of an image. Plan: a header adds a segment only where it meets none of the
-- earlier ones (`load_apart`), so all that `over` adds are apart (`over_apart`); an image that was read passed every
-- rule in its row, and its segments are those (`elf_apart`, `raw_apart`). omega is left to bound indices.
use Rattle.std.proofs.Common.{◌≡◌, ℕ, ◌+◌, ◌-◌, ◌^◌, Bool, false, eqb, leb, ltb, List, [], ◌∷◌, ◌++◌, length, get_or, Result, Ok, subst, inl, inr, arith}
use Rattle.std.specs.List.{AllPairs}
use Rattle.std.proofs.lemmas.Bool.{cases_Bool}
use Rattle.std.proofs.lemmas.List.{length-map, get_or-map}
use Rattle.std.proofs.lemmas.List.Elements.{Contains-get_or}
use Rattle.std.proofs.lemmas.List.Quantifiers.{all_pairs_push}
use Rattle.kc_words.specs.Span.{Meets}
use Rattle.kc_image.specs.declared.fault.ImageFault.{ImageFault}
use Rattle.kc_image.specs.declared.fault.ImageKind.TheVariants.{HeaderOut, SegmentOut, SegmentsMeet}
use Rattle.kc_image.specs.declared.elf.FileHeader.{FileHeader}
use Rattle.kc_image.specs.declared.elf.ProgramHeader.{ProgramHeader}
use Rattle.kc_image.specs.declared.elf.TheConstants.{PHDR_SIZE, SHDR_SIZE, PT_LOAD}
use Rattle.kc_image.specs.declared.raw.TheConstants.{RAW_ADDRESS, RAW_HEADER}
use Rattle.kc_image.specs.declared.segments.Place.{Place}
use Rattle.kc_image.specs.Elf.{program_header}
use Rattle.kc_image.specs.Field.{xword}
use Rattle.kc_rules.specs.Rules.{refuse, over, ◌>>=◌}
use Rattle.kc_rules.proofs.AnswerLemmas.{bind_ok, refuse_ok, done, ok_is}
use Rattle.kc_image.specs.Fault.{fault}
use Rattle.kc_image.specs.Image.{Contents, contents, segment_at, segments_at, meets_any, AreApart}
use Rattle.kc_image.specs.FirstFault.{passes, header, program_table, section_table, place_of, add_load, add_segment, add_section, entries}
use Rattle.kc_image.specs.Raw.{is_raw, code_place, raw}
use Rattle.kc_image.specs.ImageFile.{elf, contents_of}
use Rattle.kc_image.proofs.ByAddressLemmas.{no_meet}

-- ---- rules that hold

after_one : {A : Type 0} (a : Bool) (broken : ImageFault) (rest : Result A ImageFault) (y : A)
    → (refuse a broken >>= λ ok. rest) ≡ Ok y → (a ≡ false) × (rest ≡ Ok y)
after_one a broken rest y e =
    let first = bind_ok (refuse a broken) (λ ok. rest) y e in
    (refuse_ok a broken first.0 first.1, first.2)

after_three : {A : Type 0} (a b c : Bool) (broken : ImageFault) (rest : Result A ImageFault) (y : A)
    → (refuse a broken >>= λ ok. refuse b broken >>= λ ok. refuse c broken >>= λ ok. rest) ≡ Ok y → rest ≡ Ok y
after_three a b c broken rest y e =
    let one = after_one a broken (refuse b broken >>= λ ok. refuse c broken >>= λ ok. rest) y e in
    let two = after_one b broken (refuse c broken >>= λ ok. rest) y one.1 in
    (after_one c broken rest y two.1).1

is_value : {A : Type 0} (x y : A) → done {E = ImageFault} x ≡ done y → x ≡ y
is_value x y e = ok_is x y e

-- ---- places

abbrev ArePlacesApart : List Place → Type 0
ArePlacesApart places = AllPairs (λ p q. Meets p.span q.span → ⊥) places

load_apart : (file : List ℕ) (earlier more : List Place) (h : ProgramHeader) (at : ℕ) → ArePlacesApart earlier
    → add_load file earlier h at ≡ Ok more → ArePlacesApart more
unfolding add_load
load_apart file earlier more h at apart e =
    let result = Ok (earlier ++ place_of h ∷ []) in
    let met = meets_any (place_of h).span earlier in
    let past = passes file h.p_offset h.p_filesz in
    let last : (refuse met (fault SegmentsMeet at) >>= λ ok. result) ≡ Ok more =
    after_three past (ltb h.p_memsz h.p_filesz) (leb (2 ^ 64) (h.p_vaddr + h.p_memsz)) (fault SegmentOut at)
    (refuse met (fault SegmentsMeet at) >>= λ ok. result) more e in
    let added = after_one met (fault SegmentsMeet at) result more last in
    subst ArePlacesApart (is_value (earlier ++ place_of h ∷ []) more added.1)
    (all_pairs_push (λ (p q : Place). Meets p.span q.span → ⊥) earlier (place_of h) apart
    (λ k d lt meet.
    no_meet earlier (place_of h) (get_or earlier k d) meet.0 added.0 (Contains-get_or earlier k d lt) meet.2 meet.1))

segment_apart : (file : List ℕ) (earlier more : List Place) (at : ℕ) → ArePlacesApart earlier
    → add_segment file earlier at ≡ Ok more → ArePlacesApart more
unfolding add_segment
segment_apart file earlier more at apart e =
    elim (cases_Bool (eqb (program_header file at).p_type PT_LOAD)) [
      | inl t ↦ load_apart file earlier more (program_header file at) at apart (rw t at e)
      | inr f ↦ subst ArePlacesApart (is_value earlier more (rw f at e)) apart
    ]

over_apart : (file : List ℕ) (offsets : List ℕ) (earlier more : List Place) → ArePlacesApart earlier
    → over (add_segment file) earlier offsets ≡ Ok more → ArePlacesApart more
unfolding over
over_apart file [] earlier more apart e = subst ArePlacesApart (is_value earlier more e) apart
over_apart file (at ∷ offsets) earlier more apart e =
    let step = bind_ok (add_segment file earlier at) (λ next. over (add_segment file) next offsets) more e in
    over_apart file offsets step.0 more (segment_apart file earlier step.0 at apart step.1) step.2

-- ---- segments

segments_apart : (file : List ℕ) (places : List Place) → ArePlacesApart places → AreApart (segments_at file places)
segments_apart file places apart i j d lt fits =
    let none : Place = record { span = record { from = 0; to = 0 }; offset = 0; size = 0 } in
    let count : length (segments_at file places) ≡ length places = length-map places (segment_at file) in
    let first = get_or-map (segment_at file) places i none d (omega (arith, lt, fits, count)) in
    let second = get_or-map (segment_at file) places j none d (omega (arith, fits, count)) in
    rw (first, second) (apart i j none lt (omega (arith, fits, count)))

raw_apart : (file : List ℕ) (c : Contents) → raw file ≡ Ok c → AreApart c.segments
unfolding raw
raw_apart file c e =
    let due : Contents = contents file (code_place file ∷ []) [] in
    let size = xword file RAW_ADDRESS + (length file - RAW_HEADER) in
    let inside = refuse (leb (2 ^ 64) size) (fault SegmentOut RAW_ADDRESS) >>= λ ok. Ok due in
    let first = after_one (ltb (length file) RAW_HEADER) (fault HeaderOut (length file)) inside c e in
    let second = after_one (leb (2 ^ 64) size) (fault SegmentOut RAW_ADDRESS) (Ok due) c first.1 in
    subst (λ (x : Contents). AreApart x.segments) (is_value due c second.1)
    (segments_apart file (code_place file ∷ []) (λ i j d lt fits meet. omega (arith, lt, fits)))

elf_apart : (file : List ℕ) (c : Contents) → elf file ≡ Ok c → AreApart c.segments
unfolding elf
elf_apart file c e =
    let symbols = λ (h : FileHeader). over (add_section file h) [] (entries h.e_shoff SHDR_SIZE h.e_shnum) in
    let places = λ (h : FileHeader). over (add_segment file) [] (entries h.e_phoff PHDR_SIZE h.e_phnum) in
    let after_places = λ (h : FileHeader) (ps : List Place). symbols h >>= λ ss. Ok (contents file ps ss) in
    let after_tables = λ (h : FileHeader). places h >>= after_places h in
    let after_header =
    λ (h : FileHeader). program_table file h >>= λ ok. section_table file h >>= λ ok. after_tables h in
    let one = bind_ok (header file) after_header c e in
    let h = one.0 in
    let two = bind_ok (program_table file h) (λ ok. section_table file h >>= λ ok. after_tables h) c one.2 in
    let three = bind_ok (section_table file h) (λ ok. after_tables h) c two.2 in
    let four = bind_ok (places h) (after_places h) c three.2 in
    let five = bind_ok (symbols h) (λ ss. Ok (contents file four.0 ss)) c four.2 in
    let none : ArePlacesApart [] = λ i j d lt fits meet. omega (arith, lt, fits) in
    let apart = over_apart file (entries h.e_phoff PHDR_SIZE h.e_phnum) [] four.0 none four.1 in
    subst (λ (x : Contents). AreApart x.segments) (is_value (contents file four.0 five.0) c five.2)
    (segments_apart file four.0 apart)

pub contents_apart : (file : List ℕ) (c : Contents) → contents_of file ≡ Ok c → AreApart c.segments
contents_apart file c e = elim (cases_Bool (is_raw file)) [
  | inl t ↦ raw_apart file c (rw t at e)
  | inr f ↦ elf_apart file c (rw f at e)
]
