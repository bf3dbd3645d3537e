-- Reading an operand is exact for the grammar's operands.
-- A byte of three fields is divided and put together again by omega (fields-of, fields-back). By it SIB, displacement
-- and ModRM are read byte by byte, and the cases of mod, of rm 4 and of REX.X are those of the grammar.
use Rattle.std.proofs.Common.{◌≡◌, ℕ, ◌+◌, ◌*◌, ◌/◌, ◌%◌, ◌<◌, Bool, true, false, cond, ◌||◌, eqb, List, [], ◌∷◌, replicate, Option, None, Ok, Err, ℤ, refl, sym, ap, subst, ◌∙◌, arith, lit<}
use Rattle.std.proofs.lemmas.Bool.{eqb-true, eqb-false}
use Rattle.std.proofs.lemmas.List.{length-replicate}
use Rattle.kc_words.specs.LittleEndian.{little_endian}
use Rattle.kc_words.specs.declared.width.Width.{Width}
use Rattle.kc_rules.specs.Rules.{◌>>=◌}
use Rattle.kc_reading.specs.Reading.{Exact, ByteThen, IsNumber, number_at}
use Rattle.kc_reading.proofs.Readers.{AreBytes-zeros, exact-none, exact-pure, exact-words, exact-byte, exact-map, exact-cases, exact-number}
use Rattle.kc_insn.specs.declared.insn.Mem.{Mem}
use Rattle.kc_insn.specs.declared.insn.Base.TheVariants as base
use Rattle.kc_insn.specs.declared.insn.Place.{Place}
use Rattle.kc_insn.specs.declared.insn.Place.TheVariants as place
use Rattle.kc_insn.specs.declared.rex.Rex.{Rex}
use Rattle.kc_insn.specs.Fields.{x_bit, b_bit, extended, signed, IsSigned, Size, size_bytes, immediate, IsImmediate, disp_bytes, base_of, index_of, IsMemory, no_sib, sib, IsRm, in_register, in_memory, IsOperand}
use Rattle.kc_insn.specs.Table.{Form}
use Rattle.kc_decode.specs.declared.fault.DraftFault.TheVariants.{Short, Unknown}
use Rattle.kc_decode.specs.Reading.{is_short, mode_field, reg_field, rm_field, disp_at, sib_at, no_sib_at, memory_at, rm_at, takes_modrm, operand_at, imm_at}

-- ---- numbers

pub exact-disp : (n : ℕ) → Exact is_short (disp_at n) (IsSigned n)
unfolding disp_at
exact-disp n = exact-map is_short (number_at Short n) (IsNumber n) (signed n) (exact-number is_short Short refl n)

pub exact-imm : (w : Width) (size : Size) → Exact is_short (imm_at w size) (IsImmediate w size)
unfolding imm_at
exact-imm w size = exact-map is_short (number_at Short (size_bytes size)) (IsNumber (size_bytes size))
    (immediate w size) (exact-number is_short Short refl (size_bytes size))

abbrev pub zero_number : ℕ → ℕ
zero_number n = little_endian (replicate n 0)

pub IsNumber-zeros : (n : ℕ) → IsNumber n (replicate n 0) (zero_number n)
IsNumber-zeros n = (length-replicate n 0, AreBytes-zeros n, refl)

-- ---- a byte of three fields

pub fields-back : (a b c : ℕ) → a < 4 → b < 8 → c < 8
    → ((64 * a + 8 * b + c) / 64 ≡ a) × ((64 * a + 8 * b + c) / 8 % 8 ≡ b) × ((64 * a + 8 * b + c) % 8 ≡ c)
    × (64 * a + 8 * b + c < 256)
fields-back a b c ha hb hc = (omega arith, omega arith, omega arith, omega arith)

pub fields-of : (m : ℕ) → m < 256 → (m ≡ 64 * (m / 64) + 8 * (m / 8 % 8) + m % 8) × (m / 64 < 4) × (m / 8 % 8 < 8)
    × (m % 8 < 8)
fields-of m h = (omega arith, omega arith, omega arith, omega arith)

-- ---- memory

module _ (gs : Bool) (rex : Option Rex) where
  abbrev sib_mem : ℕ → ℕ → ℤ → Mem
  sib_mem mode s d = record {
    gs = gs;
    base = base_of base.Absent rex mode (rm_field s);
    index =
        index_of rex (mode_field s) (reg_field s);
    disp = d;
  }

  abbrev plain_mem : ℕ → ℕ → ℤ → Mem
  plain_mem mode rm d = record { gs = gs; base = base_of base.Rip rex mode rm; index = None; disp = d }

  abbrev SibTail : ℕ → ℕ → List ℕ → Mem → Type 0
  SibTail mode s bs mem = (d : ℤ) × IsSigned (disp_bytes mode (rm_field s)) bs d × (mem ≡ sib_mem mode s d)

  exact-sib : (mode : ℕ) → Exact is_short (sib_at gs rex mode) (ByteThen (SibTail mode))
  unfolding sib_at
  exact-sib mode =
      exact-byte is_short Short refl
      (λ s bs. disp_at (disp_bytes mode (rm_field s)) bs >>= λ d. Ok (sib_mem mode s d.0, d.1))
      (SibTail mode)
      (λ s fits. exact-map is_short (disp_at (disp_bytes mode (rm_field s))) (IsSigned (disp_bytes mode (rm_field s)))
      (sib_mem mode s) (exact-disp (disp_bytes mode (rm_field s))))
      (let n : ℕ = disp_bytes mode 0 in
      let d : ℤ = signed n (zero_number n) in
      (0, replicate n 0, sib_mem mode 0 d, lit< tt, (d, (zero_number n, IsNumber-zeros n, refl), refl)))

  sib-to : (mode rm : ℕ) → rm ≡ 4 → (bs : List ℕ) (mem : Mem) → ByteThen (SibTail mode) bs mem
      → IsMemory gs rex mode rm bs mem
  sib-to mode rm four bs mem h =
      let f = fields-of h.0 h.2 in
      sib (mode_field h.0) (reg_field h.0) (rm_field h.0) h.1 h.3.0 four f.1 f.2 f.3
      (h.4 ∙ ap (λ (m : ℕ). m ∷ h.1) f.0) h.3.1 h.3.2

  sib-back : (mode rm : ℕ) → rm ≡ 4 → (bs : List ℕ) (mem : Mem) → IsMemory gs rex mode rm bs mem
      → ByteThen (SibTail mode) bs mem
  sib-back mode rm four bs mem (no_sib disp other x num is) = absurd (other four)
  sib-back mode rm four bs mem (sib scale index field rest disp four' hs hi hf bytes num is) =
      let s : ℕ = 64 * scale + 8 * index + field in
      let f = fields-back scale index field hs hi hf in
      let num' : IsSigned (disp_bytes mode (rm_field s)) rest disp =
      subst (λ (k : ℕ). IsSigned (disp_bytes mode k) rest disp) (sym f.2) num in
      let is' : mem ≡ sib_mem mode s disp =
      is ∙ ap (λ (k : ℕ). record {
        gs = gs;
        base = base_of base.Absent rex mode k;
        index =
            index_of rex scale index;
        disp = disp;
      }) (sym f.2)
      ∙ ap (λ (k : ℕ). record {
        gs = gs;
        base = base_of base.Absent rex mode (rm_field s);
        index =
            index_of rex k index;
        disp = disp;
      }) (sym f.0)
      ∙ ap (λ (k : ℕ). record {
        gs = gs;
        base = base_of base.Absent rex mode (rm_field s);
        index =
            index_of rex (mode_field s) k;
        disp = disp;
      }) (sym f.1) in
      (s, rest, f.3, (disp, num', is'), bytes)

  abbrev PlainTail : ℕ → ℕ → List ℕ → Mem → Type 0
  PlainTail mode rm bs mem = (d : ℤ) × IsSigned (disp_bytes mode rm) bs d × (mem ≡ plain_mem mode rm d)

  exact-no_sib : (mode rm : ℕ) → Exact is_short (no_sib_at gs rex mode rm) (PlainTail mode rm)
  unfolding no_sib_at
  exact-no_sib mode rm =
      exact-map is_short (disp_at (disp_bytes mode rm)) (IsSigned (disp_bytes mode rm)) (plain_mem mode rm)
      (exact-disp (disp_bytes mode rm))

  no_sib-back : (mode rm : ℕ) → (rm ≡ 4 → ⊥) → (bs : List ℕ) (mem : Mem) → IsMemory gs rex mode rm bs mem
      → PlainTail mode rm bs mem
  no_sib-back mode rm other bs mem (no_sib disp other' x num is) = (disp, num, is)
  no_sib-back mode rm other bs mem (sib scale index field rest disp four hs hi hf bytes num is) = absurd (other four)

  no_sib-x : (mode rm : ℕ) → (rm ≡ 4 → ⊥) → x_bit rex ≡ true → (bs : List ℕ) (mem : Mem)
      → IsMemory gs rex mode rm bs mem → ⊥
  no_sib-x mode rm other x bs mem (no_sib disp other' x' num is) = let clash : true ≡ false = sym x ∙ x' in cc
  no_sib-x mode rm other x bs mem (sib scale index field rest disp four hs hi hf bytes num is) = other four

  pub exact-memory : (mode rm : ℕ) → Exact is_short (memory_at gs rex mode rm) (IsMemory gs rex mode rm)
  unfolding memory_at
  exact-memory mode rm =
      exact-cases is_short (eqb rm 4) (sib_at gs rex mode)
      (λ bs. cond (x_bit rex) (Err Unknown) (no_sib_at gs rex mode rm bs)) (IsMemory gs rex mode rm)
      (λ e. let four : rm ≡ 4 = eqb-true rm 4 e in
      exact-words is_short (sib_at gs rex mode) (ByteThen (SibTail mode)) (IsMemory gs rex mode rm) (exact-sib mode)
      (sib-to mode rm four) (sib-back mode rm four))
      (λ e. let other : rm ≡ 4 → ⊥ = eqb-false rm 4 e in
      exact-cases is_short (x_bit rex) (λ bs. Err Unknown) (no_sib_at gs rex mode rm) (IsMemory gs rex mode rm)
      (λ x. exact-words is_short (λ bs. Err Unknown) (λ bs mem. ⊥) (IsMemory gs rex mode rm)
      (exact-none is_short Unknown refl)
      (λ bs mem h. absurd h) (λ bs mem h. no_sib-x mode rm other x bs mem h))
      (λ x. exact-words is_short (no_sib_at gs rex mode rm) (PlainTail mode rm) (IsMemory gs rex mode rm)
      (exact-no_sib mode rm)
      (λ bs mem h. no_sib h.0 other x h.1 h.2) (no_sib-back mode rm other)))

  -- ---- any operand rm

  register-to : (mode rm : ℕ) → mode ≡ 3 → (gs || x_bit rex) ≡ false → (bs : List ℕ) (p : Place) → (bs ≡ [])
      × (p ≡ place.Reg (extended (b_bit rex) rm)) → IsRm gs rex mode rm bs p
  register-to mode rm three none bs p h =
      in_register three (or-left gs (x_bit rex) none) (or-right gs (x_bit rex) none) h.0 h.1
    where
      or-left : (a b : Bool) → (a || b) ≡ false → a ≡ false
      or-left true b e = e
      or-left false b e = refl

      or-right : (a b : Bool) → (a || b) ≡ false → b ≡ false
      or-right true b e = absurd cc
      or-right false b e = e

  register-back : (mode rm : ℕ) → mode ≡ 3 → (bs : List ℕ) (p : Place) → IsRm gs rex mode rm bs p
      → ((bs ≡ []) × (p ≡ place.Reg (extended (b_bit rex) rm))) × ((gs || x_bit rex) ≡ false)
  register-back mode rm three bs p (in_register three' g x none is) =
      ((none, is), ap (λ (t : Bool). t || x_bit rex) g ∙ x)
  register-back mode rm three bs p (in_memory mem below h is) = absurd (omega arith)

  memory-to : (mode rm : ℕ) → mode < 3 → (bs : List ℕ) (p : Place) → (mem : Mem) × IsMemory gs rex mode rm bs mem
      × (p ≡ place.Mem mem) → IsRm gs rex mode rm bs p
  memory-to mode rm below bs p h = in_memory h.0 below h.1 h.2

  memory-back : (mode rm : ℕ) → mode < 3 → (bs : List ℕ) (p : Place) → IsRm gs rex mode rm bs p → (mem : Mem)
      × IsMemory gs rex mode rm bs mem × (p ≡ place.Mem mem)
  memory-back mode rm below bs p (in_register three g x none is) = absurd (omega arith)
  memory-back mode rm below bs p (in_memory mem below' h is) = (mem, h, is)

  pub exact-rm : (mode rm : ℕ) → mode < 4 → Exact is_short (rm_at gs rex mode rm) (IsRm gs rex mode rm)
  unfolding rm_at
  exact-rm mode rm range =
      exact-cases is_short (eqb mode 3)
      (λ bs. cond (gs || x_bit rex) (Err Unknown) (Ok (place.Reg (extended (b_bit rex) rm), bs)))
      (λ bs. memory_at gs rex mode rm bs >>= λ m. Ok (place.Mem m.0, m.1))
      (IsRm gs rex mode rm)
      (λ e. let three : mode ≡ 3 = eqb-true mode 3 e in
      exact-cases is_short (gs || x_bit rex) (λ bs. Err Unknown) (λ bs. Ok (place.Reg (extended (b_bit rex) rm), bs))
      (IsRm gs rex mode rm)
      (λ some. exact-words is_short (λ bs. Err Unknown) (λ bs p. ⊥) (IsRm gs rex mode rm)
      (exact-none is_short Unknown refl)
      (λ bs p h. absurd h) (λ bs p h. let clash : true ≡ false = sym some ∙ (register-back mode rm three bs p h).1 in
      cc))
      (λ none. exact-words is_short (λ bs. Ok (place.Reg (extended (b_bit rex) rm), bs))
      (λ bs p. (bs ≡ []) × (p ≡ place.Reg (extended (b_bit rex) rm))) (IsRm gs rex mode rm)
      (exact-pure is_short (place.Reg (extended (b_bit rex) rm))) (register-to mode rm three none)
      (λ bs p h. (register-back mode rm three bs p h).0)))
      (λ e. let other : mode ≡ 3 → ⊥ = eqb-false mode 3 e in
      let below : mode < 3 = omega arith in
      exact-words is_short (λ bs. memory_at gs rex mode rm bs >>= λ m. Ok (place.Mem m.0, m.1))
      (λ bs p. (mem : Mem) × IsMemory gs rex mode rm bs mem × (p ≡ place.Mem mem)) (IsRm gs rex mode rm)
      (exact-map is_short (memory_at gs rex mode rm) (IsMemory gs rex mode rm) place.Mem (exact-memory mode rm))
      (memory-to mode rm below) (memory-back mode rm below))

  -- ---- the ModRM byte and its operand

  -- an operand whose ModRM byte the form takes
  abbrev pub Taken : Form → List ℕ → ℕ × Place → Type 0
  Taken form bs x = (o : IsOperand gs rex x.0 bs x.1) × (takes_modrm form rex o.mode x.0 o.rm ≡ true)

  -- some ModRM byte and what follows it
  abbrev pub SomeOperand : Form → Type 0
  SomeOperand form = (mode : ℕ) × (reg : ℕ) × (rm : ℕ) × (rest : List ℕ) × (p : Place) × (mode < 4) × (reg < 8)
      × (rm < 8) × (takes_modrm form rex mode reg rm ≡ true) × IsRm gs rex mode rm rest p

  abbrev ModRmTail : Form → ℕ → List ℕ → ℕ × Place → Type 0
  ModRmTail form m bs x = (p : Place) × IsRm gs rex (mode_field m) (rm_field m) bs p × (x ≡ (reg_field m, p))
      × (takes_modrm form rex (mode_field m) (reg_field m) (rm_field m) ≡ true)

  exact-modrm : (form : Form) (m : ℕ) → m < 256
      → Exact is_short (λ bs. cond (takes_modrm form rex (mode_field m) (reg_field m) (rm_field m))
      (rm_at gs rex (mode_field m) (rm_field m) bs >>= λ p. Ok ((reg_field m, p.0), p.1)) (Err Unknown))
      (ModRmTail form m)
  exact-modrm form m fits =
      exact-cases is_short (takes_modrm form rex (mode_field m) (reg_field m) (rm_field m))
      (λ bs. rm_at gs rex (mode_field m) (rm_field m) bs >>= λ p. Ok ((reg_field m, p.0), p.1)) (λ bs. Err Unknown)
      (ModRmTail form m)
      (λ takes. exact-words is_short (λ bs. rm_at gs rex (mode_field m) (rm_field m) bs >>= λ p. Ok
      ((reg_field m, p.0), p.1))
      (λ bs x. (p : Place) × IsRm gs rex (mode_field m) (rm_field m) bs p × (x ≡ (reg_field m, p))) (ModRmTail form m)
      (exact-map is_short (rm_at gs rex (mode_field m) (rm_field m)) (IsRm gs rex (mode_field m) (rm_field m))
      (λ (p : Place). (reg_field m, p)) (exact-rm (mode_field m) (rm_field m) (fields-of m fits).1))
      (λ bs x h. (h.0, h.1, h.2, takes)) (λ bs x h. (h.0, h.1, h.2)))
      (λ none. exact-words is_short (λ bs. Err Unknown) (λ bs x. ⊥) (ModRmTail form m)
      (exact-none is_short Unknown refl)
      (λ bs x h. absurd h) (λ bs x h. let clash : true ≡ false = sym h.3 ∙ none in cc))

  operand-to : (form : Form) (bs : List ℕ) (x : ℕ × Place) → ByteThen (ModRmTail form) bs x → Taken form bs x
  operand-to form bs x h =
      let m = h.0 in
      let f = fields-of m h.2 in
      let made : Taken form bs (reg_field m, h.3.0) = (
        record {
          mode = mode_field m;
          rm = rm_field m;
          rest = h.1;
          mode_range = f.1;
          reg_range = f.2;
          rm_range =
              f.3;
          modrm = h.4 ∙ ap (λ (k : ℕ). k ∷ h.1) f.0;
          operand_is = h.3.1;
        },
        h.3.3,
      ) in
      subst (λ (y : ℕ × Place). Taken form bs y) (sym h.3.2) made

  operand-back : (form : Form) (bs : List ℕ) (x : ℕ × Place) → Taken form bs x → ByteThen (ModRmTail form) bs x
  operand-back form bs x h =
      let o = h.0 in
      let m : ℕ = 64 * o.mode + 8 * x.0 + o.rm in
      let f = fields-back o.mode x.0 o.rm o.mode_range o.reg_range o.rm_range in
      let rm1 : IsRm gs rex (mode_field m) o.rm o.rest x.1 =
      subst (λ (k : ℕ). IsRm gs rex k o.rm o.rest x.1) (sym f.0) o.operand_is in
      let rm2 : IsRm gs rex (mode_field m) (rm_field m) o.rest x.1 =
      subst (λ (k : ℕ). IsRm gs rex (mode_field m) k o.rest x.1) (sym f.2) rm1 in
      let takes : takes_modrm form rex (mode_field m) (reg_field m) (rm_field m) ≡ true =
      ap (λ (k : ℕ). takes_modrm form rex k (reg_field m) (rm_field m)) f.0
      ∙ ap (λ (k : ℕ). takes_modrm form rex o.mode k (rm_field m)) f.1
      ∙ ap (λ (k : ℕ). takes_modrm form rex o.mode x.0 k) f.2 ∙ h.1 in
      (m, o.rest, f.3, (x.1, rm2, ap (λ (k : ℕ). (k, x.1)) (sym f.1), takes), o.modrm)

  pub exact-operand : (form : Form) → SomeOperand form → Exact is_short (operand_at form gs rex) (Taken form)
  unfolding operand_at
  exact-operand form some =
      exact-words is_short (operand_at form gs rex) (ByteThen (ModRmTail form)) (Taken form)
      (exact-byte is_short Short refl
      (λ m bs. cond (takes_modrm form rex (mode_field m) (reg_field m) (rm_field m))
      (rm_at gs rex (mode_field m) (rm_field m) bs >>= λ p. Ok ((reg_field m, p.0), p.1)) (Err Unknown))
      (ModRmTail form) (λ m fits. exact-modrm form m fits)
      (let start : Taken form ((64 * some.0 + 8 * some.1 + some.2) ∷ some.3) (some.1, some.4) = (
        record {
          mode = some.0;
          rm = some.2;
          rest = some.3;
          mode_range = some.5;
          reg_range = some.6;
          rm_range =
              some.7;
          modrm = refl;
          operand_is = some.9;
        },
        some.8,
      ) in
      let b = operand-back form ((64 * some.0 + 8 * some.1 + some.2) ∷ some.3) (some.1, some.4) start in
      (b.0, b.1, (some.1, some.4), b.2, b.3)))
      (operand-to form) (operand-back form)
