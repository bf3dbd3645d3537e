-- Operands and their addresses, on both sides in the same order: the base, the index, the displacement, the GS base.
-- The address of an operand in memory is where its value points, and what is loaded there stands for the bytes.
use Rattle.std.proofs.Common.{◌≡◌, ℕ, ◌+◌, ◌*◌, ◌/◌, ◌^◌, ◌<◌, ◌≤◌, inl, inr, Bool, true, false, cond, List, length, get_or, set, All, Option, Some, None, slice_index, get_or-set_same, get_or-set_other, refl, sym, ap, ◌∙◌, subst, arith}
use Rattle.std.specs.Int.{w64, cast_unsigned}
use Rattle.std.proofs.lemmas.Bool.{cases_lt, cases_eq}
use Rattle.std.proofs.lemmas.List.{get_or_past, length-set}
use Rattle.std.proofs.lemmas.List.Elements.{All-get_or, All-set}
use Rattle.kc_words.specs.Flags.{bits_of, cut}
use Rattle.kc_words.specs.declared.width.Width.{Width}
use Rattle.kc_words.specs.declared.width.Width.TheVariants.{Byte, Long, Quad}
use Rattle.kc_bits.specs.KnownBits.{KnownBits}
use Rattle.kc_bits.specs.Bits.{IsValid as AreBitsValid, StandsFor, all_of, bits_add, word}
use Rattle.kc_bits.proofs.Sums.{add_valid, add_sound}
use Rattle.kc_bits.proofs.Whole.{all_stands}
use Rattle.kc_frames.specs.Slots.{slot_count}
use Rattle.kc_insn.specs.declared.insn.Base.{Base}
use Rattle.kc_insn.specs.declared.insn.Base.TheVariants as base
use Rattle.kc_insn.specs.declared.insn.Mem.{Mem}
use Rattle.kc_insn.specs.declared.insn.Reg.{Reg}
use Rattle.kc_insn.specs.declared.insn.Source.{Source}
use Rattle.kc_insn.specs.declared.insn.Source.TheVariants as source
use Rattle.kc_regions.specs.Description.{Description}
use Rattle.kc_regions.specs.Valid.{IsValid}
use Rattle.kc_space.specs.declared.who.Who.{Who}
use Rattle.kc_space.specs.declared.who.Who.TheVariants as who
use Rattle.kc_cpu.specs.declared.cpu.Cpu.{Cpu}
use Rattle.kc_cpu.specs.declared.cpu.Latch.{Latch}
use Rattle.kc_mem.specs.Memory.{Bytes, AreBytes, read}
use Rattle.kc_mem.proofs.NumberLemmas.{read_word}
use Rattle.kc_exec.specs.declared.state.Activation.{Activation}
use Rattle.kc_exec.specs.Moment.{Moment}
use Rattle.kc_exec.specs.Operand as machine
use Rattle.kc_value.specs.AbsValue.{AbsValue}
use Rattle.kc_value.specs.Value.{IsValidValue, Represents, value_top}
use Rattle.kc_value.specs.declared.env.ValueEnv.{ValueEnv}
use Rattle.kc_state.specs.Location.{location_of}
use Rattle.kc_state.specs.Scaled.{IsScaled}
use Rattle.kc_state.specs.Operand.{AbsMoment, register, at_width, load_by, number_value, bits_value, base_value, scaled_bits, effective_by, effective, with_gs_base, linear, load_at, operand}
use Rattle.kc_state.specs.declared.cpu.AbsCpu.{AbsCpu}
use Rattle.kc_state.specs.declared.key.Key.{Key}
use Rattle.kc_state.specs.declared.location.Location.{Location}
use Rattle.kc_state.proofs.ScaleLemmas.{scales}
use Rattle.kc_describes.specs.Chain.{newest_of, env_of}
use Rattle.kc_describes.specs.Fits.{ChainFits}
use Rattle.kc_describes.specs.Places.{address_of, SlotsStand}
use Rattle.kc_describes.specs.Row.{value_at}
use Rattle.kc_describes.specs.Spaces.{IsGsOf}
use Rattle.kc_describes.specs.Widths.{IsWord, IsActivation}
use Rattle.kc_describes.proofs.LoadLemmas.{load_stands, load_valid}
use Rattle.kc_describes.proofs.LocationLemmas.{IsAt, located}
use Rattle.kc_describes.proofs.ScaleLemmas.{scaled_stand, scaled_valid}
use Rattle.kc_describes.proofs.ShiftLemmas.{IsMove, cast_bound, shift_stands}
use Rattle.kc_describes.proofs.StoreLemmas.{placed_fits}
use Rattle.kc_describes.proofs.ValidLemmas.{top_valid, number_valid, bits_valid, width_valid, shifted_valid, all_valid}
use Rattle.kc_describes.proofs.ValueLemmas.{narrow, number_stands, bits_stand, top_stands, width_stands}

-- ---- registers

-- each value is valid and stands for its register
pub record AreRegisters (env : ValueEnv) (values : List AbsValue) (regs : List ℕ) : Type 0 where
  pub count : length values ≡ 16
  pub valid : All IsValidValue values
  pub size : length regs ≡ 16
  pub words : All IsWord regs
  pub stand : (i : ℕ) → i < 16 → Represents (value_at values i) env (slice_index regs i)

pub word_at : (regs : List ℕ) (i : ℕ) → All IsWord regs → slice_index regs i < 2 ^ 64
word_at regs i words = elim (cases_lt i (length regs)) [
  | inl inside ↦ All-get_or IsWord regs i 0 inside words
  | inr past ↦
      let none : slice_index regs i ≡ 0 = get_or_past regs i 0 past in omega (arith, none)
]

pub value_at_valid : (values : List AbsValue) (i : ℕ) → All IsValidValue values → IsValidValue (value_at values i)
value_at_valid values i ok = elim (cases_lt i (length values)) [
  | inl inside ↦ All-get_or IsValidValue values i value_top inside ok
  | inr past ↦ subst IsValidValue (sym (get_or_past values i value_top past)) top_valid
]

-- the value is valid and stands for the word n
pub record IsFor (env : ValueEnv) (v : AbsValue) (n : ℕ) : Type 0 where
  pub valid : IsValidValue v
  pub fits : n < 2 ^ 64
  pub stands : Represents v env n

-- what an instruction sees, on both sides
pub record IsSeen (cfg : Description) (key : Key) (chain : List Activation) (state : AbsCpu) (slots : List AbsValue)
    (cpu : Cpu) (mem : Bytes) (next : ℕ) : Type 0
  where
    pub regs : AreRegisters (env_of cfg chain) state.regs cpu.regs
    pub gs : IsGsOf cfg (env_of cfg chain).user_gs state.gs.active cpu.gs
    pub gs_fits : cpu.gs < 2 ^ 64
    pub next_fits : next < 2 ^ 64
    pub count : length slots ≡ slot_count
    pub slots_valid : All IsValidValue slots
    pub words : SlotsStand cfg key (env_of cfg chain) slots mem
    pub bytes : AreBytes mem

-- an address has a displacement of a signed number of 64 bits and one of the four scales
pub record IsAddress (a : Mem) : Type 0 where
  pub disp : IsMove a.disp
  pub index : IsScaled a.index

abbrev pub IsOperand : Source → Type 0
IsOperand (source.Reg r) = Unit {0}
IsOperand (source.Mem a) = IsAddress a
IsOperand (source.Imm z) = Unit {0}

pub size_is : (w : Width) → bits_of w / 8 ≡ machine.size_of w
size_is Byte = refl
size_is Long = refl
size_is Quad = refl

few_bytes : (w : Width) → bits_of w / 8 ≤ 8
few_bytes Byte = omega arith
few_bytes Long = omega arith
few_bytes Quad = omega arith

module _ (cfg : Description) (valid : IsValid cfg) (key : Key) (chain : List Activation) (F : ChainFits cfg key chain)
    (typed : All IsActivation chain) where
  abbrev base_at : ℕ
  base_at = (newest_of chain).base

  abbrev env : ValueEnv
  env = env_of cfg chain

  pub register_stands : (values : List AbsValue) (regs : List ℕ) (i : ℕ) → AreRegisters env values regs
      → Represents (value_at values i) env (slice_index regs i)
  register_stands values regs i are = elim (cases_lt i 16) [
    | inl inside ↦ are.stand i inside
    | inr past ↦
        let none : value_at values i ≡ value_top = get_or_past values i value_top (omega (arith, past, are.count)) in
        subst (λ v. Represents v env (slice_index regs i)) (sym none)
        (top_stands cfg valid env refl (slice_index regs i))
  ]

  -- a register that takes a value and its number
  pub set_register : (values : List AbsValue) (regs : List ℕ) (r n : ℕ) (v : AbsValue) → AreRegisters env values regs
      → IsValidValue v → n < 2 ^ 64 → Represents v env n → AreRegisters env (set values r v) (set regs r n)
  set_register values regs r n v are ok fits stands = record {
    count = length-set values r v ∙ are.count;
    valid = All-set IsValidValue values r v ok are.valid;
    size = length-set regs r n ∙ are.size;
    words = All-set IsWord regs r n fits are.words;
    stand = λ i inside. elim (cases_eq i r) [
      | inl e ↦ same i inside e
      | inr other ↦ other_register i inside other
    ];
  }
    where
      same : (i : ℕ) → i < 16 → i ≡ r → Represents (value_at (set values r v) i) env (slice_index (set regs r n) i)
      same i inside e =
          let value : value_at (set values r v) i ≡ v =
          ap (λ z. get_or (set values r v) z value_top) e
          ∙ get_or-set_same values r v value_top (omega (arith, e, inside, are.count)) in
          let number : slice_index (set regs r n) i ≡ n =
          ap (λ z. get_or (set regs r n) z 0) e ∙ get_or-set_same regs r n 0 (omega (arith, e, inside, are.size)) in
          subst (λ z. Represents z env (slice_index (set regs r n) i)) (sym value)
          (subst (Represents v env) (sym number) stands)

      other_register : (i : ℕ) → i < 16 → (i ≡ r → ⊥)
          → Represents (value_at (set values r v) i) env (slice_index (set regs r n) i)
      other_register i inside other =
          let value : value_at (set values r v) i ≡ value_at values i = get_or-set_other values r i v value_top other in
          let number : slice_index (set regs r n) i ≡ slice_index regs i = get_or-set_other regs r i n 0 other in
          subst (λ z. Represents z env (slice_index (set regs r n) i)) (sym value)
          (subst (Represents (value_at values i) env) (sym number) (are.stand i inside))

  -- ---- addresses

  module _ (state : AbsCpu) (slots : List AbsValue) (cpu : Cpu) (latch : Latch) (mem : Bytes) (next : ℕ)
      (S : IsSeen cfg key chain state slots cpu mem next) where
    abbrev pub m : AbsMoment
    m = record { d = cfg; key = key; cpu = state; slots = slots; next = next }

    abbrev pub c : Moment
    c = record { cfg = cfg; cpu = cpu; latch = latch; mem = mem; next = next }

    pub register_is : (r : ℕ) → IsFor env (value_at state.regs r) (slice_index cpu.regs r)
    register_is r = record {
      valid = value_at_valid state.regs r S.regs.valid;
      fits = word_at cpu.regs r S.regs.words;
      stands = register_stands state.regs cpu.regs r S.regs;
    }

    pub number_is : (n : ℕ) → n < 2 ^ 64 → IsFor env (number_value cfg n) n
    number_is n fits =
        record { valid = number_valid cfg valid n fits; fits = fits; stands = number_stands cfg valid env refl n fits }

    base_is : (b : Base) → IsFor env (base_value m b) (machine.base_value c b)
    base_is base.Absent = number_is 0 (omega arith)
    base_is base.Rip = number_is next S.next_fits
    base_is (base.Reg r) = register_is r.0

    sum_stands : (one other : KnownBits) (x y : ℕ) → AreBitsValid one → AreBitsValid other → x < 2 ^ 64 → y < 2 ^ 64
        → StandsFor one x → StandsFor other y → StandsFor (bits_add one other) (word (x + y))
    sum_stands one other x y ok also fits low known given = add_sound one other ok also x y fits low known given

    bits_are : (b : KnownBits) (n : ℕ) → AreBitsValid b → n < 2 ^ 64 → StandsFor b n → IsFor env (bits_value cfg b) n
    bits_are b n ok fits known = record {
      valid = bits_valid cfg valid b ok;
      fits = fits;
      stands = bits_stand cfg valid env refl b n ok fits known;
    }

    by_index : (a : Mem) (index : Option (Reg × ℕ)) → IsMove a.disp → IsScaled index
        → IsFor env (effective_by m a index)
        (machine.plus (machine.plus (machine.base_value c a.base) (machine.scaled_index c index))
        (cast_unsigned w64 a.disp))
    by_index a None move scaled =
        let b = base_is a.base in
        let n = machine.base_value c a.base in
        let d = cast_unsigned w64 a.disp in
        let none : word (n + d) ≡ machine.plus (machine.plus n 0) d = omega (arith, b.fits) in
        record {
          valid = shifted_valid cfg valid key (base_value m a.base) a.disp b.valid;
          fits = omega arith;
          stands = subst (Represents (effective_by m a None) env) none
              (shift_stands cfg valid key chain F (base_value m a.base) n a.disp b.valid b.fits b.stands move);
        }
    by_index a (Some i) move scaled =
        let b = base_is a.base in
        let r = register_is i.0.0 in
        let n = machine.base_value c a.base in
        let k = slice_index cpu.regs i.0.0 in
        let d = cast_unsigned w64 a.disp in
        let scale = scales i.1 scaled in
        let product = scaled_bits (register state i.0).bits i.1 in
        let one = bits_add (base_value m a.base).bits product in
        let small = cast_bound a.disp move in
        let first = sum_stands (base_value m a.base).bits product n (word (k * i.1)) b.valid.bits_fit
        (scaled_valid (register state i.0).bits i.1 r.valid.bits_fit scale) b.fits (omega arith) b.stands.bits
        (scaled_stand (register state i.0).bits k i.1 r.stands.bits scale) in
        let whole = sum_stands one (all_of d) (word (n + word (k * i.1))) d
        (add_valid (base_value m a.base).bits product) (all_valid d small) (omega arith) small first
        (all_stands d small) in
        bits_are (bits_add one (all_of d)) (word (word (n + word (k * i.1)) + d)) (add_valid one (all_of d))
        (omega arith) whole

    pub effective_is : (a : Mem) → IsAddress a → IsFor env (effective m a) (machine.effective c a)
    effective_is a is = by_index a a.index is.disp is.index

    with_gs : (who : Who) (v : AbsValue) (n : ℕ) → IsFor env v n → IsGsOf cfg env.user_gs who cpu.gs
        → IsFor env (with_gs_base m who v) (machine.plus n cpu.gs)
    with_gs who.Kernel v n r is =
        let kernel = cfg.cpu.kernel_gs in
        let small = valid.ranges.cpu.kernel_gs.1 in
        let sum = sum_stands v.bits (all_of kernel) n kernel r.valid.bits_fit (all_valid kernel small) r.fits small
        r.stands.bits (all_stands kernel small) in
        let there : word (n + kernel) ≡ machine.plus n cpu.gs = ap (λ z. word (n + z)) (sym is) in
        subst (IsFor env (bits_value cfg (bits_add v.bits (all_of kernel)))) there
        (bits_are (bits_add v.bits (all_of kernel)) (word (n + kernel)) (add_valid v.bits (all_of kernel)) (omega arith)
        sum)
    with_gs who.User v n r is =
        record { valid = top_valid; fits = omega arith; stands = top_stands cfg valid env refl (machine.plus n cpu.gs) }
    with_gs who.Any v n r is =
        record { valid = top_valid; fits = omega arith; stands = top_stands cfg valid env refl (machine.plus n cpu.gs) }

    linear_by : (a : Mem) (gs : Bool) → IsAddress a
        → IsFor env (cond gs (with_gs_base m state.gs.active (effective m a)) (effective m a))
        (machine.plus (machine.effective c a) (cond gs cpu.gs 0))
    linear_by a true is = with_gs state.gs.active (effective m a) (machine.effective c a) (effective_is a is) S.gs
    linear_by a false is =
        let e = effective_is a is in
        let same : machine.effective c a ≡ machine.plus (machine.effective c a) 0 = omega (arith, e.fits) in
        subst (IsFor env (effective m a)) same e

    pub linear_is : (a : Mem) → IsAddress a → IsFor env (linear m a) (machine.linear c a)
    linear_is a is = linear_by a a.gs is

    -- a location of a value is the number
    pub location_is : (v : AbsValue) (n : ℕ) (l : Location) → IsFor env v n → location_of key v ≡ Some l
        → IsAt cfg key base_at n l
    location_is v n l r e =
        located cfg key env.user_gs (newest_of chain) F.fits env refl n r.fits v l r.valid r.stands e

    -- ---- operands

    load_by_option : (w : Width) (v : AbsValue) (n : ℕ) (o : Option Location) → location_of key v ≡ o → IsFor env v n
        → IsFor env (load_at m w o) (read mem n (machine.size_of w))
    load_by_option w v n (Some l) e r =
        let at = location_is v n l r e in
        let stands = load_stands cfg valid key chain F typed mem S.bytes l (placed_fits cfg key base_at l at.0) w slots
        S.count S.slots_valid S.words in
        let size : read mem (address_of base_at l) (bits_of w / 8) ≡ read mem n (machine.size_of w) =
        ap (λ z. read mem z (bits_of w / 8)) at.1 ∙ ap (read mem n) (size_is w) in
        record {
          valid = load_valid cfg valid key l w slots S.slots_valid;
          fits = read_word mem n (machine.size_of w) (subst (λ z. z ≤ 8) (size_is w) (few_bytes w)) S.bytes;
          stands = subst (Represents (load_at m w (Some l)) env) size stands;
        }
    load_by_option w v n None e r = record {
      valid = top_valid;
      fits = read_word mem n (machine.size_of w) (subst (λ z. z ≤ 8) (size_is w) (few_bytes w)) S.bytes;
      stands = top_stands cfg valid env refl (read mem n (machine.size_of w));
    }

    -- what is known of the bytes to which a value points
    pub load_is : (w : Width) (v : AbsValue) (n : ℕ) → IsFor env v n
        → IsFor env (load_by m w v) (read mem n (machine.size_of w))
    load_is w v n r = load_by_option w v n (location_of key v) refl r

    pub width_is : (w : Width) (v : AbsValue) (n : ℕ) → IsFor env v n → IsFor env (at_width cfg w v) (cut w n)
    width_is w v n r = record {
      valid = width_valid cfg valid w v r.valid;
      fits = narrow w n;
      stands = width_stands cfg valid env refl w v n r.valid r.fits r.stands;
    }

    pub operand_is : (w : Width) (src : Source) → IsOperand src → IsFor env (operand m w src) (machine.operand c w src)
    operand_is w (source.Reg r) is = width_is w (value_at state.regs r.0) (slice_index cpu.regs r.0) (register_is r.0)
    operand_is w (source.Mem a) is = load_is w (linear m a) (machine.linear c a) (linear_is a is)
    operand_is w (source.Imm z) is = number_is (cut w (cast_unsigned w64 z)) (narrow w (cast_unsigned w64 z))
