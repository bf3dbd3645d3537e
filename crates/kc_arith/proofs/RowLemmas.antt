-- The rows of arithmetic, of bit tests, of branches and of the flag instructions: what is known after each covers what
-- it leaves. Flags are covered by the laws on flags, results by those on results, and both go into the processor by one
-- lemma for all operations. A sum or difference with a value relative to the base is the one premise on moves.
use Rattle.std.proofs.Common.{◌≡◌, ℕ, zero, suc, ◌+◌, ◌%◌, ◌^◌, ◌<◌, Bool, true, false, ◌&&◌, ℤ, pos, negsuc, neg_ℤ, List, [], ◌++◌, get_or, Option, Some, None, bit_and, bit_or, refl, sym, ap, ◌∙◌, subst, inl, inr, arith}
use Rattle.std.specs.Prelude.{if◌then◌else◌, FitsSigned, IfSome, slice_index, slice_set}
use Rattle.std.proofs.lemmas.Bool.{false≢true, cases_eq, and_parts, eqb-true}
use Rattle.std.proofs.lemmas.Int.{ints, of_z-to_z}
use Rattle.std.proofs.lemmas.List.{length-set, get_or-set_same, get_or-set_other}
use Rattle.std.proofs.lemmas.Nat.{pow_pos, mod_below}
use Rattle.std.specs.Int.{w64, bit_at, cast_unsigned, cast_signed, bit_not}
use Rattle.kc_words.specs.Flags.{bits_of, cut, difference}
use Rattle.kc_words.specs.declared.width.Width.{Width}
use Rattle.kc_words.specs.declared.width.Width.TheVariants.{Byte, Long, Quad}
use Rattle.kc_bits.specs.KnownBits.{KnownBits}
use Rattle.kc_bits.specs.Bits.{IsValid, word, flipped, all_of, bits_and, bits_or, bits_cut, bits_single}
use Rattle.kc_bits.specs.BitsLaws.{Has}
use Rattle.kc_insn.specs.Fields.{source_of}
use Rattle.kc_insn.specs.declared.insn.AluOp.{AluOp}
use Rattle.kc_insn.specs.declared.insn.AluOp.TheVariants as alu
use Rattle.kc_insn.specs.declared.insn.BitOp.{BitOp}
use Rattle.kc_insn.specs.declared.insn.BitOp.TheVariants as bits
use Rattle.kc_insn.specs.declared.insn.Insn.TheVariants.{Alu, Test, Bit, Jcc, Jmp, Cli, Cld, Clac, Stac, Sti, Popfq}
use Rattle.kc_insn.specs.declared.insn.Place.{Place}
use Rattle.kc_insn.specs.declared.insn.Place.TheVariants as place
use Rattle.kc_insn.specs.declared.insn.Reg.{Reg}
use Rattle.kc_insn.specs.declared.insn.Source.{Source}
use Rattle.kc_insn.specs.declared.insn.Source.TheVariants as source
use Rattle.kc_space.specs.Latches.{TriStands}
use Rattle.kc_space.specs.declared.tri.Tri.{Tri}
use Rattle.kc_space.specs.declared.tri.Tri.TheVariants.{No, Yes, Any}
use Rattle.kc_value.specs.AbsValue.{AbsValue}
use Rattle.kc_value.specs.Value.{Represents, value_top}
use Rattle.kc_value.specs.declared.env.ValueEnv.{ValueEnv}
use Rattle.kc_value.proofs.MadeLemmas.{constant_stands}
use Rattle.kc_regions.specs.Region.{stack_of}
use Rattle.kc_state.specs.AbsEffect.{AbsChange, goes as known_goes, falls as known_falls, with_flags, operated as known_operated, is_based, is_quad, moved_base, moved_or, alu_value, alu_result as known_result, alu_change, is_same_reg, cancels, bit_result as known_bit_result, branch, loaded_flags, rsp as known_rsp, stack_word as known_stack_word, abs_row}
use Rattle.kc_state.specs.Flags.{alu_bits, alu_flags as known_alu_flags, bit_flags as known_bit_flags, set_flag, clear_flag, holds as known_holds}
use Rattle.kc_state.specs.Operand.{AbsMoment, register as known_register, number_value, bits_value, at_width, destination as known_destination, operand as known_operand}
use Rattle.kc_state.specs.Shift.{shifted}
use Rattle.kc_state.specs.declared.succ.Succ.{Succ}
use Rattle.kc_state.specs.declared.succ.Succ.TheVariants.{Jumps}
use Rattle.kc_exec.specs.Admitted.{model_flags}
use Rattle.kc_exec.specs.Change.{goes, falls, operated, stack_word}
use Rattle.kc_exec.specs.Effect.{alu_flags, alu_result, bit_flags, bit_result, row}
use Rattle.kc_exec.specs.Moment.{Moment}
use Rattle.kc_exec.specs.Operand.{plus, destination, operand, reads_of}
use Rattle.kc_exec.specs.RFlags.{if_mask, df_mask, ac_mask, loadable, loaded, holds, with_set, with_clear}
use Rattle.kc_exec.specs.Register.{register, rsp}
use Rattle.kc_exec.specs.declared.access.Access.{Access}
use Rattle.kc_arith.specs.Covers.{Covers, CoversOperand, SamePlaces, StandsAt, AreModelled}
use Rattle.kc_arith.specs.Rows.{FileStands, Finds, IsWritable, OperandStands, MovesStand, IsMove, IsMovable, ResultStands, LeadsTo, CoversChange}
use Rattle.kc_arith.proofs.WidthLemmas.{below_word, cut_fits, bits_represent, value_stands, width_represents, put_represents}
use Rattle.kc_arith.proofs.ResultLemmas.{outcome}
use Rattle.kc_arith.proofs.ArithmeticLemmas.{single_is, operation_covers, result_covers, self_result, self_flags_after}
use Rattle.kc_arith.proofs.BitLemmas.{all_covers, bit_flags_cover, set_covers, reset_covers}
use Rattle.kc_arith.proofs.ConditionLemmas.{holds_stands, gap_stands}
use Rattle.kc_arith.proofs.ModelLemmas.{set_stands, clear_stands, loaded_stands, loaded_modelled, alu_modelled, bit_modelled, set_modelled, clear_modelled}

-- ---- the processor

module _ (env : ValueEnv) (known : AbsMoment) (m : Moment) (finds : Finds env known m) where
  -- new flags
  flags_file : (b : KnownBits) (f : ℕ) → Covers b f
      → FileStands env known.cpu.regs (bits_value known.d b) m.cpu.regs f
  flags_file b f c = record {
    known_count = finds.file.known_count;
    count = finds.file.count;
    words = finds.file.words;
    registers = finds.file.registers;
    flags_fit = c.fits;
    rflags = bits_represent known.d env b f finds.places c;
  }

  -- one register
  put_file : (values : List AbsValue) (fv : AbsValue) (regs : List ℕ) (f : ℕ) (r : Reg) (v : AbsValue) (n : ℕ)
      → r.0 < 16 → n < 2 ^ 64 → Represents v env n → FileStands env values fv regs f
      → FileStands env (slice_set values r.0 v) fv (slice_set regs r.0 n) f
  put_file values fv regs f r v n few fits h file = record {
    known_count = length-set values r.0 v ∙ file.known_count;
    count = length-set regs r.0 n ∙ file.count;
    words = λ i k. elim (cases_eq i r.0) [
      | inl e ↦ subst (λ (w : ℕ). w < 2 ^ 64) (sym (number i e)) fits
      | inr other ↦ subst (λ (w : ℕ). w < 2 ^ 64) (sym (other_number i other)) (file.words i k)
    ];
    registers = λ i k. elim (cases_eq i r.0) [
      | inl e ↦
          subst (λ (u : AbsValue). Represents u env (slice_index (slice_set regs r.0 n) i)) (sym (value i e))
          (subst (Represents v env) (sym (number i e)) h)
      | inr other ↦
          subst (λ (u : AbsValue). Represents u env (slice_index (slice_set regs r.0 n) i)) (sym (other_value i other))
          (subst (Represents (get_or values i value_top) env) (sym (other_number i other)) (file.registers i k))
    ];
    flags_fit = file.flags_fit;
    rflags = file.rflags;
  }
    where
      value : (i : ℕ) → i ≡ r.0 → get_or (slice_set values r.0 v) i value_top ≡ v
      value i e =
          ap (λ (j : ℕ). get_or (slice_set values r.0 v) j value_top) e
          ∙ get_or-set_same values r.0 v value_top (omega (arith, file.known_count, few))

      number : (i : ℕ) → i ≡ r.0 → slice_index (slice_set regs r.0 n) i ≡ n
      number i e =
          ap (λ (j : ℕ). slice_index (slice_set regs r.0 n) j) e
          ∙ get_or-set_same regs r.0 n 0 (omega (arith, file.count, few))

      other_value : (i : ℕ) → (i ≡ r.0 → ⊥) → get_or (slice_set values r.0 v) i value_top ≡ get_or values i value_top
      other_value i other = get_or-set_other values r.0 i v value_top other

      other_number : (i : ℕ) → (i ≡ r.0 → ⊥) → slice_index (slice_set regs r.0 n) i ≡ slice_index regs i
      other_number i other = get_or-set_other regs r.0 i n 0 other

  -- flags and a result, or flags alone
  operated_covers : (w : Width) (dest : Place) (reads : List Access) (b : KnownBits) (f : ℕ) (v : Option AbsValue)
      (r : Option ℕ) → IsWritable dest → Covers b f → (AreModelled m.cpu.flags → AreModelled f)
      → ResultStands env w v r
      → CoversChange env known m (known_operated known w dest b v) (operated m w dest reads f r)
  operated_covers w dest reads b f None None ok c modelled h = record {
    file = flags_file b f c;
    rest = record { gs = refl; map = refl; known_latches = refl; cpu = refl; latch = refl; end = refl };
    store = tt;
    next = refl;
    shadow = refl;
    modelled = modelled;
  }
  operated_covers w (place.Reg d) reads b f (Some v) (Some n) ok c modelled h = record {
    file =
        put_file known.cpu.regs (bits_value known.d b) m.cpu.regs f d (at_width known.d w v) n ok
        (below_word w n h.0)
        (put_represents known.d env w v n finds.places (value_stands env w v n h.0 h.1)) (flags_file b f c);
    rest = record { gs = refl; map = refl; known_latches = refl; cpu = refl; latch = refl; end = refl };
    store = tt;
    next = refl;
    shadow = refl;
    modelled = modelled;
  }
  operated_covers w (place.Mem a) reads b f (Some v) (Some n) ok c modelled h = record {
    file = flags_file b f c;
    rest = record { gs = refl; map = refl; known_latches = refl; cpu = refl; latch = refl; end = refl };
    store = record { size = refl; gs = refl; value = value_stands env w v n h.0 h.1 };
    next = refl;
    shadow = refl;
    modelled = modelled;
  }
  operated_covers w dest reads b f None (Some n) ok c modelled h = absurd h
  operated_covers w dest reads b f (Some v) None ok c modelled h = absurd h

-- ---- values of results

quad_of : (w : Width) → is_quad w ≡ true → w ≡ Quad
quad_of Byte e = absurd (false≢true e)
quad_of Long e = absurd (false≢true e)
quad_of Quad e = refl

-- a word that is taken away is the opposite signed number that is added
minus_signed : (x : ℕ) (z : ℤ) → 0 < cast_unsigned w64 z → cast_unsigned w64 z < 2 ^ 64
    → word (x + cast_unsigned w64 (neg_ℤ z)) ≡ difference 64 x (cast_unsigned w64 z)
minus_signed x (pos zero) low high = absurd (omega (arith, low))
minus_signed x (pos (suc n)) low high = omega (arith, low, high)
minus_signed x (negsuc n) low high = omega (arith, low, high)

minus_word : (x n : ℕ) → n < 2 ^ 64 → word (x + cast_unsigned w64 (neg_ℤ (cast_signed w64 n))) ≡ difference 64 x n
minus_word x zero hn = omega arith
minus_word x (suc n) hn =
    let same : cast_unsigned w64 (cast_signed w64 (suc n)) ≡ suc n = of_z-to_z w64 (suc n) hn in
    minus_signed x (cast_signed w64 (suc n)) (omega (arith, same)) (omega (arith, same, hn))
    ∙ ap (difference 64 x) same

-- both are moves
signed_fits : (n : ℕ) → n < 2 ^ 64 → FitsSigned w64 (cast_signed w64 n)
signed_fits n hn = omega (arith, ints, hn)

minus_moves : (n : ℕ) → n < 2 ^ 64 → IsMove (neg_ℤ (cast_signed w64 n))
minus_moves n hn = elim (cases_eq n (2 ^ 63)) [
  | inl e ↦ inr (ap (λ (k : ℕ). neg_ℤ (cast_signed w64 k)) e)
  | inr other ↦ inl (omega (arith, ints, hn, other, signed_fits n hn, of_z-to_z w64 n hn))
]

module _ (env : ValueEnv) (known : AbsMoment) (places : SamePlaces known.d env) where
  -- by the test whether the base moves
  by_move : (test : Bool) (op : AluOp) (v : AbsValue) (number : Option ℕ) (b : KnownBits) (r : ℕ)
      → (test ≡ true → (n : ℕ) → number ≡ Some n → Represents (moved_base known op v n b) env r)
      → Represents (bits_value known.d b) env r → Represents (moved_or known test op v number b) env r
  by_move true op v (Some n) b r moves h = moves refl n refl
  by_move true op v None b r moves h = h
  by_move false op v (Some n) b r moves h = h
  by_move false op v None b r moves h = h

  moved_stands : (op : AluOp) (v : AbsValue) (x n : ℕ) (b : KnownBits) → n < 2 ^ 64
      → MovesStand env known v x → Represents (bits_value known.d b) env (outcome op Quad x n)
      → Represents (moved_base known op v n b) env (outcome op Quad x n)
  moved_stands alu.Add v x n b hn moves h =
      subst (λ (k : ℕ). Represents (moved_base known alu.Add v n b) env (word (x + k))) (of_z-to_z w64 n hn)
      (moves (cast_signed w64 n) (inl (signed_fits n hn)))
  moved_stands alu.Or v x n b hn moves h = h
  moved_stands alu.And v x n b hn moves h = h
  moved_stands alu.Sub v x n b hn moves h =
      subst (Represents (moved_base known alu.Sub v n b) env) (minus_word x n hn)
      (moves (neg_ℤ (cast_signed w64 n)) (minus_moves n hn))
  moved_stands alu.Xor v x n b hn moves h = h
  moved_stands alu.Cmp v x n b hn moves h = h

  -- the result of an operation, also of one that moves the base
  value_represents : (op : AluOp) (w : Width) (v u : AbsValue) (x y : ℕ) → StandsAt env w v x → StandsAt env w u y
      → IsValid u.bits → IsMovable env known w v x
      → CoversOperand w (alu_bits op (bits_of w) (bits_cut (bits_of w) v.bits) (bits_cut (bits_of w) u.bits))
      (outcome op w x y) → Represents (alu_value known op w v u) env (outcome op w x y)
  value_represents op w v u x y sv su valid movable c =
      by_move (is_quad w && is_based v.sym) op v (bits_single u.bits)
      (alu_bits op (bits_of w) (bits_cut (bits_of w) v.bits) (bits_cut (bits_of w) u.bits)) (outcome op w x y)
      (λ e n is.
      let parts = and_parts (is_quad w) (is_based v.sym) e in
      moves (quad_of w parts.0) parts.1 n is) bits_stand
    where
      bits_stand : Represents (bits_value known.d (alu_bits op (bits_of w) (bits_cut (bits_of w) v.bits)
          (bits_cut (bits_of w) u.bits))) env (outcome op w x y)
      bits_stand =
          bits_represent known.d env
          (alu_bits op (bits_of w) (bits_cut (bits_of w) v.bits) (bits_cut (bits_of w) u.bits)) (outcome op w x y)
          places c.covers

      -- the number that moves is the operand
      moves : w ≡ Quad → is_based v.sym ≡ true → (n : ℕ) → bits_single u.bits ≡ Some n
          → Represents (moved_base known op v n (alu_bits op (bits_of w) (bits_cut (bits_of w) v.bits)
          (bits_cut (bits_of w) u.bits))) env (outcome op w x y)
      moves quad based n is =
          let fits : y < 2 ^ 64 = subst (λ (z : Width). y < 2 ^ bits_of z) quad su.bits.fits in
          let same : y ≡ n =
          single_is u.bits y n (record { valid = valid; fits = fits; stands = (su.whole quad).bits }) is in
          let r : KnownBits = alu_bits op (bits_of w) (bits_cut (bits_of w) v.bits) (bits_cut (bits_of w) u.bits) in
          let there : Represents (moved_base known op v y r) env (outcome op Quad x y) =
          moved_stands op v x y r fits (movable based quad)
          (subst (λ (z : Width). Represents (bits_value known.d r) env (outcome op z x y)) quad bits_stand) in
          subst (λ (k : ℕ). Represents (moved_base known op v k r) env (outcome op w x y)) same
          (subst (λ (z : Width). Represents (moved_base known op v y r) env (outcome op z x y)) (sym quad) there)

  result_stands : (op : AluOp) (w : Width) (v u : AbsValue) (x y : ℕ) → StandsAt env w v x → StandsAt env w u y
      → IsValid u.bits → IsMovable env known w v x
      → ResultStands env w (known_result known op w v u) (alu_result op w x y)
  result_stands op w v u x y sv su valid movable = by_op op
    where
      stands : (o : AluOp)
          → CoversOperand w (alu_bits o (bits_of w) (bits_cut (bits_of w) v.bits) (bits_cut (bits_of w) u.bits))
          (outcome o w x y)
          → (outcome o w x y < 2 ^ bits_of w) × Represents (alu_value known o w v u) env (outcome o w x y)
      stands o c = (c.fits, value_represents o w v u x y sv su valid movable c)

      covered : (o : AluOp) → IfSome (alu_result o w x y)
          (CoversOperand w (alu_bits o (bits_of w) (bits_cut (bits_of w) v.bits) (bits_cut (bits_of w) u.bits)))
      covered o = result_covers o w v.bits u.bits x y sv.bits su.bits

      by_op : (o : AluOp) → ResultStands env w (known_result known o w v u) (alu_result o w x y)
      by_op alu.Add = stands alu.Add (covered alu.Add)
      by_op alu.Or = stands alu.Or (covered alu.Or)
      by_op alu.And = stands alu.And (covered alu.And)
      by_op alu.Sub = stands alu.Sub (covered alu.Sub)
      by_op alu.Xor = stands alu.Xor (covered alu.Xor)
      by_op alu.Cmp = tt

  -- a number as a value
  number_represents : (n : ℕ) → n < 2 ^ 64 → Represents (number_value known.d n) env n
  number_represents n fits = constant_stands n (stack_of known.d.regions n) env fits (places n fits)

  bit_result_stands : (op : BitOp) (w : Width) (v : AbsValue) (x i : ℕ) → i < bits_of w → StandsAt env w v x
      → ResultStands env w (known_bit_result known op i (bits_cut (bits_of w) v.bits)) (bit_result op i x)
  bit_result_stands bits.«Test» w v x i h s = tt
  bit_result_stands bits.Set w v x i h s =
      let c = set_covers w v.bits x i h s.bits in (
        c.fits,
        bits_represent known.d env (bits_or (bits_cut (bits_of w) v.bits) (all_of (2 ^ i))) (bit_or x (2 ^ i))
            places c.covers,
      )
  bit_result_stands bits.Reset w v x i h s =
      let c = reset_covers w v.bits x i s.bits in (
        c.fits,
        bits_represent known.d env (bits_and (bits_cut (bits_of w) v.bits) (all_of (flipped (2 ^ i))))
            (bit_and x (bit_not w64 (2 ^ i))) places c.covers,
      )

-- ---- rows

same_operand : (m : Moment) (w : Width) (dest : Place) (src : Source) → is_same_reg dest src ≡ true
    → operand m w src ≡ destination m w dest
same_operand m w (place.Reg d) (source.Reg r) e =
    ap (λ (i : ℕ). cut w (slice_index m.cpu.regs i)) (sym (eqb-true d.0 r.0 e))
same_operand m w (place.Reg d) (source.Mem a) e = absurd (false≢true e)
same_operand m w (place.Reg d) (source.Imm z) e = absurd (false≢true e)
same_operand m w (place.Mem a) src e = absurd (false≢true e)

branch_leads : (t : Tri) (p : Bool) (next target : ℕ) → TriStands t p
    → LeadsTo next (branch t target) (if◌then◌else◌ {A = ℕ} p target next)
branch_leads Yes true next target h = refl
branch_leads Yes false next target h = absurd (false≢true h)
branch_leads No true next target h = absurd (false≢true (sym h))
branch_leads No false next target h = refl
branch_leads Any true next target h = inr refl
branch_leads Any false next target h = inl refl

module _ (env : ValueEnv) (known : AbsMoment) (m : Moment) (finds : Finds env known m) where
  change_covers : (op : AluOp) (w : Width) (dest : Place) (reads : List Access) (v u : AbsValue) (x y : ℕ)
      → IsWritable dest → StandsAt env w v x → StandsAt env w u y → IsValid u.bits → IsMovable env known w v x
      → CoversChange env known m (alu_change known op w dest v u)
      (operated m w dest reads (alu_flags op w x y m.cpu.flags) (alu_result op w x y))
  change_covers op w dest reads v u x y ok sv su valid movable =
      operated_covers env known m finds w dest reads
      (known_alu_flags op (bits_of w) (bits_cut (bits_of w) v.bits) (bits_cut (bits_of w) u.bits) known.cpu.flags.bits)
      (alu_flags op w x y m.cpu.flags) (known_result known op w v u) (alu_result op w x y) ok
      (operation_covers op w v.bits u.bits known.cpu.flags.bits x y m.cpu.flags sv.bits su.bits finds.file.rflags.bits)
      (alu_modelled op w x y m.cpu.flags)
      (result_stands env known finds.places op w v u x y sv su valid movable)

  zero_stands : (w : Width) → StandsAt env w (number_value known.d 0) 0
  zero_stands w =
      value_stands env w (number_value known.d 0) 0 (pow_pos (bits_of w))
      (number_represents env known finds.places 0 (omega arith))

  -- an operation of a register with itself, which cancels it
  self_covers : (op : AluOp) (w : Width) (dest : Place) (reads : List Access) (x y : ℕ) → IsWritable dest
      → cancels op ≡ true → y ≡ x
      → CoversChange env known m (alu_change known op w dest (number_value known.d 0) (number_value known.d 0))
      (operated m w dest reads (alu_flags op w x y m.cpu.flags) (alu_result op w x y))
  self_covers op w dest reads x y ok e same =
      let change : AbsChange = alu_change known op w dest (number_value known.d 0) (number_value known.d 0) in
      let flags : alu_flags op w 0 0 m.cpu.flags ≡ alu_flags op w x y m.cpu.flags =
      sym (self_flags_after op w x m.cpu.flags e) ∙ ap (λ (k : ℕ). alu_flags op w x k m.cpu.flags) (sym same) in
      let result : alu_result op w 0 0 ≡ alu_result op w x y =
      self_result op w 0 e ∙ sym (self_result op w x e) ∙ ap (alu_result op w x) (sym same) in
      let zero : CoversChange env known m change
      (operated m w dest reads (alu_flags op w 0 0 m.cpu.flags) (alu_result op w 0 0)) =
      change_covers op w dest reads (number_value known.d 0) (number_value known.d 0) 0 0 ok (zero_stands w)
      (zero_stands w) (all_covers 0 (omega arith)).valid (λ based. absurd (false≢true based)) in
      subst (λ (r : Option ℕ). CoversChange env known m change
      (operated m w dest reads (alu_flags op w x y m.cpu.flags) r)) result
      (subst (λ (f : ℕ). CoversChange env known m change (operated m w dest reads f (alu_result op w 0 0))) flags zero)

  pub alu_row : (op : AluOp) (w : Width) (dest : Place) (src : Source) → IsWritable dest
      → OperandStands env known m w (source_of dest) → OperandStands env known m w src
      → IsValid (known_operand known w src).bits
      → IsMovable env known w (known_destination known w dest) (destination m w dest)
      → CoversChange env known m (abs_row known (Alu op w dest src)) (row m (Alu op w dest src))
  unfolding abs_row row
  alu_row op w dest src ok sd ss valid movable = by_same (cancels op && is_same_reg dest src) refl
    where
      by_same : (t : Bool) → (cancels op && is_same_reg dest src) ≡ t
          → CoversChange env known m (if◌then◌else◌ {A = AbsChange} t
          (alu_change known op w dest (number_value known.d 0) (number_value known.d 0))
          (alu_change known op w dest (known_destination known w dest) (known_operand known w src)))
          (operated m w dest (reads_of m w (source_of dest) ++ reads_of m w src)
          (alu_flags op w (destination m w dest) (operand m w src) m.cpu.flags)
          (alu_result op w (destination m w dest) (operand m w src)))
      by_same true e =
          let parts = and_parts (cancels op) (is_same_reg dest src) e in
          self_covers op w dest (reads_of m w (source_of dest) ++ reads_of m w src) (destination m w dest)
          (operand m w src) ok parts.0 (same_operand m w dest src parts.1)
      by_same false e =
          change_covers op w dest (reads_of m w (source_of dest) ++ reads_of m w src)
          (known_destination known w dest) (known_operand known w src) (destination m w dest) (operand m w src) ok sd ss
          valid movable

  pub test_row : (w : Width) (dest : Place) (src : Source) → IsWritable dest
      → OperandStands env known m w (source_of dest) → OperandStands env known m w src
      → CoversChange env known m (abs_row known (Test w dest src)) (row m (Test w dest src))
  unfolding abs_row row
  test_row w dest src ok sd ss =
      operated_covers env known m finds w dest (reads_of m w (source_of dest) ++ reads_of m w src)
      (known_alu_flags alu.And (bits_of w) (bits_cut (bits_of w) (known_destination known w dest).bits)
      (bits_cut (bits_of w) (known_operand known w src).bits) known.cpu.flags.bits)
      (alu_flags alu.And w (destination m w dest) (operand m w src) m.cpu.flags) None None ok
      (operation_covers alu.And w (known_destination known w dest).bits (known_operand known w src).bits
      known.cpu.flags.bits (destination m w dest) (operand m w src) m.cpu.flags sd.bits ss.bits
      finds.file.rflags.bits)
      (alu_modelled alu.And w (destination m w dest) (operand m w src) m.cpu.flags) tt

  pub bit_row : (op : BitOp) (w : Width) (dest : Place) (number : ℕ) → IsWritable dest
      → OperandStands env known m w (source_of dest)
      → CoversChange env known m (abs_row known (Bit op w dest number)) (row m (Bit op w dest number))
  unfolding abs_row row
  bit_row op w dest number ok sd =
      operated_covers env known m finds w dest (reads_of m w (source_of dest))
      (known_bit_flags (number % bits_of w) (bits_cut (bits_of w) (known_destination known w dest).bits)
      known.cpu.flags.bits)
      (bit_flags (number % bits_of w) (destination m w dest) m.cpu.flags)
      (known_bit_result known op (number % bits_of w) (bits_cut (bits_of w) (known_destination known w dest).bits))
      (bit_result op (number % bits_of w) (destination m w dest)) ok
      (bit_flags_cover (number % bits_of w) (bits_cut (bits_of w) (known_destination known w dest).bits)
      known.cpu.flags.bits (destination m w dest) m.cpu.flags sd.bits.known finds.file.rflags.bits)
      (bit_modelled (number % bits_of w) (destination m w dest) m.cpu.flags)
      (bit_result_stands env known finds.places op w (known_destination known w dest) (destination m w dest)
      (number % bits_of w) (mod_below number (bits_of w) (some_bits w)) sd)
    where
      some_bits : (w : Width) → 0 < bits_of w
      some_bits Byte = omega arith
      some_bits Long = omega arith
      some_bits Quad = omega arith

  -- nothing but the program's place
  goes_covers : (succ : Succ) (target : ℕ) → LeadsTo m.next succ target
      → CoversChange env known m (known_goes known succ known.cpu None) (goes m target m.cpu [] None)
  goes_covers succ target leads = record {
    file = finds.file;
    rest = record { gs = refl; map = refl; known_latches = refl; cpu = refl; latch = refl; end = refl };
    store = tt;
    next = leads;
    shadow = refl;
    modelled = λ f. f;
  }

  pub jcc_row : (code target : ℕ) → CoversChange env known m (abs_row known (Jcc code target)) (row m (Jcc code target))
  unfolding abs_row row
  jcc_row code target =
      goes_covers (branch (known_holds code known.cpu.flags.bits) target)
      (if◌then◌else◌ {A = ℕ} (holds code m.cpu.flags) target m.next)
      (branch_leads (known_holds code known.cpu.flags.bits) (holds code m.cpu.flags) m.next target
      (holds_stands known.cpu.flags.bits m.cpu.flags finds.file.rflags.bits code))

  pub jmp_row : (target : ℕ) → CoversChange env known m (abs_row known (Jmp target)) (row m (Jmp target))
  unfolding abs_row row
  jmp_row target = goes_covers (Jumps target) target refl

  -- new flags alone
  falls_covers : (b : KnownBits) (f : ℕ) → Covers b f → (AreModelled m.cpu.flags → AreModelled f)
      → CoversChange env known m (known_falls known (with_flags known b known.cpu) None)
      (falls m (record m.cpu { flags = f }) [] None)
  falls_covers b f c modelled = record {
    file = flags_file env known m finds b f c;
    rest = record { gs = refl; map = refl; known_latches = refl; cpu = refl; latch = refl; end = refl };
    store = tt;
    next = refl;
    shadow = refl;
    modelled = modelled;
  }

  cleared_covers : (mask : ℕ) → mask < 2 ^ 64 → bit_at mask 1 ≡ 0
      → CoversChange env known m
      (known_falls known (with_flags known (clear_flag mask known.cpu.flags.bits) known.cpu) None)
      (falls m (record m.cpu { flags = with_clear m.cpu.flags mask }) [] None)
  cleared_covers mask fits e =
      falls_covers (clear_flag mask known.cpu.flags.bits) (with_clear m.cpu.flags mask)
      (clear_stands known.cpu.flags.bits mask m.cpu.flags fits finds.file.rflags.bits)
      (clear_modelled mask m.cpu.flags fits e)

  set_covers_change : (mask : ℕ) → mask < 2 ^ 64 → Has model_flags mask
      → CoversChange env known m
      (known_falls known (with_flags known (set_flag mask known.cpu.flags.bits) known.cpu) None)
      (falls m (record m.cpu { flags = with_set m.cpu.flags mask }) [] None)
  set_covers_change mask fits part =
      falls_covers (set_flag mask known.cpu.flags.bits) (with_set m.cpu.flags mask)
      (set_stands known.cpu.flags.bits mask m.cpu.flags fits finds.file.flags_fit finds.file.rflags.bits)
      (set_modelled mask m.cpu.flags part)

  pub cli_row : CoversChange env known m (abs_row known Cli) (row m Cli)
  unfolding abs_row row
  cli_row = cleared_covers if_mask (omega arith) refl

  pub cld_row : CoversChange env known m (abs_row known Cld) (row m Cld)
  unfolding abs_row row
  cld_row = cleared_covers df_mask (omega arith) refl

  pub clac_row : CoversChange env known m (abs_row known Clac) (row m Clac)
  unfolding abs_row row
  clac_row = cleared_covers ac_mask (omega arith) refl

  pub stac_row : CoversChange env known m (abs_row known Stac) (row m Stac)
  unfolding abs_row row
  stac_row = set_covers_change ac_mask (omega arith) refl

  pub sti_row : CoversChange env known m (abs_row known Sti) (row m Sti)
  unfolding abs_row row
  sti_row =
      let set = set_covers_change if_mask (omega arith) refl in
      record {
        file = set.file;
        rest = record { gs = refl; map = refl; known_latches = refl; cpu = refl; latch = refl; end = refl };
        store = set.store;
        next = set.next;
        shadow = gap_stands known.cpu.flags.bits m.cpu.flags finds.file.rflags.bits;
        modelled = set.modelled;
      }

  pub popfq_row : MovesStand env known (known_register known.cpu known_rsp) (register m.cpu rsp)
      → Represents (known_stack_word known) env (stack_word m 0)
      → CoversChange env known m (abs_row known Popfq) (row m Popfq)
  unfolding abs_row row
  popfq_row moves word_stands =
      let b : KnownBits = loaded_flags (known_stack_word known).bits in
      let f : ℕ = loaded loadable (stack_word m 0) in
      let up : FitsSigned w64 (pos 8) = omega (arith, ints) in
      let c : Covers b f = loaded_stands (known_stack_word known).bits (stack_word m 0) word_stands.bits in
      record {
        file =
            put_file env known m finds known.cpu.regs (bits_value known.d b) m.cpu.regs f known_rsp
            (shifted known.d known.key (known_register known.cpu known_rsp) (pos 8)) (plus (register m.cpu rsp) 8)
            (omega arith) (omega arith) (moves (pos 8) (inl up)) (flags_file env known m finds b f c);
        rest = record { gs = refl; map = refl; known_latches = refl; cpu = refl; latch = refl; end = refl };
        store = tt;
        next = refl;
        shadow = refl;
        modelled = λ old. loaded_modelled (stack_word m 0);
      }

  -- ---- operands that aren't in memory

  pub register_stands : (w : Width) (r : Reg) → r.0 < 16 → OperandStands env known m w (source.Reg r)
  register_stands w r ok =
      value_stands env w (at_width known.d w (known_register known.cpu r)) (cut w (register m.cpu r))
      (cut_fits w (register m.cpu r))
      (width_represents known.d env w (known_register known.cpu r) (register m.cpu r) finds.places
      (finds.file.words r.0 ok) (finds.file.registers r.0 ok))

  pub immediate_stands : (w : Width) (z : ℤ) → OperandStands env known m w (source.Imm z)
  immediate_stands w z =
      let n : ℕ = cut w (cast_unsigned w64 z) in
      value_stands env w (number_value known.d n) n (cut_fits w (cast_unsigned w64 z))
      (number_represents env known finds.places n (below_word w n (cut_fits w (cast_unsigned w64 z))))
