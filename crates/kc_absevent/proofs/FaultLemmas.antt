-- Whether an access of an instruction may raise a page fault, an equation an instruction: by its reads, and by its
-- store, which is at the place of the destination. A destination that is read and written counts once.
use Rattle.std.proofs.Common.{◌≡◌, ℕ, ◌%◌, Bool, true, false, cond, ◌&&◌, ◌||◌, ◌++◌, Option, Some, None, refl, ap, ◌∙◌}
use Rattle.std.specs.List.{list_any}
use Rattle.std.proofs.lemmas.List.Folds.{list_any-append}
use Rattle.kc_bits.specs.KnownBits.{KnownBits}
use Rattle.kc_insn.specs.Fields.{source_of}
use Rattle.kc_insn.specs.declared.insn.AluOp.{AluOp}
use Rattle.kc_insn.specs.declared.insn.AluOp.TheVariants as alu
use Rattle.kc_insn.specs.declared.insn.BitOp.{BitOp}
use Rattle.kc_insn.specs.declared.insn.Insn.TheVariants.{Mov, Xchg, Push, Pop, Popfq, Pushfq, Ret, Call, Alu, Test, Bit}
use Rattle.kc_insn.specs.declared.insn.Place.{Place}
use Rattle.kc_insn.specs.declared.insn.Place.TheVariants as place
use Rattle.kc_insn.specs.declared.insn.Reg.{Reg}
use Rattle.kc_insn.specs.declared.insn.Source.{Source}
use Rattle.kc_value.specs.AbsValue.{AbsValue}
use Rattle.kc_words.specs.declared.width.Width.{Width}
use Rattle.kc_words.specs.declared.width.Width.TheVariants.{Quad}
use Rattle.kc_state.specs.AbsEffect.{AbsStore, abs_row, store_of, operated, alu_change, cancels, is_same_reg, pushed, with_popped_rsp, bit_result}
use Rattle.kc_state.specs.AbsEvents.{may_fault_at, faults, may_fault}
use Rattle.kc_state.specs.Conditions.{read_of, stack_read, write_of}
use Rattle.kc_state.specs.Location.{location_of}
use Rattle.kc_state.specs.Flags.{bit_flags}
use Rattle.kc_state.specs.Operand.{AbsMoment, destination}
use Rattle.kc_words.specs.Flags.{bits_of}
use Rattle.kc_bits.specs.Bits.{bits_cut}

or_false : (b : Bool) → (b || false) ≡ b
or_false true = refl
or_false false = refl

or_same : (b : Bool) → (b || b) ≡ b
or_same true = refl
or_same false = refl

-- b was counted already
or_again : (a b : Bool) → ((a || b) || a) ≡ (a || b)
or_again true b = refl
or_again false b = or_false b

-- the reads of the source and of the destination
abbrev pub source_faults : AbsMoment → Width → Source → Bool
source_faults m w src = list_any (faults m) (read_of m w src)

abbrev pub place_faults : AbsMoment → Width → Place → Bool
place_faults m w dest = source_faults m w (source_of dest)

abbrev pub push_faults : AbsMoment → Bool
push_faults m = may_fault_at m.d m.key (location_of m.key (pushed m)) 8

-- the store is at the place of the destination
store_faults : (m : AbsMoment) (w : Width) (dest : Place) (v : AbsValue)
    → list_any (faults m) (write_of (store_of m w dest v)) ≡ place_faults m w dest
store_faults m w (place.Reg r) v = refl
store_faults m w (place.Mem a) v = refl

operated_faults : (m : AbsMoment) (w : Width) (dest : Place) (flags : KnownBits) (v : Option AbsValue) (b : Bool)
    → ((place_faults m w dest || b) || list_any (faults m) (write_of (operated m w dest flags v).store))
    ≡ (place_faults m w dest || b)
operated_faults m w dest flags None b = or_false (place_faults m w dest || b)
operated_faults m w dest flags (Some v) b =
    ap (λ (x : Bool). (place_faults m w dest || b) || x) (store_faults m w dest v)
    ∙ or_again (place_faults m w dest) b

pub mov_faults : (m : AbsMoment) (w : Width) (dest : Place) (src : Source)
    → may_fault m (Mov w dest src) ≡ (source_faults m w src || place_faults m w dest)
unfolding abs_row
mov_faults m w dest src =
    list_any-append (faults m) (read_of m w src) (write_of (abs_row m (Mov w dest src)).store)
    ∙ ap (λ (x : Bool). source_faults m w src || x) (store_faults m w dest _)

pub xchg_faults : (m : AbsMoment) (w : Width) (dest : Place) (src : Reg)
    → may_fault m (Xchg w dest src) ≡ place_faults m w dest
unfolding abs_row
xchg_faults m w dest src =
    list_any-append (faults m) (read_of m w (source_of dest)) (write_of (abs_row m (Xchg w dest src)).store)
    ∙ ap (λ (x : Bool). place_faults m w dest || x) (store_faults m w dest _)
    ∙ or_same (place_faults m w dest)

pub push_each : (m : AbsMoment) (src : Source)
    → may_fault m (Push src) ≡ (source_faults m Quad src || push_faults m)
unfolding abs_row
push_each m src =
    list_any-append (faults m) (read_of m Quad src) (write_of (abs_row m (Push src)).store)
    ∙ ap (λ (x : Bool). source_faults m Quad src || x) (or_false (push_faults m))

pub pop_each : (m : AbsMoment) (dest : Place) → may_fault m (Pop dest)
    ≡ (faults m (stack_read m 0) || place_faults (record m { cpu = with_popped_rsp m }) Quad dest)
unfolding abs_row
pop_each m (place.Reg r) = refl
pop_each m (place.Mem a) =
    ap (λ (x : Bool). faults m (stack_read m 0) || x) refl

pub popfq_faults : (m : AbsMoment) → may_fault m Popfq ≡ faults m (stack_read m 0)
unfolding abs_row
popfq_faults m = or_false (faults m (stack_read m 0))

pub ret_faults : (m : AbsMoment) → may_fault m Ret ≡ faults m (stack_read m 0)
unfolding abs_row
ret_faults m = or_false (faults m (stack_read m 0))

pub pushfq_faults : (m : AbsMoment) → may_fault m Pushfq ≡ push_faults m
unfolding abs_row
pushfq_faults m = or_false (push_faults m)

pub call_faults : (m : AbsMoment) (target : ℕ) → may_fault m (Call target) ≡ push_faults m
unfolding abs_row
call_faults m target = or_false (push_faults m)

alu_store : (m : AbsMoment) (op : AluOp) (w : Width) (dest : Place) (x y : AbsValue) (b : Bool)
    → ((place_faults m w dest || b) || list_any (faults m) (write_of (alu_change m op w dest x y).store))
    ≡ (place_faults m w dest || b)
alu_store m alu.Cmp w dest x y b = operated_faults m w dest m.cpu.flags.bits None b
alu_store m alu.Add w dest x y b = operated_faults m w dest m.cpu.flags.bits (Some _) b
alu_store m alu.Or w dest x y b = operated_faults m w dest m.cpu.flags.bits (Some _) b
alu_store m alu.And w dest x y b = operated_faults m w dest m.cpu.flags.bits (Some _) b
alu_store m alu.Sub w dest x y b = operated_faults m w dest m.cpu.flags.bits (Some _) b
alu_store m alu.Xor w dest x y b = operated_faults m w dest m.cpu.flags.bits (Some _) b

alu_choice : (m : AbsMoment) (op : AluOp) (w : Width) (dest : Place) (z x y : AbsValue) (b c : Bool)
    → ((place_faults m w dest || b)
    || list_any (faults m) (write_of (cond c (alu_change m op w dest z z) (alu_change m op w dest x y)).store))
    ≡ (place_faults m w dest || b)
alu_choice m op w dest z x y b true = alu_store m op w dest z z b
alu_choice m op w dest z x y b false = alu_store m op w dest x y b

two_reads : (m : AbsMoment) (w : Width) (dest : Place) (src : Source) (store : Option AbsStore)
    → list_any (faults m) ((read_of m w (source_of dest) ++ read_of m w src) ++ write_of store)
    ≡ ((place_faults m w dest || source_faults m w src) || list_any (faults m) (write_of store))
two_reads m w dest src store =
    list_any-append (faults m) (read_of m w (source_of dest) ++ read_of m w src) (write_of store)
    ∙ ap (λ (x : Bool). x || list_any (faults m) (write_of store))
    (list_any-append (faults m) (read_of m w (source_of dest)) (read_of m w src))

pub alu_faults : (m : AbsMoment) (op : AluOp) (w : Width) (dest : Place) (src : Source)
    → may_fault m (Alu op w dest src) ≡ (place_faults m w dest || source_faults m w src)
unfolding abs_row
alu_faults m op w dest src =
    two_reads m w dest src (abs_row m (Alu op w dest src)).store
    ∙ alu_choice m op w dest _ _ _ (source_faults m w src) (cancels op && is_same_reg dest src)

pub test_faults : (m : AbsMoment) (w : Width) (dest : Place) (src : Source)
    → may_fault m (Test w dest src) ≡ (place_faults m w dest || source_faults m w src)
unfolding abs_row
test_faults m w dest src =
    two_reads m w dest src (abs_row m (Test w dest src)).store
    ∙ or_false (place_faults m w dest || source_faults m w src)

operated_alone : (m : AbsMoment) (w : Width) (dest : Place) (flags : KnownBits) (v : Option AbsValue)
    → (place_faults m w dest || list_any (faults m) (write_of (operated m w dest flags v).store))
    ≡ place_faults m w dest
operated_alone m w dest flags None = or_false (place_faults m w dest)
operated_alone m w dest flags (Some v) =
    ap (λ (x : Bool). place_faults m w dest || x) (store_faults m w dest v) ∙ or_same (place_faults m w dest)

pub bit_faults : (m : AbsMoment) (op : BitOp) (w : Width) (dest : Place) (number : ℕ)
    → may_fault m (Bit op w dest number) ≡ place_faults m w dest
unfolding abs_row
bit_faults m op w dest number =
    list_any-append (faults m) (read_of m w (source_of dest)) (write_of (abs_row m (Bit op w dest number)).store)
    ∙ operated_alone m w dest
    (bit_flags (number % bits_of w) (bits_cut (bits_of w) (destination m w dest).bits) m.cpu.flags.bits)
    (bit_result m op (number % bits_of w) (bits_cut (bits_of w) (destination m w dest).bits))
