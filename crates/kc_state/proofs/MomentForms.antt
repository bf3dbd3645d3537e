-- The operands of an instruction are well-formed where what is known before it is, and so is what a store or a call
-- makes of the slots. By cases on operands; over slots by induction on their list.
use Rattle.std.proofs.Common.{ℕ, suc, ◌*◌, ◌/◌, cond, ◌==◌, List, [], ◌∷◌, All, Option, Some, None}
use Rattle.std.specs.Int.{w64, cast_unsigned}
use Rattle.std.proofs.lemmas.List.Elements.{All-nil, All-cons, All-head, All-tail}
use Rattle.kc_bits.specs.Bits.{bits_cut, nothing_known}
use Rattle.kc_frames.specs.Slots.{redone}
use Rattle.kc_insn.specs.Fields.{source_of}
use Rattle.kc_insn.specs.declared.insn.Base.{Base}
use Rattle.kc_insn.specs.declared.insn.Base.TheVariants as base
use Rattle.kc_insn.specs.declared.insn.Mem.{Mem}
use Rattle.kc_insn.specs.declared.insn.Place.{Place}
use Rattle.kc_insn.specs.declared.insn.Reg.{Reg}
use Rattle.kc_insn.specs.declared.insn.Source.{Source}
use Rattle.kc_insn.specs.declared.insn.Source.TheVariants as source
use Rattle.kc_regions.specs.Description.{Description}
use Rattle.kc_regions.specs.Region.{stack_of}
use Rattle.kc_value.specs.AbsValue.{AbsValue}
use Rattle.kc_value.specs.Made.{derived}
use Rattle.kc_value.specs.Value.{value_top}
use Rattle.kc_words.specs.Flags.{bits_of, cut}
use Rattle.kc_words.specs.declared.width.Width.{Width}
use Rattle.kc_state.specs.Location.{location_of}
use Rattle.kc_state.specs.Memory.{bits_from, offset_in, part_of, loaded_or, loaded_from, is_just, hits, stored}
use Rattle.kc_state.specs.Operand.{AbsMoment, register, base_value, indexed_bits, effective_by, effective, linear, load_at, load_by, operand, destination}
use Rattle.kc_state.specs.Places.{word_of, location_stack}
use Rattle.kc_state.specs.WellFormed.{IsWellFormed}
use Rattle.kc_state.specs.declared.key.Key.{Key}
use Rattle.kc_state.specs.declared.location.Location.{Location}
use Rattle.kc_state.proofs.ValueForms.{value_if, derived_formed, bits_formed, number_formed, top_formed, width_formed, shifted_formed, each_read}

pub record IsMomentFormed (m : AbsMoment) : Type 0 where
  pub regs : All (IsWellFormed m.d m.key) m.cpu.regs
  pub flags : IsWellFormed m.d m.key m.cpu.flags
  pub slots : All (IsWellFormed m.d m.key) m.slots

-- ---- loads

part_formed : (d : Description) (key : Key) (size : ℕ) (v : AbsValue) (off : ℕ) → IsWellFormed d key v
    → IsWellFormed d key (part_of d size v off)
part_formed d key size v off h =
    value_if d key (size == 8) v (derived (stack_of d.regions) (bits_cut (8 * size) (bits_from v.bits off))) h
    (derived_formed d key (stack_of d.regions) (bits_cut (8 * size) (bits_from v.bits off)))

or_formed : (d : Description) (key : Key) (size : ℕ) (v rest : AbsValue) (off : Option ℕ) → IsWellFormed d key v
    → IsWellFormed d key rest
    → IsWellFormed d key (loaded_or d size v rest off)
or_formed d key size v rest (Some off) h r = part_formed d key size v off h
or_formed d key size v rest None h r = r

slots_formed : (d : Description) (key : Key) (l : Location) (size i : ℕ) (slots : List AbsValue)
    → All (IsWellFormed d key) slots
    → IsWellFormed d key (loaded_from d key l size i slots)
unfolding loaded_from
slots_formed d key l size i [] h = derived_formed d key (stack_of d.regions) (bits_cut (8 * size) nothing_known)
slots_formed d key l size i (v ∷ vs) h =
    or_formed d key size v (loaded_from d key l size (suc i) vs) (offset_in l size (word_of d key i))
    (All-head (IsWellFormed d key) v vs h)
    (slots_formed d key l size (suc i) vs (All-tail (IsWellFormed d key) v vs h))

pub load_at_formed : (m : AbsMoment) (w : Width) (l : Option Location) → IsMomentFormed m
    → IsWellFormed m.d m.key (load_at m w l)
load_at_formed m w (Some l) h = slots_formed m.d m.key l (bits_of w / 8) 0 m.slots h.slots
load_at_formed m w None h = top_formed m.d m.key

pub load_formed : (m : AbsMoment) (w : Width) (v : AbsValue) → IsMomentFormed m → IsWellFormed m.d m.key (load_by m w v)
load_formed m w v h = load_at_formed m w (location_of m.key v) h

-- ---- operands

pub register_formed : (m : AbsMoment) (r : Reg) → IsMomentFormed m → IsWellFormed m.d m.key (register m.cpu r)
register_formed m r h = each_read m.d m.key m.cpu.regs r.0 h.regs

base_formed : (m : AbsMoment) (b : Base) → IsMomentFormed m → IsWellFormed m.d m.key (base_value m b)
base_formed m base.Absent h = number_formed m.d m.key 0
base_formed m base.Rip h = number_formed m.d m.key m.next
base_formed m (base.Reg r) h = register_formed m r h

by_index_formed : (m : AbsMoment) (a : Mem) (i : Option (Reg × ℕ)) → IsMomentFormed m
    → IsWellFormed m.d m.key (effective_by m a i)
by_index_formed m a None h = shifted_formed m.d m.key (base_value m a.base) a.disp (base_formed m a.base h)
by_index_formed m a (Some i) h = bits_formed m.d m.key (indexed_bits m a i)

pub effective_formed : (m : AbsMoment) (a : Mem) → IsMomentFormed m → IsWellFormed m.d m.key (effective m a)
effective_formed m a h = by_index_formed m a a.index h

pub operand_formed : (m : AbsMoment) (w : Width) (src : Source) → IsMomentFormed m
    → IsWellFormed m.d m.key (operand m w src)
operand_formed m w (source.Reg r) h = width_formed m.d m.key w (register m.cpu r) (register_formed m r h)
operand_formed m w (source.Mem a) h = load_formed m w (linear m a) h
operand_formed m w (source.Imm z) h = number_formed m.d m.key (cut w (cast_unsigned w64 z))

pub destination_formed : (m : AbsMoment) (w : Width) (dest : Place) → IsMomentFormed m
    → IsWellFormed m.d m.key (destination m w dest)
destination_formed m w dest h = operand_formed m w (source_of dest) h

-- ---- changes of slots

pub redone_all : (P Q : AbsValue → Type 0) (f : ℕ → AbsValue → AbsValue) (i : ℕ) (slots : List AbsValue)
    → ((j : ℕ) (v : AbsValue) → P v → Q (f j v)) → All P slots
    → All Q (redone f i slots)
redone_all P Q f i [] each h = All-nil Q
redone_all P Q f i (v ∷ vs) each h =
    All-cons Q (f i v) (redone f (suc i) vs) (each i v (All-head P v vs h))
    (redone_all P Q f (suc i) vs each (All-tail P v vs h))

pub redone_formed : (d : Description) (key : Key) (f : ℕ → AbsValue → AbsValue) (i : ℕ) (slots : List AbsValue)
    → ((j : ℕ) (v : AbsValue) → IsWellFormed d key v → IsWellFormed d key (f j v)) → All (IsWellFormed d key) slots
    → All (IsWellFormed d key) (redone f i slots)
redone_formed d key f i slots each h = redone_all (IsWellFormed d key) (IsWellFormed d key) f i slots each h

pub stored_formed : (d : Description) (key : Key) (l : Location) (size : ℕ) (v : AbsValue) (i : ℕ) (old : AbsValue)
    → IsWellFormed d key v → IsWellFormed d key old → IsWellFormed d key (stored d key l size v i old)
stored_formed d key l size v i old hv h =
    let hit = hits d key (location_stack d key (Some l)) l size i in
    value_if d key (is_just l size (word_of d key i)) v (cond hit value_top old) hv
    (value_if d key hit value_top old (top_formed d key) h)
