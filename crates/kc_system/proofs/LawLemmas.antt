-- The laws as they are stated, by the lemmas on bases, model-specific registers and rows.
use Rattle.std.proofs.Common.{ℕ, List, ap}
use Rattle.kc_insn.specs.declared.insn.Insn.TheVariants.{Swapgs, Rdmsr, Wrmsr, ReadCr3, WriteCr3, ReadGs, WriteGs}
use Rattle.kc_insn.specs.declared.insn.Reg.{Reg}
use Rattle.kc_regions.specs.Description.{Description}
use Rattle.kc_exec.specs.declared.state.Activation.{Activation}
use Rattle.kc_exec.specs.Breaks.{judged, effect}
use Rattle.kc_exec.specs.Effect.{row}
use Rattle.kc_value.specs.AbsValue.{AbsValue}
use Rattle.kc_describes.specs.Chain.{env_of}
use Rattle.kc_describes.specs.Laws.{IsWordOf}
use Rattle.kc_describes.proofs.OperandLemmas.{IsFor}
use Rattle.kc_system.specs.Laws.{UserBaseIsCanonical, BaseValueStands, WhoseBaseIsRight, WrittenBaseIsCanonical, Cr3ValueStands, WrittenMapStands, WrittenCr3IsKnown, WrittenBitsCover, StatusBitsCover, CoversAlways, CoversKnownCr3, CoversAllowed}
use Rattle.kc_system.specs.Forbidden.{BreaksNothing}
use Rattle.kc_system.proofs.BaseLemmas.{user_base_low, user_base_canonical, gs_is, who_is, written_canonical, cr3_is, written_map, written_cr3}
use Rattle.kc_system.proofs.BreakLemmas.{unbroken}
use Rattle.kc_system.proofs.MsrLemmas.{mcip_covers}
use Rattle.kc_system.proofs.RowLemmas.{swapgs_row, read_gs_row, write_gs_row, read_cr3_row, write_cr3_row, rdmsr_row, wrmsr_row, written_covers}

word_is : (cfg : Description) (chain : List Activation) (v : AbsValue) (n : ℕ) → IsFor (env_of cfg chain) v n
    → IsWordOf cfg chain v n
word_is cfg chain v n is = record { valid = is.valid; fits = is.fits; stands = is.stands }

is_word : (cfg : Description) (chain : List Activation) (v : AbsValue) (n : ℕ) → IsWordOf cfg chain v n
    → IsFor (env_of cfg chain) v n
is_word cfg chain v n is = record { valid = is.valid; fits = is.fits; stands = is.stands }

pub user_base : UserBaseIsCanonical
user_base cfg chain admitted = (user_base_low cfg chain admitted, user_base_canonical cfg chain admitted)

pub base_value : BaseValueStands
base_value cfg key chain w n c fits is =
    word_is cfg chain _ n (gs_is cfg c.valid chain c.fits.admitted w n fits is)

pub whose_base : WhoseBaseIsRight
whose_base cfg key chain v n c is = who_is cfg chain v n (is_word cfg chain v n is)

pub written_base : WrittenBaseIsCanonical
written_base cfg key chain v n c is e =
    written_canonical cfg chain c.fits.admitted v n (is_word cfg chain v n is) e

pub cr3_value_stands : Cr3ValueStands
cr3_value_stands cfg key chain m n c fits is = word_is cfg chain _ n (cr3_is cfg c.valid chain c.fits.admitted m n fits is)

pub map_is_written : WrittenMapStands
map_is_written cfg chain v n is = written_map cfg (env_of cfg chain) v n (is_word cfg chain v n is)

pub cr3_is_known : WrittenCr3IsKnown
cr3_is_known cfg chain v n is e = written_cr3 cfg (env_of cfg chain) v n (is_word cfg chain v n is) e

pub written_bits : WrittenBitsCover
written_bits key chain s m K = written_covers key chain s m K

pub status_bits : StatusBitsCover
status_bits t mcip e = mcip_covers t mcip e

pub swapgs : CoversAlways Swapgs
swapgs key chain s m K = swapgs_row key chain s m K

pub read_gs : (r : Reg) → CoversAlways (ReadGs r)
read_gs r key chain s m K = read_gs_row key chain s m K r

pub write_gs : (r : Reg) → CoversAllowed (WriteGs r)
write_gs r key chain s m K e = write_gs_row key chain s m K r e

pub read_cr3 : (r : Reg) → CoversAlways (ReadCr3 r)
read_cr3 r key chain s m K = read_cr3_row key chain s m K r

pub write_cr3 : (r : Reg) → CoversKnownCr3 (WriteCr3 r)
write_cr3 r key chain s m K e = write_cr3_row key chain s m K r e

pub rdmsr : CoversAllowed Rdmsr
rdmsr key chain s m K e = rdmsr_row key chain s m K e

pub wrmsr : CoversAllowed Wrmsr
wrmsr key chain s m K e = wrmsr_row key chain s m K e

pub breaks_nothing : BreaksNothing
unfolding effect
breaks_nothing key chain s m insn K pass unguarded =
    let free = unbroken key chain s m K insn pass unguarded in (free, ap (λ b. judged b (row m insn)) free)
