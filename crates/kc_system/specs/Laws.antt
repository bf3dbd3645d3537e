-- What the definitions of the analysis mean for GS bases, CR3 and model-specific registers, each a law: values that are
-- known of them, whose base or which CR3 a value is, what may be written, and the rows. This project's own.
use Rattle.std.specs.Prelude.{◌≡◌, ℕ, ◌^◌, ◌<◌, List, Bool, true, false, cond, not, ◌||◌, ◌==◌}
use Rattle.kc_bits.specs.Bits.{bits_single}
use Rattle.kc_insn.specs.declared.insn.Insn.{Insn}
use Rattle.kc_regions.specs.Description.{Description}
use Rattle.kc_space.specs.Latches.{TriStands}
use Rattle.kc_space.specs.Spaces.{is_same_map}
use Rattle.kc_space.specs.declared.map.MapState.{MapState}
use Rattle.kc_space.specs.declared.map.MapState.TheVariants as map
use Rattle.kc_space.specs.declared.tri.Tri.{Tri}
use Rattle.kc_space.specs.declared.who.Who.{Who}
use Rattle.kc_exec.specs.Admitted.{IsAdmitted}
use Rattle.kc_exec.specs.Breaks.{is_canonical}
use Rattle.kc_exec.specs.Effect.{stored_cr3, edx_eax}
use Rattle.kc_exec.specs.Moment.{Moment}
use Rattle.kc_exec.specs.declared.state.Activation.{Activation}
use Rattle.kc_value.specs.AbsValue.{AbsValue}
use Rattle.kc_state.specs.AbsEffect as known
use Rattle.kc_state.specs.AbsEffect.{gs_value, who_of, cr3_value, map_of, mcg_bits}
use Rattle.kc_state.specs.Conditions.{is_user_gs, is_canonical as is_known_canonical, loads_known_cr3, is_allowed}
use Rattle.kc_state.specs.declared.key.Key.{Key}
use Rattle.kc_state.specs.declared.state.AbsState.{AbsState}
use Rattle.kc_arith.specs.Covers.{Covers}
use Rattle.kc_describes.specs.Chain.{oldest_of, user_gs_of}
use Rattle.kc_describes.specs.Laws.{IsContext, IsWordOf}
use Rattle.kc_describes.specs.Spaces.{IsGsOf, IsCr3Of}
use Rattle.kc_system.specs.System.{known_moment, IsKernelMoment, IsCovered}

-- ---- GS bases

-- the user's base is canonical, and below 2^47 where user code can't write it
abbrev pub UserBaseIsCanonical : Type 0
UserBaseIsCanonical = (cfg : Description) (chain : List Activation) → IsAdmitted cfg (oldest_of chain).saved
    → (cfg.cpu.user_gs_writes ≡ false → user_gs_of chain < 2 ^ 47) × (is_canonical (user_gs_of chain) ≡ true)

-- what is known of a base, by whose it is, stands for it
abbrev pub BaseValueStands : Type 0
BaseValueStands = (cfg : Description) (key : Key) (chain : List Activation) (w : Who) (n : ℕ) → IsContext cfg key chain
    → n < 2 ^ 64 → IsGsOf cfg (user_gs_of chain) w n → IsWordOf cfg chain (gs_value cfg w) n

-- whose base a value is said to be, its number is
abbrev pub WhoseBaseIsRight : Type 0
WhoseBaseIsRight = (cfg : Description) (key : Key) (chain : List Activation) (v : AbsValue) (n : ℕ)
    → IsContext cfg key chain → IsWordOf cfg chain v n → IsGsOf cfg (user_gs_of chain) (who_of cfg v) n

-- the user's base, or a value whose bits 47 to 63 are known alike, is canonical
abbrev pub WrittenBaseIsCanonical : Type 0
WrittenBaseIsCanonical = (cfg : Description) (key : Key) (chain : List Activation) (v : AbsValue) (n : ℕ)
    → IsContext cfg key chain → IsWordOf cfg chain v n → (is_user_gs v.sym || is_known_canonical v.bits) ≡ true
    → is_canonical n ≡ true

-- ---- CR3

abbrev pub Cr3ValueStands : Type 0
Cr3ValueStands = (cfg : Description) (key : Key) (chain : List Activation) (m : MapState) (n : ℕ)
    → IsContext cfg key chain → n < 2 ^ 64 → IsCr3Of cfg m n → IsWordOf cfg chain (cr3_value cfg m) n

-- which CR3 a value is said to be, it is without bit 63
abbrev pub WrittenMapStands : Type 0
WrittenMapStands = (cfg : Description) (chain : List Activation) (v : AbsValue) (n : ℕ) → IsWordOf cfg chain v n
    → IsCr3Of cfg (map_of cfg (bits_single v.bits)) (stored_cr3 n)

-- and where it is said, it is one of the two
abbrev pub WrittenCr3IsKnown : Type 0
WrittenCr3IsKnown = (cfg : Description) (chain : List Activation) (v : AbsValue) (n : ℕ) → IsWordOf cfg chain v n
    → not (is_same_map (map_of cfg (bits_single v.bits)) map.Any) ≡ true
    → (stored_cr3 n == cfg.cpu.kernel_cr3 || stored_cr3 n == cfg.cpu.user_cr3) ≡ true

-- ---- model-specific registers

-- what is known of EDX:EAX covers it
abbrev pub WrittenBitsCover : Type 0
WrittenBitsCover = (key : Key) (chain : List Activation) (s : AbsState) (m : Moment) → IsKernelMoment key chain s m
    → Covers (known.edx_eax (known_moment key s m).cpu) (edx_eax m.cpu)

-- what is known of IA32_MCG_STATUS covers it, by what is known of MCIP
abbrev pub StatusBitsCover : Type 0
StatusBitsCover = (t : Tri) (mcip : Bool) → TriStands t mcip → Covers (mcg_bits t) (cond mcip 4 0)

-- ---- rows

-- the instruction is covered wherever kernel code runs it
abbrev pub CoversAlways : Insn → Type 0
CoversAlways insn = (key : Key) (chain : List Activation) (s : AbsState) (m : Moment) → IsKernelMoment key chain s m
    → IsCovered key chain s m insn

-- and where C9 holds
abbrev pub CoversKnownCr3 : Insn → Type 0
CoversKnownCr3 insn = (key : Key) (chain : List Activation) (s : AbsState) (m : Moment) → IsKernelMoment key chain s m
    → loads_known_cr3 (known_moment key s m) insn ≡ true → IsCovered key chain s m insn

-- and where C11 holds
abbrev pub CoversAllowed : Insn → Type 0
CoversAllowed insn = (key : Key) (chain : List Activation) (s : AbsState) (m : Moment) → IsKernelMoment key chain s m
    → is_allowed (known_moment key s m) insn ≡ true → IsCovered key chain s m insn
