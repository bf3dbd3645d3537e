-- Which bytes an event leaves as they are, this project's own: by the stacks and the words that it may write.
use Rattle.std.specs.Prelude.{◌≡◌, ℕ, ◌-◌, ◌^◌, ◌<◌, cond, nat_lt, true, ◌⊎◌, List, Option, Some}
use Rattle.kc_bits.specs.Bits.{word}
use Rattle.kc_frames.specs.Clobber.{HasStack, HasWord}
use Rattle.kc_frames.specs.ClobberSets.{ClobberSets}
use Rattle.kc_mem.specs.Memory.{Bytes, byte}
use Rattle.kc_regions.specs.Description.{Description}
use Rattle.kc_regions.specs.Layout.{InBytes}
use Rattle.kc_regions.specs.Lookup.{tss_word}
use Rattle.kc_regions.specs.Permission.{in_guard}
use Rattle.kc_regions.specs.Region.{stack_of}
use Rattle.kc_exec.specs.Live.{IsLive}
use Rattle.kc_exec.specs.declared.state.Activation.{Activation}
use Rattle.kc_state.specs.Places.{tracked_word}
use Rattle.kc_state.specs.declared.location.Location.{Location}
use Rattle.kc_state.specs.declared.location.Location.TheVariants.{Number}

-- words 0 to 7 are RSP0 and IST1 to IST7 of the TSS, and those from 8 on the configuration's
abbrev pub fixed_word : Description → ℕ → Option Location
fixed_word cfg w = cond (nat_lt w 8) (Some (Number (word (tss_word cfg.cpu.tss w)))) (tracked_word cfg (w - 8))

-- the byte at x is one of the 8 bytes of word w
pub record IsInWord (cfg : Description) (w x : ℕ) : Type 0 where
  pub few : w < 40
  pub at : ℕ
  pub is : fixed_word cfg w ≡ Some (Number at)
  pub byte : InBytes x at 8

-- the byte at x lies in a stack that isn't in the clobber
abbrev pub IsInOtherStack : Description → ClobberSets → ℕ → Type 0
IsInOtherStack cfg clobber x = (s : ℕ) × (stack_of cfg.regions x ≡ Some s) × ¬ HasStack clobber s

-- the byte at x lies in a word that isn't in the clobber
abbrev pub IsInOtherWord : Description → ClobberSets → ℕ → Type 0
IsInOtherWord cfg clobber x = (w : ℕ) × IsInWord cfg w x × ¬ HasWord clobber w

-- The byte at x may not differ: it is live, lies in a guard, or in a stack or a word that isn't in the clobber.
abbrev pub IsKept : Description → ClobberSets → List Activation → ℕ → Type 0
IsKept cfg clobber chain x =
    IsLive cfg chain x ⊎ ((in_guard cfg.regions x ≡ true)
    ⊎ (IsInOtherStack cfg clobber x ⊎ IsInOtherWord cfg clobber x))

-- no byte that may not differ does
abbrev pub Keeps : Description → ClobberSets → List Activation → Bytes → Bytes → Type 0
Keeps cfg clobber chain old new = (x : ℕ) → x < 2 ^ 64 → IsKept cfg clobber chain x → byte new x ≡ byte old x
