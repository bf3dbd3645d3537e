-- The states from which the machine starts. This project's own.
use Rattle.std.specs.Prelude.{ℕ, zero, suc, ◌+◌, ◌-◌, ◌%◌, ◌/◌, ◌^◌, ◌<◌, List, [], ◌∷◌, ◌++◌, map, Any}
use Rattle.std.specs.FinMap as finite
use Rattle.kc_regions.specs.declared.cpu.CpuSetup.{CpuSetup}
use Rattle.kc_regions.specs.declared.entry.Word.{Word}
use Rattle.kc_regions.specs.Description.{Description}
use Rattle.kc_regions.specs.Lookup.{tss_word}
use Rattle.kc_regions.specs.Permission.{user_ss}
use Rattle.kc_cpu.specs.declared.cpu.Cpu.{Cpu}
use Rattle.kc_cpu.specs.declared.cpu.Mode.TheVariants.{User}
use Rattle.kc_mem.specs.Memory.{Bytes, next, put_all}
use Rattle.kc_exec.specs.Admitted.{IsAdmitted, tss_value}
use Rattle.kc_events.specs.declared.turn.UserSet.{UserSet}
use Rattle.kc_events.specs.Delivery.{with_pushed}

-- the user set's processor; SS, the inactive GS base and CR3 are those of the description
abbrev pub first_cpu : Description → UserSet → Cpu
first_cpu cfg u = record {
  regs = u.regs;
  rip = u.rip;
  flags = u.flags;
  cs = u.cs;
  ss = user_ss cfg.cpu;
  gs = u.gs;
  kgs = cfg.cpu.kernel_gs;
  cr3 = cfg.cpu.user_cr3;
  mode = User;
}

-- the words of the TSS with their addresses: RSP0 and IST1 to IST7
abbrev pub tss_words : CpuSetup → List (ℕ × ℕ)
tss_words cpu = map (λ n. (tss_word cpu.tss n, tss_value cpu n)) (0 ∷ 1 ∷ 2 ∷ 3 ∷ 4 ∷ 5 ∷ 6 ∷ 7 ∷ [])

abbrev pub tracked_words : List Word → List (ℕ × ℕ)
tracked_words words = map (λ w. (w.at, w.value)) words

-- all words that the description sets
abbrev pub configured_words : Description → List (ℕ × ℕ)
configured_words cfg = tss_words cfg.cpu ++ tracked_words cfg.words

-- x is one of the word's 8 bytes; addresses wrap at 2^64
abbrev pub IsByteOfWord : ℕ → ℕ × ℕ → Type 0
IsByteOfWord x w = (x + (2 ^ 64 - w.0)) % 2 ^ 64 < 8

-- a write names a byte of a word of the TSS or of a tracked word
abbrev pub NamesConfigured : Description → UserSet → Type 0
NamesConfigured cfg u = Any (λ w. Any (IsByteOfWord w.0) (configured_words cfg)) u.writes

-- the machine starts with this set
pub record MayStart (cfg : Description) (u : UserSet) : Type 0 where
  pub processor : IsAdmitted cfg (first_cpu cfg u)
  pub writes : ¬ NamesConfigured cfg u

-- the configured words, then the set's writes; every other byte is 0
abbrev pub first_bytes : Description → UserSet → Bytes
first_bytes cfg u = put_all (with_pushed finite.empty (configured_words cfg)) u.writes

-- the bytes of the word of n bytes at an address, the least significant first
abbrev pub bytes_of_word : ℕ → ℕ → ℕ → List (ℕ × ℕ)
bytes_of_word zero a v = []
bytes_of_word (suc n) a v = (a, v % 256) ∷ bytes_of_word n (next a) (v / 256)
