-- What the interrupted user's words are known to be is true of an admitted processor: of its registers nothing is known
-- but that RSP lies in no stack, of the frame what an edit may leave, and of the selectors the user's.
use Rattle.std.proofs.Common.{◌≡◌, ℕ, ◌^◌, ◌<◌, ◌||◌, nat_eq, inl, inr, true, false, get_or, Option, Some, None, refl, sym, subst, arith}
use Rattle.std.specs.Int.{bit_at}
use Rattle.std.proofs.lemmas.Bool.{or_cases, eqb-true, false≢true}
use Rattle.std.proofs.lemmas.Nat.Bits.{bit_at_and, bit_at-lt}
use Rattle.kc_bits.specs.KnownBits.{KnownBits}
use Rattle.kc_bits.specs.Bits.{StandsFor, all_of, nothing_known, bits_joined}
use Rattle.kc_bits.proofs.Whole.{all_stands}
use Rattle.kc_regions.specs.Description.{Description}
use Rattle.kc_regions.specs.Permission.{user_cs64, is_cs32}
use Rattle.kc_regions.specs.Region.{stack_of}
use Rattle.kc_regions.specs.Valid.{IsValid}
use Rattle.kc_cpu.specs.declared.cpu.Cpu.{Cpu}
use Rattle.kc_value.specs.Place.{place_bit}
use Rattle.kc_value.specs.Value.{Represents}
use Rattle.kc_value.specs.declared.env.ValueEnv.{ValueEnv}
use Rattle.kc_state.specs.AbsDelivery.{entry_of, user_cs}
use Rattle.kc_state.specs.Calls.{edited_rsp}
use Rattle.kc_describes.specs.Chain.{words_of}
use Rattle.kc_describes.proofs.ValueLemmas.{anywhere, lies_at}
use Rattle.kc_delivers.proofs.InterruptedLemmas.{entry_env}

-- bits that are known alike on both sides are known on the first, and on the second
joined_left : (a b : KnownBits) (n : ℕ) → StandsFor a n → StandsFor (bits_joined a b) n
joined_left a b n s = λ i. (
  λ z. (s i).0 (omega (arith, z, bit_at_and a.zeros b.zeros i, bit_at-lt a.zeros i)),
  λ o. (s i).1 (omega (arith, o, bit_at_and a.ones b.ones i, bit_at-lt a.ones i)),
)

joined_right : (a b : KnownBits) (n : ℕ) → StandsFor b n → StandsFor (bits_joined a b) n
joined_right a b n s = λ i. (
  λ z. (s i).0 (omega (arith, z, bit_at_and a.zeros b.zeros i, bit_at-lt b.zeros i)),
  λ o. (s i).1 (omega (arith, o, bit_at_and a.ones b.ones i, bit_at-lt b.ones i)),
)

-- the CS of user code
pub cs_stands : (cfg : Description) (cs : ℕ) (cs32 : Option ℕ) → cs < 2 ^ 64
    → (nat_eq cs (user_cs64 cfg.cpu) || is_cs32 cs32 cs) ≡ true → StandsFor (user_cs cfg cs32) cs
cs_stands cfg cs None fits h = elim (or_cases (nat_eq cs (user_cs64 cfg.cpu)) false h) [
  | inl e ↦ subst (λ n. StandsFor (all_of n) cs) (eqb-true cs (user_cs64 cfg.cpu) e) (all_stands cs fits)
  | inr e ↦ absurd (false≢true e)
]
cs_stands cfg cs (Some x) fits h = elim (or_cases (nat_eq cs (user_cs64 cfg.cpu)) (nat_eq cs x) h) [
  | inl e ↦
      joined_left (all_of (user_cs64 cfg.cpu)) (all_of x) cs
      (subst (λ n. StandsFor (all_of n) cs) (eqb-true cs (user_cs64 cfg.cpu) e) (all_stands cs fits))
  | inr e ↦
      joined_right (all_of (user_cs64 cfg.cpu)) (all_of x) cs
      (subst (λ n. StandsFor (all_of n) cs) (eqb-true cs x e) (all_stands cs fits))
]

module _ (cfg : Description) (valid : IsValid cfg) (cpu : Cpu) (user_gs base : ℕ) where
  abbrev env : ValueEnv
  env = entry_env cfg cpu user_gs base

  -- a word by its symbol
  pub entry_stands : (w n : ℕ) (bits : KnownBits) → get_or (words_of cpu) w 0 ≡ n → StandsFor bits n
      → Represents (entry_of w bits) env n
  entry_stands w n bits is s = record { symbol = sym is; bits = s; place = anywhere cfg valid env refl n }

  -- an RSP in no stack
  pub rsp_stands : (n : ℕ) → get_or (words_of cpu) 4 0 ≡ n → StandsFor nothing_known n
      → stack_of cfg.regions n ≡ None → Represents edited_rsp env n
  rsp_stands n is s none = record {
    symbol = sym is;
    bits = s;
    place =
        lies_at cfg valid (2 ^ 16) n (subst (λ o. bit_at (2 ^ 16) (place_bit o) ≡ 1) (sym none) refl);
  }
