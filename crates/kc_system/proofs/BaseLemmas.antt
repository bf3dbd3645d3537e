-- GS bases and CR3 as values and back: what the analysis knows of a base or of CR3 stands for the register, and whose
-- base, or which CR3, a value is said to be is right. The base of the user is that of the oldest activation, whose
-- interrupted processor was admitted.
use Rattle.std.proofs.Common.{◌≡◌, ℕ, ◌^◌, ◌<◌, ◌==◌, ◌||◌, Bool, true, false, not, if◌then◌else◌, List, Option, Some, None, inl, inr, refl, sym, ap, ◌∙◌, subst, arith}
use Rattle.std.specs.Int.{bit_at}
use Rattle.std.proofs.lemmas.Bool.{false≢true, eqb-true, or_cases}
use Rattle.kc_bits.specs.KnownBits.{KnownBits}
use Rattle.kc_bits.specs.Bits.{bits_single}
use Rattle.kc_regions.specs.Description.{Description}
use Rattle.kc_regions.specs.Region.{stack_of}
use Rattle.kc_regions.specs.Valid.{IsValid}
use Rattle.kc_space.specs.Spaces.{is_same_map, WhoStands, MapStands}
use Rattle.kc_space.specs.declared.env.SpaceEnv.{SpaceEnv}
use Rattle.kc_space.specs.declared.map.MapState.{MapState}
use Rattle.kc_space.specs.declared.map.MapState.TheVariants as map
use Rattle.kc_space.specs.declared.who.Who.{Who}
use Rattle.kc_space.specs.declared.who.Who.TheVariants as who
use Rattle.kc_exec.specs.Admitted.{IsAdmitted, IsUserGs}
use Rattle.kc_exec.specs.Breaks.{is_canonical}
use Rattle.kc_exec.specs.Effect.{stored_cr3}
use Rattle.kc_exec.specs.declared.state.Activation.{Activation}
use Rattle.kc_value.specs.AbsValue.{AbsValue}
use Rattle.kc_value.specs.Place.{place_bit}
use Rattle.kc_value.specs.Symbol.{Names}
use Rattle.kc_value.specs.Value.{value_top}
use Rattle.kc_value.specs.declared.env.ValueEnv.{ValueEnv}
use Rattle.kc_value.specs.declared.symbol.Sym.{Sym}
use Rattle.kc_value.specs.declared.symbol.Sym.TheVariants.{Plain, Base, Entry, UserGs}
use Rattle.kc_state.specs.AbsEffect.{user_base, gs_value, is_symbol_user_gs, who_by, is_number, who_of, who_of_bits, cr3_value, map_of}
use Rattle.kc_state.specs.Conditions as known
use Rattle.kc_state.specs.Operand.{number_value}
use Rattle.kc_describes.specs.Chain.{oldest_of, user_gs_of, env_of}
use Rattle.kc_describes.specs.Spaces.{gs_env, cr3_env, IsGsOf, IsCr3Of}
use Rattle.kc_describes.proofs.LocationLemmas.{stack_high}
use Rattle.kc_describes.proofs.OperandLemmas.{IsFor}
use Rattle.kc_describes.proofs.ValidLemmas.{top_valid, number_valid, none_valid}
use Rattle.kc_describes.proofs.ValueLemmas.{single_is, number_stands, top_stands, nothing_stands, anywhere, lies_at}
use Rattle.kc_arith.specs.Covers.{Covers}
use Rattle.kc_arith.proofs.ArithmeticLemmas.{single_is as only_number}
use Rattle.kc_system.proofs.CanonicalLemmas.{canonical_by_bits, low_canonical, low_stands, low_valid}

-- ---- whose base

pub number_is_some : (n : ℕ) (o : Option ℕ) → is_number n o ≡ true → o ≡ Some n
number_is_some n (Some m) e = ap (λ k. Some k) (eqb-true m n e)
number_is_some n None e = absurd (false≢true e)

who_stands : (kernel user : Bool) (env : SpaceEnv) (n : ℕ) → (kernel ≡ true → n ≡ env.kernel)
    → (user ≡ true → n ≡ env.user) → WhoStands (who_by kernel user) env n
who_stands true user env n k u = k refl
who_stands false true env n k u = u refl
who_stands false false env n k u = tt

names_user : (s : Sym) (env : ValueEnv) (n : ℕ) → is_symbol_user_gs s ≡ true → Names s env n → n ≡ env.user_gs
names_user Plain env n e h = absurd (false≢true e)
names_user (Base k) env n e h = absurd (false≢true e)
names_user (Entry w) env n e h = absurd (false≢true e)
names_user UserGs env n e h = h

-- the tests of the effect and of the condition are one
same_test : (s : Sym) → known.is_user_gs s ≡ is_symbol_user_gs s
same_test Plain = refl
same_test (Base k) = refl
same_test (Entry w) = refl
same_test UserGs = refl

-- ---- which CR3

map_stands : (kernel user : Bool) (env : SpaceEnv) (n : ℕ) → (kernel ≡ true → n ≡ env.kernel)
    → (user ≡ true → n ≡ env.user)
    → MapStands (if kernel then map.Kernel else if user then map.User else map.Any) env n
map_stands true user env n k u = k refl
map_stands false true env n k u = u refl
map_stands false false env n k u = tt

one_of_both : (kernel user : Bool)
    → not (is_same_map (if kernel then map.Kernel else if user then map.User else map.Any) map.Any) ≡ true
    → (kernel || user) ≡ true
one_of_both true user e = refl
one_of_both false true e = refl
one_of_both false false e = absurd (false≢true e)

module _ (cfg : Description) where
  map_by : (o : Option ℕ) (n : ℕ) → ((k : ℕ) → o ≡ Some k → n ≡ k) → IsCr3Of cfg (map_of cfg o) (stored_cr3 n)
  map_by (Some k) n single =
      subst (λ v. IsCr3Of cfg (map_of cfg (Some k)) (stored_cr3 v)) (sym (single k refl))
      (map_stands (stored_cr3 k == cfg.cpu.kernel_cr3) (stored_cr3 k == cfg.cpu.user_cr3) (cr3_env cfg) (stored_cr3 k)
      (eqb-true (stored_cr3 k) cfg.cpu.kernel_cr3) (eqb-true (stored_cr3 k) cfg.cpu.user_cr3))
  map_by None n single = tt

  known_by : (o : Option ℕ) (n : ℕ) → ((k : ℕ) → o ≡ Some k → n ≡ k)
      → not (is_same_map (map_of cfg o) map.Any) ≡ true
      → (stored_cr3 n == cfg.cpu.kernel_cr3 || stored_cr3 n == cfg.cpu.user_cr3) ≡ true
  known_by (Some k) n single e =
      subst (λ v. (stored_cr3 v == cfg.cpu.kernel_cr3 || stored_cr3 v == cfg.cpu.user_cr3) ≡ true)
      (sym (single k refl))
      (one_of_both (stored_cr3 k == cfg.cpu.kernel_cr3) (stored_cr3 k == cfg.cpu.user_cr3) e)
  known_by None n single e = absurd (false≢true e)

  -- the map that is said of a value written to CR3, and that it is one of the two
  pub written_map : (env : ValueEnv) (v : AbsValue) (n : ℕ) → IsFor env v n
      → IsCr3Of cfg (map_of cfg (bits_single v.bits)) (stored_cr3 n)
  written_map env v n is = map_by (bits_single v.bits) n (λ k. single_is v env n k is.valid is.fits is.stands)

  pub written_cr3 : (env : ValueEnv) (v : AbsValue) (n : ℕ) → IsFor env v n
      → not (is_same_map (map_of cfg (bits_single v.bits)) map.Any) ≡ true
      → (stored_cr3 n == cfg.cpu.kernel_cr3 || stored_cr3 n == cfg.cpu.user_cr3) ≡ true
  written_cr3 env v n is = known_by (bits_single v.bits) n (λ k. single_is v env n k is.valid is.fits is.stands)

-- ---- the user's base

user_low : (writes : Bool) (n : ℕ) → IsUserGs writes n → writes ≡ false → n < 2 ^ 47
user_low false n h e = h
user_low true n h e = absurd (false≢true (sym e))

user_canonical : (writes : Bool) (n : ℕ) → IsUserGs writes n → is_canonical n ≡ true
user_canonical false n h = low_canonical n h
user_canonical true n h = h

module _ (cfg : Description) (chain : List Activation) where
  -- whose base a value, or known bits, are
  pub who_is : (v : AbsValue) (n : ℕ) → IsFor (env_of cfg chain) v n → IsGsOf cfg (user_gs_of chain) (who_of cfg v) n
  who_is v n is =
      who_stands (is_number cfg.cpu.kernel_gs (bits_single v.bits)) (is_symbol_user_gs v.sym)
      (gs_env cfg (user_gs_of chain)) n
      (λ e. single_is v (env_of cfg chain) n cfg.cpu.kernel_gs is.valid is.fits is.stands
      (number_is_some cfg.cpu.kernel_gs (bits_single v.bits) e))
      (λ e. names_user v.sym (env_of cfg chain) n e is.stands.symbol)

  pub bits_who_is : (b : KnownBits) (n : ℕ) → Covers b n → IsGsOf cfg (user_gs_of chain) (who_of_bits cfg b) n
  bits_who_is b n c =
      who_stands (is_number cfg.cpu.kernel_gs (bits_single b)) false (gs_env cfg (user_gs_of chain)) n
      (λ e. only_number b n cfg.cpu.kernel_gs c
      (number_is_some cfg.cpu.kernel_gs (bits_single b) e))
      (λ e. absurd (false≢true e))

module _ (cfg : Description) (chain : List Activation) (admitted : IsAdmitted cfg (oldest_of chain).saved) where
  pub user_base_low : cfg.cpu.user_gs_writes ≡ false → user_gs_of chain < 2 ^ 47
  user_base_low = user_low cfg.cpu.user_gs_writes (user_gs_of chain) admitted.active

  pub user_base_canonical : is_canonical (user_gs_of chain) ≡ true
  user_base_canonical = user_canonical cfg.cpu.user_gs_writes (user_gs_of chain) admitted.active

  -- a GS base that may be written is canonical
  pub written_canonical : (v : AbsValue) (n : ℕ) → IsFor (env_of cfg chain) v n
      → (known.is_user_gs v.sym || known.is_canonical v.bits) ≡ true → is_canonical n ≡ true
  written_canonical v n is e = elim (or_cases (known.is_user_gs v.sym) (known.is_canonical v.bits) e) [
    | inl user ↦
        let same = names_user v.sym (env_of cfg chain) n (sym (same_test v.sym) ∙ user) is.stands.symbol in
        subst (λ k. is_canonical k ≡ true) (sym same) user_base_canonical
    | inr bits ↦ canonical_by_bits v.bits n is.fits is.stands.bits bits
  ]

module _ (cfg : Description) (valid : IsValid cfg) (chain : List Activation)
    (admitted : IsAdmitted cfg (oldest_of chain).saved) where
  abbrev env : ValueEnv
  env = env_of cfg chain

  -- a number below 2^47 lies in no stack
  outside : (n : ℕ) (o : Option ℕ) → n < 2 ^ 47 → stack_of cfg.regions n ≡ o → bit_at (2 ^ 16) (place_bit o) ≡ 1
  outside n None low e = refl
  outside n (Some s) low e = let high = stack_high cfg s n valid e in absurd (omega (arith, low, high.low))

  base_by : (writes : Bool) (n : ℕ) → IsUserGs writes n → n < 2 ^ 64 → n ≡ user_gs_of chain
      → IsFor env (user_base writes) n
  base_by false n low fits e = record {
    valid = record { sym_fits = tt; bits_fit = low_valid; stacks_fit = omega arith };
    fits = fits;
    stands = record {
      symbol = e;
      bits = low_stands n low;
      place = lies_at cfg valid (2 ^ 16) n (outside n (stack_of cfg.regions n) low refl);
    };
  }
  base_by true n canonical fits e = record {
    valid = record { sym_fits = tt; bits_fit = none_valid; stacks_fit = omega arith };
    fits = fits;
    stands = record { symbol = e; bits = nothing_stands n; place = anywhere cfg valid env refl n };
  }

  number_is : (n k : ℕ) → n < 2 ^ 64 → n ≡ k → IsFor env (number_value cfg k) n
  number_is n k fits e =
      subst (λ z. IsFor env (number_value cfg z) n) e (record {
        valid = number_valid cfg valid n fits;
        fits = fits;
        stands = number_stands cfg valid env refl n fits;
      })

  anything : (n : ℕ) → n < 2 ^ 64 → IsFor env value_top n
  anything n fits = record { valid = top_valid; fits = fits; stands = top_stands cfg valid env refl n }

  -- what is known of a base or of CR3
  pub gs_is : (w : Who) (n : ℕ) → n < 2 ^ 64 → IsGsOf cfg (user_gs_of chain) w n → IsFor env (gs_value cfg w) n
  gs_is who.Kernel n fits e = number_is n cfg.cpu.kernel_gs fits e
  gs_is who.User n fits e =
      base_by cfg.cpu.user_gs_writes n
      (subst (λ k. IsUserGs cfg.cpu.user_gs_writes k) (sym e) admitted.active) fits e
  gs_is who.Any n fits e = anything n fits

  pub cr3_is : (m : MapState) (n : ℕ) → n < 2 ^ 64 → IsCr3Of cfg m n → IsFor env (cr3_value cfg m) n
  cr3_is map.Kernel n fits e = number_is n cfg.cpu.kernel_cr3 fits e
  cr3_is map.User n fits e = number_is n cfg.cpu.user_cr3 fits e
  cr3_is map.Any n fits e = anything n fits
