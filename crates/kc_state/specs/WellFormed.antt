-- Well-formed values of a context, this project's own: what every table keeps of its states.
use Rattle.std.specs.Prelude.{◌≡◌, ◌≢◌, All, IfSome}
use Rattle.kc_bits.specs.Bits.{bits_single, nothing_known}
use Rattle.std.specs.Int.{bit_at}
use Rattle.kc_regions.specs.Description.{Description}
use Rattle.kc_regions.specs.Region.{stack_of}
use Rattle.kc_value.specs.AbsValue.{AbsValue}
use Rattle.kc_value.specs.declared.symbol.Sym.{Sym}
use Rattle.kc_value.specs.declared.symbol.Sym.TheVariants.{Plain, Base, Entry, UserGs}
use Rattle.kc_state.specs.declared.key.Key.{Key}
use Rattle.kc_state.specs.declared.state.AbsState.{AbsState}
use Rattle.kc_state.specs.declared.user.UserState.{UserState}

-- A value of the base knows no bit. One of the user's GS base doesn't know bit 0. The interrupted RSP with all bits
-- known is a number in the stack of the key, or in none where the key has none.
abbrev pub IsSymbolWellFormed : Description → Key → AbsValue → Sym → Type 0
IsSymbolWellFormed d key v Plain = Unit {0}
IsSymbolWellFormed d key v (Base k) = v.bits ≡ nothing_known
IsSymbolWellFormed d key v UserGs = (bit_at v.bits.zeros 0 ≡ 0) × (bit_at v.bits.ones 0 ≡ 0)
IsSymbolWellFormed d key v (Entry w) = w ≡ 4 → IfSome (bits_single v.bits) (λ n. stack_of d.regions n ≡ key.stack)

pub record IsWellFormed (d : Description) (key : Key) (v : AbsValue) : Type 0 where
  pub symbol : IsSymbolWellFormed d key v v.sym
  pub somewhere : v.stacks ≢ 0

pub record IsStateWellFormed (d : Description) (key : Key) (s : AbsState) : Type 0 where
  pub regs : All (IsWellFormed d key) s.regs
  pub flags : IsWellFormed d key s.flags
  pub slots : All (IsWellFormed d key) s.slots

-- While the user runs no value lies nowhere. Its symbols don't matter: an entry drops them.
abbrev pub IsUserWellFormed : UserState → Type 0
IsUserWellFormed u = All (λ v. v.stacks ≢ 0) u.slots
