-- What the definitions of the analysis mean on the machine, each a law: where a value points, what may be accessed,
-- what isn't live, loads, stores, the changes of a handler's call, and moves. This project's own.
use Rattle.std.specs.Prelude.{◌≡◌, ◌≢◌, ℕ, ◌+◌, ◌/◌, ◌^◌, ◌<◌, true, ◌⊎◌, List, All, Option, Some, None, ℤ, pos, FitsSigned}
use Rattle.std.specs.Int.{w64, cast_unsigned}
use Rattle.kc_words.specs.Flags.{bits_of}
use Rattle.kc_words.specs.declared.width.Width.{Width}
use Rattle.kc_bits.specs.Bits.{word}
use Rattle.kc_frames.specs.Slots.{AreSlots, redone}
use Rattle.kc_frames.specs.declared.floors.Floors.{Floors}
use Rattle.kc_insn.specs.declared.insn.Insn.{Insn}
use Rattle.kc_regions.specs.Description.{Description}
use Rattle.kc_regions.specs.Layout.{InBytes}
use Rattle.kc_regions.specs.Permission.{in_guard, permits}
use Rattle.kc_regions.specs.Valid.{IsValid}
use Rattle.kc_regions.specs.declared.entry.Handler.{Handler}
use Rattle.kc_regions.specs.declared.touch.Touch.{Touch}
use Rattle.kc_regions.specs.declared.touch.Touch.TheVariants.{Fetch, Write}
use Rattle.kc_space.specs.declared.map.MapState.{MapState}
use Rattle.kc_mem.specs.Memory.{Bytes, AreBytes, read, write}
use Rattle.kc_exec.specs.Live.{IsLive}
use Rattle.kc_exec.specs.declared.state.Activation.{Activation}
use Rattle.kc_exec.specs.declared.state.State.{State}
use Rattle.kc_value.specs.AbsValue.{AbsValue}
use Rattle.kc_value.specs.Value.{IsValidValue, Represents}
use Rattle.kc_state.specs.Access.{may, clear}
use Rattle.kc_state.specs.Calls.{called}
use Rattle.kc_state.specs.Location.{location_of}
use Rattle.kc_state.specs.Memory.{loaded, stored}
use Rattle.kc_state.specs.Shift.{shifted}
use Rattle.kc_state.specs.State.{IsState, state_below}
use Rattle.kc_state.specs.declared.key.Key.{Key}
use Rattle.kc_state.specs.declared.location.Location.{Location}
use Rattle.kc_state.specs.declared.site.Site.{Site}
use Rattle.kc_state.specs.declared.state.AbsState.{AbsState}
use Rattle.kc_describes.specs.Chain.{newest_of, env_of}
use Rattle.kc_describes.specs.Describes.{Describes}
use Rattle.kc_describes.specs.Fits.{ChainFits}
use Rattle.kc_describes.specs.Places.{address_of, SlotsStand, FloorsStand}
use Rattle.kc_describes.specs.Row.{value_at}
use Rattle.kc_describes.specs.Spaces.{IsCr3Of}
use Rattle.kc_describes.specs.Widths.{IsActivation}

-- a chain whose newest activation fits the key
pub record IsContext (cfg : Description) (key : Key) (chain : List Activation) : Type 0 where
  pub valid : IsValid cfg
  pub fits : ChainFits cfg key chain
  pub typed : All IsActivation chain

-- the value stands for the word n
pub record IsWordOf (cfg : Description) (chain : List Activation) (v : AbsValue) (n : ℕ) : Type 0 where
  pub valid : IsValidValue v
  pub fits : n < 2 ^ 64
  pub stands : Represents v (env_of cfg chain) n

-- the value stands for the address n, and points there
pub record Points (cfg : Description) (key : Key) (chain : List Activation) (v : AbsValue) (l : Location) (n : ℕ)
    : Type 0
  where
    pub context : IsContext cfg key chain
    pub is : IsWordOf cfg chain v n
    pub at : location_of key v ≡ Some l

-- ---- places

-- a location is the address for which its value stands
abbrev pub LocationIsAddress : Type 0
LocationIsAddress = (cfg : Description) (key : Key) (chain : List Activation) (v : AbsValue) (l : Location) (n : ℕ)
    → Points cfg key chain v l n → address_of (newest_of chain).base l ≡ n

-- each byte of an access that may be made lies in a guard, or is permitted under the CR3 that the map says
abbrev pub MayIsPermitted : Type 0
MayIsPermitted = (cfg : Description) (key : Key) (chain : List Activation) (v : AbsValue) (l : Location) (n : ℕ)
    (map : MapState) (cr3 size x : ℕ) (touch : Touch) → Points cfg key chain v l n → touch ≢ Fetch
    → IsCr3Of cfg map cr3 → (cr3 ≡ cfg.cpu.kernel_cr3) ⊎ (cr3 ≡ cfg.cpu.user_cr3)
    → may cfg key map l size touch ≡ true → x < 2 ^ 64 → InBytes x n size
    → (in_guard cfg.regions x ≡ true) ⊎ (permits cfg cr3 touch x ≡ true)

-- no byte of a write that may be made, and is clear, is live
abbrev pub ClearIsNotLive : Type 0
ClearIsNotLive = (cfg : Description) (key : Key) (chain : List Activation) (v : AbsValue) (l : Location) (n : ℕ)
    (floors : Floors) (map : MapState) (size x : ℕ) → Points cfg key chain v l n
    → FloorsStand cfg floors (newest_of chain).base chain → may cfg key map l size Write ≡ true
    → clear cfg key floors l size ≡ true → x < 2 ^ 64 → InBytes x n size → ¬ IsLive cfg chain x

-- ---- slots

-- what is loaded stands for the bytes in memory
abbrev pub LoadStands : Type 0
LoadStands = (cfg : Description) (key : Key) (chain : List Activation) (v : AbsValue) (l : Location) (n : ℕ) (w : Width)
    (slots : List AbsValue) (mem : Bytes) → Points cfg key chain v l n → AreSlots IsValidValue slots → AreBytes mem
    → SlotsStand cfg key (env_of cfg chain) slots mem
    → Represents (loaded cfg key l (bits_of w / 8) slots) (env_of cfg chain) (read mem n (bits_of w / 8))

-- after a store that may be made each slot stands for its word; of 8 bytes the value stands for what is written
abbrev pub StoreStands : Type 0
StoreStands = (cfg : Description) (key : Key) (chain : List Activation) (v : AbsValue) (l : Location) (n : ℕ)
    (map : MapState) (size w : ℕ) (new : AbsValue) (slots : List AbsValue) (mem : Bytes) → Points cfg key chain v l n
    → size < 2 ^ 64 → may cfg key map l size Write ≡ true → w < 2 ^ 64
    → (size ≡ 8 → Represents new (env_of cfg chain) w) → AreSlots IsValidValue slots
    → SlotsStand cfg key (env_of cfg chain) slots mem
    → SlotsStand cfg key (env_of cfg chain) (redone (stored cfg key l size new) 0 slots) (write mem n size w)

-- the changes of a handler's call keep each slot standing for its word
abbrev pub CalledStands : Type 0
CalledStands = (cfg : Description) (key : Key) (chain : List Activation) (h : Handler) (s : AbsState) (mem : Bytes)
    → IsContext cfg key chain → IsState s → SlotsStand cfg key (env_of cfg chain) s.slots mem
    → SlotsStand cfg key (env_of cfg chain) (called cfg key h s).slots mem

-- ---- moves

-- a value that is moved by a number stands for the sum
abbrev pub ShiftStands : Type 0
ShiftStands = (cfg : Description) (key : Key) (chain : List Activation) (v : AbsValue) (n : ℕ) (c : ℤ)
    → IsContext cfg key chain → IsWordOf cfg chain v n → FitsSigned w64 c ⊎ (c ≡ pos (2 ^ 63))
    → Represents (shifted cfg key v c) (env_of cfg chain) (word (n + cast_unsigned w64 c))

-- ---- greater states

-- RSP points to the same place in both states, or nowhere known in the greater one
abbrev pub HasRspOf : Key → AbsState → AbsState → Type 0
HasRspOf key s t =
    (location_of key (value_at t.regs 4) ≡ location_of key (value_at s.regs 4))
    ⊎ (location_of key (value_at t.regs 4) ≡ None)

-- a greater state describes too; at an inside site where RSP points to the same place
abbrev pub GreaterDescribes : Type 0
GreaterDescribes = (cfg : Description) (key : Key) (site : Site) (found : Option (Insn × ℕ)) (s t : AbsState)
    (S : State) → IsValid cfg → IsState s → IsState t → state_below s t ≡ true
    → (site.inside ≡ true → HasRspOf key s t) → Describes cfg key site found s S → Describes cfg key site found t S
