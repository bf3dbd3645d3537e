-- The laws as they are stated, by the lemmas on places, slots, moves and greater states: a value that points to an
-- address has a location of the key, which is that address.
use Rattle.std.proofs.Common.{ℕ, ◌/◌, List, refl, sym, subst}
use Rattle.kc_words.specs.Flags.{bits_of}
use Rattle.kc_regions.specs.Description.{Description}
use Rattle.kc_regions.specs.Layout.{InBytes}
use Rattle.kc_exec.specs.declared.state.Activation.{Activation}
use Rattle.kc_mem.specs.Memory.{read, write}
use Rattle.kc_value.specs.AbsValue.{AbsValue}
use Rattle.kc_value.specs.Value.{Represents}
use Rattle.kc_frames.specs.Slots.{redone}
use Rattle.kc_state.specs.Memory.{loaded, stored}
use Rattle.kc_state.specs.declared.key.Key.{Key}
use Rattle.kc_state.specs.declared.location.Location.{Location}
use Rattle.kc_describes.specs.Chain.{newest_of, env_of, user_gs_of}
use Rattle.kc_describes.specs.Laws.{Points, LocationIsAddress, MayIsPermitted, ClearIsNotLive, LoadStands, StoreStands, CalledStands, ShiftStands, GreaterDescribes}
use Rattle.kc_describes.specs.Places.{SlotsStand}
use Rattle.kc_describes.proofs.AboveLemmas.{called_above}
use Rattle.kc_describes.proofs.CallLemmas.{called_keeps}
use Rattle.kc_describes.proofs.FrameLemmas.{state_facts, described_above}
use Rattle.kc_describes.proofs.LiveLemmas.{clear_not_live}
use Rattle.kc_describes.proofs.LoadLemmas.{load_stands}
use Rattle.kc_describes.proofs.LocationLemmas.{IsAt, located}
use Rattle.kc_describes.proofs.PermissionLemmas.{may_permits}
use Rattle.kc_describes.proofs.ShiftLemmas.{shift_stands}
use Rattle.kc_describes.proofs.StoreLemmas.{placed_fits, store_stands}

at_of : (cfg : Description) (key : Key) (chain : List Activation) (v : AbsValue) (l : Location) (n : ℕ)
    → Points cfg key chain v l n → IsAt cfg key (newest_of chain).base n l
at_of cfg key chain v l n P =
    located cfg key (user_gs_of chain) (newest_of chain) P.context.fits.fits (env_of cfg chain) refl n P.is.fits v l
    P.is.valid P.is.stands P.at

pub location_is_address : LocationIsAddress
location_is_address cfg key chain v l n P = (at_of cfg key chain v l n P).1

pub may_is_permitted : MayIsPermitted
may_is_permitted cfg key chain v l n map cr3 size x touch P fetches stands known may low inside =
    let at = at_of cfg key chain v l n P in
    may_permits cfg key (newest_of chain).base map cr3 l size x touch P.context.valid at.0 fetches stands known may low
    (subst (λ z. InBytes x z size) (sym at.1) inside)

pub clear_is_not_live : ClearIsNotLive
clear_is_not_live cfg key chain v l n floors map size x P stand may clear low inside =
    let at = at_of cfg key chain v l n P in
    clear_not_live cfg P.context.valid key floors (newest_of chain).base chain P.context.fits.fits.base stand map l size
    x at.0 low may clear (subst (λ z. InBytes x z size) (sym at.1) inside)

pub load_is_sound : LoadStands
load_is_sound cfg key chain v l n w slots mem P are bytes stand =
    let at = at_of cfg key chain v l n P in
    let value = loaded cfg key l (bits_of w / 8) slots in
    subst (λ z. Represents value (env_of cfg chain) (read mem z (bits_of w / 8))) at.1
    (load_stands cfg P.context.valid key chain P.context.fits P.context.typed mem bytes l
    (placed_fits cfg key (newest_of chain).base l at.0) w slots are.1 are.0 stand)

pub store_is_sound : StoreStands
store_is_sound cfg key chain v l n map size w new slots mem P few may fits whole are stand =
    let at = at_of cfg key chain v l n P in
    subst
    (λ z. SlotsStand cfg key (env_of cfg chain) (redone (stored cfg key l size new) 0 slots) (write mem z size w)) at.1
    (store_stands cfg P.context.valid key chain P.context.fits P.context.typed map l size new w mem at.0 few may fits
    whole slots are.1 stand)

pub called_is_sound : CalledStands
called_is_sound cfg key chain h s mem c is stand =
    (called_keeps cfg c.valid key chain c.fits c.typed h s mem is.slots.1).slots stand

pub shift_is_sound : ShiftStands
shift_is_sound cfg key chain v n c context r move =
    shift_stands cfg context.valid key chain context.fits v n c r.valid r.fits r.stands move

pub greater_describes : GreaterDescribes
greater_describes cfg key site found s t S valid is also below same D =
    let facts = state_facts s t below in
    described_above cfg valid key s t is also facts site found S
    (λ inside h still. called_above cfg key h s t is also facts (same inside) still) D
