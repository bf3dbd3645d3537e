-- What the sets of events, and the state after an event's return, say of the machine. This project's own.
use Rattle.std.specs.Prelude.{◌≡◌, ℕ, ◌+◌, true, false, List, Option, Some, None}
use Rattle.kc_bits.specs.Bits.{word}
use Rattle.kc_insn.specs.declared.insn.Insn.{Insn}
use Rattle.kc_image.specs.Image.{Contents}
use Rattle.kc_regions.specs.Description.{Description}
use Rattle.kc_regions.specs.Lookup.{gate_of}
use Rattle.kc_regions.specs.declared.entry.Gate.{Gate}
use Rattle.kc_exec.specs.declared.state.Activation.{Activation}
use Rattle.kc_exec.specs.declared.state.State.{State}
use Rattle.kc_events.specs.Allowed.{IsAllowed}
use Rattle.kc_events.specs.Fetched.{IsAt}
use Rattle.kc_events.specs.declared.turn.Turn.{Turn}
use Rattle.kc_events.specs.declared.turn.Turn.TheVariants.{Syscall}
use Rattle.kc_state.specs.AbsEffect.{moment_of}
use Rattle.kc_state.specs.Conditions.{is_exact}
use Rattle.kc_state.specs.declared.key.Key.{Key}
use Rattle.kc_state.specs.declared.site.Site.{Site}
use Rattle.kc_state.specs.declared.state.AbsState.{AbsState}
use Rattle.kc_state.specs.declared.summary.Summary.{Summary}
use Rattle.kc_state.specs.declared.user.UserState.{UserState}
use Rattle.kc_describes.specs.Describes.{Describes}
use Rattle.kc_describes.specs.User.{UserDescribes}
use Rattle.kc_arrivals.specs.Arrivals.{vector_of, PermitsAccesses}
use Rattle.kc_after.specs.After.{ComesBack}
use Rattle.kc_delivers.specs.Delivered.{Enters, MayComeIn}
use Rattle.kc_absevent.specs.Sets.{has_vector}

-- Each event that the machine allows at the site is in the set, where the image spells the instruction there, its
-- accesses are permitted (C7) where it runs next, and the state describes the machine; `found` is the instruction at
-- RIP.
abbrev pub CoversEvents : Description → Key → Site → AbsState → Insn → ℕ → List ℕ → Type 0
CoversEvents cfg key site s insn len vectors = (image : Contents) (S : State) (found : Option (Insn × ℕ))
    (turn : Turn) (v : ℕ) → IsAt image site.at (Some (insn, len))
    → (site.inside ≡ false → PermitsAccesses (moment_of cfg key s (word (site.at + len))) insn)
    → Describes cfg key site (Some (insn, len)) s S → IsAt image S.cpu.rip found → IsAllowed cfg found S turn
    → vector_of turn ≡ Some v → has_vector vectors v ≡ true

-- each event that the machine allows while the user runs is in the set, where the user state describes the machine
abbrev pub CoversUserEvents : Description → UserState → List ℕ → Type 0
CoversUserEvents cfg u vectors = (S : State) (found : Option (Insn × ℕ)) (turn : Turn) (v : ℕ)
    → UserDescribes cfg u S → IsAllowed cfg found S turn → vector_of turn ≡ Some v → has_vector vectors v ≡ true

-- Where the user state describes the machine, an event of this vector that may come, and SYSCALL where there is none,
-- breaks nothing, and the entry state describes the machine that it leads to: through the vector's gate, or at the
-- configured address.
abbrev pub CoversEntry : Description → UserState → Option ℕ → Key → AbsState → Type 0
CoversEntry cfg u (Some v) key out = (image : Contents) (S : State) (turn : Turn) → UserDescribes cfg u S
    → vector_of turn ≡ Some v → MayComeIn cfg image S turn
    → (g : Gate) × (gate_of cfg.gates v ≡ Some g) × Enters cfg image key g.entry out S turn
CoversEntry cfg u None key out = (image : Contents) (S : State) → UserDescribes cfg u S
    → MayComeIn cfg image S Syscall → Enters cfg image key cfg.cpu.syscall out S Syscall

-- Where the state described the machine before an event, and is exact (C4), `back` describes it after the event's
-- return, which the activation a was: with the latches of the summary, and with changes in its clobber alone.
abbrev pub CoversReturn : Description → Key → Site → AbsState → Summary → AbsState → Type 0
CoversReturn cfg key site s summary back = (found : Option (Insn × ℕ)) (a : Activation) (S T : State) (next : ℕ)
    → is_exact (moment_of cfg key s next) site.inside ≡ true → Describes cfg key site found s S
    → ComesBack cfg summary a S T → Describes cfg key site found back T
