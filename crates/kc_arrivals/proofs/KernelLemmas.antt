-- Events at a site of kernel code. What the machine asks of IF, of latches and of the handler that runs is what the
-- analysis asks of what is known of them: a known bit is the flag's, a latch that is clear may be, and the handler that
-- runs is the one that the site's instruction calls. At a code site the instruction at RIP is the site's.
use Rattle.std.proofs.Common.{◌≡◌, ℕ, ◌+◌, ◌^◌, ◌<◌, ◌≤◌, ◌&&◌, ◌||◌, ◌==◌, ◌⊎◌, nat_le, not, inl, inr, Bool, true, false, if◌then◌else◌, List, [], ◌∷◌, All, Any, find, Option, Some, None, IsSome, IsSomeAnd, slice_get, refl, sym, ap, ◌∙◌, subst, arith}
use Rattle.std.specs.Int.{bit_at}
use Rattle.std.specs.List.{list_all}
use Rattle.std.proofs.lemmas.Bool.{and_parts, and_from, or_left, or_right, le-leb, ne_eqb, false≢true}
use Rattle.std.proofs.lemmas.List.Elements.{All-head, All-tail}
use Rattle.kc_bits.specs.Bits.{StandsFor, word}
use Rattle.kc_bits.specs.KnownBits.{KnownBits}
use Rattle.kc_image.specs.Image.{Contents}
use Rattle.kc_insn.specs.declared.insn.Insn.{Insn}
use Rattle.kc_insn.specs.declared.insn.Insn.TheVariants.{Call as CallInsn, Iretq}
use Rattle.kc_regions.specs.Description.{Description}
use Rattle.kc_regions.specs.Lookup.{gate_of}
use Rattle.kc_regions.specs.Permission.{passes}
use Rattle.kc_regions.specs.Ranges.{IsRegionInRange}
use Rattle.kc_regions.specs.Region.{holds, is_guard, region_of}
use Rattle.kc_regions.specs.declared.entry.Gate.{Gate}
use Rattle.kc_regions.specs.declared.entry.Handler.{Handler}
use Rattle.kc_regions.specs.declared.region.Kind.{Kind}
use Rattle.kc_regions.specs.declared.region.Kind.TheVariants as kind
use Rattle.kc_regions.specs.declared.region.Region.{Region}
use Rattle.kc_rules.proofs.AnswerLemmas.{some_is}
use Rattle.kc_rules.proofs.TestLemmas.{chosen}
use Rattle.kc_cpu.specs.declared.cpu.Call.{Call}
use Rattle.kc_cpu.specs.declared.cpu.Mode.{Mode}
use Rattle.kc_cpu.specs.declared.cpu.Mode.TheVariants.{User, Code, Inside}
use Rattle.kc_exec.specs.Breaks.{judged, break_of, effect}
use Rattle.kc_exec.specs.Effect.{row}
use Rattle.kc_exec.specs.Execution.{moment, data_accesses}
use Rattle.kc_exec.specs.Moment.{Moment}
use Rattle.kc_exec.specs.declared.executed.Executed.{Executed}
use Rattle.kc_exec.specs.declared.state.State.{State}
use Rattle.kc_events.specs.Allowed.{IsAllowed, IsNoisyText, IsTouched, MayFault, Promises, TakesDebug, TakesFault, faulting}
use Rattle.kc_events.specs.Fetched.{IsAt}
use Rattle.kc_events.specs.declared.turn.Turn.{Turn}
use Rattle.kc_events.specs.declared.turn.Turn.TheVariants.{Go, Irq, Nmi, Debug, Check, Fault, Trap, Syscall, User as UserTurn, Body, Leave}
use Rattle.kc_state.specs.AbsEffect.{abs_row, moment_of}
use Rattle.kc_state.specs.AbsEvents.{handler_called_by, lists, may_be_clear, may_be_open, takes_irq, takes_debug, takes_fault, may_fault, is_iretq, arrivals_at, arrives, comes}
use Rattle.kc_state.specs.Calls.{called_handler}
use Rattle.kc_state.specs.Conditions.{accesses_of, may_at, permits_more}
use Rattle.kc_state.specs.Moment.{cpu_of}
use Rattle.kc_state.specs.Operand.{AbsMoment}
use Rattle.kc_state.specs.declared.key.Key.{Key}
use Rattle.kc_state.specs.declared.site.Site.{Site}
use Rattle.kc_state.specs.declared.state.AbsState.{AbsState}
use Rattle.kc_describes.specs.Chain.{newest_of, env_of}
use Rattle.kc_describes.specs.Describes.{IsInsideAt, IsAtPoint, Describes}
use Rattle.kc_describes.specs.Inside.{IsCallAt, IsHandlerRunning}
use Rattle.kc_describes.specs.Row.{FileStands}
use Rattle.kc_describes.proofs.AccessLemmas.{accesses_agree}
use Rattle.kc_describes.proofs.FrameLemmas.{code, code_file, seen_of}
use Rattle.kc_describes.proofs.InsnLemmas.{has_operands}
use Rattle.kc_describes.proofs.SlotLemmas.{region_fits}
use Rattle.kc_returns.proofs.FetchLemmas.{one_found}
use Rattle.kc_effects.proofs.DispLemmas.{disps_of}
use Rattle.kc_effects.proofs.SpelledLemmas.{found_is_spelled}
use Rattle.kc_arrivals.specs.Arrivals.{vector_of, IsAtSite, EventIsAmong}
use Rattle.kc_arrivals.proofs.FaultLemmas.{some_fault}
use Rattle.kc_arrivals.proofs.GateLemmas.{clear_latch, found_gate, by_gate, has_debug, has_nmi, has_page_fault, has_check}
use Rattle.kc_arrivals.proofs.UserLemmas.{some_and, is_there}

-- ---- flags

open_bits : (b : KnownBits) (flags : ℕ) → StandsFor b flags → bit_at flags 9 ≡ 1 → may_be_open b ≡ true
open_bits b flags stands set =
    ap not (ne_eqb (bit_at b.zeros 9) 1 (λ known. let zero = (stands 9).0 known in omega (arith, zero, set)))

-- ---- the handler that runs

listed_by : (test : Handler → Bool) (o : Option Handler) → IsSomeAnd o (λ h. test h ≡ true) → lists test o ≡ true
listed_by test (Some h) is = is
listed_by test None is = absurd is

called_is : (cfg : Description) (at : ℕ) (insn : Insn) (len : ℕ) (call : Call)
    → IsCallAt cfg at (Some (insn, len)) call → handler_called_by cfg insn ≡ slice_get cfg.handlers call.handler
called_is cfg at (CallInsn target) len call h = ap (called_handler cfg) h.0
called_is cfg at insn len call h = absurd h

judged_data : (o : Option ℕ) (done : Executed) → data_accesses (judged o done) ≡ data_accesses done
judged_data None done = refl
judged_data (Some n) done = refl

-- the region that is found is one of the list
region_in : (P : Region → Type 0) (test : Region → Bool) (xs : List Region) (r : Region) → find test xs ≡ Some r
    → All P xs → P r
region_in P test [] r e all = absurd cc
region_in P test (x ∷ xs) r e all = elim (chosen (test x) (Some x) (find test xs) (Some r) e) [
  | inl h ↦ subst P (some_is x r h.1) (All-head P x xs all)
  | inr h ↦ region_in P test xs r h.1 (All-tail P x xs all)
]

not_guard : (k : Kind) → (k ≡ kind.Guard → ⊥) → is_guard k ≡ false
not_guard kind.Guard other = absurd (other refl)
not_guard k other = refl

module _ (cfg : Description) (image : Contents) (key : Key) (site : Site) (insn : Insn) (len : ℕ) (s : AbsState)
    (S : State) (found : Option (Insn × ℕ)) (H : IsAtSite cfg image key site insn len s S)
    (fetched : IsAt image S.cpu.rip found) where
  abbrev D : Describes cfg key site (Some (insn, len)) s S
  D = H.described

  -- the handler that runs passes the test
  listed_in : (test : Handler → Bool) (call : Call) → IsCallAt cfg site.at (Some (insn, len)) call
      → Promises cfg call (λ h. test h ≡ true) → lists test (handler_called_by cfg insn) ≡ true
  listed_in test call at is =
      ap (lists test) (called_is cfg site.at insn len call at)
      ∙ listed_by test (slice_get cfg.handlers call.handler) is

  -- ---- IF

  if_running : (call : Call) (o : Option Handler) → bit_at S.cpu.flags 9 ≡ 1
      → IsSomeAnd o (IsHandlerRunning cfg key s S.chain S.cpu call)
      → (IsSomeAnd o (λ h. h.irq ≡ true)) ⊎ (bit_at call.flags 9 ≡ 1)
  if_running call (Some h) set running = running.interrupts set
  if_running call None set running = absurd running

  open_in : (mode : Mode) → bit_at S.cpu.flags 9 ≡ 1 → FileStands (env_of cfg S.chain) s S.cpu mode
      → IsInsideAt cfg key site.at (Some (insn, len)) s S.chain S.cpu mode
      → (may_be_open s.flags.bits || lists (λ h. h.irq) (handler_called_by cfg insn)) ≡ true
  open_in User set file h = absurd h
  open_in Code set file h = absurd h
  open_in (Inside call) set file h =
      elim (if_running call (slice_get cfg.handlers call.handler) set h.1) [
        | inl lists_irq ↦ or_right (may_be_open s.flags.bits) _ (listed_in (λ z. z.irq) call h.0 lists_irq)
        | inr before ↦ or_left (may_be_open s.flags.bits) _ (open_bits s.flags.bits call.flags file.flags.bits before)
      ]

  open_by : (inside : Bool) → bit_at S.cpu.flags 9 ≡ 1
      → IsAtPoint cfg key site.at inside (Some (insn, len)) s S.chain S.cpu
      → (may_be_open s.flags.bits || (inside && lists (λ h. h.irq) (handler_called_by cfg insn))) ≡ true
  open_by false set h =
      or_left (may_be_open s.flags.bits) false
      (open_bits s.flags.bits S.cpu.flags
      (code_file (env_of cfg S.chain) s S.cpu S.cpu.mode h.0 D.file).rflags.bits set)
  open_by true set h = open_in S.cpu.mode set D.file h

  irq_taken : bit_at S.cpu.flags 9 ≡ 1 → S.latch.shadow ≡ false → takes_irq cfg site s insn ≡ true
  irq_taken set gap =
      and_from (may_be_clear s.latches.shadow) _
      (clear_latch s.latches.shadow S.latch.shadow D.spaces.latches.shadow gap)
      (open_by site.inside set D.point)

  -- ---- debug exceptions

  noisy : (o : Option Region) → IsSomeAnd o (λ r. (r.kind ≡ kind.Text) × (r.quiet ≡ false))
      → passes (λ r. not r.quiet) o ≡ true
  noisy (Some r) is = ap not is.1
  noisy None is = absurd is

  debug_in : (mode : Mode) → IsInsideAt cfg key site.at (Some (insn, len)) s S.chain S.cpu mode
      → TakesDebug cfg S.cpu.rip mode → lists (λ h. h.debug) (handler_called_by cfg insn) ≡ true
  debug_in User h takes = absurd h
  debug_in Code h takes = absurd h
  debug_in (Inside call) h takes = listed_in (λ z. z.debug) call h.0 takes

  debug_by : (inside : Bool) → IsAtPoint cfg key site.at inside (Some (insn, len)) s S.chain S.cpu
      → TakesDebug cfg S.cpu.rip S.cpu.mode → takes_debug cfg (record site { inside = inside }) insn ≡ true
  debug_by false h takes =
      let here : IsNoisyText cfg S.cpu.rip = subst (TakesDebug cfg S.cpu.rip) h.0 takes in
      noisy (region_of cfg.regions site.at) (subst (IsNoisyText cfg) h.1 here)
  debug_by true h takes = debug_in S.cpu.mode h takes

  -- ---- page faults

  fault_in : (a : ℕ) (mode : Mode) → IsInsideAt cfg key site.at (Some (insn, len)) s S.chain S.cpu mode
      → TakesFault cfg found S a mode → lists (λ h. h.fault) (handler_called_by cfg insn) ≡ true
  fault_in a User h takes = absurd h
  fault_in a Code h takes = absurd h
  fault_in a (Inside call) h takes = listed_in (λ z. z.fault) call h.0 takes

  abbrev there : Moment
  there = moment cfg S.cpu S.latch S.mem.bytes len

  abbrev before : ℕ → AbsMoment
  before next = moment_of cfg key s next

  any_access : (i : Insn) (a : ℕ) → Any (IsTouched a) (if is_iretq i then [] else data_accesses (effect there i))
      → (is_iretq i ≡ false) × Any (IsTouched a) (data_accesses (effect there i))
  any_access Iretq a (k, x, few, at, touched) = absurd (omega (arith, few))
  any_access i a any = (refl, any)

  fault_code : (a : ℕ) → site.inside ≡ false → S.cpu.mode ≡ Code → S.cpu.rip ≡ site.at
      → MayFault cfg a × Any (IsTouched a) (faulting cfg S found)
      → may_fault (before (word (site.at + len))) insn ≡ true
  unfolding effect
  fault_code a outside mode rip (region, any) =
      let one : found ≡ Some (insn, len) =
      one_found image site.at found insn len H.spelled (subst (λ z. IsAt image z found) rip fetched) in
      let own = subst (λ z. Any (IsTouched a) (faulting cfg S z)) one any in
      let touching = any_access insn a own in
      let seen = seen_of cfg key site.at there.next (Some (insn, len)) s S H.state (omega arith) (at_code outside D) in
      let other : insn ≡ Iretq → ⊥ = λ e. false≢true (sym touching.0 ∙ ap is_iretq e) in
      let form = found_is_spelled image site.at insn len H.spelled in
      let operands = has_operands insn form.encodable (disps_of insn form.fits) in
      let agree = accesses_agree cfg H.valid key S.chain D.chain D.typed.chain (cpu_of s) s.slots S.cpu S.latch
      S.mem.bytes there.next seen insn operands other in
      let permitted = subst (λ z. list_all (λ q. may_at (before (word (z + len))) q.at q.size q.touch)
      (accesses_of (before (word (z + len))) insn (abs_row (before (word (z + len))) insn).store) ≡ true) (sym rip)
      (and_parts _ (permits_more (before (word (site.at + len))) insn) (H.permitted outside)).0 in
      let r = some_and (region_of cfg.regions a) (λ z. z.may_fault ≡ true) region in
      let range = region_in IsRegionInRange (λ z. holds z.span a) cfg.regions r.0 r.1 H.valid.ranges.regions in
      let low : a < 2 ^ 64 = omega (arith, region_fits cfg a r.0 H.valid r.1) in
      let touched = subst (Any (IsTouched a)) (judged_data (break_of there insn) (row there insn)) touching.1 in
      let some = some_fault cfg H.valid key (newest_of S.chain).base (before there.next) refl refl a r.0 low r.1 r.2
      (not_guard r.0.kind (range.may_fault r.2))
      (accesses_of (before there.next) insn (abs_row (before there.next) insn).store) (data_accesses (row there insn))
      agree permitted touched in
      subst (λ z. may_fault (before (word (z + len))) insn ≡ true) rip
      (and_from (not (is_iretq insn)) _ (ap not touching.0) some)
    where
      at_code : site.inside ≡ false → Describes cfg key site (Some (insn, len)) s S
          → Describes cfg key (code site.at) (Some (insn, len)) s S
      at_code e h = subst (λ b. Describes cfg key (record site { inside = b }) (Some (insn, len)) s S) e h

  fault_by : (a : ℕ) (inside : Bool) → site.inside ≡ inside
      → IsAtPoint cfg key site.at inside (Some (insn, len)) s S.chain S.cpu
      → TakesFault cfg found S a S.cpu.mode → takes_fault cfg key (record site { inside = inside }) s insn len ≡ true
  fault_by a false e h takes =
      fault_code a e h.0 h.1 (subst (TakesFault cfg found S a) h.0 takes)
  fault_by a true e h takes = fault_in a S.cpu.mode h takes

  -- ---- the kinds of events

  abbrev Comes : ℕ → Type 0
  Comes v = comes cfg key site s insn len v ≡ true

  abbrev at : Gate → Bool
  at g = arrives (arrivals_at cfg key site s insn len) g

  named : (v : ℕ) → IsSome (gate_of cfg.gates v) → ((g : Gate) → g.vector ≡ v → at g ≡ true) → Comes v
  named v there each =
      by_gate at cfg.gates v (gate_of cfg.gates v) refl there
      (λ g e. each g (found_gate cfg.gates v g e H.valid.ranges.gates).0)

  -- a gate by its vector and the kinds that may come
  abbrev gate_at : (vector : ℕ) (user irq nmi debug check fault : Bool) → Bool
  gate_at vector user irq nmi debug check fault =
      if nat_le 32 vector then not user && irq else
      if vector == 2 then nmi else
      if vector == 1 then debug else
      if vector == 18 then check else
      if vector == 14 then fault else false

  device : (v : ℕ) → 32 ≤ v → IsSomeAnd (gate_of cfg.gates v) (λ g. g.user ≡ false)
      → takes_irq cfg site s insn ≡ true → Comes v
  device v high gate irq =
      let g = some_and (gate_of cfg.gates v) (λ z. z.user ≡ false) gate in
      by_gate at cfg.gates v (gate_of cfg.gates v) refl (is_there (gate_of cfg.gates v) g.0 g.1)
      (λ z e.
      let same : g.0 ≡ z = some_is g.0 z (sym g.1 ∙ e) in
      let private : z.user ≡ false = ap (λ q. q.user) (sym same) ∙ g.2 in
      let is = (found_gate cfg.gates v z e H.valid.ranges.gates).0 in
      ap (λ t. if t then not z.user && takes_irq cfg site s insn else
      if z.vector == 2 then may_be_clear s.latches.nmi_blocked else
      if z.vector == 1 then takes_debug cfg site insn else
      if z.vector == 18 then may_be_clear s.latches.mcip else
      if z.vector == 14 then takes_fault cfg key site s insn len else false)
      (le-leb 32 z.vector (omega (arith, is, high)))
      ∙ and_from (not z.user) (takes_irq cfg site s insn) (ap not private) irq)

  no_trap : (inside : Bool) → IsAtPoint cfg key site.at inside (Some (insn, len)) s S.chain S.cpu
      → S.cpu.mode ≡ User → ⊥
  no_trap false h e = absurd (let mode = h.0 in cc)
  no_trap true h e =
      subst (IsInsideAt cfg key site.at (Some (insn, len)) s S.chain S.cpu) e h

  among : (turn : Turn) (v : ℕ) → IsAllowed cfg found S turn → vector_of turn ≡ Some v → Comes v
  among (Irq w) v h e =
      subst Comes (some_is w v e) (device w h.1.0.0 h.1.0.1 (irq_taken h.1.1.enabled h.1.1.no_gap))
  among Nmi v h e =
      let clear = clear_latch s.latches.nmi_blocked S.latch.nmi_blocked D.spaces.latches.nmi_blocked h.1 in
      subst Comes (some_is 2 v e)
      (named 2 (has_nmi cfg H.valid) (λ g is.
      ap (λ n. gate_at n g.user (takes_irq cfg site s insn) (may_be_clear s.latches.nmi_blocked)
      (takes_debug cfg site insn) (may_be_clear s.latches.mcip) (takes_fault cfg key site s insn len)) is ∙ clear))
  among Debug v h e =
      subst Comes (some_is 1 v e)
      (named 1 (has_debug cfg H.valid) (λ g is.
      ap (λ n. gate_at n g.user (takes_irq cfg site s insn) (may_be_clear s.latches.nmi_blocked)
      (takes_debug cfg site insn) (may_be_clear s.latches.mcip) (takes_fault cfg key site s insn len)) is
      ∙ debug_by site.inside D.point h.1))
  among Check v h e =
      let clear = clear_latch s.latches.mcip S.latch.mcip D.spaces.latches.mcip h.1 in
      subst Comes (some_is 18 v e)
      (named 18 (has_check cfg H.valid) (λ g is.
      ap (λ n. gate_at n g.user (takes_irq cfg site s insn) (may_be_clear s.latches.nmi_blocked)
      (takes_debug cfg site insn) (may_be_clear s.latches.mcip) (takes_fault cfg key site s insn len)) is ∙ clear))
  among (Fault a code) v h e =
      subst Comes (some_is 14 v e)
      (named 14 (has_page_fault cfg H.valid) (λ g is.
      ap (λ n. gate_at n g.user (takes_irq cfg site s insn) (may_be_clear s.latches.nmi_blocked)
      (takes_debug cfg site insn) (may_be_clear s.latches.mcip) (takes_fault cfg key site s insn len)) is
      ∙ fault_by a site.inside refl D.point h.1))
  among (Trap w code) v h e = absurd (no_trap site.inside D.point h.1.user)
  among Go v h e = absurd cc
  among Syscall v h e = absurd cc
  among (UserTurn b) v h e = absurd cc
  among (Body b) v h e = absurd cc
  among (Leave l) v h e = absurd cc

pub event_is_among : EventIsAmong
event_is_among cfg image key site insn len s S found turn v H fetched h e =
    among cfg image key site insn len s S found H fetched turn v h e
