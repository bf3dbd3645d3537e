-- A handler's step breaks nothing. Its one read, at RSP, lies in the zone of the handler's stack, so in a guard or in
-- the stack, which is present under the kernel's CR3. A byte that it writes isn't live: a data region is no stack, and
-- in the handler's part of its stack no byte is live. Where it edits the user's frame, nothing is live at all: the user
-- was interrupted, by one activation, and its RSP lies in no stack.
use Rattle.std.proofs.Common.{◌≡◌, ◌≢◌, ℕ, ◌^◌, ◌<◌, ◌&&◌, ◌||◌, not, nat_eq, true, false, List, [], ◌∷◌, map, Option, Some, None, All, Contains, slice_index, inl, inr, ◌⊎◌, refl, sym, ap, ◌∙◌, subst, arith}
use Rattle.std.proofs.lemmas.Bool.{false≢true, cases_Bool, and_from, or_left, eq-eqb}
use Rattle.std.proofs.lemmas.List.Elements.{All-head, All-tail, All-nil, All-cons, All-map, All-contains, Contains-append_cases}
use Rattle.kc_insn.specs.declared.insn.Insn.{Insn}
use Rattle.kc_regions.specs.Description.{Description}
use Rattle.kc_regions.specs.Layout.{InZone}
use Rattle.kc_regions.specs.Permission.{in_guard, is_present, has_right, passes, permits}
use Rattle.kc_regions.specs.Region.{is_guard, region_of, stack_of}
use Rattle.kc_regions.specs.Valid.{IsValid}
use Rattle.kc_regions.specs.declared.entry.Handler.{Handler}
use Rattle.kc_regions.specs.declared.region.Kind.{Kind}
use Rattle.kc_regions.specs.declared.region.Kind.TheVariants.{Stack, Plain}
use Rattle.kc_regions.specs.declared.region.Region.{Region}
use Rattle.kc_regions.specs.declared.touch.Touch.TheVariants.{Read}
use Rattle.kc_regions.proofs.LayoutLemmas.{laid}
use Rattle.kc_rules.proofs.AnswerLemmas.{some_is}
use Rattle.kc_cpu.specs.declared.cpu.Call.{Call}
use Rattle.kc_cpu.specs.declared.cpu.Mode.TheVariants.{User}
use Rattle.kc_exec.specs.Admitted.{IsAdmitted}
use Rattle.kc_exec.specs.Execution.{guarded, stops}
use Rattle.kc_exec.specs.Live.{IsLive}
use Rattle.kc_exec.specs.Operand.{plus, plain_read}
use Rattle.kc_exec.specs.Register.{register, rsp}
use Rattle.kc_exec.specs.declared.executed.ExecEnd.{ExecEnd}
use Rattle.kc_exec.specs.declared.state.Activation.{Activation}
use Rattle.kc_exec.specs.declared.state.State.{State}
use Rattle.kc_events.specs.Allowed.{LiesIn, MayWrite, MayBody, InterruptedUser, is_edit}
use Rattle.kc_events.specs.Attempt.{Attempt, body_step, bytes_of_words}
use Rattle.kc_events.specs.Breaks.{judged, WritesLive, EndsWith, BreaksWith}
use Rattle.kc_events.specs.Edits.{edited_words}
use Rattle.kc_events.specs.declared.turn.BodySet.{BodySet}
use Rattle.kc_events.specs.declared.turn.Edit.{Edit}
use Rattle.kc_events.specs.declared.turn.Turn.TheVariants.{Body}
use Rattle.kc_state.specs.declared.key.Key.{Key}
use Rattle.kc_state.specs.declared.state.AbsState.{AbsState}
use Rattle.kc_describes.specs.Chain.{oldest_of, OnlyOldestIsUser}
use Rattle.kc_describes.specs.Fits.{ChainFits}
use Rattle.kc_describes.specs.Inside.{IsHandlerRunning}
use Rattle.kc_describes.proofs.LocationLemmas.{in_stack}
use Rattle.kc_describes.proofs.QuietLemmas.{IsQuiet, judged_all, quiet_gs, quiet_touches}
use Rattle.kc_body.specs.Body.{IsBodySet}
use Rattle.kc_body.proofs.WrittenLemmas.{region_in}

-- ---- nothing is live after the user

-- the interrupted RSP lies in no stack
abbrev IsOutside : Description → Activation → Type 0
IsOutside cfg a = stack_of cfg.regions (register a.saved rsp) ≡ None

none_live : (cfg : Description) (chain : List Activation) (x : ℕ) → All (IsOutside cfg) chain → IsLive cfg chain x → ⊥
none_live cfg chain x all live =
    let none = All-contains (IsOutside cfg) chain live.1 all (live.0, live.2, live.3) in
    let some = live.4.suspended in absurd cc

newest_is : (a : Activation) (newer : List Activation) → All (λ b. b.saved.mode ≢ User) newer
    → InterruptedUser (a ∷ newer) → newer ≡ []
newest_is a [] all user = refl
newest_is a (b ∷ newer) all user = absurd (not_user b newer all user)
  where
    not_user : (b : Activation) (newer : List Activation) → All (λ c. c.saved.mode ≢ User) (b ∷ newer)
        → InterruptedUser (b ∷ newer) → ⊥
    not_user b [] all user = All-head (λ c. c.saved.mode ≢ User) b [] all user
    not_user b (c ∷ newer) all user = not_user c newer (All-tail (λ d. d.saved.mode ≢ User) b (c ∷ newer) all) user

-- the user was interrupted by the newest activation, so by the only one
pub user_outside : (cfg : Description) (chain : List Activation) → OnlyOldestIsUser chain
    → IsAdmitted cfg (oldest_of chain).saved → InterruptedUser chain → All (IsOutside cfg) chain
user_outside cfg [] one admitted user = absurd one
user_outside cfg (a ∷ newer) one admitted user =
    subst (λ z. All (IsOutside cfg) (a ∷ z)) (sym (newest_is a newer one.1 user))
    (All-cons (IsOutside cfg) a [] admitted.stack (All-nil (IsOutside cfg)))

-- ---- the bytes that are written

pub no_words : (frame : ℕ) (edit : Edit) → is_edit edit ≡ false → edited_words frame edit ≡ []
no_words frame edit e = by edit.rip edit.flags edit.rsp e
  where
    by : (rip flags rsp : Option ℕ) → is_edit (record { rip = rip; flags = flags; rsp = rsp }) ≡ false
        → edited_words frame (record { rip = rip; flags = flags; rsp = rsp }) ≡ []
    by None None None e = refl
    by (Some a) flags rsp e = absurd cc
    by None (Some a) rsp e = absurd cc
    by None None (Some a) e = absurd cc

none_in : (x : ℕ) → Contains [] x → ⊥
none_in x h = omega (arith, h.1)

module _ (cfg : Description) (valid : IsValid cfg) (key : Key) (s : AbsState) (S : State)
    (F : ChainFits cfg key S.chain) (call : Call) (h : Handler) (R : IsHandlerRunning cfg key s S.chain S.cpu call h)
    (b : BodySet) (typed : IsBodySet b) (may : MayBody cfg S call h R.stack.region b) (frame : ℕ) where
  abbrev t : Attempt
  t = body_step S b frame

  abbrev n : ℕ
  n = slice_index b.regs 4

  n_fits : n < 2 ^ 64
  n_fits = typed.regs.1 4 0 (omega (arith, typed.regs.0))

  -- ---- the read

  -- RSP lies in the zone of the handler's stack
  rsp_zone : InZone cfg.regions R.stack.stack n
  rsp_zone =
      let there = in_stack cfg R.stack.stack call.rsp valid R.stack.holds in
      let same : there.region ≡ R.stack.region =
      some_is there.region R.stack.region (sym there.numbered ∙ R.stack.numbered) in
      let high : call.rsp < R.stack.region.span.to =
      subst (λ (r : Region). call.rsp < r.span.to) same there.held.1 in (
        R.stack.region,
        R.stack.numbered,
        omega (arith, may.rsp.not_below, R.stack.room),
        omega (arith, may.rsp.not_above, high),
      )

  no_guard : (k : Kind) → k ≡ Stack → is_guard k ≡ false
  no_guard k e = ap is_guard e

  stack_permits : stack_of cfg.regions n ≡ Some R.stack.stack → permits cfg S.cpu.cr3 Read n ≡ true
  stack_permits e =
      let there = in_stack cfg R.stack.stack n valid e in
      let r = there.region in
      let kernel = nat_eq S.cpu.cr3 cfg.cpu.kernel_cr3 in
      ap (passes (λ z. is_present cfg.cpu S.cpu.cr3 z && has_right Read z)) there.found
      ∙ and_from (is_present cfg.cpu S.cpu.cr3 r) true
      (and_from (not (is_guard r.kind)) (kernel || (nat_eq S.cpu.cr3 cfg.cpu.user_cr3 && r.user_map))
      (ap not (no_guard r.kind there.is.kind))
      (or_left kernel (nat_eq S.cpu.cr3 cfg.cpu.user_cr3 && r.user_map)
      (eq-eqb S.cpu.cr3 cfg.cpu.kernel_cr3 R.cr3)))
      refl

  permitted : (in_guard cfg.regions n ≡ true) ⊎ (permits cfg S.cpu.cr3 Read n ≡ true)
  permitted = elim ((laid cfg valid).zone_byte R.stack.stack n rsp_zone) [
    | inl e ↦ inr (stack_permits e)
    | inr guard ↦ inl guard
  ]

  read_quiet : IsQuiet cfg S.cpu.cr3 S.cpu.gs S.chain (plain_read n 1)
  read_quiet = record {
    permitted = λ x of.
        let few : of.0 < 1 = of.1 in
        let is : x ≡ plus n of.0 = of.2 in
        let same : x ≡ n = omega (arith, n_fits, few, is) in
        subst (λ z. (in_guard cfg.regions z ≡ true) ⊎ (permits cfg S.cpu.cr3 Read z ≡ true)) (sym same) permitted;
    unlive = λ writes. absurd cc;
    own_gs = λ prefix. absurd cc;
    fits = n_fits;
  }

  reads_quiet : All (IsQuiet cfg S.cpu.cr3 S.cpu.gs S.chain) t.accesses
  reads_quiet =
      All-cons (IsQuiet cfg S.cpu.cr3 S.cpu.gs S.chain) (plain_read n 1) [] read_quiet
      (All-nil (IsQuiet cfg S.cpu.cr3 S.cpu.gs S.chain))

  -- where the machine goes on, RSP lies in the stack
  pub rsp_within : stops cfg t.accesses ≡ false → stack_of cfg.regions n ≡ Some R.stack.stack
  rsp_within runs = elim ((laid cfg valid).zone_byte R.stack.stack n rsp_zone) [
    | inl e ↦ e
    | inr guard ↦ absurd (false≢true (sym runs ∙ stopped guard))
  ]
    where
      stopped : in_guard cfg.regions n ≡ true → stops cfg t.accesses ≡ true
      stopped guard = ap (λ z. (z || false) || false) guard

  -- ---- the writes

  other_region : (x : ℕ) → LiesIn cfg Plain x → (s : ℕ) → stack_of cfg.regions x ≡ Some s → ⊥
  other_region x there s e =
      let r = region_in (λ z. z.kind ≡ Plain) (region_of cfg.regions x) there in
      let at = in_stack cfg s x valid e in
      let same : at.region ≡ r.0 = some_is at.region r.0 (sym at.found ∙ r.1) in
      let one : Stack ≡ Plain = sym at.is.kind ∙ ap (λ (z : Region). z.kind) same ∙ r.2 in
      absurd cc

  -- no byte that the handler may write is live
  unlive : (x : ℕ) → MayWrite cfg call h.stack R.stack.region x → IsLive cfg S.chain x → ⊥
  unlive x (inl plain) live = other_region x plain live.4.stack live.4.within
  unlive x (inr free) live =
      let here = (laid cfg valid).stack_bytes R.stack.stack R.stack.region x R.stack.numbered free.within in
      let up = R.stack.live x live here in
      omega (arith, up, free.top)

  -- with an edit nothing is live, and without one no other byte is written
  written_unlive : (x : ℕ) → Contains t.bytes x → IsLive cfg S.chain x → ⊥
  written_unlive x among live = elim (cases_Bool (is_edit b.edit)) [
    | inl edits ↦ none_live cfg S.chain x
        (user_outside cfg S.chain F.one_user F.admitted (may.framed edits).user) live
    | inr plain ↦
        elim (Contains-append_cases (map (λ w. w.0) b.writes) (bytes_of_words (edited_words frame b.edit)) x among) [
          | inl own ↦
              unlive x (All-contains (MayWrite cfg call h.stack R.stack.region) (map (λ w. w.0) b.writes) x
              (All-map (MayWrite cfg call h.stack R.stack.region) (λ (w : ℕ × ℕ). w.0) b.writes may.writes) own) live
          | inr more ↦
              none_in x (subst (λ z. Contains (bytes_of_words z) x) (no_words frame b.edit plain) more)
        ]
  ]

  quiet_writes : ¬ WritesLive cfg t
  quiet_writes (x, written, live) = elim written [
    | inl access ↦
        (All-contains (λ d. IsQuiet cfg S.cpu.cr3 S.cpu.gs S.chain d
        × (guarded cfg.regions d.at d.size ≡ false)) (judged cfg t.accesses) access.0
        (judged_all cfg (IsQuiet cfg S.cpu.cr3 S.cpu.gs S.chain) t.accesses reads_quiet) access.1).0.unlive access.2 x
        access.3 live
    | inr besides ↦ written_unlive x besides.1 live
  ]

  -- ---- the turn

  not_elsewhere : (found : Option (Insn × ℕ)) (P : Insn → ExecEnd → Type 0) → EndsWith cfg found S (Body b) P → ⊥
  not_elsewhere None P e = absurd e
  not_elsewhere (Some (insn, k)) P e = absurd e

  -- the turn breaks with no number
  pub quiet_turn : (found : Option (Insn × ℕ)) (k : ℕ) → BreaksWith cfg found S (Body b) t k → ⊥
  quiet_turn found k (inl first) = let is = first.1 in absurd cc
  quiet_turn found k (inr (inl second)) = quiet_gs cfg S t reads_quiet second.1
  quiet_turn found k (inr (inr (inl third))) = quiet_touches cfg S t reads_quiet third.1
  quiet_turn found k (inr (inr (inr (inl fourth)))) = quiet_writes fourth.1
  quiet_turn found k (inr (inr (inr (inr both)))) = elim both.1 [
    | inl fifth ↦ not_elsewhere found _ fifth.1
    | inr later ↦ elim later [ inl sixth ↦ not_elsewhere found _ sixth | inr eighth ↦ not_elsewhere found _ eighth.1 ]
  ]
