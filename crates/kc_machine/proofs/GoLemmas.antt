-- An instruction's turn. What the code tests is the attempt; B1 is out of question, the judgement of its accesses gives
-- B2 to B4 and the stop, and what is left is B5 to B8, whose numbers are above these.
use Rattle.std.proofs.Common.{◌≡◌, ℕ, ◌<◌, ◌≤◌, Bool, true, false, cond, eqb, List, [], Option, Some, None, Ok, ◌⊎◌, inl, inr, arith, refl, ap, sym, ◌∙◌, subst}
use Rattle.std.proofs.lemmas.Bool.{false≢true, eqb-true}
use Rattle.kc_insn.specs.declared.insn.Insn.{Insn}
use Rattle.kc_regions.specs.Description.{Description}
use Rattle.kc_cpu.specs.declared.cpu.Cpu.{Cpu}
use Rattle.kc_mem.specs.Memory.{Bytes, MemoryValue}
use Rattle.kc_exec.specs.declared.access.Access.{Access}
use Rattle.kc_exec.specs.declared.state.Activation.{Activation}
use Rattle.kc_exec.specs.declared.state.State.{State}
use Rattle.kc_exec.specs.declared.executed.Executed.{Executed}
use Rattle.kc_exec.specs.Moment.{Moment}
use Rattle.kc_exec.specs.Breaks.{effect}
use Rattle.kc_exec.specs.Execution.{moment, accesses_of, stops, with_write}
use Rattle.kc_exec.specs.Live.{IsLive}
use Rattle.kc_events.specs.declared.turn.Turn.TheVariants.{Go}
use Rattle.kc_events.specs.Attempt.{Attempt, executed, gone}
use Rattle.kc_events.specs.Breaks.{BreaksWith, IsForbidden, IsUndecodable}
use Rattle.kc_events.specs.Run.{IsLike, after}
use Rattle.kc_machine.specs.declared.end.StepEnd.{StepEnd}
use Rattle.kc_machine.specs.declared.end.StepEnd.TheVariants.{NotAllowed, Done, Stopped, Broke}
use Rattle.kc_machine.specs.Ends.{IsLeast, Ends, listed}
use Rattle.kc_machine.specs.JudgeSteps.{IsTrialOf, IsJudged, BreaksByAccess, BreaksBesides, IsLeastBesides, Concludes, cpu_after}
use Rattle.kc_machine.proofs.BesidesLemmas.{forbidden-range}
use Rattle.kc_machine.proofs.JudgeLemmas.{with-access}

-- what an instruction of n bytes does
abbrev pub effect_at : Description → State → ℕ → Insn → Executed
effect_at cfg S n insn = effect (moment cfg S.cpu S.latch S.mem.bytes n) insn

pub trial-of : (cfg : Description) (S : State) (insn : Insn) (n : ℕ) (done : Executed) (live : List Activation)
    (items : List Access)
    → done ≡ effect_at cfg S n insn → live ≡ S.chain → items ≡ accesses_of S.cpu n done
    → IsTrialOf cfg S (gone cfg (Some (insn, n)) S) S.cpu live items [] []
trial-of cfg S insn n done live items is chain_is listed = record {
  cpu = refl;
  accesses = sym (listed ∙ ap (λ (d : Executed). accesses_of S.cpu n d) is);
  bytes = refl;
  placed = λ k d lt. absurd (omega (arith, lt));
  more = λ x h. subst (λ (ch : List Activation). IsLive cfg ch x) (sym chain_is) h;
  no_more = λ x h. subst (λ (ch : List Activation). IsLive cfg ch x) chain_is h;
}

-- ---- the numbers of breaks

pub access-range : (cfg : Description) (S : State) (t : Attempt) (b : ℕ) → BreaksByAccess cfg S t b → (2 ≤ b) × (b ≤ 4)
access-range cfg S t b (inl h) = (omega (arith, h.0), omega (arith, h.0))
access-range cfg S t b (inr (inl h)) = (omega (arith, h.0), omega (arith, h.0))
access-range cfg S t b (inr (inr h)) = (omega (arith, h.0), omega (arith, h.0))

pub besides-range : (m : Moment) (chain : List Activation) (insn : Insn) (cpu : Cpu) (b : ℕ)
    → BreaksBesides chain insn (effect m insn).end cpu b → 5 ≤ b
besides-range m chain insn cpu b (inl h) = omega (arith, h.0)
besides-range m chain insn cpu b (inr (inl h)) = omega (arith, (forbidden-range m insn b h).0)
besides-range m chain insn cpu b (inr (inr h)) = omega (arith, h.0)

some-listed : (c : Bool) (b : ℕ) (xs : List Access) → eqb b 1 ≡ c → 2 ≤ b → cond c [] xs ≡ xs
some-listed true b xs e h = absurd (omega (arith, eqb-true b 1 e, h))
some-listed false b xs e h = refl

-- but for B1 the accesses are listed
pub listed-broke : (b : ℕ) (xs : List Access) → 2 ≤ b → xs ≡ listed xs (Broke b)
listed-broke b xs h = sym (some-listed (eqb b 1) b xs refl h)

pub listed-judged : (cfg : Description) (S : State) (t : Attempt) (xs : List Access) (end : StepEnd)
    → IsJudged cfg S t (Some end) → xs ≡ listed xs end
listed-judged cfg S t xs NotAllowed j = absurd j
listed-judged cfg S t xs Done j = absurd j
listed-judged cfg S t xs Stopped j = refl
listed-judged cfg S t xs (Broke b) j = listed-broke b xs (access-range cfg S t b j.0).0

-- ---- the end

module _ (cfg : Description) (S : State) (insn : Insn) (n : ℕ)
    (decodable : ¬ IsUndecodable cfg S.cpu.rip (Some (insn, n))) where
  abbrev t : Attempt
  t = gone cfg (Some (insn, n)) S

  abbrev Breaking : ℕ → Type 0
  Breaking b = BreaksWith cfg (Some (insn, n)) S Go t b

  abbrev Besides : ℕ → Type 0
  Besides b = BreaksBesides S.chain insn (effect_at cfg S n insn).end t.cpu b

  part : (b : ℕ) → Breaking b → BreaksByAccess cfg S t b ⊎ ((stops cfg t.accesses ≡ false) × Besides b)
  part b (inl h) = absurd (decodable h.2)
  part b (inr (inl h)) = inl (inl h)
  part b (inr (inr (inl h))) = inl (inr (inl h))
  part b (inr (inr (inr (inl h)))) = inl (inr (inr h))
  part b (inr (inr (inr (inr h)))) = inr h

  stopped-no : (b : ℕ) → IsJudged cfg S t (Some Stopped) → BreaksByAccess cfg S t b
      ⊎ ((stops cfg t.accesses ≡ false) × Besides b) → ⊥
  stopped-no b j (inl h) = j.1 b h
  stopped-no b j (inr h) = false≢true (sym h.0 ∙ j.0)

  broke-no : (b k : ℕ) → k < b → IsJudged cfg S t (Some (Broke b)) → BreaksByAccess cfg S t k
      ⊎ ((stops cfg t.accesses ≡ false) × Besides k) → ⊥
  broke-no b k lt j (inl h) = j.1 k lt h
  broke-no b k lt j (inr h) =
      omega (
        arith,
        lt,
        (access-range cfg S t b j.0).1,
        besides-range (moment cfg S.cpu S.latch S.mem.bytes n) S.chain insn t.cpu k h.1,
      )

  -- the judgement of the accesses ends the turn
  pub judged-ends : (end : StepEnd) (T : State) → IsJudged cfg S t (Some end) → T.stopped ≡ true
      → Ends cfg S t Breaking T (Ok end)
  judged-ends NotAllowed T j h = absurd j
  judged-ends Done T j h = absurd j
  judged-ends Stopped T j h = ((j.0, λ b q. stopped-no b j (part b q)), h)
  judged-ends (Broke b) T j h =
      ((with-access cfg (Some (insn, n)) S Go t b j.0, λ k lt q. broke-no b k lt j (part k q)), h)

  besides-no : (b k : ℕ) → k < b → IsJudged cfg S t None → IsLeast Besides b → BreaksByAccess cfg S t k
      ⊎ ((stops cfg t.accesses ≡ false) × Besides k) → ⊥
  besides-no b k lt j least (inl h) = j.1 k h
  besides-no b k lt j least (inr h) = least.1 k lt h.1

  -- one of B5 to B8 ends it
  pub besides-ends : (b : ℕ) (T : State) → IsJudged cfg S t None → IsLeast Besides b → T.stopped ≡ true
      → Ends cfg S t Breaking T (Ok (Broke b))
  besides-ends b T j least h =
      ((inr (inr (inr (inr (j.0, least.0)))), λ k lt q. besides-no b k lt j least (part k q)), h)

  none-no : (b : ℕ) → IsJudged cfg S t None → ((k : ℕ) → ¬ Besides k) → BreaksByAccess cfg S t b
      ⊎ ((stops cfg t.accesses ≡ false) × Besides b) → ⊥
  none-no b j none (inl h) = j.1 b h
  none-no b j none (inr h) = none b h.1

  -- nothing ends it
  pub done-ends : (T : State) → IsJudged cfg S t None → ((k : ℕ) → ¬ Besides k) → IsLike T (after S t)
      → Ends cfg S t Breaking T (Ok Done)
  done-ends T j none like = ((j.0, λ b q. none-no b j none (part b q)), like)

-- the changes were made to a memory of the same bytes
pub carried : (S T : State) (m : MemoryValue) (n : ℕ) (done e : Executed) → m.bytes ≡ S.mem.bytes → done ≡ e
    → IsLike T (after (record S { mem = m }) (executed (record S { mem = m }) n done))
    → IsLike T (after S (executed S n e))
carried S T m n done e same is h = record {
  cpu = h.cpu ∙ ap (λ (d : Executed). (executed S n d).cpu) is;
  latch = h.latch ∙ ap (λ (d : Executed). d.latch) is;
  mem = h.mem ∙ ap (λ (b : Bytes). with_write done.write b) same ∙ ap (λ (d : Executed). with_write d.write S.mem.bytes)
      is;
  stopped = h.stopped;
  chain = h.chain ∙ ap (λ (d : Executed). (executed S n d).left) is;
}

-- what the rest of the instruction has found, of a memory of the same bytes
module _ (cfg : Description) (S : State) (insn : Insn) (n : ℕ)
    (decodable : ¬ IsUndecodable cfg S.cpu.rip (Some (insn, n)))
    (m : MemoryValue) (done : Executed) (same : m.bytes ≡ S.mem.bytes) (is : done ≡ effect_at cfg S n insn)
    (j : IsJudged cfg S (gone cfg (Some (insn, n)) S) None) where
  abbrev of-effect : (o : Option ℕ) → IsLeastBesides S.chain insn done.end (cpu_after S.chain done) o
      → IsLeastBesides S.chain insn (effect_at cfg S n insn).end (cpu_after S.chain (effect_at cfg S n insn)) o
  of-effect o h = subst (λ (d : Executed). IsLeastBesides S.chain insn d.end (cpu_after S.chain d) o) is h

  pub concluded-ends : (end : StepEnd) (T : State) → Concludes (record S { mem = m }) T insn done end
      → Ends cfg S (gone cfg (Some (insn, n)) S)
      (λ b. BreaksWith cfg (Some (insn, n)) S Go (gone cfg (Some (insn, n)) S) b) T (Ok end)
  concluded-ends NotAllowed T h = absurd h
  concluded-ends Done T h = done-ends cfg S insn n decodable T j (of-effect None h.0)
      (carried S T m n done (effect_at cfg S n insn) same is (h.1 n))
  concluded-ends Stopped T h = absurd h
  concluded-ends (Broke b) T h = besides-ends cfg S insn n decodable b T j (of-effect (Some b) h.0) h.1

  pub concluded-listed : (end : StepEnd) (T : State) (xs : List Access)
      → Concludes (record S { mem = m }) T insn done end → xs ≡ listed xs end
  concluded-listed NotAllowed T xs h = absurd h
  concluded-listed Done T xs h = refl
  concluded-listed Stopped T xs h = absurd h
  concluded-listed (Broke b) T xs h =
      let from = besides-range (moment cfg S.cpu S.latch S.mem.bytes n) S.chain insn
      (cpu_after S.chain (effect_at cfg S n insn)) b (of-effect (Some b) h.0).0 in
      listed-broke b xs (omega (arith, from))

-- ---- no instruction

forbidden-from : (cfg : Description) (found : Option (Insn × ℕ)) (S : State) (k : ℕ) → IsForbidden cfg found S Go k
    → 6 ≤ k
forbidden-from cfg None S k h = absurd h
forbidden-from cfg (Some (insn, n)) S k h = (forbidden-range (moment cfg S.cpu S.latch S.mem.bytes n) insn k h).0

below-one : (cfg : Description) (found : Option (Insn × ℕ)) (S : State) (t : Attempt) (k : ℕ) → k < 1
    → BreaksWith cfg found S Go t k → ⊥
below-one cfg found S t k lt (inl h) = omega (arith, lt, h.0)
below-one cfg found S t k lt (inr (inl h)) = omega (arith, lt, h.0)
below-one cfg found S t k lt (inr (inr (inl h))) = omega (arith, lt, h.0)
below-one cfg found S t k lt (inr (inr (inr (inl h)))) = omega (arith, lt, h.0)
below-one cfg found S t k lt (inr (inr (inr (inr (free, inl h))))) = omega (arith, lt, h.0)
below-one cfg found S t k lt (inr (inr (inr (inr (free, inr (inl h)))))) =
    omega (arith, lt, forbidden-from cfg found S k h)
below-one cfg found S t k lt (inr (inr (inr (inr (free, inr (inr h)))))) = omega (arith, lt, h.0)

pub undecodable-ends : (cfg : Description) (found : Option (Insn × ℕ)) (S T : State) → IsUndecodable cfg S.cpu.rip found
    → T.stopped ≡ true
    → Ends cfg S (gone cfg found S) (λ b. BreaksWith cfg found S Go (gone cfg found S) b) T (Ok (Broke 1))
undecodable-ends cfg found S T h halted = ((inl (refl, refl, h), below-one cfg found S (gone cfg found S)), halted)
