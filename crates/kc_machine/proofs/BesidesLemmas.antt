-- The breaks of an instruction that its accesses don't show, by how it ends: a return has B5 or B8, a forbidden
-- instruction its own number, every other none.
use Rattle.std.proofs.Common.{◌≡◌, ℕ, ◌<◌, ◌≤◌, Bool, true, false, cond, List, Option, Some, None, ◌⊎◌, inl, inr, arith, refl, ap, sym, ◌∙◌}
use Rattle.kc_insn.specs.declared.insn.Insn.{Insn}
use Rattle.kc_insn.specs.declared.insn.Insn.TheVariants.{Sysretq}
use Rattle.kc_cpu.specs.declared.cpu.Cpu.{Cpu}
use Rattle.kc_exec.specs.declared.state.Activation.{Activation}
use Rattle.kc_exec.specs.declared.executed.ExecEnd.{ExecEnd}
use Rattle.kc_exec.specs.declared.executed.ExecEnd.TheVariants.{Next, Returned, Stopped, Forbidden}
use Rattle.kc_exec.specs.Moment.{Moment}
use Rattle.kc_exec.specs.Effect.{row}
use Rattle.kc_exec.specs.Breaks.{effect}
use Rattle.kc_exec.proofs.EndLemmas.{forbidden-of}
use Rattle.kc_machine.specs.JudgeSteps.{BreaksBesides, IsLeastBesides}

-- SYSRETQ is a return
pub sysretq-returns : (m : Moment) → (effect m Sysretq).end ≡ Returned
unfolding effect row
sysretq-returns m = refl

returns-at : (m : Moment) (insn : Insn) (end : ExecEnd) → end ≡ (effect m insn).end → insn ≡ Sysretq → end ≡ Returned
returns-at m insn end is e = is ∙ ap (λ (i : Insn). (effect m i).end) e ∙ sysretq-returns m

chosen : (a b c : Bool) (n : ℕ) → cond a (Some 6) (cond b (Some 7) (cond c (Some 8) None)) ≡ Some n → (6 ≤ n) × (n ≤ 8)
chosen true b c n e = let is : 6 ≡ n = cc (e) in (omega (arith, is), omega (arith, is))
chosen false true c n e = let is : 7 ≡ n = cc (e) in (omega (arith, is), omega (arith, is))
chosen false false true n e = let is : 8 ≡ n = cc (e) in (omega (arith, is), omega (arith, is))
chosen false false false n e = absurd (let k : ◌≡◌ {A = Option ℕ} None (Some n) = e in cc)

-- a forbidden instruction's break is B6, B7 or B8
pub forbidden-range : (m : Moment) (insn : Insn) (n : ℕ) → (effect m insn).end ≡ Forbidden n → (6 ≤ n) × (n ≤ 8)
forbidden-range m insn n e = chosen _ _ _ n ((forbidden-of false m insn (effect m insn).end n refl refl).0 e).1

-- ---- the end

-- neither a return nor forbidden
pub none-besides : (m : Moment) (chain : List Activation) (insn : Insn) (end : ExecEnd) (cpu : Cpu)
    → end ≡ (effect m insn).end
    → (end ≡ Next) ⊎ (end ≡ Stopped) → IsLeastBesides chain insn end cpu None
none-besides m chain insn end cpu is (inl e) b (inl h) = let k : Next ≡ Returned = sym e ∙ h.1.0 in cc
none-besides m chain insn end cpu is (inr e) b (inl h) = let k : Stopped ≡ Returned = sym e ∙ h.1.0 in cc
none-besides m chain insn end cpu is (inl e) b (inr (inl h)) = let k : Next ≡ Forbidden b = sym e ∙ h in cc
none-besides m chain insn end cpu is (inr e) b (inr (inl h)) = let k : Stopped ≡ Forbidden b = sym e ∙ h in cc
none-besides m chain insn end cpu is (inl e) b (inr (inr h)) =
    let k : Next ≡ Returned = sym e ∙ returns-at m insn end is h.1.0 in cc
none-besides m chain insn end cpu is (inr e) b (inr (inr h)) =
    let k : Stopped ≡ Returned = sym e ∙ returns-at m insn end is h.1.0 in cc

below-forbidden : (m : Moment) (chain : List Activation) (insn : Insn) (end : ExecEnd) (cpu : Cpu) (n : ℕ)
    → end ≡ (effect m insn).end → end ≡ Forbidden n
    → (k : ℕ) → k < n → BreaksBesides chain insn end cpu k → ⊥
below-forbidden m chain insn end cpu n is e k lt (inl h) = let c : Forbidden n ≡ Returned = sym e ∙ h.1.0 in cc
below-forbidden m chain insn end cpu n is e k lt (inr (inl h)) =
    let c : Forbidden n ≡ Forbidden k = sym e ∙ h in let same : n ≡ k = cc (c) in omega (arith, lt, same)
below-forbidden m chain insn end cpu n is e k lt (inr (inr h)) =
    let c : Forbidden n ≡ Returned = sym e ∙ returns-at m insn end is h.1.0 in cc

pub forbidden-besides : (m : Moment) (chain : List Activation) (insn : Insn) (end : ExecEnd) (cpu : Cpu) (n : ℕ)
    → end ≡ (effect m insn).end → end ≡ Forbidden n
    → IsLeastBesides chain insn end cpu (Some n)
forbidden-besides m chain insn end cpu n is e = (inr (inl e), below-forbidden m chain insn end cpu n is e)
