-- How an instruction ends. No row of the table ends by a stop or a break, so a stop comes from a guard alone and a
-- break from `break_of` alone. By cases on the instruction for the first, on the guard test and the break for the
-- others.
use Rattle.std.proofs.Common.{◌≡◌, ◌↔◌, ℕ, Bool, true, false, cond, IsTrue, List, [], Option, Some, None, sym, ◌∙◌, subst, refl, ◌==◌, ap}
use Rattle.std.proofs.lemmas.Bool.{false≢true}
use Rattle.kc_words.specs.declared.width.Width.{Width}
use Rattle.kc_insn.specs.declared.insn.Place.{Place}
use Rattle.kc_insn.specs.declared.insn.Insn.{Insn}
use Rattle.kc_insn.specs.declared.insn.Insn.TheVariants.{Nop, Endbr64, Lfence, Ud2, Cld, Clac, Stac, Cli, Sti, Swapgs, Sysretq, Iretq, Rdmsr, Wrmsr, Pushfq, Popfq, Ret, ReadCr3, WriteCr3, ReadGs, WriteGs, Mov, Lea, Xchg, Push, Pop, Alu, Test, Bit, Jcc, Jmp, Call}
use Rattle.kc_exec.specs.declared.access.Access.{Access}
use Rattle.kc_exec.specs.declared.executed.ExecEnd.{ExecEnd}
use Rattle.kc_exec.specs.declared.executed.ExecEnd.TheVariants.{Next, Returned, Stopped, Forbidden}
use Rattle.kc_exec.specs.declared.executed.Executed.{Executed}
use Rattle.kc_exec.specs.Moment.{Moment}
use Rattle.kc_exec.specs.Change.{falls, operated}
use Rattle.kc_exec.specs.Effect.{row, gs_base, kernel_gs_base, mcg_status, msr_number, edx_eax, with_msr}
use Rattle.kc_exec.specs.Breaks.{break_of, judged, effect}
use Rattle.kc_exec.specs.Execution.{is_done}

done-operated : (m : Moment) (w : Width) (dest : Place) (reads : List Access) (flags : ℕ) (v : Option ℕ)
    → is_done (operated m w dest reads flags v).end ≡ true
done-operated m w dest reads flags None = refl
done-operated m w dest reads flags (Some v) = refl

done-if : (b : Bool) (e f : Executed) → is_done e.end ≡ true → is_done f.end ≡ true → is_done (cond b e f).end ≡ true
done-if true e f p q = p
done-if false e f p q = q

done-msr : (m : Moment) (n v : ℕ) → is_done (with_msr m n v).end ≡ true
done-msr m n v =
    let last = falls m m.cpu [] None in
    let third = cond (n == mcg_status) (falls (record m { latch = record m.latch { mcip = false } }) m.cpu [] None)
    last in
    let second = cond (n == kernel_gs_base) (falls m (record m.cpu { kgs = v }) [] None) third in
    done-if (n == gs_base) (falls m (record m.cpu { gs = v }) [] None) second refl
    (done-if (n == kernel_gs_base) (falls m (record m.cpu { kgs = v }) [] None) third refl
    (done-if (n == mcg_status) (falls (record m { latch = record m.latch { mcip = false } }) m.cpu [] None) last refl
    refl))

pub done-row : (m : Moment) (insn : Insn) → is_done (row m insn).end ≡ true
unfolding row
done-row m Nop = refl
done-row m Endbr64 = refl
done-row m Lfence = refl
done-row m Ud2 = refl
done-row m (Mov w dest src) = refl
done-row m (Lea w dest src) = refl
done-row m (Xchg w dest src) = refl
done-row m (Push src) = refl
done-row m (Pop dest) = refl
done-row m Pushfq = refl
done-row m Popfq = refl
done-row m (Alu op w dest src) = done-operated m w dest _ _ _
done-row m (Test w dest src) = refl
done-row m (Bit op w dest number) = done-operated m w dest _ _ _
done-row m (Jcc code target) = refl
done-row m (Jmp target) = refl
done-row m (Call target) = refl
done-row m Ret = refl
done-row m Cli = refl
done-row m Cld = refl
done-row m Clac = refl
done-row m Stac = refl
done-row m Sti = refl
done-row m Swapgs = refl
done-row m (ReadGs r) = refl
done-row m (WriteGs r) = refl
done-row m Rdmsr = refl
done-row m Wrmsr = done-msr m (msr_number m.cpu) (edx_eax m.cpu)
done-row m (ReadCr3 r) = refl
done-row m (WriteCr3 r) = refl
done-row m Sysretq = refl
done-row m Iretq = refl

-- an end that is_done is neither a stop nor a break
not-stopped : (e : ExecEnd) → is_done e ≡ true → e ≡ Stopped → ⊥
not-stopped e h q = false≢true (subst (λ (x : ExecEnd). is_done x ≡ true) q h)

not-forbidden : (e : ExecEnd) (n : ℕ) → is_done e ≡ true → e ≡ Forbidden n → ⊥
not-forbidden e n h q = false≢true (subst (λ (x : ExecEnd). is_done x ≡ true) q h)

-- with s for the guard test and b for the break
pub stopped-where : (s : Bool) (b : Option ℕ) (done : Executed) (r : ExecEnd) → is_done done.end ≡ true
    → r ≡ cond s Stopped (judged b done).end → (r ≡ Stopped) ↔ IsTrue s
stopped-where true b done r h e = (λ _. refl, λ _. e)
stopped-where false None done r h e = (λ q. absurd (not-stopped done.end h (sym e ∙ q)), λ t. absurd (false≢true t))
stopped-where false (Some n) done r h e =
    (λ q. absurd (let k : Forbidden n ≡ Stopped = sym e ∙ q in cc), λ t. absurd (false≢true t))

pub forbidden-where : (s : Bool) (b : Option ℕ) (done : Executed) (r : ExecEnd) (n : ℕ) → is_done done.end ≡ true
    → r ≡ cond s Stopped (judged b done).end
    → (r ≡ Forbidden n) ↔ (¬ IsTrue s × (b ≡ Some n))
forbidden-where true b done r n h e =
    (λ q. absurd (let k : Stopped ≡ Forbidden n = sym e ∙ q in cc), λ p. absurd (p.0 refl))
forbidden-where false None done r n h e = (
  λ q. absurd (not-forbidden done.end n h (sym e ∙ q)),
  λ p. absurd (let k : ◌≡◌ {A = Option ℕ} None (Some n) =
      p.1 in cc),
)
forbidden-where false (Some k) done r n h e = (
  λ q. (
    λ t. absurd (false≢true t),
    let same : Forbidden k ≡ Forbidden n = sym e ∙ q in let number : k ≡ n = cc in
        ap (λ (x : ℕ). Some x) number,
  ),
  λ p. let same : k ≡ n = cc (p.1) in e ∙ ap (λ (x : ℕ). Forbidden x) same,
)

-- the same of a whole effect, where no access has a byte in a guard
pub stopped-of : (s : Bool) (m : Moment) (insn : Insn) (r : ExecEnd) → s ≡ false → r ≡ (effect m insn).end
    → (r ≡ Stopped) ↔ IsTrue s
unfolding effect
stopped-of s m insn r free e =
    stopped-where s (break_of m insn) (row m insn) r (done-row m insn)
    (e ∙ sym (ap (λ (x : Bool). cond x Stopped (judged (break_of m insn) (row m insn)).end) free))

pub forbidden-of : (s : Bool) (m : Moment) (insn : Insn) (r : ExecEnd) (n : ℕ) → s ≡ false → r ≡ (effect m insn).end
    → (r ≡ Forbidden n) ↔ (¬ IsTrue s × (break_of m insn ≡ Some n))
unfolding effect
forbidden-of s m insn r n free e =
    forbidden-where s (break_of m insn) (row m insn) r n (done-row m insn)
    (e ∙ sym (ap (λ (x : Bool). cond x Stopped (judged (break_of m insn) (row m insn)).end) free))
