-- The parts of the judgement of a turn. Machinery: what each means stands with the breaks.
use Rattle.std.specs.Prelude.{◌≡◌, ℕ, ◌+◌, ◌<◌, ◌≤◌, ◌^◌, Bool, true, false, ◌⊎◌, List, All, Any, ◌++◌, map, Option, Some, None, IsSomeAnd, if◌then◌else◌}
use Rattle.kc_insn.specs.declared.insn.Insn.{Insn}
use Rattle.kc_insn.specs.declared.insn.Insn.TheVariants.{Sysretq}
use Rattle.kc_regions.specs.declared.region.Kind.TheVariants.{Text}
use Rattle.kc_regions.specs.declared.touch.Touch.TheVariants.{Write as ForWrite}
use Rattle.kc_regions.specs.Permission.{permits}
use Rattle.kc_regions.specs.Region.{region_of}
use Rattle.kc_regions.specs.Description.{Description}
use Rattle.kc_cpu.specs.declared.cpu.Cpu.{Cpu}
use Rattle.kc_cpu.specs.declared.cpu.Call.{Call}
use Rattle.kc_exec.specs.declared.access.Access.{Access}
use Rattle.kc_exec.specs.declared.state.Activation.{Activation}
use Rattle.kc_exec.specs.declared.state.State.{State}
use Rattle.kc_exec.specs.declared.executed.Executed.{Executed}
use Rattle.kc_exec.specs.declared.executed.ExecEnd.{ExecEnd}
use Rattle.kc_exec.specs.declared.executed.ExecEnd.TheVariants.{Returned, Forbidden}
use Rattle.kc_exec.specs.Live.{IsLive}
use Rattle.kc_exec.specs.Operand.{plus}
use Rattle.kc_events.specs.Turns.{newest, mode_below, after_leave}
use Rattle.kc_events.specs.declared.turn.LeaveSet.{LeaveSet}
use Rattle.kc_events.specs.Attempt.{Attempt, bytes_of_words, executed, idle, is_return}
use Rattle.kc_events.specs.Breaks.{UsesOtherGs, TouchesForbidden, WritesLive, Restores}
use Rattle.kc_events.specs.Run.{IsLike, after}
use Rattle.kc_machine.specs.declared.end.StepEnd.{StepEnd}
use Rattle.kc_machine.specs.declared.end.StepEnd.TheVariants.{NotAllowed, Done, Stopped, Broke}
use Rattle.kc_machine.specs.Ends.{IsEnd, IsLeast}

-- the n bytes from address a on, one at least, lie in one region
abbrev pub AreInOne : Description → ℕ → ℕ → Type 0
AreInOne cfg a n = (0 < n) × IsSomeAnd (region_of cfg.regions a) (λ r. a + n ≤ r.span.to)

-- the access's bytes lie in one region, which is present under this CR3 and has the right
abbrev pub IsPlain : Description → ℕ → Access → Type 0
IsPlain cfg cr3 access = AreInOne cfg access.at access.size × (permits cfg cr3 access.touch access.at ≡ true)

-- one of the n bytes from address a on is live
abbrev pub HasLiveByte : Description → List Activation → ℕ → ℕ → Type 0
HasLiveByte cfg chain a n = (i : ℕ) × (i < n) × IsLive cfg chain (plus a i)

-- What is judged of a turn: the processor before it, its accesses, the bytes and words that are written besides, and
-- the activations whose stack bytes are live, or others of which the same bytes are.
pub record IsTrialOf (cfg : Description) (S : State) (t : Attempt) (before : Cpu) (live : List Activation)
    (touched : List Access)
    (writes : List (ℕ × ℕ)) (words : List (ℕ × ℕ)) : Type 0 where
  pub cpu : S.cpu ≡ before
  pub accesses : t.accesses ≡ touched
  pub bytes : t.bytes ≡ map (λ w. w.0) writes ++ bytes_of_words words
  pub placed : All (λ w. w.0 < 2 ^ 64) words
  pub more : (x : ℕ) → IsLive cfg t.chain x → IsLive cfg live x
  pub no_more : (x : ℕ) → IsLive cfg live x → IsLive cfg t.chain x

-- a byte is live that a judged access writes, or, where nothing stops the turn, one that is written besides
abbrev pub HasLiveWrite : Description → List Activation → List Access → Bool → List (ℕ × ℕ) → List (ℕ × ℕ) → Type 0
HasLiveWrite cfg live touched stopped writes words =
    Any (λ a. (a.touch ≡ ForWrite) × HasLiveByte cfg live a.at a.size) touched
    ⊎ ((stopped ≡ false) × (Any (λ w. IsLive cfg live w.0) writes ⊎ Any (λ w. HasLiveByte cfg live w.0 8) words))

-- the breaks that accesses and written bytes show
abbrev pub BreaksByAccess : Description → State → Attempt → ℕ → Type 0
BreaksByAccess cfg S t b =
    ((b ≡ 2) × UsesOtherGs cfg S t) ⊎ (((b ≡ 3) × TouchesForbidden cfg S t) ⊎ ((b ≡ 4) × WritesLive cfg t))

-- the end of a turn that stops or breaks so; none where it goes on
abbrev pub IsJudged : Description → State → Attempt → Option StepEnd → Type 0
IsJudged cfg S t None = IsEnd cfg t (BreaksByAccess cfg S t) Done
IsJudged cfg S t (Some NotAllowed) = ⊥
IsJudged cfg S t (Some Done) = ⊥
IsJudged cfg S t (Some Stopped) = IsEnd cfg t (BreaksByAccess cfg S t) Stopped
IsJudged cfg S t (Some (Broke b)) = IsEnd cfg t (BreaksByAccess cfg S t) (Broke b)

-- the processor after an instruction: a return's mode is that of the interrupted context
abbrev pub cpu_after : List Activation → Executed → Cpu
cpu_after chain done =
    if is_return done.end then record done.cpu { mode = mode_below chain done.cpu.mode } else done.cpu

-- the breaks of an instruction that its accesses don't show: it ends so and leaves this processor
abbrev pub BreaksBesides : List Activation → Insn → ExecEnd → Cpu → ℕ → Type 0
BreaksBesides chain insn end cpu b =
    ((b ≡ 5) × ((end ≡ Returned) × ¬ IsSomeAnd (newest chain) (Restores cpu)))
    ⊎ ((end ≡ Forbidden b)
    ⊎ ((b ≡ 8) × ((insn ≡ Sysretq) × ¬ IsSomeAnd (newest chain) (λ a. a.syscall ≡ true))))

abbrev pub IsLeastBesides : List Activation → Insn → ExecEnd → Cpu → Option ℕ → Type 0
IsLeastBesides chain insn end cpu None = (b : ℕ) → ¬ BreaksBesides chain insn end cpu b
IsLeastBesides chain insn end cpu (Some b) = IsLeast (BreaksBesides chain insn end cpu) b

-- the end of an instruction whose accesses neither stop nor break it, and what stands afterwards
abbrev pub Concludes : State → State → Insn → Executed → StepEnd → Type 0
Concludes S T insn done NotAllowed = ⊥
Concludes S T insn done Done =
    IsLeastBesides S.chain insn done.end (cpu_after S.chain done) None
    × ((n : ℕ) → IsLike T (after S (executed S n done)))
Concludes S T insn done Stopped = ⊥
Concludes S T insn done (Broke b) =
    IsLeastBesides S.chain insn done.end (cpu_after S.chain done) (Some b) × (T.stopped ≡ true)

-- the byte at address a lies in executable text
abbrev pub IsExecutable : Description → ℕ → Type 0
IsExecutable cfg a = IsSomeAnd (region_of cfg.regions a) (λ r. (r.kind ≡ Text) × (r.exec ≡ true))

-- the attempt of a handler's return
abbrev pub left : State → Call → LeaveSet → Attempt
left S call l = record (idle S) { cpu = after_leave S.cpu call l }
