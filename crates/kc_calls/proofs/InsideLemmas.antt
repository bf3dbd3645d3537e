-- What is known while a handler runs, taken out of a description; and a description of a state is one of each state
-- that is like it.
use Rattle.std.proofs.Common.{◌≡◌, ℕ, ◌+◌, All, Option, Some, None, IsSomeAnd, slice_get, refl, sym, ◌∙◌, subst}
use Rattle.kc_bits.specs.Bits.{word}
use Rattle.kc_insn.specs.declared.insn.Insn.{Insn}
use Rattle.kc_insn.specs.declared.insn.Insn.TheVariants.{Call as CallInsn}
use Rattle.kc_regions.specs.Description.{Description}
use Rattle.kc_regions.specs.Lookup.{handler_of}
use Rattle.kc_regions.specs.declared.entry.Handler.{Handler}
use Rattle.kc_cpu.specs.declared.cpu.Call.{Call}
use Rattle.kc_cpu.specs.declared.cpu.Mode.{Mode}
use Rattle.kc_cpu.specs.declared.cpu.Mode.TheVariants.{User, Code, Inside}
use Rattle.kc_mem.specs.Memory.{AreBytes}
use Rattle.kc_exec.specs.declared.state.State.{State}
use Rattle.kc_events.specs.Run.{IsLike}
use Rattle.kc_state.specs.declared.key.Key.{Key}
use Rattle.kc_state.specs.declared.site.Site.{Site}
use Rattle.kc_state.specs.declared.state.AbsState.{AbsState}
use Rattle.kc_describes.specs.Chain.{newest_of, env_of}
use Rattle.kc_describes.specs.Describes.{IsInsideAt, AtSite, Describes}
use Rattle.kc_describes.specs.Fits.{IsKernelCpu, ChainFits}
use Rattle.kc_describes.specs.Inside.{IsCallAt, IsHandlerRunning}
use Rattle.kc_describes.specs.Places.{FloorsStand, SlotsStand}
use Rattle.kc_describes.specs.Row.{FileStands, SpacesStand}
use Rattle.kc_describes.specs.Widths.{IsCpu, IsActivation}
use Rattle.kc_calls.specs.Laws.{body_of}

-- ---- the handler that runs

pub record IsRunning (cfg : Description) (key : Key) (at : ℕ) (insn : Insn) (len : ℕ) (s : AbsState) (S : State)
    : Type 0
  where
    pub call : Call
    pub handler : Handler
    pub target : ℕ
    pub mode : S.cpu.mode ≡ Inside call
    pub calls : insn ≡ CallInsn target
    pub number : handler_of cfg.handlers target ≡ Some call.handler
    pub back : call.back ≡ word (at + len)
    pub contract : slice_get cfg.handlers call.handler ≡ Some handler
    pub running : IsHandlerRunning cfg key s S.chain S.cpu call handler

promised : (P : Handler → Type 0) (o : Option Handler) → IsSomeAnd o P → (h : Handler) × (o ≡ Some h) × P h
promised P (Some h) fact = (h, refl, fact)
promised P None fact = absurd fact

called_by : (cfg : Description) (at len : ℕ) (insn : Insn) (call : Call) → IsCallAt cfg at (Some (insn, len)) call
    → (target : ℕ) × (insn ≡ CallInsn target) × (handler_of cfg.handlers target ≡ Some call.handler)
    × (call.back ≡ word (at + len))
called_by cfg at len (CallInsn target) call h = (target, refl, h.0, h.1)
called_by cfg at len insn call h = absurd h

running_in : (cfg : Description) (key : Key) (at : ℕ) (insn : Insn) (len : ℕ) (s : AbsState) (S : State) (mode : Mode)
    → S.cpu.mode ≡ mode → IsInsideAt cfg key at (Some (insn, len)) s S.chain S.cpu mode
    → IsRunning cfg key at insn len s S
running_in cfg key at insn len s S User e h = absurd h
running_in cfg key at insn len s S Code e h = absurd h
running_in cfg key at insn len s S (Inside call) e h =
    let by = called_by cfg at len insn call h.0 in
    let is = promised (IsHandlerRunning cfg key s S.chain S.cpu call) (slice_get cfg.handlers call.handler) h.1 in
    record {
      call = call;
      handler = is.0;
      target = by.0;
      mode = e;
      calls = by.1;
      number = by.2;
      back = by.3;
      contract = is.1;
      running = is.2;
    }

pub running_of : (cfg : Description) (key : Key) (at : ℕ) (insn : Insn) (len : ℕ) (s : AbsState) (S : State)
    → Describes cfg key (body_of at) (Some (insn, len)) s S → IsRunning cfg key at insn len s S
running_of cfg key at insn len s S D = running_in cfg key at insn len s S S.cpu.mode refl D.point

-- ---- states that are like each other

pub like_described : (cfg : Description) (key : Key) (site : Site) (found : Option (Insn × ℕ)) (s : AbsState)
    (T S : State) → IsLike T S → Describes cfg key site found s S → Describes cfg key site found s T
like_described cfg key site found s T S like D =
    let cpu = sym like.cpu in
    let chain = sym like.chain in
    record {
      typed = record {
        cpu = subst IsCpu cpu D.typed.cpu;
        mem = subst AreBytes (sym like.mem) D.typed.mem;
        chain = subst (λ c. All IsActivation c) chain D.typed.chain;
      };
      running = like.stopped ∙ D.running;
      chain = subst (ChainFits cfg key) chain D.chain;
      floors = subst (λ c. FloorsStand cfg s.floors (newest_of c).base c) chain D.floors;
      file =
          subst (λ c. FileStands (env_of cfg T.chain) s c c.mode) cpu
          (subst (λ c. FileStands (env_of cfg c) s S.cpu S.cpu.mode) chain D.file);
      spaces =
          subst (λ l. SpacesStand cfg (env_of cfg T.chain) s T.cpu l) (sym like.latch)
          (subst (λ c. SpacesStand cfg (env_of cfg T.chain) s c S.latch) cpu
          (subst (λ c. SpacesStand cfg (env_of cfg c) s S.cpu S.latch) chain D.spaces));
      slots =
          subst (λ m. SlotsStand cfg key (env_of cfg T.chain) s.slots m) (sym like.mem)
          (subst (λ c. SlotsStand cfg key (env_of cfg c) s.slots S.mem.bytes) chain D.slots);
      bare = D.bare;
      kernel = subst (IsKernelCpu cfg) cpu D.kernel;
      point =
          subst (λ c. AtSite cfg key site found s T.chain c) cpu
          (subst (λ c. AtSite cfg key site found s c S.cpu) chain D.point);
    }
