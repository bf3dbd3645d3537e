-- From what kc_arith says of an instruction to the form of any row. An instruction finds what the state says of the
-- processor; beside registers, flags, RIP and the gap after an STI it leaves processor and latches as they were. Its
-- store is the write, where its place is also the write's address and its value is in range.
use Rattle.std.proofs.Common.{◌≡◌, ℕ, ◌+◌, ◌/◌, ◌^◌, ◌<◌, ◌⊎◌, inl, inr, List, length, All, slice_index, Option, Some, None, refl, sym, ap, ◌∙◌, subst, arith}
use Rattle.std.proofs.lemmas.List.Elements.{All-from_get_or}
use Rattle.kc_words.specs.Flags.{bits_of}
use Rattle.kc_words.specs.declared.width.Width.{Width}
use Rattle.kc_words.specs.declared.width.Width.TheVariants.{Byte, Long, Quad}
use Rattle.kc_regions.specs.Description.{Description}
use Rattle.kc_cpu.specs.declared.cpu.Cpu.{Cpu}
use Rattle.kc_cpu.specs.declared.cpu.Mode.TheVariants.{Code}
use Rattle.kc_space.specs.Latches.{TriStands}
use Rattle.kc_exec.specs.Moment.{Moment}
use Rattle.kc_exec.specs.declared.access.Write.{Write}
use Rattle.kc_exec.specs.declared.executed.Executed.{Executed}
use Rattle.kc_exec.specs.declared.state.Activation.{Activation}
use Rattle.kc_value.specs.Value.{IsValidValue}
use Rattle.kc_value.specs.declared.env.ValueEnv.{ValueEnv}
use Rattle.kc_state.specs.AbsEffect.{AbsChange, AbsStore}
use Rattle.kc_state.specs.Operand.{AbsMoment}
use Rattle.kc_state.specs.declared.key.Key.{Key}
use Rattle.kc_state.specs.declared.location.Location.{Location}
use Rattle.kc_state.specs.declared.state.AbsState.{AbsState}
use Rattle.kc_state.specs.declared.succ.Succ.{Succ}
use Rattle.kc_state.specs.declared.succ.Succ.TheVariants.{Falls, Jumps, Branches, Calls, Returns}
use Rattle.kc_describes.specs.Chain.{newest_of, env_of, user_gs_of}
use Rattle.kc_describes.specs.Places.{address_of}
use Rattle.kc_describes.specs.Spaces.{IsGsOf, IsCr3Of}
use Rattle.kc_describes.specs.Widths.{IsWord, IsSelector, IsMode}
use Rattle.kc_describes.proofs.OperandLemmas.{size_is, word_at}
use Rattle.kc_describes.proofs.ValueLemmas.{has_place}
use Rattle.kc_arith.specs.Covers.{AreModelled}
use Rattle.kc_arith.specs.Rows.{Finds, StoreStands, LeadsTo, CoversChange}
use Rattle.kc_arith.proofs.WidthLemmas.{below_word}
use Rattle.kc_system.specs.System.{known_moment, IsKernelMoment}
use Rattle.kc_moves.specs.Moves.{StoreAgrees}
use Rattle.kc_stack.specs.Rows.{GoesOnAt, RowGoesOn}

-- ---- parts

-- what holds of two things holds of their equals
of_equals : {A : Type 0} {B : Type 0} (P : A → B → Type 0) (a b : A) (x y : B) → b ≡ a → y ≡ x → P a x → P b y
of_equals P a b x y e f h = subst (λ z. P z y) (sym e) (subst (P a) (sym f) h)

all_words : (regs : List ℕ) → length regs ≡ 16 → ((i : ℕ) → i < 16 → slice_index regs i < 2 ^ 64) → All IsWord regs
all_words regs count words = All-from_get_or IsWord regs 0 (λ i inside. words i (omega (arith, inside, count)))

-- kernel code goes on where the program does
leads_on : (m : Moment) (succ : Succ) (cpu : Cpu) → cpu.mode ≡ Code → LeadsTo m.next succ cpu.rip → GoesOnAt m succ cpu
leads_on m Falls cpu code leads = (code, leads)
leads_on m (Jumps target) cpu code leads = (code, leads)
leads_on m (Branches target) cpu code (inl e) = inl (code, e)
leads_on m (Branches target) cpu code (inr e) = inr (code, e)
leads_on m (Calls h) cpu code leads = absurd leads
leads_on m Returns cpu code leads = absurd leads

-- only an operand of 64 bits has 8 bytes
whole_width : (w : Width) (n : ℕ) → n ≡ bits_of w / 8 → n ≡ 8 → w ≡ Quad
whole_width Byte n e h = absurd (omega (arith, e, h))
whole_width Long n e h = absurd (omega (arith, e, h))
whole_width Quad n e h = refl

module _ (key : Key) (chain : List Activation) (s : AbsState) (m : Moment) (K : IsKernelMoment key chain s m) where
  abbrev cfg : Description
  cfg = m.cfg

  abbrev env : ValueEnv
  env = env_of cfg chain

  abbrev before : AbsMoment
  before = known_moment key s m

  -- ---- before

  pub finds : Finds env before m
  finds = record {
    places = λ n fits. has_place cfg K.context.valid n;
    file = record {
      known_count = K.state.reg_count;
      count = K.typed.regs.0;
      words = λ i few. word_at m.cpu.regs i K.typed.regs.1;
      registers = K.row.file.each;
      flags_fit = K.typed.flags;
      rflags = K.row.file.rflags;
    };
  }

  -- ---- the store

  -- the store's place, where it is known, is the address of the write, and its value is in range
  pub record IsPlacedAt (st : AbsStore) (w : Write) : Type 0 where
    pub at : (l : Location) → st.at ≡ Some l → address_of (newest_of chain).base l ≡ w.at
    pub valid : IsValidValue st.value

  abbrev pub IsPlaced : Option AbsStore → Option Write → Type 0
  IsPlaced None o = Unit {0}
  IsPlaced (Some st) None = Unit {0}
  IsPlaced (Some st) (Some w) = IsPlacedAt st w

  pub agrees : (st : Option AbsStore) (w : Option Write) → StoreStands env st w → IsPlaced st w
      → StoreAgrees cfg chain st w
  agrees None None h p = tt
  agrees None (Some w) h p = absurd h
  agrees (Some st) None h p = absurd h
  agrees (Some st) (Some w) h p = record {
    size = h.size ∙ size_is w.width;
    gs = h.gs;
    at = p.at;
    valid = p.valid;
    fits = below_word w.width w.value h.value.bits.fits;
    value = λ e. h.value.whole (whole_width w.width st.size h.size e);
  }

  -- ---- after

  -- what is covered goes on, where RIP is a word and the store is the write
  pub goes_on : (change : AbsChange) (done : Executed) → CoversChange env before m change done → IsWord done.cpu.rip
      → StoreAgrees cfg chain change.store done.write → RowGoesOn key chain s m change done
  goes_on change done c fits store = record {
    row = record {
      file = record { each = c.file.registers; rflags = c.file.rflags };
      spaces = record {
        gs = record {
          active = of_equals (IsGsOf cfg (user_gs_of chain)) s.gs.active change.cpu.gs.active m.cpu.gs done.cpu.gs
              (ap (λ z. z.active) c.rest.gs) (ap (λ z. z.gs) c.rest.cpu) K.row.spaces.gs.active;
          inactive = of_equals (IsGsOf cfg (user_gs_of chain)) s.gs.inactive change.cpu.gs.inactive m.cpu.kgs
              done.cpu.kgs (ap (λ z. z.inactive) c.rest.gs) (ap (λ z. z.kgs) c.rest.cpu) K.row.spaces.gs.inactive;
        };
        map = of_equals (IsCr3Of cfg) s.map change.cpu.map m.cpu.cr3 done.cpu.cr3 c.rest.map
            (ap (λ z. z.cr3) c.rest.cpu) K.row.spaces.map;
        latches = record {
          nmi_blocked = of_equals TriStands s.latches.nmi_blocked change.cpu.latches.nmi_blocked m.latch.nmi_blocked
              done.latch.nmi_blocked (ap (λ z. z.nmi_blocked) c.rest.known_latches)
              (ap (λ z. z.nmi_blocked) c.rest.latch) K.row.spaces.latches.nmi_blocked;
          shadow = c.shadow;
          mcip = of_equals TriStands s.latches.mcip change.cpu.latches.mcip m.latch.mcip done.latch.mcip
              (ap (λ z. z.mcip) c.rest.known_latches) (ap (λ z. z.mcip) c.rest.latch) K.row.spaces.latches.mcip;
        };
      };
    };
    typed = record {
      regs = (c.file.count, all_words done.cpu.regs c.file.count c.file.words);
      rip = fits;
      flags = c.file.flags_fit;
      cs = subst IsSelector (sym same_cs) K.typed.cs;
      ss = subst IsSelector (sym same_ss) K.typed.ss;
      gs = subst IsWord (sym (ap (λ z. z.gs) c.rest.cpu)) K.typed.gs;
      kgs = subst IsWord (sym (ap (λ z. z.kgs) c.rest.cpu)) K.typed.kgs;
      cr3 = subst IsWord (sym (ap (λ z. z.cr3) c.rest.cpu)) K.typed.cr3;
      mode = subst IsMode (sym same_mode) K.typed.mode;
    };
    kernel = record {
      cs = same_cs ∙ K.kernel.cs;
      ss = subst (λ n. (n ≡ 0) ⊎ (n ≡ cfg.cpu.star_kernel + 8)) (sym same_ss) K.kernel.ss;
      flags = record { fixed = modelled.fixed; modelled = modelled.modelled };
    };
    point = leads_on m change.succ done.cpu (same_mode ∙ K.mode) c.next;
    floors = refl;
    store = store;
    end = c.rest.end;
  }
    where
      same_cs : done.cpu.cs ≡ m.cpu.cs
      same_cs = ap (λ z. z.cs) c.rest.cpu

      same_ss : done.cpu.ss ≡ m.cpu.ss
      same_ss = ap (λ z. z.ss) c.rest.cpu

      same_mode : done.cpu.mode ≡ m.cpu.mode
      same_mode = ap (λ z. z.mode) c.rest.cpu

      modelled : AreModelled done.cpu.flags
      modelled = c.modelled (record { fixed = K.kernel.flags.fixed; modelled = K.kernel.flags.modelled })
