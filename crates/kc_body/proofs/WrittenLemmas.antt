-- The bytes that a handler writes: each other byte stays, by induction on the list. A byte in a data region is in no
-- slot's word; one of the handler's part of its stack is only in the word of a slot that the call's changes hit, and
-- that slot is the top. So each slot stands for its word as before.
use Rattle.std.proofs.Common.{◌≡◌, ◌≢◌, ℕ, ◌^◌, ◌<◌, cond, eqb, Bool, true, false, List, [], ◌∷◌, get_or, Option, Some, None, All, IsSomeAnd, inl, inr, refl, sym, ◌∙◌, subst}
use Rattle.std.proofs.lemmas.Bool.{false≢true, cases_Bool, eqb-true}
use Rattle.std.proofs.lemmas.List.Elements.{All-head, All-tail}
use Rattle.kc_frames.specs.Slots.{slot_count}
use Rattle.kc_regions.specs.Description.{Description}
use Rattle.kc_regions.specs.Layout.{InBytes}
use Rattle.kc_regions.specs.Region.{region_of}
use Rattle.kc_regions.specs.Valid.{IsValid}
use Rattle.kc_regions.specs.declared.entry.Handler.{Handler}
use Rattle.kc_regions.specs.declared.region.Kind.{Kind}
use Rattle.kc_regions.specs.declared.region.Kind.TheVariants.{Area, Stack, Guard, Plain}
use Rattle.kc_regions.specs.declared.region.Region.{Region}
use Rattle.kc_cpu.specs.declared.cpu.Call.{Call}
use Rattle.kc_cpu.specs.declared.cpu.Cpu.{Cpu}
use Rattle.kc_mem.specs.Memory.{Bytes, AreBytes, byte, put, put_all, read}
use Rattle.kc_mem.proofs.BytesLemmas.{byte-put}
use Rattle.kc_exec.specs.declared.state.Activation.{Activation}
use Rattle.kc_events.specs.Allowed.{LiesIn, IsFree, MayWrite}
use Rattle.kc_value.specs.Value.{Represents}
use Rattle.kc_value.specs.declared.env.ValueEnv.{ValueEnv}
use Rattle.kc_state.specs.Places.{word_of}
use Rattle.kc_state.specs.State.{IsState}
use Rattle.kc_state.specs.declared.key.Key.{Key}
use Rattle.kc_state.specs.declared.location.Location.{Location}
use Rattle.kc_state.specs.declared.state.AbsState.{AbsState}
use Rattle.kc_describes.specs.Chain.{newest_of, env_of}
use Rattle.kc_describes.specs.Fits.{ChainFits}
use Rattle.kc_describes.specs.Inside.{IsHandlerRunning}
use Rattle.kc_describes.specs.Places.{address_of, WordStands, SlotsStand}
use Rattle.kc_describes.specs.Row.{value_at}
use Rattle.kc_describes.specs.Widths.{IsActivation}
use Rattle.kc_describes.proofs.ChainLemmas.{newest_base}
use Rattle.kc_describes.proofs.HitLemmas.{outside_slots}
use Rattle.kc_describes.proofs.StoreLemmas.{word_kept, word_fitting}
use Rattle.kc_describes.proofs.ValueLemmas.{top_stands}
use Rattle.kc_calls.proofs.WriteLemmas.{put_bytes}
use Rattle.kc_body.specs.Body.{IsByteAt, IsExactInside}
use Rattle.kc_body.proofs.StackLemmas as own

-- ---- bytes that are put

pub put_all_bytes : (m : Bytes) (ws : List (ℕ × ℕ)) → All IsByteAt ws → AreBytes m → AreBytes (put_all m ws)
put_all_bytes m [] all are = are
put_all_bytes m (w ∷ ws) all are =
    put_all_bytes (put m w.0 w.1) ws (All-tail IsByteAt w ws all)
    (put_bytes m w.0 w.1 (All-head IsByteAt w ws all).byte are)

chosen_other : (b : Bool) (q a x y : ℕ) → eqb q a ≡ b → q ≢ a → cond b x y ≡ y
chosen_other true q a x y e other = absurd (other (eqb-true q a e))
chosen_other false q a x y e other = refl

-- a byte at none of the addresses stays
pub put_all_elsewhere : (m : Bytes) (ws : List (ℕ × ℕ)) (x : ℕ) → All (λ w. x ≢ w.0) ws
    → byte (put_all m ws) x ≡ byte m x
put_all_elsewhere m [] x all = refl
put_all_elsewhere m (w ∷ ws) x all =
    put_all_elsewhere (put m w.0 w.1) ws x (All-tail (λ v. x ≢ v.0) w ws all) ∙ byte-put m w.0 w.1 x
    ∙ chosen_other (eqb x w.0) x w.0 w.1 (byte m x) refl (All-head (λ v. x ≢ v.0) w ws all)

-- ---- regions

-- the region of this kind that holds the address
pub region_in : (P : Region → Type 0) (o : Option Region) → IsSomeAnd o P → (r : Region) × (o ≡ Some r) × P r
region_in P (Some r) h = (r, refl, h)
region_in P None h = absurd h

other_kind : (r : Region) (a b : Kind) → r.kind ≡ a → (a ≡ b → ⊥) → r.kind ≢ b
other_kind r a b is other e = other (sym is ∙ e)

-- ---- the slots

module _ (cfg : Description) (valid : IsValid cfg) (key : Key) (chain : List Activation) (F : ChainFits cfg key chain)
    (typed : All IsActivation chain) (s : AbsState) (is : IsState s) (call : Call) (fits : call.rsp < 2 ^ 64)
    (rsp : Represents (value_at s.regs 4) (env_of cfg chain) call.rsp) (exact : IsExactInside cfg key s) (cpu : Cpu)
    (h : Handler) (R : IsHandlerRunning cfg key s chain cpu call h) where
  abbrev base : ℕ
  base = (newest_of chain).base

  abbrev env : ValueEnv
  env = env_of cfg chain

  abbrev hit : ℕ → Bool
  hit i = own.is_hit cfg valid key chain F typed s is call fits rsp exact cpu h R i

  -- a byte of a data region is in no slot's word
  data_outside : (i x : ℕ) (p : Location) → i < slot_count → word_of cfg key i ≡ Some p → x < 2 ^ 64
      → InBytes x (address_of base p) 8 → LiesIn cfg Plain x → ⊥
  data_outside i x p below e low within there =
      let r = region_in (λ z. z.kind ≡ Plain) (region_of cfg.regions x) there in
      outside_slots cfg valid key env.user_gs (newest_of chain) F.fits (newest_base chain F.one_user typed) r.0 p i x
      low below r.1 (other_kind r.0 Plain Area r.2 (λ f. absurd cc)) (other_kind r.0 Plain Stack r.2 (λ f. absurd cc))
      (other_kind r.0 Plain Guard r.2 (λ f. absurd cc)) e within

  -- a byte that the handler may write is in no word of a slot that isn't hit
  apart : (i x : ℕ) (p : Location) (w : ℕ × ℕ) → i < slot_count → word_of cfg key i ≡ Some p → x < 2 ^ 64
      → InBytes x (address_of base p) 8 → hit i ≡ false → MayWrite cfg call h.stack R.stack.region w.0 → x ≢ w.0
  apart i x p w below e low within none (inl plain) same =
      data_outside i x p below e low within (subst (LiesIn cfg Plain) (sym same) plain)
  apart i x p w below e low within none (inr free) same =
      false≢true (sym none ∙ own.free_is_hit cfg valid key chain F typed s is call fits rsp exact cpu h R i x p below e
      low within (subst (IsFree call h.stack R.stack.region) (sym same) free))

  -- after the bytes that the handler writes each slot stands for its word
  pub slots_after : (m : Bytes) (ws : List (ℕ × ℕ)) → All (λ w. MayWrite cfg call h.stack R.stack.region w.0) ws
      → SlotsStand cfg key env s.slots m → SlotsStand cfg key env s.slots (put_all m ws)
  slots_after m ws may stand i p below e = elim (cases_Bool (hit i)) [
    | inl top ↦
        let is_top = own.top_if_hit cfg valid key chain F typed s is call fits rsp exact cpu h R i below top in
        subst (λ v. WordStands env (put_all m ws) v p) (sym is_top)
        (top_stands cfg valid env refl (read (put_all m ws) (address_of base p) 8))
    | inr none ↦
        word_kept env m (put_all m ws) (value_at s.slots i) p (word_fitting cfg valid key chain F typed i p below e)
        (λ x low within.
        put_all_elsewhere m ws x (λ k d inside. apart i x p (get_or ws k d) below e low within none (may k d inside)))
        (stand i p below e)
  ]
