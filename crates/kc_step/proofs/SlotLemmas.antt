-- What is known of memory after an instruction's write: each slot stands for its word, by the law of stores, where the
-- write is the store; and the base slots of a syscall stay the top.
use Rattle.std.proofs.Common.{◌≡◌, ℕ, ◌^◌, ◌<◌, true, List, length, All, Option, Some, None, refl, sym, subst, arith}
use Rattle.kc_words.specs.declared.width.Width.{Width}
use Rattle.kc_words.specs.declared.width.Width.TheVariants.{Byte, Long, Quad}
use Rattle.kc_regions.specs.Description.{Description}
use Rattle.kc_regions.specs.Valid.{IsValid}
use Rattle.kc_regions.specs.declared.touch.Touch.TheVariants.{Write as ForWrite}
use Rattle.kc_frames.specs.Slots.{slot_count}
use Rattle.kc_mem.specs.Memory.{Bytes, write}
use Rattle.kc_exec.specs.Execution.{access_of, with_write}
use Rattle.kc_exec.specs.Operand.{size_of}
use Rattle.kc_exec.specs.declared.access.Write.{Write}
use Rattle.kc_exec.specs.declared.state.Activation.{Activation}
use Rattle.kc_value.specs.AbsValue.{AbsValue}
use Rattle.kc_value.specs.declared.env.ValueEnv.{ValueEnv}
use Rattle.kc_state.specs.AbsEffect.{AbsStore, with_store, with_store_at}
use Rattle.kc_state.specs.Access.{may}
use Rattle.kc_state.specs.Conditions.{may_at}
use Rattle.kc_state.specs.Memory.{stored}
use Rattle.kc_state.specs.Operand.{AbsMoment}
use Rattle.kc_state.specs.declared.key.Key.{Key}
use Rattle.kc_state.specs.declared.location.Location.{Location}
use Rattle.kc_describes.specs.Chain.{newest_of, env_of}
use Rattle.kc_describes.specs.Describes.{AreBaseSlotsTop}
use Rattle.kc_describes.specs.Fits.{ChainFits}
use Rattle.kc_describes.specs.Places.{SlotsStand}
use Rattle.kc_describes.specs.Widths.{IsActivation}
use Rattle.kc_describes.proofs.AccessLemmas.{AccessAgrees}
use Rattle.kc_describes.proofs.StoreLemmas.{store_stands, bare_redone, stored_top}
use Rattle.kc_moves.specs.Moves.{StoreAgrees, IsWrite}
use Rattle.kc_step.proofs.StoreLemmas.{LastAgrees, abs_access}

few_bytes : (w : Width) → size_of w < 2 ^ 64
few_bytes Byte = omega arith
few_bytes Long = omega arith
few_bytes Quad = omega arith

module _ (cfg : Description) (valid : IsValid cfg) (key : Key) (chain : List Activation) (F : ChainFits cfg key chain)
    (typed : All IsActivation chain) (m : AbsMoment) (of_cfg : m.d ≡ cfg) (of_key : m.key ≡ key)
    (slots : List AbsValue) (count : length slots ≡ slot_count) (mem : Bytes)
    (stand : SlotsStand cfg key (env_of cfg chain) slots mem) (bare : AreBaseSlotsTop key slots) where
  abbrev env : ValueEnv
  env = env_of cfg chain

  abbrev base : ℕ
  base = (newest_of chain).base

  may_is : (p : Location) (n : ℕ) → may_at m (Some p) n ForWrite ≡ true
      → may cfg key m.cpu.map p n ForWrite ≡ true
  may_is p n h =
      subst (λ d. may d key m.cpu.map p n ForWrite ≡ true) of_cfg
      (subst (λ k. may m.d k m.cpu.map p n ForWrite ≡ true) of_key h)

  stored_at : (st : AbsStore) (w : Write) (o : Option Location) → st.at ≡ o → may_at m o st.size ForWrite ≡ true
      → IsWrite cfg chain st w → AccessAgrees cfg key base (abs_access st) (access_of w)
      → SlotsStand cfg key env (with_store_at cfg key slots st o) (write mem w.at (size_of w.width) w.value)
  stored_at st w (Some l) e may is agrees =
      let at = agrees.at l e in
      let after = store_stands cfg valid key chain F typed m.cpu.map l st.size st.value w.value mem at.0
      (subst (λ n. n < 2 ^ 64) (sym is.size) (few_bytes w.width)) (may_is l st.size may) is.fits is.value slots count
      stand in
      let there = subst (λ a. SlotsStand cfg key env (with_store_at cfg key slots st (Some l))
      (write mem a st.size w.value)) at.1 after in
      subst (λ n. SlotsStand cfg key env (with_store_at cfg key slots st (Some l)) (write mem w.at n w.value)) is.size
      there
  stored_at st w None e may is agrees = absurd cc

  pub slots_after : (st : Option AbsStore) (w : Option Write)
      → ((x : AbsStore) → st ≡ Some x → may_at m x.at x.size ForWrite ≡ true) → StoreAgrees cfg chain st w
      → LastAgrees cfg key base st w → SlotsStand cfg key env (with_store cfg key slots st) (with_write w mem)
  slots_after None None may is agrees = stand
  slots_after None (Some w) may is agrees = absurd is
  slots_after (Some st) None may is agrees = absurd is
  slots_after (Some st) (Some w) may is agrees = stored_at st w st.at refl (may st refl) is agrees

  bare_at : (st : AbsStore) (o : Option Location) → AreBaseSlotsTop key (with_store_at cfg key slots st o)
  bare_at st (Some l) =
      bare_redone cfg valid key chain F typed slots (stored cfg key l st.size st.value) count
      (λ i none. stored_top cfg valid key chain F typed l st.size st.value i none) bare
  bare_at st None = bare

  pub bare_after : (st : Option AbsStore) → AreBaseSlotsTop key (with_store cfg key slots st)
  bare_after None = bare
  bare_after (Some st) = bare_at st st.at
