-- The write of an instruction is the abstract store. Both sides agree on the data accesses, and the last of these is the
-- write where there is one, since all others are reads: by cases on the instruction.
use Rattle.std.proofs.Common.{◌≡◌, ℕ, ◌+◌, ◌%◌, ◌==◌, ◌⊎◌, inl, inr, true, List, [], ◌∷◌, ◌++◌, Option, Some, None, Ok, refl, sym, subst}
use Rattle.std.specs.List.{list_all}
use Rattle.std.proofs.lemmas.Bool.{cond_both, and_parts}
use Rattle.kc_bits.specs.Bits.{word}
use Rattle.kc_words.specs.Flags.{bits_of}
use Rattle.kc_words.specs.declared.width.Width.{Width}
use Rattle.kc_words.specs.declared.width.Width.TheVariants.{Quad}
use Rattle.kc_insn.specs.declared.insn.Insn.{Insn}
use Rattle.kc_insn.specs.declared.insn.Insn.TheVariants.{Sysretq, Iretq, Wrmsr, Popfq, Ret}
use Rattle.kc_insn.specs.declared.insn.Insn.TheVariants.{Mov, Xchg, Push, Pop, Alu, Test}
use Rattle.kc_insn.specs.declared.insn.Insn.TheVariants.{Bit}
use Rattle.kc_insn.specs.declared.insn.Place.{Place}
use Rattle.kc_insn.specs.declared.insn.Source.{Source}
use Rattle.kc_insn.specs.declared.insn.Source.TheVariants as source
use Rattle.kc_insn.specs.Fields.{source_of}
use Rattle.kc_image.specs.Image.{Contents}
use Rattle.kc_regions.specs.Description.{Description}
use Rattle.kc_regions.specs.declared.touch.Touch.{Touch}
use Rattle.kc_regions.specs.declared.touch.Touch.TheVariants.{Read, Write as ForWrite}
use Rattle.kc_exec.specs.Breaks.{judged, break_of, effect}
use Rattle.kc_exec.specs.Change.{operated}
use Rattle.kc_exec.specs.Effect as effects
use Rattle.kc_exec.specs.Effect.{row, with_msr}
use Rattle.kc_exec.specs.Execution.{moment, access_of, write_access}
use Rattle.kc_exec.specs.Moment.{Moment}
use Rattle.kc_exec.specs.Operand as operands
use Rattle.kc_exec.specs.declared.access.Access.{Access}
use Rattle.kc_exec.specs.declared.access.Write.{Write}
use Rattle.kc_exec.specs.declared.executed.Executed.{Executed}
use Rattle.kc_exec.specs.declared.state.State.{State}
use Rattle.kc_state.specs.AbsEffect.{AbsStore, abs_row, moment_of}
use Rattle.kc_state.specs.AbsStep.{abs_step}
use Rattle.kc_state.specs.Conditions.{AbsAccess, read_of, reads_of, write_of, accesses_of, may_at, permits_more}
use Rattle.kc_state.specs.Operand.{AbsMoment}
use Rattle.kc_state.specs.declared.key.Key.{Key}
use Rattle.kc_state.specs.declared.location.Location.{Location}
use Rattle.kc_state.specs.declared.state.AbsState.{AbsState}
use Rattle.kc_state.specs.declared.succ.Succ.{Succ}
use Rattle.kc_describes.specs.Chain.{newest_of}
use Rattle.kc_describes.proofs.AccessLemmas.{AccessAgrees, Agree}
use Rattle.kc_effects.specs.Effects.{IsNoReturn}
use Rattle.kc_step.specs.Step.{IsAtInsn, IsStoreAt, MakesStore, StepMakesStore}
use Rattle.kc_step.proofs.PassLemmas.{PassesAll}
use Rattle.kc_step.proofs.AccessLemmas.{there, before, agree}
use Rattle.kc_step.proofs.BreakLemmas.{which, is_answer}

-- ---- reads

abbrev AreKnownReads : List AbsAccess → Type 0
AreKnownReads [] = Unit {0}
AreKnownReads (l ∷ ls) = (l.touch ≡ Read) × AreKnownReads ls

abbrev AreReads : List Access → Type 0
AreReads [] = Unit {0}
AreReads (d ∷ ds) = (d.touch ≡ Read) × AreReads ds

known_both : (ls more : List AbsAccess) → AreKnownReads ls → AreKnownReads more → AreKnownReads (ls ++ more)
known_both [] more h g = g
known_both (l ∷ ls) more h g = (h.0, known_both ls more h.1 g)

both : (ds more : List Access) → AreReads ds → AreReads more → AreReads (ds ++ more)
both [] more h g = g
both (d ∷ ds) more h g = (h.0, both ds more h.1 g)

known_operand : (m : AbsMoment) (w : Width) (x : Source) → AreKnownReads (read_of m w x)
known_operand m w (source.Reg r) = tt
known_operand m w (source.Mem a) = (refl, tt)
known_operand m w (source.Imm z) = tt

operand : (m : Moment) (w : Width) (x : Source) → AreReads (operands.reads_of m w x)
operand m w (source.Reg r) = tt
operand m w (source.Mem a) = (refl, tt)
operand m w (source.Imm z) = tt

known_reads : (m : AbsMoment) (insn : Insn) → AreKnownReads (reads_of m insn)
known_reads m (Mov w dest src) = known_operand m w src
known_reads m (Xchg w dest src) = known_operand m w (source_of dest)
known_reads m (Push src) = known_operand m Quad src
known_reads m (Pop dest) = (refl, tt)
known_reads m Popfq = (refl, tt)
known_reads m (Alu op w dest src) =
    known_both (read_of m w (source_of dest)) (read_of m w src) (known_operand m w (source_of dest))
    (known_operand m w src)
known_reads m (Test w dest src) =
    known_both (read_of m w (source_of dest)) (read_of m w src) (known_operand m w (source_of dest))
    (known_operand m w src)
known_reads m (Bit op w dest number) = known_operand m w (source_of dest)
known_reads m Ret = (refl, tt)
known_reads m Iretq = (refl, (refl, (refl, (refl, (refl, tt)))))
known_reads m insn = tt

operated_reads : (m : Moment) (w : Width) (dest : Place) (ds : List Access) (f : ℕ) (r : Option ℕ) → AreReads ds
    → AreReads (operated m w dest ds f r).reads
operated_reads m w dest ds f None h = h
operated_reads m w dest ds f (Some v) h = h

msr_reads : (m : Moment) (number v : ℕ) → AreReads (with_msr m number v).reads
msr_reads m number v =
    let P = λ (done : Executed). AreReads done.reads in
    cond_both (number == effects.gs_base) _ _ P (λ h. tt)
    (λ h. cond_both (number == effects.kernel_gs_base) _ _ P (λ g. tt)
    (λ g. cond_both (number == effects.mcg_status) _ _ P (λ k. tt) (λ k. tt)))

pair : (m : Moment) (w : Width) (dest : Place) (src : Source)
    → AreReads (operands.reads_of m w (source_of dest) ++ operands.reads_of m w src)
pair m w dest src =
    both (operands.reads_of m w (source_of dest)) (operands.reads_of m w src) (operand m w (source_of dest))
    (operand m w src)

row_reads : (m : Moment) (insn : Insn) → IsNoReturn insn → AreReads (row m insn).reads
unfolding row
row_reads m (Mov w dest src) keeps = operand m w src
row_reads m (Xchg w dest src) keeps = operand m w (source_of dest)
row_reads m (Push src) keeps = operand m Quad src
row_reads m (Pop dest) keeps = (refl, tt)
row_reads m Popfq keeps = (refl, tt)
row_reads m (Alu op w dest src) keeps =
    let x = operands.destination m w dest in
    let y = operands.operand m w src in
    operated_reads m w dest (operands.reads_of m w (source_of dest) ++ operands.reads_of m w src)
    (effects.alu_flags op w x y m.cpu.flags) (effects.alu_result op w x y) (pair m w dest src)
row_reads m (Test w dest src) keeps = pair m w dest src
row_reads m (Bit op w dest number) keeps =
    let x = operands.destination m w dest in
    operated_reads m w dest (operands.reads_of m w (source_of dest))
    (effects.bit_flags (number % bits_of w) x m.cpu.flags) (effects.bit_result op (number % bits_of w) x)
    (operand m w (source_of dest))
row_reads m Ret keeps = (refl, tt)
row_reads m Wrmsr keeps = msr_reads m (effects.msr_number m.cpu) (effects.edx_eax m.cpu)
row_reads m Iretq keeps = absurd (keeps.iretq refl)
row_reads m insn keeps = tt

-- ---- the last access

abbrev pub abs_access : AbsStore → AbsAccess
abs_access st = record { at = st.at; size = st.size; touch = ForWrite; gs = st.gs }

abbrev pub LastAgrees : Description → Key → ℕ → Option AbsStore → Option Write → Type 0
LastAgrees cfg key base None None = Unit {0}
LastAgrees cfg key base (Some st) (Some w) = AccessAgrees cfg key base (abs_access st) (access_of w)
LastAgrees cfg key base None (Some w) = ⊥
LastAgrees cfg key base (Some st) None = ⊥

no_write : (t : Touch) → t ≡ Read → t ≡ ForWrite → ⊥
no_write t is other = absurd cc

pub last : (cfg : Description) (key : Key) (base : ℕ) (ls : List AbsAccess) (ds : List Access) (st : Option AbsStore)
    (w : Option Write) → AreKnownReads ls → AreReads ds
    → Agree cfg key base (ls ++ write_of st) (ds ++ write_access w) → LastAgrees cfg key base st w
last cfg key base [] [] None None known reads h = tt
last cfg key base [] [] None (Some w) known reads h = h
last cfg key base [] [] (Some st) None known reads h = h
last cfg key base [] [] (Some st) (Some w) known reads h = h.0
last cfg key base [] (d ∷ ds) None w known reads h = absurd h
last cfg key base [] (d ∷ ds) (Some st) w known reads h = absurd (no_write d.touch reads.0 h.0.touch)
last cfg key base (l ∷ ls) [] st None known reads h = absurd h
last cfg key base (l ∷ ls) [] st (Some w) known reads h = absurd (no_write l.touch known.0 (sym h.0.touch))
last cfg key base (l ∷ ls) (d ∷ ds) st w known reads h = last cfg key base ls ds st w known.1 reads.1 h.1

-- ---- the store

pub may_all : (m : AbsMoment) (ls : List AbsAccess) (st : AbsStore)
    → list_all (λ a. may_at m a.at a.size a.touch) (ls ++ abs_access st ∷ []) ≡ true
    → may_at m st.at st.size ForWrite ≡ true
may_all m [] st h = (and_parts (may_at m st.at st.size ForWrite) true h).0
may_all m (l ∷ ls) st h = may_all m ls st (and_parts (may_at m l.at l.size l.touch) _ h).1

place_by : (cfg : Description) (key : Key) (base : ℕ) (m : AbsMoment) (st : AbsStore) (w : Write) (o : Option Location)
    → st.at ≡ o → may_at m o st.size ForWrite ≡ true → AccessAgrees cfg key base (abs_access st) (access_of w)
    → IsStoreAt base st w
place_by cfg key base m st w (Some l) e may h =
    record { place = l; known = e; at = (h.at l e).1; size = sym h.size }
place_by cfg key base m st w None e may h = absurd cc

made : (cfg : Description) (key : Key) (base : ℕ) (m : AbsMoment) (ls : List AbsAccess) (st : Option AbsStore)
    (w : Option Write) → list_all (λ a. may_at m a.at a.size a.touch) (ls ++ write_of st) ≡ true
    → LastAgrees cfg key base st w → MakesStore base st w
made cfg key base m ls None None may h = tt
made cfg key base m ls None (Some w) may h = h
made cfg key base m ls (Some st) None may h = h
made cfg key base m ls (Some st) (Some w) may h =
    place_by cfg key base m st w st.at refl (may_all m ls st may) h

judged_write : (o : Option ℕ) (done : Executed) → (judged o done).write ≡ done.write
judged_write None done = refl
judged_write (Some n) done = refl

module _ (cfg : Description) (image : Contents) (key : Key) (at : ℕ) (insn : Insn) (len : ℕ) (s : AbsState)
    (S : State) (H : IsAtInsn cfg image key at insn len s S) (keeps : IsNoReturn insn)
    (pass : PassesAll (before cfg image key at insn len s S H) s insn) where
  abbrev here : AbsMoment
  here = before cfg image key at insn len s S H

  abbrev m : Moment
  m = there cfg image key at insn len s S H

  pub last_agrees : LastAgrees cfg key (newest_of S.chain).base (abs_row here insn).store (row m insn).write
  last_agrees =
      last cfg key (newest_of S.chain).base (reads_of here insn) (row m insn).reads (abs_row here insn).store
      (row m insn).write (known_reads here insn) (row_reads m insn keeps)
      (agree cfg image key at insn len s S H keeps.iretq)

  pub makes_store : MakesStore (newest_of S.chain).base (abs_row here insn).store (effect m insn).write
  unfolding effect
  makes_store =
      let ls = accesses_of here insn (abs_row here insn).store in
      let p = and_parts (list_all (λ a. may_at here a.at a.size a.touch) ls) (permits_more here insn) pass.permitted in
      subst (λ (w : Option Write). MakesStore (newest_of S.chain).base (abs_row here insn).store w)
      (sym (judged_write (break_of m insn) (row m insn)))
      (made cfg key (newest_of S.chain).base here (reads_of here insn) (abs_row here insn).store (row m insn).write p.0
      last_agrees)

-- a return stores nothing
return_store : (base : ℕ) (here : AbsMoment) (m : Moment) (insn : Insn) → (insn ≡ Iretq) ⊎ (insn ≡ Sysretq)
    → MakesStore base (abs_row here insn).store (effect m insn).write
unfolding abs_row effect row
return_store base here m insn (inl e) =
    subst (λ i. MakesStore base (abs_row here i).store (effect m i).write) (sym e) tt
return_store base here m insn (inr e) =
    subst (λ i. MakesStore base (abs_row here i).store (effect m i).write) (sym e) tt

module _ (cfg : Description) (image : Contents) (key : Key) (at : ℕ) (insn : Insn) (len : ℕ) (s : AbsState)
    (S : State) (H : IsAtInsn cfg image key at insn len s S) (succ : Succ) (out : AbsState)
    (answer : abs_step cfg key s insn (word (at + len)) ≡ Ok (succ, out)) where
  abbrev Makes : AbsMoment → Type 0
  Makes here =
      MakesStore (newest_of S.chain).base (abs_row here insn).store
      (effect (moment cfg S.cpu S.latch S.mem.bytes len) insn).write

  makes_by : ((insn ≡ Iretq) ⊎ (insn ≡ Sysretq)) ⊎ IsNoReturn insn → Makes (before cfg image key at insn len s S H)
  makes_by (inl is) =
      return_store (newest_of S.chain).base (before cfg image key at insn len s S H)
      (moment cfg S.cpu S.latch S.mem.bytes len) insn is
  makes_by (inr keeps) =
      makes_store cfg image key at insn len s S H keeps
      (is_answer cfg image key at insn len s S H succ out answer).passes

pub step_makes_store : StepMakesStore
step_makes_store cfg image key at insn len s S succ out H answer =
    subst (λ a. Makes cfg image key at insn len s S H succ out answer (moment_of cfg key s (word (a + len))))
    H.described.point.1 (makes_by cfg image key at insn len s S H succ out answer (which insn))
