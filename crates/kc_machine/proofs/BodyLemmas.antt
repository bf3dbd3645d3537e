-- A handler's step. What is judged is the read of the byte at the new RSP, then its bytes and the edited words, which
-- are at most three, each at an address of 64 bits.
use Rattle.std.proofs.Common.{◌≡◌, ℕ, zero, suc, ◌^◌, ◌<◌, List, [], ◌∷◌, ◌++◌, length, map, get_or, slice_index, Option, Some, None, arith, refl, ap, sym, ◌∙◌, subst}
use Rattle.std.specs.List.{All}
use Rattle.kc_regions.specs.Description.{Description}
use Rattle.kc_mem.specs.Memory.{Bytes, MemoryValue, put_all}
use Rattle.kc_exec.specs.declared.access.Access.{Access}
use Rattle.kc_exec.specs.declared.state.Activation.{Activation}
use Rattle.kc_exec.specs.declared.state.State.{State}
use Rattle.kc_exec.specs.Live.{IsLive}
use Rattle.kc_exec.specs.Operand.{plus, plain_read}
use Rattle.kc_events.specs.declared.turn.BodySet.{BodySet}
use Rattle.kc_events.specs.declared.turn.Edit.{Edit}
use Rattle.kc_events.specs.Edits.{edited_word, edited_words}
use Rattle.kc_events.specs.Attempt.{body_step, bytes_of_words}
use Rattle.kc_events.specs.Delivery.{with_pushed}
use Rattle.kc_events.specs.Run.{IsLike, after}
use Rattle.kc_machine.specs.JudgeSteps.{IsTrialOf}

cons-at : {A : Type 0} (P : A → Type 0) (x : A) (xs : List A) → P x → All P xs → (k : ℕ) (d : A) → k < length (x ∷ xs)
    → P (get_or (x ∷ xs) k d)
cons-at P x xs p all zero d lt = p
cons-at P x xs p all (suc k) d lt = all k d (omega (arith, lt))

word-then : (P : ℕ × ℕ → Type 0) (at : ℕ) (o : Option ℕ) (rest : List (ℕ × ℕ)) → ((w : ℕ) → P (at, w)) → All P rest
    → All P (edited_word at o ++ rest)
word-then P at None rest p all = all
word-then P at (Some w) rest p all = cons-at P (at, w) rest (p w) all

word-last : (P : ℕ × ℕ → Type 0) (at : ℕ) (o : Option ℕ) → ((w : ℕ) → P (at, w)) → All P (edited_word at o)
word-last P at None p = λ k d lt. absurd (omega (arith, lt))
word-last P at (Some w) p = cons-at P (at, w) [] (p w) (λ k d lt. absurd (omega (arith, lt)))

pub edits-placed : (at : ℕ) (edit : Edit) → at < 2 ^ 64 → All (λ w. w.0 < 2 ^ 64) (edited_words at edit)
edits-placed at edit h =
    word-then (λ w. w.0 < 2 ^ 64) at edit.rip (edited_word (plus at 16) edit.flags ++ edited_word (plus at 24) edit.rsp)
    (λ w. h)
    (word-then (λ w. w.0 < 2 ^ 64) (plus at 16) edit.flags (edited_word (plus at 24) edit.rsp) (λ w. omega arith)
    (word-last (λ w. w.0 < 2 ^ 64) (plus at 24) edit.rsp (λ w. omega arith)))

pub body-trial : (cfg : Description) (S : State) (set : BodySet) (frame : ℕ) (live : List Activation)
    (items : List Access) (writes words : List (ℕ × ℕ))
    → frame < 2 ^ 64 → live ≡ S.chain → items ≡ plain_read (slice_index set.regs 4) 1 ∷ [] → writes ≡ set.writes
    → words ≡ edited_words frame set.edit
    → IsTrialOf cfg S (body_step S set frame) S.cpu live items writes words
body-trial cfg S set frame live items writes words small chain_is read_is writes_is words_is = record {
  cpu = refl;
  accesses = sym read_is;
  bytes = λ i. map (λ (w : ℕ × ℕ). w.0) (sym writes_is i) ++ bytes_of_words (sym words_is i);
  placed = subst (λ (ws : List (ℕ × ℕ)). All (λ w. w.0 < 2 ^ 64) ws) (sym words_is) (edits-placed frame set.edit small);
  more = λ x h. subst (λ (ch : List Activation). IsLive cfg ch x) (sym chain_is) h;
  no_more = λ x h. subst (λ (ch : List Activation). IsLive cfg ch x) chain_is h;
}

-- the step was carried out on a memory of the same bytes
pub body-carried : (S T : State) (m : MemoryValue) (set : BodySet) (frame : ℕ) → m.bytes ≡ S.mem.bytes
    → IsLike T (after (record S { mem = m }) (body_step (record S { mem = m }) set frame))
    → IsLike T (after S (body_step S set frame))
body-carried S T m set frame same h = record {
  cpu = h.cpu;
  latch = h.latch;
  mem = h.mem ∙ ap (λ (b : Bytes). with_pushed (put_all b set.writes) (edited_words frame set.edit)) same;
  stopped = h.stopped;
  chain = h.chain;
}
