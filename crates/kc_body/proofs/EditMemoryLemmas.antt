-- Memory with the edited words. The three words are apart, so each is read where it was written, and a word that is
-- apart from all three is as it was; where a word isn't edited, what was there is read.
use Rattle.std.proofs.Common.{◌≡◌, ℕ, ◌+◌, ◌%◌, ◌^◌, ◌<◌, ◌≤◌, nat_lt, inl, inr, false, List, [], ◌∷◌, ◌++◌, Option, Some, None, IfSome, refl, sym, ap, ◌∙◌, subst, arith}
use Rattle.std.proofs.lemmas.Bool.{or_parts, lt-ltb, cases_lt, false≢true}
use Rattle.std.specs.Option.{unwrap_or}
use Rattle.kc_mem.specs.Memory.{Bytes, AreBytes, read, write}
use Rattle.kc_regions.specs.Layout.{InBytes}
use Rattle.kc_exec.specs.Operand.{plus}
use Rattle.kc_events.specs.declared.turn.Edit.{Edit}
use Rattle.kc_events.specs.Delivery.{with_pushed}
use Rattle.kc_events.specs.Edits.{edited_word, edited_words}
use Rattle.kc_state.specs.Memory.{meets}
use Rattle.kc_state.specs.Places.{below_address}
use Rattle.kc_state.specs.declared.location.Location.TheVariants.{Number}
use Rattle.kc_describes.specs.Widths.{IsWord}
use Rattle.kc_describes.proofs.MemoryLemmas.{read_agree, write_elsewhere, read-write}
use Rattle.kc_calls.proofs.WriteLemmas.{write_bytes}
use Rattle.kc_body.specs.Edit.{IsEditSet}

-- ---- words that have no byte in common

abbrev pub Apart : ℕ → ℕ → Type 0
Apart a b = (x : ℕ) → x < 2 ^ 64 → InBytes x a 8 → InBytes x b 8 → ⊥

-- 8 or more bytes lie between their beginnings, each way
apart_from : (a b : ℕ) → a < 2 ^ 64 → b < 2 ^ 64 → 8 ≤ below_address a b → 8 ≤ below_address b a → Apart a b
apart_from a b low high up down = λ x fits one other. omega (arith, low, high, up, down, fits, one, other)

-- words that don't meet
pub apart_words : (a b : ℕ) → a < 2 ^ 64 → b < 2 ^ 64 → meets (Number b) 8 (Number a) ≡ false → Apart a b
apart_words a b low high none =
    let p = or_parts (nat_lt (below_address b a) 8) (nat_lt (below_address a b) 8) none in
    apart_from a b low high (not_below (below_address a b) p.1) (not_below (below_address b a) p.0)
  where
    not_below : (n : ℕ) → nat_lt n 8 ≡ false → 8 ≤ n
    not_below n h = elim (cases_lt n 8) [
      | inl below ↦ absurd (false≢true (sym h ∙ lt-ltb n 8 below))
      | inr up ↦ up
    ]

-- ---- one word

-- the word, where it is edited, leaves each word that is apart from it
pub word_kept : (m : Bytes) (a at : ℕ) (o : Option ℕ) → a < 2 ^ 64 → at < 2 ^ 64 → Apart a at
    → read (with_pushed m (edited_word at o)) a 8 ≡ read m a 8
word_kept m a at None low high apart = refl
word_kept m a at (Some n) low high apart =
    read_agree (write m at 8 n) m a 8 low
    (λ x fits inside. write_elsewhere m at 8 n x high fits (λ other. apart x fits inside other))

-- where it is edited it is read, and else what was there
pub word_here : (m : Bytes) (at : ℕ) (o : Option ℕ) → at < 2 ^ 64 → IfSome o IsWord
    → read (with_pushed m (edited_word at o)) at 8 ≡ unwrap_or o (read m at 8)
word_here m at None low fits = refl
word_here m at (Some n) low fits =
    let whole : n % 256 ^ 8 ≡ n = omega (arith, fits) in
    read-write m at 8 n low (omega arith) ∙ whole

word_bytes : (m : Bytes) (at : ℕ) (o : Option ℕ) → AreBytes m → AreBytes (with_pushed m (edited_word at o))
word_bytes m at None are = are
word_bytes m at (Some n) are = write_bytes m at 8 n are

pushed_parts : (m : Bytes) (ws vs : List (ℕ × ℕ)) → with_pushed m (ws ++ vs) ≡ with_pushed (with_pushed m ws) vs
pushed_parts m [] vs = refl
pushed_parts m (w ∷ ws) vs = pushed_parts (write m w.0 8 w.1) ws vs

-- ---- the three words

module _ (m : Bytes) (at : ℕ) (edit : Edit) where
  abbrev first : Bytes
  first = with_pushed m (edited_word at edit.rip)

  abbrev second : Bytes
  second = with_pushed first (edited_word (plus at 16) edit.flags)

  abbrev third : Bytes
  third = with_pushed second (edited_word (plus at 24) edit.rsp)

  abbrev pub edited_memory : Bytes
  edited_memory = with_pushed m (edited_words at edit)

  in_turn : edited_memory ≡ third
  in_turn =
      pushed_parts m (edited_word at edit.rip)
      (edited_word (plus at 16) edit.flags ++ edited_word (plus at 24) edit.rsp)
      ∙ pushed_parts first (edited_word (plus at 16) edit.flags) (edited_word (plus at 24) edit.rsp)

  pub edited_bytes : AreBytes m → AreBytes edited_memory
  edited_bytes are =
      subst AreBytes (sym in_turn)
      (word_bytes second (plus at 24) edit.rsp (word_bytes first (plus at 16) edit.flags
      (word_bytes m at edit.rip are)))

  module _ (whole : at + 40 < 2 ^ 64) (fit : IsEditSet edit) where
    at_fits : at < 2 ^ 64
    at_fits = omega (arith, whole)

    flags_fits : plus at 16 < 2 ^ 64
    flags_fits = omega arith

    rsp_fits : plus at 24 < 2 ^ 64
    rsp_fits = omega arith

    rip_flags : Apart at (plus at 16)
    rip_flags = apart_from at (plus at 16) at_fits flags_fits (omega (arith, whole)) (omega (arith, whole))

    rip_rsp : Apart at (plus at 24)
    rip_rsp = apart_from at (plus at 24) at_fits rsp_fits (omega (arith, whole)) (omega (arith, whole))

    flags_rsp : Apart (plus at 16) (plus at 24)
    flags_rsp = apart_from (plus at 16) (plus at 24) flags_fits rsp_fits (omega (arith, whole)) (omega (arith, whole))

    turned : (a b : ℕ) → Apart a b → Apart b a
    turned a b apart = λ x low one other. apart x low other one

    -- what is read edited_memory the edit where the saved RIP lies
    pub rip_after : read edited_memory at 8 ≡ unwrap_or edit.rip (read m at 8)
    rip_after =
        ap (λ z. read z at 8) in_turn ∙ word_kept second at (plus at 24) edit.rsp at_fits rsp_fits rip_rsp
        ∙ word_kept first at (plus at 16) edit.flags at_fits flags_fits rip_flags
        ∙ word_here m at edit.rip at_fits fit.rip

    -- the saved RFLAGS
    pub flags_after : read edited_memory (plus at 16) 8 ≡ unwrap_or edit.flags (read m (plus at 16) 8)
    flags_after =
        ap (λ z. read z (plus at 16) 8) in_turn
        ∙ word_kept second (plus at 16) (plus at 24) edit.rsp flags_fits rsp_fits flags_rsp
        ∙ word_here first (plus at 16) edit.flags flags_fits fit.flags
        ∙ ap (unwrap_or edit.flags)
        (word_kept m (plus at 16) at edit.rip flags_fits at_fits (turned at (plus at 16) rip_flags))

    -- the saved RSP
    pub rsp_after : read edited_memory (plus at 24) 8 ≡ unwrap_or edit.rsp (read m (plus at 24) 8)
    rsp_after =
        ap (λ z. read z (plus at 24) 8) in_turn ∙ word_here second (plus at 24) edit.rsp rsp_fits fit.rsp
        ∙ ap (unwrap_or edit.rsp)
        (word_kept first (plus at 24) (plus at 16) edit.flags rsp_fits flags_fits
        (turned (plus at 16) (plus at 24) flags_rsp)
        ∙ word_kept m (plus at 24) at edit.rip rsp_fits at_fits (turned at (plus at 24) rip_rsp))

    -- a word that is apart from all three
    pub other_after : (w : ℕ) → w < 2 ^ 64 → Apart w at → Apart w (plus at 16) → Apart w (plus at 24)
        → read edited_memory w 8 ≡ read m w 8
    other_after w low one two three =
        ap (λ z. read z w 8) in_turn ∙ word_kept second w (plus at 24) edit.rsp low rsp_fits three
        ∙ word_kept first w (plus at 16) edit.flags low flags_fits two
        ∙ word_kept m w at edit.rip low at_fits one
