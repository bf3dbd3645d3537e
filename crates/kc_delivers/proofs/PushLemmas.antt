-- The words of a frame in memory. They are pushed one below the other, so each is read back, and no byte outside the
-- frame changes; by induction on the words, with the frame's addresses as whole numbers.
use Rattle.std.proofs.Common.{◌≡◌, ℕ, zero, suc, ◌+◌, ◌-◌, ◌*◌, ◌%◌, ◌^◌, ◌<◌, ◌≤◌, List, [], ◌∷◌, length, get_or, refl, ap, ◌∙◌, arith}
use Rattle.kc_regions.specs.Layout.{InBytes}
use Rattle.kc_mem.specs.Memory.{Bytes, byte, read, write}
use Rattle.kc_exec.specs.Operand.{plus}
use Rattle.kc_events.specs.Delivery.{pushed, with_pushed}
use Rattle.kc_describes.proofs.MemoryLemmas.{read_agree, write_elsewhere, read-write}
use Rattle.kc_describes.proofs.OffsetLemmas.{rising_byte}

-- the address of a word that is pushed
abbrev under : ℕ → ℕ
under top = plus top (2 ^ 64 - 8)

under_is : (top n : ℕ) → top < 2 ^ 64 → 8 * suc n ≤ top → under top ≡ top - 8
under_is top n fits room = omega (arith, fits, room)

under_fits : (top : ℕ) → under top < 2 ^ 64
under_fits top = omega arith

-- bytes of a frame of n words below the top
abbrev pub OfFrame : ℕ → ℕ → ℕ → Type 0
OfFrame top n x = (top ≤ x + 8 * n) × (x < top)

-- no other byte changes
pub frame_elsewhere : (mem : Bytes) (top : ℕ) (ws : List ℕ) (x : ℕ) → top < 2 ^ 64 → 8 * length ws ≤ top
    → x < 2 ^ 64 → (OfFrame top (length ws) x → ⊥) → byte (with_pushed mem (pushed top ws)) x ≡ byte mem x
frame_elsewhere mem top [] x fits room low out = refl
frame_elsewhere mem top (w ∷ ws) x fits room low out =
    let at = under_is top (length ws) fits room in
    let here : InBytes x (under top) 8 → ⊥ =
    λ h.
    let between = rising_byte x (under top) 8 low (under_fits top) (omega (arith, at, fits, room)) h in
    out (omega (arith, at, between.0), omega (arith, at, between.1, room)) in
    let later : OfFrame (under top) (length ws) x → ⊥ =
    λ h. out (omega (arith, at, h.0, room), omega (arith, at, h.1, room)) in
    frame_elsewhere (write mem (under top) 8 w) (under top) ws x (under_fits top) (omega (arith, at, room)) low later
    ∙ write_elsewhere mem (under top) 8 w x (under_fits top) low here

-- word j is read back
pub frame_word_at : (mem : Bytes) (top : ℕ) (ws : List ℕ) (j w : ℕ) → top < 2 ^ 64 → 8 * length ws ≤ top
    → j < length ws → get_or ws j 0 ≡ w → w < 2 ^ 64
    → read (with_pushed mem (pushed top ws)) (top - 8 * (j + 1)) 8 ≡ w
frame_word_at mem top [] j w fits room inside is small = absurd (omega (arith, inside))
frame_word_at mem top (v ∷ ws) zero w fits room inside is small =
    let at = under_is top (length ws) fits room in
    let start : top - 8 * (0 + 1) ≡ under top = omega (arith, at) in
    let first = write mem (under top) 8 v in
    let stays : read (with_pushed first (pushed (under top) ws)) (under top) 8 ≡ read first (under top) 8 =
    read_agree (with_pushed first (pushed (under top) ws)) first (under top) 8 (under_fits top) (λ x low h.
    let between = rising_byte x (under top) 8 low (under_fits top) (omega (arith, at, fits, room)) h in
    frame_elsewhere first (under top) ws x (under_fits top) (omega (arith, at, room)) low
    (λ o. absurd (omega (arith, o.1, between.0)))) in
    let cut : v % 256 ^ 8 ≡ v = omega (arith, is, small) in
    ap (λ a. read (with_pushed first (pushed (under top) ws)) a 8) start
    ∙ stays ∙ read-write mem (under top) 8 v (under_fits top) (omega arith) ∙ cut ∙ is
frame_word_at mem top (v ∷ ws) (suc j) w fits room inside is small =
    let at = under_is top (length ws) fits room in
    let same : top - 8 * (suc j + 1) ≡ under top - 8 * (j + 1) = omega (arith, at, inside, room) in
    ap (λ a. read (with_pushed (write mem (under top) 8 v) (pushed (under top) ws)) a 8) same
    ∙ frame_word_at (write mem (under top) 8 v) (under top) ws j w (under_fits top) (omega (arith, at, room))
    (omega (arith, inside)) is small
