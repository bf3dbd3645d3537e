-- The accesses of a delivery, one by one. A read that the analysis permits breaks nothing and has no byte in a guard;
-- of the pushes each byte is one of the frame's, so what is true of these is true of each push.
use Rattle.std.proofs.Common.{◌≡◌, ℕ, zero, suc, ◌-◌, ◌*◌, ◌^◌, ◌<◌, ◌≤◌, ◌||◌, false, List, [], ◌∷◌, length, map, All, refl, arith}
use Rattle.std.proofs.lemmas.List.Elements.{All-nil, All-cons}
use Rattle.kc_regions.specs.Layout.{InBytes}
use Rattle.kc_regions.specs.Permission.{in_guard}
use Rattle.kc_regions.specs.declared.region.Region.{Region}
use Rattle.kc_mem.specs.Memory.{next}
use Rattle.kc_exec.specs.Execution.{guarded}
use Rattle.kc_exec.specs.Operand.{plus}
use Rattle.kc_exec.specs.declared.access.Access.{Access}
use Rattle.kc_events.specs.Delivery.{pushed, push_access}
use Rattle.kc_describes.proofs.OffsetLemmas.{rising_byte}
use Rattle.kc_delivers.proofs.PushLemmas.{OfFrame}

-- where no byte lies in a guard
pub unguarded : (regions : List Region) (a n : ℕ) → a < 2 ^ 64 → n < 2 ^ 64
    → ((x : ℕ) → x < 2 ^ 64 → InBytes x a n → in_guard regions x ≡ false) → guarded regions a n ≡ false
unguarded regions a zero fits few none = refl
unguarded regions a (suc n) fits few none =
    let first : in_guard regions a ≡ false = none a fits (omega (arith, fits)) in
    let rest : guarded regions (next a) n ≡ false =
    unguarded regions (next a) n (omega arith) (omega (arith, few))
    (λ x low inside. none x low (omega (arith, fits, low, inside))) in
    λ k. first k || rest k

-- what is true of a push whose bytes are the frame's is true of each push
pub pushes_all : (P : Access → Type 0) (Q : ℕ → Type 0) (ws : List ℕ) (top : ℕ) → top < 2 ^ 64
    → 8 * length ws ≤ top → ((x : ℕ) → x < 2 ^ 64 → OfFrame top (length ws) x → Q x)
    → ((w : ℕ × ℕ) → w.0 < 2 ^ 64 → ((x : ℕ) → x < 2 ^ 64 → InBytes x w.0 8 → Q x) → P (push_access w))
    → All P (map push_access (pushed top ws))
pushes_all P Q [] top fits room bytes one = All-nil P
pushes_all P Q (w ∷ ws) top fits room bytes one =
    let under = plus top (2 ^ 64 - 8) in
    let at : under ≡ top - 8 = omega (arith, fits, room) in
    let low : under < 2 ^ 64 = omega arith in
    All-cons P (push_access (under, w)) (map push_access (pushed under ws))
    (one (under, w) low (λ x small inside.
    let between = rising_byte x under 8 small low (omega (arith, at, fits, room)) inside in
    bytes x small (omega (arith, at, between.0), omega (arith, at, between.1, room))))
    (pushes_all P Q ws under low (omega (arith, at, room))
    (λ x small of. bytes x small (omega (arith, at, of.0, room), omega (arith, at, of.1, room))) one)
