-- What a frame's pushes leave are bytes: each byte that is put is below 256, and the map drops a 0.
use Rattle.std.proofs.Common.{◌≡◌, ℕ, zero, suc, ◌-◌, ◌/◌, ◌%◌, ◌^◌, ◌<◌, List, [], ◌∷◌, cond, eqb, Bool, true, false, Option, Some, None, IfSome, refl, sym, subst, arith}
use Rattle.std.specs.FinMap.{get}
use Rattle.std.proofs.lemmas.Bool.{eqb-false}
use Rattle.kc_mem.specs.Memory.{Bytes, AreBytes, put, next, write}
use Rattle.kc_mem.proofs.BytesLemmas.{held, get-put}
use Rattle.kc_events.specs.Delivery.{pushed, with_pushed}
use Rattle.kc_exec.specs.Operand.{plus}

abbrev IsByte : Option ℕ → Type 0
IsByte o = IfSome o (λ v. (0 < v) × (v < 256))

held_by : (v : ℕ) (b : Bool) → eqb v 0 ≡ b → v < 256 → IsByte (cond b None (Some v))
held_by v true e small = tt
held_by v false e small = let some = eqb-false v 0 e in (omega (arith, some), small)

chosen_byte : (b : Bool) (v : ℕ) (o : Option ℕ) → v < 256 → IsByte o → IsByte (cond b (held v) o)
chosen_byte true v o small is = held_by v (eqb v 0) refl small
chosen_byte false v o small is = is

pub put_bytes : (m : Bytes) (a v : ℕ) → v < 256 → AreBytes m → AreBytes (put m a v)
put_bytes m a v small are q = subst IsByte (sym (get-put m a v q)) (chosen_byte (eqb q a) v (get m q) small (are q))

pub write_bytes : (m : Bytes) (a n v : ℕ) → AreBytes m → AreBytes (write m a n v)
unfolding write
write_bytes m a zero v are = are
write_bytes m a (suc n) v are =
    write_bytes (put m a (v % 256)) (next a) n (v / 256) (put_bytes m a (v % 256) (omega arith) are)

pub frame_bytes : (mem : Bytes) (top : ℕ) (ws : List ℕ) → AreBytes mem → AreBytes (with_pushed mem (pushed top ws))
frame_bytes mem top [] are = are
frame_bytes mem top (w ∷ ws) are =
    let under = plus top (2 ^ 64 - 8) in
    frame_bytes (write mem under 8 w) under ws (write_bytes mem under 8 w are)
