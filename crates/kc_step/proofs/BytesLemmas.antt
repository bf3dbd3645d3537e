-- A write leaves bytes. The byte that is put is below 256 and kept where it isn't 0, by the look-up after a put; then by
-- the number of bytes.
use Rattle.std.proofs.Common.{◌≡◌, ℕ, zero, suc, ◌%◌, ◌/◌, ◌<◌, cond, eqb, Bool, true, false, Option, Some, None, refl, sym, subst, arith}
use Rattle.std.specs.Prelude.{IfSome}
use Rattle.std.specs.FinMap.{get}
use Rattle.kc_exec.specs.Execution.{with_write}
use Rattle.kc_exec.specs.Operand.{size_of}
use Rattle.kc_exec.specs.declared.access.Write.{Write}
use Rattle.kc_mem.specs.Memory.{Bytes, AreBytes, put, next, write}
use Rattle.kc_mem.proofs.BytesLemmas.{held, get-put}

abbrev IsByte : Option ℕ → Type 0
IsByte o = IfSome o (λ v. (0 < v) × (v < 256))

held_by : (v : ℕ) (b : Bool) → eqb v 0 ≡ b → v < 256 → IsByte (cond b None (Some v))
held_by v true e small = tt
held_by zero false e small = absurd cc
held_by (suc v) false e small = (omega arith, small)

held_is : (v : ℕ) → v < 256 → IsByte (held v)
held_is v small = held_by v (eqb v 0) refl small

chosen_is : (here : Bool) (v : ℕ) (o : Option ℕ) → v < 256 → IsByte o → IsByte (cond here (held v) o)
chosen_is true v o small is = held_is v small
chosen_is false v o small is = is

put_bytes : (m : Bytes) (a v : ℕ) → v < 256 → AreBytes m → AreBytes (put m a v)
put_bytes m a v small are q = subst IsByte (sym (get-put m a v q)) (chosen_is (eqb q a) v (get m q) small (are q))

write_bytes : (m : Bytes) (a n v : ℕ) → AreBytes m → AreBytes (write m a n v)
unfolding write
write_bytes m a zero v are = are
write_bytes m a (suc n) v are =
    write_bytes (put m a (v % 256)) (next a) n (v / 256) (put_bytes m a (v % 256) (omega arith) are)

-- the bytes after an instruction's write
pub bytes_after : (w : Option Write) (m : Bytes) → AreBytes m → AreBytes (with_write w m)
bytes_after None m are = are
bytes_after (Some w) m are = write_bytes m w.at (size_of w.width) w.value are
