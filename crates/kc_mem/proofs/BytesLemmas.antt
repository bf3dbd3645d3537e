-- A byte that is put shows at its address alone: by cases on the byte, which the map keeps or drops, from the map's own
-- lemmas; `grind` is left with tests of numbers. Two maps that answer alike are one.
use Rattle.std.proofs.Common.{◌≡◌, ℕ, ◌+◌, ◌-◌, ◌<◌, ◌≤◌, cond, eqb, ltb, leb, ◌&&◌, Bool, true, false, List, [], ◌∷◌, length, get_or, Option, Some, None, refl, ap, sym, ◌∙◌, arith}
use Rattle.std.specs.Option.{unwrap_or}
use Rattle.std.specs.Ordering.{nat_cmp, eq_by_cmp}
use Rattle.std.specs.Cmp.{nat_cmp_total, unsigned_tied}
use Rattle.std.specs.FinMap.{get, get-empty, get-insert, get-remove, same_map, nat_cmp-IsAntisymmetric}
use Rattle.std.proofs.lemmas.Bool.Decides.{nat_tests}
use Rattle.kc_mem.specs.Memory.{Bytes, byte, put}

-- what the map holds for the byte v
abbrev pub held : ℕ → Option ℕ
held v = cond (eqb v 0) None (Some v)

put_chosen : (m : Bytes) (a v q : ℕ) (b : Bool) → eqb v 0 ≡ b → get (put m a v) q ≡ cond (eqb q a) (held v) (get m q)
put_chosen m a v q true is =
    simp is (get-remove nat_cmp_total m a q ∙ ap (λ t. cond t None (get m q)) (unsigned_tied q a))
put_chosen m a v q false is =
    simp is (get-insert nat_cmp_total m a v q ∙ ap (λ t. cond t (Some v) (get m q)) (unsigned_tied q a))

pub get-put : (m : Bytes) (a v q : ℕ) → get (put m a v) q ≡ cond (eqb q a) (held v) (get m q)
get-put m a v q = put_chosen m a v q _ refl

pub held_byte : (v : ℕ) → unwrap_or (held v) 0 ≡ v
held_byte v = grind (arith, nat_tests)

chosen_byte : (b : Bool) (v : ℕ) (o : Option ℕ) → unwrap_or (cond b (held v) o) 0 ≡ cond b v (unwrap_or o 0)
chosen_byte true v o = held_byte v
chosen_byte false v o = refl

pub byte-put : (m : Bytes) (a v q : ℕ) → byte (put m a v) q ≡ cond (eqb q a) v (byte m q)
byte-put m a v q = ap (λ (o : Option ℕ). unwrap_or o 0) (get-put m a v q) ∙ chosen_byte (eqb q a) v (get m q)

pub same_bytes : (m n : Bytes) → ((q : ℕ) → get m q ≡ get n q) → m ≡ n
same_bytes m n is = same_map nat_cmp_total nat_cmp-IsAntisymmetric m n is
