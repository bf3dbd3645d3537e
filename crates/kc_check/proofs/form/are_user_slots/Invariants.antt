use Rattle.std.proofs.Common.{◌≡◌, ◌+◌, length}
use Rattle.std.specs.List.{AllWithin}
use Rattle.kc_value.specs.Value.{value_top}
use Rattle.kc_check.proofs.form.are_user_slots.Given as goal

-- the slots so far tell nothing
abbrev pub invariant-loop-i : goal.invariant-loop-i
invariant-loop-i l = AllWithin (λ v. v ≡ value_top) l.cert.user.slots (8 + length l.cfg.words) l.i
