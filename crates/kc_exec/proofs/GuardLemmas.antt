-- The bytes of an access, one after another.
use Rattle.std.proofs.Common.{◌≡◌, ℕ, suc, ◌||◌, List, subst, sym, refl}
use Rattle.kc_regions.specs.declared.region.Region.{Region}
use Rattle.kc_regions.specs.Permission.{in_guard}
use Rattle.kc_mem.specs.Memory.{next}
use Rattle.kc_exec.specs.Execution.{guarded}

-- the first byte, and then the others
pub guarded-step : (regions : List Region) (a n k : ℕ) → n ≡ suc k → guarded regions a n
    ≡ (in_guard regions a || guarded regions (next a) k)
guarded-step regions a n k e =
    subst (λ (x : ℕ). guarded regions a x ≡ (in_guard regions a || guarded regions (next a) k)) (sym e) refl
