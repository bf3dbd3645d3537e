-- Live bytes: the bytes of stacks that suspended activations still need. This project's own.
use Rattle.std.specs.Prelude.{◌≡◌, ℕ, ◌≤◌, List, Any, Some}
use Rattle.kc_regions.specs.Description.{Description}
use Rattle.kc_regions.specs.Region.{stack_of}
use Rattle.kc_exec.specs.declared.state.Activation.{Activation}
use Rattle.kc_exec.specs.Register.{register, rsp}

-- the interrupted RSP lies in a stack, and the byte at x lies from there up to that stack's top
pub record IsLiveFor (cfg : Description) (a : Activation) (x : ℕ) : Type 0 where
  pub stack : ℕ
  pub suspended : stack_of cfg.regions (register a.saved rsp) ≡ Some stack
  pub within : stack_of cfg.regions x ≡ Some stack
  pub above : register a.saved rsp ≤ x

-- the set of live addresses of a chain of activations
abbrev pub IsLive : Description → List Activation → ℕ → Type 0
IsLive cfg chain x = Any (λ a. IsLiveFor cfg a x) chain
