use Rattle.std.proofs.Common.{◌≡◌}
use Rattle.std.specs.List.{AllWithin}
use Rattle.kc_frames.specs.Floors.{none_live}
use Rattle.kc_frames.specs.declared.floor.Floor.TheVariants.{At}
use Rattle.kc_check.proofs.form.none_live_from.Given as goal

-- of the stacks so far no byte is live
abbrev pub invariant-loop-s : goal.invariant-loop-s
invariant-loop-s l = AllWithin (λ f. f ≡ At none_live) l.floors l.stacks l.s
