use Rattle.std.proofs.Common.{◌≡◌, ◌≤◌, ◌++◌, length, take, drop}
use Rattle.kc_frames.specs.Slots.{redone}
use Rattle.kc_state.specs.AbsDelivery.{own_register}
use Rattle.kc_absevent.proofs.interrupted.name_each.Given as goal

-- what is done and the change of the rest are the whole change
abbrev pub invariant-loop-w : goal.invariant-loop-w
invariant-loop-w l = record {
  count : length l.regs ≤ 16;
  whole : take l.w l.regs ++ redone (own_register l.inside) l.w (drop l.w l.regs)
      ≡ redone (own_register l.inside) 0 l.initial.regs;
}
