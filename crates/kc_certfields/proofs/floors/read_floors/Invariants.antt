use Rattle.std.proofs.Common.{◌≡◌, ◌-◌, [], take, drop, replicate, length}
use Rattle.kc_frames.specs.Floors.{none_live}
use Rattle.kc_frames.specs.declared.floor.Floor.TheVariants.{At}
use Rattle.kc_certfields.specs.Reads.{times}
use Rattle.kc_certfields.specs.Floors.{next_floor}
use Rattle.kc_certfields.proofs.floors.read_floors.Given as goal

-- the floors up to here and the ones that are left; those that aren't read say that no byte is live
abbrev pub invariant-loop-s : goal.invariant-loop-s
invariant-loop-s l = record {
  read : times next_floor (l.stacks - l.s) (take l.s l.floors.at) l.input ≡ times next_floor l.stacks [] l.initial.input;
  count : length l.floors.at ≡ 16;
  left : drop l.s l.floors.at ≡ replicate (16 - l.s) (At none_live);
}
