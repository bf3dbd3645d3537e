use Rattle.std.proofs.Common.{◌≡◌, ◌-◌, take, length}
use Rattle.kc_certfields.specs.Reads.{times}
use Rattle.kc_certfields.specs.Values.{next_value, values_at}
use Rattle.kc_certfields.proofs.values.read_registers.Given as goal

-- the values up to here, and the ones that are left
abbrev pub invariant-loop-r : goal.invariant-loop-r
invariant-loop-r l = record {
  read : times next_value (16 - l.r) (take l.r l.regs) l.input ≡ values_at 16 l.initial.input;
  count : length l.regs ≡ 16;
}
