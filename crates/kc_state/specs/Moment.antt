-- The processor of an abstract state, this project's own.
use Rattle.kc_state.specs.declared.cpu.AbsCpu.{AbsCpu}
use Rattle.kc_state.specs.declared.state.AbsState.{AbsState}

-- the parts of a state that aren't memory
abbrev pub cpu_of : AbsState → AbsCpu
cpu_of s = record { regs = s.regs; flags = s.flags; gs = s.gs; map = s.map; latches = s.latches }
