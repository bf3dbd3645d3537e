-- What is known at a site, with the instruction there. This project's own.
use Rattle.std.specs.Prelude.{ℕ}
use Rattle.kc_insn.specs.declared.insn.Insn.{Insn}
use Rattle.kc_state.specs.declared.key.Key.{Key}
use Rattle.kc_state.specs.declared.site.Site.{Site}
use Rattle.kc_state.specs.declared.state.AbsState.{AbsState}
use Rattle.kc_cert.specs.Placed.{Placed}

-- s is known at the site of a context of this key, and the instruction there has len bytes
abbrev pub placed_at : Key → Site → AbsState → Insn × ℕ → Placed
placed_at key site s (insn, len) = record { key = key; site = site; state = s; insn = insn; len = len }
