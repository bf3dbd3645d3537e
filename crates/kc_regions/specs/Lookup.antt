-- Gates by vector, handlers by entry, and the words of the TSS.
use Rattle.std.specs.Prelude.{ℕ, zero, suc, ◌+◌, ◌*◌, nat_eq, List, Option, find, position}
use Rattle.kc_regions.specs.declared.entry.Gate.{Gate}
use Rattle.kc_regions.specs.declared.entry.Handler.{Handler}

-- the gate of vector v
abbrev pub gate_of : List Gate → ℕ → Option Gate
gate_of gates v = find (λ g. nat_eq g.vector v) gates

-- the number of the handler that begins at address a
abbrev pub handler_of : List Handler → ℕ → Option ℕ
handler_of handlers a = position (λ h. nat_eq h.entry a) handlers

-- Where the TSS at this base holds RSP0 (n is 0) and IST1 to IST7 (n is 1 to 7): SDM vol. 3A, "64-Bit Task Management".
abbrev pub tss_word : ℕ → ℕ → ℕ
tss_word tss zero = tss + 4
tss_word tss (suc n) = tss + 36 + 8 * n
