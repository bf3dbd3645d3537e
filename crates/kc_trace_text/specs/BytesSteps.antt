-- The writes of a turn, and what one line takes of those that are left. Machinery: the lines themselves stand in Lines.
use Rattle.std.specs.Prelude.{◌≡◌, ℕ, ◌+◌, ◌≤◌, ◌<◌, Bool, ◌&&◌, nat_eq, nat_lt, List, [], ◌∷◌, length, map, take, drop}
use Rattle.kc_events.specs.declared.turn.Turn.{Turn}
use Rattle.kc_events.specs.declared.turn.Turn.TheVariants.{User, Body}
use Rattle.kc_trace.specs.declared.line.Line.TheVariants.{Mem}
use Rattle.kc_trace_text.specs.Lines.{mem_lines}

-- what the turn writes
abbrev pub written_by : Turn → List (ℕ × ℕ)
written_by (User u) = u.writes
written_by (Body b) = b.writes
written_by _ = []

-- a line with n bytes from address a on takes the byte at address b
abbrev pub goes_on : ℕ → ℕ → ℕ → Bool
goes_on a n b = nat_eq b (a + n) && nat_lt n 4096

abbrev pub bytes_of : List (ℕ × ℕ) → List ℕ
bytes_of ws = map (λ w. w.1) ws

-- the first n writes are a line, and the others the lines after it
pub record TakesFirst (w : ℕ × ℕ) (ws : List (ℕ × ℕ)) (n : ℕ) : Type 0 where
  pub some : 0 < n
  pub few : n ≤ 4096
  pub within : n ≤ length (w ∷ ws)
  pub line : mem_lines (w ∷ ws) ≡ Mem w.0 (bytes_of (take n (w ∷ ws))) ∷ mem_lines (drop n (w ∷ ws))

abbrev pub StartsLine : List (ℕ × ℕ) → ℕ → Type 0
StartsLine [] n = n ≡ 0
StartsLine (w ∷ ws) n = TakesFirst w ws n
