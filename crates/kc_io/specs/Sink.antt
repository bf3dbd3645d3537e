-- What a sink keeps of the bytes that are written to it: this project's own.
use Rattle.std.specs.Prelude.{◌≡◌, ℕ, zero, suc, ◌+◌, ◌≤◌, ◌<◌, List, [], ◌∷◌, length, take, Option, Result, Ok, Err, ⊤}
use Rattle.std.specs.Io.KnownBytes.{Appends}
use Rattle.kc_io.specs.Count.{Rose}
use Rattle.kc_io.specs.declared.files.Failed.{Failed}

-- what never changes of a sink: the numbers of the calls that fail by plan, counted from 0, and the most bytes that it
-- takes, where that is bounded
pub record Plan : Type 0 where
  pub failing : List ℕ
  pub room : Option ℕ

-- what contracts see of a sink
pub record SinkState : Type 0 where
  -- the bytes written so far, where the sink reports them
  pub written : Option (List ℕ)
  -- how often a piece was refused
  pub faults : ℕ
  -- the length of the piece that was refused last
  pub refused : ℕ
  pub plan : Plan

-- what each call keeps: the count doesn't fall, the plan stays
pub record SinkKept (before after : SinkState) : Type 0 where
  pub later : before.faults ≤ after.faults
  pub plan : after.plan ≡ before.plan

-- the call refused its piece: it failed, or it took nothing of a piece that isn't empty
abbrev pub IsRefusal : Result ℕ Failed → List ℕ → Type 0
IsRefusal (Err _) piece = ⊤
IsRefusal (Ok zero) piece = 0 < length piece
IsRefusal (Ok (suc n)) piece = ⊥

-- the length of the piece that was refused last
abbrev pub refused_length : ℕ → Result ℕ Failed → List ℕ → ℕ
refused_length old (Err _) piece = length piece
refused_length old (Ok zero) [] = old
refused_length old (Ok zero) (b ∷ bs) = length (b ∷ bs)
refused_length old (Ok (suc n)) piece = old

-- all of the text was added, and no piece was refused
pub record Writes (before after : SinkState) (text : List ℕ) : Type 0 where
  pub added : Appends before.written after.written text
  pub quiet : after.refused ≡ before.refused

-- the sink refused a piece of the text: its count rose, a prefix of the text was added, and that prefix and the refused
-- piece, which isn't empty, are together no longer than the text
pub record Refuses (before after : SinkState) (text : List ℕ) : Type 0 where
  pub rose : Rose before.faults after.faults
  pub prefix : (n : ℕ) × (n + after.refused ≤ length text) × Appends before.written after.written (take n text)
  pub some : 0 < after.refused
