-- What the words on the command line ask for, this project's own.
use Rattle.std.specs.Prelude.{ℕ, ◌^◌, ◌==◌, Bool, true, List, [], ◌∷◌, bytes_eq, codes, Option, Some, None}
use Rattle.std.specs.Prelude.{if◌then◌else◌}
use Rattle.std.specs.Char.{is_ascii_digit}
use Rattle.std.specs.List.{list_any}
use Rattle.std.specs.Str.Parse.{digits_value}
use Rattle.kc_trace.specs.Form.{count_up_to}
use Rattle.kc_trace.specs.Numbers.{are_digits, below}

-- the names of the files that a mode begins with
pub record Inputs : Type 0 where
  pub image : List ℕ
  pub config : List ℕ

-- a mode with its operands
pub data Request : Type 0 where
  Check : Inputs → List ℕ → Request
  Find : Inputs → Request
  Explain : Inputs → Request
  ExplainCert : Inputs → List ℕ → Request
  Replay : Inputs → List ℕ → Request
  -- the seed and the size of the input that is made
  Gen : ℕ → ℕ → Request
  Upgrade : List ℕ → Request

-- a word that is neither a mode nor an operand: it is empty or begins with `-`
abbrev pub is_faulty : List ℕ → Bool
is_faulty [] = true
is_faulty (c ∷ cs) = c == 45

-- ---- numbers

-- the number that the digits write
abbrev pub decimal_of : List ℕ → Option ℕ
decimal_of word = if are_digits is_ascii_digit 20 word then Some (digits_value 10 word) else None

-- SEED: 1 to 20 decimal digits, below 2 ^ 64
abbrev pub seed_of : List ℕ → Option ℕ
seed_of word = below (2 ^ 64) (decimal_of word)

-- SIZE: such a number from 1 to 6,000
abbrev pub size_of : List ℕ → Option ℕ
size_of word = count_up_to 6000 (seed_of word)

-- ---- each mode's operands

-- `check IMAGE CONFIG CERT`
abbrev pub check_of : List (List ℕ) → Option Request
check_of (image ∷ config ∷ cert ∷ []) = Some (Check (record { image = image; config = config }) cert)
check_of operands = None

-- `find IMAGE CONFIG`
abbrev pub find_of : List (List ℕ) → Option Request
find_of (image ∷ config ∷ []) = Some (Find (record { image = image; config = config }))
find_of operands = None

-- `explain IMAGE CONFIG` or `explain IMAGE CONFIG CERT`
abbrev pub explain_of : List (List ℕ) → Option Request
explain_of (image ∷ config ∷ []) = Some (Explain (record { image = image; config = config }))
explain_of (image ∷ config ∷ cert ∷ []) = Some (ExplainCert (record { image = image; config = config }) cert)
explain_of operands = None

-- `replay IMAGE CONFIG TRACE`
abbrev pub replay_of : List (List ℕ) → Option Request
replay_of (image ∷ config ∷ trace ∷ []) = Some (Replay (record { image = image; config = config }) trace)
replay_of operands = None

-- where both are numbers in range
abbrev pub gen_by : Option ℕ → Option ℕ → Option Request
gen_by (Some seed) (Some size) = Some (Gen seed size)
gen_by (Some seed) None = None
gen_by None size = None

-- `gen SEED SIZE`
abbrev pub gen_of : List (List ℕ) → Option Request
gen_of (seed ∷ size ∷ []) = gen_by (seed_of seed) (size_of size)
gen_of operands = None

-- `upgrade CERT`
abbrev pub upgrade_of : List (List ℕ) → Option Request
upgrade_of (cert ∷ []) = Some (Upgrade cert)
upgrade_of operands = None

-- by the first word, the mode
abbrev pub mode_of : List (List ℕ) → Option Request
mode_of (mode ∷ operands) =
    if bytes_eq mode (codes "check") then check_of operands
    else if bytes_eq mode (codes "find") then find_of operands
    else if bytes_eq mode (codes "explain") then explain_of operands
    else if bytes_eq mode (codes "replay") then replay_of operands
    else if bytes_eq mode (codes "gen") then gen_of operands
    else if bytes_eq mode (codes "upgrade") then upgrade_of operands
    else None
mode_of [] = None

-- what the words ask for, where they are in order
abbrev pub request_of : List (List ℕ) → Option Request
request_of words = if list_any is_faulty words then None else mode_of words
