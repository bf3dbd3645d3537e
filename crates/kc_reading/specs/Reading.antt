-- Readers of bytes and the grammars that they are exact for, this project's own.
-- A reader takes something from the beginning of a list and hands on what follows; or it refuses.
use Rattle.std.specs.Prelude.{◌≡◌, ℕ, zero, suc, ◌<◌, Bool, true, false, List, [], ◌∷◌, ◌++◌, length, Result, Ok, Err}
use Rattle.kc_rules.specs.Rules.{◌>>=◌}
use Rattle.kc_words.specs.LittleEndian.{little_endian}

-- each number is a byte
abbrev pub AreBytes : List ℕ → Type 0
AreBytes [] = Unit {0}
AreBytes (b ∷ bs) = (b < 256) × AreBytes bs

-- The reader is exact for the grammar. A fault for which `short` is true says that bytes are missing.
pub record Exact {A E : Type 0} (short : E → Bool) (read : List ℕ → Result (A × List ℕ) E)
    (Spells : List ℕ → A → Type 0) : Type 0 where
  -- what is taken is spelled so
  pub takes : (bs rest : List ℕ) (x : A) → AreBytes bs → read bs ≡ Ok (x, rest) → (front : List ℕ) × Spells front x
      × (bs ≡ front ++ rest)
  -- what is spelled is taken, whatever follows
  pub again : (front rest : List ℕ) (x : A) → Spells front x → read (front ++ rest) ≡ Ok (x, rest)
  -- a fault other than missing bytes stays, whatever follows
  pub refuses : (bs more : List ℕ) (e : E) → AreBytes bs → read bs ≡ Err e → short e ≡ false → read (bs ++ more) ≡ Err e
  -- where bytes are missing, some bytes complete a spelling
  pub completes : (bs : List ℕ) (e : E) → AreBytes bs → read bs ≡ Err e → short e ≡ true → (more : List ℕ) × (x : A)
      × (0 < length more) × Spells (bs ++ more) x

-- one grammar after another, which may depend on what the first spells
abbrev pub Then : {A B : Type 0} → (List ℕ → A → Type 0) → (A → List ℕ → B → Type 0) → List ℕ → B → Type 0
Then {A} First Second bs y = (x : A) × (front : List ℕ) × (back : List ℕ) × First front x × Second x back y
    × (bs ≡ front ++ back)

-- reads a byte
abbrev pub byte_at : {E : Type 0} → E → List ℕ → Result (ℕ × List ℕ) E
byte_at missing [] = Err missing
byte_at missing (b ∷ bs) = Ok (b, bs)

-- reads so many bytes
abbrev pub bytes_at : {E : Type 0} → E → ℕ → List ℕ → Result (List ℕ × List ℕ) E
bytes_at missing zero bs = Ok ([], bs)
bytes_at missing (suc n) bs =
    byte_at missing bs >>= λ b. bytes_at missing n b.1 >>= λ others. Ok (b.0 ∷ others.0, others.1)

-- a byte, and after it what may depend on it
abbrev pub ByteThen : {A : Type 0} → (ℕ → List ℕ → A → Type 0) → List ℕ → A → Type 0
ByteThen Second bs y = (b : ℕ) × (back : List ℕ) × (b < 256) × Second b back y × (bs ≡ b ∷ back)

-- so many bytes
abbrev pub AreManyBytes : ℕ → List ℕ → List ℕ → Type 0
AreManyBytes n bs xs = (length bs ≡ n) × AreBytes bs × (xs ≡ bs)

-- n bytes that stand for the number v, the least significant byte first
abbrev pub IsNumber : ℕ → List ℕ → ℕ → Type 0
IsNumber n bytes v = (length bytes ≡ n) × AreBytes bytes × (v ≡ little_endian bytes)

-- reads a number of n bytes
abbrev pub number_at : {E : Type 0} → E → ℕ → List ℕ → Result (ℕ × List ℕ) E
number_at missing n bs = bytes_at missing n bs >>= λ x. Ok (little_endian x.0, x.1)
