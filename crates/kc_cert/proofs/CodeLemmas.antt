-- The instruction that the decoder reads at an address is the one that is spelled there, and no other is: by what the
-- decoder's answers say of the bytes that follow each other from there on.
use Rattle.std.proofs.Common.{◌≡◌, ℕ, ◌≤◌, List, length, take, Option, Some, None, Result, Ok, Err, refl, sym, ap, ◌∙◌}
use Rattle.std.specs.Prelude.{IfSome, true}
use Rattle.kc_decode.proofs.Answers.{is-found, is-only}
use Rattle.kc_decode.specs.Reading.{decode_at}
use Rattle.kc_decode.specs.declared.fault.DecodeFault.{DecodeFault}
use Rattle.kc_events.proofs.FetchLemmas.{spelled-in, found-in}
use Rattle.kc_events.specs.Fetched.{IsAt}
use Rattle.kc_image.specs.Image.{Contents, run}
use Rattle.kc_insn.proofs.Encoded.{spelled-encodable}
use Rattle.kc_insn.specs.Encodable.{is_encodable}
use Rattle.kc_insn.specs.Spells.{Spells}
use Rattle.kc_insn.specs.declared.insn.Insn.{Insn}
use Rattle.kc_reading.specs.Reading.{AreBytes}
use Rattle.kc_rules.specs.Rules.{GivesExactly}
use Rattle.kc_cert.specs.Code.{insn_at, what_is_read}

same : (r : Result (Insn × ℕ) DecodeFault) → GivesExactly (λ (x : Insn × ℕ). (x.0, x.1)) r r
same (Ok x) = refl
same (Err e) = refl

-- what was decoded is what the decoder reads there
pub read-value : (at : ℕ) (s : List ℕ) (found : Insn × ℕ) → AreBytes s
    → (found.1 ≤ length s) × Spells (take found.1 s) at found.0
    → Some found ≡ what_is_read (decode_at s at)
read-value at s found fit h =
    let read : decode_at s at ≡ Ok (found.0, found.1) =
    is-only s at fit (decode_at s at) (same (decode_at s at)) found.1 found.0 h.0 h.1 in
    sym (ap what_is_read read)

-- where nothing is spelled, nothing is read
pub none-value : (at : ℕ) (s : List ℕ) → AreBytes s
    → ((n : ℕ) (insn : Insn) → n ≤ length s → ¬ Spells (take n s) at insn)
    → None ≡ what_is_read (decode_at s at)
none-value at s fit none = go (decode_at s at) refl
  where
    go : (r : Result (Insn × ℕ) DecodeFault) → decode_at s at ≡ r → None ≡ what_is_read (decode_at s at)
    go (Ok x) k = let f = is-found s at fit (Ok x) k in absurd (none x.1 x.0 f.0 f.1)
    go (Err fault) k = sym (ap what_is_read k)

pub at-run : (image : Contents) (at : ℕ) (s : List ℕ) → s ≡ run image.segments at 15
    → insn_at image at ≡ what_is_read (decode_at s at)
unfolding insn_at
at-run image at s e = ap (λ (b : List ℕ). what_is_read (decode_at b at)) (sym e)

abbrev pub Spelled : ℕ → List ℕ → Insn × ℕ → Type 0
Spelled at s x = (x.1 ≤ length s) × Spells (take x.1 s) at x.0

-- what was read is there, and where nothing was read nothing is
pub is-there : (image : Contents) (at : ℕ) (s : List ℕ) → s ≡ run image.segments at 15 → (r : Option (Insn × ℕ))
    → IfSome r (Spelled at s) → (r ≡ None → (n : ℕ) (insn : Insn) → n ≤ length s → ¬ Spells (take n s) at insn)
    → IsAt image at r
is-there image at s whole (Some x) spelled absent = spelled-in image at x.1 x.0 s whole spelled.0 spelled.1
is-there image at s whole None spelled absent = λ insn n is.
    let there = found-in image at n insn s whole is in absent refl n insn there.0 there.1

pub is-encodable : (at : ℕ) (s : List ℕ) (r : Option (Insn × ℕ)) → IfSome r (Spelled at s)
    → IfSome r (λ x. is_encodable x.0 ≡ true)
is-encodable at s (Some x) spelled = spelled-encodable (take x.1 s) at x.0 spelled.1
is-encodable at s None spelled = tt
