-- The first bytes of a file after several reads. Each lemma is by cases of whether the files report what they hold and
-- whether the name is held; the last case speaks of lists alone. There a read of n bytes after the first `length xs` is
-- `take-add`, which splits `take (a + n)`, and lengths are left to `omega`. `take-filled` says what a buffer begins
-- with
-- once its rest was filled.
use Rattle.std.proofs.Common.{◌≡◌, ℕ, ◌+◌, ◌≤◌, ◌<◌, List, ◌++◌, length, take, drop, refl, sym, ◌∙◌, ap, arith}
use Rattle.std.proofs.Math.Seq.{take-add, take-append-add}
use Rattle.std.proofs.lemmas.Grind.{common_steps}
use Rattle.std.proofs.lemmas.Slice.{take-put_mid}
use borrow.Rule.Slice.PartMut.{put_mid}
use Rattle.std.specs.Prelude.{Option, Some, None, IfSome, Ok, IsSomeAnd}
use Rattle.kc_io.specs.Files.{Held, ReadsFile, ReadsIfHeld, Reads, IsWhole}
use Rattle.kc_io.specs.ReadSteps.{IsPrefix, IsAtLeast}

-- a read after the first bytes of a file leaves its first bytes
prefix-more : (file xs buf : List ℕ) (n : ℕ) → take (length xs) file ≡ xs → ReadsFile file (length xs) n buf →
    take (length (xs ++ take n buf)) file ≡ xs ++ take n buf
prefix-more file xs buf n prefix read =
    let count : length (xs ++ take n buf) ≡ length xs + n = rw read.bytes (grind (arith, common_steps, read.within)) in
    rw (count, take-add (length xs) n file, prefix) (ap (λ ys. xs ++ ys) (sym read.bytes))

held-more : (o : Option (List ℕ)) (xs buf : List ℕ) (n : ℕ) → IfSome o (λ file. take (length xs) file ≡ xs) →
    ReadsIfHeld o (length xs) n buf → IfSome o (λ file. take (length (xs ++ take n buf)) file ≡ xs ++ take n buf)
held-more (Some file) xs buf n prefix read = prefix-more file xs buf n prefix read
held-more None xs buf n prefix read = absurd read

pub IsPrefix-more : (held : Option Held) (name xs buf : List ℕ) (n : ℕ) → IsPrefix held name xs →
    Reads held name (length xs) (Ok n) buf → IsPrefix held name (xs ++ take n buf)
IsPrefix-more None name xs buf n prefix read = tt
IsPrefix-more (Some held) name xs buf n prefix read = held-more (held name) xs buf n prefix read

held-end : (o : Option (List ℕ)) (xs buf : List ℕ) → 0 < length buf → IfSome o (λ file. take (length xs) file ≡ xs) →
    ReadsIfHeld o (length xs) 0 buf → o ≡ Some xs
held-end (Some file) xs buf room prefix read =
    let short : length file ≤ length xs = read.end refl room in
    ap Some (grind (arith, common_steps, prefix, short))
held-end None xs buf room prefix read = absurd read

-- a read of nothing, where there was room, has met the end
pub IsWhole-end : (held : Option Held) (name xs buf : List ℕ) → 0 < length buf → IsPrefix held name xs →
    Reads held name (length xs) (Ok 0) buf → IsWhole held name xs
IsWhole-end None name xs buf room prefix read = tt
IsWhole-end (Some held) name xs buf room prefix read = held-end (held name) xs buf room prefix read

held-longer : (o : Option (List ℕ)) (at n : ℕ) (buf : List ℕ) → at ≤ at → ReadsIfHeld o at n buf → 0 < n →
    IsSomeAnd o (λ file. at + n ≤ length file)
held-longer (Some file) at n buf _ read some =
    let within : n ≤ length (drop at file) = read.within in grind (arith, common_steps, within)
held-longer None at n buf _ read some = absurd read

-- the file is at least as long as what was read of it
pub IsAtLeast-read : (held : Option Held) (name buf : List ℕ) (at n : ℕ) → Reads held name at (Ok n) buf → 0 < n →
    IsAtLeast held name (at + n)
IsAtLeast-read None name buf at n read some = tt
IsAtLeast-read (Some held) name buf at n read some = held-longer (held name) at n buf (omega arith) read some

-- a part of a buffer is filled from an offset on: the bytes before it and the first of the part
pub take-filled : (at k n : ℕ) (buffer part : List ℕ) → at ≤ length buffer → n ≤ length part →
    take (at + n) (put_mid at k buffer part) ≡ take at buffer ++ take n part
take-filled at k n buffer part within fits =
    let whole : take (at + length part) (put_mid at k buffer part) ≡ take at buffer ++ part = take-put_mid at k buffer
    part (at + length part) refl within in
    let prefix : take (at + n) (put_mid at k buffer part) ≡ take (at + n) (take at buffer ++ part) = rw (← whole)
    (grind (arith, common_steps)) in
    let count : length (take at buffer) ≡ at = grind (arith, common_steps) in
    prefix ∙ (rw count at (take-append-add (take at buffer) part n))
