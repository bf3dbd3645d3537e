-- A file that is read in pieces. `feeds-more`: a piece more, by the lemma on the first bytes of a file. `kept-both`,
-- `taken-both`: two states of files one after the other; counts are left to omega. `read-ends`, `read-finishes`: what
-- the last answer says of the whole file, by its cases.
use Rattle.std.proofs.Common.{◌≡◌, ℕ, ◌+◌, ◌-◌, ◌≤◌, ◌^◌, List, [], ◌++◌, length, take, Result, Ok, Err, refl, sym, ap, ◌∙◌, subst, append-nil, arith}
use Rattle.std.proofs.lemmas.List.{length-append}
use Rattle.std.proofs.lemmas.Grind.{common_steps}
use Rattle.std.specs.Prelude.{Option, Some, None, IfSome, min}
use Rattle.kc_io.specs.Files.{Held, FilesState, FilesKept, HasFailed, HasTaken, IsLonger, IsWhole, Reads}
use Rattle.kc_io.specs.ReadSteps.{IsPrefix}
use Rattle.kc_io.proofs.Prefixes.{IsPrefix-more, IsWhole-end}
use Rattle.kc_cert.specs.declared.certificate.Certificate.{Certificate}
use Rattle.kc_certfields.specs.declared.fault.CertFault.{CertFault}
use Rattle.kc_certfmt.specs.Reading.{cert_at}
use Rattle.kc_certfmt.specs.Fed.{Reader, HasRead}
use Rattle.kc_certfmt.specs.File.{IsRead, ReadsCert, IsFed, FeedsMore, Feeds, Ends}
use Rattle.kc_certfmt.specs.declared.file.CertEnd.{CertEnd}
use Rattle.kc_certfmt.specs.declared.file.CertEnd.TheVariants as end

-- ---- one piece

-- nothing was read, so all was read before
whole-fed : (held : Option Held) (name : List ℕ) (n k : ℕ) (buf fed : List ℕ) → IsPrefix held name fed → length fed ≡ n
    → Reads held name n (Ok k) buf → 1 ≤ length buf → k ≡ 0 → IsWhole held name (fed ++ take k buf)
whole-fed held name n k buf fed prefix long read room none =
    let at : Reads held name (length fed) (Ok 0) buf =
    subst (λ (m : ℕ). Reads held name m (Ok 0) buf) (sym long)
    (subst (λ (m : ℕ). Reads held name n (Ok m) buf) none read) in
    let same : fed ≡ fed ++ take k buf =
    sym (append-nil fed) ∙ ap (λ (m : ℕ). fed ++ take m buf) (sym none) in
    subst (λ (l : List ℕ). IsWhole held name l) same (IsWhole-end held name fed buf room prefix at)

pub feeds-more : (before after : FilesState) (name : List ℕ) (n limit k : ℕ) (buf : List ℕ) (r s : Reader)
    → IsFed before.held name n r → Reads before.held name n (Ok k) buf → k ≤ length buf → 1 ≤ length buf
    → ((fed : List ℕ) → HasRead fed r → HasRead (fed ++ take k buf) s) → n + k ≤ limit → HasTaken before after k
    → FeedsMore before after name n limit k s
feeds-more before after name n limit k buf r s is read fits room feeds within taken =
    let count : length (take k buf) ≡ k = grind (arith, common_steps) in
    record {
      within = within;
      more = record {
        fed = is.fed ++ take k buf;
        prefix = IsPrefix-more before.held name is.fed buf k is.prefix
            (subst (λ (m : ℕ). Reads before.held name m (Ok k) buf) (sym is.long) read);
        long = length-append is.fed (take k buf) ∙ (let long = is.long in omega (arith, count, long));
        read = feeds is.fed is.read;
      };
      whole = λ none. whole-fed before.held name n k buf is.fed is.prefix is.long read room none;
      taken = taken;
    }

-- ---- before the first piece

prefix-none : (held : Option Held) (name : List ℕ) → IsPrefix held name []
prefix-none None name = tt
prefix-none (Some held) name = of (held name)
  where
    of : (o : Option (List ℕ)) → IfSome o (λ file. take 0 file ≡ [])
    of (Some file) = refl
    of None = tt

pub none-fed : (held : Option Held) (name : List ℕ) (r : Reader) → HasRead [] r → IsFed held name 0 r
none-fed held name r is = record { fed = []; prefix = prefix-none held name; long = refl; read = is }

pub none-taken : (a : FilesState) → HasTaken a a 0
none-taken a = record { most = omega arith; least = omega arith }

pub kept-self : (a : FilesState) → FilesKept a a
kept-self a = record { later = λ name. omega arith; held = refl; failing = refl }

-- ---- one after the other

pub kept-both : (a b c : FilesState) → FilesKept a b → FilesKept b c → FilesKept a c
kept-both a b c first second = record {
  later = λ name. let x = first.later name in let y = second.later name in omega (arith, x, y);
  held = second.held ∙ first.held;
  failing = second.failing ∙ first.failing;
}

pub taken-both : (a b c : FilesState) (n m : ℕ) → HasTaken a b n → HasTaken b c m → HasTaken a c (n + m)
taken-both a b c n m first second = record {
  most = let x = first.most in let y = second.most in omega (arith, x, y);
  least = let x = first.least in let y = second.least in omega (arith, x, y);
}

pub fed-same : (held held2 : Option Held) (name : List ℕ) (n : ℕ) (r : Reader) → held ≡ held2 → IsFed held name n r
    → IsFed held2 name n r
fed-same held held2 name n r same is = subst (λ (h : Option Held). IsFed h name n r) same is

-- a read failed, or there are too many bytes
pub read-ends : (a b c : FilesState) (name : List ℕ) (n limit : ℕ) (r : Reader) (e : CertEnd) → FilesKept a b
    → HasTaken a b n → Feeds b c name n limit r (Err e) → ReadsCert a c name limit (Err e)
read-ends a b c name n limit r end.Fault kept taken h =
    let x = kept.later name in omega (arith, x, h)
read-ends a b c name n limit r end.TooLong kept taken h = (
  subst (λ (held : Option Held). IsLonger held name limit) kept.held h.0,
  subst (λ (m : ℕ). HasTaken a c m) h.1.1 (taken-both a b c n h.1.0 taken h.1.2),
)
read-ends a b c name n limit r end.NoMemory kept taken h = tt
read-ends a b c name n limit r (end.Form e) kept taken h = absurd h

-- the whole file was read
pub read-finishes : (a b c : FilesState) (name : List ℕ) (n limit k : ℕ) (r : Reader) (result : Result Certificate CertEnd)
    → FilesKept a b → HasTaken a b n → FeedsMore b c name n limit k r → k ≡ 0
    → ((fed : List ℕ) → HasRead fed r → Ends result (cert_at fed)) → ReadsCert a c name limit result
read-finishes a b c name n limit k r result kept taken h none ends = of result (ends h.more.fed h.more.read)
  where
    all : List ℕ
    all = h.more.fed

    whole : IsWhole a.held name all
    whole = subst (λ (held : Option Held). IsWhole held name all) kept.held (h.whole none)

    within : length all ≤ limit
    within = let x = h.within in let y = h.more.long in omega (arith, x, y)

    count : HasTaken a c (length all)
    count = subst (λ (m : ℕ). HasTaken a c m) (sym h.more.long) (taken-both a b c n k taken h.taken)

    gives : (due : Result Certificate CertFault) → cert_at all ≡ due → IsRead a c name limit due
    gives due is = record { bytes = all; whole = whole; within = within; taken = count; gives = is }

    of : (x : Result Certificate CertEnd) → Ends x (cert_at all) → ReadsCert a c name limit x
    of (Ok cert) e = gives (Ok cert) e
    of (Err (end.Form d)) e = (gives (Err d) e.0, e.1)
    of (Err end.NoMemory) e = tt
    of (Err end.Fault) e = absurd e
    of (Err end.TooLong) e = absurd e
