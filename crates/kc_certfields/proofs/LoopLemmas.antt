-- What the loops of readers and writers do in a turn: a value made of what was read, the floors put together, and a
-- part of a list written. By regrouping lists; numbers are left to omega.
use Rattle.std.proofs.Common.{◌≡◌, ℕ, ◌+◌, ◌-◌, ◌<◌, List, [], ◌∷◌, ◌++◌, length, take, drop, get_or, replicate, set, Result, Ok, Err, refl, sym, ap, ◌∙◌, append_assoc, append-nil, arith}
use Rattle.std.proofs.lemmas.List.{take_more, take-append-drop, drop-drop, drop-replicate, drop-set-lt}
use Rattle.std.proofs.Math.Seq.{take-length}
use Rattle.std.proofs.lemmas.Grind.{flat_map-append}
use Rattle.std.specs.List.{flat_map}
use Rattle.kc_rules.specs.Rules.{◌>>=◌}
use Rattle.kc_value.specs.AbsValue.{AbsValue}
use Rattle.kc_frames.specs.Floors.{none_live}
use Rattle.kc_frames.specs.declared.floor.Floor.{Floor}
use Rattle.kc_frames.specs.declared.floor.Floor.TheVariants.{At}
use Rattle.kc_frames.specs.declared.floors.Floors.{Floors}
use Rattle.kc_certfields.specs.declared.fault.CertFault.{CertFault}
use Rattle.kc_certfields.specs.Rest.{Rest}
use Rattle.kc_certfields.specs.Reads.{Reading, times}
use Rattle.kc_certfields.specs.Floors.{next_floor, floors_at}
use Rattle.kc_certfields.specs.Slots.{next_slot, slots_from}

-- a value made of what was read
pub made_ok : {A B : Type 0} (read : Reading A) (g : A → B) (i j : Rest) (x : A) → read i ≡ Ok (x, j)
    → ◌>>=◌ {B = B × Rest} (read i) (λ v. Ok (g v.0, v.1)) ≡ Ok (g x, j)
made_ok {A} {B} read g i j x h =
    let f : Result (A × Rest) CertFault → Result (B × Rest) CertFault = λ r. r >>= λ v. Ok (g v.0, v.1) in ap f h

pub made_err : {A B : Type 0} (read : Reading A) (g : A → B) (i : Rest) (e : CertFault) → read i ≡ Err e
    → ◌>>=◌ {B = B × Rest} (read i) (λ v. Ok (g v.0, v.1)) ≡ Err e
made_err {A} {B} read g i e h =
    let f : Result (A × Rest) CertFault → Result (B × Rest) CertFault = λ r. r >>= λ v. Ok (g v.0, v.1) in ap f h

-- the floors that were read, and those of no stack
pub floors-done : (stacks : ℕ) (at : List Floor) (i j : Rest)
    → times next_floor stacks [] i ≡ Ok (take stacks at, j) → drop stacks at ≡ replicate (16 - stacks) (At none_live)
    → floors_at stacks i ≡ Ok (record { at = at }, j)
unfolding floors_at
floors-done stacks at i j read left =
    let whole : List Floor → Result (Floors × Rest) CertFault = λ xs. Ok (record { at = xs }, j) in
    let more : Result (List Floor × Rest) CertFault → Result (Floors × Rest) CertFault =
    λ r. r >>= λ fs. Ok (record { at = fs.0 ++ replicate (16 - stacks) (At none_live) }, fs.1) in
    ap more read ∙ ap (λ (xs : List Floor). whole (take stacks at ++ xs)) (sym left)
    ∙ ap whole (take-append-drop stacks at)

pub floors-stop : (stacks : ℕ) (i : Rest) (e : CertFault) → times next_floor stacks [] i ≡ Err e
    → floors_at stacks i ≡ Err e
unfolding floors_at
floors-stop stacks i e read =
    let more : Result (List Floor × Rest) CertFault → Result (Floors × Rest) CertFault =
    λ r. r >>= λ fs. Ok (record { at = fs.0 ++ replicate (16 - stacks) (At none_live) }, fs.1) in
    ap more read

pub slots-done : (limit count least : ℕ) (slots known : List AbsValue) (i j : Rest)
    → times (next_slot limit) count (0, slots) i ≡ Ok ((least, known), j)
    → slots_from limit count slots i ≡ Ok (known, j)
unfolding slots_from
slots-done limit count least slots known i j read =
    made_ok (times (next_slot limit) count (0, slots)) (λ (x : ℕ × List AbsValue). x.1) i j (least, known) read

pub slots-stop : (limit count : ℕ) (slots : List AbsValue) (i : Rest) (e : CertFault)
    → times (next_slot limit) count (0, slots) i ≡ Err e → slots_from limit count slots i ≡ Err e
unfolding slots_from
slots-stop limit count slots i e read =
    made_err (times (next_slot limit) count (0, slots)) (λ (x : ℕ × List AbsValue). x.1) i e read

-- an item more of a list is written
pub part-more : {A : Type 0} (f : A → List ℕ) (items : List A) (k : ℕ) (x : A) (old out new : List ℕ)
    → k < length items → x ≡ get_or items k x → out ≡ old ++ flat_map f (take k items) → new ≡ out ++ f x
    → new ≡ old ++ flat_map f (take (k + 1) items)
part-more {A} f items k x old out new below e before here =
    let all : flat_map f (take (k + 1) items) ≡ flat_map f (take k items) ++ f x =
    ap (flat_map f) (take_more items k x below ∙ ap (λ (y : A). take k items ++ y ∷ []) (sym e))
    ∙ flat_map-append f (take k items) (x ∷ []) ∙ ap (λ (t : List ℕ). flat_map f (take k items) ++ t) (append-nil (f x)) in
    here ∙ ap (λ (t : List ℕ). t ++ f x) before ∙ append_assoc old (flat_map f (take k items)) (f x)
    ∙ ap (λ (t : List ℕ). old ++ t) (sym all)

pub take-all : {A : Type 0} (n : ℕ) (items : List A) → n ≡ length items → take n items ≡ items
take-all n items e = rw e (take-length items)

-- a floor that was read leaves those after it as they were
pub left-more : (at : List Floor) (s : ℕ) (f : Floor) → s < 16 → drop s at ≡ replicate (16 - s) (At none_live)
    → drop (s + 1) (set at s f) ≡ replicate (16 - (s + 1)) (At none_live)
left-more at s f below left =
    drop-set-lt (s + 1) at s f (omega arith) ∙ sym (drop-drop 1 s at) ∙ ap (drop 1) left
    ∙ drop-replicate 1 (16 - s) (At none_live)
    ∙ ap (λ (n : ℕ). replicate n (At none_live)) (let e : 16 - s - 1 ≡ 16 - (s + 1) = omega arith in e)
