-- As many sums as forms, since each form has one; and seven numbers below a bound, one by one.
use Rattle.std.proofs.Common.{◌≡◌, ℕ, ◌<◌, List, [], ◌∷◌, length, map, All, Some, sym, ◌∙◌, arith}
use Rattle.std.proofs.lemmas.List.Elements.{All-cons}
use Rattle.std.proofs.lemmas.List.{length-map}
use Rattle.kc_config.specs.declared.address.Spelling.{Spelling}
use Rattle.kc_config.specs.declared.address.Sum.{Sum}
use Rattle.kc_config.specs.Addresses.{meant}
use Rattle.kc_config.specs.Keys.{every}
use Rattle.kc_config.specs.Seen.{spelled, sum}
use Rattle.kc_config.proofs.ArrayLemmas.{every_length}

pub as_many : (sums : List Sum) (forms : List Spelling) (symbols : List (List ℕ × ℕ))
    → Some (map sum sums) ≡ every (meant symbols) (map spelled forms) → length sums ≡ length forms
as_many sums forms symbols found =
    sym (length-map sums sum) ∙ every_length (meant symbols) (map spelled forms) (map sum sums) (sym found)
    ∙ length-map forms spelled

none_below : (m : ℕ) → All (λ n. n < m) []
none_below m k d h = absurd (omega (arith, h))

pub seven_below : (m a b c d e f g : ℕ) → a < m → b < m → c < m → d < m → e < m → f < m → g < m
    → All (λ n. n < m) (a ∷ b ∷ c ∷ d ∷ e ∷ f ∷ g ∷ [])
seven_below m a b c d e f g ha hb hc hd he hf hg =
    let P : ℕ → Type 0 = λ n. n < m in
    All-cons P a (b ∷ c ∷ d ∷ e ∷ f ∷ g ∷ []) ha
    (All-cons P b (c ∷ d ∷ e ∷ f ∷ g ∷ []) hb (All-cons P c (d ∷ e ∷ f ∷ g ∷ []) hc
    (All-cons P d (e ∷ f ∷ g ∷ []) hd
    (All-cons P e (f ∷ g ∷ []) he (All-cons P f (g ∷ []) hf (All-cons P g [] hg (none_below m)))))))
