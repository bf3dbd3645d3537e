-- Reading so many times, as the loops do: after k of n times the rest is `n - k` times. Each lemma opens one time by
-- `n - k ≡ suc (n - (k + 1))`, which omega shows, and goes on by what the next reading gave.
use Rattle.std.proofs.Common.{◌≡◌, ℕ, zero, suc, ◌+◌, ◌-◌, ◌<◌, ◌≤◌, List, [], ◌∷◌, ◌++◌, Result, Ok, Err, refl, sym, ◌∙◌, ap, arith}
use Rattle.kc_rules.specs.Rules.{◌>>=◌}
use Rattle.kc_certfields.specs.declared.fault.CertFault.{CertFault}
use Rattle.kc_certfields.specs.Rest.{Rest}
use Rattle.kc_certfields.specs.Reads.{Reading, times}

module _ {S : Type 0} (next : S → Reading S) where
  opened : (m n : ℕ) (s : S) (i : Rest) → m ≡ suc n
      → times next m s i ≡ (next s i >>= λ more. times next n more.0 more.1)
  unfolding times
  opened m n s i e = rw e refl

  -- one time more
  pub times_more : (n k : ℕ) (s t : S) (i j : Rest) (due : Result (S × Rest) CertFault) → k < n
      → next s i ≡ Ok (t, j) → times next (n - k) s i ≡ due → times next (n - (k + 1)) t j ≡ due
  times_more n k s t i j due below read before =
      sym (opened (n - k) (n - (k + 1)) s i (omega arith)
      ∙ ap (λ (r : Result (S × Rest) CertFault). r >>= λ more. times next (n - (k + 1)) more.0 more.1) read) ∙ before

  -- the first fault is the fault of all
  pub times_stops : (n k : ℕ) (s : S) (i : Rest) (e : CertFault) (due : Result (S × Rest) CertFault) → k < n
      → next s i ≡ Err e → times next (n - k) s i ≡ due → due ≡ Err e
  times_stops n k s i e due below read before =
      sym before ∙ opened (n - k) (n - (k + 1)) s i (omega arith)
      ∙ ap (λ (r : Result (S × Rest) CertFault). r >>= λ more. times next (n - (k + 1)) more.0 more.1) read

  none : (m : ℕ) (s : S) (i : Rest) → m ≡ 0 → times next m s i ≡ Ok (s, i)
  unfolding times
  none m s i e = rw e refl

  -- after all times
  pub times_done : (n k : ℕ) (s : S) (i : Rest) (due : Result (S × Rest) CertFault) → n ≤ k
      → times next (n - k) s i ≡ due → due ≡ Ok (s, i)
  times_done n k s i due end before = sym before ∙ none (n - k) s i (omega arith)
