-- The limit is reached: each round of demands lowers a measure of the table, or changes nothing. The measure adds up
-- the ranks of all values, and for each key that may still come more than any rank.
use Rattle.std.proofs.Common.{◌≡◌, ◌⊎◌, inl, inr, ⊎_elim, ℕ, zero, suc, ◌+◌, ◌-◌, ◌*◌, ◌^◌, ◌<◌, ◌≤◌, List, [], ◌∷◌, All, fold, le_refl, refl, sym, ap, ◌∙◌, subst, arith}
use Rattle.std.proofs.lemmas.Bool.{cases_lt}
use Rattle.std.proofs.lemmas.List.Elements.{All-head, All-tail}
use Rattle.std.specs.FinMap.{FinMap, len}
use Rattle.kc_frames.specs.Clobber.{IsClobber, clobber_joined, clobber_rank, nothing_written}
use Rattle.kc_frames.specs.ClobberLaws.{clobber_laws, clobber_rank-le}
use Rattle.kc_frames.specs.ClobberSets.{ClobberSets}
use Rattle.kc_image.specs.Image.{Contents}
use Rattle.kc_regions.specs.Description.{Description}
use Rattle.kc_state.specs.State.{IsState, state_joined, state_rank}
use Rattle.kc_state.specs.StateLaws.{state_laws, state_rank-le}
use Rattle.kc_state.specs.User.{user_joined, user_rank}
use Rattle.kc_state.specs.UserLaws.{user_laws}
use Rattle.kc_state.specs.declared.key.Key.{Key}
use Rattle.kc_state.specs.declared.site.Site.{Site}
use Rattle.kc_state.specs.declared.state.AbsState.{AbsState}
use Rattle.kc_cert.specs.IterationLimit.{Demand, ForUser, ForContext, ForClobber, ForNode, IsIterationLimit, Table, add, demands, place_order, table_after}
use Rattle.kc_cert.specs.Table.{key_order}
use Rattle.kc_limit.specs.Valid.{IsTable, IsDemand, IsKeyValue, IsMap, IsNodePlace, IsRounds}
use Rattle.kc_limit.proofs.DigitLemmas.{few-contexts, few-nodes}
use Rattle.kc_limit.proofs.KeyLemmas.{key-told, key-total, place-told, place-total}
use Rattle.kc_limit.proofs.LimitLemmas.{round-table}
use Rattle.kc_limit.proofs.MapLemmas.{raised}
use Rattle.kc_limit.proofs.RankLemmas.{potential, raised-falls}
use Rattle.kc_limit.proofs.TableLemmas.{add-plain, add-table, nothing-valid, plain, table}

-- more keys than there are, and more than any rank
module _ (most_contexts most_nodes weight_context weight_node : ℕ)
    (contexts-few : (m : FinMap key_order ClobberSets) → IsMap IsKeyValue IsClobber m → len m ≤ most_contexts)
    (nodes-few : (m : FinMap place_order AbsState) → IsMap IsNodePlace IsState m → len m ≤ most_nodes)
    (context-rank : (c : ClobberSets) → IsClobber c → clobber_rank c ≤ weight_context)
    (node-rank : (s : AbsState) → IsState s → state_rank s ≤ weight_node) where
  abbrev measure : Table → ℕ
  measure t =
      user_rank t.user + potential most_contexts weight_context clobber_rank t.contexts
      + potential most_nodes weight_node state_rank t.nodes

  by-contexts : (t u : Table) (key : Key) (c : ClobberSets) → IsTable t → IsTable u → IsKeyValue key → IsClobber c
      → u ≡ record t { contexts = raised clobber_joined t.contexts key c } → (measure u < measure t) ⊎ (u ≡ t)
  by-contexts t u key c h hu hk hc is =
      let few = contexts-few (raised clobber_joined t.contexts key c)
      (subst (λ (v : Table). IsMap IsKeyValue IsClobber v.contexts) is hu.contexts) in
      ⊎_elim
      (λ lower. inl (subst (λ v. measure v < measure t) (sym is) (omega (arith, lower))))
      (λ same. inr (is ∙ ap (λ (m : FinMap key_order ClobberSets). record t { contexts = m }) same))
      (raised-falls key-total clobber_laws most_contexts weight_context context-rank IsKeyValue key-told t.contexts
      key c h.contexts hk hc
      few)

  by-nodes : (t u : Table) (key : Key) (site : Site) (s : AbsState) → IsTable t → IsTable u → IsNodePlace (key, site)
      → IsState s → u ≡ record t { nodes = raised state_joined t.nodes (key, site) s }
      → (measure u < measure t) ⊎ (u ≡ t)
  by-nodes t u key site s h hu hk hs is =
      let few = nodes-few (raised state_joined t.nodes (key, site) s)
      (subst (λ (v : Table). IsMap IsNodePlace IsState v.nodes) is hu.nodes) in
      ⊎_elim
      (λ lower. inl (subst (λ v. measure v < measure t) (sym is) (omega (arith, lower))))
      (λ same. inr (is ∙ ap (λ (m : FinMap place_order AbsState). record t { nodes = m }) same))
      (raised-falls place-total state_laws most_nodes weight_node node-rank IsNodePlace place-told t.nodes
      (key, site) s h.nodes
      hk hs few)

  plain-falls : (t : Table) (x : Demand) → IsTable t → IsDemand x
      → (measure (add t (plain x)) < measure t) ⊎ (add t (plain x) ≡ t)
  plain-falls t (ForUser u) h hx =
      let vj = user_laws.join_valid t.user u h.user hx tt in
      let up = user_laws.join_left t.user u h.user hx tt in
      let falls : user_rank (user_joined t.user u) ≤ user_rank t.user =
      user_laws.rank_falls t.user (user_joined t.user u) h.user vj up in
      ⊎_elim (λ lower. inl (omega (arith, lower)))
      (λ no. let tied : user_rank t.user ≡ user_rank (user_joined t.user u) = omega (arith, no, falls) in
      let same = user_laws.rank_tied t.user (user_joined t.user u) h.user vj up tied in
      inr (λ i. record { user = sym same i; contexts = t.contexts; nodes = t.nodes }))
      (cases_lt (user_rank (user_joined t.user u)) (user_rank t.user))
  plain-falls t (ForContext key) h hx =
      by-contexts t (add t (plain (ForContext key))) key nothing_written h (table t (ForContext key) h hx) hx
      nothing-valid
      refl
  plain-falls t (ForClobber key c) h hx =
      by-contexts t (add t (plain (ForClobber key c))) key c h (table t (ForClobber key c) h hx) hx.0 hx.1 refl
  plain-falls t (ForNode key site s) h hx =
      by-nodes t (add t (plain (ForNode key site s))) key site s h (table t (ForNode key site s) h hx) hx.0 hx.1 refl

  add-falls : (t : Table) (x : Demand) → IsTable t → IsDemand x → (measure (add t x) < measure t) ⊎ (add t x ≡ t)
  add-falls t x h hx =
      subst (λ u. (measure u < measure t) ⊎ (u ≡ t)) (sym (add-plain t x)) (plain-falls t x h hx)

  all-fall : (t : Table) (xs : List Demand) → IsTable t → All IsDemand xs
      → (measure (fold add t xs) < measure t) ⊎ (fold add t xs ≡ t)
  all-fall t [] h hx = inr refl
  all-fall t (x ∷ xs) h hx =
      let one = All-head IsDemand x xs hx in
      let rest = All-tail IsDemand x xs hx in
      let more = all-fall (add t x) xs (add-table t x h one) rest in
      by (add-falls t x h one) more
    where
      by : (measure (add t x) < measure t) ⊎ (add t x ≡ t)
          → (measure (fold add (add t x) xs) < measure (add t x)) ⊎ (fold add (add t x) xs ≡ add t x)
          → (measure (fold add (add t x) xs) < measure t) ⊎ (fold add (add t x) xs ≡ t)
      by (inl a) (inl b) = inl (omega (arith, a, b))
      by (inl a) (inr b) = inl (subst (λ u. measure u < measure t) (sym b) a)
      by (inr a) (inl b) = inl (subst (λ u. measure (fold add (add t x) xs) < measure u) a b)
      by (inr a) (inr b) = inr (b ∙ a)

  -- from the table of round k on there are fewer than n changes
  reached : (image : Contents) (d : Description) → IsRounds image d → (n k : ℕ) → measure (table_after image d k) < n
      → (t : Table) × IsIterationLimit image d t
  reached image d valid zero k lt = absurd (omega (arith, lt))
  reached image d valid (suc n) k lt =
      ⊎_elim (λ lower. reached image d valid n (suc k) (omega (arith, lower, lt)))
      (λ same. (table_after image d k, (k, refl, same)))
      (all-fall (table_after image d k) (demands image d (table_after image d k)) (round-table image d valid k)
      (valid.demands k))

  pub limit-from : (image : Contents) (d : Description) → IsRounds image d → (t : Table) × IsIterationLimit image d t
  limit-from image d valid =
      reached image d valid (suc (measure (table_after image d 0))) 0 (omega arith)

pub limit-exists : (image : Contents) (d : Description) → IsRounds image d → (t : Table) × IsIterationLimit image d t
limit-exists =
    limit-from ((2 ^ 64) ^ 8) ((2 ^ 64) ^ 10) (2 ^ 40 + 2 ^ 16) (313 * (2 ^ 64 + 2 ^ 17) + 6 + 16 * (2 ^ 64 - 1))
    (few-contexts (2 ^ 64) (le_refl (2 ^ 64))) (few-nodes (2 ^ 64) (le_refl (2 ^ 64))) (λ c h. clobber_rank-le c)
    state_rank-le
