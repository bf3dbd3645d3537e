-- Tables that rise by demands: a table joined with demands is the least one that is above it and has them, so their
-- order and repeats don't matter; what it has already changes nothing; and tables that are below each other are
-- equal. Each part is a map whose values rise by joins, or a value of a domain.
use Rattle.std.proofs.Common.{◌≡◌, ◌==◌, ℕ, true, List, [], ◌∷◌, Option, Some, None, All, IsSome, fold, unwrap_or, refl, sym, ap, subst, arith}
use Rattle.std.proofs.lemmas.Bool.{and_from}
use Rattle.std.proofs.lemmas.List.Elements.{All-nil, All-cons, All-head, All-tail}
use Rattle.std.specs.FinMap.{get, insert}
use Rattle.std.specs.Int.Bits.{and_zero_r, or_zero_r}
use Rattle.kc_frames.specs.Clobber.{IsClobber, clobber_below, clobber_joined, nothing_written}
use Rattle.kc_frames.specs.ClobberLaws.{clobber_laws}
use Rattle.kc_frames.specs.ClobberSets.{ClobberSets}
use Rattle.kc_state.specs.StateLaws.{state_laws}
use Rattle.kc_state.specs.UserLaws.{user_laws}
use Rattle.kc_cert.specs.IterationLimit.{Demand, ForUser, ForContext, ForClobber, ForNode, Table, add, also}
use Rattle.kc_limit.specs.Order.{IsBelow, IsPartBelow, Holds}
use Rattle.kc_limit.specs.Valid.{IsTable, IsDemand, IsKeyValue, IsNodePlace}
use Rattle.kc_limit.proofs.KeyLemmas.{key-told, key-total, place-told, place-total}
use Rattle.kc_limit.proofs.MapLemmas.{map-antisym, map-refl, map-trans, raised-above, raised-has, raised-least, raised-map}
use Rattle.kc_limit.proofs.PartLemmas.{part-trans}

-- ---- a context that is there may write nothing

pub nothing-valid : IsClobber nothing_written
nothing-valid = record { stacks_fit = omega arith; words_fit = omega arith }

no-more : (c : ClobberSets) → clobber_joined c nothing_written ≡ c
no-more c =
    let stacks = or_zero_r c.stacks in
    let words = or_zero_r c.words in
    λ i. record { stacks = stacks i; words = words i }

nothing-joined : (p : Option ClobberSets) → unwrap_or p nothing_written ≡ also clobber_joined p nothing_written
nothing-joined None = refl
nothing-joined (Some c) = sym (no-more c)

nothing-below : (c : ClobberSets) → clobber_below nothing_written c ≡ true
nothing-below c =
    let stacks = and_zero_r c.stacks in
    let words = and_zero_r c.words in
    and_from _ _ (ap (λ (n : ℕ). n == 0) stacks) (ap (λ (n : ℕ). n == 0) words)

is-there : (p : Option ClobberSets) → IsSome p → IsPartBelow clobber_below (Some nothing_written) p
is-there None h = absurd cc
is-there (Some c) h = nothing-below c

there-is : (p : Option ClobberSets) → IsPartBelow clobber_below (Some nothing_written) p → IsSome p
there-is None h = absurd h
there-is (Some c) h = refl

-- a context is demanded as one that writes nothing
abbrev pub plain : Demand → Demand
plain (ForUser u) = ForUser u
plain (ForContext key) = ForClobber key nothing_written
plain (ForClobber key c) = ForClobber key c
plain (ForNode key site s) = ForNode key site s

pub add-plain : (t : Table) (x : Demand) → add t x ≡ add t (plain x)
add-plain t (ForUser u) = refl
add-plain t (ForContext key) =
    ap (λ (c : ClobberSets). record t { contexts = insert t.contexts key c }) (nothing-joined (get t.contexts key))
add-plain t (ForClobber key c) = refl
add-plain t (ForNode key site s) = refl

-- ---- the order

pub below-refl : (t : Table) → IsTable t → IsBelow t t
below-refl t h = record {
  user = user_laws.below_refl t.user h.user;
  contexts = map-refl key-total clobber_laws t.contexts h.contexts.values;
  nodes = map-refl place-total state_laws t.nodes h.nodes.values;
}

pub below-trans : (t u v : Table) → IsTable t → IsTable u → IsTable v → IsBelow t u → IsBelow u v → IsBelow t v
below-trans t u v ht hu hv a b = record {
  user = user_laws.below_trans t.user u.user v.user ht.user hu.user hv.user a.user b.user;
  contexts = map-trans key-total clobber_laws t.contexts u.contexts v.contexts ht.contexts.values hu.contexts.values
      hv.contexts.values a.contexts b.contexts;
  nodes = map-trans place-total state_laws t.nodes u.nodes v.nodes ht.nodes.values hu.nodes.values hv.nodes.values
      a.nodes b.nodes;
}

pub below-antisym : (t u : Table) → IsTable t → IsTable u → IsBelow t u → IsBelow u t → t ≡ u
below-antisym t u ht hu a b =
    let user = user_laws.below_antisym t.user u.user ht.user hu.user a.user b.user in
    let contexts = map-antisym key-total clobber_laws IsKeyValue key-told t.contexts u.contexts ht.contexts hu.contexts
    a.contexts b.contexts in
    let nodes = map-antisym place-total state_laws IsNodePlace place-told t.nodes u.nodes ht.nodes hu.nodes a.nodes
    b.nodes
    in
    λ i. record { user = user i; contexts = contexts i; nodes = nodes i }

pub holds-up : (t u : Table) (x : Demand) → IsTable t → IsTable u → IsDemand x → Holds t x → IsBelow t u → Holds u x
holds-up t u (ForUser v) ht hu hx h b = user_laws.below_trans v t.user u.user hx ht.user hu.user h b.user
holds-up t u (ForContext key) ht hu hx h b =
    there-is (get u.contexts key)
    (part-trans clobber_laws (Some nothing_written) (get t.contexts key) (get u.contexts key) nothing-valid
    (ht.contexts.values key) (hu.contexts.values key) (is-there (get t.contexts key) h) (b.contexts key))
holds-up t u (ForClobber key c) ht hu hx h b =
    part-trans clobber_laws (Some c) (get t.contexts key) (get u.contexts key) hx.1 (ht.contexts.values key)
    (hu.contexts.values key) h (b.contexts key)
holds-up t u (ForNode key site s) ht hu hx h b =
    part-trans state_laws (Some s) (get t.nodes (key, site)) (get u.nodes (key, site)) hx.1
    (ht.nodes.values (key, site)) (hu.nodes.values (key, site)) h (b.nodes (key, site))

-- ---- a demand joined in, where a context is demanded as one that writes nothing

there-plain : (t : Table) (x : Demand) → Holds t x → Holds t (plain x)
there-plain t (ForUser u) h = h
there-plain t (ForContext key) h = is-there (get t.contexts key) h
there-plain t (ForClobber key c) h = h
there-plain t (ForNode key site s) h = h

plain-there : (t : Table) (x : Demand) → Holds t (plain x) → Holds t x
plain-there t (ForUser u) h = h
plain-there t (ForContext key) h = there-is (get t.contexts key) h
plain-there t (ForClobber key c) h = h
plain-there t (ForNode key site s) h = h

above : (t : Table) (x : Demand) → IsTable t → IsDemand x → IsBelow t (add t (plain x))
above t (ForUser u) h hx =
    let same = below-refl t h in
    record { user = user_laws.join_left t.user u h.user hx tt; contexts = same.contexts; nodes = same.nodes }
above t (ForContext key) h hx = record {
  user = (below-refl t h).user;
  nodes = (below-refl t h).nodes;
  contexts = raised-above key-total clobber_laws t.contexts key nothing_written h.contexts.values nothing-valid;
}
above t (ForClobber key c) h hx = record {
  user = (below-refl t h).user;
  nodes = (below-refl t h).nodes;
  contexts = raised-above key-total clobber_laws t.contexts key c h.contexts.values hx.1;
}
above t (ForNode key site s) h hx = record {
  user = (below-refl t h).user;
  contexts = (below-refl t h).contexts;
  nodes = raised-above place-total state_laws t.nodes (key, site) s h.nodes.values hx.1;
}

has : (t : Table) (x : Demand) → IsTable t → IsDemand x → Holds (add t (plain x)) (plain x)
has t (ForUser u) h hx = user_laws.join_right t.user u h.user hx tt
has t (ForContext key) h hx =
    raised-has key-total clobber_laws t.contexts key nothing_written h.contexts.values nothing-valid
has t (ForClobber key c) h hx = raised-has key-total clobber_laws t.contexts key c h.contexts.values hx.1
has t (ForNode key site s) h hx = raised-has place-total state_laws t.nodes (key, site) s h.nodes.values hx.1

pub table : (t : Table) (x : Demand) → IsTable t → IsDemand x → IsTable (add t (plain x))
table t (ForUser u) h hx = record {
  user = user_laws.join_valid t.user u h.user hx tt;
  contexts = h.contexts;
  nodes = h.nodes;
}
table t (ForContext key) h hx = record {
  user = h.user;
  nodes = h.nodes;
  contexts = raised-map key-total clobber_laws IsKeyValue key-told t.contexts key nothing_written h.contexts hx
      nothing-valid;
}
table t (ForClobber key c) h hx = record {
  user = h.user;
  nodes = h.nodes;
  contexts = raised-map key-total clobber_laws IsKeyValue key-told t.contexts key c h.contexts hx.0 hx.1;
}
table t (ForNode key site s) h hx = record {
  user = h.user;
  contexts = h.contexts;
  nodes = raised-map place-total state_laws IsNodePlace place-told t.nodes (key, site) s h.nodes hx.0 hx.1;
}

least : (t u : Table) (x : Demand) → IsTable t → IsTable u → IsDemand x → IsBelow t u → Holds u (plain x)
    → IsBelow (add t (plain x)) u
least t u (ForUser v) ht hu hx b k = record {
  contexts = b.contexts;
  nodes = b.nodes;
  user = user_laws.join_least t.user v u.user ht.user hx hu.user tt b.user k;
}
least t u (ForContext key) ht hu hx b k = record {
  user = b.user;
  nodes = b.nodes;
  contexts = raised-least key-total clobber_laws t.contexts u.contexts key nothing_written ht.contexts.values
      hu.contexts.values nothing-valid b.contexts k;
}
least t u (ForClobber key c) ht hu hx b k = record {
  user = b.user;
  nodes = b.nodes;
  contexts = raised-least key-total clobber_laws t.contexts u.contexts key c ht.contexts.values hu.contexts.values hx.1
      b.contexts k;
}
least t u (ForNode key site s) ht hu hx b k = record {
  user = b.user;
  contexts = b.contexts;
  nodes = raised-least place-total state_laws t.nodes u.nodes (key, site) s ht.nodes.values hu.nodes.values hx.1 b.nodes
      k;
}

-- ---- the same of the demand itself

pub add-above : (t : Table) (x : Demand) → IsTable t → IsDemand x → IsBelow t (add t x)
add-above t x h hx = subst (IsBelow t) (sym (add-plain t x)) (above t x h hx)

pub add-holds : (t : Table) (x : Demand) → IsTable t → IsDemand x → Holds (add t x) x
add-holds t x h hx = subst (λ u. Holds u x) (sym (add-plain t x)) (plain-there (add t (plain x)) x (has t x h hx))

pub add-table : (t : Table) (x : Demand) → IsTable t → IsDemand x → IsTable (add t x)
add-table t x h hx = subst IsTable (sym (add-plain t x)) (table t x h hx)

pub add-least : (t u : Table) (x : Demand) → IsTable t → IsTable u → IsDemand x → IsBelow t u → Holds u x
    → IsBelow (add t x) u
add-least t u x ht hu hx b k =
    subst (λ v. IsBelow v u) (sym (add-plain t x)) (least t u x ht hu hx b (there-plain u x k))

-- ---- many demands joined in

pub all-table : (t : Table) (xs : List Demand) → IsTable t → All IsDemand xs → IsTable (fold add t xs)
all-table t [] h hx = h
all-table t (x ∷ xs) h hx =
    all-table (add t x) xs (add-table t x h (All-head IsDemand x xs hx)) (All-tail IsDemand x xs hx)

pub all-above : (t : Table) (xs : List Demand) → IsTable t → All IsDemand xs → IsBelow t (fold add t xs)
all-above t [] h hx = below-refl t h
all-above t (x ∷ xs) h hx =
    let one = All-head IsDemand x xs hx in
    let rest = All-tail IsDemand x xs hx in
    let more = add-table t x h one in
    below-trans t (add t x) (fold add (add t x) xs) h more (all-table (add t x) xs more rest) (add-above t x h one)
    (all-above (add t x) xs more rest)

pub all-hold : (t : Table) (xs : List Demand) → IsTable t → All IsDemand xs → All (Holds (fold add t xs)) xs
all-hold t [] h hx = All-nil (Holds t)
all-hold t (x ∷ xs) h hx =
    let one = All-head IsDemand x xs hx in
    let rest = All-tail IsDemand x xs hx in
    let more = add-table t x h one in
    let all = fold add (add t x) xs in
    All-cons (Holds all) x xs
    (holds-up (add t x) all x more (all-table (add t x) xs more rest) one (add-holds t x h one)
    (all-above (add t x) xs more rest))
    (all-hold (add t x) xs more rest)

pub all-least : (t u : Table) (xs : List Demand) → IsTable t → IsTable u → All IsDemand xs → IsBelow t u
    → All (Holds u) xs → IsBelow (fold add t xs) u
all-least t u [] ht hu hx b k = b
all-least t u (x ∷ xs) ht hu hx b k =
    let one = All-head IsDemand x xs hx in
    all-least (add t x) u xs (add-table t x ht one) hu (All-tail IsDemand x xs hx)
    (add-least t u x ht hu one b (All-head (Holds u) x xs k)) (All-tail (Holds u) x xs k)

-- demands that the table has change nothing
pub all-same : (t : Table) (xs : List Demand) → IsTable t → All IsDemand xs → All (Holds t) xs → fold add t xs ≡ t
all-same t xs h hx k =
    below-antisym (fold add t xs) t (all-table t xs h hx) h (all-least t t xs h h hx (below-refl t h) k)
    (all-above t xs h hx)

-- two lists of demands lead to one table, where each holds in what the other leads to
pub all-equal : (t : Table) (xs ys : List Demand) → IsTable t → All IsDemand xs → All IsDemand ys
    → All (Holds (fold add t ys)) xs → All (Holds (fold add t xs)) ys → fold add t xs ≡ fold add t ys
all-equal t xs ys h hx hy kx ky =
    let one = all-table t xs h hx in
    let other = all-table t ys h hy in
    below-antisym (fold add t xs) (fold add t ys) one other
    (all-least t (fold add t ys) xs h other hx (all-above t ys h hy) kx)
    (all-least t (fold add t xs) ys h one hy (all-above t xs h hx) ky)
