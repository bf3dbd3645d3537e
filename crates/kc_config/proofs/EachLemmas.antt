-- Arrays of tables. What was read of the tables so far, and what the tables left add to it, is what all tables give:
-- one turn moves a table over, by the list's next element, and a fault of one table is a fault of all.
use Rattle.std.proofs.Common.{◌≡◌, ℕ, ◌+◌, ◌<◌, ◌≤◌, List, [], ◌∷◌, ◌++◌, length, get_or, drop, map, Result, Ok, Err, ◌⊎◌, inl, inr, Bor, BTreeMap, String, Global, refl, ap, sym, ◌∙◌}
use Rattle.std.proofs.lemmas.List.{drop_more, drop_all, length-append}
use Rattle.toml.specs.Data.{Members}
use Rattle.toml.specs.View.{table_view}
use Rattle.toml.specs.declared.value.Value.{Value}
use Rattle.kc_rules.specs.Rules.{over}
use Rattle.kc_config.specs.declared.fault.ConfigFault.{ConfigFault}
use Rattle.kc_config.specs.declared.path.Place.{Place}
use Rattle.kc_config.specs.Faults.{no_memory}
use Rattle.kc_config.specs.Keys.{Section}
use Rattle.kc_config.specs.Reading.{section, add_table}
use Rattle.kc_config.specs.Seen.{tables_of}

over_next : {A P E : Type 0} (add : A → P → Result A E) (gathered more : A) (item : P) (items : List P)
    → add gathered item ≡ Ok more → over add gathered (item ∷ items) ≡ over add more items
unfolding over
over_next add gathered more item items e = rw e refl

over_fault : {A P E : Type 0} (add : A → P → Result A E) (gathered : A) (fault : E) (item : P) (items : List P)
    → add gathered item ≡ Err fault → over add gathered (item ∷ items) ≡ Err fault
unfolding over
over_fault add gathered fault item items e = rw e refl

over_end : {A P E : Type 0} (add : A → P → Result A E) (gathered : A) → over add gathered [] ≡ Ok gathered
unfolding over
over_end add gathered = refl

-- the tables are seen through a view of what the code holds
pub over_more : {X A P E : Type 0} (add : A → P → Result A E) (view : X → P) (xs : List X) (i : ℕ) (x : X)
    (gathered more : A) (due : Result A E)
    → i < length xs → x ≡ get_or xs i x → add gathered (view x) ≡ Ok more
    → over add gathered (map view (drop i xs)) ≡ due → over add more (map view (drop (i + 1) xs)) ≡ due
over_more add view xs i x gathered more due within is here so_far =
    let next : drop i xs ≡ x ∷ drop (i + 1) xs = drop_more xs i x within ∙ ap (λ y. y ∷ drop (i + 1) xs) (sym is) in
    sym (over_next add gathered more (view x) (map view (drop (i + 1) xs)) here)
    ∙ ap (λ ys. over add gathered (map view ys)) (sym next) ∙ so_far

pub over_stops : {X A P E : Type 0} (add : A → P → Result A E) (view : X → P) (xs : List X) (i : ℕ) (x : X)
    (gathered : A) (fault : E) (due : Result A E)
    → i < length xs → x ≡ get_or xs i x → add gathered (view x) ≡ Err fault
    → over add gathered (map view (drop i xs)) ≡ due → due ≡ Err fault
over_stops add view xs i x gathered fault due within is here so_far =
    let next : drop i xs ≡ x ∷ drop (i + 1) xs = drop_more xs i x within ∙ ap (λ y. y ∷ drop (i + 1) xs) (sym is) in
    sym so_far ∙ ap (λ ys. over add gathered (map view ys)) next ∙ over_fault add gathered fault (view x)
    (map view (drop (i + 1) xs)) here

pub over_done : {X A P E : Type 0} (add : A → P → Result A E) (view : X → P) (xs : List X) (i : ℕ) (gathered : A)
    (due : Result A E)
    → length xs ≤ i → over add gathered (map view (drop i xs)) ≡ due → due ≡ Ok gathered
over_done add view xs i gathered due end so_far =
    sym so_far ∙ ap (λ ys. over add gathered (map view ys)) (drop_all i xs end) ∙ over_end add gathered

-- the same of what each table gives at its place
abbrev pub members_now : Bor (BTreeMap (String Global) Value) → Members
members_now t = table_view t.now

added : {A : Type 0} (read : Section → Result A ConfigFault) (place : ℕ → Place) (symbols : List (List ℕ × ℕ))
    (i : ℕ) (earlier : List A) (m : Members) (y : A)
    → length earlier ≡ i → read (section symbols (place i) m) ≡ Ok y → add_table read place symbols earlier m
    ≡ Ok (earlier ++ y ∷ [])
added read place symbols i earlier m y count here = rw (count, here) refl

not_added : {A : Type 0} (read : Section → Result A ConfigFault) (place : ℕ → Place) (symbols : List (List ℕ × ℕ))
    (i : ℕ) (earlier : List A) (m : Members) (fault : ConfigFault)
    → length earlier ≡ i → read (section symbols (place i) m) ≡ Err fault → add_table read place symbols earlier m
    ≡ Err fault
not_added read place symbols i earlier m fault count here = rw (count, here) refl

pub each_more : {A : Type 0} (read : Section → Result A ConfigFault) (place : ℕ → Place) (symbols : List (List ℕ × ℕ))
    (xs : List (Bor (BTreeMap (String Global) Value))) (i : ℕ) (x : Bor (BTreeMap (String Global) Value))
    (earlier new : List A) (y : A) (due : Result (List A) ConfigFault)
    → i < length xs → x ≡ get_or xs i x → length earlier ≡ i → read (section symbols (place i) (members_now x)) ≡ Ok y
    → new ≡ earlier ++ y ∷ []
    → over (add_table read place symbols) earlier (tables_of (drop i xs)) ≡ due
    → over (add_table read place symbols) new (tables_of (drop (i + 1) xs)) ≡ due
each_more read place symbols xs i x earlier new y due within is count here pushed so_far =
    over_more (add_table read place symbols) members_now xs i x earlier new due within is
    (added read place symbols i earlier (members_now x) y count here ∙ ap Ok (sym pushed)) so_far

pub each_stops : {A : Type 0} (read : Section → Result A ConfigFault) (place : ℕ → Place) (symbols : List (List ℕ × ℕ))
    (xs : List (Bor (BTreeMap (String Global) Value))) (i : ℕ) (x : Bor (BTreeMap (String Global) Value))
    (earlier : List A) (fault : ConfigFault) (due : Result (List A) ConfigFault)
    → i < length xs → x ≡ get_or xs i x → length earlier ≡ i
    → (fault ≡ no_memory) ⊎ (read (section symbols (place i) (members_now x)) ≡ Err fault)
    → over (add_table read place symbols) earlier (tables_of (drop i xs)) ≡ due → (fault ≡ no_memory)
    ⊎ (due ≡ Err fault)
each_stops read place symbols xs i x earlier fault due within is count (inl memory) so_far = inl memory
each_stops read place symbols xs i x earlier fault due within is count (inr here) so_far =
    inr (over_stops (add_table read place symbols) members_now xs i x earlier fault due within is
    (not_added read place symbols i earlier (members_now x) fault count here) so_far)

pub one_longer : {A : Type 0} (old new : List A) (y : A) (i : ℕ) → new ≡ old ++ y ∷ [] → length old ≡ i
    → length new ≡ i + 1
one_longer old new y i pushed count = ap length pushed ∙ length-append old (y ∷ []) ∙ ap (λ n. n + 1) count
