-- The first refusal: the conditions in the order in which they are asked, each with its place. This project's own.
use Rattle.std.specs.Prelude.{◌≡◌, ◌≢◌, ◌⊎◌, ℕ, suc, Bool, true, false, not, ◌&&◌, List, [], ◌∷◌, Option, Some, None, Result, Ok, Err}
use Rattle.std.specs.List.{list_all}
use Rattle.kc_image.specs.Image.{Contents}
use Rattle.kc_insn.specs.declared.insn.Insn.{Insn}
use Rattle.kc_regions.specs.Description.{Description}
use Rattle.kc_rules.specs.Rules.{refuse, ◌>>=◌}
use Rattle.kc_state.specs.AbsEffect.{moment_of}
use Rattle.kc_state.specs.AbsStep.{condition, conditions}
use Rattle.kc_state.specs.Conditions.{is_exact}
use Rattle.kc_state.specs.declared.condition.Condition.{Condition}
use Rattle.kc_cert.specs.Certified.{placed}
use Rattle.kc_cert.specs.Code.{insn_at}
use Rattle.kc_cert.specs.Conditions.{are_successors_covered, is_event_counted, is_event_covered, is_home_counted, is_node_counted, is_return_covered, is_start_covered, is_text, is_user_covered, is_user_event_covered}
use Rattle.kc_cert.specs.Form.{HasForm}
use Rattle.kc_cert.specs.Placed.{Placed, change, events_of, moment, user_vectors}
use Rattle.kc_cert.specs.Table.{nodes_of}
use Rattle.kc_cert.specs.declared.certificate.Certificate.{Certificate}
use Rattle.kc_cert.specs.declared.certificate.Context.{Context}
use Rattle.kc_cert.specs.declared.certificate.Digests.{Digests}
use Rattle.kc_cert.specs.declared.certificate.Node.{Node}
use Rattle.kc_cert.specs.declared.refusal.Event.{Event}
use Rattle.kc_cert.specs.declared.refusal.Event.TheVariants.{Vector, Syscall}
use Rattle.kc_cert.specs.declared.refusal.Refusal.{Refusal}
use Rattle.kc_cert.specs.declared.refusal.Spot.{Spot}
use Rattle.kc_cert.specs.declared.refusal.Spot.TheVariants as spot

-- ---- refusals by place

abbrev pub at_table : ℕ → Refusal
at_table k = record { condition = condition k; spot = spot.Table; event = None }

abbrev pub at_user : Event → Refusal
at_user event = record { condition = condition 14; spot = spot.User; event = Some event }

abbrev pub at_context : ℕ → ℕ → Refusal
at_context i k = record { condition = condition k; spot = spot.Context i; event = None }

abbrev pub at_node : Node → Condition → Refusal
at_node n k = record { condition = k; spot = spot.Node n.context n.site; event = None }

abbrev pub at_event : Node → ℕ → ℕ → Refusal
at_event n k v = record { condition = condition k; spot = spot.Node n.context n.site; event = Some (Vector v) }

-- ---- conditions in a row

-- the first refusal among those of the items in their order
unfoldable pub each : {A E : Type 0} → (A → Result (Unit {0}) E) → List A → Result (Unit {0}) E
each ask [] = Ok tt
each ask (item ∷ more) = do
  ok ← ask item
  each ask more

-- the same of items and their numbers, counted from i
unfoldable pub each_from : {A E : Type 0} → (ℕ → A → Result (Unit {0}) E) → ℕ → List A → Result (Unit {0}) E
each_from ask i [] = Ok tt
each_from ask i (item ∷ more) = do
  ok ← ask i item
  each_from ask (suc i) more

abbrev pub demand : {E : Type 0} → Bool → E → Result (Unit {0}) E
demand holds refusal = refuse (not holds) refusal

-- ---- at a node

abbrev pub placed_at : Node → Result (Unit {0}) Condition → Result (Unit {0}) Refusal
placed_at n (Ok u) = Ok u
placed_at n (Err k) = Err (at_node n k)

abbrev pub body_or : Bool → Result (Unit {0}) Condition → Result (Unit {0}) Condition
body_or true asked = Ok tt
body_or false asked = asked

-- C6 to C12, where C4 holds; the body of a handler has none of them
abbrev pub insn_conditions : Description → Placed → Result (Unit {0}) Condition
insn_conditions d p = body_or p.site.inside (conditions (moment d p) p.state p.insn (change d p))

abbrev pub placed_refusal : Contents → Description → Certificate → Context → Node → Placed → Result (Unit {0}) Refusal
placed_refusal image d cert c n p = do
  ok ← demand (is_text d p) (at_node n (condition 5))
  ok ← placed_at n (insn_conditions d p)
  ok ← demand (are_successors_covered d cert n.context p) (at_node n (condition 13))
  ok ← each (λ v. demand (is_event_covered d cert p v) (at_event n 14 v)) (events_of d p)
  ok ← each (λ v. demand (is_return_covered image d cert p v) (at_event n 15 v)) (events_of d p)
  each (λ v. demand (is_event_counted image d cert c.summary.clobber p v) (at_event n 16 v)) (events_of d p)

abbrev pub decoded_refusal : Contents → Description → Certificate → Context → Node → Option (Insn × ℕ)
    → Result (Unit {0}) Refusal
decoded_refusal image d cert c n (Some x) = placed_refusal image d cert c n (placed c n x)
decoded_refusal image d cert c n None = Err (at_node n (condition 5))

abbrev pub node_refusal : Contents → Description → Certificate → Context → Node → Result (Unit {0}) Refusal
node_refusal image d cert c n = do
  ok ← demand (is_exact (moment_of d c.key n.state 0) n.site.inside) (at_node n (condition 4))
  decoded_refusal image d cert c n (insn_at image n.site.at)

-- ---- at a context

-- what holds of a node at whose site there is an instruction
abbrev pub of_insn : (Placed → Bool) → Context → Node → Option (Insn × ℕ) → Bool
of_insn test c n (Some x) = test (placed c n x)
of_insn test c n None = true

abbrev pub of_nodes : Contents → (Placed → Bool) → Context → List Node → Bool
of_nodes image test c nodes = list_all (λ n. of_insn test c n (insn_at image n.site.at)) nodes

abbrev pub context_refusal : Contents → Description → Certificate → ℕ → Context → Result (Unit {0}) Refusal
context_refusal image d cert i c = do
  ok ← each (node_refusal image d cert c) (nodes_of cert i)
  ok ← demand (is_home_counted d c && of_nodes image (is_node_counted d c.summary) c (nodes_of cert i)) (at_context i 16)
  demand (of_nodes image (is_user_covered cert) c (nodes_of cert i)) (at_context i 17)

-- ---- the whole

-- C3 and all that follows
abbrev pub refusal_from_start : Contents → Description → Certificate → Result (Unit {0}) Refusal
refusal_from_start image d cert = do
  ok ← demand (is_start_covered d cert) (at_table 3)
  ok ← each (λ v. demand (is_user_event_covered d cert (Some v)) (at_user (Vector v))) (user_vectors d cert.user)
  ok ← demand (is_user_event_covered d cert None) (at_user Syscall)
  each_from (context_refusal image d cert) 0 cert.contexts

-- the refusal is the first: C1 fails, or C1 holds and C2 fails, or both hold and it is the first of those that follow
abbrev pub IsFirstRefusal : Contents → Description → Digests → Certificate → Refusal → Type 0
IsFirstRefusal image d digests cert r =
    ((cert.digests ≢ digests) × (r ≡ at_table 1))
    ⊎ (((cert.digests ≡ digests) × ¬ (HasForm d cert) × (r ≡ at_table 2))
    ⊎ ((cert.digests ≡ digests) × HasForm d cert × (refusal_from_start image d cert ≡ Err r)))

-- no condition is refused
abbrev pub IsUnrefused : Contents → Description → Digests → Certificate → Type 0
IsUnrefused image d digests cert =
    (cert.digests ≡ digests) × HasForm d cert × (refusal_from_start image d cert ≡ Ok tt)
