-- The rules of a node in their order, and those of a context: what was answered at each of them decides, by the laws of
-- rules in a row. A successor's state is asked of where there is a successor: by cases on the sites.
use Rattle.std.proofs.Common.{◌≡◌, ℕ, Bool, true, false, ◌&&◌, List, [], ◌∷◌, Option, Some, None, Result, Ok, Err, refl, sym, ap, ◌∙◌}
use Rattle.std.specs.List.{list_all}
use Rattle.std.specs.Prelude.{option_map}
use Rattle.kc_image.specs.Image.{Contents}
use Rattle.kc_insn.specs.declared.insn.Insn.{Insn}
use Rattle.kc_regions.specs.Description.{Description}
use Rattle.kc_rules.proofs.AnswerLemmas.{some_is}
use Rattle.kc_rules.specs.Rules.{◌>>=◌}
use Rattle.kc_state.specs.AbsEffect.{moment_of}
use Rattle.kc_state.specs.AbsStep.{condition}
use Rattle.kc_state.specs.Conditions.{is_exact}
use Rattle.kc_state.specs.declared.condition.Condition.{Condition}
use Rattle.kc_state.specs.declared.site.Site.{Site}
use Rattle.kc_state.specs.declared.state.AbsState.{AbsState}
use Rattle.kc_state.specs.declared.succ.Succ.{Succ}
use Rattle.kc_cert.specs.Certified.{placed}
use Rattle.kc_cert.specs.Code.{insn_at}
use Rattle.kc_cert.specs.Conditions.{are_covered, are_successors_covered, is_home_counted, is_node_counted, is_text, is_user_covered}
use Rattle.kc_cert.specs.FirstRefusal.{at_context, at_node, context_refusal, decoded_refusal, demand, each, insn_conditions, node_refusal, of_nodes, placed_at, placed_refusal}
use Rattle.kc_cert.specs.Placed.{Placed, Successors, sites_after}
use Rattle.kc_cert.specs.Table.{covers, nodes_of}
use Rattle.kc_cert.specs.declared.certificate.Certificate.{Certificate}
use Rattle.kc_cert.specs.declared.certificate.Context.{Context}
use Rattle.kc_cert.specs.declared.certificate.Node.{Node}
use Rattle.kc_cert.specs.declared.refusal.Refusal.{Refusal}
use Rattle.kc_placed.specs.Goes.{AreKnown}
use Rattle.kc_check.proofs.EachLemmas.{row-passed, row-refused}
use Rattle.kc_check.specs.Events.{events_refusal}

abbrev Answer : Type 0
Answer = Result (Unit {0}) Refusal

-- what is known at each of these sites is covered where it is at the successors
pub known-covered : (cert : Certificate) (i : ℕ) (next : Successors) (at : List Site) (s : AbsState) → AreKnown next at s
    → are_covered cert i (record { sites = at; state = s }) ≡ are_covered cert i next
known-covered cert i next [] s known =
    ap (λ (l : List Site). list_all (λ (x : Site). covers cert i x next.state) l) known.sites
known-covered cert i next (x ∷ at) s known =
    ap (λ (t : AbsState). list_all (λ (y : Site). covers cert i y t) (x ∷ at)) (known.state (λ e. absurd cc))
    ∙ ap (λ (l : List Site). list_all (λ (y : Site). covers cert i y next.state) l) known.sites

-- ---- one or two successors, at each of which s is known

and-true : (t : Bool) → (t && true) ≡ t
and-true true = refl
and-true false = refl

module _ (cert : Certificate) (i : ℕ) (s : AbsState) (p : Placed) (succ : Succ) where
  abbrev all : Bool
  all = are_covered cert i (record { sites = sites_after p succ; state = s })

  at-sites : (l : List Site) → sites_after p succ ≡ l → list_all (λ (y : Site). covers cert i y s) l ≡ all
  at-sites l at = sym (ap (λ (k : List Site). list_all (λ (y : Site). covers cert i y s) k) at)

  pub one-site : (b : Bool) (x : Site) → sites_after p succ ≡ x ∷ [] → b ≡ covers cert i x s → b ≡ all
  one-site b x at is = is ∙ sym (and-true (covers cert i x s)) ∙ at-sites (x ∷ []) at

  module _ (a : Bool) (x y : Site) (at : sites_after p succ ≡ x ∷ y ∷ []) (is : a ≡ covers cert i x s) where
    pub two-sites : (b : Bool) → a ≡ true → b ≡ covers cert i y s → b ≡ all
    two-sites b holds so =
        so ∙ sym (and-true (covers cert i y s))
        ∙ sym (ap (λ (t : Bool). t && (covers cert i y s && true)) (sym is ∙ holds))
        ∙ at-sites (x ∷ y ∷ []) at

    pub first-fails : a ≡ false → a ≡ all
    first-fails fails =
        fails ∙ sym (ap (λ (t : Bool). t && (covers cert i y s && true)) (sym is ∙ fails)) ∙ at-sites (x ∷ y ∷ []) at

-- ---- a node with its instruction

module _ (image : Contents) (d : Description) (cert : Certificate) (c : Context) (n : Node) (p : Placed) where
  abbrev text : Answer
  text = demand (is_text d p) (at_node n (condition 5))

  abbrev insn : Answer
  insn = placed_at n (insn_conditions d p)

  abbrev covered : Answer
  covered = demand (are_successors_covered d cert n.context p) (at_node n (condition 13))

  abbrev events : Answer
  events = events_refusal image d cert c n p

  module _ (answer : Answer) (is : answer ≡ text) where
    pub text-refused : (e : Refusal) → answer ≡ Err e → Err e ≡ placed_refusal image d cert c n p
    text-refused e refused = row-refused text (insn >>= λ ok. (covered >>= λ ok. events)) answer is e refused

    pub insn-refused : answer ≡ Ok tt → (k : Condition) → insn_conditions d p ≡ Err k → (r : Refusal) → r ≡ at_node n k
        → Err r ≡ placed_refusal image d cert c n p
    insn-refused passed k refused r at =
        row-passed text (insn >>= λ ok. (covered >>= λ ok. events)) answer is (Err r) passed
        (ap (λ (x : Refusal). Err x) at
        ∙ row-refused insn (covered >>= λ ok. events) insn refl (at_node n k) (ap (placed_at n) refused))

    module _ (passed : answer ≡ Ok tt) (met : insn_conditions d p ≡ Ok tt) (second : Answer) (so : second ≡ covered) where
      pub covered-refused : (e : Refusal) → second ≡ Err e → Err e ≡ placed_refusal image d cert c n p
      covered-refused e refused =
          row-passed text (insn >>= λ ok. (covered >>= λ ok. events)) answer is (Err e) passed
          (row-passed insn (covered >>= λ ok. events) insn refl (Err e) (ap (placed_at n) met)
          (row-refused covered events second so e refused))

      pub events-decide : (last : Answer) → second ≡ Ok tt → last ≡ events → last ≡ placed_refusal image d cert c n p
      events-decide last covers_all decides =
          row-passed text (insn >>= λ ok. (covered >>= λ ok. events)) answer is last passed
          (row-passed insn (covered >>= λ ok. events) insn refl last (ap (placed_at n) met)
          (row-passed covered events second so last covers_all decides))

-- ---- a node

module _ (image : Contents) (d : Description) (cert : Certificate) (c : Context) (n : Node) (answer : Answer)
    (is : answer ≡ demand (is_exact (moment_of d c.key n.state 0) n.site.inside) (at_node n (condition 4))) where
  abbrev exact : Answer
  exact = demand (is_exact (moment_of d c.key n.state 0) n.site.inside) (at_node n (condition 4))

  abbrev decoded : Answer
  decoded = decoded_refusal image d cert c n (insn_at image n.site.at)

  pub exact-refused : (e : Refusal) → answer ≡ Err e → Err e ≡ node_refusal image d cert c n
  exact-refused e refused = row-refused exact decoded answer is e refused

  pub placed-decides : answer ≡ Ok tt → (p : Placed) → Some p ≡ option_map (placed c n) (insn_at image n.site.at)
      → (last : Answer) → last ≡ placed_refusal image d cert c n p → last ≡ node_refusal image d cert c n
  placed-decides passed p there last decides =
      row-passed exact decoded answer is last passed (decides ∙ of (insn_at image n.site.at) there)
    where
      of : (x : Option (Insn × ℕ)) → Some p ≡ option_map (placed c n) x
          → placed_refusal image d cert c n p ≡ decoded_refusal image d cert c n x
      of (Some x) h = ap (λ (q : Placed). placed_refusal image d cert c n q) (some_is p (placed c n x) h)
      of None h = absurd cc

  pub none-decides : answer ≡ Ok tt → None ≡ option_map (placed c n) (insn_at image n.site.at) → (r : Refusal)
      → r ≡ at_node n (condition 5) → Err r ≡ node_refusal image d cert c n
  none-decides passed none r at =
      row-passed exact decoded answer is (Err r) passed (ap (λ (x : Refusal). Err x) at ∙ of (insn_at image n.site.at) none)
    where
      of : (x : Option (Insn × ℕ)) → None ≡ option_map (placed c n) x
          → Err (at_node n (condition 5)) ≡ decoded_refusal image d cert c n x
      of (Some x) h = absurd cc
      of None h = refl

-- ---- a context

module _ (image : Contents) (d : Description) (cert : Certificate) (i : ℕ) (c : Context) (answer : Answer)
    (is : answer ≡ each (node_refusal image d cert c) (nodes_of cert i)) where
  abbrev nodes : Answer
  nodes = each (node_refusal image d cert c) (nodes_of cert i)

  abbrev counted : Answer
  counted =
      demand (is_home_counted d c && of_nodes image (is_node_counted d c.summary) c (nodes_of cert i)) (at_context i 16)

  abbrev returns : Answer
  returns = demand (of_nodes image (is_user_covered cert) c (nodes_of cert i)) (at_context i 17)

  pub nodes-refused : (e : Refusal) → answer ≡ Err e → Err e ≡ context_refusal image d cert i c
  nodes-refused e refused = row-refused nodes (counted >>= λ ok. returns) answer is e refused

  module _ (passed : answer ≡ Ok tt) (second : Answer) (so : second ≡ counted) where
    pub counted-refused : (e : Refusal) → second ≡ Err e → Err e ≡ context_refusal image d cert i c
    counted-refused e refused =
        row-passed nodes (counted >>= λ ok. returns) answer is (Err e) passed
        (row-refused counted returns second so e refused)

    pub returns-decide : (last : Answer) → second ≡ Ok tt → last ≡ returns → last ≡ context_refusal image d cert i c
    returns-decide last counts_all decides =
        row-passed nodes (counted >>= λ ok. returns) answer is last passed
        (row-passed counted returns second so last counts_all decides)
