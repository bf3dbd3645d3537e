-- What the form of a table says of a context by its number, and of the nodes of a context: each names it.
use Rattle.std.proofs.Common.{◌≡◌, ℕ, ◌<◌, true, List, length, get_or, Option, Some, None, sym, ap, ◌∙◌, subst, arith}
use Rattle.std.proofs.lemmas.Bool.{eqb-true}
use Rattle.std.proofs.lemmas.List.Elements.{filter_passes}
use Rattle.std.specs.Prelude.{IfSome, ◌==◌, option_map, slice_get}
use Rattle.kc_insn.specs.declared.insn.Insn.{Insn}
use Rattle.kc_regions.specs.Description.{Description}
use Rattle.kc_regions.specs.Region.{stacks_of}
use Rattle.kc_state.specs.AbsEvents.{HasStack, IsStackOf}
use Rattle.kc_state.specs.Key.{IsKey}
use Rattle.kc_state.specs.declared.key.Key.{Key}
use Rattle.kc_rules.proofs.AnswerLemmas.{some_is}
use Rattle.kc_cert.specs.Certified.{placed}
use Rattle.kc_cert.specs.Form.{HasForm, IsContext}
use Rattle.kc_cert.specs.Placed.{Placed}
use Rattle.kc_cert.specs.Table.{nodes_of}
use Rattle.kc_cert.specs.declared.certificate.Certificate.{Certificate}
use Rattle.kc_cert.specs.declared.certificate.Context.{Context}
use Rattle.kc_cert.specs.declared.certificate.Node.{Node}

there : (o : Option Context) (P : Context → Type 0) (c : Context) → o ≡ Some c → IfSome o P → P c
there o P c e h = subst (λ (q : Option Context). IfSome q P) e h

pub context-key : (d : Description) (cert : Certificate) (i : ℕ) (c : Context) → HasForm d cert
    → slice_get cert.contexts i ≡ Some c → IsKey cert.stacks c.key
context-key d cert i c form at =
    (there (slice_get cert.contexts i) (IsContext d cert i) c at (form.contexts i)).key

stack-there : (d : Description) (n : ℕ) (stack : Option ℕ) → n ≡ length (stacks_of d.regions)
    → IfSome stack (λ s. s < n) → IsStackOf d stack
stack-there d n (Some s) e h = omega (arith, e, h)
stack-there d n None e h = tt

pub context-stack : (d : Description) (cert : Certificate) (i : ℕ) (c : Context) → HasForm d cert
    → slice_get cert.contexts i ≡ Some c → HasStack d c.key
context-stack d cert i c form at =
    stack-there d cert.stacks c.key.stack form.stacks (context-key d cert i c form at).stack

pub key-stack : (d : Description) (cert : Certificate) (key : Key) → HasForm d cert → IsKey cert.stacks key
    → HasStack d key
key-stack d cert key form h = stack-there d cert.stacks key.stack form.stacks h.stack

-- the key of a node with its instruction is its context's
pub placed-stack : (d : Description) (c : Context) (n : Node) (x : Option (Insn × ℕ)) (p : Placed)
    → Some p ≡ option_map (placed c n) x → HasStack d c.key → HasStack d p.key
placed-stack d c n (Some (insn, len)) p is h =
    subst (λ (q : Placed). HasStack d q.key) (sym (some_is p (placed c n (insn, len)) is)) h
placed-stack d c n None p is h = absurd cc

-- a node of context i names it
pub node-names : (cert : Certificate) (i k : ℕ) (n : Node) (nodes : List Node) (c : Context) → nodes ≡ nodes_of cert i
    → k < length nodes → n ≡ get_or nodes k n → slice_get cert.contexts i ≡ Some c
    → slice_get cert.contexts n.context ≡ Some c
node-names cert i k n nodes c own lt is at =
    let fits : k < length (nodes_of cert i) = omega (arith, lt, ap length own) in
    let here : n ≡ get_or (nodes_of cert i) k n = is ∙ ap (λ (l : List Node). get_or l k n) own in
    let named : (n.context == i) ≡ true =
    ap (λ (m : Node). m.context == i) here ∙ filter_passes (λ (m : Node). m.context == i) cert.nodes k n fits in
    ap (λ (j : ℕ). slice_get cert.contexts j) (eqb-true n.context i named) ∙ at
