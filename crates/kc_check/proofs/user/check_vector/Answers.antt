use Rattle.std.proofs.Common.{◌≡◌, ◌<◌, Bool, true, false, cond, Result, Ok, sym, ap, ◌∙◌, arith}
use Rattle.kc_regions.specs.Lookup.{gate_of}
use Rattle.kc_state.specs.AbsEvents.{comes_from_user, user_comes}
use Rattle.kc_cert.specs.FirstRefusal.{demand}
use Rattle.kc_cert.specs.declared.refusal.Refusal.{Refusal}
use Rattle.kc_check.proofs.LoopLemmas.{gate-there}
use Rattle.kc_check.specs.User.{vector_refusal}
use Rattle.kc_check.proofs.user.check_vector.Goals as goal

-- an event that may come has a gate
pub is_entry_covered-covered-requires : goal.is_entry_covered-covered-requires
is_entry_covered-covered-requires c =
    let fits : c.args.vector < 256 = omega arith in
    record {
      gate = gate-there (comes_from_user c.args.table.now.cert.now.user)
          (gate_of c.args.table.now.cfg.now.gates c.args.vector)
          (sym (c.requires.events c.args.vector fits) ∙ sym c.has.ensures.value ∙ c.if-not-has.false);
    }

-- another event has no rules
pub returns-then-not-has : goal.returns-then-not-has
returns-then-not-has c =
    let d = c.args.table.now.cfg.now in
    let cert = c.args.table.now.cert.now in
    let fits : c.args.vector < 256 = omega arith in
    let stays : user_comes d cert.user c.args.vector ≡ false =
    sym (c.requires.events c.args.vector fits) ∙ sym c.has.ensures.value ∙ c.if-not-has.true in
    sym (ap (λ (b : Bool). cond {A = Result (Unit {0}) Refusal} b (vector_refusal d cert c.args.vector) (Ok tt)) stays)

pub returns : goal.returns
returns c =
    let d = c.args.table.now.cfg.now in
    let cert = c.args.table.now.cert.now in
    let fits : c.args.vector < 256 = omega arith in
    let comes : user_comes d cert.user c.args.vector ≡ true =
    sym (c.requires.events c.args.vector fits) ∙ sym c.has.ensures.value ∙ c.if-not-has.false in
    c.demand.ensures
    ∙ (λ i. demand (c.is_entry_covered-covered.ensures i) (c.at_user.ensures i))
    ∙ sym (ap (λ (b : Bool). cond {A = Result (Unit {0}) Refusal} b (vector_refusal d cert c.args.vector) (Ok tt)) comes)
