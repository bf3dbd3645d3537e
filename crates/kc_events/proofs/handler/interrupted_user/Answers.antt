use Rattle.std.proofs.Common.{◌≡◌, refl, sym, ◌∙◌, inl, inr}
use Rattle.std.proofs.lemmas.Bool.{false≢true}
use Rattle.kc_cpu.specs.declared.cpu.Mode.{Mode}
use Rattle.kc_cpu.specs.declared.cpu.Mode.TheVariants.{User, Code, Inside}
use Rattle.kc_events.proofs.ChainLemmas.{newest-last, interrupted-by, interrupted-is}
use Rattle.kc_events.proofs.handler.interrupted_user.Goals as goal

pub returns-in-User : goal.returns-in-User
returns-in-User c =
    let last = newest-last c.args.chain.now ∙ sym c.in-Some.ensures.value in
    (λ t. interrupted-by c.args.chain.now c.in-Some.newest.now last c.in-User.is, λ h. refl)

pub returns-in-Code : goal.returns-in-Code
returns-in-Code c =
    let last = newest-last c.args.chain.now ∙ sym c.in-Some.ensures.value in (
      λ t. absurd (false≢true t),
      λ h.
          let user = interrupted-is c.args.chain.now c.in-Some.newest.now last h in
          absurd (elim c.in-Code.is [
            | inl e ↦ (let k : ◌≡◌ {A = Mode} Code User = sym e ∙ user in cc)
            | inr e ↦ (let k : ◌≡◌ {A = Mode} (Inside e.0) User = sym e.1 ∙ user in cc)
          ]),
    )
