use Rattle.std.proofs.Common.{◌≡◌, refl, Some, sym, subst, ◌∙◌, arith}
use Rattle.std.proofs.lemmas.List.{get_or_default}
use Rattle.std.proofs.lemmas.Nat.Bits.{shr_and_one}
use Rattle.kc_words.specs.Range.{Range}
use Rattle.kc_words.specs.Span.{Holds}
use Rattle.kc_value.specs.Place.{stack_at, no_addresses}
use Rattle.kc_value.proofs.value.lies_in.Goals as goal

-- the stack at hand holds n and is in the set
pub returns-then-set-s-eq1 : goal.returns-then-set-s-eq1
returns-then-set-s-eq1 c =
    let stacks = c.args.stacks.now in
    let read : c.index-stacks-s.result ≡ stack_at stacks c.loop-s.s =
    c.index-stacks-s.is ∙ get_or_default stacks c.loop-s.s c.index-stacks-s.result no_addresses
    (omega (arith, c.type_inv.stacks, c.loop-s-test.true)) in
    let here = c.holds.ensures.is.0 c.if-holds.true in
    let holds = subst (λ (r : Range). Holds r c.args.n) (sym c.index-stacks-s.is ∙ read) here in (
      λ _. (
        Some c.loop-s.s,
        (c.loop-s-test.true, holds),
        sym (shr_and_one c.args.set c.loop-s.s)
            ∙ c.if-set-s-eq1.true,
      ),
      λ _. refl,
    )
