use Rattle.std.proofs.lemmas.Bool.{eq-eqb, eqb-true}
use Rattle.kc_bits.proofs.Masks.{stands_from_masks, masks_from_stands}
use Rattle.kc_bits.proofs.bits.BitsMeaning.stands.Goals as goal

pub returns-then-c-self-eq0 : goal.returns-then-c-self-eq0
returns-then-c-self-eq0 c = record {
  is = rw (← c.self.view_is)
      (λ h. stands_from_masks _ _ c.if-c-self-eq0.true (eqb-true _ _ h), λ s. eq-eqb _ _ (masks_from_stands _ _ s).1);
}

pub returns-else-c-self-eq0 : goal.returns-else-c-self-eq0
returns-else-c-self-eq0 c = record {
  is = rw (← c.self.view_is)
      (λ h. absurd (c.if-c-self-eq0.false (eqb-true _ _ h)), λ s. eq-eqb _ _ (masks_from_stands _ _ s).0);
}
