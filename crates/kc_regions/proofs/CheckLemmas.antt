-- The rules that were passed one by one, together, and a fault after those that were passed.
use Rattle.std.proofs.Common.{◌≡◌, List, subst, ap, arith}
use Rattle.kc_regions.specs.declared.config.TheConstants.{TSS}
use Rattle.kc_regions.specs.declared.config.CrossFault.{CrossFault}
use Rattle.kc_regions.specs.declared.region.Region.{Region}
use Rattle.kc_regions.specs.Each.{Each}
use Rattle.kc_regions.specs.Description.{Description}
use Rattle.kc_regions.specs.CrossRules.{IsOnItsSide, StackFits, HasGuard, AreCr3Apart, IsTssInArea, IsNewVector, HasGate, needed_vectors, IsNewEntry, IsWordPlaced, CrossRules, IsFirstCrossFault}

pub cross-rules : (d : Description) (list : List Region) → list ≡ d.regions → Each IsOnItsSide list
    → Each StackFits list
    → Each (HasGuard list) list → AreCr3Apart d.cpu d.regions → IsTssInArea d.cpu d.regions → Each IsNewVector d.gates
    → Each (HasGate d.gates) needed_vectors → Each IsNewEntry d.handlers → Each (IsWordPlaced d.cpu.tss list) d.words
    → CrossRules d
cross-rules d list is sides stacks guards cr3 tss vectors gates entries words = record {
  sides = subst (λ l. Each IsOnItsSide l) is sides;
  stacks = subst (λ l. Each StackFits l) is stacks;
  guards = subst (λ l. Each (HasGuard l) l) is guards;
  cr3_values = cr3;
  tss = tss;
  vectors = vectors;
  gates = gates;
  entries = entries;
  words = subst (λ l. Each (IsWordPlaced d.cpu.tss l) d.words) is words;
}

pub fault-tss : (d : Description) (list : List Region) (f : CrossFault) → list ≡ d.regions
    → f ≡ record { rule = TSS; index = 0 } → Each IsOnItsSide list
    → Each StackFits list → Each (HasGuard list) list → AreCr3Apart d.cpu d.regions → (IsTssInArea d.cpu d.regions → ⊥)
    → IsFirstCrossFault d f
fault-tss d list f is fault sides stacks guards cr3 broken =
    let rule : f.rule ≡ 6 = ap (λ g. g.rule) fault in
    let index : f.index ≡ 0 = ap (λ g. g.index) fault in
    record {
      rule = (omega arith, omega arith);
      earlier = record {
        sides = λ h. subst (λ l. Each IsOnItsSide l) is sides;
        stacks = λ h. subst (λ l. Each StackFits l) is stacks;
        guards = λ h. subst (λ l. Each (HasGuard l) l) is guards;
        cr3_values = λ h. cr3;
        tss = λ h. absurd (omega arith);
        vectors = λ h. absurd (omega arith);
        gates = λ h. absurd (omega arith);
        entries = λ h. absurd (omega arith);
      };
      sides = λ e. absurd (omega arith);
      stacks = λ e. absurd (omega arith);
      guards = λ e. absurd (omega arith);
      cr3_values = λ e. absurd (omega arith);
      tss = λ e. (index, broken);
      vectors = λ e. absurd (omega arith);
      gates = λ e. absurd (omega arith);
      entries = λ e. absurd (omega arith);
      words = λ e. absurd (omega arith);
    }
