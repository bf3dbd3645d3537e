use Rattle.std.proofs.Common.{◌≡◌, List, ℕ, ◌++◌, Err, length}
use Rattle.kc_certfields.specs.declared.fault.CertFault.{CertFault}
use Rattle.kc_certfmt.specs.Fed.{HasRead, told}
use Rattle.kc_certfmt.proofs.reader.CertReader.feed.Given as goal

-- the bytes before those that are left were fed
abbrev pub invariant-loop-left : goal.invariant-loop-left
invariant-loop-left l = record {
  fed : (done : List ℕ) × (done ++ l.left ≡ l.fn.piece)
      × ((fed : List ℕ) → HasRead fed l.initial.self → HasRead (fed ++ done) l.self);
  stays : (e : CertFault) → told l.initial.self.fault ≡ Err e → l.self ≡ l.initial.self;
}

abbrev pub decreases-loop-left : goal.decreases-loop-left
decreases-loop-left l = length l.left
