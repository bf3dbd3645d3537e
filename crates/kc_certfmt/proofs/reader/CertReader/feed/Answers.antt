use Rattle.std.proofs.Common.{◌≡◌, List, ℕ, [], ◌++◌, Result, refl, sym, ap, ◌∙◌, subst, append_assoc, append-nil}
use Rattle.std.proofs.lemmas.List.{take-append-drop}
use Rattle.kc_certfields.specs.declared.fault.CertFault.{CertFault}
use Rattle.kc_certfmt.specs.Reading.{cert_at}
use Rattle.kc_certfmt.specs.Fed.{Reader, HasRead, Answers, told}
use Rattle.kc_certfmt.proofs.FedLemmas.{answers, no-bytes}
use Rattle.kc_certfmt.proofs.reader.CertReader.feed.Goals as goal

pub loop-left-init : goal.loop-left-init
loop-left-init c = record {
  fed = ([], refl, λ fed is. subst (λ (l : List ℕ). HasRead l c.args.self.now) (sym (append-nil fed)) is);
  stays = λ e stays. refl;
}

-- the next bytes of the piece were fed
pub loop-left-preserved : goal.loop-left-preserved
loop-left-preserved c =
    let done = c.loop-left.invariant.fed.0 in
    let some = c.split_at.result.0.now in
    let left = c.loop-left.left.now in
    let both : some ++ c.split_at.result.1.now ≡ left =
    (λ k. c.split_at.ensures.front k ++ c.split_at.ensures.back k) ∙ take-append-drop c.min.result left in
    record {
      fed = (
        done ++ some,
        append_assoc done some c.split_at.result.1.now ∙ ap (λ (l : List ℕ). done ++ l) both ∙ c.loop-left.invariant.fed.1,
        λ fed is. subst (λ (l : List ℕ). HasRead l c.feed_some.new.self) (append_assoc fed done some)
            (c.feed_some.ensures.fed (fed ++ done) (c.loop-left.invariant.fed.2 fed is)),
      );
      stays = λ e stays.
          let same = c.loop-left.invariant.stays e stays in
          c.feed_some.ensures.stays e (ap (λ (r : Reader). told r.fault) same ∙ stays) ∙ same;
    }

-- nothing is left
pub returns-clause-fed : goal.returns-clause-fed
returns-clause-fed c = λ fed is.
    let none = no-bytes c.loop-left.left.now (sym c.is_empty.ensures ∙ c.loop-left-test.false) in
    let all : c.loop-left.invariant.fed.0 ≡ c.args.piece.now =
    sym (append-nil c.loop-left.invariant.fed.0) ∙ ap (λ (l : List ℕ). c.loop-left.invariant.fed.0 ++ l) (sym none)
    ∙ c.loop-left.invariant.fed.1 in
    subst (λ (l : List ℕ). HasRead (fed ++ l) c.loop-left.self) all (c.loop-left.invariant.fed.2 fed is)

pub returns-clause-exact : goal.returns-clause-exact
returns-clause-exact c = λ fed is.
    subst (λ (r : Result (Unit {0}) CertFault). Answers r (cert_at (fed ++ c.args.piece.now)))
    (sym c.lasting.ensures.value)
    (answers (fed ++ c.args.piece.now) c.loop-left.self.read c.loop-left.self.fault (returns-clause-fed c fed is))
