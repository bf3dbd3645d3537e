use Rattle.std.proofs.Common.{List, ℕ, ◌++◌, Option, inl, refl, sym, ap, ◌∙◌, subst}
use Rattle.kc_certfields.specs.declared.fault.CertFault.{CertFault}
use Rattle.kc_certfmt.specs.Fed.{Reader, HasReadTo, told}
use Rattle.kc_certfmt.proofs.FedLemmas.{feeds, not-err, is-reader}
use Rattle.kc_certfmt.proofs.reader.CertReader.feed_some.Goals as goal
use Rattle.kc_certfmt.proofs.reader.CertReader.feed_some.Goals.{in-Ok, in-Err}

-- what was read of these bytes; or memory ran out
pub returns-clause-fed : goal.returns-clause-fed
returns-clause-fed c = λ fed is.
    let all : List ℕ = fed ++ c.args.bytes.now in
    let before = is-reader fed c.self.inside.progress c.self.inside.fault c.args.self.now c.self.view_is is in
    let lasting = not-err c.lasting.result (sym c.is_err.ensures.value ∙ c.if-is_err.false) in
    let open_ = ap (λ (r : Reader). told r.fault) c.self.view_is ∙ sym c.lasting.ensures.value ∙ lasting in
    elim c.match-read.branch [
      | in-Ok w ↦ subst (λ (o : Option CertFault). HasReadTo all c.read.new.self o) (sym w.self-is)
          (feeds fed c.args.bytes.now c.self.inside.progress c.read.new.self c.self.inside.fault w.in-Ok.fault before open_
          w.in-Ok.ensures.read)
      | in-Err w ↦ subst (λ (o : Option CertFault). HasReadTo all c.read.new.self o) (sym w.self-is) (inl refl)
    ]
