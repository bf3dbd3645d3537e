use Rattle.std.proofs.Common.{take, drop, arith, ◌∙◌}
use Rattle.std.proofs.Math.Nat.{le_trans}
use Rattle.std.proofs.lemmas.Grind.{common_steps}
use Rattle.std.proofs.lemmas.List.{take_rest}
use Rattle.std.proofs.Math.Seq.{take-add}
use Rattle.std.specs.Io.KnownBytes.{Appends}
use Rattle.kc_io.proofs.Written.{Appends-both, Appends-none, taken_some}
use Rattle.kc_io.proofs.write.write_all.Goals as goal

-- before the first write
pub loop-at-init : goal.loop-at-init
loop-at-init g c = record {
  within = omega arith;
  written = record {
    added = Appends-none (g.S.Sink.state c.args.out.now).written;
    quiet = λ i.
        (g.S.Sink.state c.args.out.now).refused;
  };
  kept = record { later = omega arith; plan = λ i. (g.S.Sink.state c.args.out.now).plan };
}

-- the prefix up to here, and then what the sink took of the rest
pub loop-at-preserved : goal.loop-at-preserved
loop-at-preserved g c =
    let more : Appends (g.S.Sink.state c.loop-at.out).written (g.S.Sink.state c.write.new.self).written
    (take c.in-Ok.count (drop c.loop-at.at c.args.piece.now))
    = rw take_rest at c.in-Ok.ensures.bytes in
    record {
      within = let bound = c.in-Ok.ensures.bound in grind (arith, common_steps, bound);
      written = record {
        added = rw (take-add c.loop-at.at c.in-Ok.count c.args.piece.now)
            (Appends-both _ _ _ _ _ c.loop-at.invariant.written.added more);
        quiet = c.in-Ok.ensures.refused ∙ taken_some _ c.in-Ok.count _ c.if-count-gt0.true ∙
            c.loop-at.invariant.written.quiet;
      };
      kept = record {
        later = le_trans c.loop-at.invariant.kept.later c.in-Ok.ensures.kept.later;
        plan = c.in-Ok.ensures.kept.plan ∙ c.loop-at.invariant.kept.plan;
      };
    }
