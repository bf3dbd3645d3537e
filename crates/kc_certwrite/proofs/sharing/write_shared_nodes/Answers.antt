use Rattle.std.proofs.Common.{◌≡◌, ◌+◌, ◌<◌, ◌++◌, ◌∷◌, [], ℕ, List, length, take, get_or, sym, ap, ◌∙◌, subst, arith}
use Rattle.std.specs.List.{flat_map, zip}
use Rattle.std.specs.Iterator.Adapters.{zip_first, zip_second}
use Rattle.std.specs.Slice.Iter.{iter_rest}
use Rattle.std.proofs.lemmas.List.{length-append}
use Rattle.std.proofs.lemmas.Result.{err_from_is_err_and}
use Rattle.std.proofs.lemmas.Slice.Zip.{zip_turn, zip_end, length-zip}
use Rattle.kc_io.specs.Sink.{Writes}
use Rattle.kc_cert.specs.declared.certificate.Node.{Node}
use Rattle.kc_certwrite.specs.ShareSteps.{shared_text}
use Rattle.kc_certwrite.proofs.ShareLemmas.{pair-at}
use Rattle.kc_certwrite.proofs.WriteLemmas.{kept-both, kept-none, writes-none, each-more, each-refused, take-all}
use Rattle.kc_certwrite.proofs.sharing.write_shared_nodes.Goals as goal

pub loop-node-init : goal.loop-node-init
loop-node-init g c = record {
  written = writes-none (g.S.Sink.state c.args.out.now);
  kept = kept-none (g.S.Sink.state c.args.out.now);
}

-- a node more is written
pub loop-node-preserved : goal.loop-node-preserved
loop-node-preserved g c =
    let nodes = c.args.nodes.now in
    let shares = c.args.shares.now in
    let i = length c.loop-node.yielded in
    let n = c.in-Some.node.now in
    let k = c.in-Some.share.now in
    let turn =
    zip_turn nodes shares c.loop-node.yielded c.into_iter-node-iterator.result c.loop-node.node-iterator c.next.new.self
    c.next.result
    (ap (λ z. iter_rest (zip_first z)) c.into_iter-node-iterator.ensures.into_iter_gives
    ∙ ap iter_rest c.zip-node-items.ensures.first ∙ c.iter.ensures.rest)
    (ap (λ z. iter_rest (zip_second z)) c.into_iter-node-iterator.ensures.into_iter_gives
    ∙ ap iter_rest c.zip-node-items.ensures.second ∙ c.iter-2.ensures.rest)
    c.loop-node.yielded_by (c.in-Some.node, c.in-Some.share) c.in-Some.is c.next.ensures.steps in
    let below : i < length (zip nodes shares) = omega (arith, length-zip nodes shares, turn.0, turn.1) in
    let pair : (n, k) ≡ get_or (zip nodes shares) i (n, k) =
    pair-at nodes shares i n k turn.0 turn.1 (turn.2 n) (turn.3 k) in
    let more : i + 1 ≡ length (c.loop-node.yielded ++ (c.in-Some.node, c.in-Some.share) ∷ []) =
    sym (length-append c.loop-node.yielded ((c.in-Some.node, c.in-Some.share) ∷ [])) in
    record {
      written = subst
          (λ (m : ℕ). Writes (g.S.Sink.state c.args.out.now) (g.S.Sink.state c.write_shared_node.new.out)
          (flat_map (shared_text c.args.stacks) (take m (zip nodes shares)))) more
          (each-more (shared_text c.args.stacks) (zip nodes shares) i (n, k) (g.S.Sink.state c.args.out.now)
          (g.S.Sink.state c.loop-node.out) (g.S.Sink.state c.write_shared_node.new.out) below pair
          c.loop-node.invariant.written c.in_ok-write_shared_node.ensures.all);
      kept = kept-both _ _ _ c.loop-node.invariant.kept c.in_ok-write_shared_node.ensures.kept;
    }

-- a node is refused
pub returns-in_err-write_shared_node-clause-part : goal.returns-in_err-write_shared_node-clause-part
returns-in_err-write_shared_node-clause-part g c =
    let exit = err_from_is_err_and c.from_residual.result c.from_residual.ensures.1 in
    let nodes = c.args.nodes.now in
    let shares = c.args.shares.now in
    let i = length c.loop-node.yielded in
    let n = c.in-Some.node.now in
    let k = c.in-Some.share.now in
    let turn =
    zip_turn nodes shares c.loop-node.yielded c.into_iter-node-iterator.result c.loop-node.node-iterator c.next.new.self
    c.next.result
    (ap (λ z. iter_rest (zip_first z)) c.into_iter-node-iterator.ensures.into_iter_gives
    ∙ ap iter_rest c.zip-node-items.ensures.first ∙ c.iter.ensures.rest)
    (ap (λ z. iter_rest (zip_second z)) c.into_iter-node-iterator.ensures.into_iter_gives
    ∙ ap iter_rest c.zip-node-items.ensures.second ∙ c.iter-2.ensures.rest)
    c.loop-node.yielded_by (c.in-Some.node, c.in-Some.share) c.in-Some.is c.next.ensures.steps in
    let below : i < length (zip nodes shares) = omega (arith, length-zip nodes shares, turn.0, turn.1) in
    let pair : (n, k) ≡ get_or (zip nodes shares) i (n, k) =
    pair-at nodes shares i n k turn.0 turn.1 (turn.2 n) (turn.3 k) in
    rw exit.1
    (each-refused (shared_text c.args.stacks) (zip nodes shares) i (n, k) (g.S.Sink.state c.args.out.now)
    (g.S.Sink.state c.loop-node.out) (g.S.Sink.state c.write_shared_node.new.out) below pair c.loop-node.invariant.kept
    c.loop-node.invariant.written c.in_err-write_shared_node.ensures.part)

-- all are written
pub returns-clause-all : goal.returns-clause-all
returns-clause-all g c =
    let nodes = c.args.nodes.now in
    let shares = c.args.shares.now in
    let i = length c.loop-node.yielded in
    let end =
    zip_end nodes shares c.loop-node.yielded c.into_iter-node-iterator.result c.loop-node.node-iterator c.next.new.self
    c.next.result
    (ap (λ z. iter_rest (zip_first z)) c.into_iter-node-iterator.ensures.into_iter_gives
    ∙ ap iter_rest c.zip-node-items.ensures.first ∙ c.iter.ensures.rest)
    (ap (λ z. iter_rest (zip_second z)) c.into_iter-node-iterator.ensures.into_iter_gives
    ∙ ap iter_rest c.zip-node-items.ensures.second ∙ c.iter-2.ensures.rest)
    c.loop-node.yielded_by c.in-None.is c.next.ensures.steps in
    subst
    (λ (ps : List (Node × ℕ)). Writes (g.S.Sink.state c.args.out.now) (g.S.Sink.state c.loop-node.out)
    (flat_map (shared_text c.args.stacks) ps))
    (take-all i (zip nodes shares) (omega (arith, length-zip nodes shares, end))) c.loop-node.invariant.written
