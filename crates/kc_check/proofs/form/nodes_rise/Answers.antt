use Rattle.std.proofs.Common.{◌+◌, ◌-◌, ◌<◌, ◌≤◌, length, map, arith}
use Rattle.std.proofs.lemmas.List.{length-map}
use Rattle.kc_cert.proofs.PositionLemmas.{position_trans}
use Rattle.kc_cert.specs.Table.{position_of, position_order}
use Rattle.kc_check.proofs.ListLemmas.{rises-by-steps, step-more, step-not}
use Rattle.kc_check.proofs.form.nodes_rise.Goals as goal

pub returns-then-not-is_node_before : goal.returns-then-not-is_node_before
returns-then-not-is_node_before c =
    let positions = map position_of c.args.nodes.now in
    let lt : c.loop-i.i - 1 + 1 < length positions =
    omega (arith, length-map c.args.nodes.now position_of, c.loop-i-test.true, c.loop-i.auto.i) in
    step-not position_order positions (c.loop-i.i - 1) c.is_node_before.result lt c.is_node_before.ensures
    c.if-not-is_node_before.true

pub loop-i-preserved : goal.loop-i-preserved
loop-i-preserved c =
    step-more position_order (map position_of c.args.nodes.now) c.loop-i.i c.is_node_before.result
    c.loop-i.auto.i c.loop-i.invariant c.is_node_before.ensures c.if-not-is_node_before.false

pub returns : goal.returns
returns c =
    let positions = map position_of c.args.nodes.now in
    let le : length positions ≤ c.loop-i.i =
    omega (arith, length-map c.args.nodes.now position_of, c.loop-i-test.false) in
    rises-by-steps position_order position_trans positions c.loop-i.i le c.loop-i.invariant
