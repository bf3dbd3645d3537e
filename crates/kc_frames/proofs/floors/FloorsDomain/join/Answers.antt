use Rattle.std.proofs.Common.{◌≡◌, length, rules}
use Rattle.kc_shapes.specs.RowLaws.{all_alike_rows}
use Rattle.kc_frames.proofs.floors.FloorsDomain.join.Goals as goal

-- both have 16 floors
pub join_each-requires : goal.join_each-requires
join_each-requires c =
    let count : length c.args.self.now.at ≡ length c.args.other.now.at = search rules in
    all_alike_rows c.args.self.now.at c.args.other.now.at count
