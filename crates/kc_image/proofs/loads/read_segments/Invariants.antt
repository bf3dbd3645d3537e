use Rattle.std.proofs.Common.{◌≡◌, ◌+◌, [], ◌-◌, ◌*◌}
use Rattle.kc_rules.specs.Rules.{over}
use Rattle.kc_image.specs.FirstFault.{add_segment, entries}
use Rattle.kc_image.proofs.loads.read_segments.Given as goal

abbrev pub invariant-loop-i : goal.invariant-loop-i
invariant-loop-i l =
    let add = add_segment l.file in
    over add l.segments (entries (l.header.e_phoff + 56 * l.i) 56 (l.header.e_phnum - l.i))
    ≡ over add [] (entries l.header.e_phoff 56 l.header.e_phnum)
