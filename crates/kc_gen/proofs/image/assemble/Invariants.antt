use Rattle.std.proofs.Common.{◌≡◌, ◌++◌, drop}
use Rattle.std.specs.Prelude.{IsTrue}
use Rattle.kc_gen.specs.Image.{code_from, image_of, is_listing}
use Rattle.kc_gen.proofs.image.assemble.Given as goal

-- what is written and what the lines that are left give is the image
abbrev pub invariant-loop-line : goal.invariant-loop-line
invariant-loop-line l = (l.out.items ++ code_from l.at (drop l.line-index l.lines) ≡ image_of l.load l.lines)
    × IsTrue (is_listing l.load l.at (drop l.line-index l.lines))
