use Rattle.std.proofs.Common.{arith}
use Rattle.kc_image.proofs.TableLemmas.{section_bound}
use Rattle.kc_image.proofs.sections.read_linked.Goals as goal

pub overflow_add-header : goal.overflow_add-header
overflow_add-header c =
    let bound = section_bound c.args.file.now c.args.header.now (omega (arith, c.from.ensures)) c.requires in
    omega (arith, c.from.ensures, c.from-2.ensures, bound)

pub read_section_header-section-requires : goal.read_section_header-section-requires
read_section_header-section-requires c =
    let bound = section_bound c.args.file.now c.args.header.now (omega (arith, c.from.ensures)) c.requires in
    omega (arith, c.from.ensures, c.from-2.ensures, bound)
