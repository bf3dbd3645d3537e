use Rattle.std.proofs.Common.{codes, sym, ◌∙◌}
use Rattle.kc_config.specs.Tables.{is_star_kernel}
use Rattle.kc_config.specs.Seen.{seen}
use Rattle.kc_config.proofs.ArrayLemmas.{as_refused}
use Rattle.kc_config.proofs.KeyLemmas.{number_out}
use Rattle.kc_config.proofs.cpu.read_star_kernel.Goals as goal

pub returns-else-is_star_kernel-clause-read : goal.returns-else-is_star_kernel-clause-read
returns-else-is_star_kernel-clause-read c =
    as_refused _ _ _ c.out_of_range.ensures
    (number_out is_star_kernel (seen c.args.table.now) (codes "star_kernel") c.in_ok-star.star c.in_ok-star.ensures
    (sym c.is_star_kernel.ensures.test ∙ c.if-is_star_kernel.false))
