use Rattle.kc_config.specs.Seen.{seen}
use Rattle.kc_config.proofs.ArrayLemmas.{array_is}
use Rattle.kc_config.proofs.keys.Reader.array.Goals as goal

-- the array's values are those of the slice
pub returns-in-Some : goal.returns-in-Some
returns-in-Some c =
    rw c.as_slice.ensures.value (array_is (seen c.args.self.now) c.args.key.now _ c.in-Some.found.now.items
    c.in_ok-value.ensures c.in-Some.ensures)
