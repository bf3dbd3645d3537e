use Rattle.std.proofs.Common.{◌≡◌, ap, length, arith}
use Rattle.kc_config.proofs.AddressLemmas.{as_many}
use Rattle.kc_config.proofs.cpu.read_ist.Goals as goal

-- each form has its sum
pub add_seven-requires : goal.add_seven-requires
add_seven-requires c =
    let same : length c.in-Some.sums.items ≡ length c.deref.result.now =
    as_many c.in-Some.sums.items c.deref.result.now c.args.table.now.image.now.symbols
    (rw c.in-Some.is at c.in_ok-sums.ensures) in
    omega (arith, same, ap length c.deref-2.ensures.value, c.deref.ensures.len, c.len.ensures)
