use Rattle.std.proofs.Common.{◌≡◌, ◌+◌, length, ap, arith}
use Rattle.kc_regions.specs.Description.{Description}
use Rattle.kc_value.specs.AbsValue.{AbsValue}
use Rattle.kc_value.specs.Value.{value_top}
use Rattle.kc_check.proofs.ListLemmas.{none-from}
use Rattle.kc_check.proofs.form.are_user_slots.Goals as goal

pub returns-then-not-is_top : goal.returns-then-not-is_top
returns-then-not-is_top c =
    let x : AbsValue = c.get.result.now in
    none-from (λ (v : AbsValue). v ≡ value_top) c.args.cert.now.user.slots (8 + length c.args.cfg.now.words) c.loop-i.i x
    c.is_top.result
    (omega (arith, c.len-i.ensures.len, ap (λ (d : Description). length d.words) c.cfg.view_is, c.loop-i.auto.i))
    (omega (arith, c.whole.ensures.count, c.loop-i-test.true))
    (c.get.ensures.value x) c.is_top.ensures.is.1 c.if-not-is_top.true
