use Rattle.std.proofs.Common.{ℕ, List, take, arith, sym, ap, ◌∙◌, nat_cmp}
use Rattle.std.specs.Cmp.Lexicographic.{slice_cmp}
use Rattle.std.proofs.lemmas.List.{length-take}
use Rattle.kc_image.specs.FirstFault.{text}
use Rattle.kc_image.proofs.TextLemmas.{differ_at, end_at, same_at, text_le, text_front}
use Rattle.kc_image.proofs.names.compare_bytes.Goals as goal

pub returns-then-first-i : goal.returns-then-first-i
returns-then-first-i c =
    let end = c.min-i-end.ensures in
    c.cmp.ensures
    ∙ sym (differ_at c.args.first.now c.args.second.now c.loop-i.i (omega (arith, end)) (omega (arith, end))
    c.if-first-i.true)
    ∙ c.loop-i.invariant

pub returns-then-first-i-eq0 : goal.returns-then-first-i-eq0
returns-then-first-i-eq0 c =
    let end = c.min-i-end.ensures in
    sym
    (end_at c.args.first.now c.args.second.now c.loop-i.i (omega (arith, end)) (omega (arith, end)) c.if-first-i.false
    c.if-first-i-eq0.true)
    ∙ c.loop-i.invariant

pub loop-i-preserved : goal.loop-i-preserved
loop-i-preserved c =
    let end = c.min-i-end.ensures in
    sym
    (same_at c.args.first.now c.args.second.now c.loop-i.i (omega (arith, end)) (omega (arith, end)) c.if-first-i.false
    c.if-first-i-eq0.false)
    ∙ c.loop-i.invariant

pub slice_bounds-cmp-end : goal.slice_bounds-cmp-end
slice_bounds-cmp-end c =
    omega (arith, c.text_len.ensures, length-take c.text_len.result c.args.first.now, text_le c.args.first.now)

pub slice_bounds-cmp-end-2 : goal.slice_bounds-cmp-end-2
slice_bounds-cmp-end-2 c =
    omega (arith, c.text_len-2.ensures, length-take c.text_len-2.result c.args.second.now, text_le c.args.second.now)

pub returns : goal.returns
returns c =
    let first = c.args.first.now in
    let second = c.args.second.now in
    let one = ap (λ (n : ℕ). take n first) c.text_len.ensures ∙ text_front first in
    let two = ap (λ (n : ℕ). take n second) c.text_len-2.ensures ∙ text_front second in
    c.cmp-2.ensures ∙ ap (λ (x : List ℕ). slice_cmp nat_cmp x (take c.text_len-2.result second)) one
    ∙ ap (λ (y : List ℕ). slice_cmp nat_cmp (text first) y) two
