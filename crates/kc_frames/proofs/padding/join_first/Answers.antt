use Rattle.std.proofs.Common.{◌≡◌, ◌<◌, ◌+◌, ◌++◌, length, get_or, take, drop, sym, ap, ◌∙◌, subst, arith}
use Rattle.std.proofs.lemmas.List.{length-set, drop-set-lt}
use Rattle.std.specs.List.{AllZip}
use Rattle.kc_lattice.specs.Rows.{rows_joined}
use Rattle.kc_lattice.proofs.ListLemmas.{AllZip-read}
use Rattle.kc_frames.specs.Padded.{padded}
use Rattle.kc_frames.proofs.PaddedLemmas.{length-padded, get_or-padded}
use Rattle.kc_frames.proofs.JoinLemmas.{join_one}
use Rattle.kc_frames.proofs.padding.join_first.Goals as goal

pub join-requires : goal.join-requires
join-requires g c =
    let R = g.V.Domain.alike in
    let these = c.loop-i.these in
    let n = length c.args.these.now in
    let others = padded n c.args.other.now c.args.those.now in
    let i = c.loop-i.i in
    let x = c.get.result.now in
    let y = c.at.result.now in
    let below : i < n = omega (arith, c.loop-i-test.true, c.len-i-end.ensures.value) in
    let here : i < length these = omega (arith, below, c.loop-i.invariant.lengths) in
    let there : i < length others =
    omega (arith, below, length-padded n c.args.other.now c.args.those.now c.requires.few) in
    let isy : y ≡ get_or others i y =
    c.at.ensures.value ∙ get_or-padded n i c.args.other.now y c.args.those.now c.requires.few below in
    (subst (λ (T : Type 0). T) (AllZip-read R these others i x y here there (c.get.ensures x) isy) c.loop-i.invariant.alike).0

pub loop-i-preserved : goal.loop-i-preserved
loop-i-preserved g c =
    let R = g.V.Domain.alike in
    let f = g.V.Domain.joined in
    let these = c.loop-i.these in
    let n = length c.args.these.now in
    let others = padded n c.args.other.now c.args.those.now in
    let i = c.loop-i.i in
    let x = c.get.result.now in
    let y = c.at.result.now in
    let w = c.join.new.self in
    let below : i < n = omega (arith, c.loop-i-test.true, c.len-i-end.ensures.value) in
    let here : i < length these = omega (arith, below, c.loop-i.invariant.lengths) in
    let there : i < length others =
    omega (arith, below, length-padded n c.args.other.now c.args.those.now c.requires.few) in
    let isy : y ≡ get_or others i y =
    c.at.ensures.value ∙ get_or-padded n i c.args.other.now y c.args.those.now c.requires.few below in
    let both =
    subst (λ (T : Type 0). T) (AllZip-read R these others i x y here there (c.get.ensures x) isy) c.loop-i.invariant.alike in
    let next = c.set.ensures in
    record {
      lengths = ap length next ∙ length-set these i w ∙ c.loop-i.invariant.lengths;
      alike =
          subst (λ us. AllZip R us (drop (i + 1) others))
          (sym (ap (drop (i + 1)) next ∙ drop-set-lt (i + 1) these i w (omega arith))) both.1;
      whole =
          ap (λ us. take (i + 1) us ++ rows_joined f (drop (i + 1) us) (drop (i + 1) others)) next
          ∙ join_one f i x w y these others here there (c.get.ensures x) isy c.join.ensures.value
          ∙ c.loop-i.invariant.whole;
    }
