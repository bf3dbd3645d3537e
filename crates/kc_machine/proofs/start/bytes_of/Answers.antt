use Rattle.std.proofs.Common.{ℕ, ◌+◌, ◌∷◌, drop, get_or, ap, sym, ◌∙◌, add-one}
use Rattle.std.proofs.Math.Seq.{drop-cons}
use Rattle.kc_machine.proofs.StartLemmas.{word-more}
use Rattle.kc_machine.proofs.start.bytes_of.Goals as goal

-- one word more
pub loop-word-preserved : goal.loop-word-preserved
loop-word-preserved c =
    let ws = c.args.words.now in
    let i = c.loop-word.word-index in
    let w = get_or ws i (0, 0) in
    λ m. c.loop-word.invariant m
    ∙ word-more m c.loop-word.bytes.items c.add_bytes.new.bytes.items (drop i ws) (drop (i + 1) ws) w
    c.in_ok-add_bytes.ensures
    (drop-cons ws i (0, 0) c.loop-word-test.true ∙ ap (λ (k : ℕ). w ∷ drop k ws) (sym (add-one i)))
