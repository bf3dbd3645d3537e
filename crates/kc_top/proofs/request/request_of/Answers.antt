use Rattle.std.proofs.Common.{◌≡◌, ◌∙◌, true, false, sym}
use Rattle.std.specs.Prelude.{map, string_bytes}
use Rattle.std.specs.List.{list_any}
use Rattle.kc_top.specs.Words.{is_faulty}
use Rattle.kc_top.proofs.WordsLemmas.{list_any-map}
use Rattle.kc_top.proofs.request.request_of.Goals as goal

pub returns-then-has_faulty : goal.returns-then-has_faulty
returns-then-has_faulty c =
    let seen = map (λ s. string_bytes s) c.args.words.now in
    let faulty : list_any is_faulty seen ≡ true = list_any-map is_faulty (λ s. string_bytes s) c.args.words.now ∙ sym
    c.if-has_faulty.ensures in
    rw faulty

pub returns : goal.returns
returns c =
    let seen = map (λ s. string_bytes s) c.args.words.now in
    let fine : list_any is_faulty seen ≡ false = list_any-map is_faulty (λ s. string_bytes s) c.args.words.now ∙ sym
    c.if-has_faulty.ensures in
    rw fine c.mode_of.ensures
