use Rattle.std.proofs.Common.{Option, rules, ap, ◌∙◌}
use Rattle.std.proofs.lemmas.List.Sorted.{IsPartitionPoint-from_clause}
use Rattle.kc_image.specs.declared.index.Named.{Named}
use Rattle.kc_image.specs.Image.{address_of}
use Rattle.kc_image.specs.SymbolSteps.{spelled_one}
use Rattle.kc_image.proofs.IndexLemmas.{is_before, parted, found_by_halving, lent}
use Rattle.kc_image.proofs.index.find_by_name.Goals as goal

pub returns : goal.returns
returns c =
    let file = c.args.file.now in
    let name = c.args.name.now in
    let names = c.args.names.now in
    let place = c.partition_point-place.result in
    let point =
    IsPartitionPoint-from_clause (is_before file name) names place c.partition_point-place.ensures.partitioned
    (parted file name names c.requires) (λ a r q k. search rules) in
    let at = c.copied.ensures ∙ lent names place c.get.result c.get.ensures.lookup in
    c.value_if_named.ensures ∙ ap (λ (o : Option Named). address_of (spelled_one file o) name) at
    ∙ found_by_halving file name names place c.requires point
