use Rattle.std.proofs.Common.{◌∙◌, ap, option_map, string_bytes}
use Rattle.kc_config.proofs.KeyLemmas.{seen_key, unknown_is}
use Rattle.kc_config.proofs.keys.find_unknown.Goals as goal

pub returns : goal.returns
returns c =
    seen_key c.find_key.result ∙ ap (option_map string_bytes) c.find_key.ensures
    ∙ unknown_is c.args.place c.args.table.now.entries
