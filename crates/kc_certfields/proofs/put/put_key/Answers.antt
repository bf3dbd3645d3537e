use Rattle.std.proofs.Common.{◌≡◌, ◌++◌, ℕ, List, append_assoc, ap, ◌∙◌}
use Rattle.std.specs.Prelude.{unwrap_or}
use Rattle.kc_certfields.specs.Spelling.{u64_bytes, key_head_bytes}
use Rattle.kc_certfields.proofs.put.put_key.Goals as goal

-- the seven bytes and the base
pub returns-clause-text : goal.returns-clause-text
returns-clause-text c =
    let old = c.args.out.now.items in
    let base = u64_bytes (unwrap_or c.args.key.now.base 0) in
    let head : c.put_bytes.new.out.items ≡ old ++ key_head_bytes c.args.key.now =
    c.put_bytes.ensures.text ∙ ap (λ (t : List ℕ). old ++ t) c.key_head.ensures.value in
    let all : c.put_u64.new.out.items ≡ c.put_bytes.new.out.items ++ base =
    c.put_u64.ensures.text ∙ ap (λ (n : ℕ). c.put_bytes.new.out.items ++ u64_bytes n) c.unwrap_or.ensures in
    all ∙ ap (λ (t : List ℕ). t ++ base) head ∙ append_assoc old (key_head_bytes c.args.key.now) base
