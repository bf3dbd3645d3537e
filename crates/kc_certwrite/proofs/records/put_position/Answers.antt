use Rattle.std.proofs.Common.{◌≡◌, ◌++◌, ℕ, cond, ap, ◌∙◌}
use Rattle.kc_certfields.specs.Spelling.{u8_bytes, u32_bytes, u64_bytes}
use Rattle.kc_certwrite.proofs.WriteLemmas.{joined}
use Rattle.kc_certwrite.proofs.records.put_position.Goals as goal

-- the context, the address and the bit
pub returns-clause-text : goal.returns-clause-text
returns-clause-text c =
    let old = c.args.out.now.items in
    let one = c.put_u32.new.out.items in
    let two = c.put_u64.new.out.items in
    let n = c.args.node.now in
    let bit : c.put_u8.new.out.items ≡ two ++ u8_bytes (cond n.site.inside 1 0) =
    c.put_u8.ensures.text ∙ ap (λ (b : ℕ). two ++ u8_bytes b) c.bit.ensures.value in
    let inside = u8_bytes (cond n.site.inside 1 0) in
    joined old one c.put_u8.new.out.items (u32_bytes n.context) (u64_bytes n.site.at ++ inside)
    c.put_u32.ensures.text
    (joined one two c.put_u8.new.out.items (u64_bytes n.site.at) inside c.put_u64.ensures.text bit)
