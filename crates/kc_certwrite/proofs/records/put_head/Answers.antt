use Rattle.std.proofs.Common.{◌≡◌, ◌++◌, ℕ, length, ap, ◌∙◌}
use Rattle.kc_certfields.specs.Spelling.{u8_bytes, u32_bytes, user_bytes}
use Rattle.kc_certform.specs.CertBytes.{magic}
use Rattle.kc_certwrite.proofs.WriteLemmas.{joined}
use Rattle.kc_certwrite.proofs.records.put_head.Goals as goal

-- the seven fields in their order
pub returns : goal.returns
returns c =
    let cert = c.args.cert.now in
    let a = c.put_bytes.new.out.items in
    let b = c.put_u32.new.out.items in
    let d = c.put_bytes-2.new.out.items in
    let e = c.put_bytes-3.new.out.items in
    let f = c.put_u8.new.out.items in
    let g = c.put_user.new.out.items in
    let all = c.put_u32-2.new.out.items in
    let version = u32_bytes c.args.version in
    let image = cert.digests.image in
    let config = cert.digests.config in
    let stacks = u8_bytes cert.stacks in
    let user = user_bytes cert.user in
    let count = u32_bytes (length cert.contexts) in
    let last : all ≡ g ++ count = c.put_u32-2.ensures.text ∙ ap (λ (n : ℕ). g ++ u32_bytes n) c.len.ensures.len in
    record {
      text = joined c.args.out.now.items a all magic (version ++ (image ++ (config ++ (stacks ++ (user ++ count)))))
          c.put_bytes.ensures.text
          (joined a b all version (image ++ (config ++ (stacks ++ (user ++ count)))) c.put_u32.ensures.text
          (joined b d all image (config ++ (stacks ++ (user ++ count))) c.put_bytes-2.ensures.text
          (joined d e all config (stacks ++ (user ++ count)) c.put_bytes-3.ensures.text
          (joined e f all stacks (user ++ count) c.put_u8.ensures.text
          (joined f g all user count c.put_user.ensures.text last)))));
    }
