use Rattle.std.proofs.Common.{◌≡◌, ℕ, ◌+◌, ◌/◌, ap, sym, ◌∙◌, drop, get_or, arith}
use Rattle.std.specs.List.{All}
use Rattle.std.proofs.lemmas.List.{drop_all}
use Rattle.std.proofs.lemmas.List.Elements.{All-weaker}
use Rattle.kc_mem.specs.Memory.{Bytes, put_all}
use Rattle.kc_mem.specs.PageSteps.{HasPage, bytes_of}
use Rattle.kc_mem.proofs.MergeLemmas.{has_page_same, put_all_more}
use Rattle.kc_mem.proofs.pages.put_bytes.Goals as goal

pub put_byte-requires-clause-there : goal.put_byte-requires-clause-there
put_byte-requires-clause-there c = c.loop-a.invariant.there c.loop-a.a-index (0, 0) c.loop-a-test.true

pub loop-a-preserved : goal.loop-a-preserved
loop-a-preserved c =
    let old = c.loop-a.pages.items in
    let new = c.put_byte.new.pages.items in
    record {
      pages = c.put_byte.ensures.pages;
      there = All-weaker (λ w. HasPage old (w.0 / 4096)) (λ w. HasPage new (w.0 / 4096))
          (λ w has. has_page_same old new (w.0 / 4096) c.put_byte.ensures.numbers has) c.args.writes.now
          c.loop-a.invariant.there;
      bytes = ap (λ (m : Bytes). put_all m (drop (c.loop-a.a-index + 1) c.args.writes.now)) c.put_byte.ensures.bytes
          ∙ put_all_more (bytes_of old) c.args.writes.now c.loop-a.a-index c.loop-a-test.true
          ∙ c.loop-a.invariant.bytes;
      len = c.put_byte.ensures.len ∙ c.loop-a.invariant.len;
      capacity = c.put_byte.ensures.capacity ∙ c.loop-a.invariant.capacity;
    }

pub returns-clause-bytes : goal.returns-clause-bytes
returns-clause-bytes c =
    ap (put_all (bytes_of c.loop-a.pages.items)) (sym (drop_all c.loop-a.a-index c.args.writes.now (omega arith)))
    ∙ c.loop-a.invariant.bytes
