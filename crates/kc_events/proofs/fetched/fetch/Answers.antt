use Rattle.std.proofs.Common.{◌≡◌, ℕ, take, Option, Some, None, ap, sym, refl}
use Rattle.std.specs.Prelude.{Result, Ok, Err}
use Rattle.kc_insn.specs.declared.insn.Insn.{Insn}
use Rattle.kc_decode.specs.declared.fault.DecodeFault.{DecodeFault}
use Rattle.kc_events.specs.Fetched.{IsAt}
use Rattle.kc_events.proofs.FetchLemmas.{in_buffer, spelled-in, found-in}
use Rattle.kc_events.proofs.fetched.fetch.Goals as goal

-- what was decoded is a beginning of the bytes from there on
pub returns-in-Ok-clause-spelled : goal.returns-in-Ok-clause-spelled
returns-in-Ok-clause-spelled c =
    let n = c.bytes_at-count.result in
    let buf = c.bytes_at-count.new.buf in
    let whole = in_buffer c.args.image.now c.args.at n buf _ (take n buf) c.bytes_at-count.ensures.count
    c.bytes_at-count.ensures.bytes refl in
    spelled-in c.args.image.now c.args.at c.in-Ok.found.1 c.in-Ok.found.0 (take n buf) whole c.in-Ok.ensures.found.0
    c.in-Ok.ensures.found.1

-- any instruction there is the one that was decoded
pub returns-in-Ok-clause-only : goal.returns-in-Ok-clause-only
returns-in-Ok-clause-only c =
    let n = c.bytes_at-count.result in
    let buf = c.bytes_at-count.new.buf in
    let whole = in_buffer c.args.image.now c.args.at n buf _ (take n buf) c.bytes_at-count.ensures.count
    c.bytes_at-count.ensures.bytes refl in
    let spelled = spelled-in c.args.image.now c.args.at c.in-Ok.found.1 c.in-Ok.found.0 (take n buf) whole
    c.in-Ok.ensures.found.0 c.in-Ok.ensures.found.1 in
    λ found. elim found as (λ (f : Option (Insn × ℕ)). IsAt c.args.image.now c.args.at f → f ≡ Some c.in-Ok.found) [
      | None ↦ λ none. absurd (none c.in-Ok.found.0 c.in-Ok.found.1 spelled)
      | Some p ↦ λ is.
          let there = found-in c.args.image.now c.args.at p.1 p.0 (take n buf) whole is in
          let same : ◌≡◌ {A = Result (Insn × ℕ) DecodeFault} (Ok c.in-Ok.found) (Ok (p.0, p.1)) =
          c.in-Ok.ensures.only p.1 p.0 there.0 there.1 in
          let pair : c.in-Ok.found ≡ (p.0, p.1) = cc (same) in
          ap (λ (q : Insn × ℕ). Some q) (sym pair)
    ]

-- where nothing was decoded, nothing is spelled
pub returns-in-Err-clause-spelled : goal.returns-in-Err-clause-spelled
returns-in-Err-clause-spelled c =
    let n = c.bytes_at-count.result in
    let buf = c.bytes_at-count.new.buf in
    let whole = in_buffer c.args.image.now c.args.at n buf _ (take n buf) c.bytes_at-count.ensures.count
    c.bytes_at-count.ensures.bytes refl in
    λ insn size is.
    let there = found-in c.args.image.now c.args.at size insn (take n buf) whole is in
    let same : ◌≡◌ {A = Result (Insn × ℕ) DecodeFault} (Err c.in-Err.field-0) (Ok (insn, size)) =
    c.in-Err.ensures.only size insn there.0 there.1 in
    cc (same)

pub returns-in-Err-clause-only : goal.returns-in-Err-clause-only
returns-in-Err-clause-only c =
    let n = c.bytes_at-count.result in
    let buf = c.bytes_at-count.new.buf in
    let whole = in_buffer c.args.image.now c.args.at n buf _ (take n buf) c.bytes_at-count.ensures.count
    c.bytes_at-count.ensures.bytes refl in
    λ found. elim found as (λ (f : Option (Insn × ℕ)). IsAt c.args.image.now c.args.at f → f ≡ None) [
      | None ↦ λ none. refl
      | Some p ↦ λ is.
          let there = found-in c.args.image.now c.args.at p.1 p.0 (take n buf) whole is in
          let same : ◌≡◌ {A = Result (Insn × ℕ) DecodeFault} (Err c.in-Err.field-0) (Ok (p.0, p.1)) =
          c.in-Err.ensures.only p.1 p.0 there.0 there.1 in
          absurd (cc (same))
    ]
