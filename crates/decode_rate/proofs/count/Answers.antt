use Rattle.std.proofs.Common.{◌≡◌, suc, ◌≤◌, ◌+◌, length, take, sym, ap, subst, arith}
use Rattle.std.proofs.lemmas.List.{length-drop, take_rest}
use Rattle.kc_insn.specs.Spells.{Spells}
use Rattle.kc_decode.specs.Begins.{HasSpelledPrefix}
use Rattle.decode_rate.specs.Run.{AreInstructions}
use Rattle.decode_rate.proofs.count.Goals as goal

-- the instruction that was decoded comes after the others, and has a byte
pub loop-len-preserved : goal.loop-len-preserved
loop-len-preserved c =
    let bytes = c.args.bytes.now in
    let at = c.loop-len.at in
    let len = c.in-Ok.len in
    let found = subst (λ l. (len ≤ length l) × Spells (take len l) at c.in-Ok.field-0-0) (take_rest bytes at)
    c.in-Ok.ensures.found in
    let end : at + c.from-at.result ≡ at + len = ap (λ n. at + n) c.from-at.ensures in
    let within : at + c.from-at.result ≤ length bytes = omega (
      arith,
      found.0,
      length-drop at bytes,
      c.loop-len.invariant.1,
      end,
    ) in
    let longer : c.loop-len.instructions + 1 ≤ at + c.from-at.result =
    omega (arith, c.in-Ok.ensures.length.0, c.loop-len.invariant.2, end) in
    let more : AreInstructions bytes (suc c.loop-len.instructions) (at + c.from-at.result) =
    (at, len, c.in-Ok.field-0-0, c.loop-len.invariant.0, end, within, found.1) in
    let one : suc c.loop-len.instructions ≡ c.loop-len.instructions + 1 = omega arith in
    (subst (λ n. AreInstructions bytes n (at + c.from-at.result)) one more, within, longer)

-- an instruction there would have been decoded
pub returns-clause-ended : goal.returns-clause-ended
returns-clause-ended c front =
    let at = c.loop-len.at in
    let there = subst (λ l. HasSpelledPrefix l at) (sym (take_rest c.args.bytes.now at)) front in
    c.in_default.not-Ok (there.1, there.0) (c.decode.ensures.only there.0 there.1 there.2 there.3)
