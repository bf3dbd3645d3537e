-- The encoded bytes spell the instruction, so the decoder answers it.
use Rattle.std.proofs.Common.{ℕ, List, sym, subst}
use Rattle.kc_insn.specs.Spells.{Spells}
use Rattle.kc_encode.proofs.RoundTrip.{never-refused, found-is}
use Rattle.kc_encode.proofs.encoder.round_trip.Goals as goal

pub unreachable-requires : goal.unreachable-requires
unreachable-requires c =
    let spelt : Spells c.deref.result.now c.args.at c.args.insn.now =
    subst (λ (bytes : List ℕ). Spells bytes c.args.at c.args.insn.now) (sym c.deref.ensures.value)
    c.in_ok-bytes.ensures.spelled in
    never-refused c.decode.result c.deref.result.now c.args.at c.args.insn.now c.decode.ensures.only spelt
    c.in-Err.field-0 c.in-Err.is

pub returns-clause-found : goal.returns-clause-found
returns-clause-found c =
    let spelt : Spells c.deref.result.now c.args.at c.args.insn.now =
    subst (λ (bytes : List ℕ). Spells bytes c.args.at c.args.insn.now) (sym c.deref.ensures.value)
    c.in_ok-bytes.ensures.spelled in
    found-is c.decode.result c.deref.result.now c.args.at c.args.insn.now c.decode.ensures.only spelt c.in-Ok.found
    c.in-Ok.field-0-1 c.in-Ok.is
