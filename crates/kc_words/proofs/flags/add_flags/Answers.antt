use Rattle.std.proofs.Common.{ℕ, ◌+◌, Bool, cond, ltb, ap, ◌∙◌, ◌≡◌, arith}
use Rattle.kc_words.specs.Flags.{bits_of, flag, carries, overflows, result_flags}
use Rattle.kc_words.proofs.FlagLemmas.{bits_in_range, carries-below, half_carry, overflows-mask, result_flags-mod}
use Rattle.kc_words.proofs.flags.add_flags.Goals as goal

-- each of the four parts is the definition's
pub returns : goal.returns
returns c =
    let a : ℕ = c.args.a in
    let b : ℕ = c.args.b in
    let n : ℕ = bits_of c.args.w in
    let range = bits_in_range c.args.w in
    let carry : ltb c.cut.result c.cut-2.result ≡ carries n a b =
    rw (c.cut.ensures.value, c.cut-2.ensures.value) (carries-below 64 n a b range.1) in
    let cf : c.flag_if.result ≡ flag 0 (carries n a b) = c.flag_if.ensures.value
    ∙ ap (λ (s : Bool). cond s 1 0) carry in
    let af : c.flag_if-2.result ≡ flag 4 (carries 4 a b) = c.flag_if-2.ensures.value
    ∙ ap (λ (s : Bool). cond s 16 0) (half_carry a b) in
    let overflow : c.is_negative-overflow.result ≡ overflows n a b (a + b) =
    c.is_negative-overflow.ensures.is ∙ overflows-mask 64 n a b (omega arith) range.1 in
    let of : c.flag_if-3.result ≡ flag 11 (overflows n a b (a + b)) = c.flag_if-3.ensures.value
    ∙ ap (λ (s : Bool). cond s 2048 0) overflow in
    let rest : c.logic_flags.result ≡ result_flags n (a + b) = c.logic_flags.ensures.value
    ∙ result_flags-mod 64 n (a + b) range.0 range.1 in
    record { value = rw (cf, af, of, rest) }
