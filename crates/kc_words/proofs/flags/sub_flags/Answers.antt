use Rattle.std.proofs.Common.{ℕ, ◌+◌, ◌-◌, ◌%◌, ◌^◌, Bool, cond, ltb, sym, ap, ◌∙◌, ◌≡◌, ◌<◌, arith}
use Rattle.kc_words.specs.Flags.{bits_of, flag, borrows, overflows, difference, result_flags}
use Rattle.kc_words.proofs.FlagLemmas.{bits_in_range, half_borrow, difference-mod, overflows-mask_minus, result_flags-mod}
use Rattle.kc_words.proofs.flags.sub_flags.Goals as goal

-- each of the four parts is the definition's
pub returns : goal.returns
returns c =
    let a : ℕ = c.args.a in
    let b : ℕ = c.args.b in
    let n : ℕ = bits_of c.args.w in
    let range = bits_in_range c.args.w in
    let fits : b < 2 ^ 64 = omega arith in
    let borrow : ltb c.cut.result c.cut-2.result ≡ borrows n a b = rw (c.cut.ensures.value, c.cut-2.ensures.value) in
    let cf : c.flag_if.result ≡ flag 0 (borrows n a b) = c.flag_if.ensures.value
    ∙ ap (λ (s : Bool). cond s 1 0) borrow in
    let af : c.flag_if-2.result ≡ flag 4 (borrows 4 a b) = c.flag_if-2.ensures.value
    ∙ ap (λ (s : Bool). cond s 16 0) (half_borrow a b) in
    let overflow : c.is_negative-overflow.result ≡ overflows n b (difference n a b) a =
    c.is_negative-overflow.ensures.is ∙ overflows-mask_minus 64 n a b (omega arith) range.1 fits in
    let of : c.flag_if-3.result ≡ flag 11 (overflows n b (difference n a b) a) =
    c.flag_if-3.ensures.value ∙ ap (λ (s : Bool). cond s 2048 0) overflow in
    let whole : ℕ = (a + (2 ^ 64 - b)) % 2 ^ 64 in
    let rest : c.logic_flags.result ≡ result_flags n (difference n a b) =
    c.logic_flags.ensures.value ∙ sym (result_flags-mod n n whole range.0 (omega arith))
    ∙ ap (result_flags n) (difference-mod 64 n a b range.1 fits) in
    record { value = rw (cf, af, of, rest) }
