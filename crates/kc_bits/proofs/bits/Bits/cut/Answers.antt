use Rattle.std.proofs.Common.{◌≡◌, ℕ, ◌-◌, ◌^◌, true, bit_and, bit_or, sym, ap, ◌∙◌, subst}
use Rattle.kc_words.specs.Flags.{bits_of, cut}
use Rattle.kc_bits.specs.KnownBits.{KnownBits}
use Rattle.kc_bits.specs.Bits.{StandsFor, is_below, flipped, bits_cut}
use Rattle.kc_bits.specs.BitsLaws.{same_bits}
use Rattle.kc_bits.proofs.Cut.{cut_zeros, cut_apart, cut_sound, cut_monotone}
use Rattle.kc_bits.proofs.bits.Bits.cut.Goals as goal

-- what is made, mask by mask
made : (g : goal.After-cut-2) → KnownBits
made c = record { zeros = bit_or c.cut.result (2 ^ 64 - 1 - c.cut-above.result); ones = c.cut-2.result }

value : (c : goal.After-cut-2) → made c ≡ bits_cut (bits_of c.args.width) c.args.self.now
unfolding made
value c =
    let inside : KnownBits = record { zeros = c.self.inside.zeros; ones = c.self.inside.ones } in
    let zeros : bit_or c.cut.result (2 ^ 64 - 1 - c.cut-above.result) ≡ (bits_cut (bits_of c.args.width) inside).zeros =
    ap (λ (x : ℕ). bit_or x (flipped c.cut-above.result)) c.cut.ensures.value
    ∙ ap (λ (x : ℕ). bit_or (cut c.args.width c.self.inside.zeros) (flipped x)) c.cut-above.ensures.value
    ∙ cut_zeros c.args.width c.self.inside.zeros in
    same_bits (made c) (bits_cut (bits_of c.args.width) inside) zeros c.cut-2.ensures.value
    ∙ ap (bits_cut (bits_of c.args.width)) c.self.view_is

pub invariant_of-result : goal.invariant_of-result
unfolding made
invariant_of-result c =
    subst (λ (r : KnownBits). bit_and r.zeros r.ones ≡ 0) (sym (value c))
    (cut_apart c.args.width c.args.self.now c.tell.ensures.valid)

pub returns : goal.returns
unfolding made
returns c = record {
  value = value c;
  sound = λ x h s. subst (λ (r : KnownBits). StandsFor r (cut c.args.width x)) (sym (value c))
      (cut_sound c.args.width c.args.self.now x s);
  monotone = λ b h k.
      subst (λ (r : KnownBits). is_below r (bits_cut (bits_of c.args.width) b) ≡ true) (sym (value c))
      (cut_monotone c.args.width c.args.self.now b k);
}
