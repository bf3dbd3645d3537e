use Rattle.std.proofs.Common.{◌≡◌, ◌^◌, ◌<◌, ap, ◌∙◌, sym, subst, arith}
use Rattle.std.specs.Int.{bit_at}
use Rattle.kc_words.specs.Range.{Range}
use Rattle.kc_bits.specs.KnownBits.{KnownBits}
use Rattle.kc_bits.specs.Bits.{StandsFor, known_but, unknown, bits_prefix}
use Rattle.kc_bits.proofs.Prefix.{prefix_sound, prefix_exact}
use Rattle.kc_bits.proofs.bits.Bits.prefix.Goals as goal

pub returns : goal.returns
returns c =
    let span = c.args.span.now in
    let value : c.known_but.result ≡ bits_prefix span =
    c.known_but.ensures ∙ ap (known_but c.span.inside.from) c.up_to_highest.ensures ∙ ap bits_prefix c.span.view_is in
    let to : c.span.inside.to ≡ span.to = ap (λ (r : Range). r.to) c.span.view_is in
    let inside : c.span.inside.to < 2 ^ 64 = omega arith in
    let fits : span.to < 2 ^ 64 = omega (arith, to, inside) in
    record {
      value = value;
      sound = λ a h. subst (λ (r : KnownBits). StandsFor r a) (sym value) (prefix_sound span c.requires fits a h);
      exact = λ i k e. prefix_exact span c.requires fits i k
          (subst (λ (r : KnownBits). bit_at (unknown r) i ≡ 1) value e);
    }
