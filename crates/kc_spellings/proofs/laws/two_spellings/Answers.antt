use Rattle.kc_spellings.proofs.SpellingLaws.{spelled-1, spelled-2, read-of}
use Rattle.kc_spellings.proofs.laws.two_spellings.Goals as goal

pub returns : goal.returns
returns c = record {
  plain = spelled-1;
  shared = spelled-2;
  valid = λ bytes cert are h. let r = read-of bytes cert are h in r.is;
  spelled = λ bytes cert are h. let r = read-of bytes cert are h in r.has;
  one = λ bytes cert are h. let r = read-of bytes cert are h in r.one;
}
