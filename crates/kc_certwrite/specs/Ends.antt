-- How writing a certificate of version 2 may end other than well, this project's own.
use Rattle.std.specs.Prelude.{◌≡◌, ℕ, List}
use Rattle.kc_io.specs.Sink.{SinkState, Refuses}
use Rattle.kc_certwrite.specs.declared.sharing.WriteEnd.{WriteEnd}
use Rattle.kc_certwrite.specs.declared.sharing.WriteEnd.TheVariants.{Failed, NoMemory}

-- a piece of the text was refused; or memory ran out before anything was written
abbrev pub EndsBy : SinkState → SinkState → List ℕ → WriteEnd → Type 0
EndsBy before after text Failed = Refuses before after text
EndsBy before after text NoMemory = after ≡ before
