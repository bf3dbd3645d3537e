-- The request that the code holds, as the names and numbers alone.
use Rattle.kc_top.specs.declared.request.Inputs.{Inputs as InputNames}
use Rattle.kc_top.specs.declared.request.Request.{Request as Named}
use Rattle.kc_top.specs.declared.request.Request.TheVariants as named
use Rattle.kc_top.specs.Words.{Inputs, Request, Check, Find, Explain, ExplainCert, Replay, Gen, Upgrade}

abbrev pub inputs_of : InputNames → Inputs
inputs_of names = record { image = names.image.now; config = names.config.now }

abbrev pub asked : Named → Request
asked (named.Check names cert) = Check (inputs_of names) cert.now
asked (named.Find names) = Find (inputs_of names)
asked (named.Explain names) = Explain (inputs_of names)
asked (named.ExplainCert names cert) = ExplainCert (inputs_of names) cert.now
asked (named.Replay names trace) = Replay (inputs_of names) trace.now
asked (named.Gen made) = Gen made.seed made.size
asked (named.Upgrade cert) = Upgrade cert.now
