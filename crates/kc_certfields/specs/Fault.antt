-- Faults of a certificate's bytes, this project's own.
use Rattle.std.specs.Prelude.{ℕ}
use Rattle.kc_certfields.specs.declared.fault.CertFault.{CertFault}
use Rattle.kc_certfields.specs.declared.fault.CertKind.{CertKind}
use Rattle.kc_certfields.specs.declared.fault.CertKind.TheVariants.{NoMemory}

abbrev pub fault : CertKind → ℕ → CertFault
fault kind at = record { kind = kind; at = at }

abbrev pub no_memory : CertFault
no_memory = fault NoMemory 0
