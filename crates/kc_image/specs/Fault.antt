-- The fault of an image file: the kind of the first rule that is broken and its place. This project's own.
use Rattle.std.specs.Prelude.{ℕ}
use Rattle.kc_image.specs.declared.fault.ImageFault.{ImageFault}
use Rattle.kc_image.specs.declared.fault.ImageKind.{ImageKind}
use Rattle.kc_image.specs.declared.fault.ImageKind.TheVariants.{NoMemory}

abbrev pub fault : ImageKind → ℕ → ImageFault
fault kind at = record { kind = kind; at = at }

-- running out of memory, which is said of no file
abbrev pub no_memory : ImageFault
no_memory = fault NoMemory 0
