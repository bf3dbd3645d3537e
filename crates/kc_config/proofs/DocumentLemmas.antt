-- The document: UTF-8 is decided by a test, and the library answers for each outcome.
use Rattle.std.proofs.Common.{◌≡◌, ℕ, Bool, true, false, List, Some, None, Ok, Err, refl}
use Rattle.std.specs.Str.{IsUtf8, is_utf8}
use Rattle.std.proofs.lemmas.Str.{IsUtf8-from_is_utf8, is_utf8-from_IsUtf8}
use Rattle.toml.specs.Data.{Members}
use Rattle.toml.specs.Parse.{parse_document}
use Rattle.kc_config.specs.declared.fault.ConfigFault.TheVariants.{Syntax}
use Rattle.kc_config.specs.Reading.{document}

pub document_is : (text : List ℕ) (found : Members) → IsUtf8 text → parse_document text ≡ Some found → document text
    ≡ Ok found
document_is text found utf8 parsed = rw (is_utf8-from_IsUtf8 text utf8, parsed) refl

syntax_by : (text : List ℕ) (b : Bool) → is_utf8 text ≡ b → (IsUtf8 text → parse_document text ≡ None) → document text
    ≡ Err Syntax
syntax_by text true e refused = rw (e, refused (IsUtf8-from_is_utf8 text e)) refl
syntax_by text false e refused = rw e refl

pub syntax_is : (text : List ℕ) → (IsUtf8 text → parse_document text ≡ None) → document text ≡ Err Syntax
syntax_is text refused = syntax_by text (is_utf8 text) refl refused
