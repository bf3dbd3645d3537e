-- Look-ups and keys: a table's map beside the members that it stands for, entry by entry.
use Rattle.std.proofs.Common.{◌≡◌, ℕ, Bool, true, false, not, List, [], ◌∷◌, Option, Some, None, option_map, cond, Bor, String, Global, string_bytes, Ok, Err, refl}
use Rattle.std.specs.List.{list_any, find}
use Rattle.std.specs.Option.{option_copied}
use Rattle.std.specs.Map.{keys_of}
use Rattle.std.specs.Str.{bytes_eq}
use Rattle.toml.specs.View.{members_view}
use Rattle.toml.specs.declared.value.Value.{Value}
use Rattle.kc_config.specs.declared.path.Place.{Place}
use Rattle.kc_config.specs.declared.fault.ConfigFault.TheVariants.{OutOfRange}
use Rattle.kc_config.specs.Paths.{path}
use Rattle.kc_config.specs.Keys.{Section, number, number_in, known_keys, first_unknown}

abbrev pub is_known : Place → List ℕ → Bool
is_known place key = list_any (bytes_eq key) (known_keys place)

found_first : {A B : Type 0} (f : A → B) (known : Bool) (x : A) (rest : Option A) (due : Option B) → option_map f rest
    ≡ due
    → option_map f (cond (not known) (Some x) rest) ≡ cond known due (Some (f x))
found_first f true x rest due e = e
found_first f false x rest due e = refl

pub unknown_is : (place : Place) (es : List (String Global × Value))
    → option_map string_bytes (find (λ k. not (is_known place (string_bytes k))) (keys_of es)) ≡ first_unknown place
    (members_view es)
unknown_is place [] = refl
unknown_is place (e ∷ es) = found_first string_bytes (is_known place (string_bytes e.0)) e.0 _ _ (unknown_is place es)

pub seen_key : (r : Option (Bor (String Global))) → option_map (λ k. string_bytes k.now) r ≡ option_map string_bytes
    (option_copied r)
seen_key None = refl
seen_key (Some k) = refl

pub number_out : (test : ℕ → Bool) (at : Section) (key : List ℕ) (n : ℕ) → number at key ≡ Ok n → test n ≡ false
    → number_in test at key ≡ Err (OutOfRange (path at.place key))
unfolding number_in
number_out test at key n found out = rw (found, out) refl
