-- What a table of a description has at a key, or the fault of that key: this project's own, over the data of TOML.
use Rattle.std.specs.Prelude.{codes, ℕ, ℤ, pos, Bool, false, not, List, [], ◌∷◌, Option, Some, None, is_some, option_map, ok_or, Result, Ok, Err, if◌then◌else◌}
use Rattle.std.specs.List.{list_any}
use Rattle.std.specs.Option.{option_and_then}
use Rattle.std.specs.Str.{bytes_eq}
use Rattle.toml.specs.Data.{Data, Items, no_items, item, Members, no_members, member, get_member, as_integer, as_bool, as_str, as_array, as_table}
use Rattle.kc_rules.specs.Rules.{refuse, ◌>>=◌}
use Rattle.kc_config.specs.declared.fault.ConfigFault.{ConfigFault}
use Rattle.kc_config.specs.declared.fault.ConfigFault.TheVariants.{Missing, WrongKind, OutOfRange, UnknownKey, NoSymbol}
use Rattle.kc_config.specs.declared.path.Place.{Place}
use Rattle.kc_config.specs.declared.path.Place.TheVariants.{AtTop, InCpu, InRegion, InGate, InHandler, InWord}
use Rattle.kc_config.specs.Paths.{path}
use Rattle.kc_config.specs.Addresses.{Written, written, meant, is_address}

-- a table at its place, beside the symbols that its address texts may name
pub record Section : Type 0 where
  pub place : Place
  pub members : Members
  pub symbols : List (List ℕ × ℕ)

-- the value that a key has to have, of any type
abbrev pub value : Section → List ℕ → Result Data ConfigFault
value at key = ok_or (get_member key at.members) (Missing (path at.place key))

-- what was found in a value, where the value is of the wanted kind
abbrev pub of_kind : {A : Type 0} → Section → List ℕ → Option A → Result A ConfigFault
of_kind at key found = ok_or found (WrongKind (path at.place key))

-- a rule on the value of a key
abbrev pub in_range : Section → List ℕ → Bool → Result (Unit {0}) ConfigFault
in_range at key holds = refuse (not holds) (OutOfRange (path at.place key))

-- a key that may be absent
abbrev pub or_default : {A : Type 0} → Section → List ℕ → A → Result A ConfigFault → Result A ConfigFault
or_default at key absent read = if is_some (get_member key at.members) then read else Ok absent

unfoldable pub boolean : Section → List ℕ → Result Bool ConfigFault
boolean at key = do
  found ← value at key
  of_kind at key (as_bool found)

-- a boolean that is false where it is absent
abbrev pub flag : Section → List ℕ → Result Bool ConfigFault
flag at key = or_default at key false (boolean at key)

unfoldable pub integer : Section → List ℕ → Result ℤ ConfigFault
integer at key = do
  found ← value at key
  of_kind at key (as_integer found)

abbrev pub natural : ℤ → Option ℕ
natural (pos n) = Some n
natural _ = None

-- an integer of 0 and more
unfoldable pub number : Section → List ℕ → Result ℕ ConfigFault
number at key = do
  z ← integer at key
  ok_or (natural z) (OutOfRange (path at.place key))

-- an integer for which the test holds
unfoldable pub number_in : (ℕ → Bool) → Section → List ℕ → Result ℕ ConfigFault
number_in test at key = do
  n ← number at key
  ok ← in_range at key (test n)
  Ok n

unfoldable pub text : Section → List ℕ → Result (List ℕ) ConfigFault
text at key = do
  found ← value at key
  of_kind at key (as_str found)

-- a text that is one of a list of words, by what each means
unfoldable pub word : {A : Type 0} → (List ℕ → Option A) → Section → List ℕ → Result A ConfigFault
word meaning at key = do
  t ← text at key
  ok_or (meaning t) (OutOfRange (path at.place key))

-- an address: its form, then its name, then its sum
unfoldable pub address : Section → List ℕ → Result ℕ ConfigFault
address at key = do
  t ← text at key
  w ← of_kind at key (written t)
  a ← ok_or (meant at.symbols w) (NoSymbol (path at.place key))
  ok ← in_range at key (is_address a)
  Ok a

-- an address for which the test holds
unfoldable pub address_in : (ℕ → Bool) → Section → List ℕ → Result ℕ ConfigFault
address_in test at key = do
  a ← address at key
  ok ← in_range at key (test a)
  Ok a

unfoldable pub table : Section → List ℕ → Result Members ConfigFault
table at key = do
  found ← value at key
  of_kind at key (as_table found)

abbrev pub listed : Items → List Data
listed no_items = []
listed (item d ds) = d ∷ listed ds

unfoldable pub array : Section → List ℕ → Result (List Data) ConfigFault
array at key = do
  found ← value at key
  of_kind at key (option_map listed (as_array found))

-- what every item is, where each of them is something
abbrev pub every : {A B : Type 0} → (A → Option B) → List A → Option (List B)
every f [] = Some []
every f (x ∷ xs) = option_and_then (λ y. option_map (λ ys. y ∷ ys) (every f xs)) (f x)

-- an array of values of one type
unfoldable pub array_of : {A : Type 0} → (Data → Option A) → Section → List ℕ → Result (List A) ConfigFault
array_of kind at key = do
  items ← array at key
  of_kind at key (every kind items)

-- the form of an address text
abbrev pub form_of : Data → Option Written
form_of d = option_and_then written (as_str d)

-- the keys of each table
abbrev pub known_keys : Place → List (List ℕ)
known_keys AtTop = codes "version" ∷ codes "cpu" ∷ codes "region" ∷ codes "gate" ∷ codes "handler" ∷ codes "word" ∷ []
known_keys InCpu =
    codes "kernel_gs" ∷ codes "kernel_cr3" ∷ codes "user_cr3" ∷ codes "idt" ∷ codes "gdt" ∷ codes "tss"
    ∷ codes "syscall" ∷ codes "fmask" ∷ codes "star_kernel" ∷ codes "star_user" ∷ codes "user_cs32"
    ∷ codes "user_gs_writes" ∷ codes "rsp0" ∷ codes "ist" ∷ []
known_keys (InRegion i) =
    codes "name" ∷ codes "at" ∷ codes "size" ∷ codes "kind" ∷ codes "user_map" ∷ codes "write" ∷ codes "exec"
    ∷ codes "may_fault" ∷ codes "quiet" ∷ codes "marked" ∷ []
known_keys (InGate i) = codes "vector" ∷ codes "entry" ∷ codes "ist" ∷ codes "trap" ∷ codes "user" ∷ []
known_keys (InHandler i) =
    codes "entry" ∷ codes "stack" ∷ codes "events" ∷ codes "after_if" ∷ codes "returns" ∷ codes "frame" ∷ []
known_keys (InWord i) = codes "at" ∷ codes "value" ∷ []

-- the first key, by the order of bytes, that the table may not have
abbrev pub first_unknown : Place → Members → Option (List ℕ)
first_unknown place no_members = None
first_unknown place (member k d ms) =
    if list_any (bytes_eq k) (known_keys place) then first_unknown place ms else Some k

abbrev pub unknown : Section → Option (List ℕ) → Result (Unit {0}) ConfigFault
unknown at None = Ok tt
unknown at (Some key) = Err (UnknownKey (path at.place key))

-- a table has no other keys
abbrev pub only_keys : Section → Result (Unit {0}) ConfigFault
only_keys at = unknown at (first_unknown at.place at.members)
