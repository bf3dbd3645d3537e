-- The events of a list of names: what is asked of the texts that the code holds is asked of their bytes.
use Rattle.std.proofs.Common.{◌≡◌, ℕ, Bool, true, false, codes, List, map, Bor, Ok, Err, refl}
use Rattle.std.specs.List.{list_all, list_any}
use Rattle.std.specs.Str.{bytes_eq}
use Rattle.std.proofs.lemmas.List.Folds.{list_all-map}
use Rattle.toml.specs.Data.{as_str}
use Rattle.kc_config.specs.declared.fault.ConfigFault.TheVariants.{OutOfRange}
use Rattle.kc_config.specs.Paths.{path}
use Rattle.kc_config.specs.Keys.{Section, array_of}
use Rattle.kc_config.specs.Tables.{events, is_event}
use Rattle.kc_config.proofs.ArrayLemmas.{list_any-map}

pub events_out : (at : Section) (texts : List (Bor (List ℕ))) → array_of as_str at (codes "events")
    ≡ Ok (map (λ t. t.now) texts)
    → list_all (λ t. is_event t.now) texts ≡ false → events at ≡ Err (OutOfRange (path at.place (codes "events")))
unfolding events
events_out at texts found none = rw (found, list_all-map is_event (λ (t : Bor (List ℕ)). t.now) texts, none) refl

pub events_in : (at : Section) (texts : List (Bor (List ℕ))) (irq debug fault : Bool)
    → array_of as_str at (codes "events") ≡ Ok (map (λ t. t.now) texts)
    → list_all (λ t. is_event t.now) texts ≡ true
    → irq ≡ list_any (λ t. bytes_eq t.now (codes "irq")) texts
    → debug ≡ list_any (λ t. bytes_eq t.now (codes "debug")) texts
    → fault ≡ list_any (λ t. bytes_eq t.now (codes "fault")) texts
    → events at ≡ Ok (record { irq = irq; debug = debug; fault = fault })
unfolding events
events_in at texts irq debug fault found all is_irq is_debug is_fault =
    let now = λ (t : Bor (List ℕ)). t.now in
    rw (
      found,
      list_all-map is_event now texts,
      all,
      list_any-map (λ t. bytes_eq t (codes "irq")) now texts,
      list_any-map (λ t. bytes_eq t (codes "debug")) now texts,
      list_any-map (λ t. bytes_eq t (codes "fault")) now texts,
      is_irq,
      is_debug,
      is_fault,
    ) refl
