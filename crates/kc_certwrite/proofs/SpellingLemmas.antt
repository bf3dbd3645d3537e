-- A table of the form of C2 has a spelling: a valid description has at most 16 stacks and 32 words, and the context of
-- each key is one by its number.
use Rattle.std.proofs.Common.{◌≡◌, ℕ, ◌+◌, ◌-◌, ◌<◌, ◌≤◌, List, length, drop, get_or, Option, ap, ◌∙◌, subst, arith}
use Rattle.std.specs.Prelude.{All, IfSome}
use Rattle.std.proofs.lemmas.List.{drop-drop}
use Rattle.std.proofs.lemmas.List.Elements.{All-drop, All-map}
use Rattle.std.proofs.lemmas.Option.{slice_get-get_or}
use Rattle.kc_regions.specs.Description.{Description}
use Rattle.kc_regions.specs.Valid.{IsValid}
use Rattle.kc_regions.proofs.LayoutLemmas.{laid}
use Rattle.kc_value.specs.AbsValue.{AbsValue}
use Rattle.kc_value.specs.Value.{value_top}
use Rattle.kc_state.specs.Key.{IsKey}
use Rattle.kc_cert.specs.Form.{HasForm, IsContext}
use Rattle.kc_cert.specs.Table.{keys_of}
use Rattle.kc_cert.specs.declared.certificate.Certificate.{Certificate}
use Rattle.kc_cert.specs.declared.certificate.Context.{Context}
use Rattle.kc_certfields.specs.States.{user_slots}
use Rattle.kc_certform.specs.HasSpelling.{HasSpelling}

keys-kept : (d : Description) (cert : Certificate) → HasForm d cert → All (IsKey cert.stacks) (keys_of cert)
keys-kept d cert form = All-map (IsKey cert.stacks) (λ c. c.key) cert.contexts (λ k e below. (context k e below).key)
  where
    context : (k : ℕ) (e : Context) → k < length cert.contexts → IsContext d cert k (get_or cert.contexts k e)
    context k e below =
        subst (λ (o : Option Context). IfSome o (IsContext d cert k)) (slice_get-get_or cert.contexts k e below)
        (form.contexts k)

user-top : (n : ℕ) (slots : List AbsValue) → n ≤ 32 → All (λ v. v ≡ value_top) (drop (8 + n) slots)
    → All (λ v. v ≡ value_top) (drop user_slots slots)
user-top n slots few top =
    let count : 8 + n + (32 - n) ≡ user_slots = omega (arith, few) in
    let same : drop (32 - n) (drop (8 + n) slots) ≡ drop user_slots slots =
    drop-drop (32 - n) (8 + n) slots ∙ ap (λ (k : ℕ). drop k slots) count in
    subst (λ (vs : List AbsValue). All (λ v. v ≡ value_top) vs) same
    (All-drop (λ (v : AbsValue). v ≡ value_top) (32 - n) (drop (8 + n) slots) top)

pub spelled : (d : Description) (cert : Certificate) → IsValid d → HasForm d cert → HasSpelling cert
spelled d cert valid form = record {
  stacks = omega (arith, form.stacks, (laid d valid).stack_count);
  user = user-top (length d.words) cert.user.slots valid.ranges.word_count form.user_slots;
  few_contexts = form.few_contexts;
  few_nodes = form.few_nodes;
  keys = keys-kept d cert form;
  keys_rise = form.keys_rise;
  nodes = form.nodes;
  nodes_rise = form.nodes_rise;
}
