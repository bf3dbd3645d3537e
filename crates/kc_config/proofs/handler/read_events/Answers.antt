use Rattle.std.proofs.Common.{ℕ, codes, List, Bor, ap, sym, ◌∙◌}
use Rattle.std.specs.List.{list_all, list_any}
use Rattle.std.specs.Str.{bytes_eq}
use Rattle.kc_config.specs.Tables.{is_event}
use Rattle.kc_config.specs.Seen.{seen}
use Rattle.kc_config.proofs.ArrayLemmas.{as_refused}
use Rattle.kc_config.proofs.EventLemmas.{events_out, events_in}
use Rattle.kc_config.proofs.handler.read_events.Goals as goal

-- what the calls were asked of is the list of texts
pub returns-then-not-are_events : goal.returns-then-not-are_events
returns-then-not-are_events c =
    let all = c.are_events.ensures ∙ ap (list_all (λ (t : Bor (List ℕ)). is_event t.now)) c.deref.ensures.value in
    as_refused _ _ _ c.out_of_range.ensures
    (events_out (seen c.args.table.now) c.in_ok-texts.texts.items c.in_ok-texts.ensures
    (sym all ∙ c.if-not-are_events.true))

pub returns : goal.returns
returns c =
    let all = c.are_events.ensures ∙ ap (list_all (λ (t : Bor (List ℕ)). is_event t.now)) c.deref.ensures.value in
    events_in (seen c.args.table.now) c.in_ok-texts.texts.items _ _ _ c.in_ok-texts.ensures
    (sym all ∙ c.if-not-are_events.false)
    (c.lists.ensures ∙ ap (list_any (λ (t : Bor (List ℕ)). bytes_eq t.now (codes "irq"))) c.deref-2.ensures.value)
    (c.lists-2.ensures ∙ ap (list_any (λ (t : Bor (List ℕ)). bytes_eq t.now (codes "debug"))) c.deref-3.ensures.value)
    (c.lists-3.ensures ∙ ap (list_any (λ (t : Bor (List ℕ)). bytes_eq t.now (codes "fault"))) c.deref-4.ensures.value)
