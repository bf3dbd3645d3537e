use Rattle.std.proofs.Common.{◌-◌, ◌*◌, ◌≤◌, length, sym, ◌∙◌, arith}
use Rattle.std.proofs.lemmas.Bool.{leb-true}
use Rattle.kc_state.proofs.ApartLemmas.{untracked_apart}
use Rattle.kc_state.proofs.slot_words.SlotWords.is_near_apart.Goals as goal

-- no tracked word has these slots
pub returns-then-part-ne0 : goal.returns-then-part-ne0
returns-then-part-ne0 c =
    let d = c.args.self.now.cfg.now in
    let part = c.args.part in
    λ e.
    let past : length d.words ≤ 8 * part - 8 = leb-true (length d.words) (8 * part - 8) (sym c.is_past_words.ensures ∙ e) in
    untracked_apart d c.args.self.now.key.now c.args.l c.args.size part (omega (arith, c.if-part-ne0.true)) c.requires past
