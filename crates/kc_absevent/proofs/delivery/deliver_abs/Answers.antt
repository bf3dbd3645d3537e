use Rattle.std.proofs.Common.{◌≡◌, ◌∙◌, subst}
use Rattle.kc_state.specs.AbsDelivery.{delivery}
use Rattle.kc_state.specs.WellFormed.{IsStateWellFormed}
use Rattle.kc_absevent.specs.Ends.{Delivers}
use Rattle.kc_absevent.proofs.EntryForms.{delivery_entry, ends_keyed, ends_formed}
use Rattle.kc_absevent.proofs.delivery.deliver_abs.Goals as goal

-- the interruption is that of the arguments
pub returns : goal.returns
returns c =
    let d = c.args.cfg.now in
    let key = c.args.key.now in
    let site = c.args.site.now in
    let s = c.args.state.now in
    let of = c.of-interruption.ensures in
    let same : c.deliver.result ≡ delivery d key site s c.args.insn.now c.args.vector =
    c.deliver.ensures.value ∙ (λ j. delivery (of.cfg j) (of.key j) (of.site j) (of.state j) (of.insn j) c.args.vector) in
    let delivers = subst (Delivers c.put_entry.result c.args.out.now c.put_entry.new.out) same c.put_entry.ensures in
    let entry = delivery_entry d key site s c.args.insn.now c.args.vector c.tell.ensures.valid c.requires.stack in
    record {
      value = delivers;
      key = ends_keyed d (IsStateWellFormed d key s) c.put_entry.result c.args.out.now c.put_entry.new.out
          (delivery d key site s c.args.insn.now c.args.vector) delivers entry;
      well_formed = ends_formed d (IsStateWellFormed d key s) c.put_entry.result c.args.out.now c.put_entry.new.out
          (delivery d key site s c.args.insn.now c.args.vector) delivers entry;
    }
