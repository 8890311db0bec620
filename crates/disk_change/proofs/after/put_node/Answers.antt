use Rattle.std.proofs.Common.{sym, ap, subst, take, ◌∙◌}
use Rattle.disk_nodes.specs.Nodes.{old_entry}
use Rattle.disk_change.specs.AllBuilt.{entry_after}
use Rattle.disk_change.specs.Parts.{BuiltParts, CanBePut, built_in, slots_begun}
use Rattle.disk_change.specs.Patched.{patched}
use Rattle.disk_change.proofs.after.put_node.Goals as goal

pub put_patch-slots-requires : goal.put_patch-slots-requires
put_patch-slots-requires c =
    let begun = c.taken_slots.ensures.slots ∙ ap (λ (b : BuiltParts). slots_begun c.args.old.now.items b.own b.node) c.built.view_is in
    let can =
    subst (λ (b : BuiltParts). CanBePut c.taken_slots.result b) (sym c.built.view_is) (subst (λ l. CanBePut l c.args.built) (sym begun) c.requires) in
    record { fits = can.fits; room = can.room }

pub returns : goal.returns
returns c =
    let inside = c.built.inside in
    let slots = c.put_patch-slots.ensures ∙ ap (λ l. take inside.end (patched inside.patch l)) c.taken_slots.ensures.slots in
    record {
      entry =
          (λ i. old_entry (record { 0 = inside.node.0 }) inside.number inside.meta inside.tables.items (slots i))
          ∙ ap (λ (b : BuiltParts). entry_after (built_in c.args.old.now.items b)) c.built.view_is;
      others = λ other apart. c.taken_slots.ensures.others other (λ e. apart (e ∙ ap (λ (b : BuiltParts). b.node) c.built.view_is));
    }
