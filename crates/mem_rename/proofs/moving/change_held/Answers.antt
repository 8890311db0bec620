use Rattle.std.proofs.Common.{Some, None, sym, subst, ◌≡◌}
use Rattle.sfs_base.specs.Name.{bucket as name_bucket}
use Rattle.tree_laws.proofs.Joined.{bucket_small}
use Rattle.mem_rename.specs.Moving.{without_row, less_one, at_file, bucket_moved, ChangesHeld}
use Rattle.mem_rename.proofs.HeldChanges.{both_held, bucket_step, file_step}
use Rattle.mem_rename.proofs.Changeable.{still_can}
use Rattle.mem_rename.proofs.moving.change_held.Goals as goal

pub all_stand-requires-clause-held : goal.all_stand-requires-clause-held
all_stand-requires-clause-held c =
    let one = bucket_step c.args.nodes c.args.move_.now.directory (name_bucket c.args.move_.now.name)
    (without_row c.args.move_.now.name) c.args.core.now c.remove_row.new.core c.requires.within.old (bucket_small c.args.move_.now.name) c.remove_row.ensures in
    (still_can c.args.nodes c.args.move_.now c.args.plan c.requires.within c.requires.plan _ _ c.args.core.now c.remove_row.new.core one
    c.requires.held).directory

pub all_stand-requires-2-clause-held : goal.all_stand-requires-2-clause-held
all_stand-requires-2-clause-held c =
    let one = bucket_step c.args.nodes c.args.move_.now.directory (name_bucket c.args.move_.now.name)
    (without_row c.args.move_.now.name) c.args.core.now c.remove_row.new.core c.requires.within.old (bucket_small c.args.move_.now.name) c.remove_row.ensures in
    let can =
    still_can c.args.nodes c.args.move_.now c.args.plan c.requires.within c.requires.plan _ _ c.args.core.now c.remove_row.new.core one c.requires.held in
    (still_can c.args.nodes c.args.move_.now c.args.plan c.requires.within c.requires.plan _ _ c.remove_row.new.core c.all_stand.new.core c.all_stand.ensures
    can).comes

pub lower_links-requires : goal.lower_links-requires
lower_links-requires c =
    let one = bucket_step c.args.nodes c.args.move_.now.directory (name_bucket c.args.move_.now.name)
    (without_row c.args.move_.now.name) c.args.core.now c.remove_row.new.core c.requires.within.old (bucket_small c.args.move_.now.name) c.remove_row.ensures in
    let can =
    still_can c.args.nodes c.args.move_.now c.args.plan c.requires.within c.requires.plan _ _ c.args.core.now c.remove_row.new.core one c.requires.held in
    let again =
    still_can c.args.nodes c.args.move_.now c.args.plan c.requires.within c.requires.plan _ _ c.remove_row.new.core c.all_stand.new.core c.all_stand.ensures
    can in
    rw c.in-Some.is at
    (still_can c.args.nodes c.args.move_.now c.args.plan c.requires.within c.requires.plan _ _ c.all_stand.new.core c.all_stand-2.new.core
    c.all_stand-2.ensures again).file

pub returns-in-Some : goal.returns-in-Some
returns-in-Some c =
    let one = bucket_step c.args.nodes c.args.move_.now.directory (name_bucket c.args.move_.now.name)
    (without_row c.args.move_.now.name) c.args.core.now c.remove_row.new.core c.requires.within.old (bucket_small c.args.move_.now.name) c.remove_row.ensures in
    let two = both_held c.args.nodes _ _ _ _ c.args.core.now c.remove_row.new.core c.all_stand.new.core one c.all_stand.ensures in
    let three = both_held c.args.nodes _ _ _ _ c.args.core.now c.all_stand.new.core c.all_stand-2.new.core two c.all_stand-2.ensures in
    let last = file_step c.args.nodes c.in-Some.node less_one c.all_stand-2.new.core c.lower_links.new.core
    (c.requires.plan.file c.in-Some.node c.in-Some.is) c.lower_links.ensures in
    subst (λ o. ChangesHeld c.args.nodes (bucket_moved c.args.move_.now c.args.plan) (at_file o less_one) c.args.core.now c.lower_links.new.core)
    (sym c.in-Some.is)
    (both_held c.args.nodes _ _ _ _ c.args.core.now c.all_stand-2.new.core c.lower_links.new.core three last)

pub returns-in_default : goal.returns-in_default
returns-in_default c =
    let one = bucket_step c.args.nodes c.args.move_.now.directory (name_bucket c.args.move_.now.name)
    (without_row c.args.move_.now.name) c.args.core.now c.remove_row.new.core c.requires.within.old (bucket_small c.args.move_.now.name) c.remove_row.ensures in
    let two = both_held c.args.nodes _ _ _ _ c.args.core.now c.remove_row.new.core c.all_stand.new.core one c.all_stand.ensures in
    let three = both_held c.args.nodes _ _ _ _ c.args.core.now c.all_stand.new.core c.all_stand-2.new.core two c.all_stand-2.ensures in
    subst (λ o. ChangesHeld c.args.nodes (bucket_moved c.args.move_.now c.args.plan) (at_file o less_one) c.args.core.now c.all_stand-2.new.core)
    (sym (none_of c.args.plan.file c.in_default.not-Some))
    three
  where
    none_of : (o : Rattle.std.proofs.Common.Option Rattle.sfs_base.specs.declared.numbers.NodeId.NodeId)
        → ((n : Rattle.sfs_base.specs.declared.numbers.NodeId.NodeId) → o ≡ Some n → ⊥) → o ≡ None
    none_of None not = Rattle.std.proofs.Common.refl
    none_of (Some n) not = absurd (not n Rattle.std.proofs.Common.refl)
