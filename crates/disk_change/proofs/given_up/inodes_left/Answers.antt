use Rattle.std.proofs.Common.{◌≡◌, ◌<◌, ◌++◌, ◌∷◌, [], length, map, filter, not, nat_eq, take, subst, sym, ap, ◌∙◌, Contains}
use Rattle.std.specs.Prelude.{◌↔◌}
use Rattle.std.proofs.lemmas.List.{map-append, take_all}
use Rattle.sfs_base.proofs.BasicNumbers.{not_same}
use Rattle.disk_nodes.specs.declared.old.OldEntry.{OldEntry}
use Rattle.disk_change.specs.GivenUp.{entry_number}
use Rattle.disk_change.specs.Links.{times_in}
use Rattle.disk_change.specs.Planned.{has_listed_node}
use Rattle.disk_change.proofs.Leaving.{one_leaves, one_stays}
use Rattle.disk_change.proofs.given_up.inodes_left.Goals as goal
use Rattle.disk_change.proofs.given_up.inodes_left.Goals.{then-times_of-ne0+in_ok-push, else-times_of-ne0}

pub loop-entry-preserved : goal.loop-entry-preserved
loop-entry-preserved c =
    let old = c.args.old.now in
    let leaving = c.args.leaving.now in
    let entry : OldEntry = c.entry-item.result in
    let i = c.loop-entry.entry-index in
    let within : i < length old = c.loop-entry-test.true in
    let times : c.times_of.result ≡ times_in leaving entry.node.0 = c.times_of.ensures ∙ ap (λ (e : OldEntry). times_in leaving e.node.0) c.entry.view_is in
    elim c.if-times_of-ne0.branch [
      | then-times_of-ne0+in_ok-push w ↦
          ap (λ v. v.items) w.inodes-is ∙ w.in_ok-push.ensures.items
          ∙ (λ j. c.loop-entry.invariant j ++ entry_number (c.entry.view_is j) ∷ [])
          ∙ sym (map-append entry_number (filter (has_listed_node leaving) (take i old)) (entry ∷ []))
          ∙ sym (ap (map entry_number) (one_leaves leaving old i entry within c.entry-item.is (ap not (not_same (times_in leaving entry.node.0) 0 (λ e. w.if-times_of-ne0.true (times ∙ e))))))
      | else-times_of-ne0 w ↦
          ap (λ v. v.items) w.inodes-is ∙ c.loop-entry.invariant
          ∙ sym (ap (map entry_number) (one_stays leaving old i entry within c.entry-item.is (ap (λ n. not (nat_eq n 0)) (sym times ∙ w.if-times_of-ne0.false))))
    ]

pub returns-clause-each : goal.returns-clause-each
returns-clause-each c = λ inode. subst (λ numbers. Contains c.ascending.result.items inode ↔ Contains numbers inode)
    (c.loop-entry.invariant
    ∙ ap (λ l. map entry_number (filter (has_listed_node c.args.leaving.now) l)) (take_all c.loop-entry.entry-index c.args.old.now c.loop-entry-test.false))
    (c.ascending.ensures.each inode)
