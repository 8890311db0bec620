use Rattle.std.proofs.Common.{◌≡◌, ◌<◌, ◌+◌, ℕ, List, length, filter, not, nat_eq, take, subst, sym, ap, ◌∙◌, Contains}
use Rattle.std.specs.Prelude.{◌↔◌, ◌⊎◌}
use Rattle.std.proofs.lemmas.List.{take_all}
use Rattle.sfs_base.proofs.BasicNumbers.{not_same}
use Rattle.block_map.specs.Kept.{pointer_kept}
use Rattle.block_map.specs.RemapLaws.{IsHeld}
use Rattle.disk_change.specs.GivenUp.{IsLeftByGone}
use Rattle.disk_change.specs.Links.{times_in}
use Rattle.disk_change.specs.Planned.{has_listed_node}
use Rattle.disk_nodes.specs.declared.old.OldEntry.{OldEntry}
use Rattle.disk_change.proofs.Leaving.{one_leaves, one_stays, held_more}
use Rattle.disk_change.proofs.given_up.blocks_left.Goals as goal
use Rattle.disk_change.proofs.given_up.blocks_left.Goals.{then-times_of-ne0+in_ok-push_held, else-times_of-ne0}

pub loop-entry-preserved : goal.loop-entry-preserved
loop-entry-preserved c =
    let old = c.args.old.now in
    let leaving = c.args.leaving.now in
    let entry : OldEntry = c.entry-item.result in
    let i = c.loop-entry.entry-index in
    let within : i < length old = c.loop-entry-test.true in
    let times : c.times_of.result ≡ times_in leaving entry.node.0 = c.times_of.ensures ∙ ap (λ (e : OldEntry). times_in leaving e.node.0) c.entry.view_is in
    elim c.if-times_of-ne0.branch [
      | then-times_of-ne0+in_ok-push_held w ↦
          subst
          (λ blocks. (block : ℕ) → Contains blocks block
          ↔ (Contains c.args.freed.items block ⊎ IsLeftByGone (filter (has_listed_node leaving) (take (i + 1) old)) block))
          (sym (ap (λ v. v.items) w.blocks-is))
          (held_more (filter (has_listed_node leaving) (take i old)) (filter (has_listed_node leaving) (take (i + 1) old)) entry c.args.freed.items
          c.loop-entry.blocks.items w.push_held.new.blocks.items
          (one_leaves leaving old i entry within c.entry-item.is (ap not (not_same (times_in leaving entry.node.0) 0 (λ e. w.if-times_of-ne0.true (times ∙ e))))) c.loop-entry.invariant
          (subst
          (λ (e : OldEntry). (block : ℕ)
          → Contains w.push_held.new.blocks.items block ↔
          (Contains c.loop-entry.blocks.items block ⊎ IsHeld (pointer_kept e.old.kept.inode e.old.kept.tables) block))
          c.entry.view_is w.in_ok-push_held.ensures))
      | else-times_of-ne0 w ↦
          subst
          (λ blocks. (block : ℕ) → Contains blocks block
          ↔ (Contains c.args.freed.items block ⊎ IsLeftByGone (filter (has_listed_node leaving) (take (i + 1) old)) block))
          (sym (ap (λ v. v.items) w.blocks-is))
          (subst
          (λ (gone : List OldEntry). (block : ℕ) → Contains c.loop-entry.blocks.items block ↔ (Contains c.args.freed.items block ⊎ IsLeftByGone gone block))
          (sym (one_stays leaving old i entry within c.entry-item.is (ap (λ n. not (nat_eq n 0)) (sym times ∙ w.if-times_of-ne0.false)))) c.loop-entry.invariant)
    ]

pub returns-clause-each : goal.returns-clause-each
returns-clause-each c =
    let all = ap (filter (has_listed_node c.args.leaving.now)) (take_all c.loop-entry.entry-index c.args.old.now c.loop-entry-test.false) in
    let each =
    subst (λ (gone : List OldEntry). (block : ℕ) → Contains c.loop-entry.blocks.items block ↔ (Contains c.args.freed.items block ⊎ IsLeftByGone gone block))
    all c.loop-entry.invariant in
    λ block. (λ has. (each block).0 ((c.ascending.ensures.each block).0 has), λ has. (c.ascending.ensures.each block).1 ((each block).1 has))
