-- That a commit leaves an inode to exactly the nodes that have one behind it.
use Rattle.std.proofs.Common.{◌≡◌, ◌∙◌, ◌&&◌, ◌||◌, if◌then◌else◌, Bool, not, true, false, refl, ℕ, map, subst, Contains, ap, is_some, sym, Option, None, Some, inl, inr}
use Rattle.sfs_base.specs.Listed.{is_listed}
use Rattle.sfs_base.proofs.BasicTruth.{true_not_false, true_or_false}
use Rattle.space_map.specs.Space.{GrantedNumbers}
use Rattle.tree_laws.specs.NameRow.{node_number}
use Rattle.disk_nodes.specs.Nodes.{entry_node}
use Rattle.disk_nodes.specs.OldKept.{OldKept}
use Rattle.disk_change.specs.AllBuilt.{entry_keyed, after_commit}
use Rattle.disk_change.specs.Nodes.{enter_node}
use Rattle.disk_change.specs.Planned.{Planned}
use Rattle.commit_laws.proofs.OwnInodes.{mapped_is_in}
use Rattle.commit_laws.proofs.SeatsOfPlan.{among_is_in, in_is_among, in_mapped}
use Rattle.cut_laws.proofs.Raising.{true_alike}
use Rattle.beside_laws.specs.Commits.{has_inode_behind}
use Rattle.flush_plan.specs.Plan.{files_written, is_written}
use Rattle.mem_values.specs.declared.cell.Pending.{Pending}
use Rattle.note_laws.specs.Run.{TableRun}
use Rattle.made_laws.specs.Made.{CoreMaking, CoreMade, is_concerned, inode_gathered, GathersSeen, old_of}
use Rattle.made_laws.specs.Tells.{commit_made}
use Rattle.fsync_values.specs.Renewing.{kept_of_node}
use Rattle.landing_laws.proofs.Left.{left_listed}

-- one that gets it has, one that loses it has none, any other as before
by_moves : (inode loses gets : Bool) → ((inode && not loses) || gets) ≡ (if gets then true else (if loses then false else inode))
by_moves true true true = refl
by_moves true true false = refl
by_moves true false true = refl
by_moves true false false = refl
by_moves false true true = refl
by_moves false true false = refl
by_moves false false true = refl
by_moves false false false = refl

not_lost : (inode loses gets : Bool) → inode ≡ true → loses ≡ false → (if gets then true else (if loses then false else inode)) ≡ true
not_lost inode loses true has stays = refl
not_lost inode true false has stays = absurd (true_not_false stays)
not_lost inode false false has stays = has

module _ (run : TableRun) (making : CoreMaking) (made : CoreMade run making) (number : ℕ) where
  -- the old entries are of the nodes that have an inode, of those that are concerned
  had_listed : (node : ℕ) → is_concerned making node ≡ true → is_listed (map entry_node making.old) node ≡ inode_gathered making node
  had_listed node concerned = true_alike (is_listed (map entry_node making.old) node) (inode_gathered making node) there (back seen.0.old refl)
    where
      seen : (value : Pending) × GathersSeen making node value
      seen = made.gathers.seen node concerned

      there : is_listed (map entry_node making.old) node ≡ true → inode_gathered making node ≡ true
      there listed =
          let found = mapped_is_in entry_node making.old node (among_is_in (map entry_node making.old) node listed) in
          let own = subst (λ n. Contains making.old (entry_keyed (n, found.0.old))) found.2 found.1 in
          let has = ((made.old_is.each node found.0.old).0 own).1 in
          seen.1.inode ∙ ap is_some (sym (ap old_of seen.1.seen) ∙ has)

      back : (old : Option OldKept) → seen.0.old ≡ old → inode_gathered making node ≡ true → is_listed (map entry_node making.old) node ≡ true
      back None same inode = absurd (true_not_false (sym inode ∙ seen.1.inode ∙ ap is_some same))
      back (Some kept) same inode =
          in_is_among (map entry_node making.old) node (in_mapped entry_node making.old (entry_keyed (node, kept))
          ((made.old_is.each node kept).1 (concerned, ap old_of seen.1.seen ∙ same)))

  pub left_made : (grant : GrantedNumbers) (node : ℕ) → is_concerned making node ≡ true
      → is_some (kept_of_node (after_commit making.plan.change grant) node) ≡ has_inode_behind (commit_made run making made.plans number) node
  left_made grant node concerned =
      let gets = is_listed (map enter_node made.plans.enter) node in
      let loses = is_listed (map node_number making.plan.leave.items) node in
      ap (λ (c : Planned). is_some (kept_of_node (after_commit c grant) node)) made.plans.made
      ∙ left_listed making.old making.concern.nets.items
      (files_written (is_written making.gathered made.plans.enter making.noted.node making.noted.stamp) making.change) made.plans.enter
      making.plan.leave.items grant node
      ∙ ap (λ b. (b && not loses) || gets) (had_listed node concerned)
      ∙ by_moves (inode_gathered making node) loses gets

  -- the root keeps its inode
  pub root_stays : is_concerned making 0 ≡ true → has_inode_behind (commit_made run making made.plans number) 0 ≡ true
  root_stays concerned =
      not_lost (inode_gathered making 0) (is_listed (map node_number making.plan.leave.items) 0) (is_listed (map enter_node made.plans.enter) 0)
      (made.gathers.root concerned) (elim (true_or_false (is_listed (map node_number making.plan.leave.items) 0)) [
        | inl lost ↦ absurd (((made.plans.moves.moved.leaves 0).0 lost).2.no_root refl)
        | inr stays ↦ stays
      ])
