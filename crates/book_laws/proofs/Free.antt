-- An inode stays free where another fsync was not granted it.
use Rattle.std.proofs.Common.{◌≡◌, ℕ, Bool, true, false, cond, List, map, Option, Some, None, is_some, inl, inr, refl, sym, ◌∙◌}
use Rattle.tree_laws.specs.Tree.{kind_of}
use Rattle.image_laws.specs.Image.{inodes_shown}
use Rattle.image_laws.specs.Numbers.{grant_for}
use Rattle.image_laws.specs.Stands.{IsUnused}
use Rattle.image_laws.proofs.Numbers.{granted}
use Rattle.image_laws.proofs.Standing.{not_used}
use Rattle.disk_change.specs.Nodes.{enter_node}
use Rattle.commit_laws.specs.NumbersGiven.{node_leaves}
use Rattle.flush_laws.specs.Volume.{Volume, OneFsync, tree_held, parts_left}
use Rattle.flush_laws.proofs.Later.{ready_after}
use Rattle.book_laws.specs.Free.{IsFreeBeside, InodesStayFree}

module _ (volume : Volume) (theirs : OneFsync) (later : ℕ → List ℕ) (i : ℕ) (is : IsFreeBeside volume theirs later i) where
  abbrev given : ℕ → Option ℕ
  given node = grant_for (map enter_node theirs.plan.enter) theirs.grant.inodes node

  -- no node has its number before
  was_free : (node : ℕ) → volume.num node ≡ Some i → ⊥
  was_free node has =
      not_used (kind_of (tree_held volume) node) (sym (is.planned.ready.stands.each node i has).kind ∙ is.free.kind)

  by_leaving : (leaves : Bool) (node j : ℕ) → volume.num node ≡ Some j → cond leaves None (Some j) ≡ Some i → ⊥
  by_leaving true node j e has = cc
  by_leaving false node j e has = was_free node (e ∙ has)

  -- and none gets it
  none_gets : (node : ℕ) (o : Option ℕ) → volume.num node ≡ o
      → cond (is_some o) (cond (node_leaves theirs.plan.leave node) None o) (given node) ≡ Some i → ⊥
  none_gets node None e has =
      let grant = granted (map enter_node theirs.plan.enter) theirs.grant.inodes node i has in is.apart grant.place grant.within grant.number
  none_gets node (Some j) e has = by_leaving (node_leaves theirs.plan.leave node) node j e has

  pub free_then : IsUnused ((inodes_shown volume.layout (parts_left volume theirs)).seen i)
  free_then = elim ((ready_after volume theirs is.planned later is.left).stands.rest i is.within) [
    | inl has ↦ absurd (none_gets has.0 (volume.num has.0) refl has.1)
    | inr free ↦ free
  ]

pub inodes_stay_free : InodesStayFree
inodes_stay_free volume theirs later i is = free_then volume theirs later i is
