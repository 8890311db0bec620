-- What an fsync planned lies on the disk of its table.
use Rattle.std.proofs.Common.{◌≡◌, ◌<◌, ◌≤◌, ◌-◌, ◌^◌, ◌∙◌, ℕ, zero, suc, true, List, map, length, get_or, Option, Some, None, refl, sym, ap, subst, arith, Contains, []}
use Rattle.sfs_base.specs.declared.numbers.Kind.TheVariants as kind
use Rattle.sfs_base.specs.Listed.{is_listed}
use Rattle.sfs_base.proofs.BasicOptions.{none_some}
use Rattle.sfs_image.specs.Super.{Layout}
use Rattle.sfs_image.proofs.EntriesLaws.{few_below}
use Rattle.keyed_list.specs.Ascending.{AscendBy}
use Rattle.tree_laws.specs.NameRow.{node_number}
use Rattle.disk_nodes.specs.declared.old.OldEntry.{OldEntry}
use Rattle.disk_change.specs.Nodes.{enter_node}
use Rattle.disk_change.specs.declared.enter.Enter.{Enter}
use Rattle.cut_laws.proofs.Listed.{from_map, listed_one, one_at, to_map}
use Rattle.dep_closure.proofs.Looked.{one_of_all}
use Rattle.flush_plan.specs.Plan.{files_written, is_written}
use Rattle.stamp_table.specs.Table.{values_in}
use Rattle.mem_values.specs.Facts.{IsBelowInodes}
use Rattle.mem_values.specs.Stands.{Flushed}
use Rattle.mem_values.specs.declared.cell.Pending.{Pending}
use Rattle.mem_values.proofs.Writers.{inodes_stay_below}
use Rattle.made_laws.specs.Made.{old_of}
use Rattle.fsync_commit.specs.Asked.{IsChangeOn}
use Rattle.fsync_commit.proofs.OnPlans.{plans_lie_on_disks}
use Rattle.mem_calls.specs.Held.{pending_held}
use Rattle.fsync_values.specs.Lending.{entries_of}
use Rattle.fsync_look.specs.Look.{IsBelow}
use Rattle.fsync_catch.specs.Catch.{IsCaught}
use Rattle.fsync_draft.specs.Drafting.{IsDraftOf}
use Rattle.landing_laws.specs.Made.{IsDraftedFsync, PlannedFsync, IsPlannedSo, by_look, alone}
use Rattle.landing_laws.proofs.Entries.{taken_is_seen}
use Rattle.landing_laws.proofs.Planned.{held_stood}

-- of items that ascend each has at least the number of its place
place_low : {X : Type 0} (key : X → ℕ) (xs : List X) (d : X) → AscendBy key xs → (k : ℕ) → k < length xs → k ≤ key (get_or xs k d)
place_low key xs d ascend zero within = omega arith
place_low key xs d ascend (suc k) within =
    let before = place_low key xs d ascend k (omega (arith, within)) in
    let next = ascend k (suc k) d (omega arith) within in omega (arith, before, next)

module _ (s : PlannedFsync) (is : IsDraftedFsync s) (below : (of : ℕ) → IsBelowInodes s.hand.view.first.first (s.given of)) where
  -- what the disk has of a node that is held has an inode of the table
  old_low : IsPlannedSo s → (entry : OldEntry) → Contains (entries_of s.caught.concern.nodes.items (values_in s.hand.held)) entry
      → entry.old.number < s.hand.view.first.first
  old_low how entry has =
      by (pending_held s.nodes s.hand.held (record { 0 = entry.node.0 })) refl
      (taken_is_seen s.nodes s.caught.concern.nodes.items s.hand.held is.holds is.ascend entry.node.0 entry.old has).1
    where
      by : (seen : Option Pending) → pending_held s.nodes s.hand.held (record { 0 = entry.node.0 }) ≡ seen → old_of seen ≡ Some entry.old
          → entry.old.number < s.hand.view.first.first
      by None saw is_old = absurd (none_some is_old)
      by (Some value) saw is_old =
          let stood = held_stood s is how (record { 0 = entry.node.0 }) value saw in
          inodes_stay_below s.given s.hand.view.first stood.at entry.node.0 below stood.lawful entry.old
          (sym (ap (λ (f : Flushed). f.old) stood.stands.flushed) ∙ is_old)

  -- It was planned by a look.
  module _ (caught : IsCaught s.given s.nodes s.fsync s.hand s.caught) (drafted : IsDraftOf s.fsync s.caught s.file s.hand s.drafted) where
    abbrev enter : List Enter
    enter = drafted.planned.enter

    -- a node that enters is one of the table
    enter_below : (k : ℕ) → k < length enter → enter_node (get_or enter k (record { node = record { 0 = 0 }; kind = kind.File })) < s.nodes
    enter_below k within =
        let one = get_or enter k (record { node = record { 0 = 0 }; kind = kind.File }) in
        let listed : is_listed (map enter_node enter) (enter_node one) ≡ true =
        (listed_one (map enter_node enter) (enter_node one)).1
        (to_map enter_node enter one (one_at enter k (record { node = record { 0 = 0 }; kind = kind.File }) one within refl))
        in
        let touches = ((drafted.planned.moves.moved.enters (enter_node one)).0 listed).1 in
        let concerned = (caught.look.concern_is.nodes.each (enter_node one)).1 touches in
        let there = from_map node_number s.caught.concern.nodes.items (enter_node one)
        ((listed_one (map node_number s.caught.concern.nodes.items) (enter_node one)).0 concerned)
        in
        let low : there.0.0 < s.nodes = one_of_all (IsBelow s.nodes) s.caught.concern.nodes.items there.0 is.within there.1 in
        let same = there.2 in omega (arith, low, same)

    few : length enter ≤ s.nodes
    few = few_below (length enter) s.nodes (λ k. enter_node (get_or enter k (record { node = record { 0 = 0 }; kind = kind.File })))
        (place_low enter_node enter (record { node = record { 0 = 0 }; kind = kind.File }) drafted.planned.moves.enter_ascends) enter_below

  on_so : IsPlannedSo s → (layout : Layout) → layout.inodes ≡ s.hand.view.first.first → s.nodes ≤ 2 ^ 32 - 1
      → IsChangeOn layout s.drafted.draft.plan.change
  on_so (by_look caught drafted) layout inodes word = subst (IsChangeOn layout) (sym drafted.planned.made)
      (plans_lie_on_disks layout (entries_of s.caught.concern.nodes.items (values_in s.hand.held)) s.caught.concern.nets.items
      (files_written (is_written s.caught.gathered drafted.planned.enter s.fsync.node.0 s.fsync.stamp.0) drafted.change) drafted.planned.enter
      s.drafted.draft.plan.leave.items (λ entry has. let low = old_low (by_look caught drafted) entry has in omega (arith, low, inodes))
      (let one = few caught drafted in omega (arith, one, word)))
  on_so (alone a) layout inodes word = subst (IsChangeOn layout) (sym a.change_is)
      (plans_lie_on_disks layout (entries_of s.caught.concern.nodes.items (values_in s.hand.held)) [] a.files [] []
      (λ entry has. let low = old_low (alone a) entry has in omega (arith, low, inodes)) (omega arith))

  -- so its change is of the disk
  pub change_on : (layout : Layout) → layout.inodes ≡ s.hand.view.first.first → s.nodes ≤ 2 ^ 32 - 1 → IsChangeOn layout s.drafted.draft.plan.change
  change_on layout inodes word = on_so is.how layout inodes word
