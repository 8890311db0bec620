use Rattle.std.proofs.Common.{◌≡◌, ◌++◌, ℕ, List, [], map, filter, filter_map, sym, ap, subst, ◌∙◌, None}
use Rattle.std.specs.Ordering.{nat_cmp}
use Rattle.std.specs.BTreeMap.{get}
use Rattle.std.specs.List.{flat_map}
use Rattle.std.specs.List.Sorted.{IsSorted}
use Rattle.std.specs.Option.{unwrap_or}
use Rattle.disk_nodes.specs.Nodes.{entry_node}
use Rattle.disk_nodes.specs.declared.old.OldEntry.{OldEntry}
use Rattle.disk_change.specs.AllBuilt.{nodes_built, nodes_with_grant, fresh_of_node, entry_after}
use Rattle.disk_change.specs.Built.{Built}
use Rattle.disk_change.specs.GivenUp.{entry_number}
use Rattle.disk_change.specs.Lists.{ascending_by}
use Rattle.disk_change.specs.Numbered.{number_in, numbers_given}
use Rattle.disk_change.specs.Parts.{BuiltParts, SeatParts, CanAllBePut, CanBePut, HavePatches, built_in, built_with, seat_in, seat_with, slots_begun}
use Rattle.disk_change.specs.Planned.{Planned, has_listed_node}
use Rattle.disk_change.specs.Records.{record_inode, written_of_built, written_of_gone}
use Rattle.disk_change.specs.Seated.{CommitChanges, changes_in}
use Rattle.disk_change.proofs.Leaving.{same_written}
use Rattle.disk_change.proofs.Left.{all_left, same_inodes}
use Rattle.disk_change.proofs.Numbering.{same_numbers}
use Rattle.disk_change.proofs.Putting.{put_entry, made_of_sorted, all_ascending}
use Rattle.disk_change.proofs.transaction.parts_built.Goals as goal

pub nodes_built-requires : goal.nodes_built-requires
nodes_built-requires c =
    subst (HavePatches c.change.inside.old.items c.change.inside.plans.nets.items) (sym c.deref-3.ensures.value) c.change.invariant.1

pub records-requires : goal.records-requires
records-requires c = subst (IsSorted nat_cmp) (sym c.deref-5.ensures.value) c.change.invariant.0

pub blocks_left-requires : goal.blocks_left-requires
blocks_left-requires c = subst (IsSorted nat_cmp) (sym c.deref-6.ensures.value) c.change.invariant.0

pub inodes_left-requires : goal.inodes_left-requires
inodes_left-requires c = subst (IsSorted nat_cmp) (sym c.deref-7.ensures.value) c.change.invariant.0

-- the numbers of nodes, the nodes as they are built, and those that lose their inodes
numbers_are : (c : goal.After-drop-numbers-2)
    → (λ (node : ℕ). unwrap_or (get nat_cmp c.in_ok-numbers.numbers node) None)
    ≡ number_in (numbers_given (map (seat_in c.change.inside.old.items) c.change.inside.seats.items) c.args.grant.now.inodes)
numbers_are c =
    λ i node.
    (c.in_ok-numbers.ensures node
    ∙ ap (λ numbers. number_in numbers node)
    (c.deref-2.ensures.value ∙ c.in_ok-numbers_of_seats.ensures
    ∙ (λ j. numbers_given (map (seat_with []) (c.deref.ensures.value j)) (c.inodes.ensures j))
    ∙ same_numbers c.change.inside.old.items c.change.inside.seats.items c.args.grant.now.inodes))
    i

nodes_are : (c : goal.After-drop-numbers-2) → map (built_in c.change.inside.old.items) c.in_ok-made.made.nodes.items ≡ nodes_with_grant c.args.change.now c.args.grant.now
nodes_are c =
    let view = c.change.view_is in
    let changes : CommitChanges =
    changes_in c.change.inside.plans.directories c.change.inside.plans.nets.items c.change.inside.plans.files.items in
    let numbers : ℕ → _ = λ node. unwrap_or (get nat_cmp c.in_ok-numbers.numbers node) None in
    c.in_ok-made.ensures.nodes
    ∙ ap (λ (l : List SeatParts). nodes_built changes numbers (map (seat_in c.change.inside.old.items) l) c.blocks-2.result.now) c.deref-3.ensures.value
    ∙ (λ i. nodes_built (view i).changes
    ((numbers_are c ∙ ap (λ (change : Planned). number_in (numbers_given change.seats c.args.grant.now.inodes)) view) i) (view i).seats
    (c.blocks-2.ensures i))

old_is : (c : goal.After-drop-numbers-2) → c.change.inside.old.items ≡ c.args.change.now.old
old_is c = ap (λ (change : Planned). change.old) c.change.view_is

gone_are : (c : goal.After-drop-numbers-2) (leaving : List ℕ) → leaving ≡ c.change.inside.leaving.items
    → filter (has_listed_node leaving) c.as_slice-old.result.now ≡ c.args.change.now.gone
gone_are c leaving same =
    (λ i. filter (has_listed_node (same i)) (c.as_slice-old.ensures.items i)) ∙ ap (λ (change : Planned). change.gone) c.change.view_is

pub returns-clause-tx : goal.returns-clause-tx
returns-clause-tx c =
    let files = ap (λ (change : Planned). change.changes.files) c.change.view_is in
    let built =
    ap (λ (l : List BuiltParts). filter_map written_of_built (map (built_with []) l)) c.deref-4.ensures.value
    ∙ same_written c.change.inside.old.items c.in_ok-made.made.nodes.items ∙ ap (filter_map written_of_built) (nodes_are c) in
    let seats =
    ap (map (seat_in c.change.inside.old.items)) c.deref-3.ensures.value ∙ ap (λ (change : Planned). change.seats) c.change.view_is in
    record {
      records = c.in_ok-records.ensures.items
          ∙ (λ i. ascending_by record_inode (built i ++ filter_map written_of_gone (gone_are c c.deref-5.result.now c.deref-5.ensures.value i)));
      fresh =
          ap (λ l. l.items) c.from_vec.ensures ∙ c.in_ok-made.ensures.written ∙ (λ i. flat_map (fresh_of_node (files i)) (nodes_are c i));
      freed_blocks = record {
        ascending = c.in_ok-blocks_left.ensures.ascending;
        each =
            all_left c.args.change.now _ _ c.in_ok-made.made.freed.items _ seats (gone_are c c.deref-6.result.now c.deref-6.ensures.value)
            c.in_ok-made.ensures.freed c.in_ok-blocks_left.ensures.each;
      };
      freed_inodes = record {
        ascending = c.in_ok-inodes_left.ensures.ascending;
        each =
            same_inodes _ (map entry_number c.args.change.now.gone) _ (ap (map entry_number) (gone_are c c.deref-7.result.now c.deref-7.ensures.value))
            c.in_ok-inodes_left.ensures.each;
      };
    }

pub returns-clause-after : goal.returns-clause-after
returns-clause-after c =
    ap (map (put_entry c.args.change.now.old)) c.in_ok-nodes.ensures.items
    ∙ made_of_sorted c.args.change.now.old c.in_ok-made.made.nodes.items
    ∙ ap (λ (old : List OldEntry). ascending_by entry_node (map entry_after (map (built_in old) c.in_ok-made.made.nodes.items))) (sym (old_is c))
    ∙ ap (λ (l : List Built). ascending_by entry_node (map entry_after l)) (nodes_are c)

pub returns-clause-put : goal.returns-clause-put
returns-clause-put c =
    subst (λ (old : List OldEntry). CanAllBePut old c.in_ok-nodes.nodes.items) (old_is c)
    (subst (CanAllBePut c.change.inside.old.items) (sym c.in_ok-nodes.ensures.items)
    (all_ascending (λ (parts : BuiltParts). CanBePut (slots_begun c.change.inside.old.items parts.own parts.node) parts) c.in_ok-made.made.nodes.items
    c.in_ok-made.ensures.put))
