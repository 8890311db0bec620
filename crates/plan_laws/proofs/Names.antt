-- A node is named at the raised cut exactly where it has more names, with those that come by nets, than go.
use Rattle.std.proofs.Common.{◌≡◌, ◌≢◌, ℕ, ◌+◌, ◌<◌, Bool, true, false, cond, List, [], ◌∷◌, ◌++◌, map, filter_map, Option, Some, None, inl, inr, refl, sym, ap, subst, ◌∙◌, arith, count_by, sum_by, nat_eq, Contains}
use Rattle.std.specs.Prelude.{◌↔◌}
use Rattle.std.specs.FinMap.{entries as listed_rows}
use Rattle.std.specs.List.{flat_map, cons_option}
use Rattle.std.specs.Option.{option_map_or}
use Rattle.std.proofs.lemmas.Bool.{lt-ltb}
use Rattle.std.proofs.lemmas.List.Sums.{sum_by-cons, sum_by-append}
use borrow.Author.Tests.{eqb-true, ltb-true}
use Rattle.sfs_base.proofs.BasicNumbers.{from_zero_plus, same_number}
use Rattle.sfs_base.proofs.BasicTruth.{true_not_false}
use Rattle.sfs_base.specs.declared.numbers.Kind.{Kind}
use Rattle.sfs_base.specs.declared.numbers.Kind.TheVariants.{File, Directory}
use Rattle.sfs_base.specs.declared.numbers.NodeId.{NodeId}
use Rattle.sfs_image.specs.Part.{seen_of}
use Rattle.sfs_image.specs.Slot.{kind_byte}
use Rattle.sfs_image.proofs.Basics.{found_passes}
use Rattle.tree_laws.specs.NameRow.{number_of}
use Rattle.tree_laws.specs.Tree.{TreeState, is_directory, is_directory_kind, kind_of, links_of, count_of, names_it, names_of, holds_directory}
use Rattle.tree_laws.proofs.Counting.{count_some}
use Rattle.tree_laws.proofs.Joined.{count-cons}
use Rattle.tree_laws.proofs.Readings.{directory_by_kind}
use Rattle.tree_laws.proofs.RowFacts.{named_or_none}
use Rattle.tree_laws.proofs.SoundTree.{sound_once}
use Rattle.absorb.specs.declared.nets.NetRow.{NetRow}
use Rattle.absorb.specs.Net.{IsNet}
use Rattle.image_laws.specs.LinkChanges.{NetChange, net_changes, counted_row, AreAllNets}
use Rattle.image_laws.specs.Renamed.{IsMet}
use Rattle.image_laws.specs.Renamed.IsMet.{root, named}
use Rattle.image_laws.proofs.LinkChanges.{counted_by_nets}
use Rattle.commit_laws.specs.KeptShown.{KeepsSeen}
use Rattle.commit_laws.proofs.KeptShown.{kept_parts_show}
use Rattle.commit_laws.proofs.Shown.{found_is_in}
use Rattle.commit_laws.proofs.KnownDirectories.{own_item}
use Rattle.cut_laws.specs.Closure.{IsNamedIn}
use Rattle.cut_laws.specs.Laws.{KeepsAll}
use Rattle.cut_laws.proofs.Lists.{lists_keep}
use Rattle.raise_laws.specs.Next.{IsStorableAtCut}
use Rattle.raise_laws.proofs.Next.{cut_trees_are_storable}
use Rattle.disk_change.specs.Directory.{is_among}
use Rattle.disk_change.specs.Links.{times_in}
use Rattle.keyed_list.specs.Ascending.{AscendBy, item_with}
use Rattle.disk_change.specs.Nodes.{net_node}
use Rattle.disk_nodes.specs.Nodes.{entry_node}
use Rattle.disk_change.specs.Seated.{net_of_node}
use Rattle.disk_change.specs.declared.directory_net.DirectoryNet.{DirectoryNet}
use Rattle.disk_nodes.specs.declared.old.OldEntry.{OldEntry}
use Rattle.disk_change.proofs.NumbersGiven.{first_in, further_in}
use Rattle.flush_laws.specs.Volume.{Volume, tree_held}
use Rattle.flush_laws.specs.Planned.{HasOldEntries}
use Rattle.flush_laws.specs.Ready.{IsBetweenCommits, KeepsEntries}
use Rattle.flush_laws.proofs.Clean.{no_net}
use Rattle.flush_plan.specs.Names.{names_by_record, names_on_disk, named_coming, named_going, is_named_after}
use Rattle.plan_laws.proofs.Nets.{ascend_sorted}

module _ (node : ℕ) where
  times_append : (front numbers : List ℕ) → times_in (front ++ numbers) node ≡ times_in front node + times_in numbers node
  times_append [] numbers = from_zero_plus _
  times_append (n ∷ front) numbers =
      let all = count-cons (λ other. nat_eq other node) n (front ++ numbers) in
      let some = count-cons (λ other. nat_eq other node) n front in
      let rest = times_append front numbers in
      omega arith

  module _ (pick : NetRow → Option NodeId) where
    -- 1 for a row of a net that names the node
    abbrev counts : NetChange → ℕ
    counts change = counted_row (names_it node) (change.0, change.1.name) (number_of (pick change.1))

    abbrev picked : List NetRow → List ℕ
    picked rows = filter_map (λ row. number_of (pick row)) rows

    one_row : (d : ℕ) (name : List ℕ) (o : Option ℕ) (numbers : List ℕ)
        → counted_row (names_it node) (d, name) o + times_in numbers node ≡ times_in (cons_option o numbers) node
    one_row d name None numbers = sym (from_zero_plus _)
    one_row d name (Some x) numbers = sym (count-cons (λ other. nat_eq other node) x numbers)

    -- the rows of one net
    rows_counted : (d : ℕ) (rows : List NetRow) → sum_by counts (map (λ row. (d, row)) rows) ≡ times_in (picked rows) node
    rows_counted d [] = refl
    rows_counted d (row ∷ rows) =
        sum_by-cons counts (d, row) (map (λ row. (d, row)) rows) ∙ ap (λ n. counts (d, row) + n) (rows_counted d rows)
        ∙ one_row d row.name (number_of (pick row)) (picked rows)

    -- and of all nets
    nets_counted : (nets rest : List DirectoryNet) → ((one : DirectoryNet) → Contains rest one → net_of_node nets one.node.0 ≡ one.net.items)
        → sum_by counts (net_changes (net_of_node nets) (map net_node rest)) ≡ times_in (flat_map (λ one. picked one.net.items) rest) node
    nets_counted nets [] own = refl
    nets_counted nets (one ∷ rest) own =
        ap (λ rows. sum_by counts (map (λ row. (one.node.0, row)) rows ++ net_changes (net_of_node nets) (map net_node rest))) (own one (first_in one rest))
        ∙ sum_by-append counts (map (λ row. (one.node.0, row)) one.net.items) (net_changes (net_of_node nets) (map net_node rest))
        ∙ (λ i. rows_counted one.node.0 one.net.items i + nets_counted nets rest (λ other is. own other (further_in one other rest is)) i)
        ∙ sym (times_append (picked one.net.items) (flat_map (λ one. picked one.net.items) rest))

-- a node is named exactly where rows are counted for it
named_count : (tree : TreeState) (node : ℕ) → (0 < count_of tree.rows node) ↔ IsNamedIn tree.rows node
named_count tree node = (forth, λ there. count_some (names_it node) tree.rows (there.directory, there.name) node there.row (same_number node))
  where
    forth : 0 < count_of tree.rows node → IsNamedIn tree.rows node
    forth some = elim (named_or_none tree.rows node) [
      | inl there ↦ record { directory = there.directory; name = there.name; row = there.row }
      | inr none ↦ absurd (omega arith)
    ]

module _ (volume : Volume) (entries : List OldEntry) (ready : IsBetweenCommits volume) (keeps : KeepsEntries volume.num volume.parts entries) (nodes : List ℕ)
    (old : List OldEntry) (has : HasOldEntries nodes entries old) where
  abbrev tree : TreeState
  tree = tree_held volume

  kept_all : KeepsAll volume.first volume.history volume.cut volume.inodes
  kept_all = lists_keep volume.first volume.history volume.flushes volume.cut volume.inodes ready.history_is.sound ready.history_is.legal ready.flushed

  stored : IsStorableAtCut volume.num volume.first volume.history volume.cut
  stored = cut_trees_are_storable volume.first volume.history volume.flushes volume.cut volume.inodes volume.num ready.history_is ready.flushed ready.numbers

  -- what is kept of an entry's node is what the tree at the cut has of it
  entry_shows : (entry : OldEntry) → Contains entries entry
      → (entry.old.kept.inode.kind ≡ kind_byte (kind_of tree entry.node.0)) × (entry.old.kept.inode.links ≡ links_of tree entry.node.0)
  entry_shows entry there =
      let own = keeps.each entry there in
      let low = ready.stands.within entry.node.0 entry.old.number own.0 in
      let kept =
      subst (λ k. KeepsSeen k (seen_of (volume.parts entry.old.number))) (sym own.1)
      (kept_parts_show volume.store (volume.parts entry.old.number) (ready.sound.gathered entry.old.number low)) in
      let shows = ready.stands.each entry.node.0 entry.old.number own.0 in
      (kept.kind ∙ shows.kind, kept.links ∙ shows.links)

  -- a node without an inode has no entry, and no row names it
  none_on_disk : (node : ℕ) → volume.inodes node ≡ false → names_on_disk old node ≡ count_of tree.rows node
  none_on_disk node none = by (item_with entry_node node old) refl ∙ sym no_count
    where
      by : (o : Option OldEntry) → item_with entry_node node old ≡ o → option_map_or names_by_record o 0 ≡ 0
      by None e = refl
      by (Some entry) e =
          let there = found_is_in (λ (item : OldEntry). nat_eq (entry_node item) node) old entry e in
          let same : entry.node.0 ≡ node = eqb-true entry.node.0 node (found_passes (λ (item : OldEntry). nat_eq (entry_node item) node) old entry e) in
          let number = (keeps.each entry (has.own entry there).0).0 in
          absurd (true_not_false (sym ((ready.numbers.each entry.node.0).1 (entry.old.number, number)) ∙ ap volume.inodes same ∙ none))

      no_count : count_of tree.rows node ≡ 0
      no_count = elim (named_or_none tree.rows node) [
        | inl there ↦ absurd (true_not_false (sym (kept_all.named node (record { directory = there.directory; name = there.name; row = there.row })) ∙ none))
        | inr count ↦ count
      ]

  -- a directory with an inode that is not the root is named once
  named_once : (node i : ℕ) → volume.num node ≡ Some i → node ≢ 0 → is_directory tree node ≡ true → count_of tree.rows node ≡ 1
  named_once node i number other directory = met node (stored.storable.placed node i number directory) other directory
    where
      met : (node : ℕ) → IsMet tree node → node ≢ 0 → is_directory tree node ≡ true → count_of tree.rows node ≡ 1
      met _ root other directory = absurd (other refl)
      met node (named holder name _ row) other directory = sound_once tree stored.sound holder name node row directory

  -- one with an inode that the fsync concerns has an entry, by which it has as many names as rows name it
  some_on_disk : (node : ℕ) → volume.inodes node ≡ true → node ≢ 0 → is_among nodes node ≡ true → names_on_disk old node ≡ count_of tree.rows node
  some_on_disk node inode other among =
      let number = (ready.numbers.each node).0 inode in
      let entry = keeps.all node number.0 number.1 in
      let there = has.all entry.0 entry.1 (subst (λ n. is_among nodes n ≡ true) (sym entry.2) among) in
      let found : item_with entry_node node old ≡ Some entry.0 =
      subst (λ n. item_with entry_node n old ≡ Some entry.0) entry.2 (own_item entry_node old has.ascend entry.0 there) in
      let shows = entry_shows entry.0 entry.1 in
      ap (λ (o : Option OldEntry). option_map_or names_by_record o 0) found
      ∙ by (kind_of tree node) refl (shows.0 ∙ ap (λ n. kind_byte (kind_of tree n)) entry.2) (shows.1 ∙ ap (links_of tree) entry.2) number.0 number.1
    where
      by : {kind links : ℕ} (k : Kind) → kind_of tree node ≡ k → kind ≡ kind_byte (kind_of tree node) → links ≡ links_of tree node → (i : ℕ)
          → volume.num node ≡ Some i → cond (nat_eq kind 2) 1 links ≡ count_of tree.rows node
      by {kind} {links} Directory e is_kind is_links i number =
          ap (λ n. cond (nat_eq n 2) 1 links) (is_kind ∙ ap kind_byte e)
          ∙ sym (named_once node i number other (directory_by_kind tree node ∙ ap is_directory_kind e))
      by {kind} {links} File e is_kind is_links i number =
          ap (λ n. cond (nat_eq n 2) 1 links) (is_kind ∙ ap kind_byte e) ∙ is_links
          ∙ ap (λ b. cond b (2 + count_by (holds_directory tree node) (listed_rows tree.rows)) (count_of tree.rows node))
          (directory_by_kind tree node ∙ ap is_directory_kind e)

  on_disk : (node : ℕ) → node ≢ 0 → is_among nodes node ≡ true → names_on_disk old node ≡ count_of tree.rows node
  on_disk node other among = by (volume.inodes node) refl
    where
      by : (b : Bool) → volume.inodes node ≡ b → names_on_disk old node ≡ count_of tree.rows node
      by true e = some_on_disk node e other among
      by false e = none_on_disk node e

  -- So by nets that lead to another tree a concerned node that is not the root is named there exactly where more names come than go.
  module _ (new : TreeState) (nets : List DirectoryNet) (kinds : (node : ℕ) → kind_of new node ≡ kind_of tree node) (up : AscendBy net_node nets)
      (each : (directory : ℕ) → IsNet (names_of directory tree.rows) (names_of directory new.rows) (net_of_node nets directory)) where
    all_nets : AreAllNets tree new (net_of_node nets) (map net_node nets)
    all_nets = record { kinds = kinds; each = each; others = λ directory none. no_net nets directory none; ascending = ascend_sorted net_node nets up }

    own_items : (one : DirectoryNet) → Contains nets one → net_of_node nets one.node.0 ≡ one.net.items
    own_items one there = ap (λ (o : Option DirectoryNet). option_map_or (λ item. item.net.items) o []) (own_item net_node nets up one there)

    balance : (node : ℕ) → count_of new.rows node + times_in (named_going nets) node ≡ count_of tree.rows node + times_in (named_coming nets) node
    balance node =
        let coming = nets_counted node (λ row. row.after) nets nets own_items in
        let going = nets_counted node (λ row. row.before) nets nets own_items in
        let all = counted_by_nets tree new (net_of_node nets) (map net_node nets) (names_it node) all_nets in
        ap (λ n. count_of new.rows node + n) (sym going) ∙ all ∙ ap (λ n. count_of tree.rows node + n) coming

    pub named_by_nets : (node : ℕ) → node ≢ 0 → is_among nodes node ≡ true → (is_named_after old nets node ≡ true) ↔ IsNamedIn new.rows node
    named_by_nets node other among =
        let disk = on_disk node other among in
        let sum = balance node in (
          λ after. let more = ltb-true (times_in (named_going nets) node) (names_on_disk old node + times_in (named_coming nets) node) after in
              (named_count new node).0 (omega arith),
          λ there. let some = (named_count new node).1 there in
              lt-ltb (times_in (named_going nets) node) (names_on_disk old node + times_in (named_coming nets) node) (omega arith),
        )
