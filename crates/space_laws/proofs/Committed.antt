-- A map of free space is right once a commit is durable and its grant has ended.
use Rattle.std.proofs.Common.{◌≡◌, ◌≢◌, ℕ, ◌<◌, true, false, cond, not, List, map, Option, Some, None, inl, inr, refl, sym, ap, subst, ◌∙◌, take, sum_by, Contains}
use Rattle.std.specs.Prelude.{◌⊎◌, slice_get}
use Rattle.std.proofs.lemmas.Option.{slice_get_within}
use Rattle.std.proofs.lemmas.Bool.{cases_Bool}
use Rattle.std.proofs.lemmas.List.Elements.{Contains-append_left, Contains-get_or}
use Rattle.sfs_base.specs.Listed.{is_listed}
use Rattle.sfs_base.proofs.BasicOptions.{none_some, some_same}
use Rattle.sfs_base.proofs.BasicTruth.{true_not_false, not_true}
use Rattle.sfs_image.specs.Seen.{SeenInodes, PLACES}
use Rattle.sfs_image.specs.Super.{data_start}
use Rattle.tree_laws.specs.Tree.{TreeState}
use Rattle.fmt_journal.specs.declared.tx.Tx.{Tx}
use Rattle.image_laws.specs.Image.{inodes_shown}
use Rattle.image_laws.specs.Renamed.{Numbering}
use Rattle.image_laws.proofs.Numbers.{granted}
use Rattle.block_map.specs.Kept.{pointer_kept}
use Rattle.block_map.specs.Remap.{gives_up, fresh_for, pointer_remapped}
use Rattle.block_map.proofs.Left.{remapped_pointers_stand}
use Rattle.space_map.specs.Space.{Space}
use Rattle.disk_change.specs.AllBuilt.{numbers_with, built_by, nodes_with_grant, entry_after}
use Rattle.disk_change.specs.Built.{Built, rewrite_in}
use Rattle.disk_change.specs.Directory.{is_among}
use Rattle.disk_change.specs.GivenUp.{IsLeftByGone, entry_number}
use Rattle.disk_change.specs.Nodes.{enter_node}
use Rattle.disk_nodes.specs.Nodes.{entry_node}
use Rattle.disk_change.specs.Planned.{Planned, leaves, staying, seated_old, seated_entering, blocks_taken}
use Rattle.disk_change.specs.Seated.{Seated, begun_old, begun_entering}
use Rattle.disk_nodes.specs.declared.old.OldEntry.{OldEntry}
use Rattle.commit_laws.specs.CommitOfPlan.{change_planned, numbers_planned, IsCommitPlan}
use Rattle.commit_laws.specs.NumbersGiven.{node_leaves}
use Rattle.commit_laws.specs.PartsMade.{IsPlanOverParts}
use Rattle.commit_laws.specs.PartsStand.{part_next}
use Rattle.commit_laws.specs.Ranked.{fresh_cut}
use Rattle.commit_laws.proofs.CommitMade.{some_there}
use Rattle.commit_laws.proofs.CommitOfPlan.{begun_pointers, no_pointers}
use Rattle.commit_laws.proofs.NumbersGiven.{kept_in}
use Rattle.commit_laws.proofs.OwnInodes.{mapped_is_in, ascending_is_in}
use Rattle.commit_laws.proofs.PlanShown.{IsBuiltNode, node_built}
use Rattle.commit_laws.proofs.Ranked.{nodes_are_built_by_rank}
use Rattle.commit_laws.proofs.SeatsOfPlan.{there_is_in, in_is_there, in_mapped, in_kept, in_is_among, among_is_in, ascending_once, after_had, after_none, seat_comes}
use Rattle.flush_laws.specs.Volume.{Volume, OneFsync, tree_held, tree_raised}
use Rattle.flush_laws.specs.Laws.{AreEntriesAfter}
use Rattle.flush_laws.specs.Planned.{IsPlannedFsync}
use Rattle.flush_laws.specs.Ready.{KeepsEntries}
use Rattle.flush_laws.proofs.Clean.{over_parts}
use Rattle.flush_laws.proofs.Later.{built_is_kept, entries_after}
use Rattle.space_laws.specs.Laws.{CommitsKeepMaps}
use Rattle.space_laws.specs.Map.{WasUsed}
use Rattle.space_laws.proofs.Ended.{HoldsLater, ends_right}
use Rattle.space_laws.proofs.Holders.{pointer_in, after_place, place_stays, fresh_is_granted, same_number, stands_apart}
use Rattle.space_laws.proofs.Used.{block_is_used, grant_at}

module _ (volume : Volume) (fsync : OneFsync) (later : List OldEntry) (tx : Tx) (old new : Space) (is : IsPlannedFsync volume fsync)
    (those : AreEntriesAfter fsync later) (used : WasUsed fsync.plan tx old fsync.grant new) where
  abbrev old_tree : TreeState
  old_tree = tree_held volume

  abbrev new_tree : TreeState
  new_tree = tree_raised volume fsync

  abbrev image : SeenInodes
  image = inodes_shown volume.layout volume.parts

  abbrev change : Planned
  change = change_planned fsync.plan

  abbrev next_num : Numbering
  next_num = numbers_planned volume.num fsync.plan fsync.grant.inodes

  over : IsPlanOverParts volume.num fsync.nodes old_tree new_tree image fsync.plan fsync.grant volume.store volume.parts
  over = over_parts volume fsync is

  abbrev whole : IsCommitPlan volume.num fsync.nodes old_tree new_tree image fsync.plan fsync.grant
  whole = over.full.sound.whole

  apart : (a b : OldEntry) (place other block : ℕ) → Contains fsync.entries a → Contains fsync.entries b → place < PLACES → other < PLACES → block ≢ 0
      → pointer_in a place ≡ block → pointer_in b other ≡ block → (a ≡ b) × (place ≡ other)
  apart = stands_apart volume fsync.entries is.ready is.keeps

  -- an entry of the plan is one that memory keeps, of a node that the commit concerns
  planned_entry : (entry : OldEntry) → Contains fsync.plan.old entry → Contains fsync.entries entry × (is_among fsync.nodes entry.node.0 ≡ true)
  planned_entry = is.plans.old.own

  gone_entry : (entry : OldEntry) → Contains change.gone entry → Contains fsync.plan.old entry × (leaves fsync.plan.leave entry ≡ true)
  gone_entry entry there = kept_in (leaves fsync.plan.leave) fsync.plan.old entry there

  staying_entry : (entry : OldEntry) → Contains (staying fsync.plan.old fsync.plan.leave) entry → Contains fsync.plan.old entry ×
      (leaves fsync.plan.leave entry ≡ false)
  staying_entry entry there = let kept = kept_in (λ e. not (leaves fsync.plan.leave e)) fsync.plan.old entry there in
      (kept.0, not_true (leaves fsync.plan.leave entry) kept.1)

  -- a block that a seat has at a place is that of the entry from which it comes
  seat_pointer : (entry : OldEntry) (place : ℕ) → (rewrite_in (seated_old change.changes entry)).pointers place ≡ pointer_in entry place
  seat_pointer entry place = begun_pointers change.changes (begun_old entry) (begun_old entry).kind place

  -- An entry that stays, whose seat has a block at a place.
  record ComesFrom (seat : Seated) (block place : ℕ) : Type 0 where
    entry : OldEntry
    stays : Contains (staying fsync.plan.old fsync.plan.leave) entry
    same : seated_old change.changes entry ≡ seat
    stands : pointer_in entry place ≡ block

  comes_from : (seat : Seated) → Contains change.seats seat → (block place : ℕ) → block ≢ 0 → (rewrite_in seat).pointers place ≡ block
      → ComesFrom seat block place
  comes_from seat there block place some stands = elim (seat_comes volume.num fsync.nodes old_tree new_tree image fsync.plan fsync.grant whole seat there) [
    | inl (entry, stay, same) ↦
        record {
          entry = entry;
          stays = stay;
          same = same;
          stands = sym (seat_pointer entry place) ∙ ap (λ (s : Seated). (rewrite_in s).pointers place) same ∙ stands;
        }
    | inr (one, enter, same) ↦ absurd (some (sym stands ∙ ap (λ (s : Seated). (rewrite_in s).pointers place) (sym same)
        ∙ begun_pointers change.changes (begun_entering one) (begun_entering one).kind place ∙ no_pointers one place))
  ]

  abbrev held : ℕ → Type 0
  held = IsLeftByGone fsync.entries

  abbrev freed : List ℕ
  freed = tx.freed_blocks.items

  -- a block of an entry is not freed, where its node is not concerned, or it stays and does not give the block up there
  aside_not_freed : (entry : OldEntry) (place block : ℕ) → Contains fsync.entries entry → is_among fsync.nodes entry.node.0 ≡ false → place < PLACES → block
      ≢ 0
      → pointer_in entry place ≡ block → Contains freed block → ⊥
  aside_not_freed entry place block there aside low some stands has = elim ((used.gives_up.freed_blocks.each block).0 has) [
    | inl seat ↦
        let from = comes_from seat.seat seat.one block seat.place some seat.left.stands in
        other from.entry (staying_entry from.entry from.stays).0 seat.place seat.left.within from.stands
    | inr gone ↦ other gone.entry (gone_entry gone.entry gone.one).0 gone.held.place gone.held.within gone.held.stands
  ]
    where
      other : (twin : OldEntry) → Contains fsync.plan.old twin → (at : ℕ) → at < PLACES → pointer_in twin at ≡ block → ⊥
      other twin planned at low_at stands_at =
          let own = planned_entry twin planned in
          let same = apart entry twin place at block there own.0 low low_at some stands stands_at in
          true_not_false (sym own.1 ∙ ap (λ (e : OldEntry). is_among fsync.nodes e.node.0) (sym same.0) ∙ aside)

  stays_not_freed : (seat : Seated) (place block : ℕ) (from : ComesFrom seat block place) → place < PLACES → block ≢ 0
      → gives_up (rewrite_in seat) place ≡ false → Contains freed block → ⊥
  stays_not_freed seat place block from low some keeps has = elim ((used.gives_up.freed_blocks.each block).0 has) [
    | inl left ↦
        let twin = comes_from left.seat left.one block left.place some left.left.stands in
        let twin_own = planned_entry twin.entry (staying_entry twin.entry twin.stays).0 in
        let same = apart from.entry twin.entry place left.place block own.0 twin_own.0 low left.left.within some from.stands twin.stands in
        let seats : seat ≡ left.seat = sym from.same ∙ ap (seated_old change.changes) same.0 ∙ twin.same in
        true_not_false (sym left.left.given_up ∙ sym (λ j. gives_up (rewrite_in (seats j)) (same.1 j)) ∙ keeps)
    | inr gone ↦
        let leaver = gone_entry gone.entry gone.one in
        let same =
        apart from.entry gone.entry place gone.held.place block own.0
        (planned_entry gone.entry leaver.0).0 low gone.held.within some from.stands gone.held.stands in
        true_not_false (sym leaver.1 ∙ ap (leaves fsync.plan.leave) (sym same.0) ∙ (staying_entry from.entry from.stays).1)
  ]
    where
      own : Contains fsync.entries from.entry × (is_among fsync.nodes from.entry.node.0 ≡ true)
      own = planned_entry from.entry (staying_entry from.entry from.stays).0

  -- what is built at a place of the commit's nodes has there what its seat leaves there
  built_pointer : (one : Built) (m : ℕ) (seat : Seated) (place : ℕ)
      → one ≡ built_by change.changes (numbers_with change fsync.grant.inodes) (fresh_cut change.seats fsync.grant.blocks m seat) seat → place < PLACES
      → pointer_kept one.meta one.tables place ≡ pointer_remapped (rewrite_in seat) (fresh_cut change.seats fsync.grant.blocks m seat) place
  built_pointer one m seat place built_is low =
      ap (λ (b : Built). pointer_kept b.meta b.tables place) built_is
      ∙ remapped_pointers_stand seat.meta seat.tables seat.changed (fresh_cut change.seats fsync.grant.blocks m seat) place low

  -- what is held later was held and is not freed, or is of the grant
  block_kept_of : (block : ℕ) → IsLeftByGone later block → Contains fsync.grant.blocks block ⊎ (held block × (Contains freed block → ⊥))
  block_kept_of block holder = elim ((those.each holder.entry).0 holder.one) [
    | inr (there, aside) ↦ inr (
      record { entry = holder.entry; one = there; held = holder.held },
      aside_not_freed holder.entry holder.held.place block there aside holder.held.within holder.held.some holder.held.stands,
    )
    | inl made_of ↦
        let one =
        mapped_is_in entry_after (nodes_with_grant change fsync.grant) holder.entry
        (ascending_is_in entry_node (map entry_after (nodes_with_grant change fsync.grant)) holder.entry made_of) in
        by_node one.0 (node_built volume.num fsync.nodes old_tree new_tree image fsync.plan fsync.grant over.full one.0 one.1)
        (ap (λ (e : OldEntry). pointer_in e holder.held.place) one.2 ∙ holder.held.stands)
  ]
    where
      by_node : (one : Built) → IsBuiltNode volume.num fsync.nodes old_tree new_tree image fsync.plan fsync.grant over.full one
          → pointer_kept one.meta one.tables holder.held.place ≡ block → Contains fsync.grant.blocks block ⊎ (held block × (Contains freed block → ⊥))
      by_node one node stands =
          elim (after_place (rewrite_in node.seat)
          (fresh_for (rewrite_in node.seat) (fresh_cut change.seats fsync.grant.blocks node.m node.seat)) holder.held.place block holder.held.some
          (sym (built_pointer one node.m node.seat holder.held.place node.is holder.held.within) ∙ stands)) [
            | inl fresh ↦
                inl
                (fresh_is_granted (rewrite_in node.seat) (blocks_taken node.seat)
                (sum_by blocks_taken (take node.m change.seats)) fsync.grant.blocks holder.held.place block holder.held.some fresh)
            | inr (stood, keeps) ↦
                let from = comes_from node.seat (there_is_in change.seats node.m node.seat node.at) block holder.held.place holder.held.some stood in
                inr (
                  record {
                    entry = from.entry;
                    one = (planned_entry from.entry (staying_entry from.entry from.stays).0).0;
                    held = record { some = holder.held.some; place = holder.held.place; within = holder.held.within; stands = from.stands };
                  },
                  stays_not_freed node.seat holder.held.place block from holder.held.within holder.held.some keeps,
                )
          ]

  -- what was held and is not freed is held later
  block_still : (block : ℕ) → held block → (Contains freed block → ⊥) → IsLeftByGone later block
  block_still block holder free = elim (cases_Bool (is_among fsync.nodes holder.entry.node.0)) [
    | inr aside ↦ record { entry = holder.entry; one = (those.each holder.entry).1 (inr (holder.one, aside)); held = holder.held }
    | inl among ↦ planned (is.plans.old.all holder.entry holder.one among)
  ]
    where
      planned : Contains fsync.plan.old holder.entry → IsLeftByGone later block
      planned there = elim (cases_Bool (leaves fsync.plan.leave holder.entry)) [
        | inl goes ↦
            absurd
            (free
            ((used.gives_up.freed_blocks.each block).1
            (inr (record { entry = holder.entry; one = in_kept (leaves fsync.plan.leave) fsync.plan.old holder.entry there goes; held = holder.held }))))
        | inr stays ↦
            seated_in
            (Contains-append_left (map (seated_old change.changes) (staying fsync.plan.old fsync.plan.leave))
            (map (seated_entering change.changes) fsync.plan.enter)
            (seated_old change.changes holder.entry)
            (in_mapped (seated_old change.changes) (staying fsync.plan.old fsync.plan.leave) holder.entry
            (in_kept (λ e. not (leaves fsync.plan.leave e)) fsync.plan.old holder.entry there (ap not stays))))
      ]
        where
          seat : Seated
          seat = seated_old change.changes holder.entry

          stands : (rewrite_in seat).pointers holder.held.place ≡ block
          stands = seat_pointer holder.entry holder.held.place ∙ holder.held.stands

          built_there : (m : ℕ) → slice_get change.seats m ≡ Some seat → gives_up (rewrite_in seat) holder.held.place ≡ false → IsLeftByGone later block
          built_there m at keeps =
              let one : Built = built_by change.changes (numbers_with change fsync.grant.inodes) (fresh_cut change.seats fsync.grant.blocks m seat) seat in
              let built_in = there_is_in (nodes_with_grant change fsync.grant) m one (nodes_are_built_by_rank change fsync.grant m seat at).built in
              record {
                entry = entry_after one;
                one =
                    (those.each (entry_after one)).1
                    (inl
                    (built_is_kept volume fsync is one
                    built_in));
                held = record {
                  some = holder.held.some;
                  place = holder.held.place;
                  within = holder.held.within;
                  stands = built_pointer one m seat holder.held.place refl holder.held.within
                      ∙ place_stays (rewrite_in seat)
                      (fresh_for (rewrite_in seat) (fresh_cut change.seats fsync.grant.blocks m seat)) holder.held.place block holder.held.some stands keeps;
                };
              }

          seated_in : Contains change.seats seat → IsLeftByGone later block
          seated_in in_seats = elim (cases_Bool (gives_up (rewrite_in seat) holder.held.place)) [
            | inl given ↦
                absurd
                (free
                ((used.gives_up.freed_blocks.each block).1
                (inl
                (record {
                  seat = seat;
                  one = in_seats;
                  place = holder.held.place;
                  left = record { within = holder.held.within; given_up = given; stands = stands };
                }))))
            | inr keeps ↦ let at = in_is_there change.seats seat in_seats in built_there at.0 at.1 keeps
          ]

  -- each block of the grant is held later
  block_used : (block : ℕ) → Contains fsync.grant.blocks block → IsLeftByGone later block
  block_used block there =
      let one = block_is_used volume.num fsync.nodes old_tree new_tree image fsync.plan fsync.grant volume.store volume.parts over block there in
      record {
        entry = entry_after one.0;
        one =
            (those.each (entry_after one.0)).1
            (inl (built_is_kept volume fsync is one.0 one.1));
        held = one.2;
      }

  unlisted : (numbers : List ℕ) (n : ℕ) → is_listed numbers n ≡ false → Contains numbers n → ⊥
  unlisted numbers n none there = true_not_false (sym (in_is_among numbers n there) ∙ none)

  listed_false : (numbers : List ℕ) (n : ℕ) → (Contains numbers n → ⊥) → is_listed numbers n ≡ false
  listed_false numbers n never = elim (cases_Bool (is_listed numbers n)) [
    | inl t ↦ absurd (never (among_is_in numbers n t))
    | inr f ↦ f
  ]

  pub blocks_hold : HoldsLater held (IsLeftByGone later) fsync.grant.blocks freed
  blocks_hold = record {
    kept = λ block holder none. elim (block_kept_of block holder) [
      | inl in_grant ↦ absurd (unlisted fsync.grant.blocks block none in_grant)
      | inr (was, free) ↦ (was, listed_false freed block free)
    ];
    still = λ block was free. block_still block was (unlisted freed block free);
    used = λ block t. block_used block (among_is_in fsync.grant.blocks block t);
  }

  abbrev left : List ℕ
  left = tx.freed_inodes.items

  abbrev inodes_of : List OldEntry → ℕ → Type 0
  inodes_of those_entries = Contains (map entry_number those_entries)

  later_keeps : KeepsEntries next_num (part_next volume.store volume.parts fsync.plan fsync.grant) later
  later_keeps = entries_after volume fsync is later those

  -- a node that has a number then has an entry with it
  inode_later : (node i : ℕ) → next_num node ≡ Some i → inodes_of later i
  inode_later node i has =
      let entry = later_keeps.all node i has in
      let number : entry.0.old.number ≡ i = some_same (sym (later_keeps.each entry.0 entry.1).0 ∙ ap next_num entry.2 ∙ has) in
      subst (λ n. inodes_of later n) number (in_mapped entry_number later entry.0 entry.1)

  had_later : (node i : ℕ) → volume.num node ≡ Some i → next_num node ≡ cond (node_leaves fsync.plan.leave node) None (Some i)
  had_later = after_had volume.num fsync.nodes old_tree new_tree image fsync.plan fsync.grant whole

  -- an inode that a node has then it had and keeps, or it is of the grant
  inode_kept_of : (i : ℕ) → inodes_of later i → Contains fsync.grant.inodes i ⊎ (inodes_of fsync.entries i × (Contains left i → ⊥))
  inode_kept_of i there =
      let entry = mapped_is_in entry_number later i there in
      by entry.0.node.0 ((later_keeps.each entry.0 entry.1).0 ∙ ap Some entry.2)
    where
      by : (node : ℕ) → next_num node ≡ Some i → Contains fsync.grant.inodes i ⊎ (inodes_of fsync.entries i × (Contains left i → ⊥))
      by node has = by_number (volume.num node) refl
        where
          by_number : (o : Option ℕ) → volume.num node ≡ o → Contains fsync.grant.inodes i ⊎ (inodes_of fsync.entries i × (Contains left i → ⊥))
          by_number None e =
              let at =
              granted (map enter_node fsync.plan.enter) fsync.grant.inodes node i
              (sym (after_none volume.num fsync.nodes old_tree new_tree image fsync.plan fsync.grant whole node e) ∙ has) in
              inl (subst (λ n. Contains fsync.grant.inodes n) at.number (Contains-get_or fsync.grant.inodes at.place 0 at.within))
          by_number (Some j) e = elim (cases_Bool (node_leaves fsync.plan.leave node)) [
            | inl goes ↦ absurd (none_some (sym (ap (λ b. cond b None (Some j)) goes) ∙ sym (had_later node j e) ∙ has))
            | inr stays ↦
                let same : j ≡ i = some_same (sym (ap (λ b. cond b None (Some j)) stays) ∙ sym (had_later node j e) ∙ has) in
                let own = is.keeps.all node j e in
                let number : own.0.old.number ≡ i = some_same (sym (is.keeps.each own.0 own.1).0 ∙ ap volume.num own.2 ∙ e) ∙ same in
                inr (
                  subst (λ n. inodes_of fsync.entries n) number (in_mapped entry_number fsync.entries own.0 own.1),
                  not_left own.0 own.1 number (ap (node_leaves fsync.plan.leave) own.2 ∙ stays),
                )
          ]
            where
              not_left : (entry : OldEntry) → Contains fsync.entries entry → entry.old.number ≡ i → leaves fsync.plan.leave entry ≡ false → Contains left i
                  → ⊥
              not_left entry there number stays has_left =
                  let gone = mapped_is_in entry_number change.gone i ((used.gives_up.freed_inodes.each i).0 has_left) in
                  let leaver = gone_entry gone.0 gone.1 in
                  let same =
                  same_number volume fsync.entries is.ready is.keeps entry gone.0 there
                  (planned_entry gone.0 leaver.0).0 (number ∙ sym gone.2) in
                  true_not_false (sym leaver.1 ∙ ap (leaves fsync.plan.leave) (sym same) ∙ stays)

  inode_still : (i : ℕ) → inodes_of fsync.entries i → (Contains left i → ⊥) → inodes_of later i
  inode_still i there free =
      let entry = mapped_is_in entry_number fsync.entries i there in
      by entry.0 entry.1 entry.2
    where
      by : (entry : OldEntry) → Contains fsync.entries entry → entry.old.number ≡ i → inodes_of later i
      by entry in_entries number = elim (cases_Bool (is_among fsync.nodes entry.node.0)) [
        | inr aside ↦ subst (λ n. inodes_of later n) number (in_mapped entry_number later entry ((those.each entry).1 (inr (in_entries, aside))))
        | inl among ↦ elim (cases_Bool (leaves fsync.plan.leave entry)) [
          | inl goes ↦
              let in_gone = in_kept (leaves fsync.plan.leave) fsync.plan.old entry (is.plans.old.all entry in_entries among) goes in
              absurd
              (free
              ((used.gives_up.freed_inodes.each i).1 (subst (λ n. inodes_of change.gone n) number (in_mapped entry_number change.gone entry in_gone))))
          | inr stays ↦
              inode_later entry.node.0 i
              (had_later entry.node.0 entry.old.number (is.keeps.each entry in_entries).0 ∙ ap (λ b. cond b None (Some entry.old.number)) stays
              ∙ ap Some number)
        ]
      ]

  -- each inode of the grant is that of a node that enters
  inode_used : (i : ℕ) → Contains fsync.grant.inodes i → inodes_of later i
  inode_used i there =
      let at = in_is_there fsync.grant.inodes i there in
      let within = slice_get_within fsync.grant.inodes at.0 i at.1 in
      let node = some_there (map enter_node fsync.plan.enter) at.0 (subst (λ n. at.0 < n) whole.serves.inodes.enough within) in
      let one = mapped_is_in enter_node fsync.plan.enter node.0 (there_is_in (map enter_node fsync.plan.enter) at.0 node.0 node.1) in
      let none : volume.num node.0 ≡ None = ap volume.num (sym one.2) ∙ whole.from.numbered.enter_none one.0 one.1 in
      inode_later node.0 i (after_none volume.num fsync.nodes old_tree new_tree image fsync.plan fsync.grant whole node.0 none
      ∙ grant_at (map enter_node fsync.plan.enter) fsync.grant.inodes at.0 node.0 i
      (ascending_once enter_node fsync.plan.enter whole.from.numbered.enter_ascend) node.1 at.1)

  pub inodes_hold : HoldsLater (inodes_of fsync.entries) (inodes_of later) fsync.grant.inodes left
  inodes_hold = record {
    kept = λ i has none. elim (inode_kept_of i has) [
      | inl in_grant ↦ absurd (unlisted fsync.grant.inodes i none in_grant)
      | inr (was, free) ↦ (was, listed_false left i free)
    ];
    still = λ i was free. inode_still i was (unlisted left i free);
    used = λ i t. inode_used i (among_is_in fsync.grant.inodes i t);
  }

pub commits_keep_maps : CommitsKeepMaps
commits_keep_maps volume fsync later tx old new is those mapped used =
    record {
      blocks =
          ends_right (data_start volume.layout) volume.layout.blocks (IsLeftByGone fsync.entries)
          (IsLeftByGone later) old.blocks new.blocks fsync.grant.blocks tx.freed_blocks.items mapped.blocks used.blocks
          (blocks_hold volume fsync later tx old new is those used);
      inodes =
          ends_right 0 volume.layout.inodes (Contains (map entry_number fsync.entries))
          (Contains (map entry_number later)) old.inodes new.inodes fsync.grant.inodes tx.freed_inodes.items mapped.inodes used.inodes
          (inodes_hold volume fsync later tx old new is those used);
    }
