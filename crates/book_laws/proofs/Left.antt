-- What memory keeps of the disk once an fsync is on it.
use Rattle.std.specs.Ordering.{match_ordering}
use Rattle.std.proofs.Common.{◌∷◌, ◌<◌, ◌≡◌, ◌++◌, ◌⊎◌, ◌∙◌, ◌↔◌, ℕ, List, All, [], nat_cmp, suc, arith, Ordering, Less, Equal, Greater, refl, length, get_or, tests, fold, Bool, not, filter, Contains, false, inl, inr, ap, sym, map, subst}
use Rattle.std.proofs.lemmas.List.Elements.{All-cons, Contains-append_cases, Contains-append_right, Contains-append_left}
use Rattle.std.proofs.lemmas.List.Kept.{AllPairs-cons}
use Rattle.sfs_base.proofs.BasicTruth.{not_true, not_both}
use Rattle.sfs_base.proofs.BasicOptions.{some_same}
use Rattle.sfs_image.specs.Part.{Part}
use Rattle.keyed_list.specs.Ascending.{AscendBy, item_with}
use Rattle.keyed_list.proofs.Searched.{ascends_behind, first_is_least}
use Rattle.image_laws.specs.Renamed.{Numbering}
use Rattle.disk_nodes.specs.declared.old.OldEntry.{OldEntry}
use Rattle.disk_nodes.specs.Nodes.{entry_node}
use Rattle.block_map.specs.Kept.{kept_of}
use Rattle.disk_change.specs.Lists.{put_over, ascending_by}
use Rattle.disk_change.specs.Directory.{is_among}
use Rattle.disk_change.specs.AllBuilt.{after_commit, entry_after, nodes_with_grant}
use Rattle.commit_laws.specs.CommitOfPlan.{change_planned}
use Rattle.commit_laws.proofs.NumbersGiven.{kept_in}
use Rattle.commit_laws.proofs.KnownDirectories.{own_item}
use Rattle.commit_laws.proofs.OwnInodes.{in_ascending_list, ascending_is_in}
use Rattle.commit_laws.proofs.SeatsOfPlan.{in_kept}
use Rattle.flush_laws.specs.Volume.{Volume, OneFsync}
use Rattle.flush_laws.specs.Planned.{IsPlannedFsync}
use Rattle.flush_laws.specs.Laws.{AreEntriesAfter}
use Rattle.flush_laws.specs.Ready.{KeepsEntries}
use Rattle.book_laws.specs.Entries.{entries_left, EntriesGoOn, EntriesAreThose, PlannedWithEach}
use Rattle.book_laws.proofs.Entries.{entry_among}

module _ {X : Type 0} (key : X → ℕ) where
  -- what holds of an item and of all others holds of all
  all_over : (P : X → Type 0) (items : List X) (item : X) → P item → All P items → All P (put_over key item items)
  all_over P [] item own all = All-cons P item [] own all
  all_over P (other ∷ others) item own all =
      by (nat_cmp (key item) (key other)) (all_over P others item own (λ k d within. all (suc k) d (omega arith)))
    where
      by : (o : Ordering) → All P (put_over key item others)
          → All P (match_ordering o (item ∷ other ∷ others) (item ∷ others) (other ∷ put_over key item others))
      by Less rest = All-cons P item (other ∷ others) own all
      by Equal rest = All-cons P item others own (λ k d within. all (suc k) d (omega arith))
      by Greater rest = All-cons P other (put_over key item others) (all 0 other (omega arith)) rest

  -- a list with an item put in ascends
  ascends_over : (items : List X) (item : X) → AscendBy key items → AscendBy key (put_over key item items)
  ascends_over [] item up = λ i j d lt within. absurd (omega arith)
  ascends_over (other ∷ others) item up =
      by (nat_cmp (key item) (key other)) refl (ascends_over others item (ascends_behind key other others up))
    where
      first_below : (k : ℕ) (d : X) → k < length others → key other < key (get_or others k d)
      first_below = first_is_least key other others up

      by : (o : Ordering) → nat_cmp (key item) (key other) ≡ o → AscendBy key (put_over key item others)
          → AscendBy key (match_ordering o (item ∷ other ∷ others) (item ∷ others) (other ∷ put_over key item others))
      by Less e rest =
          let less : key item < key other = grind (arith, tests) in
          AllPairs-cons (λ a b. key a < key b) item (other ∷ others)
          (All-cons (λ y. key item < key y) other others less (λ k d within. let more = first_below k d within in omega (arith, less, more))) up
      by Equal e rest =
          let same : key item ≡ key other = grind (arith, tests) in
          AllPairs-cons (λ a b. key a < key b) item others (λ k d within. let more = first_below k d within in omega (arith, same, more))
          (ascends_behind key other others up)
      by Greater e rest =
          let more : key other < key item = grind (arith, tests) in
          AllPairs-cons (λ a b. key a < key b) other (put_over key item others) (all_over (λ y. key other < key y) others item more first_below) rest

  ascends_fold : (items found : List X) → AscendBy key found → AscendBy key (fold (λ others item. put_over key item others) found items)
  ascends_fold [] found up = up
  ascends_fold (item ∷ items) found up = ascends_fold items (put_over key item found) (ascends_over found item up)

  -- items put in one after another ascend
  pub ascending_ascends : (items : List X) → AscendBy key (ascending_by key items)
  ascending_ascends items = ascends_fold items [] (λ i j d lt within. absurd (omega arith))

module _ (volume : Volume) (one : OneFsync) (planned : IsPlannedFsync volume one) where
  abbrev aside : OldEntry → Bool
  aside entry = not (is_among one.nodes (entry_node entry))

  abbrev made : List OldEntry
  made = after_commit (change_planned one.plan) one.grant

  abbrev joined : List OldEntry
  joined = filter aside one.entries ++ made

  was_or_made : (entry : OldEntry) → Contains joined entry
      → (Contains one.entries entry × (is_among one.nodes entry.node.0 ≡ false)) ⊎ Contains made entry
  was_or_made entry there = elim (Contains-append_cases (filter aside one.entries) made entry there) [
    | inl before ↦
        let kept = kept_in aside one.entries entry before in
        inl (kept.0, not_true (is_among one.nodes entry.node.0) kept.1)
    | inr after ↦ inr after
  ]

  -- entries of one node are one
  once : (entry : OldEntry) → Contains joined entry → (twin : OldEntry) → Contains joined twin → entry_node twin ≡ entry_node entry → twin ≡ entry
  once entry there twin also same = elim (was_or_made entry there) [
    | inl was ↦ elim (was_or_made twin also) [
      | inl before ↦ ascending_one one.entries planned.keeps.ascend twin entry before.0 was.0 same
      | inr after ↦
          absurd (not_both (entry_among volume one planned twin after) (ap (is_among one.nodes) same ∙ was.1))
    ]
    | inr now ↦ elim (was_or_made twin also) [
      | inl before ↦ absurd (not_both (entry_among volume one planned entry now) (ap (is_among one.nodes) (sym same) ∙ before.1))
      | inr after ↦
          ascending_one made (ascending_ascends entry_node (map entry_after (nodes_with_grant (change_planned one.plan) one.grant))) twin entry after now
          same
    ]
  ]
    where
      ascending_one : (entries : List OldEntry) → AscendBy entry_node entries → (a b : OldEntry) → Contains entries a → Contains entries b
          → entry_node a ≡ entry_node b → a ≡ b
      ascending_one entries up a b has too e =
          some_same
          (sym (own_item entry_node entries up a has) ∙ ap (λ n. item_with entry_node n entries) e ∙ own_item entry_node entries up b too)

  in_left_list : (entry : OldEntry) → Contains joined entry → Contains (entries_left one) entry
  in_left_list entry there = in_ascending_list entry_node joined entry (λ twin also same. once entry there twin also same) there

  pub left_entries : AreEntriesAfter one (entries_left one)
  left_entries = record {
    ascend = ascending_ascends entry_node joined;
    each = λ entry. (
      (λ there. elim (was_or_made entry (ascending_is_in entry_node joined entry there)) [ inl was ↦ inr was | inr now ↦ inl now ]),
      (λ either. in_left_list entry (elim either [
        | inl now ↦ Contains-append_right (filter aside one.entries) made entry now
        | inr was ↦ Contains-append_left (filter aside one.entries) made entry (in_kept aside one.entries entry was.0 (ap not was.1))
      ])),
    );
  }

pub entries_go_on : EntriesGoOn
entries_go_on = left_entries

-- an entry that one list keeps of a disk another one keeps too
kept_too : (num : Numbering) (parts : ℕ → Part) (entries others : List OldEntry) → KeepsEntries num parts entries → KeepsEntries num parts others
    → (entry : OldEntry) → Contains entries entry → Contains others entry
kept_too num parts entries others here there entry own =
    let was = here.each entry own in
    let twin = there.all entry.node.0 entry.old.number was.0 in
    let now = there.each twin.0 twin.1 in
    let number : twin.0.old.number ≡ entry.old.number = some_same (sym now.0 ∙ ap num twin.2 ∙ was.0) in
    subst (Contains others)
    (λ i. record {
      node = record { 0 = twin.2 i };
      old = record { number = number i; kept = (now.1 ∙ ap (λ n. kept_of (parts n)) number ∙ sym was.1) i };
    }) twin.1

pub entries_are_those : EntriesAreThose
entries_are_those num parts entries others here there entry =
    (kept_too num parts entries others here there entry, kept_too num parts others entries there here entry)

pub planned_with_each : PlannedWithEach
planned_with_each volume one entries planned keeps = record {
  ready = planned.ready;
  keeps = keeps;
  raises = planned.raises;
  inodes_after = planned.inodes_after;
  plans = record {
    concerns = planned.plans.concerns;
    old = record {
      ascend = planned.plans.old.ascend;
      own = λ entry there. let own = planned.plans.old.own entry there in ((those entry).0 own.0, own.1);
      all = λ entry there among. planned.plans.old.all entry ((those entry).1 there) among;
    };
    nets = planned.plans.nets;
    moves = planned.plans.moves;
    files = planned.plans.files;
  };
  grants = planned.grants;
}
  where
    those : (entry : OldEntry) → Contains one.entries entry ↔ Contains entries entry
    those = entries_are_those volume.num volume.parts one.entries entries planned.keeps keeps
