-- Directories that are read upwards under the lock.
use Rattle.std.proofs.Common.{◌≡◌, ℕ, ◌+◌, ◌*◌, ◌<◌, Bool, true, false, List, [], ◌∷◌, ◌++◌, map, Option, Some, None, inl, inr, refl, sym, ap, subst, ◌∙◌, arith, append-nil, append_assoc}
use Rattle.std.proofs.lemmas.List.{map-append}
use Rattle.std.specs.FinMap.{get}
use Rattle.sfs_base.specs.declared.numbers.NodeId.{NodeId}
use Rattle.sfs_base.proofs.BasicOptions.{none_some, some_is}
use Rattle.disk_nodes.specs.OldKept.{OldKept}
use Rattle.tree_laws.specs.Tree.{TreeState, is_directory, holder_of}
use Rattle.tree_laws.specs.Lock.{AreHolders, stands_of}
use Rattle.tree_laws.specs.NameRow.{number_of, node_number}
use Rattle.tree_laws.specs.History.{tree_after, IsLegal}
use Rattle.tree_laws.specs.Laws.{IsSoundTree}
use Rattle.tree_laws.proofs.RowFacts.{holder_found}
use Rattle.tree_laws.proofs.KeepsNodes.{directory_node}
use Rattle.stamp_table.specs.declared.event.Event.{Event}
use Rattle.stamp_table.specs.declared.view.View.{View}
use Rattle.stamp_table.specs.Events.{calls_in}
use Rattle.mem_values.specs.Start.{FileHand, FileState}
use Rattle.mem_values.specs.declared.cell_id.CellId.TheVariants as id
use Rattle.mem_values.specs.declared.fact.Fact.{Fact}
use Rattle.mem_values.specs.Account.{account_of}
use Rattle.mem_values.specs.Stands.{ShowsBucket, StandsForCell}
use Rattle.mem_values.specs.Laws.{KnowsCells}
use Rattle.mem_values.specs.Places.{node_count}
use Rattle.mem_calls.specs.Table.{IsFileTable}
use Rattle.mem_calls.specs.Working.{IsWorking}
use Rattle.mem_calls.proofs.Faults.{node_within}
use Rattle.mem_rename.specs.Ways.{last_read, HoldsLock, ReadsOn, SawStanding, HasReadAll, tree_seen}
use Rattle.mem_rename.proofs.Upwards.{read_ways_stay, reading_goes_up, reading_ends_at_the_root}

-- So far directories above one have been read, the last of which stands here.
pub record HasWalked (given : ℕ → Option OldKept) (t : FileState) (nodes node : ℕ) (start now : FileHand) (above : List NodeId)
    (at : NodeId) : Type 0 where
  pub on : ReadsOn start now
  pub work : IsWorking given t now
  pub lock : HoldsLock now
  pub holders : AreHolders (tree_seen now) node (map node_number above)
  pub last : last_read node (map node_number above) ≡ at.0
  pub within : at.0 < nodes

pub reads_on_same : (hand : FileHand) → IsLegal hand.view.first (calls_in hand.view.seen) → ReadsOn hand hand
reads_on_same hand legal = record { frame = refl; view = refl; seen = ([], append-nil hand.view.seen); legal = legal }

pub reads_on_both : (a b c : FileHand) → ReadsOn a b → ReadsOn b c → ReadsOn a c
reads_on_both a b c one two = record {
  frame = ap (λ (h : FileHand). record h { view = a.view }) two.frame ∙ one.frame;
  view = ap (λ (v : View TreeState (Event Fact)). record v { seen = a.view.seen }) two.view ∙ one.view;
  seen = (one.seen.0 ++ two.seen.0, sym (append_assoc a.view.seen one.seen.0 two.seen.0) ∙ (ap (λ l. l ++ two.seen.0) one.seen.1 ∙ two.seen.1));
  legal = subst (λ f. IsLegal f (calls_in c.view.seen)) (ap (λ (v : View TreeState (Event Fact)). v.first) one.view) two.legal;
}

last_read-push : (node h : ℕ) (above : List ℕ) → last_read node (above ++ h ∷ []) ≡ h
last_read-push node h [] = refl
last_read-push node h (a ∷ above) = last_read-push a h above

-- a directory in which another one stands is a node
holder_node : (tree : TreeState) → IsSoundTree tree → (node holder : ℕ) → stands_of tree node ≡ Some holder → holder < node_count tree
holder_node tree is node holder stands = node_within tree is holder (directory_node tree holder (by_kind (is_directory tree node) stands))
  where
    by_kind : (b : Bool) → Rattle.std.specs.Prelude.if◌then◌else◌ b (holder_of tree node) None ≡ Some holder → is_directory tree holder ≡ true
    by_kind false s = absurd (none_some s)
    by_kind true s = elim (holder_found tree node) [
      | inl f ↦ subst (λ (h : ℕ). is_directory tree h ≡ true) (some_is f.0 holder (sym f.1 ∙ s)) (is.sound.holds f.0 f.2.0 node f.2.1).0
      | inr none ↦ absurd (none_some (sym none.0 ∙ s))
    ]

module _ (given : ℕ → Option OldKept) (t : FileState) (nodes : ℕ) (table : IsFileTable t nodes) (node : ℕ) (start : FileHand) where
  pub walk_begins : (at : NodeId) → node ≡ at.0 → IsWorking given t start → HoldsLock start → IsLegal start.view.first (calls_in start.view.seen) → at.0 < nodes
      → HasWalked given t nodes node start start [] at
  walk_begins at same work lock legal within = record { on = reads_on_same start legal; work = work; lock = lock; holders = tt; last = same; within = within }

  module _ (now : FileHand) (above : List NodeId) (at : NodeId) (walked : HasWalked given t nodes node start now above at) where
    pub walk_ends : at.0 ≡ 0 → HasReadAll now node (map node_number above)
    walk_ends root = record { holders = walked.holders; ends = reading_ends_at_the_root node (map node_number above) (walked.last ∙ root) }

    lock_stands : (hand : FileHand) → IsWorking given t hand → (lock : HoldsLock hand)
        → StandsForCell given hand.view.first (account_of hand.view.seen) id.Lock lock.lock.value
    lock_stands hand work lock = (subst (KnowsCells given hand.view) lock.alone work.knows).0.stood id.Lock tt (sym lock.place)

    module _ (after : FileHand) (holder : NodeId) (work : IsWorking given t after) (saw : SawStanding at.0 now (Some holder) after) where
      abbrev pub lock_after : HoldsLock after
      lock_after = record {
        lock = walked.lock.lock;
        alone = ap (λ (h : FileHand). h.held) saw.on.frame ∙ walked.lock.alone;
        place = walked.lock.place;
        kind = walked.lock.kind;
      }

      first_after : after.view.first ≡ now.view.first
      first_after = ap (λ (v : View TreeState (Event Fact)). v.first) saw.on.view

      -- what was read is still so
      still : AreHolders (tree_seen after) node (map node_number above)
      still = subst (λ (z : TreeState × List (Event Fact)). AreHolders (tree_after z.0 (calls_in z.1)) node (map node_number above))
          (λ i. (sym first_after i, saw.on.seen.1 i))
          (read_ways_stay given now.view.first now.view.seen saw.on.seen.0 walked.lock.lock.value node (map node_number above)
          (subst IsSoundTree (sym walked.work.first) table.sound) (subst (λ l. IsLegal now.view.first (calls_in l)) (sym saw.on.seen.1) saw.on.legal)
          (lock_stands now walked.work walked.lock)
          (subst (λ (z : TreeState × List (Event Fact)). StandsForCell given z.0 (account_of z.1) id.Lock walked.lock.lock.value)
          (λ i. (first_after i, sym saw.on.seen.1 i)) (lock_stands after work lock_after))
          walked.holders)

      stands : number_of saw.bucket.stands ≡ Some holder.0
      stands = ap number_of (sym saw.stands)

      pub walk_goes_on : HasWalked given t nodes node start after (above ++ holder ∷ []) holder
      walk_goes_on = record {
        on = reads_on_both start now after walked.on saw.on;
        work = work;
        lock = lock_after;
        holders = subst (AreHolders (tree_seen after) node) (sym (map-append node_number above (holder ∷ [])))
            (reading_goes_up (tree_seen after) node 0 holder.0 (map node_number above) saw.bucket still
            (subst (λ (n : ℕ). ShowsBucket (tree_seen after) n 0 saw.bucket) (sym walked.last) saw.shows) stands);
        last = ap (last_read node) (map-append node_number above (holder ∷ [])) ∙ last_read-push node holder.0 (map node_number above);
        within =
            let lt = holder_node (tree_seen after) saw.met.sound at.0 holder.0 (sym saw.shows.stands ∙ stands) in
            let same : node_count (tree_seen after) ≡ nodes = (λ i. saw.met.first i + saw.met.share i * saw.met.cores i)
            ∙ (ap node_count (first_after ∙ walked.work.first) ∙ sym table.counted) in
            omega (arith, lt, same);
      }
