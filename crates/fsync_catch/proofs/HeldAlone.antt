-- A core that holds what was flushed of one node.
use Rattle.std.proofs.Common.{◌≡◌, if◌then◌else◌, ◌∷◌, ◌<◌, Option, Some, None, refl, is_some, ℕ, [], arith, IsSome, ap, subst, sym}
use Rattle.std.proofs.lemmas.Option.{option_and_then_some}
use Rattle.sfs_base.specs.declared.numbers.Stamp.{Stamp}
use Rattle.sfs_base.proofs.BasicOptions.{none_some, some_same}
use Rattle.sfs_base.proofs.BasicTruth.{true_not_false}
use Rattle.tree_laws.specs.Tree.{TreeState}
use Rattle.disk_nodes.specs.OldKept.{OldKept}
use Rattle.stamp_table.specs.Table.{Looked}
use Rattle.stamp_table.specs.declared.view.View.{View}
use Rattle.stamp_table.specs.declared.event.Event.{Event}
use Rattle.stamp_table.proofs.Keeps.{begins_on}
use Rattle.mem_values.specs.declared.cell.Pending.{Pending}
use Rattle.mem_values.specs.Start.{FileState, FileHand}
use Rattle.mem_values.specs.Facts.{IsLawfulLog}
use Rattle.mem_values.specs.Stands.{StandsAt, StandsPending}
use Rattle.mem_values.specs.Account.{account_of}
use Rattle.mem_values.specs.declared.fact.Fact.{Fact}
use Rattle.mem_values.specs.declared.cell_id.CellId.TheVariants as id
use Rattle.mem_calls.specs.Table.{IsFileTable}
use Rattle.mem_calls.specs.Working.{IsWorking, WorksOn}
use Rattle.mem_calls.specs.Held.{pending_held, as_pending, value_held}
use Rattle.mem_calls.proofs.PutBack.{stands_now}
use Rattle.fsync_look.specs.Look.{HoldsNodes, SawMore}
use Rattle.fsync_look.proofs.Copied.{pending_of}
use Rattle.fsync_catch.specs.Catch.{cut_if_inode, GoesOn, HasItsFsync, IsCaughtAlone, LacksAlone, LetsAllGo}
use Rattle.fsync_catch.specs.declared.looking.WaitingFsync.{WaitingFsync}
use Rattle.fsync_catch.proofs.Going.{one_below, looked_works, looked_saw, holds_on, all_held, waits_on, saw_goes, logs_above}
use Rattle.stamp_table.specs.Events.{calls_in}
use Rattle.tree_laws.specs.History.{IsLegal}

-- where there is a stamp there is a value with an inode
with_inode : (o : Option Pending) (cut : Stamp) → cut_if_inode o ≡ Some cut
    → (value : Pending) × (kept : OldKept) × (o ≡ Some value) × (value.old ≡ Some kept) × (value.cut ≡ cut)
with_inode None cut is = absurd (none_some is)
with_inode (Some value) cut is = by value.old refl is
  where
    by : (old : Option OldKept) → value.old ≡ old → (if is_some old then Some value.cut else None) ≡ Some cut
        → (other : Pending) × (kept : OldKept) × (Some value ≡ Some other) × (other.old ≡ Some kept) × (other.cut ≡ cut)
    by None same none = absurd (none_some none)
    by (Some kept) same one = (value, kept, refl, same, some_same one)

-- where there is none, the value that is there has no inode
without_inode : (o : Option Pending) → IsSome o → cut_if_inode o ≡ None → (value : Pending) × (o ≡ Some value) × (value.old ≡ None)
without_inode None some is = absurd (true_not_false (sym some))
without_inode (Some value) some is = (value, refl, by value.old refl is)
  where
    by : (old : Option OldKept) → value.old ≡ old → (if is_some old then Some value.cut else None) ≡ None → value.old ≡ None
    by None same none = same
    by (Some kept) same one = absurd (none_some (sym one))

module _ (given : ℕ → Option OldKept) (t : FileState) (nodes : ℕ) (fsync : WaitingFsync) (mid : FileHand) (number : ℕ) (hand : FileHand)
    (table : IsFileTable t nodes) (work : IsWorking given t mid) (holds : HoldsNodes nodes (fsync.node ∷ []) mid) (low : fsync.node.0 < nodes)
    (looked : Looked (IsLawfulLog given) (StandsAt given) mid number hand) where
  pub works_then : IsWorking given t hand
  works_then = looked_works given t mid number hand looked work

  saw_then : SawMore mid hand
  saw_then = looked_saw given t mid number hand looked

  holds_then : HoldsNodes nodes (fsync.node ∷ []) hand
  holds_then = holds_on nodes (fsync.node ∷ []) mid hand saw_then holds

  pub held_then : IsSome (pending_held nodes hand.held fsync.node)
  held_then = all_held given t nodes (fsync.node ∷ []) hand table works_then holds_then (one_below nodes fsync.node low) 0 fsync.node (omega arith)

  first_same : hand.view.first ≡ mid.view.first
  first_same = ap (λ (v : View TreeState (Event Fact)). v.first) saw_then.view

  -- the value that is held stands for all that was seen
  stands_then : (value : Pending) → pending_held nodes hand.held fsync.node ≡ Some value
      → StandsPending given hand.view.first (account_of hand.view.seen) fsync.node.0 value
  stands_then value held = option_and_then_some as_pending (value_held nodes hand.held (id.Pending fsync.node)) value held (λ cell there kind.
      pending_of given hand.view.first hand.view.seen fsync.node cell value kind
      (stands_now given t nodes hand table works_then (id.Pending fsync.node) cell low there))

  pub caught_alone : HasItsFsync mid fsync → 0 < mid.room → (cut : Stamp) → cut_if_inode (pending_held nodes hand.held fsync.node) ≡ Some cut
      → IsCaughtAlone given nodes fsync hand cut
  caught_alone waits room cut is =
      let found = with_inode (pending_held nodes hand.held fsync.node) cut is in
      record {
        value = found.0;
        kept = found.1;
        holds = holds_then;
        held = found.2;
        has = found.3;
        cut_is = found.4;
        stamped = waits_on mid hand fsync (saw_goes mid hand saw_then) waits;
        stands = stands_then found.0 found.2;
        legal = subst (λ f. IsLegal f (calls_in hand.view.seen)) (sym first_same) looked.saw.legal_seen.legal_calls;
        lawful = subst (λ f. IsLawfulLog given f hand.view.seen) (sym first_same) looked.saw.legal_seen.told;
        room = subst (λ (h : FileHand). 0 < h.room) (sym saw_then.frame) room;
        below = logs_above given t nodes (fsync.node ∷ []) hand table works_then holds_then (one_below nodes fsync.node low);
      }

  -- where it has no inode, and all is let go then, that is so of what was seen up to there
  pub lacks_alone : (before after : FileHand) → GoesOn before mid → WorksOn hand after → LetsAllGo after
      → cut_if_inode (pending_held nodes hand.held fsync.node) ≡ None → LacksAlone given fsync before after
  lacks_alone before after on lets none is =
      let found = without_inode (pending_held nodes hand.held fsync.node) held_then is in
      record {
        lets = none;
        at = hand.view.seen;
        begun = begins_on before.view.seen mid.view.seen hand.view.seen on.seen saw_then.seen;
        since = lets.seen;
        value = found.0;
        stands = subst (λ f. StandsPending given f (account_of hand.view.seen) fsync.node.0 found.0)
            (sym (ap (λ (v : View TreeState (Event Fact)). v.first) lets.view)) (stands_then found.0 found.1);
        lacks = found.2;
      }
