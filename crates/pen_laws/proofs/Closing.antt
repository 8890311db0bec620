-- In the end a core and its pen agree on the whole history.
use Rattle.std.specs.Prelude.{if◌then◌else◌, not, Some, None}
use mathlib.Core.List.{IsPrefix}
use borrow.Author.Tests.{eqb-true, eq-eqb}
use Rattle.std.proofs.Common.{◌≡◌, ◌∙◌, ℕ, Bool, true, false, List, filter, refl, sym, ap, subst}
use Rattle.sfs_base.specs.declared.numbers.NodeId.{NodeId}
use Rattle.sfs_base.proofs.BasicTruth.{true_not_false}
use Rattle.tree_laws.specs.declared.call.Call.TheVariants as call
use Rattle.tree_laws.specs.declared.history.Entry.{Entry}
use Rattle.tree_laws.specs.declared.reply.Code.TheVariants.{NoEntry}
use Rattle.tree_laws.specs.declared.reply.Reply.TheVariants as reply
use Rattle.tree_laws.specs.declared.turns.Turn.{Turn}
use Rattle.tree_laws.specs.History.{IsLegal, MayCome, IsDue, flushes}
use Rattle.tree_laws.specs.Merged.{is_core}
use Rattle.tree_laws.specs.Tree.{TreeState, is_alive}
use Rattle.tree_laws.specs.Verdict.{verdict, answered, or_else, node_fault}
use Rattle.cut_laws.specs.Rules.{IsOneOf}
use Rattle.cut_laws.proofs.Entries.{entries_may_come}
use Rattle.cut_laws.proofs.Listed.{to_filter}
use Rattle.cut_laws.proofs.RunFacts.{in_filter}
use Rattle.turn_laws.specs.Recorded.{IsLiveFsync}
use Rattle.merge_laws.specs.Pens.{FsyncTurns, IsPenFsync, PenAgrees, failed_in}
use Rattle.stamp_table.specs.Answered.{is_refusal}
use Rattle.stamp_table.proofs.Answered.{fsync_reply_serves}
use Rattle.mem_values.specs.Start.{FileHand}
use Rattle.pen_laws.specs.Agreement.{IsServedFsync, AgreeOn, Agree}
use Rattle.pen_laws.specs.Laws.{AgreementsClose}
use Rattle.pen_laws.proofs.Growing.{failed_stays}

-- an fsync that may come and is not refused is of a node that is alive
served_alive : (tree : TreeState) (stamp : ℕ) (entry : Entry) (node : NodeId) → MayCome tree stamp entry → entry.call ≡ call.Fsync node
    → is_refusal entry.reply ≡ false → is_alive tree node.0 ≡ true
served_alive tree stamp entry node may fsync served =
    by (is_alive tree node.0) refl (subst (λ c. IsDue (flushes tree c) (verdict tree entry.core.0 c).reply entry.reply) fsync may.due)
  where
    by : (b : Bool) → is_alive tree node.0 ≡ b → IsDue (is_alive tree node.0) (or_else (node_fault tree node.0) (answered reply.Ok)).reply entry.reply
        → is_alive tree node.0 ≡ true
    by true alive due = alive
    by false dead due =
        let given : entry.reply ≡ (or_else (if not false then Some NoEntry else None) (answered reply.Ok)).reply =
        subst (λ b. IsDue b (or_else (if not b then Some NoEntry else None) (answered reply.Ok)).reply entry.reply) dead due in
        absurd (true_not_false (sym (ap is_refusal given) ∙ served))

-- and one of a node that is alive is not refused
alive_served : (tree : TreeState) (stamp : ℕ) (entry : Entry) (node : NodeId) → MayCome tree stamp entry → entry.call ≡ call.Fsync node
    → is_alive tree node.0 ≡ true → is_refusal entry.reply ≡ false
alive_served tree stamp entry node may fsync alive =
    fsync_reply_serves entry.reply
    (subst (λ b. IsDue b (or_else (node_fault tree node.0) (answered reply.Ok)).reply entry.reply) alive
    (subst (λ c. IsDue (flushes tree c) (verdict tree entry.core.0 c).reply entry.reply) fsync may.due))

module _ (first : TreeState) (history : List Entry) (core : ℕ) (hand : FileHand) (seen turns : List Turn) (fsyncs : List FsyncTurns)
    (legal : IsLegal first history) (entries : hand.entries ≡ filter (is_core core) history) (on : IsPrefix seen turns) (agree : Agree hand seen fsyncs) where
  own_entry : (entry : Entry) → IsOneOf hand.entries entry → IsOneOf history entry × (is_core core entry ≡ true)
  own_entry entry among = in_filter (is_core core) history entry (subst (λ l. IsOneOf l entry) entries among)

  live : (entry : Entry) (node : NodeId) → IsServedFsync hand entry node → IsLiveFsync first history entry node
  live entry node own =
      let among = (own_entry entry own.among).0 in
      let may = (entries_may_come first history entry legal among).may in
      record { among = among; asked = own.asked; alive = served_alive _ entry.stamp.0 entry node may own.asked own.served }

  one_agrees : (one : FsyncTurns) → AgreeOn hand seen one → IsPenFsync first history turns core one
  one_agrees one has = record {
    entry = has.entry;
    node = has.node;
    live = live has.entry has.node has.own;
    own_core = eqb-true has.entry.core.0 core (own_entry has.entry has.own.among).1;
    own_stamp = has.has.own_stamp;
    each = has.has.each;
    some = has.has.some;
    way = has.has.way;
    ack = has.has.ack;
    stopped = λ faults stops. subst (λ l. failed_in l ≡ Some faults) on.1 (failed_stays seen on.0 faults (has.has.stopped faults stops));
  }

  closes : PenAgrees first history turns core fsyncs
  closes = record {
    each = λ one among. one_agrees one (agree.each one among);
    once = agree.once;
    others = λ entry node fsync own.
        let may = (entries_may_come first history entry legal fsync.among).may in
        agree.others entry node (record {
          among = subst (λ l. IsOneOf l entry) (sym entries) (to_filter (is_core core) history entry fsync.among (eq-eqb entry.core.0 core own));
          asked = fsync.asked;
          served = alive_served _ entry.stamp.0 entry node may fsync.asked fsync.alive;
        });
  }

pub agreements_close : AgreementsClose
agreements_close first history core hand seen turns fsyncs legal entries on agree = closes first history core hand seen turns fsyncs legal entries on agree
