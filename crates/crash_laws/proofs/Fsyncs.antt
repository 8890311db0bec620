-- Fsyncs of a legal history: they are of live nodes, lie below its end, and are acknowledged once.
use Rattle.std.proofs.Common.{◌≡◌, ℕ, suc, ◌+◌, ◌<◌, ◌⊎◌, Bool, true, false, cond, not, List, [], ◌∷◌, ◌++◌, length, take, Some, None, inl, inr, refl, sym, ap, subst, ◌∙◌}
use Rattle.std.proofs.Math.Seq.{take-append_seam}
use Rattle.std.proofs.lemmas.Option.{slice_get_within}
use Rattle.sfs_base.specs.declared.numbers.NodeId.{NodeId}
use Rattle.sfs_base.proofs.BasicNumbers.{plus_zero, suc_plus, zero_plus}
use Rattle.sfs_base.proofs.BasicOptions.{some_same}
use Rattle.tree_laws.specs.declared.call.Call.{Call}
use Rattle.tree_laws.specs.declared.call.Call.TheVariants as call
use Rattle.tree_laws.specs.declared.history.Entry.{Entry}
use Rattle.tree_laws.specs.declared.reply.Code.TheVariants.{NoEntry}
use Rattle.tree_laws.specs.declared.reply.Reply.{Reply}
use Rattle.tree_laws.specs.declared.reply.Reply.TheVariants as reply
use Rattle.tree_laws.specs.History.{tree_after, tree_after_entry, flushes, IsDue, MayCome, IsLegalFrom, IsLegal}
use Rattle.tree_laws.specs.Laws.{IsSoundTree}
use Rattle.tree_laws.specs.Tree.{TreeState, is_alive}
use Rattle.tree_laws.specs.Verdict.{verdict, or_else, answered}
use Rattle.cut_laws.specs.Closure.{Flush, HasLiveNode}
use Rattle.cut_laws.specs.Covers.{IsAcknowledged}
use Rattle.cut_laws.proofs.Basics.{in_left, in_right, in_either}
use Rattle.cut_laws.proofs.Entries.{entries_may_come, stamps_are_once}
use Rattle.cut_laws.proofs.Prefix.{legal_take}
use Rattle.crash_laws.specs.Listed.{IsFsyncOf, MayBeWritten, IsListedFsync}

-- a call that is answered so and is an fsync is one of a live node
answered_live : (tree : TreeState) (core : ℕ) (c : Call) (node : NodeId) (given : Reply) → c ≡ call.Fsync node
    → IsDue (flushes tree c) (verdict tree core c).reply given → MayBeWritten given → is_alive tree node.0 ≡ true
answered_live tree core c node given asked due may =
    by_life (is_alive tree node.0) (subst (λ (c : Call). IsDue (flushes tree c) (verdict tree core c).reply given) asked due)
  where
    by_life : (alive : Bool) → IsDue alive (or_else (cond (not alive) (Some NoEntry) None) (answered reply.Ok)).reply given → alive ≡ true
    by_life true due = refl
    by_life false due = absurd (subst MayBeWritten due may)

module _ (first : TreeState) (history : List Entry) (legal : IsLegal first history) where
  pub listed_live : (flush : Flush) → IsListedFsync history flush → HasLiveNode first history flush
  listed_live flush is =
      let may = (entries_may_come first history is.entry legal is.among).may in
      subst (HasLiveNode first history) (sym is.fsync.own)
      (answered_live
      (tree_after first (take is.entry.stamp.0 history)) is.entry.core.0 is.entry.call is.fsync.node is.entry.reply is.fsync.asked may.due is.answered)

  pub listed_within : (flush : Flush) → IsListedFsync history flush → flush.stamp < length history
  listed_within flush is =
      let within = slice_get_within history is.entry.stamp.0 is.entry (entries_may_come first history is.entry legal is.among).stands in
      subst (λ (f : Flush). f.stamp < length history) (sym is.fsync.own) within

  -- an fsync is acknowledged at one moment
  pub acknowledged_once : (flush : Flush) (ack other : ℕ) → IsAcknowledged history flush ack → IsAcknowledged history flush other → ack ≡ other
  acknowledged_once flush ack other is also =
      let stamps : is.entry.stamp.0 ≡ also.entry.stamp.0 = ap (λ (f : Flush). f.stamp) (sym is.own ∙ also.own) in
      let same = stamps_are_once first history is.entry also.entry legal is.among also.among stamps in
      some_same (sym is.moment ∙ ap (λ (e : Entry). e.ack) same ∙ also.moment)

-- an fsync that was acknowledged is listed
pub acknowledged_listed : (history : List Entry) (flush : Flush) (ack : ℕ) → IsAcknowledged history flush ack → IsListedFsync history flush
acknowledged_listed history flush ack is = record {
  entry = is.entry;
  among = is.among;
  fsync = record { node = is.node; asked = is.asked; own = is.own };
  answered = subst MayBeWritten (sym is.answered) tt;
}

-- a history with one more entry
module _ (history : List Entry) (entry : Entry) where
  pub listed_still : (flush : Flush) → IsListedFsync history flush → IsListedFsync (history ++ entry ∷ []) flush
  listed_still flush is = record {
    entry = is.entry;
    among = in_left history (entry ∷ []) is.entry is.among;
    fsync = is.fsync;
    answered = is.answered;
  }

  pub listed_last : (flush : Flush) → IsFsyncOf entry flush → MayBeWritten entry.reply → IsListedFsync (history ++ entry ∷ []) flush
  listed_last flush fsync answered = record {
    entry = entry;
    among = in_right history (entry ∷ []) entry (inl refl);
    fsync = fsync;
    answered = answered;
  }

  pub acknowledged_still : (flush : Flush) (ack : ℕ) → IsAcknowledged history flush ack → IsAcknowledged (history ++ entry ∷ []) flush ack
  acknowledged_still flush ack is = record {
    entry = is.entry;
    among = in_left history (entry ∷ []) is.entry is.among;
    node = is.node;
    asked = is.asked;
    own = is.own;
    answered = is.answered;
    moment = is.moment;
  }

  -- what was acknowledged was so before, or by the last entry
  pub acknowledged_in : (flush : Flush) (ack : ℕ) → IsAcknowledged (history ++ entry ∷ []) flush ack
      → IsAcknowledged history flush ack ⊎ IsAcknowledged (entry ∷ []) flush ack
  acknowledged_in flush ack is = elim (in_either history (entry ∷ []) is.entry is.among) [
    | inl before ↦ inl (record {
      entry = is.entry;
      among = before;
      node = is.node;
      asked = is.asked;
      own = is.own;
      answered = is.answered;
      moment = is.moment;
    })
    | inr last ↦ inr (record {
      entry = is.entry;
      among = last;
      node = is.node;
      asked = is.asked;
      own = is.own;
      answered = is.answered;
      moment = is.moment;
    })
  ]

-- one entry
module _ (entry : Entry) (flush : Flush) (ack : ℕ) (is : IsAcknowledged (entry ∷ []) flush ack) where
  own_entry : entry ≡ is.entry
  own_entry = elim is.among [ inl same ↦ same | inr none ↦ absurd none ]

  pub own_moment : entry.ack ≡ Some ack
  own_moment = ap (λ (e : Entry). e.ack) own_entry ∙ is.moment

  pub own_reply : entry.reply ≡ reply.Ok
  own_reply = ap (λ (e : Entry). e.reply) own_entry ∙ is.answered

  -- an entry is one fsync
  pub own_flush : (other : Flush) → IsFsyncOf entry other → other ≡ flush
  own_flush other fsync =
      fsync.own
      ∙ ap (λ (node : ℕ). record { node = node; stamp = entry.stamp.0 })
      (node_same fsync.node is.node (sym fsync.asked ∙ ap (λ (e : Entry). e.call) own_entry ∙ is.asked))
      ∙ ap (λ (stamp : ℕ). record { node = is.node.0; stamp = stamp }) (ap (λ (e : Entry). e.stamp.0) own_entry)
      ∙ sym is.own
    where
      node_same : (node other : NodeId) → call.Fsync node ≡ call.Fsync other → node.0 ≡ other.0
      node_same node other same = cc

legal_last_from : (first : TreeState) (stamp : ℕ) (history : List Entry) (entry : Entry) → IsLegalFrom first stamp (history ++ entry ∷ [])
    → MayCome (tree_after first history) (stamp + length history) entry
legal_last_from first stamp [] entry legal = rw (plus_zero stamp) legal.0
legal_last_from first stamp (next ∷ history) entry legal =
    rw (suc_plus stamp (length history)) at (legal_last_from (tree_after_entry first next) (suc stamp) history entry legal.1)

-- A legal history from a sound tree has this last entry.
pub record HasLast (first : TreeState) (history : List Entry) (entry : Entry) : Type 0 where
  pub sound : IsSoundTree first
  pub legal : IsLegal first (history ++ entry ∷ [])

-- the entries before the last are a legal history, and the last may come after them
module _ {first : TreeState} {history : List Entry} {entry : Entry} (last : HasLast first history entry) where
  pub legal_before : IsLegal first history
  legal_before = rw (take-append_seam history (entry ∷ [])) at (legal_take first (history ++ entry ∷ []) (length history) last.legal)

  pub last_may_come : MayCome (tree_after first history) (length history) entry
  last_may_come = rw (zero_plus (length history)) at (legal_last_from first 0 history entry last.legal)
