-- What an fsync answers and does, by whether its node is alive.
use Rattle.std.proofs.Common.{◌≡◌, ℕ, Bool, true, false, not, ◌&&◌, cond, Option, Some, None, refl, sym, ap, ◌∙◌, subst}
use Rattle.sfs_base.specs.declared.numbers.NodeId.{NodeId}
use Rattle.tree_laws.specs.declared.call.Call.TheVariants as call
use Rattle.tree_laws.specs.declared.reply.Code.{Code}
use Rattle.tree_laws.specs.declared.reply.Code.TheVariants.{NoEntry, NotDir}
use Rattle.tree_laws.specs.declared.reply.Reply.{Reply}
use Rattle.tree_laws.specs.declared.reply.Reply.TheVariants as reply
use Rattle.tree_laws.specs.Footprints.{DoesNothing}
use Rattle.tree_laws.specs.History.{flushes, is_ok_reply, IsDue}
use Rattle.tree_laws.specs.Tree.{TreeState, is_alive, is_directory}
use Rattle.tree_laws.specs.Verdict.{Verdict, verdict, answered, or_else, directory_fault}
use Rattle.fsync_stamp.specs.Stamping.{is_dead_fault, reply_for_now}

-- the reply that the tree has for an fsync
abbrev pub tree_reply : Bool → Reply
tree_reply true = reply.Ok
tree_reply false = reply.Error NoEntry

answered_by : (lives : Bool) → or_else (cond (not lives) (Some NoEntry) None) (answered reply.Ok) ≡ answered (tree_reply lives)
answered_by true = refl
answered_by false = refl

-- what an fsync answers by the tree
pub verdict_is : (tree : TreeState) (core : ℕ) (node : NodeId) (lives : Bool) → lives ≡ is_alive tree node.0
    → verdict tree core (call.Fsync node) ≡ answered (tree_reply lives)
verdict_is tree core node lives is = ap (λ b. or_else (cond (not b) (Some NoEntry) None) (answered reply.Ok)) (sym is) ∙ answered_by lives

-- it changes nothing
pub changes_nothing : (tree : TreeState) (core : ℕ) (node : NodeId) (lives : Bool) → lives ≡ is_alive tree node.0
    → DoesNothing (verdict tree core (call.Fsync node))
changes_nothing tree core node lives is = record {
  effect = ap (λ (v : Verdict). v.effect) (verdict_is tree core node lives is);
  makes = ap (λ (v : Verdict). v.makes) (verdict_is tree core node lives is);
}

due_now : (lives : Bool) → IsDue lives (tree_reply lives) (reply_for_now lives)
due_now true = tt
due_now false = refl

-- the reply with which it is stamped may stand in a history
pub is_due : (tree : TreeState) (core : ℕ) (node : NodeId) (lives : Bool) → lives ≡ is_alive tree node.0
    → IsDue (flushes tree (call.Fsync node)) (verdict tree core (call.Fsync node)).reply (reply_for_now lives)
is_due tree core node lives is =
    subst (λ (b : Bool). IsDue b (verdict tree core (call.Fsync node)).reply (reply_for_now lives)) is
    (subst (λ (v : Verdict). IsDue lives v.reply (reply_for_now lives)) (sym (verdict_is tree core node lives is)) (due_now lives))

never_ok : (lives flushed : Bool) → (flushed && is_ok_reply (reply_for_now lives)) ≡ false
never_ok true true = refl
never_ok true false = refl
never_ok false true = refl
never_ok false false = refl

-- and is no acknowledgement
pub unacknowledged : (tree : TreeState) (node : NodeId) (lives : Bool)
    → (flushes tree (call.Fsync node) && is_ok_reply (reply_for_now lives)) ≡ false
unacknowledged tree node lives = never_ok lives (flushes tree (call.Fsync node))

dead_by : (alive directory : Bool) → is_dead_fault (cond (not alive) (Some NoEntry) (cond (not directory) (Some NotDir) None)) ≡ not alive
dead_by true true = refl
dead_by true false = refl
dead_by false directory = refl

not_twice : (b : Bool) → not (not b) ≡ b
not_twice true = refl
not_twice false = refl

-- a node is alive where that is no fault of it as a directory
pub alive_by_fault : (tree : TreeState) (node : ℕ) (fault : Option Code) → fault ≡ directory_fault tree node → not (is_dead_fault fault) ≡ is_alive tree node
alive_by_fault tree node fault is =
    ap (λ f. not (is_dead_fault f)) is ∙ ap not (dead_by (is_alive tree node) (is_directory tree node)) ∙ not_twice (is_alive tree node)
