-- What was copied of an fsync's node is as it was at the stamp.
use Rattle.std.proofs.Common.{◌≡◌, ◌∙◌, ◌<◌, ℕ, Bool, true, false, List, [], Option, Some, None, is_none, is_some, not, inl, inr, refl, sym, ap, subst, arith}
use Rattle.std.specs.Prelude.{IfSome, if◌then◌else◌}
use Rattle.std.proofs.lemmas.Bool.Decides.{leb_tells}
use Rattle.sfs_base.proofs.BasicTruth.{true_not_false}
use Rattle.sfs_base.specs.declared.numbers.NodeId.{NodeId}
use Rattle.mem_files.specs.File.{File}
use Rattle.tree_laws.specs.Tree.{TreeState, is_alive, is_directory}
use Rattle.tree_laws.specs.Verdict.{directory_fault}
use Rattle.tree_laws.specs.declared.reply.Code.{Code}
use Rattle.tree_laws.specs.declared.reply.Code.TheVariants as code
use Rattle.tree_laws.specs.History.{tree_after}
use Rattle.stamp_table.specs.Events.{calls_in}
use Rattle.mem_values.specs.Laws.{MayMeet}
use Rattle.mem_values.specs.Places.{node_count}
use Rattle.mem_values.specs.Start.{FileHand, FileState}
use Rattle.mem_values.specs.declared.cell.FileCell.{FileCell}
use Rattle.mem_calls.specs.Held.{InEach, file_held}
use Rattle.mem_calls.specs.Working.{StillHolds, WorksOn}
use Rattle.mem_calls.proofs.Faults.{beyond_dead, same_count}
use Rattle.mem_calls.proofs.HeldKinds.{still_file}
use Rattle.fsync_stamp.specs.declared.copying.Copied.{Copied}
use Rattle.fsync_stamp.specs.declared.copying.StampedFsync.{StampedFsync}
use Rattle.fsync_stamp.specs.Copying.{ComesToCopy, IsCopied, StampsCopied, copied_as}
use Rattle.fsync_stamp.specs.Stamping.{StampsHeld}
use Rattle.fsync_stamp.proofs.Waiting.{on_stamp, stamps_live}

-- the kind of a live node by its fault as a directory
kind_by : (alive directory : Bool) → alive ≡ true
    → is_none (if not alive then Some code.NoEntry else if not directory then Some code.NotDir else None) ≡ directory
kind_by true true is = refl
kind_by true false is = refl
kind_by false directory is = absurd (cc (is))

kind_by_fault : (tree : TreeState) (node : ℕ) (fault : Option Code) → fault ≡ directory_fault tree node → is_alive tree node ≡ true
    → is_none fault ≡ is_directory tree node
kind_by_fault tree node fault is alive = ap is_none is ∙ kind_by (is_alive tree node) (is_directory tree node) alive

-- whether there is none, by whether there is some
pub none_by : (fault : Option Code) (none : Bool) → is_some fault ≡ not none → none ≡ is_none fault
none_by None true is = refl
none_by None false is = absurd (cc (is))
none_by (Some code) true is = absurd (cc (is))
none_by (Some code) false is = refl

-- What was copied of a node: its bytes as a cell had them that was held.
abbrev pub HasCopied : ℕ → FileHand → NodeId → Option File → Type 0
HasCopied nodes hand node None = Unit {0}
HasCopied nodes hand node (Some bytes) = (node.0 < nodes) × ((value : FileCell) × (file_held nodes hand.held node ≡ Some value) × (value.file ≡ bytes))

pub has_copied : (nodes : ℕ) (hand : FileHand) (node : NodeId) (bytes : Option File) → IfSome bytes (λ one. node.0 < nodes)
    → IfSome bytes (λ one. (value : FileCell) × (file_held nodes hand.held node ≡ Some value) × (value.file ≡ one)) → HasCopied nodes hand node bytes
has_copied nodes hand node None within held = tt
has_copied nodes hand node (Some bytes) within held = (within, held)

-- a node that is alive in a tree which a core may meet is one of the first tree's numbers
within_met : (hand : FileHand) (tree : TreeState) (node : ℕ) → MayMeet hand.view hand.held tree → is_alive tree node ≡ true → node < node_count hand.view.first
within_met hand tree node met alive = elim (leb_tells (node_count hand.view.first) node) [
  | inr below ↦ below.1
  | inl beyond ↦
      let past = beyond.1 in
      let same = same_count hand tree met in
      absurd (true_not_false (sym alive ∙ beyond_dead tree met.sound node (omega (arith, past, same))))
]

-- the fsync of a live node has its stamp, and its copy is of that
module _ (t : FileState) (nodes : ℕ) (node : NodeId) (start first second after : FileHand) (none : start.held ≡ []) (to_first : WorksOn start first)
    (to_second : WorksOn first second) (still : StillHolds nodes first second) (fault : Option Code)
    (faults : InEach second (λ tree. fault ≡ directory_fault tree node.0)) (first_is : second.view.first ≡ t.first) where
  copied_is : (stamp : ℕ) (bytes : Option File) → HasCopied nodes first node bytes → (held : StampsHeld t nodes node true stamp second after)
      → IsCopied t.first (calls_in held.ends.log) node.0 (copied_as (is_none fault) bytes)
  copied_is stamp bytes has held = by (is_none fault) bytes has
      (kind_by_fault (tree_after t.first (calls_in held.ends.log)) node.0 fault (faults (tree_after t.first (calls_in held.ends.log)) held.met) held.ends.alive)
    where
      by : (directory : Bool) (bytes : Option File) → HasCopied nodes first node bytes
          → directory ≡ is_directory (tree_after t.first (calls_in held.ends.log)) node.0
          → IsCopied t.first (calls_in held.ends.log) node.0 (copied_as directory bytes)
      by true bytes has is = sym is
      by false None has is = sym is
      by false (Some bytes) has is = (
        sym is,
        record {
          value = has.1.0;
          stands = held.stood has.1.0 has.0 (still_file nodes first second node has.1.0 still has.1.1);
          bytes_are = has.1.2;
        },
      )

  pub stamps_copied : (stamped : StampedFsync) (bytes : Option File) → HasCopied nodes first node bytes → stamped.copied ≡ copied_as (is_none fault) bytes
      → StampsHeld t nodes node true stamped.stamp.0 second after → StampsCopied t node stamped start after
  stamps_copied stamped bytes has is held = record {
    stamps = stamps_live t node stamped.stamp.0 start after none
        (on_stamp t node true stamped.stamp.0 start first after to_first (on_stamp t node true stamped.stamp.0 first second after to_second held.ends));
    copied_is = subst (IsCopied t.first (calls_in held.ends.log) node.0) (sym is) (copied_is stamped.stamp.0 bytes has held);
    within = subst (λ tree. node.0 < node_count tree) first_is
        (within_met second (tree_after t.first (calls_in held.ends.log)) node.0 held.met held.ends.alive);
  }
