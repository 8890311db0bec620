-- What a call does is what was read off the tree before it, where it is not refused.
use Rattle.std.specs.Prelude.{not, ◌==◌}
use Rattle.std.proofs.Common.{◌≡◌, ℕ, Bool, true, false, cond, List, [], ◌∷◌, take, drop, Option, Some, None, refl, ap}
use Rattle.sfs_base.specs.declared.numbers.Kind.{Kind}
use Rattle.sfs_base.specs.declared.numbers.NodeId.{NodeId}
use Rattle.tree_laws.specs.declared.call.Call.{Call}
use Rattle.tree_laws.specs.declared.call.Call.TheVariants as call
use Rattle.tree_laws.specs.declared.reply.Code.{Code}
use Rattle.tree_laws.specs.declared.reply.Code.TheVariants.{NotDir, NotEmpty}
use Rattle.tree_laws.specs.declared.reply.Reply.{Reply}
use Rattle.tree_laws.specs.declared.reply.Reply.TheVariants as reply
use Rattle.tree_laws.specs.Tree.{TreeState, row_of, is_directory, row_count, next_number, bytes_of, kind_of, links_of, names_of}
use Rattle.tree_laws.specs.Names.{with_kinds}
use Rattle.tree_laws.specs.Effect.{Effect, Stays, Adds, Removes, Moves, Edits, Edit}
use Rattle.tree_laws.specs.Changes.{added, changes_by}
use Rattle.tree_laws.specs.Verdict.{Verdict, verdict, directory_fault, file_fault, node_fault, size_of, refused, answered, done, or_else, look_row, make_fault, make_node, unlink_row, rmdir_row, move_fault, move_row, names_child}
use Rattle.cut_laws.specs.Rules.{Birth, births_by}
use Rattle.flush_core.specs.Plan.{plan_of, removal, moving}

-- A line of the table changes what a plan says where it answers Ok, else nothing, and it makes no node.
pub record Follows (tree : TreeState) (stamp : ℕ) (plan : Effect) (line : Verdict) : Type 0 where
  pub ok : line.reply ≡ reply.Ok → changes_by tree stamp line.effect ≡ changes_by tree stamp plan
  pub other : (line.reply ≡ reply.Ok → ⊥) → changes_by tree stamp line.effect ≡ []
  pub makes : line.makes ≡ None

-- a call that makes no node
abbrev pub MakesNone : Call → Type 0
MakesNone c = (directory : NodeId) (name : List ℕ) (kind : Kind) → c ≡ call.Make directory name kind → ⊥

no_ok : {P : Type 0} (code : Code) → reply.Error code ≡ reply.Ok → P
no_ok code e = cc

follows_refused : (tree : TreeState) (stamp : ℕ) (plan : Effect) (code : Code) → Follows tree stamp plan (refused code)
follows_refused tree stamp plan code = record { ok = λ e. no_ok code e; other = λ _. refl; makes = refl }

follows_answered : (tree : TreeState) (stamp : ℕ) (r : Reply) → Follows tree stamp Stays (answered r)
follows_answered tree stamp r = record { ok = λ _. refl; other = λ _. refl; makes = refl }

follows_done : (tree : TreeState) (stamp : ℕ) (effect : Effect) → Follows tree stamp effect (done effect)
follows_done tree stamp effect = record { ok = λ _. refl; other = λ differ. absurd (differ refl); makes = refl }

follows_edits : (tree : TreeState) (stamp file : ℕ) (edit : Edit) → Follows tree stamp Stays (done (Edits file edit))
follows_edits tree stamp file edit = record { ok = λ _. refl; other = λ _. refl; makes = refl }

follows_else : (tree : TreeState) (stamp : ℕ) (plan : Effect) (fault : Option Code) (line : Verdict) → Follows tree stamp plan line
    → Follows tree stamp plan (or_else fault line)
follows_else tree stamp plan (Some code) line follows = follows_refused tree stamp plan code
follows_else tree stamp plan None line follows = follows

follows_if : (tree : TreeState) (stamp : ℕ) (plan other : Effect) (test : Bool) (line second : Verdict) → Follows tree stamp plan line
    → Follows tree stamp other second → Follows tree stamp (cond test plan other) (cond test line second)
follows_if tree stamp plan other true line second one two = one
follows_if tree stamp plan other false line second one two = two

follows_one : (tree : TreeState) (stamp : ℕ) (plan : Effect) (test : Bool) (line second : Verdict) → Follows tree stamp plan line
    → Follows tree stamp plan second → Follows tree stamp plan (cond test line second)
follows_one tree stamp plan true line second one two = one
follows_one tree stamp plan false line second one two = two

follows_look : (tree : TreeState) (stamp : ℕ) (row : Option ℕ) → Follows tree stamp Stays (look_row tree row)
follows_look tree stamp None = follows_refused tree stamp Stays _
follows_look tree stamp (Some child) = follows_answered tree stamp _

follows_unlink : (tree : TreeState) (stamp directory : ℕ) (name : List ℕ) (row : Option ℕ)
    → Follows tree stamp (removal directory name row) (unlink_row tree directory name row)
follows_unlink tree stamp directory name None = follows_refused tree stamp Stays _
follows_unlink tree stamp directory name (Some child) =
    follows_one tree stamp (Removes directory name child) (is_directory tree child) _ _ (follows_refused tree stamp (Removes directory name child) _)
    (follows_done tree stamp (Removes directory name child))

follows_rmdir : (tree : TreeState) (stamp directory : ℕ) (name : List ℕ) (row : Option ℕ)
    → Follows tree stamp (removal directory name row) (rmdir_row tree directory name row)
follows_rmdir tree stamp directory name None = follows_refused tree stamp Stays _
follows_rmdir tree stamp directory name (Some child) =
    follows_one tree stamp (Removes directory name child) (not (is_directory tree child)) _ _ (follows_refused tree stamp (Removes directory name child) NotDir)
    (follows_one tree stamp (Removes directory name child) (not (row_count tree child == 0)) _ _
    (follows_refused tree stamp (Removes directory name child) NotEmpty) (follows_done tree stamp (Removes directory name child)))

follows_move : (tree : TreeState) (stamp directory : ℕ) (name : List ℕ) (to_directory : ℕ) (to_name : List ℕ) (row : Option ℕ)
    → Follows tree stamp (moving tree directory name to_directory to_name row) (move_row tree directory name to_directory to_name row)
follows_move tree stamp directory name to_directory to_name None = follows_refused tree stamp Stays _
follows_move tree stamp directory name to_directory to_name (Some child) =
    follows_if tree stamp Stays (Moves directory name to_directory to_name child) (names_child (row_of tree to_directory to_name) child) _ _
    (follows_answered tree stamp reply.Ok)
    (follows_else tree stamp (Moves directory name to_directory to_name child) (move_fault tree child to_directory to_name) _
    (follows_done tree stamp (Moves directory name to_directory to_name child)))

-- each call but one that makes a node
pub follows_plan : (tree : TreeState) (core stamp : ℕ) (c : Call) → MakesNone c → Follows tree stamp (plan_of tree c) (verdict tree core c)
follows_plan tree core stamp (call.Look directory name) none = follows_else tree stamp Stays _ _ (follows_look tree stamp (row_of tree directory.0 name))
follows_plan tree core stamp (call.Make directory name kind) none = absurd (none directory name kind refl)
follows_plan tree core stamp (call.Link file directory name) none = follows_else tree stamp _ _ _ (follows_done tree stamp (Adds directory.0 name file.0))
follows_plan tree core stamp (call.Unlink directory name) none =
    follows_else tree stamp _ _ _ (follows_unlink tree stamp directory.0 name (row_of tree directory.0 name))
follows_plan tree core stamp (call.Rmdir directory name) none =
    follows_else tree stamp _ _ _ (follows_rmdir tree stamp directory.0 name (row_of tree directory.0 name))
follows_plan tree core stamp (call.Rename directory name to_directory to_name) none =
    follows_else tree stamp _ _ _ (follows_move tree stamp directory.0 name to_directory.0 to_name (row_of tree directory.0 name))
follows_plan tree core stamp (call.Write file at bytes) none =
    follows_else tree stamp Stays _ _
    (follows_one tree stamp Stays _ _ _ (follows_answered tree stamp reply.Ok)
    (follows_one tree stamp Stays _ _ _ (follows_refused tree stamp Stays _) (follows_edits tree stamp file.0 _)))
follows_plan tree core stamp (call.Read file at count) none =
    follows_else tree stamp Stays (file_fault tree file.0) _ (follows_answered tree stamp (reply.Bytes (take count (drop at (bytes_of tree file.0)))))
follows_plan tree core stamp (call.Trunc file size) none =
    follows_else tree stamp Stays _ _ (follows_one tree stamp Stays _ _ _ (follows_refused tree stamp Stays _) (follows_edits tree stamp file.0 _))
follows_plan tree core stamp (call.Stat node) none =
    follows_else tree stamp Stays (node_fault tree node.0) _
    (follows_answered tree stamp (reply.Stat (kind_of tree node.0) (links_of tree node.0) (size_of tree node.0)))
follows_plan tree core stamp (call.List directory) none =
    follows_else tree stamp Stays (directory_fault tree directory.0) _
    (follows_answered tree stamp (reply.Names (with_kinds tree (names_of directory.0 tree.rows))))
follows_plan tree core stamp (call.Fsync node) none = follows_else tree stamp Stays _ _ (follows_answered tree stamp reply.Ok)

-- where no node is made, none is born
pub none_born : (stamp : ℕ) (effect : Effect) (makes : Option Kind) → makes ≡ None → births_by stamp effect makes ≡ []
none_born stamp Stays None e = refl
none_born stamp (Adds d n c) None e = refl
none_born stamp (Removes d n c) None e = refl
none_born stamp (Moves p n q m c) None e = refl
none_born stamp (Edits file edit) None e = refl
none_born stamp effect (Some kind) e = cc

-- a making that answers a node, and one that does not
pub makes_node : (tree : TreeState) (core stamp : ℕ) (directory node : NodeId) (name : List ℕ) (kind given : Kind)
    → (verdict tree core (call.Make directory name kind)).reply ≡ reply.Node node given
    → (changes_by tree stamp (verdict tree core (call.Make directory name kind)).effect ≡ added stamp directory.0 name node.0 None ∷ [])
    × (births_by stamp (verdict tree core (call.Make directory name kind)).effect (verdict tree core (call.Make directory name kind)).makes
    ≡ record { stamp = stamp; directory = directory.0; node = node.0 } ∷ [])
makes_node tree core stamp directory node name kind given is =
    elim (make_fault tree core directory.0 name) as (λ fault. (or_else fault (make_node tree core directory.0 name kind)).reply ≡ reply.Node node given
    → (changes_by tree stamp (or_else fault (make_node tree core directory.0 name kind)).effect ≡ added stamp directory.0 name node.0 None ∷ [])
    × (births_by stamp (or_else fault (make_node tree core directory.0 name kind)).effect (or_else fault (make_node tree core directory.0 name kind)).makes
    ≡ record { stamp = stamp; directory = directory.0; node = node.0 } ∷ [])) [
      | Some code ↦ λ e. no_node code e
      | None ↦ λ e.
          let same : next_number tree core ≡ node.0 = number e in
          (ap (λ (n : ℕ). added stamp directory.0 name n None ∷ []) same, ap (λ (n : ℕ). born_at n ∷ []) same)
    ] is
  where
    born_at : ℕ → Birth
    born_at n = record { stamp = stamp; directory = directory.0; node = n }

    no_node : {P : Type 0} (code : Code) → reply.Error code ≡ reply.Node node given → P
    no_node code e = cc

    number : reply.Node (record { 0 = next_number tree core }) kind ≡ reply.Node node given → next_number tree core ≡ node.0
    number e = cc

pub makes_nothing : (tree : TreeState) (core stamp : ℕ) (directory : NodeId) (name : List ℕ) (kind : Kind)
    → ((node : NodeId) (given : Kind) → (verdict tree core (call.Make directory name kind)).reply ≡ reply.Node node given → ⊥)
    → (changes_by tree stamp (verdict tree core (call.Make directory name kind)).effect ≡ [])
    × (births_by stamp (verdict tree core (call.Make directory name kind)).effect (verdict tree core (call.Make directory name kind)).makes ≡ [])
makes_nothing tree core stamp directory name kind none =
    elim (make_fault tree core directory.0 name) as (λ fault.
    ((node : NodeId) (given : Kind) → (or_else fault (make_node tree core directory.0 name kind)).reply ≡ reply.Node node given → ⊥)
    → (changes_by tree stamp (or_else fault (make_node tree core directory.0 name kind)).effect ≡ [])
    × (births_by stamp (or_else fault (make_node tree core directory.0 name kind)).effect (or_else fault (make_node tree core directory.0 name kind)).makes
    ≡ [])) [
      | Some code ↦ λ _. (refl, refl)
      | None ↦ λ differ. absurd (differ (record { 0 = next_number tree core }) kind refl)
    ] none
