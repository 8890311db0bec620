-- Trees with which tables begin, and the tables.
use Rattle.std.specs.Prelude.{◌≡◌, ◌+◌, ◌*◌, ℕ, Bool, false, not, ◌&&◌, ◌||◌, List, [], ◌∷◌, ◌++◌, length, Option, MatchOption, is_none, nat_lt}
use Rattle.std.specs.Option.{option_map_or}
use Rattle.std.specs.FinMap.{get, len}
use mathlib.Core.List.{IsPrefix}
use Rattle.tree_laws.specs.declared.call.Call.{Call}
use Rattle.tree_laws.specs.declared.history.Entry.{Entry}
use Rattle.tree_laws.specs.declared.reply.Reply.{Reply}
use Rattle.tree_laws.specs.Tree.{BUCKET_ROWS, TreeState, is_alive, is_directory, is_directory_kind, names_of, row_of}
use Rattle.tree_laws.specs.Sound.{IsNumbered, IsWithinLimits}
use Rattle.stamp_table.specs.declared.event.Event.{Event}
use Rattle.stamp_table.specs.declared.event.Event.TheVariants.{Called}
use Rattle.mem_values.specs.Start.{FileHand, FileState}
use Rattle.mem_values.specs.declared.fact.Fact.{Fact}
use Rattle.mem_values.specs.Places.{node_count}
use Rattle.mem_begin.specs.Beginning.{CanBeginTable}
use Rattle.mem_calls.specs.Outcome.{StandsBehind}

-- Whether a directory may get rows: it is one, and it is alive.
abbrev pub may_hold_rows : TreeState → ℕ → Bool
may_hold_rows tree node = is_directory tree node && is_alive tree node

-- Whether a node may get a name: it is a file, or a directory that has none and is not the root.
abbrev pub may_get_name : TreeState → ℕ → Bool
may_get_name tree node = option_map_or (λ n. not (is_directory_kind n.kind) || not (is_alive tree node)) (get tree.nodes node) false

-- Whether a row may be put: its directory may get rows, has none with the name and fewer than one bucket may have, and the child may get
-- a name.
abbrev pub may_put : TreeState → ℕ → List ℕ → ℕ → Bool
may_put tree directory name child = may_hold_rows tree directory && is_none (row_of tree directory name)
    && nat_lt (len (names_of directory tree.rows)) BUCKET_ROWS && may_get_name tree child

-- A table can begin with the tree, which is within the limits of trees.
pub record IsBuiltTree (tree : TreeState) : Type 0 where
  pub begins : CanBeginTable tree
  pub within : IsWithinLimits tree

-- Cores number new nodes in one tree as in the other.
pub record KeepsNumbers (before after : TreeState) : Type 0 where
  pub first : after.first ≡ before.first
  pub share : after.share ≡ before.share
  pub made : after.made ≡ before.made

-- A table can begin with the tree, in which each of so many cores may make `share` nodes, the first of them numbered `first`.
pub record BeginsTable (tree : TreeState) (first share cores : ℕ) : Type 0 where
  pub built : IsBuiltTree tree
  pub numbered : IsNumbered tree
  pub nodes : node_count tree ≡ first + share * cores
  pub first_is : tree.first ≡ first
  pub share_is : tree.share ≡ share
  pub cores_are : length tree.made ≡ cores

-- A core has made a call: it has one entry more, which stands in the history with the reply of the tree before it.
pub record HasMade (t : FileState) (c : Call) (reply : Reply) (before after : FileHand) : Type 0 where
  pub log : List (Event Fact)
  pub entry : Entry
  pub stands : StandsBehind t c reply before after log entry
  pub entries : after.entries ≡ before.entries ++ entry ∷ []
  pub mine : after.view.mine ≡ before.view.mine ++ Called entry ∷ []

-- A core has made no call: it has no further entry. It may have seen more of the history.
pub record HasMadeNone (before after : FileHand) : Type 0 where
  pub seen : IsPrefix before.view.seen after.view.seen
  pub entries : after.entries ≡ before.entries
  pub mine : after.view.mine ≡ before.view.mine

-- what a call comes to, by the reply that it has or has not
abbrev pub ComesToReply : FileState → Call → FileHand → FileHand → Option Reply → Type 0
ComesToReply t c before after result = MatchOption result (HasMadeNone before after) (λ reply. HasMade t c reply before after)
