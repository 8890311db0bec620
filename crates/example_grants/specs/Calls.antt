-- A tree of two files, and a history in which each of two cores writes one byte to its own file and flushes it.
use Rattle.std.specs.Prelude.{ℕ, ◌∷◌, List, [], Some, None}
use Rattle.std.specs.FinMap.{from_sorted}
use Rattle.sfs_base.specs.declared.numbers.Kind.TheVariants as kind
use Rattle.tree_laws.specs.Tree.{Node, TreeState}
use Rattle.tree_laws.specs.declared.call.Call.TheVariants as call
use Rattle.tree_laws.specs.declared.history.Entry.{Entry}
use Rattle.tree_laws.specs.declared.reply.Reply.TheVariants as reply

-- a directory, and a file with these bytes
abbrev pub root_node : Node
root_node = record { kind = kind.Directory; bytes = [] }

abbrev pub node_with : List ℕ → Node
node_with bytes = record { kind = kind.File; bytes = bytes }

-- a root in which "a" names node 1 and "b" node 2, two files with these bytes
abbrev pub tree_holding : List ℕ → List ℕ → TreeState
tree_holding own other = record {
  rows = from_sorted (((0, 97 ∷ []), 1) ∷ ((0, 98 ∷ []), 2) ∷ []);
  nodes = from_sorted ((0, root_node) ∷ (1, node_with own) ∷ (2, node_with other) ∷ []);
  first = 3;
  share = 1;
  made = 0 ∷ 0 ∷ [];
}

-- both files are empty at first
abbrev pub FIRST_TREE : TreeState
FIRST_TREE = tree_holding [] []

-- The first core writes "A" to its file at stamp 0, and the second one "B" to its own at stamp 1.
abbrev pub own_write : Entry
own_write = record { stamp = record { 0 = 0 }; core = record { 0 = 0 }; call = call.Write (record { 0 = 1 }) 0 (65 ∷ []); reply = reply.Ok; ack = None }

abbrev pub other_write : Entry
other_write = record { stamp = record { 0 = 1 }; core = record { 0 = 1 }; call = call.Write (record { 0 = 2 }) 0 (66 ∷ []); reply = reply.Ok; ack = None }

-- The first core flushes its file at stamp 2, and the second one its own at stamp 3, which is answered sooner.
abbrev pub own_file_flush : Entry
own_file_flush = record { stamp = record { 0 = 2 }; core = record { 0 = 0 }; call = call.Fsync (record { 0 = 1 }); reply = reply.Ok; ack = Some 13 }

abbrev pub other_file_flush : Entry
other_file_flush = record { stamp = record { 0 = 3 }; core = record { 0 = 1 }; call = call.Fsync (record { 0 = 2 }); reply = reply.Ok; ack = Some 12 }

-- in this order
abbrev pub WRITES_AND_FSYNCS : List Entry
WRITES_AND_FSYNCS = own_write ∷ other_write ∷ own_file_flush ∷ other_file_flush ∷ []
