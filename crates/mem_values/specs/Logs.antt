-- What of a history a core's log, the lock of the tree, a birthplace and the marks of a file stand for.
use Rattle.std.specs.Prelude.{ℕ, ◌==◌, ◌&&◌, Bool, false, List, [], ◌∷◌, ◌++◌, length, Option, Some, option_map, if◌then◌else◌}
use Rattle.std.specs.List.{find}
use Rattle.sfs_base.specs.declared.numbers.Stamp.{Stamp}
use Rattle.mem_files.specs.File.{write_touches, trunc_touches, is_touched}
use Rattle.mem_files.specs.declared.touched.Touched.{Touched}
use Rattle.tree_laws.specs.declared.changes.Change.{Change}
use Rattle.tree_laws.specs.declared.history.Entry.{Entry}
use Rattle.tree_laws.specs.Tree.{TreeState, bytes_of}
use Rattle.tree_laws.specs.Effect.{Effect, Edits, Edit, Puts, Resizes}
use Rattle.tree_laws.specs.Verdict.{verdict}
use Rattle.tree_laws.specs.History.{tree_after_entry}
use Rattle.tree_laws.specs.Logged.{logged_by}
use Rattle.tree_laws.specs.Lock.{needs_lock}
use Rattle.tree_laws.specs.Merged.{is_core}
use Rattle.cut_laws.specs.Rules.{births_of}

-- what an entry logs
abbrev pub entry_logged : TreeState → Entry → List Change
entry_logged tree entry =
    logged_by tree entry.core.0 entry.stamp.0 (verdict tree entry.core.0 entry.call).effect (verdict tree entry.core.0 entry.call).makes

-- what the entries of one core log, in their order
abbrev pub own_logged : TreeState → ℕ → List Entry → List Change
own_logged first core [] = []
own_logged first core (entry ∷ history) =
    (if is_core core entry then entry_logged first entry else []) ++ own_logged (tree_after_entry first entry) core history

-- the stamp of the last entry that moves a directory to another one, this one where no entry does
abbrev pub last_move : TreeState → Option ℕ → List Entry → Option ℕ
last_move first last [] = last
last_move first last (entry ∷ history) =
    last_move (tree_after_entry first entry) (if needs_lock first entry.core.0 entry.call then Some entry.stamp.0 else last) history

-- the directory in which a history made a node
abbrev pub birthplace : TreeState → List Entry → ℕ → Option ℕ
birthplace first history node = option_map (λ birth. birth.directory) (find (λ birth. birth.node == node) (births_of first history))

-- the blocks that an edit touches in a file of so many bytes
abbrev pub edit_touches : Edit → ℕ → Touched
edit_touches (Puts at bytes) before = write_touches at (length bytes)
edit_touches (Resizes size) before = trunc_touches size before

-- whether an effect touches a block of a file of so many bytes
abbrev pub touches_block : Effect → ℕ → ℕ → ℕ → Bool
touches_block (Edits file edit) node block before = (file == node) && is_touched (edit_touches edit before) block
touches_block _ node block before = false

-- the stamp of the last entry that touches a block of a file, this one where no entry does
abbrev pub last_touch : TreeState → Option Stamp → List Entry → ℕ → ℕ → Option Stamp
last_touch first last [] node block = last
last_touch first last (entry ∷ history) node block =
    last_touch (tree_after_entry first entry)
    (if touches_block (verdict first entry.core.0 entry.call).effect node block (length (bytes_of first node)) then Some entry.stamp else last) history node
    block
