-- The laws of the tree of one thread, each of which a function of the module laws proves.
use Rattle.tree_laws.specs.Shape.{shape_of}
use Rattle.tree_laws.specs.ShapeWorked.{THREE_NAMES, THREE_NAMES_SHAPE}
use Rattle.std.specs.Prelude.{map, ◌≡◌, ℕ, Bool, ◌+◌, ◌*◌, ◌<◌, ◌≤◌, ◌==◌, ◌||◌, ◌&&◌, true, false, is_some, ◌^◌, List, length, take, filter, slice_get, Option, Some, None, Vec}
use Rattle.std.specs.FinMap.{get, len}
use Rattle.tree_laws.specs.declared.call.Call.{Call}
use Rattle.tree_laws.specs.Lock.{needs_lock, stands_of, AreHolders, EndsAtRoot}
use Rattle.tree_laws.specs.Tree.{TreeState, row_of, is_alive, is_directory, names_of, names_where, bucket_rows, bytes_of, kind_of, count_of, holder_of, walk_up, made_by, next_number}
use Rattle.tree_laws.specs.Verdict.{verdict, tree_after_call}
use Rattle.tree_laws.specs.Build.{root_alone}
use Rattle.tree_laws.specs.Sound.{Above, IsSound, IsNumbered, IsWithinLimits}
use Rattle.tree_laws.specs.Fits.{Fits}
use Rattle.tree_laws.specs.declared.history.Entry.{Entry}
use Rattle.tree_laws.specs.Effect.{Effect, tree_with}
use Rattle.tree_laws.specs.History.{tree_after, IsLegal}
use Rattle.tree_laws.specs.Changes.{rows_at, bytes_at, changes_by}
use Rattle.tree_laws.specs.Logged.{logged_by, erased_entry, above_due}
use Rattle.std.specs.declared.alloc.Global.{Global}
use Rattle.tree_laws.specs.Merged.{is_core, AreCoresOf, MakeTheHistory}
use Rattle.tree_laws.specs.Readings.{Agree}
use Rattle.tree_laws.specs.Parts.{part_after, links_after, bytes_after, kind_after, count_after}
use Rattle.tree_laws.specs.Footprints.{IsNamedPlace, named_file, touches_part, touches_bytes, touches_links, row_after, moves_directory_between, DoesItsOwn, KeepsRest}
use Rattle.sfs_base.specs.declared.numbers.Kind.{Kind}

-- a sound tree, each node of which has a number that was given
pub record IsSoundTree (tree : TreeState) : Type 0 where
  pub sound : IsSound tree
  pub numbered : IsNumbered tree

-- The root alone is sound, where the first new number is not the root's.
abbrev pub RootIsSound : Type 0
RootIsSound = (first share cores : ℕ) → 1 ≤ first → IsSoundTree (root_alone first share cores)

-- A call of a core keeps a sound tree sound.
abbrev pub CallsKeepSound : Type 0
CallsKeepSound = (tree : TreeState) (core : ℕ) (c : Call) → IsSoundTree tree → core < length tree.made → IsSoundTree (tree_after_call tree core c)

-- What a call does to a sound tree fits it: an effect comes only where no condition of the table holds.
abbrev pub CallsFit : Type 0
CallsFit =
    (tree : TreeState) (core : ℕ) (c : Call) → IsSoundTree tree → core < length tree.made
    → Fits tree core (verdict tree core c).effect (verdict tree core c).makes

-- A number that a core draws next is no node's.
abbrev pub DrawnIsNew : Type 0
DrawnIsNew =
    (tree : TreeState) (core : ℕ) → IsSoundTree tree → core < length tree.made → made_by tree core < tree.share → get tree.nodes (next_number tree core) ≡ None

-- the number that a core gives to its creation with this count before it
abbrev pub drawn_number : TreeState → ℕ → ℕ → ℕ
drawn_number tree core before = tree.first + core * tree.share + before

-- Two creations below the share have one number only where they are one creation of one core.
abbrev pub DrawnApart : Type 0
DrawnApart =
    (tree : TreeState) (core other before other_before : ℕ) → before < tree.share → other_before < tree.share
    → drawn_number tree core before ≡ drawn_number tree other other_before → (core ≡ other) × (before ≡ other_before)

-- Each tree of a legal history from a sound one on is sound.
abbrev pub HistoriesKeepSound : Type 0
HistoriesKeepSound =
    (first : TreeState) (history : List Entry) (count : ℕ) → IsSoundTree first → IsLegal first history → IsSoundTree (tree_after first (take count history))

-- A directory's rows at a stamp are those in the tree after the entries below it.
abbrev pub RowsAreTheTrees : Type 0
RowsAreTheTrees =
    (first : TreeState) (history : List Entry) (directory stamp : ℕ) → IsLegal first history
    → rows_at first history directory stamp ≡ names_of directory (tree_after first (take stamp history)).rows

-- A file's bytes at a stamp are those in the tree after the entries below it, where the first tree is sound.
abbrev pub BytesAreTheTrees : Type 0
BytesAreTheTrees =
    (first : TreeState) (history : List Entry) (file stamp : ℕ) → IsSoundTree first → IsLegal first history
    → bytes_at first history file stamp ≡ bytes_of (tree_after first (take stamp history)) file

-- What stands at a place after an effect is what the effect makes of what stood there.
abbrev pub EffectsAct : Type 0
EffectsAct =
    (tree : TreeState) (core : ℕ) (effect : Effect) (makes : Option Kind) (directory : ℕ) (name : List ℕ)
    → row_of (tree_with tree core effect makes) directory name ≡ row_after (row_of tree) effect directory name

-- Each call does nothing, or its own.
abbrev pub CallsDoTheirOwn : Type 0
CallsDoTheirOwn = (tree : TreeState) (core : ℕ) (c : Call) → DoesItsOwn tree core c

-- A call under the tree lock is a rename between two directories of a directory.
abbrev pub LocksAreSeen : Type 0
LocksAreSeen = (tree : TreeState) (core : ℕ) (c : Call) → moves_directory_between tree c ≡ false → needs_lock tree core c ≡ false

-- what a call leaves of a directory that is alive after it: it was alive, and its holder is the same
pub record StaysHeld (tree next : TreeState) (node : ℕ) : Type 0 where
  pub alive : is_alive tree node ≡ true
  pub holder : holder_of next node ≡ holder_of tree node

-- No call without the tree lock makes a dead directory alive, or changes the holder of one that is alive after it.
abbrev pub HoldersStay : Type 0
HoldersStay =
    (tree : TreeState) (core : ℕ) (c : Call) (node : ℕ) → IsSoundTree tree → core < length tree.made → needs_lock tree core c ≡ false
    → is_directory tree node ≡ true
    → is_alive (tree_after_call tree core c) node ≡ true → StaysHeld tree (tree_after_call tree core c) node

-- Nor does such a call change the directories above one that is alive after it.
abbrev pub WaysStay : Type 0
WaysStay =
    (tree : TreeState) (core : ℕ) (c : Call) (node : ℕ) (above : List ℕ) → IsSoundTree tree → core < length tree.made → needs_lock tree core c ≡ false
    → is_directory tree node ≡ true
    → is_alive (tree_after_call tree core c) node ≡ true → Above tree node above → Above (tree_after_call tree core c) node above

-- No call, with the lock or without it, makes a dead directory alive.
abbrev pub DeadStayDead : Type 0
DeadStayDead =
    (tree : TreeState) (core : ℕ) (c : Call) (node : ℕ) → IsSoundTree tree → core < length tree.made → is_directory tree node ≡ true
    → is_alive tree node ≡ false → is_alive (tree_after_call tree core c) node ≡ false

-- What was read of holders under the tree lock stays so through each call of another core.
abbrev pub ReadHoldersStay : Type 0
ReadHoldersStay =
    (tree : TreeState) (core : ℕ) (c : Call) (node : ℕ) (holders : List ℕ) → IsSoundTree tree → core < length tree.made → needs_lock tree core c ≡ false
    → AreHolders tree node holders → AreHolders (tree_after_call tree core c) node holders

-- Holders that were read up to the root are the directories above a node that is alive, and a walk up meets them.
abbrev pub ReadHoldersAreAbove : Type 0
ReadHoldersAreAbove =
    (tree : TreeState) (node : ℕ) (holders : List ℕ) → IsSoundTree tree → is_alive tree node ≡ true → is_directory tree node ≡ true
    → AreHolders tree node holders → EndsAtRoot node holders
    → Above tree node holders × (walk_up (len tree.rows) tree node ≡ holders)

-- A directory is alive exactly where it is the root or stands somewhere.
abbrev pub StandingIsAlive : Type 0
StandingIsAlive =
    (tree : TreeState) (node : ℕ) → IsSoundTree tree → (node == 0 || is_some (stands_of tree node)) ≡ (is_alive tree node && is_directory tree node)

-- What an effect leaves of the part of a directory that has the names which pass a test is made of that part alone; so is it of a
-- bucket, and of a whole directory.
abbrev pub PartsAfter : Type 0
PartsAfter =
    (tree : TreeState) (core : ℕ) (effect : Effect) (makes : Option Kind) (directory : ℕ) (test : List ℕ → Bool)
    → names_where directory test (tree_with tree core effect makes).rows ≡ part_after directory test effect (names_where directory test tree.rows)

-- what an effect leaves of a node: how many rows name it, its bytes and its kind
pub record LeavesNode (tree : TreeState) (core : ℕ) (effect : Effect) (makes : Option Kind) (node : ℕ) : Type 0 where
  pub links : count_of (tree_with tree core effect makes).rows node ≡ links_after tree effect node (count_of tree.rows node)
  pub bytes : bytes_of (tree_with tree core effect makes) node ≡ bytes_after effect node (bytes_of tree node)
  pub kind : kind_of (tree_with tree core effect makes) node ≡ kind_after tree core makes node

-- What an effect that fits leaves of a node is made of what was said of it and of the nodes that the effect's rows name.
abbrev pub NodesAfter : Type 0
NodesAfter =
    (tree : TreeState) (core : ℕ) (effect : Effect) (makes : Option Kind) (node : ℕ) → Fits tree core effect makes → LeavesNode tree core effect makes node

-- A core's creation counts for that core alone.
abbrev pub CountsAfter : Type 0
CountsAfter =
    (tree : TreeState) (core : ℕ) (effect : Effect) (makes : Option Kind) (other : ℕ) → core < length tree.made
    → made_by (tree_with tree core effect makes) other ≡ count_after tree core makes other

-- A call has one reply and one effect in two sound trees that agree on what it reads.
abbrev pub ReadingsDecide : Type 0
ReadingsDecide =
    (tree other : TreeState) (core : ℕ) (c : Call) → IsSoundTree tree → IsSoundTree other → Agree tree other core c → verdict tree core c ≡ verdict other core c

-- Two trees with the same eight buckets of a directory have the same rows in it.
abbrev pub BucketsMakeRows : Type 0
BucketsMakeRows =
    (tree other : TreeState) (directory : ℕ) → ((number : ℕ) → number < 8 → bucket_rows directory number tree.rows ≡ bucket_rows directory number other.rows)
    → names_of directory tree.rows ≡ names_of directory other.rows

-- Each call keeps what it does not touch.
abbrev pub CallsKeepTheRest : Type 0
CallsKeepTheRest = (tree : TreeState) (core : ℕ) (c : Call) → IsSoundTree tree → core < length tree.made → KeepsRest tree core c

-- A walk up from a directory of a sound tree meets the directories above it.
abbrev pub WalksMeetThoseAbove : Type 0
WalksMeetThoseAbove =
    (tree : TreeState) (node : ℕ) (above : List ℕ) → IsSoundTree tree → is_directory tree node ≡ true → Above tree node above
    → walk_up (len tree.rows) tree node ≡ above

-- What fits a sound tree keeps it sound.
abbrev pub FittingKeepsSound : Type 0
FittingKeepsSound =
    (tree : TreeState) (core : ℕ) (effect : Effect) (makes : Option Kind) → IsSound tree → Fits tree core effect makes
    → IsSound (tree_with tree core effect makes)

-- The lists of the cores make the history.
abbrev pub CoresMakeTheHistory : Type 0
CoresMakeTheHistory = (parts : List (Vec Entry Global)) (history : List Entry) → AreCoresOf parts history → MakeTheHistory parts history

-- What an entry logs erases to its changes of rows, which removals end a directory included.
abbrev pub LogsErase : Type 0
LogsErase = (tree : TreeState) (core stamp : ℕ) (c : Call) → IsSoundTree tree → core < length tree.made
    → erased_entry (logged_by tree core stamp (verdict tree core c).effect (verdict tree core c).makes) ≡ changes_by tree stamp (verdict tree core c).effect

-- Each change that an entry logs tells the directories above its own where it has to, and no others.
abbrev pub LogsTellWays : Type 0
LogsTellWays =
    (tree : TreeState) (core stamp : ℕ) (effect : Effect) (makes : Option Kind)
    → map (λ change. change.above) (logged_by tree core stamp effect makes) ≡ map (above_due tree) (logged_by tree core stamp effect makes)

-- Each tree of a legal history from a sound one within its limits is within them.
abbrev pub HistoriesStayWithin : Type 0
HistoriesStayWithin =
    (first : TreeState) (history : List Entry) (count : ℕ) → IsSoundTree first → IsLegal first history → IsWithinLimits first
    → IsWithinLimits (tree_after first (take count history))

-- A tree agrees with itself on what a call reads.
abbrev pub TreesAgreeWithThemselves : Type 0
TreesAgreeWithThemselves = (tree : TreeState) (core : ℕ) (c : Call) → Agree tree tree core c

-- Of a legal history the lists of its cores' own entries are its cores' lists.
abbrev pub OwnEntriesAreCores : Type 0
OwnEntriesAreCores =
    (first : TreeState) (history : List Entry) (parts : List (Vec Entry Global)) → IsLegal first history → length history < 2 ^ 64
    → length parts ≡ length first.made
    → ((core : ℕ) (part : Vec Entry Global) → slice_get parts core ≡ Some part → part.items ≡ filter (is_core core) history) → AreCoresOf parts history

-- A call touches only parts in which a name stands that it names.
abbrev pub TouchesAreNamed : Type 0
TouchesAreNamed =
    (c : Call) (directory : ℕ) (test : List ℕ → Bool) → touches_part c directory test ≡ true
    → (name : List ℕ) × IsNamedPlace c directory name × (test name ≡ true)

-- A call touches the bytes of one file at most, which it names, and the links of one node at most.
pub record TouchesOne (tree : TreeState) (core : ℕ) (c : Call) : Type 0 where
  pub bytes : (node : ℕ) → touches_bytes c node ≡ true → named_file c ≡ Some node
  pub links : (node other : ℕ) → touches_links tree core c node ≡ true → touches_links tree core c other ≡ true → node ≡ other

abbrev pub CallsTouchOne : Type 0
CallsTouchOne = (tree : TreeState) (core : ℕ) (c : Call) → TouchesOne tree core c

-- The shape of a tree whose file has three names is the one that was worked out by hand.
abbrev pub ShapeIsAsWorked : Type 0
ShapeIsAsWorked = shape_of THREE_NAMES ≡ THREE_NAMES_SHAPE
