-- The laws of turns where one thread makes whole fsyncs, each of which a function of the module laws proves.
use Rattle.std.specs.Prelude.{◌≡◌, ℕ, ◌≤◌, Bool, true, List, [], ◌∷◌, ◌++◌, Some}
use Rattle.sfs_base.specs.declared.numbers.NodeId.{NodeId}
use Rattle.sfs_base.specs.declared.numbers.SpaceKind.{SpaceKind}
use Rattle.tree_laws.specs.declared.call.Call.TheVariants as call
use Rattle.tree_laws.specs.declared.history.Entry.{Entry}
use Rattle.tree_laws.specs.declared.reply.Reply.TheVariants as reply
use Rattle.tree_laws.specs.declared.turns.Turn.{Turn}
use Rattle.tree_laws.specs.declared.turns.TurnAct.TheVariants as act
use Rattle.tree_laws.specs.History.{tree_after}
use Rattle.tree_laws.specs.Laws.{IsSoundTree}
use Rattle.tree_laws.specs.Tree.{TreeState, is_alive}
use Rattle.turn_laws.specs.Need.{ImageState, nothing, Made, IsMadeBy}
use Rattle.turn_laws.specs.Books.{free_in, FitsFree, IsShortOf, Leaves}
use Rattle.sfs_base.specs.Ends.{HasRisen}
use Rattle.turn_laws.specs.OneThread.{Resting, machine_at, books_at, resting_first, TurnsStand, TurnsFailed, ComesNext, IsNextFsync, fsync_of, turn_of, MayBegin, need_at, granted_at, resting_after}
use Rattle.turn_laws.specs.Recorded.{IsRecorded}

-- Before the first call there are no turns, and they stand.
abbrev pub TurnsBegin : Type 0
TurnsBegin = (first : TreeState) (image : ImageState) (before : ℕ) → IsSoundTree first → TurnsStand first [] image before [] (resting_first first image)

-- An entry takes no turn: where it is an fsync of a live node, it is answered NoMemory.
abbrev pub TakesNoTurn : TreeState → List Entry → Entry → Type 0
TakesNoTurn first history entry =
    (node : NodeId) → entry.call ≡ call.Fsync node → is_alive (tree_after first history) node.0 ≡ true → entry.reply ≡ reply.NoMemory

-- Then the turns go on to stand.
abbrev pub CallsStand : Type 0
CallsStand = (first : TreeState) (history : List Entry) (image : ImageState) (before : ℕ) (turns : List Turn) (rest : Resting) (entry : Entry)
    → ComesNext first history entry → TakesNoTurn first history entry
    → TurnsStand first history image before turns rest
    → TurnsStand first (history ++ entry ∷ []) image before turns rest

-- turns with one more
abbrev pub then_turn : List Turn → Turn → List Turn
then_turn turns turn = turns ++ turn ∷ []

-- turns with those of an fsync that reserves and begins its commit, at these moments; the number is that of the reserving turn
abbrev pub with_begun : List Turn → Entry → NodeId → ℕ → ℕ → ℕ → ℕ → ℕ → List Turn
with_begun turns entry node before number commit reserved begun =
    then_turn (then_turn turns (turn_of entry node number reserved before act.Granted)) (turn_of entry node commit begun before act.CutAt)

-- An fsync answered Ok: it reserves what fits, and its commit begins, is opened and is durable at the moment of its acknowledgement.
abbrev pub CommitsStand : Type 0
CommitsStand = (first : TreeState) (history : List Entry) (image : ImageState) (before : ℕ) (turns : List Turn) (rest : Resting) (entry : Entry) (node : NodeId)
    (number commit reserved begun opened durable : ℕ) (made : Made) (members : ℕ → Bool) (next : ImageState)
    → IsNextFsync first history entry node → MayBegin first history rest (fsync_of entry node) commit made members
    → FitsFree (need_at first history rest made) (free_in (books_at first history rest))
    → Leaves (machine_at first history rest) made (granted_at first history rest made) rest.image next
    → entry.reply ≡ reply.Ok → entry.ack ≡ Some durable
    → TurnsStand first history image before turns rest
    → TurnsStand first (history ++ entry ∷ []) image before
    (then_turn (then_turn (with_begun turns entry node before number commit reserved begun) (turn_of entry node commit opened before act.Opened))
    (turn_of entry node commit durable before act.Durable))
    (resting_after rest commit made next)

-- An fsync answered Ok that needs nothing: its commit begins, is opened and is durable at one moment.
abbrev pub EmptyCommitsStand : Type 0
EmptyCommitsStand =
    (first : TreeState) (history : List Entry) (image : ImageState) (before : ℕ) (turns : List Turn) (rest : Resting) (entry : Entry) (node : NodeId)
    (commit durable : ℕ) (made : Made) (members : ℕ → Bool) (next : ImageState)
    → IsNextFsync first history entry node → MayBegin first history rest (fsync_of entry node) commit made members
    → need_at first history rest made ≡ nothing
    → Leaves (machine_at first history rest) made [] rest.image next
    → entry.reply ≡ reply.Ok → entry.ack ≡ Some durable
    → TurnsStand first history image before turns rest
    → TurnsStand first (history ++ entry ∷ []) image before
    (then_turn (then_turn (then_turn turns (turn_of entry node commit durable before act.CutAt)) (turn_of entry node commit durable before act.Opened))
    (turn_of entry node commit durable before act.Durable))
    (resting_after rest commit made next)

-- An fsync answered NoSpace: its need does not fit.
abbrev pub ShortsStand : Type 0
ShortsStand = (first : TreeState) (history : List Entry) (image : ImageState) (before : ℕ) (turns : List Turn) (rest : Resting) (entry : Entry) (node : NodeId)
    (number moment : ℕ) (made : Made) (kind : SpaceKind) (asked have : ℕ)
    → IsNextFsync first history entry node → IsMadeBy (machine_at first history rest) (fsync_of entry node) made
    → IsShortOf (need_at first history rest made) (free_in (books_at first history rest)) kind asked have
    → entry.reply ≡ reply.NoSpace kind asked have
    → TurnsStand first history image before turns rest
    → TurnsStand first (history ++ entry ∷ []) image before (then_turn turns (turn_of entry node number moment before (act.Short kind asked have))) rest

-- An fsync answered NoMemory that has reserved what fits, and gives it back.
abbrev pub GivenBackStand : Type 0
GivenBackStand =
    (first : TreeState) (history : List Entry) (image : ImageState) (before : ℕ) (turns : List Turn) (rest : Resting) (entry : Entry) (node : NodeId)
    (number other reserved moment : ℕ) (made : Made)
    → IsNextFsync first history entry node → IsMadeBy (machine_at first history rest) (fsync_of entry node) made
    → FitsFree (need_at first history rest made) (free_in (books_at first history rest))
    → entry.reply ≡ reply.NoMemory
    → TurnsStand first history image before turns rest
    → TurnsStand first (history ++ entry ∷ []) image before
    (then_turn (then_turn turns (turn_of entry node number reserved before act.Granted)) (turn_of entry node other moment before act.GivenBack)) rest

-- An fsync answered DiskFailed whose commit began and failed before it was opened.
abbrev pub DoubtsFail : Type 0
DoubtsFail = (first : TreeState) (history : List Entry) (image : ImageState) (before : ℕ) (turns : List Turn) (rest : Resting) (entry : Entry) (node : NodeId)
    (number commit reserved begun moment faults : ℕ) (made : Made) (members : ℕ → Bool)
    → IsNextFsync first history entry node → MayBegin first history rest (fsync_of entry node) commit made members
    → FitsFree (need_at first history rest made) (free_in (books_at first history rest))
    → HasRisen before faults → entry.reply ≡ reply.DiskFailed
    → TurnsStand first history image before turns rest
    → TurnsFailed first (history ++ entry ∷ []) image before faults
    (then_turn (with_begun turns entry node before number commit reserved begun) (turn_of entry node commit moment faults act.Fail))

-- An fsync answered DiskFailed whose commit was opened and then failed.
abbrev pub OpenedDoubtsFail : Type 0
OpenedDoubtsFail =
    (first : TreeState) (history : List Entry) (image : ImageState) (before : ℕ) (turns : List Turn) (rest : Resting) (entry : Entry) (node : NodeId)
    (number commit reserved begun opened moment faults : ℕ) (made : Made) (members : ℕ → Bool)
    → IsNextFsync first history entry node → MayBegin first history rest (fsync_of entry node) commit made members
    → FitsFree (need_at first history rest made) (free_in (books_at first history rest))
    → HasRisen before faults → entry.reply ≡ reply.DiskFailed
    → TurnsStand first history image before turns rest
    → TurnsFailed first (history ++ entry ∷ []) image before faults
    (then_turn (then_turn (with_begun turns entry node before number commit reserved begun) (turn_of entry node commit opened before act.Opened))
    (turn_of entry node commit moment faults act.Fail))

-- Once a commit has failed, an fsync that takes a turn halts, and is answered Stopped with the count of the failure.
abbrev pub HaltsFail : Type 0
HaltsFail =
    (first : TreeState) (history : List Entry) (image : ImageState) (before faults : ℕ) (turns : List Turn) (entry : Entry) (node : NodeId)
    (number moment own : ℕ)
    → IsNextFsync first history entry node → entry.reply ≡ reply.Stopped faults → own ≡ faults
    → TurnsFailed first history image before faults turns
    → TurnsFailed first (history ++ entry ∷ []) image before faults (then_turn turns (turn_of entry node number moment own act.Halted))

-- And an entry that takes no turn leaves them so.
abbrev pub CallsFail : Type 0
CallsFail = (first : TreeState) (history : List Entry) (image : ImageState) (before faults : ℕ) (turns : List Turn) (entry : Entry)
    → ComesNext first history entry → TakesNoTurn first history entry
    → TurnsFailed first history image before faults turns
    → TurnsFailed first (history ++ entry ∷ []) image before faults turns

-- Turns that stand at the end of a run are recorded.
abbrev pub StandingAreRecorded : Type 0
StandingAreRecorded = (first : TreeState) (history : List Entry) (image : ImageState) (entry_faults before exit_faults : ℕ) (turns : List Turn) (rest : Resting)
    → entry_faults ≤ before
    → TurnsStand first history image before turns rest
    → IsRecorded first history image entry_faults exit_faults turns

-- So are turns of which one has failed.
abbrev pub FailedAreRecorded : Type 0
FailedAreRecorded = (first : TreeState) (history : List Entry) (image : ImageState) (entry_faults before faults exit_faults : ℕ) (turns : List Turn)
    → entry_faults ≤ before → faults ≤ exit_faults
    → TurnsFailed first history image before faults turns
    → IsRecorded first history image entry_faults exit_faults turns
