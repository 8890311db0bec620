-- What is known before a turn at the disk, and what a turn does.
use Rattle.std.specs.Prelude.{◌≡◌, ◌⊎◌, ℕ, ◌-◌, ◌<◌, ◌≤◌, ◌==◌, ◌&&◌, Bool, true, not, List, [], ◌∷◌, ◌++◌, length, take, filter, sum_by, Option, Some, None}
use Rattle.std.specs.List.{find, list_any, range_with_len}
use Rattle.std.specs.List.Sorted.{IsStrictlyIncreasing}
use Rattle.std.specs.Option.{option_map_or}
use Rattle.sfs_base.specs.Ends.{HasRisen}
use Rattle.sfs_base.specs.Listed.{is_listed}
use Rattle.sfs_base.specs.declared.numbers.SpaceKind.{SpaceKind}
use Rattle.sfs_base.specs.declared.numbers.SpaceKind.TheVariants.{Inodes, Blocks}
use Rattle.sfs_image.specs.Seen.{PLACES}
use Rattle.tree_laws.specs.declared.history.Entry.{Entry}
use Rattle.tree_laws.specs.declared.turns.Turn.{Turn}
use Rattle.tree_laws.specs.declared.turns.TurnAct.{TurnAct}
use Rattle.tree_laws.specs.declared.turns.TurnAct.TheVariants as act
use Rattle.tree_laws.specs.Tree.{TreeState}
use Rattle.image_laws.specs.Commit.{Commit, IsCommit}
use Rattle.image_laws.specs.Need.{takes_place, pointer_after}
use Rattle.image_laws.specs.Numbers.{numbers_after}
use Rattle.cut_laws.specs.declared.event.Event.TheVariants as event
use Rattle.cut_laws.specs.Closure.{Flush}
use Rattle.cut_laws.specs.Machine.{Flight, MachineState, start_of, flight_of, Accepts}
use Rattle.cut_laws.specs.Rules.{IsOneOf}
use Rattle.turn_laws.specs.Need.{ImageState, Amount, nothing, is_unused, free_inodes, free_blocks, Made, IsMadeBy, tree_before, tree_made, rewrite_needed, enters_by_made, IsNeed}

-- What is reserved for an fsync, which is known by its stamp: how much, and which inodes.
pub record Grant : Type 0 where
  pub stamp : ℕ
  pub need : Amount
  pub inodes : List ℕ

-- An fsync of a core for which something is reserved, and which has neither begun its commit nor given back.
pub record Waiting : Type 0 where
  pub core : ℕ
  pub stamp : ℕ

-- What is known before a turn: the machine of calls and commits, what the image tells, what is reserved, which fsyncs wait, and the count
-- of faults of the commit that failed, where one has.
pub record Books : Type 0 where
  pub machine : MachineState
  pub image : ImageState
  pub grants : List Grant
  pub waiting : List Waiting
  pub failed : Option ℕ

-- the books before the first turn: all calls are told
abbrev pub books_of : TreeState → List Entry → ImageState → Books
books_of first history image = record {
  machine = record (start_of first) { history = history };
  image = image;
  grants = [];
  waiting = [];
  failed = None;
}

-- the fsync of a turn
abbrev pub flush_at : Turn → Flush
flush_at turn = record { node = turn.node.0; stamp = turn.stamp.0 }

-- how much is reserved
abbrev pub reserved : List Grant → Amount
reserved grants = record { inodes = sum_by (λ grant. grant.need.inodes) grants; blocks = sum_by (λ grant. grant.need.blocks) grants }

-- how much is free: what the image has free, without what is reserved
abbrev pub free_in : Books → Amount
free_in books = record {
  inodes = free_inodes books.image - (reserved books.grants).inodes;
  blocks = free_blocks books.image - (reserved books.grants).blocks;
}

-- whether an inode is free and not reserved
abbrev pub is_open_in : Books → ℕ → Bool
is_open_in books i = is_unused books.image.image i && not (list_any (λ grant. is_listed grant.inodes i) books.grants)

-- so many of the inodes that are free and not reserved, the least ones
abbrev pub least_open : Books → ℕ → List ℕ
least_open books count = take count (filter (is_open_in books) (range_with_len 0 books.image.image.count))

-- A need fits what is free.
pub record FitsFree (need free : Amount) : Type 0 where
  pub inodes : need.inodes ≤ free.inodes
  pub blocks : need.blocks ≤ free.blocks

-- of which there is so much
abbrev pub amount_of : Amount → SpaceKind → ℕ
amount_of amount Inodes = amount.inodes
amount_of amount Blocks = amount.blocks

-- Of this there is too little: of inodes first, and of blocks only where there are inodes enough.
abbrev pub IsTooFew : Amount → Amount → SpaceKind → Type 0
IsTooFew need free Inodes = free.inodes < need.inodes
IsTooFew need free Blocks = (need.inodes ≤ free.inodes) × (free.blocks < need.blocks)

-- A need does not fit what is free: there is too little of this kind, and both numbers are told.
pub record IsShortOf (need free : Amount) (kind : SpaceKind) (asked have : ℕ) : Type 0 where
  pub too_few : IsTooFew need free kind
  pub asked_is : asked ≡ amount_of need kind
  pub have_is : have ≡ amount_of free kind

-- whether a grant is not this fsync's, and whether an fsync that waits is not this one
abbrev pub is_other_grant : ℕ → Grant → Bool
is_other_grant stamp grant = not (grant.stamp == stamp)

abbrev pub is_other_waiting : ℕ → Waiting → Bool
is_other_waiting stamp waits = not (waits.stamp == stamp)

-- books in which nothing is reserved for an fsync, and books in which it does not wait
abbrev pub without_grant : ℕ → Books → Books
without_grant stamp books = record books { grants = filter (is_other_grant stamp) books.grants }

abbrev pub without_waiting : ℕ → Books → Books
without_waiting stamp books = record books { waiting = filter (is_other_waiting stamp) books.waiting }

-- the inodes that are reserved for an fsync
abbrev pub inodes_for : ℕ → Books → List ℕ
inodes_for stamp books = option_map_or (λ grant. grant.inodes) (find (λ grant. grant.stamp == stamp) books.grants) []

-- the fsync of a turn, as one that waits
abbrev pub waiting_for : Turn → Waiting
waiting_for turn = record { core = turn.core.0; stamp = turn.stamp.0 }

-- what is reserved for the fsync of a turn that needs so much
abbrev pub grant_for_turn : Books → Turn → Amount → Grant
grant_for_turn books turn need = record { stamp = turn.stamp.0; need = need; inodes = least_open books need.inodes }

-- A turn reserves: the need of its fsync fits, and the least free inodes are taken.
pub record Reserves (books : Books) (turn : Turn) (later : Books) : Type 0 where
  pub need : Amount
  pub needs : IsNeed books.machine books.image (flush_at turn) need
  pub fits : FitsFree need (free_in books)
  pub later_is : later ≡ record books { grants = books.grants ++ grant_for_turn books turn need ∷ []; waiting = books.waiting ++ waiting_for turn ∷ [] }

-- A turn does not reserve: the need of its fsync does not fit.
pub record LacksRoom (kind : SpaceKind) (asked have : ℕ) (books : Books) (turn : Turn) (later : Books) : Type 0 where
  pub need : Amount
  pub needs : IsNeed books.machine books.image (flush_at turn) need
  pub short : IsShortOf need (free_in books) kind asked have
  pub later_is : later ≡ books

-- A turn begins a commit: that of an fsync that waits, or of one that needs nothing.
pub record BeginsCommit (books : Books) (turn : Turn) (later : Books) : Type 0 where
  pub may : IsOneOf books.waiting (waiting_for turn) ⊎ IsNeed books.machine books.image (flush_at turn) nothing
  pub machine : MachineState
  pub taken : Accepts books.machine (event.CutAt turn.commit turn.node turn.stamp) machine
  pub later_is : later ≡ without_waiting turn.stamp.0 (record books { machine = machine })

-- The commit of a turn is in flight, for the turn's fsync.
pub record FliesFor (machine : MachineState) (turn : Turn) : Type 0 where
  pub flight : Flight
  pub flies : flight_of machine turn.commit ≡ Some flight
  pub own : flight.flush ≡ flush_at turn

-- A turn opens a commit.
pub record OpensCommit (books : Books) (turn : Turn) (later : Books) : Type 0 where
  pub flies : FliesFor books.machine turn
  pub machine : MachineState
  pub taken : Accepts books.machine (event.Opened turn.commit) machine
  pub later_is : later ≡ record books { machine = machine }

-- the commit from one image to the next, with the places that take a block and the blocks that they take
abbrev pub commit_made : Made → ImageState → ImageState → (ℕ → ℕ → Bool) → (ℕ → ℕ → ℕ) → Commit
commit_made made old new takes fresh = record {
  before = old.num;
  after = new.num;
  concerns = made.concerns;
  nets = made.nets;
  takes = takes;
  fresh = fresh;
}

-- The numbers after a commit: the nodes that get an inode get those that were granted, both ascending, and those that lose theirs have none.
pub record GivesGranted (state : MachineState) (made : Made) (granted : List ℕ) (old new : ImageState) : Type 0 where
  pub entering : List ℕ
  pub ascending : IsStrictlyIncreasing entering
  pub each : (node : ℕ) → is_listed entering node ≡ enters_by_made state made node
  pub enough : length granted ≡ length entering
  pub numbers : (node : ℕ) → new.num node ≡ numbers_after old.num (λ other. not (made.after other)) entering granted node

-- A place of a node that a commit concerns: it takes a fresh block where its rewriting says so, and has the block that this leaves there.
pub record IsRewritten (state : MachineState) (made : Made) (old new : ImageState) (takes : ℕ → ℕ → Bool) (fresh : ℕ → ℕ → ℕ) (node i place : ℕ) : Type 0 where
  pub taken : takes i place ≡ takes_place (rewrite_needed state old made node) place
  pub pointer : (new.image.seen i).blocks place ≡ pointer_after (rewrite_needed state old made node) (fresh i) place

-- What a commit leaves of an image: a commit from the tree at the cut to the tree at the raised cut has made it, with what was granted.
-- Fresh blocks are of the data area, and which of the free ones they are is not said.
pub record Leaves (state : MachineState) (made : Made) (granted : List ℕ) (old new : ImageState) : Type 0 where
  pub takes : ℕ → ℕ → Bool
  pub fresh : ℕ → ℕ → ℕ
  pub commits : IsCommit (commit_made made old new takes fresh) (tree_before state) (tree_made state made) old.image new.image
  pub gives : GivesGranted state made granted old new
  pub rewrites : (node i place : ℕ) → new.num node ≡ Some i → made.concerns node ≡ true → place < PLACES
      → IsRewritten state made old new takes fresh node i place
  pub lies : (i place : ℕ) → takes i place ≡ true → (old.first_block ≤ fresh i place) × (fresh i place < old.end_block)
  pub first_block : new.first_block ≡ old.first_block
  pub end_block : new.end_block ≡ old.end_block

-- A turn makes a commit durable: its fsync raises the cut, the image is what it leaves, and nothing is reserved for it any more.
pub record SettlesCommit (books : Books) (turn : Turn) (later : Books) : Type 0 where
  pub flies : FliesFor books.machine turn
  pub machine : MachineState
  pub taken : Accepts books.machine (event.Durable turn.commit) machine
  pub made : Made
  pub is_made : IsMadeBy books.machine (flush_at turn) made
  pub image : ImageState
  pub leaves : Leaves books.machine made (inodes_for turn.stamp.0 books) books.image image
  pub later_is : later ≡ without_grant turn.stamp.0 (record books { machine = machine; image = image })

-- A turn fails: its commit is left in doubt.
pub record FailsCommit (books : Books) (turn : Turn) (later : Books) : Type 0 where
  pub flies : FliesFor books.machine turn
  pub machine : MachineState
  pub taken : Accepts books.machine (event.Fail turn.commit) machine
  pub later_is : later ≡ record books { machine = machine; failed = Some turn.faults }

-- A turn gives back what was reserved for an fsync that waits.
pub record GivesBack (books : Books) (turn : Turn) (later : Books) : Type 0 where
  pub waits : IsOneOf books.waiting (waiting_for turn)
  pub later_is : later ≡ without_grant turn.stamp.0 (without_waiting turn.stamp.0 books)

-- what a turn does, by its act
abbrev pub Does : TurnAct → Books → Turn → Books → Type 0
Does act.Granted books turn later = Reserves books turn later
Does act.GivenBack books turn later = GivesBack books turn later
Does (act.Short kind asked have) books turn later = LacksRoom kind asked have books turn later
Does act.Halted books turn later = later ≡ without_waiting turn.stamp.0 books
Does act.CutAt books turn later = BeginsCommit books turn later
Does act.Opened books turn later = OpensCommit books turn later
Does act.Durable books turn later = SettlesCommit books turn later
Does act.Fail books turn later = FailsCommit books turn later

-- What a turn's count of faults is: until a commit has failed that before the first failure, and of the failure one that has risen, to at
-- most another; and once a commit has failed, only turns that halt or give back come, with a count from that on, and no others halt.
abbrev pub CountsFaults : ℕ → ℕ → Option ℕ → TurnAct → ℕ → Type 0
CountsFaults before most None act.Fail faults = HasRisen before faults × (faults ≤ most)
CountsFaults before most None act.Halted faults = ⊥
CountsFaults before most None _ faults = faults ≡ before
CountsFaults before most (Some failed) act.Halted faults = (failed ≤ faults) × (faults ≤ most)
CountsFaults before most (Some failed) act.GivenBack faults = (failed ≤ faults) × (faults ≤ most)
CountsFaults before most (Some failed) _ faults = ⊥

-- A turn, with the books before and after it: no other fsync of its core waits, its count of faults is right, and the books change by its act.
pub record IsTurn (before most : ℕ) (books : Books) (turn : Turn) (later : Books) : Type 0 where
  pub own : (waits : Waiting) → IsOneOf books.waiting waits → waits.core ≡ turn.core.0 → waits.stamp ≡ turn.stamp.0
  pub faults : CountsFaults before most books.failed turn.act turn.faults
  pub does : Does turn.act books turn later

-- Turns in their order, from some books on, and the books behind them.
pub data AreTurns (before most : ℕ) (start : Books) : List Turn → Books → Type 0 where
  no_turns : AreTurns before most start [] start
  one_turn : (turns : List Turn) (turn : Turn) (books later : Books) → AreTurns before most start turns books → IsTurn before most books turn later
      → AreTurns before most start (turns ++ turn ∷ []) later
