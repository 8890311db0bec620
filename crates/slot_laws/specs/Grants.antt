-- What the box's map of free space goes through while cores tell labels, and what is granted to whom.
use Rattle.std.specs.Prelude.{◌≡◌, ◌≢◌, ◌∷◌, ◌==◌, ℕ, true, false, List, [], length, take, Some, Bool}
use Rattle.sfs_base.specs.Listed.{is_listed}
use Rattle.sfs_image.specs.Super.{Layout}
use Rattle.space_map.specs.Space.{Space, GrantedNumbers}
use Rattle.space_map.specs.Pool.{Pool, Grants, free_numbers, BecomeAll, Ends, status_of}
use Rattle.space_map.specs.declared.status.Status.TheVariants.{Granted, Free, Taken}
use Rattle.cut_laws.specs.Rules.{IsOneOf}
use Rattle.stamp_table.specs.declared.event.Event.{Event}
use Rattle.stamp_table.specs.declared.event.Event.TheVariants.{Told}
use Rattle.slot_laws.specs.Nodes.{ReservedCommit}
use Rattle.slot_laws.specs.declared.label.Label.{Label}
use Rattle.slot_laws.specs.Labels.{BoxPast, after_event, first_past, past_from}
use Rattle.slot_laws.specs.Rules.{MayFrom}
use Rattle.slot_laws.specs.Lasts.{Reserving, ReservesIn}
use Rattle.slot_laws.specs.declared.label.Label.TheVariants as label

-- A grant was taken from a map: its numbers were free, and its inodes were the least that were.
pub record TakesGrant (old : Space) (grant : GrantedNumbers) (new : Space) : Type 0 where
  pub inodes : Grants old.inodes (length grant.inodes) grant.inodes new.inodes
  pub blocks : Grants old.blocks (length grant.blocks) grant.blocks new.blocks
  pub least : grant.inodes ≡ take (length grant.inodes) (free_numbers old.inodes)

-- A commit that is open, with this number.
pub record IsOpenNumbered (opens : List ReservedCommit) (number : ℕ) : Type 0 where
  pub commit : ReservedCommit
  pub among : IsOneOf opens commit
  pub number_is : commit.number ≡ number

-- An open commit has given back, and its numbers are free again.
pub record GivesGrantBack (opens : List ReservedCommit) (number : ℕ) (old new : Space) : Type 0 where
  pub own : IsOpenNumbered opens number
  pub inodes : BecomeAll Free own.commit.grant.inodes old.inodes new.inodes
  pub blocks : BecomeAll Free own.commit.grant.blocks old.blocks new.blocks

-- An open commit is durable: its numbers stay taken, and those are free that it gives up and that were taken.
pub record EndsGrant (opens : List ReservedCommit) (number : ℕ) (old new : Space) : Type 0 where
  pub own : IsOpenNumbered opens number
  pub inodes : Ends own.commit.grant.inodes own.commit.gives_up.inodes old.inodes new.inodes
  pub blocks : Ends own.commit.grant.blocks own.commit.gives_up.blocks old.blocks new.blocks

-- what becomes of the map with a label
abbrev pub SpaceDoes : Event Label → BoxPast → Space → Space → Type 0
SpaceDoes (Told core (label.Reserved commit seen grant)) past old new = TakesGrant old grant new
SpaceDoes (Told core (label.Returned commit)) past old new = GivesGrantBack past.opens commit old new
SpaceDoes (Told core (label.Settled slot turn)) past old new = EndsGrant past.opens turn.commit old new
SpaceDoes (Told core (label.Empty commit cut opened durable)) past old new = EndsGrant past.opens commit old new
SpaceDoes _ past old new = new ≡ old

-- A map before and behind one event.
pub record SpaceStep (event : Event Label) (past : BoxPast) (old : Space) : Type 0 where
  pub next : Space
  pub does : SpaceDoes event past old next

-- A map goes along a history, event by event.
abbrev pub SpaceGoes : Layout → List (Event Label) → BoxPast → Space → Space → Type 0
SpaceGoes layout [] past old new = new ≡ old
SpaceGoes layout (event ∷ log) past old new =
    (step : SpaceStep event past old) × SpaceGoes layout log (after_event layout event past) step.next new

-- a row of numbers of a map has none that is granted
abbrev pub NoneGranted : Pool → Type 0
NoneGranted pool = (number : ℕ) → status_of pool number ≢ Some Granted

-- the inodes of a grant, and its blocks
abbrev pub inodes_granted : GrantedNumbers → List ℕ
inodes_granted numbers = numbers.inodes

abbrev pub blocks_granted : GrantedNumbers → List ℕ
blocks_granted numbers = numbers.blocks

-- a commit was granted a number
abbrev pub HasGranted : (GrantedNumbers → List ℕ) → ReservedCommit → ℕ → Type 0
HasGranted part commit number = is_listed (part commit.grant) number ≡ true

-- A number is granted to an open commit.
pub record IsGrantedTo (part : GrantedNumbers → List ℕ) (opens : List ReservedCommit) (number : ℕ) : Type 0 where
  pub commit : ReservedCommit
  pub among : IsOneOf opens commit
  pub has : HasGranted part commit number

-- What is granted in a row of numbers is what the open commits were granted: each number that one was granted is granted, and so is neither free nor
-- taken; no other was granted it; and each granted number is an open commit's.
pub record AreGranted (part : GrantedNumbers → List ℕ) (opens : List ReservedCommit) (pool : Pool) : Type 0 where
  pub own : (one : ReservedCommit) (number : ℕ) → IsOneOf opens one → HasGranted part one number → status_of pool number ≡ Some Granted
  pub apart : (one other : ReservedCommit) (number : ℕ) → IsOneOf opens one → IsOneOf opens other → one.number ≢ other.number
      → HasGranted part one number → is_listed (part other.grant) number ≡ false
  pub only : (number : ℕ) → status_of pool number ≡ Some Granted → IsGrantedTo part opens number

-- So it is of inodes and of blocks.
pub record AreTheirGrants (opens : List ReservedCommit) (space : Space) : Type 0 where
  pub inodes : AreGranted inodes_granted opens space.inodes
  pub blocks : AreGranted blocks_granted opens space.blocks

-- A history by the rules along which a map goes, from one of which nothing is granted.
pub record GoesAlong (layout : Layout) (before moment : ℕ) (log : List (Event Label)) (first now : Space) : Type 0 where
  pub may : MayFrom layout before log (first_past moment)
  pub no_inodes : NoneGranted first.inodes
  pub no_blocks : NoneGranted first.blocks
  pub goes : SpaceGoes layout log (first_past moment) first now

-- Behind each what is granted is granted to one open commit, and is not free.
abbrev pub GrantsAreOnes : Type 0
GrantsAreOnes = (layout : Layout) (before moment : ℕ) (log : List (Event Label)) (first now : Space) → GoesAlong layout before moment log first now
    → AreTheirGrants (past_from layout log (first_past moment)).opens now

-- At a place of such a history a map was what it has gone along to, and a grant was taken from it.
pub record TookAt (layout : Layout) (before moment : ℕ) (one : Reserving) (front : List (Event Label)) (first : Space) : Type 0 where
  pub old : Space
  pub new : Space
  pub along : GoesAlong layout before moment front first old
  pub took : TakesGrant old one.grant new

-- So each reserving takes the least free inodes, and blocks that are free.
abbrev pub ReservingsTakeTheLeast : Type 0
ReservingsTakeTheLeast = (layout : Layout) (before moment : ℕ) (log : List (Event Label)) (first now : Space) (one : Reserving)
    → (told : ReservesIn log one) → GoesAlong layout before moment log first now → TookAt layout before moment one told.front first

-- whether an event makes a commit durable
abbrev pub makes_durable : ℕ → Event Label → Bool
makes_durable commit (Told core (label.Settled slot turn)) = turn.commit == commit
makes_durable commit (Told core (label.Empty other cut opened durable)) = other == commit
makes_durable commit _ = false

-- An event makes a commit durable that gives up a number.
pub record GivesUpNow (part : GrantedNumbers → List ℕ) (event : Event Label) (opens : List ReservedCommit) (number : ℕ) : Type 0 where
  pub commit : ReservedCommit
  pub among : IsOneOf opens commit
  pub durable : makes_durable commit.number event ≡ true
  pub gives : is_listed (part commit.gives_up) number ≡ true

-- None of these does.
abbrev pub NoneGivesUp : (GrantedNumbers → List ℕ) → Layout → List (Event Label) → BoxPast → ℕ → Type 0
NoneGivesUp part layout [] past number = Unit {0}
NoneGivesUp part layout (event ∷ log) past number =
    (GivesUpNow part event past.opens number → ⊥) × NoneGivesUp part layout log (after_event layout event past) number

-- What was taken at some place is taken still: nothing is free again before a commit is durable that gives it up.
pub record StayTaken (layout : Layout) (log : List (Event Label)) (past : BoxPast) (old new : Space) : Type 0 where
  pub inodes : (number : ℕ) → NoneGivesUp inodes_granted layout log past number → status_of old.inodes number ≡ Some Taken
      → status_of new.inodes number ≡ Some Taken
  pub blocks : (number : ℕ) → NoneGivesUp blocks_granted layout log past number → status_of old.blocks number ≡ Some Taken
      → status_of new.blocks number ≡ Some Taken

-- A map at a place of a history along which it goes: what came to it up to there, and what comes behind.
pub record IsMapThere (layout : Layout) (before moment : ℕ) (front back : List (Event Label)) (first now : Space) : Type 0 where
  pub middle : Space
  pub along : GoesAlong layout before moment front first middle
  pub may : MayFrom layout before back (past_from layout front (first_past moment))
  pub goes : SpaceGoes layout back (past_from layout front (first_past moment)) middle now

-- So it is from each place of a history on.
abbrev pub TakenUntilGivenUp : Type 0
TakenUntilGivenUp = (layout : Layout) (before moment : ℕ) (front back : List (Event Label)) (first now : Space)
    → (there : IsMapThere layout before moment front back first now)
    → StayTaken layout back (past_from layout front (first_past moment)) there.middle now
