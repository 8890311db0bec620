-- What the box says of nodes: which commit was the last of each, and how it counts until that has ended.
use Rattle.std.specs.Prelude.{◌≡◌, ◌≢◌, ◌+◌, ◌<◌, ◌≤◌, ◌==◌, ◌∷◌, ◌++◌, ℕ, Bool, true, false, List, [], map, Some, is_some}
use Rattle.sfs_base.specs.declared.numbers.CoreId.{CoreId}
use Rattle.sfs_base.specs.Lists.{Roomy}
use Rattle.sfs_image.specs.Super.{Layout}
use Rattle.space_map.specs.Space.{GrantedNumbers}
use Rattle.tree_laws.specs.declared.turns.Turn.{Turn}
use Rattle.cut_laws.specs.Rules.{IsOneOf}
use Rattle.beside_laws.specs.Commits.{CoreCommit}
use Rattle.beside_laws.specs.Box.{BoxState, NO_COMMIT, BoxGoesOn}
use Rattle.stamp_table.specs.declared.event.Event.{Event}
use Rattle.stamp_table.specs.declared.event.Event.TheVariants.{Told}
use Rattle.slot_laws.specs.declared.label.Label.{Label}
use Rattle.slot_laws.specs.declared.label.Seen.{Seen}
use Rattle.slot_laws.specs.declared.label.Label.TheVariants as label
use Rattle.slot_laws.specs.Labels.{BoxPast, first_past, after_label, past_from}
use Rattle.slot_laws.specs.Nodes.{LastCommit, last_ended, ReservedCommit, last_seen, concerns}
use Rattle.slot_laws.specs.Rules.{MayFrom}

-- Of some commits this is the last one that concerns a node: none that does has a greater number.
pub record IsLastHolder (done : List ReservedCommit) (node : ℕ) (commit : ReservedCommit) : Type 0 where
  pub among : IsOneOf done commit
  pub held : concerns commit node ≡ true
  pub latest : (other : ReservedCommit) → IsOneOf done other → concerns other node ≡ true → other.number ≤ commit.number

-- A number names the last commit that concerns a node: none does, and it is 0; or it is the number of the last one that does.
pub data NamesLast (done : List ReservedCommit) (node number : ℕ) : Type 0 where
  held_by_none : ((other : ReservedCommit) → IsOneOf done other → concerns other node ≡ false) → number ≡ 0 → NamesLast done node number
  held_last_by : (commit : ReservedCommit) → IsLastHolder done node commit → number ≡ commit.number → NamesLast done node number

-- of some commits each has a number of its own
abbrev pub AreNumberedOnce : List ReservedCommit → Type 0
AreNumberedOnce [] = Unit {0}
AreNumberedOnce (commit ∷ rest) = ((other : ReservedCommit) → IsOneOf rest other → other.number ≢ commit.number) × AreNumberedOnce rest

-- A node counts as an open commit's.
pub record IsOpenNode (opens : List ReservedCommit) (node number : ℕ) : Type 0 where
  pub commit : ReservedCommit
  pub among : IsOneOf opens commit
  pub number_is : commit.number ≡ number
  pub held : concerns commit node ≡ true

-- The last commits of nodes fit the commits that are open and those that have ended: numbers are given once; each node of an open commit counts as
-- its, and was seen with the last commit that has ended; and each other node has that one as its last.
pub record LastsFit (lasts : ℕ → LastCommit) (opens done : List ReservedCommit) (commits : ℕ) : Type 0 where
  pub once : AreNumberedOnce opens
  pub given : (one : ReservedCommit) → IsOneOf opens one → one.number ≤ commits
  pub ended : (one : ReservedCommit) → IsOneOf done one → one.number ≤ commits
  pub counts : (one : ReservedCommit) (node : ℕ) → IsOneOf opens one → concerns one node ≡ true
      → lasts node ≡ record { number = one.number; ended = false }
  pub counted : (node : ℕ) → (lasts node).ended ≡ false → IsOpenNode opens node (lasts node).number
  pub knew : (one : ReservedCommit) (node last : ℕ) → IsOneOf opens one → last_seen one.seen node ≡ Some last → NamesLast done node last
  pub named : (node : ℕ) → (lasts node).ended ≡ true → NamesLast done node (lasts node).number
  pub earlier : (one other : ReservedCommit) (node : ℕ) → IsOneOf opens one → IsOneOf done other → concerns one node ≡ true
      → concerns other node ≡ true → other.number < one.number

-- So it is behind each history by the rules.
abbrev pub NodesFit : Type 0
NodesFit = (layout : Layout) (before moment : ℕ) (log : List (Event Label)) → MayFrom layout before log (first_past moment)
    → LastsFit (past_from layout log (first_past moment)).lasts (past_from layout log (first_past moment)).opens
    (past_from layout log (first_past moment)).done (past_from layout log (first_past moment)).commits

-- A core reserves: this number, for a commit of nodes that it has seen so, with this grant.
pub record Reserving : Type 0 where
  pub core : CoreId
  pub commit : ℕ
  pub seen : Roomy Seen
  pub grant : GrantedNumbers

abbrev pub told_reserving : Reserving → Event Label
told_reserving one = Told one.core (label.Reserved one.commit one.seen one.grant)

-- whether it is for a commit of a node
abbrev pub reserves_for : Reserving → ℕ → Bool
reserves_for one node = is_some (last_seen one.seen.items node)

-- It was told in a history: what was told before it, and behind it.
pub record ReservesIn (log : List (Event Label)) (one : Reserving) : Type 0 where
  pub front : List (Event Label)
  pub back : List (Event Label)
  pub whole : log ≡ front ++ told_reserving one ∷ back

-- It has the next number, and knew of each of its nodes the last commit that concerned it, which had ended; and no open commit concerns one.
pub record KnewItsNodes (past : BoxPast) (one : Reserving) : Type 0 where
  pub next : one.commit ≡ past.commits + 1
  pub ended : (node last : ℕ) → last_seen one.seen.items node ≡ Some last → past.lasts node ≡ last_ended last
  pub knew : (node last : ℕ) → last_seen one.seen.items node ≡ Some last → NamesLast past.done node last
  pub none_open : (other : ReservedCommit) (node : ℕ) → IsOneOf past.opens other → reserves_for one node ≡ true → concerns other node ≡ false

-- So it is at each reserving of a history by the rules, with a grant or of nothing.
abbrev pub ReservingsKnew : Type 0
ReservingsKnew = (layout : Layout) (before moment : ℕ) (log : List (Event Label)) (one : Reserving) → (told : ReservesIn log one)
    → MayFrom layout before log (first_past moment) → KnewItsNodes (past_from layout told.front (first_past moment)) one

-- whether an event ends a commit: it is durable, or it has given back
abbrev pub ends_it : ℕ → Event Label → Bool
ends_it commit (Told core (label.Settled slot turn)) = turn.commit == commit
ends_it commit (Told core (label.Empty other cut opened durable)) = other == commit
ends_it commit (Told core (label.Returned other)) = other == commit
ends_it commit _ = false

-- None of these ends a commit.
abbrev pub GoesOnOpen : ℕ → List (Event Label) → Type 0
GoesOnOpen commit log = (event : Event Label) → IsOneOf log event → ends_it commit event ≡ false

-- A reserving was told in a history, and its commit has not ended since.
pub record IsStillOpen (log : List (Event Label)) (one : Reserving) : Type 0 where
  pub told : ReservesIn log one
  pub goes : GoesOnOpen one.commit told.back

-- Its nodes count as its.
abbrev pub CountsItsNodes : BoxPast → Reserving → Type 0
CountsItsNodes past one = (node : ℕ) → reserves_for one node ≡ true → past.lasts node ≡ record { number = one.commit; ended = false }

-- So they do from the reserving until the commit is durable or has given back.
abbrev pub NodesCount : Type 0
NodesCount = (layout : Layout) (before moment : ℕ) (log : List (Event Label)) (one : Reserving) → IsStillOpen log one
    → MayFrom layout before log (first_past moment) → CountsItsNodes (past_from layout log (first_past moment)) one

-- A history ends with a commit that gives back, which had not ended since it reserved.
pub record GivesBackIn (log : List (Event Label)) (one : Reserving) : Type 0 where
  pub front : List (Event Label)
  pub middle : List (Event Label)
  pub core : CoreId
  pub whole : log ≡ (front ++ told_reserving one ∷ middle) ++ Told core (label.Returned one.commit) ∷ []
  pub goes : GoesOnOpen one.commit middle

-- Each of its nodes has the last commit that it had as it reserved, and each other node that which it had last.
pub record NodesAreBack (at_first at_last now : BoxPast) (one : Reserving) : Type 0 where
  pub own : (node : ℕ) → reserves_for one node ≡ true → now.lasts node ≡ at_first.lasts node
  pub others : (node : ℕ) → reserves_for one node ≡ false → now.lasts node ≡ at_last.lasts node

-- So it is where a commit gives back.
abbrev pub ReturnsRestore : Type 0
ReturnsRestore = (layout : Layout) (before moment : ℕ) (log : List (Event Label)) (one : Reserving) → (back : GivesBackIn log one)
    → MayFrom layout before log (first_past moment)
    → NodesAreBack (past_from layout back.front (first_past moment))
    (past_from layout (back.front ++ told_reserving one ∷ back.middle) (first_past moment)) (past_from layout log (first_past moment)) one

-- Numbers and nodes are as they were.
pub record KeepsNodes (old new : BoxPast) : Type 0 where
  pub commits : new.commits ≡ old.commits
  pub lasts : new.lasts ≡ old.lasts
  pub opens : new.opens ≡ old.opens
  pub done : new.done ≡ old.done

-- A turn that is noted leaves them so: a shortage, a stop, a failure.
abbrev pub NotedTurnsKeepNodes : Type 0
NotedTurnsKeepNodes = (layout : Layout) (core : ℕ) (turn : Turn) (past : BoxPast) → KeepsNodes past (after_label layout core (label.Noted turn) past)

-- A commit as its core made it is the one that was told: it has the number, holds the nodes, and knew of each what was seen.
pub record IsMadeAs (made : CoreCommit) (number : ℕ) (seen : List Seen) : Type 0 where
  pub number_is : made.number ≡ number
  pub holds : (node : ℕ) → made.holds node ≡ is_some (last_seen seen node)
  pub last : (node last : ℕ) → last_seen seen node ≡ Some last → made.last node ≡ last

-- so is each of a history, by number
abbrev pub AreMadeBy : (ℕ → CoreCommit) → List (Event Label) → Type 0
AreMadeBy made log = (one : Reserving) → IsOneOf log (told_reserving one) → IsMadeAs (made one.commit) one.commit one.seen.items

-- what the labels come to, as a state of the box by the commits that cores made
abbrev pub box_of : (ℕ → CoreCommit) → BoxPast → BoxState
box_of made past = record {
  done = map (λ one. made one.number) past.done;
  opens = map (λ one. made one.number) past.opens;
  number = past.commits;
}

-- The labels are a record of the box: at each reserving the commit is not moved, and numbers rise.
abbrev pub LabelsKeepTheBox : Type 0
LabelsKeepTheBox = (layout : Layout) (before moment : ℕ) (log : List (Event Label)) (made : ℕ → CoreCommit)
    → MayFrom layout before log (first_past moment) → AreMadeBy made log
    → BoxGoesOn NO_COMMIT (box_of made (past_from layout log (first_past moment)))
