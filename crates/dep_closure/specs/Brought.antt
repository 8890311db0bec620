-- Which nodes a member brings in, and how a set of members grows.
use Rattle.std.specs.Prelude.{◌≡◌, ◌⊎◌, ◌↔◌, ℕ, ◌+◌, ◌^◌, ◌<◌, ◌≤◌, ◌==◌, ◌||◌, not, true, false, List, length, Option, Some, None, option_map, map, All, if◌then◌else◌}
use Rattle.std.specs.List.{find}
use Rattle.std.specs.Ordering.{nat_cmp}
use Rattle.std.specs.BTreeSet.{BTreeSet, IsOrdered, contains}
use Rattle.sfs_base.specs.declared.numbers.NodeId.{NodeId}
use Rattle.sfs_base.specs.Listed.{is_listed}
use Rattle.tree_laws.specs.declared.changes.Change.{Change}
use Rattle.tree_laws.specs.NameRow.{node_number, number_of}
use Rattle.cut_laws.specs.Rules.{IsOneOf}
use Rattle.look_laws.specs.Look.{Noted, Look, InSight, SeesNaming}
use Rattle.dep_closure.specs.declared.gathered.Gathered.{Gathered}
use Rattle.dep_closure.specs.declared.members.Found.{Found}
use Rattle.dep_closure.specs.Gathered.{birth_node}
use Rattle.dep_closure.specs.Spans.{ended_by}

-- A gathered change brings in a node: the other directory, the directory that it ends, or one that was recorded with it.
abbrev pub ChangeBrings : Noted → ℕ → Type 0
ChangeBrings noted node = (noted.change.other ≡ Some node) ⊎ ((noted.change.ends ≡ true) × (noted.change.child ≡ node)) ⊎ IsOneOf noted.above node

-- The same of a logged change, by the changes of its directory that stand behind it.
abbrev pub LoggedBrings : Change → List Change → ℕ → Type 0
LoggedBrings change later node = (number_of change.other ≡ Some node) ⊎ (number_of (ended_by later change) ≡ Some node) ⊎ IsOneOf change.above node

-- Some changes are of one directory.
abbrev pub AreOfOneDirectory : List Change → Type 0
AreOfOneDirectory changes = All (λ change. All (λ other. other.dir.0 ≡ change.dir.0) changes) changes

-- A change in a member's span brings in a node.
pub record SpanBrings (look : Look) (member node : ℕ) : Type 0 where
  pub noted : Noted
  pub in_sight : InSight look noted
  pub own : noted.change.directory ≡ member
  pub brings : ChangeBrings noted node

-- A member that was made, has no inode, and has a naming that is not flushed, brings in the directory in which it was made.
pub record BirthBrings (look : Look) (member node : ℕ) : Type 0 where
  pub born : IsOneOf look.born (record { node = member; directory = node })
  pub no_inode : look.inodes member ≡ false
  pub naming : SeesNaming look look.cut member

-- A member brings in a node, by its span or its birth.
abbrev pub MemberBrings : Look → ℕ → ℕ → Type 0
MemberBrings look member node = SpanBrings look member node ⊎ BirthBrings look member node

-- the directory in which a node was made, where the node has no inode and is one of those that are named
abbrev pub birthplace_due : Gathered → BTreeSet ℕ → ℕ → Option NodeId
birthplace_due gathered named node =
    if is_listed (map node_number gathered.inodes.items) node || not (contains nat_cmp named node) then None else
    option_map (λ birth. birth.dir) (find (λ birth. birth_node birth == node) gathered.births.items)

-- A set grows by some numbers: these come, and no others do.
abbrev pub AddsTo : BTreeSet ℕ → BTreeSet ℕ → (ℕ → Type 0) → Type 0
AddsTo old new Comes = (number : ℕ) → IsOneOf new.keys number ↔ (IsOneOf old.keys number ⊎ Comes number)

-- The members grow by some nodes, and those that are new are due.
pub record GrowsBy (old new : Found) (Comes : ℕ → Type 0) : Type 0 where
  pub members : AddsTo old.members new.members Comes
  pub due_kept : (node : ℕ) → IsOneOf old.due.items node → IsOneOf new.due.items node
  pub due : (node : ℕ) → IsOneOf new.members.keys node → IsOneOf old.members.keys node ⊎ IsOneOf new.due.items node
  pub due_only : (node : ℕ) → IsOneOf new.due.items node → IsOneOf old.due.items node ⊎ IsOneOf new.members.keys node
  pub counted : length new.due.items + length old.members.keys ≡ length old.due.items + length new.members.keys
  pub longer : length old.members.keys ≤ length new.members.keys
  pub ordered : IsOrdered nat_cmp old.members → IsOrdered nat_cmp new.members
  pub small : All (λ number. number < 2 ^ 32) old.members.keys → All (λ number. number < 2 ^ 32) new.members.keys
