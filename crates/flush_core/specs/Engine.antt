-- What the engine looks for in a past: the changes of a span, the nodes that members require, and the nodes that a change names.
use Rattle.std.specs.Prelude.{◌≡◌, ◌⊎◌, ℕ, ◌<◌, ◌≤◌, ◌↔◌, true, false, List, [], Option, Some, None, max, if◌then◌else◌}
use Rattle.std.specs.Option.{option_map_or}
use Rattle.flush_core.specs.declared.past.OwnChange.{OwnChange}
use Rattle.flush_core.specs.declared.past.BornNode.{BornNode}
use Rattle.flush_core.specs.declared.past.Past.{Past}
use Rattle.flush_core.specs.declared.sets.NodeSet.{NodeSet}
use Rattle.cut_laws.specs.Cut.{Cut, cut_of}
use Rattle.flush_core.specs.NodeSets.{has_node}
use Rattle.cut_laws.specs.Rules.{IsOneOf}

-- A change lies in the span of its directory: from its cut to below the fsync's stamp.
pub record Spans (cut : Cut) (stamp : ℕ) (change : OwnChange) : Type 0 where
  pub from : cut_of cut change.directory ≤ change.stamp
  pub below : change.stamp < stamp

-- A change names a node and does not lie below its directory's cut.
pub record NamesUnflushed (cut : Cut) (node : ℕ) (change : OwnChange) : Type 0 where
  pub child : change.child ≡ node
  pub unflushed : cut_of cut change.directory ≤ change.stamp

-- One of some changes names a node and does not lie below its directory's cut.
abbrev pub IsNaming : List OwnChange → Cut → ℕ → Type 0
IsNaming changes cut node = (change : OwnChange) × IsOneOf changes change × NamesUnflushed cut node change

-- the directories that are kept of a change as those above
abbrev pub above_of : OwnChange → List ℕ
above_of change = option_map_or (λ above. above.items) change.above []

-- A node that a change in a member's span requires, so that it has to be a member too: the other directory, one that the change ends, or one of those above.
abbrev pub RequiresNode : OwnChange → ℕ → Type 0
RequiresNode change node = (change.other ≡ Some node) ⊎ ((change.ends ≡ true) × (change.child ≡ node)) ⊎ IsOneOf (above_of change) node

-- A change requires a node for the members.
pub record RequiresNodeFor (cut : Cut) (stamp : ℕ) (members : NodeSet) (change : OwnChange) (node : ℕ) : Type 0 where
  pub member : has_node members change.directory ≡ true
  pub spans : Spans cut stamp change
  pub requires_it : RequiresNode change node

-- One of some changes requires a node for the members.
abbrev pub IsRequiredByChange : List OwnChange → Cut → ℕ → NodeSet → ℕ → Type 0
IsRequiredByChange changes cut stamp members node = (change : OwnChange) × IsOneOf changes change × RequiresNodeFor cut stamp members change node

-- A birth requires the directory in which a member was made that has no inode and a naming that is not flushed.
pub record RequiresBirthplace (changes : List OwnChange) (cut : Cut) (inodes members : NodeSet) (born : BornNode) (node : ℕ) : Type 0 where
  pub member : has_node members born.node ≡ true
  pub no_inode : has_node inodes born.node ≡ false
  pub naming : IsNaming changes cut born.node
  pub place : born.directory ≡ node

-- One of some births requires a node for the members.
abbrev pub IsRequiredByBirth : List OwnChange → List BornNode → Cut → NodeSet → NodeSet → ℕ → Type 0
IsRequiredByBirth changes births cut inodes members node = (born : BornNode) × IsOneOf births born × RequiresBirthplace changes cut inodes members born node

-- A node that the members require, by a change or by a birth.
abbrev pub IsRequired : Past → Cut → NodeSet → ℕ → NodeSet → ℕ → Type 0
IsRequired past cut inodes stamp members node =
    IsRequiredByChange past.changes.items cut stamp members node ⊎ IsRequiredByBirth past.changes.items past.births.items cut inodes members node

-- What a search for a required node that is not in a set gives.
abbrev pub Finds : (ℕ → Type 0) → NodeSet → Option ℕ → Type 0
Finds Needs set (Some node) = Needs node × (has_node set node ≡ false)
Finds Needs set None = (node : ℕ) → Needs node → has_node set node ≡ true

-- A set has the nodes of another one and more.
abbrev pub Joins : (ℕ → Type 0) → NodeSet → NodeSet → Type 0
Joins More set joined = (node : ℕ) → (has_node joined node ≡ true) ↔ ((has_node set node ≡ true) ⊎ More node)

-- A change in a member's span names a node.
pub record NamesFor (cut : Cut) (stamp : ℕ) (members : NodeSet) (change : OwnChange) (node : ℕ) : Type 0 where
  pub member : has_node members change.directory ≡ true
  pub spans : Spans cut stamp change
  pub child : change.child ≡ node

-- A cut raised at some nodes: their stamps are this one at least, and no others move.
pub record RaisesThose (cut : Cut) (nodes : List ℕ) (stamp : ℕ) (raised : Cut) : Type 0 where
  pub one : (node : ℕ) → IsOneOf nodes node → cut_of raised node ≡ max (cut_of cut node) stamp
  pub other : (node : ℕ) → IsOneOf nodes node ⊎ (cut_of raised node ≡ cut_of cut node)

-- A cut raised at the members.
abbrev pub RaisesMembers : Cut → NodeSet → ℕ → Cut → Type 0
RaisesMembers cut members stamp raised = (node : ℕ) → cut_of raised node ≡ (if has_node members node then max (cut_of cut node) stamp else cut_of cut node)
