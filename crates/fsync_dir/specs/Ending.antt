-- The end of an fsync whose commit has become durable.
use Rattle.std.specs.Prelude.{◌≡◌, ◌∷◌, ◌≤◌, List, [], length, map, Some}
use Rattle.disk_nodes.specs.declared.old.OldEntry.{OldEntry}
use Rattle.sfs_base.specs.declared.numbers.NodeId.{NodeId}
use Rattle.stamp_table.specs.Events.{told_by}
use Rattle.stamp_table.specs.Table.{IsBetweenCalls, values_in}
use Rattle.mem_values.specs.Account.{commit_told}
use Rattle.mem_values.specs.Start.{FileHand, FileState, given_by}
use Rattle.mem_values.specs.declared.cell.Cell.{Cell}
use Rattle.mem_values.specs.declared.fact.Fact.{Fact}
use Rattle.mem_values.specs.declared.fact.HeldNode.{HeldNode}
use Rattle.landing_laws.specs.Written.{cut_of_value}
use Rattle.journal_set.specs.declared.fault.Ack.{Ack}
use Rattle.fsync_catch.specs.declared.looking.WaitingFsync.{WaitingFsync}
use Rattle.fsync_commit.specs.declared.landing.Landed.{Landed}
use Rattle.fsync_draft.specs.Drafting.{IsHollow}
use Rattle.fsync_values.specs.Lending.{lent_value, old_of_value}
use Rattle.fsync_values.specs.Renewing.{boxes_asked}
use Rattle.fsync_end.specs.Finishing.{Finishes}
use Rattle.fsync_end.specs.declared.finishing.Ending.{Ending}
use Rattle.landing_laws.specs.Landed.{HasBecomeDurable, LandedFsync, commitment_of, directories_of, nodes_landed}
use Rattle.fsync_dir.specs.declared.ending.PlanLeft.{PlanLeft}

-- What is left of a plan, and what its durable commit hands out, are those of an fsync that was planned and has landed; out of the values of its nodes, which
-- its core knew, what the disk has was lent, and other values stand in the cells.
pub record HasLandedHere (t : FileState) (fsync : WaitingFsync) (left : PlanLeft) (landed : Landed) (s : LandedFsync) (hand : FileHand) : Type 0 where
  pub durable : HasBecomeDurable t s
  pub given_is : s.planned.given ≡ given_by t
  pub fsync_is : s.planned.fsync ≡ fsync
  pub number_is : s.number ≡ landed.ack.commit
  pub after_is : landed.nodes.after ≡ s.after
  pub members_are : left.members.items ≡ s.planned.caught.concern.members.items
  pub directories_are : left.directories.items ≡ directories_of s.planned.file s.planned.fsync.node s.planned.caught.concern.members.items
  pub nodes_are : left.nodes.items ≡ nodes_landed s
  pub boxes : (after : List OldEntry) (nodes : List NodeId) → boxes_asked after nodes (values_in s.planned.hand.held) ≤ length left.spares.items
  pub lent : left.values.items ≡ map lent_value (values_in s.planned.hand.held)
  pub hollow : IsHollow s.planned.hand hand
  pub waiting : hand.waiting ≡ Some fsync.stamp.0

-- It has ended: the commit was told and the fsync answered, from the hand with other values on.
pub record LandsSo (t : FileState) (fsync : WaitingFsync) (s : LandedFsync) (ack : Ack) (before after : FileHand) : Type 0 where
  pub told : Fact
  pub tells : commit_told (told_by before.view.core told 0) ≡ Some (commitment_of s)
  pub ending : Ending
  pub number_is : ending.number ≡ s.number
  pub stamp_is : ending.stamp ≡ fsync.stamp
  pub members_are : ending.members.items ≡ directories_of s.planned.file s.planned.fsync.node s.planned.caught.concern.members.items
  pub ack_is : ending.ack ≡ ack.moment
  pub between : IsBetweenCalls t after
  pub finishes : Finishes (given_by t) (length t.first.made) told ending before after

-- some node, where none is named
abbrev pub NO_NODE : NodeId
NO_NODE = record { 0 = 0 }

-- what a commit tells of a node, by the value that it leaves of it
abbrev pub node_told : NodeId → Cell → HeldNode
node_told node value = record { node = node; new_cut = cut_of_value value; new = old_of_value value }

-- and of nodes, a value a node
abbrev pub nodes_told : List NodeId → List Cell → List HeldNode
nodes_told nodes [] = []
nodes_told [] (value ∷ values) = node_told NO_NODE value ∷ nodes_told [] values
nodes_told (node ∷ nodes) (value ∷ values) = node_told node value ∷ nodes_told nodes values
