-- A function that serves fsyncs.
use Rattle.std.specs.Prelude.{◌<◌, ◌≤◌}
use denote.Ref.{MutBor}
use denote.Param.Members.{Shared}
use Rattle.sfs_base.specs.declared.numbers.NodeId.{NodeId}
use Rattle.tree_laws.specs.declared.call.Call.TheVariants as call
use Rattle.tree_laws.specs.declared.reply.Reply.{Reply}
use Rattle.stamp_table.specs.Table.{IsBetweenCalls, IsSameCore}
use Rattle.mem_values.specs.Start.{FileHand, FileState}
use Rattle.fsync_stamp.specs.Adding.{AddsCall}

module _ {P : Type 0} (t : FileState) (agrees : FileHand → P → Type 0) where
  -- A core and its pen of which an fsync may be served.
  pub record MayServe (core : FileHand) (pen : P) : Type 0 where
    pub between : IsBetweenCalls t core
    pub spare : 0 < core.spare
    pub room : 3 ≤ core.room
    pub agree : agrees core pen

  -- A core has made an fsync, and agrees with its pen.
  pub record HasServed (node : NodeId) (reply : Reply) (before after : FileHand) (pen : P) : Type 0 where
    pub adds : AddsCall (call.Fsync node) reply before after
    pub between : IsBetweenCalls t after
    pub same : IsSameCore before after
    pub agree : agrees after pen

-- a function serves the fsyncs of a table's cores: it may be called with each core and pen of which one may be served, and serves it
abbrev pub Serves : {P F : Type 0} → Shared F (MutBor FileHand × (MutBor P × (NodeId × Unit {0}))) (Reply × (MutBor FileHand × (MutBor P × Unit {0})))
    → F → FileState → (FileHand → P → Type 0) → Type 0
Serves {P} g serve t agrees = (core : MutBor FileHand) (pen : MutBor P) (node : NodeId) → MayServe t agrees core.now pen.now
    → g.pre serve (core, (pen, (node, tt)))
    × ((reply : Reply) (core_after : MutBor FileHand) (pen_after : MutBor P) → g.post serve (core, (pen, (node, tt))) (reply, (core_after, (pen_after, tt)))
    → HasServed t agrees node reply core.now core_after.now pen_after.now)
