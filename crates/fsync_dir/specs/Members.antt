-- The members of an fsync's commit.
use Rattle.std.specs.Prelude.{◌==◌, List, filter, not}
use Rattle.sfs_base.specs.declared.numbers.NodeId.{NodeId}

-- those of some nodes that are not this one
abbrev pub all_but : NodeId → List NodeId → List NodeId
all_but node members = filter (λ (member : NodeId). not (member.0 == node.0)) members
