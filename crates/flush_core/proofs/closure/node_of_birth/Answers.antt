use Rattle.std.proofs.Common.{◌≡◌, true, ℕ, get_or, refl}
use Rattle.flush_core.specs.Engine.{RequiresBirthplace}
use Rattle.flush_core.specs.NodeSets.{has_node}
use Rattle.flush_core.specs.declared.past.BornNode.{BornNode}
use Rattle.cut_laws.proofs.Listed.{one_at, more_hold, all_hold}
use Rattle.flush_core.proofs.closure.node_of_birth.Goals as goal

no_birth : BornNode
no_birth = record { stamp = 0; directory = 0; node = 0 }

pub returns-in-Some : goal.returns-in-Some
unfolding no_birth
returns-in-Some c = (
  (
    get_or c.args.births.now c.loop-born.born-index no_birth,
    one_at c.args.births.now c.loop-born.born-index no_birth _ c.loop-born-test.true refl,
    c.in-Some.ensures.0,
  ),
  c.in-Some.ensures.1,
)

pub loop-born-preserved : goal.loop-born-preserved
unfolding no_birth
loop-born-preserved c =
    more_hold
    (λ born. (node : ℕ) → RequiresBirthplace c.args.changes.now c.args.cut.now c.args.inodes.now c.args.members.now born node
    → has_node c.args.members.now node ≡ true)
    c.args.births.now c.loop-born.born-index no_birth
    (get_or c.args.births.now c.loop-born.born-index no_birth) c.loop-born-test.true refl c.loop-born.invariant c.in_default.ensures

pub returns : goal.returns
returns c = λ node borne.
    all_hold
    (λ born. (node : ℕ) → RequiresBirthplace c.args.changes.now c.args.cut.now c.args.inodes.now c.args.members.now born node
    → has_node c.args.members.now node ≡ true)
    c.args.births.now c.loop-born.born-index c.loop-born-test.false c.loop-born.invariant borne.0 borne.1 node borne.2
