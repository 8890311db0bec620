use Rattle.stamp_table.proofs.Leaving.{looked_again}
use Rattle.stamp_table.proofs.hand.Core.look_for.Goals as goal

pub loop-preserved : goal.loop-preserved
loop-preserved g c =
    looked_again (g.M.Meaning.lawful c.args.shared.now.table.given) (g.M.Meaning.stands c.args.shared.now.table.given) c.args.self.now c.loop.self _
    c.loop.found _
    c.loop.invariant c.look-next.ensures
