use Rattle.space_map.proofs.Others.{others_stay_granted}
use Rattle.test_formats.proofs.space.grant_beside.Goals as goal

pub returns-clause-blocks : goal.returns-clause-blocks
returns-clause-blocks g c =
    others_stay_granted c.args.map.now.blocks c.reserve.new.self.blocks c.give_back.new.self.blocks 1 c.in-Ok.grant.blocks c.args.kept.now.blocks
    c.in-Ok.ensures.blocks c.give_back.ensures.blocks

pub returns-clause-inodes : goal.returns-clause-inodes
returns-clause-inodes g c =
    others_stay_granted c.args.map.now.inodes c.reserve.new.self.inodes c.give_back.new.self.inodes 1 c.in-Ok.grant.inodes c.args.kept.now.inodes
    c.in-Ok.ensures.inodes c.give_back.ensures.inodes
