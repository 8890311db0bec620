use Rattle.flush_core.proofs.Raised.{are_inodes}
use Rattle.flush_core.proofs.raise.commit.Goals as goal

pub returns-clause-inodes : goal.returns-clause-inodes
returns-clause-inodes c = λ history sound is.
    are_inodes c.args.first.now history c.args.past.now is c.in_ok-raised.raised c.in_ok-named.named
    (c.in_ok-named.ensures history sound is) c.args.cut.now c.args.inodes.now c.in_ok-concerned.concerned c.in_ok-inodes.inodes
    (record { node = c.args.node; stamp = c.args.stamp }) c.in_ok-list.field-0.items c.deref.result.now
    (c.in_ok-concerned.ensures c.args.first.now history c.args.inodes.now c.args.node is (c.in_ok-members.ensures c.args.first.now history is))
    c.in_ok-list.ensures c.deref.ensures.value c.in_ok-inodes.ensures.settled c.in_ok-inodes.ensures.others
