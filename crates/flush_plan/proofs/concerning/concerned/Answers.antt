use Rattle.flush_plan.proofs.Touching.{touches_there, touches_back}
use Rattle.flush_plan.proofs.concerning.concerned.Goals as goal

pub returns : goal.returns
returns c =
    let members = c.in_ok-members.members.items in
    let are = c.in_ok-members.ensures.members in
    let touched = c.in_ok-nodes.ensures in
    record {
      members = record { ascending = c.in_ok-members.ensures.ascending; each = are };
      nodes = record {
        ascending = touched.ascending;
        each = λ node. (
          λ listed. touches_there c.args.logs.now c.requires c.args.start c.args.below members are node ((touched.each node).0 listed),
          λ touches. (touched.each node).1 (touches_back c.args.logs.now c.requires c.args.start c.args.below members are node touches),
        );
      };
      nets = c.in_ok-nets.ensures.nets;
      ascend = c.in_ok-nets.ensures.ascend;
      names = c.in_ok-nets.ensures.names;
    }
