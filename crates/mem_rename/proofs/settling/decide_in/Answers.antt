use Rattle.std.proofs.Common.{◌≡◌, List, map, sym, ap, ◌∙◌}
use Rattle.sfs_base.specs.declared.numbers.NodeId.{NodeId}
use Rattle.tree_laws.specs.NameRow.{node_number}
use Rattle.mem_rename.specs.Decisions.{decision_by, reads_of, verdict_of}
use Rattle.mem_rename.specs.Ready.{sight_of}
use Rattle.mem_rename.specs.Rounds.{sight_settled}
use Rattle.mem_rename.proofs.Decided.{decided}
use Rattle.mem_rename.proofs.settling.decide_in.Goals as goal

pub returns : goal.returns
returns c =
    let reads : c.reads_in-reads.result ≡ reads_of (sight_settled c.args.nodes c.args.core.now.held c.args.move_.now c.args.settled.now) c.args.move_.now =
    c.reads_in-reads.ensures
    ∙ ap (λ (l : List NodeId). reads_of (sight_of c.args.nodes c.args.core.now.held c.args.move_.now c.args.settled.now.plan (map node_number l)) c.args.move_.now)
    c.deref.ensures.value in
    sym (decided (sight_settled c.args.nodes c.args.core.now.held c.args.move_.now c.args.settled.now) c.args.move_.now)
    ∙ ap (verdict_of c.args.move_.now)
    ((λ i. decision_by (sym c.requires.look i) (sym reads i) c.args.move_.now) ∙ sym c.decide.ensures)
