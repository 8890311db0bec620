use Rattle.std.proofs.Common.{◌≡◌, Some, subst}
use Rattle.std.specs.Prelude.{Option}
use Rattle.std.proofs.lemmas.Result.{on_ok_weaker}
use Rattle.sfs_base.specs.declared.numbers.NodeId.{NodeId}
use Rattle.tree_laws.specs.NameRow.{number_of}
use Rattle.dep_closure.specs.Brought.{GrowsBy, SpanBrings, BirthBrings, birthplace_due}
use Rattle.dep_closure.specs.Gathered.{look_of}
use Rattle.dep_closure.proofs.Growing.{grows_as, grows_both}
use Rattle.dep_closure.proofs.Tying.{birth_there, birth_back}
use Rattle.dep_closure.proofs.following.follow.Goals as goal

pub returns : goal.returns
returns c =
    let gathered = c.args.gathered.now in
    let named = c.args.named.now in
    let node = c.args.node.0 in
    on_ok_weaker c.add_some.result
    (λ grows start.
    let look = look_of start c.args.below gathered in
    let by_birth =
    grows_as c.follow_log.new.found c.add_some.new.self (λ other. number_of (birthplace_due gathered named node) ≡ Some other) (BirthBrings look node)
    (subst (λ (place : Option NodeId). GrowsBy c.follow_log.new.found c.add_some.new.self (λ other. number_of place ≡ Some other)) c.birthplace.ensures grows)
    (birth_there gathered c.requires.gathered start c.args.below named node (c.requires.named start node))
    (birth_back gathered c.requires.gathered start c.args.below named node (c.requires.named start node)) in
    grows_both c.args.found.now c.follow_log.new.found c.add_some.new.self (SpanBrings look node) (BirthBrings look node)
    (c.in_ok-follow_log.ensures start) by_birth)
    c.add_some.ensures
