-- One node fewer is to be met.
use Rattle.std.proofs.Common.{◌<◌, ◌++◌, List, length, sym, subst}
use Rattle.script.specs.TreeWalk.{Item, item_of, items_of, still_to_meet, child_items, IsBelowRoot}
use Rattle.std.specs.List.{AllByRecursion}
use Rattle.script.proofs.TreeWalkLemmas.{items_after, fewer_to_meet}
use Rattle.script.proofs.writing.tree.meet_next.Goals as goal

pub returns-clause-fewer : goal.returns-clause-fewer
returns-clause-fewer c = λ met.
    let tree = c.args.tree.now in
    let popped = items_after c.args.walk.now.unmet.items c.pop.new.self.items c.in-Some.met c.in-Some.ensures.items in
    let less =
    fewer_to_meet tree c.requires.sound (item_of c.in-Some.met) (items_of c.pop.new.self.items)
    (subst (λ (items : List Item). AllByRecursion (IsBelowRoot tree) items) popped c.requires.walk.reached).0 in
    subst (λ (items : List Item). length (still_to_meet tree items) < length (still_to_meet tree (items_of c.args.walk.now.unmet.items)))
    (sym c.in_ok-meet.ensures.children)
    (subst
    (λ (items : List Item). length (still_to_meet tree (child_items tree (item_of c.in-Some.met) ++ items_of c.pop.new.self.items))
    < length (still_to_meet tree items))
    (sym popped) less)
