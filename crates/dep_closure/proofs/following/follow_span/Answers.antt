use Rattle.std.proofs.Common.{ℕ, sym, subst, ap, ◌∙◌, ◌+◌, ◌∷◌, drop}
use Rattle.std.proofs.lemmas.List.{take_rest}
use Rattle.tree_laws.specs.declared.changes.Change.{Change}
use Rattle.mem_cells.specs.Log.{IsInOrder}
use Rattle.mem_cells.proofs.Order.{in_order-drop}
use Rattle.dep_closure.specs.Brought.{GrowsBy, ChangeBrings, LoggedBrings}
use Rattle.dep_closure.specs.Gathered.{noted_as}
use Rattle.dep_closure.proofs.Ends.{told, told_back, from_there}
use Rattle.dep_closure.proofs.Growing.{grows_more, grows_as}
use Rattle.dep_closure.proofs.following.follow_span.Goals as goal

pub follow_change-requires : goal.follow_change-requires
follow_change-requires c =
    let span = c.args.span.now in
    let at = c.loop-at.at in
    subst IsInOrder
    (from_there span at c.index-span-at.result c.loop-at-test.true c.index-span-at.is
    ∙ ap (λ l. c.index-span-at.result ∷ l) (sym (take_rest span (at + 1))))
    (in_order-drop at span c.requires.in_order)

pub loop-at-preserved : goal.loop-at-preserved
loop-at-preserved c =
    let span = c.args.span.now in
    let at = c.loop-at.at in
    let change = c.index-span-at.result in
    let later =
    subst (λ (l : _). GrowsBy c.loop-at.found c.follow_change.new.found (LoggedBrings change l)) (take_rest span (at + 1)) c.in_ok-follow_change.ensures in
    let brings : Change → ℕ → Type 0 = λ one. ChangeBrings (noted_as span one) in
    let own = grows_as c.loop-at.found c.follow_change.new.found (LoggedBrings change (drop (at + 1) span)) (brings change) later
    (told span c.requires.in_order c.requires.own at change c.loop-at-test.true c.index-span-at.is)
    (told_back span c.requires.in_order c.requires.own at change c.loop-at-test.true c.index-span-at.is) in
    grows_more brings span at change change c.args.found.now c.loop-at.found c.follow_change.new.found c.loop-at-test.true c.index-span-at.is
    c.loop-at.invariant own
