use Rattle.std.proofs.Common.{◌++◌, ◌∷◌, [], ◌∙◌, sym, ap, subst, take, length, ◌<◌, arith}
use Rattle.std.proofs.lemmas.List.{take_more}
use Rattle.std.specs.FinMap.Entries.{put}
use Rattle.tree_laws.specs.Order.{name_cmp}
use Rattle.absorb.specs.Last.{lent, AreLast}
use Rattle.absorb.proofs.LastChanges.{lent-inserted, AreLast-push}
use Rattle.absorb.proofs.last.last_changes.Goals as goal

pub loop-change-preserved : goal.loop-change-preserved
loop-change-preserved c =
    let change = c.change-item.result in
    let within : c.loop-change.change-index < length c.args.changes.now = omega arith in
    let before = take c.loop-change.change-index c.args.changes.now in
    let entries =
    ap lent c.in_ok-insert.ensures.entries
    ∙ lent-inserted c.loop-change.last.entries c.bytes.result _
    ∙ ap (λ name. put name_cmp name change (lent c.loop-change.last.entries)) c.bytes.ensures.bytes in
    let changes =
    take_more c.args.changes.now c.loop-change.change-index change within
    ∙ ap (λ one. before ++ one ∷ []) (sym c.change-item.is) in
    subst (λ cs. AreLast cs (lent c.insert.new.self.entries)) (sym changes)
    (subst (AreLast (before ++ change ∷ [])) (sym entries) (AreLast-push before (lent c.loop-change.last.entries) change c.loop-change.invariant))
