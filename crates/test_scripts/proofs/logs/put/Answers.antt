use Rattle.std.proofs.Common.{◌≡◌, ◌≤◌, ◌∷◌, [], ◌++◌, List, ap, sym, subst, ◌∙◌}
use Rattle.std.specs.Prelude.{All}
use Rattle.std.proofs.lemmas.List.Elements.{All-cons, All-nil}
use Rattle.sfs_base.specs.Lists.{Roomy}
use Rattle.tree_laws.specs.declared.changes.Change.{Change}
use Rattle.mem_cells.specs.Log.{log_place}
use Rattle.mem_cells.specs.Part.{changes_kept, StandBehind}
use Rattle.test_scripts.proofs.logs.put.Goals as goal

pub add-requires-clause-behind : goal.add-requires-clause-behind
add-requires-clause-behind g c =
    let one = c.args.one in
    let kept = changes_kept c.reserve.new.self in
    let alone : c.push.new.self.items ≡ one ∷ [] =
    c.push.ensures.items
    ∙ ap (λ (l : List Change). l ++ one ∷ []) (c.reserve-2.ensures.items ∙ ap (λ (l : Roomy Change). l.items) c.new-entry.ensures) in
    subst (λ (entry : List Change). StandBehind entry kept) (sym alone)
    (All-cons (λ (change : Change). All (λ other. log_place other ≤ log_place change) (kept change.dir.0)) one []
    (subst (All (λ other. log_place other ≤ log_place one)) (sym (c.reserve.ensures.same.logs.changes one.dir.0)) c.requires.last)
    (All-nil (λ (change : Change). All (λ other. log_place other ≤ log_place change) (kept change.dir.0))))
