use Rattle.std.proofs.Common.{◌++◌, ◌∷◌, [], ◌∙◌, sym, ap, subst, take, List, length, ◌<◌, arith}
use Rattle.std.proofs.lemmas.List.{take_more}
use Rattle.tree_laws.specs.declared.changes.Change.{Change}
use Rattle.mem_cells.specs.Part.{CoreLog}
use Rattle.log_merge.specs.Merge.{part_changes, parts_changes, IsMergeOf}
use Rattle.log_merge.proofs.Owned.{parts_changes-push, merge-merged}
use Rattle.log_merge.proofs.merging.merge.Goals as goal

pub loop-part-preserved : goal.loop-part-preserved
loop-part-preserved c =
    let directory = c.args.dir.0 in
    let stamp = c.args.below.0 in
    let parts = c.args.parts.now in
    let index = c.loop-part.part-index in
    let part = c.part-item.result in
    let within : index < length parts = omega arith in
    let more = take_more parts index part within ∙ ap (λ (one : CoreLog). take index parts ++ one ∷ []) (sym c.part-item.is) in
    let both =
    subst (λ (own : List Change). IsMergeOf (c.loop-part.merged.items ++ own) c.in_ok-merged.merged.items) c.in_ok-own.ensures.own c.in_ok-merged.ensures in
    let merged =
    merge-merged (parts_changes directory stamp (take index parts)) c.loop-part.merged.items
    (part_changes directory stamp part) c.in_ok-merged.merged.items c.loop-part.invariant both in
    subst (λ (changes : List Change). IsMergeOf changes c.in_ok-merged.merged.items)
    (sym (ap (parts_changes directory stamp) more ∙ parts_changes-push directory stamp (take index parts) part)) merged
