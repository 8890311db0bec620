use Rattle.std.proofs.Common.{◌<◌, length, ap, sym, subst, ◌∙◌}
use Rattle.std.proofs.lemmas.List.{get_or_read}
use Rattle.mem_cells.specs.Part.{CoreLog, changes_kept, StandBehind}
use Rattle.core_logs.specs.Logs.{Logs, blank_part, part_of}
use Rattle.core_logs.proofs.logs.CoreLogs.add.Goals as goal

pub add-requires-clause-behind : goal.add-requires-clause-behind
add-requires-clause-behind c =
    let core = c.args.core.0 in
    let within = subst (λ (logs : Logs). core < length logs.parts) (sym c.self.view_is) c.requires.core in
    let read = get_or_read c.self.inside.parts.items core c.index_mut-part.result.now within c.index_mut-part.ensures.value blank_part in
    subst (λ (part : CoreLog). StandBehind c.args.changes.items (changes_kept part)) (ap (λ (logs : Logs). part_of logs core) (sym c.self.view_is) ∙ sym read)
    c.requires.may.behind
