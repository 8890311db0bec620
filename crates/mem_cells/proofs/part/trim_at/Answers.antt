use Rattle.std.proofs.Common.{rules, ◌≡◌, ◌+◌, length, subst}
use Rattle.mem_cells.specs.Log.{Log}
use Rattle.mem_cells.specs.Named.{IsReplaced, trimmed_log, namings_of, naming_count}
use Rattle.mem_cells.proofs.Counts.{trimmed_named, trimmed_dropped}
use Rattle.mem_cells.proofs.part.trim_at.Goals as goal

pub returns-in-Some-clause-namings : goal.returns-in-Some-clause-namings
returns-in-Some-clause-namings c =
    let logs = c.args.logs.now.entries in
    let after = (c.get_mut.follows.lender c.trim_log.new.log).entries in
    let log = c.in-Some.log.now in
    let replaced : IsReplaced logs c.args.dir.0 log (trimmed_log log c.args.below.0) after = search rules in
    trimmed_named logs after (naming_count c.args.namings.now) (naming_count c.trim_log.new.namings) c.args.dir.0 c.args.below.0 log replaced
    (λ node. subst (λ (next : Log). naming_count c.trim_log.new.namings node + namings_of log.changes node
    ≡ naming_count c.args.namings.now node + namings_of next.changes node) c.trim_log.ensures.log (c.trim_log.ensures.namings node))
    c.requires.namings

pub returns-in-Some-clause-dropped : goal.returns-in-Some-clause-dropped
returns-in-Some-clause-dropped c =
    let logs = c.args.logs.now.entries in
    let after = (c.get_mut.follows.lender c.trim_log.new.log).entries in
    let log = c.in-Some.log.now in
    let replaced : IsReplaced logs c.args.dir.0 log (trimmed_log log c.args.below.0) after = search rules in
    trimmed_dropped logs after c.args.dir.0 c.args.below.0 c.trim_log.result log replaced
    (subst (λ (next : Log). c.trim_log.result + length next.changes ≡ length log.changes) c.trim_log.ensures.log c.trim_log.ensures.dropped)
