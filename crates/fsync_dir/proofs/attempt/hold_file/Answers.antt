use Rattle.std.proofs.Common.{sym}
use Rattle.mem_calls.specs.Table.{nodes_of}
use Rattle.fsync_dir.proofs.Tried.{held_file}
use Rattle.fsync_dir.proofs.attempt.hold_file.Goals as goal

pub catch_alone-requires-clause-none : goal.catch_alone-requires-clause-none
catch_alone-requires-clause-none g c = (c.requires.waits.holds_none, c.requires.waits.none_held)

pub returns-in-Some-clause-alone : goal.returns-in-Some-clause-alone
returns-in-Some-clause-alone g c =
    held_file c.args.site.now.table.now (nodes_of c.args.site.now.table.now) c.args.own.now c.args.core.now c.catch_alone.new.core c.catch_alone.result
    (sym c.in-Some.ensures.variant) c.catch_alone.ensures.few c.catch_alone.ensures.caught
