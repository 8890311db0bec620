use Rattle.journal_set.specs.declared.flying.Flight.{Flight}
use Rattle.journal_set.specs.declared.flying.TheConstants.{PATIENCE}
use Rattle.journal_set.proofs.Unbegun.{begins_flight}
use Rattle.journal_set.proofs.waiting.begin_in.Goals as goal

pub returns-clause-begins : goal.returns-clause-begins
returns-clause-begins g c =
    let flight : Flight =
    record { slot = c.args.k; commit = c.args.number; fsync = c.args.writing.fsync; told = Rattle.std.proofs.Common.false; patience = PATIENCE }
    in
    begins_flight c.args.table.now c.args.pen.now c.begin_one.new.pen c.requires.work.holds flight c.requires.number c.begin_one.ensures.begins

pub returns-clause-tells : goal.returns-clause-tells
returns-clause-tells g c = c.begin_one.ensures.tells
