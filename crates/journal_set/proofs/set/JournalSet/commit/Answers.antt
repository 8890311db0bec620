use Rattle.std.proofs.Common.{◌≡◌, ◌<◌, ◌∙◌, ◌++◌, ℕ, Some, Err, sym, ap, subst, IfOk}
use Rattle.journal_one.specs.Packed.{Contents}
use Rattle.cut_laws.specs.Closure.{Flush}
use Rattle.slot_laws.specs.Labels.{fsync_told}
use Rattle.slot_laws.specs.Telling.{events_in}
use Rattle.disk_box.specs.declared.turns.Fsync.{Fsync}
use Rattle.disk_box.specs.Pens.{own_at}
use Rattle.journal_set.specs.Committing.{Commits}
use Rattle.journal_set.specs.Telling.{TellsReturn}
use Rattle.journal_set.specs.Counting.{MakesScheduled}
use Rattle.journal_set.proofs.Committed.{begin_commits, begun_under, ends_commits, packed_can_be_written}
use Rattle.journal_set.proofs.Turned.{core_kept, goes_twice}
use Rattle.journal_set.proofs.set.JournalSet.commit.Goals as goal
use Rattle.journal_set.proofs.ToldCommits.{only_of}
use Rattle.journal_set.proofs.ToldCalls.{unbegun_told, commit_told}
use Rattle.journal_set.proofs.Alone.{commit_counts}

pub give_back-requires-clause-grant : goal.give_back-requires-clause-grant
give_back-requires-clause-grant g c κs within = c.requires.grant ∙ ap Some (sym c.in-Err.ensures.back)

pub begin-requires-clause-grant : goal.begin-requires-clause-grant
begin-requires-clause-grant g c κs within = c.requires.grant ∙ ap Some (sym c.in-Ok.ensures.ok.grant_is)

pub begin-requires-clause-written : goal.begin-requires-clause-written
begin-requires-clause-written g c κs within =
    packed_can_be_written c.args.pen.now.table.given.layout c.args.tx c.args.grant c.args.fsync c.in-Ok.writing c.requires.written c.in-Ok.ensures.ok

pub land-requires-clause-room : goal.land-requires-clause-room
land-requires-clause-room g c κs within = subst (λ n. 0 < n) (sym c.begin.ensures.room) c.requires.room

pub land-requires-clause-under : goal.land-requires-clause-under
land-requires-clause-under g c κs within =
    begun_under c.begin.new.pen.view.core c.in-Ok-begin.flight (own_at c.args.pen.now) (own_at c.begin.new.pen) c.in-Ok-begin.ensures.comes.0
    c.requires.goes_on

pub returns-in-Ok-begin-clause-comes : goal.returns-in-Ok-begin-clause-comes
returns-in-Ok-begin-clause-comes g c =
    let begins = c.in-Ok-begin.ensures.comes in
    let fsync : c.in-Ok-begin.flight.fsync ≡ c.args.fsync = begins.1 ∙ c.in-Ok.ensures.ok.fsync_is in
    let core = core_kept c.args.pen.now c.begin.new.pen c.begin.ensures.goes in
    subst (λ (z : ℕ × Fsync). Commits z.0 (fsync_told z.1.node z.1.stamp) (own_at c.args.pen.now) (own_at c.land.new.pen) c.land.result)
    (λ i. (core i, fsync i))
    (ends_commits c.begin.new.pen.view.core c.in-Ok-begin.flight (own_at c.args.pen.now) (own_at c.begin.new.pen) begins.0 c.requires.goes_on
    (own_at c.land.new.pen) c.land.result c.land.ensures.comes)

pub returns-in-Ok-begin-clause-goes : goal.returns-in-Ok-begin-clause-goes
returns-in-Ok-begin-clause-goes g c = goes_twice c.args.pen.now c.begin.new.pen c.land.new.pen c.begin.ensures.goes c.land.ensures.goes

pub returns-in-Err-begin-clause-comes : goal.returns-in-Err-begin-clause-comes
returns-in-Err-begin-clause-comes g c =
    subst (λ (f : Fsync). Commits c.args.pen.now.view.core (fsync_told f.node f.stamp) (own_at c.args.pen.now) (own_at c.begin.new.pen)
    (Err c.in-Err-begin.fault)) c.in-Ok.ensures.ok.fsync_is
    (begin_commits c.in-Ok.writing c.args.pen.now c.begin.new.pen c.in-Err-begin.fault c.in-Err-begin.ensures.comes)

pub returns-in-Err-clause-tells : goal.returns-in-Err-clause-tells
returns-in-Err-clause-tells g c =
    let pen = c.args.pen.now in
    let flush : Flush = fsync_told c.args.fsync.node c.args.fsync.stamp in
    let told = c.give_back.ensures.tells in
    record {
      turns = told.turns;
      are = only_of (own_at pen) (λ number. TellsReturn pen.view.core number flush) told.turns told.are;
      mine_is = told.mine_is;
    }

pub returns-in-Err-begin-clause-tells : goal.returns-in-Err-begin-clause-tells
returns-in-Err-begin-clause-tells g c =
    let told = c.in-Err-begin.ensures.tells in
    unbegun_told c.args.tx c.args.grant c.args.fsync c.in-Ok.writing c.in-Ok.ensures.ok c.args.pen.now c.begin.new.pen c.in-Err-begin.fault told

pub returns-in-Ok-begin-clause-tells : goal.returns-in-Ok-begin-clause-tells
returns-in-Ok-begin-clause-tells g c =
    commit_told c.args.tx c.args.grant c.args.fsync c.in-Ok.writing c.in-Ok.ensures.ok c.args.pen.now c.begin.new.pen c.land.new.pen c.begin.ensures.goes
    c.in-Ok-begin.flight c.in-Ok-begin.ensures.comes c.land.result c.in-Ok-begin.ensures.tells c.land.ensures.tells

pub returns-in-Ok-begin-clause-counts : goal.returns-in-Ok-begin-clause-counts
returns-in-Ok-begin-clause-counts g c =
    let pen = c.args.pen.now in
    let told = c.begin.ensures.tells in
    let turns = told.are.is in
    subst (λ (p : Contents). IfOk c.land.result (λ ack. MakesScheduled p pen c.land.new.pen)) c.in-Ok.ensures.ok.packed_is
    (commit_counts c.args.self.now pen c.begin.new.pen c.land.new.pen c.requires.outside c.begin.ensures.outside c.begin.ensures.goes c.land.ensures.goes
    turns.way turns.last (told.mine_is ∙ ap (λ l. pen.view.mine ++ events_in pen.view.core l) turns.turns_are) c.in-Ok.writing.packed
    c.in-Ok-begin.flight c.in-Ok-begin.ensures.counts c.land.result c.land.ensures.counts)
