use Rattle.std.proofs.Common.{◌∙◌, Some, ap, subst, Ok, sym}
use Rattle.slot_laws.specs.Labels.{fsync_told}
use Rattle.disk_box.specs.Pens.{PenHand}
use Rattle.journal_set.specs.Emptying.{EndsAtOnce, NOTHING}
use Rattle.journal_set.specs.Reserving.{ReserveRequest}
use Rattle.journal_set.specs.Telling.{TellsAtBox, empty_labels, TellsNothing}
use Rattle.journal_set.proofs.Nothing.{empties_refused, empty_ends, grant_of_nothing, over_calm}
use Rattle.journal_set.proofs.emptying.empty_at.Goals as goal
use Rattle.journal_set.proofs.ToldCalls.{empty_told}
use Rattle.journal_set.proofs.Told.{tells_nothing}

pub returns-in-Err-clause-comes : goal.returns-in-Err-clause-comes
returns-in-Err-clause-comes g c = empties_refused (fsync_told c.args.fsync.node c.args.fsync.stamp) c.args.seen.now c.args.pen.now c.check_first.new.pen
    c.in-Err.fault (c.in-Err.ensures.err NOTHING)

pub end_at_once-requires-clause-grant : goal.end_at_once-requires-clause-grant
end_at_once-requires-clause-grant g c κs within =
    let ok = c.in-Ok-number_commit.ensures.ok in
    ok.grant ∙ ap Some (grant_of_nothing c.in-Ok-number_commit.numbered.grant ok.reserved.inodes ok.reserved.blocks)

pub end_at_once-requires-clause-goes_on : goal.end_at_once-requires-clause-goes_on
end_at_once-requires-clause-goes_on g c κs within =
    let ok = c.in-Ok-number_commit.ensures.ok in
    over_calm c.args.table.now c.number_commit.new.pen ok.work.holds ok.work.calm

pub returns-clause-comes : goal.returns-clause-comes
returns-clause-comes g c =
    let start = c.check_first.new.pen in
    let mid = c.number_commit.new.pen in
    let ok = c.in-Ok-number_commit.ensures.ok in
    let ack = c.end_at_once.result in
    let grants = grant_of_nothing c.in-Ok-number_commit.numbered.grant ok.reserved.inodes ok.reserved.blocks in
    let asked : ReserveRequest = record { flush = fsync_told c.args.fsync.node c.args.fsync.stamp; seen = c.args.seen.now; need = NOTHING } in
    subst (λ (h : PenHand g.row.D.Denot). EndsAtOnce asked h c.end_at_once.new.pen ack) c.in-Ok.ensures.ok.0
    (empty_ends asked start c.end_at_once.new.pen ack (record {
      mid = mid;
      number = c.in-Ok-number_commit.numbered.number;
      grant = c.in-Ok-number_commit.numbered.grant;
      none = grants;
      same = c.end_at_once.ensures.commit;
      goes_in = ok.goes;
      goes_out = c.end_at_once.ensures.goes;
      own = ok.own;
      newer = ok.newer;
      was = ok.reserved;
      ends = c.end_at_once.ensures.ends;
    }))

pub returns-in-Err-clause-tells : goal.returns-in-Err-clause-tells
returns-in-Err-clause-tells g c = c.in-Err.ensures.tells

pub returns-clause-tells : goal.returns-clause-tells
returns-clause-tells g c =
    let start = c.check_first.new.pen in
    let mid = c.number_commit.new.pen in
    let ok = c.in-Ok-number_commit.ensures.ok in
    let ack = c.end_at_once.result in
    let grants = grant_of_nothing c.in-Ok-number_commit.numbered.grant ok.reserved.inodes ok.reserved.blocks in
    let asked : ReserveRequest = record { flush = fsync_told c.args.fsync.node c.args.fsync.stamp; seen = c.args.seen.now; need = NOTHING } in
    subst (λ (h : PenHand g.row.D.Denot). TellsAtBox (empty_labels h.view.core asked (Ok ack)) h c.end_at_once.new.pen) c.in-Ok.ensures.ok.0
    (empty_told asked start mid c.end_at_once.new.pen ack c.in-Ok-number_commit.numbered.number ok.reserved.told c.in-Ok-number_commit.numbered.grant
    grants c.end_at_once.ensures.commit ok.reserved.seen_is ok.goes ok.tells c.end_at_once.ensures.tells)

pub returns-in-NoMemory-clause-tells : goal.returns-in-NoMemory-clause-tells
returns-in-NoMemory-clause-tells g c =
    subst (λ (h : PenHand g.row.D.Denot). TellsAtBox TellsNothing c.args.pen.now h) (sym (c.in-Err-number_commit.ensures.err.0 ∙ c.in-Ok.ensures.ok.0))
    (tells_nothing c.args.pen.now TellsNothing tt)
