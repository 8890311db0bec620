use Rattle.std.proofs.Common.{◌∙◌, Err, Ok, subst, sym}
use Rattle.space_map.specs.Space.{GrantedNumbers}
use Rattle.slot_laws.specs.Labels.{fsync_told}
use Rattle.journal_set.proofs.Nothing.{grant_of_nothing}
use Rattle.journal_set.specs.Emptying.{NOTHING}
use Rattle.fsync_commit.specs.Asked.{CommitRequest}
use Rattle.fsync_commit.specs.Coming.{numbered, unnumbered}
use Rattle.fsync_commit.specs.Granting.{IsBuiltOf}
use Rattle.fsync_commit.proofs.Came.{back, numbers, unnumbers}
use Rattle.fsync_commit.proofs.building.commit_settled.Goals as goal

pub returns-in-Ok-clause-comes : goal.returns-in-Ok-clause-comes
returns-in-Ok-clause-comes g c = λ change nothing of.
    let asked : CommitRequest = record { flush = fsync_told c.args.fsync.node c.args.fsync.stamp; seen = c.args.seen.now; change = change } in
    let none = grant_of_nothing c.in-Ok.grant c.in-Ok.ensures.comes.reserved.inodes c.in-Ok.ensures.comes.reserved.blocks in
    numbered c.reserve.new.pen c.in-Ok.grant
    (numbers asked c.args.pen.now c.reserve.new.pen NOTHING (sym nothing) c.in-Ok.grant c.in-Ok.ensures.goes c.in-Ok.ensures.comes c.in-Ok.ensures.tells)
    (c.commit_built.ensures.comes change (subst (λ (grant : GrantedNumbers). IsBuiltOf change grant c.args.built) (sym none) of))

pub returns-in-Err-clause-comes : goal.returns-in-Err-clause-comes
returns-in-Err-clause-comes g c = λ change nothing of.
    let asked : CommitRequest = record { flush = fsync_told c.args.fsync.node c.args.fsync.stamp; seen = c.args.seen.now; change = change } in
    unnumbered c.in-Err.fault
    (unnumbers asked c.args.pen.now c.reserve.new.pen NOTHING (sym nothing) c.in-Err.fault c.in-Err.ensures.comes c.in-Err.ensures.tells)
    (back change c.in-Err.fault c.refusal.result c.into_old.result c.refusal.ensures (c.into_old.ensures ∙ of.old))
