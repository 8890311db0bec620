use Rattle.std.proofs.Common.{sym, subst}
use Rattle.sfs_image.specs.Super.{Layout}
use Rattle.fsync_commit.specs.Asked.{IsChangeOn}
use Rattle.test_commits.proofs.commits.commits_by.Goals as goal

pub commit_plan-requires-clause-change : goal.commit_plan-requires-clause-change
commit_plan-requires-clause-change g c κs within =
    subst (λ (l : Layout). IsChangeOn l c.args.change) (sym c.requires.layout) c.requires.change
