use Rattle.std.proofs.Common.{rules, ◌<◌, length}
use Rattle.driven_journals.proofs.Cores.{driven_put}
use Rattle.driven_journals.proofs.driven.Driven.commit_empty.Goals as goal

pub returns : goal.returns
returns g c =
    let low : c.args.core < length c.args.self.now.seats.items = search rules in
    record {
      driven = driven_put c.args.self.now c.args.core c.index_mut.result.now c.empty_at.new.seat low c.index_mut.ensures.value c.requires.driven
          c.empty_at.ensures.goes c.empty_at.ensures.fits;
    }
