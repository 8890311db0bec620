use Rattle.journal_one.proofs.Kept.{IsLawful}
use Rattle.end_laws.proofs.Begins.{mounts_begin_labels as law}
use Rattle.end_laws.proofs.laws.mounts_begin_labels.Goals as goal

pub returns : goal.returns
returns g c =
    let laws = g.met.D.Disk g.world.𝓛 g.world.𝓜 g.world.𝓡 ((λ s x. x), (λ x. x), (λ x. x), λ x. x) in
    let old = g.D.Disk.view c.args.disk.now in
    let new = g.D.Disk.view c.args.later.now in
    let lawful : IsLawful old = record { whole = laws.whole c.args.disk.now; read_is_left = laws.read_is_left c.args.disk.now } in
    let lawful_later : IsLawful new = record { whole = laws.whole c.args.later.now; read_is_left = laws.read_is_left c.args.later.now } in
    law old new lawful lawful_later
