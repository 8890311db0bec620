use Rattle.slot_image_laws.proofs.Running.{told_labels_fit as law}
use Rattle.slot_image_laws.proofs.laws.told_labels_fit.Goals as goal

pub returns : goal.returns
returns g c = law (g.D.Disk.view c.args.disk.now)
