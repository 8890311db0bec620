use Rattle.slot_image_laws.proofs.Calls.{device_calls_are_told as law}
use Rattle.slot_image_laws.proofs.laws.device_calls_are_told.Goals as goal

pub returns : goal.returns
returns g c = law (g.D.Disk.view c.args.old.now) (g.D.Disk.view c.args.new.now)
