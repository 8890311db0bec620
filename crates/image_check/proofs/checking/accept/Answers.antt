use Rattle.image_check.proofs.FirstFaults.{never_valid, reads_on}
use Rattle.image_check.proofs.checking.accept.Goals as goal

pub returns-in_default : goal.returns-in_default
returns-in_default g c = record {
  told = λ image told.
      never_valid image c.in-Err.fault c.in_default.not-DiskFailed c.in_default.not-NoMemory (c.in-Err.ensures.bad image told) c.args.cert.now;
  reads = reads_on (g.D.Disk.view c.args.disk.now) (g.D.Disk.view c.read_image.new.disk) c.in-Err.fault c.in_default.not-DiskFailed c.in-Err.ensures.reads;
}
