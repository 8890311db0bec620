use Rattle.std.proofs.Common.{arith, length, ap}
use Rattle.sfs_image.specs.Journal.{Entry}
use Rattle.journal_one.specs.Work.{job_of}
use Rattle.journal_one.proofs.Packing.{record_at}
use Rattle.journal_one.proofs.Places.{table_within}
use Rattle.journal_one.proofs.work.Work.table_piece.Goals as goal

pub returns-clause-within : goal.returns-clause-within
returns-clause-within c =
    let w = c.args.self.now in
    let same = record_at c.entries.result.now w.packed.entries c.args.number c.entries.ensures c.requires in
    let within = table_within (job_of w) w.sound c.args.number c.requires in
    omega (arith, within, c.table_at.ensures, ap (λ (e : Entry). e.inode) same, ap (λ (e : Entry). length e.bytes) same)
