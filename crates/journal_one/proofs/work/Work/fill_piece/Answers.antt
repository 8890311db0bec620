use Rattle.std.proofs.Common.{◌<◌, arith, length, ap}
use Rattle.std.proofs.lemmas.List.{length-map}
use Rattle.sfs_image.specs.ImageOf.{FreshBlock}
use Rattle.journal_one.specs.Packed.{block_of}
use Rattle.journal_one.specs.Work.{job_of}
use Rattle.journal_one.proofs.Packing.{block_at}
use Rattle.journal_one.proofs.Places.{in_data}
use Rattle.journal_one.proofs.work.Work.fill_piece.Goals as goal

pub returns-then-number-fresh-clause-within : goal.returns-then-number-fresh-clause-within
returns-then-number-fresh-clause-within c =
    let w = c.args.self.now in
    let lt : c.args.number < length w.packed.fresh = omega (arith, length-map c.fresh-fresh.result.now block_of, ap length c.fresh-fresh.ensures) in
    let same = block_at c.fresh-fresh.result.now w.packed.fresh c.args.number c.fresh-fresh.ensures lt in
    omega (arith, (in_data (job_of w) w.sound c.args.number lt).high, ap (λ (b : FreshBlock). b.block) same)
