use Rattle.std.proofs.Common.{◌≡◌, arith, length, ap}
use Rattle.journal_one.specs.Job.{numbers_piece, records_piece}
use Rattle.journal_one.specs.Work.{job_of}
use Rattle.journal_one.proofs.Places.{within_slot, numbers_lie, records_lie, head_lies}
use Rattle.journal_one.proofs.work.Work.body_piece.Goals as goal

pub returns-in-0-clause-some : goal.returns-in-0-clause-some
returns-in-0-clause-some c =
    let w = c.args.self.now in
    let e : c.numbers.result.now ≡ (numbers_piece (job_of w)).bytes = c.numbers.ensures in
    omega (arith, (numbers_lie (job_of w) w.sound).some, ap length e)

pub returns-in-0-clause-within : goal.returns-in-0-clause-within
returns-in-0-clause-within c =
    let w = c.args.self.now in
    let e : c.numbers.result.now ≡ (numbers_piece (job_of w)).bytes = c.numbers.ensures in
    omega (arith, within_slot (job_of w) w.sound (numbers_piece (job_of w)) (numbers_lie (job_of w) w.sound), ap length e, w.spot.begins, c.number_byte.ensures)

pub returns-in-1-clause-some : goal.returns-in-1-clause-some
returns-in-1-clause-some c =
    let w = c.args.self.now in
    let e : c.records.result.now ≡ (records_piece (job_of w)).bytes = c.records.ensures in
    omega (arith, (records_lie (job_of w) w.sound).some, ap length e)

pub returns-in-1-clause-within : goal.returns-in-1-clause-within
returns-in-1-clause-within c =
    let w = c.args.self.now in
    let e : c.records.result.now ≡ (records_piece (job_of w)).bytes = c.records.ensures in
    omega (arith, within_slot (job_of w) w.sound (records_piece (job_of w)) (records_lie (job_of w) w.sound), ap length e, w.spot.begins, c.record_byte.ensures)

pub returns-in_default-clause-within : goal.returns-in_default-clause-within
returns-in_default-clause-within c =
    let w = c.args.self.now in
    omega (arith, within_slot (job_of w) w.sound _ (head_lies (job_of w) w.sound), ap length w.headed, w.spot.begins)
