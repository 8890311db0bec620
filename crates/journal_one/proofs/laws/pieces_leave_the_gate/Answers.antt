use Rattle.journal_one.proofs.Apart.{apart_from_gate as law}
use Rattle.journal_one.proofs.laws.pieces_leave_the_gate.Goals as goal

pub returns : goal.returns
returns c job k byte is = law job is k byte
