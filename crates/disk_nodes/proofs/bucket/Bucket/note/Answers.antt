use Rattle.std.proofs.Common.{arith}
use Rattle.disk_nodes.proofs.Telling.{note_told, note_keeps}
use Rattle.disk_nodes.proofs.bucket.Bucket.note.Goals as goal

pub returns-then-free-lt-NOTES-clause-told : goal.returns-then-free-lt-NOTES-clause-told
returns-then-free-lt-NOTES-clause-told c =
    note_told c.args.self.now c.place_of-free.result c.args.place (c.place_of-free.ensures c.if-free-lt-NOTES.true) (omega (arith, c.if-free-lt-NOTES.true))

pub returns-then-free-lt-NOTES-clause-others : goal.returns-then-free-lt-NOTES-clause-others
returns-then-free-lt-NOTES-clause-others c =
    note_keeps c.args.self.now c.place_of-free.result c.args.place (c.place_of-free.ensures c.if-free-lt-NOTES.true)
