use Rattle.std.proofs.Common.{sym, arith}
use Rattle.mem_calls.proofs.Shown.{bucket_shows, file_shows}
use Rattle.mem_calls.proofs.Faults.{same_count, fault_beyond, fault_standing, fault_fallen, fault_linked}
use Rattle.mem_calls.proofs.held.directory_fault_in.Goals as goal

pub returns-then-node-nodes-clause-fault : goal.returns-then-node-nodes-clause-fault
returns-then-node-nodes-clause-fault c = λ tree meets.
    let same = same_count c.args.core.now tree meets in
    let counted = c.requires.counted in
    let beyond = c.if-node-nodes.true in
    sym (fault_beyond tree meets.sound c.args.node.0 (omega (arith, same, counted, beyond)))

pub returns-then-is_standing-clause-fault : goal.returns-then-is_standing-clause-fault
returns-then-is_standing-clause-fault c = λ tree meets.
    let within = c.if-node-nodes.false in
    let shows =
    bucket_shows c.args.core.now c.args.nodes c.requires.counted tree meets c.args.node c.args.number c.bucket_in.result.now within c.requires.number
    c.bucket_in.ensures in
    sym (fault_standing tree meets.sound c.args.node c.args.number c.bucket_in.result.now shows (sym c.if-is_standing.ensures))

pub returns-then-file_in-gt0-clause-fault : goal.returns-then-file_in-gt0-clause-fault
returns-then-file_in-gt0-clause-fault c = λ tree meets.
    let within = c.if-node-nodes.false in
    let file = file_shows c.args.core.now c.args.nodes c.requires.counted tree meets c.args.node c.file_in.result.now within c.file_in.ensures in
    let links = file.0 in
    let some = c.if-file_in-gt0.true in
    sym (fault_linked tree meets.sound c.args.node.0 (omega (arith, links, some)))

pub returns-else-file_in-gt0-clause-fault : goal.returns-else-file_in-gt0-clause-fault
returns-else-file_in-gt0-clause-fault c = λ tree meets.
    let within = c.if-node-nodes.false in
    let shows =
    bucket_shows c.args.core.now c.args.nodes c.requires.counted tree meets c.args.node c.args.number c.bucket_in.result.now within c.requires.number
    c.bucket_in.ensures in
    let file = file_shows c.args.core.now c.args.nodes c.requires.counted tree meets c.args.node c.file_in.result.now within c.file_in.ensures in
    let links = file.0 in
    let none = c.if-file_in-gt0.false in
    sym (fault_fallen tree meets.sound c.args.node c.args.number c.bucket_in.result.now shows (sym c.if-is_standing.ensures) (omega (arith, links, none)))
