use Rattle.std.proofs.Common.{arith}
use Rattle.hex.proofs.HexLemmas.{decode_of-ok}
use Rattle.script.proofs.reading.literals.hex_bytes.Goals as goal

pub chunk_of-requires-in-Ok : goal.chunk_of-requires-in-Ok
chunk_of-requires-in-Ok c =
    let twice = decode_of-ok c.args.word.now c.in-Ok.bytes.items c.in-Ok.ensures.ok in
    omega (arith, twice.2)
