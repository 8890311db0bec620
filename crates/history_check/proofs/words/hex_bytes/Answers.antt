use Rattle.std.proofs.Common.{arith}
use Rattle.hex.proofs.HexLemmas.{decode_of-ok}
use Rattle.history_check.proofs.words.hex_bytes.Goals as goal

pub chunk-requires-in-Ok : goal.chunk-requires-in-Ok
chunk-requires-in-Ok c =
    let twice = decode_of-ok c.args.word.now c.in-Ok.bytes.items c.in-Ok.ensures.ok in
    omega (arith, twice.2)
