use Rattle.std.proofs.Common.{◌≡◌, ◌<◌, take}
use Rattle.disk_nodes.specs.Names.{hash_of}
use Rattle.disk_nodes.proofs.names.hash_of.Given as goal

abbrev pub invariant-loop-byte : goal.invariant-loop-byte
invariant-loop-byte l = record {
  is : l.hash ≡ hash_of (take l.byte-index l.name);
  low : l.hash < 4294967291;
}
