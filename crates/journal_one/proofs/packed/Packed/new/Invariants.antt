use Rattle.std.proofs.Common.{take}
use Rattle.journal_one.proofs.Packing.{AreLookedAt, Packing}
use Rattle.journal_one.proofs.packed.Packed.new.Given as goal

abbrev pub invariant-loop-one : goal.invariant-loop-one
invariant-loop-one l = Packing (take l.one-index l.one-items) l.numbers.items l.records.items

abbrev pub invariant-loop-one-2 : goal.invariant-loop-one-2
invariant-loop-one-2 l = AreLookedAt l.one-items l.one-index
