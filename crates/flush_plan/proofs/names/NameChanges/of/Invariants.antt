use Rattle.std.proofs.Common.{◌≡◌, take}
use Rattle.flush_plan.specs.Names.{named_coming, named_going}
use Rattle.flush_plan.proofs.names.NameChanges.of.Given as goal

abbrev pub invariant-loop-one : goal.invariant-loop-one
invariant-loop-one l = record {
  coming : l.coming.items ≡ named_coming (take l.one-index l.nets.items);
  going : l.going.items ≡ named_going (take l.one-index l.nets.items);
}
