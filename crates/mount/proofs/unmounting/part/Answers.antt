use Rattle.std.proofs.Common.{arith, ◌≡◌, ◌++◌, ◌∙◌, [], length, map, sym, ap}
use Rattle.std.proofs.lemmas.Grind.{common_steps}
use Rattle.std.proofs.lemmas.List.{append-nil}
use Rattle.mount.specs.Workers.{core_of, pen_of}
use Rattle.mount.proofs.unmounting.part.Goals as goal

pub loop-worker-init : goal.loop-worker-init
loop-worker-init g c =
    let items = c.into_iter-worker-iterator.ensures.into_iter_gives.0 in
    let long = ap length items in
    record {
      for_cores = let none = ap length c.requires.no_cores in let room = c.requires.for_cores in omega (arith, none, long, room);
      for_pens = let none = ap length c.requires.no_pens in let room = c.requires.for_pens in omega (arith, none, long, room);
      cores = λ i. c.requires.no_cores i ++ map core_of (items i);
      pens = λ i. c.requires.no_pens i ++ map pen_of (items i);
    }

pub returns-clause-cores : goal.returns-clause-cores
returns-clause-cores g c =
    let none : c.loop-worker.worker-iterator.rest.items ≡ [] = grind (arith, common_steps) in
    sym (append-nil c.loop-worker.room.cores.items) ∙ ((λ i. c.loop-worker.room.cores.items ++ map core_of (sym none i)) ∙ c.loop-worker.invariant.cores)

pub returns-clause-pens : goal.returns-clause-pens
returns-clause-pens g c =
    let none : c.loop-worker.worker-iterator.rest.items ≡ [] = grind (arith, common_steps) in
    sym (append-nil c.loop-worker.room.pens.items) ∙ ((λ i. c.loop-worker.room.pens.items ++ map pen_of (sym none i)) ∙ c.loop-worker.invariant.pens)
