use Rattle.std.proofs.Common.{sym, ap, subst, ◌∙◌, nat_eq}
use Rattle.std.specs.List.{find}
use Rattle.mem_cells.specs.Log.{IsInOrder}
use Rattle.cut_laws.proofs.RunFacts.{found_in}
use Rattle.dep_closure.specs.Gathered.{IsOwnLog, log_directory}
use Rattle.dep_closure.proofs.Looked.{one_of_all}
use Rattle.dep_closure.proofs.gathered.Gathered.span.Goals as goal

pub span-requires : goal.span-requires
span-requires c =
    let logs = c.args.self.now.logs.items in
    let found = ap (find (λ one. nat_eq (log_directory one) c.args.node.0)) (sym c.as_slice.ensures) ∙ sym c.in-Some.ensures in
    let there = found_in (λ one. nat_eq (log_directory one) c.args.node.0) logs c.in-Some.log.now found in
    subst IsInOrder (sym c.as_slice-in-Some.ensures) (one_of_all IsOwnLog logs c.in-Some.log.now c.requires.own_logs there.0).in_order
