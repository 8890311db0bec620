use Rattle.std.proofs.Common.{arith, ◌∙◌, sym, ap, subst, ℕ, length, All}
use Rattle.std.proofs.lemmas.List.{length-replicate}
use Rattle.stamp_table.specs.Table.{IsBetweenCalls, AreNew}
use Rattle.stamp_table.proofs.Beginning.{new_between}
use Rattle.bench_table.proofs.rounds.hold_all.Goals as goal

pub hold_each-requires-clause-cores : goal.hold_each-requires-clause-cores
hold_each-requires-clause-cores g c κs within =
    let made = c.in_ok-shared.ensures in
    subst (All (IsBetweenCalls c.in_ok-shared.shared)) (sym c.as_mut_slice.ensures.value)
    (new_between c.in_ok-shared.shared 0 c.in_ok-shared.hands.items made.cores.ready
    (subst (λ f. AreNew f c.in_ok-shared.hands.items) (sym made.first) made.new)
    (let n = made.count in let cores = ap (λ t. length t.made) (made.first ∙ c.in_ok-first.ensures.ok) in let r = length-replicate {A = ℕ} c.args.cores 0 in
    omega (arith, n, cores, r)))
