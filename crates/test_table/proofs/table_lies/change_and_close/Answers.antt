use Rattle.std.proofs.Common.{rules, ◌≡◌, ◌∷◌, [], sym, subst}
use Rattle.stamp_table.specs.Table.{AreAllCores}
use Rattle.test_table.proofs.Mirroring.{one_again}
use Rattle.test_table.proofs.table_lies.change_and_close.Goals as goal

pub close-values-requires : goal.close-values-requires
close-values-requires g c =
    let one : c.push_reserved.new.self.items ≡ c.change_two.new.core ∷ [] = search rules in
    subst (AreAllCores c.args.shared) (sym one)
    (one_again c.args.shared _ c.change_two.new.core c.change_two.ensures.same c.change_two.ensures.between.holds_none c.requires.all)
