use Rattle.std.proofs.Common.{◌∙◌, sym, ap, subst, ◌+◌, ◌*◌, length}
use Rattle.tree_laws.specs.Laws.{IsSoundTree}
use Rattle.tree_laws.specs.Sound.{IsWithinLimits}
use Rattle.mem_values.specs.Places.{node_count, place_count}
use Rattle.begun_tables.proofs.tables.begun.Goals as goal

pub new-requires-2-clause-table : goal.new-requires-2-clause-table
new-requires-2-clause-table c =
    let made = c.in_ok-shared.ensures in
    let tree = c.requires.tree in
    record {
      sound = subst IsSoundTree (sym made.first) (record { sound = tree.built.begins.sound; numbered = tree.numbered });
      within = subst IsWithinLimits (sym made.first) tree.built.within;
      counted = sym tree.nodes ∙ ap node_count (sym made.first);
      slots = made.slots ∙ ap (λ k. place_count (c.args.first + c.args.share * c.args.cores) k)
          (sym tree.cores_are ∙ ap (λ t. length t.made) (sym made.first));
    }

pub new-requires-2-clause-numbers : goal.new-requires-2-clause-numbers
new-requires-2-clause-numbers c =
    let made = c.in_ok-shared.ensures in
    let tree = c.requires.tree in
    record {
      first_is = sym (ap (λ t. t.first) made.first ∙ tree.first_is);
      share_is = sym (ap (λ t. t.share) made.first ∙ tree.share_is);
    }
