use Rattle.std.proofs.Common.{◌≡◌, ◌++◌, List, ℕ, ◌≤◌, length, map, drop, sym, ap, ◌∙◌, arith}
use Rattle.std.proofs.lemmas.List.{take_rest, drop_all, append_assoc, append-nil}
use Rattle.tree_laws.specs.declared.name_map.NameRow.{NameRow}
use Rattle.tree_laws.specs.NameRow.{name_and_child, both_lists}
use Rattle.tree_laws.proofs.Merged.{both_lists-none}
use Rattle.tree_laws.proofs.name_map.merged.Goals as goal
use Rattle.tree_laws.proofs.name_map.merged.Goals.{then-loop-place-test+else-other-others, else-loop-place-test}

-- where one of two lists is at its end, what is left is the one behind the other
left : (rows others : List NameRow) (place other : ℕ) → (length rows ≤ place)
    → map name_and_child (drop place rows) ++ map name_and_child (drop other others)
    ≡ both_lists (map name_and_child (drop place rows)) (map name_and_child (drop other others))
left rows others place other le =
    ap (λ l. map name_and_child l ++ map name_and_child (drop other others)) (drop_all place rows le)
    ∙ sym (ap (λ l. both_lists (map name_and_child l) (map name_and_child (drop other others))) (drop_all place rows le))

left_first : (rows others : List NameRow) (place other : ℕ) → (length others ≤ other)
    → map name_and_child (drop place rows) ++ map name_and_child (drop other others)
    ≡ both_lists (map name_and_child (drop place rows)) (map name_and_child (drop other others))
left_first rows others place other le =
    ap (λ l. map name_and_child (drop place rows) ++ map name_and_child l) (drop_all other others le)
    ∙ append-nil (map name_and_child (drop place rows))
    ∙ sym (both_lists-none (map name_and_child (drop place rows)))
    ∙ sym (ap (λ l. both_lists (map name_and_child (drop place rows)) (map name_and_child l)) (drop_all other others le))

pub returns : goal.returns
returns c =
    let rest : map name_and_child (drop c.loop-place.place c.args.rows.now) ++ map name_and_child (drop c.loop-place.other c.args.others.now)
    ≡ both_lists (map name_and_child (drop c.loop-place.place c.args.rows.now)) (map name_and_child (drop c.loop-place.other c.args.others.now)) =
    elim c.loop-place-test.branch [
      | then-loop-place-test+else-other-others w ↦
          left_first c.args.rows.now c.args.others.now c.loop-place.place c.loop-place.other (omega (arith, w.if-other-others.false))
      | else-loop-place-test w ↦ left c.args.rows.now c.args.others.now c.loop-place.place c.loop-place.other (omega (arith, w.loop-place-test.false))
    ] in
    c.in_ok-push_copies-2.ensures
    ∙ ap (λ l. map name_and_child c.push_copies.new.into.items ++ map name_and_child l) (take_rest c.args.others.now c.loop-place.other)
    ∙ ap (λ l. l ++ map name_and_child (drop c.loop-place.other c.args.others.now))
    (c.in_ok-push_copies.ensures
    ∙ ap (λ l. map name_and_child c.loop-place.both.items ++ map name_and_child l) (take_rest c.args.rows.now c.loop-place.place))
    ∙ append_assoc (map name_and_child c.loop-place.both.items) _ _
    ∙ ap (λ l. map name_and_child c.loop-place.both.items ++ l) rest
    ∙ c.loop-place.invariant.both
