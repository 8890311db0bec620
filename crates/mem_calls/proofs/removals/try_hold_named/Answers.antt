use Rattle.std.proofs.Common.{◌≡◌, ◌<◌, ◌≤◌, ◌+◌, ◌*◌, ℕ, List, [], ◌∷◌, length, sym, ◌∙◌, ap, subst, arith, refl}
use Rattle.tree_laws.proofs.Joined.{bucket_small}
use Rattle.stamp_table.specs.Ascending.{LiesAbove}
use Rattle.mem_values.specs.declared.cell_id.CellId.TheVariants as id
use Rattle.mem_calls.specs.Held.{HoldsDirectory, stands_held}
use Rattle.mem_calls.specs.Working.{Gains}
use Rattle.mem_calls.proofs.HeldKinds.{holds_file}
use Rattle.mem_calls.proofs.Named.{standing_held, named_above, named_below}
use Rattle.mem_calls.proofs.removals.try_hold_named.Goals as goal

pub returns-in_default-clause-held : goal.returns-in_default-clause-held
returns-in_default-clause-held g c = record {
  directory =
      subst (λ n. HoldsDirectory c.args.nodes c.hold_directory.new.core.held c.args.dir n) c.bucket_of-number.ensures c.hold_directory.ensures.directory;
  file = λ child names. absurd (cc (c.in_default.ensures.all child names));
  below = c.hold_directory.ensures.below;
  few = let on = c.hold_directory.ensures.on.room in let room = c.hold_directory.ensures.room in let none = ap length c.requires.none.0 in
      omega (arith, on, room, none);
}

pub hold_more-requires-clause-above : goal.hold_more-requires-clause-above
hold_more-requires-clause-above g c =
    let stands = standing_held c.args.nodes c.hold_directory.new.core.held c.args.dir c.args.name.now c.in-Some.child c.in-Some.ensures.names in
    let top = (c.hold_directory.ensures.bucket c.in-Some.ensures.names.within).top
    (subst (λ n. stands_held c.args.nodes c.hold_directory.new.core.held c.args.dir n ≡ Rattle.std.proofs.Common.true)
    (sym c.bucket_of-number.ensures) stands) in
    let above = c.if-child-dir.true in
    let number = c.bucket_of-number.ensures in
    subst (LiesAbove (24 + 9 * c.in-Some.child.0)) (sym top)
    (low c.bucket_of-number.result (subst (λ n. n < 8) (sym c.bucket_of-number.ensures) (bucket_small c.args.name.now)) above)
  where
    low : {d k : ℕ} (b : ℕ) → b < 8 → d ≤ k → 16 + 9 * d + b < 24 + 9 * k
    low b lt le = omega (arith, lt, le)

pub returns-then-child-dir-clause-held : goal.returns-then-child-dir-clause-held
returns-then-child-dir-clause-held g c =
    named_above c.args.nodes c.args.dir c.args.name.now c.hold_directory.new.core c.hold_more.new.core c.in-Some.child
    (subst (λ n. HoldsDirectory c.args.nodes c.hold_directory.new.core.held c.args.dir n) c.bucket_of-number.ensures c.hold_directory.ensures.directory)
    c.in-Some.ensures.names c.in-Some.ensures.within
    (let on = c.hold_directory.ensures.on.room in let room = c.hold_directory.ensures.room in let none = ap length c.requires.none.0 in
    omega (arith, on, room, none)) c.hold_more.ensures.gains

pub returns-then-again-child-clause-held : goal.returns-then-again-child-clause-held
returns-then-again-child-clause-held g c =
    named_below c.args.nodes c.args.dir c.args.name.now c.hold_more-2.new.core c.hold_more-3.new.core c.in-Some.child c.in-Some-file_named.again
    (holds_file c.args.nodes c.let_all_go.new.core c.hold_more-2.new.core c.in-Some.child c.hold_more-2.ensures.gains) c.in-Some.ensures.within
    (let on = c.hold_more-2.ensures.gains.on.room in let room = c.hold_more-2.ensures.gains.room in let none = ap length c.let_all_go.ensures.none in
    omega (arith, on, room, none))
    (subst (λ n. Gains c.args.nodes
    (id.Bucket c.args.dir n) c.hold_more-2.new.core c.hold_more-3.new.core) c.bucket_of-number.ensures c.hold_more-3.ensures.gains)
    c.in-Some-file_named.ensures.names c.if-again-child.true

pub file_named-requires-clause-met : goal.file_named-requires-clause-met
file_named-requires-clause-met g c = λ within. (c.hold_directory.ensures.bucket within).met
