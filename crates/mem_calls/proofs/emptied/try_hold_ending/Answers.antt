use Rattle.std.proofs.Common.{length, ap, subst, arith}
use Rattle.mem_values.specs.declared.cell_id.CellId.TheVariants as id
use Rattle.mem_calls.specs.Held.{HoldsDirectory}
use Rattle.mem_calls.specs.Working.{Gains}
use Rattle.mem_calls.proofs.Ending.{ending_above, ending_below}
use Rattle.mem_calls.proofs.emptied.try_hold_ending.Goals as goal

pub returns-in_default-clause-held : goal.returns-in_default-clause-held
returns-in_default-clause-held g c = record {
  directory =
      subst (λ n. HoldsDirectory c.args.nodes c.hold_directory.new.core.held c.args.dir n) c.bucket_of-number.ensures c.hold_directory.ensures.directory;
  child = λ child names. absurd (cc (c.in_default.ensures.all child names));
  below = c.hold_directory.ensures.below;
  few = let on = c.hold_directory.ensures.on.room in let room = c.hold_directory.ensures.room in let none = ap length c.requires.none.0 in
      omega (arith, on, room, none);
}

pub returns-then-child-dir-clause-held : goal.returns-then-child-dir-clause-held
returns-then-child-dir-clause-held g c =
    ending_above c.args.nodes c.args.dir c.args.name.now c.hold_directory.new.core c.hold_all_buckets.new.core c.in-Some.child
    (subst (λ n. HoldsDirectory c.args.nodes c.hold_directory.new.core.held c.args.dir n) c.bucket_of-number.ensures c.hold_directory.ensures.directory)
    c.in-Some.ensures.names c.in-Some.ensures.within
    c.hold_all_buckets.ensures.still c.hold_all_buckets.ensures.buckets c.hold_all_buckets.ensures.below
    (let on = c.hold_directory.ensures.on.room in let room = c.hold_directory.ensures.room in let none = ap length c.requires.none.0 in
    let more = c.hold_all_buckets.ensures.on.room in let all = c.hold_all_buckets.ensures.room in omega (arith, on, room, none, more, all))

pub returns-then-again-child-clause-held : goal.returns-then-again-child-clause-held
returns-then-again-child-clause-held g c =
    ending_below c.args.nodes c.args.dir c.args.name.now c.hold_all_buckets-2.new.core c.hold_more.new.core c.in-Some.child c.in-Some-directory_named.again
    c.hold_all_buckets-2.ensures.buckets c.in-Some.ensures.within
    (let on = c.hold_all_buckets-2.ensures.on.room in let room = c.hold_all_buckets-2.ensures.room in let none = ap length c.let_all_go.ensures.none in
    omega (arith, on, room, none))
    (subst (λ n. Gains c.args.nodes
    (id.Bucket c.args.dir n) c.hold_all_buckets-2.new.core c.hold_more.new.core) c.bucket_of-number.ensures c.hold_more.ensures.gains)
    c.in-Some-directory_named.ensures.names c.if-again-child.true

pub directory_named-requires-clause-met : goal.directory_named-requires-clause-met
directory_named-requires-clause-met g c = λ within. (c.hold_directory.ensures.bucket within).met
