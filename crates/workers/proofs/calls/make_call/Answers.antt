use Rattle.std.proofs.Common.{refl, sym, subst, rules}
use Rattle.tree_laws.specs.declared.call.Call.{Call}
use Rattle.tree_laws.specs.declared.call.Call.TheVariants as call
use Rattle.mem_calls.specs.Calls.{IsPlainCall}
use Rattle.workers.specs.Keeping.{AddsOrRefused}
use Rattle.workers.proofs.Added.{reserves, more_keeps, more_between, has_come, plain_no_fsync}
use Rattle.workers.proofs.calls.make_call.Goals as goal

pub returns-in_err-reserve-clause-agrees : goal.returns-in_err-reserve-clause-agrees
returns-in_err-reserve-clause-agrees g c =
    g.met.F.Flush.others_keep c.args.flush.now c.args.core.now c.reserve.new.self c.args.pen.now
    (more_keeps c.args.core.now c.reserve.new.self (reserves c.args.core.now c.reserve.new.self c.reserve.ensures.same)) c.requires.agrees

pub fsync-requires-clause-agrees : goal.fsync-requires-clause-agrees
fsync-requires-clause-agrees g c =
    g.met.F.Flush.others_keep c.args.flush.now c.args.core.now c.reserve.new.self c.args.pen.now
    (more_keeps c.args.core.now c.reserve.new.self (reserves c.args.core.now c.reserve.new.self c.reserve.ensures.same)) c.requires.agrees

pub returns-in-Rename-clause-made : goal.returns-in-Rename-clause-made
returns-in-Rename-clause-made g c =
    let more = reserves c.args.core.now c.reserve.new.self c.reserve.ensures.same in
    let come = has_come c.args.table.now (call.Rename c.in-Rename.directory c.in-Rename.name c.in-Rename.to_directory c.in-Rename.to_name) c.args.core.now
    c.reserve.new.self c.rename.new.core c.rename.result
    (record { more = more; between = more_between c.args.core.now c.reserve.new.self more c.args.table.now c.requires.core; no_fsync = refl })
    c.rename.ensures in
    subst (λ (asked : Call). AddsOrRefused asked c.args.core.now c.rename.new.core c.rename.result) (sym c.in-Rename.is) come.made

pub returns-in-Rename-clause-agrees : goal.returns-in-Rename-clause-agrees
returns-in-Rename-clause-agrees g c =
    let more = reserves c.args.core.now c.reserve.new.self c.reserve.ensures.same in
    let come = has_come c.args.table.now (call.Rename c.in-Rename.directory c.in-Rename.name c.in-Rename.to_directory c.in-Rename.to_name) c.args.core.now
    c.reserve.new.self c.rename.new.core c.rename.result
    (record { more = more; between = more_between c.args.core.now c.reserve.new.self more c.args.table.now c.requires.core; no_fsync = refl })
    c.rename.ensures in
    g.met.F.Flush.others_keep c.args.flush.now c.reserve.new.self c.rename.new.core c.args.pen.now come.keeps
    (g.met.F.Flush.others_keep c.args.flush.now c.args.core.now c.reserve.new.self c.args.pen.now
    (more_keeps c.args.core.now c.reserve.new.self more) c.requires.agrees)

pub returns-in_default : goal.returns-in_default
returns-in_default g c =
    let more = reserves c.args.core.now c.reserve.new.self c.reserve.ensures.same in
    let plain : IsPlainCall c.args.asked = search rules in
    let come = has_come c.args.table.now c.args.asked c.args.core.now c.reserve.new.self c.call.new.core c.call.result
    (record {
      more = more;
      between = more_between c.args.core.now c.reserve.new.self more c.args.table.now c.requires.core;
      no_fsync = plain_no_fsync c.args.asked plain;
    })
    c.call.ensures in
    record {
      made = come.made;
      between = come.between;
      same = come.same;
      agrees =
          g.met.F.Flush.others_keep c.args.flush.now c.reserve.new.self c.call.new.core c.args.pen.now come.keeps
          (g.met.F.Flush.others_keep c.args.flush.now c.args.core.now c.reserve.new.self c.args.pen.now (more_keeps c.args.core.now c.reserve.new.self more)
          c.requires.agrees);
    }
