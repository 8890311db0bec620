use Rattle.std.proofs.Common.{rules, subst, sym, Option, IsSome}
use Rattle.sfs_base.specs.Name.{bucket as name_bucket}
use Rattle.tree_laws.proofs.Joined.{bucket_small}
use Rattle.mem_values.specs.Start.{given_by}
use Rattle.mem_values.specs.declared.bucket.Bucket.{Bucket}
use Rattle.mem_rename.specs.Moving.{ShowsThere}
use Rattle.mem_rename.specs.Ready.{bucket_or}
use Rattle.mem_rename.proofs.Readied.{works_kept, refused_kept, works_same, refused_same, kept_bucket}
use Rattle.mem_rename.proofs.readying.prepare.Goals as goal

pub give_up-requires : goal.give_up-requires
give_up-requires c = record {
  work = works_kept (given_by c.args.shared.now) c.args.shared.now c.args.nodes c.args.core.now c.requires.table c.requires.work c.reserve_log.new.core
      c.in-Err.ensures;
  answered = search rules;
}

pub returns-in-Err : goal.returns-in-Err
returns-in-Err c =
    refused_kept (given_by c.args.shared.now) c.args.shared.now c.args.nodes c.args.core.now c.requires.table c.requires.work c.reserve_log.new.core
    c.in-Err.ensures c.give_up.new.core c.give_up.ensures

pub add_row-requires-clause-held : goal.add_row-requires-clause-held
add_row-requires-clause-held c = subst IsSome
    (sym (kept_bucket c.args.nodes c.args.core.now c.reserve_log.new.core c.in_default.ensures.keeps c.args.move_.now.to_directory
    (name_bucket c.args.move_.now.to_name) c.requires.within.new (bucket_small c.args.move_.now.to_name))) c.requires.held

pub add_row-requires-clause-there : goal.add_row-requires-clause-there
add_row-requires-clause-there c = subst (λ (o : Option Bucket). ShowsThere c.args.move_.now.to_name c.args.shift (bucket_or o))
    (sym (kept_bucket c.args.nodes c.args.core.now c.reserve_log.new.core c.in_default.ensures.keeps c.args.move_.now.to_directory
    (name_bucket c.args.move_.now.to_name) c.requires.within.new (bucket_small c.args.move_.now.to_name))) c.requires.there

pub give_up-requires-in-Err-add_row : goal.give_up-requires-in-Err-add_row
give_up-requires-in-Err-add_row c =
    let works =
    works_kept (given_by c.args.shared.now) c.args.shared.now c.args.nodes c.args.core.now c.requires.table c.requires.work c.reserve_log.new.core
    c.in_default.ensures.keeps in record {
      work = works_same (given_by c.args.shared.now) c.args.shared.now c.args.nodes c.reserve_log.new.core c.requires.table works
          c.args.move_.now.to_directory
          (name_bucket c.args.move_.now.to_name) c.requires.within.new (bucket_small c.args.move_.now.to_name) c.add_row.new.core
          c.in-Err-add_row.ensures.puts;
      answered = search rules;
    }

pub returns-in-Err-add_row : goal.returns-in-Err-add_row
returns-in-Err-add_row c =
    let works =
    works_kept (given_by c.args.shared.now) c.args.shared.now c.args.nodes c.args.core.now c.requires.table c.requires.work c.reserve_log.new.core
    c.in_default.ensures.keeps in
    refused_kept (given_by c.args.shared.now) c.args.shared.now c.args.nodes c.args.core.now c.requires.table c.requires.work c.reserve_log.new.core
    c.in_default.ensures.keeps c.give_up-in-Err-add_row.new.core
    (refused_same (given_by c.args.shared.now) c.args.shared.now c.args.nodes c.reserve_log.new.core c.requires.table works c.args.move_.now.to_directory
    (name_bucket c.args.move_.now.to_name) c.requires.within.new (bucket_small c.args.move_.now.to_name) c.add_row.new.core
    c.in-Err-add_row.ensures.puts c.give_up-in-Err-add_row.new.core c.give_up-in-Err-add_row.ensures)
