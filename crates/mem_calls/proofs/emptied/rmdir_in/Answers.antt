use Rattle.std.proofs.Common.{◌≡◌, ◌<◌, Some, false, sym, ◌∙◌, ap, subst, arith}
use Rattle.std.specs.Option.{option_map_or}
use Rattle.tree_laws.specs.NameRow.{number_of}
use Rattle.mem_calls.specs.Held.{bucket_held, is_standing}
use Rattle.mem_calls.proofs.Shown.{name_shows}
use Rattle.mem_calls.proofs.Statuses.{small_buckets, rows_are}
use Rattle.mem_calls.proofs.Ending.{rmdir_missed, rmdir_file, rmdir_full, rmdir_empty}
use Rattle.mem_calls.specs.Ends.{NamesDirectory}
use Rattle.sfs_base.specs.Name.{bucket}
use Rattle.sfs_base.proofs.BasicOptions.{none_of}
use Rattle.mem_calls.proofs.emptied.rmdir_in.Goals as goal
use Rattle.mem_calls.proofs.Faults.{same_some}

pub returns-then-is_none-clause-due : goal.returns-then-is_none-clause-due
returns-then-is_none-clause-due c = λ tree meets.
    let within = c.directory_fault_in.ensures.within c.in_default.is in
    let shows =
    name_shows c.args.core.now c.args.nodes c.requires.counted tree meets c.args.dir c.args.name.now c.bucket_of-number.result c.bucket_in-bucket.result.now
    within c.bucket_of-number.ensures c.bucket_in-bucket.ensures in
    let fault = sym (c.directory_fault_in.ensures.fault tree meets) ∙ c.in_default.is in
    rmdir_missed tree c.args.core.now.view.core c.args.dir c.args.name.now c.bucket_in-bucket.result.now shows fault
    (none_of _ (same_some c.get.result _ c.get.ensures ∙ c.if-is_none.ensures))

pub returns-in_default-get-clause-due : goal.returns-in_default-get-clause-due
returns-in_default-get-clause-due c = λ tree meets.
    let within = c.directory_fault_in.ensures.within c.in_default.is in
    let shows =
    name_shows c.args.core.now c.args.nodes c.requires.counted tree meets c.args.dir c.args.name.now c.bucket_of-number.result c.bucket_in-bucket.result.now
    within c.bucket_of-number.ensures c.bucket_in-bucket.ensures in
    let fault = sym (c.directory_fault_in.ensures.fault tree meets) ∙ c.in_default.is in
    rmdir_file tree c.args.core.now.view.core c.args.dir c.args.name.now c.bucket_in-bucket.result.now shows fault
    (same_some c.get.result _ c.get.ensures ∙ c.if-is_none.ensures) (sym c.get-2.ensures ∙ ap number_of c.in_default-get.is)

pub returns-clause-names : goal.returns-clause-names
returns-clause-names c =
    let held = subst (λ n. bucket_held c.args.nodes c.args.core.now.held c.args.dir n
    ≡ Some c.bucket_in-bucket.result.now) c.bucket_of-number.ensures c.bucket_in-bucket.ensures in
    record {
      within = c.directory_fault_in.ensures.within c.in_default.is;
      bucket = c.bucket_in-bucket.result.now;
      held_is = held;
      stands = sym (ap (λ o. option_map_or (is_standing c.args.dir) o false) c.bucket_in-bucket.ensures) ∙ c.directory_fault_in.ensures.stands c.in_default.is;
      row = sym c.in-Some-get.ensures;
    }

pub directory_counts-rows-requires-clause-held : goal.directory_counts-rows-requires-clause-held
directory_counts-rows-requires-clause-held c =
    let held = subst (λ n. bucket_held c.args.nodes c.args.core.now.held c.args.dir n
    ≡ Some c.bucket_in-bucket.result.now) c.bucket_of-number.ensures c.bucket_in-bucket.ensures in
    let names : NamesDirectory c.args.nodes c.args.core.now.held c.args.dir (bucket c.args.name.now) c.args.name.now c.in-Some-get.child = record {
      within = c.directory_fault_in.ensures.within c.in_default.is;
      bucket = c.bucket_in-bucket.result.now;
      held_is = held;
      stands = sym (ap (λ o. option_map_or (is_standing c.args.dir) o false) c.bucket_in-bucket.ensures) ∙ c.directory_fault_in.ensures.stands c.in_default.is;
      row = sym c.in-Some-get.ensures;
    } in
    (c.requires.child c.in-Some-get.child names).1

pub directory_counts-rows-requires-clause-small : goal.directory_counts-rows-requires-clause-small
directory_counts-rows-requires-clause-small c =
    let held = subst (λ n. bucket_held c.args.nodes c.args.core.now.held c.args.dir n
    ≡ Some c.bucket_in-bucket.result.now) c.bucket_of-number.ensures c.bucket_in-bucket.ensures in
    let names : NamesDirectory c.args.nodes c.args.core.now.held c.args.dir (bucket c.args.name.now) c.args.name.now c.in-Some-get.child = record {
      within = c.directory_fault_in.ensures.within c.in_default.is;
      bucket = c.bucket_in-bucket.result.now;
      held_is = held;
      stands = sym (ap (λ o. option_map_or (is_standing c.args.dir) o false) c.bucket_in-bucket.ensures) ∙ c.directory_fault_in.ensures.stands c.in_default.is;
      row = sym c.in-Some-get.ensures;
    } in
    small_buckets c.args.core.now c.args.nodes c.requires.counted c.in-Some-get.child (c.requires.child c.in-Some-get.child names).0 c.requires.met

pub returns-then-rows-gt0-clause-due : goal.returns-then-rows-gt0-clause-due
returns-then-rows-gt0-clause-due c = λ tree meets.
    let within = c.directory_fault_in.ensures.within c.in_default.is in
    let shows =
    name_shows c.args.core.now c.args.nodes c.requires.counted tree meets c.args.dir c.args.name.now c.bucket_of-number.result c.bucket_in-bucket.result.now
    within c.bucket_of-number.ensures c.bucket_in-bucket.ensures in
    let fault = sym (c.directory_fault_in.ensures.fault tree meets) ∙ c.in_default.is in
    let held = subst (λ n. bucket_held c.args.nodes c.args.core.now.held c.args.dir n
    ≡ Some c.bucket_in-bucket.result.now) c.bucket_of-number.ensures c.bucket_in-bucket.ensures in
    let names : NamesDirectory c.args.nodes c.args.core.now.held c.args.dir (bucket c.args.name.now) c.args.name.now c.in-Some-get.child = record {
      within = within;
      bucket = c.bucket_in-bucket.result.now;
      held_is = held;
      stands = sym (ap (λ o. option_map_or (is_standing c.args.dir) o false) c.bucket_in-bucket.ensures) ∙ c.directory_fault_in.ensures.stands c.in_default.is;
      row = sym c.in-Some-get.ensures;
    } in
    let child = c.requires.child c.in-Some-get.child names in
    let counted = c.directory_counts-rows.ensures.size
    ∙ rows_are c.args.core.now c.args.nodes c.requires.counted c.in-Some-get.child child.0 tree meets c.args.core.now.view.core child.1 in
    rmdir_full tree c.args.core.now.view.core c.args.dir c.args.name.now c.bucket_in-bucket.result.now shows fault c.in-Some-get.child.0
    (sym c.in-Some-get.ensures) (subst (λ n. 0 < n) counted c.if-rows-gt0.true)

pub returns-clause-due : goal.returns-clause-due
returns-clause-due c = λ tree meets.
    let within = c.directory_fault_in.ensures.within c.in_default.is in
    let shows =
    name_shows c.args.core.now c.args.nodes c.requires.counted tree meets c.args.dir c.args.name.now c.bucket_of-number.result c.bucket_in-bucket.result.now
    within c.bucket_of-number.ensures c.bucket_in-bucket.ensures in
    let fault = sym (c.directory_fault_in.ensures.fault tree meets) ∙ c.in_default.is in
    let held = subst (λ n. bucket_held c.args.nodes c.args.core.now.held c.args.dir n
    ≡ Some c.bucket_in-bucket.result.now) c.bucket_of-number.ensures c.bucket_in-bucket.ensures in
    let names : NamesDirectory c.args.nodes c.args.core.now.held c.args.dir (bucket c.args.name.now) c.args.name.now c.in-Some-get.child = record {
      within = within;
      bucket = c.bucket_in-bucket.result.now;
      held_is = held;
      stands = sym (ap (λ o. option_map_or (is_standing c.args.dir) o false) c.bucket_in-bucket.ensures) ∙ c.directory_fault_in.ensures.stands c.in_default.is;
      row = sym c.in-Some-get.ensures;
    } in
    let child = c.requires.child c.in-Some-get.child names in
    let counted = c.directory_counts-rows.ensures.size
    ∙ rows_are c.args.core.now c.args.nodes c.requires.counted c.in-Some-get.child child.0 tree meets c.args.core.now.view.core child.1 in
    rmdir_empty tree c.args.core.now.view.core c.args.dir c.args.name.now c.bucket_in-bucket.result.now shows fault c.in-Some-get.child.0
    (sym c.in-Some-get.ensures) (let few = c.if-rows-gt0.false in omega (arith, counted, few))
