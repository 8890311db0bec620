use Rattle.std.proofs.Common.{◌≡◌, Some, false, sym, ◌∙◌, ap, subst}
use Rattle.std.specs.Option.{option_map_or}
use Rattle.mem_calls.specs.Held.{bucket_held, is_standing}
use Rattle.mem_calls.proofs.Shown.{name_shows}
use Rattle.mem_calls.proofs.Unlinks.{unlink_missed, unlink_directory, unlink_file}
use Rattle.mem_calls.proofs.removals.unlink_in.Goals as goal
use Rattle.mem_calls.proofs.Faults.{same_some}

pub returns-in_default-get-clause-due : goal.returns-in_default-get-clause-due
returns-in_default-get-clause-due c = λ tree meets.
    let within = c.directory_fault_in.ensures.within c.in_default.is in
    let shows =
    name_shows c.args.core.now c.args.nodes c.requires.counted tree meets c.args.dir c.args.name.now c.bucket_of-number.result c.bucket_in-bucket.result.now
    within c.bucket_of-number.ensures c.bucket_in-bucket.ensures in
    let fault = sym (c.directory_fault_in.ensures.fault tree meets) ∙ c.in_default.is in
    unlink_missed tree c.args.core.now.view.core c.args.dir c.args.name.now c.bucket_in-bucket.result.now shows fault
    (sym c.get.ensures ∙ ap Rattle.tree_laws.specs.NameRow.number_of c.in_default-get.is)

pub returns-then-is_some-clause-due : goal.returns-then-is_some-clause-due
returns-then-is_some-clause-due c = λ tree meets.
    let within = c.directory_fault_in.ensures.within c.in_default.is in
    let shows =
    name_shows c.args.core.now c.args.nodes c.requires.counted tree meets c.args.dir c.args.name.now c.bucket_of-number.result c.bucket_in-bucket.result.now
    within c.bucket_of-number.ensures c.bucket_in-bucket.ensures in
    let fault = sym (c.directory_fault_in.ensures.fault tree meets) ∙ c.in_default.is in
    unlink_directory tree c.args.core.now.view.core c.args.dir c.args.name.now c.bucket_in-bucket.result.now shows fault c.in-Some-get.child.0
    (sym c.in-Some-get.ensures) (same_some c.get-2.result _ c.get-2.ensures ∙ sym c.if-is_some.ensures)

pub returns-clause-names : goal.returns-clause-names
returns-clause-names c =
    let held = subst (λ n. bucket_held c.args.nodes c.args.core.now.held c.args.dir n
    ≡ Some c.bucket_in-bucket.result.now) c.bucket_of-number.ensures c.bucket_in-bucket.ensures in
    record {
      within = c.directory_fault_in.ensures.within c.in_default.is;
      bucket = c.bucket_in-bucket.result.now;
      held_is = held;
      stands = sym (ap (λ o. option_map_or (is_standing c.args.dir) o false) c.bucket_in-bucket.ensures) ∙ c.directory_fault_in.ensures.stands c.in_default.is;
      row = sym c.in-Some-get.ensures;
      file = same_some c.get-2.result _ c.get-2.ensures ∙ sym c.if-is_some.ensures;
    }

pub returns-clause-due : goal.returns-clause-due
returns-clause-due c = λ tree meets.
    let within = c.directory_fault_in.ensures.within c.in_default.is in
    let shows =
    name_shows c.args.core.now c.args.nodes c.requires.counted tree meets c.args.dir c.args.name.now c.bucket_of-number.result c.bucket_in-bucket.result.now
    within c.bucket_of-number.ensures c.bucket_in-bucket.ensures in
    let fault = sym (c.directory_fault_in.ensures.fault tree meets) ∙ c.in_default.is in
    unlink_file tree c.args.core.now.view.core c.args.dir c.args.name.now c.bucket_in-bucket.result.now shows fault c.in-Some-get.child.0
    (sym c.in-Some-get.ensures) (same_some c.get-2.result _ c.get-2.ensures ∙ sym c.if-is_some.ensures)
