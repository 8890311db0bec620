use Rattle.std.proofs.Common.{◌≡◌, Some, sym, ◌∙◌, ap, subst, ◌<◌, ◌≤◌, arith}
use Rattle.std.specs.FinMap.{get, len}
use Rattle.sfs_base.proofs.BasicOptions.{none_of}
use Rattle.mem_calls.specs.Held.{bucket_held, file_held}
use Rattle.tree_laws.specs.Verdict.{refused}
use Rattle.mem_calls.proofs.Shown.{name_shows, file_shows}
use Rattle.mem_calls.proofs.LinkFaults.{linked_of, link_refused, link_exists, link_most, link_full, link_done}
use Rattle.mem_calls.proofs.links.link_in.Goals as goal
use Rattle.mem_calls.proofs.Faults.{same_some}

pub returns-in-Some-file_fault_in-clause-due : goal.returns-in-Some-file_fault_in-clause-due
returns-in-Some-file_fault_in-clause-due c = λ tree meets.
    link_refused tree c.args.core.now.view.core c.args.file c.args.dir c.args.name.now c.in-Some-file_fault_in.code
    (sym (c.file_fault_in.ensures.fault tree meets) ∙ c.in-Some-file_fault_in.is) ∙ ap refused (sym c.link_code.ensures)

pub returns-then-is_some-clause-due : goal.returns-then-is_some-clause-due
returns-then-is_some-clause-due c = λ tree meets.
    let within = c.directory_fault_in-2.ensures.within c.in_default-directory_fault_in.is in
    let shows =
    name_shows c.args.core.now c.args.nodes c.requires.counted tree meets c.args.dir c.args.name.now c.bucket_of-number.result c.bucket_in-bucket.result.now
    within c.bucket_of-number.ensures c.bucket_in-bucket.ensures in
    let place = sym (c.directory_fault_in-2.ensures.fault tree meets) ∙ c.in_default-directory_fault_in.is in
    let fault = sym (c.file_fault_in.ensures.fault tree meets) ∙ c.in_default.is in
    link_exists tree c.args.core.now.view.core c.args.file c.args.dir c.args.name.now fault place c.bucket_in-bucket.result.now shows
    (same_some c.get.result _ c.get.ensures ∙ sym c.if-is_some.ensures)

pub returns-then-file_in-ge-MOST_LINKS-clause-due : goal.returns-then-file_in-ge-MOST_LINKS-clause-due
returns-then-file_in-ge-MOST_LINKS-clause-due c = λ tree meets.
    let within = c.directory_fault_in-2.ensures.within c.in_default-directory_fault_in.is in
    let shows =
    name_shows c.args.core.now c.args.nodes c.requires.counted tree meets c.args.dir c.args.name.now c.bucket_of-number.result c.bucket_in-bucket.result.now
    within c.bucket_of-number.ensures c.bucket_in-bucket.ensures in
    let place = sym (c.directory_fault_in-2.ensures.fault tree meets) ∙ c.in_default-directory_fault_in.is in
    let fault = sym (c.file_fault_in.ensures.fault tree meets) ∙ c.in_default.is in
    let file = file_shows c.args.core.now c.args.nodes c.requires.counted tree meets c.args.file c.file_in.result.now
    (c.file_fault_in.ensures.within c.in_default.is) c.file_in.ensures in
    link_most tree c.args.core.now.view.core c.args.file c.args.dir c.args.name.now fault place c.bucket_in-bucket.result.now shows c.file_in.result.now.links
    file.0
    (same_some c.get.result _ c.get.ensures ∙ sym c.if-is_some.ensures) c.if-file_in-ge-MOST_LINKS.true

pub returns-then-len-ge-BUCKET_ROWS-clause-due : goal.returns-then-len-ge-BUCKET_ROWS-clause-due
returns-then-len-ge-BUCKET_ROWS-clause-due c = λ tree meets.
    let within = c.directory_fault_in-2.ensures.within c.in_default-directory_fault_in.is in
    let shows =
    name_shows c.args.core.now c.args.nodes c.requires.counted tree meets c.args.dir c.args.name.now c.bucket_of-number.result c.bucket_in-bucket.result.now
    within c.bucket_of-number.ensures c.bucket_in-bucket.ensures in
    let place = sym (c.directory_fault_in-2.ensures.fault tree meets) ∙ c.in_default-directory_fault_in.is in
    let fault = sym (c.file_fault_in.ensures.fault tree meets) ∙ c.in_default.is in
    let file = file_shows c.args.core.now c.args.nodes c.requires.counted tree meets c.args.file c.file_in.result.now
    (c.file_fault_in.ensures.within c.in_default.is) c.file_in.ensures in
    let full : 4096 ≤ len c.bucket_in-bucket.result.now.rows = (let l = c.len.ensures in let le = c.if-len-ge-BUCKET_ROWS.true in omega (arith, l, le)) in
    link_full tree c.args.core.now.view.core c.args.file c.args.dir c.args.name.now fault place c.bucket_in-bucket.result.now shows c.file_in.result.now.links
    file.0
    (same_some c.get.result _ c.get.ensures ∙ sym c.if-is_some.ensures) c.if-file_in-ge-MOST_LINKS.false full

pub returns-clause-due : goal.returns-clause-due
returns-clause-due c = λ tree meets.
    let within = c.directory_fault_in-2.ensures.within c.in_default-directory_fault_in.is in
    let shows =
    name_shows c.args.core.now c.args.nodes c.requires.counted tree meets c.args.dir c.args.name.now c.bucket_of-number.result c.bucket_in-bucket.result.now
    within c.bucket_of-number.ensures c.bucket_in-bucket.ensures in
    let place = sym (c.directory_fault_in-2.ensures.fault tree meets) ∙ c.in_default-directory_fault_in.is in
    let fault = sym (c.file_fault_in.ensures.fault tree meets) ∙ c.in_default.is in
    let file = file_shows c.args.core.now c.args.nodes c.requires.counted tree meets c.args.file c.file_in.result.now
    (c.file_fault_in.ensures.within c.in_default.is) c.file_in.ensures in
    let free : len c.bucket_in-bucket.result.now.rows < 4096 = (let l = c.len.ensures in let lt = c.if-len-ge-BUCKET_ROWS.false in omega (arith, l, lt)) in
    link_done tree c.args.core.now.view.core c.args.file c.args.dir c.args.name.now fault place c.bucket_in-bucket.result.now shows c.file_in.result.now.links
    file.0
    (same_some c.get.result _ c.get.ensures ∙ sym c.if-is_some.ensures) c.if-file_in-ge-MOST_LINKS.false free

pub returns-clause-may : goal.returns-clause-may
returns-clause-may c = λ none. record {
  file_within = c.file_fault_in.ensures.within c.in_default.is;
  place = record {
    within = c.directory_fault_in-2.ensures.within c.in_default-directory_fault_in.is;
    bucket_of = c.bucket_in-bucket.result.now;
    bucket_is = subst (λ n. bucket_held c.args.nodes c.args.core.now.held c.args.dir n
        ≡ Some c.bucket_in-bucket.result.now) c.bucket_of-number.ensures c.bucket_in-bucket.ensures;
    free = none_of (get c.bucket_in-bucket.result.now.rows c.args.name.now) (same_some c.get.result _ c.get.ensures ∙ sym c.if-is_some.ensures);
  };
  file_of = c.file_in.result.now;
  file_is = c.file_in.ensures;
  linked = linked_of (file_held c.args.nodes c.args.core.now.held c.args.file) c.file_in.result.now c.file_in.ensures
      (c.file_fault_in.ensures.linked c.in_default.is);
  few = c.if-file_in-ge-MOST_LINKS.false;
}
