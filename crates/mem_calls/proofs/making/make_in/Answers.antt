use Rattle.std.proofs.Common.{◌≡◌, ◌<◌, ◌≤◌, Some, sym, ◌∙◌, subst, arith}
use Rattle.std.specs.FinMap.{get, len}
use Rattle.sfs_base.proofs.BasicOptions.{none_of}
use Rattle.mem_calls.specs.Held.{bucket_held}
use Rattle.mem_calls.proofs.Shown.{name_shows}
use Rattle.mem_calls.proofs.MakeFaults.{make_refused, make_exists, make_full, make_out, make_done, none_left, some_left, number_is, not_there, few_made}
use Rattle.mem_calls.proofs.making.make_in.Goals as goal
use Rattle.mem_calls.proofs.Faults.{same_some}

pub returns-in-Some-clause-due : goal.returns-in-Some-clause-due
returns-in-Some-clause-due c = λ tree meets.
    make_refused tree c.args.core.now.view.core c.args.dir c.args.name.now c.args.kind c.in-Some.code
    (sym (c.directory_fault_in.ensures.fault tree meets) ∙ c.in-Some.is)

pub returns-then-is_some-clause-due : goal.returns-then-is_some-clause-due
returns-then-is_some-clause-due c = λ tree meets.
    let within = c.directory_fault_in.ensures.within c.in_default.is in
    let shows = name_shows c.args.core.now c.args.nodes c.requires.counted tree meets c.args.dir c.args.name.now c.bucket_of-number.result
    c.bucket_in-bucket.result.now within
    c.bucket_of-number.ensures c.bucket_in-bucket.ensures in
    let place = sym (c.directory_fault_in.ensures.fault tree meets) ∙ c.in_default.is in
    make_exists tree c.args.core.now.view.core c.args.dir c.args.name.now c.args.kind place c.bucket_in-bucket.result.now shows
    (same_some c.get.result _ c.get.ensures ∙ sym c.if-is_some.ensures)

pub returns-then-len-ge-BUCKET_ROWS-clause-due : goal.returns-then-len-ge-BUCKET_ROWS-clause-due
returns-then-len-ge-BUCKET_ROWS-clause-due c = λ tree meets.
    let within = c.directory_fault_in.ensures.within c.in_default.is in
    let shows = name_shows c.args.core.now c.args.nodes c.requires.counted tree meets c.args.dir c.args.name.now c.bucket_of-number.result
    c.bucket_in-bucket.result.now within
    c.bucket_of-number.ensures c.bucket_in-bucket.ensures in
    let place = sym (c.directory_fault_in.ensures.fault tree meets) ∙ c.in_default.is in
    let full : 4096 ≤ len c.bucket_in-bucket.result.now.rows = (let l = c.len.ensures in let le = c.if-len-ge-BUCKET_ROWS.true in omega (arith, l, le)) in
    make_full tree c.args.core.now.view.core c.args.dir c.args.name.now c.args.kind place c.bucket_in-bucket.result.now shows
    (same_some c.get.result _ c.get.ensures ∙ sym c.if-is_some.ensures) full

pub returns-in-None-clause-due : goal.returns-in-None-clause-due
returns-in-None-clause-due c = λ tree meets.
    let within = c.directory_fault_in.ensures.within c.in_default.is in
    let shows = name_shows c.args.core.now c.args.nodes c.requires.counted tree meets c.args.dir c.args.name.now c.bucket_of-number.result
    c.bucket_in-bucket.result.now within
    c.bucket_of-number.ensures c.bucket_in-bucket.ensures in
    let place = sym (c.directory_fault_in.ensures.fault tree meets) ∙ c.in_default.is in
    let free : len c.bucket_in-bucket.result.now.rows < 4096 = (let l = c.len.ensures in let lt = c.if-len-ge-BUCKET_ROWS.false in omega (arith, l, lt)) in
    make_out tree c.args.core.now.view.core c.args.dir c.args.name.now c.args.kind place c.bucket_in-bucket.result.now shows
    (same_some c.get.result _ c.get.ensures ∙ sym c.if-is_some.ensures) free
    (none_left c.args.core.now c.args.nodes c.requires.counted c.args.next c.requires.next tree meets c.in-None.is)

pub returns-in-Some-next-clause-due : goal.returns-in-Some-next-clause-due
returns-in-Some-next-clause-due c = λ tree meets.
    let within = c.directory_fault_in.ensures.within c.in_default.is in
    let shows = name_shows c.args.core.now c.args.nodes c.requires.counted tree meets c.args.dir c.args.name.now c.bucket_of-number.result
    c.bucket_in-bucket.result.now within
    c.bucket_of-number.ensures c.bucket_in-bucket.ensures in
    let place = sym (c.directory_fault_in.ensures.fault tree meets) ∙ c.in_default.is in
    let free : len c.bucket_in-bucket.result.now.rows < 4096 = (let l = c.len.ensures in let lt = c.if-len-ge-BUCKET_ROWS.false in omega (arith, l, lt)) in
    make_done tree c.args.core.now.view.core c.args.dir c.args.name.now c.args.kind place c.bucket_in-bucket.result.now shows c.in-Some-next.child
    (same_some c.get.result _ c.get.ensures ∙ sym c.if-is_some.ensures) free
    (some_left c.args.core.now c.args.nodes c.requires.counted c.args.next c.requires.next tree meets c.in-Some-next.child c.in-Some-next.is)
    (number_is c.args.core.now c.args.nodes c.requires.counted c.args.next c.requires.next tree meets c.in-Some-next.child c.in-Some-next.is)

pub returns-in-Some-next-clause-may : goal.returns-in-Some-next-clause-may
returns-in-Some-next-clause-may c =
    let within = c.directory_fault_in.ensures.within c.in_default.is in
    let met = c.requires.met in
    let apart = not_there c.args.core.now c.args.nodes c.requires.counted c.args.next c.requires.next met.0 met.1 c.in-Some-next.child c.args.dir
    c.in-Some-next.is
    (sym (c.directory_fault_in.ensures.fault met.0 met.1) ∙ c.in_default.is) in
    record {
      place = record {
        within = within;
        bucket_of = c.bucket_in-bucket.result.now;
        bucket_is = subst (λ n. bucket_held c.args.nodes c.args.core.now.held c.args.dir n
            ≡ Some c.bucket_in-bucket.result.now) c.bucket_of-number.ensures c.bucket_in-bucket.ensures;
        free = none_of (get c.bucket_in-bucket.result.now.rows c.args.name.now) (same_some c.get.result _ c.get.ensures ∙ sym c.if-is_some.ensures);
      };
      new = c.requires.held.new c.in-Some-next.child c.in-Some-next.is within apart;
      apart = apart;
      few = few_made c.args.core.now c.args.nodes c.requires.counted c.args.next c.requires.next c.in-Some-next.child c.in-Some-next.is (omega arith);
    }
