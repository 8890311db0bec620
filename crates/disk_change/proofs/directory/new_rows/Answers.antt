use Rattle.std.proofs.Common.{◌<◌, ◌++◌, length, take, filter_map, reverse, sym, ap, ◌∙◌, arith}
use Rattle.std.specs.Prelude.{option_to_list}
use Rattle.std.proofs.lemmas.List.{append-nil, take_all}
use Rattle.disk_change.specs.Directory.{row_new}
use Rattle.disk_change.proofs.Directories.{filter_map_more, reverse_twice}
use Rattle.disk_change.proofs.directory.new_rows.Goals as goal
use Rattle.disk_change.proofs.directory.new_rows.Goals.{in-Some+in_ok-push, in_default}

pub loop-row-preserved : goal.loop-row-preserved
loop-row-preserved c =
    let f = row_new c.args.directories.now in
    let within : c.loop-row.row-index < length c.args.net.now = omega arith in
    let given = c.in_ok-new.ensures ∙ ap f c.row-item.is in
    let more = filter_map_more f c.args.net.now c.loop-row.row-index c.row-item.result within in
    let before = filter_map f (take c.loop-row.row-index c.args.net.now) in
    elim c.match-branch-2.branch [
      | in-Some+in_ok-push w ↦
          ap (λ v. v.items) w.rows-is ∙ w.in_ok-push.ensures.items ∙ (λ i. c.loop-row.invariant i ++ option_to_list ((sym w.in-Some.is ∙ given) i)) ∙ sym more
      | in_default w ↦
          ap (λ v. v.items) w.rows-is ∙ c.loop-row.invariant ∙ sym (append-nil before) ∙ ap (λ o. before ++ option_to_list o) (sym w.in_default.is ∙ given)
          ∙ sym more
    ]

pub returns : goal.returns
returns c =
    ap reverse c.reverse.ensures.items ∙ reverse_twice c.loop-row.rows.items ∙ c.loop-row.invariant
    ∙ ap (filter_map (row_new c.args.directories.now)) (take_all c.loop-row.row-index c.args.net.now c.loop-row-test.false)
