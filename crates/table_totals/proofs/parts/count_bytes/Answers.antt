use Rattle.std.proofs.Common.{◌≡◌, ◌≤◌, ℕ, sym, ap, subst, ◌∙◌, arith}
use Rattle.tree_laws.specs.Tree.{TreeState}
use Rattle.tree_totals.specs.Totals.{LONGEST_FILE, live_bytes}
use Rattle.table_totals.specs.Seen.{tree_seen}
use Rattle.table_totals.proofs.Cells.{linked_counts, linked_short, unlinked_counts}
use Rattle.table_totals.proofs.Moments.{may_on, same_held, worked_on}
use Rattle.table_totals.proofs.parts.count_bytes.Goals as goal
use Rattle.table_totals.proofs.parts.count_bytes.Goals.{then-file-gt0, else-file-gt0}

pub returns-clause-saw : goal.returns-clause-saw
returns-clause-saw g c =
    worked_on c.args.shared.now c.args.core.now c.hold_more.new.core c.let_all_go.new.core c.requires.may.between c.hold_more.ensures.gains.on
    c.let_all_go.ensures.on c.let_all_go.ensures.none c.let_all_go.ensures.idle

pub returns-clause-may : goal.returns-clause-may
returns-clause-may g c =
    may_on c.args.core.now c.let_all_go.new.core
    (worked_on c.args.shared.now c.args.core.now c.hold_more.new.core c.let_all_go.new.core c.requires.may.between c.hold_more.ensures.gains.on
    c.let_all_go.ensures.on c.let_all_go.ensures.none c.let_all_go.ensures.idle) c.args.shared.now c.requires.may

pub returns-clause-bytes : goal.returns-clause-bytes
returns-clause-bytes g c = λ none.
    held ∙ ap (λ (tree : TreeState). live_bytes tree c.args.node.0)
    (same_held c.args.core.now c.hold_more.new.core c.let_all_go.new.core c.hold_more.ensures.gains.on c.let_all_go.ensures.on none)
  where
    held : c.if-file-gt0.bytes ≡ live_bytes (tree_seen c.hold_more.new.core) c.args.node.0
    held = elim c.if-file-gt0.branch [
      | then-file-gt0 w ↦
          w.bytes-is ∙ (w.size-bytes.ensures
          ∙ linked_counts c.args.shared.now c.args.nodes c.requires.table c.args.core.now c.hold_more.new.core _ c.hold_more.ensures.gains
          c.hold_more.ensures.work.first c.args.node c.requires.node c.file_in-file.result.now c.file_in-file.ensures w.if-file-gt0.true)
      | else-file-gt0 w ↦
          w.bytes-is
          ∙ sym (unlinked_counts c.args.shared.now c.args.nodes c.requires.table c.args.core.now c.hold_more.new.core _ c.hold_more.ensures.gains
          c.hold_more.ensures.work.first c.args.node c.requires.node c.file_in-file.result.now c.file_in-file.ensures
          (let none = w.if-file-gt0.false in omega (arith, none)))
    ]

pub returns-clause-few : goal.returns-clause-few
returns-clause-few g c = elim c.if-file-gt0.branch [
  | then-file-gt0 w ↦
      subst (λ (n : ℕ). n ≤ LONGEST_FILE) (sym (w.bytes-is ∙ w.size-bytes.ensures))
      (linked_short c.args.shared.now c.args.nodes c.requires.table c.args.core.now c.hold_more.new.core _ c.hold_more.ensures.gains
      c.hold_more.ensures.work.first c.args.node c.requires.node c.file_in-file.result.now c.file_in-file.ensures c.requires.short)
  | else-file-gt0 w ↦ subst (λ (n : ℕ). n ≤ LONGEST_FILE) (sym w.bytes-is) (omega arith)
]
