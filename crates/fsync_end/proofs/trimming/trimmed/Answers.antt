use Rattle.std.proofs.Common.{◌≡◌, ◌+◌, ◌∷◌, ◌++◌, ◌∙◌, [], take, get_or, map, sym, subst, ap}
use Rattle.std.proofs.lemmas.List.{map-append, take_more}
use Rattle.sfs_base.specs.declared.numbers.NodeId.{NodeId}
use Rattle.tree_laws.specs.NameRow.{node_number}
use Rattle.mem_cells.specs.Part.{IsTrimmedOrBlank}
use Rattle.mem_values.specs.declared.cell.PartCell.{PartCell}
use Rattle.fsync_end.specs.Trimming.{AreTrimmedOrBlank}
use Rattle.fsync_end.proofs.Logs.{trimmed_more}
use Rattle.fsync_end.proofs.trimming.trimmed.Goals as goal

pub loop-member-preserved : goal.loop-member-preserved
loop-member-preserved c =
    let none : NodeId = record { 0 = 0 } in
    let next : map node_number (take (c.loop-member.member-index + 1) c.args.members.now)
    ≡ map node_number (take c.loop-member.member-index c.args.members.now) ++ node_number (get_or c.args.members.now c.loop-member.member-index none) ∷ [] =
    ap (map node_number) (take_more c.args.members.now c.loop-member.member-index none c.loop-member-test.true)
    ∙ map-append node_number (take c.loop-member.member-index c.args.members.now) (get_or c.args.members.now c.loop-member.member-index none ∷ []) in
    let same = c.deref_mut.ensures.value in
    record {
      log = subst (λ l. AreTrimmedOrBlank c.args.part.value.log l c.args.below.0 c.trim.new.self) (sym next)
          (trimmed_more c.args.part.value.log (map node_number (take c.loop-member.member-index c.args.members.now))
          (node_number (get_or c.args.members.now c.loop-member.member-index none))
          c.args.below.0 c.loop-member.part.value.log c.trim.new.self c.loop-member.invariant.log
          (subst (λ (p : PartCell). IsTrimmedOrBlank p.log (node_number (get_or c.args.members.now c.loop-member.member-index none)) c.args.below.0
          c.trim.new.self) same c.trim.ensures));
      made = ap (λ (p : PartCell). p.made) same ∙ c.loop-member.invariant.made;
    }
