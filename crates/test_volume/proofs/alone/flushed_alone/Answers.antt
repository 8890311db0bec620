use Rattle.std.proofs.Common.{◌≡◌, ◌∙◌, List, sym, ap, subst}
use Rattle.std.specs.Prelude.{filter_map}
use Rattle.cut_laws.specs.Rules.{IsOneOf}
use Rattle.tree_laws.specs.Tree.{TreeState}
use Rattle.stamp_table.specs.declared.event.Event.{Event}
use Rattle.stamp_table.specs.declared.view.View.{View}
use Rattle.mem_values.specs.Account.{commit_told}
use Rattle.mem_values.specs.Start.{FileHand}
use Rattle.mem_values.specs.declared.fact.Fact.{Fact}
use Rattle.fsync_file.proofs.Seen.{has_seen}
use Rattle.test_volume.proofs.alone.flushed_alone.Goals as goal

pub flush-requires-clause-saw : goal.flush-requires-clause-saw
flush-requires-clause-saw g c κs within =
    rw (c.shared.ensures, c.nodes-nodes.ensures.count) at (has_seen _ _ _ _ _ c.if-has_inode.ensures)

pub flush-requires-clause-agree : goal.flush-requires-clause-agree
flush-requires-clause-agree g c κs within =
    let view : c.has_inode.new.core.view.mine ≡ c.args.core.now.view.mine =
    ap (λ (v : View TreeState (Event Fact)). v.mine) c.has_inode.ensures.view ∙ ap (λ (h : FileHand). h.view.mine) c.reserve.ensures.same in
    let core : c.has_inode.new.core.view.core ≡ c.args.core.now.view.core =
    ap (λ (v : View TreeState (Event Fact)). v.core) c.has_inode.ensures.view ∙ ap (λ (h : FileHand). h.view.core) c.reserve.ensures.same in
    record {
      one = c.requires.agree.one ∙ sym core;
      reserved = λ told among.
          c.requires.agree.reserved told (subst (λ (l : List (Event Fact)). IsOneOf (filter_map commit_told l) told) view among);
    }
