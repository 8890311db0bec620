use Rattle.std.proofs.Common.{refl, ap, ◌∙◌, map}
use Rattle.disk_change.specs.Lists.{put_over}
use Rattle.disk_change.specs.Parts.{BuiltParts, parts_keyed, parts_node}
use Rattle.disk_change.proofs.Ascending.{put_keyed}
use Rattle.disk_change.proofs.after.put_built.Goals as goal

pub returns : goal.returns
returns c =
    ap (map parts_keyed) c.in_ok-insert.ensures.entries ∙ put_keyed parts_keyed parts_node (λ e. refl) c.args.by_node.now.entries _ _
    ∙ (λ i. put_over parts_node (record c.args.built { node = ap (λ (b : BuiltParts). b.node) c.built.view_is i }) (map parts_keyed c.args.by_node.now.entries))
