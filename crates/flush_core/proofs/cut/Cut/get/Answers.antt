use Rattle.std.proofs.Common.{sym, ap, ◌∙◌}
use Rattle.cut_laws.specs.Cut.{Cut, cut_of}
use Rattle.flush_core.proofs.Stamps.{cut_of-by_nodes}
use Rattle.flush_core.proofs.cut.Cut.get.Goals as goal

pub returns : goal.returns
returns c =
    c.stamp_at.ensures ∙ ap (λ l. Rattle.std.proofs.Common.slice_index l c.args.node) c.deref.ensures.value
    ∙ sym (cut_of-by_nodes c.self.inside.stamps.items c.args.node) ∙ ap (λ (cut : Cut). cut_of cut c.args.node) c.self.view_is
