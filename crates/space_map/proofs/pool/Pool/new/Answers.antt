use Rattle.std.proofs.Common.{◌∙◌, ap, replicate}
use Rattle.space_map.specs.declared.status.Status.TheVariants.{Free}
use Rattle.space_map.proofs.Changes.{first_statuses}
use Rattle.space_map.proofs.pool.Pool.new.Goals as goal

pub returns : goal.returns
returns c =
    let free = c.in_ok-vec.ensures.items_if_clones_equal (λ _ same. same) ∙ ap (λ n. replicate n Free) c.saturating_sub-count.ensures in
    record { ok = first_statuses c.args.first c.args.end c.args.taken.now _ _ free c.change_all.ensures }
