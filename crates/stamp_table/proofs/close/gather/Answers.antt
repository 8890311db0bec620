use Rattle.std.proofs.Common.{rules, ap, ◌∙◌}
use Rattle.stamp_table.specs.Placing.{by_given, at_slots}
use Rattle.stamp_table.proofs.Closing.{no_slots, asks_join}
use Rattle.stamp_table.proofs.close.gather.Goals as goal

pub join_seat-requires : goal.join_seat-requires
join_seat-requires g c =
    let none = ap (λ h. h.held) c.core.view_is ∙ c.requires.core.2 in (
      search rules,
      ap (λ h. h.table.id) c.core.view_is ∙ c.requires.core.0,
      (no_slots g.M.Meaning.place_at c.core.inside.seat _ _ _ c.core.invariant.0 none).1,
      search rules,
      asks_join (by_given g.M.Meaning.lawful) (at_slots g.M.Meaning.place_at g.M.Meaning.stands)
          (g.M.Meaning.nothing, 0) g.M.Meaning.place_at _ _ _ _ c.core.inside.seat _ _ _ c.core.invariant.0 none c.requires.lead.1
          (ap (λ h. h.view.core) c.core.view_is ∙ c.requires.core.1),
    )
