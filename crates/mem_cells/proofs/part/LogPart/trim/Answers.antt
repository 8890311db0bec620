use Rattle.std.proofs.Common.{inl, inr, refl, ap, subst, ⊎_elim}
use Rattle.mem_cells.specs.Part.{CoreLog, IsTrimmedOrBlank}
use Rattle.mem_cells.proofs.Counts.{trimmed_count, trims_log}
use Rattle.mem_cells.proofs.part.LogPart.trim.Goals as goal

pub invariant_of-self : goal.invariant_of-self
invariant_of-self c =
    trimmed_count c.self.inside.logs.entries c.trim_at-dropped.new.logs.entries _ _ _ _ c.self.inside.kept c.self.inside.rooms c.args.dir.0 c.args.below.0
    c.trim_at-dropped.result c.trim_at-dropped.ensures.log c.trim_at-dropped.ensures.namings c.trim_at-dropped.ensures.room
    c.trim_at-dropped.ensures.dropped c.self.invariant

pub returns : goal.returns
returns c =
    let logs = c.self.inside.logs.entries in
    let after = c.trim_at-dropped.new.logs.entries in
    subst (λ (part : CoreLog). IsTrimmedOrBlank part c.args.dir.0 c.args.below.0 (record { logs = after; entries = c.self.inside.entries })) c.self.view_is
    (⊎_elim (λ replaced. inl (record { logs = trims_log logs after c.args.dir.0 c.args.below.0 replaced; entries = refl }))
    (λ same. inr (ap (λ those. record { logs = those; entries = c.self.inside.entries }) same.0, same.1)) c.trim_at-dropped.ensures.log)
