use Rattle.std.proofs.Common.{inl, inr, refl}
use Rattle.disk_box.specs.declared.kind.Kind.TheVariants as kind
use Rattle.disk_box.proofs.NextOldest.{next_may_place}
use Rattle.journal_set.specs.declared.flying.Progress.TheVariants as progress
use Rattle.journal_set.proofs.CallsTold.{not_elsewhere, was_filled}
use Rattle.journal_set.proofs.Stepped.{steps_ok}
use Rattle.journal_set.proofs.flying.fill_or_seal.Goals as goal

pub place_one-requires-clause-oldest : goal.place_one-requires-clause-oldest
place_one-requires-clause-oldest g c κs within slot there =
    next_may_place g.D.Disk.view c.args.table.now c.args.pen.now c.args.desk.now c.in-Some.slot c.requires.work c.in-Some.ensures.some.has slot there
    (c.in-Some.ensures.some.oldest slot there)

pub returns-in-Some-clause-counts : goal.returns-in-Some-clause-counts
returns-in-Some-clause-counts g c alone =
    let view = g.D.Disk.view in
    let t = c.args.table.now in
    let there = c.in-Some.ensures.some.has in
    let slot = c.args.flight.now.slot in
    elim c.requires.kind [
      | inl filling ↦
          absurd (not_elsewhere view t c.args.pen.now c.args.desk.now slot c.in-Some.slot kind.Filling kind.Durable c.requires.work alone filling there refl
          (λ e. absurd (cc e)))
      | inr filled ↦
          absurd (not_elsewhere view t c.args.pen.now c.args.desk.now slot c.in-Some.slot kind.Filled kind.Durable c.requires.work alone filled there refl
          (λ e. absurd (cc e)))
    ]

pub returns-in_ok-sync_all : goal.returns-in_ok-sync_all
returns-in_ok-sync_all g c =
    let slot = c.args.flight.now.slot in
    let filled = was_filled c.args.desk.now.slots.items slot c.kind_at.result c.kind_at.ensures c.in_default-kind_at.not-Filling c.requires.kind in
    record {
      steps = steps_ok g.D.Disk.view c.args.table.now c.args.pen.now c.sync_all.new.pen c.sync_all.new.desk c.in_ok-sync_all.field-0 progress.Goes
          c.in_ok-sync_all.ensures.steps;
      own = c.sync_all.ensures.own;
      same = λ opened. refl;
      progress = tt;
      counts = c.in_ok-sync_all.ensures.counts slot (inl filled);
      brings = inl c.in_ok-sync_all.ensures.calls;
    }
