use Rattle.std.specs.List.Sorted.{IsStrictlyIncreasing}
use Rattle.std.proofs.Common.{◌≡◌, ◌<◌, ◌∙◌, ℕ, All, Some, None, option_map, refl, sym, ap, subst, arith, slice_set, false}
use Rattle.std.proofs.lemmas.List.{set-set}
use Rattle.sfs_base.specs.Lists.{Roomy}
use Rattle.sfs_base.proofs.BasicOptions.{some_not_none, some_same}
use Rattle.sfs_image.specs.Journal.{Entry}
use Rattle.journal_one.specs.Job.{Job, LiesInData, Place}
use Rattle.journal_one.specs.Packed.{inode_of_entry}
use Rattle.journal_one.specs.Stage.{Stage}
use Rattle.slot_laws.specs.Labels.{OwnTold, fsync_told}
use Rattle.slot_laws.specs.Telling.{turn_begins}
use Rattle.slot_laws.proofs.Few.{stamps_are_left}
use Rattle.commit_ledger.specs.View.{OpenView, number_in}
use Rattle.commit_ledger.specs.Keeps.{LedgerGoes}
use Rattle.disk_box.specs.declared.desk.Phase.TheVariants as phase
use Rattle.disk_box.specs.declared.desk.Slot.{Slot}
use Rattle.disk_box.specs.declared.kind.Kind.TheVariants as kind
use Rattle.disk_box.specs.Pens.{own_at, past_at}
use Rattle.disk_box.proofs.After.{failed_told, fits_told, past_fits_at, space_told}
use Rattle.disk_box.proofs.AtSlots.{kind_read}
use Rattle.disk_box.proofs.Owes.{owns_own}
use Rattle.journal_set.proofs.Begun.{Begin, began_rule, begin_of, begun_fits, idle_at, its_number, label_of, same_begun}
use Rattle.journal_set.proofs.Grants.{has_reserved}
use Rattle.journal_set.proofs.Returned.{may_return, number_there}
use Rattle.journal_set.proofs.beginning.begin_one.Goals as goal
use Rattle.journal_set.proofs.CallsTold.{begin_calls, begun_due}

pub unreachable-requires : goal.unreachable-requires
unreachable-requires g c =
    let pen = c.args.pen.now in
    let work = c.requires.work in
    let has = has_reserved c.args.table.now pen c.args.writing.grant work.holds c.requires.grant in
    let there = number_there g.D.Disk.view pen.table.given pen.view.core (past_at pen) (past_fits_at c.args.table.now pen work.holds) c.args.desk.now
    work.fits.frame work.holds.core_is has.number has.reserved
    in
    some_not_none (sym there ∙ (ap (number_in c.args.desk.now.ledger) (sym c.number-core.ensures) ∙ (sym c.number.ensures ∙ c.in_default.is)))

pub next_stamp-drawn-requires : goal.next_stamp-drawn-requires
next_stamp-drawn-requires g c =
    let pen = c.args.pen.now in
    let work = c.requires.work in
    let key = pen.table.given in
    let has = has_reserved c.args.table.now pen c.args.writing.grant work.holds c.requires.grant in
    let left = stamps_are_left key.layout key.faults pen.view.seen key.start pen.view.core has.number work.holds.lawful has.reserved in
    let drawn = work.fits.frame.stamps in
    let given = work.fits.frame.ledger.commits in
    omega (arith, left, drawn, given)

pub take_idle-idle-requires : goal.take_idle-idle-requires
take_idle-idle-requires g c =
    (kind_read c.args.desk.now.slots.items c.args.k kind.Idle c.index_mut.result.now c.requires.kind c.index_mut.ensures.value).kind_is

pub begin-requires-clause-below : goal.begin-requires-clause-below
begin-requires-clause-below g c =
    let work = c.requires.work in
    let pen = c.args.pen.now in
    let has = kind_read c.args.desk.now.slots.items c.args.k kind.Idle c.index_mut.result.now c.requires.kind c.index_mut.ensures.value in
    let idle = idle_at g.D.Disk.view c.args.table.now pen c.args.desk.now c.args.k c.take_idle-idle.result work has c.take_idle-idle.ensures in
    subst (λ (p : Place). All (λ (entry : Entry). entry.inode < p.layout.inodes) c.args.writing.packed.entries) (sym idle.1) c.requires.written.below

pub begin-requires-clause-in_data : goal.begin-requires-clause-in_data
begin-requires-clause-in_data g c =
    let work = c.requires.work in
    let pen = c.args.pen.now in
    let has = kind_read c.args.desk.now.slots.items c.args.k kind.Idle c.index_mut.result.now c.requires.kind c.index_mut.ensures.value in
    let idle = idle_at g.D.Disk.view c.args.table.now pen c.args.desk.now c.args.k c.take_idle-idle.result work has c.take_idle-idle.ensures in
    subst (λ (p : Place). All (LiesInData p.layout) c.args.writing.packed.fresh) (sym idle.1) c.requires.written.in_data

pub note-requires-clause-may : goal.note-requires-clause-may
note-requires-clause-may g c κs within =
    let t = c.args.table.now in
    let work = c.requires.work in
    let pen = c.args.pen.now in
    let desk = c.args.desk.now in
    let key = pen.table.given in
    let past = past_at pen in
    let has = kind_read desk.slots.items c.args.k kind.Idle c.index_mut.result.now c.requires.kind c.index_mut.ensures.value in
    let idle = idle_at g.D.Disk.view t pen desk c.args.k c.take_idle-idle.result work has c.take_idle-idle.ensures in
    let its = its_number g.D.Disk.view t pen desk c.args.writing.grant c.in-Some.number work c.requires.grant
    (ap (number_in desk.ledger) (sym c.number-core.ensures) ∙ (sym c.number.ensures ∙ c.in-Some.is))
    in
    let b = begin_of c.args.k c.in-Some.number c.begin.result c.args.writing in
    began_rule g.D.Disk.view key pen.view.core past (past_fits_at t pen work.holds) desk work.fits.frame work.holds.core_is b
    its.0 work.calm has.slot has.there c.requires.own idle.0
    (ap (λ (j : Job). j.place) c.begin.ensures.job ∙ idle.1)
    (ap (λ (j : Job). j.stamp) c.begin.ensures.job ∙ c.next_stamp-drawn.ensures) c.begin.ensures.sound

pub owe-requires : goal.owe-requires
owe-requires g c =
    let t = c.args.table.now in
    let work = c.requires.work in
    let pen = c.args.pen.now in
    let num = has_reserved t pen c.args.writing.grant work.holds c.requires.grant in
    let may = may_return g.D.Disk.view pen.table.given pen.view.core (past_at pen) (past_fits_at t pen work.holds) c.args.desk.now work.fits.frame
    work.holds.core_is num.number num.reserved c.args.writing.grant num.was
    in
    record { may = subst (λ n. Rattle.commit_ledger.specs.Calls.HasEntered n c.args.desk.now.ledger) (sym c.number-core.ensures) may.entered }

pub returns-clause-begins : goal.returns-clause-begins
returns-clause-begins g c =
    let t = c.args.table.now in
    let work = c.requires.work in
    let pen = c.args.pen.now in
    let desk = c.args.desk.now in
    let key = pen.table.given in
    let past = past_at pen in
    let has = kind_read desk.slots.items c.args.k kind.Idle c.index_mut.result.now c.requires.kind c.index_mut.ensures.value in
    let idle = idle_at g.D.Disk.view t pen desk c.args.k c.take_idle-idle.result work has c.take_idle-idle.ensures in
    let its = its_number g.D.Disk.view t pen desk c.args.writing.grant c.in-Some.number work c.requires.grant
    (ap (number_in desk.ledger) (sym c.number-core.ensures) ∙ (sym c.number.ensures ∙ c.in-Some.is))
    in
    record {
      number = c.in-Some.number;
      had = sym (ap (λ (o : OwnTold). o.reserved) (owns_own t pen work.holds)) ∙ its.0;
      after_is = c.note.ensures.tells.own
          ∙ ap (λ k. record (own_at pen) {
            reserved = None;
            flight = Some (record {
              slot = k;
              commit = c.in-Some.number;
              flush = fsync_told c.args.writing.fsync.node c.args.writing.fsync.stamp;
              opened = false;
            });
          }) (ap (λ (j : Job). j.place.slot) c.begin.ensures.job ∙ ap (λ (p : Place). p.slot) idle.1);
    }

pub returns-clause-work : goal.returns-clause-work
returns-clause-work g c =
    let t = c.args.table.now in
    let work = c.requires.work in
    let pen = c.args.pen.now in
    let desk = c.args.desk.now in
    let key = pen.table.given in
    let past = past_at pen in
    let has = kind_read desk.slots.items c.args.k kind.Idle c.index_mut.result.now c.requires.kind c.index_mut.ensures.value in
    let idle = idle_at g.D.Disk.view t pen desk c.args.k c.take_idle-idle.result work has c.take_idle-idle.ensures in
    let its = its_number g.D.Disk.view t pen desk c.args.writing.grant c.in-Some.number work c.requires.grant
    (ap (number_in desk.ledger) (sym c.number-core.ensures) ∙ (sym c.number.ensures ∙ c.in-Some.is))
    in
    let b = begin_of c.args.k c.in-Some.number c.begin.result c.args.writing in
    let parts = c.begun_parts-filling.result in
    let told = c.begun_parts-filling.ensures in
    let back : Begin = record {
      k = c.args.k;
      number = told.0;
      filling = parts.0;
      node = told.1;
      stamp = told.2;
      blocks = parts.1;
      inodes = parts.2;
    }
    in
    let both = same_begun b back told.3 in
    let owes = c.owe.ensures.owes in
    let opens = ap (λ (l : Rattle.commit_ledger.specs.View.LedgerView). l.opens) owes.after ∙ ap (λ n. slice_set desk.ledger.opens n
    (Some (record owes.one {
      debt = Some (record {
        grant = c.args.writing.grant;
        gives_up = record { inodes = parts.2.items; blocks = parts.1.items };
      });
    }))) c.number-core.ensures
    in
    let goes : LedgerGoes (label_of b) past desk.ledger c.owe.new.self =
    subst (λ (z : Roomy ℕ × Roomy ℕ). LedgerGoes (label_of (record b { blocks = z.0; inodes = z.1 })) past desk.ledger c.owe.new.self)
    (sym (ap (λ (z : Stage × (Roomy ℕ × Roomy ℕ)). z.1) both))
    (c.owe.ensures.goes past c.in-Some.number c.begin.result c.args.writing.fsync.node c.args.writing.fsync.stamp work.fits.frame.ledger
    (sym c.number.ensures ∙ c.in-Some.is) its.1)
    in
    let slot_is : Slot = record {
      phase = phase.Filling parts.0;
      commit = c.in-Some.number;
      node = c.args.writing.fsync.node;
      stamp = c.args.writing.fsync.stamp;
      drawn = c.next_stamp-drawn.result;
      inodes = c.args.writing.inodes;
    }
    in
    let slot_now : Slot = record slot_is { phase = phase.Filling c.begin.result } in
    let slot_same : c.put_begun.new.slot ≡ slot_now =
    c.put_begun.ensures ∙ ap (λ (z : Stage × (Roomy ℕ × Roomy ℕ)). record slot_is { phase = phase.Filling z.0 }) (sym both)
    in
    let now : Rattle.disk_box.specs.declared.desk.Desk.Desk g.row.D.Denot = record desk {
      slots = Rattle.std.specs.Vec.with_item (Rattle.std.specs.Vec.with_item desk.slots c.args.k c.take_idle-idle.new.slot) c.args.k c.put_begun.new.slot;
      ledger = c.owe.new.self;
      stamps = c.next_stamp-drawn.result;
    }
    in
    let noted = c.requires.written.noted ∙ ap (λ (j : Job). Rattle.std.proofs.Common.map inode_of_entry j.entries) (sym c.begin.ensures.job) in
    let later = begun_fits g.D.Disk.view key pen.view.core past (past_fits_at t pen work.holds) desk work.fits.frame work.holds.core_is b
    its.0 work.calm has.slot has.there c.requires.own idle.0
    (ap (λ (j : Job). j.place) c.begin.ensures.job ∙ idle.1)
    (ap (λ (j : Job). j.stamp) c.begin.ensures.job ∙ c.next_stamp-drawn.ensures) c.begin.ensures.sound now slot_now refl
    (set-set desk.slots.items c.args.k c.take_idle-idle.new.slot c.put_begun.new.slot ∙ ap (slice_set desk.slots.items c.args.k) slot_same)
    c.next_stamp-drawn.ensures owes.one (record {
      grant = c.args.writing.grant;
      gives_up = record { inodes = parts.2.items; blocks = parts.1.items };
    })
    (some_same (sym (ap (option_map (λ (one : OpenView). one.number)) owes.there) ∙ (sym c.number.ensures ∙ c.in-Some.is))) opens goes (record {
      fits = record {
        being = record {
          job_is = refl;
          shut = record { aloft = refl; left = refl; read = refl };
          written = λ n low. let none = c.begin.ensures.done in absurd (omega (arith, low, none));
          rest = λ n high. (refl, refl);
        };
        more = (let none = c.begin.ensures.done in omega (arith, none));
      };
      notes = record {
        commit_is = refl;
        flush_is = refl;
        drawn_is = sym (ap (λ (j : Job). j.stamp) c.begin.ensures.job);
        inodes_are = noted;
        ascend = subst IsStrictlyIncreasing (sym noted) c.begin.ensures.sound.are.ascend;
      };
    })
    in
    record {
      holds = c.note.ensures.holds;
      calm = failed_told g.D.Disk.view t pen c.note.new.pen (label_of b) c.note.ensures.holds c.note.ensures.tells None work.calm;
      fits = fits_told g.D.Disk.view t pen c.note.new.pen (label_of b) c.note.ensures.holds c.note.ensures.tells now (later work.fits);
      space = space_told g.D.Disk.view t pen c.note.new.pen (label_of b) c.note.ensures.holds c.note.ensures.tells desk now work.space
          (goes.space (record { 0 = pen.view.core }));
    }

pub returns-clause-tells : goal.returns-clause-tells
returns-clause-tells g c =
    let t = c.args.table.now in
    let work = c.requires.work in
    let pen = c.args.pen.now in
    let its = its_number g.D.Disk.view t pen c.args.desk.now c.args.writing.grant c.in-Some.number work c.requires.grant
    (ap (number_in c.args.desk.now.ledger) (sym c.number-core.ensures) ∙ (sym c.number.ensures ∙ c.in-Some.is))
    in
    record {
      one = turn_begins c.begin.result c.in-Some.number c.args.writing.fsync.node c.args.writing.fsync.stamp c.args.writing.freed_blocks
          c.args.writing.freed_inodes;
      is = record {
        number = c.in-Some.number;
        had = sym (ap (λ (o : OwnTold). o.reserved) (owns_own t pen work.holds)) ∙ its.0;
        is = (
          refl,
          refl,
          ap (λ (j : Job). j.entries) c.begin.ensures.job,
          ap (λ (j : Job). j.fresh) c.begin.ensures.job,
          refl,
          refl,
        );
      };
      mine_is = c.note.ensures.tells.mine_is;
    }

pub returns-clause-calls : goal.returns-clause-calls
returns-clause-calls g c =
    begin_calls (begin_of c.args.k c.in-Some.number c.begin.result c.args.writing) c.args.pen.now c.note.new.pen c.note.ensures.tells

pub returns-clause-starts : goal.returns-clause-starts
returns-clause-starts g c idle =
    let pen = c.args.pen.now in
    let desk = c.args.desk.now in
    let has = kind_read desk.slots.items c.args.k kind.Idle c.index_mut.result.now c.requires.kind c.index_mut.ensures.value in
    let place = idle_at g.D.Disk.view c.args.table.now pen desk c.args.k c.take_idle-idle.result c.requires.work has c.take_idle-idle.ensures in
    begun_due (begin_of c.args.k c.in-Some.number c.begin.result c.args.writing) pen c.note.new.pen c.note.ensures.tells c.args.writing.packed c.args.k
    (ap (λ (j : Job). j.place.slot) c.begin.ensures.job ∙ ap (λ (p : Place). p.slot) place.1) (ap (λ (j : Job). j.fresh) c.begin.ensures.job) idle
