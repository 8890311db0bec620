use Rattle.std.specs.Vec.{with_item}
use Rattle.std.proofs.Common.{◌≡◌, ◌∙◌, Some, arith, slice_set, refl, subst, sym, ap}
use Rattle.std.proofs.lemmas.List.{length-set}
use Rattle.std.proofs.lemmas.Option.{slice_get_within}
use Rattle.slot_laws.specs.Labels.{owner}
use Rattle.slot_laws.specs.declared.label.Label.TheVariants as label
use Rattle.commit_ledger.specs.Calls.{MayEnd, PaysDebt}
use Rattle.commit_ledger.specs.View.{number_in}
use Rattle.disk_box.specs.declared.kind.Kind.TheVariants as kind
use Rattle.disk_box.specs.Pens.{past_at}
use Rattle.disk_box.proofs.AtSlots.{kind_read}
use Rattle.disk_box.proofs.CountSteps.{settled_served}
use Rattle.disk_box.proofs.Served.{goes_told}
use Rattle.disk_box.proofs.Settled.{may_end, numbered, owner_is, owner_low, settle_may, settling_of, settle_room, settled_now, slots_many, waits_some}
use Rattle.disk_box.proofs.steps.serving.settle_one.Goals as goal

pub owner_of-owner-requires-clause-cores : goal.owner_of-owner-requires-clause-cores
owner_of-owner-requires-clause-cores g c =
    waits_some g.D.Disk.view c.args.table.now c.args.pen.now c.args.desk.now c.args.k c.requires.serving
    (slice_get_within c.args.desk.now.slots.items c.args.k c.requires.kind.slot c.requires.kind.there)

pub owner_of-owner-requires-clause-slots : goal.owner_of-owner-requires-clause-slots
owner_of-owner-requires-clause-slots g c =
    slots_many g.D.Disk.view c.args.table.now c.args.pen.now c.args.desk.now c.args.k c.requires.serving
    (slice_get_within c.args.desk.now.slots.items c.args.k c.requires.kind.slot c.requires.kind.there)

pub slot_turn-turn-requires-clause-within : goal.slot_turn-turn-requires-clause-within
slot_turn-turn-requires-clause-within g c =
    let slots = c.args.desk.now.slots.items in
    let low = slice_get_within slots c.args.k c.requires.kind.slot c.requires.kind.there in
    let long = length-set slots c.args.k c.land.new.self in
    omega (arith, low, long)

pub push-requires : goal.push-requires
push-requires g c = settle_room g.D.Disk.view c.args.table.now c.args.pen.now c.args.desk.now c.args.k c.requires.serving c.requires.kind

pub index_mut-requires-2 : goal.index_mut-requires-2
index_mut-requires-2 g c =
    let view = g.D.Disk.view in
    let t = c.args.table.now in
    let pen = c.args.pen.now in
    let desk = c.args.desk.now in
    let k = c.args.k in
    let serving = c.requires.serving in
    let inside = slice_get_within desk.slots.items k c.requires.kind.slot c.requires.kind.there in
    let mine : c.owner_of-owner.result ≡ owner pen.table.given.layout k = c.owner_of-owner.ensures ∙ owner_is view t pen desk k serving inside in
    let low = owner_low view t pen desk k serving inside in
    let cores = serving.at.fits.frame.cores in
    omega (arith, mine, low, cores)

pub end-requires : goal.end-requires
end-requires g c =
    let view = g.D.Disk.view in
    let t = c.args.table.now in
    let pen = c.args.pen.now in
    let desk = c.args.desk.now in
    let k = c.args.k in
    let serving = c.requires.serving in
    let inside = slice_get_within desk.slots.items k c.requires.kind.slot c.requires.kind.there in
    let mine : c.owner_of-owner.result ≡ owner pen.table.given.layout k = c.owner_of-owner.ensures ∙ owner_is view t pen desk k serving inside in
    record { may = subst (λ n. MayEnd n desk.ledger) (sym mine) (may_end view t pen desk k serving c.requires.kind) }

pub note-requires-clause-may : goal.note-requires-clause-may
note-requires-clause-may g c κs within =
    let view = g.D.Disk.view in
    let t = c.args.table.now in
    let pen = c.args.pen.now in
    let desk = c.args.desk.now in
    let k = c.args.k in
    let serving = c.requires.serving in
    let inside = slice_get_within desk.slots.items k c.requires.kind.slot c.requires.kind.there in
    let mine : c.owner_of-owner.result ≡ owner pen.table.given.layout k = c.owner_of-owner.ensures ∙ owner_is view t pen desk k serving inside in
    let has = kind_read desk.slots.items k kind.Opened c.index_mut.result.now c.requires.kind c.index_mut.ensures.value in
    let turn = c.slot_turn-turn.result in
    let settling = settling_of view t pen desk k c.owner_of-owner.result has.slot c.land.new.self turn serving has.there mine c.land.ensures.beside
    (record { by = c.slot_turn-turn.ensures.by; now = c.slot_turn-turn.ensures.now; faults = c.slot_turn-turn.ensures.faults })
    in
    settle_may view t pen desk k serving has turn settling

pub returns-clause-serving : goal.returns-clause-serving
returns-clause-serving g c =
    let view = g.D.Disk.view in
    let t = c.args.table.now in
    let pen = c.args.pen.now in
    let desk = c.args.desk.now in
    let k = c.args.k in
    let serving = c.requires.serving in
    let within = slice_get_within desk.slots.items k c.requires.kind.slot c.requires.kind.there in
    let mine : c.owner_of-owner.result ≡ owner pen.table.given.layout k = c.owner_of-owner.ensures ∙ owner_is view t pen desk k serving within in
    let has = kind_read desk.slots.items k kind.Opened c.index_mut.result.now c.requires.kind c.index_mut.ensures.value in
    let turn = c.slot_turn-turn.result in
    let settling = settling_of view t pen desk k c.owner_of-owner.result has.slot c.land.new.self turn serving has.there mine c.land.ensures.beside
    (record { by = c.slot_turn-turn.ensures.by; now = c.slot_turn-turn.ensures.now; faults = c.slot_turn-turn.ensures.faults })
    in
    let now = record desk {
      slots = with_item desk.slots k c.land.new.self;
      waits = with_item desk.waits c.owner_of-owner.result (Some turn);
      ledger = c.end.new.self;
      turns = c.push.new.self;
    } in
    let number = subst (λ n. number_in desk.ledger n ≡ Some turn.commit) (sym mine) (numbered view t pen desk k serving has turn settling) in
    settled_now view t pen desk k serving has turn settling c.note.new.pen now c.land.new.self c.note.ensures.holds c.note.ensures.tells (record {
      beside = refl;
      items = c.push.ensures.items;
      spare = c.push.ensures.spare;
      waits = ap (λ n. slice_set desk.waits.items n (Some turn)) mine;
      pays = subst (λ n. PaysDebt n desk.ledger c.end.new.self) mine c.end.ensures.pays;
    }) refl c.land.ensures (c.end.ensures.goes (past_at pen) k turn serving.at.fits.frame.ledger number)

pub returns-clause-beside : goal.returns-clause-beside
returns-clause-beside g c = goes_told c.args.pen.now c.note.new.pen (label.Settled c.args.k c.slot_turn-turn.result) c.note.ensures.tells tt refl refl

pub returns-clause-told : goal.returns-clause-told
returns-clause-told g c =
    settled_served g.D.Disk.view c.args.table.now c.args.pen.now c.args.desk.now c.args.k c.requires.serving c.note.new.pen c.slot_turn-turn.result
    c.requires.kind
    c.note.ensures.tells
