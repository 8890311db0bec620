use Rattle.std.proofs.Common.{arith}
use Rattle.std.proofs.lemmas.Option.{slice_get_within}
use Rattle.disk_box.specs.declared.kind.Kind.TheVariants as kind
use Rattle.disk_box.proofs.AtSlots.{kind_read}
use Rattle.disk_box.proofs.Sealing.{passed_over, sealed_next}
use Rattle.disk_box.proofs.steps.serving.seal_all.Goals as goal
use Rattle.disk_box.proofs.steps.serving.seal_all.Goals.{in-Filled, in_default}

pub loop-k-preserved : goal.loop-k-preserved
loop-k-preserved g c =
    let was = c.loop-k.invariant in
    let desk = c.loop-k.desk in
    let k = c.loop-k.k in
    elim c.match-kind_at.branch [
      | in-Filled w ↦
          let has = kind_read desk.slots.items k kind.Filled w.index_mut.result.now w.in-Filled.ensures w.index_mut.ensures.value in
          record { sealed = sealed_next c.args.desk.now desk c.match-kind_at.desk k was.sealed has w.seal.new.self w.seal.ensures w.desk-is; end = was.end }
      | in_default w ↦ record {
        sealed = passed_over c.args.desk.now desk c.match-kind_at.desk k was.sealed c.kind_at.result c.kind_at.ensures w.in_default.not-Filled w.desk-is;
        end = was.end;
      }
    ]

pub returns-clause-beside : goal.returns-clause-beside
returns-clause-beside g c = c.loop-k.invariant.sealed.beside

pub returns-clause-count : goal.returns-clause-count
returns-clause-count g c = c.loop-k.invariant.sealed.count

pub returns-clause-sealed : goal.returns-clause-sealed
returns-clause-sealed g c k was now before after =
    let low = slice_get_within c.args.desk.now.slots.items k was before in
    let test = c.loop-k-test.false in
    let end = c.loop-k.invariant.end in
    (c.loop-k.invariant.sealed.below k was now before after).0 (omega (arith, low, test, end))
