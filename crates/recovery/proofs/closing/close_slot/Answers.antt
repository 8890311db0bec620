-- A slot is closed by its byte.
use Rattle.std.proofs.Common.{ℕ, [], ◌∷◌, subst}
use Rattle.sfs_dev.specs.Steps.{Puts, TearsOnly}
use Rattle.journal_one.proofs.Kept.{IsLawful}
use Rattle.recovery.proofs.ClosedOnDisk.{slot_closes, no_answer}
use Rattle.recovery.proofs.JustMade.{gate_within}
use Rattle.recovery.proofs.closing.close_slot.Goals as goal

pub returns-in_err-write_and_sync-clause-closed : goal.returns-in_err-write_and_sync-clause-closed
returns-in_err-write_and_sync-clause-closed g c parts found last place oldest to =
    let laws = g.met.D.Disk g.world.𝓛 g.world.𝓜 g.world.𝓡 ((λ s x. x), (λ x. x), (λ x. x), λ x. x) in
    let old = g.D.Disk.view c.args.disk.now in
    let new = g.D.Disk.view c.write_and_sync.new.disk in
    let lawful : IsLawful old = record { whole = laws.whole c.args.disk.now; read_is_left = laws.read_is_left c.args.disk.now } in
    slot_closes c.args.layout.now parts found last place c.args.one.now c.requires.number oldest old new lawful
    (gate_within c.args.layout.now old.size c.args.one.now.number c.requires.layout c.requires.number)
    (subst (λ (at : ℕ). TearsOnly at 1 old new) c.slot_byte.ensures c.write_and_sync.ensures.torn)
    c.write_and_sync.ensures.tells to c.from_residual.result (no_answer _ c.from_residual.result c.from_residual.ensures.0)

pub returns-clause-closed : goal.returns-clause-closed
returns-clause-closed g c parts found last place oldest to =
    let laws = g.met.D.Disk g.world.𝓛 g.world.𝓜 g.world.𝓡 ((λ s x. x), (λ x. x), (λ x. x), λ x. x) in
    let old = g.D.Disk.view c.args.disk.now in
    let new = g.D.Disk.view c.write_and_sync.new.disk in
    let lawful : IsLawful old = record { whole = laws.whole c.args.disk.now; read_is_left = laws.read_is_left c.args.disk.now } in
    slot_closes c.args.layout.now parts found last place c.args.one.now c.requires.number oldest old new lawful
    (gate_within c.args.layout.now old.size c.args.one.now.number c.requires.layout c.requires.number)
    (subst (λ (at : ℕ). TearsOnly at 1 old new) c.slot_byte.ensures c.write_and_sync.ensures.torn)
    c.write_and_sync.ensures.tells to _ (subst (λ (at : ℕ). Puts at (0 ∷ []) old new) c.slot_byte.ensures c.in_ok-write_and_sync.ensures.ok)
