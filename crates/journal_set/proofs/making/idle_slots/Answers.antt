use Rattle.std.proofs.Common.{rules, ◌≡◌, ◌+◌, ◌*◌, ◌/◌, ◌%◌, ◌∙◌, sym, ap, subst}
use Rattle.std.specs.Prelude.{slice_get}
use Rattle.sfs_image.specs.Super.{Layout}
use Rattle.slot_laws.specs.Slots.{place_at}
use Rattle.disk_box.specs.declared.desk.Slot.{Slot}
use Rattle.disk_box.specs.declared.desk.Phase.TheVariants as phase
use Rattle.journal_set.proofs.Made.{each_item, idle_place}
use Rattle.journal_set.proofs.making.idle_slots.Goals as goal

pub loop-k-preserved : goal.loop-k-preserved
loop-k-preserved g c = record {
  made = search rules;
  within = search rules;
  room = search rules;
  each =
      let layout = c.args.layout.now in
      let new : Slot = record {
        phase = phase.Idle c.at-idle.result;
        commit = 0;
        node = record { 0 = 0 };
        stamp = record { 0 = 0 };
        drawn = 0;
        inodes = c.new.result;
      } in
      λ j slot there. each_item (λ k (s : Slot). s.phase ≡ phase.Idle (place_at layout k)) c.loop-k.slots.items new c.loop-k.invariant.each
      (subst (λ k. phase.Idle c.at-idle.result ≡ phase.Idle (place_at layout k)) (sym c.loop-k.invariant.made)
      (ap phase.Idle (idle_place layout c.loop-k.k c.at-idle.result c.at-idle.ensures.layout
      (subst (λ n. c.at-idle.result.slot ≡ c.loop-k.k / n * layout.slots + c.loop-k.k % n) (ap (λ (l : Layout). l.slots) c.layout.view_is)
      c.at-idle.ensures.slot)))) j slot
      (ap (λ l. slice_get l j) (sym c.push_reserved.ensures.items) ∙ there);
}
