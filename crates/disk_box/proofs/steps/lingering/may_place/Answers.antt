use Rattle.std.proofs.Common.{◌≡◌, ◌∙◌, List, refl, sym, subst, ap}
use Rattle.std.specs.Option.{option_copied}
use Rattle.std.specs.List.{list_any}
use Rattle.std.proofs.lemmas.Option.{slice_get-get_or}
use Rattle.sfs_base.proofs.BasicOptions.{none_some}
use Rattle.disk_box.specs.declared.desk.Slot.{Slot}
use Rattle.disk_box.specs.Oldest.{AreTold, goes_before}
use Rattle.disk_box.proofs.Older.{all_ascend, next_answer, next_within}
use Rattle.disk_box.proofs.steps.lingering.may_place.Goals as goal

pub unreachable-requires : goal.unreachable-requires
unreachable-requires g c =
    let slot = c.index-slot.result.now in
    let low = next_within c.args.desk.now.slots.items c.requires.told c.args.k slot c.requires.kind c.index-slot.ensures c.written.result
    c.written.ensures.written c.written.ensures.more
    in
    none_some ((sym (ap option_copied c.in_default.is) ∙ c.get.ensures) ∙ slice_get-get_or slot.inodes.items c.written.result 0 low)

pub any_before-requires : goal.any_before-requires
any_before-requires g c = record {
  ascend = all_ascend c.deref.result.now (subst (λ (l : List Slot). AreTold l) (sym c.deref.ensures.value) c.requires.told);
}

pub returns : goal.returns
returns g c =
    let slot = c.index-slot.result.now in
    record {
      is = next_answer c.args.desk.now.slots.items c.requires.told c.args.k slot c.requires.kind c.index-slot.ensures slot.drawn c.in-Some.next.now
          c.written.result c.any_before.result refl c.written.ensures.written (sym c.get.ensures ∙ ap option_copied c.in-Some.is)
          (subst (λ (l : List Slot). c.any_before.result ≡ list_any (goes_before slot.drawn c.in-Some.next.now) l) c.deref.ensures.value
          c.any_before.ensures);
    }
