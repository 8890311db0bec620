-- What a core has seen of a file's inode.
use Rattle.std.proofs.Common.{◌≡◌, ℕ, true, List, Option, sym, ap, subst}
use mathlib.Core.List.{IsPrefix}
use Rattle.tree_laws.specs.Tree.{TreeState}
use Rattle.stamp_table.specs.declared.view.View.{View}
use Rattle.stamp_table.specs.declared.event.Event.{Event}
use Rattle.stamp_table.proofs.Keeps.{begins_itself, begins_on}
use Rattle.mem_values.specs.declared.cell_id.CellId.TheVariants.{Pending}
use Rattle.mem_values.specs.declared.fact.Fact.{Fact}
use Rattle.mem_values.specs.Places.{cell_place}
use Rattle.mem_values.specs.Stands.{StandsAt}
use Rattle.fsync_file.specs.Laws.{AnsweredCoresHaveSeen, SeenStaysSeen}

pub has_seen : AnsweredCoresHaveSeen
has_seen given nodes node before after saw =
    let same : after.view.first ≡ before.view.first = ap (λ (v : View TreeState (Event Fact)). v.first) saw.view in
    record {
      log = after.view.seen;
      began = begins_itself after.view.seen;
      value = saw.value.0;
      stood =
          subst (λ (first : TreeState). StandsAt given first after.view.seen (cell_place nodes (Pending node)) saw.value.0) (sym same) saw.value.1;
      inode = sym saw.value.2;
    }

pub has_still_seen : SeenStaysSeen
has_still_seen given nodes node hand later same longer saw = record {
  log = saw.log;
  began = begins_on saw.log hand.view.seen later.view.seen saw.began longer;
  value = saw.value;
  stood = subst (λ (first : TreeState). StandsAt given first saw.log (cell_place nodes (Pending node)) saw.value) (sym same) saw.stood;
  inode = saw.inode;
}
