-- What an fsync brings to a volume it brings to it also once another one is on the disk.
use Rattle.std.proofs.Common.{◌≡◌, ◌∙◌, ℕ, List, subst, sym, true, refl}
use Rattle.sfs_base.proofs.BasicTruth.{not_both}
use Rattle.disk_nodes.specs.declared.old.OldEntry.{OldEntry}
use Rattle.disk_change.specs.Directory.{is_among}
use Rattle.cut_laws.specs.Rules.{IsOneOf}
use Rattle.cut_laws.proofs.Listed.{listed_one}
use Rattle.flush_laws.specs.Volume.{Volume, OneFsync, volume_left, tree_held, tree_raised}
use Rattle.flush_laws.specs.Laws.{AreEntriesAfter}
use Rattle.flush_laws.specs.Planned.{HasOldEntries, IsPlannedFsync, HasFiles}
use Rattle.flush_laws.proofs.Later.{ready_after, entries_after}
use Rattle.book_laws.specs.Brings.{Bringing, EndsBeside, brought_by, one_of, Brings, BringingsStay}
use Rattle.book_laws.specs.BringingLaws.{TwoFsyncs, AreBeside, MadeBefore, MadeBehind, MakesTheSame}
use Rattle.book_laws.specs.Plans.{LeadsOver}
use Rattle.book_laws.specs.Entries.{entries_left}
use Rattle.book_laws.proofs.Inodes.{raises_stay}
use Rattle.book_laws.proofs.Plans.{plans_stay}
use Rattle.book_laws.proofs.Left.{left_entries, planned_with_each}
use Rattle.book_laws.proofs.Entries.{entries_stay}
use Rattle.book_laws.proofs.Blocks.{serves_then}
use Rattle.book_laws.proofs.Parts.{parts_stay}

module _ (volume : Volume) (mine theirs : Bringing) (later : ℕ → List ℕ) (beside : EndsBeside volume mine theirs later) where
  abbrev my_one : OneFsync
  my_one = brought_by mine beside.stays

  abbrev their_one : OneFsync
  their_one = brought_by theirs beside.ends

  abbrev left : Volume
  left = volume_left volume their_one later

  abbrev two : TwoFsyncs
  two = record {
    first = volume.first;
    history = volume.history;
    cut = volume.cut;
    inodes = volume.inodes;
    mine = mine.flush;
    theirs = theirs.flush;
    raised = beside.ends.raised;
    after = beside.ends.after;
  }

  are_beside : AreBeside two
  are_beside = record {
    raises = beside.ends.planned.raises;
    inodes_after = beside.ends.planned.inodes_after;
    apart = λ node own other.
        not_both ((beside.ends.planned.plans.concerns node).1 other) (beside.apart.nodes node ((beside.stays.planned.plans.concerns node).1 own));
  }

  abbrev once : MadeBefore two
  once = record {
    raised = beside.stays.raised;
    after = beside.stays.after;
    nodes = mine.nodes;
    raises = beside.stays.planned.raises;
    inodes_after = beside.stays.planned.inodes_after;
    concerns = λ node. (
      (λ one. (beside.stays.planned.plans.concerns node).0 ((listed_one mine.nodes node).1 one)),
      (λ own. (listed_one mine.nodes node).0 ((beside.stays.planned.plans.concerns node).1 own)),
    );
  }

  behind : (again : MadeBehind two) × MakesTheSame once again
  behind = raises_stay two beside.stays.planned.ready.history_is.sound beside.stays.planned.ready.history_is.legal are_beside once

  abbrev again : MadeBehind two
  again = behind.0

  same : MakesTheSame once again
  same = behind.1

  leads : LeadsOver again mine.plan
  leads = plans_stay two are_beside beside.ends.planned.plans.files.short once again same mine.plan (record {
    nets = beside.stays.planned.plans.nets;
    moves = beside.stays.planned.plans.moves;
    files = beside.stays.planned.plans.files;
    touched = beside.stays.touched;
    own = beside.stays.files;
  })

  abbrev entries : List OldEntry
  entries = entries_left their_one

  after_theirs : AreEntriesAfter their_one entries
  after_theirs = left_entries volume their_one beside.ends.planned

  -- the old entries of its plan are those that memory has then
  old_then : HasOldEntries mine.nodes entries mine.plan.old
  old_then =
      entries_stay volume their_one entries mine.nodes mine.plan.old
      (record { planned = beside.ends.planned; after = after_theirs; apart = beside.apart.nodes })
      (planned_with_each volume my_one beside.ends.entries beside.stays.planned beside.ends.planned.keeps).plans.old

  abbrev then_one : OneFsync
  then_one = one_of mine again.raised again.after entries

  planned_then : IsPlannedFsync left then_one
  planned_then = record {
    ready = ready_after volume their_one beside.ends.planned later beside.left;
    keeps = entries_after volume their_one beside.ends.planned entries after_theirs;
    raises = again.raises;
    inodes_after = again.inodes_after;
    plans = record {
      concerns = λ node. (
        (λ among. (again.concerns node).0 (subst (λ nodes. IsOneOf nodes node) (sym same.nodes) ((listed_one mine.nodes node).0 among))),
        (λ own. (listed_one mine.nodes node).1 (subst (λ nodes. IsOneOf nodes node) same.nodes ((again.concerns node).1 own))),
      );
      old = old_then;
      nets = leads.nets;
      moves = leads.moves;
      files =
          subst (λ nodes. HasFiles nodes (tree_held left) (tree_raised left then_one) mine.plan) same.nodes leads.files;
    };
    grants = serves_then volume their_one later mine.plan mine.grant (record {
      planned = beside.ends.planned;
      left = beside.left;
      grants = beside.stays.planned.grants;
      inodes = beside.apart.inodes;
      blocks = beside.apart.blocks;
    });
  }

  pub brings_then : Brings left mine
  brings_then = record {
    raised = again.raised;
    after = again.after;
    entries = entries;
    planned = planned_then;
    comes = record { low = beside.stays.comes.low; live = beside.stays.comes.live };
    files = beside.stays.files;
    touched = λ node n among. leads.touched node n (subst (λ nodes. is_among nodes node ≡ true) (sym same.nodes) among);
    parts =
        parts_stay volume my_one then_one their_one later
        (record { first = beside.stays.planned; left = beside.left; second = planned_then; plan = refl; grant = refl })
        ∙ beside.stays.parts;
  }

pub bringings_stay : BringingsStay
bringings_stay = brings_then
