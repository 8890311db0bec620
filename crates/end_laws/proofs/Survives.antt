-- A mount of many cores survives each crash, and is read back at its end.
use Rattle.std.proofs.Common.{◌≡◌, ◌∙◌, ◌≤◌, ℕ, List, map, length, slice_get, Some, refl, Option, None, sym, ap, option_map, subst, flat_map}
use Rattle.std.proofs.lemmas.List.{length-map}
use Rattle.std.proofs.lemmas.Option.{slice_get-map}
use Rattle.sfs_base.proofs.BasicOptions.{none_some, some_same}
use Rattle.sfs_image.specs.Super.{Layout}
use Rattle.sfs_dev.specs.Disk.{View}
use Rattle.tree_laws.specs.declared.turns.Turn.{Turn}
use Rattle.tree_laws.specs.History.{IsLegal}
use Rattle.tree_laws.specs.Tree.{TreeState}
use Rattle.tree_laws.specs.declared.history.Entry.{Entry}
use Rattle.cut_laws.specs.Rules.{IsOneOf}
use Rattle.merge_laws.specs.Pens.{FsyncTurns, PenAgrees, AgreesAll}
use Rattle.merge_laws.proofs.Merged.{merged_turns}
use Rattle.merge_laws.proofs.Told.{merged_tell}
use Rattle.merge_laws.proofs.ByTurns.{durables_survive, durables_read_back}
use Rattle.slot_laws.specs.Labels.{first_past, past_from}
use Rattle.slot_laws.specs.Laws.{IsPenOf, AreOfCores}
use Rattle.slot_laws.specs.Telling.{turns_in}
use Rattle.slot_laws.proofs.Lawful.{labels_count_faults, labels_merge_pens, labels_rise}
use Rattle.close_laws.specs.Maps.{past_of, Numbered}
use Rattle.close_laws.specs.Beside.{TellAlong}
use Rattle.close_laws.proofs.PensFit.{pens_have_turns, pens_tell_labels}
use Rattle.close_laws.specs.Close.{EndsMount}
use Rattle.close_laws.proofs.PensClose.{pens_are_turns_of}
use Rattle.close_laws.proofs.Mounts.{turns_close}
use Rattle.flush_agrees.specs.Closing.{pen_fsyncs}
use Rattle.flush_agrees.specs.Agreement.{FlushTold}
use Rattle.end_laws.specs.Mount.{MountEnd, MountEnds, AreNamedAlong}
use Rattle.end_laws.specs.Laws.{PensToldAt}
use Rattle.end_laws.proofs.Named.{mounts_are_named}
use Rattle.end_laws.proofs.Told.{named_pens_tell}
use Rattle.end_laws.proofs.Telling.{named_tell_along}
use Rattle.end_laws.specs.Survives.{DiskEnds, TurnsEnd, MountSurvives, MountsSurvive, TurnsOfMountsEnd}

module _ (D : Type 0) (at : MountEnd) (ends : MountEnds D at) where
  abbrev turns : List Turn
  turns = (past_of at.told).turns

  -- all cores' fsyncs that have turns
  abbrev pens : List (List FsyncTurns)
  pens = map pen_fsyncs at.fsyncs

  pens_many : length pens ≡ length at.fsyncs
  pens_many = length-map at.fsyncs pen_fsyncs

  abbrev legal : IsLegal at.start.first at.start.history
  legal = ends.begins.labels.walk.stands.between.history_is.legal

  -- a core's of these are those of its fsyncs
  record IsCoresPen (core : ℕ) (fsyncs : List FsyncTurns) : Type 0 where
    own : List FlushTold
    there : slice_get at.fsyncs core ≡ Some own
    are_own : pen_fsyncs own ≡ fsyncs

  cores_pen : (core : ℕ) (fsyncs : List FsyncTurns) → slice_get pens core ≡ Some fsyncs → IsCoresPen core fsyncs
  cores_pen core fsyncs there = by (slice_get at.fsyncs core) refl
    where
      by : (o : Option (List FlushTold)) → slice_get at.fsyncs core ≡ o → IsCoresPen core fsyncs
      by None none = absurd (none_some (sym (slice_get-map pen_fsyncs at.fsyncs core ∙ ap (option_map pen_fsyncs) none) ∙ there))
      by (Some own) is = record {
        own = own;
        there = is;
        are_own = some_same (sym (slice_get-map pen_fsyncs at.fsyncs core ∙ ap (option_map pen_fsyncs) is) ∙ there);
      }

  -- where a core's end has other words for what was told, they are these
  past_is : (layout : Layout) (moment : ℕ) → layout ≡ at.told.layout → moment ≡ at.told.moment
      → (past_from layout at.logs.labels (first_past moment)).turns ≡ turns
  past_is layout moment same also = λ i. (past_from (same i) (sym ends.labels_are i) (first_past (also i))).turns

  agrees : (core : ℕ) (fsyncs : List FsyncTurns) → slice_get pens core ≡ Some fsyncs → PenAgrees at.start.first at.start.history turns core fsyncs
  agrees core fsyncs there =
      let has = cores_pen core fsyncs there in
      let end = ends.each core has.own has.there in
      let key = end.pen.table.given in
      subst (λ l. PenAgrees at.start.first at.start.history turns core l) has.are_own
      (subst (λ c. PenAgrees at.start.first at.start.history turns c (pen_fsyncs has.own)) end.core_is
      (subst (λ (first : TreeState). PenAgrees first at.start.history turns end.hand.view.core (pen_fsyncs has.own)) (sym ends.begins.first)
      (subst (λ (history : List Entry). PenAgrees at.t.first history turns end.hand.view.core (pen_fsyncs has.own)) (sym ends.begins.history)
      (subst (λ (l : List Turn). PenAgrees at.t.first at.logs.history l end.hand.view.core (pen_fsyncs has.own))
      (past_is key.layout key.start end.layout_is end.start_is) end.agree.agrees))))

  module _ (named : Numbered) (are : AreNamedAlong at named) where
    told : PensToldAt at named
    told = named_pens_tell D at named ends are

    is_pen : (core : ℕ) (fsyncs : List FsyncTurns) → slice_get pens core ≡ Some fsyncs → IsPenOf core at.told.log fsyncs
    is_pen core fsyncs there =
        let has = cores_pen core fsyncs there in
        let end = ends.each core has.own has.there in
        pens_have_turns named.stamps core at.told.log fsyncs (told.pens.pens core) (ends.rests core)
        (ap turns_in (told.turns core has.own has.there)
        ∙ (end.agree.turns ∙ ap (flat_map (λ (one : FsyncTurns). one.turns)) has.are_own))

  module _ (most : ℕ) (few : (turn : Turn) → IsOneOf turns turn → turn.faults ≤ most) where
    all_agree : AgreesAll at.start.first at.start.history at.told.before most turns pens
    all_agree =
        let given = mounts_are_named D at ends in record {
          cores = pens_many ∙ (ends.cores ∙ ap (λ (first : TreeState). length first.made) (sym ends.begins.first));
          each = agrees;
          merges = labels_merge_pens at.told.layout at.told.before at.told.log at.told.moment pens ends.along.may
              (subst (λ n. AreOfCores n at.told.log) (sym pens_many) ends.own) (is_pen given.0 given.1);
          counts = labels_count_faults at.told.layout at.told.before most at.told.log at.told.moment ends.along.may few;
        }

    turns_end : TurnsEnd at most
    turns_end =
        let merge = merged_turns at.start.first at.start.history at.told.before most turns pens legal all_agree in record {
          agrees = all_agree;
          merge = merge;
          tell = record {
            tell = merged_tell at.start.first at.start.history turns legal merge;
            rise = labels_rise at.told.layout at.told.before at.told.log at.told.moment ends.along.may;
          };
        }

pub turns_of_mounts_end : (D : Type 0) → TurnsOfMountsEnd D
turns_of_mounts_end D at most ends few = turns_end D at ends most few

module _ (D : Type 0) (disk : View) (share : ℕ) (at : MountEnd) (named : Numbered) (ends : MountEnds D at) (are : AreNamedAlong at named)
    (along : TellAlong at.told.layout at.start named at.told.log (first_past at.told.moment)) (disk_ends : DiskEnds at disk) where
  mount_ends : EndsMount at.start at.entries named at.told disk
  mount_ends =
      let told = named_pens_tell D at named ends are in record {
        labels = record { is = pens_tell_labels named at.told told.pens; begins = ends.begins.labels; tell = along };
        none = ends.begins.none;
        turns = pens_are_turns_of named at.told told.pens told.rest;
        run = disk_ends.run;
        began = disk_ends.began;
        tells = disk_ends.tells;
      }

  mount_survives : MountSurvives share at disk disk_ends
  mount_survives =
      let turns = (past_of at.told).turns in
      let legal = ends.begins.labels.walk.stands.between.history_is.legal in
      let of_turns = turns_of_mounts_end D at disk_ends.most ends disk_ends.few in
      let close = turns_close disk share at.start at.entries named at.told mount_ends of_turns.tell in record {
        survives = durables_survive disk share at.told.moment at.start.first at.start.history turns legal of_turns.tell close.0;
        reads = durables_read_back disk share at.start.first at.start.history turns legal of_turns.merge of_turns.tell.rise close.1;
        survives_by_turns = close.0;
        reads_by_turns = close.1;
        turns = of_turns;
      }

pub mounts_survive : (D : Type 0) (disk : View) → MountsSurvive D disk
mounts_survive D disk share at ends disk_ends =
    let given = mounts_are_named D at ends in
    mount_survives D disk share at given.0 ends given.1 (named_tell_along D at given.0 ends given.1) disk_ends
