-- The mount of the two directories on a disk at rest closes.
use Rattle.std.proofs.Common.{◌∷◌, ◌++◌, ◌≡◌, ◌<◌, ◌≤◌, ◌*◌, ◌+◌, ◌^◌, ◌-◌, ℕ, List, [], subst, sym, refl, inl, zero, suc, arith, Some, false, slice_get, length, min}
use Rattle.sfs_base.proofs.BasicOptions.{none_some, some_same}
use Rattle.sfs_base.proofs.BasicTruth.{true_not_false}
use Rattle.sfs_image.specs.Super.{IsLayout}
use Rattle.sfs_image.specs.ImageOf.{IsImageOf}
use Rattle.sfs_dev.specs.Disk.{View}
use Rattle.commit_one.specs.Change.{nothing_open}
use Rattle.tree_laws.specs.declared.reply.Reply.TheVariants as reply
use Rattle.tree_laws.specs.declared.turns.Turn.{Turn}
use Rattle.turn_laws.specs.Ways.{at_once}
use Rattle.turn_laws.specs.Books.{flush_at}
use Rattle.merge_laws.specs.Pens.{PenAgrees, FsyncTurns}
use Rattle.merge_laws.specs.Worked.{TWO_CORES, BOTH_HISTORY, own_fsync, other_fsync}
use Rattle.merge_laws.proofs.Worked.{own_is, pen_one, own_live, own_only, some_turns, goes_with, never_durable, never_stopped, other_live, other_only, other_is, of_each}
use Rattle.book_laws.specs.Pairs.{bringing_under}
use Rattle.stamp_table.specs.declared.event.Event.{Event}
use Rattle.stamp_table.specs.declared.event.Event.TheVariants.{Called, Told}
use Rattle.slot_laws.specs.declared.label.Label.{Label}
use Rattle.slot_laws.specs.Laws.{IsPenOf}
use Rattle.slot_laws.specs.Labels.{BoxPast, past_from, after_label, first_past}
use Rattle.slot_laws.specs.Fits.{PastFits}
use Rattle.slot_laws.specs.Rules.{MayFrom}
use Rattle.slot_laws.proofs.Lawful.{lawful_fits, first_fits}
use Rattle.slot_image_laws.specs.Labels.{IsToldOf}
use Rattle.slot_image_laws.specs.Run.{KeepsLaws, RunFits, Syncs, BeganWith}
use Rattle.slot_image_laws.proofs.Running.{told_labels_fit, first_runs_fit, failed_syncs_fit}
use Rattle.close_laws.specs.Maps.{past_of}
use Rattle.close_laws.specs.Close.{PensAgree, EndsMount}
use Rattle.close_laws.specs.Fronts.{AreTurnsOf}
use Rattle.close_laws.proofs.Mounts.{table_mounts_close}
use Rattle.example_laws.specs.Told.{TWO_TOLD, OTHER_AT_ONCE, OWN_AT_ONCE, AT_ONCE_PENS, TWO_NUMBERED, IsTwoImage, still_disk, UP_TO_THE_FIFTH, AT_THE_EIGHTH, TwoMountsClose, TwoCoresClose}
use Rattle.example_laws.specs.Image.{TWO_DIRECTORIES, TWELVE_BLOCKS, TWO_PARTS}
use Rattle.example_laws.proofs.Labels.{two_cores, may_five, may_eight, labels_stand_told}
use Rattle.example_laws.proofs.Telling.{ENTRIES}

-- the two fsyncs at one turn's moment each
turns_are : (past_of TWO_TOLD).turns ≡ OTHER_AT_ONCE ++ OWN_AT_ONCE
turns_are = refl

own_agrees : PenAgrees TWO_CORES BOTH_HISTORY (past_of TWO_TOLD).turns 0 (record { stamp = 0; turns = OWN_AT_ONCE } ∷ [])
own_agrees =
    pen_one TWO_CORES BOTH_HISTORY (past_of TWO_TOLD).turns 0 (own_fsync reply.Ok (Some 8)) (record { 0 = 1 })
    (own_live (own_fsync reply.Ok (Some 8)) (other_fsync reply.Ok (Some 5)) reply.Ok (Some 8) refl) refl
    (own_only reply.Ok reply.Ok (Some 8) (Some 5)) OWN_AT_ONCE some_turns
    (own_is _ _ _ _ _, (own_is _ _ _ _ _, (own_is _ _ _ _ _, tt)))
    (goes_with 1 (omega arith) at_once OWN_AT_ONCE refl (refl, (refl, (refl, tt))))
    (never_durable (λ e. cc), (never_durable (λ e. cc), (λ e. refl, tt)))
    (never_stopped (inl refl))

other_agrees : PenAgrees TWO_CORES BOTH_HISTORY (past_of TWO_TOLD).turns 1 (record { stamp = 1; turns = OTHER_AT_ONCE } ∷ [])
other_agrees =
    pen_one TWO_CORES BOTH_HISTORY (past_of TWO_TOLD).turns 1 (other_fsync reply.Ok (Some 5)) (record { 0 = 0 })
    (other_live (own_fsync reply.Ok (Some 8)) reply.Ok (Some 5)) refl
    (other_only reply.Ok reply.Ok (Some 8) (Some 5)) OTHER_AT_ONCE some_turns
    (other_is _ _ _ _ _, (other_is _ _ _ _ _, (other_is _ _ _ _ _, tt)))
    (goes_with 2 (omega arith) at_once OTHER_AT_ONCE refl (refl, (refl, (refl, tt))))
    (never_durable (λ e. cc), (never_durable (λ e. cc), (λ e. refl, tt)))
    (never_stopped (inl refl))

pens_agree : PensAgree TWO_DIRECTORIES TWO_TOLD AT_ONCE_PENS
pens_agree = record {
  most = 0;
  cores = refl;
  own = two_cores;
  is = pens;
  agrees = agree;
  few = of_each (λ (turn : Turn). turn.faults ≤ 0) (past_of TWO_TOLD).turns
      (omega arith, (omega arith, (omega arith, (omega arith, (omega arith, (omega arith, tt))))));
}
  where
    pens : (core : ℕ) (fsyncs : List FsyncTurns) → slice_get AT_ONCE_PENS core ≡ Some fsyncs → IsPenOf core TWO_TOLD.log fsyncs
    pens zero fsyncs e = subst (IsPenOf 0 TWO_TOLD.log) (some_same e) (record { rests = inl refl; told = refl })
    pens (suc zero) fsyncs e = subst (IsPenOf 1 TWO_TOLD.log) (some_same e) (record { rests = inl refl; told = refl })
    pens (suc (suc core)) fsyncs e = absurd (none_some e)

    agree : (core : ℕ) (fsyncs : List FsyncTurns) → slice_get AT_ONCE_PENS core ≡ Some fsyncs
        → PenAgrees TWO_CORES BOTH_HISTORY (past_of TWO_TOLD).turns core fsyncs
    agree zero fsyncs e = subst (PenAgrees TWO_CORES BOTH_HISTORY (past_of TWO_TOLD).turns 0) (some_same e) own_agrees
    agree (suc zero) fsyncs e = subst (PenAgrees TWO_CORES BOTH_HISTORY (past_of TWO_TOLD).turns 1) (some_same e) other_agrees
    agree (suc (suc core)) fsyncs e = absurd (none_some e)

turns_of_them : AreTurnsOf TWO_NUMBERED (past_of TWO_TOLD).turns
turns_of_them turn one did =
    of_each (λ (turn : Turn). (bringing_under TWO_NUMBERED.pairs turn.stamp.0).flush ≡ flush_at turn) (past_of TWO_TOLD).turns
    (refl, (refl, (refl, (refl, (refl, (refl, tt)))))) turn one

-- labels that are all told of a disk as it is
abbrev pub AllToldOf : List (Event Label) → View → Type 0
AllToldOf [] disk = Unit {0}
AllToldOf (Called entry ∷ log) disk = ⊥
AllToldOf (Told core fact ∷ log) disk = IsToldOf fact disk × AllToldOf log disk

pub told_fit : (disk : View) → KeepsLaws disk → (log : List (Event Label)) (past : BoxPast) → PastFits TWELVE_BLOCKS 0 past → MayFrom TWELVE_BLOCKS 0 log past
    → AllToldOf log disk → RunFits TWELVE_BLOCKS 5 past disk → RunFits TWELVE_BLOCKS 5 (past_from TWELVE_BLOCKS log past) disk
told_fit disk laws [] past fits may told run = run
told_fit disk laws (Called entry ∷ log) past fits may told run = absurd told
told_fit disk laws (Told core fact ∷ log) past fits may told run =
    told_fit disk laws log (after_label TWELVE_BLOCKS core.0 fact past)
    (lawful_fits TWELVE_BLOCKS 0 (Told core fact ∷ []) past fits (may.0, tt)) may.1 told.1
    (told_labels_fit disk TWELVE_BLOCKS 0 core.0 5 fact past fits may.0.1 told.0 laws run)

-- the layout is one of twelve blocks
pub layout_fits : IsLayout 12 TWELVE_BLOCKS
layout_fits = record {
  ranges = record {
    blocks = omega arith;
    inodes_low = omega arith;
    inodes_high = omega arith;
    cores_low = omega arith;
    cores_high = omega arith;
    slots_low = omega arith;
    slots_high = omega arith;
  };
  room = omega arith;
  within = omega arith;
}

module _ (share : ℕ) (image : List ℕ) (is : IsTwoImage image) where
  pub laws : (now : ℕ) → now < 2 ^ 64 → KeepsLaws (still_disk image now)
  laws now fits = record {
    whole = λ content told. subst (λ c. length c ≡ 4096 * 12) (some_same told) is.whole;
    read_is_left = λ content told. sym (some_same told);
    now_fits = fits;
  }

  -- a sync that fails leaves all as it is, but for the count of calls
  pub sync_fails : (now later : ℕ) → later ≡ min (now + 1) (2 ^ 64 - 1) → Syncs false (still_disk image now) (still_disk image later)
  sync_fails now later counted = record {
    ok = λ never. absurd (true_not_false (sym never));
    err = λ failed other. (λ it. it, λ it. it);
    content = refl;
    time = record { counted = counted; past = λ k other low. (λ it. it, λ it. it) };
    size = refl;
  }

  began : BeganWith TWELVE_BLOCKS TWO_PARTS 5 (still_disk image 8)
  began = record {
    fits = layout_fits;
    counts = omega arith;
    left = λ other same. subst (IsImageOf TWELVE_BLOCKS nothing_open TWO_PARTS) (sym same) is.stands;
  }

  abbrev past_five : BoxPast
  past_five = past_from TWELVE_BLOCKS UP_TO_THE_FIFTH (first_past 5)

  run_at_five : RunFits TWELVE_BLOCKS 5 (past_from TWELVE_BLOCKS UP_TO_THE_FIFTH (first_past 5)) (still_disk image 5)
  run_at_five =
      told_fit (still_disk image 5) (laws 5 (omega arith)) UP_TO_THE_FIFTH (first_past 5) (first_fits TWELVE_BLOCKS 0 5) may_five
      (tt, (tt, (tt, (tt, (tt, (refl, (tt, tt)))))))
      (first_runs_fit (still_disk image 5) TWELVE_BLOCKS (omega arith))

  run_at_eight : RunFits TWELVE_BLOCKS 5 (past_of TWO_TOLD) (still_disk image 8)
  run_at_eight =
      told_fit (still_disk image 8) (laws 8 (omega arith)) AT_THE_EIGHTH past_five
      (lawful_fits TWELVE_BLOCKS 0 UP_TO_THE_FIFTH (first_past 5) (first_fits TWELVE_BLOCKS 0 5) may_five) may_eight (tt, (refl, (tt, tt)))
      (failed_syncs_fit (still_disk image 7) (still_disk image 8) TWELVE_BLOCKS 5 past_five (sync_fails 7 8 refl) (laws 7 (omega arith))
      (failed_syncs_fit (still_disk image 6) (still_disk image 7) TWELVE_BLOCKS 5 past_five (sync_fails 6 7 refl) (laws 6 (omega arith))
      (failed_syncs_fit (still_disk image 5) (still_disk image 6) TWELVE_BLOCKS 5 past_five (sync_fails 5 6 refl) (laws 5 (omega arith)) run_at_five)))

  ends : EndsMount TWO_DIRECTORIES ENTRIES TWO_NUMBERED TWO_TOLD (still_disk image 8)
  ends = record {
    labels = labels_stand_told;
    none = refl;
    turns = turns_of_them;
    run = run_at_eight;
    began = began;
    tells = record { content = image; tells = refl; counts = omega arith; laws = laws 8 (omega arith) };
  }

  closes : TwoMountsClose share image
  closes =
      let close = table_mounts_close (still_disk image 8) share TWO_DIRECTORIES ENTRIES TWO_NUMBERED TWO_TOLD AT_ONCE_PENS ends pens_agree in
      record { labels = labels_stand_told; pens = pens_agree; ends = ends; survives = close.0; reads = close.1 }

pub two_cores_close : TwoCoresClose
two_cores_close share image is = closes share image is
