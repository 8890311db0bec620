-- What is so of an image that shows a front of the record.
use Rattle.std.proofs.Common.{◌++◌, ◌≡◌, ◌∷◌, ◌∙◌, ◌≢◌, ◌<◌, List, ℕ, [], refl, map, filter, sym, inr, ap, inl, subst}
use Rattle.std.proofs.lemmas.List.{map-append}
use Rattle.sfs_image.specs.ImageOf.{IsImageOf, with_opened}
use Rattle.sfs_image.specs.Super.{Layout}
use Rattle.sfs_dev.specs.Disk.{View}
use Rattle.tree_laws.specs.declared.history.Entry.{Entry}
use Rattle.tree_laws.specs.declared.turns.Turn.{Turn}
use Rattle.tree_laws.specs.Laws.{IsSoundTree}
use Rattle.tree_laws.specs.History.{IsLegal}
use Rattle.tree_laws.specs.Tree.{TreeState}
use Rattle.image_laws.specs.Image.{IsReadAsTree}
use Rattle.disk_nodes.specs.declared.old.OldEntry.{OldEntry}
use Rattle.cut_laws.specs.Closure.{Flush, AreFlushed, every_entry, HasLiveNode}
use Rattle.cut_laws.specs.Rules.{IsOneOf}
use Rattle.cut_laws.specs.Cut.{tree_at_cut}
use Rattle.cut_laws.proofs.RunFacts.{in_filter}
use Rattle.cut_laws.proofs.Basics.{in_left, in_either}
use Rattle.cut_laws.proofs.Listed.{from_map, to_map}
use Rattle.crash_laws.specs.Listed.{StampsDiffer, IsListedFsync}
use Rattle.flush_laws.specs.Volume.{Volume, tree_held}
use Rattle.merge_laws.specs.LeftByTurns.{TellInTime}
use Rattle.merge_laws.specs.Plays.{durables}
use Rattle.book_laws.specs.Brings.{Bringing, BringApart, Brings}
use Rattle.book_laws.specs.Imagined.{AllApart, Imagines, IsImagined, flush_brought}
use Rattle.book_laws.proofs.Imagined.{all_end, imagined_are_those}
use Rattle.book_laws.specs.Walk.{brought_under}
use Rattle.book_laws.specs.Pairs.{IsOpenBeside, commit_under, bringing_under}
use Rattle.book_laws.proofs.Ended.{bring_apart}
use Rattle.slot_image_laws.specs.Images.{RunStart, LeavesPrefixes, Shows, disk_books}
use Rattle.slot_image_laws.proofs.Running.{records_are_left}
use Rattle.imagined_laws.specs.Parts.{parts_once, StandsFor}
use Rattle.imagined_laws.proofs.Parts.{images_are_read}
use Rattle.close_laws.specs.Maps.{Telling, past_of, Numbered, bringing_of}
use Rattle.close_laws.specs.Beside.{run_told}
use Rattle.close_laws.proofs.Beginning.{commits_begin_well}
use Rattle.close_laws.specs.Fronts.{DifferBy, AreOneRecord, IsOneRecord}
use Rattle.close_laws.specs.Close.{EndsMount}
use Rattle.close_laws.proofs.Records.{labels_are_one_record}
use Rattle.close_laws.proofs.Flying.{differ_fewer}
use Rattle.close_laws.proofs.Lists.{once_both, kept_once, stamps_apart, differ_both, mapped_differ}

module _ (start : Volume) (entries : List OldEntry) (named : Numbered) (told : Telling) (disk : View) (ends : EndsMount start entries named told disk)
    (tell : TellInTime start.history (past_of told).turns) where
  abbrev turns : List Turn
  turns = (past_of told).turns

  abbrev run : RunStart
  run = run_told start named told

  abbrev history : List Entry
  history = start.history

  pub fronts : AreOneRecord start named run turns
  fronts = labels_are_one_record start entries named told ends.labels ends.turns

  pub leaves : LeavesPrefixes run turns disk
  leaves = records_are_left disk run (past_of told) ends.run ends.began (commits_begin_well start entries named told ends.labels)

  pub sound : IsSoundTree start.first
  sound = ends.labels.begins.walk.stands.between.history_is.sound

  pub legal : IsLegal start.first history
  legal = ends.labels.begins.walk.stands.between.history_is.legal

  -- what is so of an image that shows a front
  module _ (share : ℕ) (image : List ℕ) (front back : List Turn) (split : turns ≡ front ++ back)
      (shows : Shows run.gives run.layout (disk_books run front) image) where
    at : IsOneRecord start named run front
    at = fronts front back split

    numbers : List ℕ
    numbers = filter shows.kept (disk_books run front).flying

    bringings : List Bringing
    bringings = map (bringing_of named) (filter shows.kept (disk_books run front).flying)

    brought : List Bringing
    brought = brought_under named.pairs (fronts front back split).done

    flying_of : (number : ℕ) → IsOneOf (filter shows.kept (disk_books run front).flying) number → IsOneOf (disk_books run front).flying number
    flying_of number one = (in_filter shows.kept (disk_books run front).flying number one).0

    open_of : (number : ℕ) → IsOneOf (filter shows.kept (disk_books run front).flying) number
        → IsOpenBeside (fronts front back split).place.volume (map (commit_under named.pairs) (fronts front back split).done)
        (named.pairs (named.stamps number))
    open_of number one =
        (fronts front back split).place.beside.opens (named.stamps number) ((fronts front back split).flies number (flying_of number one)).0

    all_apart : (some : List ℕ) → DifferBy named.stamps some
        → ((number : ℕ) → IsOneOf some number → IsOneOf (filter shows.kept (disk_books run front).flying) number)
        → AllApart (map (bringing_of named) some)
    all_apart [] differ within = tt
    all_apart (number ∷ some) differ within = (
      (λ other one.
          let from = from_map (bringing_of named) some other one in
          let mine = within from.0 (inr from.1) in
          let theirs = within number (inl refl) in
          subst (λ b. BringApart b (bringing_of named number)) from.2
          (bring_apart (named.pairs (named.stamps from.0)) (named.pairs (named.stamps number)) (open_of from.0 mine).nodes (open_of number theirs).nodes
          ((fronts front back split).place.beside.apart (named.stamps from.0) (named.stamps number)
          ((fronts front back split).flies from.0 (flying_of from.0 mine)).0
          ((fronts front back split).flies number (flying_of number theirs)).0 (differ.0 from.0 from.1)))),
      all_apart some differ.1 (λ other one. within other (inr one)),
    )

    pub later : (volume : Volume) × Imagines start
        (brought_under named.pairs (fronts front back split).done ++ map (bringing_of named) (filter shows.kept (disk_books run front).flying)) volume
    later =
        all_end start (fronts front back split).place.volume (brought_under named.pairs (fronts front back split).done)
        (map (bringing_of named) (filter shows.kept (disk_books run front).flying)) (record {
          imagines = (fronts front back split).place.imagines;
          brings = λ one among.
              let from = from_map (bringing_of named) (filter shows.kept (disk_books run front).flying) one among in
              subst (Brings (fronts front back split).place.volume) from.2 (open_of from.0 from.1).brings;
          apart = all_apart (filter shows.kept (disk_books run front).flying)
              (differ_fewer named.stamps shows.kept (disk_books run front).flying (fronts front back split).once.1) (λ number one. one);
        })

    abbrev all_brought_there : List Bringing
    all_brought_there = brought_under named.pairs (fronts front back split).done ++ map (bringing_of named) (filter shows.kept (disk_books run front).flying)

    imagined : IsImagined start all_brought_there later.0
    imagined = imagined_are_those start later.0 all_brought_there ends.labels.begins.walk.stands later.1

    stands_for : StandsFor start.layout (parts_once all_brought_there start.parts) image
    stands_for = record {
      opened = shows.opened;
      below = shows.table;
      image_of = subst (λ l. IsImageOf l shows.opened shows.table image) (sym ends.labels.begins.layout_is) shows.stands;
      same = λ i within.
          ap (λ l. with_opened l shows.opened shows.table i) ends.labels.begins.layout_is
          ∙ (shows.parts i (subst (λ (l : Layout). i < l.inodes) ends.labels.begins.layout_is within)
          ∙ ap (λ f. f i)
          (kept_once named shows.kept (disk_books run front).flying (disk_books run front).base
          ∙ (ap (parts_once (map (bringing_of named) (filter shows.kept (disk_books run front).flying))) (fronts front back split).base
          ∙ sym (once_both (brought_under named.pairs (fronts front back split).done)
          (map (bringing_of named) (filter shows.kept (disk_books run front).flying)) start.parts))));
    }

    pub read_there : IsReadAsTree image share (tree_held later.0)
    read_there =
        images_are_read start later.0 all_brought_there image share
        (record { stands = ends.labels.begins.walk.stands; spelled = ends.labels.begins.spelled }) later.1 stands_for

    same_first : later.0.first ≡ start.first
    same_first = imagined.first

    flushes_are : later.0.flushes ≡ durables front ++ map flush_brought (map (bringing_of named) (filter shows.kept (disk_books run front).flying))
    flushes_are =
        imagined.flushes
        ∙ (ap (λ l. l ++ map flush_brought all_brought_there) ends.none
        ∙ (map-append flush_brought (brought_under named.pairs (fronts front back split).done)
        (map (bringing_of named) (filter shows.kept (disk_books run front).flying))
        ∙ ap (λ l. l ++ map flush_brought (map (bringing_of named) (filter shows.kept (disk_books run front).flying))) (fronts front back split).flushes))

    pub flushed_there : AreFlushed start.first history every_entry
        (durables front ++ map flush_brought (map (bringing_of named) (filter shows.kept (disk_books run front).flying))) later.0.cut later.0.inodes
    flushed_there =
        subst (λ l. AreFlushed start.first history every_entry l later.0.cut later.0.inodes) flushes_are
        (subst (λ (p : TreeState × List Entry). AreFlushed p.0 p.1 every_entry later.0.flushes later.0.cut later.0.inodes)
        (λ i. (imagined.first i, imagined.history i)) imagined.stands.between.flushed)

    pub tree_there : tree_held later.0 ≡ tree_at_cut start.first history later.0.cut
    tree_there = ap (λ (p : TreeState × List Entry). tree_at_cut p.0 p.1 later.0.cut) (λ i. (imagined.first i, imagined.history i))

    pub live_there : (flush : Flush)
        → IsOneOf (durables front ++ map flush_brought (map (bringing_of named) (filter shows.kept (disk_books run front).flying))) flush
        → HasLiveNode start.first history flush
    live_there flush one =
        subst (λ (p : TreeState × List Entry). HasLiveNode p.0 p.1 flush) (λ i. (imagined.first i, imagined.history i))
        (imagined.stands.among.live flush (subst (λ l. IsOneOf l flush) (sym flushes_are) one))

    -- all of them by their stamps
    abbrev all_stamps : List ℕ
    all_stamps = (fronts front back split).done ++ map named.stamps (filter shows.kept (disk_books run front).flying)

    kept_flushes : (some : List ℕ) → map flush_brought (map (bringing_of named) some) ≡ map (λ s. (bringing_under named.pairs s).flush) (map named.stamps some)
    kept_flushes [] = refl
    kept_flushes (number ∷ some) = ap (λ l. (bringing_of named number).flush ∷ l) (kept_flushes some)

    done_flushes : (some : List ℕ) → map flush_brought (brought_under named.pairs some) ≡ map (λ s. (bringing_under named.pairs s).flush) some
    done_flushes [] = refl
    done_flushes (stamp ∷ some) = ap (λ l. (bringing_under named.pairs stamp).flush ∷ l) (done_flushes some)

    by_stamps : durables front ++ map flush_brought (map (bringing_of named) (filter shows.kept (disk_books run front).flying))
        ≡ map (λ s. (bringing_under named.pairs s).flush) all_stamps
    by_stamps =
        ap (λ (p : List Flush × List Flush). p.0 ++ p.1)
        (λ i. (
          (sym (fronts front back split).flushes ∙ done_flushes (fronts front back split).done) i,
          kept_flushes (filter shows.kept (disk_books run front).flying) i,
        ))
        ∙ sym (map-append (λ s. (bringing_under named.pairs s).flush) (fronts front back split).done
        (map named.stamps (filter shows.kept (disk_books run front).flying)))

    own_stamp : (stamp : ℕ) → IsOneOf all_stamps stamp → (bringing_under named.pairs stamp).flush.stamp ≡ stamp
    own_stamp stamp one = elim (in_either (fronts front back split).done (map named.stamps (filter shows.kept (disk_books run front).flying)) stamp one) [
      | inl old ↦ (fronts front back split).own stamp old
      | inr kept ↦
          let from = from_map named.stamps (filter shows.kept (disk_books run front).flying) stamp kept in
          let was = ((fronts front back split).flies from.0 (flying_of from.0 from.1)).1 in
          subst (λ s. (bringing_under named.pairs s).flush.stamp ≡ s) from.2 (ap (λ (f : Flush). f.stamp) was.own ∙ was.stamp_is)
    ]

    pub stamps_differ_there : StampsDiffer (durables front ++ map flush_brought (map (bringing_of named) (filter shows.kept (disk_books run front).flying)))
    stamps_differ_there =
        subst StampsDiffer (sym by_stamps)
        (stamps_apart (λ s. (bringing_under named.pairs s).flush) all_stamps
        (differ_both (fronts front back split).done (map named.stamps (filter shows.kept (disk_books run front).flying)) (fronts front back split).once.0
        (mapped_differ named.stamps (filter shows.kept (disk_books run front).flying)
        (differ_fewer named.stamps shows.kept (disk_books run front).flying (fronts front back split).once.1)) cross) own_stamp)
      where
        cross : (x y : ℕ) → IsOneOf (fronts front back split).done x → IsOneOf (map named.stamps (filter shows.kept (disk_books run front).flying)) y → y ≢ x
        cross x y old kept same =
            let from = from_map named.stamps (filter shows.kept (disk_books run front).flying) y kept in
            (open_of from.0 from.1).later.other_number (commit_under named.pairs x)
            (to_map (commit_under named.pairs) (fronts front back split).done x old)
            (ap (λ s. (commit_under named.pairs s).number) (sym same ∙ sym from.2))

    pub kept_listed : (flush : Flush) → IsOneOf (map flush_brought (map (bringing_of named) (filter shows.kept (disk_books run front).flying))) flush
        → IsListedFsync history flush
    kept_listed flush one =
        let bringing = from_map flush_brought (map (bringing_of named) (filter shows.kept (disk_books run front).flying)) flush one in
        let from = from_map (bringing_of named) (filter shows.kept (disk_books run front).flying) bringing.0 bringing.1 in
        let was = ((fronts front back split).flies from.0 (flying_of from.0 from.1)).1 in
        let among : IsOneOf turns was.turn = subst (λ l. IsOneOf l was.turn) (sym split) (in_left front back was.turn was.among) in
        subst (IsListedFsync history) (sym was.own ∙ (ap flush_brought from.2 ∙ bringing.2)) (tell.tell.answered was.turn among was.did)
