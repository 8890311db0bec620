-- Each image that a crash may leave is safe, and a read at the end gives exactly the durable fsyncs.
use Rattle.std.specs.FinMap.{get}
use Rattle.std.proofs.Common.{◌++◌, ◌≡◌, ◌∷◌, ◌∙◌, ◌<◌, ◌≤◌, List, ℕ, [], refl, map, filter, true, sym, inr, ap, inl, All, nat_le, arith, subst, IsSome, append-nil, append_assoc}
use Rattle.std.proofs.lemmas.Bool.Decides.{nat_tests}
use Rattle.std.proofs.lemmas.List.Elements.{filter-append, filter_map-append}
use Rattle.sfs_base.proofs.BasicOptions.{some_same}
use Rattle.sfs_dev.specs.Disk.{View, LeftSince}
use Rattle.tree_laws.specs.declared.history.Entry.{Entry}
use Rattle.tree_laws.specs.declared.turns.Turn.{Turn}
use Rattle.image_laws.specs.Image.{IsReadAsTree}
use Rattle.disk_nodes.specs.declared.old.OldEntry.{OldEntry}
use Rattle.cut_laws.specs.Closure.{Flush, AreFlushed, every_entry, HasLiveNode, HasNode}
use Rattle.cut_laws.specs.Rules.{IsOneOf}
use Rattle.cut_laws.specs.Cut.{tree_at_cut}
use Rattle.cut_laws.specs.Covers.{IsAcknowledged}
use Rattle.cut_laws.proofs.Lists.{lists_keep, histories_are_covered}
use Rattle.cut_laws.proofs.Basics.{in_left, in_right, in_either}
use Rattle.cut_laws.proofs.Listed.{from_map, to_map, to_filter}
use Rattle.cut_laws.proofs.Along.{tree_at-after}
use Rattle.cut_laws.proofs.Prefixes.{live_node}
use Rattle.crash_laws.specs.Survives.{HasFailure}
use Rattle.crash_laws.specs.Listed.{IsListedFsync, MayBeWritten}
use Rattle.flush_laws.specs.Volume.{Volume}
use Rattle.turn_laws.specs.Books.{flush_at}
use Rattle.turn_laws.specs.LawsTurns.{durable_flush}
use Rattle.merge_laws.specs.LeftByTurns.{TellInTime, IsReadByTurns, SurvivesByTurns, TimesRise, IsSafeByTurns, turns_until}
use Rattle.merge_laws.specs.Plays.{durables}
use Rattle.merge_laws.specs.Laws.{IsFrontUntil}
use Rattle.merge_laws.proofs.ByTurns.{of_durables, to_durables, moments_cut_turns}
use Rattle.book_laws.specs.Brings.{Bringing}
use Rattle.book_laws.specs.Imagined.{flush_brought}
use Rattle.book_laws.specs.Walk.{brought_under}
use Rattle.book_laws.specs.Pairs.{commit_under, bringing_under}
use Rattle.slot_image_laws.specs.Run.{RisesFrom}
use Rattle.slot_image_laws.specs.Images.{RunStart, Shows, disk_books}
use Rattle.close_laws.specs.Maps.{Telling, past_of, Numbered, bringing_of}
use Rattle.close_laws.specs.Beside.{run_told}
use Rattle.close_laws.specs.Fronts.{IsOneRecord}
use Rattle.close_laws.specs.Close.{EndsMount}
use Rattle.close_laws.proofs.Lists.{none_until}
use Rattle.close_laws.proofs.Shown.{sound, legal, leaves, later, flushed_there, live_there, stamps_differ_there, tree_there, read_there, kept_listed, fronts}

module _ (start : Volume) (entries : List OldEntry) (named : Numbered) (told : Telling) (disk : View) (ends : EndsMount start entries named told disk)
    (tell : TellInTime start.history (past_of told).turns) where
  abbrev turns : List Turn
  turns = (past_of told).turns

  abbrev run : RunStart
  run = run_told start named told

  abbrev history : List Entry
  history = start.history

  -- the node of a live fsync is there
  node_there : (flush : Flush) → HasLiveNode start.first history flush → HasNode start.first history flush
  node_there flush live =
      subst (λ tree. IsSome (get tree.nodes flush.node)) (tree_at-after start.first history flush.stamp)
      (live_node start.first history (sound start entries named told disk ends tell) (legal start entries named told disk ends tell) flush live flush.stamp
      (omega arith))

  -- a durable fsync is listed
  durable_listed : (some : List Turn) → ((turn : Turn) → IsOneOf some turn → IsOneOf turns turn) → (flush : Flush) → IsOneOf (durables some) flush
      → IsListedFsync history flush
  durable_listed some within flush one =
      let is = of_durables some flush one in
      let acked = tell.tell.durable is.0 (within is.0 is.1) is.2 in
      subst (IsListedFsync history) is.3 (listed_so (flush_at is.0) is.0.now acked)
    where
      listed_so : (own : Flush) (ack : ℕ) → IsAcknowledged history own ack → IsListedFsync history own
      listed_so own ack is = record {
        entry = is.entry;
        among = is.among;
        fsync = record { node = is.node; asked = is.asked; own = is.own };
        answered = subst MayBeWritten (sym is.answered) tt;
      }

  rises_front : (front back : List Turn) → TimesRise (front ++ back) → TimesRise front
  rises_front [] back rises = tt
  rises_front (turn ∷ front) back rises = ((λ later one. rises.0 later (in_left front back later one)), rises_front front back rises.1)

  safe_image : (share moment : ℕ) (image : List ℕ) → told.moment ≤ moment → LeftSince disk moment image
      → IsSafeByTurns share start.first history turns moment image
  safe_image share moment image from left =
      let shown = leaves start entries named told disk ends tell ends.tells.content ends.tells.tells ends.tells.counts moment image from left in
      of_front shown.front shown.back shown.split shown.later shown.shows
    where
      of_front : (front back : List Turn) (split : turns ≡ front ++ back) → All (λ (turn : Turn). moment < turn.now) back
          → (shows : Shows run.gives run.layout (disk_books run front) image) → IsSafeByTurns share start.first history turns moment image
      of_front front back split late shows = record {
        flushes = durables front ++ map flush_brought (map (bringing_of named) (filter shows.kept (disk_books run front).flying));
        cut = (later start entries named told disk ends tell share image front back split shows).0.cut;
        inodes = (later start entries named told disk ends tell share image front back split shows).0.inodes;
        closed = (lists_keep start.first history all (later start entries named told disk ends tell share image front back split shows).0.cut
            (later start entries named told disk ends tell share image front back split shows).0.inodes (sound start entries named told disk ends tell)
            (legal start entries named told disk ends tell)
            (flushed_there start entries named told disk ends tell share image front back split shows)).kept.closed;
        covers = histories_are_covered start.first history all (later start entries named told disk ends tell share image front back split shows).0.cut
            (later start entries named told disk ends tell share image front back split shows).0.inodes
            moment (sound start entries named told disk ends tell) (legal start entries named told disk ends tell)
            (flushed_there start entries named told disk ends tell share image front back split shows)
            (λ flush one. node_there flush (live_there start entries named told disk ends tell share image front back split shows flush one)) covered;
        begins = record {
          others = others;
          whole = whole;
          answered = answered;
          once =
              stamps_differ_there start entries named told disk ends tell share image front back split shows;
        };
        raised = flushed_there start entries named told disk ends tell share image front back split shows;
        read = subst (IsReadAsTree image share) (tree_there start entries named told disk ends tell share image front back split shows)
            (read_there start entries named told disk ends tell share image front back split shows);
      }
        where
          all : List Flush
          all = durables front ++ map flush_brought (map (bringing_of named) (filter shows.kept (disk_books run front).flying))

          front_rises : TimesRise front
          front_rises = rises_front front back (subst TimesRise split tell.rise)

          cut_front : IsFrontUntil front moment
          cut_front = moments_cut_turns front moment front_rises

          until_is : turns_until moment turns ≡ turns_until moment front
          until_is =
              ap (turns_until moment) split
              ∙ (filter-append (λ (turn : Turn). nat_le turn.now moment) front back
              ∙ (ap (λ l. turns_until moment front ++ l) (none_until moment back late) ∙ append-nil (turns_until moment front)))

          durables_front : durables front ≡ durables (turns_until moment turns) ++ durables cut_front.behind
          durables_front =
              ap durables cut_front.whole
              ∙ (filter_map-append durable_flush (turns_until moment front) cut_front.behind
              ∙ ap (λ l. durables l ++ durables cut_front.behind) (sym until_is))

          others : List Flush
          others = durables cut_front.behind ++ map flush_brought (map (bringing_of named) (filter shows.kept (disk_books run front).flying))

          whole : all ≡ durables (turns_until moment turns) ++ others
          whole =
              ap (λ l. l ++ map flush_brought (map (bringing_of named) (filter shows.kept (disk_books run front).flying))) durables_front
              ∙ append_assoc (durables (turns_until moment turns)) (durables cut_front.behind)
              (map flush_brought (map (bringing_of named) (filter shows.kept (disk_books run front).flying)))

          behind_within : (turn : Turn) → IsOneOf cut_front.behind turn → IsOneOf turns turn
          behind_within turn one =
              subst (λ l. IsOneOf l turn) (sym split)
              (in_left front back turn (subst (λ l. IsOneOf l turn) (sym cut_front.whole) (in_right (turns_until moment front) cut_front.behind turn one)))

          answered : (flush : Flush) → IsOneOf others flush → IsListedFsync history flush
          answered flush one =
              elim (in_either (durables cut_front.behind)
              (map flush_brought (map (bringing_of named) (filter shows.kept (disk_books run front).flying))) flush one) [
                | inl old ↦ durable_listed cut_front.behind behind_within flush old
                | inr kept ↦ kept_listed start entries named told disk ends tell share image front back split shows flush kept
              ]

          covered : (flush : Flush) (ack : ℕ) → IsAcknowledged history flush ack → ack ≤ moment → IsOneOf all flush
          covered flush ack acked le =
              let was = tell.tell.acknowledged flush ack acked in
              subst (λ l. IsOneOf l flush) (sym whole)
              (in_left (durables (turns_until moment turns)) others flush
              (subst (IsOneOf (durables (turns_until moment turns))) was.own
              (to_durables (turns_until moment turns) was.turn
              (to_filter (λ (t : Turn). nat_le t.now moment) turns was.turn was.among
              (by_now was.turn.now (subst (λ n. n ≤ moment) (sym was.now) le))) was.did)))
            where
              by_now : (now : ℕ) → now ≤ moment → nat_le now moment ≡ true
              by_now now low = grind (arith, nat_tests, low)

  pub survives : (share : ℕ) → SurvivesByTurns share told.moment start.first history turns disk
  survives share moment image from le left = safe_image share moment image from left

  -- the last moment of turns that rise
  from_to : (from to : ℕ) (some : List Turn) → RisesFrom from some to → from ≤ to
  from_to from to [] le = le
  from_to from to (turn ∷ some) rises = omega (arith, rises.0, from_to turn.now to some rises.1)

  rises_to : (from to : ℕ) (some : List Turn) → RisesFrom from some to → (turn : Turn) → IsOneOf some turn → turn.now ≤ to
  rises_to from to [] rises turn one = absurd one
  rises_to from to (turn ∷ some) rises other (inl same) = subst (λ (t : Turn). t.now ≤ to) same (from_to turn.now to some rises.1)
  rises_to from to (turn ∷ some) rises other (inr one) = rises_to turn.now to some rises.1 other one

  empty_of : (some : List ℕ) → ((number : ℕ) → IsOneOf some number → ⊥) → some ≡ []
  empty_of [] never = refl
  empty_of (number ∷ some) never = absurd (never number (inl refl))

  -- where no fsync has failed
  module _ (share : ℕ) (none_failed : HasFailure history → ⊥) where
    abbrev last : IsOneRecord start named run turns
    last = fronts start entries named told disk ends tell turns [] (sym (append-nil turns))

    -- no commit flies at the end
    none_fly : (number : ℕ) → IsOneOf (disk_books run turns).flying number → ⊥
    none_fly number one =
        let flies = last.flies number one in
        let was = flies.1 in
        let lands = tell.tell.lands none_failed was.turn was.among was.did in
        let among : IsOneOf turns lands.landing = subst (λ l. IsOneOf l lands.landing) (sym lands.whole)
        (in_right (lands.front ++ was.turn ∷ lands.between) (lands.landing ∷ lands.back) lands.landing (inl refl)) in
        let flush : IsOneOf (durables turns) (flush_at lands.landing) = to_durables turns lands.landing among lands.did in
        let bringing = from_map flush_brought (brought_under named.pairs last.done) (flush_at lands.landing)
        (subst (λ l. IsOneOf l (flush_at lands.landing)) (sym last.flushes) flush) in
        let stamp = from_map (bringing_under named.pairs) last.done bringing.0 bringing.1 in
        let own : (bringing_under named.pairs stamp.0).flush.stamp ≡ stamp.0 = last.own stamp.0 stamp.1 in
        let same : stamp.0 ≡ named.stamps number =
        sym own ∙ (ap (λ (b : Bringing). b.flush.stamp) stamp.2 ∙ (ap (λ (f : Flush). f.stamp) (bringing.2 ∙ lands.own) ∙ was.stamp_is)) in
        (last.place.beside.opens (named.stamps number) flies.0).later.other_number (commit_under named.pairs stamp.0)
        (to_map (commit_under named.pairs) last.done stamp.0 stamp.1) (ap (λ s. (commit_under named.pairs s).number) same)

    pub reads : IsReadByTurns share start.first history turns disk
    reads =
        let image = ends.tells.content in
        let in_run = from_to told.moment disk.now turns ends.run.rises in
        let left : LeftSince disk disk.now image = (disk.now, omega arith, omega arith, ends.tells.laws.read_is_left image ends.tells.tells) in
        let shown = leaves start entries named told disk ends tell image ends.tells.tells ends.tells.counts disk.now image in_run left in
        of_front shown.front shown.back shown.split shown.later shown.shows
      where
        none_behind : (front back : List Turn) → turns ≡ front ++ back → All (λ (turn : Turn). disk.now < turn.now) back → back ≡ []
        none_behind front [] split late = refl
        none_behind front (turn ∷ back) split late =
            let low = rises_to told.moment disk.now turns ends.run.rises turn
            (subst (λ l. IsOneOf l turn) (sym split) (in_right front (turn ∷ back) turn (inl refl))) in
            let high = late 0 turn (omega arith) in
            absurd (omega (arith, low, high))

        of_all : (front : List Turn) (whole : turns ≡ front) (split : turns ≡ front ++ [])
            (shows : Shows run.gives run.layout (disk_books run front) ends.tells.content)
            → IsReadByTurns share start.first history turns disk
        of_all front whole split shows =
            let nothing : filter shows.kept (disk_books run front).flying ≡ [] =
            ap (filter shows.kept) (empty_of (disk_books run front).flying
            (subst (λ f. (number : ℕ) → IsOneOf (disk_books run f).flying number → ⊥) whole none_fly)) in
            let flushes : durables front ++ map flush_brought (map (bringing_of named) (filter shows.kept (disk_books run front).flying)) ≡ durables turns =
            ap (λ l. durables front ++ map flush_brought (map (bringing_of named) l)) nothing
            ∙ (append-nil (durables front) ∙ ap durables (sym whole)) in
            record {
              cut = (later start entries named told disk ends tell share ends.tells.content front [] split shows).0.cut;
              inodes = (later start entries named told disk ends tell share ends.tells.content front [] split shows).0.inodes;
              raised = subst
                  (λ l. AreFlushed start.first history every_entry l
                  (later start entries named told disk ends tell share ends.tells.content front [] split shows).0.cut
                  (later start entries named told disk ends tell share ends.tells.content front [] split shows).0.inodes)
                  flushes (flushed_there start entries named told disk ends tell share ends.tells.content front [] split shows);
              read = λ content told_so.
                  subst
                  (λ bytes. IsReadAsTree bytes share
                  (tree_at_cut start.first history (later start entries named told disk ends tell share ends.tells.content front [] split shows).0.cut))
                  (some_same (sym ends.tells.tells ∙ told_so))
                  (subst (IsReadAsTree ends.tells.content share)
                  (tree_there start entries named told disk ends tell share ends.tells.content front [] split shows)
                  (read_there start entries named told disk ends tell share ends.tells.content front [] split shows));
            }

        of_front : (front back : List Turn) (split : turns ≡ front ++ back) → All (λ (turn : Turn). disk.now < turn.now) back
            → (shows : Shows run.gives run.layout (disk_books run front) ends.tells.content) → IsReadByTurns share start.first history turns disk
        of_front front back split late shows =
            let nothing = none_behind front back split late in
            of_all front (split ∙ (ap (λ l. front ++ l) nothing ∙ append-nil front)) (split ∙ ap (λ l. front ++ l) nothing) shows
