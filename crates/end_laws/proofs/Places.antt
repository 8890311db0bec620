-- What a mount's end says of each place of its labels: which of its fsyncs are done there, and that the run tells their commits.
use Rattle.std.proofs.Common.{◌≡◌, ◌++◌, ◌∙◌, List, [], subst, sym, append-nil, ap, ℕ, Some, map}
use Rattle.sfs_image.specs.Super.{Layout}
use Rattle.tree_laws.specs.declared.turns.Turn.{Turn}
use Rattle.tree_laws.specs.declared.turns.TurnAct.TheVariants as act
use Rattle.disk_change.specs.Directory.{is_among}
use Rattle.disk_change.specs.AllBuilt.{after_commit}
use Rattle.commit_laws.specs.CommitOfPlan.{change_planned}
use Rattle.cut_laws.specs.Rules.{IsOneOf}
use Rattle.cut_laws.proofs.Listed.{to_map, from_map}
use Rattle.beside_laws.specs.Commits.{CoreCommit}
use Rattle.beside_laws.specs.Answers.{asked}
use Rattle.flush_laws.specs.Volume.{Volume}
use Rattle.mark_laws.specs.Changed.{HasShortFiles}
use Rattle.book_laws.specs.Imagined.{Imagines}
use Rattle.book_laws.proofs.Imagined.{imagined_are_those}
use Rattle.book_laws.specs.Pairs.{commit_under, bringing_under}
use Rattle.reserve_laws.specs.Olds.{IsKeptIn, DoneBeside, AreDoneBeside}
use Rattle.stamp_table.specs.declared.event.Event.{Event}
use Rattle.mem_values.specs.Account.{Commitment, held_by}
use Rattle.mem_values.specs.declared.fact.HeldNode.{HeldNode}
use Rattle.note_laws.specs.Run.{TableRun, TellsCommit, AreToldIn}
use Rattle.note_laws.proofs.Saws.{told_one}
use Rattle.made_laws.specs.Tells.{IsMadeCommit, AreAllMade}
use Rattle.tell_laws.specs.Kept.{TellsDisk}
use Rattle.tell_laws.specs.Tells.{IsVolumeThere}
use Rattle.slot_laws.specs.Labels.{BoxPast, first_past, past_from}
use Rattle.slot_laws.specs.declared.label.Label.{Label}
use Rattle.slot_laws.specs.Nodes.{ReservedCommit}
use Rattle.slot_laws.proofs.NodesTold.{past_parts}
use Rattle.close_laws.specs.Maps.{Numbered, past_of, IsTold}
use Rattle.close_laws.specs.Beside.{stamps_under, brought_at, PairsAt}
use Rattle.close_laws.proofs.PensFit.{pens_tell_labels}
use Rattle.end_laws.specs.Mount.{MountEnd, MountEnds, AreNamedAlong, run_at}
use Rattle.end_laws.proofs.Landed.{pens, LandedAt, landed_at, pair_made, tells_pair, pair_nodes, ToldBy, pair_number, told_by, pair_keeps, turn_there, own_stamp}
use Rattle.end_laws.proofs.Lands.{PlaceOn, place_first, place_at, LandSo, LandedUnder}
use Rattle.end_laws.proofs.Later.{GoesOnFrom, goes_along, goes_first}
use Rattle.end_laws.proofs.Boxes.{made_of}

module _ (D : Type 0) (at : MountEnd) (named : Numbered) (ends : MountEnds D at) (are : AreNamedAlong at named) where
  abbrev pub run : TableRun
  run = run_at at

  abbrev layout : Layout
  layout = at.told.layout

  abbrev begun : BoxPast
  begun = first_past at.told.moment

  abbrev pub end_past : BoxPast
  end_past = past_of at.told

  pub told_labels : IsTold named at.told
  told_labels = pens_tell_labels named at.told (pens D at named ends are).pens

  abbrev pub PlaceHere : List (Event Label) → BoxPast → List (Event Label) → Type 0
  PlaceHere done past rest = PlaceOn named layout at.told.before at.told.first done past rest at.told.now

  place_begun : PlaceHere [] begun at.told.log
  place_begun =
      place_first named layout at.told.before at.told.first at.told.moment at.told.log at.told.now told_labels.along told_labels.stand told_labels.fit

  -- behind each front
  pub place_behind : (front back : List (Event Label)) → at.told.log ≡ front ++ back → PlaceHere front (past_from layout front begun) back
  place_behind front back whole =
      place_at named layout at.told.before at.told.first [] front back begun at.told.now (subst (λ l. PlaceHere [] begun l) whole place_begun)

  -- and at the end
  pub end_lands : LandSo named end_past.turns end_past.done
  end_lands = (place_behind at.told.log [] (sym (append-nil at.told.log))).lands

  -- the labels go on from each place to the end
  pub goes_to_end : (front back : List (Event Label)) → at.told.log ≡ front ++ back → GoesOnFrom (past_from layout front begun) end_past
  goes_to_end front back whole =
      let past = past_from layout front begun in
      subst (GoesOnFrom past)
      (sym (past_parts layout at.told.before front back begun) ∙ ap (λ l. past_from layout l begun) (sym whole))
      (goes_along layout at.told.before past past back (goes_first past) (place_behind front back whole).drawing.owing.may)

  -- a stamp under which a turn landed is that of an fsync which has told its commit
  pub landed_under : (stamp : ℕ) → LandedUnder end_past.turns stamp → LandedAt at stamp
  landed_under stamp landed = subst (LandedAt at) landed.stamp_is (landed_at D at named ends are landed.turn landed.among landed.durable)

  -- its pair is of what was made for it
  pub landed_made : (stamp : ℕ) → LandedAt at stamp → IsMadeCommit run (commit_under named.pairs stamp)
  landed_made stamp landed =
      subst (λ s. IsMadeCommit run (commit_under named.pairs s)) landed.stamp_is
      (pair_made D at named ends are landed.one landed.there landed.made landed.is)

  pub landed_tells : (stamp : ℕ) → LandedAt at stamp → (told : Commitment) × TellsCommit run (commit_under named.pairs stamp) told
  landed_tells stamp landed = (
    landed.told,
    subst (λ s. TellsCommit run (commit_under named.pairs s) landed.told) landed.stamp_is
        (tells_pair D at named ends are landed.one landed.there landed.made landed.is landed.told landed.tells),
  )

  pub landed_nodes : (stamp : ℕ) → LandedAt at stamp → (node : ℕ)
      → is_among (bringing_under named.pairs stamp).nodes node ≡ (commit_under named.pairs stamp).holds node
  landed_nodes stamp landed node =
      subst (λ s. is_among (bringing_under named.pairs s).nodes node ≡ (commit_under named.pairs s).holds node) landed.stamp_is
      (pair_nodes D at named ends are landed.one landed.there landed.made landed.is node)

  -- a told commit with the number of its pair's is that fsync's
  same_fsync_told : (stamp : ℕ) → LandedAt at stamp → (told : Commitment) → TellsCommit run (commit_under named.pairs stamp) told → (by : ToldBy at told)
      → by.one.flush.stamp ≡ stamp
  same_fsync_told stamp landed told tells by =
      let number : by.made.number ≡ landed.made.number =
      sym by.tells.number_is
      ∙ (tells.number
      ∙ (ap (λ s. (commit_under named.pairs s).number) (sym landed.stamp_is)
      ∙ pair_number D at named ends are landed.one landed.there landed.made landed.is)) in
      sym (are.stamps by.one by.made by.there by.is)
      ∙ (ap named.stamps number ∙ (are.stamps landed.one landed.made landed.there landed.is ∙ landed.stamp_is))

  -- so what it wrote of a node is what the pair's plan leaves
  pub landed_wrote : (stamp : ℕ) → LandedAt at stamp → (told : Commitment) (node : ℕ) (held : HeldNode)
      → TellsCommit run (commit_under named.pairs stamp) told → held_by told node ≡ Some held
      → IsKeptIn (after_commit (change_planned (bringing_under named.pairs stamp).plan) (bringing_under named.pairs stamp).grant) node held.new
  landed_wrote stamp landed told node held tells is =
      let by = told_by D at named ends are told (told_one at.logs.log told tells.there) in
      subst (λ s. IsKeptIn (after_commit (change_planned (bringing_under named.pairs s).plan) (bringing_under named.pairs s).grant) node held.new)
      (same_fsync_told stamp landed told tells by)
      (pair_keeps D at named ends are by.one by.there by.made by.is node held.new (by.tells.wrote node held is))

  -- all commits that ever are done
  abbrev pub all_done : List CoreCommit
  all_done = map (made_of named) end_past.done

  all_landed : (one : ReservedCommit) → IsOneOf end_past.done one → LandedAt at (named.stamps one.number)
  all_landed one among = landed_under (named.stamps one.number) (end_lands.landed one among)

  -- one with a turn that landed is one of them
  pub is_done : (turn : Turn) → IsOneOf end_past.turns turn → turn.act ≡ act.Durable → IsOneOf all_done (commit_under named.pairs turn.stamp.0)
  is_done turn among durable =
      let ended = end_lands.ended turn among durable in
      subst (IsOneOf all_done) (ap (commit_under named.pairs) ended.stamp_is) (to_map (made_of named) end_past.done ended.one ended.among)

  pub all_made : AreAllMade run all_done
  all_made = record {
    made = λ commit among.
        let was = from_map (made_of named) end_past.done commit among in
        subst (IsMadeCommit run) was.2 (landed_made (named.stamps was.0.number) (all_landed was.0 was.1));
    told = λ told among.
        let by = told_by D at named ends are told among in
        let turn = by.landed.turn in
        let there = turn_there D at named ends are by.one by.there turn by.landed.among in
        let stamp = own_stamp D at named ends are by.one by.there turn by.landed.among in (
          commit_under named.pairs turn.stamp.0,
          is_done turn there by.landed.durable,
          subst (λ s. TellsCommit run (commit_under named.pairs s) told) (sym stamp)
              (tells_pair D at named ends are by.one by.there by.made by.is told by.tells),
        );
  }

  -- A place of the labels: those that are done there have landed by the end, and are of all.
  module _ (front back : List (Event Label)) (whole : at.told.log ≡ front ++ back) where
    abbrev past : BoxPast
    past = past_from layout front begun

    lands_there : LandSo named past.turns past.done
    lands_there = (place_behind front back whole).lands

    at_end : (stamp : ℕ) → LandedUnder past.turns stamp → LandedUnder end_past.turns stamp
    at_end stamp landed = record {
      turn = landed.turn;
      among = (goes_to_end front back whole).turns landed.turn landed.among;
      durable = landed.durable;
      stamp_is = landed.stamp_is;
    }

    pub done_landed : (stamp : ℕ) → IsOneOf (stamps_under named past.done) stamp → LandedAt at stamp
    done_landed stamp among =
        let was = from_map (λ (c : ReservedCommit). named.stamps c.number) past.done stamp among in
        subst (LandedAt at) was.2
        (landed_under (named.stamps was.0.number) (at_end (named.stamps was.0.number) (lands_there.landed was.0 was.1)))

    pub done_of_all : (commit : CoreCommit) → IsOneOf (map (made_of named) past.done) commit → IsOneOf all_done commit
    done_of_all commit among =
        let was = from_map (made_of named) past.done commit among in
        let landed = at_end (named.stamps was.0.number) (lands_there.landed was.0 was.1) in
        subst (IsOneOf all_done) (ap (commit_under named.pairs) landed.stamp_is ∙ was.2) (is_done landed.turn landed.among landed.durable)

    pub done_told : AreToldIn run (map (made_of named) past.done)
    done_told commit among =
        let was = from_map (made_of named) past.done commit among in
        let told =
        landed_tells (named.stamps was.0.number)
        (landed_under (named.stamps was.0.number) (at_end (named.stamps was.0.number) (lands_there.landed was.0 was.1))) in
        (told.0, subst (λ c. TellsCommit run c told.0) was.2 told.1)

    -- what is done there, beside a volume
    abbrev pub beside_there : Volume → DoneBeside
    beside_there volume =
        record { start = at.start; entries = at.entries; volume = volume; pairs = named.pairs; done = stamps_under named past.done }

    pub disk_there : (volume : Volume) → TellsDisk run (beside_there volume)
    disk_there volume = record {
      first = ends.begins.kept;
      wrote = λ stamp told node held among tells is. landed_wrote stamp (done_landed stamp among) told node held tells is;
    }

    pub done_there : (volume : Volume) → Imagines at.start (brought_at named past) volume → AreDoneBeside (beside_there volume)
    done_there volume imagines = record {
      keeps = ends.begins.labels.keeps;
      imagines = imagines;
      nodes = λ stamp node among. landed_nodes stamp (done_landed stamp among) node;
      rise = lands_there.rise;
    }

    pub volume_there : (volume : Volume) → Imagines at.start (brought_at named past) volume → PairsAt named past volume
        → IsVolumeThere run volume (map (commit_under named.pairs) (stamps_under named past.done))
    volume_there volume imagines beside =
        let imagined = imagined_are_those at.start volume (brought_at named past) ends.begins.labels.walk.stands imagines in
        record {
          stands = imagined.stands;
          first = imagined.first ∙ ends.begins.first;
          asks = ends.asks ∙ ap (map asked) (sym (imagined.history ∙ ends.begins.history));
          short = subst HasShortFiles (sym imagined.first) ends.begins.short;
          standing = beside.standing;
        }
