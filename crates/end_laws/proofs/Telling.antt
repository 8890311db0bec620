-- Along the labels of a mount each core tells of its pair as it reserves a number.
use Rattle.std.proofs.Common.{◌≡◌, ◌++◌, ◌∷◌, ◌∙◌, List, ℕ, subst, sym, ap, map, [], append_assoc, refl, is_some}
use Rattle.sfs_base.specs.declared.numbers.CoreId.{CoreId}
use Rattle.sfs_base.specs.Lists.{Roomy}
use Rattle.sfs_base.proofs.BasicNumbers.{same_number}
use Rattle.sfs_image.specs.Super.{Layout}
use Rattle.space_map.specs.Space.{GrantedNumbers}
use Rattle.disk_change.specs.AllBuilt.{entry_keyed}
use Rattle.cut_laws.specs.Rules.{IsOneOf}
use Rattle.cut_laws.specs.Cut.{cut_of}
use Rattle.cut_laws.proofs.Basics.{in_left}
use Rattle.beside_laws.specs.Box.{BoxGoesOn, NO_COMMIT, BoxState}
use Rattle.beside_laws.specs.Commits.{CoreCommit}
use Rattle.flush_laws.specs.Volume.{Volume}
use Rattle.book_laws.specs.Imagined.{Imagines}
use Rattle.book_laws.specs.Brings.{Bringing}
use Rattle.book_laws.specs.Pairs.{commit_under, bringing_under, run_with}
use Rattle.reserve_laws.specs.Plans.{bringing_made}
use Rattle.reserve_laws.specs.Fits.{TellsPair, by_look}
use Rattle.reserve_laws.specs.Olds.{DoneBeside}
use Rattle.reserve_laws.specs.OwnFile.{bringing_own}
use Rattle.stamp_table.specs.declared.event.Event.{Event}
use Rattle.stamp_table.specs.declared.event.Event.TheVariants.{Told, Called}
use Rattle.note_laws.specs.Run.{TableRun}
use Rattle.note_laws.specs.Joined.{BoxKnows}
use Rattle.made_laws.specs.Made.{sources_of, CoreMade, OwnMade, own_flush, OwnFileMaking}
use Rattle.made_laws.specs.Tells.{commit_made}
use Rattle.made_laws.specs.Own.{commit_of_own}
use Rattle.tell_laws.specs.Tells.{MadePlace, MadeThere, entries_at, IsVolumeThere, making_own, OwnPlace}
use Rattle.tell_laws.proofs.Telling.{mades_tell}
use Rattle.tell_laws.proofs.Own.{OwnKnown, commit_same, owns_tell}
use Rattle.slot_laws.specs.Labels.{BoxPast, first_past, past_from}
use Rattle.slot_laws.specs.declared.label.Label.{Label}
use Rattle.slot_laws.specs.declared.label.Seen.{Seen}
use Rattle.slot_laws.specs.declared.label.Label.TheVariants as label
use Rattle.slot_laws.specs.Lasts.{Reserving, box_of, told_reserving}
use Rattle.slot_laws.specs.Rules.{MayFrom}
use Rattle.slot_laws.proofs.Numbered.{at_seam}
use Rattle.slot_laws.proofs.NodesBack.{labels_keep_the_box}
use Rattle.slot_laws.proofs.NodesTold.{may_parts, reserving_knew, past_parts}
use Rattle.close_laws.specs.Maps.{Numbered, IsTold, commit_numbered}
use Rattle.close_laws.specs.Beside.{stamps_under, brought_at, PairsAt, TellsAt, TellAlong}
use Rattle.end_laws.specs.Mount.{MountEnd, MountEnds, AreNamedAlong, run_at, IsPairOf, ReservedAt}
use Rattle.end_laws.specs.Along.{NamedTellAlong}
use Rattle.end_laws.specs.Cuts.{cuts_left, lift_of}
use Rattle.end_laws.specs.Pairs.{IsPairThere, of_look, of_own}
use Rattle.end_laws.proofs.Places.{told_labels, PlaceHere, place_behind, end_past, end_lands, goes_to_end, all_done, done_of_all, done_told, beside_there, all_made, disk_there, done_there, volume_there}
use Rattle.end_laws.proofs.Reserved.{ReservedFor, reserved_for}
use Rattle.end_laws.proofs.Boxes.{ReservesHere, made_of, commits_under, unmoved_here, gives_here}
use Rattle.end_laws.proofs.Cuts.{cuts_are_left}
use Rattle.std.specs.FinMap.{get}
use Rattle.beside_laws.specs.OwnFile.{own_commit}
use Rattle.reserve_laws.specs.OwnFile.{own_pair}

module _ (D : Type 0) (at : MountEnd) (named : Numbered) (ends : MountEnds D at) (are : AreNamedAlong at named) where
  abbrev begun : BoxPast
  begun = first_past at.told.moment

  abbrev layout : Layout
  layout = at.told.layout

  abbrev run : TableRun
  run = run_at at

  -- At a place a number is reserved, beside a volume that is imagined there.
  module _ (front back : List (Event Label)) (core : CoreId) (number : ℕ) (seen : Roomy Seen) (grant : GrantedNumbers)
      (whole : at.told.log ≡ front ++ Told core (label.Reserved number seen grant) ∷ back) where
    abbrev event : Event Label
    event = Told core (label.Reserved number seen grant)

    abbrev past : BoxPast
    past = past_from layout front begun

    abbrev one : Reserving
    one = record { core = core; commit = number; seen = seen; grant = grant }

    among : IsOneOf at.told.log event
    among = subst (λ l. IsOneOf l event) (sym whole) (at_seam front back event)

    abbrev labels : IsTold named at.told
    labels = told_labels D at named ends are

    here : PlaceHere D at named ends are front past (event ∷ back)
    here = place_behind D at named ends are front (event ∷ back) whole

    of_one : ReservedFor at number
    of_one = reserved_for D at named ends are core number seen grant among

    pair_is : IsPairOf at named of_one.one of_one.made
    pair_is = are.pair of_one.one of_one.made of_one.there of_one.is

    stamp_same : named.stamps number ≡ of_one.one.flush.stamp
    stamp_same = ap named.stamps of_one.number_is ∙ are.stamps of_one.one of_one.made of_one.there of_one.is

    box_there : BoxGoesOn NO_COMMIT (box_of (commit_numbered named) past)
    box_there =
        labels_keep_the_box layout at.told.before at.told.moment front (commit_numbered named)
        (may_parts layout at.told.before front (event ∷ back) begun
        (subst (λ l. MayFrom layout at.told.before l begun) whole ends.along.may)).0
        (λ other there.
        (labels.fit (told_reserving other)
        (subst (λ l. IsOneOf l (told_reserving other)) (sym whole) (in_left front (event ∷ back) (told_reserving other) there))).made)

    reserves : ReservesHere named past (end_past D at named ends are) one (commit_numbered named number)
    reserves = record {
      knew = reserving_knew past one here.drawing.lasts here.drawing.owing.may.0.1;
      own = (labels.fit event among).made;
      opens_are = λ other there. (here.drawing.opens.grants other there).made;
      done_are = here.lands.made;
      then_are = (end_lands D at named ends are).made;
      ended = here.drawing.lasts.ended;
      box = box_there;
      goes = goes_to_end D at named ends are front (event ∷ back) whole;
    }

    -- the box there, as a place has it
    abbrev box_made : BoxState
    box_made = record {
      done = map (commit_under named.pairs) (stamps_under named past.done);
      opens = map (made_of named) past.opens;
      number = past.commits;
    }

    box_same : box_of (commit_numbered named) past ≡ box_made
    box_same i = record { done = sym (commits_under named past.done) i; opens = map (made_of named) past.opens; number = past.commits }

    box_knows : BoxKnows run box_made (all_done D at named ends are) (commit_numbered named number)
    box_knows =
        subst (λ (b : BoxState). BoxKnows run b (all_done D at named ends are) (commit_numbered named number)) box_same (record {
          unmoved = unmoved_here named past (end_past D at named ends are) one (commit_numbered named number) reserves;
          gives = gives_here named past (end_past D at named ends are) one (commit_numbered named number) reserves;
          among = done_of_all D at named ends are front (event ∷ back) whole;
          told = done_told D at named ends are front (event ∷ back) whole;
        })

    -- the pair under the fsync's stamp
    abbrev own_stamp : ℕ
    own_stamp = of_one.one.flush.stamp

    knows_pair : BoxKnows run box_made (all_done D at named ends are) (commit_under named.pairs own_stamp)
    knows_pair = subst (λ s. BoxKnows run box_made (all_done D at named ends are) (commit_under named.pairs s)) stamp_same box_knows

    module _ (volume : Volume) (imagines : Imagines at.start (brought_at named past) volume) (beside : PairsAt named past volume) where
      abbrev commits_done : List CoreCommit
      commits_done = map (commit_under named.pairs) (stamps_under named past.done)

      abbrev done_beside : DoneBeside
      done_beside = beside_there D at named ends are front (event ∷ back) whole volume

      -- the number was reserved there
      reserved_there : ReservedAt at.told of_one.made.number front
      reserved_there = record {
        core = core;
        seen = seen;
        grant = grant;
        back = back;
        whole = subst (λ n. at.told.log ≡ front ++ Told core (label.Reserved n seen grant) ∷ back) of_one.number_is whole;
      }

      volume_is : IsVolumeThere run volume commits_done
      volume_is = volume_there D at named ends are front (event ∷ back) whole volume imagines beside

      -- by what was noted
      module _ (made_in : CoreMade run of_one.made.making)
          (commits : commit_under named.pairs own_stamp ≡ commit_made run of_one.made.making made_in.plans of_one.made.number)
          (brings : bringing_under named.pairs own_stamp ≡ bringing_made volume (sources_of of_one.made.making []) made_in.plans of_one.made.grant) where
        abbrev place : MadePlace
        place = record {
          run = run;
          making = of_one.made.making;
          pair = named.pairs own_stamp;
          beside = done_beside;
          opens = map (made_of named) past.opens;
          number = past.commits;
          all = all_done D at named ends are;
        }

        made_there : MadeThere place
        made_there = record {
          table = ends.table;
          made = made_in;
          pair = record {
            commit = commits ∙ ap (commit_made run of_one.made.making made_in.plans) (sym (ap (λ (c : CoreCommit). c.number) commits));
            one = brings
                ∙ ap (bringing_made volume (sources_of of_one.made.making []) made_in.plans) (sym (ap (λ (b : Bringing). b.grant) brings));
          };
          all_made = all_made D at named ends are;
          box_knows = knows_pair;
          disk = disk_there D at named ends are front (event ∷ back) whole volume;
          done = done_there D at named ends are front (event ∷ back) whole volume imagines;
          volume = volume_is;
        }

        tells_look : TellsPair volume commits_done (named.pairs own_stamp)
        tells_look = by_look (sources_of of_one.made.making (entries_at place)) (mades_tell place made_there)

      -- by its own file
      module _ (one_file : OwnMade run of_one.made.making)
          (commits : commit_under named.pairs own_stamp
          ≡ commit_of_own volume.first volume.history (cuts_left (map lift_of commits_done)) one_file.own of_one.made.number)
          (brings : bringing_under named.pairs own_stamp
          ≡ bringing_own volume (own_flush one_file.own) (entry_keyed (one_file.own.node, one_file.own.kept)) one_file.own.files of_one.made.grant) where
        abbrev own : OwnFileMaking
        own = one_file.own

        box_own : BoxKnows run box_made (all_done D at named ends are)
            (commit_of_own volume.first volume.history (cuts_left (map lift_of commits_done)) own of_one.made.number)
        box_own = subst (BoxKnows run box_made (all_done D at named ends are)) commits knows_pair

        known : OwnKnown run own done_beside
        known = record {
          table = ends.table;
          made = one_file.made;
          told = box_own.told;
          knew = box_own.unmoved.knew own.node (same_number own.node);
          disk = disk_there D at named ends are front (event ∷ back) whole volume;
          done = done_there D at named ends are front (event ∷ back) whole volume imagines;
          volume = volume_is;
        }

        -- what those that are done have left is the volume's cut
        cuts_same : cuts_left (map lift_of commits_done) ≡ cut_of volume.cut
        cuts_same = λ i node.
            cuts_are_left commits_done node (is_some (get volume.first.nodes node)) (record { stamp = cut_of volume.cut node; inode = volume.inodes node })
            volume_is.standing.numbered (volume_is.standing.left node) i

        commit_is : commit_under named.pairs own_stamp
            ≡ own_commit (run_with volume commits_done) (own_flush own) (making_own volume own of_one.made.number).numbers
        commit_is =
            commits
            ∙ (ap (λ cuts. commit_of_own volume.first volume.history cuts own of_one.made.number) cuts_same
            ∙ commit_same run own done_beside known of_one.made.number)

        abbrev own_place : OwnPlace
        own_place = record {
          run = run;
          own = own;
          pair = named.pairs own_stamp;
          beside = done_beside;
          opens = map (made_of named) past.opens;
          number = past.commits;
          all = all_done D at named ends are;
        }

        number_same : (commit_under named.pairs own_stamp).number ≡ of_one.made.number
        number_same = ap (λ (c : CoreCommit). c.number) commit_is

        grant_same : (bringing_under named.pairs own_stamp).grant ≡ of_one.made.grant
        grant_same = ap (λ (b : Bringing). b.grant) brings

        pair_same : named.pairs own_stamp ≡ own_pair volume commits_done
            (making_own volume own (commit_under named.pairs own_stamp).number) (bringing_under named.pairs own_stamp).grant
        pair_same =
            (λ i. record { commit = commit_is i; one = brings i })
            ∙ (λ i. own_pair volume commits_done (making_own volume own (sym number_same i)) (sym grant_same i))

        tells_own : TellsPair volume commits_done (named.pairs own_stamp)
        tells_own = owns_tell own_place (record {
          table = ends.table;
          made = one_file.made;
          pair = pair_same;
          box_knows = knows_pair;
          disk = known.disk;
          done = known.done;
          volume = volume_is;
        })

      tells_so : IsPairThere run of_one.made volume commits_done (named.pairs own_stamp) → TellsPair volume commits_done (named.pairs own_stamp)
      tells_so (of_look core_made commits brings) = tells_look core_made commits brings
      tells_so (of_own one_file commits brings) = tells_own one_file commits brings

      tells_there : TellsPair volume commits_done (named.pairs (named.stamps number))
      tells_there = subst (λ s. TellsPair volume commits_done (named.pairs s)) (sym stamp_same) (tells_so (pair_is.there front volume reserved_there imagines))

  -- at each place
  tells_here : (front back : List (Event Label)) (event : Event Label) → at.told.log ≡ front ++ event ∷ back
      → TellsAt at.start named event (past_from layout front begun)
  tells_here front back (Called entry) whole = tt
  tells_here front back (Told core label.Took) whole = tt
  tells_here front back (Told core label.Gave) whole = tt
  tells_here front back (Told core (label.Noted turn)) whole = tt
  tells_here front back (Told core (label.Reserved number seen grant)) whole =
      λ volume imagines beside. tells_there front back core number seen grant whole volume imagines beside
  tells_here front back (Told core (label.Returned number)) whole = tt
  tells_here front back (Told core (label.Began filling number node stamp blocks inodes)) whole = tt
  tells_here front back (Told core (label.Filled slot piece done)) whole = tt
  tells_here front back (Told core (label.Synced now)) whole = tt
  tells_here front back (Told core (label.Opened slot done cut opened)) whole = tt
  tells_here front back (Told core (label.Settled slot turn)) whole = tt
  tells_here front back (Told core (label.Learned turn)) whole = tt
  tells_here front back (Told core (label.Placed slot n done)) whole = tt
  tells_here front back (Told core (label.Shut slot done)) whole = tt
  tells_here front back (Told core (label.Idled slot)) whole = tt
  tells_here front back (Told core (label.Empty number cut opened durable)) whole = tt

  -- so along all of them
  tells_from : (front rest : List (Event Label)) → at.told.log ≡ front ++ rest → TellAlong layout at.start named rest (past_from layout front begun)
  tells_from front [] whole = tt
  tells_from front (event ∷ rest) whole = (
    tells_here front rest event whole,
    subst (TellAlong layout at.start named rest) (past_parts layout at.told.before front (event ∷ []) begun)
        (tells_from (front ++ event ∷ []) rest (whole ∙ sym (append_assoc front (event ∷ []) rest))),
  )

pub named_tell_along : (D : Type 0) → NamedTellAlong D
named_tell_along D at named ends are = tells_from D at named ends are [] at.told.log refl
