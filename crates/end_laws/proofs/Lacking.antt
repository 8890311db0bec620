-- A turn that tells a shortage tells what was so at its place, by what its core made.
use Rattle.std.proofs.Common.{◌≡◌, ◌++◌, ◌∷◌, ◌∙◌, ◌+◌, ◌<◌, ◌^◌, List, ap, append_assoc, [], subst, true, sym, map, refl, ℕ, Some, count_by, arith, is_some, eqb-true}
use Rattle.sfs_base.specs.Lists.{Roomy}
use Rattle.sfs_base.proofs.BasicNumbers.{same_number}
use Rattle.space_map.specs.Space.{Space, shortage}
use Rattle.space_map.specs.declared.fault.SpaceFault.TheVariants.{NoSpace}
use Rattle.space_map.proofs.Free.{length-free_from}
use Rattle.tree_laws.specs.declared.turns.Turn.{Turn}
use Rattle.disk_nodes.specs.declared.old.OldEntry.{OldEntry}
use Rattle.disk_change.specs.Planned.{Planned, enters, planned as change_by}
use Rattle.commit_laws.specs.CommitOfPlan.{change_planned}
use Rattle.cut_laws.specs.Closure.{Flush}
use Rattle.cut_laws.specs.Rules.{IsOneOf}
use Rattle.cut_laws.proofs.Basics.{in_left}
use Rattle.look_laws.specs.Look.{Look}
use Rattle.look_laws.specs.Beside.{Knows}
use Rattle.beside_laws.specs.Commits.{CoreCommit}
use Rattle.beside_laws.specs.Box.{BoxState}
use Rattle.flush_laws.specs.Volume.{Volume}
use Rattle.merge_laws.specs.Plays.{PensMerge, durables}
use Rattle.merge_laws.specs.Phases.{phase_of, may_follow}
use Rattle.merge_laws.proofs.Phases.{first_turn}
use Rattle.merge_laws.proofs.Follows.{short_first}
use Rattle.merge_laws.proofs.Lists.{among_at}
use Rattle.plan_laws.specs.Plans.{Sources, PlansFsync, beside}
use Rattle.turn_ties.specs.Plans.{Planning}
use Rattle.turn_ties.specs.Led.{planning_led}
use Rattle.turn_ties.proofs.Fits.{blocks_low}
use Rattle.turn_ties.proofs.Led.{led_plans_are_tied}
use Rattle.book_laws.specs.Imagined.{Imagines}
use Rattle.book_laws.specs.Walk.{brought_under}
use Rattle.book_laws.specs.Pairs.{commit_under, run_with}
use Rattle.book_laws.specs.Out.{IsMapWithOut, CountsBooks, books_out}
use Rattle.book_laws.specs.Along.{LackTold, MapPlace, MapGoes, beside_at, TellsLack}
use Rattle.book_laws.proofs.Counted.{few_inodes, maps_count_books}
use Rattle.book_laws.proofs.Placed.{maps_go_along}
use Rattle.reserve_laws.specs.Plans.{bringing_made}
use Rattle.reserve_laws.specs.Looks.{CoreTells, LookBrings}
use Rattle.reserve_laws.specs.Olds.{DoneBeside}
use Rattle.reserve_laws.specs.OwnFile.{OwnMaking, MakesOwnFile}
use Rattle.reserve_laws.proofs.Looks.{knows, looks_bring}
use Rattle.reserve_laws.proofs.OwnFile.{has_plan}
use Rattle.stamp_table.specs.declared.event.Event.{Event}
use Rattle.stamp_table.specs.declared.event.Event.TheVariants.{Told}
use Rattle.note_laws.specs.Joined.{BoxKnows}
use Rattle.made_laws.specs.Tells.{commit_made, last_of_seen}
use Rattle.made_laws.specs.Made.{sources_of, CoreMade, OwnMade, OwnFileMaking, own_flush, of_notes, of_file, MadeEitherWay}
use Rattle.tell_laws.specs.Tells.{MadePlace, MadeThere, entries_at, IsVolumeThere, making_own}
use Rattle.tell_laws.proofs.Telling.{mades_tell}
use Rattle.tell_laws.proofs.Own.{OwnKnown, makes}
use Rattle.slot_laws.specs.declared.label.Label.{Label}
use Rattle.slot_laws.specs.declared.label.Label.TheVariants as label
use Rattle.slot_laws.specs.Labels.{BoxPast, past_from, after_label, first_past}
use Rattle.slot_laws.specs.declared.label.Seen.{Seen}
use Rattle.slot_laws.specs.Lasts.{Reserving, told_reserving, box_of, IsMadeAs}
use Rattle.slot_laws.specs.Nodes.{no_numbers}
use Rattle.slot_laws.specs.Rules.{MayFrom}
use Rattle.slot_laws.proofs.NodesTold.{past_parts, may_parts}
use Rattle.slot_laws.proofs.Lasts.{names_seen, none_of_seen}
use Rattle.slot_laws.proofs.NodesBack.{labels_keep_the_box}
use Rattle.close_laws.specs.Maps.{Numbered, past_of, commit_numbered, AreSameMaps}
use Rattle.close_laws.specs.Beside.{stamps_under, brought_at}
use Rattle.close_laws.specs.Own.{owes_nothing, OwesTurn, TellsBeside, owes_granted, owes_given_back, StandBeside, OwnOwed}
use Rattle.close_laws.proofs.Drawn.{Drawing}
use Rattle.close_laws.proofs.Owing.{tells as tells_owed, nobody as nobody_owing}
use Rattle.close_laws.proofs.AlongLabels.{drawing_along, drawing_first}
use Rattle.close_laws.proofs.Same.{same_count}
use Rattle.fsync_commit.specs.Asked.{need_planned}
use Rattle.end_laws.specs.Mount.{MountEnd, MountEnds, AreNamedAlong, run_at}
use Rattle.end_laws.specs.Recorded.{TellsShort}
use Rattle.end_laws.specs.Lacks.{LackMade, MadeLacksAreTold}
use Rattle.end_laws.proofs.Places.{done_there, all_made, PlaceHere, place_behind, end_past, end_lands, goes_to_end, all_done, done_of_all, done_told, beside_there, disk_there, volume_there, told_labels}
use Rattle.end_laws.proofs.Boxes.{made_of, ReservesHere, commits_under, unmoved_here, gives_here}
use Rattle.end_laws.proofs.Survives.{turns_of_mounts_end}
use Rattle.end_laws.proofs.TurnPlaces.{layout, begun, PlaceAt, place_there, opens_there, reserved_as, keeping_at, begins_map}
use Rattle.end_laws.proofs.Once.{turns_go_on, NoneOf, none_of, split_once, stand_begins, same_shortage}
use Rattle.end_laws.proofs.Played.{may_come_there, plays_done}
use Rattle.end_laws.proofs.Making.{concerns_own}
use Rattle.beside_laws.specs.OwnFile.{own_commit}
use Rattle.reserve_laws.proofs.OwnFile.{touched}
use Rattle.reserve_laws.proofs.OwnFile.{planning as planned_own}

module _ (D : Type 0) (at : MountEnd) (named : Numbered) (ends : MountEnds D at) (are : AreNamedAlong at named)
    (merge : PensMerge at.start.first at.start.history (past_of at.told).turns) (front : List Turn) (turn : Turn) (told : LackTold)
    (short : TellsShort at named front turn told) (lack : LackMade at turn told) where
  abbrev turns : List Turn
  turns = (past_of at.told).turns

  abbrev event : Event Label
  event = Told lack.core (label.Noted turn)

  abbrev past : BoxPast
  past = past_from (layout D at named ends are) lack.front (begun D at named ends are)

  abbrev volume : Volume
  volume = short.volume

  -- the turns before it are those before its label
  turns_whole : turns ≡ past.turns
      ++ turn ∷ (turns_go_on (layout D at named ends are) lack.back (after_label at.told.layout lack.core.0 (label.Noted turn) past)).0
  turns_whole =
      let on = turns_go_on (layout D at named ends are) lack.back (after_label at.told.layout lack.core.0 (label.Noted turn) past) in
      ap (λ l. (past_from at.told.layout l (first_past at.told.moment)).turns) lack.whole
      ∙ (ap (λ (p : BoxPast). p.turns) (past_parts at.told.layout at.told.before lack.front (event ∷ lack.back) (first_past at.told.moment))
      ∙ (on.1 ∙ append_assoc past.turns (turn ∷ []) on.0))

  first_there : (some tail : List Turn) → turns ≡ some ++ turn ∷ tail → NoneOf turn.stamp.0 some
  first_there some tail whole =
      none_of turn.stamp.0 some (first_turn turn.stamp.0 some
      (short_first (phase_of turn.stamp.0 some) told.kind told.asked told.have
      (subst (λ a. may_follow (phase_of turn.stamp.0 some) a ≡ true) short.did
      (may_come_there at.start.first at.start.history turns merge some turn tail whole))))

  front_is : past.turns ≡ front
  front_is =
      let tail = (turns_go_on (layout D at named ends are) lack.back (after_label at.told.layout lack.core.0 (label.Noted turn) past)).0 in
      split_once past.turns front turn tail short.place.back (sym turns_whole ∙ short.place.whole) (first_there past.turns tail turns_whole)
      (first_there front short.place.back short.place.whole)

  here : PlaceAt D at named ends are lack.front past (event ∷ lack.back)
  here = place_there D at named ends are lack.front (event ∷ lack.back) lack.whole

  lands : PlaceHere D at named ends are lack.front past (event ∷ lack.back)
  lands = place_behind D at named ends are lack.front (event ∷ lack.back) lack.whole

  done_same : short.play.done ≡ stamps_under named past.done
  done_same =
      plays_done front short.play short.place.plays
      ∙ (ap (λ t. map (λ (f : Flush). f.stamp) (durables t)) (sym front_is)
      ∙ (opens_there D at named ends are lack.front (event ∷ lack.back) lack.whole).done)

  imagines : Imagines at.start (brought_at named past) volume
  imagines = subst (λ l. Imagines at.start (brought_under named.pairs l) volume) done_same short.place.imagined.imagines

  -- the commit that would have been, under the next number
  abbrev seen : Roomy Seen
  seen = record { items = lack.seen; spare = 0 }

  abbrev one : Reserving
  one = record { core = lack.core; commit = past.commits + 1; seen = seen; grant = no_numbers }

  reserves_with : (commit : CoreCommit) → IsMadeAs commit (past.commits + 1) lack.seen → ReservesHere named past (end_past D at named ends are) one commit
  reserves_with commit own = record {
    knew = record {
      next = refl;
      ended = lack.unmoved;
      knew = names_seen past.lasts past.opens past.done past.commits here.is.drawing.lasts (past.commits + 1) lack.seen no_numbers refl lack.unmoved;
      none_open = none_of_seen past.lasts past.opens past.done past.commits here.is.drawing.lasts (past.commits + 1) lack.seen no_numbers refl lack.unmoved;
    };
    own = own;
    opens_are = λ other there. (here.is.drawing.opens.grants other there).made;
    done_are = lands.lands.made;
    then_are = (end_lands D at named ends are).made;
    ended = here.is.drawing.lasts.ended;
    box = labels_keep_the_box at.told.layout at.told.before at.told.moment lack.front (commit_numbered named)
        (may_parts at.told.layout at.told.before lack.front (event ∷ lack.back) (first_past at.told.moment)
        (subst (λ l. MayFrom at.told.layout at.told.before l (first_past at.told.moment)) lack.whole ends.along.may)).0
        (λ other there. (reserved_as D at named ends are other
        (subst (λ l. IsOneOf l (told_reserving other)) (sym lack.whole) (in_left lack.front (event ∷ lack.back) (told_reserving other) there))).made);
    goes = goes_to_end D at named ends are lack.front (event ∷ lack.back) lack.whole;
  }

  -- the box there, as a place has it
  abbrev box_made : BoxState
  box_made = record { done = map (commit_under named.pairs) (stamps_under named past.done); opens = map (made_of named) past.opens; number = past.commits }

  box_same : box_of (commit_numbered named) past ≡ box_made
  box_same i = record { done = sym (commits_under named past.done) i; opens = map (made_of named) past.opens; number = past.commits }

  knows_with : (commit : CoreCommit) → IsMadeAs commit (past.commits + 1) lack.seen → BoxKnows (run_at at) box_made (all_done D at named ends are) commit
  knows_with commit own =
      subst (λ (b : BoxState). BoxKnows (run_at at) b (all_done D at named ends are) commit) box_same (record {
        unmoved = unmoved_here named past (end_past D at named ends are) one commit (reserves_with commit own);
        gives = gives_here named past (end_past D at named ends are) one commit (reserves_with commit own);
        among = done_of_all D at named ends are lack.front (event ∷ lack.back) lack.whole;
        told = done_told D at named ends are lack.front (event ∷ lack.back) lack.whole;
      })

  abbrev done : List CoreCommit
  done = map (commit_under named.pairs) (stamps_under named past.done)

  abbrev done_beside : DoneBeside
  done_beside = beside_there D at named ends are lack.front (event ∷ lack.back) lack.whole volume

  volume_is : IsVolumeThere (run_at at) volume done
  volume_is = volume_there D at named ends are lack.front (event ∷ lack.back) lack.whole volume imagines (here.is.beside.beside volume imagines)

  -- nobody owes a turn there
  nobody_owes : (core : ℕ) → (here.is.drawing.owing.own core).owes ≡ owes_nothing
  nobody_owes =
      nobody_owing at.told.layout at.told.before named.stamps lack.front past lack.core (label.Noted turn) lack.back here.is.drawing.owing
      (free (here.is.drawing.owing.own lack.core.0).owes (here.is.drawing.owing.own lack.core.0).may
      (tells_owed at.told.layout at.told.before named.stamps lack.front past lack.core (label.Noted turn) lack.back here.is.drawing.owing))
    where
      free : (o may : OwesTurn) → TellsBeside named.stamps o may (past.owns lack.core.0) (label.Noted turn) → o ≡ owes_nothing
      free owes_nothing may by = refl
      free (owes_granted n) may by = let same : turn ≡ by.turn = cc by.is in absurd (cc (sym short.did ∙ (ap (λ (t : Turn). t.act) same ∙ by.did_is)))
      free (owes_given_back n) may by = let same : turn ≡ by.turn = cc by.is in absurd (cc (sym short.did ∙ (ap (λ (t : Turn). t.act) same ∙ by.did_is)))

  -- the map along the labels up to there
  drawing : Drawing named at.told.layout at.told.before at.told.first lack.front past [] lack.space
  drawing =
      let labels = told_labels D at named ends are in
      let parts = may_parts at.told.layout at.told.before lack.front (event ∷ lack.back) (first_past at.told.moment)
      (subst (λ l. MayFrom at.told.layout at.told.before l (first_past at.told.moment)) lack.whole ends.along.may) in
      drawing_along named at.told.layout at.told.before at.told.first [] lack.front (first_past at.told.moment) at.told.first lack.space
      (drawing_first named at.told.layout at.told.before at.told.first at.told.moment lack.front lack.space
      (record { may = parts.0; no_inodes = ends.along.no_inodes; no_blocks = ends.along.no_blocks; goes = lack.goes })
      (stand_begins named.stamps lack.front (event ∷ lack.back) (subst (StandBeside named.stamps) lack.whole labels.stand)))
      lack.goes
      (λ other among. labels.fit other (subst (λ l. IsOneOf l other) (sym lack.whole) (in_left lack.front (event ∷ lack.back) other among)))

  same_maps : AreSameMaps drawing.so.drawn lack.space
  same_maps = drawing.so.same (λ core. ap (λ (o : OwnOwed). o.owes) (drawing.owing.owed core ∙ sym (here.is.drawing.owing.owed core)) ∙ nobody_owes core)

  -- each map that has gone along the turns counts the same there
  abbrev map_place : Space → MapPlace
  map_place space = record { front = front; at = short.play; volume = volume; space = space }

  right_there : (space : Space) → MapGoes named.pairs at.told.first front space
      → IsMapWithOut (beside_at (keeping_at D at named ends are) (map_place space)) space
  right_there space goes =
      (maps_go_along (keeping_at D at named ends are) (map_place space) (record {
        begins = begins_map D at named ends are;
        plays = short.place.plays;
        calm = short.place.calm;
        imagines = short.place.imagined.imagines;
        goes = goes;
      })).right

  counts : (space : Space) → MapGoes named.pairs at.told.first front space
      → CountsBooks space (books_out (beside_at (keeping_at D at named ends are) (map_place space)))
  counts space goes = maps_count_books (beside_at (keeping_at D at named ends are) (map_place space)) space (right_there space goes)

  drawn_goes : MapGoes named.pairs at.told.first front drawing.so.drawn
  drawn_goes = subst (λ t. MapGoes named.pairs at.told.first t drawing.so.drawn) front_is drawing.so.goes

  same_short : shortage short.space (need_planned lack.making.plan.change) ≡ Some (NoSpace told.kind told.asked told.have)
  same_short =
      let mine = counts short.space short.goes in
      let theirs = counts drawing.so.drawn drawn_goes in
      same_shortage short.space lack.space (need_planned lack.making.plan.change)
      (mine.inodes ∙ (sym theirs.inodes ∙ same_count drawing.so.drawn.inodes lack.space.inodes same_maps.inodes))
      (mine.blocks ∙ (sym theirs.blocks ∙ same_count drawing.so.drawn.blocks lack.space.blocks same_maps.blocks))
      ∙ lack.short

  -- It was made by what was noted.
  module _ (core : CoreMade (run_at at) lack.making) where
    abbrev commit : CoreCommit
    commit = commit_made (run_at at) lack.making core.plans (past.commits + 1)

    own_made : IsMadeAs commit (past.commits + 1) lack.seen
    own_made = record { number_is = refl; holds = lack.sees.holds; last = lack.sees.last }

    abbrev place : MadePlace
    place = record {
      run = run_at at;
      making = lack.making;
      pair = record { commit = commit; one = bringing_made volume (sources_of lack.making []) core.plans no_numbers };
      beside = done_beside;
      opens = map (made_of named) past.opens;
      number = past.commits;
      all = all_done D at named ends are;
    }

    made_there : MadeThere place
    made_there = record {
      table = ends.table;
      made = core;
      pair = record { commit = refl; one = refl };
      all_made = all_made D at named ends are;
      box_knows = knows_with commit own_made;
      disk = disk_there D at named ends are lack.front (event ∷ lack.back) lack.whole volume;
      done = done_there D at named ends are lack.front (event ∷ lack.back) lack.whole volume imagines;
      volume = volume_is;
    }

    abbrev from : Sources
    from = sources_of lack.making (entries_at place)

    tells : CoreTells volume done place.pair from
    tells = mades_tell place made_there

    led : LookBrings volume from tells.gathered.plans
    led = looks_bring volume done commit from tells.may tells.gathered

    planned : PlansFsync volume from
    planned = record {
      ready = tells.may.stands.between;
      keeps = tells.gathered.keeps;
      short = tells.may.short;
      orderly = tells.gathered.orderly;
      gathers = beside (record {
        late = commit.late;
        counts = commit.counts;
        logs = tells.gathered.logs;
        knows = subst (λ (look : Look). Knows
            (record { first = volume.first; history = volume.history; counts = commit.counts; late = commit.late; look = look }) volume.cut volume.inodes)
            (sym tells.gathered.look) (knows volume done commit from tells.may tells.gathered);
      });
      concern_is = tells.gathered.concern_is;
      old_is = tells.gathered.old_is;
      file_is = tells.gathered.file_is;
      plans = tells.gathered.plans;
    }

    abbrev planning : Planning
    planning = planning_led volume from led.led.leads

    lack_look : TellsLack volume short.space turn told
    unfolding planned tells
    lack_look =
        let tied = led_plans_are_tied volume from tells.may.stands planned led.led in
        record {
          planning = planning;
          plans = record { has = tied.has; touched = tied.touched; own = lack.flush_is };
          lacks = record {
            inodes = subst (λ (c : Planned). count_by enters c.seats < 2 ^ 32) led.led.leads.made lack.inodes;
            blocks = λ enough. blocks_low volume planning tied.has
                (let few = few_inodes (beside_at (keeping_at D at named ends are) (map_place short.space)) short.space (right_there short.space short.goes) in
                let long = length-free_from short.space.inodes.first short.space.inodes.statuses in omega (arith, enough, few, long));
            short = ap (λ (c : Planned). shortage short.space (need_planned c)) (sym led.led.leads.made) ∙ same_short;
          };
        }

  -- It was made by its own file.
  module _ (file : OwnMade (run_at at) lack.making) where
    abbrev own : OwnFileMaking
    own = file.own

    abbrev commit_own : CoreCommit
    commit_own = own_commit (run_with volume done) (own_flush own) (making_own volume own (past.commits + 1)).numbers

    own_made_so : IsMadeAs commit_own (past.commits + 1) lack.seen
    own_made_so = record {
      number_is = refl;
      holds = λ node. sym (concerns_own (run_at at) lack.making file node) ∙ lack.sees.holds node;
      last = λ node last is.
          let concerned = lack.sees.holds node ∙ ap is_some is in
          let number : node ≡ own.node = eqb-true node own.node (sym (concerns_own (run_at at) lack.making file node) ∙ concerned) in
          sym (ap last_of_seen (ap lack.making.noted.pending number ∙ file.saw)) ∙ lack.sees.last node last is;
    }

    box_own : BoxKnows (run_at at) box_made (all_done D at named ends are) commit_own
    box_own = knows_with commit_own own_made_so

    known : OwnKnown (run_at at) own done_beside
    known = record {
      table = ends.table;
      made = file.made;
      told = box_own.told;
      knew = box_own.unmoved.knew own.node (same_number own.node);
      disk = disk_there D at named ends are lack.front (event ∷ lack.back) lack.whole volume;
      done = done_there D at named ends are lack.front (event ∷ lack.back) lack.whole volume imagines;
      volume = volume_is;
    }

    abbrev of_own : OwnMaking
    of_own = making_own volume own (past.commits + 1)

    makes_own : MakesOwnFile volume done of_own
    makes_own = makes (run_at at) own done_beside known (past.commits + 1)

    abbrev planning_own : Planning
    planning_own = planned_own volume done of_own makes_own

    change_own : lack.making.plan.change ≡ change_planned planning_own.plan
    change_own = file.change_is ∙ ap (λ (l : List OldEntry). change_by l [] own.files [] []) file.old_is

    lack_own : TellsLack volume short.space turn told
    lack_own = record {
      planning = planning_own;
      plans = record {
        has = has_plan volume done of_own makes_own;
        touched = touched volume done of_own makes_own;
        own = sym file.flush_is ∙ lack.flush_is;
      };
      lacks = record {
        inodes = subst (λ (c : Planned). count_by enters c.seats < 2 ^ 32) change_own lack.inodes;
        blocks = λ enough. blocks_low volume planning_own (has_plan volume done of_own makes_own)
            (let few = few_inodes (beside_at (keeping_at D at named ends are) (map_place short.space)) short.space (right_there short.space short.goes) in
            let long = length-free_from short.space.inodes.first short.space.inodes.statuses in omega (arith, enough, few, long));
        short = ap (λ (c : Planned). shortage short.space (need_planned c)) (sym change_own) ∙ same_short;
      };
    }

  lack_so : MadeEitherWay (run_at at) lack.making → TellsLack volume short.space turn told
  lack_so (of_notes core) = lack_look core
  lack_so (of_file file) = lack_own file

  pub lack_told : TellsLack volume short.space turn told
  lack_told = lack_so lack.made_in

pub made_lacks_are_told : (D : Type 0) → MadeLacksAreTold D
made_lacks_are_told D at named most ends are few lacks front turn told short =
    let merge = (turns_of_mounts_end D at most ends few).merge in
    lack_told D at named ends are merge front turn told short
    (lacks turn told (subst (λ l. IsOneOf l turn) (sym short.place.whole) (among_at front turn short.place.back)) short.did)
