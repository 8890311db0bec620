-- There is what commits bring by the stamps of the fsyncs: with the parts that come of the disk as it is imagined where each number was reserved.
use Rattle.std.proofs.Common.{◌≡◌, ◌∙◌, ◌∷◌, ℕ, List, [], refl, Some, ap, subst, sym, map, eqb-true, false, true}
use Rattle.sfs_base.specs.declared.numbers.NodeId.{NodeId}
use Rattle.sfs_base.specs.Listed.{is_listed}
use Rattle.sfs_image.specs.ImageOf.{InodePart}
use Rattle.tree_laws.specs.History.{tree_after}
use Rattle.tree_laws.specs.NameRow.{node_number}
use Rattle.tree_laws.specs.Tree.{is_directory, TreeState}
use Rattle.disk_nodes.specs.declared.old.OldEntry.{OldEntry}
use Rattle.disk_change.specs.AllBuilt.{entry_keyed}
use Rattle.disk_change.specs.Planned.{planned}
use Rattle.beside_laws.specs.Commits.{CoreCommit, IsByItsLook}
use Rattle.beside_laws.proofs.Answers.{answers_tell_nothing}
use Rattle.flush_laws.specs.Volume.{Volume}
use Rattle.book_laws.specs.Imagined.{OnDisk, all_brought, on_disk, with_brought, Imagines, IsImagined}
use Rattle.book_laws.specs.Brings.{Bringing}
use Rattle.book_laws.specs.Pairs.{Pair, bringing_under, commit_under}
use Rattle.book_laws.specs.Walk.{brought_under}
use Rattle.book_laws.proofs.Imagined.{imagined_are_those}
use Rattle.reserve_laws.specs.Plans.{parts_given, bringing_made}
use Rattle.reserve_laws.specs.OwnFile.{bringing_own}
use Rattle.stamp_table.specs.declared.event.Event.{Event}
use Rattle.mem_values.specs.Account.{Commitment}
use Rattle.note_laws.specs.Run.{TableRun, calls_of, TellsCommit}
use Rattle.made_laws.specs.Made.{sources_of, CoreMade, MadeEitherWay, of_notes, OwnMade, own_flush, of_file}
use Rattle.made_laws.specs.Tells.{commit_made, by_notes, last_of_seen, IsMadeCommit, by_file}
use Rattle.made_laws.specs.Own.{TellsMaking, told_notes, told_file, commit_of_own}
use Rattle.made_laws.proofs.Owns.{owns_follow_looks}
use Rattle.slot_laws.specs.Labels.{BoxPast, past_from, first_past}
use Rattle.slot_laws.specs.declared.label.Label.{Label}
use Rattle.slot_laws.specs.Rules.{MayFrom}
use Rattle.close_laws.specs.Maps.{Numbered}
use Rattle.close_laws.specs.Beside.{brought_at, stamps_under}
use Rattle.flush_agrees.specs.Agreement.{FlushTold}
use Rattle.flush_agrees.specs.Closing.{ToldAtEnd}
use Rattle.flush_agrees.specs.Made.{FlushMade}
use Rattle.end_laws.specs.Mount.{MountEnd, MountEnds, IsFsyncAt, ReservedAt, run_at, IsPairOf, AreNamedAlong}
use Rattle.end_laws.specs.Laws.{MountsAreNamed}
use Rattle.end_laws.specs.Cuts.{Lift, lift_of, cuts_left}
use Rattle.end_laws.specs.Pairs.{CommitsMade, IsPairThere, of_look, BringsMade, of_own}
use Rattle.end_laws.proofs.Fronts.{before_number, place_is_first}
use Rattle.end_laws.proofs.Plain.{with_parts, plain_pair, plain_is, IsPlainBy, plain_same_one, plain_same_lift, without_parts, plain_own}
use Rattle.end_laws.proofs.Plans.{same_commit_made}
use Rattle.end_laws.proofs.Making.{not_both_ways, concerns_own, same_own_commit}

-- a volume with another disk
abbrev volume_on : Volume → OnDisk → Volume
volume_on volume disk = record volume { num = disk.num; store = disk.store; parts = disk.parts }

-- no stamp
abbrev no_cuts : ℕ → ℕ
no_cuts node = 0

module _ (at : MountEnd) (stamps : ℕ → ℕ) (plain : ℕ → (ℕ → ℕ) → Pair) where
  -- what a box's labels come to, where a number was reserved
  abbrev past_before : ℕ → BoxPast
  past_before number = past_from at.told.layout (before_number number at.told.log) (first_past at.told.moment)

  abbrev plain_named : Numbered
  plain_named = record { pairs = λ stamp. plain stamp no_cuts; stamps = stamps }

  -- the disk as it is imagined there
  abbrev disk_before : ℕ → OnDisk
  disk_before number = all_brought (brought_at plain_named (past_before number)) (on_disk at.start)

  -- what those that are done there leave, by the stamps of their fsyncs
  abbrev lifts_under : (ℕ → Pair) → List ℕ → List Lift
  lifts_under pairs some = map lift_of (map (commit_under pairs) some)

  -- the stamps of nodes there
  abbrev cuts_before : ℕ → ℕ → ℕ
  cuts_before number = cuts_left (lifts_under plain_named.pairs (stamps_under plain_named (past_before number).done))

  -- a pair with the parts that its commit gives there
  abbrev parts_there : ℕ → Bringing → List InodePart
  parts_there number one = parts_given (volume_on at.start (disk_before number)) one.plan one.grant

  abbrev with_its_parts : ℕ → Pair → Pair
  with_its_parts number pair = record pair { one = with_parts (parts_there number pair.one) pair.one }

  -- by the stamps there, and with these parts
  abbrev pub all_named : Numbered
  all_named = record {
    pairs = λ stamp. with_its_parts (plain stamp no_cuts).commit.number (plain stamp (cuts_before (plain stamp no_cuts).commit.number));
    stamps = stamps;
  }

  module _ (one_same : (stamp : ℕ) (cuts other : ℕ → ℕ) → (plain stamp cuts).one ≡ (plain stamp other).one)
      (lift_same : (stamp : ℕ) (cuts other : ℕ → ℕ) → lift_of (plain stamp cuts).commit ≡ lift_of (plain stamp other).commit) where
    -- parts are nothing to what is on the disk then
    same_disk : (some : List ℕ) (was : OnDisk)
        → all_brought (brought_under all_named.pairs some) was ≡ all_brought (brought_under plain_named.pairs some) was
    same_disk [] was = refl
    same_disk (stamp ∷ some) was =
        same_disk some (with_brought (bringing_under all_named.pairs stamp) was)
        ∙ ap (λ (one : Bringing). all_brought (brought_under plain_named.pairs some) (with_brought one was))
        (one_same stamp (cuts_before (plain stamp no_cuts).commit.number) no_cuts)

    -- and to the stamps
    same_lifts : (some : List ℕ) → lifts_under plain_named.pairs some ≡ lifts_under all_named.pairs some
    same_lifts [] = refl
    same_lifts (stamp ∷ some) = λ i. lift_same stamp no_cuts (cuts_before (plain stamp no_cuts).commit.number) i ∷ same_lifts some i

module _ (D : Type 0) (at : MountEnd) (ends : MountEnds D at) where
  abbrev plain : ℕ → (ℕ → ℕ) → Pair
  plain = plain_pair D at ends

  abbrev stamps : ℕ → ℕ
  stamps = ends.stamps.stamps

  abbrev named : Numbered
  named = all_named at stamps plain

  abbrev run : TableRun
  run = run_at at

  module _ (one : FlushTold) (made : FlushMade) (there : IsFsyncAt at one) (is : one.made ≡ Some made) where
    abbrev stamp : ℕ
    stamp = one.flush.stamp

    abbrev pair : Pair
    pair = named.pairs stamp

    -- its number among those of the plain pairs
    abbrev number : ℕ
    number = (plain stamp no_cuts).commit.number

    abbrev cuts : ℕ → ℕ
    cuts = cuts_before at stamps plain number

    from : IsPlainBy at made (plain stamp)
    from = (plain_is D at ends one there).made made is

    stamp_is : stamps made.number ≡ stamp
    stamp_is = ends.stamps.each there.core there.fsyncs there.there one made there.among is

    -- there is one place where the number was reserved
    place_same : (front : List (Event Label)) → ReservedAt at.told made.number front → before_number made.number at.told.log ≡ front
    place_same front reserved =
        ap (before_number made.number) reserved.whole
        ∙ place_is_first at.told.layout at.told.before made.number reserved.core reserved.seen reserved.grant reserved.back front
        (first_past at.told.moment) (subst (λ (l : List (Event Label)). MayFrom at.told.layout at.told.before l (first_past at.told.moment))
        reserved.whole ends.along.may)

    -- the histories of the start and of the run are of one tree
    same_trees : tree_after run.first (calls_of run) ≡ tree_after at.start.first at.start.history
    same_trees =
        (answers_tell_nothing run.first (calls_of run) at.logs.history ends.asks).whole
        ∙ (λ i. tree_after (sym ends.begins.first i) (sym ends.begins.history i))

    -- What stands under its stamp is of what its core made, where its commit and what it brings are.
    pair_so : MadeEitherWay run made.making → CommitsMade made pair.commit → IsMadeCommit run pair.commit
        → ((told : Commitment) → ToldAtEnd run made told → TellsCommit run pair.commit told)
        → BringsMade made (volume_on at.start (disk_before at stamps plain number)) pair.one
        → ((front : List (Event Label)) (volume : Volume) → ReservedAt at.told made.number front
        → Imagines at.start (brought_at named (past_from at.told.layout front (first_past at.told.moment))) volume
        → IsPairThere run made volume
        (map (commit_under named.pairs) (stamps_under named (past_from at.told.layout front (first_past at.told.moment)).done)) pair)
        → IsPairOf at named one made
    pair_so making commit made_so tells brings beside = record {
      made_in = making;
      commit = commit;
      made_so = made_so;
      tells = tells;
      volume = volume_on at.start (disk_before at stamps plain number);
      brings = brings;
      there = beside;
      is = record {
        made_in = making;
        commit = subst (λ s. CommitsMade made (commit_under named.pairs s)) (sym stamp_is) commit;
        volume = volume_on at.start (disk_before at stamps plain number);
        brings = subst (λ s. BringsMade made (volume_on at.start (disk_before at stamps plain number)) (bringing_under named.pairs s)) (sym stamp_is) brings;
      };
    }

    module _ (number_is : number ≡ made.number) where
      -- the place of the number, beside a volume that is imagined there
      module _ (front : List (Event Label)) (volume : Volume) (reserved : ReservedAt at.told made.number front)
          (imagines : Imagines at.start (brought_at named (past_from at.told.layout front (first_past at.told.moment))) volume) where
        abbrev past : BoxPast
        past = past_from at.told.layout front (first_past at.told.moment)

        abbrev done : List CoreCommit
        done = map (commit_under named.pairs) (stamps_under named past.done)

        imagined : IsImagined at.start (brought_at named past) volume
        imagined = imagined_are_those at.start volume (brought_at named past) ends.begins.labels.walk.stands imagines

        place_is : before_number number at.told.log ≡ front
        place_is = ap (λ n. before_number n at.told.log) number_is ∙ place_same front reserved

        disk_is : disk_before at stamps plain number ≡ on_disk volume
        disk_is =
            ap (λ (l : List (Event Label)). all_brought (brought_at (plain_named at stamps plain) (past_from at.told.layout l (first_past at.told.moment)))
            (on_disk at.start)) place_is
            ∙ (sym (same_disk at stamps plain (plain_same_one D at ends) (plain_same_lift D at ends) (stamps_under named past.done) (on_disk at.start))
            ∙ sym imagined.disk)

        cuts_are : cuts ≡ cuts_left (map lift_of done)
        cuts_are =
            ap (λ (l : List (Event Label)). cuts_left (lifts_under at stamps plain (plain_named at stamps plain).pairs
            (stamps_under (plain_named at stamps plain) (past_from at.told.layout l (first_past at.told.moment)).done))) place_is
            ∙ ap cuts_left (same_lifts at stamps plain (plain_same_one D at ends) (plain_same_lift D at ends) (stamps_under named past.done))

    module _ (core : CoreMade run made.making) (commit_is : (c : ℕ → ℕ) → (plain stamp c).commit ≡ commit_made run made.making core.plans made.number)
        (one_is : (c : ℕ → ℕ) → (plain stamp c).one ≡ without_parts (bringing_made at.start (sources_of made.making []) core.plans made.grant)) where
      abbrev brought_to : Volume → Bringing
      brought_to volume = bringing_made volume (sources_of made.making []) core.plans made.grant

      look_number : number ≡ made.number
      look_number = ap (λ (c : CoreCommit). c.number) (commit_is no_cuts)

      -- with its parts the pair brings what is made of the plan to a volume with the disk as it is there
      brings_look : (disk : OnDisk) → disk_before at stamps plain number ≡ disk → pair.one ≡ brought_to (volume_on at.start disk)
      brings_look disk same =
          (λ i. with_parts (parts_there at stamps plain number (one_is cuts i)) (one_is cuts i)) ∙ ap (λ d. brought_to (volume_on at.start d)) same

      of_commit : CommitsMade made pair.commit
      of_commit = subst (CommitsMade made) (sym (commit_is cuts)) (record {
        number_is = refl;
        holds = λ node. refl;
        last = λ node concerned. refl;
      })

      brings_made_look : BringsMade made (volume_on at.start (disk_before at stamps plain number)) pair.one
      brings_made_look = subst (BringsMade made (volume_on at.start (disk_before at stamps plain number)))
          (sym (brings_look (disk_before at stamps plain number) refl)) (record {
            nodes = λ node. ap (λ (l : List NodeId). is_listed (map node_number l) node) core.plans.nodes;
            change = sym core.plans.made;
            grant = refl;
            parts = refl;
          })

      look_pair_is : IsPairOf at named one made
      look_pair_is =
          pair_so (of_notes core) of_commit
          (by_notes made.making core (commit_is cuts ∙ ap (commit_made run made.making core.plans) (sym of_commit.number_is)))
          (λ told tells. subst (λ c. TellsCommit run c told) (sym (commit_is cuts)) (told_look told tells.number_is tells.tells)) brings_made_look
          (λ front volume reserved imagines.
          of_look core (commit_is cuts) (brings_look (on_disk volume) (disk_is look_number front volume reserved imagines)))
        where
          told_look : (told : Commitment) → told.number ≡ made.number → TellsMaking run made.making told
              → TellsCommit run (commit_made run made.making core.plans made.number) told
          told_look told numbered (told_notes was) =
              subst (λ c. TellsCommit run c told)
              (same_commit_made run made.making was.made.plans core.plans told.number ∙ ap (commit_made run made.making core.plans) numbered) was.tells
          told_look told numbered (told_file was) = not_both_ways run made.making core was.one

    module _ (own : OwnMade run made.making)
        (commit_is : (c : ℕ → ℕ) → (plain stamp c).commit ≡ commit_of_own at.start.first at.start.history c own.own made.number)
        (one_is : (c : ℕ → ℕ) → (plain stamp c).one ≡ plain_own at.start own made.grant) where
      abbrev brought_own : Volume → Bringing
      brought_own volume = bringing_own volume (own_flush own.own) (entry_keyed (own.own.node, own.own.kept)) own.own.files made.grant

      own_number : number ≡ made.number
      own_number = ap (λ (c : CoreCommit). c.number) (commit_is no_cuts)

      brings_file : (disk : OnDisk) → disk_before at stamps plain number ≡ disk → pair.one ≡ brought_own (volume_on at.start disk)
      brings_file disk same =
          (λ i. with_parts (parts_there at stamps plain number (one_is cuts i)) (one_is cuts i)) ∙ ap (λ d. brought_own (volume_on at.start d)) same

      of_commit_own : CommitsMade made pair.commit
      of_commit_own = subst (CommitsMade made) (sym (commit_is cuts)) (record {
        number_is = refl;
        holds = λ node. sym (concerns_own run made.making own node);
        last = λ node concerned.
            let number : node ≡ own.own.node = eqb-true node own.own.node (sym (concerns_own run made.making own node) ∙ concerned) in
            sym (ap last_of_seen (ap made.making.noted.pending number ∙ own.saw));
      })

      file_there : is_directory (tree_after at.start.first at.start.history) own.own.node ≡ false
      file_there = subst (λ (tree : TreeState). is_directory tree own.own.node ≡ false) same_trees own.made.is_file

      made_so_own : IsMadeCommit run pair.commit
      made_so_own =
          let stands = ends.begins.labels.walk.stands.between.history_is in
          by_file
          (subst IsByItsLook (sym (commit_is cuts))
          (owns_follow_looks at.start.first at.start.history cuts own.own made.number stands.sound stands.legal file_there))
          (λ node held.
          let number : node ≡ own.own.node = eqb-true node own.own.node (subst (λ (c : CoreCommit). c.holds node ≡ true) (commit_is cuts) held) in
          subst (λ n. is_directory (tree_after run.first (calls_of run)) n ≡ false) (sym number) own.made.is_file)

      brings_made_own : BringsMade made (volume_on at.start (disk_before at stamps plain number)) pair.one
      brings_made_own = subst (BringsMade made (volume_on at.start (disk_before at stamps plain number)))
          (sym (brings_file (disk_before at stamps plain number) refl)) (record {
            nodes = λ node. sym (ap (λ (l : List NodeId). is_listed (map node_number l) node) own.concerns);
            change = sym (own.change_is ∙ ap (λ (l : List OldEntry). planned l [] own.own.files [] []) own.old_is);
            grant = refl;
            parts = refl;
          })

      own_pair_is : IsPairOf at named one made
      own_pair_is =
          pair_so (of_file own) of_commit_own made_so_own
          (λ told tells. subst (λ c. TellsCommit run c told) (sym (commit_is cuts)) (told_own told tells.number_is tells.tells)) brings_made_own
          (λ front volume reserved imagines.
          let there : IsImagined at.start (brought_at named (past_from at.told.layout front (first_past at.told.moment))) volume =
          imagined own_number front volume reserved imagines in
          of_own own
          (commit_is cuts
          ∙ (λ i. commit_of_own (sym there.first i) (sym there.history i) (cuts_are own_number front volume reserved imagines i) own.own made.number))
          (brings_file (on_disk volume) (disk_is own_number front volume reserved imagines)))
        where
          told_own : (told : Commitment) → told.number ≡ made.number → TellsMaking run made.making told
              → TellsCommit run (commit_of_own at.start.first at.start.history cuts own.own made.number) told
          told_own told numbered (told_notes was) = not_both_ways run made.making was.made own
          told_own told numbered (told_file was) =
              subst (λ c. TellsCommit run c told)
              (same_own_commit run made.making was.one own at.start.first at.start.history cuts told.number
              ∙ ap (commit_of_own at.start.first at.start.history cuts own.own) numbered)
              (was.tells at.start.first at.start.history cuts)

    pair_by : IsPlainBy at made (plain stamp) → IsPairOf at named one made
    pair_by (IsPlainBy.by_look core commit_is one_is) = look_pair_is core commit_is one_is
    pair_by (IsPlainBy.by_own own commit_is one_is) = own_pair_is own commit_is one_is

    pair_is : IsPairOf at named one made
    pair_is = pair_by from

  pub are_named : AreNamedAlong at named
  are_named = record {
    stamps = λ one made there is. stamp_is one made there is;
    flush = λ one there. (plain_is D at ends one there).flush (cuts_before at stamps plain (plain one.flush.stamp no_cuts).commit.number);
    pair = λ one made there is. pair_is one made there is;
  }

pub mounts_are_named : (D : Type 0) → MountsAreNamed D
mounts_are_named D at ends = (named D at ends, are_named D at ends)
