-- A commit ends beside others: what stands beside the volume goes on beside the one that it leaves.
use Rattle.std.proofs.Common.{◌≡◌, ◌≢◌, ◌∷◌, ◌++◌, ◌∙◌, ℕ, Bool, true, false, List, [], map, inl, inr, refl, sym, ap, subst}
use Rattle.std.proofs.lemmas.List.{map-append}
use Rattle.disk_change.specs.Directory.{is_among}
use Rattle.commit_laws.specs.PartsMade.{store_planned}
use Rattle.cut_laws.specs.Closure.{every_entry, Flush, IsRaised, AreInodesAfter}
use Rattle.cut_laws.specs.Rules.{IsOneOf}
use Rattle.beside_laws.specs.Commits.{CoreCommit, Share}
use Rattle.beside_laws.specs.Laws.{IsReadyToEnd, RaisesTo, IsDoneWith}
use Rattle.beside_laws.specs.Progress.{Progress, Standing, IsLater}
use Rattle.beside_laws.proofs.Boxes.{last_or}
use Rattle.beside_laws.proofs.Raising.{knowing_raise}
use Rattle.flush_laws.specs.Laws.{IsStoreLeft}
use Rattle.flush_laws.specs.Volume.{Volume, OneFsync, volume_left}
use Rattle.volume_laws.specs.Volume.{IsVolumeStanding}
use Rattle.volume_laws.proofs.Stores.{store_left, commits_stay_standing}
use Rattle.book_laws.specs.Brings.{BringApart, brought_by, Bringing, Brings}
use Rattle.book_laws.specs.Imagined.{Imagines, one_brought}
use Rattle.book_laws.proofs.Brings.{bringings_stay}
use Rattle.book_laws.specs.Pairs.{Pair, commit_under, bringing_under, run_with, PairsBeside, ArePairsApart, IsOpenBeside}
use Rattle.book_laws.specs.Walk.{brought_under}

-- pairs that are apart bring what is apart
pub bring_apart : (mine theirs : Pair) → ((node : ℕ) → is_among mine.one.nodes node ≡ mine.commit.holds node)
    → ((node : ℕ) → is_among theirs.one.nodes node ≡ theirs.commit.holds node) → ArePairsApart mine theirs → BringApart mine.one theirs.one
bring_apart mine theirs my_nodes their_nodes apart = record {
  nodes = λ node one. by node one (is_among theirs.one.nodes node) refl;
  inodes = apart.inodes;
  blocks = apart.blocks;
}
  where
    by : (node : ℕ) → is_among mine.one.nodes node ≡ true → (b : Bool) → is_among theirs.one.nodes node ≡ b → is_among theirs.one.nodes node ≡ false
    by node one false e = e
    by node one true e = absurd (apart.nodes (record { node = node; one = sym (my_nodes node) ∙ one; two = sym (their_nodes node) ∙ e }))

-- A commit that is to end, at a place of a record: the volume, the stamps of those that are done and open, its own, and what stands beside.
pub record Ending (pairs : ℕ → Pair) : Type 0 where
  pub volume : Volume
  pub done : List ℕ
  pub opens : List ℕ
  pub own : ℕ
  pub among : IsOneOf opens own
  pub stands : IsVolumeStanding volume
  pub beside : PairsBeside pairs done opens volume
  pub brings : Brings volume (bringing_under pairs own)

module _ (pairs : ℕ → Pair) (ending : Ending pairs) where
  abbrev volume : Volume
  volume = ending.volume

  abbrev done : List ℕ
  done = ending.done

  abbrev opens : List ℕ
  opens = ending.opens

  abbrev own : ℕ
  own = ending.own

  abbrev among : IsOneOf opens own
  among = ending.among

  abbrev stands : IsVolumeStanding volume
  stands = ending.stands

  abbrev beside : PairsBeside pairs done opens volume
  beside = ending.beside

  abbrev run : Progress
  run = run_with volume (map (commit_under pairs) done)

  abbrev commit : CoreCommit
  commit = commit_under pairs own

  its : IsOpenBeside volume (map (commit_under pairs) done) (pairs own)
  its = beside.opens own among

  -- the fsync that brings it
  abbrev pub ended_one : OneFsync
  ended_one = brought_by (bringing_under pairs own) ending.brings

  abbrev blocks : ℕ → List ℕ
  blocks = store_planned volume.store (bringing_under pairs own).plan (bringing_under pairs own).grant

  -- the volume that it leaves
  abbrev pub ended : Volume
  ended = volume_left volume ended_one blocks

  pub left_blocks : IsStoreLeft volume ended_one blocks
  left_blocks = store_left volume ended_one ending.brings.planned

  pub raises : RaisesTo run commit ended.cut ended.inodes
  raises = record {
    raises =
        subst (λ (f : Flush). IsRaised volume.first volume.history every_entry volume.cut volume.inodes f ended.cut) (sym its.flush)
        ending.brings.planned.raises;
    inodes_after =
        subst (λ (f : Flush). AreInodesAfter volume.first volume.history every_entry volume.cut volume.inodes f ended.cut ended.inodes) (sym its.flush)
        ending.brings.planned.inodes_after;
  }

  is_ready : IsReadyToEnd run commit
  is_ready = record {
    made = its.made;
    knows = its.knows;
    finds = its.finds (map (commit_under pairs) done) volume.cut volume.inodes beside.standing its.knows;
    later = its.later;
  }

  is_done : IsDoneWith run commit ended.cut ended.inodes
  is_done =
      (knowing_raise run commit stands.between.history_is.sound stands.between.history_is.legal beside.standing is_ready).done ended.cut ended.inodes raises

  done_more : map (commit_under pairs) (done ++ own ∷ []) ≡ map (commit_under pairs) done ++ commit ∷ []
  done_more = map-append (commit_under pairs) done (own ∷ [])

  later_still : (other : ℕ) → IsOneOf opens other → other ≢ own → IsLater (map (commit_under pairs) done ++ commit ∷ []) (commit_under pairs other)
  later_still other one differ = record {
    other_number = λ third there same. elim (last_or (map (commit_under pairs) done) commit third there) [
      | inl before ↦ was.other_number third before same
      | inr last ↦ apart.numbers (sym (ap (λ (c : CoreCommit). c.number) last) ∙ same)
    ];
    greater = λ third there share. elim (last_or (map (commit_under pairs) done) commit third there) [
      | inl before ↦ was.greater third before share
      | inr last ↦ absurd (apart.nodes (subst (Share (commit_under pairs other)) last share))
    ];
  }
    where
      was : IsLater (map (commit_under pairs) done) (commit_under pairs other)
      was = (beside.opens other one).later

      apart : ArePairsApart (pairs other) (pairs own)
      apart = beside.apart other own one among differ

  stays_open : (other : ℕ) → IsOneOf opens other → other ≢ own → IsOpenBeside ended (map (commit_under pairs) (done ++ own ∷ [])) (pairs other)
  stays_open other one differ =
      subst (λ (l : List CoreCommit). IsOpenBeside ended l (pairs other)) (sym done_more) (record {
        flush = was.flush;
        nodes = was.nodes;
        made = was.made;
        knows =
            is_done.others (commit_under pairs other) was.made (λ share. apart.nodes (record { node = share.node; one = share.two; two = share.one }))
            was.knows;
        finds = was.finds;
        later = later_still other one differ;
        brings = bringings_stay volume (bringing_under pairs other) (bringing_under pairs own) blocks (record {
          stays = was.brings;
          ends = ending.brings;
          apart = bring_apart (pairs other) (pairs own) was.nodes its.nodes apart;
          left = left_blocks;
        });
      })
    where
      was : IsOpenBeside volume (map (commit_under pairs) done) (pairs other)
      was = beside.opens other one

      apart : ArePairsApart (pairs other) (pairs own)
      apart = beside.apart other own one among differ

  -- what stands beside the volume that it leaves
  pub ended_beside : (rest : List ℕ) → ((stamp : ℕ) → IsOneOf rest stamp → IsOneOf opens stamp × (stamp ≢ own))
      → PairsBeside pairs (done ++ own ∷ []) rest ended
  ended_beside rest within = record {
    standing = subst (λ (l : List CoreCommit). Standing (run_with ended l)) (sym done_more) is_done.stands;
    opens = λ stamp one. stays_open stamp (within stamp one).0 (within stamp one).1;
    apart = λ stamp other one two. beside.apart stamp other (within stamp one).0 (within other two).0;
  }

  pub ended_stands : IsVolumeStanding ended
  ended_stands =
      commits_stay_standing volume ended_one blocks stands ending.brings.planned ending.brings.comes left_blocks

  -- which is the one that is imagined with one more
  pub ended_imagines : (start : Volume) → Imagines start (brought_under pairs done) volume → Imagines start (brought_under pairs (done ++ own ∷ [])) ended
  ended_imagines start imagines =
      subst (λ (l : List Bringing). Imagines start l ended) (sym (map-append (bringing_under pairs) done (own ∷ [])))
      (one_brought (brought_under pairs done) volume (bringing_under pairs own) imagines ending.brings)
