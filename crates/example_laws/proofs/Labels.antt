-- The labels of the two cores are told beside what their commits bring.
use Rattle.std.proofs.Common.{◌<◌, ◌++◌, ◌≡◌, ◌∙◌, nat_eq, ne_eqb, is_some, option_map, cond, Some, None, Bool, true, false, ℕ, List, [], subst, sym, ap, refl, inl, inr, zero, suc, arith, map}
use Rattle.std.proofs.lemmas.Bool.{cases_eq}
use Rattle.sfs_image.specs.Inode.{inode_bytes, inode_of}
use Rattle.sfs_image.specs.Part.{inode_in}
use Rattle.sfs_image.specs.Bytes.{zeros}
use Rattle.sfs_image.proofs.BytesLaws.{zeros-byte, length-zeros}
use Rattle.sfs_image.proofs.AcceptedLaws.{raw_of}
use Rattle.sfs_image.proofs.InodeLaws.{inode_bytes-inode_of}
use Rattle.sfs_image.proofs.JustMadeLaws.{zeros_are_sound}
use Rattle.fmt_journal.specs.declared.tx.TxRecord.{TxRecord}
use Rattle.space_map.specs.Pool.{Ends, free_numbers}
use Rattle.space_map.specs.Space.{GrantedNumbers}
use Rattle.disk_change.specs.Records.{records_written}
use Rattle.commit_laws.specs.CommitOfPlan.{CommitPlan, change_planned}
use Rattle.commit_laws.specs.PartsStand.{part_next}
use Rattle.cut_laws.specs.Rules.{IsOneOf}
use Rattle.flush_laws.specs.Journal.{IsSpelled}
use Rattle.flush_laws.specs.Volume.{Volume}
use Rattle.turn_laws.specs.Need.{nothing}
use Rattle.merge_laws.proofs.Worked.{of_each}
use Rattle.turn_ties.specs.Plans.{amount_planned}
use Rattle.book_laws.specs.Imagined.{Imagines}
use Rattle.book_laws.proofs.Imagined.{first_imagined}
use Rattle.book_laws.specs.Pairs.{Pair}
use Rattle.reserve_laws.specs.Fits.{TellsPair, by_look}
use Rattle.stamp_table.specs.declared.event.Event.{Event}
use Rattle.stamp_table.specs.Events.{event_core}
use Rattle.slot_laws.specs.Labels.{past_from, nothing_told, first_past, BoxPast}
use Rattle.slot_laws.specs.declared.label.Seen.{Seen}
use Rattle.slot_laws.specs.Nodes.{LastCommit, no_last, ReservedCommit, no_numbers, last_seen, last_ended}
use Rattle.slot_laws.specs.declared.label.Label.{Label}
use Rattle.slot_laws.specs.Rules.{MayFrom}
use Rattle.slot_laws.specs.Grants.{SpaceDoes, SpaceStep, TakesGrant, EndsGrant, SpaceGoes, GoesAlong}
use Rattle.slot_laws.specs.Lasts.{IsMadeAs}
use Rattle.slot_laws.specs.Worked.{seen_one}
use Rattle.slot_laws.proofs.Lawful.{none_by}
use Rattle.slot_laws.proofs.WorkedBegins.{one_unmoved}
use Rattle.slot_laws.proofs.Comes.{may_both}
use Rattle.close_laws.specs.Own.{OwnStand, nothing_owed, StandBeside}
use Rattle.close_laws.specs.Maps.{IsTold, GrantFits, ReservedAs, IsEmptyAs, FitBringings, FitsBringing}
use Rattle.close_laws.specs.Beside.{IsToldBeside, BeginsLabels}
use Rattle.example_laws.specs.Fsyncs.{core_commit_of, NO_GRANT, Flushing, commit_plan, pair_by, FIRST_FLUSH, SECOND_FLUSH, sources_by}
use Rattle.example_laws.specs.Told.{UP_TO_THE_FIFTH, AT_THE_EIGHTH, TWO_NUMBERED, TWO_TOLD}
use Rattle.example_laws.specs.Image.{TWELVE_BLOCKS, TWO_DIRECTORIES, TWO_PARTS, ROOT_BLOCK, TWO_RECORDS}
use Rattle.example_laws.specs.Map.{TWO_TAKEN}
use Rattle.example_laws.proofs.Mapped.{tx_of, transaction_none, grants_none, nothing_granted, map_right}
use Rattle.example_laws.proofs.Telling.{IsTold as IsFlushed, ENTRIES, entries_kept, core_tells, first_told, second_told}
use Rattle.example_laws.proofs.Reserving.{take_none}
use Rattle.example_laws.proofs.Plans.{NeedsNone, first_needs, second_needs, second_unwritten, first_unwritten}
use Rattle.example_laws.proofs.Image.{inode_cases, root_is, root_raw, one_is, one_raw}
use Rattle.example_laws.proofs.Standing.{walk_begins}

pub may_five : MayFrom TWELVE_BLOCKS 0 UP_TO_THE_FIFTH (first_past 5)
may_five = (
  (refl, tt),
  (
    (refl, record { calm = refl; next = refl; none = refl; rests = refl; unmoved = one_unmoved (λ _. no_last) 1 0 refl }),
    (
      (refl, tt),
      (
        (refl, tt),
        (
          (refl, record { calm = refl; next = refl; none = refl; rests = refl; unmoved = one_unmoved _ 0 0 refl }),
          (
            (
              refl,
              record {
                calm = refl;
                number = refl;
                flush = record { node = 0; stamp = 1 };
                cut_is = record { did_is = refl; core_is = refl; commit_is = refl; flush_is = refl };
                opened_is = record { did_is = refl; core_is = refl; commit_is = refl; flush_is = refl };
                durable_is = record { did_is = refl; core_is = refl; commit_is = refl; flush_is = refl };
                cut_now = record { rises = omega arith; counts = refl };
                opened_now = (refl, refl);
                durable_now = (refl, refl);
              },
            ),
            ((refl, tt), tt),
          ),
        ),
      ),
    ),
  ),
)

pub may_eight : MayFrom TWELVE_BLOCKS 0 AT_THE_EIGHTH (past_from TWELVE_BLOCKS UP_TO_THE_FIFTH (first_past 5))
may_eight = (
  (refl, tt),
  (
    (
      refl,
      record {
        calm = refl;
        number = refl;
        flush = record { node = 1; stamp = 0 };
        cut_is = record { did_is = refl; core_is = refl; commit_is = refl; flush_is = refl };
        opened_is = record { did_is = refl; core_is = refl; commit_is = refl; flush_is = refl };
        durable_is = record { did_is = refl; core_is = refl; commit_is = refl; flush_is = refl };
        cut_now = record { rises = omega arith; counts = refl };
        opened_now = (refl, refl);
        durable_now = (refl, refl);
      },
    ),
    ((refl, tt), tt),
  ),
)

labels_may : MayFrom TWELVE_BLOCKS 0 (UP_TO_THE_FIFTH ++ AT_THE_EIGHTH) (first_past 5)
labels_may = may_both TWELVE_BLOCKS 0 UP_TO_THE_FIFTH AT_THE_EIGHTH (first_past 5) may_five may_eight

-- the map stays as it is
abbrev stays : (event : Event Label) (past : BoxPast) → SpaceDoes event past TWO_TAKEN TWO_TAKEN → SpaceStep event past TWO_TAKEN
stays event past does = record { next = TWO_TAKEN; does = does }

pub takes_nothing : TakesGrant TWO_TAKEN NO_GRANT TWO_TAKEN
takes_nothing = record {
  inodes = grants_none TWO_TAKEN.inodes 0 refl;
  blocks = grants_none TWO_TAKEN.blocks 0 refl;
  least = sym (take_none (free_numbers TWO_TAKEN.inodes) 0 refl);
}

-- a commit that reserved nothing ends
pub ends_nothing : (opens : List ReservedCommit) (number : ℕ) (one : ReservedCommit) → IsOneOf opens one → one.number ≡ number → one.grant ≡ NO_GRANT
    → one.gives_up ≡ no_numbers → EndsGrant opens number TWO_TAKEN TWO_TAKEN
ends_nothing opens number one among same grant given = record {
  own = record { commit = one; among = among; number_is = same };
  inodes = subst (λ (p : GrantedNumbers × GrantedNumbers). Ends p.0.inodes p.1.inodes TWO_TAKEN.inodes TWO_TAKEN.inodes) (λ i. (sym grant i, sym given i))
      (λ number. refl);
  blocks = subst (λ (p : GrantedNumbers × GrantedNumbers). Ends p.0.blocks p.1.blocks TWO_TAKEN.blocks TWO_TAKEN.blocks) (λ i. (sym grant i, sym given i))
      (λ number. refl);
}

map_goes : SpaceGoes TWELVE_BLOCKS (UP_TO_THE_FIFTH ++ AT_THE_EIGHTH) (first_past 5) TWO_TAKEN TWO_TAKEN
map_goes = (
  stays _ _ refl,
  (
    stays _ _ takes_nothing,
    (
      stays _ _ refl,
      (
        stays _ _ refl,
        (
          stays _ _ takes_nothing,
          (
            stays _ _ (ends_nothing _ 2 _ (inr (inl refl)) refl refl refl),
            (
              stays _ _ refl,
              (stays _ _ refl, (stays _ _ (ends_nothing _ 1 _ (inl refl) refl refl refl), (stays _ _ refl, refl))),
            ),
          ),
        ),
      ),
    ),
  ),
)

pub labels_go : GoesAlong TWELVE_BLOCKS 0 5 (UP_TO_THE_FIFTH ++ AT_THE_EIGHTH) TWO_TAKEN TWO_TAKEN
labels_go = record { may = labels_may; no_inodes = nothing_granted.inodes; no_blocks = nothing_granted.blocks; goes = map_goes }

-- each label is one of the two cores'
pub two_cores : (event : Event Label) → IsOneOf TWO_TOLD.log event → event_core event < 2
two_cores = of_each (λ (event : Event Label). event_core event < 2) TWO_TOLD.log
    (omega arith, (omega arith, (omega arith, (omega arith, (omega arith, (omega arith, (omega arith, (omega arith, (omega arith, (omega arith, tt))))))))))

-- each core's labels stand beside its turns
labels_stand : StandBeside TWO_NUMBERED.stamps (UP_TO_THE_FIFTH ++ AT_THE_EIGHTH)
labels_stand zero = (tt, (tt, (tt, (tt, (refl, (tt, tt))))))
labels_stand (suc zero) = (tt, (tt, (refl, (tt, tt))))
labels_stand (suc (suc core)) =
    subst (OwnStand TWO_NUMBERED.stamps nothing_told nothing_owed) (sym (none_by TWO_TOLD.log 2 (suc (suc core)) two_cores (omega arith))) tt

-- a commit that needs nothing and writes nothing
amount_none : (plan : CommitPlan) → NeedsNone plan → amount_planned plan ≡ nothing
amount_none plan needs = λ i. record { inodes = needs.inodes i; blocks = needs.blocks i }

grant_fits : (flushing : Flushing) → NeedsNone (commit_plan flushing) → GrantFits (pair_by flushing).one NO_GRANT
grant_fits flushing needs = record {
  grant_is = refl;
  needed = amount_none (commit_plan flushing) needs;
  words = record {
    inodes = let none = needs.inodes in omega (arith, none);
    blocks = let none = needs.blocks in omega (arith, none);
  };
}

reserved_as : (number : ℕ) (flushing : Flushing) → NeedsNone (commit_plan flushing) → TWO_NUMBERED.pairs (TWO_NUMBERED.stamps number) ≡ pair_by flushing
    → IsMadeAs (core_commit_of flushing) number (seen_one flushing.node 0).items → ReservedAs TWO_NUMBERED number (seen_one flushing.node 0).items NO_GRANT
reserved_as number flushing needs is made = record {
  made = subst (λ (p : Pair). IsMadeAs p.commit number (seen_one flushing.node 0).items) (sym is) made;
  grants = subst (λ (p : Pair). GrantFits p.one NO_GRANT) (sym is) (grant_fits flushing needs);
}

empty_as : (flushing : Flushing) → NeedsNone (commit_plan flushing) → records_written (change_planned (commit_plan flushing)) NO_GRANT ≡ []
    → IsEmptyAs (pair_by flushing).one
empty_as flushing needs unwritten = record {
  gives = ap (map (λ (written : TxRecord). record {
    inode = written.inode;
    part = part_next TWO_DIRECTORIES.store TWO_DIRECTORIES.parts (commit_plan flushing) NO_GRANT written.inode;
  })) unwritten;
  frees = record { tx = tx_of (commit_plan flushing); is = transaction_none flushing needs; inodes = refl; blocks = refl };
}

made_as : (flushing : Flushing) → (node : ℕ) → (core_commit_of flushing).holds node ≡ is_some (last_seen (seen_one flushing.node 0).items node)
made_as flushing node =
    let there : nat_eq node flushing.node ≡ nat_eq flushing.node node = alike node flushing.node in
    there ∙ by (nat_eq flushing.node node)
  where
    alike : (a b : ℕ) → nat_eq a b ≡ nat_eq b a
    alike a b = elim (cases_eq a b) [
      | inl same ↦ subst (λ n. nat_eq a n ≡ nat_eq n a) same refl
      | inr other ↦ ne_eqb a b other ∙ sym (ne_eqb b a (λ e. other (sym e)))
    ]

    by : (b : Bool) → b ≡ is_some (option_map (λ (one : Seen). one.last) (cond b (Some (record { node = record { 0 = flushing.node }; last = 0 })) None))
    by true = refl
    by false = refl

-- no node had a commit
pub last_none : (flushing : Flushing) (node last : ℕ) → last_seen (seen_one flushing.node 0).items node ≡ Some last → 0 ≡ last
last_none flushing node last seen = ap (λ (one : LastCommit). one.number) (one_unmoved (λ _. last_ended 0) flushing.node 0 refl node last seen)

labels_fit : FitBringings TWO_NUMBERED (UP_TO_THE_FIFTH ++ AT_THE_EIGHTH)
labels_fit = of_each (FitsBringing TWO_NUMBERED) (UP_TO_THE_FIFTH ++ AT_THE_EIGHTH) (
  tt,
  (
    reserved_as 1 FIRST_FLUSH first_needs refl (record { number_is = refl; holds = made_as FIRST_FLUSH; last = last_none FIRST_FLUSH }),
    (
      tt,
      (
        tt,
        (
          reserved_as 2 SECOND_FLUSH second_needs refl (record { number_is = refl; holds = made_as SECOND_FLUSH; last = last_none SECOND_FLUSH }),
          (
            empty_as SECOND_FLUSH second_needs second_unwritten,
            (tt, (tt, (empty_as FIRST_FLUSH first_needs first_unwritten, (tt, tt)))),
          ),
        ),
      ),
    ),
  ),
)

pub labels_are_told : IsTold TWO_NUMBERED TWO_TOLD
labels_are_told = record { along = labels_go; stand = labels_stand; fit = labels_fit }

-- each record is spelled as its inode is
spelled : IsSpelled TWO_DIRECTORIES
spelled i within = elim (inode_cases i) [
  | inl some ↦ elim some [
    | inl root ↦ subst (λ n. inode_bytes (inode_in (TWO_PARTS n)) ≡ (TWO_PARTS n).raw) (sym root) (ap inode_bytes root_is ∙ sym root_raw)
    | inr one ↦ subst (λ n. inode_bytes (inode_in (TWO_PARTS n)) ≡ (TWO_PARTS n).raw) (sym one) (ap inode_bytes one_is ∙ sym one_raw)
  ]
  | inr free ↦
      let raw : (TWO_PARTS i).raw ≡ zeros 512 = raw_of ROOT_BLOCK (TWO_RECORDS i) ∙ free.2 in
      subst (λ bytes. inode_bytes (inode_of bytes) ≡ bytes) (sym raw)
      (inode_bytes-inode_of (zeros 512) (length-zeros 512) (λ k. let zero_there = zeros-byte 512 k in omega (arith, zero_there)) zeros_are_sound)
]

begins : BeginsLabels TWELVE_BLOCKS TWO_DIRECTORIES ENTRIES TWO_TAKEN
begins = record { walk = walk_begins; spelled = spelled; layout_is = refl; keeps = entries_kept; right = map_right }

-- with nothing brought the volume is the first one
tells_first : (flushing : Flushing) → IsFlushed flushing → (volume : Volume) → Imagines TWO_DIRECTORIES [] volume → TellsPair volume [] (pair_by flushing)
tells_first flushing told volume imagines =
    subst (λ (v : Volume). TellsPair v [] (pair_by flushing)) (sym (first_imagined TWO_DIRECTORIES volume [] imagines refl))
    (by_look (sources_by flushing) (core_tells flushing told))

pub labels_stand_told : IsToldBeside TWO_DIRECTORIES ENTRIES TWO_NUMBERED TWO_TOLD
labels_stand_told = record {
  is = labels_are_told;
  begins = begins;
  tell = (
    tt,
    (
      (λ volume imagines beside. tells_first FIRST_FLUSH first_told volume imagines),
      (tt, (tt, ((λ volume imagines beside. tells_first SECOND_FLUSH second_told volume imagines), (tt, (tt, (tt, (tt, (tt, tt)))))))),
    ),
  );
}
