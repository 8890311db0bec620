-- The labels of the two cores are told beside what their commits bring.
use Rattle.std.specs.List.{list_all}
use Rattle.sfs_base.proofs.BasicTruth.{and_first, and_second}
use Rattle.std.proofs.Common.{nat_lt}
use Rattle.std.proofs.lemmas.Bool.Decides.{nat_tests}
use Rattle.std.proofs.Common.{◌<◌, ◌≤◌, ◌++◌, ◌≡◌, ◌∙◌, ◌∷◌, nat_eq, is_some, option_map, cond, Some, None, Bool, true, false, ℕ, List, [], subst, sym, ap, refl, inl, inr, zero, suc, arith, map, slice_get}
use Rattle.sfs_base.proofs.BasicNumbers.{turned}
use Rattle.sfs_base.proofs.BasicOptions.{none_some, some_same}
use Rattle.sfs_image.specs.Inode.{inode_bytes, inode_of}
use Rattle.sfs_image.specs.Part.{Part, inode_in}
use Rattle.sfs_image.specs.Bytes.{zeros}
use Rattle.sfs_image.proofs.BytesLaws.{zeros-byte, length-zeros}
use Rattle.sfs_image.proofs.AcceptedLaws.{raw_of}
use Rattle.sfs_image.proofs.InodeLaws.{inode_bytes-inode_of}
use Rattle.sfs_image.proofs.JustMadeLaws.{zeros_are_sound}
use Rattle.space_map.specs.Pool.{free_numbers}
use Rattle.space_map.specs.declared.status.Status.TheVariants.{Granted, Taken, Free}
use Rattle.journal_one.specs.Packed.{record_entry, block_of}
use Rattle.tree_laws.specs.declared.turns.Turn.{Turn}
use Rattle.cut_laws.specs.Rules.{IsOneOf}
use Rattle.cut_laws.proofs.Basics.{in_either}
use Rattle.tree_laws.specs.declared.turns.TurnAct.TheVariants as act
use Rattle.disk_change.specs.Written.{IsTransactionOf}
use Rattle.commit_laws.specs.CommitOfPlan.{change_planned}
use Rattle.flush_laws.specs.Journal.{IsSpelled}
use Rattle.flush_laws.specs.Volume.{Volume}
use Rattle.turn_laws.specs.Need.{Amount}
use Rattle.merge_laws.specs.Pens.{FsyncTurns, PenAgrees}
use Rattle.merge_laws.proofs.Worked.{of_each}
use Rattle.book_laws.specs.Imagined.{Imagines}
use Rattle.book_laws.proofs.Imagined.{first_imagined}
use Rattle.reserve_laws.specs.Fits.{TellsPair}
use Rattle.stamp_table.specs.declared.event.Event.{Event}
use Rattle.stamp_table.specs.Events.{event_core}
use Rattle.slot_laws.specs.Labels.{past_from, nothing_told, first_past, BoxPast, after_event}
use Rattle.slot_laws.specs.declared.label.Seen.{Seen}
use Rattle.slot_laws.specs.Nodes.{LastCommit, last_seen, last_ended}
use Rattle.slot_laws.specs.declared.label.Label.{Label}
use Rattle.slot_laws.specs.declared.label.Label.TheVariants as label
use Rattle.slot_laws.specs.Laws.{IsPenOf}
use Rattle.slot_laws.specs.Grants.{SpaceGoes, GoesAlong}
use Rattle.slot_laws.specs.Lasts.{IsMadeAs}
use Rattle.slot_laws.specs.Worked.{seen_one}
use Rattle.slot_laws.proofs.Lawful.{none_by}
use Rattle.slot_laws.proofs.WorkedBegins.{one_unmoved}
use Rattle.slot_laws.proofs.GrantsTold.{goes_both, quiet_goes}
use Rattle.close_laws.specs.Own.{OwnStand, NotesTurn, nothing_owed, StandBeside}
use Rattle.close_laws.specs.Maps.{IsTold, GrantFits, ReservedAs, BeginsAs, FitBringings, FitsBringing, past_of}
use Rattle.close_laws.specs.Beside.{IsToldBeside, BeginsLabels, TellAlong}
use Rattle.close_laws.specs.Close.{PensAgree}
use Rattle.example_laws.proofs.Mapped.{grants_none}
use Rattle.example_laws.proofs.Reserving.{take_none}
use Rattle.example_grants.specs.Calls.{FIRST_TREE, WRITES_AND_FSYNCS}
use Rattle.example_grants.specs.Fsyncs.{Writer, OWN, OTHER, ENTRIES, plan_of_writer, grant_by, pair_made}
use Rattle.example_grants.specs.Told.{job_by, OWN_JOB, OTHER_JOB, RESERVE, BEGIN, FILL, OPEN, LAND, FILES_NUMBERED, FILES_TOLD, WritersTellLabels}
use Rattle.example_grants.specs.Turns.{own_act, other_act, FILES_TURNS, FILES_PENS}
use Rattle.example_grants.specs.Image.{FIFTEEN_BLOCKS, TWO_FILES, FIRST_PARTS, ROWS_BLOCK, FIRST_RECORDS}
use Rattle.example_grants.specs.Laws.{WritesOne}
use Rattle.example_grants.specs.Map.{FIRST_MAP, map_with}
use Rattle.example_grants.proofs.Mapped.{tx_by, own_transaction, other_transaction, own_granted, other_granted, own_ends, other_ends, nothing_granted, map_right}
use Rattle.example_grants.proofs.Telling.{IsWriter, entries_kept, own_is, other_is, tells}
use Rattle.example_grants.proofs.Plans.{own_writes, other_writes}
use Rattle.example_grants.proofs.Image.{inode_cases, root_is, root_raw, file_is, file_raw}
use Rattle.example_grants.proofs.Standing.{walk_begins}
use Rattle.example_grants.proofs.Turns.{pens_agree}
use Rattle.example_grants.proofs.Rules.{reserved_past, begun_past, filled_past, opened_past, labels_may}

-- a map goes along: both reserve a block each, and both commits end
map_reserve : SpaceGoes FIFTEEN_BLOCKS RESERVE (first_past 0) FIRST_MAP (map_with Granted Granted)
map_reserve = (
  record { next = FIRST_MAP; does = refl },
  (
    record {
      next = map_with Granted Free;
      does = record {
        inodes = grants_none FIRST_MAP.inodes 0 refl;
        blocks = own_granted 1 refl;
        least = sym (take_none (free_numbers FIRST_MAP.inodes) 0 refl);
      };
    },
    (
      record { next = map_with Granted Free; does = refl },
      (
        record { next = map_with Granted Free; does = refl },
        (
          record { next = map_with Granted Free; does = refl },
          (
            record {
              next = map_with Granted Granted;
              does = record {
                inodes = grants_none FIRST_MAP.inodes 0 refl;
                blocks = other_granted 1 refl;
                least = sym (take_none (free_numbers FIRST_MAP.inodes) 0 refl);
              };
            },
            (record { next = map_with Granted Granted; does = refl }, (record { next = map_with Granted Granted; does = refl }, refl)),
          ),
        ),
      ),
    ),
  ),
)

map_land : SpaceGoes FIFTEEN_BLOCKS LAND opened_past (map_with Granted Granted) (map_with Taken Taken)
map_land = (
  record { next = map_with Granted Granted; does = refl },
  (
    record { next = map_with Granted Granted; does = refl },
    (
      record {
        next = map_with Granted Taken;
        does = record { own = record { commit = _; among = inr (inl refl); number_is = refl }; inodes = λ number. refl; blocks = other_ends };
      },
      (
        record { next = map_with Granted Taken; does = refl },
        (
          record { next = map_with Granted Taken; does = refl },
          (
            record { next = map_with Granted Taken; does = refl },
            (
              record { next = map_with Granted Taken; does = refl },
              (
                record {
                  next = map_with Taken Taken;
                  does = record { own = record { commit = _; among = inl refl; number_is = refl }; inodes = λ number. refl; blocks = own_ends };
                },
                (record { next = map_with Taken Taken; does = refl }, (record { next = map_with Taken Taken; does = refl }, refl)),
              ),
            ),
          ),
        ),
      ),
    ),
  ),
)

map_goes : SpaceGoes FIFTEEN_BLOCKS FILES_TOLD.log (first_past 0) FIRST_MAP (map_with Taken Taken)
map_goes =
    goes_both FIFTEEN_BLOCKS (BEGIN ++ (FILL ++ (OPEN ++ LAND))) (map_with Granted Granted) (map_with Taken Taken) RESERVE (first_past 0) FIRST_MAP map_reserve
    (goes_both FIFTEEN_BLOCKS (FILL ++ (OPEN ++ LAND)) (map_with Granted Granted) (map_with Taken Taken) BEGIN reserved_past (map_with Granted Granted)
    (quiet_goes FIFTEEN_BLOCKS BEGIN reserved_past (map_with Granted Granted) refl)
    (goes_both FIFTEEN_BLOCKS (OPEN ++ LAND) (map_with Granted Granted) (map_with Taken Taken) FILL begun_past (map_with Granted Granted)
    (quiet_goes FIFTEEN_BLOCKS FILL begun_past (map_with Granted Granted) refl)
    (goes_both FIFTEEN_BLOCKS LAND (map_with Granted Granted) (map_with Taken Taken) OPEN filled_past (map_with Granted Granted)
    (quiet_goes FIFTEEN_BLOCKS OPEN filled_past (map_with Granted Granted) refl) map_land)))

labels_go : GoesAlong FIFTEEN_BLOCKS 0 0 FILES_TOLD.log FIRST_MAP (map_with Taken Taken)
labels_go = record { may = labels_may; no_inodes = nothing_granted.inodes; no_blocks = nothing_granted.blocks; goes = map_goes }

-- each label is one of the two cores'
pub two_cores : (event : Event Label) → IsOneOf FILES_TOLD.log event → event_core event < 2
two_cores event one = below (event_core event) (passes (λ (e : Event Label). nat_lt (event_core e) 2) FILES_TOLD.log refl event one)
  where
    below : (core : ℕ) → nat_lt core 2 ≡ true → core < 2
    below core test = grind (arith, nat_tests, test)

    passes : {X : Type 0} (test : X → Bool) (xs : List X) → list_all test xs ≡ true → (x : X) → IsOneOf xs x → test x ≡ true
    passes test [] all x one = absurd one
    passes test (y ∷ xs) all x (inl same) = subst (λ z. test z ≡ true) same (and_first (test y) (list_all test xs) all)
    passes test (y ∷ xs) all x (inr one) = passes test xs (and_second (test y) (list_all test xs) all) x one

-- each core's labels stand beside its turns
own_noted : NotesTurn act.Granted 2 (label.Noted (own_act 0 act.Granted))
own_noted = record { turn = _; is = refl; did_is = refl; stamp_is = refl }

other_noted : NotesTurn act.Granted 3 (label.Noted (other_act 0 act.Granted))
other_noted = record { turn = _; is = refl; did_is = refl; stamp_is = refl }

labels_stand : StandBeside FILES_NUMBERED.stamps FILES_TOLD.log
labels_stand zero =
    (tt, (tt, (own_noted, (tt, (tt, (refl, (tt, (tt, (tt, (tt, (tt, (tt, (tt, (tt, (tt, (tt, (tt, (tt, (tt, (tt, (tt, (tt, tt))))))))))))))))))))))
labels_stand (suc zero) =
    (tt, (tt, (other_noted, (tt, (tt, (refl, (tt, (tt, (tt, (tt, (tt, (tt, (tt, (tt, (tt, (tt, (tt, (tt, (tt, (tt, (tt, tt)))))))))))))))))))))
labels_stand (suc (suc core)) =
    subst (OwnStand FILES_NUMBERED.stamps nothing_told nothing_owed) (sym (none_by FILES_TOLD.log 2 (suc (suc core)) two_cores (omega arith))) tt

-- a number is reserved for a commit as its core made it
holds_own : (file node : ℕ) → nat_eq node file ≡ is_some (last_seen (seen_one file 0).items node)
holds_own file node = turned node file ∙ by (nat_eq file node)
  where
    by : (b : Bool) → b ≡ is_some (option_map (λ (one : Seen). one.last) (cond b (Some (record { node = record { 0 = file }; last = 0 })) None))
    by true = refl
    by false = refl

made_as : (w : Writer) → IsMadeAs (pair_made w).commit w.number (seen_one w.file 0).items
made_as w = record {
  number_is = refl;
  holds = holds_own w.file;
  last = λ node last seen. ap (λ (one : LastCommit). one.number) (one_unmoved (λ _. last_ended 0) w.file 0 refl node last seen);
}

grant_fits : (w : Writer) → WritesOne w (plan_of_writer w) → GrantFits (pair_made w).one (grant_by w)
grant_fits w writes = record {
  grant_is = refl;
  needed = writes.needs;
  words = record {
    inodes = let none = ap (λ (a : Amount). a.inodes) writes.needs in omega (arith, none);
    blocks = let one = ap (λ (a : Amount). a.blocks) writes.needs in omega (arith, one);
  };
}

own_reserved_as : ReservedAs FILES_NUMBERED 1 (seen_one 1 0).items (grant_by OWN)
own_reserved_as = record { made = made_as OWN; grants = grant_fits OWN own_writes }

other_reserved_as : ReservedAs FILES_NUMBERED 2 (seen_one 2 0).items (grant_by OTHER)
other_reserved_as = record { made = made_as OTHER; grants = grant_fits OTHER other_writes }

-- a commit begins as what its fsync brings
begins_as : (w : Writer) (slot stamp : ℕ) → slot < 2 → WritesOne w (plan_of_writer w)
    → IsTransactionOf (change_planned (plan_of_writer w)) (grant_by w) (tx_by w)
    → BeginsAs (pair_made w).one (job_by w slot stamp) (record { inodes = []; blocks = [] })
begins_as w slot stamp within writes transaction = record {
  writes = record {
    slot = omega (arith, within);
    entries = sym (ap (map record_entry) writes.records);
    fresh = sym (ap (map block_of) writes.fresh);
  };
  frees = record { tx = tx_by w; is = transaction; inodes = refl; blocks = refl };
}

own_begins_as : BeginsAs (pair_made OWN).one OWN_JOB (record { inodes = []; blocks = [] })
own_begins_as = begins_as OWN 0 2 (omega arith) own_writes own_transaction

other_begins_as : BeginsAs (pair_made OTHER).one OTHER_JOB (record { inodes = []; blocks = [] })
other_begins_as = begins_as OTHER 1 1 (omega arith) other_writes other_transaction

-- what fits of two histories fits of both, one behind the other
both_fit : (log more : List (Event Label)) → FitBringings FILES_NUMBERED log → FitBringings FILES_NUMBERED more → FitBringings FILES_NUMBERED (log ++ more)
both_fit log more fit later event one = elim (in_either log more event one) [ inl first ↦ fit event first | inr second ↦ later event second ]

fit_reserve : FitBringings FILES_NUMBERED RESERVE
fit_reserve = of_each (FitsBringing FILES_NUMBERED) RESERVE (tt, (own_reserved_as, (tt, (tt, (tt, (other_reserved_as, (tt, (tt, tt))))))))

fit_begin : FitBringings FILES_NUMBERED BEGIN
fit_begin = of_each (FitsBringing FILES_NUMBERED) BEGIN (tt, (other_begins_as, (tt, (tt, (own_begins_as, (tt, tt))))))

fit_fill : FitBringings FILES_NUMBERED FILL
fit_fill = of_each (FitsBringing FILES_NUMBERED) FILL (tt, (tt, (tt, (tt, (tt, (tt, (tt, (tt, (tt, (tt, (tt, (tt, (tt, tt)))))))))))))

fit_open : FitBringings FILES_NUMBERED OPEN
fit_open = of_each (FitsBringing FILES_NUMBERED) OPEN (tt, (tt, (tt, (tt, (tt, (tt, tt))))))

fit_land : FitBringings FILES_NUMBERED LAND
fit_land = of_each (FitsBringing FILES_NUMBERED) LAND (tt, (tt, (tt, (tt, (tt, (tt, (tt, (tt, (tt, (tt, tt))))))))))

labels_fit : FitBringings FILES_NUMBERED FILES_TOLD.log
labels_fit =
    both_fit RESERVE (BEGIN ++ (FILL ++ (OPEN ++ LAND))) fit_reserve
    (both_fit BEGIN (FILL ++ (OPEN ++ LAND)) fit_begin (both_fit FILL (OPEN ++ LAND) fit_fill (both_fit OPEN LAND fit_open fit_land)))

labels_are_told : IsTold FILES_NUMBERED FILES_TOLD
labels_are_told = record { along = labels_go; stand = labels_stand; fit = labels_fit }

-- each record is spelled as its inode is
spelled : IsSpelled TWO_FILES
spelled i within = elim (inode_cases i) [
  | inl some ↦ elim some [
    | inl root ↦ subst (λ n. inode_bytes (inode_in (FIRST_PARTS n)) ≡ (FIRST_PARTS n).raw) (sym root) (ap inode_bytes root_is ∙ sym root_raw)
    | inr file ↦ subst (λ (p : Part). inode_bytes (inode_in p) ≡ p.raw) (sym file) (ap inode_bytes file_is ∙ sym file_raw)
  ]
  | inr free ↦
      let raw : (FIRST_PARTS i).raw ≡ zeros 512 = raw_of ROWS_BLOCK (FIRST_RECORDS i) ∙ free.3 in
      subst (λ bytes. inode_bytes (inode_of bytes) ≡ bytes) (sym raw)
      (inode_bytes-inode_of (zeros 512) (length-zeros 512) (λ k. let zero_there = zeros-byte 512 k in omega (arith, zero_there)) zeros_are_sound)
]

begins : BeginsLabels FIFTEEN_BLOCKS TWO_FILES ENTRIES FIRST_MAP
begins = record { walk = walk_begins; spelled = spelled; layout_is = refl; keeps = entries_kept; right = map_right }

-- with nothing brought the volume is the first one
tells_first : (w : Writer) → IsWriter w → (volume : Volume) → Imagines TWO_FILES [] volume → TellsPair volume [] (pair_made w)
tells_first w is volume imagines =
    subst (λ (v : Volume). TellsPair v [] (pair_made w)) (sym (first_imagined TWO_FILES volume [] imagines refl)) (tells w is)

-- what is told of pairs along two histories is told along both, one behind the other
both_tell : (log more : List (Event Label)) (past : BoxPast) → TellAlong FIFTEEN_BLOCKS TWO_FILES FILES_NUMBERED log past
    → TellAlong FIFTEEN_BLOCKS TWO_FILES FILES_NUMBERED more (past_from FIFTEEN_BLOCKS log past)
    → TellAlong FIFTEEN_BLOCKS TWO_FILES FILES_NUMBERED (log ++ more) past
both_tell [] more past tell later = later
both_tell (event ∷ log) more past tell later = (tell.0, both_tell log more (after_event FIFTEEN_BLOCKS event past) tell.1 later)

tell_reserve : TellAlong FIFTEEN_BLOCKS TWO_FILES FILES_NUMBERED RESERVE (first_past 0)
tell_reserve = (
  tt,
  (
    λ volume imagines beside. tells_first OWN own_is volume imagines,
    (tt, (tt, (tt, (λ volume imagines beside. tells_first OTHER other_is volume imagines, (tt, (tt, tt)))))),
  ),
)

tell_fill : TellAlong FIFTEEN_BLOCKS TWO_FILES FILES_NUMBERED FILL begun_past
tell_fill = (tt, (tt, (tt, (tt, (tt, (tt, (tt, (tt, (tt, (tt, (tt, (tt, (tt, tt)))))))))))))

labels_tell : TellAlong FIFTEEN_BLOCKS TWO_FILES FILES_NUMBERED FILES_TOLD.log (first_past 0)
labels_tell =
    both_tell RESERVE (BEGIN ++ (FILL ++ (OPEN ++ LAND))) (first_past 0) tell_reserve
    (both_tell BEGIN (FILL ++ (OPEN ++ LAND)) reserved_past (tt, (tt, (tt, (tt, (tt, (tt, tt))))))
    (both_tell FILL (OPEN ++ LAND) begun_past tell_fill
    (both_tell OPEN LAND filled_past (tt, (tt, (tt, (tt, (tt, (tt, tt)))))) (tt, (tt, (tt, (tt, (tt, (tt, (tt, (tt, (tt, (tt, tt)))))))))))))

pub labels_stand_told : IsToldBeside TWO_FILES ENTRIES FILES_NUMBERED FILES_TOLD
labels_stand_told = record { is = labels_are_told; begins = begins; tell = labels_tell }

-- the turns that the labels make are those of the record
pub turns_are : (past_of FILES_TOLD).turns ≡ FILES_TURNS
turns_are = refl

pub told_pens : PensAgree TWO_FILES FILES_TOLD FILES_PENS
told_pens = record {
  most = 0;
  cores = refl;
  own = two_cores;
  is = pens;
  agrees = λ core fsyncs e.
      subst (λ turns. PenAgrees FIRST_TREE WRITES_AND_FSYNCS turns core fsyncs) (sym turns_are) (pens_agree.each core fsyncs e);
  few = subst (λ (l : List Turn). (turn : Turn) → IsOneOf l turn → turn.faults ≤ 0) (sym turns_are) (of_each (λ (turn : Turn). turn.faults ≤ 0) FILES_TURNS
      (omega arith, (omega arith, (omega arith, (omega arith, (omega arith, (omega arith, (omega arith, (omega arith, tt)))))))));
}
  where
    pens : (core : ℕ) (fsyncs : List FsyncTurns) → slice_get FILES_PENS core ≡ Some fsyncs → IsPenOf core FILES_TOLD.log fsyncs
    pens zero fsyncs e = subst (IsPenOf 0 FILES_TOLD.log) (some_same e) (record { rests = inl refl; told = refl })
    pens (suc zero) fsyncs e = subst (IsPenOf 1 FILES_TOLD.log) (some_same e) (record { rests = inl refl; told = refl })
    pens (suc (suc core)) fsyncs e = absurd (none_some e)

pub writers_tell_labels : WritersTellLabels
writers_tell_labels = record { labels = labels_stand_told; turns = turns_are; pens = told_pens }
