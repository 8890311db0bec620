-- The mount meets all that is asked of the end of a mount.
use Rattle.std.specs.declared.alloc.Global.{Global}
use Rattle.std.proofs.Common.{◌<◌, ◌≡◌, ◌∙◌, ◌∷◌, ◌≢◌, ◌++◌, ◌≤◌, ◌+◌, ◌^◌, ◌-◌, Contains, List, None, Some, [], ap, arith, inl, inr, refl, slice_get, subst, suc, sym, zero, ℕ, option_map, cond, nat_eq, ne_eqb, Option, min}
use Rattle.std.proofs.lemmas.Bool.{cases_eq}
use Rattle.sfs_base.proofs.BasicOptions.{none_some, some_same}
use Rattle.tree_laws.specs.declared.turns.Turn.{Turn}
use Rattle.disk_nodes.specs.OldKept.{Kept}
use Rattle.disk_nodes.specs.Nodes.{entry_old}
use Rattle.disk_nodes.specs.declared.old.OldEntry.{OldEntry}
use Rattle.block_map.specs.Kept.{kept_of}
use Rattle.disk_change.specs.AllBuilt.{entry_keyed}
use Rattle.cut_laws.specs.Rules.{IsOneOf}
use Rattle.merge_laws.proofs.Worked.{of_each}
use Rattle.reserve_laws.specs.Olds.{IsKeptIn}
use Rattle.stamp_table.specs.Events.{event_core}
use Rattle.stamp_table.specs.declared.event.Event.{Event}
use Rattle.mem_values.specs.declared.fact.Fact.{Fact}
use Rattle.mem_values.specs.Start.{given_by}
use Rattle.slot_laws.specs.Labels.{BoxPast, first_past, past_from}
use Rattle.slot_laws.proofs.Lawful.{first_fits, lawful_fits}
use Rattle.slot_image_laws.specs.Run.{RunFits}
use Rattle.slot_image_laws.proofs.Running.{failed_syncs_fit, first_runs_fit}
use Rattle.close_laws.specs.Maps.{past_of}
use Rattle.example_laws.specs.Image.{TWELVE_BLOCKS, TWO_PARTS}
use Rattle.example_laws.specs.Told.{IsTwoImage, still_disk}
use Rattle.example_laws.specs.Fsyncs.{entry_at}
use Rattle.example_laws.proofs.Labels.{labels_stand_told}
use Rattle.example_laws.proofs.Leaving.{first_left, second_left}
use Rattle.example_laws.proofs.Plans.{first_unwritten, kept_one, kept_root, second_unwritten, KEPT_ONE, KEPT_ROOT}
use Rattle.example_laws.proofs.Resting.{laws, sync_fails, told_fit, two_cores_close}
use Rattle.example_laws.proofs.Telling.{ENTRIES, short_files, entry_cases}
use Rattle.flush_agrees.specs.Agreement.{FlushTold}
use Rattle.flush_agrees.specs.Made.{FlushMade}
use Rattle.end_laws.specs.Fitting.{FreesNothing}
use Rattle.end_laws.specs.Mount.{BeginsAt, IsFsyncAt}
use Rattle.end_laws.specs.Reaches.{CoreReaches, MountReaches}
use Rattle.end_laws.specs.Survives.{DiskEnds}
use Rattle.end_laws.specs.Kept.{AreWellKept, IsWellKept}
use Rattle.end_laws.proofs.Reaches.{mounts_reach_ends}
use Rattle.end_laws.proofs.Survives.{mounts_survive}
use Rattle.end_laws.proofs.LacksAgreed.{agreed_mounts_are_recorded}
use Rattle.end_laws.proofs.Frees.{mades_free_nothing}
use Rattle.end_laws.proofs.Unwritten.{nothing_in}
use Rattle.example_mount.specs.Box.{OTHER_ENDS, OWN_ENDS, TURN_BY_TURN}
use Rattle.example_mount.specs.Laws.{IsTwoMount, SurvivesAtRest, TwoCoresMount}
use Rattle.example_mount.specs.Table.{BOTH_CALLED, OTHER_FLUSH, OWN_FLUSH, TWO_TABLE, table_log, told_of_flush, two_run}
use Rattle.example_mount.specs.Mount.{flush_told, flush_made, two_mount}
use Rattle.example_mount.proofs.Agreed.{IsInMount, core_reaches}
use Rattle.example_mount.proofs.Labels.{cores_rest, labels_go, labels_own, may_other, may_own}
use Rattle.example_mount.proofs.Made.{made_by_notes}
use Rattle.example_mount.proofs.Run.{other_way, own_way, table_runs}

-- no other node was given
given_none : (node : ℕ) → node ≢ 0 → node ≢ 1 → given_by TWO_TABLE node ≡ None
given_none node other neither =
    ap (λ b. option_map entry_old (cond b (Some (entry_at 0)) (cond (nat_eq 1 node) (Some (entry_at 1)) None))) (ne_eqb 0 node (λ same. other (sym same)))
    ∙ ap (λ b. option_map entry_old (cond b (Some (entry_at 1)) (let o : Option OldEntry = None in o))) (ne_eqb 1 node (λ same. neither (sym same)))

-- what memory keeps is what the table was given
kept : (node : ℕ) → IsKeptIn ENTRIES node (given_by TWO_TABLE node)
kept node old = (there, back)
  where
    there : given_by TWO_TABLE node ≡ Some old → Contains ENTRIES (entry_keyed (node, old))
    there is = elim (cases_eq node 0) [
      | inl root ↦
          let own : (entry_at 0).old ≡ old = some_same (ap (given_by TWO_TABLE) (sym root) ∙ is) in
          (0, omega arith, λ i. record { node = record { 0 = sym root i }; old = own i })
      | inr other ↦ elim (cases_eq node 1) [
        | inl one ↦
            let own : (entry_at 1).old ≡ old = some_same (ap (given_by TWO_TABLE) (sym one) ∙ is) in
            (1, omega arith, λ i. record { node = record { 0 = sym one i }; old = own i })
        | inr neither ↦ absurd (none_some (sym (given_none node other neither) ∙ is))
      ]
    ]

    back : Contains ENTRIES (entry_keyed (node, old)) → given_by TWO_TABLE node ≡ Some old
    back has = elim (entry_cases (entry_keyed (node, old)) has) [
      | inl root ↦ subst (λ (e : OldEntry). given_by TWO_TABLE e.node.0 ≡ Some e.old) root refl
      | inr one ↦ subst (λ (e : OldEntry). given_by TWO_TABLE e.node.0 ≡ Some e.old) one refl
    ]

-- the two inodes are well kept: they are in use, and have no indirect block
well : (node : ℕ) (kept : Kept) → kept_of (TWO_PARTS node) ≡ kept → kept.inode.kind ≢ 0 → kept.tables ≡ [] → AreWellKept (entry_at node ∷ [])
well node kept is used none entry (zero, low, same) = subst (λ (e : OldEntry). IsWellKept e.old.kept) same (record {
  used = subst (λ (k : Kept). k.inode.kind ≢ 0) (sym is) used;
  tables = λ table has. absurd (nothing_in (kept_of (TWO_PARTS node)).tables table (ap (λ (k : Kept). k.tables) is ∙ none) has);
})
well node kept is used none entry (suc k, low, same) = absurd (omega (arith, low))

module _ (D : Type 0) (alloc : Global) where
  own_in : IsInMount D alloc 0 OWN_FLUSH 8
  own_in = record {
    way = own_way;
    left = first_left;
    unwritten = first_unwritten;
    early = omega arith;
    told = refl;
    there = record { before = BOTH_CALLED ++ told_of_flush alloc 1 OTHER_FLUSH; event = _; rest = _; whole = refl; tells = refl };
    calls = refl;
    none = refl;
    events = refl;
    reserved = inl refl;
    entries = refl;
  }

  other_in : IsInMount D alloc 1 OTHER_FLUSH 5
  other_in = record {
    way = other_way;
    left = second_left;
    unwritten = second_unwritten;
    early = omega arith;
    told = refl;
    there = record { before = BOTH_CALLED; event = _; rest = _; whole = refl; tells = refl };
    calls = refl;
    none = refl;
    events = refl;
    reserved = inl refl;
    entries = refl;
  }

  each : (core : ℕ) (fsyncs : List FlushTold) → slice_get (two_mount alloc).fsyncs core ≡ Some fsyncs → CoreReaches D (two_mount alloc) core fsyncs
  each zero fsyncs is = subst (CoreReaches D (two_mount alloc) 0) (some_same is) (core_reaches D alloc 0 OWN_FLUSH 8 own_in)
  each (suc zero) fsyncs is = subst (CoreReaches D (two_mount alloc) 1) (some_same is) (core_reaches D alloc 1 OTHER_FLUSH 5 other_in)
  each (suc (suc core)) fsyncs is = absurd (none_some is)

  -- what was made gives nothing up
  own_frees : FreesNothing (flush_made 0 OWN_FLUSH)
  own_frees = mades_free_nothing (two_run alloc) (flush_made 0 OWN_FLUSH) (made_by_notes alloc 0 OWN_FLUSH own_way) (well 1 KEPT_ONE kept_one (λ e. cc) refl)

  other_frees : FreesNothing (flush_made 1 OTHER_FLUSH)
  other_frees = mades_free_nothing (two_run alloc) (flush_made 1 OTHER_FLUSH) (made_by_notes alloc 1 OTHER_FLUSH other_way)
      (well 0 KEPT_ROOT kept_root (λ e. cc) refl)

  frees : (one : FlushTold) (made : FlushMade) → IsFsyncAt (two_mount alloc) one → one.made ≡ Some made → FreesNothing made
  frees one made at is = in_list at.core at.fsyncs at.there at.among
    where
      of_one : (told : FlushTold) (own : FlushMade) → told.made ≡ Some own → FreesNothing own → IsOneOf (told ∷ []) one → FreesNothing made
      of_one told own has frees among = elim among [
        | inl same ↦ subst FreesNothing (some_same (sym has ∙ ap (λ (o : FlushTold). o.made) same ∙ is)) frees
        | inr never ↦ absurd never
      ]

      in_list : (core : ℕ) (fsyncs : List FlushTold) → slice_get (two_mount alloc).fsyncs core ≡ Some fsyncs → IsOneOf fsyncs one → FreesNothing made
      in_list zero fsyncs there among =
          of_one (flush_told 0 OWN_FLUSH 8) (flush_made 0 OWN_FLUSH) refl own_frees
          (subst (λ (l : List FlushTold). IsOneOf l one) (sym (some_same there)) among)
      in_list (suc zero) fsyncs there among =
          of_one (flush_told 1 OTHER_FLUSH 5) (flush_made 1 OTHER_FLUSH) refl other_frees
          (subst (λ (l : List FlushTold). IsOneOf l one) (sym (some_same there)) among)
      in_list (suc (suc core)) fsyncs there among = absurd (none_some there)

  begins : BeginsAt (two_mount alloc)
  begins = record {
    labels = labels_stand_told.begins;
    none = refl;
    first = refl;
    history = refl;
    short = short_files;
    kept = kept;
    few = omega arith;
  }

  reaches : MountReaches D (two_mount alloc)
  reaches = record {
    table = table_runs alloc;
    asks = refl;
    owned = of_each (λ (event : Event Fact). event_core event < 2) (table_log alloc)
        (omega arith, (omega arith, (omega arith, (omega arith, (omega arith, (omega arith, (omega arith, (omega arith, tt))))))));
    labels_are = refl;
    along = labels_go;
    own = labels_own;
    rests = cores_rest;
    cores = refl;
    each = each;
    frees = frees;
    begins = begins;
  }

  few : (turn : Turn) → IsOneOf (past_of TURN_BY_TURN).turns turn → turn.faults ≤ 0
  few = of_each (λ (turn : Turn). turn.faults ≤ 0) (past_of TURN_BY_TURN).turns
      (omega arith, (omega arith, (omega arith, (omega arith, (omega arith, (omega arith, tt))))))

  module _ (share : ℕ) (image : List ℕ) (is : IsTwoImage image) where
    abbrev past_five : BoxPast
    past_five = past_from TWELVE_BLOCKS OTHER_ENDS (first_past 5)

    run_at_five : RunFits TWELVE_BLOCKS 5 past_five (still_disk image 5)
    run_at_five =
        told_fit (still_disk image 5) (laws share image is 5 (omega arith)) OTHER_ENDS (first_past 5) (first_fits TWELVE_BLOCKS 0 5) may_other
        (tt, (tt, (refl, (tt, tt))))
        (first_runs_fit (still_disk image 5) TWELVE_BLOCKS (omega arith))

    run_at_eight : RunFits TWELVE_BLOCKS 5 (past_of TURN_BY_TURN) (still_disk image 8)
    run_at_eight =
        told_fit (still_disk image 8) (laws share image is 8 (omega arith)) OWN_ENDS past_five
        (lawful_fits TWELVE_BLOCKS 0 OTHER_ENDS (first_past 5) (first_fits TWELVE_BLOCKS 0 5) may_other) may_own (tt, (tt, (refl, (tt, tt))))
        (syncs 7 8 refl (omega arith) (syncs 6 7 refl (omega arith) (syncs 5 6 refl (omega arith) run_at_five)))
      where
        syncs : (now later : ℕ) → later ≡ min (now + 1) (2 ^ 64 - 1) → now < 2 ^ 64 → RunFits TWELVE_BLOCKS 5 past_five (still_disk image now)
            → RunFits TWELVE_BLOCKS 5 past_five (still_disk image later)
        syncs now later counted small before =
            failed_syncs_fit (still_disk image now) (still_disk image later) TWELVE_BLOCKS 5 past_five (sync_fails share image is now later counted)
            (laws share image is now small) before

    disk_ends : DiskEnds (two_mount alloc) (still_disk image 8)
    disk_ends =
        let ends = (two_cores_close share image is).ends in
        record { run = run_at_eight; began = ends.began; tells = ends.tells; most = 0; few = few }

    survives : SurvivesAtRest alloc share image
    survives = record {
      disk = disk_ends;
      survives = mounts_survive D (still_disk image 8) share (two_mount alloc) (mounts_reach_ends D (two_mount alloc) reaches) disk_ends;
    }

  two_mount_is : IsTwoMount D alloc
  two_mount_is =
      let ends = mounts_reach_ends D (two_mount alloc) reaches in record {
        reaches = reaches;
        ends = ends;
        recorded = agreed_mounts_are_recorded D (two_mount alloc) 0 0 ends (omega arith) few;
        survives = survives;
      }

pub two_cores_mount : (D : Type 0) → TwoCoresMount D
two_cores_mount D alloc = two_mount_is D alloc
