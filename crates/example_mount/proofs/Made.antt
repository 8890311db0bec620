-- What each core makes for its fsync it makes by that run, and the run tells the commit of that.
use Rattle.std.specs.declared.alloc.Global.{Global}
use Rattle.std.proofs.Common.{◌++◌, ◌<◌, ◌≡◌, ◌∙◌, ◌∷◌, ◌||◌, if◌then◌else◌, Bool, Contains, IsSome, List, None, Option, Some, [], ap, arith, cond, eq-eqb, eqb-true, false, filter, find, inl, inr, is_some, map, max, ne_eqb, not, nat_eq, option_map, refl, slice_index_or, subst, suc, sym, true, zero, ℕ}
use Rattle.std.proofs.lemmas.Bool.{cases_eq}
use Rattle.sfs_base.specs.Listed.{is_listed}
use Rattle.sfs_base.proofs.BasicOptions.{none_some, some_same}
use Rattle.sfs_base.proofs.BasicTruth.{false_not_true, or_false}
use Rattle.tree_laws.specs.History.{tree_after, tree_after_entry}
use Rattle.tree_laws.specs.Logged.{is_logged_in, logged_by}
use Rattle.tree_laws.specs.Merged.{is_core}
use Rattle.tree_laws.specs.Tree.{TreeState, is_directory}
use Rattle.tree_laws.specs.Verdict.{answered, or_else}
use Rattle.tree_laws.specs.declared.changes.Change.{Change}
use Rattle.tree_laws.specs.declared.reply.Code.TheVariants.{NoEntry}
use Rattle.tree_laws.specs.declared.reply.Reply.TheVariants as reply
use Rattle.mem_cells.specs.Log.{is_from}
use Rattle.mem_cells.specs.Part.{CoreLog, changes_kept}
use Rattle.disk_nodes.specs.OldKept.{OldKept}
use Rattle.disk_nodes.specs.declared.old.OldEntry.{OldEntry}
use Rattle.disk_change.specs.AllBuilt.{entry_keyed}
use Rattle.cut_laws.specs.Rules.{Birth}
use Rattle.core_logs.specs.Logs.{blank_part}
use Rattle.merge_laws.specs.Worked.{TWO_CORES, other_fsync, own_fsync}
use Rattle.mem_values.specs.Account.{account_of, held_by, last_writer}
use Rattle.mem_values.specs.Logs.{entry_logged, own_logged}
use Rattle.mem_values.specs.Stands.{StandsPending, flushed_by}
use Rattle.mem_values.specs.Start.{given_by}
use Rattle.mem_values.specs.declared.cell.Pending.{Pending}
use Rattle.mem_values.specs.declared.fact.HeldNode.{HeldNode}
use Rattle.note_laws.specs.Merged.{AreMergedFor}
use Rattle.note_laws.specs.Notes.{HasNotedAll, IsNotedPart}
use Rattle.note_laws.specs.Run.{IsToldIn, TellsCommit, WroteNode}
use Rattle.made_laws.specs.Made.{CoreMade, HasGathered, HasSeenOld, HasMadeFile, MadeEitherWay, of_notes, is_concerned, old_of}
use Rattle.made_laws.specs.Own.{TellsMaking, told_notes}
use Rattle.made_laws.specs.Tells.{ToldMade, commit_made}
use Rattle.example_laws.specs.Fsyncs.{Flushing, entry_at}
use Rattle.disk_change.specs.Nodes.{enter_node}
use Rattle.disk_change.specs.declared.enter.Enter.{Enter}
use Rattle.example_laws.proofs.Telling.{core_tells, enters_none}
use Rattle.example_laws.proofs.Tree.{alive_there}
use Rattle.example_mount.specs.Making.{QUIET_LOG, core_making, notes_of, pending_seen}
use Rattle.example_mount.specs.Table.{BOTH_CALLED, OTHER_FLUSH, OWN_FLUSH, TWO_TABLE, held_by_flush, table_log, told_of_flush, two_run}
use Rattle.example_mount.proofs.Run.{CALLS, IsUnderWay, commitment_of, holds_own, none_born, same_tree}

-- neither call logs a change
none_logged : (core : ℕ) → own_logged TWO_CORES core CALLS ≡ []
none_logged core = by (is_core core (own_fsync reply.NoMemory None)) (is_core core (other_fsync reply.NoMemory None))
  where
    own_quiet : entry_logged TWO_CORES (own_fsync reply.NoMemory None) ≡ []
    own_quiet =
        ap (λ b. logged_by TWO_CORES 0 0 (or_else (if not b then Some NoEntry else None) (answered reply.Ok)).effect
        (or_else (if not b then Some NoEntry else None) (answered reply.Ok)).makes) alive_there

    other_quiet : (b : Bool)
        → (if b then entry_logged (tree_after_entry TWO_CORES (own_fsync reply.NoMemory None)) (other_fsync reply.NoMemory None) else []) ≡ []
    other_quiet true = refl
    other_quiet false = refl

    by : (a b : Bool) → (if a then entry_logged TWO_CORES (own_fsync reply.NoMemory None) else [])
        ++ ((if b then entry_logged (tree_after_entry TWO_CORES (own_fsync reply.NoMemory None)) (other_fsync reply.NoMemory None) else []) ++ []) ≡ []
    by true b =
        ap (λ l. l
        ++ ((if b then entry_logged (tree_after_entry TWO_CORES (own_fsync reply.NoMemory None)) (other_fsync reply.NoMemory None) else []) ++ [])) own_quiet
        ∙ ap (λ l. l ++ []) (other_quiet b)
    by false b = ap (λ l. l ++ []) (other_quiet b)

-- the logs that a core notes are quiet ones
quiet_there : (part : ℕ) → part < 2 → slice_index_or (QUIET_LOG ∷ QUIET_LOG ∷ []) part blank_part ≡ QUIET_LOG
quiet_there zero low = refl
quiet_there (suc zero) low = refl
quiet_there (suc (suc part)) low = absurd (omega (arith, low))

module _ (alloc : Global) (core : ℕ) (f : Flushing) (way : IsUnderWay core f) where
  listed : (node : ℕ) → node ≡ f.node → is_listed (f.node ∷ []) node ≡ true
  listed node same = ap (λ b. b || false) (eq-eqb f.node node (sym same))

  pub own_node : (node : ℕ) → is_concerned (core_making core f) node ≡ true → node ≡ f.node
  own_node node is = sym (eqb-true f.node node (sym (or_false (nat_eq f.node node)) ∙ is))

  saw_own : (node : ℕ) → node ≡ f.node → (notes_of core f).pending node ≡ Some (pending_seen f)
  saw_own node same = ap (λ b. cond b (Some (pending_seen f)) (let o : Option Pending = None in o)) (eq-eqb node f.node same)

  saw_only : (node : ℕ) (value : Pending) → (notes_of core f).pending node ≡ Some value → (node ≡ f.node) × (pending_seen f ≡ value)
  saw_only node value is = elim (cases_eq node f.node) [
    | inl same ↦ (same, some_same (sym (saw_own node same) ∙ is))
    | inr other ↦
        absurd (none_some (sym (ap (λ b. cond b (Some (pending_seen f)) (let o : Option Pending = None in o)) (ne_eqb node f.node other)) ∙ is))
  ]

  -- what it saw of its node stands where both fsyncs are under way
  stands : StandsPending (given_by TWO_TABLE) TWO_CORES (account_of BOTH_CALLED) f.node (pending_seen f)
  stands = record {
    flushed = λ i. record { cut = 0; last = 0; old = sym way.given i };
    made_in = sym (ap (λ (births : List Birth). option_map (λ birth. birth.directory) (find (λ birth. nat_eq birth.node f.node) births)) none_born);
    trimmed = λ writer member never. absurd (none_some never);
  }

  noted_part : (part : ℕ) → part < 2 → IsNotedPart (two_run alloc) (notes_of core f) part
  noted_part part low = record {
    rest = told_of_flush alloc 1 OTHER_FLUSH ++ told_of_flush alloc 0 OWN_FLUSH;
    whole = refl;
    stamped = way.fsync;
    left = λ directory.
        ap (λ (log : CoreLog). changes_kept log directory) (quiet_there part low)
        ∙ sym (ap (λ (l : List Change). filter (is_from 0) (filter (is_logged_in directory) l)) (none_logged part));
    marks = record { capped = λ directory. inl refl; trimmed = λ commit directory one. absurd one };
    stands = λ node value is.
        let own = saw_only node value is in
        subst (λ n. StandsPending (given_by TWO_TABLE) TWO_CORES (account_of BOTH_CALLED) n value) (sym own.0)
        (subst (StandsPending (given_by TWO_TABLE) TWO_CORES (account_of BOTH_CALLED) f.node) own.1 stands);
  }

  notes : HasNotedAll (two_run alloc) (notes_of core f)
  notes = record { as_many = refl; each = noted_part }

  merged : AreMergedFor (notes_of core f) []
  merged = record {
    copies = (notes_of core f).parts;
    as_many = refl;
    keep = λ part known. record {
      each = λ directory. inl refl;
      own = λ directory own. refl;
      naming = λ directory change one child. refl;
    };
    merged = record {
      merged = λ log one. absurd one;
      whole = λ part directory known. inl (ap (λ (log : CoreLog). changes_kept log directory) (quiet_there part known));
    };
  }

  gathers : HasGathered (core_making core f)
  gathers = record {
    orderly = (core_tells f way.told).gathered.orderly;
    merged = merged;
    seen = λ node concerned.
        let same = own_node node concerned in (
          pending_seen f,
          record {
            seen = saw_own node same;
            cut = refl;
            inode = listed node same;
            born = λ directory. (λ one. absurd one, λ never. absurd (none_some never));
          },
        );
    others = λ node apart. refl;
    root = λ concerned. concerned;
  }

  old_seen : HasSeenOld (core_making core f)
  old_seen = record {
    ascend = λ i j d less within. absurd (omega (arith, less, within));
    each = λ node kept. (there node kept, back node kept);
  }
    where
      there : (node : ℕ) (kept : OldKept) → Contains (entry_at f.node ∷ []) (entry_keyed (node, kept))
          → (is_concerned (core_making core f) node ≡ true) × (old_of ((notes_of core f).pending node) ≡ Some kept)
      there node kept (zero, low, is) =
          subst (λ (e : OldEntry). (is_concerned (core_making core f) e.node.0 ≡ true) × (old_of ((notes_of core f).pending e.node.0) ≡ Some e.old)) is
          (listed f.node refl, ap old_of (saw_own f.node refl))
      there node kept (suc k, low, is) = absurd (omega (arith, low))

      back : (node : ℕ) (kept : OldKept) → (is_concerned (core_making core f) node ≡ true) × (old_of ((notes_of core f).pending node) ≡ Some kept)
          → Contains (entry_at f.node ∷ []) (entry_keyed (node, kept))
      back node kept seen =
          let same = own_node node seen.0 in
          let old : (entry_at f.node).old ≡ kept = some_same (sym (ap old_of (saw_own node same)) ∙ seen.1) in
          (0, omega arith, λ i. record { node = record { 0 = sym same i }; old = old i })

  directory_after : is_directory (tree_after TWO_CORES CALLS) f.node ≡ true
  directory_after = subst (λ (tree : TreeState). is_directory tree f.node ≡ true) (sym same_tree) way.told.directory

  pub made_in : CoreMade (two_run alloc) (core_making core f)
  made_in = record {
    some_core = omega arith;
    notes = notes;
    gathers = gathers;
    concern_is = (core_tells f way.told).gathered.concern_is;
    old_is = old_seen;
    file_is = HasMadeFile.directory directory_after refl refl;
    plans = (core_tells f way.told).gathered.plans;
  }

  -- so it made it by its notes
  pub made_by_notes : MadeEitherWay (two_run alloc) (core_making core f)
  made_by_notes = of_notes made_in

  no_enter : made_in.plans.enter ≡ []
  unfolding made_in
  no_enter = enters_none f way.told

  -- the run tells its commit behind one that none of its node is in
  module _ (there : IsToldIn (table_log alloc) (commitment_of core f)) (calls_are : (account_of there.before).calls ≡ CALLS)
      (none : last_writer f.node (account_of there.before).commits ≡ None) where
    held_own : (node : ℕ) (held : HeldNode) → held_by (commitment_of core f) node ≡ Some held → (node ≡ f.node) × (held_by_flush f ≡ held)
    held_own node held is = elim (cases_eq f.node node) [
      | inl same ↦ (sym same, some_same (sym (holds_own core f) ∙ ap (held_by (commitment_of core f)) same ∙ is))
      | inr other ↦
          absurd (none_some (sym (ap (λ b. cond b (Some (held_by_flush f)) (let o : Option HeldNode = None in o)) (ne_eqb f.node node other)) ∙ is))
    ]

    wrote_own : WroteNode (given_by TWO_TABLE) (account_of there.before) (commit_made (two_run alloc) (core_making core f) made_in.plans f.number) f.node
        (held_by_flush f)
    wrote_own = record {
      saw = ap (λ o. (flushed_by (given_by TWO_TABLE) f.node o).cut) none;
      lifted = sym (ap (λ b. if b then max 0 f.stamp else 0) (listed f.node refl)
          ∙ (let e : max 0 f.stamp ≡ f.stamp = omega arith in e));
      inode = sym (ap (λ (l : List Enter). if is_listed (map enter_node l) f.node then true else is_listed (f.node ∷ []) f.node) no_enter ∙ listed f.node refl);
    }

    tells : TellsCommit (two_run alloc) (commit_made (two_run alloc) (core_making core f) made_in.plans f.number) (commitment_of core f)
    tells = record {
      there = there;
      number = refl;
      stamp = refl;
      members = λ node one directory. one;
      holds = λ node. (
        λ concerned. subst (λ n. IsSome (held_by (commitment_of core f) n)) (sym (own_node node concerned)) (ap is_some (holds_own core f)),
        λ held. by_cases node held,
      );
      wrote = λ node held is.
          let own = held_own node held is in
          subst (λ n. WroteNode (given_by TWO_TABLE) (account_of there.before) (commit_made (two_run alloc) (core_making core f) made_in.plans f.number) n held)
          (sym own.0)
          (subst (WroteNode (given_by TWO_TABLE) (account_of there.before) (commit_made (two_run alloc) (core_making core f) made_in.plans f.number)
          f.node) own.1
          wrote_own);
    }
      where
        by_cases : (node : ℕ) → IsSome (held_by (commitment_of core f) node) → is_concerned (core_making core f) node ≡ true
        by_cases node held = elim (cases_eq f.node node) [
          | inl same ↦ listed node (sym same)
          | inr other ↦
              absurd (false_not_true
              (sym (ap (λ b. is_some (cond b (Some (held_by_flush f)) (let o : Option HeldNode = None in o))) (ne_eqb f.node node other)) ∙ held))
        ]

    pub told_made : ToldMade (two_run alloc) (core_making core f) (commitment_of core f)
    told_made = record { made = made_in; tells = tells }

    pub told_by_notes : TellsMaking (two_run alloc) (core_making core f) (commitment_of core f)
    told_by_notes = told_notes told_made
