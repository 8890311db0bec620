-- What the core of each of the two fsyncs tells of its pair.
use Rattle.std.specs.FinMap.{get-empty, get}
use Rattle.std.specs.Option.{option_map_or}
use Rattle.std.specs.List.Sorted.{IsStrictlyIncreasing, IsStrictlySortedBy}
use Rattle.std.proofs.Common.{◌∷◌, ◌≡◌, ◌⊎◌, ◌≤◌, ◌||◌, ◌∙◌, if◌then◌else◌, ◌+◌, ◌==◌, ◌≢◌, ◌&&◌, [], subst, refl, ap, length, arith, List, Contains, zero, inl, suc, inr, Some, sym, true, is_some, Option, ℕ, false, eq-eqb, eqb-true, nat_eq, ne_eqb, nat_lt, cond, None, max, not, unwrap_or, nat_cmp, Bool}
use Rattle.std.proofs.lemmas.Bool.{cases_eq}
use Rattle.std.proofs.lemmas.List.Elements.{All-nil}
use Rattle.sfs_base.specs.Listed.{is_listed}
use Rattle.sfs_base.proofs.BasicNumbers.{same_number}
use Rattle.sfs_base.proofs.BasicTruth.{or_false, true_not_false, false_not_true}
use Rattle.sfs_image.specs.Part.{inode_in}
use Rattle.sfs_image.specs.Inode.{Inode}
use Rattle.keyed_list.specs.Ascending.{AscendBy, item_with}
use Rattle.tree_laws.specs.Changes.{RowChange}
use Rattle.tree_laws.specs.Tree.{is_directory, Node, TreeState}
use Rattle.tree_laws.specs.Order.{name_cmp}
use Rattle.disk_nodes.specs.declared.old.OldEntry.{OldEntry}
use Rattle.disk_nodes.specs.Nodes.{entry_node}
use Rattle.block_map.specs.Kept.{kept_of}
use Rattle.disk_change.specs.Directory.{is_among}
use Rattle.disk_change.specs.Planned.{planned}
use Rattle.commit_laws.specs.CommitOfPlan.{CommitPlan}
use Rattle.cut_laws.specs.Rules.{IsChange, IsOneOf, Birth, births_of}
use Rattle.cut_laws.specs.Closure.{none, HasLiveNode}
use Rattle.look_laws.specs.Look.{Look, Gathers, Touches, itself, other_side, ended, ancestor, birth_place, member, named}
use Rattle.look_laws.specs.Made.{Found, SeesDead, AreMoved}
use Rattle.beside_laws.specs.Progress.{Progress, Standing, HasLeft, KnownAtReserving}
use Rattle.beside_laws.specs.Commits.{IsByItsLook, HasNotes}
use Rattle.flush_laws.specs.Ready.{KeepsEntries}
use Rattle.flush_laws.specs.Planned.{HasOldEntries}
use Rattle.merge_laws.specs.Worked.{TWO_CORES, BOTH_HISTORY}
use Rattle.flush_plan.specs.Names.{is_named_after, names_by_record}
use Rattle.flush_plan.specs.Moved.{found_by}
use Rattle.flush_plan.specs.Concerned.{IsConcernOf}
use Rattle.flush_plan.specs.Plan.{files_written, is_written}
use Rattle.mark_laws.specs.Changed.{HasShortFiles}
use Rattle.plan_laws.specs.Plans.{Sources, IsPlanFrom}
use Rattle.plan_laws.specs.Leads.{found_from, commit_made_of}
use Rattle.book_laws.specs.Pairs.{run_with, IsOpenBeside}
use Rattle.reserve_laws.specs.Looks.{MayPlan, IsGatheredFor, CoreTells, ServesPair}
use Rattle.reserve_laws.specs.Plans.{bringing_made, parts_given}
use Rattle.reserve_laws.proofs.Looks.{cores_open}
use Rattle.example_laws.specs.Image.{TWO_DIRECTORIES, TWO_NUMBERS, TWO_PARTS}
use Rattle.example_laws.specs.Fsyncs.{entry_at, Flushing, commit_plan, FIRST_FLUSH, SECOND_FLUSH, core_commit_of, sources_by, pair_by, NO_GRANT}
use Rattle.example_laws.proofs.Tree.{nothing_changes, nothing_is_born, no_bytes, is_one_directory, one_there, alive_there, is_root_directory, root_there, same_after}
use Rattle.example_laws.proofs.Standing.{numbered, volume_stands}
use Rattle.example_laws.proofs.Plans.{NeedsNone, first_needs, second_needs, serves_none}
use Rattle.example_laws.proofs.Image.{one_is, root_is}

abbrev run_now : Progress
run_now = run_with TWO_DIRECTORIES []

no_change : (change : RowChange) → IsChange TWO_CORES BOTH_HISTORY change → ⊥
no_change change one = subst (λ l. IsOneOf l change) nothing_changes one

no_birth : (birth : Birth) → IsOneOf (births_of TWO_CORES BOTH_HISTORY) birth → ⊥
no_birth birth one = subst (λ l. IsOneOf l birth) nothing_is_born one

nothing_sorted : IsStrictlySortedBy name_cmp []
unfolding IsStrictlySortedBy
nothing_sorted = tt

-- what stands before any commit
pub standing : Standing run_now
standing = record {
  flushed = none;
  left = λ node. HasLeft.nobody (λ other one. absurd one) (ap (λ (o : Option ℕ). unwrap_or o 0) (get-empty nat_cmp node)) refl;
  passed = λ change one. absurd (no_change change one);
  members = λ commit node one. absurd one;
  numbered = λ one two first. absurd first;
}

pub short_files : HasShortFiles TWO_CORES
short_files node = let long = ap length (no_bytes node) in omega (arith, long)

-- what memory keeps
abbrev pub ENTRIES : List OldEntry
ENTRIES = entry_at 0 ∷ entry_at 1 ∷ []

pub entry_cases : (entry : OldEntry) → Contains ENTRIES entry → (entry_at 0 ≡ entry) ⊎ (entry_at 1 ≡ entry)
entry_cases entry (zero, low, is) = inl is
entry_cases entry (suc zero, low, is) = inr is
entry_cases entry (suc (suc k), low, is) = absurd (omega (arith, low))

pub entries_kept : KeepsEntries TWO_NUMBERS TWO_PARTS ENTRIES
entries_kept = record {
  ascend = ascend;
  each = λ entry has. elim (entry_cases entry has) [
    | inl root ↦ subst (λ (e : OldEntry). (TWO_NUMBERS e.node.0 ≡ Some e.old.number) × (e.old.kept ≡ kept_of (TWO_PARTS e.old.number))) root (refl, refl)
    | inr one ↦ subst (λ (e : OldEntry). (TWO_NUMBERS e.node.0 ≡ Some e.old.number) × (e.old.kept ≡ kept_of (TWO_PARTS e.old.number))) one (refl, refl)
  ];
  all = λ node i has. elim (numbered node i has) [
    | inl root ↦ (entry_at 0, (0, omega arith, refl), sym root.0)
    | inr one ↦ (entry_at 1, (1, omega arith, refl), sym one.0)
  ];
}
  where
    ascend : AscendBy entry_node ENTRIES
    ascend zero zero d less within = absurd (omega (arith, less))
    ascend zero (suc zero) d less within = omega arith
    ascend zero (suc (suc j)) d less within = absurd (omega (arith, within))
    ascend (suc i) zero d less within = absurd (omega (arith, less))
    ascend (suc i) (suc zero) d less within = absurd (omega (arith, less))
    ascend (suc i) (suc (suc j)) d less within = absurd (omega (arith, within))

-- An fsync of one of the two nodes: the node is a directory with its own number, was alive, and its record is a directory's.
pub record IsTold (f : Flushing) : Type 0 where
  pub directory : is_directory TWO_CORES f.node ≡ true
  pub some_node : is_some (get TWO_CORES.nodes f.node) ≡ true
  pub live : HasLiveNode TWO_CORES BOTH_HISTORY (record { node = f.node; stamp = f.stamp })
  pub low : f.stamp ≤ 2
  pub kind : (inode_in (TWO_PARTS f.node)).kind ≡ 2
  pub entry : Contains ENTRIES (entry_at f.node)
  pub is_entry : (entry : OldEntry) → Contains ENTRIES entry → entry.node.0 ≡ f.node → entry_at f.node ≡ entry
  pub needs : NeedsNone (commit_plan f)

pub first_told : IsTold FIRST_FLUSH
first_told = record {
  directory = is_one_directory;
  some_node = ap (λ (o : Option Node). is_some o) one_there;
  live = alive_there;
  low = omega arith;
  kind = ap (λ (inode : Inode). inode.kind) one_is;
  entry = (1, omega arith, refl);
  is_entry = λ entry has node. elim (entry_cases entry has) [
    | inl root ↦ absurd (let e = ap (λ (x : OldEntry). x.node.0) root in omega (arith, e, node))
    | inr one ↦ one
  ];
  needs = first_needs;
}

pub second_told : IsTold SECOND_FLUSH
second_told = record {
  directory = is_root_directory;
  some_node = ap (λ (o : Option Node). is_some o) root_there;
  live = refl;
  low = omega arith;
  kind = ap (λ (inode : Inode). inode.kind) root_is;
  entry = (0, omega arith, refl);
  is_entry = λ entry has node. elim (entry_cases entry has) [
    | inl root ↦ root
    | inr one ↦ absurd (let e = ap (λ (x : OldEntry). x.node.0) one in omega (arith, e, node))
  ];
  needs = second_needs;
}

no_files : (b : Bool) → files_written b None ≡ []
no_files true = refl
no_files false = refl

module _ (f : Flushing) (told : IsTold f) where
  abbrev look : Look
  look = (core_commit_of f).look

  abbrev from : Sources
  from = sources_by f

  own_node : {node : ℕ} → Gathers look node → node ≡ f.node
  own_node itself = refl
  own_node (other_side noted other gathers sight is) = absurd sight.is_noted
  own_node (ended noted gathers sight is) = absurd sight.is_noted
  own_node (ancestor noted node gathers sight is) = absurd sight.is_noted
  own_node (birth_place born gathers one inode sees) = absurd one

  touched_node : {node : ℕ} → Touches look node → node ≡ f.node
  touched_node (member node gathers) = own_node gathers
  touched_node (named noted gathers sight) = absurd sight.is_noted

  gathers_own : {node : ℕ} → node ≡ f.node → Gathers look node
  gathers_own same = subst (Gathers look) (sym same) itself

  touches_own : {node : ℕ} → node ≡ f.node → Touches look node
  touches_own {node} same = member node (gathers_own same)

  own_listed : (node : ℕ) → node ≡ f.node → is_listed (f.node ∷ []) node ≡ true
  own_listed node same = ap (λ b. b || false) (eq-eqb f.node node (sym same))

  listed_own : (node : ℕ) → is_listed (f.node ∷ []) node ≡ true → node ≡ f.node
  listed_own node is = sym (eqb-true f.node node (sym (or_false (nat_eq f.node node)) ∙ is))

  unlisted_lifts : (node : ℕ) → Gathers look node ⊎ ((core_commit_of f).makes.lifted node ≡ 0)
  unlisted_lifts node = elim (cases_eq node f.node) [
    | inl same ↦ inl (gathers_own same)
    | inr other ↦ inr (ap (λ b. if b then f.stamp else 0) (ne_eqb node f.node other))
  ]

  -- the node is named
  named_there : is_named_after from.old [] f.node ≡ true
  named_there =
      ap (λ (o : Option OldEntry). nat_lt 0 (option_map_or names_by_record o 0 + 0)) found
      ∙ ap (λ b. nat_lt 0 ((if b then 1 else (inode_in (TWO_PARTS f.node)).links) + 0)) (ap (λ k. k == 2) told.kind)
    where
      found : item_with entry_node f.node (entry_at f.node ∷ []) ≡ Some (entry_at f.node)
      found = ap (λ b. cond b (Some (entry_at f.node)) (let o : Option OldEntry = None in o)) (same_number f.node)

  not_dead : (find : Found) → ((node : ℕ) → node ≡ f.node → node ≢ 0 → find.named node ≡ true) → (lifted : ℕ → ℕ) (node : ℕ) → Touches look node
      → SeesDead look lifted find node → ⊥
  not_dead find is_named lifted node touched dead =
      true_not_false (sym (is_named node (touched_node touched) dead.no_root) ∙ dead.unnamed)

  moves : (find : Found) → ((node : ℕ) → node ≡ f.node → node ≢ 0 → find.named node ≡ true) → (lifted : ℕ → ℕ)
      → AreMoved look lifted find (λ _. false) (λ _. false)
  moves find is_named lifted = record {
    enters = λ node. (
      λ never. absurd (false_not_true never),
      λ must. absurd (true_not_false (sym (own_listed node (touched_node must.1)) ∙ must.0)),
    );
    leaves = λ node. (
      λ never. absurd (false_not_true never),
      λ must. absurd (not_dead find is_named lifted node must.1 must.2),
    );
  }

  pub look_makes : IsByItsLook (core_commit_of f)
  look_makes = record {
    members = λ node. (
      λ one. elim one [ inl same ↦ gathers_own (sym same) | inr never ↦ absurd never ],
      λ gathers. inl (sym (own_node gathers)),
    );
    holds = λ node. (
      λ holds. touches_own (eqb-true node f.node holds),
      λ touched. eq-eqb node f.node (touched_node touched),
    );
    makes = record {
      lifts = record {
        members = λ node gathers.
            ap (λ b. if b then f.stamp else 0) (eq-eqb node f.node (own_node gathers))
            ∙ (let e : f.stamp ≡ max 0 f.stamp = omega arith in e);
        others = unlisted_lifts;
      };
      moved = moves (found_from from) (λ node same other.
          ap (λ b. not b && is_named_after from.old [] node) (ne_eqb node 0 other) ∙ ap (is_named_after from.old []) same ∙ named_there)
          (core_commit_of f).makes.lifted;
    };
    blank = λ node holds. refl;
  }

  notes : HasNotes TWO_CORES BOTH_HISTORY (core_commit_of f)
  notes = record {
    early = λ stamp less. refl;
    stamp = told.low;
    live = told.live;
    truths = λ noted one. absurd one;
    unmarked = λ noted one. absurd one;
    noted = λ change one. absurd (no_change change one);
    born = λ node directory touched. (λ one. absurd one, λ birth. absurd (no_birth _ birth.1));
    own_marks = λ stamp directory holds. omega arith;
  }

  known : KnownAtReserving run_now (core_commit_of f)
  known = record {
    made = look_makes;
    notes = notes;
    ruled = record {
      earlier = λ other one. absurd one;
      trimmed = λ other one. absurd one;
      reached = λ change one. absurd (no_change change one);
    };
    fresh = λ node holds.
        let same = eqb-true node f.node holds in
        HasLeft.nobody (λ other one. absurd one) refl (own_listed node same ∙ sym (ap (λ n. is_some (get TWO_CORES.nodes n)) same ∙ told.some_node));
  }

  may_plan : MayPlan TWO_DIRECTORIES [] (core_commit_of f)
  may_plan = record { stands = volume_stands; short = short_files; standing = standing; known = known; low = told.low }

  one_ascends : IsStrictlyIncreasing (f.node ∷ [])
  one_ascends k less = absurd (omega (arith, less))

  plans : IsPlanFrom from
  plans = record {
    enter = [];
    members = refl;
    nodes = refl;
    moves = record {
      enter_ascends = λ i j d less within. absurd (omega (arith, within));
      leave_ascends = λ k less. absurd (omega (arith, less));
      lifts = record {
        members = λ node gathers. ap (λ b. if b then max 0 f.stamp else 0) (own_listed node (own_node gathers));
        others = λ node. elim (cases_eq node f.node) [
          | inl same ↦ inl (gathers_own same)
          | inr other ↦ inr (ap (λ b. if b || false then max 0 f.stamp else 0) (ne_eqb f.node node (λ same. other (sym same))))
        ];
      };
      moved = moves (found_by from.old [] false) (λ node same other. ap (is_named_after from.old []) same ∙ named_there) _;
      kinds = All-nil _;
    };
    made = ap (λ files. planned from.old [] files [] []) (sym (no_files (is_written from.gathered [] from.start.0 from.below.0)));
  }

  concern : IsConcernOf from.start from.below from.gathered from.concern
  concern = record {
    members = record { ascending = one_ascends; each = λ node. (λ is. gathers_own (listed_own node is), λ gathers. own_listed node (own_node gathers)) };
    nodes = record { ascending = one_ascends; each = λ node. (λ is. touches_own (listed_own node is), λ touched. own_listed node (touched_node touched)) };
    nets = record {
      own_nets = λ node is. record { ascending = nothing_sorted; each = All-nil _; complete = λ name differs. absurd (differs refl) };
      others = λ node is. refl;
      some_row = All-nil _;
    };
    ascend = λ i j d less within. absurd (omega (arith, within));
    names = λ one has. absurd (let low = has.1 in omega (arith, low));
  }

  old_entries : HasOldEntries (f.node ∷ []) ENTRIES (entry_at f.node ∷ [])
  old_entries = record {
    ascend = λ i j d less within. absurd (omega (arith, less, within));
    own = λ entry has. let same = only entry has in (
      subst (Contains ENTRIES) same told.entry,
      subst (λ (e : OldEntry). is_among (f.node ∷ []) e.node.0 ≡ true) same (own_listed f.node refl),
    );
    all = λ entry has among.
        let same = told.is_entry entry has (listed_own entry.node.0 among) in
        (0, omega arith, same);
  }
    where
      only : (entry : OldEntry) → Contains (entry_at f.node ∷ []) entry → entry_at f.node ≡ entry
      only entry (zero, low, is) = is
      only entry (suc k, low, is) = absurd (omega (arith, low))

  gathered : IsGatheredFor TWO_DIRECTORIES (core_commit_of f) from
  gathered = record {
    look = refl;
    logs = λ log one. absurd one;
    keeps = entries_kept;
    orderly = record {
      logs = λ k less. absurd (omega (arith, less));
      cuts = λ k less. absurd (omega (arith, less));
      births = λ k less. absurd (omega (arith, less));
      inodes = one_ascends;
      own_logs = All-nil _;
    };
    concern_is = concern;
    old_is = old_entries;
    file_is = (subst (λ (t : TreeState). is_directory t f.node ≡ true) (sym same_after) told.directory, refl);
    plans = plans;
  }

  one_made : (made : IsPlanFrom from) → made.enter ≡ [] → (pair_by f).one ≡ bringing_made TWO_DIRECTORIES from made NO_GRANT
  one_made made enter =
      let files = no_files (is_written from.gathered made.enter from.start.0 from.below.0) in
      let same_plan : commit_plan f ≡ commit_made_of from made =
      λ i. record { old = entry_at f.node ∷ []; nets = []; files = sym files i; enter = sym enter i; leave = [] } in
      ap (λ (plan : CommitPlan). record {
        flush = record { node = f.node; stamp = f.stamp };
        nodes = f.node ∷ [];
        plan = plan;
        grant = NO_GRANT;
        parts = parts_given TWO_DIRECTORIES plan NO_GRANT;
      }) same_plan

  no_enter : gathered.plans.enter ≡ []
  unfolding gathered plans
  no_enter = refl

  pub core_tells : CoreTells TWO_DIRECTORIES [] (pair_by f) from
  core_tells = record {
    may = may_plan;
    gathered = gathered;
    found = refl;
    later = record { other_number = λ other one. absurd one; greater = λ other one. absurd one };
    one = one_made gathered.plans no_enter;
  }

  -- its plan lets no node enter
  pub enters_none : core_tells.gathered.plans.enter ≡ []
  unfolding core_tells
  enters_none = no_enter

  pub serves : ServesPair TWO_DIRECTORIES (pair_by f)
  serves = serves_none (commit_plan f) refl told.needs

  pub opens : IsOpenBeside TWO_DIRECTORIES [] (pair_by f)
  opens = cores_open TWO_DIRECTORIES [] (pair_by f) from core_tells serves
