-- The commit of a file that has an inode may be open beside others.
use Rattle.std.proofs.Common.{◌≡◌, ◌⊎◌, ◌↔◌, ℕ, ◌≤◌, true, false, cond, not, max, nat_eq, nat_lt, List, [], ◌∷◌, length, filter, inl, inr, refl, sym, ap, subst, ◌∙◌, arith}
use Rattle.std.specs.FinMap.{FinMap}
use Rattle.std.specs.Prelude.{fold}
use Rattle.std.proofs.lemmas.Bool.{and_from}
use borrow.Author.Tests.{eqb-true, ltb-false}
use Rattle.sfs_base.proofs.BasicNumbers.{same_number, not_same, not_below}
use Rattle.sfs_base.proofs.BasicTruth.{not_both, not_true, and_first, and_second}
use Rattle.tree_laws.specs.Changes.{RowChange, changes_of}
use Rattle.tree_laws.specs.History.{tree_after}
use Rattle.tree_laws.specs.Order.{key_cmp}
use Rattle.tree_laws.specs.Tree.{is_directory}
use Rattle.cut_laws.specs.Closure.{every_entry, Flush, IsDead, IsRaised, IsNamedIn}
use Rattle.cut_laws.specs.Cut.{Cut, cut_of, is_within, with_own, rows_at_cut}
use Rattle.cut_laws.specs.Rules.{Birth, births_of, IsOneOf, IsChange, IsMove}
use Rattle.cut_laws.proofs.Along.{made_at, tree_at-after}
use Rattle.cut_laws.proofs.Basics.{below_or, filter_same}
use Rattle.cut_laws.proofs.KeptInodes.{dead_unnamed}
use Rattle.cut_laws.proofs.Listed.{from_map, to_map, to_filter}
use Rattle.cut_laws.proofs.MemberKinds.{still_directory, root_directory, own_directory}
use Rattle.cut_laws.proofs.OwnFiles.{live_named}
use Rattle.cut_laws.proofs.Prefix.{stamp_below}
use Rattle.cut_laws.proofs.RunFacts.{in_filter}
use Rattle.look_laws.specs.Look.{Look, Noted, Born, Gathers, itself, other_side, ended, ancestor, birth_place, Touches, member, named}
use Rattle.look_laws.specs.Made.{SeesDead}
use Rattle.look_laws.specs.Beside.{IsLiftedBy}
use Rattle.beside_laws.specs.Commits.{CoreCommit, IsByItsLook}
use Rattle.beside_laws.specs.Laws.{KnowsRun, HasFound}
use Rattle.beside_laws.specs.OwnFile.{born_at, noted_alone, is_open_naming, own_look, OwnNumbers, own_commit, IsOwnFsync, MayBeOpen, OwnFilesMayBeOpen}
use Rattle.beside_laws.specs.Progress.{Progress, Standing}
use Rattle.beside_laws.specs.Steps.{IsLegalRun}
use Rattle.beside_laws.proofs.Finding.{found_once}
use Rattle.cut_laws.proofs.RaisedCut.{raised_cut}
use Rattle.beside_laws.proofs.Raising.{raised_or, of_the_whole}

module _ (run : Progress) (flush : Flush) (own : OwnNumbers) (run_is : IsLegalRun run) (stands : Standing run) (is : IsOwnFsync run flush own) where
  abbrev look : Look
  look = own_look run flush

  abbrev commit : CoreCommit
  commit = own_commit run flush own

  -- what is directory of a change is another node than the file
  directory_of : (change : RowChange) → IsChange run.first run.history change → is_directory (tree_after run.first run.history) change.directory ≡ true
  directory_of change one =
      own_directory run.first run.history run_is.sound run_is.legal change.stamp change
      (made_at run.first run.history run_is.sound run_is.legal change one)

  no_directory : (node : ℕ) → is_directory (tree_after run.first run.history) node ≡ true → node ≡ flush.node → ⊥
  no_directory node kind same = not_both (subst (λ n. is_directory (tree_after run.first run.history) n ≡ true) same kind) is.file

  other_node : (node : ℕ) → is_directory (tree_after run.first run.history) node ≡ true → nat_eq node flush.node ≡ false
  other_node node kind = not_same node flush.node (no_directory node kind)

  -- what is noted is a change of the history that names the file and is not flushed
  noted_is : (noted : Noted) → IsOneOf look.noted noted
      → IsChange run.first run.history noted.change × (noted.change.child ≡ flush.node) × (cut_of run.cut noted.change.directory ≤ noted.change.stamp)
      × (noted.above ≡ [])
  noted_is noted one =
      let from = from_map noted_alone (filter (is_open_naming run flush.node) (changes_of run.first run.history)) noted one in
      let passes = in_filter (is_open_naming run flush.node) (changes_of run.first run.history) from.0 from.1 in
      let same = ap (λ (n : Noted). n.change) from.2 in
      let child = eqb-true _ _ (and_first (nat_eq from.0.child flush.node) _ passes.1) in
      let open_one = not_true (is_within run.cut from.0) (and_second (nat_eq from.0.child flush.node) _ passes.1) in (
        subst (IsChange run.first run.history) same passes.0,
        ap (λ (c : RowChange). c.child) (sym same) ∙ child,
        subst (λ (c : RowChange). cut_of run.cut c.directory ≤ c.stamp) same (ltb-false _ _ open_one),
        ap (λ (n : Noted). n.above) (sym from.2),
      )

  is_noted : (change : RowChange) → IsChange run.first run.history change → change.child ≡ flush.node → cut_of run.cut change.directory ≤ change.stamp
      → IsOneOf look.noted (noted_alone change)
  is_noted change one child open_one =
      to_map noted_alone (filter (is_open_naming run flush.node) (changes_of run.first run.history)) change
      (to_filter (is_open_naming run flush.node) (changes_of run.first run.history) change one
      (and_from _ _ (subst (λ n. nat_eq change.child n ≡ true) child (same_number change.child))
      (ap not (not_below change.stamp (cut_of run.cut change.directory) open_one))))

  -- so it gathers the file alone, and touches no other node
  gathers_own : {node : ℕ} → Gathers look node → node ≡ flush.node
  gathers_own itself = refl
  gathers_own (other_side noted other from sight two) =
      absurd (no_directory noted.change.directory (directory_of noted.change (noted_is noted sight.is_noted).0) (gathers_own from))
  gathers_own (ended noted from sight ends) =
      absurd (no_directory noted.change.directory (directory_of noted.change (noted_is noted sight.is_noted).0) (gathers_own from))
  gathers_own (ancestor noted node from sight among) =
      absurd (no_directory noted.change.directory (directory_of noted.change (noted_is noted sight.is_noted).0) (gathers_own from))
  gathers_own (birth_place born from one lacks sees) =
      absurd (not_both (ap (λ n. nat_eq n flush.node) (gathers_own from) ∙ same_number flush.node) lacks)

  touches_own : (node : ℕ) → Touches look node → node ≡ flush.node
  touches_own node (member _ gathered) = gathers_own gathered
  touches_own _ (named noted from sight) =
      absurd (no_directory noted.change.directory (directory_of noted.change (noted_is noted sight.is_noted).0) (gathers_own from))

  own_gathered : (node : ℕ) → node ≡ flush.node → Gathers look node
  own_gathered node same = subst (Gathers look) (sym same) itself

  own_touched : (node : ℕ) → node ≡ flush.node → Touches look node
  own_touched node same = member node (own_gathered node same)

  -- its stamp
  own_stamp : (node stamp : ℕ) → node ≡ flush.node → cond (nat_eq node flush.node) stamp 0 ≡ stamp
  own_stamp node stamp same = ap (λ b. cond b stamp 0) (ap (λ n. nat_eq n flush.node) same ∙ same_number flush.node)

  -- a file with an inode that is alive is not dead
  not_dead : SeesDead look commit.makes.lifted commit.makes.found flush.node → ⊥
  not_dead dead =
      live_named run.first run.history run_is.sound run_is.legal flush.stamp flush.node is.file
      (rw (tree_at-after run.first run.history flush.stamp) is.live) (root_directory run.first run.history run_is.sound run_is.legal)
      (dead_unnamed run.first run.history run_is.sound run_is.legal stands.flushed flush.node is.has dead_now)
    where
      dead_now : IsDead run.first run.history every_entry run.cut flush.node
      dead_now = record {
        no_root = dead.no_root;
        unnamed = λ row. not_both (is.named.1 row) dead.unnamed;
        flushed = λ change one counted child. elim (below_or change.stamp (cut_of run.cut change.directory)) [
          | inl less ↦ less
          | inr open_one ↦ absurd (dead.flushed (record {
            noted = noted_alone change;
            is_noted = is_noted change one child open_one;
            child = child;
            unflushed =
                subst (λ n. n ≤ change.stamp)
                (sym (ap (λ b. cond b (max (cut_of run.cut change.directory) flush.stamp) 0) (other_node change.directory (directory_of change one))))
                (omega arith);
          }))
        ];
      }

  by_look : IsByItsLook commit
  by_look = record {
    members = λ node. (
      λ one. elim one [ inl same ↦ own_gathered node (sym same) | inr never ↦ absurd never ],
      λ gathered. inl (sym (gathers_own gathered)),
    );
    holds = λ node. (
      λ held. own_touched node (eqb-true _ _ held),
      λ touched. ap (λ n. nat_eq n flush.node) (touches_own node touched) ∙ same_number flush.node,
    );
    makes = record {
      lifts = record {
        members = λ node gathered.
            let same = gathers_own gathered in
            own_stamp node (max (cut_of run.cut node) flush.stamp) same
            ∙ ap (λ n. max n flush.stamp) (sym (own_stamp node (cut_of run.cut node) same));
        others = λ node. elim (nat_eq node flush.node) as (λ b. nat_eq node flush.node ≡ b
            → Gathers look node ⊎ (cond b (max (cut_of run.cut node) flush.stamp) 0 ≡ cond b (cut_of run.cut node) 0)) [
              | true ↦ λ same. inl (own_gathered node (eqb-true _ _ same))
              | false ↦ λ _. inr refl
            ] refl;
      };
      moved = record {
        enters = λ node. (
          λ never. cc,
          λ all. absurd (not_both (ap (λ n. nat_eq n flush.node) (touches_own node all.1) ∙ same_number flush.node) all.0),
        );
        leaves = λ node. (
          λ never. cc,
          λ all. absurd (not_dead (subst (SeesDead look commit.makes.lifted commit.makes.found) (touches_own node all.1) all.2)),
        );
      };
    };
    blank = λ node free. ap (λ b. cond b (cut_of run.cut node) 0) free;
  }

  born_is : (node directory : ℕ) → Touches look node
      → IsOneOf look.born (record { node = node; directory = directory }) ↔
      ((stamp : ℕ) × IsOneOf (births_of run.first run.history) (record { stamp = stamp; directory = directory; node = node }))
  born_is node directory touched = (
    λ one.
        let from = from_map born_at (filter (λ (b : Birth). nat_eq b.node flush.node) (births_of run.first run.history)) _ one in
        let passes = in_filter (λ (b : Birth). nat_eq b.node flush.node) (births_of run.first run.history) from.0 from.1 in (
          from.0.stamp,
          subst (IsOneOf (births_of run.first run.history))
              (λ k. record { stamp = from.0.stamp; directory = (ap (λ (b : Born). b.directory) from.2) k; node = (ap (λ (b : Born). b.node) from.2) k }) passes.0,
        ),
    λ birth.
        to_map born_at (filter (λ (b : Birth). nat_eq b.node flush.node) (births_of run.first run.history)) _
        (to_filter (λ (b : Birth). nat_eq b.node flush.node) (births_of run.first run.history) _ birth.1
        (ap (λ n. nat_eq n flush.node) (touches_own node touched) ∙ same_number flush.node)),
  )

  -- no directory is placed by a change that names the file
  no_move : (change : RowChange) → change.child ≡ flush.node → IsMove run.first run.history change → ⊥
  no_move change child move =
      no_directory change.child
      (still_directory run.first run.history run_is.sound run_is.legal change.stamp change.child
      (rw (tree_at-after run.first run.history change.stamp) move.moves.kind)) child

  knows : KnowsRun run commit
  knows = record {
    enough = record {
      cuts = λ node touched. own_stamp node (cut_of run.cut node) (touches_own node touched);
      cuts_low = λ node. elim (nat_eq node flush.node) as (λ b. cond b (cut_of run.cut node) 0 ≤ cut_of run.cut node) [
        | true ↦ omega arith
        | false ↦ omega arith
      ];
      same_inodes = λ node touched.
          let same = touches_own node touched in
          ap (λ n. nat_eq n flush.node) same ∙ same_number flush.node ∙ sym (ap run.inodes same ∙ is.has);
      born = born_is;
      truths = λ noted one.
          let it = noted_is noted one in
          record {
            is_change = it.0;
            counted = refl;
            told = λ above move way. absurd (no_move noted.change it.1 move);
            moves = λ node among. absurd (subst (λ (l : List ℕ). IsOneOf l node) it.3 among);
            stands = λ node among. absurd (subst (λ (l : List ℕ). IsOneOf l node) it.3 among);
          };
      spans = λ change gathered span. absurd (no_directory change.directory (directory_of change span.is_change) (gathers_own gathered));
      namings = λ change touched one counted open_one. (noted_alone change, is_noted change one (touches_own change.child touched) open_one, refl);
      unflushed = λ noted one touched from. (noted_is noted one).2;
    };
    early = λ stamp less. refl;
    stamp = omega arith;
    unflushed = λ change touched one since. absurd (past change one since);
    live = is.live;
  }
    where
      -- no change has a stamp past the history
      past : (change : RowChange) → IsChange run.first run.history change → max (length run.history) flush.stamp ≤ change.stamp → ⊥
      past change one since = let less = stamp_below run.first run.history change run_is.legal one in omega arith

  raised : Cut
  raised = raised_cut run.cut (flush.node ∷ []) flush.stamp

  lifted_by : IsLiftedBy look run.cut raised
  unfolding raised
  lifted_by = record {
    gathered = λ node gathered. elim (raised_or run.cut (flush.node ∷ []) flush.stamp node) [
      | inl one ↦ one.1
      | inr none ↦ absurd (none.0 (inl (sym (gathers_own gathered))))
    ];
    others = λ node. elim (raised_or run.cut (flush.node ∷ []) flush.stamp node) [
      | inr none ↦ inr none.1
      | inl one ↦ elim one.0 [ inl same ↦ inl (own_gathered node (sym same)) | inr never ↦ absurd never ]
    ];
  }

  raise : IsRaised run.first run.history every_entry run.cut run.inodes flush raised
  raise = (of_the_whole run run_is.sound run_is.legal stands commit knows).raises raised lifted_by

  -- no row comes or goes by a file's stamp
  same_rows : rows_at_cut run.first run.history raised ≡ rows_at_cut run.first run.history run.cut
  same_rows =
      ap (fold with_own run.first.rows) (filter_same (is_within raised) (is_within run.cut) (changes_of run.first run.history) (λ change one.
      elim (lifted_by.others change.directory) [
        | inl gathered ↦ absurd (no_directory change.directory (directory_of change one) (gathers_own gathered))
        | inr same ↦ ap (nat_lt change.stamp) same
      ]))

  named_raised : IsNamedIn (rows_at_cut run.first run.history run.cut) flush.node → IsNamedIn (rows_at_cut run.first run.history raised) flush.node
  named_raised row = subst (λ (rows : FinMap key_cmp ℕ). IsNamedIn rows flush.node) (sym same_rows) row

  named_before : IsNamedIn (rows_at_cut run.first run.history raised) flush.node → IsNamedIn (rows_at_cut run.first run.history run.cut) flush.node
  named_before row = subst (λ (rows : FinMap key_cmp ℕ). IsNamedIn rows flush.node) same_rows row

  found : HasFound run commit
  found = record {
    raised = raised;
    raises = raise;
    finds = record {
      named = λ node touched.
          let same = touches_own node touched in (
            λ has. subst (λ n. IsNamedIn (rows_at_cut run.first run.history raised) n) (sym same) (named_raised (is.named.0 has)),
            λ row. is.named.1 (named_before (subst (λ n. IsNamedIn (rows_at_cut run.first run.history raised) n) same row)),
          );
      directory = sym is.file;
    };
  }

  pub may_be_open : MayBeOpen run commit
  may_be_open = record {
    made = by_look;
    knows = knows;
    finds = found_once run commit run_is.sound run_is.legal stands knows found;
  }

pub own_files_may_be_open : OwnFilesMayBeOpen
own_files_may_be_open run flush own run_is stands is = may_be_open run flush own run_is stands is
