-- What fsyncs leave of nodes that have an inode, and of those that they do not concern.
use Rattle.std.proofs.Common.{◌≡◌, ℕ, ◌<◌, ◌≤◌, Bool, true, false, List, length, Some, ◌⊎◌, inl, inr, refl, sym, ap, ◌∙◌, nat_eq, arith}
use borrow.Author.Tests.{eqb-true, eqb-false}
use Rattle.std.specs.FinMap.{FinMap, get, empty}
use Rattle.sfs_base.specs.declared.numbers.Kind.{Kind}
use Rattle.tree_laws.specs.declared.history.Entry.{Entry}
use Rattle.tree_laws.specs.Order.{key_cmp}
use Rattle.tree_laws.specs.Tree.{TreeState, is_directory}
use Rattle.tree_laws.specs.Effect.{Adds}
use Rattle.tree_laws.specs.Changes.{RowChange, changes_of}
use Rattle.tree_laws.specs.History.{tree_after, IsLegal}
use Rattle.tree_laws.specs.Laws.{IsSoundTree}
use Rattle.cut_laws.specs.Cut.{Cut, cut_of, IsWithin, is_within, rows_at_cut}
use Rattle.cut_laws.specs.Rules.{IsChange}
use Rattle.cut_laws.specs.Closure.{every_entry, Flush, IsConcerned, member, itself, IsNamedIn, IsRaised, IsReached, IsDead, AreInodesAfter, KeepsCut, none, one_more, AreFlushed}
use Rattle.cut_laws.specs.LawsInodes.{OthersStay, StaysAsItWas, IsNeverNamed, NoneIsDead, DirectoriesAreNamed, DirectoriesStayNamed, FilesSettle}
use Rattle.cut_laws.proofs.Basics.{below_or}
use Rattle.sfs_base.proofs.BasicNumbers.{not_less, not_below}
use Rattle.sfs_base.proofs.BasicTruth.{not_both}
use Rattle.cut_laws.proofs.Own.{skip}
use Rattle.cut_laws.proofs.Runs.{Run}
use Rattle.cut_laws.proofs.Raises.{cuts_rise}
use Rattle.cut_laws.proofs.Along.{birth_in, made_at, nodes_at, run_of}
use Rattle.cut_laws.proofs.Closed.{keeps_of, seen_of, seen_end, closed_cuts_are_sound}
use Rattle.cut_laws.proofs.Children.{links_named}
use Rattle.cut_laws.proofs.Prefix.{stamp_below}
use Rattle.cut_laws.proofs.MemberKinds.{root_directory}
use Rattle.cut_laws.proofs.Lists.{nothing_within, lists_keep}
use Rattle.cut_laws.proofs.NamedKept.{is_between, between_concerned, between_change, row_raised, row_before}
use Rattle.cut_laws.proofs.DirectoryPlaces.{place_at, now, left, gone}
use Rattle.cut_laws.proofs.Commit.{fsyncs_keep}

module _ (first : TreeState) (history : List Entry) (cut raised : Cut) (inodes after : ℕ → Bool) (flush : Flush) (is : IsSoundTree first)
    (legal : IsLegal first history) (raise : IsRaised first history every_entry cut inodes flush raised)
    (sets : AreInodesAfter first history every_entry cut inodes flush raised after) where
  abbrev IsConcernedHere : ℕ → Type 0
  IsConcernedHere node = IsConcerned first history every_entry cut inodes flush node

  -- a change that names a node is flushed as it was, or the node is concerned
  pub flushed_or_concerned : (change : RowChange) → IsChange first history change → IsWithin raised change → IsWithin cut change ⊎ IsConcernedHere change.child
  flushed_or_concerned change one within = elim (below_or change.stamp (cut_of cut change.directory)) [
    | inl lt ↦ inl lt
    | inr le ↦ inr (is_between first history every_entry flush cut raised inodes is legal (λ t lt. refl) raise change one le within)
  ]

  still_within : (change : RowChange) → IsWithin cut change → IsWithin raised change
  still_within change within = let le = cuts_rise first history every_entry cut inodes flush raised raise change.directory in omega arith

  module _ (node : ℕ) (none : IsConcernedHere node → ⊥) where
    same_inode : after node ≡ inodes node
    same_inode = elim (inodes node) as (λ b. inodes node ≡ b → after node ≡ b) [
      | true ↦
          λ has. elim (after node) as (λ b. after node ≡ b → b ≡ true) [
            | true ↦ λ _. refl
            | false ↦
                λ lost. absurd (none ((sets.leaves node has).0 lost).0)
          ] refl
      | false ↦
          λ lacks. elim (after node) as (λ b. after node ≡ b → b ≡ false) [
            | true ↦ λ came. absurd (none ((sets.enters node lacks).0 came).0)
            | false ↦
                λ _. refl
          ] refl
    ] refl

    as_it_was : StaysAsItWas first history cut raised inodes after node
    as_it_was = record {
      stamp = elim (raise.other node) [ inl own ↦ absurd (none (member node own)) | inr e ↦ e ];
      inode = same_inode;
      flushed = λ change one child. (
        λ within. elim (flushed_or_concerned change one within) [ inl was ↦ was | inr concerned ↦ absurd (none (rw child at concerned)) ],
        still_within change,
      );
      rows = λ directory name. (
        λ row. elim (row_raised first history every_entry flush cut raised inodes is legal (λ t lt. refl) raise directory name node row) [
          | inl was ↦ was
          | inr between ↦ absurd (none (between_concerned first history every_entry flush cut raised inodes is legal (λ t lt. refl) raise node between))
        ],
        λ row. elim (row_before first history every_entry flush cut raised inodes is legal (λ t lt. refl) raise directory name node row) [
          | inl there ↦ there
          | inr between ↦ absurd (none (between_concerned first history every_entry flush cut raised inodes is legal (λ t lt. refl) raise node between))
        ],
      );
    }

    -- so it was dead before where it is dead now
    dead_before : IsDead first history every_entry raised node → IsDead first history every_entry cut node
    dead_before dead = record {
      no_root = dead.no_root;
      unnamed =
          λ named. dead.unnamed (record { directory = named.directory; name = named.name; row = (as_it_was.rows named.directory named.name).1 named.row });
      flushed = λ change one counted child. (as_it_was.flushed change one child).0 (dead.flushed change one counted child);
    }

  -- a node that keeps its inode and is dead is not concerned
  unconcerned : (node : ℕ) → inodes node ≡ true → after node ≡ true → IsDead first history every_entry raised node → IsConcernedHere node → ⊥
  unconcerned node had has dead concerned = not_both has ((sets.leaves node had).1 (concerned, dead))

  -- one that enters is not dead
  pub entered_lives : (node : ℕ) → inodes node ≡ false → after node ≡ true → IsDead first history every_entry raised node → ⊥
  entered_lives node lacked has dead = elim ((sets.enters node lacked).0 has).1 [
    | inl named ↦ dead.unnamed named
    | inr file ↦
        let naming = file.2 in
        let within = dead.flushed naming.change naming.is_change naming.counted naming.child in
        not_less within naming.unflushed
  ]

  -- what is dead stays dead
  pub dead_after : (node : ℕ) → IsDead first history every_entry cut node → IsDead first history every_entry raised node
  dead_after node dead = record {
    no_root = dead.no_root;
    unnamed =
        λ named. elim (row_raised first history every_entry flush cut raised inodes is legal (λ t lt. refl) raise named.directory named.name node named.row) [
          | inl was ↦ dead.unnamed (record { directory = named.directory; name = named.name; row = was })
          | inr b ↦
              let change = between_change first history every_entry flush cut raised inodes is legal (λ t lt. refl) raise node b in
              let within = dead.flushed b.change change.0 refl b.child in
              not_less within change.1
        ];
    flushed = λ change one counted child. still_within change (dead.flushed change one counted child);
  }

  -- an fsync of a file leaves it with an inode, or dead
  pub settles : is_directory (tree_after first history) flush.node ≡ false → (after flush.node ≡ true) ⊎ IsDead first history every_entry raised flush.node
  settles file = elim (inodes flush.node) as (λ b. inodes flush.node ≡ b → (after flush.node ≡ true) ⊎ IsDead first history every_entry raised flush.node) [
    | true ↦ λ had. elim (after flush.node) as (λ b. after flush.node ≡ b → (b ≡ true) ⊎ IsDead first history every_entry raised flush.node) [
      | true ↦ λ _. inl refl
      | false ↦ λ lost. inr ((sets.leaves flush.node had).0 lost).1
    ] refl
    | false ↦ λ lacked. elim (after flush.node) as (λ b. after flush.node ≡ b → (b ≡ true) ⊎ IsDead first history every_entry raised flush.node) [
      | true ↦ λ _. inl refl
      | false ↦ λ lacks. inr (unreached (λ reached. not_both ((sets.enters flush.node lacked).1 (member flush.node itself, reached)) lacks))
    ] refl
  ] refl
    where
      unreached : (IsReached first history every_entry flush raised flush.node → ⊥) → IsDead first history every_entry raised flush.node
      unreached none_reached = record {
        no_root = λ root. not_both (root_directory first history is legal) (rw root at file);
        unnamed = λ named. none_reached (inl named);
        flushed = λ change one counted child. elim (below_or change.stamp (cut_of raised change.directory)) [
          | inl lt ↦ lt
          | inr le ↦ absurd (none_reached (inr (refl, file, record { change = change; is_change = one; counted = counted; child = child; unflushed = le })))
        ];
      }

pub others_stay : OthersStay
others_stay first history cut raised inodes after flush node is legal raise sets unconcerned =
    as_it_was first history cut raised inodes after flush is legal raise sets node unconcerned

pub files_settle : FilesSettle
files_settle first history cut raised inodes after flush is legal raise sets file = settles first history cut raised inodes after flush is legal raise sets file

-- what is dead at the cut 0 was never named
first_dead : (first : TreeState) (history : List Entry) (node : ℕ) → IsDead first history every_entry empty node → IsNeverNamed first history node
first_dead first history node dead = record {
  rows = λ named. dead.unnamed (record {
    directory = named.directory;
    name = named.name;
    row =
        skip (is_within empty) named.directory named.name first.rows (changes_of first history)
        (λ x one same. not_below x.stamp (cut_of empty x.directory) (no_stamp x))
        ∙ named.row;
  });
  changes = λ change one child. nothing_within change.stamp change.directory (dead.flushed change one refl child);
}
  where
    no_stamp : (x : RowChange) → cut_of empty x.directory ≤ x.stamp
    no_stamp x = elim (below_or x.stamp (cut_of empty x.directory)) [ inl lt ↦ nothing_within x.stamp x.directory lt | inr le ↦ le ]

pub dead_unnamed : (first : TreeState) (history : List Entry) → IsSoundTree first → IsLegal first history
    → {flushes : List Flush} {cut : Cut} {inodes : ℕ → Bool} → AreFlushed first history every_entry flushes cut inodes → (node : ℕ) → inodes node ≡ true
    → IsDead first history every_entry cut node → IsNeverNamed first history node
dead_unnamed first history is legal none node has dead = first_dead first history node dead
dead_unnamed first history is legal (one_more flushes flush before raised inodes after earlier raise sets) node has dead =
    elim (inodes node) as (λ b. inodes node ≡ b → IsNeverNamed first history node) [
      | true ↦
          λ had. dead_unnamed first history is legal earlier node had
          (dead_before first history before raised inodes after flush is legal raise sets node
          (unconcerned first history before raised inodes after flush is legal raise sets node had has dead) dead)
      | false ↦ λ lacked. absurd (entered_lives first history before raised inodes after flush is legal raise sets node lacked has dead)
    ] refl

pub none_is_dead : NoneIsDead
none_is_dead first history flushes cut inodes node is legal flushed has dead = dead_unnamed first history is legal flushed node has dead

-- a directory with an inode is the root, or is named at a closed cut, or is dead
module _ (first : TreeState) (history : List Entry) (cut : Cut) (inodes : ℕ → Bool) (is : IsSoundTree first) (legal : IsLegal first history)
    (kept : KeepsCut first history cut inodes) (node : ℕ) (has : inodes node ≡ true) (kind : is_directory (tree_after first history) node ≡ true) where
  abbrev run : Run
  run = run_of first history is legal

  settled : (b d : ℕ) (n : List ℕ) (mk : Kind) → run.effect b ≡ Adds d n node → run.makes b ≡ Some mk → b < cut_of cut d
  settled b d n mk adds makes =
      kept.born (record { stamp = b; directory = d; node = node })
      (birth_in first history b (record { stamp = b; directory = d; node = node }) legal (rw makes (rw adds (inl refl)))) has kind

  at_end : (t d : ℕ) (n : List ℕ) → t ≡ length history → get ((seen_of first history is legal cut).rows t) (d, n) ≡ get (rows_at_cut first history cut) (d, n)
  at_end t d n e =
      ap (λ (k : ℕ). get ((seen_of first history is legal cut).rows k) (d, n)) e
      ∙ ap (λ (rows : FinMap key_cmp ℕ). get rows (d, n)) (seen_end first history is legal cut)

  pub named_or_dead : (node ≡ 0) ⊎ IsNamedIn (rows_at_cut first history cut) node ⊎ IsDead first history every_entry cut node
  named_or_dead =
      elim (nat_eq node 0) as (λ b. nat_eq node 0 ≡ b
      → (node ≡ 0) ⊎ IsNamedIn (rows_at_cut first history cut) node ⊎ IsDead first history every_entry cut node) [
        | true ↦ λ e. inl (eqb-true _ _ e)
        | false ↦
            λ e. inr
            (elim
            (place_at run (cut_of cut) (seen_of first history is legal cut) (keeps_of first history is legal cut kept.closed)
            (links_named first history is legal) node settled (λ t some. sym (nodes_at first history t is legal node some).1 ∙ kind)
            (length history)) [
              | now p ↦ inl (record { directory = p.directory; name = p.name; row = sym (at_end (length history) p.directory p.name refl) ∙ p.seen })
              | left l ↦
                  inl
                  (record {
                    directory = l.seen.directory;
                    name = l.seen.name;
                    row = sym (at_end (length history) l.seen.directory l.seen.name refl) ∙ l.seen.row;
                  })
              | gone g ↦ inr (record {
                no_root = eqb-false _ _ e;
                unnamed =
                    λ named. g.unseen
                    (record { directory = named.directory; name = named.name; row = at_end (length history) named.directory named.name refl ∙ named.row });
                flushed =
                    λ change one counted child. g.flushed change.stamp change (stamp_below first history change legal one)
                    (made_at first history is legal change one) child;
              })
            ])
      ] refl

pub directories_are_named : DirectoriesAreNamed
directories_are_named first history flushes cut inodes node is legal flushed has kind =
    elim (named_or_dead first history cut inodes is legal (lists_keep first history flushes cut inodes is legal flushed).kept node has kind) [
      | inl root ↦ inl root
      | inr other ↦ elim other [
        | inl named ↦ inr (inl named)
        | inr dead ↦ inr (inr (dead_unnamed first history is legal flushed node has dead))
      ]
    ]

pub directories_stay_named : DirectoriesStayNamed
directories_stay_named first history cut raised inodes after flush node is legal kept raise sets kind named had has =
    let now_kept = fsyncs_keep first history cut raised inodes after flush is legal kept raise sets in
    elim (named_or_dead first history raised after is legal now_kept node has kind) [
      | inl root ↦ absurd ((closed_cuts_are_sound first history cut is legal kept.closed).unnamed named.directory named.name (named.row ∙ ap Some root))
      | inr other ↦ elim other [
        | inl still ↦ still
        | inr dead ↦
            absurd
            ((dead_before first history cut raised inodes after flush is legal raise sets node
            (unconcerned first history cut raised inodes after flush is legal raise sets node had has dead) dead).unnamed
            named)
      ]
    ]
