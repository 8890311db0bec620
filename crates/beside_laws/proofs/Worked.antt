-- Two fsyncs side by side meet what is asked of commits beside commits.
use Rattle.std.proofs.Common.{◌≡◌, ◌≢◌, ◌⊎◌, ℕ, ◌<◌, ◌≤◌, true, false, cond, ◌||◌, max, nat_eq, List, [], ◌∷◌, length, None, is_some, inl, inr, refl, sym, ap, subst, ◌∙◌, arith}
use Rattle.std.specs.FinMap.{get, empty}
use borrow.Author.Tests.{eqb-true}
use Rattle.sfs_base.proofs.BasicNumbers.{same_number, not_same}
use Rattle.sfs_base.proofs.BasicOptions.{none_some}
use Rattle.sfs_base.proofs.BasicTruth.{not_both, true_not_false, false_not_true, or_true}
use Rattle.tree_laws.specs.declared.history.Entry.{Entry}
use Rattle.tree_laws.specs.Changes.{RowChange}
use Rattle.tree_laws.specs.Tree.{TreeState}
use Rattle.cut_laws.specs.Closure.{every_entry, IsRaised, IsNamedIn, none}
use Rattle.cut_laws.specs.Cut.{Cut, cut_of, rows_at_cut}
use Rattle.cut_laws.specs.Rules.{Birth, IsOneOf, IsChange}
use Rattle.cut_laws.proofs.WholeHistory.{none_above}
use Rattle.look_laws.specs.Look.{Look, Noted, Born, Gathers, itself, other_side, ended, ancestor, birth_place, Touches, member, named}
use Rattle.look_laws.specs.Beside.{IsLiftedBy}
use Rattle.beside_laws.specs.Box.{BoxState, NO_COMMIT, BoxGoesOn, here, reserves, IsUnmoved, with_open, KnewLast}
use Rattle.beside_laws.specs.Box as box
use Rattle.beside_laws.specs.Commits.{CoreCommit, HasNotes, IsByItsLook, Share}
use Rattle.beside_laws.specs.Laws.{KnowsRun, FindsAlways, HasFound, AreReady}
use Rattle.beside_laws.specs.Progress.{Progress, Standing, KnownAtReserving, nobody}
use Rattle.beside_laws.specs.Worked.{MadeIn, ONE, TWO, making, run_begun, HasMadeFile, TwoMakes, commit_of_making, first_of_two, second_of_two, TwoAreOpen, TwoMayBeOpen}
use Rattle.beside_laws.proofs.Finding.{found_once}
use Rattle.cut_laws.proofs.RaisedCut.{raised_cut}
use Rattle.beside_laws.proofs.Raising.{raised_or, of_the_whole}
use Rattle.beside_laws.proofs.Ruled.{ruled_know}

abbrev birth_as : ℕ → ℕ → ℕ → Birth
birth_as stamp directory node = record { stamp = stamp; directory = directory; node = node }

-- no stamp of the cut before any commit is above 0
blank : (node : ℕ) → cut_of empty node ≡ 0
blank node = let low = none_above 0 node in omega arith

module _ (first : TreeState) (history : List Entry) (name other_name : List ℕ) (two : TwoMakes first history name other_name) where
  abbrev run : Progress
  run = run_begun first history

  begun : Standing run
  begun = record {
    flushed = none;
    left = λ node. nobody (λ other never. absurd never) (blank node) refl;
    passed = λ change one within. let same = blank change.directory in absurd (omega arith);
    members = λ commit node never. absurd never;
    numbered = λ one other never. absurd never;
  }

  abbrev NOTED : List Noted
  NOTED = record { change = making (ONE name); above = [] } ∷ record { change = making (TWO other_name); above = [] } ∷ []

  abbrev BORN : List Born
  BORN = record { node = 3; directory = 1 } ∷ record { node = 4; directory = 2 } ∷ []

  -- what is noted are the two changes
  noted_change : (noted : Noted) → IsOneOf NOTED noted → IsChange first history noted.change
  noted_change noted one = subst (λ l. IsOneOf l noted.change) (sym two.changes) (elim one [
    | inl same ↦ inl (ap (λ (n : Noted). n.change) same)
    | inr rest ↦ elim rest [ inl same ↦ inr (inl (ap (λ (n : Noted). n.change) same)) | inr never ↦ absurd never ]
  ])

  change_noted : (change : RowChange) → IsChange first history change → (noted : Noted) × IsOneOf NOTED noted × (noted.change ≡ change)
  change_noted change one = elim (subst (λ l. IsOneOf l change) two.changes one) [
    | inl same ↦ (record { change = making (ONE name); above = [] }, inl refl, same)
    | inr rest ↦ elim rest [
      | inl same ↦ (record { change = making (TWO other_name); above = [] }, inr (inl refl), same)
      | inr never ↦ absurd never
    ]
  ]

  -- What is so of one of the two among what is noted.
  record Side (made : MadeIn) : Type 0 where
    own : IsOneOf NOTED (record { change = making made; above = [] })
    same : (noted : Noted) → IsOneOf NOTED noted → noted.change.directory ≡ made.directory → noted.change ≡ making made
    born : (birth : Born) → IsOneOf BORN birth → birth.node ≡ made.directory → ⊥
    apart : made.file ≢ made.directory
    before : made.stamp < made.fsync

  plain : (noted : Noted) → IsOneOf NOTED noted → (noted.above ≡ []) × (noted.change.other ≡ None) × (noted.change.ends ≡ false)
  plain noted one = elim one [
    | inl same ↦ subst (λ (n : Noted). (n.above ≡ []) × (n.change.other ≡ None) × (n.change.ends ≡ false)) same (refl, refl, refl)
    | inr rest ↦ elim rest [
      | inl same ↦ subst (λ (n : Noted). (n.above ≡ []) × (n.change.other ≡ None) × (n.change.ends ≡ false)) same (refl, refl, refl)
      | inr never ↦ absurd never
    ]
  ]

  module _ (number : ℕ) (made : MadeIn) (side : Side made) (has : HasMadeFile first history made) where
    abbrev commit : CoreCommit
    commit = commit_of_making name other_name number made

    abbrev look : Look
    look = commit.look

    gathers_own : {node : ℕ} → Gathers look node → node ≡ made.directory
    gathers_own itself = refl
    gathers_own (other_side noted other from sight two_sides) =
        absurd (none_some (sym (plain noted sight.is_noted).1 ∙ two_sides))
    gathers_own (ended noted from sight ends) = absurd (not_both ends (plain noted sight.is_noted).2)
    gathers_own (ancestor noted node from sight among) =
        absurd (subst (λ (l : List ℕ). IsOneOf l node) (plain noted sight.is_noted).0 among)
    gathers_own (birth_place birth from one lacks sees) = absurd (side.born birth one (gathers_own from))

    touches_own : (node : ℕ) → Touches look node → (node ≡ made.directory) ⊎ (node ≡ made.file)
    touches_own node (member _ gathered) = inl (gathers_own gathered)
    touches_own _ (named noted from sight) =
        inr (ap (λ (c : RowChange). c.child) (side.same noted sight.is_noted (gathers_own from)))

    directory_touched : (node : ℕ) → node ≡ made.directory → Touches look node
    directory_touched node same = subst (Touches look) (sym same) (member made.directory itself)

    file_touched : (node : ℕ) → node ≡ made.file → Touches look node
    file_touched node same =
        subst (Touches look) (sym same)
        (named (record { change = making made; above = [] }) itself (record { is_noted = side.own; from = omega arith; below = side.before }))

    -- what it holds
    held_or : (node : ℕ) → commit.holds node ≡ true → (node ≡ made.directory) ⊎ (node ≡ made.file)
    held_or node held =
        elim (nat_eq node made.directory) as (λ b. nat_eq node made.directory ≡ b → (b || nat_eq node made.file) ≡ true
        → (node ≡ made.directory) ⊎ (node ≡ made.file)) [
          | true ↦ λ same _. inl (eqb-true _ _ same)
          | false ↦ λ _ file. inr (eqb-true _ _ file)
        ] refl held

    holds_directory : (node : ℕ) → node ≡ made.directory → commit.holds node ≡ true
    holds_directory node same = ap (λ b. b || nat_eq node made.file) (ap (λ n. nat_eq n made.directory) same ∙ same_number made.directory)

    holds_file : (node : ℕ) → node ≡ made.file → commit.holds node ≡ true
    holds_file node same =
        ap (λ b. nat_eq node made.directory || b) (ap (λ n. nat_eq n made.file) same ∙ same_number made.file) ∙ or_true (nat_eq node made.directory)

    no_inode : (node : ℕ) → node ≡ made.file → look.inodes node ≡ false
    no_inode node same = ap (λ n. nat_eq n made.directory) same ∙ not_same made.file made.directory side.apart

    inode_there : (node : ℕ) → node ≡ made.directory → look.inodes node ≡ true
    inode_there node same = ap (λ n. nat_eq n made.directory) same ∙ same_number made.directory

    by_look : IsByItsLook commit
    by_look = record {
      members = λ node. (
        λ one. elim one [ inl same ↦ subst (Gathers look) same itself | inr never ↦ absurd never ],
        λ gathered. inl (sym (gathers_own gathered)),
      );
      holds = λ node. (
        λ held. elim (held_or node held) [ inl same ↦ directory_touched node same | inr same ↦ file_touched node same ],
        λ touched. elim (touches_own node touched) [ inl same ↦ holds_directory node same | inr same ↦ holds_file node same ],
      );
      makes = record {
        lifts = record {
          members = λ node gathered.
              ap (λ b. cond b made.fsync 0) (inode_there node (gathers_own gathered)) ∙ (let e : made.fsync ≡ max 0 made.fsync = omega arith in e);
          others = λ node. elim (nat_eq node made.directory) as (λ b. nat_eq node made.directory ≡ b → Gathers look node ⊎ (cond b made.fsync 0 ≡ 0)) [
            | true ↦ λ same. inl (subst (Gathers look) (sym (eqb-true _ _ same)) itself)
            | false ↦ λ _. inr refl
          ] refl;
        };
        moved = record {
          enters = λ node. (
            λ gets. let same = eqb-true _ _ gets in (no_inode node same, file_touched node same, inl refl),
            λ all. elim (touches_own node all.1) [
              | inl same ↦ absurd (not_both (inode_there node same) all.0)
              | inr same ↦ ap (λ n. nat_eq n made.file) same ∙ same_number made.file
            ],
          );
          leaves = λ node. (λ never. absurd (false_not_true never), λ all. absurd (true_not_false all.2.unnamed));
        };
      };
      blank = λ node free. refl;
    }

    notes : HasNotes first history commit
    notes = record {
      early = λ stamp less. refl;
      stamp = omega arith;
      live = has.live;
      truths = λ noted one. record {
        is_change = noted_change noted one;
        counted = refl;
        told = λ above move way. absurd (move.moves.other (plain noted one).1);
        moves = λ node among. absurd (subst (λ (l : List ℕ). IsOneOf l node) (plain noted one).0 among);
        stands = λ node among. absurd (subst (λ (l : List ℕ). IsOneOf l node) (plain noted one).0 among);
      };
      unmarked = λ noted one. omega arith;
      noted = λ change is_change of_held counted kept. change_noted change is_change;
      born = λ node directory touched. (
        λ one. elim one [
          | inl same ↦ (0, subst (λ l. IsOneOf l (birth_as 0 directory node)) (sym two.births) (inl (birth_is 0 3 1 directory node same)))
          | inr rest ↦ elim rest [
            | inl same ↦ (1, subst (λ l. IsOneOf l (birth_as 1 directory node)) (sym two.births) (inr (inl (birth_is 1 4 2 directory node same))))
            | inr never ↦ absurd never
          ]
        ],
        λ birth. elim (subst (λ l. IsOneOf l (birth_as birth.0 directory node)) two.births birth.1) [
          | inl same ↦ inl (born_is same)
          | inr rest ↦ elim rest [ inl same ↦ inr (inl (born_is same)) | inr never ↦ absurd never ]
        ],
      );
      own_marks = λ stamp directory held. omega arith;
    }
      where
        birth_is : (stamp n d directory node : ℕ) → (let b : Born = record { node = n; directory = d } in b) ≡ record { node = node; directory = directory }
            → (let b : Birth = record { stamp = stamp; directory = d; node = n } in b) ≡ record { stamp = stamp; directory = directory; node = node }
        birth_is stamp n d directory node same = ap (λ (b : Born). birth_as stamp b.directory b.node) same

        born_is : {one other : Birth} → one ≡ other
            → (let b : Born = record { node = one.node; directory = one.directory } in b) ≡ record { node = other.node; directory = other.directory }
        born_is same = ap (λ (b : Birth). (let x : Born = record { node = b.node; directory = b.directory } in x)) same

    known : KnownAtReserving run commit
    known = record {
      made = by_look;
      notes = notes;
      ruled = record {
        earlier = λ other never. absurd never;
        trimmed = λ other never. absurd never;
        reached = λ change one less. absurd (omega arith);
      };
      fresh = λ node held. nobody (λ other never. absurd never) refl (elim (held_or node held) [
        | inl same ↦ inode_there node same ∙ sym (ap (λ n. is_some (get first.nodes n)) same ∙ has.there)
        | inr same ↦ no_inode node same ∙ sym (ap (λ n. is_some (get first.nodes n)) same ∙ has.new)
      ]);
    }

    knows : KnowsRun run commit
    knows = ruled_know run commit begun known

    raised : Cut
    raised = raised_cut empty (made.directory ∷ []) made.fsync

    lifted_by : IsLiftedBy look empty raised
    unfolding raised
    lifted_by = record {
      gathered = λ node gathered. elim (raised_or empty (made.directory ∷ []) made.fsync node) [
        | inl one ↦ one.1
        | inr not ↦ absurd (not.0 (inl (sym (gathers_own gathered))))
      ];
      others = λ node. elim (raised_or empty (made.directory ∷ []) made.fsync node) [
        | inr not ↦ inr not.1
        | inl one ↦ elim one.0 [ inl same ↦ inl (subst (Gathers look) same itself) | inr never ↦ absurd never ]
      ];
    }

    raise : IsRaised first history every_entry empty run.inodes (record { node = made.directory; stamp = made.fsync }) raised
    raise = (of_the_whole run two.run.sound two.run.legal begun commit knows).raises raised lifted_by

    found : HasFound run commit
    found = record {
      raised = raised;
      raises = raise;
      finds = record {
        named = λ node touched. (
          λ _. elim (touches_own node touched) [
            | inl same ↦ subst (IsNamedIn (rows_at_cut first history raised)) (sym same) (has.stays raised)
            | inr same ↦
                let lifted = lifted_by.gathered made.directory itself in
                let less = side.before in
                subst (IsNamedIn (rows_at_cut first history raised)) (sym same) (has.placed raised (omega arith))
          ],
          λ _. refl,
        );
        directory = sym has.directory;
      };
    }

    finds : FindsAlways first history commit
    finds = found_once run commit two.run.sound two.run.legal begun knows found

  first_side : Side (ONE name)
  first_side = record {
    own = inl refl;
    same = λ noted one same. elim one [
      | inl is ↦ ap (λ (n : Noted). n.change) (sym is)
      | inr rest ↦ elim rest [
        | inl is ↦ let other = ap (λ (n : Noted). n.change.directory) is in absurd (omega arith)
        | inr never ↦ absurd never
      ]
    ];
    born = λ birth one same. elim one [
      | inl is ↦ let other = ap (λ (b : Born). b.node) is in omega arith
      | inr rest ↦ elim rest [ inl is ↦ let other = ap (λ (b : Born). b.node) is in omega arith | inr never ↦ never ]
    ];
    apart = λ same. omega arith;
    before = omega arith;
  }

  second_side : Side (TWO other_name)
  second_side = record {
    own = inr (inl refl);
    same = λ noted one same. elim one [
      | inl is ↦ let other = ap (λ (n : Noted). n.change.directory) is in absurd (omega arith)
      | inr rest ↦ elim rest [ inl is ↦ ap (λ (n : Noted). n.change) (sym is) | inr never ↦ absurd never ]
    ];
    born = λ birth one same. elim one [
      | inl is ↦ let other = ap (λ (b : Born). b.node) is in omega arith
      | inr rest ↦ elim rest [ inl is ↦ let other = ap (λ (b : Born). b.node) is in omega arith | inr never ↦ never ]
    ];
    apart = λ same. omega arith;
    before = omega arith;
  }

  abbrev one_commit : CoreCommit
  one_commit = first_of_two name other_name

  abbrev two_commit : CoreCommit
  two_commit = second_of_two name other_name

  -- the two hold no node in common
  none_shared : Share one_commit two_commit → ⊥
  none_shared share = elim (held_or 1 (ONE name) first_side two.one share.node share.one) [
    | inl of_one ↦ elim (held_or 2 (TWO other_name) second_side two.two share.node share.two) [
      | inl there ↦ omega arith
      | inr there ↦ omega arith
    ]
    | inr of_one ↦ elim (held_or 2 (TWO other_name) second_side two.two share.node share.two) [
      | inl there ↦ omega arith
      | inr there ↦ omega arith
    ]
  ]

  none_back : Share two_commit one_commit → ⊥
  none_back share = none_shared (record { node = share.node; one = share.two; two = share.one })

  abbrev both : List CoreCommit
  both = one_commit ∷ two_commit ∷ []

  -- a fact of the two is one of each of them
  of_both : (P : CoreCommit → Type 0) → P one_commit → P two_commit → (third : CoreCommit) → IsOneOf both third → P third
  of_both P one other third among = elim among [
    | inl same ↦ subst P same one
    | inr rest ↦ elim rest [ inl same ↦ subst P same other | inr never ↦ absurd never ]
  ]

  ready : AreReady run both
  ready = record {
    made = of_both IsByItsLook (by_look 1 (ONE name) first_side two.one) (by_look 2 (TWO other_name) second_side two.two);
    knows = of_both (KnowsRun run) (knows 1 (ONE name) first_side two.one) (knows 2 (TWO other_name) second_side two.two);
    finds = of_both (FindsAlways first history) (finds 1 (ONE name) first_side two.one) (finds 2 (TWO other_name) second_side two.two);
    later = λ commit one. record { other_number = λ other never. absurd never; greater = λ other never. absurd never };
    apart = λ commit other among also differ share. elim among [
      | inl same ↦ elim also [
        | inl again ↦ differ (ap (λ (c : CoreCommit). c.number) (sym same ∙ again))
        | inr rest ↦ elim rest [
          | inl again ↦ none_shared (subst (λ c. Share c two_commit) (sym same) (subst (Share commit) (sym again) share))
          | inr never ↦ never
        ]
      ]
      | inr tail ↦ elim tail [
        | inr never ↦ never
        | inl same ↦ elim also [
          | inl again ↦ none_back (subst (λ c. Share c one_commit) (sym same) (subst (Share commit) (sym again) share))
          | inr rest ↦ elim rest [
            | inl again ↦ differ (ap (λ (c : CoreCommit). c.number) (sym same ∙ again))
            | inr never ↦ never
          ]
        ]
      ]
    ];
    once = (
      λ other one. elim one [
        | inl same ↦ λ number. let is = ap (λ (c : CoreCommit). c.number) same in omega arith
        | inr never ↦ absurd never
      ],
      ((λ other never. absurd never), tt),
    );
  }

  abbrev first_open : BoxState
  first_open = with_open NO_COMMIT one_commit

  box_goes : BoxGoesOn NO_COMMIT (record { done = []; opens = both; number = 2 })
  box_goes =
      reserves first_open two_commit
      (reserves NO_COMMIT one_commit here (omega arith)
      (record { none_open = λ other never. absurd never; knew = λ node held. box.nobody (λ other never. absurd never) refl }))
      (omega arith)
      (record {
        none_open = λ other one share. elim one [ inl same ↦ none_back (subst (Share two_commit) (sym same) share) | inr never ↦ never ];
        knew = λ node held. box.nobody (λ other never. absurd never) refl;
      })

  pub are_open : TwoAreOpen first history name other_name
  are_open = record {
    one = known 1 (ONE name) first_side two.one;
    two = known 2 (TWO other_name) second_side two.two;
    box = box_goes;
    midst = record {
      standing = begun;
      ready = ready;
      low = of_both (λ c. c.look.flush.stamp ≤ length history) (let long = two.long in omega arith) two.long;
      used_by = λ number never. absurd never;
    };
  }

pub two_may_be_open : TwoMayBeOpen
two_may_be_open first history name other_name two = are_open first history name other_name two
