-- Where a directory stands in a tree and at a closed cut: its row is flushed, or is left at the cut, or is gone from not_both.
use Rattle.std.proofs.Common.{◌≡◌, ℕ, zero, suc, ◌<◌, ◌≤◌, true, false, List, Option, Some, None, IsSome, ◌⊎◌, inl, inr, refl, sym, ap, subst, ◌∙◌, arith}
use Rattle.std.specs.FinMap.{get}
use Rattle.sfs_base.specs.declared.numbers.Kind.{Kind}
use Rattle.tree_laws.specs.Tree.{TreeState, row_of, is_alive, is_directory}
use Rattle.tree_laws.specs.Effect.{Effect, Stays, Adds, Removes, Moves, Edits}
use Rattle.tree_laws.specs.Changes.{RowChange, changes_by}
use Rattle.tree_laws.specs.Sound.{IsSound}
use Rattle.tree_laws.specs.Fits.{Fits}
use Rattle.tree_laws.proofs.RowFacts.{IsNamed, alive_named, named_alive}
use Rattle.cut_laws.specs.Rules.{IsOneOf}
use Rattle.cut_laws.proofs.Basics.{below_or}
use Rattle.sfs_base.proofs.BasicOptions.{some_is_no_none}
use Rattle.sfs_base.proofs.BasicTruth.{not_both}
use Rattle.cut_laws.proofs.Own.{sides}
use Rattle.cut_laws.proofs.Placed.{IsBorn, IsMoved, named_before, row_stays}
use Rattle.cut_laws.proofs.Runs.{Run, Made, Keeps, Seen}
use Rattle.cut_laws.proofs.Seen.{IsSettled, ahead, behind, row_added, row_moved, other_end}
use Rattle.cut_laws.proofs.Children.{replaces, moves, of_move, AreNamed, child_named}

-- a number at most a count but not below it is the count
same_stamp : (u t : ℕ) → u < suc t → t ≤ u → t ≡ u
same_stamp u t lt le = omega arith

module _ (tree : TreeState) (core t : ℕ) (s : IsSound tree) where
  -- a change that names a directory is one of the directory that holds it, or of that to which it moves
  names_placed : (effect : Effect) (makes : Option Kind) → Fits tree core effect makes
      → ((d : ℕ) (n : List ℕ) (c : ℕ) → effect ≡ Adds d n c → makes ≡ None → is_directory tree c ≡ false)
      → (d : ℕ) (name : List ℕ) (x : ℕ) → is_directory tree x ≡ true → row_of tree d name ≡ Some x → (y : RowChange) → IsOneOf (changes_by tree t effect) y
      → y.child ≡ x
      → (y.directory ≡ d) ⊎ ((m : IsMoved tree core s effect d name x) × (y.directory ≡ m.to_directory))
  names_placed Stays makes f files d name x kind row y one child = absurd one
  names_placed (Edits file edit) makes f files d name x kind row y one child = absurd one
  names_placed (Adds e k c) None f files d name x kind row y one child = elim one [
    | inl same ↦ absurd (not_both (rw (ap (λ (z : RowChange). z.child) same ∙ child) kind) (files e k c refl refl))
    | inr none ↦ absurd none
  ]
  names_placed (Adds e k c) (Some mk) f files d name x kind row y one child = elim one [
    | inl same ↦ absurd (some_is_no_none (s.node d name x row) (ap (get tree.nodes) (sym (ap (λ (z : RowChange). z.child) same ∙ child)) ∙ f.fresh))
    | inr none ↦ absurd none
  ]
  names_placed (Removes e k c) None f files d name x kind row y one child = elim one [
    | inl same ↦
        inl (sym (ap (λ (z : RowChange). z.directory) same) ∙ (s.once e d k name x (f.row ∙ ap Some (ap (λ (z : RowChange). z.child) same ∙ child)) row kind).0)
    | inr none ↦ absurd none
  ]
  names_placed (Moves p n q m c) None f files d name x kind row y one child = elim (of_move tree t p n q m c y one) [
    | replaces at there ↦ inl (at ∙ (s.once q d m name x (there ∙ ap Some child) row kind).0)
    | moves e ↦
        let moved : c ≡ x = sym e ∙ child in
        let places = s.once p d n name x (f.row ∙ ap Some moved) row kind in
        elim (sides tree t p n q m c y one) [
          | inl at ↦ inl (at ∙ places.0)
          | inr at ↦ inr (
            record {
              to_directory = q;
              to_name = m;
              moves = ap (λ (z : ℕ). Moves z n q m c) places.0 ∙ ap (λ (z : List ℕ). Moves d z q m c) places.1 ∙ ap (Moves d name q m) moved;
            },
            at,
          )
        ]
  ]
  names_placed (Removes e k c) (Some mk) f files d name x kind row y one child = absurd f
  names_placed (Moves p n q m c) (Some mk) f files d name x kind row y one child = absurd f

module _ (r : Run) (cut : ℕ → ℕ) (s : Seen r cut) (keeps : Keeps r cut) (links : AreNamed r) (x : ℕ) (settled : IsSettled r cut s x)
    (kinds : (t : ℕ) → IsSome (get (r.tree t).nodes x) → is_directory (r.tree t) x ≡ true) where
  -- each change below a stamp that names the directory lies below the cut of its own
  abbrev pub AreFlushedTill : ℕ → Type 0
  AreFlushedTill t = (u : ℕ) (y : RowChange) → u < t → Made r u y → y.child ≡ x → u < cut y.directory

  -- its row at the cut is that of the tree, and no other
  pub record IsNow (t : ℕ) : Type 0 where
    pub directory : ℕ
    pub name : List ℕ
    pub row : row_of (r.tree t) directory name ≡ Some x
    pub seen : get (s.rows t) (directory, name) ≡ Some x
    pub only : (e : ℕ) (k : List ℕ) → get (s.rows t) (e, k) ≡ Some x → e ≡ directory
    pub flushed : AreFlushedTill t

  -- no row names it
  pub record IsGone (t : ℕ) : Type 0 where
    pub unnamed : IsNamed (r.tree t).rows x → ⊥
    pub unseen : IsNamed (s.rows t) x → ⊥
    pub flushed : AreFlushedTill t

  -- its row at the cut stays, since the stamp is past the cut of the row's directory
  pub record IsLeft (t : ℕ) : Type 0 where
    pub seen : IsNamed (s.rows t) x
    pub past : cut seen.directory ≤ t

  pub data Place (t : ℕ) : Type 0 where
    now : IsNow t → Place t
    left : IsLeft t → Place t
    gone : IsGone t → Place t

  named_or_not : (t : ℕ) → IsNamed (r.tree t).rows x ⊎ (IsNamed (r.tree t).rows x → ⊥)
  named_or_not t = elim (is_alive (r.tree t) x) as (λ b. is_alive (r.tree t) x ≡ b → IsNamed (r.tree t).rows x ⊎ (IsNamed (r.tree t).rows x → ⊥)) [
    | false ↦ λ e. inr (λ named. not_both (named_alive (r.tree t) x named) e)
    | true ↦ λ e. elim (alive_named (r.tree t) x e) [
      | inl root ↦ inr (λ named. (r.sound t).unnamed named.directory named.name (named.row ∙ ap Some root))
      | inr named ↦ inl named
    ]
  ] refl

  kind_at : (t d : ℕ) (n : List ℕ) → row_of (r.tree t) d n ≡ Some x → is_directory (r.tree t) x ≡ true
  kind_at t d n row = kinds t ((r.sound t).node d n x row)

  first_place : Place 0
  first_place = elim (named_or_not 0) [
    | inl named ↦ now (record {
      directory = named.directory;
      name = named.name;
      row = named.row;
      seen = ahead r cut s 0 named.directory named.name (omega arith) ∙ named.row;
      only =
          λ e k row.
          ((r.sound 0).once e named.directory k named.name x (sym (ahead r cut s 0 e k (omega arith)) ∙ row) named.row
          (kind_at 0 named.directory named.name named.row)).0;
      flushed = λ u y lt. absurd (omega arith);
    })
    | inr none ↦ gone (record {
      unnamed = none;
      unseen =
          λ named. none
          (record { directory = named.directory; name = named.name; row = sym (ahead r cut s 0 named.directory named.name (omega arith)) ∙ named.row });
      flushed = λ u y lt. absurd (omega arith);
    })
  ]

  -- one stamp more is flushed
  flushed_more : (t : ℕ) → AreFlushedTill t → ((y : RowChange) → Made r t y → y.child ≡ x → t < cut y.directory) → AreFlushedTill (suc t)
  flushed_more t was own u y lt one child = elim (below_or u t) [
    | inl less ↦ was u y less one child
    | inr le ↦ subst (λ (k : ℕ). Made r k y → k < cut y.directory) (same_stamp u t lt le) (λ here. own y here child) one
  ]

  -- a row at the cut after a stamp is one of the tree, or was there before
  came_or_was : (t e : ℕ) (k : List ℕ) → get (s.rows (suc t)) (e, k) ≡ Some x
      → (row_of (r.tree (suc t)) e k ≡ Some x) ⊎ ((get (s.rows t) (e, k) ≡ Some x) × (cut e ≤ t))
  came_or_was t e k row = elim (below_or t (cut e)) [
    | inl lt ↦ inl (sym (ahead r cut s (suc t) e k (omega arith)) ∙ row)
    | inr le ↦ inr (sym (behind r cut s t e k le) ∙ row, le)
  ]

  -- no row at the cut that names it stays as the stamp passes
  abbrev NoneStays : ℕ → Type 0
  NoneStays t = (e : ℕ) (k : List ℕ) → get (s.rows t) (e, k) ≡ Some x → cut e ≤ t → ⊥

  -- it stands in a directory where it is placed below the cut
  now_there : (t d : ℕ) (n : List ℕ) → t < cut d → row_of (r.tree (suc t)) d n ≡ Some x → NoneStays t → AreFlushedTill (suc t) → IsNow (suc t)
  now_there t d n lt row none flushed = record {
    directory = d;
    name = n;
    row = row;
    seen = ahead r cut s (suc t) d n (omega arith) ∙ row;
    only = λ e k there. elim (came_or_was t e k there) [
      | inl also ↦ ((r.sound (suc t)).once e d k n x also row (kind_at (suc t) d n row)).0
      | inr was ↦ absurd (none e k was.0 was.1)
    ];
    flushed = flushed;
  }

  gone_there : (t : ℕ) → (IsNamed (r.tree (suc t)).rows x → ⊥) → NoneStays t → AreFlushedTill (suc t) → IsGone (suc t)
  gone_there t unnamed none flushed = record {
    unnamed = unnamed;
    unseen = λ named. elim (came_or_was t named.directory named.name named.row) [
      | inl also ↦ unnamed (record { directory = named.directory; name = named.name; row = also })
      | inr was ↦ none named.directory named.name was.0 was.1
    ];
    flushed = flushed;
  }

  from_gone : (t : ℕ) → IsGone t → Place (suc t)
  from_gone t g = elim (named_or_not (suc t)) [
    | inl named ↦
        elim (named_before (r.tree t) (r.core t) (r.sound t) (r.effect t) (r.makes t) (r.fits t) (r.files t) named.directory named.name x
        (sym (ap (λ (tree : TreeState). is_directory tree x) (r.next t)) ∙ kind_at (suc t) named.directory named.name named.row)
        (sym (ap (λ (tree : TreeState). row_of tree named.directory named.name) (r.next t)) ∙ named.row)) [
          | inl was ↦ absurd (g.unnamed was.1)
          | inr born ↦
              now
              (now_there t born.directory born.name (lt born) (row_added r t born.directory born.name x born.adds) unseen
              (flushed_more t g.flushed (λ y one child. own born y one)))
        ]
    | inr none ↦
        gone
        (gone_there t none unseen
        (flushed_more t g.flushed
        (λ y one child. elim (child_named (r.tree t) (r.core t) t (r.sound t) (r.effect t) (r.makes t) (r.fits t) (links t) y one) [
          | inl named ↦ absurd (g.unnamed (rw child at named))
          | inr born ↦
              absurd
              (none
              (record {
                directory = born.directory;
                name = born.name;
                row = row_added r t born.directory born.name x (born.adds ∙ ap (Adds born.directory born.name) child);
              }))
        ])))
  ]
    where
      unseen : NoneStays t
      unseen e k row le = g.unseen (record { directory = e; name = k; row = row })

      lt : (born : IsBorn (r.tree t) (r.core t) (r.sound t) (r.effect t) (r.makes t) x) → t < cut born.directory
      lt born = settled t born.directory born.name born.kind born.adds born.made

      own : (born : IsBorn (r.tree t) (r.core t) (r.sound t) (r.effect t) (r.makes t) x) → (y : RowChange) → Made r t y → t < cut y.directory
      own born y one = elim (rw born.adds at one) [
        | inl same ↦ subst (λ (z : RowChange). t < cut z.directory) same (lt born)
        | inr nothing ↦ absurd nothing
      ]

  from_now : (t : ℕ) → IsNow t → Place (suc t)
  from_now t p = elim (below_or t (cut p.directory)) [
    | inr le ↦
        left (record { seen = record { directory = p.directory; name = p.name; row = behind r cut s t p.directory p.name le ∙ p.seen }; past = omega arith })
    | inl lt ↦ below lt
  ]
    where
      below : t < cut p.directory → Place (suc t)
      below lt = elim (named_or_not (suc t)) [
        | inr none ↦ gone (gone_there t none other flushed)
        | inl named ↦
            elim (row_stays (r.tree t) (r.core t) (r.sound t) (r.effect t) (r.makes t) (r.fits t) p.directory p.name x kind p.row
            (record {
              directory = named.directory;
              name = named.name;
              row = sym (ap (λ (tree : TreeState). row_of tree named.directory named.name) (r.next t)) ∙ named.row;
            })) [
              | inl stays ↦ now (now_there t p.directory p.name lt (ap (λ (tree : TreeState). row_of tree p.directory p.name) (r.next t) ∙ stays) other flushed)
              | inr moved ↦
                  now
                  (now_there t moved.to_directory moved.to_name (other_end r cut s keeps t p.directory p.name moved.to_directory moved.to_name x moved.moves lt)
                  (row_moved r t p.directory p.name moved.to_directory moved.to_name x moved.moves) other flushed)
            ]
      ]
        where
          kind : is_directory (r.tree t) x ≡ true
          kind = kind_at t p.directory p.name p.row

          other : NoneStays t
          other e k row le = no_less (rw (p.only e k row) at le)
            where
              no_less : cut p.directory ≤ t → ⊥
              no_less more = omega arith

          flushed : AreFlushedTill (suc t)
          flushed =
              flushed_more t p.flushed
              (λ y one child. elim (names_placed (r.tree t) (r.core t) t (r.sound t) (r.effect t) (r.makes t) (r.fits t)
              (r.files t) p.directory p.name x kind p.row y one child) [
                | inl at ↦ rw at lt
                | inr to ↦ rw to.1 (other_end r cut s keeps t p.directory p.name to.0.to_directory to.0.to_name x to.0.moves lt)
              ])

  -- at each stamp the directory has its place
  pub place_at : (t : ℕ) → Place t
  place_at zero = first_place
  place_at (suc t) = elim (place_at t) [
    | now p ↦ from_now t p
    | gone g ↦ from_gone t g
    | left l ↦
        left
        (record {
          seen = record {
            directory = l.seen.directory;
            name = l.seen.name;
            row = behind r cut s t l.seen.directory l.seen.name l.past ∙ l.seen.row;
          };
          past = let le = l.past in
              omega arith;
        })
  ]
