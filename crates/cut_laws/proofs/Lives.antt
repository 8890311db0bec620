-- When a node of a run is made, is alive, and has come to its end.
use Rattle.std.proofs.Common.{◌≡◌, ◌≢◌, ℕ, zero, suc, ◌<◌, ◌≤◌, true, false, List, [], ◌∷◌, ◌++◌, Option, Some, None, IsSome, inl, inr, refl, sym, ap, subst, ◌∙◌, arith}
use Rattle.std.specs.FinMap.{get, remove}
use Rattle.sfs_base.specs.declared.numbers.Kind.{Kind}
use Rattle.tree_laws.specs.Tree.{TreeState, row_of, is_alive, is_directory, next_number}
use Rattle.tree_laws.specs.Effect.{Effect, Stays, Adds, Removes, Moves, Edits, tree_with}
use Rattle.tree_laws.specs.Changes.{RowChange, added, removed, other_side, replaced, changes_by}
use Rattle.tree_laws.specs.Sound.{Above, at_root, below, IsSound}
use Rattle.tree_laws.specs.Fits.{Fits}
use Rattle.tree_laws.proofs.RowFacts.{IsNamed, alive_named, added_cases, removed_cases, some_not_none}
use Rattle.tree_laws.proofs.KeepsNodes.{directory_node, node_cases}
use Rattle.cut_laws.specs.Rules.{IsOneOf}
use Rattle.cut_laws.proofs.Basics.{below_or, is_next, none_below}
use Rattle.sfs_base.proofs.BasicOptions.{some_is_no_none}
use Rattle.sfs_base.proofs.BasicNumbers.{from_both_le}
use Rattle.sfs_base.proofs.BasicTruth.{not_both}
use Rattle.cut_laws.proofs.Own.{sides}
use Rattle.cut_laws.proofs.Nodes.{node_stays}
use Rattle.cut_laws.proofs.Placed.{named_before}
use Rattle.cut_laws.proofs.Runs.{Run, Made, Keeps, Seen}
use Rattle.cut_laws.proofs.Seen.{ahead, behind, first_end}

no_end : {P : Type 0} (x y : RowChange) → x ≡ y → y.ends ≡ true → x.ends ≡ false → P
no_end x y e ends not = absurd (not_both (ap (λ (z : RowChange). z.ends) e ∙ ends) not)

-- a live directory
pub record IsLive (tree : TreeState) (directory : ℕ) : Type 0 where
  pub kind : is_directory tree directory ≡ true
  pub alive : is_alive tree directory ≡ true

-- A directory that a change ends: the change's row names it, it has no rows and no change there, and no row names it any more.
pub record IsEnded (tree next : TreeState) (changes : List RowChange) (x : RowChange) : Type 0 where
  pub row : row_of tree x.directory x.name ≡ Some x.child
  pub kind : is_directory tree x.child ≡ true
  pub others : (z : RowChange) → IsOneOf changes z → z.directory ≢ x.child
  pub gone : IsNamed next.rows x.child → ⊥

module _ (tree : TreeState) (core t : ℕ) (s : IsSound tree) where
  live_row : (d : ℕ) (n : List ℕ) (c : ℕ) → row_of tree d n ≡ Some c → IsLive tree d
  live_row d n c row = let h = s.holds d n c row in record { kind = h.0; alive = h.1 }

  -- what changes is a live directory
  pub live_own : (effect : Effect) (makes : Option Kind) → Fits tree core effect makes → (x : RowChange) → IsOneOf (changes_by tree t effect) x
      → IsLive tree x.directory
  live_own Stays makes f x one = absurd one
  live_own (Edits file edit) makes f x one = absurd one
  live_own (Adds d n c) None f x one =
      elim one [
        | inl e ↦ subst (λ (y : RowChange). IsLive tree y.directory) e (record { kind = f.holder.kind; alive = f.holder.alive })
        | inr none ↦
            absurd none
      ]
  live_own (Adds d n c) (Some kind) f x one =
      elim one [
        | inl e ↦ subst (λ (y : RowChange). IsLive tree y.directory) e (record { kind = f.holder.kind; alive = f.holder.alive })
        | inr none ↦
            absurd none
      ]
  live_own (Removes d n c) None f x one =
      elim one [ inl e ↦ subst (λ (y : RowChange). IsLive tree y.directory) e (live_row d n c f.row) | inr none ↦ absurd none ]
  live_own (Moves p n q m c) None f x one = elim (sides tree t p n q m c x one) [
    | inl e ↦ rw e (live_row p n c f.row)
    | inr e ↦ rw e (record { kind = f.holder.kind; alive = f.holder.alive })
  ]
  live_own (Removes d n c) (Some kind) f x one = absurd f
  live_own (Moves p n q m c) (Some kind) f x one = absurd f

  -- what a change ends has come to its end
  has_ended : (effect : Effect) (makes : Option Kind) → Fits tree core effect makes → (x : RowChange) → IsOneOf (changes_by tree t effect) x → x.ends ≡ true
      → IsEnded tree (tree_with tree core effect makes) (changes_by tree t effect) x
  has_ended Stays makes f x one ends = absurd one
  has_ended (Edits file edit) makes f x one ends = absurd one
  has_ended (Adds d n c) makes f x one ends = elim one [ inl e ↦ no_end (added t d n c None) x e ends refl | inr none ↦ absurd none ]
  has_ended (Removes d n c) (Some kind) f x one ends = absurd f
  has_ended (Moves p n q m c) (Some kind) f x one ends = absurd f
  has_ended (Removes d n c) None f x one ends = elim one [
    | inr none ↦ absurd none
    | inl e ↦
        let kind : is_directory tree c ≡ true = ap (λ (y : RowChange). y.ends) e ∙ ends in
        subst (λ (y : RowChange). IsEnded tree (tree_with tree core (Removes d n c) None) (changes_by tree t (Removes d n c)) y) e (record {
          row = f.row;
          kind = kind;
          others = λ z own same. elim own [
            | inl w ↦ some_not_none (row_of tree c n) c (rw (ap (λ (y : RowChange). y.directory) w ∙ same) at f.row) (f.bare kind n)
            | inr none ↦ absurd none
          ];
          gone = λ named.
              let was = removed_cases tree.rows named.directory d named.name n c named.row in
              let places = s.once named.directory d named.name n c was.1 f.row kind in
              was.0 places.0 places.1;
        })
  ]
  has_ended (Moves p n q m c) None f x one ends =
      elim (row_of tree q m) as (λ o. row_of tree q m ≡ o
      → IsOneOf (replaced tree t p q m o ++ removed t p n c (other_side p q) false ∷ added t q m c (other_side q p) ∷ []) x
      → IsEnded tree (tree_with tree core (Moves p n q m c) None) (changes_by tree t (Moves p n q m c)) x) [
        | None ↦ λ _ h. two h
        | Some there ↦ λ row h. elim h [
          | inr rest ↦ two rest
          | inl e ↦ rw e at (replaces there row (ap (λ (y : RowChange). y.ends) e ∙ ends))
        ]
      ] refl one
    where
      two : IsOneOf (removed t p n c (other_side p q) false ∷ added t q m c (other_side q p) ∷ []) x
          → IsEnded tree (tree_with tree core (Moves p n q m c) None) (changes_by tree t (Moves p n q m c)) x
      two h = elim h [
        | inl e ↦ no_end (removed t p n c (other_side p q) false) x e ends refl
        | inr rest ↦ elim rest [ inl e ↦ no_end (added t q m c (other_side q p)) x e ends refl | inr none ↦ absurd none ]
      ]

      replaces : (there : ℕ) → row_of tree q m ≡ Some there → is_directory tree there ≡ true
          → IsEnded tree (tree_with tree core (Moves p n q m c) None) (changes_by tree t (Moves p n q m c))
          (removed t q m there (other_side q p) (is_directory tree there))
      replaces there row kind = record {
        row = row;
        kind = kind;
        others = λ z own same. elim (sides tree t p n q m c z own) [
          | inl w ↦ some_not_none (row_of tree there n) c (subst (λ (y : ℕ). row_of tree y n ≡ Some c) (sym w ∙ same) f.row) (f.bare there row kind n)
          | inr w ↦ some_not_none (row_of tree there m) there (subst (λ (y : ℕ). row_of tree y m ≡ Some there) (sym w ∙ same) row) (f.bare there row kind m)
        ];
        gone = λ named. elim (added_cases (remove tree.rows (p, n)) named.directory q named.name m c there named.row) [
          | inl new ↦ f.apart (row ∙ ap Some new.2)
          | inr old ↦
              let was = removed_cases tree.rows named.directory p named.name n there old.1 in
              let places = s.once named.directory q named.name m there was.1 row kind in
              old.0 places.0 places.1
        ];
      }

  -- where a directory's row comes from
  pub data CameFrom (effect : Effect) (makes : Option Kind) (h : ℕ) (k : List ℕ) (x : ℕ) : Type 0 where
    before : row_of tree h k ≡ Some x → CameFrom effect makes h k x
    birth : (kind : Kind) → effect ≡ Adds h k x → makes ≡ Some kind → CameFrom effect makes h k x
    move : (p : ℕ) (n : List ℕ) → effect ≡ Moves p n h k x → row_of tree p n ≡ Some x → CameFrom effect makes h k x

  came_from : (effect : Effect) (makes : Option Kind) → Fits tree core effect makes
      → ((d : ℕ) (n : List ℕ) (c : ℕ) → effect ≡ Adds d n c → makes ≡ None → is_directory tree c ≡ false) → (h : ℕ) (k : List ℕ) (x : ℕ)
      → is_directory (tree_with tree core effect makes) x ≡ true → row_of (tree_with tree core effect makes) h k ≡ Some x → CameFrom effect makes h k x
  came_from Stays None f files h k x kind row = before row
  came_from (Edits file edit) None f files h k x kind row = before row
  came_from (Removes d n c) None f files h k x kind row = before (removed_cases tree.rows h d k n x row).1
  came_from (Adds d n c) None f files h k x kind row = elim (added_cases tree.rows h d k n c x row) [
    | inl new ↦ absurd (not_both (rw new.2 at kind) (files d n c refl refl))
    | inr old ↦ before old.1
  ]
  came_from (Adds d n c) (Some mk) f files h k x kind row = elim (added_cases tree.rows h d k n c x row) [
    | inl new ↦ birth mk (ap (λ (y : ℕ). Adds y n c) (sym new.0) ∙ ap (λ (y : List ℕ). Adds h y c) (sym new.1) ∙ ap (Adds h k) (sym new.2)) refl
    | inr old ↦ before old.1
  ]
  came_from (Moves p n q m c) None f files h k x kind row = elim (added_cases (remove tree.rows (p, n)) h q k m c x row) [
    | inl new ↦
        move p n (ap (λ (y : ℕ). Moves p n y m c) (sym new.0) ∙ ap (λ (y : List ℕ). Moves p n h y c) (sym new.1) ∙ ap (Moves p n h k) (sym new.2))
        (f.row ∙ ap Some (sym new.2))
    | inr old ↦ before (removed_cases tree.rows h p k n x old.1).1
  ]
  came_from Stays (Some mk) f files h k x kind row = absurd f
  came_from (Edits file edit) (Some mk) f files h k x kind row = absurd f
  came_from (Removes d n c) (Some mk) f files h k x kind row = absurd f
  came_from (Moves p n q m c) (Some mk) f files h k x kind row = absurd f

  -- the holder of a directory or of one above it is above that directory
  pub holder_above : {node : ℕ} {above : List ℕ} → Above tree node above → is_directory tree node ≡ true → (a holder : ℕ) (name : List ℕ)
      → IsOneOf (node ∷ above) a → row_of tree holder name ≡ Some a → IsOneOf above holder
  holder_above at_root kind a holder name one row = elim one [
    | inl e ↦ absurd (s.unnamed holder name (row ∙ ap Some (sym e)))
    | inr none ↦ absurd none
  ]
  holder_above (below node other other_name above there rest) kind a holder name one row = elim one [
    | inl e ↦ inl (s.once other holder other_name name node there (row ∙ ap Some (sym e)) kind).0
    | inr more ↦ inr (holder_above rest (s.holds other other_name node there).0 a holder name more row)
  ]

-- the number of a node that is made is no node's, and then it is one's
made_fresh : (tree : TreeState) (core : ℕ) (d : ℕ) (n : List ℕ) (x : ℕ) (kind : Kind) → Fits tree core (Adds d n x) (Some kind) → get tree.nodes x ≡ None
made_fresh tree core d n x kind f = f.fresh

pub made_node : (tree : TreeState) (core : ℕ) (d : ℕ) (n : List ℕ) (x : ℕ) (kind : Kind) → Fits tree core (Adds d n x) (Some kind)
    → IsSome (get (tree_with tree core (Adds d n x) (Some kind)).nodes x)
made_node tree core d n x kind f = elim (node_cases tree.nodes (next_number tree core) (record { kind = kind; bytes = [] }) x) [
  | inl here ↦ rw here.1 refl
  | inr other ↦ absurd (other.0 f.number)
]

module _ (r : Run) where
  pub live_at : (t : ℕ) (x : RowChange) → Made r t x → IsLive (r.tree t) x.directory
  live_at t x one = live_own (r.tree t) (r.core t) t (r.sound t) (r.effect t) (r.makes t) (r.fits t) x one

  pub ended_at : (t : ℕ) (x : RowChange) → Made r t x → x.ends ≡ true
      → IsEnded (r.tree t) (tree_with (r.tree t) (r.core t) (r.effect t) (r.makes t)) (changes_by (r.tree t) t (r.effect t)) x
  ended_at t x one ends = has_ended (r.tree t) (r.core t) t (r.sound t) (r.effect t) (r.makes t) (r.fits t) x one ends

  -- a node stays one
  pub later : (u t x : ℕ) → u ≤ t → IsSome (get (r.tree u).nodes x) → IsSome (get (r.tree t).nodes x)
  later u zero x le some = rw (none_below u le) at some
  later u (suc t) x le some = elim (below_or t u) [
    | inl lt ↦ rw (is_next u t le lt) at some
    | inr less ↦ rw (r.next t) (node_stays (r.tree t) (r.core t) (r.effect t) (r.makes t) x (r.fits t) (later u t x less some))
  ]

  -- a making: its number is no node's before, and one's after
  fits_made : (b d : ℕ) (n : List ℕ) (x : ℕ) (kind : Kind) → r.effect b ≡ Adds d n x → r.makes b ≡ Some kind
      → Fits (r.tree b) (r.core b) (Adds d n x) (Some kind)
  fits_made b d n x kind adds makes = rw makes at (rw adds at (r.fits b))

  pub no_node_yet : (b d : ℕ) (n : List ℕ) (x : ℕ) (kind : Kind) → r.effect b ≡ Adds d n x → r.makes b ≡ Some kind → (u : ℕ) → u ≤ b
      → IsSome (get (r.tree u).nodes x) → ⊥
  no_node_yet b d n x kind adds makes u le some =
      some_is_no_none (later u b x le some) (made_fresh (r.tree b) (r.core b) d n x kind (fits_made b d n x kind adds makes))

  pub is_node_now : (b d : ℕ) (n : List ℕ) (x : ℕ) (kind : Kind) → r.effect b ≡ Adds d n x → r.makes b ≡ Some kind → IsSome (get (r.tree (suc b)).nodes x)
  is_node_now b d n x kind adds makes =
      rw (r.next b ∙ ap (λ (f : Effect). tree_with (r.tree b) (r.core b) f (r.makes b)) adds ∙ ap (tree_with (r.tree b) (r.core b) (Adds d n x)) makes)
      (made_node (r.tree b) (r.core b) d n x kind (fits_made b d n x kind adds makes))

  -- a node is made once
  pub made_once : (b d : ℕ) (n : List ℕ) (x : ℕ) (kind : Kind) → r.effect b ≡ Adds d n x → r.makes b ≡ Some kind → (t h : ℕ) (k : List ℕ) (other : Kind)
      → r.effect t ≡ Adds h k x → r.makes t ≡ Some other → b ≡ t
  made_once b d n x kind adds makes t h k other also too = elim (below_or b t) [
    | inl lt ↦ absurd (no_node_yet t h k x other also too (suc b) (omega arith) (is_node_now b d n x kind adds makes))
    | inr le ↦ elim (below_or t b) [
      | inl lt ↦ absurd (no_node_yet b d n x kind adds makes (suc t) (omega arith) (is_node_now t h k x other also too))
      | inr ge ↦ omega arith
    ]
  ]

  -- a directory is made before it changes
  pub born_before : (b d : ℕ) (n : List ℕ) (x : ℕ) (kind : Kind) → r.effect b ≡ Adds d n x → r.makes b ≡ Some kind → (u : ℕ) (own : RowChange) → Made r u own
      → own.directory ≡ x → b < u
  born_before b d n x kind adds makes u own one same = elim (below_or b u) [
    | inl lt ↦ lt
    | inr le ↦ absurd (no_node_yet b d n x kind adds makes u le (directory_node (r.tree u) x (rw same at (live_at u own one).kind)))
  ]

  -- a directory that no row names is named no more
  pub stays_gone : (u x : ℕ) → IsSome (get (r.tree u).nodes x) → (IsNamed (r.tree u).rows x → ⊥) → (t : ℕ) → u ≤ t → is_directory (r.tree t) x ≡ true
      → IsNamed (r.tree t).rows x → ⊥
  stays_gone u x some none zero le kind named = none (rw (none_below u le) named)
  stays_gone u x some none (suc t) le kind named = elim (below_or t u) [
    | inl lt ↦ none (rw (is_next u t le lt) named)
    | inr less ↦
        elim (named_before (r.tree t) (r.core t) (r.sound t) (r.effect t) (r.makes t) (r.fits t) (r.files t) named.directory named.name x
        (sym (ap (λ (tree : TreeState). is_directory tree x) (r.next t)) ∙ kind)
        (sym (ap (λ (tree : TreeState). row_of tree named.directory named.name) (r.next t)) ∙ named.row)) [
          | inl was ↦ stays_gone u x some none t less was.0 was.1
          | inr born ↦ no_node_yet t born.directory born.name x born.kind born.adds born.made u less some
        ]
  ]

  -- a directory that a change ends has own changes only before it
  pub ended_before : (t : ℕ) (x : RowChange) (u : ℕ) (own : RowChange) → Made r t x → x.ends ≡ true → Made r u own → own.directory ≡ x.child → u < t
  ended_before t x u own one ends change same = elim (below_or u t) [
    | inl lt ↦ lt
    | inr le ↦ absurd (elim (below_or t u) [
      | inl lt ↦ elim (alive_named (r.tree u) x.child (rw same at live.alive)) [
        | inl root ↦ (r.sound t).unnamed x.directory x.name (ended.row ∙ ap Some root)
        | inr named ↦ stays_gone (suc t) x.child after gone u (next_below t u lt) (rw same at live.kind) named
      ]
      | inr ge ↦ ended.others own (rw (from_both_le u t le ge) at change) same
    ])
  ]
    where
      live : IsLive (r.tree u) own.directory
      live = live_at u own change

      ended : IsEnded (r.tree t) (tree_with (r.tree t) (r.core t) (r.effect t) (r.makes t)) (changes_by (r.tree t) t (r.effect t)) x
      ended = ended_at t x one ends

      after : IsSome (get (r.tree (suc t)).nodes x.child)
      after = later t (suc t) x.child (omega arith) (directory_node (r.tree t) x.child ended.kind)

      gone : IsNamed (r.tree (suc t)).rows x.child → ⊥
      gone named = ended.gone (rw (r.next t) at named)

      next_below : (a b : ℕ) → a < b → suc a ≤ b
      next_below a b lt = omega arith

  -- a directory that a row at a cut names was made below the cut of its birth place
  pub named_born : (cut : ℕ → ℕ) (s : Seen r cut) → Keeps r cut → (x b d : ℕ) (n : List ℕ) (kind : Kind) → r.effect b ≡ Adds d n x → r.makes b ≡ Some kind
      → ((t : ℕ) → IsSome (get (r.tree t).nodes x) → is_directory (r.tree t) x ≡ true) → (t h : ℕ) (k : List ℕ) → get (s.rows t) (h, k) ≡ Some x → b < cut d
  named_born cut s keeps x b d n kind adds makes dir zero h k row =
      absurd (no_node_yet b d n x kind adds makes 0 (omega arith) ((r.sound 0).node h k x (sym (ahead r cut s 0 h k (omega arith)) ∙ row)))
  named_born cut s keeps x b d n kind adds makes dir (suc t) h k row = elim (below_or t (cut h)) [
    | inr le ↦ named_born cut s keeps x b d n kind adds makes dir t h k (sym (behind r cut s t h k le) ∙ row)
    | inl lt ↦ came lt (λ o m there. named_born cut s keeps x b d n kind adds makes dir t o m there)
  ]
    where
      came : t < cut h → ((o : ℕ) (m : List ℕ) → get (s.rows t) (o, m) ≡ Some x → b < cut d) → b < cut d
      came lt again =
          let now : row_of (r.tree (suc t)) h k ≡ Some x = sym (ahead r cut s (suc t) h k (omega arith)) ∙ row in
          let kind_now = dir (suc t) ((r.sound (suc t)).node h k x now) in
          elim (came_from (r.tree t) (r.core t) t (r.sound t) (r.effect t) (r.makes t) (r.fits t) (r.files t) h k x
          (sym (ap (λ (tree : TreeState). is_directory tree x) (r.next t)) ∙ kind_now)
          (sym (ap (λ (tree : TreeState). row_of tree h k) (r.next t)) ∙ now)) [
            | before was ↦ again h k (ahead r cut s t h k (omega arith) ∙ was)
            | birth other also too ↦ born other also too
            | move p m moves was ↦
                let lp = first_end r cut s keeps t p m h k x moves lt in
                again p m (ahead r cut s t p m (omega arith) ∙ was)
          ]
        where
          born : (other : Kind) → r.effect t ≡ Adds h k x → r.makes t ≡ Some other → b < cut d
          born other also too =
              let e : b ≡ t = made_once b d n x kind adds makes t h k other also too in
              let place : h ≡ d = same (sym also ∙ ap r.effect (sym e) ∙ adds) in
              rw e (rw place at lt)
            where
              same : Adds h k x ≡ Adds d n x → h ≡ d
              same q = cc
