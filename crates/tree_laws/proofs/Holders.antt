-- The holder of a directory stays while it is alive, but where a directory moves to another one.
use Rattle.std.proofs.Common.{cond, ◌∷◌, ◌<◌, length, ◌≡◌, ℕ, Bool, true, false, not, ◌&&◌, List, [], Option, Some, None, IsSome, ◌⊎◌, inl, inr, refl, sym, ap, subst, ◌∙◌, nat_eq}
use borrow.Author.Tests.{eqb-true, eq-eqb}
use Rattle.std.specs.Option.{option_map_or}
use Rattle.std.specs.FinMap.{get, remove}
use Rattle.std.specs.Prelude.{is_some, ◌||◌}
use Rattle.sfs_base.specs.declared.numbers.Kind.{Kind}
use Rattle.tree_laws.specs.declared.call.Call.{Call}
use Rattle.tree_laws.specs.declared.call.Call.TheVariants as call
use Rattle.tree_laws.specs.declared.reply.Code.{Code}
use Rattle.tree_laws.specs.Tree.{TreeState, row_of, is_alive, is_directory, holder_of, next_number}
use Rattle.tree_laws.specs.Effect.{Effect, Stays, Adds, Removes, Moves, Edits, Puts, Resizes, tree_with}
use Rattle.tree_laws.specs.Verdict.{verdict, tree_after_call, or_else, done, link_fault, make_fault, make_node}
use Rattle.tree_laws.specs.Sound.{Above, at_root, below, IsSound}
use Rattle.tree_laws.specs.Fits.{Fits}
use Rattle.tree_laws.specs.Footprints.{own_effect, moves_directory_between}
use Rattle.tree_laws.specs.Lock.{moves_between, needs_lock, AreHolders, EndsAtRoot}
use Rattle.tree_laws.specs.Laws.{IsSoundTree, LocksAreSeen, StaysHeld, HoldersStay, WaysStay, DeadStayDead, ReadHoldersStay, ReadHoldersAreAbove, StandingIsAlive}
use Rattle.sfs_base.proofs.BasicOptions.{none_some, some_same}
use Rattle.tree_laws.proofs.RowFacts.{IsNamed, alive_named, named_alive, named_or_none, holder_found, added_cases, removed_cases}
use Rattle.tree_laws.proofs.Fitting.{not_so}
use Rattle.tree_laws.proofs.KeepsNodes.{directory_node, KeepKinds-new, KeepKinds-edit}
use Rattle.tree_laws.proofs.Walks.{holder_is, walk_is}
use Rattle.tree_laws.proofs.OwnEffects.{of_one, of_child, of_what_it_does}
use Rattle.tree_laws.proofs.SoundTrees.{calls_keep_sound, calls_fit}
use Rattle.sfs_base.proofs.BasicTruth.{not_both, and_false, or_true, or_false, and_true}

-- a row of a directory that names a node
abbrev Names : TreeState → ℕ → ℕ → Type 0
Names tree holder node = (name : List ℕ) × (row_of tree holder name ≡ Some node)

-- the kind of a node stays
pub directory_stays : (tree : TreeState) (core : ℕ) (effect : Effect) (makes : Option Kind) (node : ℕ) → Fits tree core effect makes
    → IsSome (get tree.nodes node) → is_directory (tree_with tree core effect makes) node ≡ is_directory tree node
directory_stays tree core Stays None node f some = refl
directory_stays tree core (Adds d n c) None node f some = refl
directory_stays tree core (Removes d n c) None node f some = refl
directory_stays tree core (Moves p n q m c) None node f some = refl
directory_stays tree core (Edits file edit) None node f some = (KeepKinds-edit tree file edit tree.made).kind node some
directory_stays tree core Stays (Some kind) node f some = absurd f
directory_stays tree core (Removes d n c) (Some kind) node f some = absurd f
directory_stays tree core (Moves p n q m c) (Some kind) node f some = absurd f
directory_stays tree core (Edits file edit) (Some kind) node f some = absurd f
directory_stays tree core (Adds d n c) (Some kind) node f some =
    (KeepKinds-new tree _ (record { kind = kind; bytes = [] }) tree.made (ap (get tree.nodes) (sym f.number) ∙ f.fresh)).kind node some

-- an effect by which no directory comes to another one
abbrev pub StaysWithin : TreeState → Effect → Type 0
StaysWithin tree (Moves p n q m c) = (p ≡ q) ⊎ (is_directory tree c ≡ false)
StaysWithin tree _ = Unit {0}

-- an effect by which a row comes names no directory that was there
abbrev BringsNone : TreeState → Effect → Option Kind → Type 0
BringsNone tree (Adds d n c) None = is_directory tree c ≡ false
BringsNone tree (Adds d n c) (Some kind) = Unit {0}
BringsNone tree _ makes = Unit {0}

brings_made : (tree : TreeState) (effect : Effect) (kind : Kind) → BringsNone tree effect (Some kind)
brings_made tree Stays kind = tt
brings_made tree (Adds d n c) kind = tt
brings_made tree (Removes d n c) kind = tt
brings_made tree (Moves p n q m c) kind = tt
brings_made tree (Edits file edit) kind = tt

-- the same whatever is made
abbrev Brings : TreeState → Effect → Type 0
Brings tree effect = (makes : Option Kind) → BringsNone tree effect makes

linked : (tree : TreeState) (file directory : ℕ) (name : List ℕ) (fault : Option Code) → fault ≡ link_fault tree file directory name
    → BringsNone tree (or_else fault (done (Adds directory name file))).effect (or_else fault (done (Adds directory name file))).makes
linked tree file directory name (Some code) is = tt
linked tree file directory name None is = (not_so _ _ _ (not_so _ _ _ (sym is)).1).0

made_node : (tree : TreeState) (core : ℕ) (directory : ℕ) (name : List ℕ) (kind : Kind) (fault : Option Code)
    → BringsNone tree (or_else fault (make_node tree core directory name kind)).effect (or_else fault (make_node tree core directory name kind)).makes
made_node tree core directory name kind (Some code) = tt
made_node tree core directory name kind None = tt

-- no call names a directory that was there by a row that only comes
brings_none : (tree : TreeState) (core : ℕ) (c : Call) → BringsNone tree (verdict tree core c).effect (verdict tree core c).makes
brings_none tree core (call.Link f d n) = linked tree f.0 d.0 n (link_fault tree f.0 d.0 n) refl
brings_none tree core (call.Make d n k) = made_node tree core d.0 n k (make_fault tree core d.0 n)
brings_none tree core (call.Look d n) =
    of_what_it_does (Brings tree) tree core (call.Look d n) (λ _. tt) (λ effect own. absurd (let never : None ≡ Some effect = own in cc))
    (verdict tree core (call.Look d n)).makes
brings_none tree core (call.Read f at count) =
    of_what_it_does (Brings tree) tree core (call.Read f at count) (λ _. tt) (λ effect own. absurd (let never : None ≡ Some effect = own in cc))
    (verdict tree core (call.Read f at count)).makes
brings_none tree core (call.Stat d) =
    of_what_it_does (Brings tree) tree core (call.Stat d) (λ _. tt) (λ effect own. absurd (let never : None ≡ Some effect = own in cc))
    (verdict tree core (call.Stat d)).makes
brings_none tree core (call.List d) =
    of_what_it_does (Brings tree) tree core (call.List d) (λ _. tt) (λ effect own. absurd (let never : None ≡ Some effect = own in cc))
    (verdict tree core (call.List d)).makes
brings_none tree core (call.Fsync d) =
    of_what_it_does (Brings tree) tree core (call.Fsync d) (λ _. tt) (λ effect own. absurd (let never : None ≡ Some effect = own in cc))
    (verdict tree core (call.Fsync d)).makes
brings_none tree core (call.Write f at bytes) =
    of_what_it_does (Brings tree) tree core (call.Write f at bytes) (λ _. tt)
    (λ effect own. of_one (Brings tree) (Edits f.0 (Puts at bytes)) effect own (λ _. tt)) (verdict tree core (call.Write f at bytes)).makes
brings_none tree core (call.Trunc f size) =
    of_what_it_does (Brings tree) tree core (call.Trunc f size) (λ _. tt) (λ effect own. of_one (Brings tree) (Edits f.0 (Resizes size)) effect own (λ _. tt))
    (verdict tree core (call.Trunc f size)).makes
brings_none tree core (call.Unlink d n) =
    of_what_it_does (Brings tree) tree core (call.Unlink d n) (λ _. tt)
    (λ effect own. of_child (Brings tree) (Removes d.0 n) (row_of tree d.0 n) effect own (λ x e _. tt)) (verdict tree core (call.Unlink d n)).makes
brings_none tree core (call.Rmdir d n) =
    of_what_it_does (Brings tree) tree core (call.Rmdir d n) (λ _. tt)
    (λ effect own. of_child (Brings tree) (Removes d.0 n) (row_of tree d.0 n) effect own (λ x e _. tt)) (verdict tree core (call.Rmdir d n)).makes
brings_none tree core (call.Rename p n q m) =
    of_what_it_does (Brings tree) tree core (call.Rename p n q m) (λ _. tt)
    (λ effect own. of_child (Brings tree) (Moves p.0 n q.0 m) (row_of tree p.0 n) effect own (λ x e _. tt)) (verdict tree core (call.Rename p n q m)).makes

module _ (tree : TreeState) (core : ℕ) (node : ℕ) (kind : is_directory tree node ≡ true) where
  not_file : (c : ℕ) → node ≡ c → is_directory tree c ≡ false → ⊥
  not_file c same file = not_both (subst (λ (z : ℕ). is_directory tree z ≡ true) same kind) file

  not_new : (c : ℕ) → node ≡ c → get tree.nodes c ≡ None → ⊥
  not_new c same fresh = never (directory_node tree node kind) (ap (get tree.nodes) same ∙ fresh)
    where
      never : {o : Option Rattle.tree_laws.specs.Tree.Node} → IsSome o → o ≡ None → ⊥
      never some none = cc

  -- who names it after a call named something before: the same directory, or, where it moved to another one, the one that it left
  named_before : (effect : Effect) (makes : Option Kind) → Fits tree core effect makes → BringsNone tree effect makes → (h : ℕ)
      → Names (tree_with tree core effect makes) h node → (b : ℕ) × Names tree b node × (StaysWithin tree effect → b ≡ h)
  named_before Stays makes f none h name = (h, name, λ w. refl)
  named_before (Edits file edit) makes f none h name = (h, name, λ w. refl)
  named_before (Adds d n c) None f none h name = elim (added_cases tree.rows h d name.0 n c node name.1) [
    | inl new ↦ absurd (not_file c new.2 none)
    | inr old ↦ (h, (name.0, old.1), λ w. refl)
  ]
  named_before (Adds d n c) (Some made) f none h name = elim (added_cases tree.rows h d name.0 n c node name.1) [
    | inl new ↦ absurd (not_new c new.2 f.fresh)
    | inr old ↦ (h, (name.0, old.1), λ w. refl)
  ]
  named_before (Removes d n c) (Some made) f none h name = absurd f
  named_before (Moves p n q m c) (Some made) f none h name = absurd f
  named_before (Removes d n c) None f none h name = (h, (name.0, (removed_cases tree.rows h d name.0 n node name.1).1), λ w. refl)
  named_before (Moves p n q m c) None f none h name = elim (added_cases (remove tree.rows (p, n)) h q name.0 m c node name.1) [
    | inl new ↦ (p, (n, f.row ∙ ap Some (sym new.2)), λ w. elim w [ inl within ↦ within ∙ sym new.0 | inr file ↦ absurd (not_file c new.2 file) ])
    | inr old ↦ (h, (name.0, (removed_cases tree.rows h p name.0 n node old.1).1), λ w. refl)
  ]

within_or_file : (tree : TreeState) (p q : ℕ) (child : Option ℕ) → (not (nat_eq p q) && option_map_or (is_directory tree) child false) ≡ false → (x : ℕ)
    → child ≡ Some x → (p ≡ q) ⊎ (is_directory tree x ≡ false)
within_or_file tree p q child stays x is =
    elim (nat_eq p q) as (λ b. nat_eq p q ≡ b → (not b && option_map_or (is_directory tree) child false) ≡ false → (p ≡ q) ⊎ (is_directory tree x ≡ false)) [
      | true ↦ λ t e. inl (eqb-true _ _ t)
      | false ↦ λ t e. inr (sym (ap (λ o. option_map_or (is_directory tree) o false) is) ∙ e)
    ] refl stays

-- a call that moves no directory to another one has such an effect
within : (tree : TreeState) (core : ℕ) (c : Call) (effect : Effect) → moves_directory_between tree c ≡ false → own_effect tree core c ≡ Some effect
    → StaysWithin tree effect
within tree core (call.Look d n) effect stays own = cc
within tree core (call.Read f at count) effect stays own = cc
within tree core (call.Stat d) effect stays own = cc
within tree core (call.List d) effect stays own = cc
within tree core (call.Fsync d) effect stays own = cc
within tree core (call.Make d n k) effect stays own = of_one (StaysWithin tree) (Adds d.0 n (next_number tree core)) effect own tt
within tree core (call.Link f d n) effect stays own = of_one (StaysWithin tree) (Adds d.0 n f.0) effect own tt
within tree core (call.Write f at bytes) effect stays own = of_one (StaysWithin tree) (Edits f.0 (Puts at bytes)) effect own tt
within tree core (call.Trunc f size) effect stays own = of_one (StaysWithin tree) (Edits f.0 (Resizes size)) effect own tt
within tree core (call.Unlink d n) effect stays own = of_child (StaysWithin tree) (Removes d.0 n) (row_of tree d.0 n) effect own (λ x e. tt)
within tree core (call.Rmdir d n) effect stays own = of_child (StaysWithin tree) (Removes d.0 n) (row_of tree d.0 n) effect own (λ x e. tt)
within tree core (call.Rename p n q m) effect stays own =
    of_child (StaysWithin tree) (Moves p.0 n q.0 m) (row_of tree p.0 n) effect own (within_or_file tree p.0 q.0 (row_of tree p.0 n) stays)

-- an effect that needs no lock
unlocked : (tree : TreeState) (effect : Effect) → moves_between tree effect ≡ false → StaysWithin tree effect
unlocked tree Stays e = tt
unlocked tree (Adds d n c) e = tt
unlocked tree (Removes d n c) e = tt
unlocked tree (Edits file edit) e = tt
unlocked tree (Moves p n q m c) e =
    elim (nat_eq p q) as (λ b. nat_eq p q ≡ b → (not b && is_directory tree c) ≡ false → (p ≡ q) ⊎ (is_directory tree c ≡ false)) [
      | true ↦ λ t f. inl (eqb-true _ _ t)
      | false ↦ λ t f. inr f
    ] refl e

within_unlocked : (tree : TreeState) (effect : Effect) → StaysWithin tree effect → moves_between tree effect ≡ false
within_unlocked tree Stays w = refl
within_unlocked tree (Adds d n c) w = refl
within_unlocked tree (Removes d n c) w = refl
within_unlocked tree (Edits file edit) w = refl
within_unlocked tree (Moves p n q m c) w = elim w [
  | inl same ↦ ap (λ (b : Bool). not b && is_directory tree c) (eq-eqb _ _ same)
  | inr file ↦ ap (λ (b : Bool). not (nat_eq p q) && b) file ∙ and_false (not (nat_eq p q))
]

pub locks_are_seen : LocksAreSeen
locks_are_seen tree core c stays =
    within_unlocked tree (verdict tree core c).effect (of_what_it_does (StaysWithin tree) tree core c tt (λ effect own. within tree core c effect stays own))

-- the root has no holder
root_held : (tree : TreeState) → IsSound tree → holder_of tree 0 ≡ None
root_held tree s = elim (holder_found tree 0) [ inl f ↦ absurd (s.unnamed f.0 f.2.0 f.2.1) | inr none ↦ none.0 ]

-- what names a node makes it alive
row_alive : (tree : TreeState) (h : ℕ) (name : List ℕ) (node : ℕ) → row_of tree h name ≡ Some node → is_alive tree node ≡ true
row_alive tree h name node row = named_alive tree node (record { directory = h; name = name; row = row })

module _ (tree : TreeState) (core : ℕ) (c : Call) (is : IsSoundTree tree) (lt : core < length tree.made) (node : ℕ) (kind : is_directory tree node ≡ true)
    (alive : is_alive (tree_after_call tree core c) node ≡ true) where
  abbrev next : TreeState
  next = tree_after_call tree core c

  there : IsSound next
  there = (calls_keep_sound tree core c is lt).sound

  fits : Fits tree core (verdict tree core c).effect (verdict tree core c).makes
  fits = calls_fit tree core c is lt

  kind_there : is_directory next node ≡ true
  kind_there = directory_stays tree core (verdict tree core c).effect (verdict tree core c).makes node fits (directory_node tree node kind) ∙ kind

  before : (h : ℕ) → Names next h node → (b : ℕ) × Names tree b node × (StaysWithin tree (verdict tree core c).effect → b ≡ h)
  before h name = named_before tree core node kind (verdict tree core c).effect (verdict tree core c).makes fits (brings_none tree core c) h name

  pub was_alive : is_alive tree node ≡ true
  was_alive = elim (alive_named next node alive) [
    | inl root ↦ subst (λ (z : ℕ). is_alive tree z ≡ true) (sym root) refl
    | inr named ↦ let name = before named.directory (named.name, named.row) in row_alive tree name.0 name.1.0 node name.1.1
  ]

  pub stays_held : needs_lock tree core c ≡ false → StaysHeld tree next node
  stays_held free = record {
    alive = was_alive;
    holder = elim (alive_named next node alive) [
      | inl root ↦ subst (λ (z : ℕ). holder_of next z ≡ holder_of tree z) (sym root) (root_held next there ∙ sym (root_held tree is.sound))
      | inr named ↦
          let name = before named.directory (named.name, named.row) in
          let same = name.2 (unlocked tree (verdict tree core c).effect free) in
          holder_is next there node named.directory named.name named.row kind_there ∙ ap Some (sym same)
          ∙ sym (holder_is tree is.sound node name.0 name.1.0 name.1.1 kind)
    ];
  }

pub holders_stay : HoldersStay
holders_stay tree core c node is lt free kind alive = stays_held tree core c is lt node kind alive free

pub dead_stay_dead : DeadStayDead
dead_stay_dead tree core c node is lt kind dead =
    elim (is_alive (tree_after_call tree core c) node) as (λ b. is_alive (tree_after_call tree core c) node ≡ b → b ≡ false) [
      | true ↦ λ alive. let was = was_alive tree core c is lt node kind alive in cc
      | false ↦ λ none. refl
    ] refl

-- the way up is the same, though a row on it may have another name
way_kept : (tree later : TreeState) → IsSound tree → IsSound later
    → ((d : ℕ) → is_directory tree d ≡ true → is_alive later d ≡ true → holder_of later d ≡ holder_of tree d) → {node : ℕ} {above : List ℕ}
    → Above tree node above → is_directory tree node ≡ true → is_alive later node ≡ true → Above later node above
way_kept tree later s t same at_root kind alive = at_root
way_kept tree later s t same (below node holder name above row rest) kind alive =
    elim (holder_found later node) [
      | inl f ↦
          let held : row_of later holder f.2.0 ≡ Some node =
          subst (λ (d : ℕ). row_of later d f.2.0 ≡ Some node)
          (some_same (sym f.1 ∙ same node kind alive ∙ holder_is tree s node holder name row kind)) f.2.1 in
          below node holder f.2.0 above held (way_kept tree later s t same rest (s.holds holder name node row).0 (t.holds holder f.2.0 node held).1)
      | inr none ↦ absurd (none_some (sym none.0 ∙ same node kind alive ∙ holder_is tree s node holder name row kind))
    ]

pub ways_stay : WaysStay
ways_stay tree core c node above is lt free kind alive way =
    way_kept tree (tree_after_call tree core c) is.sound (calls_keep_sound tree core c is lt).sound
    (λ d k a. (holders_stay tree core c d is lt free k a).holder) way kind alive

pub read_holders_stay : ReadHoldersStay
read_holders_stay tree core c node [] is lt free read = tt
read_holders_stay tree core c node (holder ∷ holders) is lt free read =
    let fits = calls_fit tree core c is lt in (
      record {
        kind =
            directory_stays tree core (verdict tree core c).effect (verdict tree core c).makes node fits (directory_node tree node read.0.kind) ∙ read.0.kind;
        held = λ alive. let stays = holders_stay tree core c node is lt free read.0.kind alive in stays.holder ∙ read.0.held stays.alive;
      },
      read_holders_stay tree core c holder holders is lt free read.1,
    )

-- the directories that were read up to the root
read_above : (tree : TreeState) → IsSound tree → (node : ℕ) (holders : List ℕ) → is_alive tree node ≡ true → AreHolders tree node holders
    → EndsAtRoot node holders → Above tree node holders
read_above tree s node [] alive read ends = subst (λ (z : ℕ). Above tree z []) (sym ends) at_root
read_above tree s node (holder ∷ holders) alive read ends = elim (holder_found tree node) [
  | inl f ↦
      let is : f.0 ≡ holder = some_same (sym f.1 ∙ read.0.held alive) in
      let row : row_of tree holder f.2.0 ≡ Some node = subst (λ (d : ℕ). row_of tree d f.2.0 ≡ Some node) is f.2.1 in
      below node holder f.2.0 holders row (read_above tree s holder holders (s.holds holder f.2.0 node row).1 read.1 ends)
  | inr none ↦ absurd (none_some (sym none.0 ∙ read.0.held alive))
]

pub read_holders_are_above : ReadHoldersAreAbove
read_holders_are_above tree node holders is alive kind read ends =
    let above = read_above tree is.sound node holders alive read ends in
    (above, walk_is tree is.sound above kind)

pub standing_is_alive : StandingIsAlive
standing_is_alive tree node is =
    elim (is_directory tree node) as (λ b. is_directory tree node ≡ b
    → (nat_eq node 0 || is_some (cond b (holder_of tree node) None)) ≡ (is_alive tree node && b)) [
      | true ↦ λ kind. elim (holder_found tree node) [
        | inl f ↦
            let alive = row_alive tree f.0 f.2.0 node f.2.1 in
            ap (λ (o : Option ℕ). nat_eq node 0 || is_some o) f.1 ∙ or_true (nat_eq node 0) ∙ sym (ap (λ (b : Bool). b && true) alive)
        | inr none ↦ ap (λ (o : Option ℕ). nat_eq node 0 || is_some o) none.0 ∙ or_false (nat_eq node 0) ∙ sym (unnamed_alive none.1 ∙ refl)
      ]
      | false ↦ λ file. or_false (nat_eq node 0) ∙ not_root file ∙ sym (and_false (is_alive tree node))
    ] refl
  where
    unnamed_alive : (IsNamed tree.rows node → ⊥) → (is_alive tree node && true) ≡ nat_eq node 0
    unnamed_alive none = elim (named_or_none tree.rows node) [
      | inl named ↦ absurd (none named)
      | inr zero_named ↦ and_true (is_alive tree node) ∙ ap (λ (b : Bool). nat_eq node 0 || not b) (eq-eqb _ _ zero_named) ∙ or_false (nat_eq node 0)
    ]

    not_root : is_directory tree node ≡ false → nat_eq node 0 ≡ false
    not_root file = elim (nat_eq node 0) as (λ b. nat_eq node 0 ≡ b → b ≡ false) [
      | true ↦ λ t. let root : is_directory tree node ≡ true = subst (λ (z : ℕ). is_directory tree z ≡ true) (sym (eqb-true _ _ t)) is.sound.root in cc
      | false ↦ λ t. refl
    ] refl
