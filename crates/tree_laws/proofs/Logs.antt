-- What an entry logs erases to its changes of rows.
use Rattle.std.proofs.Common.{◌≡◌, ◌≢◌, ℕ, Bool, true, false, cond, not, ◌&&◌, List, [], ◌∷◌, ◌++◌, filter, Option, Some, None, option_map, refl, sym, ap, ap₂, subst, ◌∙◌, nat_eq, bytes_eq}
use Rattle.std.specs.Prelude.{◌||◌, is_none}
use Rattle.std.specs.List.{list_any}
use Rattle.std.specs.Option.{option_map_or}
use Rattle.std.proofs.lemmas.Bool.{eqb-true}
use Rattle.std.proofs.lemmas.Slice.Eq.{bytes_eq-Decides}
use Rattle.std.proofs.Math.Bool.{and-true, and-false}
use Rattle.std.specs.FinMap.{get}
use Rattle.sfs_base.specs.declared.numbers.Kind.{Kind}
use Rattle.sfs_base.specs.declared.numbers.NodeId.{NodeId}
use Rattle.tree_laws.specs.declared.changes.Act.TheVariants.{Add, Remove}
use Rattle.tree_laws.specs.declared.changes.Change.{Change}
use Rattle.tree_laws.specs.Tree.{TreeState, Node, is_directory_kind, is_directory, row_of, kind_of}
use Rattle.tree_laws.specs.Effect.{Effect, Stays, Adds, Removes, Moves, Edits}
use Rattle.tree_laws.specs.Verdict.{verdict}
use Rattle.tree_laws.specs.Fits.{Fits}
use Rattle.tree_laws.specs.Changes.{RowChange, other_side, replaced, changes_by}
use Rattle.tree_laws.specs.Logged.{numbered_node, log_entry, logged_replaced, recorded_above, logged_by, is_logged_in, adds_any, adds_name, is_end_of, erased_entry}
use Rattle.tree_laws.specs.Laws.{LogsErase}
use Rattle.tree_laws.proofs.SoundTrees.{calls_fit}
use Rattle.sfs_base.proofs.BasicNumbers.{same_number}
use Rattle.sfs_base.proofs.BasicLists.{same_bytes}

other_back : (o : Option ℕ) → option_map (λ (node : NodeId). node.0) (option_map numbered_node o) ≡ o
other_back (Some x) = refl
other_back None = refl

-- a kind tells whether a node is a directory
kind_tells : (tree : TreeState) (node : ℕ) → is_directory_kind (kind_of tree node) ≡ is_directory tree node
kind_tells tree node = of (get tree.nodes node)
  where
    of : (o : Option Node)
        → is_directory_kind (option_map_or (λ (n : Node). n.kind) o Rattle.sfs_base.specs.declared.numbers.Kind.TheVariants.File)
        ≡ option_map_or (λ (n : Node). is_directory_kind n.kind) o false
    of (Some n) = refl
    of None = refl

-- a row that goes alone
alone : (tree : TreeState) (stamp d : ℕ) (n : List ℕ) (c : ℕ)
    → is_end_of (filter (is_logged_in d) (log_entry stamp d n c (kind_of tree c) Remove None [] ∷ [])) (log_entry stamp d n c (kind_of tree c) Remove None [])
    ≡ is_directory tree c
alone tree stamp d n c = of (nat_eq d d) ∙ kind_tells tree c
  where
    entry : Change
    entry = log_entry stamp d n c (kind_of tree c) Remove None []

    of : (b : Bool)
        → is_end_of (cond b (log_entry stamp d n c (kind_of tree c) Remove None [] ∷ []) []) (log_entry stamp d n c (kind_of tree c) Remove None [])
        ≡ is_directory_kind (kind_of tree c)
    of true = and-true (is_directory_kind (kind_of tree c))
    of false = and-true (is_directory_kind (kind_of tree c))

module _ (tree : TreeState) (stamp p : ℕ) (n : List ℕ) (q : ℕ) (m : List ℕ) (x : ℕ) (above : List ℕ) where
  abbrev goes : Change
  goes = log_entry stamp p n x (kind_of tree x) Remove (other_side p q) []

  abbrev comes : Change
  comes = log_entry stamp q m x (kind_of tree x) Add (other_side q p) above

  abbrev there_goes : ℕ → Change
  there_goes there = log_entry stamp q m there (kind_of tree there) Remove (other_side q p) []

  abbrev entry_of_move : Option ℕ → List Change
  entry_of_move o = logged_replaced tree stamp p q m o ++ goes ∷ comes ∷ []

  -- a row that goes is no end, where no row of its name comes and it goes elsewhere or another row comes
  no_end : (o : Option ℕ) → list_any (adds_name n) (filter (is_logged_in p) (entry_of_move o)) ≡ false
      → (is_none goes.other && not (list_any adds_any (filter (is_logged_in p) (entry_of_move o)))) ≡ false
      → is_end_of (filter (is_logged_in p) (entry_of_move o)) goes ≡ false
  no_end o none_named apart =
      ap₂ (λ (a b : Bool). is_directory_kind (kind_of tree x) && (a || b)) none_named apart ∙ and-false (is_directory_kind (kind_of tree x))

  -- what moves away is not ended, where it comes to another directory
  away : (o : Option ℕ) → nat_eq p q ≡ false → is_end_of (filter (is_logged_in p) (entry_of_move o)) goes ≡ false
  away o apart =
      no_end o
      (elim o as (λ (o : Option ℕ). list_any (adds_name n) (filter (is_logged_in p) (entry_of_move o)) ≡ false) [
        | None ↦
            rw (back, same_number p) refl
        | Some there ↦ rw (back, same_number p) refl
      ])
      (ap (λ (b : Bool). b && not (list_any adds_any (filter (is_logged_in p) (entry_of_move o)))) other)
    where
      other : is_none goes.other ≡ false
      other = ap (λ (b : Bool). is_none (option_map numbered_node (cond b None (Some q)))) apart

      back : nat_eq q p ≡ false
      back = elim (nat_eq q p) as (λ b. nat_eq q p ≡ b → b ≡ false) [
        | true ↦ λ t. let both : nat_eq p q ≡ true = subst (λ (y : ℕ). nat_eq p y ≡ true) (sym (eqb-true _ _ t)) (same_number p) in sym both ∙ apart
        | false ↦ λ t. refl
      ] refl

  -- nor where it stays in its directory under another name
  renamed : (o : Option ℕ) → p ≡ q → bytes_eq n m ≡ false → is_end_of (filter (is_logged_in p) (entry_of_move o)) goes ≡ false
  renamed o same names =
      no_end o
      (elim o as (λ (o : Option ℕ). list_any (adds_name n) (filter (is_logged_in p) (entry_of_move o)) ≡ false) [
        | None ↦
            rw (back, same_number p, names) refl
        | Some there ↦ rw (back, same_number p, names) refl
      ])
      (ap (λ (b : Bool). is_none goes.other && not b) (some_comes o) ∙ and-false (is_none goes.other))
    where
      back : nat_eq q p ≡ true
      back = subst (λ (y : ℕ). nat_eq y p ≡ true) same (same_number p)

      some_comes : (o : Option ℕ) → list_any adds_any (filter (is_logged_in p) (entry_of_move o)) ≡ true
      some_comes None = rw (back, same_number p) refl
      some_comes (Some there) = rw (back, same_number p) refl

  -- what is replaced is ended where it is a directory
  replaced_ends : (there : ℕ) → is_end_of (filter (is_logged_in q) (entry_of_move (Some there))) (there_goes there) ≡ is_directory tree there
  replaced_ends there =
      ap (λ (b : Bool). is_directory_kind (kind_of tree there) && b) inner ∙ and-true (is_directory_kind (kind_of tree there)) ∙ kind_tells tree there
    where
      named : list_any (adds_name m) (filter (is_logged_in q) (entry_of_move (Some there))) ≡ true
      named = of (nat_eq p q)
        where
          of : (b : Bool)
              → list_any (adds_name m)
              (cond (nat_eq q q) (there_goes there ∷ cond b (goes ∷ cond (nat_eq q q) (comes ∷ []) []) (cond (nat_eq q q) (comes ∷ []) []))
              (cond b (goes ∷ cond (nat_eq q q) (comes ∷ []) []) (cond (nat_eq q q) (comes ∷ []) [])))
              ≡ true
          of true = rw (same_number q, same_bytes m) refl
          of false = rw (same_number q, same_bytes m) refl

      inner : (list_any (adds_name m) (filter (is_logged_in q) (entry_of_move (Some there)))
          || (is_none (there_goes there).other && not (list_any adds_any (filter (is_logged_in q) (entry_of_move (Some there))))))
          ≡ true
      inner = rw named refl

  -- the changes of a move, its own row's end being none
  moved : (o : Option ℕ) → is_end_of (filter (is_logged_in p) (entry_of_move o)) goes ≡ false → erased_entry (entry_of_move o)
      ≡ (replaced tree stamp p q m o ++ Rattle.tree_laws.specs.Changes.removed stamp p n x (other_side p q) false
      ∷ Rattle.tree_laws.specs.Changes.added stamp q m x (other_side q p) ∷ [])
  moved None ends = λ i.
      record { stamp = stamp; directory = p; name = n; child = x; places = false; other = other_back (other_side p q) i; ends = ends i }
      ∷ record { stamp = stamp; directory = q; name = m; child = x; places = true; other = other_back (other_side q p) i; ends = false } ∷ []
  moved (Some there) ends = λ i.
      record { stamp = stamp; directory = q; name = m; child = there; places = false; other = other_back (other_side q p) i; ends = replaced_ends there i }
      ∷ record { stamp = stamp; directory = p; name = n; child = x; places = false; other = other_back (other_side p q) i; ends = ends i }
      ∷ record { stamp = stamp; directory = q; name = m; child = x; places = true; other = other_back (other_side q p) i; ends = false } ∷ []

-- what moves within a directory gets another name
other_name : (tree : TreeState) (p : ℕ) (n : List ℕ) (q : ℕ) (m : List ℕ) (x : ℕ) → row_of tree p n ≡ Some x → row_of tree q m ≢ Some x → p ≡ q
    → bytes_eq n m ≡ false
other_name tree p n q m x row apart same =
    elim (bytes_eq n m) as (λ b. bytes_eq n m ≡ b → b ≡ false) [
      | true ↦
          λ t. absurd
          (apart
          (subst (λ (name : List ℕ). row_of tree q name ≡ Some x) ((bytes_eq-Decides n m).0 t) (subst (λ (d : ℕ). row_of tree d n ≡ Some x) same row)))
      | false ↦ λ t. refl
    ] refl

effects_erase : (tree : TreeState) (core stamp : ℕ) (effect : Effect) (makes : Option Kind) → Fits tree core effect makes
    → erased_entry (logged_by tree core stamp effect makes) ≡ changes_by tree stamp effect
effects_erase tree core stamp Stays makes f = refl
effects_erase tree core stamp (Edits file edit) makes f = refl
effects_erase tree core stamp (Adds d n c) makes f = refl
effects_erase tree core stamp (Removes d n c) makes f =
    λ i. record { stamp = stamp; directory = d; name = n; child = c; places = false; other = None; ends = alone tree stamp d n c i } ∷ []
effects_erase tree core stamp (Moves p n q m x) (Some kind) f = absurd f
effects_erase tree core stamp (Moves p n q m x) None f =
    let above = recorded_above tree (Moves p n q m x) q in
    moved tree stamp p n q m x above (row_of tree q m)
    (elim
    (nat_eq p q) as (λ b. nat_eq p q ≡ b
    → is_end_of (filter (is_logged_in p) (entry_of_move tree stamp p n q m x above (row_of tree q m))) (goes tree stamp p n q m x above) ≡ false) [
      | true ↦ λ t. let same = eqb-true _ _ t in renamed tree stamp p n q m x above (row_of tree q m) same (other_name tree p n q m x f.row f.apart same)
      | false ↦ λ t. away tree stamp p n q m x above (row_of tree q m) t
    ] refl)

pub logs_erase : LogsErase
logs_erase tree core stamp c is lt = effects_erase tree core stamp (verdict tree core c).effect (verdict tree core c).makes (calls_fit tree core c is lt)
