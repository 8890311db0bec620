-- What a call touches it names, and what it reads of a tree the tree agrees on with itself.
use Rattle.std.proofs.Common.{◌≡◌, ℕ, Bool, true, false, ◌||◌, List, Option, Some, None, ◌⊎◌, inl, inr, refl, sym, nat_eq, ◌∙◌}
use Rattle.std.proofs.lemmas.Bool.{eqb-true}
use Rattle.sfs_base.proofs.BasicTruth.{and_first, and_second}
use Rattle.tree_laws.specs.declared.call.Call.TheVariants as call
use Rattle.tree_laws.specs.Tree.{row_of, next_number}
use Rattle.tree_laws.specs.Parts.{is_in_part, is_this}
use Rattle.tree_laws.specs.Laws.{TreesAgreeWithThemselves, TouchesAreNamed, CallsTouchOne}

in_part : (directory : ℕ) (test : List ℕ → Bool) (at : ℕ) (name : List ℕ) → is_in_part directory test at name ≡ true → (at ≡ directory) × (test name ≡ true)
in_part directory test at name is = (eqb-true _ _ (and_first (nat_eq at directory) (test name) is), and_second (nat_eq at directory) (test name) is)

-- one of two parts
either_part : (a b : Bool) → (a || b) ≡ true → (a ≡ true) ⊎ (b ≡ true)
either_part true b e = inl refl
either_part false b e = inr e

pub touches_are_named : TouchesAreNamed
touches_are_named (call.Make at name kind) directory test is = let both = in_part directory test at.0 name is in (name, (both.0, refl), both.1)
touches_are_named (call.Link file at name) directory test is = let both = in_part directory test at.0 name is in (name, (both.0, refl), both.1)
touches_are_named (call.Unlink at name) directory test is = let both = in_part directory test at.0 name is in (name, (both.0, refl), both.1)
touches_are_named (call.Rmdir at name) directory test is = let both = in_part directory test at.0 name is in (name, (both.0, refl), both.1)
touches_are_named (call.Rename at name to_directory to_name) directory test is =
    elim (either_part (is_in_part directory test at.0 name) (is_in_part directory test to_directory.0 to_name) is) [
      | inl old ↦ let both = in_part directory test at.0 name old in (name, inl (both.0, refl), both.1)
      | inr new ↦ let both = in_part directory test to_directory.0 to_name new in (to_name, inr (both.0, refl), both.1)
    ]
touches_are_named (call.Look at name) directory test is = cc
touches_are_named (call.Write file at bytes) directory test is = cc
touches_are_named (call.Read file at count) directory test is = cc
touches_are_named (call.Trunc file size) directory test is = cc
touches_are_named (call.Stat node) directory test is = cc
touches_are_named (call.List at) directory test is = cc
touches_are_named (call.Fsync node) directory test is = cc

-- what a number is, it is once
one_number : (x node other : ℕ) → nat_eq x node ≡ true → nat_eq x other ≡ true → node ≡ other
one_number x node other a b = sym (eqb-true _ _ a) ∙ eqb-true _ _ b

one_there : (there : Option ℕ) (node other : ℕ) → is_this node there ≡ true → is_this other there ≡ true → node ≡ other
one_there (Some x) node other a b = one_number x node other a b
one_there None node other a b = cc

pub calls_touch_one : CallsTouchOne
calls_touch_one tree core (call.Make at name kind) = record { bytes = λ node e. cc; links = one_number (next_number tree core) }
calls_touch_one tree core (call.Link file at name) = record { bytes = λ node e. cc; links = one_number file.0 }
calls_touch_one tree core (call.Unlink at name) = record { bytes = λ node e. cc; links = one_there (row_of tree at.0 name) }
calls_touch_one tree core (call.Rmdir at name) = record { bytes = λ node e. cc; links = one_there (row_of tree at.0 name) }
calls_touch_one tree core (call.Rename at name to_directory to_name) = record { bytes = λ node e. cc; links = one_there (row_of tree to_directory.0 to_name) }
calls_touch_one tree core (call.Write file at bytes) = record { bytes = λ node e. let same = eqb-true file.0 node e in cc; links = λ node other a b. cc }
calls_touch_one tree core (call.Trunc file size) = record { bytes = λ node e. let same = eqb-true file.0 node e in cc; links = λ node other a b. cc }
calls_touch_one tree core (call.Look at name) = record { bytes = λ node e. cc; links = λ node other a b. cc }
calls_touch_one tree core (call.Read file at count) = record { bytes = λ node e. cc; links = λ node other a b. cc }
calls_touch_one tree core (call.Stat node) = record { bytes = λ node e. cc; links = λ node other a b. cc }
calls_touch_one tree core (call.List at) = record { bytes = λ node e. cc; links = λ node other a b. cc }
calls_touch_one tree core (call.Fsync node) = record { bytes = λ node e. cc; links = λ node other a b. cc }

pub trees_agree_with_themselves : TreesAgreeWithThemselves
trees_agree_with_themselves tree core (call.Look directory name) =
    (record { node = record { alive = refl; kind = λ alive. refl }; rows = refl }, λ child row. refl)
trees_agree_with_themselves tree core (call.Make directory name kind) =
    (record { node = record { alive = refl; kind = λ alive. refl }; rows = refl }, record { first = refl; share = refl; made = refl })
trees_agree_with_themselves tree core (call.Link file directory name) =
    (record { node = record { alive = refl; kind = λ alive. refl }; rows = refl }, record { alive = refl; kind = λ alive. refl }, λ kind. refl)
trees_agree_with_themselves tree core (call.Unlink directory name) =
    (record { node = record { alive = refl; kind = λ alive. refl }; rows = refl }, λ child row. refl)
trees_agree_with_themselves tree core (call.Rmdir directory name) =
    (record { node = record { alive = refl; kind = λ alive. refl }; rows = refl }, (λ child row. refl), λ child row kind. refl)
trees_agree_with_themselves tree core (call.Rename directory name to_directory to_name) = record {
  from = record { node = record { alive = refl; kind = λ alive. refl }; rows = refl };
  to = record { node = record { alive = refl; kind = λ alive. refl }; rows = refl };
  child = λ child row. refl;
  below = λ holder child row kind apart. refl;
  kind = λ there row. refl;
  rows = λ there row kind. refl;
}
trees_agree_with_themselves tree core (call.Write file at bytes) = record { alive = refl; kind = λ alive. refl }
trees_agree_with_themselves tree core (call.Read file at count) = (record { alive = refl; kind = λ alive. refl }, refl)
trees_agree_with_themselves tree core (call.Trunc file size) = record { alive = refl; kind = λ alive. refl }
trees_agree_with_themselves tree core (call.Stat node) = record {
  same = record { alive = refl; kind = λ alive. refl };
  links = λ kind. refl;
  bytes = λ kind. refl;
  rows = λ kind. refl;
  kinds = λ kind name child row. refl;
}
trees_agree_with_themselves tree core (call.List directory) = (record { alive = refl; kind = λ alive. refl }, refl, λ name child row. refl)
trees_agree_with_themselves tree core (call.Fsync node) = record { alive = refl; kind = λ alive. refl }
