-- A core that lets go of all cells.
use Rattle.std.proofs.Common.{◌≡◌, append_assoc, ◌++◌, ◌<◌, ℕ, List, [], ◌∷◌, length, reverse, Option, sym, ap, subst, ◌∙◌, arith, None}
use mathlib.Core.List.{IsPrefix}
use Rattle.disk_nodes.specs.OldKept.{OldKept}
use Rattle.tree_laws.specs.Tree.{TreeState}
use Rattle.stamp_table.specs.declared.view.View.{View}
use Rattle.stamp_table.specs.declared.event.Event.{Event}
use Rattle.stamp_table.specs.declared.held.HeldCell.{HeldCell}
use Rattle.stamp_table.specs.Hand.{places_of}
use Rattle.stamp_table.specs.Ascending.{Falls}
use Rattle.stamp_table.specs.Table.{LetsGo, Stands, EachFrom, left_below}
use Rattle.stamp_table.proofs.Keeps.{begins_itself}
use Rattle.mem_values.specs.Start.{FileHand, FileState}
use Rattle.mem_values.specs.declared.cell.Cell.{Cell}
use Rattle.mem_values.specs.declared.fact.Fact.{Fact}
use Rattle.mem_values.specs.Stands.{StandsAt}
use Rattle.mem_values.specs.Facts.{IsLawfulLog}
use Rattle.mem_values.specs.Laws.{KnowsCells}
use Rattle.mem_calls.specs.Working.{IsWorking, WorksOn, StillHolds}
use Rattle.mem_calls.specs.Outcome.{IsRefusedMemory}
use Rattle.mem_calls.proofs.Finished.{none_left}

-- what a core knows of its cells goes home
pub known_home : (given : ℕ → Option OldKept) (view : View TreeState (Event Fact)) (cells : List (HeldCell Cell)) → KnowsCells given view cells
    → EachFrom 0 (Stands (IsLawfulLog given) (StandsAt given) view) cells
known_home given view [] knows = tt
known_home given view (c ∷ cells) knows = ((λ le. knows.0.stood), known_home given view cells knows.1)

module _ (given : ℕ → Option OldKept) (t : FileState) (before after : FileHand) (work : IsWorking given t before) (lets : LetsGo before after)
    (left : after.held ≡ left_below 0 before.held)
    (places : after.view.held ≡ reverse (places_of after.held)) where
  pub none : after.held ≡ []
  none = left ∙ none_left before.held

  pub idle : after.view.held ≡ []
  idle = places ∙ ap (λ (l : List (HeldCell Cell)). reverse (places_of l)) none

  core_same : after.view.core ≡ before.view.core
  core_same = ap (λ (v : View TreeState (Event Fact)). v.core) lets.view

  pub works : IsWorking given t after
  works = record {
    table = ap (λ (h : FileHand). h.table) lets.frame ∙ work.table;
    first = ap (λ (v : View TreeState (Event Fact)). v.first) lets.view ∙ work.first;
    core = subst (λ n. n < length t.first.made) (sym core_same) work.core;
    places = places;
    falls = subst Falls (sym idle) tt;
    knows = subst (KnowsCells given after.view) (sym none) tt;
  }

  pub on : WorksOn before after
  on = record {
    frame = lets.frame;
    view = ap (λ (v : View TreeState (Event Fact)). record v { seen = before.view.seen }) lets.view;
    seen = subst (IsPrefix before.view.seen) (sym (ap (λ (v : View TreeState (Event Fact)). v.seen) lets.view)) (begins_itself before.view.seen);
    room = lets.room;
  }

  -- a call that is given up, since it was refused memory
  pub refused : before.waiting ≡ None → IsRefusedMemory t before after
  refused answered = record {
    between = record {
      table_is = ap (λ (h : FileHand). h.table) lets.frame ∙ work.table;
      first_is = ap (λ (v : View TreeState (Event Fact)). v.first) lets.view ∙ work.first;
      core_is = subst (λ n. n < length t.first.made) (sym core_same) work.core;
      holds_none = none;
      none_held = idle;
      none_waits = ap (λ (h : FileHand). h.waiting) lets.frame ∙ answered;
    };
    same = record {
      table = ap (λ (h : FileHand). h.table) lets.frame;
      cores = ap (λ (h : FileHand). h.cores) lets.frame;
      leads = ap (λ (h : FileHand). h.leads) lets.frame;
      number = core_same;
    };
    room = (let r = lets.room in let n = ap length none in omega (arith, r, n));
    spare = ap (λ (h : FileHand). h.spare) lets.frame;
    seen = subst (IsPrefix before.view.seen) (sym (ap (λ (v : View TreeState (Event Fact)). v.seen) lets.view)) (begins_itself before.view.seen);
    entries = ap (λ (h : FileHand). h.entries) lets.frame;
    mine = ap (λ (v : View TreeState (Event Fact)). v.mine) lets.view;
  }

-- what one step leaves and then another one
pub on_again : (a b c : FileHand) → WorksOn a b → WorksOn b c → WorksOn a c
on_again a b c one two = record {
  frame = ap (λ (h : FileHand). record h { view = a.view; held = a.held; room = a.room }) two.frame ∙ one.frame;
  view = ap (λ (v : View TreeState (Event Fact)). record v { seen = a.view.seen; held = a.view.held }) two.view ∙ one.view;
  seen = (one.seen.0 ++ two.seen.0, sym (append_assoc a.view.seen one.seen.0 two.seen.0) ∙ (ap (λ w. w ++ two.seen.0) one.seen.1 ∙ two.seen.1));
  room = let r = one.room in let s = two.room in omega (arith, r, s);
}

pub still_again : (nodes : ℕ) (a b c : FileHand) → StillHolds nodes a b → StillHolds nodes b c → StillHolds nodes a c
still_again nodes a b c one two = record {
  values = λ which value is. two.values which value (one.values which value is);
  trees = λ tree meets. one.trees tree (two.trees tree meets);
}
