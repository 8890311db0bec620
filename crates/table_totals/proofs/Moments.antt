-- What a core sees from one moment to another.
use Rattle.std.proofs.Common.{◌≡◌, ◌<◌, ◌++◌, ◌∷◌, ◌∙◌, List, [], length, refl, sym, ap, subst, arith, append-nil, length-append}
use Rattle.std.proofs.lemmas.List.Elements.{filter_map-append}
use mathlib.Core.List.{IsPrefix}
use Rattle.tree_laws.specs.Tree.{TreeState}
use Rattle.tree_laws.specs.History.{tree_after}
use Rattle.stamp_table.specs.declared.event.Event.{Event}
use Rattle.stamp_table.specs.declared.view.View.{View}
use Rattle.stamp_table.specs.Events.{called, calls_in}
use Rattle.stamp_table.specs.Table.{IsBetweenCalls}
use Rattle.stamp_table.proofs.Keeps.{begins_itself, begins_on}
use Rattle.mem_values.specs.Start.{FileHand, FileState}
use Rattle.mem_values.specs.declared.fact.Fact.{Fact}
use Rattle.mem_values.proofs.Told.{calls_grow}
use Rattle.mem_calls.specs.Working.{WorksOn}
use Rattle.table_totals.specs.Seen.{MayCount, SawNoCall, SawOn, tree_seen}

none_of : {A : Type 0} (l : List A) → length l ≡ 0 → l ≡ []
none_of [] none = refl
none_of (x ∷ l) none = absurd (omega (arith, none))

-- a longer history with as many calls has the same ones
pub same_calls : (a b : List (Event Fact)) → IsPrefix a b → length (calls_in b) ≡ length (calls_in a) → calls_in b ≡ calls_in a
same_calls a b prefix same =
    let whole : calls_in b ≡ calls_in a ++ calls_in prefix.0 = sym (ap calls_in prefix.1) ∙ filter_map-append called a prefix.0 in
    let long = ap length whole ∙ length-append (calls_in a) (calls_in prefix.0) in
    let none : calls_in prefix.0 ≡ [] = none_of (calls_in prefix.0) (omega (arith, long, same)) in
    whole ∙ (ap (λ l. calls_in a ++ l) none ∙ append-nil (calls_in a))

-- what was seen between two moments with as many calls has as many
between_same : (a b c : List (Event Fact)) → IsPrefix a b → IsPrefix b c → calls_in c ≡ calls_in a → calls_in b ≡ calls_in a
between_same a b c one two same =
    let low = calls_grow a b one in
    let high = calls_grow b c two in
    let count = ap length same in
    same_calls a b one (omega (arith, low, high, count))

pub on_itself : (a : FileHand) → SawOn a a
on_itself a = record { frame = refl; view = refl; seen = begins_itself a.view.seen }

module _ (a b c : FileHand) (one : SawOn a b) (two : SawOn b c) where
  pub on_and_on : SawOn a c
  on_and_on = record {
    frame = ap (λ (h : FileHand). record h { view = a.view }) two.frame ∙ one.frame;
    view = ap (λ (v : View TreeState (Event Fact)). record v { seen = a.view.seen }) two.view ∙ one.view;
    seen = begins_on a.view.seen b.view.seen c.view.seen one.seen two.seen;
  }

  -- where no call came, none came in the first part, and none in the second
  pub none_before : SawNoCall a c → SawNoCall a b
  none_before none = between_same a.view.seen b.view.seen c.view.seen one.seen two.seen none

  pub none_behind : SawNoCall a c → SawNoCall b c
  none_behind none = none ∙ sym (none_before none)

module _ (a b : FileHand) (on : SawOn a b) where
  -- the tree is the same then
  pub same_tree : SawNoCall a b → tree_seen b ≡ tree_seen a
  same_tree none = λ i. tree_after (first i) (none i)
    where
      first : b.view.first ≡ a.view.first
      first = ap (λ (v : View TreeState (Event Fact)). v.first) on.view

  pub first_on : b.view.first ≡ a.view.first
  first_on = ap (λ (v : View TreeState (Event Fact)). v.first) on.view

  pub between_on : (t : FileState) → IsBetweenCalls t a → IsBetweenCalls t b
  between_on t between = record {
    table_is = ap (λ (h : FileHand). h.table) on.frame ∙ between.table_is;
    first_is = first_on ∙ between.first_is;
    core_is = subst (λ n. n < length t.first.made) (sym (ap (λ (v : View TreeState (Event Fact)). v.core) on.view)) between.core_is;
    holds_none = ap (λ (h : FileHand). h.held) on.frame ∙ between.holds_none;
    none_held = ap (λ (v : View TreeState (Event Fact)). v.held) on.view ∙ between.none_held;
    none_waits = ap (λ (h : FileHand). h.waiting) on.frame ∙ between.none_waits;
  }

  pub may_on : (t : FileState) → MayCount t a → MayCount t b
  may_on t may = record {
    between = between_on t may.between;
    room = subst (λ n. 0 < n) (sym (ap (λ (h : FileHand). h.room) on.frame)) may.room;
  }

-- a core that held a cell and let it go has only seen more
pub worked_on : (t : FileState) (before held after : FileHand) → IsBetweenCalls t before → WorksOn before held → WorksOn held after → after.held ≡ []
    → after.view.held ≡ [] → SawOn before after
worked_on t before held after between one two none idle =
    let room_one = one.room in
    let room_two = two.room in
    let held_none = ap length between.holds_none in
    let after_none = ap length none in
    let room : after.room ≡ before.room = omega (arith, room_one, room_two, held_none, after_none) in
    record {
      frame =
          (λ i. record after { view = before.view; held = (none ∙ sym between.holds_none) i; room = room i })
          ∙ (ap (λ (h : FileHand). record h { view = before.view; held = before.held; room = before.room }) two.frame ∙ one.frame);
      view =
          (λ i. record after.view { seen = before.view.seen; held = (idle ∙ sym between.none_held) i })
          ∙ (ap (λ (v : View TreeState (Event Fact)). record v { seen = before.view.seen; held = before.view.held }) two.view ∙ one.view);
      seen = begins_on before.view.seen held.view.seen after.view.seen one.seen two.seen;
    }

-- where no call came while a core held a cell and let it go, the tree is the one that it saw with the cell
pub same_held : (before held after : FileHand) → WorksOn before held → WorksOn held after → SawNoCall before after → tree_seen held ≡ tree_seen after
same_held before held after one two none = λ i. tree_after (first i) (calls i)
  where
    first : held.view.first ≡ after.view.first
    first = sym (ap (λ (v : View TreeState (Event Fact)). v.first) two.view)

    calls : calls_in held.view.seen ≡ calls_in after.view.seen
    calls = between_same before.view.seen held.view.seen after.view.seen one.seen two.seen none ∙ sym none
