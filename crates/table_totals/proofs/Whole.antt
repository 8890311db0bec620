-- A core that counts until no call came meanwhile.
use Rattle.std.proofs.Common.{◌≡◌, ◌<◌, ◌≤◌, ◌*◌, ◌+◌, ℕ, length, sym, ap, subst, ◌∙◌, arith}
use Rattle.std.proofs.lemmas.List.{take_all}
use mathlib.Core.List.{IsPrefix}
use Rattle.tree_laws.specs.History.{IsLegal, tree_after}
use Rattle.tree_laws.specs.Laws.{IsSoundTree}
use Rattle.tree_laws.specs.Tree.{TreeState, row_count}
use Rattle.tree_laws.proofs.Cores.{cores_stay}
use Rattle.tree_laws.proofs.FileHistories.{histories_keep_sound}
use Rattle.tree_totals.specs.Totals.{NUMBERS, live_bytes, sum_below, total_bytes, total_rows}
use Rattle.stamp_table.specs.declared.event.Event.{Event}
use Rattle.stamp_table.specs.declared.view.View.{View}
use Rattle.stamp_table.specs.Events.{calls_in}
use Rattle.stamp_table.specs.Table.{IsBetweenCalls, Looked}
use Rattle.stamp_table.proofs.Calling.{stamps_are_calls}
use Rattle.stamp_table.proofs.Keeps.{begins_itself, begins_on}
use Rattle.mem_values.specs.Facts.{IsLawfulLog}
use Rattle.mem_values.specs.Places.{node_count}
use Rattle.mem_values.specs.Stands.{StandsAt}
use Rattle.mem_values.specs.Start.{FileHand, FileState, given_by}
use Rattle.mem_values.specs.declared.fact.Fact.{Fact}
use Rattle.mem_values.proofs.Stamping.{first_stays, share_stays}
use Rattle.mem_calls.specs.Table.{IsFileTable}
use Rattle.table_totals.specs.Seen.{MayCount, OnlySaw, SawNoCall, SawOn, tree_seen}
use Rattle.table_totals.proofs.Moments.{may_on, none_before, none_behind, on_and_on, same_calls, same_tree}
use Rattle.table_totals.proofs.Sums.{all_bytes, all_rows}

-- a look sees more of the history, and counts its calls, which are legal
module _ (t : FileState) (before after : FileHand) (number : ℕ) (looked : Looked (IsLawfulLog (given_by t)) (StandsAt (given_by t)) before number after) where
  pub look_on : SawOn before after
  look_on = record { frame = looked.frame; view = looked.saw.frame; seen = looked.saw.seen }

  pub look_count : number ≡ length (calls_in after.view.seen)
  look_count = looked.saw.number_is ∙ stamps_are_calls after.view.seen

  pub look_legal : IsLegal after.view.first (calls_in after.view.seen)
  look_legal = subst (λ (f : TreeState). IsLegal f (calls_in after.view.seen)) (sym (ap (λ (v : View TreeState (Event Fact)). v.first) looked.saw.frame))
      looked.saw.legal_seen.legal_calls

-- what was counted while no call came is what the whole tree has
module _ (t : FileState) (nodes : ℕ) (table : IsFileTable t nodes) (few : nodes ≤ NUMBERS) (before after : FileHand) (may : MayCount t before)
    (legal : IsLegal before.view.first (calls_in before.view.seen)) (on : SawOn before after) (none : SawNoCall before after) where
  first_is : before.view.first ≡ t.first
  first_is = may.between.first_is

  sound : IsSoundTree (tree_seen before)
  sound =
      let calls = calls_in before.view.seen in
      subst (λ l. IsSoundTree (tree_after before.view.first l)) (take_all (length calls) calls (omega arith))
      (histories_keep_sound before.view.first calls (length calls) (subst IsSoundTree (sym first_is) table.sound) legal)

  counted : node_count (tree_seen before) ≡ nodes
  counted =
      let first = before.view.first in
      let calls = calls_in before.view.seen in
      (λ i. first_stays first calls i + share_stays first calls i * cores_stay first calls i) ∙ (ap node_count first_is ∙ sym table.counted)

  same : tree_seen after ≡ tree_seen before
  same = same_tree before after on none

  pub rows_whole : (rows : ℕ) → rows ≡ sum_below (row_count (tree_seen after)) nodes → rows ≡ total_rows (tree_seen after)
  rows_whole rows is =
      is ∙ all_rows (tree_seen after) (subst IsSoundTree (sym same) sound) nodes (ap node_count same ∙ counted) few

  pub bytes_whole : (bytes : ℕ) → bytes ≡ sum_below (live_bytes (tree_seen after)) nodes → bytes ≡ total_bytes (tree_seen after)
  bytes_whole bytes is =
      is ∙ all_bytes (tree_seen after) (subst IsSoundTree (sym same) sound) nodes (ap node_count same ∙ counted) few

-- A core is about to count: it has only seen more than it had, and this is the count of the calls that it has seen.
pub record IsAbout (t : FileState) (initial core : FileHand) (count : ℕ) : Type 0 where
  pub may : MayCount t core
  pub only : OnlySaw initial core
  pub count_is : count ≡ length (calls_in core.view.seen)
  pub legal : IsLegal core.view.first (calls_in core.view.seen)

pub reserved_only : (a b : FileHand) → record b { spare = a.spare; room = a.room } ≡ a → OnlySaw a b
reserved_only a b same = record {
  frame = ap (λ (h : FileHand). record h { view = a.view }) same;
  view = ap (λ (h : FileHand). record h.view { seen = a.view.seen }) same;
  seen = subst (λ (v : View TreeState (Event Fact)). IsPrefix a.view.seen v.seen) (sym (ap (λ (h : FileHand). h.view) same))
      (begins_itself a.view.seen);
}

pub only_on : (a b c : FileHand) → OnlySaw a b → SawOn b c → OnlySaw a c
only_on a b c one two = record {
  frame = ap (λ (h : FileHand). record h { view = a.view; spare = a.spare; room = a.room }) two.frame ∙ one.frame;
  view = ap (λ (v : View TreeState (Event Fact)). record v { seen = a.view.seen }) two.view ∙ one.view;
  seen = begins_on a.view.seen b.view.seen c.view.seen one.seen two.seen;
}

module _ (t : FileState) (a b : FileHand) (only : OnlySaw a b) where
  pub only_between : IsBetweenCalls t a → IsBetweenCalls t b
  only_between between = record {
    table_is = ap (λ (h : FileHand). h.table) only.frame ∙ between.table_is;
    first_is = ap (λ (v : View TreeState (Event Fact)). v.first) only.view ∙ between.first_is;
    core_is = subst (λ n. n < length t.first.made) (sym (ap (λ (v : View TreeState (Event Fact)). v.core) only.view)) between.core_is;
    holds_none = ap (λ (h : FileHand). h.held) only.frame ∙ between.holds_none;
    none_held = ap (λ (v : View TreeState (Event Fact)). v.held) only.view ∙ between.none_held;
    none_waits = ap (λ (h : FileHand). h.waiting) only.frame ∙ between.none_waits;
  }

-- a look before the first count, and one behind each
pub about_to : (t : FileState) (initial before after : FileHand) (count : ℕ) → MayCount t before → OnlySaw initial before
    → Looked (IsLawfulLog (given_by t)) (StandsAt (given_by t)) before count after → IsAbout t initial after count
about_to t initial before after count may only looked = record {
  may = may_on before after (look_on t before after count looked) t may;
  only = only_on initial before after only (look_on t before after count looked);
  count_is = look_count t before after count looked;
  legal = look_legal t before after count looked;
}

module _ (t : FileState) (before counted after : FileHand) (count : ℕ) (begun : count ≡ length (calls_in before.view.seen)) (on : SawOn before counted)
    (looked : Looked (IsLawfulLog (given_by t)) (StandsAt (given_by t)) counted count after) where
  second : SawOn counted after
  second = look_on t counted after count looked

  -- where the next look counts as many calls none came meanwhile
  none : SawNoCall before after
  none = same_calls before.view.seen after.view.seen (on_and_on before counted after on second).seen (sym (look_count t counted after count looked) ∙ begun)

  pub none_came : SawNoCall before counted
  none_came = none_before before counted after on second none

  pub tree_stays : tree_seen counted ≡ tree_seen after
  tree_stays = sym (same_tree counted after second (none_behind before counted after on second none))
