-- The first of workers at rest counts behind all calls of theirs.
use Rattle.std.proofs.Common.{◌≡◌, ◌<◌, ◌≤◌, ◌∷◌, ◌∙◌, ℕ, zero, suc, List, [], Result, Ok, Err, length, refl, sym, ap, subst, arith, slice_set}
use Rattle.std.specs.Prelude.{All, IfOk, slice_index_or}
use Rattle.tree_laws.specs.Tree.{TreeState}
use Rattle.tree_totals.specs.Totals.{total_bytes, total_rows}
use Rattle.tree_totals.specs.declared.counted.TreeTotals.{TreeTotals}
use Rattle.stamp_table.specs.declared.event.Event.{Event}
use Rattle.stamp_table.specs.declared.view.View.{View}
use Rattle.stamp_table.specs.Events.{calls_in}
use Rattle.stamp_table.specs.Table.{IsBetweenCalls, Looked}
use Rattle.stamp_table.proofs.Keeps.{begins_on}
use Rattle.mem_values.specs.Facts.{IsLawfulLog}
use Rattle.mem_values.specs.Stands.{StandsAt}
use Rattle.mem_values.specs.Start.{FileHand, FileState, given_by}
use Rattle.mem_values.specs.declared.fact.Fact.{Fact}
use Rattle.mem_values.proofs.Told.{calls_grow}
use Rattle.workers.specs.Phases.{AreBefore}
use Rattle.workers.specs.declared.worker.Worker.{Worker}
use Rattle.table_totals.specs.Rest.{AreAtRest, AreTotalsAtEnd, FirstSaw}
use Rattle.table_totals.specs.Seen.{OnlySaw, SawOn, tree_seen}
use Rattle.table_totals.proofs.Ends.{tree_is}
use Rattle.table_totals.proofs.Whole.{look_count, look_on}

-- a look, and what was seen behind it
on_only : (a b c : FileHand) → SawOn a b → OnlySaw b c → OnlySaw a c
on_only a b c one two = record {
  frame = ap (λ (h : FileHand). record h { view = a.view; spare = a.spare; room = a.room }) two.frame
      ∙ ap (λ (h : FileHand). record h { view = a.view; spare = a.spare; room = a.room }) one.frame;
  view = ap (λ (v : View TreeState (Event Fact)). record v { seen = a.view.seen }) two.view ∙ one.view;
  seen = begins_on a.view.seen b.view.seen c.view.seen one.seen two.seen;
}

-- workers whose first has another core
abbrev pub with_core : {P : Type 0} → List (Worker P) → Worker P → FileHand → List (Worker P)
with_core workers d now = slice_set workers 0 (record (slice_index_or workers 0 d) { core = now })

saw_first : {P : Type 0} (workers : List (Worker P)) (d : Worker P) (now : FileHand) → 0 < length workers → OnlySaw (slice_index_or workers 0 d).core now
    → FirstSaw workers (with_core workers d now)
saw_first [] d now some saw = absurd (omega (arith, some))
saw_first (w ∷ ws) d now some saw = record { was = w; others = ws; now = now; before_is = refl; after_is = refl; saw = saw }

-- The first worker's core looked for so many calls, and saw more.
pub record FirstLooked {P : Type 0} (t : FileState) (workers : List (Worker P)) (last : ℕ) (d : Worker P) (mid now : FileHand) : Type 0 where
  pub rest : AreAtRest t workers
  pub until : All (λ worker. worker.until ≤ last) workers
  pub number : ℕ
  pub looked : Looked (IsLawfulLog (given_by t)) (StandsAt (given_by t)) (slice_index_or workers 0 d).core number mid
  pub enough : last ≤ number
  pub saw : OnlySaw mid now
  pub between : IsBetweenCalls t now

module _ {P : Type 0} (t : FileState) (last : ℕ) (d : Worker P) (mid now : FileHand) where
  only_now : (workers : List (Worker P)) → FirstLooked t workers last d mid now → OnlySaw (slice_index_or workers 0 d).core now
  only_now workers first =
      on_only (slice_index_or workers 0 d).core mid now (look_on t (slice_index_or workers 0 d).core mid first.number first.looked) first.saw

  pub first_saw : (workers : List (Worker P)) → FirstLooked t workers last d mid now → FirstSaw workers (with_core workers d now)
  first_saw workers first = saw_first workers d now first.rest.some (only_now workers first)

  -- what it counts is what the tree has after each history to which they come
  pub counts_at_end : (workers : List (Worker P)) → FirstLooked t workers last d mid now → (found : TreeTotals) → found.rows ≡ total_rows (tree_seen now)
      → found.bytes ≡ total_bytes (tree_seen now) → AreTotalsAtEnd t (with_core workers d now) found
  counts_at_end [] first found rows bytes history come = absurd (let some = first.rest.some in omega (arith, some))
  counts_at_end (w ∷ ws) first found rows bytes history come =
      let tree = tree_is t (record w { core = now }) ws last first.rest.count past until seen first.between.first_is history come in
      record { rows = rows ∙ ap total_rows tree; bytes = bytes ∙ ap total_bytes tree }
    where
      entries : now.entries ≡ w.core.entries
      entries = ap (λ (h : FileHand). h.entries) (only_now (w ∷ ws) first).frame

      past : All (λ (worker : Worker P). AreBefore worker.until worker.core.entries) (record w { core = now } ∷ ws)
      past zero x within = subst (AreBefore w.until) (sym entries) (first.rest.past 0 w (omega arith))
      past (suc k) x within = first.rest.past (suc k) x within

      until : All (λ (worker : Worker P). worker.until ≤ last) (record w { core = now } ∷ ws)
      until zero x within = first.until 0 w (omega arith)
      until (suc k) x within = first.until (suc k) x within

      seen : last ≤ length (calls_in now.view.seen)
      seen =
          let enough = first.enough in
          let count = look_count t w.core mid first.number first.looked in
          let grows = calls_grow mid.view.seen now.view.seen first.saw.seen in
          omega (arith, enough, count, grows)

-- what follows from two facts of an answer
pub if_both : {A E : Type 0} {P Q R : A → Type 0} (r : Result A E) → ((x : A) → P x → Q x → R x) → IfOk r P → IfOk r Q → IfOk r R
if_both (Ok x) follows one two = follows x one two
if_both (Err e) follows one two = one
