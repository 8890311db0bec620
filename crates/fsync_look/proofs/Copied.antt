-- A core that holds a log to copy it, and lets it go.
use Rattle.std.proofs.Common.{◌≡◌, ◌<◌, ◌+◌, ◌∷◌, ◌++◌, ◌∙◌, ◌⊎◌, ℕ, zero, suc, List, [], length, reverse, slice_get, Option, Some, inl, inr, refl, sym, ap, subst, arith, length-append, append-nil, append_assoc, All, filter, eqb-true}
use Rattle.std.proofs.lemmas.Option.{option_and_then_some}
use Rattle.std.proofs.lemmas.List.Elements.{All-filter, filter_passes}
use Rattle.sfs_base.specs.declared.numbers.CoreId.{CoreId}
use Rattle.sfs_base.specs.declared.numbers.NodeId.{NodeId}
use Rattle.sfs_base.proofs.BasicOptions.{some_same}
use Rattle.tree_laws.specs.Tree.{TreeState}
use Rattle.tree_laws.specs.declared.changes.Change.{Change}
use Rattle.tree_laws.specs.Logged.{is_logged_in}
use Rattle.mem_cells.specs.Part.{CoreLog, mark_kept}
use Rattle.mem_cells.specs.Log.{is_from}
use Rattle.disk_nodes.specs.OldKept.{OldKept}
use Rattle.log_copy.specs.Copies.{KeepsOwn, KeepsFor, is_one_of}
use Rattle.stamp_table.specs.declared.event.Event.{Event}
use Rattle.stamp_table.specs.declared.view.View.{View}
use Rattle.stamp_table.specs.declared.held.HeldCell.{HeldCell}
use Rattle.stamp_table.specs.Rule.{Has}
use Rattle.stamp_table.specs.Hand.{places_of}
use Rattle.stamp_table.specs.Ascending.{LiesAbove, Falls}
use Rattle.stamp_table.specs.Table.{LetsGo, Stands, EachFrom, left_below}
use Rattle.stamp_table.proofs.Hands.{above_all}
use Rattle.stamp_table.proofs.Keeps.{begins_itself}
use Rattle.mem_values.specs.Start.{FileHand, FileState}
use Rattle.mem_values.specs.declared.cell.Cell.{Cell}
use Rattle.mem_values.specs.declared.cell.Cell.TheVariants as cell
use Rattle.mem_values.specs.declared.cell.PartCell.{PartCell}
use Rattle.mem_values.specs.declared.cell.Pending.{Pending}
use Rattle.mem_values.specs.declared.cell_id.CellId.TheVariants as id
use Rattle.mem_values.specs.declared.fact.Fact.{Fact}
use Rattle.mem_values.specs.Places.{cell_place}
use Rattle.mem_values.specs.Account.{account_of}
use Rattle.mem_values.specs.Facts.{IsLawfulLog}
use Rattle.mem_values.specs.Laws.{KnowsCell, KnowsCells}
use Rattle.mem_values.specs.Stands.{StandsAt, StandsPart, StandsPending, StandsForCell}
use Rattle.mem_values.specs.Logs.{own_logged}
use Rattle.mem_calls.specs.Table.{IsFileTable}
use Rattle.mem_calls.specs.Held.{as_part, as_pending, part_held, pending_held, value_held}
use Rattle.mem_calls.specs.Working.{IsWorking, Gains}
use Rattle.mem_calls.proofs.Cells.{has_reverse}
use Rattle.mem_calls.proofs.PutBack.{stands_now}
use Rattle.mem_calls.proofs.PartKept.{part_of_value}
use Rattle.fsync_look.specs.Look.{SawMore, IsCopyOf, AreCopies}
use Rattle.fsync_look.proofs.Cells.{AllBelow, of_last, left_last}

-- A core that holds a log: before that, and with it.
pub record LogLook : Type 0 where
  pub given : ℕ → Option OldKept
  pub t : FileState
  pub nodes : ℕ
  pub number : CoreId
  pub before : FileHand
  pub holding : FileHand

pub record LooksAtLog (s : LogLook) : Type 0 where
  pub table : IsFileTable s.t s.nodes
  pub was : IsWorking s.given s.t s.before
  pub within : s.number.0 < length s.t.first.made
  pub above : LiesAbove (cell_place s.nodes (id.Part s.number)) s.before.view.held
  pub work : IsWorking s.given s.t s.holding
  pub gains : Gains s.nodes (id.Part s.number) s.before s.holding

-- what stands for the cell of what was flushed of a node, by the value that it is
pub pending_of : (given : ℕ → Option OldKept) (first : TreeState) (log : List (Event Fact)) (node : NodeId) (value : Cell) (p : Pending)
    → as_pending value ≡ Some p
    → StandsForCell given first (account_of log) (id.Pending node) value → StandsPending given first (account_of log) node.0 p
pending_of given first log node (cell.Pending pending) p is stood = subst (StandsPending given first (account_of log) node.0) (some_same is) stood
pending_of given first log node (cell.Bucket bucket) p is stood = absurd stood
pending_of given first log node (cell.Lock lock) p is stood = absurd stood
pending_of given first log node (cell.Part part) p is stood = absurd stood
pending_of given first log node (cell.File file) p is stood = absurd stood

module _ (s : LogLook) (may : LooksAtLog s) where
  abbrev place : ℕ
  place = cell_place s.nodes (id.Part s.number)

  abbrev last : HeldCell Cell
  last = may.gains.held.0

  all_below : AllBelow place s.before.held
  all_below other has = above_all place other s.before.view.held may.above may.was.falls
      (subst (λ l. Has l other) (sym may.was.places) (has_reverse (places_of s.before.held) other has))

  last_is : last ≡ record { place = place; value = last.value }
  last_is = λ i. record { place = may.gains.held.2 i; value = last.value }

  held_is : s.holding.held ≡ s.before.held ++ record { place = place; value = last.value } ∷ []
  held_is = may.gains.held.1 ∙ ap (λ c. s.before.held ++ c ∷ []) last_is

  first_same : s.holding.view.first ≡ s.before.view.first
  first_same = ap (λ (v : View TreeState (Event Fact)). v.first) may.gains.on.view

  knows_last : (cells : List (HeldCell Cell)) (c : HeldCell Cell) → KnowsCells s.given s.holding.view (cells ++ c ∷ []) → KnowsCell s.given s.holding.view c
  knows_last [] c knows = knows.0
  knows_last (d ∷ cells) c knows = knows_last cells c knows.1

  -- the log that is held stands for what the core has seen
  stands_held : (p : PartCell) → part_held s.nodes s.holding.held s.number.0 ≡ Some p
      → StandsPart s.holding.view.first (account_of s.holding.view.seen) s.number.0 p
  stands_held p held =
      option_and_then_some as_part (value_held s.nodes s.holding.held (id.Part s.number)) p held
      (λ value found kind. part_of_value s.given s.holding.view.first (account_of s.holding.view.seen) s.number.0 value p kind
      (stands_now s.given s.t s.nodes s.holding may.table may.work (id.Part s.number) value may.within found))

  -- so each change that it keeps of a directory is one of this directory
  pub keeps_own : (p : PartCell) → part_held s.nodes s.holding.held s.number.0 ≡ Some p → KeepsOwn p.log
  keeps_own p held directory =
      let logged = own_logged s.holding.view.first s.number.0 (account_of s.holding.view.seen).calls in
      subst (All (λ (change : Change). change.dir.0 ≡ directory)) (sym ((stands_held p held).left.changes_left directory))
      (All-filter (is_from (mark_kept p.log directory)) (λ (change : Change). change.dir.0 ≡ directory) (filter (is_logged_in directory) logged)
      (λ k d less. eqb-true _ directory (filter_passes (is_logged_in directory) logged k d less)))

  -- the log goes home as it is
  pub goes_home : EachFrom place (Stands (IsLawfulLog s.given) (StandsAt s.given) s.holding.view) s.holding.held
  goes_home = subst (EachFrom place (Stands (IsLawfulLog s.given) (StandsAt s.given) s.holding.view)) (sym held_is)
      (of_last place (Stands (IsLawfulLog s.given) (StandsAt s.given) s.holding.view) s.before.held (record { place = place; value = last.value }) all_below
      (knows_last s.before.held (record { place = place; value = last.value }) (subst (KnowsCells s.given s.holding.view) held_is may.work.knows)).stood)

  -- what is known of what was held before, once only that is held
  knows_left : (view : View TreeState (Event Fact)) → record view { held = s.holding.view.held } ≡ s.holding.view → (cells : List (HeldCell Cell))
      → ((other : ℕ) → Has (places_of cells) other → Has view.held other) → KnowsCells s.given s.holding.view (cells ++ last ∷ [])
      → KnowsCells s.given view cells
  knows_left view same [] there knows = tt
  knows_left view same (c ∷ cells) there knows = (
    record {
      holds = there c.place (inl refl);
      stood = subst (λ (v : View TreeState (Event Fact)). StandsAt s.given v.first v.seen c.place c.value) (sym same) knows.0.stood;
    },
    knows_left view same cells (λ other has. there other (inr has)) knows.1,
  )

  module _ (after : FileHand) (lets : LetsGo s.holding after) (left : after.held ≡ left_below place s.holding.held)
      (places : after.view.held ≡ reverse (places_of after.held)) where
    pub held_after : after.held ≡ s.before.held
    held_after = left ∙ (ap (left_below place) held_is ∙ left_last place last.value s.before.held all_below)

    view_held : after.view.held ≡ s.before.view.held
    view_held = places ∙ (ap (λ (l : List (HeldCell Cell)). reverse (places_of l)) held_after ∙ sym may.was.places)

    pub saw_more : SawMore s.before after
    saw_more = record {
      frame =
          (λ i. record (lets.frame i) {
            view = s.before.view;
            held = held_after i;
            room = room_after i;
          })
          ∙ (λ i. record (may.gains.on.frame i) { view = s.before.view; held = s.before.held; room = s.before.room });
      view =
          (λ i. record (lets.view i) { seen = s.before.view.seen; held = view_held i })
          ∙ (λ i. record (may.gains.on.view i) { seen = s.before.view.seen; held = s.before.view.held });
      seen = (may.gains.on.seen.0, may.gains.on.seen.1 ∙ sym (ap (λ (v : View TreeState (Event Fact)). v.seen) lets.view));
    }
      where
        room_after : after.room ≡ s.before.room
        room_after =
            let one = may.gains.room in
            let held = ap length held_is ∙ length-append s.before.held (record { place = place; value = last.value } ∷ []) in
            let room = lets.room in
            let back = ap length held_after in
            omega (arith, one, held, room, back)

    pub works : IsWorking s.given s.t after
    works = record {
      table = ap (λ (h : FileHand). h.table) lets.frame ∙ may.work.table;
      first = ap (λ (v : View TreeState (Event Fact)). v.first) lets.view ∙ may.work.first;
      core = subst (λ n. n < length s.t.first.made) (sym (ap (λ (v : View TreeState (Event Fact)). v.core) lets.view)) may.work.core;
      places = places;
      falls = subst Falls (sym view_held) may.was.falls;
      knows = subst (KnowsCells s.given after.view) (sym held_after)
          (knows_left after.view lets.view s.before.held
          (λ other has. subst (λ l. Has l other) (sym (places ∙ ap (λ (l : List (HeldCell Cell)). reverse (places_of l)) held_after))
          (has_reverse (places_of s.before.held) other has))
          (subst (KnowsCells s.given s.holding.view) may.gains.held.1 may.work.knows));
    }

    -- a copy of the log that is held, as it stood for what the core had seen
    pub copied : (list : List NodeId) (p : PartCell) (copy : CoreLog) → part_held s.nodes s.holding.held s.number.0 ≡ Some p
        → KeepsFor (is_one_of list) p.log copy → IsCopyOf s.given s.nodes list s.before after s.number.0 copy
    copied list p copy held keeps = record {
      log = p.log;
      keeps = keeps;
      at = s.holding.view.seen;
      since = may.gains.on.seen;
      until = ([], append-nil s.holding.view.seen ∙ sym (ap (λ (v : View TreeState (Event Fact)). v.seen) lets.view));
      made = p.made;
      stands = subst (λ f. StandsPart f (account_of s.holding.view.seen) s.number.0 p) first_same (stands_held p held);
      kept = λ node pending lt held_was. subst (λ f. StandsPending s.given f (account_of s.holding.view.seen) node.0 pending) first_same
          (option_and_then_some as_pending (value_held s.nodes s.before.held (id.Pending node)) pending held_was
          (λ value found kind. pending_of s.given s.holding.view.first s.holding.view.seen node value pending kind
          (stands_now s.given s.t s.nodes s.holding may.table may.work (id.Pending node) value lt (may.gains.still.values (id.Pending node) value found))));
    }

-- what is found in a list with one more at its end
got_push : {A : Type 0} (xs : List A) (x : A) (k : ℕ) (y : A) → slice_get (xs ++ x ∷ []) k ≡ Some y → (slice_get xs k ≡ Some y) ⊎ ((k ≡ length xs) × (x ≡ y))
got_push [] x zero y is = inr (refl, some_same is)
got_push [] x (suc k) y is = absurd (cc (is))
got_push (z ∷ xs) x zero y is = inl is
got_push (z ∷ xs) x (suc k) y is = elim (got_push xs x k y is) [ inl there ↦ inl there | inr here ↦ inr (ap suc here.0, here.1) ]

pub saw_none : (hand : FileHand) → SawMore hand hand
saw_none hand = record { frame = refl; view = refl; seen = begins_itself hand.view.seen }

pub saw_again : (a b c : FileHand) → SawMore a b → SawMore b c → SawMore a c
saw_again a b c one two = record {
  frame = (λ i. record (two.frame i) { view = a.view }) ∙ one.frame;
  view = (λ i. record (two.view i) { seen = a.view.seen }) ∙ one.view;
  seen = (one.seen.0 ++ two.seen.0, sym (append_assoc a.view.seen one.seen.0 two.seen.0) ∙ (ap (λ l. l ++ two.seen.0) one.seen.1 ∙ two.seen.1));
}

-- no copies yet
pub copies_none : (given : ℕ → Option OldKept) (nodes : ℕ) (list : List NodeId) (hand : FileHand) → AreCopies given nodes 0 list hand hand []
copies_none given nodes list hand = record { count = refl; each = λ number log is. absurd (cc (is)) }

-- and one more
module _ (given : ℕ → Option OldKept) (nodes cores : ℕ) (begun before after : FileHand) (list : List NodeId)
    (logs : List CoreLog) (copies : AreCopies given nodes cores list begun before logs)
    (since : SawMore begun before) (saw : SawMore before after) where
  later : (number : ℕ) (log : CoreLog) → IsCopyOf given nodes list begun before number log → IsCopyOf given nodes list begun after number log
  later number log copy = record {
    log = copy.log;
    keeps = copy.keeps;
    at = copy.at;
    since = copy.since;
    until = (copy.until.0 ++ saw.seen.0, sym (append_assoc copy.at copy.until.0 saw.seen.0) ∙ (ap (λ l. l ++ saw.seen.0) copy.until.1 ∙ saw.seen.1));
    made = copy.made;
    stands = copy.stands;
    kept = copy.kept;
  }

  earlier : (number : ℕ) (log : CoreLog) → IsCopyOf given nodes list before after number log → IsCopyOf given nodes list begun after number log
  earlier number log copy =
      let first : before.view.first ≡ begun.view.first = ap (λ (v : View TreeState (Event Fact)). v.first) since.view in
      let held : before.held ≡ begun.held = ap (λ (h : FileHand). h.held) since.frame in
      record {
        log = copy.log;
        keeps = copy.keeps;
        at = copy.at;
        since = (
          since.seen.0 ++ copy.since.0,
          sym (append_assoc begun.view.seen since.seen.0 copy.since.0) ∙ (ap (λ l. l ++ copy.since.0) since.seen.1 ∙ copy.since.1),
        );
        until = copy.until;
        made = copy.made;
        stands = subst (λ f. StandsPart f (account_of copy.at) number (record { log = copy.log; made = copy.made })) first copy.stands;
        kept = λ node pending lt is. subst (λ f. StandsPending given f (account_of copy.at) node.0 pending) first
            (copy.kept node pending lt (ap (λ (l : List (HeldCell Cell)). pending_held nodes l node) held ∙ is));
      }

  pub copies_more : (log : CoreLog) → IsCopyOf given nodes list before after cores log → AreCopies given nodes (cores + 1) list begun after (logs ++ log ∷ [])
  copies_more log copy = record {
    count = length-append logs (log ∷ []) ∙ ap (λ n. n + 1) copies.count;
    each = λ number other is. elim (got_push logs log number other is) [
      | inl there ↦ later number other (copies.each number other there)
      | inr here ↦ subst (λ (z : ℕ × CoreLog). IsCopyOf given nodes list begun after z.0 z.1)
          (λ i. (sym (here.0 ∙ copies.count) i, here.1 i)) (earlier cores log copy)
    ];
  }
