-- A call keeps what stands for each cell that it keeps.
use Rattle.std.proofs.Common.{◌≡◌, ◌≢◌, ◌<◌, ◌∷◌, ◌++◌, ◌∙◌, ℕ, true, false, List, [], length, Option, inl, inr, sym, ap, subst, nat_eq, eq-eqb}
use Rattle.std.proofs.lemmas.Bool.{both_ways}
use Rattle.std.proofs.lemmas.List.Elements.{filter_map-append}
use Rattle.sfs_base.proofs.BasicTruth.{or_first, or_second}
use Rattle.tree_laws.specs.declared.changes.Change.{Change}
use Rattle.tree_laws.specs.declared.history.Entry.{Entry}
use Rattle.tree_laws.specs.Tree.{TreeState, bytes_of, made_by}
use Rattle.tree_laws.specs.Verdict.{verdict, tree_after_call}
use Rattle.tree_laws.specs.Effect.{Edit, Edits}
use Rattle.tree_laws.specs.Laws.{IsSoundTree}
use Rattle.tree_laws.specs.Lock.{needs_lock}
use Rattle.tree_laws.specs.History.{tree_after, IsLegal}
use Rattle.tree_laws.proofs.Histories.{tree_after-push}
use Rattle.tree_laws.proofs.KeepsRest.{calls_keep_the_rest}
use Rattle.mem_cells.specs.Laws.{IsLeftOf}
use Rattle.disk_nodes.specs.OldKept.{OldKept}
use Rattle.stamp_table.specs.Events.{called}
use Rattle.stamp_table.specs.declared.event.Event.TheVariants.{Called}
use Rattle.mem_values.specs.declared.cell.Cell.{Cell}
use Rattle.mem_values.specs.declared.cell.Cell.TheVariants as cell
use Rattle.mem_values.specs.declared.cell.FileCell.{FileCell}
use Rattle.mem_values.specs.declared.cell.Pending.{Pending}
use Rattle.mem_values.specs.declared.cell.PartCell.{PartCell}
use Rattle.mem_values.specs.declared.cell_id.CellId.{CellId}
use Rattle.mem_values.specs.declared.cell_id.CellId.TheVariants as id
use Rattle.mem_values.specs.declared.bucket.Bucket.{Bucket}
use Rattle.mem_values.specs.Account.{Account, account_of}
use Rattle.mem_values.specs.Stands.{ShowsBucket, file_links, StandsFile, StandsPending, StandsPart, StandsForCell}
use Rattle.mem_values.specs.Touches.{KeepsCell}
use Rattle.mem_values.specs.Laws.{CallsKeepCells}
use Rattle.mem_values.proofs.Moves.{legal_behind, legal_front, sound_after}
use Rattle.mem_values.proofs.Pushes.{with_call, account_called, last_move-push, own_logged-other, count-other, birthplace-push, last_touch-push}
use Rattle.mem_values.proofs.Kept.{same_tree, nothing_free, bucket_kept, links_kept, nothing_edits, untouched_edits, nothing_born, untouched_born}

module _ (given : ℕ → Option OldKept) (first : TreeState) (account : Account) (entry : Entry) (sound : IsSoundTree first)
    (legal : IsLegal first (account.calls ++ entry ∷ [])) where
  abbrev before : TreeState
  before = tree_after first account.calls

  abbrev after : TreeState
  after = tree_after_call before entry.core.0 entry.call

  after_is : tree_after first (account.calls ++ entry ∷ []) ≡ after
  after_is = tree_after-push first account.calls entry

  core_known : entry.core.0 < length before.made
  core_known = (legal_behind first 0 account.calls (entry ∷ []) legal).0.core

  before_sound : IsSoundTree before
  before_sound = sound_after first 0 account.calls sound (legal_front first 0 account.calls (entry ∷ []) legal)

  lock_kept : KeepsCell before entry.core.0 entry.call id.Lock → needs_lock before entry.core.0 entry.call ≡ false
  lock_kept keeps = elim keeps [ inl apart ↦ apart | inr nothing ↦ nothing_free before entry.core.0 entry.call nothing.0 ]

  bucket_stands : (node number : ℕ) (value : Bucket) → KeepsCell before entry.core.0 entry.call (id.Bucket (record { 0 = node }) number)
      → ShowsBucket before node number value → ShowsBucket (tree_after first (account.calls ++ entry ∷ [])) node number value
  bucket_stands node number value keeps shows = subst (λ t. ShowsBucket t node number value) (sym after_is) (elim keeps [
    | inl apart ↦ bucket_kept before entry.core.0 entry.call before_sound core_known node number value apart shows
    | inr nothing ↦ subst (λ t. ShowsBucket t node number value) (sym (same_tree before entry.core.0 entry.call nothing.0)) shows
  ])

  no_edit : (node : ℕ) → KeepsCell before entry.core.0 entry.call (id.File (record { 0 = node })) → (edit : Edit)
      → (verdict before entry.core.0 entry.call).effect ≢ Edits node edit
  no_edit node keeps edit = elim keeps [
    | inl apart ↦ untouched_edits before entry.core.0 entry.call node edit (or_first _ _ apart)
    | inr nothing ↦ nothing_edits before entry.core.0 entry.call node edit nothing.0
  ]

  links_stay : (node : ℕ) → KeepsCell before entry.core.0 entry.call (id.File (record { 0 = node })) → file_links after node ≡ file_links before node
  links_stay node keeps = elim keeps [
    | inl apart ↦ links_kept before entry.core.0 entry.call before_sound core_known node (or_second _ _ apart)
    | inr nothing ↦ ap (λ t. file_links t node) (same_tree before entry.core.0 entry.call nothing.0)
  ]

  bytes_stay : (node : ℕ) → KeepsCell before entry.core.0 entry.call (id.File (record { 0 = node })) → bytes_of after node ≡ bytes_of before node
  bytes_stay node keeps = elim keeps [
    | inl apart ↦ (calls_keep_the_rest before entry.core.0 entry.call before_sound core_known).bytes node (or_first _ _ apart)
    | inr nothing ↦ ap (λ t. bytes_of t node) (same_tree before entry.core.0 entry.call nothing.0)
  ]

  file_stands : (node : ℕ) (value : FileCell) → KeepsCell before entry.core.0 entry.call (id.File (record { 0 = node }))
      → StandsFile first account.calls node value → StandsFile first (account.calls ++ entry ∷ []) node value
  file_stands node value keeps stood = record {
    links = stood.links ∙ (sym (links_stay node keeps) ∙ ap (λ t. file_links t node) (sym after_is));
    bytes = stood.bytes ∙ (sym (bytes_stay node keeps) ∙ ap (λ t. bytes_of t node) (sym after_is));
    marks = λ block. stood.marks block ∙ sym (last_touch-push first account.calls entry node block (no_edit node keeps));
  }

  pending_stands : (node : ℕ) (value : Pending) → KeepsCell before entry.core.0 entry.call (id.Pending (record { 0 = node }))
      → StandsPending given first account node value → StandsPending given first (with_call account entry) node value
  pending_stands node value keeps stood = record {
    flushed = stood.flushed;
    made_in = stood.made_in ∙ sym (birthplace-push first account.calls entry node (elim keeps [
      | inl apart ↦ untouched_born before entry.core.0 entry.call entry.stamp.0 node apart
      | inr nothing ↦ nothing_born before entry.core.0 entry.call entry.stamp.0 node nothing.0
    ]));
    trimmed = λ writer member last has part lt. stood.trimmed writer member last has part lt;
  }

  part_stands : (core : ℕ) (value : PartCell) → (nat_eq entry.core.0 core) ≡ false → StandsPart first account core value
      → StandsPart first (with_call account entry) core value
  part_stands core value other stood = record {
    left =
        subst (λ (z : List Change × ℕ). IsLeftOf z.0 z.1 value.log)
        (λ i. (sym (own_logged-other first core account.calls entry other) i, ap length (sym (count-other core account.calls entry other)) i)) stood.left;
    made =
        stood.made
        ∙ (sym
        ((calls_keep_the_rest before entry.core.0 entry.call before_sound core_known).others core
        (λ same. both_ways (nat_eq entry.core.0 core) other (eq-eqb entry.core.0 core (sym same))))
        ∙ ap (λ t. made_by t core) (sym after_is));
    kept =
        record {
          capped = λ directory. stood.kept.capped directory;
          trimmed = λ commit directory among trimmed member. stood.kept.trimmed commit directory among trimmed member;
        };
  }

  apart_part : (core : ℕ) → KeepsCell before entry.core.0 entry.call (id.Part (record { 0 = core })) → nat_eq entry.core.0 core ≡ false
  apart_part core keeps = elim keeps [ inl apart ↦ apart | inr nothing ↦ absurd (let never : true ≡ false = nothing.1 in cc) ]

  keep : (which : CellId) (value : Cell) → KeepsCell before entry.core.0 entry.call which → StandsForCell given first account which value
      → StandsForCell given first (with_call account entry) which value
  keep id.Lock (cell.Lock lock) keeps stood = stood ∙ sym (last_move-push first account.calls entry (lock_kept keeps))
  keep id.Lock (cell.Bucket b) keeps stood = absurd stood
  keep id.Lock (cell.File f) keeps stood = absurd stood
  keep id.Lock (cell.Pending p) keeps stood = absurd stood
  keep id.Lock (cell.Part p) keeps stood = absurd stood
  keep (id.Bucket node number) (cell.Lock lock) keeps stood = absurd stood
  keep (id.Bucket node number) (cell.Bucket b) keeps stood = bucket_stands node.0 number b.value keeps stood
  keep (id.Bucket node number) (cell.File f) keeps stood = absurd stood
  keep (id.Bucket node number) (cell.Pending p) keeps stood = absurd stood
  keep (id.Bucket node number) (cell.Part p) keeps stood = absurd stood
  keep (id.File node) (cell.Lock lock) keeps stood = absurd stood
  keep (id.File node) (cell.Bucket b) keeps stood = absurd stood
  keep (id.File node) (cell.File f) keeps stood = file_stands node.0 f.value keeps stood
  keep (id.File node) (cell.Pending p) keeps stood = absurd stood
  keep (id.File node) (cell.Part p) keeps stood = absurd stood
  keep (id.Pending node) (cell.Lock lock) keeps stood = absurd stood
  keep (id.Pending node) (cell.Bucket b) keeps stood = absurd stood
  keep (id.Pending node) (cell.File f) keeps stood = absurd stood
  keep (id.Pending node) (cell.Pending p) keeps stood = pending_stands node.0 p.value keeps stood
  keep (id.Pending node) (cell.Part p) keeps stood = absurd stood
  keep (id.Part core) (cell.Lock lock) keeps stood = absurd stood
  keep (id.Part core) (cell.Bucket b) keeps stood = absurd stood
  keep (id.Part core) (cell.File f) keeps stood = absurd stood
  keep (id.Part core) (cell.Pending p) keeps stood = absurd stood
  keep (id.Part core) (cell.Part p) keeps stood = part_stands core.0 p.value (apart_part core.0 keeps) stood

pub calls_keep_cells : CallsKeepCells
calls_keep_cells given first log entry which value sound legal keeps stood =
    subst (λ a. StandsForCell given first a which value) (sym (account_called log entry))
    (keep given first (account_of log) entry sound
    (subst (λ l. IsLegal first l) (filter_map-append called log (Called entry ∷ [])) legal) which value keeps stood)
