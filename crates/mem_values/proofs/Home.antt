-- The values with which cells go home.
use mathlib.Core.Logic.{dite}
use native.Mathlib.Decide.{ℕ_discrete}
use Rattle.std.specs.Prelude.{if◌then◌else◌, All, nat_le}
use Rattle.std.specs.Option.{option_or}
use Rattle.std.proofs.Common.{◌≡◌, ◌≤◌, ◌+◌, ◌==◌, ◌∷◌, ◌++◌, ◌⊎◌, ◌∙◌, ℕ, Bool, true, false, List, [], length, filter, max, Option, Some, None, option_map, inl, inr, refl, sym, ap, subst, eq-eqb, length-append, arith, ⊎_elim, map}
use Rattle.std.proofs.lemmas.Bool.{cases_Bool, eqb-true, leb-true, leb-false}
use Rattle.std.proofs.lemmas.List.Elements.{filter_map-append, All-cons, All-nil, All-append, All-filter}
use Rattle.sfs_base.specs.declared.numbers.Stamp.{Stamp}
use Rattle.sfs_base.specs.declared.numbers.Kind.{Kind}
use Rattle.sfs_base.specs.declared.numbers.NodeId.{NodeId}
use Rattle.sfs_base.proofs.BasicOptions.{some_same}
use Rattle.tree_laws.specs.declared.changes.Change.{Change}
use Rattle.tree_laws.specs.Tree.{TreeState, row_of, made_by}
use Rattle.tree_laws.specs.Effect.{Effect, Stays, Adds, Removes, Moves, Edits}
use Rattle.tree_laws.specs.Logged.{logged_by, logged_replaced, is_logged_in}
use Rattle.tree_laws.specs.History.{tree_after, IsLegal}
use Rattle.tree_laws.specs.Merged.{is_core}
use Rattle.tree_laws.specs.Verdict.{verdict}
use Rattle.tree_laws.specs.NameRow.{node_number}
use Rattle.mem_cells.specs.Laws.{IsLeftOf}
use Rattle.mem_cells.specs.Part.{IsTrimmed, mark_kept, changes_kept}
use Rattle.mem_cells.specs.Log.{is_from}
use Rattle.mem_cells.proofs.Left.{entries_are_kept, trims_keep}
use Rattle.disk_nodes.specs.OldKept.{OldKept}
use Rattle.cut_laws.specs.Rules.{IsOneOf}
use Rattle.cut_laws.proofs.Basics.{in_left, in_right, in_either}
use Rattle.stamp_table.specs.declared.event.Event.{Event}
use Rattle.stamp_table.specs.declared.event.Event.TheVariants.{Called, Told}
use Rattle.stamp_table.specs.Events.{called, calls_in}
use Rattle.mem_values.specs.declared.fact.Fact.{Fact}
use Rattle.mem_values.specs.declared.fact.Fact.TheVariants.{Committed}
use Rattle.mem_values.specs.declared.fact.HeldNode.{HeldNode}
use Rattle.mem_values.specs.declared.cell.Cell.TheVariants as cell
use Rattle.mem_values.specs.declared.cell.PartCell.{PartCell}
use Rattle.mem_values.specs.declared.cell_id.CellId.TheVariants as id
use Rattle.mem_values.specs.Account.{Commitment, Trimming, account_of, held_by, last_writer, writes_by}
use Rattle.mem_values.specs.Logs.{entry_logged, own_logged, last_move}
use Rattle.mem_values.specs.Stands.{flushed_by, IsTrimmedFor, IsCapped, StandsPart, StandsPending, StandsForCell, KeepFrom}
use Rattle.mem_values.specs.Facts.{IsLawfulLog}
use Rattle.mem_values.specs.Telling.{commit_by}
use Rattle.mem_values.specs.Home.{MovedLocksStand, PartsTakeEntries, TrimmedPartsStand, ToldPartsStand, WrittenNodesStand, OwnNodesStand}
use Rattle.mem_values.proofs.Moves.{last_move-append, legal_behind}
use Rattle.mem_values.proofs.Pushes.{account_called, own_logged-push, count-own}
use Rattle.mem_values.proofs.Told.{with_trimming, account_trimmed, last_writer-push, account_committed}
use Rattle.mem_values.proofs.Committed.{cuts_within, raised, one_commit}
use Rattle.mem_values.proofs.Lasting.{commits_stay_last}

pub moved_locks_stand : MovedLocksStand
moved_locks_stand given first log entry lock moves is =
    subst (λ a. StandsForCell given first a id.Lock (cell.Lock lock)) (sym (account_called log entry))
    (ap (option_map (λ (s : Stamp). s.0)) is
    ∙ sym (last_move-append first None (calls_in log) (entry ∷ []) ∙ ap (λ b. if b then Some entry.stamp.0 else last_move first None (calls_in log)) moves))

-- what an effect logs has its stamp, which no mark is above
module _ (tree : TreeState) (core stamp : ℕ) (mark : ℕ → ℕ) (below : (directory : ℕ) → mark directory ≤ stamp) where
  abbrev IsAbove : Change → Type 0
  IsAbove change = mark change.dir.0 ≤ change.stamp.0

  replaced_above : (p q : ℕ) (m : List ℕ) (row : Option ℕ) → All IsAbove (logged_replaced tree stamp p q m row)
  replaced_above p q m None = All-nil IsAbove
  replaced_above p q m (Some there) = All-cons IsAbove _ [] (below q) (All-nil IsAbove)

  two_more : (changes : List Change) (x y : Change) → All IsAbove changes → IsAbove x → IsAbove y → All IsAbove (changes ++ x ∷ y ∷ [])
  two_more changes x y all one two = All-append IsAbove changes (x ∷ y ∷ []) all (All-cons IsAbove x (y ∷ []) one (All-cons IsAbove y [] two (All-nil IsAbove)))

  logged_above : (effect : Effect) (makes : Option Kind) → All IsAbove (logged_by tree core stamp effect makes)
  logged_above Stays makes = All-nil IsAbove
  logged_above (Adds d n c) makes = All-cons IsAbove _ [] (below d) (All-nil IsAbove)
  logged_above (Removes d n c) makes = All-cons IsAbove _ [] (below d) (All-nil IsAbove)
  logged_above (Moves p n q m c) makes = two_more _ _ _ (replaced_above p q m (row_of tree q m)) (below p) (below q)
  logged_above (Edits file edit) makes = All-nil IsAbove

-- no mark of a log is above the calls
marks_within : (given : ℕ → Option OldKept) (first : TreeState) (log : List (Event Fact)) (directory mark : ℕ) → IsLawfulLog given first log
    → IsCapped (account_of log) directory mark → mark ≤ length (calls_in log)
marks_within given first log directory mark lawful capped = elim capped [
  | inl none ↦ omega (arith, none)
  | inr below ↦ let w = cuts_within given first log below.0 directory below.1 lawful below.2 below.3 in let le = below.4 in omega (arith, w, le)
]

pub parts_take_entries : PartsTakeEntries
parts_take_entries given first log entry part after legal lawful stood added made =
    let calls = calls_in log in
    let core = entry.core.0 in
    let legal_calls : IsLegal first (calls ++ entry ∷ []) = subst (λ l. IsLegal first l) (filter_map-append called log (Called entry ∷ [])) legal in
    let stamped : entry.stamp.0 ≡ 0 + length calls = (legal_behind first 0 calls (entry ∷ []) legal_calls).0.stamped in
    let own : is_core core entry ≡ true = eq-eqb core core refl in
    let above : All (λ (change : Change). mark_kept part.log change.dir.0 ≤ change.stamp.0) (entry_logged (tree_after first calls) entry) =
    logged_above (tree_after first calls) core entry.stamp.0 (mark_kept part.log)
    (λ d. let w = marks_within given first log d (mark_kept part.log d) lawful (stood.kept.capped d) in omega (arith, w, stamped))
    (verdict (tree_after first calls) core entry.call).effect (verdict (tree_after first calls) core entry.call).makes in
    let left =
    entries_are_kept (own_logged first core calls) (entry_logged (tree_after first calls) entry)
    (length (filter (is_core core) calls)) part.log after.log stood.left above added in
    let logged : own_logged first core (calls ++ entry ∷ []) ≡ own_logged first core calls ++ entry_logged (tree_after first calls) entry =
    own_logged-push first core calls entry ∙ ap (λ b. own_logged first core calls ++ (if b then entry_logged (tree_after first calls) entry else [])) own in
    let counted : length (filter (is_core core) (calls ++ entry ∷ [])) ≡ length (filter (is_core core) calls) + 1 =
    ap length (count-own core calls entry own) ∙ length-append (filter (is_core core) calls) (entry ∷ []) in
    subst (λ a. StandsPart first a core after) (sym (account_called log entry)) (record {
      left = subst (λ (z : List Change × ℕ). IsLeftOf z.0 z.1 after.log) (λ i. (sym logged i, sym counted i)) left;
      made = made ∙ ap (λ l. made_by (tree_after first l) core) (filter_map-append called log (Called entry ∷ []));
      kept = record {
        capped = λ d. subst (λ m. IsCapped (account_of log) d m) (sym (added.marks d)) (stood.kept.capped d);
        trimmed = λ commit d among trimmed member. subst (KeepFrom commit.stamp) (sym (added.changes d))
            (All-append (λ (change : Change). commit.stamp ≤ change.stamp.0) (changes_kept part.log d)
            (filter (is_logged_in d) (entry_logged (tree_after first calls) entry)) (stood.kept.trimmed commit d among trimmed member)
            (All-filter (is_logged_in d) (λ (change : Change). commit.stamp ≤ change.stamp.0) (entry_logged (tree_after first calls) entry)
            (logged_above (tree_after first calls) core entry.stamp.0 (λ _. commit.stamp)
            (λ _. let raises = raised given first log commit d lawful among member in
            let w = cuts_within given first log commit d raises.0 lawful among raises.1 in let r = raises.2 in omega (arith, w, r, stamped))
            (verdict (tree_after first calls) core entry.call).effect (verdict (tree_after first calls) core entry.call).makes)));
      };
    })

-- a trimmed log's mark is not lower, and where it is higher it is the stamp
mark_by : (b : Bool) (old below new : ℕ) → new ≡ (if b then max old below else old) → (old ≤ new) × ((new ≡ old) ⊎ ((b ≡ true) × (new ≡ below)))
mark_by false old below new is = (omega (arith, is), inl is)
mark_by true old below new is = (
  (omega (arith, is)),
  ⊎_elim (λ le. inr (refl, (let l = leb-true old below le in omega (arith, is, l)))) (λ gt. inl (let l = leb-false old below gt in omega (arith, is, l)))
      (cases_Bool (nat_le old below)),
)

module _ (given : ℕ → Option OldKept) (first : TreeState) (log : List (Event Fact)) (core : ℕ) (commit : Commitment) (directory : ℕ) (part after : PartCell)
    (lawful : IsLawfulLog given first log)
    (among : IsOneOf (account_of log).commits commit) (member : IsOneOf commit.members directory) (stood : StandsPart first (account_of log) core part)
    (trimmed : IsTrimmed part.log directory commit.stamp after.log) where
  new_mark : (d : ℕ)
      → (mark_kept part.log d ≤ mark_kept after.log d)
      × ((mark_kept after.log d ≡ mark_kept part.log d) ⊎ (((d == directory) ≡ true) × (mark_kept after.log d ≡ commit.stamp)))
  new_mark d = mark_by (d == directory) (mark_kept part.log d) commit.stamp (mark_kept after.log d) (trimmed.logs.marks d)

  still_capped : (d : ℕ) → IsCapped (account_of log) d (mark_kept after.log d)
  still_capped d = elim (new_mark d).1 [
    | inl same ↦ subst (λ m. IsCapped (account_of log) d m) (sym same) (stood.kept.capped d)
    | inr up ↦
        let raises = raised given first log commit directory lawful among member in
        let here : d ≡ directory = eqb-true d directory up.0 in
        subst (λ m. IsCapped (account_of log) d m) (sym up.1) (inr (commit, raises.0, among, ap (held_by commit) here ∙ raises.1, raises.2))
  ]

  kept_still : (other : Commitment) (d : ℕ) (b : Bool) → KeepFrom other.stamp (changes_kept part.log d)
      → KeepFrom other.stamp (if b then filter (is_from commit.stamp) (changes_kept part.log d) else changes_kept part.log d)
  kept_still other d true kept = All-filter (is_from commit.stamp) (λ (change : Change). other.stamp ≤ change.stamp.0) (changes_kept part.log d) kept
  kept_still other d false kept = kept

  trimmed_stands : after.made ≡ part.made → StandsPart first (account_of log) core after
  trimmed_stands made = record {
    left =
        trims_keep (own_logged first core (calls_in log))
        (length (filter (is_core core) (calls_in log))) part.log directory commit.stamp after.log stood.left trimmed;
    made = made ∙ stood.made;
    kept = record {
      capped = still_capped;
      trimmed = λ other d one is_trimmed is_member. subst (KeepFrom other.stamp) (sym (trimmed.logs.changes d))
          (kept_still other d (d == directory) (stood.kept.trimmed other d one is_trimmed is_member));
    };
  }

pub trimmed_parts_stand : TrimmedPartsStand
trimmed_parts_stand given first log core commit directory part after lawful among member stood trimmed made =
    trimmed_stands given first log core commit directory part after lawful among member stood trimmed made

pub told_parts_stand : ToldPartsStand
told_parts_stand given first log commit by part value lawful among own stood marks =
    let trimming : Trimming = record { core = by.0; number = commit.number; part = part.0 } in
    subst (λ a. StandsPart first a part.0 value) (sym (account_trimmed log by commit.number part)) (record {
      left = stood.left;
      made = stood.made;
      kept = record {
        capped = λ d. stood.kept.capped d;
        trimmed =
            λ other d one is_trimmed member. elim (in_either (account_of log).trimmings (trimming ∷ [])
            (record { core = other.core; number = other.number; part = part.0 }) is_trimmed) [
              | inl old ↦ stood.kept.trimmed other d one old member
              | inr new ↦ elim new [
                | inl same ↦
                    let core_is : commit.core ≡ other.core = own ∙ ap (λ (t : Trimming). t.core) same in
                    let number_is : commit.number ≡ other.number = ap (λ (t : Trimming). t.number) same in
                    let one_is : commit ≡ other = one_commit given first log commit other lawful among one core_is number_is in
                    subst (λ c. KeepFrom c.stamp (changes_kept value.log d)) one_is
                    (marks d (subst (λ (c : Commitment). IsOneOf c.members d) (sym one_is) member))
                | inr none ↦ absurd none
              ]
            ];
      };
    })

pub written_nodes_stand : WrittenNodesStand
written_nodes_stand given first before after core part number node stamp members held of member what pending lawful known has not others holds wrote born =
    let commit : Commitment = commit_by core.0 number node stamp members held in
    let log : List (Event Fact) = before ++ Told core (Committed number node stamp members held) ∷ after in
    let trimming : Trimming = record { core = core.0; number = number; part = part.0 } in
    let last = commits_stay_last given first before after core number node stamp members held part.0 of member what lawful known has not holds in
    subst (λ a. StandsPending given first a of pending) (sym (account_trimmed log core number part)) (record {
      flushed = wrote ∙ ap (flushed_by given of) (sym last);
      made_in = born;
      trimmed =
          λ writer _ is _ other lt. subst (λ (w : Commitment × HeldNode). IsTrimmedFor (with_trimming (account_of log) trimming) w.0 other)
          (some_same (sym last ∙ is)) (dite (ℕ_discrete other part.0)
          (λ same. in_right (account_of log).trimmings (trimming ∷ []) (record { core = core.0; number = number; part = other })
          (inl (λ i. record { core = core.0; number = number; part = sym same i })))
          (λ apart. in_left (account_of log).trimmings (trimming ∷ []) (record { core = core.0; number = number; part = other }) (others other lt apart)));
    })

pub own_nodes_stand : OwnNodesStand
own_nodes_stand given first log core number node stamp members held of what pending none holds wrote born =
    let commit : Commitment = commit_by core.0 number node stamp members held in
    let last : last_writer of ((account_of log).commits ++ commit ∷ []) ≡ Some (commit, what) =
    last_writer-push of (account_of log).commits commit ∙ ap (λ o. option_or (writes_by commit o) (last_writer of (account_of log).commits)) holds in
    subst (λ a. StandsPending given first a of pending) (sym (account_committed log core number node stamp members held)) (record {
      flushed = wrote ∙ ap (flushed_by given of) (sym last);
      made_in = born;
      trimmed = λ writer member is has part lt.
          absurd (subst (λ (l : List NodeId). IsOneOf (map node_number l) member) none
          (subst (λ (w : Commitment × HeldNode). IsOneOf w.0.members member) (some_same (sym is ∙ last)) has));
    })
