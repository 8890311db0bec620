-- A part's counts, as one of its logs becomes another one.
use Rattle.std.specs.BTreeMap.{is_at, insert_entry}
use Rattle.std.specs.Cmp.{eq_by_cmp_equiv, nat_cmp_total}
use Rattle.std.specs.Map.{lookup, values_of, keys_of}
use Rattle.std.specs.List.Sorted.{IsStrictlySortedBy}
use Rattle.std.proofs.Common.{◌≡◌, ◌∙◌, ◌+◌, ◌≤◌, ◌∷◌, ◌++◌, ◌<◌, ◌-◌, ◌^◌, ℕ, nat_cmp, nat_eq, ⊎_elim, subst, sym, arith, List, cond, ap, Option, unwrap_or, Some, IsSome, Bool, true, refl, false, sum_by, [], None, length, eqb-true, option_map, max, filter, length-append}
use Rattle.std.proofs.lemmas.Bool.{cases_order}
use Rattle.std.proofs.lemmas.List.Sums.{count_by-le-length, sum_by_push, sum_by-cons}
use Rattle.std.proofs.lemmas.Bool.Decides.{nat_tests}
use Rattle.sfs_base.proofs.BasicNumbers.{same_number, turned}
use Rattle.sfs_base.proofs.BasicOptions.{none_some, some_same}
use Rattle.tree_laws.specs.declared.changes.Change.{Change}
use Rattle.mem_cells.specs.Log.{Log, is_from}
use Rattle.mem_cells.specs.Named.{IsReplaced, AreEqualLogs, namings_of, CountsNamings, roomy_log, pushed_log, trimmed_log, names_node, namings_in, changes_count, room_count, TrimsLog}
use Rattle.mem_cells.specs.Part.{log_of, blank_log, PutsChange, AreTrimmed, AreSameLogs, AscendByDirectory}
use Rattle.mem_cells.proofs.Logs.{at_same, at_less, at_greater, at_is}
use Rattle.std.proofs.lemmas.Map.{lookup-set_value, keys-set_value}
use Rattle.std.proofs.lemmas.Map.Steps.{set_value_same}
use Rattle.std.proofs.lemmas.Map.Entries.{sum_by-set_value, sum_by-insert_entry}

-- numbers that are not equal
pub differ : (a b : ℕ) → (a ≡ b → ⊥) → nat_eq a b ≡ false
differ a b apart = grind (arith, nat_tests)

-- whether a number is found at another one is whether they are equal
pub at_equal : (number other : ℕ) → is_at (nat_cmp number) other ≡ nat_eq number other
at_equal number other =
    ⊎_elim (λ same. subst (λ n. is_at (nat_cmp number) n ≡ nat_eq number n) same (at_same number ∙ sym (same_number number)))
    (⊎_elim (λ below. at_less number other below ∙ sym (differ number other (λ same. omega arith)))
    (λ above. at_greater number other above ∙ sym (differ number other (λ same. omega arith)))) (cases_order number other)

-- each directory's log, once that of one is another
pub replaced_log : (logs after : List (ℕ × Log)) (directory : ℕ) (log next : Log) → IsReplaced logs directory log next after → (other : ℕ)
    → log_of after other ≡ cond (nat_eq directory other) next (log_of logs other)
replaced_log logs after directory log next replaced other =
    ap (λ (those : List (ℕ × Log)). log_of those other) replaced.is
    ∙ ap (λ (found : Option Log). unwrap_or found blank_log)
    (lookup-set_value (eq_by_cmp_equiv nat_cmp_total) (is_at (nat_cmp directory)) (λ x y found. one_place x y (at_is directory x found)) other next logs
    (some_found replaced.was))
    ∙ ap (λ b. unwrap_or (cond b (Some next) (lookup (is_at (nat_cmp other)) logs)) blank_log) (at_equal directory other)
    ∙ apart (nat_eq directory other)
  where
    one_place : (x y : ℕ) → directory ≡ x → is_at (nat_cmp directory) y ≡ is_at (nat_cmp x) y
    one_place x y same = ap (λ n. is_at (nat_cmp n) y) same

    some_found : {X : Type 0} {found : Option X} {x : X} → found ≡ Some x → IsSome found
    some_found e = subst IsSome (sym e) refl

    apart : (b : Bool) → unwrap_or (cond b (Some next) (lookup (is_at (nat_cmp other)) logs)) blank_log ≡ cond b next (log_of logs other)
    apart true = refl
    apart false = refl

-- a log that a directory has is the log that is found
pub was_log : (logs after : List (ℕ × Log)) (directory : ℕ) (log next : Log) → IsReplaced logs directory log next after → log_of logs directory ≡ log
was_log logs after directory log next replaced = ap (λ (found : Option Log). unwrap_or found blank_log) replaced.was

-- what is summed over the logs
pub replaced_sum : (measure : Log → ℕ) (logs after : List (ℕ × Log)) (directory : ℕ) (log next : Log) → IsReplaced logs directory log next after
    → sum_by measure (values_of after) + measure log ≡ sum_by measure (values_of logs) + measure next
replaced_sum measure logs after directory log next replaced =
    ap (λ (those : List (ℕ × Log)). sum_by measure (values_of those) + measure log) replaced.is
    ∙ sum_by-set_value measure (is_at (nat_cmp directory)) logs log next replaced.was

-- logs stand by directory as they did
pub replaced_ascend : (logs after : List (ℕ × Log)) (directory : ℕ) (log next : Log) → IsReplaced logs directory log next after → AscendByDirectory logs
    → AscendByDirectory after
replaced_ascend logs after directory log next replaced ascend =
    subst AscendByDirectory (sym replaced.is)
    (subst (IsStrictlySortedBy nat_cmp) (sym (keys-set_value (is_at (nat_cmp directory)) logs next)) ascend)

-- one log has no more than all
pub log_within : (measure : Log → ℕ) (logs : List (ℕ × Log)) (directory : ℕ) (log : Log) → lookup (is_at (nat_cmp directory)) logs ≡ Some log
    → measure log ≤ sum_by measure (values_of logs)
log_within measure [] directory log found = absurd (none_some found)
log_within measure (one ∷ logs) directory log found =
    by (is_at (nat_cmp directory) one.0) found (log_within measure logs directory log)
  where
    by : (b : Bool) → cond b (Some one.1) (lookup (is_at (nat_cmp directory)) logs) ≡ Some log
        → (lookup (is_at (nat_cmp directory)) logs ≡ Some log → measure log ≤ sum_by measure (values_of logs))
        → measure log ≤ sum_by measure (values_of (one ∷ logs))
    by true same rest =
        let is = ap measure (some_same same) in let sum = sum_by-cons measure one.1 (values_of logs) in omega arith
    by false later rest = let le = rest later in let sum = sum_by-cons measure one.1 (values_of logs) in omega arith

-- a directory with room has a log
pub roomy_found : (logs : List (ℕ × Log)) (directory : ℕ) → 0 < (log_of logs directory).room
    → lookup (is_at (nat_cmp directory)) logs ≡ Some (log_of logs directory)
roomy_found logs directory some = by (lookup (is_at (nat_cmp directory)) logs) some
  where
    by : (found : Option Log) → 0 < (unwrap_or found blank_log).room → found ≡ Some (unwrap_or found blank_log)
    by None room = absurd (omega arith)
    by (Some log) room = refl

-- a blank log that is put in changes nothing that is told
pub blank_put : (logs after : List (ℕ × Log)) (directory : ℕ) (log : Log) → log ≡ blank_log → IsStrictlySortedBy nat_cmp (keys_of logs)
    → lookup (is_at (nat_cmp directory)) logs ≡ None → after ≡ insert_entry nat_cmp logs directory log
    → ((other : ℕ) → lookup (is_at (nat_cmp other)) after ≡ cond (is_at (nat_cmp directory) other) (Some log) (lookup (is_at (nat_cmp other)) logs))
    → AscendByDirectory after → AreEqualLogs logs after
blank_put logs after directory log is_blank ordered none is puts ordered_after = record {
  ascend = λ were. ordered_after;
  each = λ other.
      ap (λ (found : Option Log). unwrap_or found blank_log) (puts other)
      ∙ ap (λ b. unwrap_or (cond b (Some log) (lookup (is_at (nat_cmp other)) logs)) blank_log) (at_equal directory other)
      ∙ same other (nat_eq directory other) refl;
  named = λ node. sums (λ one. namings_of one.changes node) (ap (λ (one : Log). namings_of one.changes node) is_blank);
  changes = sums (λ one. length one.changes) (ap (λ (one : Log). length one.changes) is_blank);
  room = sums (λ one. one.room) (ap (λ (one : Log). one.room) is_blank);
}
  where
    same : (other : ℕ) (b : Bool) → nat_eq directory other ≡ b
        → unwrap_or (cond b (Some log) (lookup (is_at (nat_cmp other)) logs)) blank_log ≡ log_of logs other
    same other true e =
        is_blank ∙ sym (ap (λ (found : Option Log). unwrap_or found blank_log)
        (subst (λ n. lookup (is_at (nat_cmp n)) logs ≡ None) (eqb-true directory other e) none))
    same other false e = refl

    sums : (measure : Log → ℕ) → measure log ≡ 0 → sum_by measure (values_of after) ≡ sum_by measure (values_of logs)
    sums measure nothing =
        let there = ap (λ (those : List (ℕ × Log)). sum_by measure (values_of those)) is in
        let put = sum_by-insert_entry measure nat_cmp_total logs directory log ordered in
        let old = ap (λ (found : Option Log). unwrap_or (option_map measure found) 0) none in
        omega arith

-- the counts go on right: equal logs, more room, one change more, and changes that are dropped
pub equal_count : (logs after : List (ℕ × Log)) (count : ℕ → ℕ) (spare kept rooms : ℕ) → AreEqualLogs logs after → CountsNamings logs count spare kept rooms
    → CountsNamings after count spare kept rooms
equal_count logs after count spare kept rooms equal counts = record {
  ascend = equal.ascend counts.ascend;
  counted = λ node. counts.counted node ∙ sym (equal.named node);
  kept_are = equal.changes ∙ counts.kept_are;
  rooms_are = equal.room ∙ counts.rooms_are;
  room = counts.room;
  few = counts.few;
}

pub roomier_count : (logs : List (ℕ × Log)) (count after : ℕ → ℕ) (spare spared kept rooms : ℕ) → ((node : ℕ) → after node ≡ count node) → rooms ≤ spared
    → CountsNamings logs count spare kept rooms → CountsNamings logs after spared kept rooms
roomier_count logs count after spare spared kept rooms same le counts =
    record {
      ascend = counts.ascend;
      counted = λ node. same node ∙ counts.counted node;
      kept_are = counts.kept_are;
      rooms_are = counts.rooms_are;
      room = le;
      few = counts.few;
    }

pub reserved_count : (logs after : List (ℕ × Log)) (count : ℕ → ℕ) (spare kept rooms directory asked : ℕ) (log : Log)
    → IsReplaced logs directory log (roomy_log log asked) after → rooms + (asked - log.room) ≤ spare → kept + (rooms + (asked - log.room)) ≤ 2 ^ 63
    → CountsNamings logs count spare kept rooms → CountsNamings after count spare kept (rooms + (asked - log.room))
reserved_count logs after count spare kept rooms directory asked log replaced room few counts = record {
  ascend = replaced_ascend logs after directory log (roomy_log log asked) replaced counts.ascend;
  counted = λ node.
      let sum = replaced_sum (λ one. namings_of one.changes node) logs after directory log (roomy_log log asked) replaced in
      let was = counts.counted node in omega arith;
  kept_are =
      let sum = replaced_sum (λ one. length one.changes) logs after directory log (roomy_log log asked) replaced in
      let was = counts.kept_are in omega arith;
  rooms_are =
      let sum = replaced_sum (λ one. one.room) logs after directory log (roomy_log log asked) replaced in
      let was = counts.rooms_are in let more = max_more log.room asked in omega arith;
  room = room;
  few = few;
}
  where
    max_more : (a b : ℕ) → max a b ≡ a + (b - a)
    max_more a b = grind (arith, nat_tests)

pub pushed_count : (logs after : List (ℕ × Log)) (count counted : ℕ → ℕ) (spare spared kept rooms directory : ℕ) (log : Log) (change : Change)
    → IsReplaced logs directory log (pushed_log log change) after → 0 < log.room
    → ((node : ℕ) → counted node ≡ count node + cond (nat_eq change.child.0 node) 1 0) → spare ≤ spared + 1 → CountsNamings logs count spare kept rooms
    → CountsNamings after counted spared (kept + 1) (rooms - 1)
pushed_count logs after count counted spare spared kept rooms directory log change replaced some counted_is le counts =
    let within = log_within (λ one. one.room) logs directory log replaced.was in
    let rooms_were = counts.rooms_are in
    record {
      ascend = replaced_ascend logs after directory log (pushed_log log change) replaced counts.ascend;
      counted = λ node.
          let sum = replaced_sum (λ one. namings_of one.changes node) logs after directory log (pushed_log log change) replaced in
          let more = sum_by_push (λ (one : Change). cond (names_node node one) 1 0) log.changes change in
          let was = counts.counted node in let is = counted_is node in omega arith;
      kept_are =
          let sum = replaced_sum (λ one. length one.changes) logs after directory log (pushed_log log change) replaced in
          let more = length-append log.changes (change ∷ []) in let was = counts.kept_are in omega arith;
      rooms_are =
          let sum = replaced_sum (λ one. one.room) logs after directory log (pushed_log log change) replaced in omega arith;
      room = let was = counts.room in omega arith;
      few = let was = counts.few in omega arith;
    }

-- what is counted once the log of one directory is trimmed
pub trimmed_named : (logs after : List (ℕ × Log)) (count counted : ℕ → ℕ) (directory below : ℕ) (log : Log)
    → IsReplaced logs directory log (trimmed_log log below) after
    → ((node : ℕ) → counted node + namings_of log.changes node ≡ count node + namings_of (trimmed_log log below).changes node)
    → ((node : ℕ) → count node ≡ namings_in logs node) → (node : ℕ) → counted node ≡ namings_in after node
trimmed_named logs after count counted directory below log replaced counted_is were node =
    let sum = replaced_sum (λ one. namings_of one.changes node) logs after directory log (trimmed_log log below) replaced in
    let was = were node in let is = counted_is node in omega arith

pub trimmed_dropped : (logs after : List (ℕ × Log)) (directory below dropped : ℕ) (log : Log) → IsReplaced logs directory log (trimmed_log log below) after
    → dropped + length (trimmed_log log below).changes ≡ length log.changes → dropped + changes_count after ≡ changes_count logs
trimmed_dropped logs after directory below dropped log replaced is =
    let sum = replaced_sum (λ one. length one.changes) logs after directory log (trimmed_log log below) replaced in omega arith

pub trimmed_count : (logs after : List (ℕ × Log)) (count counted : ℕ → ℕ) (spare spared kept rooms directory below dropped : ℕ)
    → TrimsLog logs directory below after → ((node : ℕ) → counted node ≡ namings_in after node) → spare ≤ spared
    → dropped + changes_count after ≡ changes_count logs → CountsNamings logs count spare kept rooms → CountsNamings after counted spared (kept - dropped) rooms
trimmed_count logs after count counted spare spared kept rooms directory below dropped trims named le is counts = record {
  ascend = ⊎_elim
      (λ replaced. replaced_ascend logs after directory (log_of logs directory) (trimmed_log (log_of logs directory) below) replaced counts.ascend)
      (λ same. subst AscendByDirectory (sym same.0) counts.ascend) trims;
  counted = named;
  kept_are = let was = counts.kept_are in omega arith;
  rooms_are = ⊎_elim of_one (λ same. ap room_count same.0 ∙ counts.rooms_are) trims;
  room = let was = counts.room in omega arith;
  few = let was = counts.few in omega arith;
}
  where
    of_one : IsReplaced logs directory (log_of logs directory) (trimmed_log (log_of logs directory) below) after → room_count after ≡ rooms
    of_one replaced =
        let sum = replaced_sum (λ one. one.room) logs after directory (log_of logs directory) (trimmed_log (log_of logs directory) below) replaced in
        let was = counts.rooms_are in omega arith

-- what is read off the log of one directory, once it is another, and of the others
replaced_read : {X : Type 0} (read : Log → X) (logs after : List (ℕ × Log)) (directory : ℕ) (next : Log)
    → IsReplaced logs directory (log_of logs directory) next after
    → (change : Log → X) → read next ≡ change (log_of logs directory) → (other : ℕ)
    → read (log_of after other) ≡ cond (nat_eq directory other) (change (log_of logs other)) (read (log_of logs other))
replaced_read read logs after directory next replaced change is other =
    ap read (replaced_log logs after directory (log_of logs directory) next replaced other) ∙ by (nat_eq directory other) refl
  where
    by : (b : Bool) → nat_eq directory other ≡ b
        → read (cond b next (log_of logs other)) ≡ cond b (change (log_of logs other)) (read (log_of logs other))
    by true e = is ∙ ap (λ n. change (log_of logs n)) (eqb-true directory other e)
    by false e = refl

-- the same for what stays of that directory too
replaced_same : {X : Type 0} (read : Log → X) (logs after : List (ℕ × Log)) (directory : ℕ) (next : Log)
    → IsReplaced logs directory (log_of logs directory) next after
    → read next ≡ read (log_of logs directory) → (other : ℕ) → read (log_of after other) ≡ read (log_of logs other)
replaced_same read logs after directory next replaced is other =
    replaced_read read logs after directory next replaced read is other ∙ both (nat_eq directory other) (read (log_of logs other))
  where
    both : {X : Type 0} (b : Bool) (x : X) → cond b x x ≡ x
    both true x = refl
    both false x = refl

pub puts_change : (logs after : List (ℕ × Log)) (change : Change)
    → IsReplaced logs change.dir.0 (log_of logs change.dir.0) (pushed_log (log_of logs change.dir.0) change) after → 0 < (log_of logs change.dir.0).room
    → PutsChange logs change after
puts_change logs after change replaced some =
    let directory = change.dir.0 in
    let next = pushed_log (log_of logs directory) change in
    record {
      changes = replaced_read (λ one. one.changes) logs after directory next replaced (λ one. one.changes ++ change ∷ []) refl;
      marks = replaced_same (λ one. one.mark) logs after directory next replaced refl;
      room = λ other.
          ap (λ n. n + cond (nat_eq directory other) 1 0)
          (replaced_read (λ one. one.room) logs after directory next replaced (λ one. one.room - 1) refl other)
          ∙ by other (nat_eq directory other) refl;
    }
  where
    by : (other : ℕ) (b : Bool) → nat_eq change.dir.0 other ≡ b
        → cond b ((log_of logs other).room - 1) (log_of logs other).room + cond b 1 0 ≡ (log_of logs other).room
    by other true e = let here = subst (λ n. 0 < (log_of logs n).room) (eqb-true change.dir.0 other e) some in omega arith
    by other false e = omega arith

pub trims_log : (logs after : List (ℕ × Log)) (directory below : ℕ)
    → IsReplaced logs directory (log_of logs directory) (trimmed_log (log_of logs directory) below) after → AreTrimmed logs directory below after
trims_log logs after directory below replaced =
    let next = trimmed_log (log_of logs directory) below in
    record {
      changes = λ other.
          replaced_read (λ one. one.changes) logs after directory next replaced (λ one. filter (is_from below) one.changes) refl other
          ∙ ap (λ b. cond b (filter (is_from below) (log_of logs other).changes) (log_of logs other).changes) (turned directory other);
      marks = λ other.
          replaced_read (λ one. one.mark) logs after directory next replaced (λ one. max one.mark below) refl other
          ∙ ap (λ b. cond b (max (log_of logs other).mark below) (log_of logs other).mark) (turned directory other);
      room = λ other.
          let same = replaced_same (λ one. one.room) logs after directory next replaced refl other in omega arith;
    }

-- room alone is made
pub same_changes : (logs after : List (ℕ × Log)) (directory asked : ℕ)
    → IsReplaced logs directory (log_of logs directory) (roomy_log (log_of logs directory) asked) after → AreSameLogs logs after
same_changes logs after directory asked replaced = record {
  changes = replaced_same (λ one. one.changes) logs after directory (roomy_log (log_of logs directory) asked) replaced refl;
  marks = replaced_same (λ one. one.mark) logs after directory (roomy_log (log_of logs directory) asked) replaced refl;
}

pub room_asked : (logs after : List (ℕ × Log)) (directory asked : ℕ)
    → IsReplaced logs directory (log_of logs directory) (roomy_log (log_of logs directory) asked) after → asked ≤ (log_of after directory).room
room_asked logs after directory asked replaced =
    subst (λ n. asked ≤ n)
    (sym (replaced_read (λ one. one.room) logs after directory (roomy_log (log_of logs directory) asked) replaced (λ one. max one.room asked) refl directory
    ∙ ap (λ b. cond b (max (log_of logs directory).room asked) (log_of logs directory).room) (same_number directory)))
    (greater (log_of logs directory).room asked)
  where
    greater : (a b : ℕ) → b ≤ max a b
    greater a b = grind (arith, nat_tests)

pub room_stays : (logs after : List (ℕ × Log)) (directory asked : ℕ)
    → IsReplaced logs directory (log_of logs directory) (roomy_log (log_of logs directory) asked) after → (other : ℕ)
    → (log_of logs other).room ≤ (log_of after other).room
room_stays logs after directory asked replaced other =
    subst (λ n. (log_of logs other).room ≤ n)
    (sym (replaced_read (λ one. one.room) logs after directory (roomy_log (log_of logs directory) asked) replaced (λ one. max one.room asked) refl other))
    (by (nat_eq directory other) (log_of logs other).room asked)
  where
    by : (b : Bool) (room more : ℕ) → room ≤ cond b (max room more) room
    by true room more = grind (arith, nat_tests)
    by false room more = omega arith

-- a log that is replaced by itself
pub same_entries : (logs after : List (ℕ × Log)) (directory : ℕ) (log : Log) → IsReplaced logs directory log log after → after ≡ logs
same_entries logs after directory log replaced = replaced.is ∙ set_value_same (is_at (nat_cmp directory)) logs log replaced.was

-- no more changes name a node than there are
pub named_within : (logs : List (ℕ × Log)) (node : ℕ) → namings_in logs node ≤ changes_count logs
named_within [] node = omega arith
named_within (one ∷ logs) node =
    let rest = named_within logs node in
    let named = sum_by-cons (λ (log : Log). namings_of log.changes node) one.1 (values_of logs) in
    let kept = sum_by-cons (λ (log : Log). length log.changes) one.1 (values_of logs) in
    let here = count_by-le-length (names_node node) one.1.changes in omega arith

-- a first change, taken from those that name its node
pub first_named : (change : Change) (rest : List Change) (node : ℕ)
    → namings_of (change ∷ rest) node ≡ namings_of rest node + cond (nat_eq change.child.0 node) 1 0
first_named change rest node = let sum = sum_by-cons (λ (one : Change). cond (names_node node one) 1 0) change rest in omega arith

pub names_own : (change : Change) (rest : List Change) → 0 < namings_of (change ∷ rest) change.child.0
names_own change rest = by (nat_eq change.child.0 change.child.0) (same_number change.child.0) (first_named change rest change.child.0)
  where
    by : (b : Bool) → b ≡ true → namings_of (change ∷ rest) change.child.0 ≡ namings_of rest change.child.0 + cond b 1 0
        → 0 < namings_of (change ∷ rest) change.child.0
    by true e sum = omega arith
    by false e sum = cc

-- room in a log is room for namings
pub rooms_there : (logs : List (ℕ × Log)) (count : ℕ → ℕ) (spare kept rooms directory : ℕ) → CountsNamings logs count spare kept rooms
    → 0 < (log_of logs directory).room → 1 ≤ rooms
rooms_there logs count spare kept rooms directory counts some =
    let within = log_within (λ (one : Log). one.room) logs directory (log_of logs directory) (roomy_found logs directory some) in
    let are = counts.rooms_are in omega arith

-- logs that are the same, one after the other
pub same_after : (logs mid after : List (ℕ × Log)) → AreEqualLogs logs mid → AreSameLogs mid after → AreSameLogs logs after
same_after logs mid after equal same = record {
  changes = λ directory. same.changes directory ∙ ap (λ (log : Log). log.changes) (equal.each directory);
  marks = λ directory. same.marks directory ∙ ap (λ (log : Log). log.mark) (equal.each directory);
}
