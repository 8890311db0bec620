-- The kept changes that name a node: those of all changes that are left, and those outside of some directories.
use Rattle.sfs_base.proofs.BasicNumbers.{turned}
use Rattle.std.specs.List.{AllByRecursion}
use Rattle.std.specs.Cmp.{nat_cmp_is}
use Rattle.std.specs.List.Sorted.{IsStrictlySortedBy}
use Rattle.std.specs.Map.{lookup, keys_of, values_of}
use Rattle.std.specs.BTreeMap.{is_at}
use Rattle.std.proofs.Common.{◌≡◌, ◌∷◌, ◌||◌, ◌∙◌, ◌+◌, ◌<◌, ℕ, List, nat_cmp, Less, false, [], refl, nat_eq, Bool, true, ⊎_elim, sym, Equal, arith, cond, sum_by, ap, subst, eqb-true, unwrap_or, Some, Option, None, slice_get, suc, zero, filter}
use Rattle.std.proofs.lemmas.Bool.{cases_order, cases_lt, cond-true}
use Rattle.std.proofs.lemmas.Bool.Decides.{nat_tests}
use Rattle.std.proofs.lemmas.List.Sums.{sum_by-cons}
use Rattle.std.proofs.lemmas.Map.Keys.{sorted_head, sorted_tail, sorted_from_strictly_increasing}
use Rattle.sfs_base.specs.Listed.{is_listed}
use Rattle.sfs_base.proofs.BasicOptions.{none_some, some_same}
use Rattle.tree_laws.specs.declared.changes.Change.{Change}
use Rattle.tree_laws.specs.Logged.{is_logged_in}
use Rattle.mem_cells.specs.Log.{Log, is_from}
use Rattle.mem_cells.specs.Named.{namings_of, namings_in}
use Rattle.mem_cells.specs.Part.{log_of, blank_log, AscendByDirectory, changes_kept, mark_kept}
use Rattle.mem_cells.specs.Laws.{OutsideNamingsTell, NamingsAreLeft}
use Rattle.mem_cells.proofs.Counts.{differ, at_equal, first_named, names_own}
use Rattle.mem_cells.proofs.Logs.{first_once, first_log, own_first}

less_not_equal : Less ≡ Equal → ⊥
less_not_equal e = cc

-- a number that is below all of a list is not in it
not_above : (number : ℕ) (numbers : List ℕ) → AllByRecursion (λ other. nat_cmp number other ≡ Less) numbers → is_listed numbers number ≡ false
not_above number [] above = refl
not_above number (other ∷ numbers) above =
    by (nat_eq other number) (nat_eq_less number other above.0) (not_above number numbers above.1)
  where
    by : (b : Bool) → b ≡ false → is_listed numbers number ≡ false → b || is_listed numbers number ≡ false
    by true e rest = cc
    by false e rest = rest

    nat_eq_less : (a b : ℕ) → nat_cmp a b ≡ Less → nat_eq b a ≡ false
    nat_eq_less a b less =
        ⊎_elim (λ same. absurd (less_not_equal (sym less ∙ sym (nat_cmp_is a b Equal same)))) (⊎_elim (λ below. differ b a (λ same. omega arith))
        (λ above. differ b a (λ same. omega arith))) (cases_order a b)

-- a sum over ascending numbers, where the term of one number is raised
raised_sum : (terms raised : ℕ → ℕ) (number more : ℕ) (numbers : List ℕ) → IsStrictlySortedBy nat_cmp numbers
    → ((other : ℕ) → raised other ≡ terms other + cond (nat_eq other number) more 0)
    → sum_by raised numbers ≡ sum_by terms numbers + cond (is_listed numbers number) more 0
raised_sum terms raised number more [] ordered raises = refl
raised_sum terms raised number more (first ∷ numbers) ordered raises =
    by (nat_eq first number) refl (raised_sum terms raised number more numbers (sorted_tail nat_cmp first numbers ordered) raises)
  where
    by : (b : Bool) → nat_eq first number ≡ b → sum_by raised numbers ≡ sum_by terms numbers + cond (is_listed numbers number) more 0
        → sum_by raised (first ∷ numbers) ≡ sum_by terms (first ∷ numbers) + cond (b || is_listed numbers number) more 0
    by true e rest =
        let there = sum_by-cons raised first numbers in
        let were = sum_by-cons terms first numbers in
        let here : raised first ≡ terms first + more = raises first ∙ ap (λ b. terms first + cond b more 0) e in
        let later : cond (is_listed numbers number) more 0 ≡ 0 =
        ap (λ b. cond b more 0)
        (subst (λ n. is_listed numbers n ≡ false) (eqb-true first number e) (not_above first numbers (sorted_head nat_cmp first numbers ordered))) in
        omega arith
    by false e rest =
        let there = sum_by-cons raised first numbers in
        let were = sum_by-cons terms first numbers in
        let here : raised first ≡ terms first + 0 = raises first ∙ ap (λ b. terms first + cond b more 0) e in
        omega arith

-- how many changes of some logs name a node whose directory is none of some
abbrev outside : List ℕ → ℕ → List (ℕ × Log) → ℕ
outside directories node logs = sum_by (λ one. cond (is_listed directories one.0) 0 (namings_of one.1.changes node)) logs

-- the log of a directory, by whether it is the first
first_or_later : (first other : ℕ) (log : Log) (rest : List (ℕ × Log)) → log_of ((first, log) ∷ rest) other ≡ cond (nat_eq other first) log (log_of rest other)
first_or_later first other log rest =
    ap (λ b. unwrap_or (cond b (Some log) (lookup (is_at (nat_cmp other)) rest)) blank_log) (at_equal other first) ∙ by (nat_eq other first)
  where
    by : (b : Bool) → unwrap_or (cond b (Some log) (lookup (is_at (nat_cmp other)) rest)) blank_log ≡ cond b log (log_of rest other)
    by true = refl
    by false = refl

-- the same of what is counted of it
counted_first : (first other : ℕ) (log : Log) (rest : List (ℕ × Log)) (node : ℕ) → IsStrictlySortedBy nat_cmp (keys_of ((first, log) ∷ rest))
    → namings_of (log_of ((first, log) ∷ rest) other).changes node
    ≡ namings_of (log_of rest other).changes node + cond (nat_eq other first) (namings_of log.changes node) 0
counted_first first other log rest node ordered =
    ap (λ (one : Log). namings_of one.changes node) (first_or_later first other log rest) ∙ by (nat_eq other first) refl
  where
    by : (b : Bool) → nat_eq other first ≡ b
        → namings_of (cond b log (log_of rest other)).changes node
        ≡ namings_of (log_of rest other).changes node + cond b (namings_of log.changes node) 0
    by true e =
        let none : namings_of (log_of rest other).changes node ≡ 0 =
        ap (λ (found : Option Log). namings_of (unwrap_or found blank_log).changes node)
        (subst (λ n. lookup (is_at (nat_cmp n)) rest ≡ None) (sym (eqb-true other first e)) (first_once first log rest ordered)) in
        omega arith
    by false e = omega arith

-- the kept changes that name a node are those of some directories and those of the others
within_and_outside : (directories : List ℕ) (node : ℕ) (logs : List (ℕ × Log)) → IsStrictlySortedBy nat_cmp directories → AscendByDirectory logs
    → sum_by (λ directory. namings_of (log_of logs directory).changes node) directories + outside directories node logs ≡ namings_in logs node
within_and_outside directories node [] distinct ordered = nothing directories
  where
    nothing : (those : List ℕ) → sum_by (λ directory. namings_of (log_of [] directory).changes node) those + 0 ≡ 0
    nothing [] = refl
    nothing (first ∷ those) =
        let sum = sum_by-cons (λ directory. namings_of (log_of [] directory).changes node) first those in let rest = nothing those in omega arith
within_and_outside directories node (one ∷ logs) distinct ordered =
    let rest = within_and_outside directories node logs distinct (sorted_tail nat_cmp one.0 (keys_of logs) ordered) in
    let raised =
    raised_sum (λ directory. namings_of (log_of logs directory).changes node) (λ directory. namings_of (log_of (one ∷ logs) directory).changes node) one.0
    (namings_of one.1.changes node) directories distinct (λ other. counted_first one.0 other one.1 logs node ordered) in
    let all = sum_by-cons (λ (log : Log). namings_of log.changes node) one.1 (values_of logs) in
    let out = sum_by-cons (λ (other : ℕ × Log). cond (is_listed directories other.0) 0 (namings_of other.1.changes node)) one logs in
    let either = by (is_listed directories one.0) (namings_of one.1.changes node) in
    omega arith
  where
    by : (b : Bool) (n : ℕ) → cond b n 0 + cond b 0 n ≡ n
    by true n = omega arith
    by false n = omega arith

-- a change that names a node, among some that are counted
named_there : (changes : List Change) (node : ℕ) → 0 < namings_of changes node
    → (place : ℕ) × (change : Change) × (slice_get changes place ≡ Some change) × (change.child.0 ≡ node)
named_there [] node some = absurd (omega arith)
named_there (change ∷ changes) node some =
    by (nat_eq change.child.0 node) refl (first_named change changes node) (named_there changes node)
  where
    by : (b : Bool) → nat_eq change.child.0 node ≡ b → namings_of (change ∷ changes) node ≡ namings_of changes node + cond b 1 0
        → (0 < namings_of changes node → (place : ℕ) × (other : Change) × (slice_get changes place ≡ Some other) × (other.child.0 ≡ node))
        → (place : ℕ) × (other : Change) × (slice_get (change ∷ changes) place ≡ Some other) × (other.child.0 ≡ node)
    by true e sum later = (0, change, refl, eqb-true change.child.0 node e)
    by false e sum later = let found = later (omega arith) in (suc found.0, found.1, found.2, found.3)

-- and back
there_named : (changes : List Change) (node place : ℕ) (change : Change) → slice_get changes place ≡ Some change → change.child.0 ≡ node
    → 0 < namings_of changes node
there_named [] node place change found child = absurd (none_some found)
there_named (first ∷ changes) node zero change found child =
    subst (λ n. 0 < namings_of (first ∷ changes) n) (ap (λ (one : Change). one.child.0) (some_same found) ∙ child) (names_own first changes)
there_named (first ∷ changes) node (suc place) change found child =
    let later = there_named changes node place change found child in let sum = first_named first changes node in omega arith

-- where changes outside of some directories are counted there is one of another directory, and back
outside_there : (directories : List ℕ) (node : ℕ) (logs : List (ℕ × Log)) → AscendByDirectory logs → 0 < outside directories node logs
    → (directory : ℕ) × (is_listed directories directory ≡ false) × (0 < namings_of (log_of logs directory).changes node)
outside_there directories node [] ordered some = absurd (omega arith)
outside_there directories node (one ∷ logs) ordered some =
    by (is_listed directories one.0) refl (sum_by-cons (λ (other : ℕ × Log). cond (is_listed directories other.0) 0 (namings_of other.1.changes node)) one logs)
    (outside_there directories node logs (sorted_tail nat_cmp one.0 (keys_of logs) ordered))
  where
    later : (directory : ℕ) × (is_listed directories directory ≡ false) × (0 < namings_of (log_of logs directory).changes node)
        → (directory : ℕ) × (is_listed directories directory ≡ false) × (0 < namings_of (log_of (one ∷ logs) directory).changes node)
    later found = let sum = counted_first one.0 found.0 one.1 logs node ordered in let there = found.2 in (found.0, found.1, omega arith)

    here : is_listed directories one.0 ≡ false → 0 < namings_of one.1.changes node
        → (directory : ℕ) × (is_listed directories directory ≡ false) × (0 < namings_of (log_of (one ∷ logs) directory).changes node)
    here apart named = (one.0, apart, subst (λ (log : Log). 0 < namings_of log.changes node) (sym (first_log one.0 one.1 logs)) named)

    by : (b : Bool) → is_listed directories one.0 ≡ b
        → outside directories node (one ∷ logs) ≡ cond b 0 (namings_of one.1.changes node) + outside directories node logs
        → (0 < outside directories node logs
        → (directory : ℕ) × (is_listed directories directory ≡ false) × (0 < namings_of (log_of logs directory).changes node))
        → (directory : ℕ) × (is_listed directories directory ≡ false) × (0 < namings_of (log_of (one ∷ logs) directory).changes node)
    by true e sum rest = later (rest (omega arith))
    by false e sum rest =
        ⊎_elim (λ named. here e named) (λ none. later (rest (omega arith))) (cases_lt 0 (namings_of one.1.changes node))

there_outside : (directories : List ℕ) (node : ℕ) (logs : List (ℕ × Log)) (directory : ℕ) → AscendByDirectory logs → is_listed directories directory ≡ false
    → 0 < namings_of (log_of logs directory).changes node → 0 < outside directories node logs
there_outside directories node [] directory ordered apart named = absurd (omega arith)
there_outside directories node (one ∷ logs) directory ordered apart named =
    let sum = sum_by-cons (λ (other : ℕ × Log). cond (is_listed directories other.0) 0 (namings_of other.1.changes node)) one logs in
    by (nat_eq directory one.0) refl sum (counted_first one.0 directory one.1 logs node ordered)
    (there_outside directories node logs directory (sorted_tail nat_cmp one.0 (keys_of logs) ordered) apart)
  where
    by : (b : Bool) → nat_eq directory one.0 ≡ b
        → outside directories node (one ∷ logs) ≡ cond (is_listed directories one.0) 0 (namings_of one.1.changes node) + outside directories node logs
        → namings_of (log_of (one ∷ logs) directory).changes node
        ≡ namings_of (log_of logs directory).changes node + cond b (namings_of one.1.changes node) 0
        → (0 < namings_of (log_of logs directory).changes node → 0 < outside directories node logs) → 0 < outside directories node (one ∷ logs)
    by true e sum counted rest =
        ⊎_elim (λ there. let le = rest there in omega arith)
        (λ none.
        let same : cond (is_listed directories one.0) 0 (namings_of one.1.changes node) ≡ namings_of one.1.changes node =
        ap (λ b. cond b 0 (namings_of one.1.changes node)) (subst (λ n. is_listed directories n ≡ false) (eqb-true directory one.0 e) apart) in
        omega arith)
        (cases_lt 0 (namings_of (log_of logs directory).changes node))
    by false e sum counted rest = let le = rest (omega arith) in omega arith

pub outside_namings_tell : OutsideNamingsTell
outside_namings_tell part directories node ordered distinct =
    let all = within_and_outside directories node part.logs (sorted_from_strictly_increasing directories distinct) ordered in (
      (λ more.
          let found = outside_there directories node part.logs ordered (omega arith) in
          let named = named_there (changes_kept part found.0) node found.2 in
          record { directory = found.0; is_outside = found.1; place = named.0; change = named.1; is_kept = named.2; child = named.3 }),
      (λ named.
          let there =
          there_outside directories node part.logs named.directory ordered named.is_outside
          (there_named (changes_kept part named.directory) node named.place named.change named.is_kept named.child) in
          omega arith),
    )

-- one change more, or none
own_more : (change : Change) (node : ℕ) (b : Bool) (those : List Change)
    → namings_of (cond b (change ∷ those) those) node ≡ namings_of those node + namings_of (cond b (change ∷ []) []) node
own_more change node true those = let here = first_named change those node in let alone = first_named change [] node in omega arith
own_more change node false those = omega arith

-- what one change adds to what is counted of all directories
kept_one : (directories : List ℕ) (mark : ℕ → ℕ) (node : ℕ) (change : Change) (changes : List Change) → IsStrictlySortedBy nat_cmp directories
    → sum_by (λ directory. namings_of (filter (is_from (mark directory)) (filter (is_logged_in directory) (change ∷ changes))) node) directories
    ≡ sum_by (λ directory. namings_of (filter (is_from (mark directory)) (filter (is_logged_in directory) changes)) node) directories
    + cond (is_listed directories change.dir.0) (namings_of (filter (is_from (mark change.dir.0)) (change ∷ [])) node) 0
kept_one directories mark node change changes distinct =
    raised_sum (λ directory. namings_of (filter (is_from (mark directory)) (filter (is_logged_in directory) changes)) node)
    (λ directory. namings_of (filter (is_from (mark directory)) (filter (is_logged_in directory) (change ∷ changes))) node) change.dir.0
    (namings_of (filter (is_from (mark change.dir.0)) (change ∷ [])) node) directories distinct (λ other. one other)
  where
    by : (other : ℕ) (b : Bool) → nat_eq change.dir.0 other ≡ b
        → namings_of (filter (is_from (mark other)) (cond b (change ∷ filter (is_logged_in other) changes) (filter (is_logged_in other) changes))) node
        ≡ namings_of (filter (is_from (mark other)) (filter (is_logged_in other) changes)) node
        + cond b (namings_of (filter (is_from (mark change.dir.0)) (change ∷ [])) node) 0
    by other true e =
        own_more change node (is_from (mark other) change) (filter (is_from (mark other)) (filter (is_logged_in other) changes))
        ∙ ap (λ n. namings_of (filter (is_from (mark other)) (filter (is_logged_in other) changes)) node
        + namings_of (filter (is_from (mark n)) (change ∷ [])) node) (sym (eqb-true change.dir.0 other e))
    by other false e = omega arith

    one : (other : ℕ) → namings_of (filter (is_from (mark other)) (filter (is_logged_in other) (change ∷ changes))) node
        ≡ namings_of (filter (is_from (mark other)) (filter (is_logged_in other) changes)) node
        + cond (nat_eq other change.dir.0) (namings_of (filter (is_from (mark change.dir.0)) (change ∷ [])) node) 0
    one other =
        by other (nat_eq change.dir.0 other) refl
        ∙ ap (λ b. namings_of (filter (is_from (mark other)) (filter (is_logged_in other) changes)) node
        + cond b (namings_of (filter (is_from (mark change.dir.0)) (change ∷ [])) node) 0) (turned change.dir.0 other)

no_change : {X : Type 0} (x : X) (xs : List X) → x ∷ xs ≡ [] → ⊥
no_change x xs e = cc

-- what is counted directory by directory is what is counted at once, where a directory that is none of them has no changes
kept_at_once : (directories : List ℕ) (mark : ℕ → ℕ) (node : ℕ) (changes : List Change) → IsStrictlySortedBy nat_cmp directories
    → ((directory : ℕ) → is_listed directories directory ≡ false → filter (is_logged_in directory) changes ≡ [])
    → sum_by (λ directory. namings_of (filter (is_from (mark directory)) (filter (is_logged_in directory) changes)) node) directories
    ≡ namings_of (filter (λ change. is_from (mark change.dir.0) change) changes) node
kept_at_once directories mark node [] distinct others = nothing directories
  where
    nothing : (those : List ℕ) → sum_by (λ directory. namings_of (filter (is_from (mark directory)) []) node) those ≡ 0
    nothing [] = refl
    nothing (first ∷ those) =
        let sum = sum_by-cons (λ directory. namings_of (filter (is_from (mark directory)) []) node) first those in let rest = nothing those in omega arith
kept_at_once directories mark node (change ∷ changes) distinct others =
    let rest =
    kept_at_once directories mark node changes distinct
    (λ directory apart. later directory (is_logged_in directory change) (others directory apart)) in
    let more = kept_one directories mark node change changes distinct in
    let there : cond (is_listed directories change.dir.0) (namings_of (filter (is_from (mark change.dir.0)) (change ∷ [])) node) 0
    ≡ namings_of (filter (is_from (mark change.dir.0)) (change ∷ [])) node =
    listed (is_listed directories change.dir.0) refl in
    let once = own_more change node (is_from (mark change.dir.0) change) (filter (λ one. is_from (mark one.dir.0) one) changes) in
    omega arith
  where
    later : (directory : ℕ) (b : Bool) → cond b (change ∷ filter (is_logged_in directory) changes) (filter (is_logged_in directory) changes) ≡ []
        → filter (is_logged_in directory) changes ≡ []
    later directory true none = cc
    later directory false none = none

    listed : (b : Bool) → is_listed directories change.dir.0 ≡ b
        → cond b (namings_of (filter (is_from (mark change.dir.0)) (change ∷ [])) node) 0 ≡ namings_of (filter (is_from (mark change.dir.0)) (change ∷ [])) node
    listed true e = refl
    listed false e = absurd (no_change change (filter (is_logged_in change.dir.0) changes) (sym (own_first change changes) ∙ others change.dir.0 e))

-- sums of the same terms
same_sum : (terms others : ℕ → ℕ) (numbers : List ℕ) → ((number : ℕ) → terms number ≡ others number) → sum_by terms numbers ≡ sum_by others numbers
same_sum terms others [] same = refl
same_sum terms others (number ∷ numbers) same =
    let here = same number in
    let rest = same_sum terms others numbers same in
    let sum = sum_by-cons terms number numbers in let other = sum_by-cons others number numbers in omega arith

-- what is counted log by log is what is counted directory by directory
each_counted : (node : ℕ) (logs : List (ℕ × Log)) → AscendByDirectory logs
    → namings_in logs node ≡ sum_by (λ directory. namings_of (log_of logs directory).changes node) (keys_of logs)
each_counted node [] ordered = refl
each_counted node (one ∷ logs) ordered =
    let rest = each_counted node logs (sorted_tail nat_cmp one.0 (keys_of logs) ordered) in
    let raised =
    raised_sum (λ directory. namings_of (log_of logs directory).changes node) (λ directory. namings_of (log_of (one ∷ logs) directory).changes node) one.0
    (namings_of one.1.changes node) (keys_of logs) (sorted_tail nat_cmp one.0 (keys_of logs) ordered)
    (λ other. counted_first one.0 other one.1 logs node ordered) in
    let apart : cond (is_listed (keys_of logs) one.0) (namings_of one.1.changes node) 0 ≡ 0 =
    ap (λ b. cond b (namings_of one.1.changes node) 0) (not_above one.0 (keys_of logs) (sorted_head nat_cmp one.0 (keys_of logs) ordered)) in
    let all = sum_by-cons (λ (log : Log). namings_of log.changes node) one.1 (values_of logs) in
    let out = sum_by-cons (λ directory. namings_of (log_of (one ∷ logs) directory).changes node) one.0 (keys_of logs) in
    let first = ap (λ (log : Log). namings_of log.changes node) (first_log one.0 one.1 logs) in
    omega arith

-- a directory that has no log has a blank one
none_listed : (logs : List (ℕ × Log)) (directory : ℕ) → is_listed (keys_of logs) directory ≡ false → log_of logs directory ≡ blank_log
none_listed [] directory apart = refl
none_listed (one ∷ logs) directory apart =
    first_or_later one.0 directory one.1 logs ∙ ap (λ b. cond b one.1 (log_of logs directory)) (turned directory one.0)
    ∙ by (nat_eq one.0 directory) apart (none_listed logs directory)
  where
    by : (b : Bool) → b || is_listed (keys_of logs) directory ≡ false
        → (is_listed (keys_of logs) directory ≡ false → log_of logs directory ≡ blank_log) → cond b one.1 (log_of logs directory) ≡ blank_log
    by true e rest = cc
    by false e rest = rest e

-- each change has the stamp 0 at least
all_from : (changes : List Change) → filter (is_from 0) changes ≡ changes
all_from [] = refl
all_from (change ∷ changes) =
    cond-true (is_from 0 change) (change ∷ filter (is_from 0) changes) (filter (is_from 0) changes) (grind (arith, nat_tests))
    ∙ ap (λ (l : List Change). change ∷ l) (all_from changes)

pub namings_are_left : NamingsAreLeft
namings_are_left changes entries part node ordered left =
    each_counted node part.logs ordered
    ∙ same_sum (λ directory. namings_of (log_of part.logs directory).changes node)
    (λ directory. namings_of (filter (is_from (mark_kept part directory)) (filter (is_logged_in directory) changes)) node) (keys_of part.logs)
    (λ directory. ap (λ (those : List Change). namings_of those node) (left.changes_left directory))
    ∙ kept_at_once (keys_of part.logs) (mark_kept part) node changes ordered none
  where
    none : (directory : ℕ) → is_listed (keys_of part.logs) directory ≡ false → filter (is_logged_in directory) changes ≡ []
    none directory apart =
        let blank = none_listed part.logs directory apart in
        sym (all_from (filter (is_logged_in directory) changes))
        ∙ sym (ap (λ (log : Log). filter (is_from log.mark) (filter (is_logged_in directory) changes)) blank)
        ∙ sym (left.changes_left directory) ∙ ap (λ (log : Log). log.changes) blank
