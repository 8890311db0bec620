-- Logs by directory: what is left of them in a loop, and changes that go behind those of their directory.
use Rattle.std.specs.BTreeMap.{is_at}
use Rattle.std.specs.BTreeMap.Range.{entries_between, range_contains}
use Rattle.std.specs.Cmp.{nat_cmp_is, eq_by_cmp_equiv}
use Rattle.std.specs.List.Sorted.{IsStrictlySortedBy}
use Rattle.std.specs.Map.{lookup, keys_of}
use Rattle.std.specs.Option.{unwrap_or, option_or}
use Rattle.std.specs.Ordering.{nat_cmp, is_eq}
use Rattle.std.specs.declared.ops.Bound.TheVariants.{Unbounded}
use Rattle.std.proofs.lemmas.List.Kept.{IsStrictlySortedBy-filter}
use Rattle.std.proofs.Common.{◌≡◌, ◌+◌, ◌<◌, ◌≤◌, ◌∷◌, ◌++◌, ◌∙◌, ◌&&◌, ◌==◌, ℕ, Bool, true, false, cond, Less, Equal, Greater, List, [], Option, Some, None, length, filter, refl, sym, ap, subst, ⊎_elim, arith, is_lt, ltb-true, lt-ltb, All, eqb-true}
use Rattle.std.proofs.lemmas.Bool.{cond-true, cases_order}
use Rattle.std.proofs.lemmas.Cmp.{nat_cmp_total}
use Rattle.std.proofs.lemmas.Map.{lookup-none}
use Rattle.std.proofs.lemmas.Map.Entries.{lookup-filter-keys, none_past_head, none_below_head}
use Rattle.std.proofs.lemmas.Map.Keys.{IsDistinct-from_sorted}
use Rattle.std.proofs.Math.Seq.{append_snoc}
use Rattle.std.proofs.lemmas.List.Elements.{All-nil, All-cons}
use Rattle.sfs_base.specs.declared.numbers.NodeId.{NodeId}
use Rattle.sfs_base.proofs.BasicTruth.{true_not_false}
use Rattle.sfs_base.proofs.BasicNumbers.{same_number}
use Rattle.tree_laws.specs.declared.changes.Change.{Change}
use Rattle.tree_laws.specs.Logged.{is_logged_in}
use Rattle.mem_cells.specs.Log.{Log}
use Rattle.mem_cells.specs.Part.{blank_log, log_of, bound_after, is_after}

-- a change that goes from the front of those to come behind those that are there
pub joined_on : {X : Type 0} (b : Bool) (there : List X) (x : X) (rest whole : List X) → there ++ cond b (x ∷ rest) rest ≡ whole
    → cond b (there ++ x ∷ []) there ++ rest ≡ whole
joined_on true there x rest whole e = append_snoc there x rest ∙ e
joined_on false there x rest whole e = e

-- the room that is left for those to come
pub room_left : {X : Type 0} (b : Bool) (x : X) (rest : List X) (before after : ℕ) → length (cond b (x ∷ rest) rest) ≤ before → after + cond b 1 0 ≡ before
    → length rest ≤ after
room_left true x rest before after le e = omega arith
room_left false x rest before after le e = omega arith

-- a change is one of its own directory
pub own_first : (change : Change) (rest : List Change) → filter (is_logged_in change.dir.0) (change ∷ rest) ≡ change ∷ filter (is_logged_in change.dir.0) rest
own_first change rest =
    cond-true (is_logged_in change.dir.0 change) (change ∷ filter (is_logged_in change.dir.0) rest) (filter (is_logged_in change.dir.0) rest)
    (same_number change.dir.0)

-- a number is found at itself, and at no other
pub at_same : (number : ℕ) → is_at (nat_cmp number) number ≡ true
at_same number = ap is_eq (sym (nat_cmp_is number number Equal refl))

pub at_less : (number other : ℕ) → number < other → is_at (nat_cmp number) other ≡ false
at_less number other lt = ap is_eq (sym (nat_cmp_is number other Less lt))

pub at_greater : (number other : ℕ) → other < number → is_at (nat_cmp number) other ≡ false
at_greater number other lt = ap is_eq (sym (nat_cmp_is number other Greater lt))

-- the log of the first directory, and that of another one
pub first_log : (directory : ℕ) (log : Log) (rest : List (ℕ × Log)) → log_of ((directory, log) ∷ rest) directory ≡ log
first_log directory log rest =
    ap (λ b. unwrap_or (cond b (Some log) (lookup (is_at (nat_cmp directory)) rest)) blank_log) (at_same directory)

pub later_log : (directory other : ℕ) (log : Log) (rest : List (ℕ × Log)) → is_at (nat_cmp other) directory ≡ false
    → log_of ((directory, log) ∷ rest) other ≡ log_of rest other
later_log directory other log rest apart =
    ap (λ b. unwrap_or (cond b (Some log) (lookup (is_at (nat_cmp other)) rest)) blank_log) apart

-- the first directory has no other log, and none has one below it
pub first_once : (directory : ℕ) (log : Log) (rest : List (ℕ × Log)) → IsStrictlySortedBy nat_cmp (keys_of ((directory, log) ∷ rest))
    → lookup (is_at (nat_cmp directory)) rest ≡ None
first_once directory log rest ordered =
    lookup-none (is_at (nat_cmp directory)) rest
    (none_past_head (eq_by_cmp_equiv nat_cmp_total) directory (directory, log) rest
    (IsDistinct-from_sorted nat_cmp (keys_of ((directory, log) ∷ rest)) ordered)
    (at_same directory))

pub none_before : (directory other : ℕ) (log : Log) (rest : List (ℕ × Log)) → IsStrictlySortedBy nat_cmp (keys_of ((directory, log) ∷ rest)) → other < directory
    → log_of ((directory, log) ∷ rest) other ≡ blank_log
none_before directory other log rest ordered lt =
    ap (λ (found : Option Log). unwrap_or found blank_log)
    (lookup-none (is_at (nat_cmp other)) ((directory, log) ∷ rest)
    (none_below_head nat_cmp_total other (directory, log) rest ordered (sym (nat_cmp_is other directory Less lt))))

-- the directory that is found at a number is that number
pub at_is : (number other : ℕ) → is_at (nat_cmp number) other ≡ true → number ≡ other
at_is number other found =
    ⊎_elim (λ same. same) (⊎_elim (λ below. absurd (true_not_false (sym found ∙ at_less number other below)))
    (λ above. absurd (true_not_false (sym found ∙ at_greater number other above)))) (cases_order number other)

-- the logs of the directories after one
abbrev pub logs_after : Option NodeId → List (ℕ × Log) → List (ℕ × Log)
logs_after node logs = entries_between nat_cmp (bound_after node) Unbounded logs

-- which directories these are
is_there : (node : Option NodeId) (directory : ℕ) → is_after node directory ≡ true → range_contains nat_cmp (bound_after node) Unbounded directory ≡ true
is_there None directory after = refl
is_there (Some node) directory after = ap (λ order. is_lt order && true) (sym (nat_cmp_is node.0 directory Less (ltb-true node.0 directory after)))

is_within : (node : Option NodeId) (directory : ℕ) → range_contains nat_cmp (bound_after node) Unbounded directory ≡ true → is_after node directory ≡ true
is_within None directory within = refl
is_within (Some node) directory within =
    ⊎_elim (λ same. absurd (true_not_false (sym within ∙ ap (λ order. is_lt order && true) (sym (nat_cmp_is node.0 directory Equal same)))))
    (⊎_elim (λ below. lt-ltb node.0 directory below)
    (λ above. absurd (true_not_false (sym within ∙ ap (λ order. is_lt order && true) (sym (nat_cmp_is node.0 directory Greater above))))))
    (cases_order node.0 directory)

-- each of them has the log that it has
pub log_after : (node : Option NodeId) (logs : List (ℕ × Log)) (directory : ℕ) → is_after node directory ≡ true
    → log_of (logs_after node logs) directory ≡ log_of logs directory
log_after node logs directory after =
    ap (λ (found : Option Log). unwrap_or found blank_log)
    (lookup-filter-keys (is_at (nat_cmp directory)) (range_contains nat_cmp (bound_after node) Unbounded) true
    (λ other found. subst (λ n. range_contains nat_cmp (bound_after node) Unbounded n ≡ true) (at_is directory other found) (is_there node directory after))
    logs)

-- the keys of some entries, picked by key
keys_picked : (pick : ℕ → Bool) (logs : List (ℕ × Log)) → keys_of (filter (λ one. pick one.0) logs) ≡ filter pick (keys_of logs)
keys_picked pick [] = refl
keys_picked pick (one ∷ logs) = by (pick one.0) (keys_picked pick logs)
  where
    by : (b : Bool) → keys_of (filter (λ other. pick other.0) logs) ≡ filter pick (keys_of logs)
        → keys_of (cond b (one ∷ filter (λ other. pick other.0) logs) (filter (λ other. pick other.0) logs))
        ≡ cond b (one.0 ∷ filter pick (keys_of logs)) (filter pick (keys_of logs))
    by true rest = ap (λ (keys : List ℕ). one.0 ∷ keys) rest
    by false rest = rest

pub ordered_after : (node : Option NodeId) (logs : List (ℕ × Log)) → IsStrictlySortedBy nat_cmp (keys_of logs)
    → IsStrictlySortedBy nat_cmp (keys_of (logs_after node logs))
ordered_after node logs ordered =
    subst (IsStrictlySortedBy nat_cmp) (sym (keys_picked (range_contains nat_cmp (bound_after node) Unbounded) logs))
    (IsStrictlySortedBy-filter nat_cmp (range_contains nat_cmp (bound_after node) Unbounded) (keys_of logs) ordered)

-- they come after it
pub above_after : (node : Option NodeId) (logs : List (ℕ × Log)) → All (λ directory. is_after node directory ≡ true) (keys_of (logs_after node logs))
above_after node [] = All-nil (λ directory. is_after node directory ≡ true)
above_after node (one ∷ logs) =
    by (range_contains nat_cmp (bound_after node) Unbounded one.0) (is_within node one.0) (above_after node logs)
  where
    by : (b : Bool) → (b ≡ true → is_after node one.0 ≡ true) → All (λ directory. is_after node directory ≡ true) (keys_of (logs_after node logs))
        → All (λ directory. is_after node directory ≡ true) (keys_of (cond b (one ∷ logs_after node logs) (logs_after node logs)))
    by true within rest = All-cons (λ directory. is_after node directory ≡ true) one.0 (keys_of (logs_after node logs)) (within refl) rest
    by false within rest = rest

-- whether there are changes, by a test that there are none
pub some_there : (changes : List Change) (b : Bool) → b ≡ (length changes == 0) → b ≡ false → 0 < length changes
some_there [] b is not_so = cc
some_there (change ∷ changes) b is not_so = omega arith

pub none_there : (changes : List Change) (b : Bool) → b ≡ (length changes == 0) → b ≡ true → changes ≡ []
none_there [] b is so = refl
none_there (change ∷ changes) b is so = let none = eqb-true (length (change ∷ changes)) 0 (sym is ∙ so) in absurd (omega arith)

-- without a first log that has no changes, directories have the changes that they had
pub passed_log : (first : ℕ) (log : Log) (rest : List (ℕ × Log)) → IsStrictlySortedBy nat_cmp (keys_of ((first, log) ∷ rest)) → log.changes ≡ []
    → (directory : ℕ) → (log_of rest directory).changes ≡ (log_of ((first, log) ∷ rest) directory).changes
passed_log first log rest ordered none directory =
    ⊎_elim here (⊎_elim (λ below. elsewhere (at_less directory first below)) (λ above. elsewhere (at_greater directory first above)))
    (cases_order directory first)
  where
    here : directory ≡ first → (log_of rest directory).changes ≡ (log_of ((first, log) ∷ rest) directory).changes
    here is =
        subst (λ (n : ℕ). (log_of rest n).changes ≡ (log_of ((first, log) ∷ rest) n).changes) (sym is)
        (ap (λ (found : Option Log). (unwrap_or found blank_log).changes) (first_once first log rest ordered)
        ∙ sym (ap (λ (one : Log). one.changes) (first_log first log rest) ∙ none))

    elsewhere : is_at (nat_cmp directory) first ≡ false → (log_of rest directory).changes ≡ (log_of ((first, log) ∷ rest) directory).changes
    elsewhere apart = ap (λ (one : Log). one.changes) (sym (later_log first directory log rest apart))

-- what is found among those to come, or else among those that are there
abbrev pub found_past : List (ℕ × Log) → List (ℕ × Log) → ℕ → Option Log
found_past rest there directory = option_or (lookup (is_at (nat_cmp directory)) rest) (lookup (is_at (nat_cmp directory)) there)

-- one log more is copied: what was found among those to come and those that are there still is
pub copied_more : (first : ℕ) (log copy : Log) (rest there after : List (ℕ × Log)) (whole : ℕ → Option Log)
    → IsStrictlySortedBy nat_cmp (keys_of ((first, log) ∷ rest))
    → ((directory : ℕ)
    → lookup (is_at (nat_cmp directory)) after ≡ cond (is_at (nat_cmp first) directory) (Some copy) (lookup (is_at (nat_cmp directory)) there))
    → copy ≡ log → ((directory : ℕ) → found_past ((first, log) ∷ rest) there directory ≡ whole directory)
    → (directory : ℕ) → found_past rest after directory ≡ whole directory
copied_more first log copy rest there after whole ordered puts same told directory =
    ⊎_elim here (⊎_elim (λ below. elsewhere directory (at_less directory first below) (at_greater first directory below))
    (λ above. elsewhere directory (at_greater directory first above) (at_less first directory above))) (cases_order directory first)
  where
    here : directory ≡ first → found_past rest after directory ≡ whole directory
    here is =
        subst (λ (n : ℕ). found_past rest after n ≡ whole n) (sym is)
        (ap (λ (found : Option Log). option_or found (lookup (is_at (nat_cmp first)) after)) (first_once first log rest ordered)
        ∙ puts first
        ∙ ap (λ b. cond b (Some copy) (lookup (is_at (nat_cmp first)) there)) (at_same first)
        ∙ ap (λ (one : Log). Some one) same
        ∙ sym (ap (λ b. option_or (cond b (Some log) (lookup (is_at (nat_cmp first)) rest)) (lookup (is_at (nat_cmp first)) there)) (at_same first))
        ∙ told first)

    elsewhere : (other : ℕ) → is_at (nat_cmp other) first ≡ false → is_at (nat_cmp first) other ≡ false → found_past rest after other ≡ whole other
    elsewhere other apart away =
        ap (λ (found : Option Log). option_or (lookup (is_at (nat_cmp other)) rest) found)
        (puts other ∙ ap (λ b. cond b (Some copy) (lookup (is_at (nat_cmp other)) there)) away)
        ∙ sym (ap (λ b. option_or (cond b (Some log) (lookup (is_at (nat_cmp other)) rest)) (lookup (is_at (nat_cmp other)) there)) apart)
        ∙ told other
