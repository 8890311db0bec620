-- Words that don't begin with `-` are read by clap as a first word and the values behind it, or they are no command.
use Rattle.std.proofs.Common.{◌≡◌, ◌⊎◌, inl, inr, ℕ, ◌<◌, Bool, true, false, List, [], ◌∷◌, length, Some}
use Rattle.std.proofs.Common.{None, Err, cond, refl, sym, ap, subst, ◌∙◌, ◌||◌, arith, codes, find, fold}
use Rattle.std.specs.Prelude.{option_map, unwrap_or}
use Rattle.std.specs.List.{list_any}
use Rattle.std.specs.Str.{bytes_eq}
use Rattle.std.proofs.lemmas.Slice.Eq.{bytes_eq-Decides}
use Rattle.std.proofs.lemmas.Bool.Decides.{nat_tests, same_from_decides}
use Rattle.sfs_base.proofs.BasicTruth.{or_first, or_second, true_or_false}
use Rattle.clap.specs.Walk.{Text, Row, Names, all_of, answers_to, nothing_held, rows_after, takes_several, walked}
use Rattle.clap.specs.Kinds.{Kinds, or_else, range_kinds}
use Rattle.clap.specs.Faults.{defaults_fault, fault_of, level_fault, turn_fault, walk_fault}
use Rattle.clap.specs.Simple.{subcommand_of}
use Rattle.clap.specs.declared.error.kind.ErrorKind.{ErrorKind}
use Rattle.words.specs.Grammar.{NUMBERS, grammar}
use Rattle.words.specs.Words.{begins_with_dash, check_asked, command_in, load_asked, mkfs_asked, run_asked, show_asked, verify_asked}
use Rattle.words.proofs.Entered.{entered_is, fault_is, names, rest_of, start, stray_is, stray_value_is, top}
use Rattle.words.proofs.Walked.{argument, end_fault, level_is, subcommand, values_are}

-- clap takes the words: a first word, and values behind it
pub record IsTaken (words : List Text) : Type 0 where
  pub word : Text
  pub rows : List Row
  pub faultless : fault_of grammar words ≡ []
  pub entered : subcommand_of grammar words ≡ Some (word, rows)
  pub is : words ≡ word ∷ unwrap_or (all_of NUMBERS rows) []

-- clap refuses the words, which are no command
pub record IsNone (words : List Text) : Type 0 where
  pub fault : fault_of grammar words ≡ [] → ⊥
  pub none : command_in words ≡ Err 0

abbrev pub Decided : List Text → Type 0
Decided words = IsTaken words ⊎ IsNone words

some_kind : {k : ErrorKind} {ks : Kinds} → k ∷ ks ≡ [] → ⊥
some_kind e = cc

-- a first fault stays
first_stays : (a b c : Kinds) {k : ErrorKind} {ks : Kinds} → a ≡ k ∷ ks → or_else (or_else a b) c ≡ [] → ⊥
first_stays a b c is e = some_kind (sym (ap (λ kinds. or_else (or_else kinds b) c) is) ∙ e)

-- only the least values where they are the most
other_count : (count n : ℕ) → (count ≡ n → ⊥) → 0 < n → range_kinds count count n ≡ [] → ⊥
other_count count n other some e = grind (arith, nat_tests)

-- more than the most values are a fault
too_many : (least most n : ℕ) → most < n → range_kinds least most n ≡ [] → ⊥
too_many least most n many e = grind (arith, nat_tests)

module _ (values : List Text) (not : list_any begins_with_dash values ≡ false) where
  -- the values of a subcommand that takes some
  taken_values : (name : Text) (least most : ℕ) → (several : takes_several (argument least most) ≡ true)
      → fault_of grammar (name ∷ values) ≡ level_fault (subcommand name (argument least most ∷ [])) [] nothing_held values false []
      → subcommand_of grammar (name ∷ values) ≡ Some (name, rows_after (argument least most ∷ []) [] values)
      → range_kinds least most (length values) ≡ [] → (word : Text) (words : List Text) → values ≡ word ∷ words → IsTaken (name ∷ values)
  taken_values name least most several faults enters none word words is = record {
    word = name;
    rows = rows_after (argument least most ∷ []) [] values;
    faultless =
        faults
        ∙ ap (λ v. level_fault (subcommand name (argument least most ∷ [])) [] nothing_held v false []) is
        ∙ level_is name least most several word words (subst (λ v. list_any begins_with_dash v ≡ false) is not)
        ∙ ap (λ (v : List Text). range_kinds least most (length v)) (sym is)
        ∙ none;
    entered = enters;
    is = ap (λ v. name ∷ unwrap_or v []) (sym (ap (λ v. all_of NUMBERS (rows_after (argument least most ∷ []) [] v)) is
        ∙ values_are name least most several word words (subst (λ v. list_any begins_with_dash v ≡ false) is not) ∙ ap (λ v. Some v) (sym is)));
  }

  -- a number of values out of the range
  refused_values : (name : Text) (least most : ℕ) → (several : takes_several (argument least most) ≡ true)
      → fault_of grammar (name ∷ values) ≡ level_fault (subcommand name (argument least most ∷ [])) [] nothing_held values false []
      → (range_kinds least most (length values) ≡ [] → ⊥) → (word : Text) (words : List Text) → values ≡ word ∷ words
      → fault_of grammar (name ∷ values) ≡ [] → ⊥
  refused_values name least most several faults wrong word words is none =
      wrong (ap (λ (v : List Text). range_kinds least most (length v)) is
      ∙ sym (level_is name least most several word words (subst (λ v. list_any begins_with_dash v ≡ false) is not))
      ∙ sym (ap (λ v. level_fault (subcommand name (argument least most ∷ [])) [] nothing_held v false []) is)
      ∙ sym faults ∙ none)

abbrev mkfs : Text
mkfs = codes "mkfs"

abbrev run : Text
run = codes "run"

abbrev show : Text
show = codes "show"

abbrev load : Text
load = codes "load"

abbrev check : Text
check = codes "check"

abbrev verify : Text
verify = codes "verify"

mkfs_fault : (values : List Text)
    → fault_of grammar (mkfs ∷ values) ≡ level_fault (subcommand mkfs (argument 3 4 ∷ [])) [] nothing_held values false []
unfolding walked
mkfs_fault = fault_is mkfs (subcommand mkfs (argument 3 4 ∷ [])) refl refl refl

mkfs_entered : (values : List Text) → subcommand_of grammar (mkfs ∷ values) ≡ Some (mkfs, rows_after (argument 3 4 ∷ []) [] values)
unfolding walked
mkfs_entered = entered_is mkfs (subcommand mkfs (argument 3 4 ∷ [])) refl refl refl

run_fault : (values : List Text)
    → fault_of grammar (run ∷ values) ≡ level_fault (subcommand run (argument 0 1 ∷ [])) [] nothing_held values false []
unfolding walked
run_fault = fault_is run (subcommand run (argument 0 1 ∷ [])) refl refl refl

run_entered : (values : List Text) → subcommand_of grammar (run ∷ values) ≡ Some (run, rows_after (argument 0 1 ∷ []) [] values)
unfolding walked
run_entered = entered_is run (subcommand run (argument 0 1 ∷ [])) refl refl refl

load_fault : (values : List Text)
    → fault_of grammar (load ∷ values) ≡ level_fault (subcommand load (argument 3 3 ∷ [])) [] nothing_held values false []
unfolding walked
load_fault = fault_is load (subcommand load (argument 3 3 ∷ [])) refl refl refl

load_entered : (values : List Text) → subcommand_of grammar (load ∷ values) ≡ Some (load, rows_after (argument 3 3 ∷ []) [] values)
unfolding walked
load_entered = entered_is load (subcommand load (argument 3 3 ∷ [])) refl refl refl

show_fault : (values : List Text) → fault_of grammar (show ∷ values) ≡ level_fault (subcommand show []) [] nothing_held values false []
unfolding walked
show_fault = fault_is show (subcommand show []) refl refl refl

show_entered : (values : List Text) → subcommand_of grammar (show ∷ values) ≡ Some (show, rows_after [] [] values)
unfolding walked
show_entered = entered_is show (subcommand show []) refl refl refl

check_fault : (values : List Text)
    → fault_of grammar (check ∷ values) ≡ level_fault (subcommand check (argument 0 1 ∷ [])) [] nothing_held values false []
unfolding walked
check_fault = fault_is check (subcommand check (argument 0 1 ∷ [])) refl refl refl

check_entered : (values : List Text) → subcommand_of grammar (check ∷ values) ≡ Some (check, rows_after (argument 0 1 ∷ []) [] values)
unfolding walked
check_entered = entered_is check (subcommand check (argument 0 1 ∷ [])) refl refl refl

verify_fault : (values : List Text)
    → fault_of grammar (verify ∷ values) ≡ level_fault (subcommand verify []) [] nothing_held values false []
unfolding walked
verify_fault = fault_is verify (subcommand verify []) refl refl refl

verify_entered : (values : List Text) → subcommand_of grammar (verify ∷ values) ≡ Some (verify, rows_after [] [] values)
unfolding walked
verify_entered = entered_is verify (subcommand verify []) refl refl refl

-- `mkfs` takes three values or four
mkfs_decided : (values : List Text) → list_any begins_with_dash values ≡ false → Decided (mkfs ∷ values)
unfolding walk_fault defaults_fault
mkfs_decided [] not = inr (record { fault = λ e. some_kind (sym (mkfs_fault []) ∙ e); none = refl })
mkfs_decided (a ∷ []) not = inr (record {
  fault = refused_values (a ∷ []) not mkfs 3 4 refl (mkfs_fault (a ∷ [])) some_kind a [] refl;
  none = refl;
})
mkfs_decided (a ∷ b ∷ []) not = inr (record {
  fault = refused_values (a ∷ b ∷ []) not mkfs 3 4 refl (mkfs_fault (a ∷ b ∷ [])) some_kind a (b ∷ []) refl;
  none = refl;
})
mkfs_decided (a ∷ b ∷ c ∷ []) not =
    inl (taken_values (a ∷ b ∷ c ∷ []) not mkfs 3 4 refl (mkfs_fault (a ∷ b ∷ c ∷ [])) (mkfs_entered (a ∷ b ∷ c ∷ [])) refl a (b ∷ c ∷ []) refl)
mkfs_decided (a ∷ b ∷ c ∷ d ∷ []) not =
    inl (taken_values (a ∷ b ∷ c ∷ d ∷ []) not mkfs 3 4 refl (mkfs_fault (a ∷ b ∷ c ∷ d ∷ [])) (mkfs_entered (a ∷ b ∷ c ∷ d ∷ [])) refl a (b ∷ c ∷ d ∷ []) refl)
mkfs_decided (a ∷ b ∷ c ∷ d ∷ e ∷ values) not = inr (record {
  fault = refused_values (a ∷ b ∷ c ∷ d ∷ e ∷ values) not mkfs 3 4 refl (mkfs_fault (a ∷ b ∷ c ∷ d ∷ e ∷ values))
      (too_many 3 4 (length (a ∷ b ∷ c ∷ d ∷ e ∷ values)) (omega arith)) a (b ∷ c ∷ d ∷ e ∷ values) refl;
  none = refl;
})

-- a name that takes one value or none
module _ (name : Text)
    (fault : (values : List Text)
    → fault_of grammar (name ∷ values) ≡ level_fault (subcommand name (argument 0 1 ∷ [])) [] nothing_held values false [])
    (enters : (values : List Text) → subcommand_of grammar (name ∷ values) ≡ Some (name, rows_after (argument 0 1 ∷ []) [] values))
    (many : (a b : Text) (values : List Text) → command_in (name ∷ a ∷ b ∷ values) ≡ Err 0) where
  one_decided : (values : List Text) → list_any begins_with_dash values ≡ false → Decided (name ∷ values)
  unfolding walk_fault defaults_fault
  one_decided [] not = inl (record { word = name; rows = []; faultless = fault []; entered = enters []; is = refl })
  one_decided (a ∷ []) not = inl (taken_values (a ∷ []) not name 0 1 refl (fault (a ∷ [])) (enters (a ∷ [])) refl a [] refl)
  one_decided (a ∷ b ∷ values) not = inr (record {
    fault = refused_values (a ∷ b ∷ values) not name 0 1 refl (fault (a ∷ b ∷ values))
        (too_many 0 1 (length (a ∷ b ∷ values)) (omega arith)) a (b ∷ values) refl;
    none = many a b values;
  })

-- `load` takes three
load_decided : (values : List Text) → list_any begins_with_dash values ≡ false → Decided (load ∷ values)
unfolding walk_fault defaults_fault
load_decided [] not = inr (record { fault = λ e. some_kind (sym (load_fault []) ∙ e); none = refl })
load_decided (a ∷ []) not = inr (record {
  fault = refused_values (a ∷ []) not load 3 3 refl (load_fault (a ∷ [])) some_kind a [] refl;
  none = refl;
})
load_decided (a ∷ b ∷ []) not = inr (record {
  fault = refused_values (a ∷ b ∷ []) not load 3 3 refl (load_fault (a ∷ b ∷ [])) some_kind a (b ∷ []) refl;
  none = refl;
})
load_decided (a ∷ b ∷ c ∷ []) not =
    inl (taken_values (a ∷ b ∷ c ∷ []) not load 3 3 refl (load_fault (a ∷ b ∷ c ∷ [])) (load_entered (a ∷ b ∷ c ∷ [])) refl a (b ∷ c ∷ []) refl)
load_decided (a ∷ b ∷ c ∷ d ∷ values) not = inr (record {
  fault = refused_values (a ∷ b ∷ c ∷ d ∷ values) not load 3 3 refl (load_fault (a ∷ b ∷ c ∷ d ∷ values))
      (other_count 3 (length (a ∷ b ∷ c ∷ d ∷ values)) (λ e. omega (arith, e)) (omega arith)) a (b ∷ c ∷ d ∷ values) refl;
  none = refl;
})

-- a name that takes none
module _ (name : Text)
    (fault : (values : List Text) → fault_of grammar (name ∷ values) ≡ level_fault (subcommand name []) [] nothing_held values false [])
    (enters : (values : List Text) → subcommand_of grammar (name ∷ values) ≡ Some (name, rows_after [] [] values))
    (some : (a : Text) (values : List Text) → command_in (name ∷ a ∷ values) ≡ Err 0) where
  bare_decided : (values : List Text) → list_any begins_with_dash values ≡ false → Decided (name ∷ values)
  unfolding walk_fault defaults_fault
  bare_decided [] not = inl (record { word = name; rows = []; faultless = fault []; entered = enters []; is = refl })
  bare_decided (a ∷ values) not = inr (record {
    fault = λ e. first_stays (turn_fault (subcommand name []) [] start a) (walk_fault (subcommand name []) [] (walked [] [] start a) values)
        (end_fault (subcommand name []) (fold (walked [] []) start (a ∷ values))) (stray_value_is name a (or_first _ _ not))
        (sym (fault (a ∷ values)) ∙ e);
    none = some a values;
  })

bytes_eq-sym : (a b : Text) → bytes_eq a b ≡ bytes_eq b a
bytes_eq-sym a b =
    let there = bytes_eq-Decides b a in
    same_from_decides (bytes_eq a b) (bytes_eq b a) (bytes_eq-Decides a b) (λ e. sym (there.0 e), λ e. there.1 (sym e))

-- a word is no name
record NoName (word : Text) : Type 0 where
  mkfs_not : bytes_eq word mkfs ≡ false
  show_not : bytes_eq word show ≡ false
  run_not : bytes_eq word run ≡ false
  load_not : bytes_eq word load ≡ false
  check_not : bytes_eq word check ≡ false
  verify_not : bytes_eq word verify ≡ false

skip : {A : Type 0} (b : Bool) (x y : A) → b ≡ false → cond b x y ≡ y
skip b x y not = ap (λ c. cond c x y) not

-- it names none of the subcommands
passes : (word name : Text) (later : Names) → bytes_eq word name ≡ false
    → find (answers_to word) ((name, []) ∷ later) ≡ find (answers_to word) later
passes word name later not =
    ap (λ b. cond (b || false) (Some (name, [])) (find (answers_to word) later)) (bytes_eq-sym name word ∙ not)

none_answers : (word : Text) → NoName word → find (answers_to word) names ≡ None
none_answers word not =
    passes word mkfs ((run, []) ∷ (load, []) ∷ (check, []) ∷ (show, []) ∷ (verify, []) ∷ []) not.mkfs_not
    ∙ passes word run ((load, []) ∷ (check, []) ∷ (show, []) ∷ (verify, []) ∷ []) not.run_not
    ∙ passes word load ((check, []) ∷ (show, []) ∷ (verify, []) ∷ []) not.load_not
    ∙ passes word check ((show, []) ∷ (verify, []) ∷ []) not.check_not
    ∙ passes word show ((verify, []) ∷ []) not.show_not
    ∙ passes word verify [] not.verify_not

-- no other first word is a name
other_decided : (word : Text) (values : List Text) → begins_with_dash word ≡ false → NoName word → IsNone (word ∷ values)
unfolding walk_fault
other_decided word values plain not = record {
  fault = λ e. first_stays (turn_fault top names start word) (walk_fault top names (walked [] names start word) values)
      (rest_of (fold (walked [] names) start (word ∷ values)))
      (stray_is word plain (ap (λ o. option_map (λ (s : Text × List Text). s.0) o) (none_answers word not))) e;
  none =
      skip (bytes_eq word mkfs) (mkfs_asked values) _ not.mkfs_not ∙ skip (bytes_eq word show) (show_asked values) _ not.show_not
      ∙ skip (bytes_eq word run) (run_asked values) _ not.run_not ∙ skip (bytes_eq word load) (load_asked values) _ not.load_not
      ∙ skip (bytes_eq word check) (check_asked values) _ not.check_not ∙ skip (bytes_eq word verify) (verify_asked values) _ not.verify_not;
}

pub decided : (words : List Text) → list_any begins_with_dash words ≡ false → Decided words
unfolding walk_fault defaults_fault
decided [] not = inr (record { fault = some_kind; none = refl })
decided (word ∷ values) not = all
  where
    behind : list_any begins_with_dash values ≡ false
    behind = or_second (begins_with_dash word) _ not

    same : (name : Text) → bytes_eq word name ≡ true → Decided (name ∷ values) → Decided (word ∷ values)
    same name is = subst (λ w. Decided (w ∷ values)) (sym ((bytes_eq-Decides word name).0 is))

    -- the name is this one, or there are the others
    by : (name : Text) → Decided (name ∷ values) → (bytes_eq word name ≡ false → Decided (word ∷ values)) → Decided (word ∷ values)
    by name is other = elim (true_or_false (bytes_eq word name)) [ inl yes_it ↦ same name yes_it is | inr not_it ↦ other not_it ]

    all : Decided (word ∷ values)
    all =
        by mkfs (mkfs_decided values behind) (λ m. by run (one_decided run run_fault run_entered (λ a b v. refl) values behind)
        (λ r. by show (bare_decided show show_fault show_entered (λ a v. refl) values behind) (λ s. by load (load_decided values behind)
        (λ l. by check (one_decided check check_fault check_entered (λ a b v. refl) values behind)
        (λ c. by verify (bare_decided verify verify_fault verify_entered (λ a v. refl) values behind)
        (λ v. inr (other_decided word values (or_first _ _ not)
        (record { mkfs_not = m; show_not = s; run_not = r; load_not = l; check_not = c; verify_not = v }))))))))
