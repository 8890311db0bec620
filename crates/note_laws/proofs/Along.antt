-- What was flushed of a node along a lawful log.
use Rattle.std.specs.List.{cons_option}
use Rattle.std.specs.Option.{option_or}
use Rattle.std.proofs.Common.{◌≡◌, ◌++◌, ◌∷◌, ◌∙◌, ◌<◌, ◌≤◌, ◌⊎◌, List, None, [], ap, Option, append-nil, Some, ℕ, subst, refl, inr, inl, filter_map, arith, sym, append_assoc, length}
use Rattle.std.proofs.lemmas.Option.{slice_get_within}
use Rattle.std.proofs.lemmas.List.Elements.{filter_map-append}
use Rattle.sfs_base.proofs.BasicOptions.{some_same}
use Rattle.tree_laws.specs.Tree.{TreeState}
use Rattle.tree_laws.specs.History.{IsLegal}
use Rattle.tree_laws.specs.declared.history.Entry.{Entry}
use Rattle.disk_nodes.specs.OldKept.{OldKept}
use Rattle.cut_laws.specs.Rules.{IsOneOf}
use Rattle.cut_laws.proofs.Basics.{below_or}
use Rattle.cut_laws.proofs.Entries.{entries_may_come}
use Rattle.stamp_table.specs.declared.event.Event.{Event}
use Rattle.stamp_table.specs.declared.event.Event.TheVariants.{Called, Told}
use Rattle.stamp_table.specs.Events.{calls_in, called}
use Rattle.mem_values.specs.declared.fact.Fact.{Fact}
use Rattle.mem_values.specs.Account.{commit_told, account_of, Commitment, held_by, last_writer, writes_by}
use Rattle.mem_values.specs.Facts.{MayStandAfter, MayBeCommitted, AreLawfulBehind, IsLawfulLog}
use Rattle.mem_values.specs.declared.fact.Fact.TheVariants.{Trimmed, Committed}
use Rattle.mem_values.specs.Stands.{Flushed, flushed_in, flushed_by}
use Rattle.mem_values.specs.declared.fact.HeldNode.{HeldNode}
use Rattle.mem_values.proofs.Told.{last_writer-push, found_of}
use Rattle.mem_values.proofs.Moves.{legal_front}
use Rattle.mem_values.proofs.Lawful.{lawful_behind}
use Rattle.note_laws.specs.Run.{IsToldIn}
use Rattle.note_laws.specs.Notes.{RaisesOver}
use Rattle.note_laws.proofs.Saws.{told_one}

-- the commits behind an event that tells none, and behind one that tells one
after_quiet : (before : List (Event Fact)) (event : Event Fact) → commit_told event ≡ None
    → (account_of (before ++ event ∷ [])).commits ≡ (account_of before).commits
after_quiet before event is =
    filter_map-append commit_told before (event ∷ [])
    ∙ ap (λ (o : Option Commitment). (account_of before).commits ++ cons_option o []) is ∙ append-nil (account_of before).commits

after_told : (before : List (Event Fact)) (event : Event Fact) (commit : Commitment) → commit_told event ≡ Some commit
    → (account_of (before ++ event ∷ [])).commits ≡ (account_of before).commits ++ commit ∷ []
after_told before event commit is =
    filter_map-append commit_told before (event ∷ [])
    ∙ ap (λ (o : Option Commitment). (account_of before).commits ++ cons_option o []) is

-- a log that goes on tells what it told
abbrev pub tells_on : (log more longer : List (Event Fact)) (commit : Commitment) → log ++ more ≡ longer → IsToldIn log commit → IsToldIn longer commit
tells_on log more longer commit whole told = record {
  before = told.before;
  event = told.event;
  rest = told.rest ++ more;
  whole = sym (append_assoc told.before (told.event ∷ told.rest) more) ∙ ap (λ l. l ++ more) told.whole ∙ whole;
  tells = told.tells;
}

head_same : {X : Type 0} {x y : X} {xs ys : List X} → x ∷ xs ≡ y ∷ ys → x ≡ y
head_same e = cc e

tail_same : {X : Type 0} {x y : X} {xs ys : List X} → x ∷ xs ≡ y ∷ ys → xs ≡ ys
tail_same e = cc e

-- two places in a list are one, or one comes behind the other
two_places : {X : Type 0} (xs ys : List X) (x y : X) (us vs : List X) → xs ++ x ∷ us ≡ ys ++ y ∷ vs
    → (xs ≡ ys) ⊎ (((more : List X) × (xs ≡ ys ++ y ∷ more)) ⊎ ((more : List X) × (ys ≡ xs ++ x ∷ more)))
two_places [] [] x y us vs same = inl refl
two_places [] (z ∷ ys) x y us vs same = inr (inr (ys, let first = head_same same in ap (λ v. v ∷ ys) (sym first)))
two_places (w ∷ xs) [] x y us vs same = inr (inl (xs, let first = head_same same in ap (λ v. v ∷ xs) first))
two_places {X} (w ∷ xs) (z ∷ ys) x y us vs same = elim (two_places xs ys x y us vs (tail_same same)) [
  | inl one ↦ inl (λ i. head_same same i ∷ one i)
  | inr apart ↦ elim apart [
    | inl later ↦ inr (inl (later.0, λ i. head_same same i ∷ later.1 i))
    | inr sooner ↦ inr (inr (sooner.0, λ i. sym (head_same same) i ∷ sooner.1 i))
  ]
]

module _ (given : ℕ → Option OldKept) (first : TreeState) where
  told_may : (before : List (Event Fact)) (event : Event Fact) (commit : Commitment) → MayStandAfter given first (account_of before) event
      → commit_told event ≡ Some commit → MayBeCommitted given first (account_of before) commit
  told_may before (Called entry) commit may is = absurd (cc is)
  told_may before (Told by (Trimmed number part)) commit may is = absurd (cc is)
  told_may before (Told by (Committed number node stamp members held)) commit may is =
      subst (λ c. MayBeCommitted given first (account_of before) c) (some_same is) may

  module _ (node : ℕ) where
    abbrev flushed_of : List (Event Fact) → Flushed
    flushed_of log = flushed_in given (account_of log) node

    -- what was flushed behind an event: as before it, or as the commit that it tells holds it
    pub data GoesOn (before : List (Event Fact)) (event : Event Fact) : Type 0 where
      stays : flushed_of (before ++ event ∷ []) ≡ flushed_of before → GoesOn before event
      written : (commit : Commitment) (held : HeldNode) → commit_told event ≡ Some commit → held_by commit node ≡ Some held
          → flushed_of (before ++ event ∷ []) ≡ record { cut = held.new_cut.0; last = commit.number; old = held.new }
          → (flushed_of before).last < commit.number → (flushed_of before).cut ≤ held.new_cut.0 → GoesOn before event

    pub goes_on : (before : List (Event Fact)) (event : Event Fact) → MayStandAfter given first (account_of before) event → GoesOn before event
    goes_on before event may = by (commit_told event) refl
      where
        by_held : (commit : Commitment) → commit_told event ≡ Some commit → (o : Option HeldNode) → held_by commit node ≡ o → GoesOn before event
        by_held commit told None holds =
            GoesOn.stays
            (ap (flushed_by given node)
            (ap (last_writer node) (after_told before event commit told) ∙ last_writer-push node (account_of before).commits commit
            ∙ ap (λ (h : Option HeldNode). option_or (writes_by commit h) (last_writer node (account_of before).commits)) holds))
        by_held commit told (Some held) holds =
            let there = found_of node commit.held held holds in
            let may_hold = (told_may before event commit may told).holds held there.0 in
            GoesOn.written commit held told holds
            (ap (flushed_by given node)
            (ap (last_writer node) (after_told before event commit told) ∙ last_writer-push node (account_of before).commits commit
            ∙ ap (λ (h : Option HeldNode). option_or (writes_by commit h) (last_writer node (account_of before).commits)) holds))
            (subst (λ n. (flushed_in given (account_of before) n).last < commit.number) there.1 may_hold.later)
            (subst (λ n. (flushed_in given (account_of before) n).cut ≤ held.new_cut.0) there.1 may_hold.rises)

        by : (o : Option Commitment) → commit_told event ≡ o → GoesOn before event
        by None told = GoesOn.stays (ap (λ l. flushed_by given node (last_writer node l)) (after_quiet before event told))
        by (Some commit) told = by_held commit told (held_by commit node) refl

    one_of_first : (o : Option Commitment) (rest : List Commitment) (commit : Commitment) → IsOneOf (cons_option o rest) commit
        → (o ≡ Some commit) ⊎ IsOneOf rest commit
    one_of_first None rest commit among = inr among
    one_of_first (Some c) rest commit among = elim among [ inl here ↦ inl (ap Some here) | inr there ↦ inr there ]

    -- a commit that was told behind a beginning of a lawful log, and holds the node, has a greater number than the last one there
    pub told_later : (before rest : List (Event Fact)) (commit : Commitment) (held : HeldNode) → AreLawfulBehind given first before rest
        → IsOneOf (filter_map commit_told rest) commit → held_by commit node ≡ Some held → (flushed_of before).last < commit.number
    told_later before [] commit held lawful one holds = absurd one
    told_later before (event ∷ rest) commit held lawful one holds = elim (one_of_first (commit_told event) (filter_map commit_told rest) commit one) [
      | inl here ↦
          let there = found_of node commit.held held holds in
          subst (λ n. (flushed_in given (account_of before) n).last < commit.number) there.1
          ((told_may before event commit lawful.0 here).holds held there.0).later
      | inr more ↦ by (goes_on before event lawful.0) (told_later (before ++ event ∷ []) rest commit held lawful.1 more holds)
    ]
      where
        by : GoesOn before event → (flushed_of (before ++ event ∷ [])).last < commit.number → (flushed_of before).last < commit.number
        by (GoesOn.stays same) less = subst (λ (f : Flushed). f.last < commit.number) same less
        by (GoesOn.written other theirs told there is above cut) less =
            let number = ap (λ (f : Flushed). f.last) is in omega (arith, less, above, number)

    raises_on : (log more : List (Event Fact)) (below : ℕ) → RaisesOver given log node below → RaisesOver given (log ++ more) node below
    raises_on log more below raises = record {
      commit = raises.commit;
      theirs = raises.theirs;
      told = tells_on log more (log ++ more) raises.commit refl raises.told;
      holds = raises.holds;
      from = raises.from;
      over = raises.over;
    }

    -- each stamp below what was flushed was passed by a commit
    passed_behind : (before rest : List (Event Fact)) (below : ℕ) → AreLawfulBehind given first before rest
        → (below < (flushed_of before).cut → RaisesOver given before node below)
        → below < (flushed_of (before ++ rest)).cut → RaisesOver given (before ++ rest) node below
    passed_behind before [] below lawful passed less =
        subst (λ l. RaisesOver given l node below) (sym (append-nil before))
        (passed (subst (λ l. below < (flushed_of l).cut) (append-nil before) less))
    passed_behind before (event ∷ rest) below lawful passed less =
        subst (λ l. RaisesOver given l node below) (append_assoc before (event ∷ []) rest)
        (passed_behind (before ++ event ∷ []) rest below lawful.1 (by (goes_on before event lawful.0))
        (subst (λ l. below < (flushed_of l).cut) (sym (append_assoc before (event ∷ []) rest)) less))
      where
        by : GoesOn before event → below < (flushed_of (before ++ event ∷ [])).cut → RaisesOver given (before ++ event ∷ []) node below
        by (GoesOn.stays same) under =
            raises_on before (event ∷ []) below (passed (subst (λ (f : Flushed). below < f.cut) same under))
        by (GoesOn.written commit held told holds is above cut) under = elim (below_or below (flushed_of before).cut) [
          | inl early ↦ raises_on before (event ∷ []) below (passed early)
          | inr late ↦ record {
            commit = commit;
            theirs = held;
            told = record { before = before; event = event; rest = []; whole = refl; tells = told };
            holds = holds;
            from = late;
            over = let new = ap (λ (f : Flushed). f.cut) is in omega (arith, under, new);
          }
        ]

    pub passed : (log : List (Event Fact)) (below : ℕ) → IsLawfulLog given first log → below < (flushed_of log).cut → RaisesOver given log node below
    passed log below lawful less = passed_behind [] log below lawful (λ never. absurd (omega (arith, never))) less

  -- a commit is told once
  pub told_once : (log : List (Event Fact)) (commit : Commitment) → IsLawfulLog given first log → (one other : IsToldIn log commit)
      → one.before ≡ other.before
  told_once log commit lawful one other =
      elim (two_places one.before other.before one.event other.event one.rest other.rest (one.whole ∙ sym other.whole)) [
        | inl same ↦ same
        | inr apart ↦ elim apart [
          | inl later ↦ absurd (again one other later.0 later.1)
          | inr sooner ↦ absurd (again other one sooner.0 sooner.1)
        ]
      ]
    where
      again : (late soon : IsToldIn log commit) (more : List (Event Fact)) → late.before ≡ soon.before ++ soon.event ∷ more → ⊥
      again late soon more is =
          let there : IsToldIn late.before commit =
          record { before = soon.before; event = soon.event; rest = more; whole = sym is; tells = soon.tells } in
          let behind = lawful_behind given first [] late.before (late.event ∷ late.rest) (subst (IsLawfulLog given first) (sym late.whole) lawful) in
          (told_may late.before late.event commit behind.0 late.tells).fresh commit (told_one late.before commit there) refl refl

  -- a beginning of a lawful log is lawful
  lawful_from : (before front rest : List (Event Fact)) → AreLawfulBehind given first before (front ++ rest) → AreLawfulBehind given first before front
  lawful_from before [] rest lawful = tt
  lawful_from before (event ∷ front) rest lawful = (lawful.0, lawful_from (before ++ event ∷ []) front rest lawful.1)

  pub lawful_begin : (at rest log : List (Event Fact)) → at ++ rest ≡ log → IsLawfulLog given first log → IsLawfulLog given first at
  lawful_begin at rest log whole lawful = lawful_from [] at rest (subst (IsLawfulLog given first) (sym whole) lawful)

-- the calls of a beginning of a log are a beginning of its calls
pub calls_begin : (at rest log : List (Event Fact)) → at ++ rest ≡ log → calls_in at ++ calls_in rest ≡ calls_in log
calls_begin at rest log whole = sym (filter_map-append called at rest) ∙ ap calls_in whole

pub legal_begin : (first : TreeState) (at rest log : List (Event Fact)) → at ++ rest ≡ log → IsLegal first (calls_in log) → IsLegal first (calls_in at)
legal_begin first at rest log whole legal =
    legal_front first 0 (calls_in at) (calls_in rest) (subst (IsLegal first) (sym (calls_begin at rest log whole)) legal)

-- an entry of a legal history has a stamp below its end
pub stamp_within : (first : TreeState) (history : List Entry) (entry : Entry) → IsLegal first history → IsOneOf history entry
    → entry.stamp.0 < length history
stamp_within first history entry legal one = slice_get_within history entry.stamp.0 entry (entries_may_come first history entry legal one).stands
