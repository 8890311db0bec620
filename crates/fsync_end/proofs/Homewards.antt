-- A commit on its way home, from one log to the next.
use Rattle.std.specs.Prelude.{if◌then◌else◌}
use Rattle.std.specs.Option.{option_or}
use Rattle.std.proofs.Common.{◌≡◌, ◌<◌, ◌==◌, ◌∷◌, ◌++◌, ◌∙◌, ℕ, zero, suc, true, List, [], length, filter_map, Option, Some, None, inl, inr, refl, sym, ap, subst, append-nil, append_assoc, eq-eqb, arith, ⊎_elim}
use mathlib.Core.List.{IsPrefix}
use Rattle.std.proofs.lemmas.Bool.{cases_Bool}
use Rattle.std.proofs.lemmas.List.{append_cancel_right}
use Rattle.std.proofs.lemmas.List.Elements.{filter-append, filter_map-append}
use Rattle.tree_laws.specs.Tree.{TreeState}
use Rattle.disk_nodes.specs.OldKept.{OldKept}
use Rattle.cut_laws.specs.Rules.{IsOneOf}
use Rattle.cut_laws.proofs.Basics.{in_left, in_right, in_either}
use Rattle.stamp_table.specs.declared.event.Event.{Event}
use Rattle.stamp_table.specs.declared.event.Event.TheVariants.{Called, Told}
use Rattle.stamp_table.specs.declared.view.View.{View}
use Rattle.stamp_table.specs.Rule.{is_by, entries_by}
use Rattle.stamp_table.specs.Events.{event_core, is_call, told_by, IsLawful, stands_for}
use Rattle.stamp_table.specs.Steps.{Drew}
use Rattle.mem_values.specs.Start.{FileHand}
use Rattle.mem_values.specs.declared.fact.Fact.{Fact}
use Rattle.mem_values.specs.declared.fact.Fact.TheVariants.{Committed, Trimmed}
use Rattle.mem_values.specs.declared.fact.HeldNode.{HeldNode}
use Rattle.mem_values.specs.Account.{Commitment, Trimming, commit_told, trimming_told, account_of, held_by, writes_by, last_writer}
use Rattle.mem_values.specs.Facts.{AreLawfulBehind, IsLawfulLog}
use Rattle.mem_values.specs.Stands.{IsTrimmedFor, StandsAt}
use Rattle.mem_values.specs.Telling.{MayTellCommit}
use Rattle.mem_values.proofs.Lasting.{still_last}
use Rattle.mem_values.proofs.Lawful.{lawful_behind}
use Rattle.mem_values.proofs.Told.{commits_of, one_of_some, own_commit, trimmed_commit, last_writer-push}
use Rattle.fsync_end.specs.Trimming.{trim_event, trim_events, TrimsPart, TrimsAll, Homeward, IsHomeward, HasTold}

abbrev trimmings_of : List (Event Fact) → List Trimming
trimmings_of log = filter_map trimming_told log

-- a trimming of a core stands among the core's own events
own_trimming : (log : List (Event Fact)) (core : ℕ) (trimming : Trimming) → IsOneOf (trimmings_of log) trimming → trimming.core ≡ core
    → IsOneOf (trimmings_of (entries_by event_core core log)) trimming
own_trimming [] core trimming among own = absurd among
own_trimming (Called entry ∷ log) core trimming among own = let r = own_trimming log core trimming among own in
    ⊎_elim (λ is. rw is r) (λ not. rw not r) (cases_Bool (entry.core.0 == core))
own_trimming (Told by (Committed number node stamp members held) ∷ log) core trimming among own = let r = own_trimming log core trimming among own in
    ⊎_elim (λ is. rw is r) (λ not. rw not r) (cases_Bool (by.0 == core))
own_trimming (Told by (Trimmed number part) ∷ log) core trimming among own = elim among [
  | inl here ↦ rw (eq-eqb by.0 core (ap (λ (t : Trimming). t.core) here ∙ own)) (inl here)
  | inr there ↦ let r = own_trimming log core trimming there own in ⊎_elim (λ is. rw is (inr r)) (λ not. rw not r) (cases_Bool (by.0 == core))
]

-- a core's own events, behind which it told a fact
own_snoc : (log : List (Event Fact)) (core : ℕ) (fact : Fact)
    → entries_by event_core core (log ++ told_by core fact 0 ∷ []) ≡ entries_by event_core core log ++ told_by core fact 0 ∷ []
own_snoc log core fact =
    let event : Event Fact = told_by core fact 0 in
    filter-append (is_by event_core core) log (event ∷ [])
    ∙ ap (λ b. entries_by event_core core log ++ (if b then event ∷ [] else [])) (eq-eqb core core refl)

-- of the first logs that were told none is this one
not_told : (core number count part : ℕ) (other : ℕ) → count ≡ part
    → IsOneOf (trimmings_of (trim_events core number count)) (record { core = core; number = number; part = other }) → other < part
not_told core number zero part other is among = absurd among
not_told core number (suc count) part other is among =
    elim (in_either (trimmings_of (trim_events core number count)) (record { core = core; number = number; part = count } ∷ [])
    (record { core = core; number = number; part = other })
    (subst (λ l. IsOneOf l (record { core = core; number = number; part = other }))
    (filter_map-append trimming_told (trim_events core number count) (trim_event core number count ∷ [])) among)) [
      | inl before ↦ (let lt = not_told core number count count other refl before in omega (arith, lt, is))
      | inr now ↦ elim now [
        | inl same ↦ (let p = ap (λ (t : Trimming). t.part) same in omega (arith, p, is))
        | inr none ↦ absurd none
      ]
    ]

-- what tells a commit tells no trimming
tells_no_trimming : (event : Event Fact) (commit : Commitment) → commit_told event ≡ Some commit → trimming_told event ≡ None
tells_no_trimming (Called entry) commit is = refl
tells_no_trimming (Told by (Committed number node stamp members held)) commit is = refl
tells_no_trimming (Told by (Trimmed number part)) commit is = absurd (cc (is))

-- the trimmings of events to which one was added that tells none
with_none : (mine : List (Event Fact)) (event : Event Fact) → trimming_told event ≡ None → trimmings_of (mine ++ event ∷ []) ≡ trimmings_of mine
with_none mine event none =
    filter_map-append trimming_told mine (event ∷ [])
    ∙ (ap (λ o. trimmings_of mine ++ Rattle.std.specs.List.cons_option o []) none ∙ append-nil (trimmings_of mine))

-- the commits of a log behind which a trimming was told
same_commits : (log : List (Event Fact)) (core number part : ℕ) → commits_of (log ++ trim_event core number part ∷ []) ≡ commits_of log
same_commits log core number part = filter_map-append commit_told log (trim_event core number part ∷ []) ∙ append-nil (commits_of log)

-- what is told in a beginning of a lawful log may stand where it does
module _ (given : ℕ → Option OldKept) (first : TreeState) where
  front_behind : (done log rest : List (Event Fact)) → AreLawfulBehind given first done (log ++ rest) → AreLawfulBehind given first done log
  front_behind done [] rest lawful = tt
  front_behind done (e ∷ log) rest lawful = (lawful.0, front_behind (done ++ e ∷ []) log rest lawful.1)

  pub lawful_front : (log rest : List (Event Fact)) → IsLawfulLog given first (log ++ rest) → IsLawfulLog given first log
  lawful_front log rest lawful = front_behind [] log rest lawful

-- a commit of a beginning of a log is one of the log
pub commits_stay : (seen log : List (Event Fact)) (commit : Commitment) → IsPrefix seen log → IsOneOf (commits_of seen) commit → IsOneOf (commits_of log) commit
commits_stay seen log commit saw among =
    subst (λ l. IsOneOf (commits_of l) commit) saw.1
    (subst (λ l. IsOneOf l commit) (sym (filter_map-append commit_told seen saw.0)) (in_left (commits_of seen) (commits_of saw.0) commit among))

module _ (given : ℕ → Option OldKept) (way : Homeward) (count : ℕ) (before after : FileHand) (home : IsHomeward given way count before.view)
    (trims : TrimsPart given way.commit.number count before after) where
  abbrev core : ℕ
  core = before.view.core

  abbrev event : Event Fact
  event = trim_event core way.commit.number count

  core_is : after.view.core ≡ core
  core_is = ap (λ (v : View TreeState (Event Fact)). v.core) trims.view

  first_is : after.view.first ≡ before.view.first
  first_is = ap (λ (v : View TreeState (Event Fact)). v.first) trims.view

  -- what the core had told before are its events of the log then
  own_before : before.view.mine ≡ entries_by event_core core trims.log
  own_before = append_cancel_right before.view.mine (entries_by event_core core trims.log) (event ∷ [])
      (sym trims.mine
      ∙ (trims.own ∙ ((λ i. entries_by event_core (core_is i) (trims.last i)) ∙ own_snoc trims.log core (Trimmed way.commit.number (record { 0 = count })))))

  -- the log was not trimmed for it then
  not_yet : IsTrimmedFor (account_of trims.log) way.commit count → ⊥
  not_yet trimmed =
      let here : IsOneOf (trimmings_of trims.log) (record { core = core; number = way.commit.number; part = count }) =
      subst (λ c. IsOneOf (trimmings_of trims.log) (record { core = c; number = way.commit.number; part = count })) home.is_own trimmed in
      let mine = subst (λ l. IsOneOf (trimmings_of l) (record { core = core; number = way.commit.number; part = count })) (sym own_before ∙ home.mine_is)
      (own_trimming trims.log core (record { core = core; number = way.commit.number; part = count }) here refl) in
      elim (in_either (trimmings_of (way.mine ++ way.event ∷ [])) (trimmings_of (trim_events core way.commit.number count))
      (record { core = core; number = way.commit.number; part = count })
      (subst (λ l. IsOneOf l (record { core = core; number = way.commit.number; part = count }))
      (filter_map-append trimming_told (way.mine ++ way.event ∷ []) (trim_events core way.commit.number count)) mine)) [
        | inl old ↦ home.fresh count (subst (λ l. IsOneOf l (record { core = core; number = way.commit.number; part = count }))
            (with_none way.mine way.event (tells_no_trimming way.event way.commit home.tells)) old)
        | inr new ↦ (let lt = not_told core way.commit.number count count count refl new in omega (arith, lt))
      ]

  lawful_log : IsLawfulLog given before.view.first trims.log
  lawful_log = lawful_front given before.view.first trims.log (event ∷ [])
      (subst (λ (z : TreeState × List (Event Fact)). IsLawfulLog given z.0 z.1) (λ i. (first_is i, trims.last i)) trims.lawful.told)

  -- it is still the last one of each node that it holds
  last_then : (member : ℕ) → count < length before.view.first.made → IsOneOf way.commit.members member → (node : ℕ) (what : HeldNode)
      → held_by way.commit node ≡ Some what → last_writer node (commits_of after.view.seen) ≡ Some (way.commit, what)
  last_then member within has node what holds =
      ap (λ l. last_writer node (commits_of l)) trims.last
      ∙ (ap (last_writer node) (same_commits trims.log core way.commit.number count)
      ∙ (ap (λ l. last_writer node (commits_of l)) (sym trims.seen.1)
      ∙ still_last given before.view.first way.commit count node what within member has before.view.seen trims.seen.0
      (lawful_behind given before.view.first [] before.view.seen trims.seen.0
      (subst (λ l. IsLawfulLog given before.view.first l) (sym trims.seen.1) lawful_log))
      (home.last node what holds)
      (λ trimmed. not_yet (subst (λ l. IsOneOf (trimmings_of l) (record { core = way.commit.core; number = way.commit.number; part = count }))
      trims.seen.1 trimmed))))

  pub homeward_more : (member : ℕ) → count < length before.view.first.made → IsOneOf way.commit.members member → IsHomeward given way (suc count) after.view
  homeward_more member within has = record {
    lawful = trims.lawful;
    own = trims.own;
    tells = home.tells;
    is_own = home.is_own ∙ sym core_is;
    mine_is =
        trims.mine
        ∙ (ap (λ l. l ++ event ∷ []) home.mine_is
        ∙ (append_assoc (way.mine ++ way.event ∷ []) (trim_events core way.commit.number count) (event ∷ [])
        ∙ ap (λ c. (way.mine ++ way.event ∷ []) ++ trim_events c way.commit.number (suc count)) (sym core_is)));
    fresh = λ part told. home.fresh part
        (subst (λ c. IsOneOf (trimmings_of way.mine) (record { core = c; number = way.commit.number; part = part })) core_is told);
    among = subst (λ l. IsOneOf l way.commit) (sym (ap commits_of trims.last ∙ same_commits trims.log core way.commit.number count))
        (commits_stay before.view.seen trims.log way.commit trims.seen home.among);
    last = last_then member within has;
  }

-- A core that has told its commit has it on its way home.
module _ (given : ℕ → Option OldKept) (before after : View TreeState (Event Fact)) (fact : Fact) (commit : Commitment) (number : ℕ)
    (log : List (Event Fact))
    (drew : Drew event_core is_call (IsLawful (IsLawfulLog given)) (stands_for (StandsAt given)) (told_by before.core fact) before number after log) where
  abbrev told : Event Fact
  told = told_by before.core fact 0

  abbrev begun : Homeward
  begun = record { mine = before.mine; event = told; commit = commit }

  core_stays : after.core ≡ before.core
  core_stays = ap (λ (v : View TreeState (Event Fact)). v.core) drew.frame

  first_stays : after.first ≡ before.first
  first_stays = ap (λ (v : View TreeState (Event Fact)). v.first) drew.frame

  log_lawful : IsLawfulLog given before.first log
  log_lawful = lawful_front given before.first log (told ∷ []) (subst (λ l. IsLawfulLog given before.first l) drew.entry_last drew.legal_seen.told)

  mine_before : before.mine ≡ entries_by event_core before.core log
  mine_before = append_cancel_right before.mine (entries_by event_core before.core log) (told ∷ [])
      (sym drew.mine ∙ (drew.own ∙ (ap (entries_by event_core before.core) drew.entry_last ∙ own_snoc log before.core fact)))

  commits_then : commit_told told ≡ Some commit → commits_of after.seen ≡ commits_of log ++ commit ∷ []
  commits_then tells =
      ap commits_of drew.entry_last
      ∙ (filter_map-append commit_told log (told ∷ []) ∙ ap (λ o. commits_of log ++ Rattle.std.specs.List.cons_option o []) tells)

  pub homeward_begins : commit_told told ≡ Some commit → commit.core ≡ before.core → MayTellCommit given before commit → IsHomeward given begun 0 after
  homeward_begins tells own may = record {
    lawful = subst (λ f. IsLawful (IsLawfulLog given) f after.seen) (sym first_stays) drew.legal_seen;
    own = drew.own ∙ ap (λ c. entries_by event_core c after.seen) (sym core_stays);
    tells = tells;
    is_own = own ∙ sym core_stays;
    mine_is = drew.mine ∙ sym (append-nil (before.mine ++ told ∷ []));
    fresh = λ part among.
        let trimming : Trimming = record { core = before.core; number = commit.number; part = part } in
        let there : IsOneOf (trimmings_of before.mine) trimming =
        subst (λ c. IsOneOf (trimmings_of before.mine) (record { core = c; number = commit.number; part = part })) core_stays among in
        let whose = trimmed_commit given before.first log trimming log_lawful
        (one_of_some trimming_told (is_by event_core before.core) log trimming (subst (λ l. IsOneOf (trimmings_of l) trimming) mine_before there)) in
        may.fresh whose.commit
        (subst (λ l. IsOneOf (commits_of l) whose.commit) (sym mine_before) (own_commit log before.core whose.commit whose.among whose.own))
        whose.numbered;
    among = subst (λ l. IsOneOf l commit) (sym (commits_then tells)) (in_right (commits_of log) (commit ∷ []) commit (inl refl));
    last = λ node what holds.
        ap (last_writer node) (commits_then tells)
        ∙ (last_writer-push node (commits_of log) commit ∙ ap (λ o. option_or (writes_by commit o) (last_writer node (commits_of log))) holds);
  }
