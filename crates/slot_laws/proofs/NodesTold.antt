-- Behind each history by the rules the last commits of nodes fit.
use Rattle.std.specs.Prelude.{is_some}
use Rattle.std.proofs.Common.{◌≡◌, ◌≢◌, ◌∷◌, ◌++◌, ◌∙◌, ℕ, Bool, true, false, cond, not, List, [], inl, inr, refl, sym, ap, subst, nat_eq, append-nil}
use Rattle.std.proofs.Math.Path.{fun_ext}
use Rattle.sfs_base.specs.declared.numbers.CoreId.{CoreId}
use Rattle.sfs_base.proofs.BasicTruth.{not_both, true_or_false, true_not_false}
use Rattle.sfs_base.proofs.BasicNumbers.{same_number, not_same}
use Rattle.sfs_image.specs.Super.{Layout}
use Rattle.space_map.specs.Space.{GrantedNumbers}
use Rattle.cut_laws.specs.Rules.{IsOneOf}
use Rattle.cut_laws.proofs.Listed.{to_filter, to_map}
use Rattle.cut_laws.proofs.Basics.{in_left}
use Rattle.merge_laws.proofs.Blocks.{same_or_not}
use Rattle.stamp_table.specs.declared.event.Event.{Event}
use Rattle.stamp_table.specs.declared.event.Event.TheVariants.{Called, Told}
use Rattle.slot_laws.specs.Labels.{BoxPast, with_end, after_label, past_from, after_event, first_past}
use Rattle.slot_laws.specs.Lasts.{LastsFit, held_by_none, NodesFit, Reserving, KnewItsNodes, told_reserving, ReservingsKnew, ends_it, GoesOnOpen, NodesCount, NotedTurnsKeepNodes}
use Rattle.slot_laws.specs.Nodes.{ReservedCommit, giving_up, is_numbered, ended_lasts, last_ended, commits_but, LastCommit, returned_lasts, commits_numbered, is_numbered_otherwise, no_numbers, last_seen}
use Rattle.slot_laws.specs.declared.label.Label.{Label}
use Rattle.slot_laws.specs.Rules.{MayLabel, MayFrom, ReservedRule}
use Rattle.slot_laws.specs.declared.label.Seen.{Seen}
use Rattle.slot_laws.specs.declared.label.Label.TheVariants as label
use Rattle.slot_laws.proofs.Numbered.{Lacks, find_split, at_seam}
use Rattle.slot_laws.proofs.Lasts.{end_fits, back_fits, reserve_fits, changed_fits, names_seen, none_of_seen}

-- two numbers that a test tells apart are not one
pub other_by_test : (a b : ℕ) → nat_eq a b ≡ false → a ≢ b
other_by_test a b differs same = not_both (subst (λ (n : ℕ). nat_eq a n ≡ true) same (same_number a)) differs

-- what labels have told of nodes fits
abbrev pub LastsOf : BoxPast → Type 0
LastsOf past = LastsFit past.lasts past.opens past.done past.commits

-- what a commit gives up changes neither its number nor its nodes
module _ (number : ℕ) (numbers : GrantedNumbers) where
  pub giving_number : (one : ReservedCommit) → (giving_up number numbers one).number ≡ one.number
  giving_number one = by (is_numbered number one)
    where
      by : (b : Bool) → (cond b (record one { gives_up = numbers }) one).number ≡ one.number
      by true = refl
      by false = refl

  pub giving_seen : (one : ReservedCommit) → (giving_up number numbers one).seen ≡ one.seen
  giving_seen one = by (is_numbered number one)
    where
      by : (b : Bool) → (cond b (record one { gives_up = numbers }) one).seen ≡ one.seen
      by true = refl
      by false = refl

module _ (past : BoxPast) (fits : LastsOf past) (number : ℕ) where
  -- where no open commit has a number, its end changes nothing
  end_nothing : Lacks number past.opens → ended_lasts number past.lasts ≡ past.lasts
  end_nothing lacks = fun_ext (λ node. elim (same_or_not (past.lasts node).number number) [
    | inl same ↦
        let is : past.lasts node ≡ last_ended number = elim (true_or_false (past.lasts node).ended) [
          | inl over ↦ λ i. record { number = same i; ended = over i }
          | inr still ↦
              let it = fits.counted node still in
              absurd (lacks.none it.commit it.among (it.number_is ∙ same))
        ] in
        ap (λ (b : Bool). cond b (last_ended number) (past.lasts node))
        (subst (λ (n : ℕ). nat_eq (past.lasts node).number n ≡ true) same (same_number (past.lasts node).number))
        ∙ sym is
    | inr apart ↦ ap (λ (b : Bool). cond b (last_ended number) (past.lasts node)) (not_same (past.lasts node).number number apart)
  ])

  pub ends_fit : LastsOf (with_end number past)
  ends_fit = elim (find_split number past.opens fits.once) [
    | inl split ↦
        subst (λ (own : List ReservedCommit). LastsFit (ended_lasts number past.lasts) (commits_but number past.opens) (past.done ++ own) past.commits)
        (sym split.own)
        (subst (λ (rest : List ReservedCommit). LastsFit (ended_lasts number past.lasts) rest (past.done ++ split.one ∷ []) past.commits) (sym split.rest)
        (end_fits past.lasts past.opens past.done past.commits fits number split))
    | inr lacks ↦
        subst (λ (own : List ReservedCommit). LastsFit (ended_lasts number past.lasts) (commits_but number past.opens) (past.done ++ own) past.commits)
        (sym lacks.own)
        (subst (λ (done : List ReservedCommit). LastsFit (ended_lasts number past.lasts) (commits_but number past.opens) done past.commits)
        (sym (append-nil past.done))
        (subst (λ (rest : List ReservedCommit). LastsFit (ended_lasts number past.lasts) rest past.done past.commits) (sym lacks.rest)
        (subst (λ (lasts : ℕ → LastCommit). LastsFit lasts past.opens past.done past.commits) (sym (end_nothing lacks)) fits)))
  ]

  pub returns_fit : LastsFit (returned_lasts (commits_numbered number past.opens) past.lasts) (commits_but number past.opens) past.done past.commits
  returns_fit = elim (find_split number past.opens fits.once) [
    | inl split ↦
        subst (λ (own : List ReservedCommit). LastsFit (returned_lasts own past.lasts) (commits_but number past.opens) past.done past.commits)
        (sym split.own)
        (subst (λ (rest : List ReservedCommit). LastsFit (returned_lasts (split.one ∷ []) past.lasts) rest past.done past.commits) (sym split.rest)
        (back_fits past.lasts past.opens past.done past.commits fits number split))
    | inr lacks ↦
        subst (λ (own : List ReservedCommit). LastsFit (returned_lasts own past.lasts) (commits_but number past.opens) past.done past.commits)
        (sym lacks.own)
        (subst (λ (rest : List ReservedCommit). LastsFit past.lasts rest past.done past.commits) (sym lacks.rest) fits)
  ]

module _ (layout : Layout) (before : ℕ) where
  pub lasts_label : (core : ℕ) (past : BoxPast) → LastsOf past → (fact : Label) → MayLabel layout before core fact past
      → LastsOf (after_label layout core fact past)
  lasts_label core past fits label.Took rule = fits
  lasts_label core past fits label.Gave rule = fits
  lasts_label core past fits (label.Noted turn) rule = fits
  lasts_label core past fits (label.Reserved commit seen grant) rule =
      reserve_fits past.lasts past.opens past.done past.commits fits commit seen.items grant rule.next rule.unmoved
  lasts_label core past fits (label.Returned commit) rule = returns_fit past fits commit
  lasts_label core past fits (label.Began filling commit node stamp blocks inodes) rule =
      let numbers : GrantedNumbers = record { inodes = inodes.items; blocks = blocks.items } in
      changed_fits past.lasts past.opens past.done past.commits fits (giving_up commit numbers) (giving_number commit numbers) (giving_seen commit numbers)
  lasts_label core past fits (label.Filled k piece done) rule = fits
  lasts_label core past fits (label.Synced now) rule = fits
  lasts_label core past fits (label.Opened k done cut opened) rule = fits
  lasts_label core past fits (label.Settled k turn) rule = ends_fit past fits turn.commit
  lasts_label core past fits (label.Learned turn) rule = fits
  lasts_label core past fits (label.Placed k n done) rule = fits
  lasts_label core past fits (label.Shut k done) rule = fits
  lasts_label core past fits (label.Idled k) rule = fits
  lasts_label core past fits (label.Empty commit cut opened durable) rule = ends_fit past fits commit

  pub lasts_from : (log : List (Event Label)) (past : BoxPast) → LastsOf past → MayFrom layout before log past → LastsOf (past_from layout log past)
  lasts_from [] past fits may = fits
  lasts_from (Called entry ∷ log) past fits may = absurd may.0
  lasts_from (Told core fact ∷ log) past fits may =
      lasts_from log (after_label layout core.0 fact past) (lasts_label core.0 past fits fact may.0.1) may.1

  -- a history that may be told, in two parts
  pub may_parts : (log more : List (Event Label)) (past : BoxPast) → MayFrom layout before (log ++ more) past
      → MayFrom layout before log past × MayFrom layout before more (past_from layout log past)
  may_parts [] more past may = (tt, may)
  may_parts (event ∷ log) more past may =
      let rest = may_parts log more (after_event layout event past) may.1 in
      ((may.0, rest.0), rest.1)

  pub past_parts : (log more : List (Event Label)) (past : BoxPast) → past_from layout (log ++ more) past ≡ past_from layout more (past_from layout log past)
  past_parts [] more past = refl
  past_parts (event ∷ log) more past = past_parts log more (after_event layout event past)

pub first_lasts : (moment : ℕ) → LastsOf (first_past moment)
first_lasts moment = record {
  once = tt;
  given = λ one never. absurd never;
  ended = λ one never. absurd never;
  counts = λ one node never held. absurd never;
  counted = λ node still. absurd (true_not_false still);
  knew = λ one node last never is. absurd never;
  named = λ node over. held_by_none (λ other never. absurd never) refl;
  earlier = λ one other node never there held too. absurd never;
}

pub nodes_fit : NodesFit
nodes_fit layout before moment log may = lasts_from layout before log (first_past moment) (first_lasts moment) may

-- a reserving knew its nodes
pub reserving_knew : (past : BoxPast) (one : Reserving) → LastsOf past → ReservedRule one.core.0 one.commit one.seen.items past → KnewItsNodes past one
reserving_knew past one fits rule = record {
  next = rule.next;
  ended = rule.unmoved;
  knew = names_seen past.lasts past.opens past.done past.commits fits one.commit one.seen.items one.grant rule.next rule.unmoved;
  none_open = none_of_seen past.lasts past.opens past.done past.commits fits one.commit one.seen.items one.grant rule.next rule.unmoved;
}

module _ (layout : Layout) (before : ℕ) (one : Reserving) (back : List (Event Label)) where
  -- the rule of a reserving, and what the last commits fit, at its place
  pub reserving_at : (front : List (Event Label)) (past : BoxPast) → LastsOf past → MayFrom layout before (front ++ told_reserving one ∷ back) past
      → ReservedRule one.core.0 one.commit one.seen.items (past_from layout front past) × LastsOf (past_from layout front past)
  reserving_at front past fits may =
      let parts = may_parts layout before front (told_reserving one ∷ back) past may in
      (parts.1.0.1, lasts_from layout before front past fits parts.0)

pub reservings_knew : ReservingsKnew
reservings_knew layout before moment log one told may =
    let at = reserving_at layout before one told.back told.front (first_past moment) (first_lasts moment)
    (subst (λ (l : List (Event Label)). MayFrom layout before l (first_past moment)) told.whole may) in
    reserving_knew (past_from layout told.front (first_past moment)) one at.1 at.0

-- A commit is open, with these nodes.
pub record IsOpenAs (opens : List ReservedCommit) (number : ℕ) (seen : List Seen) : Type 0 where
  pub commit : ReservedCommit
  pub among : IsOneOf opens commit
  pub number_is : commit.number ≡ number
  pub seen_is : commit.seen ≡ seen

module _ (number : ℕ) (seen : List Seen) where
  -- it stays so where another one is taken out
  open_but : (opens : List ReservedCommit) (other : ℕ) → nat_eq other number ≡ false → IsOpenAs opens number seen
      → IsOpenAs (commits_but other opens) number seen
  open_but opens other differs it = record {
    commit = it.commit;
    among =
        to_filter (is_numbered_otherwise other) opens it.commit it.among
        (ap not (not_same it.commit.number other (λ e. other_by_test other number differs (sym e ∙ it.number_is))));
    number_is = it.number_is;
    seen_is = it.seen_is;
  }

  open_label : (layout : Layout) (core : CoreId) (past : BoxPast) (fact : Label) → ends_it number (Told core fact) ≡ false → IsOpenAs past.opens number seen
      → IsOpenAs (after_label layout core.0 fact past).opens number seen
  open_label layout core past label.Took goes it = it
  open_label layout core past label.Gave goes it = it
  open_label layout core past (label.Noted turn) goes it = it
  open_label layout core past (label.Reserved commit now grant) goes it = record {
    commit = it.commit;
    among = in_left past.opens (record { number = commit; seen = now.items; grant = grant; gives_up = no_numbers } ∷ []) it.commit it.among;
    number_is = it.number_is;
    seen_is = it.seen_is;
  }
  open_label layout core past (label.Returned commit) goes it = open_but past.opens commit goes it
  open_label layout core past (label.Began filling commit node stamp blocks inodes) goes it =
      let numbers : GrantedNumbers = record { inodes = inodes.items; blocks = blocks.items } in
      record {
        commit = giving_up commit numbers it.commit;
        among = to_map (giving_up commit numbers) past.opens it.commit it.among;
        number_is = giving_number commit numbers it.commit ∙ it.number_is;
        seen_is = giving_seen commit numbers it.commit ∙ it.seen_is;
      }
  open_label layout core past (label.Filled k piece done) goes it = it
  open_label layout core past (label.Synced now) goes it = it
  open_label layout core past (label.Opened k done cut opened) goes it = it
  open_label layout core past (label.Settled k turn) goes it = open_but past.opens turn.commit goes it
  open_label layout core past (label.Learned turn) goes it = it
  open_label layout core past (label.Placed k n done) goes it = it
  open_label layout core past (label.Shut k done) goes it = it
  open_label layout core past (label.Idled k) goes it = it
  open_label layout core past (label.Empty commit cut opened durable) goes it = open_but past.opens commit goes it

  open_log : (layout : Layout) (log : List (Event Label)) (past : BoxPast) → GoesOnOpen number log → IsOpenAs past.opens number seen
      → IsOpenAs (past_from layout log past).opens number seen
  open_log layout [] past goes it = it
  open_log layout (Called entry ∷ log) past goes it = open_log layout log past (λ event among. goes event (inr among)) it
  open_log layout (Told core fact ∷ log) past goes it =
      open_log layout log (after_label layout core.0 fact past) (λ event among. goes event (inr among))
      (open_label layout core past fact (goes (Told core fact) (inl refl)) it)

-- a commit that has just reserved is open
reserved_open : (layout : Layout) (past : BoxPast) (one : Reserving)
    → IsOpenAs (after_label layout one.core.0 (label.Reserved one.commit one.seen one.grant) past).opens one.commit one.seen.items
reserved_open layout past one = record {
  commit = record { number = one.commit; seen = one.seen.items; grant = one.grant; gives_up = no_numbers };
  among = at_seam past.opens [] (record { number = one.commit; seen = one.seen.items; grant = one.grant; gives_up = no_numbers });
  number_is = refl;
  seen_is = refl;
}

-- and is so as long as none ends it
pub still_open : (layout : Layout) (one : Reserving) (front back : List (Event Label)) (past : BoxPast) → GoesOnOpen one.commit back
    → IsOpenAs (past_from layout (front ++ told_reserving one ∷ back) past).opens one.commit one.seen.items
still_open layout one front back past goes =
    subst (λ (p : BoxPast). IsOpenAs p.opens one.commit one.seen.items) (sym (past_parts layout 0 front (told_reserving one ∷ back) past))
    (open_log one.commit one.seen.items layout back
    (after_label layout one.core.0 (label.Reserved one.commit one.seen one.grant) (past_from layout front past)) goes
    (reserved_open layout (past_from layout front past) one))

pub nodes_count : NodesCount
nodes_count layout before moment log one still may node held =
    let it = subst (λ (l : List (Event Label)). IsOpenAs (past_from layout l (first_past moment)).opens one.commit one.seen.items) (sym still.told.whole)
    (still_open layout one still.told.front still.told.back (first_past moment) still.goes) in
    (nodes_fit layout before moment log may).counts it.commit node it.among
    (subst (λ (seen : List Seen). is_some (last_seen seen node) ≡ true) (sym it.seen_is) held)
    ∙ ap (λ (n : ℕ). record { number = n; ended = false }) it.number_is

pub noted_turns_keep_nodes : NotedTurnsKeepNodes
noted_turns_keep_nodes layout core turn past = record { commits = refl; lasts = refl; opens = refl; done = refl }
