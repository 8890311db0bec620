-- What labels keep along a mount of what its turns do: an fsync that is underway has an open commit, each open commit has had a turn, and those are done that
-- became durable, in the order of their turns.
use Rattle.std.proofs.Common.{◌≡◌, ◌++◌, ◌∷◌, ◌⊎◌, ◌∙◌, ◌≢◌, List, ℕ, [], true, map, Bool, false, subst, ap, inl, inr, sym, refl, not}
use Rattle.std.proofs.lemmas.List.{map-append}
use Rattle.sfs_base.specs.declared.numbers.CoreId.{CoreId}
use Rattle.sfs_base.specs.declared.numbers.NodeId.{NodeId}
use Rattle.sfs_base.specs.declared.numbers.Stamp.{Stamp}
use Rattle.sfs_base.specs.Lists.{Roomy}
use Rattle.sfs_base.proofs.BasicNumbers.{not_same}
use Rattle.sfs_base.proofs.BasicTruth.{false_not_true}
use Rattle.sfs_image.specs.Super.{Layout}
use Rattle.journal_one.specs.declared.slot.Filling.{Filling}
use Rattle.space_map.specs.Space.{Space, GrantedNumbers}
use Rattle.tree_laws.specs.declared.turns.Turn.{Turn}
use Rattle.tree_laws.specs.declared.turns.TurnAct.TheVariants as act
use Rattle.cut_laws.specs.Rules.{IsOneOf}
use Rattle.cut_laws.specs.Closure.{Flush}
use Rattle.cut_laws.proofs.Basics.{in_left}
use Rattle.cut_laws.proofs.Listed.{from_map, to_map, to_filter}
use Rattle.cut_laws.proofs.RunFacts.{in_filter}
use Rattle.merge_laws.specs.Phases.{phase_of, after_halt}
use Rattle.merge_laws.specs.Plays.{durables}
use Rattle.merge_laws.proofs.Blocks.{same_or_not}
use Rattle.stamp_table.specs.declared.event.Event.{Event}
use Rattle.stamp_table.specs.declared.event.Event.TheVariants.{Told}
use Rattle.slot_laws.specs.declared.label.Seen.{Seen}
use Rattle.slot_laws.specs.declared.label.Label.{Label}
use Rattle.slot_laws.specs.Lasts.{Reserving, told_reserving}
use Rattle.slot_laws.specs.declared.label.Label.TheVariants as label
use Rattle.slot_laws.specs.Labels.{BoxPast, first_past, past_from, after_label}
use Rattle.slot_laws.specs.Nodes.{ReservedCommit, giving_up, no_numbers, commits_but, is_numbered_otherwise, commits_numbered}
use Rattle.slot_laws.specs.Rules.{MayFrom}
use Rattle.slot_laws.proofs.NodesTold.{giving_number, LastsOf}
use Rattle.slot_laws.proofs.Numbered.{last_or_before, find_split}
use Rattle.close_laws.specs.Maps.{TurnsStand, Numbered}
use Rattle.close_laws.specs.Beside.{stamps_under}
use Rattle.close_laws.specs.PenLabels.{PensTold}
use Rattle.close_laws.specs.Own.{NotesTurn}
use Rattle.close_laws.proofs.Drawn.{Drawing}
use Rattle.end_laws.proofs.Played.{is_underway, others_stay}
use Rattle.end_laws.proofs.Next.{behind_returned, ComesReserved, behind_reserved}

module _ (named : Numbered) where
  -- the last of some events reserved a number
  pub record ReservedLast (front : List (Event Label)) (number : ℕ) : Type 0 where
    pub rest : List (Event Label)
    pub one : Reserving
    pub whole : front ≡ rest ++ told_reserving one ∷ []
    pub number_is : one.commit ≡ number

  -- the last of them gave one back, of the fsync with a stamp
  pub record ReturnedLast (front : List (Event Label)) (stamp : ℕ) : Type 0 where
    pub rest : List (Event Label)
    pub core : CoreId
    pub number : ℕ
    pub whole : front ≡ rest ++ Told core (label.Returned number) ∷ []
    pub stamp_is : named.stamps number ≡ stamp

  -- the fsync with a stamp has one of some turns
  pub record HasTurnUnder (turns : List Turn) (stamp : ℕ) : Type 0 where
    pub turn : Turn
    pub among : IsOneOf turns turn
    pub stamp_is : turn.stamp.0 ≡ stamp

  pub more_under : (turns more : List Turn) (stamp : ℕ) → HasTurnUnder turns stamp → HasTurnUnder (turns ++ more) stamp
  more_under turns more stamp had = record { turn = had.turn; among = in_left turns more had.turn had.among; stamp_is = had.stamp_is }

  -- All of it, behind some events and by what they come to.
  pub record OpensAt (front : List (Event Label)) (past : BoxPast) : Type 0 where
    pub opened : (stamp : ℕ) → is_underway (phase_of stamp past.turns) ≡ true → IsOneOf (stamps_under named past.opens) stamp ⊎ ReturnedLast front stamp
    pub had : (one : ReservedCommit) → IsOneOf past.opens one → HasTurnUnder past.turns (named.stamps one.number) ⊎ ReservedLast front one.number
    pub done : map (λ (f : Flush). f.stamp) (durables past.turns) ≡ stamps_under named past.done

-- a label that neither notes a turn nor ends a commit that wrote nothing
pub record IsPlain (fact : Label) : Type 0 where
  pub no_note : (turn : Turn) → fact ≡ label.Noted turn → ⊥
  pub no_empty : (number : ℕ) (cut opened durable : Turn) → fact ≡ label.Empty number cut opened durable → ⊥

pub never_halted : (b : Bool) → is_underway (after_halt b) ≡ true → ⊥
never_halted true is = false_not_true is
never_halted false is = false_not_true is

-- a history told by pens, with what is known at each place of it
module _ (named : Numbered) (layout : Layout) (before moment : ℕ) (first : Space) (log : List (Event Label))
    (may : MayFrom layout before log (first_past moment)) (told : PensTold named.stamps log) (stand : TurnsStand named.stamps log) where
  abbrev pub begun : BoxPast
  begun = first_past moment

  module _ (front : List (Event Label)) (core : CoreId) (back : List (Event Label)) (space : Space)
      (so : OpensAt named front (past_from layout front begun)) where
    abbrev pub past : BoxPast
    past = past_from layout front begun

    abbrev pub At : Label → Type 0
    At fact = Drawing named layout before first front past (Told core fact ∷ back) space

    abbrev pub Whole : Label → Type 0
    Whole fact = log ≡ front ++ Told core fact ∷ back

    abbrev pub Then : Label → Type 0
    Then fact = OpensAt named (front ++ Told core fact ∷ []) (after_label layout core.0 fact past)

    -- what comes behind a number that was given back, or reserved
    pub comes_back : (fact : Label) → Whole fact → (stamp : ℕ) → ReturnedLast named front stamp → NotesTurn act.GivenBack stamp fact
    comes_back fact whole stamp last =
        subst (λ s. NotesTurn act.GivenBack s fact) last.stamp_is
        (behind_returned named.stamps layout before begun log may told last.rest last.core last.number core fact back
        (whole ∙ ap (λ l. l ++ Told core fact ∷ back) last.whole))

    pub comes_reserved : (fact : Label) → Whole fact → (number : ℕ) (last : ReservedLast named front number)
        → ComesReserved named.stamps last.one.commit last.one.grant fact
    comes_reserved fact whole number last =
        behind_reserved named.stamps layout before begun log may told last.rest last.one core fact back
        (whole ∙ ap (λ l. l ++ Told core fact ∷ back) last.whole)

    pub was_open : (fact : Label) → Whole fact → ((turn : Turn) → fact ≡ label.Noted turn → ⊥) → (stamp : ℕ)
        → is_underway (phase_of stamp past.turns) ≡ true → IsOneOf (stamps_under named past.opens) stamp
    was_open fact whole no_note stamp up = elim (so.opened stamp up) [
      | inl there ↦ there
      | inr last ↦ let notes = comes_back fact whole stamp last in absurd (no_note notes.turn notes.is)
    ]

    pub had_open : (fact : Label) → Whole fact → IsPlain fact → (one : ReservedCommit) → IsOneOf past.opens one
        → HasTurnUnder named past.turns (named.stamps one.number)
    had_open fact whole plain one among = elim (so.had one among) [
      | inl had ↦ had
      | inr last ↦ elim (comes_reserved fact whole one.number last) [
        | inl its ↦ absurd (plain.no_note its.notes.turn its.notes.is)
        | inr ends ↦ absurd (plain.no_empty last.one.commit ends.cut ends.opened ends.durable ends.is)
      ]
    ]

    -- a label without a turn by which none is opened or ends
    plain_label : (fact : Label) → Whole fact → IsPlain fact → (after_label layout core.0 fact past).turns ≡ past.turns
        → (after_label layout core.0 fact past).done ≡ past.done
        → ((stamp : ℕ) → IsOneOf (stamps_under named past.opens) stamp → IsOneOf (stamps_under named (after_label layout core.0 fact past).opens) stamp)
        → ((one : ReservedCommit) → IsOneOf (after_label layout core.0 fact past).opens one
        → (was : ReservedCommit) × IsOneOf past.opens was × (was.number ≡ one.number)) → Then fact
    plain_label fact whole plain turns done to from = record {
      opened = λ stamp up. inl (to stamp (was_open fact whole plain.no_note stamp (subst (λ t. is_underway (phase_of stamp t) ≡ true) turns up)));
      had = λ one among.
          let was = from one among in
          inl (subst (λ t. HasTurnUnder named t (named.stamps one.number)) (sym turns)
          (subst (λ n. HasTurnUnder named past.turns (named.stamps n)) was.2 (had_open fact whole plain was.0 was.1)));
      done = ap (λ t. map (λ (f : Flush). f.stamp) (durables t)) turns ∙ (so.done ∙ ap (stamps_under named) (sym done));
    }

    pub same_label : (fact : Label) → Whole fact → IsPlain fact → (after_label layout core.0 fact past).turns ≡ past.turns
        → (after_label layout core.0 fact past).done ≡ past.done → (after_label layout core.0 fact past).opens ≡ past.opens → Then fact
    same_label fact whole plain turns done opens =
        plain_label fact whole plain turns done
        (λ stamp among. subst (λ l. IsOneOf (stamps_under named l) stamp) (sym opens) among)
        (λ one among. (one, subst (λ l. IsOneOf l one) opens among, refl))

    pub began_label : (filling : Filling) (commit : ℕ) (node : NodeId) (stamp : Stamp) (blocks inodes : Roomy ℕ)
        → Whole (label.Began filling commit node stamp blocks inodes) → Then (label.Began filling commit node stamp blocks inodes)
    began_label filling commit node stamp blocks inodes whole =
        plain_label (label.Began filling commit node stamp blocks inodes) whole (record { no_note = λ turn e. cc e; no_empty = λ n c o d e. cc e }) refl refl
        (λ own among.
        let was = from_map (λ (c : ReservedCommit). named.stamps c.number) past.opens own among in
        subst (IsOneOf (stamps_under named (map give past.opens))) (ap named.stamps (giving_number commit numbers was.0) ∙ was.2)
        (to_map (λ (c : ReservedCommit). named.stamps c.number) (map give past.opens) (give was.0) (to_map give past.opens was.0 was.1)))
        (λ one among.
        let was = from_map give past.opens one among in
        (was.0, was.1, sym (giving_number commit numbers was.0) ∙ ap (λ (c : ReservedCommit). c.number) was.2))
      where
        numbers : GrantedNumbers
        numbers = record { inodes = inodes.items; blocks = blocks.items }

        give : ReservedCommit → ReservedCommit
        give = giving_up commit numbers

    pub reserved_label : (commit : ℕ) (seen : Roomy Seen) (grant : GrantedNumbers) → Whole (label.Reserved commit seen grant)
        → Then (label.Reserved commit seen grant)
    reserved_label commit seen grant whole = record {
      opened = λ stamp up.
          let was =
          from_map (λ (c : ReservedCommit). named.stamps c.number) past.opens stamp
          (was_open (label.Reserved commit seen grant) whole plain.no_note stamp up) in
          inl (subst (IsOneOf (stamps_under named (past.opens ++ new ∷ []))) was.2
          (to_map (λ (c : ReservedCommit). named.stamps c.number) (past.opens ++ new ∷ []) was.0 (in_left past.opens (new ∷ []) was.0 was.1)));
      had = λ one among. elim (last_or_before past.opens new one among) [
        | inl was ↦ inl (had_open (label.Reserved commit seen grant) whole plain one was)
        | inr same ↦ inr (record {
          rest = front;
          one = record { core = core; commit = commit; seen = seen; grant = grant };
          whole = refl;
          number_is = ap (λ (c : ReservedCommit). c.number) same;
        })
      ];
      done = so.done;
    }
      where
        plain : IsPlain (label.Reserved commit seen grant)
        plain = record { no_note = λ turn e. cc e; no_empty = λ n c o d e. cc e }

        new : ReservedCommit
        new = record { number = commit; seen = seen.items; grant = grant; gives_up = no_numbers }

    -- an open commit with another number stays
    still_open : (number : ℕ) (one : ReservedCommit) → IsOneOf past.opens one → one.number ≢ number
        → IsOneOf (stamps_under named (commits_but number past.opens)) (named.stamps one.number)
    still_open number one among apart =
        to_map (λ (c : ReservedCommit). named.stamps c.number) (commits_but number past.opens) one
        (to_filter (is_numbered_otherwise number) past.opens one among (ap not (not_same one.number number apart)))

    pub returned_label : (commit : ℕ) → Whole (label.Returned commit) → Then (label.Returned commit)
    returned_label commit whole = record {
      opened = λ stamp up.
          let was = from_map (λ (c : ReservedCommit). named.stamps c.number) past.opens stamp (was_open (label.Returned commit) whole plain.no_note stamp up) in
          elim (same_or_not was.0.number commit) [
            | inl same ↦ inr (record {
              rest = front;
              core = core;
              number = commit;
              whole = refl;
              stamp_is = ap named.stamps (sym same) ∙ was.2;
            })
            | inr apart ↦ inl (subst (IsOneOf (stamps_under named (commits_but commit past.opens))) was.2 (still_open commit was.0 was.1 apart))
          ];
      had = λ one among. inl (had_open (label.Returned commit) whole plain one (in_filter (is_numbered_otherwise commit) past.opens one among).0);
      done = so.done;
    }
      where
        plain : IsPlain (label.Returned commit)
        plain = record { no_note = λ turn e. cc e; no_empty = λ n c o d e. cc e }

    -- What ends with a commit: turns of its fsync come, behind which it is not underway, and one of them makes it durable.
    pub record EndsSo (number : ℕ) (more : List Turn) : Type 0 where
      pub own : ReservedCommit
      pub among : IsOneOf past.opens own
      pub number_is : own.number ≡ number
      pub stamps : (turn : Turn) → IsOneOf more turn → turn.stamp.0 ≡ named.stamps number
      pub over : is_underway (phase_of (named.stamps number) (past.turns ++ more)) ≡ true → ⊥
      pub last : Flush
      pub durable : durables (past.turns ++ more) ≡ durables past.turns ++ last ∷ []
      pub last_is : last.stamp ≡ named.stamps number

    pub ends_opened : (fact : Label) → Whole fact → ((turn : Turn) → fact ≡ label.Noted turn → ⊥) → (number : ℕ) (more : List Turn) → EndsSo number more
        → (stamp : ℕ) → is_underway (phase_of stamp (past.turns ++ more)) ≡ true → IsOneOf (stamps_under named (commits_but number past.opens)) stamp
    ends_opened fact whole no_note number more ends stamp up = elim (same_or_not stamp (named.stamps number)) [
      | inl same ↦ absurd (ends.over (subst (λ s. is_underway (phase_of s (past.turns ++ more)) ≡ true) same up))
      | inr apart ↦
          let before_it = subst (λ p. is_underway p ≡ true) (others_stay past.turns more (named.stamps number) stamp ends.stamps apart) up in
          let was = from_map (λ (c : ReservedCommit). named.stamps c.number) past.opens stamp (was_open fact whole no_note stamp before_it) in
          subst (IsOneOf (stamps_under named (commits_but number past.opens))) was.2
          (still_open number was.0 was.1 (λ same. apart (sym was.2 ∙ ap named.stamps same)))
    ]

    pub ends_done : LastsOf past → (number : ℕ) (more : List Turn) → EndsSo number more
        → map (λ (f : Flush). f.stamp) (durables (past.turns ++ more)) ≡ stamps_under named (past.done ++ commits_numbered number past.opens)
    ends_done lasts number more ends = elim (find_split number past.opens lasts.once) [
      | inr lacks ↦ absurd (lacks.none ends.own ends.among ends.number_is)
      | inl split ↦
          ap (map (λ (f : Flush). f.stamp)) ends.durable
          ∙ (map-append (λ (f : Flush). f.stamp) (durables past.turns) (ends.last ∷ [])
          ∙ (ap (λ (p : List ℕ × ℕ). p.0 ++ p.1 ∷ []) (λ i. (so.done i, (ends.last_is ∙ ap named.stamps (sym split.number_is)) i))
          ∙ (sym (map-append (λ (c : ReservedCommit). named.stamps c.number) past.done (split.one ∷ []))
          ∙ ap (λ l. stamps_under named (past.done ++ l)) (sym split.own))))
    ]
