-- What a label makes of the fronts of a record, by its sort.
use Rattle.std.proofs.Common.{◌∷◌, ◌++◌, ◌≡◌, ◌≢◌, ◌∙◌, List, ℕ, [], subst, sym, ap, refl, map, inr, inl}
use Rattle.std.proofs.lemmas.List.{map-append}
use Rattle.sfs_base.specs.declared.numbers.CoreId.{CoreId}
use Rattle.sfs_image.specs.Super.{Layout}
use Rattle.space_map.specs.Space.{Space}
use Rattle.tree_laws.specs.declared.turns.TurnAct.TheVariants as act
use Rattle.tree_laws.specs.declared.turns.Turn.{Turn}
use Rattle.disk_nodes.specs.declared.old.OldEntry.{OldEntry}
use Rattle.cut_laws.specs.Rules.{IsOneOf}
use Rattle.cut_laws.specs.Closure.{Flush}
use Rattle.cut_laws.proofs.Basics.{in_either}
use Rattle.cut_laws.proofs.Listed.{to_map}
use Rattle.flush_laws.specs.Volume.{Volume}
use Rattle.turn_laws.specs.Books.{flush_at}
use Rattle.merge_laws.specs.Plays.{durables}
use Rattle.book_laws.specs.Imagined.{flush_brought}
use Rattle.book_laws.specs.Pairs.{bringing_under, commit_under}
use Rattle.book_laws.specs.Walk.{brought_under}
use Rattle.stamp_table.specs.declared.event.Event.{Event}
use Rattle.stamp_table.specs.declared.event.Event.TheVariants.{Told}
use Rattle.slot_laws.specs.declared.label.Label.{Label}
use Rattle.slot_laws.specs.declared.label.Label.TheVariants as label
use Rattle.slot_laws.specs.Labels.{BoxPast, after_label}
use Rattle.slot_laws.specs.Slots.{SlotWork}
use Rattle.slot_laws.specs.Nodes.{ReservedCommit, commits_numbered}
use Rattle.slot_laws.specs.Grants.{IsOpenNumbered}
use Rattle.slot_image_laws.specs.Images.{RunStart, DiskBooks}
use Rattle.close_laws.specs.Maps.{Numbered, bringing_of}
use Rattle.close_laws.specs.Beside.{BeginsLabels, stamps_under, brought_at}
use Rattle.close_laws.proofs.Beginning.{PlaceSo}
use Rattle.close_laws.proofs.Opens.{AloftOpen}
use Rattle.close_laws.proofs.Walking.{stamps_differ, done_more}
use Rattle.close_laws.specs.Fronts.{AreOneRecord, IsOneRecord, DifferBy, WasOpened}
use Rattle.close_laws.proofs.Words.{run_from, flying}
use Rattle.close_laws.proofs.Flying.{FliesSo, FliesAt, front_quiet, books_quiet, fronts_push, differ_more, durables_more, FrontAt, as_record}
use Rattle.close_laws.proofs.Fronts.{still, flight_stays, aloft_of, from_front, front_here}

module _ (layout : Layout) (start : Volume) (entries : List OldEntry) (named : Numbered) (first : Space) (begins : BeginsLabels layout start entries first)
    (moment : ℕ) (before : ℕ) where
  abbrev run : RunStart
  run = run_from layout moment start named

  abbrev Place : List (Event Label) → BoxPast → List (Event Label) → Space → Type 0
  Place = PlaceSo layout start entries named first begins moment before

  abbrev Flies : BoxPast → Type 0
  Flies = FliesSo layout start entries named first begins moment before

  abbrev FliesHere : BoxPast → ℕ → Type 0
  FliesHere = FliesAt layout start entries named first begins moment before

  abbrev Fronts : List Turn → Type 0
  Fronts turns = AreOneRecord start named run turns

  module _ (done : List (Event Label)) (past : BoxPast) (core : CoreId) (rest : List (Event Label)) (space next : Space) (flies : Flies past)
      (fronts : Fronts past.turns) where
    abbrev Here : Label → Type 0
    Here fact = Place done past (Told core fact ∷ rest) space

    abbrev There : Label → Type 0
    There fact = Place (done ++ Told core fact ∷ []) (after_label layout core.0 fact past) rest next

    abbrev Then : Label → Type 0
    Then fact = Flies (after_label layout core.0 fact past) × Fronts (after_label layout core.0 fact past).turns

    abbrev dones : List ℕ
    dones = stamps_under named past.done

    abbrev opens : List ℕ
    opens = stamps_under named past.opens

    abbrev FrontSo : List Turn → Type 0
    FrontSo = FrontAt layout start entries named first begins moment before dones opens

    pub as_one : (front : List Turn) → FrontSo front → IsOneRecord start named run front
    as_one front at = as_record layout start entries named first begins moment before dones opens front at

    pub here_front : (fact : Label) → Here fact → FrontSo past.turns
    here_front fact at = front_here layout start entries named first begins moment before done past (Told core fact ∷ rest) space at flies

    pub still_so : (fact : Label) → (after_label layout core.0 fact past).turns ≡ past.turns → (after_label layout core.0 fact past).done ≡ past.done
        → ((number : ℕ) → FliesHere past number → FliesHere (after_label layout core.0 fact past) number) → Then fact
    still_so fact turns done_is stays = (
      still layout start entries named first begins moment before done past core rest space flies fact turns done_is stays,
      subst Fronts (sym turns) fronts,
    )

    pub aloft_so : (fact : Label) → Here fact → (number : ℕ) → FliesHere past number
        → (work : SlotWork) × (work.commit ≡ number) × AloftOpen named past.opens work
    aloft_so fact at number one = aloft_of layout start entries named first begins moment before done past (Told core fact ∷ rest) space at flies number one

    -- a commit that another flight is not has another stamp
    pub apart_so : (fact : Label) (at : Here fact) (one : ReservedCommit) → IsOneOf past.opens one → (number : ℕ) → FliesHere past number → number ≢ one.number
        → named.stamps number ≢ named.stamps one.number
    apart_so fact at one among number flight away same =
        let aloft = aloft_so fact at number flight in
        stamps_differ layout start entries named first begins before done past core rest space space at.beside fact at.drawing aloft.2.one one aloft.2.among
        among
        (λ e. away (sym (aloft.2.number_is ∙ aloft.1) ∙ e))
        (ap named.stamps (aloft.2.number_is ∙ aloft.1) ∙ same)

    pub noted_so : (turn : Turn) → Here (label.Noted turn) → Then (label.Noted turn)
    noted_so turn at =
        let rule = at.drawing.owing.may.0.1 in
        let front = front_quiet layout start entries named first begins moment before dones opens past.turns turn rule.no_open rule.no_durable
        (here_front (label.Noted turn) at) in
        let same = books_quiet layout start entries named first begins moment before past.turns turn rule.no_open rule.no_durable in (
          from_front layout start entries named first begins moment before done past core rest space flies
              (after_label layout core.0 (label.Noted turn) past) opens front
              (λ number one. flight_stays layout start entries named first begins moment before done past core rest space flies
              (label.Noted turn) refl refl number (flies.flown number (subst (λ (b : DiskBooks). IsOneOf b.flying number) same one))),
          fronts_push layout start entries named first begins moment before past.turns turn fronts (as_one (past.turns ++ turn ∷ []) front),
        )

    -- the fsync that ends is none of those that are done
    pub ends_apart : (fact : Label) (at : Here fact) (number : ℕ) (own : IsOpenNumbered past.opens number) (stamp : ℕ)
        → IsOneOf (stamps_under named past.done) stamp
        → stamp ≢ named.stamps own.commit.number
    ends_apart fact at number own stamp among same =
        ((at.beside.beside at.beside.volume at.beside.imagines).opens (named.stamps own.commit.number)
        (to_map (λ (c : ReservedCommit). named.stamps c.number) past.opens own.commit own.among)).later.other_number (commit_under named.pairs stamp)
        (to_map (commit_under named.pairs) (stamps_under named past.done) stamp among) (ap (λ s. (commit_under named.pairs s).number) same)

    pub done_so : (fact : Label) (at : Here fact) (number : ℕ) (own : IsOpenNumbered past.opens number)
        → stamps_under named (past.done ++ commits_numbered number past.opens) ≡ stamps_under named past.done ++ named.stamps own.commit.number ∷ []
    done_so fact at number own =
        done_more layout start entries named first begins before done past core rest space space at.beside number own at.drawing.lasts.once

    -- a turn that makes a commit durable, behind a front
    pub ended_so : (fact : Label) (at : Here fact) (number : ℕ) (own : IsOpenNumbered past.opens number) (front : List Turn) (turn : Turn)
        → durables front ≡ durables past.turns → turn.act ≡ act.Durable → (bringing_of named own.commit.number).flush ≡ flush_at turn
        → turn.stamp.0 ≡ named.stamps own.commit.number
        → (after_label layout core.0 fact past).done ≡ past.done ++ commits_numbered number past.opens → (after_label layout core.0 fact past).turns
        ≡ front ++ turn ∷ []
        → DifferBy named.stamps (flying run (after_label layout core.0 fact past).turns)
        → ((other : ℕ) → IsOneOf (flying run (after_label layout core.0 fact past).turns) other
        → FliesHere (after_label layout core.0 fact past) other × WasOpened named (after_label layout core.0 fact past).turns other)
        → Flies (after_label layout core.0 fact past)
    ended_so fact at number own front turn same_durables did flush stamp_is done_is turns_are once flown = record {
      flown = λ other one. (flown other one).0;
      once = once;
      differ = subst (DifferBy (λ stamp. stamp)) (sym (ap (stamps_under named) done_is ∙ done_so fact at number own))
          (differ_more (λ stamp. stamp) (stamps_under named past.done) (named.stamps own.commit.number) flies.differ (ends_apart fact at number own));
      flushes = ap (λ l. map flush_brought (brought_under named.pairs l)) (ap (stamps_under named) done_is ∙ done_so fact at number own)
          ∙ (ap (map flush_brought) (map-append (bringing_under named.pairs) (stamps_under named past.done) (named.stamps own.commit.number ∷ []))
          ∙ (map-append flush_brought (brought_at named past) (bringing_of named own.commit.number ∷ [])
          ∙ (ap (λ (p : List Flush × Flush). p.0 ++ p.1 ∷ []) (λ i. ((flies.flushes ∙ sym same_durables) i, flush i))
          ∙ (sym (durables_more front turn did) ∙ ap durables (sym turns_are)))));
      opened = λ other one. (flown other one).1;
      own = λ stamp one. elim (in_either (stamps_under named past.done) (named.stamps own.commit.number ∷ []) stamp
          (subst (λ l. IsOneOf l stamp) (ap (stamps_under named) done_is ∙ done_so fact at number own) one)) [
            | inl old ↦ flies.own stamp old
            | inr new ↦ elim new [
              | inl same ↦ subst (λ s. (bringing_under named.pairs s).flush.stamp ≡ s) same (ap (λ (f : Flush). f.stamp) flush ∙ stamp_is)
              | inr never ↦ absurd never
            ]
          ];
    }
