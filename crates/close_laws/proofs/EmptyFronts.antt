-- Fronts of the record through the label of a commit that wrote nothing.
use Rattle.std.proofs.Common.{◌∷◌, ◌++◌, ◌≡◌, ◌≢◌, ◌∙◌, List, ℕ, [], subst, sym, ap, refl, not, nat_eq, Some, inr, Option, None, inl, append_assoc}
use Rattle.sfs_base.specs.declared.numbers.CoreId.{CoreId}
use Rattle.sfs_image.specs.Super.{Layout}
use Rattle.space_map.specs.Space.{Space}
use Rattle.tree_laws.specs.declared.turns.TurnAct.TheVariants as act
use Rattle.tree_laws.specs.declared.turns.Turn.{Turn}
use Rattle.tree_laws.specs.declared.turns.TurnAct.{TurnAct}
use Rattle.disk_nodes.specs.declared.old.OldEntry.{OldEntry}
use Rattle.cut_laws.specs.Rules.{IsOneOf}
use Rattle.cut_laws.specs.Closure.{Flush}
use Rattle.cut_laws.proofs.RunFacts.{in_filter}
use Rattle.cut_laws.proofs.Basics.{in_either}
use Rattle.cut_laws.proofs.Listed.{to_map}
use Rattle.flush_laws.specs.Volume.{Volume}
use Rattle.turn_laws.specs.Books.{flush_at}
use Rattle.merge_laws.specs.Plays.{durables}
use Rattle.book_laws.specs.Pairs.{bringing_under}
use Rattle.stamp_table.specs.declared.event.Event.{Event}
use Rattle.stamp_table.specs.declared.event.Event.TheVariants.{Told}
use Rattle.slot_laws.specs.declared.label.Label.{Label}
use Rattle.slot_laws.specs.declared.label.Label.TheVariants as label
use Rattle.slot_laws.specs.Labels.{BoxPast, after_label}
use Rattle.slot_laws.specs.Nodes.{ReservedCommit}
use Rattle.slot_laws.specs.Grants.{EndsGrant}
use Rattle.slot_laws.specs.Rules.{EmptyRule}
use Rattle.slot_image_laws.specs.Images.{RunStart, disk_books, DiskBooks, book_act}
use Rattle.close_laws.specs.Own.{OwesTurn, owes_granted, owes_given_back, owes_nothing, TellsBeside}
use Rattle.close_laws.specs.Maps.{Numbered}
use Rattle.close_laws.specs.Beside.{BeginsLabels, stamps_under}
use Rattle.close_laws.proofs.Beginning.{PlaceSo}
use Rattle.close_laws.proofs.Owing.{tells}
use Rattle.close_laws.proofs.Opens.{ReservedOpen}
use Rattle.close_laws.specs.Fronts.{AreOneRecord, IsOneRecord, DifferBy, WasOpened}
use Rattle.close_laws.proofs.Words.{run_from, flying, without, not_without, no_end, flush_of}
use Rattle.close_laws.proofs.Flying.{FliesSo, FliesAt, front_quiet, books_on, books_quiet, fronts_push, opened_on, differ_fewer, front_opened, durables_stay, FrontAt}
use Rattle.close_laws.proofs.Fronts.{record_here, flight_stays}
use Rattle.close_laws.proofs.Labelled.{as_one, here_front, apart_so, ended_so}

module _ (layout : Layout) (start : Volume) (entries : List OldEntry) (named : Numbered) (first : Space) (begins : BeginsLabels layout start entries first)
    (moment : ℕ) (before : ℕ) where
  abbrev run : RunStart
  run = run_from layout moment start named

  abbrev Place : List (Event Label) → BoxPast → List (Event Label) → Space → Type 0
  Place = PlaceSo layout start entries named first begins moment before

  abbrev Flies : BoxPast → Type 0
  Flies = FliesSo layout start entries named first begins moment before

  abbrev FliesHere : BoxPast → ℕ → Type 0
  FliesHere = FliesAt layout start entries named first begins moment before

  abbrev Fronts : List Turn → Type 0
  Fronts turns = AreOneRecord start named run turns

  module _ (done : List (Event Label)) (past : BoxPast) (core : CoreId) (rest : List (Event Label)) (space next : Space) (flies : Flies past)
      (fronts : Fronts past.turns) where
    abbrev Here : Label → Type 0
    Here fact = Place done past (Told core fact ∷ rest) space

    abbrev There : Label → Type 0
    There fact = Place (done ++ Told core fact ∷ []) (after_label layout core.0 fact past) rest next

    abbrev Then : Label → Type 0
    Then fact = Flies (after_label layout core.0 fact past) × Fronts (after_label layout core.0 fact past).turns

    abbrev dones : List ℕ
    dones = stamps_under named past.done

    abbrev opens : List ℕ
    opens = stamps_under named past.opens

    abbrev FrontSo : List Turn → Type 0
    FrontSo = FrontAt layout start entries named first begins moment before dones opens

    pub empty_so : (commit : ℕ) (cut opened durable : Turn) → Here (label.Empty commit cut opened durable) → There (label.Empty commit cut opened durable)
        → EndsGrant past.opens commit space next
        → (bringing_under named.pairs opened.stamp.0).flush ≡ flush_at opened → (bringing_under named.pairs durable.stamp.0).flush ≡ flush_at durable
        → Then (label.Empty commit cut opened durable)
    empty_so commit cut opened durable at then ends tie_opened tie = (
      so,
      subst Fronts whole
          (fronts_push layout start entries named first begins moment before ((past.turns ++ cut ∷ []) ++ opened ∷ []) durable
          (fronts_push layout start entries named first begins moment before (past.turns ++ cut ∷ []) opened
          (fronts_push layout start entries named first begins moment before past.turns cut fronts
          (as_one layout start entries named first begins moment before done past core rest space next flies fronts (past.turns ++ cut ∷ []) front_one))
          (as_one layout start entries named first begins moment before done past core rest space next flies fronts
          ((past.turns ++ cut ∷ []) ++ opened ∷ []) front_two))
          (subst (IsOneRecord start named run) (sym whole)
          (record_here layout start entries named first begins moment before (done ++ Told core (label.Empty commit cut opened durable) ∷ [])
          (after_label layout core.0 (label.Empty commit cut opened durable) past) rest next then so))),
    )
      where
        rule : EmptyRule before core.0 commit (record { cut = cut; opened = opened; durable = durable }) past
        rule = at.drawing.owing.may.0.1

        mine : ReservedOpen named past.opens commit (at.drawing.owing.own core.0).granted
        mine = at.drawing.opens.reserved_open core.0 commit rule.number

        cut_opens : cut.act ≢ act.Opened
        cut_opens e = let never : act.CutAt ≡ act.Opened = sym rule.cut_is.did_is ∙ e in absurd (cc never)

        front_one : FrontSo (past.turns ++ cut ∷ [])
        front_one =
            front_quiet layout start entries named first begins moment before dones opens past.turns cut cut_opens
            (no_end act.CutAt cut rule.cut_is.did_is (λ e. cc e))
            (here_front layout start entries named first begins moment before done past core rest space next flies fronts
            (label.Empty commit cut opened durable) at)

        one_books : disk_books run (past.turns ++ cut ∷ []) ≡ disk_books run past.turns
        one_books =
            books_quiet layout start entries named first begins moment before past.turns cut cut_opens (no_end act.CutAt cut rule.cut_is.did_is (λ e. cc e))

        cut_stamp : cut.stamp.0 ≡ named.stamps commit
        cut_stamp =
            freely (at.drawing.owing.own core.0).owes (at.drawing.owing.own core.0).may
            (tells layout before named.stamps done past core (label.Empty commit cut opened durable) rest at.drawing.owing)
          where
            freely : (o may : OwesTurn) → TellsBeside named.stamps o may (past.owns core.0) (label.Empty commit cut opened durable) → cut.stamp.0
                ≡ named.stamps commit
            freely owes_nothing may is = is
            freely (owes_granted n) may is = absurd (cc is.is)
            freely (owes_given_back n) may is = absurd (cc is.is)

        stamp_of : (turn : Turn) → flush_at turn ≡ rule.flush → turn.stamp.0 ≡ named.stamps commit
        stamp_of turn flush = ap (λ (f : Flush). f.stamp) (flush ∙ sym rule.cut_is.flush_is) ∙ cut_stamp

        away : (other : ℕ) (flight : FliesHere past other) → other ≢ commit
        away other flight same = elim (at.drawing.fits.flights.each flight.core flight.flight flight.is).is [
          | inr landed ↦ absurd (let never : ◌≡◌ {A = Option Turn} None (Some landed.turn) = sym flight.waits ∙ landed.waits_is in cc never)
          | inl flying_one ↦
              at.drawing.fits.numbers.unused core.0 commit flight.flight.slot flying_one.work rule.number flying_one.there
              (flying_one.commit ∙ (flight.number_is ∙ same))
        ]

        front_two : FrontSo ((past.turns ++ cut ∷ []) ++ opened ∷ [])
        front_two =
            front_opened layout start entries named first begins moment before dones opens
            (past.turns ++ cut ∷ []) opened commit front_one rule.opened_is.did_is
            rule.opened_is.commit_is opens_there
            (λ other one.
            let flight = flies.flown other (subst (λ (b : DiskBooks). IsOneOf b.flying other) one_books one) in
            λ same. apart_so layout start entries named first begins moment before done past core rest space next flies fronts
            (label.Empty commit cut opened durable) at mine.one mine.among other flight (λ e. away other flight (e ∙ mine.number_is))
            (same ∙ ap named.stamps (sym mine.number_is)))
            (flush_of named commit opened (stamp_of opened rule.opened_is.flush_is) tie_opened) (stamp_of opened rule.opened_is.flush_is)
          where
            opens_there : IsOneOf opens (named.stamps commit)
            opens_there =
                subst (λ n. IsOneOf (stamps_under named past.opens) (named.stamps n)) mine.number_is
                (to_map (λ (c : ReservedCommit). named.stamps c.number) past.opens mine.one mine.among)

        whole : ((past.turns ++ cut ∷ []) ++ opened ∷ []) ++ durable ∷ [] ≡ past.turns ++ cut ∷ opened ∷ durable ∷ []
        whole =
            append_assoc (past.turns ++ cut ∷ []) (opened ∷ []) (durable ∷ []) ∙ append_assoc past.turns (cut ∷ []) (opened ∷ durable ∷ [])

        two_flying : flying run ((past.turns ++ cut ∷ []) ++ opened ∷ []) ≡ flying run past.turns ++ commit ∷ []
        two_flying =
            ap (λ (b : DiskBooks). b.flying) (books_on layout start entries named first begins moment before (past.turns ++ cut ∷ []) opened)
            ∙ ap (λ (p : TurnAct × ℕ × DiskBooks). (book_act run.gives p.0 p.1 p.2).flying)
            (λ i. (rule.opened_is.did_is i, rule.opened_is.commit_is i, one_books i))

        flying_is : flying run (past.turns ++ cut ∷ opened ∷ durable ∷ []) ≡ without commit (flying run ((past.turns ++ cut ∷ []) ++ opened ∷ []))
        flying_is =
            ap (flying run) (sym whole)
            ∙ (ap (λ (b : DiskBooks). b.flying)
            (books_on layout start entries named first begins moment before ((past.turns ++ cut ∷ []) ++ opened ∷ []) durable)
            ∙ ap (λ (p : TurnAct × ℕ). (book_act run.gives p.0 p.1 (disk_books run ((past.turns ++ cut ∷ []) ++ opened ∷ []))).flying)
            (λ i. (rule.durable_is.did_is i, rule.durable_is.commit_is i)))

        flown_then : (other : ℕ) → IsOneOf (flying run (past.turns ++ cut ∷ opened ∷ durable ∷ [])) other
            → FliesHere (after_label layout core.0 (label.Empty commit cut opened durable) past) other × WasOpened named
            (past.turns ++ cut ∷ opened ∷ durable ∷ []) other
        flown_then other one =
            let was = in_filter (λ n. not (nat_eq n commit)) (flying run ((past.turns ++ cut ∷ []) ++ opened ∷ [])) other
            (subst (λ l. IsOneOf l other) flying_is one) in
            let old : IsOneOf (flying run past.turns) other =
            elim (in_either (flying run past.turns) (commit ∷ []) other (subst (λ l. IsOneOf l other) two_flying was.0)) [
              | inl old ↦ old
              | inr new ↦ elim new [ inl same ↦ absurd (not_without commit other was.1 (sym same)) | inr never ↦ absurd never ]
            ] in (
              flight_stays layout start entries named first begins moment before done past core rest space flies
                  (label.Empty commit cut opened durable) refl refl other (flies.flown other old),
              opened_on layout start entries named first begins moment before past.turns (cut ∷ opened ∷ durable ∷ []) other (flies.opened other old),
            )

        durables_two : durables ((past.turns ++ cut ∷ []) ++ opened ∷ []) ≡ durables past.turns
        durables_two =
            durables_stay (past.turns ++ cut ∷ []) opened (no_end act.Opened opened rule.opened_is.did_is (λ e. cc e))
            ∙ durables_stay past.turns cut (no_end act.CutAt cut rule.cut_is.did_is (λ e. cc e))

        so : Flies (after_label layout core.0 (label.Empty commit cut opened durable) past)
        so =
            ended_so layout start entries named first begins moment before done past core rest space next flies fronts
            (label.Empty commit cut opened durable) at commit ends.own ((past.turns ++ cut ∷ []) ++ opened ∷ []) durable durables_two rule.durable_is.did_is
            (flush_of named ends.own.commit.number durable (stamp_of durable rule.durable_is.flush_is ∙ ap named.stamps (sym ends.own.number_is)) tie)
            (stamp_of durable rule.durable_is.flush_is ∙ ap named.stamps (sym ends.own.number_is)) refl (sym whole)
            (subst (DifferBy named.stamps) (sym flying_is)
            (differ_fewer named.stamps (λ n. not (nat_eq n commit)) (flying run ((past.turns ++ cut ∷ []) ++ opened ∷ [])) front_two.once)) flown_then
