-- Behind each front of a mount's labels they keep what its turns do.
use Rattle.std.proofs.Common.{◌∷◌, ◌≡◌, ◌++◌, ◌∙◌, ◌≢◌, ℕ, List, [], subst, sym, ap, inr, inl, true, refl, map, append-nil, append_assoc}
use Rattle.sfs_base.specs.declared.numbers.CoreId.{CoreId}
use Rattle.sfs_base.proofs.BasicOptions.{none_some}
use Rattle.sfs_base.proofs.BasicTruth.{false_not_true}
use Rattle.sfs_image.specs.Super.{Layout}
use Rattle.space_map.specs.Space.{Space}
use Rattle.tree_laws.specs.declared.turns.Turn.{Turn}
use Rattle.tree_laws.specs.declared.turns.TurnAct.TheVariants as act
use Rattle.tree_laws.specs.declared.turns.TurnAct.{TurnAct}
use Rattle.cut_laws.specs.Rules.{IsOneOf}
use Rattle.cut_laws.specs.Closure.{Flush}
use Rattle.cut_laws.proofs.Listed.{to_map}
use Rattle.merge_laws.specs.Phases.{next_phase, phase_of, flies_in}
use Rattle.merge_laws.proofs.Blocks.{same_or_not}
use Rattle.merge_laws.proofs.Phases.{phase_on, phase_stays}
use Rattle.stamp_table.specs.declared.event.Event.{Event}
use Rattle.stamp_table.specs.declared.event.Event.TheVariants.{Told, Called}
use Rattle.slot_laws.specs.declared.label.Label.{Label}
use Rattle.slot_laws.specs.Rules.{MayFrom, NotedRule}
use Rattle.slot_laws.specs.Labels.{first_past, BoxPast, past_from, after_label}
use Rattle.slot_laws.specs.declared.label.Label.TheVariants as label
use Rattle.slot_laws.specs.Nodes.{ReservedCommit, no_numbers}
use Rattle.slot_laws.specs.Lasts.{told_reserving}
use Rattle.slot_laws.proofs.NodesTold.{past_parts, may_parts}
use Rattle.slot_laws.proofs.Numbered.{at_seam}
use Rattle.close_laws.specs.Own.{OwesTurn, owes_nothing, owes_granted, owes_given_back, FliesAs, WaitsAs, TellsBeside}
use Rattle.close_laws.specs.Maps.{TurnsStand, Numbered}
use Rattle.close_laws.specs.PenLabels.{PensTold}
use Rattle.close_laws.specs.Beside.{stamps_under}
use Rattle.close_laws.proofs.Owing.{tells}
use Rattle.close_laws.proofs.Drawn.{Drawing}
use Rattle.close_laws.proofs.Flying.{durables_stay}
use Rattle.end_laws.proofs.Opens.{OpensAt, never_halted, comes_back, more_under, comes_reserved, IsPlain, same_label, reserved_label, returned_label, began_label}
use Rattle.end_laws.proofs.Played.{is_underway}
use Rattle.end_laws.proofs.Through.{opened_label, settled_label, empty_label}

module _ (named : Numbered) (layout : Layout) (before moment : ℕ) (first : Space) (log : List (Event Label))
    (may : MayFrom layout before log (first_past moment)) (told : PensTold named.stamps log) (stand : TurnsStand named.stamps log) where
  abbrev start : BoxPast
  start = first_past moment

  abbrev Opens : List (Event Label) → BoxPast → Type 0
  Opens front past = OpensAt named front past

  module _ (front : List (Event Label)) (core : CoreId) (back : List (Event Label)) (space : Space) (so : Opens front (past_from layout front start)) where
    abbrev here : BoxPast
    here = past_from layout front start

    abbrev Place : Label → Type 0
    Place fact = Drawing named layout before first front here (Told core fact ∷ back) space

    abbrev Is : Label → Type 0
    Is fact = log ≡ front ++ Told core fact ∷ back

    abbrev Behind : Label → Type 0
    Behind fact = Opens (front ++ Told core fact ∷ []) (after_label layout core.0 fact here)

    module _ (turn : Turn) (whole : Is (label.Noted turn)) (at : Place (label.Noted turn)) where
      abbrev IsThere : Type 0
      IsThere = IsOneOf (stamps_under named here.opens) turn.stamp.0

      rule : NotedRule before core.0 turn here
      rule = at.owing.may.0.1

      there_by : (one : ReservedCommit) → IsOneOf here.opens one → turn.stamp.0 ≡ named.stamps one.number → IsThere
      there_by one among is =
          subst (IsOneOf (stamps_under named here.opens)) (sym is) (to_map (λ (c : ReservedCommit). named.stamps c.number) here.opens one among)

      granted_there : turn.act ≡ act.Granted → IsThere
      granted_there is =
          let stands = stand.granted turn (record { front = front; core = core; back = back; whole = whole }) is in
          let one = stands.one in
          let past_is : here ≡ after_label layout one.core.0 (label.Reserved one.commit one.seen one.grant) (past_from layout stands.rest start) =
          ap (λ l. past_from layout l start) stands.whole ∙ past_parts layout before stands.rest (told_reserving one ∷ []) start in
          subst (λ (p : BoxPast). IsOneOf (stamps_under named p.opens) turn.stamp.0) (sym past_is)
          (subst (IsOneOf (stamps_under named
          ((past_from layout stands.rest start).opens
          ++ record { number = one.commit; seen = one.seen.items; grant = one.grant; gives_up = no_numbers } ∷ [])))
          (sym stands.stamp_is)
          (to_map (λ (c : ReservedCommit). named.stamps c.number)
          ((past_from layout stands.rest start).opens
          ++ record { number = one.commit; seen = one.seen.items; grant = one.grant; gives_up = no_numbers } ∷ [])
          (record { number = one.commit; seen = one.seen.items; grant = one.grant; gives_up = no_numbers })
          (at_seam (past_from layout stands.rest start).opens []
          (record { number = one.commit; seen = one.seen.items; grant = one.grant; gives_up = no_numbers }))))

      flying_there : FliesAs (here.owns core.0) turn → IsThere
      flying_there flies = elim (at.fits.flights.each core.0 flies.flight flies.flies).is [
        | inr landed ↦ absurd (none_some (sym rule.learned ∙ landed.waits_is))
        | inl flying ↦
            let aloft = at.opens.aloft flies.flight.slot flying.work flying.there flying.aloft in
            there_by aloft.one aloft.among
            (flies.stamp_is ∙ (ap (λ (f : Flush). f.stamp) (sym flying.flush) ∙ (aloft.stamp_is ∙ ap named.stamps (sym aloft.number_is))))
      ]

      waiting_there : WaitsAs named.stamps (here.owns core.0) turn → IsThere
      waiting_there waits =
          let open_one = at.opens.reserved_open core.0 waits.number waits.reserved in
          there_by open_one.one open_one.among (waits.stamp_is ∙ ap named.stamps (sym open_one.number_is))

      cut_there : (o may_tell : OwesTurn) → TellsBeside named.stamps o may_tell (here.owns core.0) (label.Noted turn) → turn.act ≡ act.CutAt → IsThere
      cut_there owes_nothing may_tell by is = elim (by.own_cut is) [ inl flies ↦ flying_there flies | inr waits ↦ waiting_there waits ]
      cut_there (owes_granted n) may_tell by is =
          let same : turn ≡ by.turn = cc by.is in
          absurd (cc (sym is ∙ (ap (λ (t : Turn). t.act) same ∙ by.did_is)))
      cut_there (owes_given_back n) may_tell by is =
          let same : turn ≡ by.turn = cc by.is in
          absurd (cc (sym is ∙ (ap (λ (t : Turn). t.act) same ∙ by.did_is)))

      pub own_there : (did : TurnAct) → turn.act ≡ did → is_underway (next_phase (phase_of turn.stamp.0 here.turns) did) ≡ true → IsThere
      own_there act.Granted is up = granted_there is
      own_there act.CutAt is up =
          cut_there (at.owing.own core.0).owes (at.owing.own core.0).may
          (tells layout before named.stamps front here core (label.Noted turn) back at.owing) is
      own_there act.GivenBack is up = absurd (false_not_true up)
      own_there (act.Short kind need free) is up = absurd (false_not_true up)
      own_there act.Halted is up = absurd (never_halted (flies_in (phase_of turn.stamp.0 here.turns)) up)
      own_there act.Opened is up = absurd (rule.no_open is)
      own_there act.Durable is up = absurd (rule.no_durable is)
      own_there act.Fail is up = absurd (false_not_true up)

      other_there : (stamp : ℕ) → stamp ≢ turn.stamp.0 → is_underway (phase_of stamp here.turns) ≡ true → IsOneOf (stamps_under named here.opens) stamp
      other_there stamp apart up = elim (so.opened stamp up) [
        | inl there ↦ there
        | inr last ↦
            let notes = comes_back named layout before moment first log may told stand front core back space so (label.Noted turn) whole stamp last in
            let same : turn ≡ notes.turn = cc notes.is in
            absurd (apart (sym (ap (λ (t : Turn). t.stamp.0) same ∙ notes.stamp_is)))
      ]

      noted_label : Behind (label.Noted turn)
      noted_label = record {
        opened = λ stamp up. inl (elim (same_or_not stamp turn.stamp.0) [
          | inl same ↦
              subst (IsOneOf (stamps_under named here.opens)) (sym same)
              (own_there turn.act refl (subst (λ p. is_underway p ≡ true) (ap (λ n. phase_of n (here.turns ++ turn ∷ [])) same ∙ phase_on here.turns turn) up))
          | inr apart ↦ other_there stamp apart (subst (λ p. is_underway p ≡ true) (phase_stays here.turns turn stamp apart) up)
        ]);
        had = λ one among. inl (elim (so.had one among) [
          | inl had ↦ more_under named here.turns (turn ∷ []) (named.stamps one.number) had
          | inr last ↦
              elim (comes_reserved named layout before moment first log may told stand front core back space so (label.Noted turn) whole one.number last) [
                | inl its ↦
                    let same : turn ≡ its.notes.turn = cc its.notes.is in
                    record {
                      turn = turn;
                      among = at_seam here.turns [] turn;
                      stamp_is = ap (λ (t : Turn). t.stamp.0) same ∙ (its.notes.stamp_is ∙ ap named.stamps last.number_is);
                    }
                | inr ends ↦ absurd (cc ends.is)
              ]
        ]);
        done = ap (map (λ (f : Flush). f.stamp)) (durables_stay here.turns turn rule.no_durable) ∙ so.done;
      }

    -- a label without a turn by which none is opened or ends
    same_so : (fact : Label) → Is fact → IsPlain fact → (after_label layout core.0 fact here).turns ≡ here.turns
        → (after_label layout core.0 fact here).done ≡ here.done → (after_label layout core.0 fact here).opens ≡ here.opens → Behind fact
    same_so = same_label named layout before moment first log may told stand front core back space so

    through_label : (fact : Label) → Is fact → Place fact → Behind fact
    through_label label.Took whole at = same_so label.Took whole (record { no_note = λ t e. cc e; no_empty = λ n c o d e. cc e }) refl refl refl
    through_label label.Gave whole at = same_so label.Gave whole (record { no_note = λ t e. cc e; no_empty = λ n c o d e. cc e }) refl refl refl
    through_label (label.Noted turn) whole at = noted_label turn whole at
    through_label (label.Reserved commit seen grant) whole at =
        reserved_label named layout before moment first log may told stand front core back space so commit seen grant whole
    through_label (label.Returned commit) whole at =
        returned_label named layout before moment first log may told stand front core back space so commit whole
    through_label (label.Began filling commit node stamp blocks inodes) whole at =
        began_label named layout before moment first log may told stand front core back space so filling commit node stamp blocks inodes whole
    through_label (label.Filled k piece ok) whole at =
        same_so (label.Filled k piece ok) whole (record { no_note = λ t e. cc e; no_empty = λ n c o d e. cc e }) refl refl refl
    through_label (label.Synced now) whole at =
        same_so (label.Synced now) whole (record { no_note = λ t e. cc e; no_empty = λ n c o d e. cc e }) refl refl refl
    through_label (label.Opened k ok cut opened) whole at =
        opened_label named layout before moment first log may told stand front core back space so k ok cut opened whole at
    through_label (label.Settled k turn) whole at =
        settled_label named layout before moment first log may told stand front core back space so k turn whole at
    through_label (label.Learned turn) whole at =
        same_so (label.Learned turn) whole (record { no_note = λ t e. cc e; no_empty = λ n c o d e. cc e }) refl refl refl
    through_label (label.Placed k n ok) whole at =
        same_so (label.Placed k n ok) whole (record { no_note = λ t e. cc e; no_empty = λ m c o d e. cc e }) refl refl refl
    through_label (label.Shut k ok) whole at =
        same_so (label.Shut k ok) whole (record { no_note = λ t e. cc e; no_empty = λ n c o d e. cc e }) refl refl refl
    through_label (label.Idled k) whole at =
        same_so (label.Idled k) whole (record { no_note = λ t e. cc e; no_empty = λ n c o d e. cc e }) refl refl refl
    through_label (label.Empty commit cut opened durable) whole at =
        empty_label named layout before moment first log may told stand front core back space so commit cut opened durable whole at

  -- what is known at each place
  abbrev pub PlacesAre : Type 0
  PlacesAre = (front back : List (Event Label)) → log ≡ front ++ back
      → (space : Space) × Drawing named layout before first front (past_from layout front start) back space

  module _ (places : PlacesAre) where
    through_event : (front : List (Event Label)) (event : Event Label) (back : List (Event Label)) → log ≡ front ++ event ∷ back
        → Opens front (past_from layout front start) → Opens (front ++ event ∷ []) (past_from layout (front ++ event ∷ []) start)
    through_event front (Called entry) back whole so =
        absurd ((may_parts layout before front (Called entry ∷ back) start (subst (λ l. MayFrom layout before l start) whole may)).1.0)
    through_event front (Told core fact) back whole so =
        let at = places front (Told core fact ∷ back) whole in
        subst (Opens (front ++ Told core fact ∷ [])) (sym (past_parts layout before front (Told core fact ∷ []) start))
        (through_label front core back at.0 so fact whole at.1)

    through_events : (front some back : List (Event Label)) → log ≡ front ++ (some ++ back) → Opens front (past_from layout front start)
        → Opens (front ++ some) (past_from layout (front ++ some) start)
    through_events front [] back whole so = subst (λ l. Opens l (past_from layout l start)) (sym (append-nil front)) so
    through_events front (event ∷ some) back whole so =
        subst (λ l. Opens l (past_from layout l start)) (append_assoc front (event ∷ []) some)
        (through_events (front ++ event ∷ []) some back (whole ∙ sym (append_assoc front (event ∷ []) (some ++ back)))
        (through_event front event (some ++ back) whole so))

    pub opens_at : (front back : List (Event Label)) → log ≡ front ++ back → Opens front (past_from layout front start)
    opens_at front back whole =
        through_events [] front back whole (record { opened = λ stamp up. absurd (false_not_true up); had = λ one among. absurd among; done = refl })
