-- What labels keep of what turns do, through each label and so behind each front of a mount's labels.
use Rattle.std.proofs.Common.{◌∷◌, ◌≡◌, ◌++◌, ◌∙◌, ℕ, List, [], inl, ap, sym, inr, append_assoc, Bool, subst, true, map, nat_eq, not, false, refl}
use Rattle.sfs_base.specs.declared.numbers.CoreId.{CoreId}
use Rattle.sfs_base.proofs.BasicTruth.{false_not_true}
use Rattle.sfs_image.specs.Super.{Layout}
use Rattle.space_map.specs.Space.{Space}
use Rattle.tree_laws.specs.declared.turns.Turn.{Turn}
use Rattle.cut_laws.specs.Closure.{Flush}
use Rattle.cut_laws.specs.Rules.{IsOneOf}
use Rattle.cut_laws.proofs.RunFacts.{in_filter}
use Rattle.cut_laws.proofs.Listed.{to_map}
use Rattle.turn_laws.specs.Books.{flush_at}
use Rattle.merge_laws.specs.Phases.{phase_of, next_phase}
use Rattle.merge_laws.specs.Plays.{durables}
use Rattle.merge_laws.proofs.Phases.{phase_on}
use Rattle.merge_laws.proofs.Blocks.{same_or_not}
use Rattle.stamp_table.specs.declared.event.Event.{Event}
use Rattle.stamp_table.specs.declared.event.Event.TheVariants.{Told}
use Rattle.slot_laws.specs.declared.label.Label.{Label}
use Rattle.slot_laws.specs.Rules.{MayFrom, SettledRule, OpenedRule, EmptyRule}
use Rattle.slot_laws.specs.Labels.{first_past, BoxPast, past_from, after_label}
use Rattle.slot_laws.specs.declared.label.Label.TheVariants as label
use Rattle.slot_laws.specs.Nodes.{is_numbered_otherwise, ReservedCommit}
use Rattle.slot_laws.proofs.NodesTold.{other_by_test}
use Rattle.close_laws.specs.Own.{OwesTurn, owes_nothing, owes_granted, owes_given_back, TellsBeside}
use Rattle.close_laws.specs.Maps.{TurnsStand, Numbered}
use Rattle.close_laws.specs.PenLabels.{PensTold}
use Rattle.close_laws.specs.Beside.{stamps_under}
use Rattle.close_laws.proofs.Owing.{tells}
use Rattle.close_laws.proofs.Drawn.{Drawing}
use Rattle.close_laws.proofs.Opens.{AloftOpen, ReservedOpen}
use Rattle.close_laws.proofs.Flying.{durables_more, durables_stay}
use Rattle.end_laws.proofs.Opens.{OpensAt, EndsSo, ends_opened, more_under, had_open, ends_done, was_open, HasTurnUnder, comes_reserved}
use Rattle.end_laws.proofs.Played.{is_underway, others_stay}

module _ (named : Numbered) (layout : Layout) (before moment : ℕ) (first : Space) (log : List (Event Label))
    (may : MayFrom layout before log (first_past moment)) (told : PensTold named.stamps log) (stand : TurnsStand named.stamps log) where
  abbrev start : BoxPast
  start = first_past moment

  abbrev Opens : List (Event Label) → BoxPast → Type 0
  Opens front past = OpensAt named front past

  module _ (front : List (Event Label)) (core : CoreId) (back : List (Event Label)) (space : Space) (so : Opens front (past_from layout front start)) where
    abbrev here : BoxPast
    here = past_from layout front start

    abbrev Place : Label → Type 0
    Place fact = Drawing named layout before first front here (Told core fact ∷ back) space

    abbrev Is : Label → Type 0
    Is fact = log ≡ front ++ Told core fact ∷ back

    abbrev Behind : Label → Type 0
    Behind fact = Opens (front ++ Told core fact ∷ []) (after_label layout core.0 fact here)

    abbrev Ends : ℕ → List Turn → Type 0
    Ends = EndsSo named layout before moment first log may told stand front core back space so

    pub settled_label : (k : ℕ) (turn : Turn) → Is (label.Settled k turn) → Place (label.Settled k turn) → Behind (label.Settled k turn)
    settled_label k turn whole at = record {
      opened = λ stamp up.
          inl (ends_opened named layout before moment first log may told stand front core back space so (label.Settled k turn) whole (λ t e. cc e)
          turn.commit (turn ∷ []) ends stamp up);
      had = λ one among.
          inl (more_under named here.turns (turn ∷ []) (named.stamps one.number)
          (had_open named layout before moment first log may told stand front core back space so (label.Settled k turn) whole
          (record { no_note = λ t e. cc e; no_empty = λ n c o d e. cc e }) one
          (in_filter (is_numbered_otherwise turn.commit) here.opens one among).0));
      done = ends_done named layout before moment first log may told stand front core back space so at.lasts turn.commit (turn ∷ []) ends;
    }
      where
        rule : SettledRule layout before k turn here
        rule = at.owing.may.0.1

        aloft : AloftOpen named here.opens rule.has.work
        aloft = at.opens.aloft k rule.has.work rule.has.there rule.has.aloft

        stamp_is : turn.stamp.0 ≡ named.stamps turn.commit
        stamp_is = ap (λ (f : Flush). f.stamp) rule.is.flush_is ∙ (aloft.stamp_is ∙ ap named.stamps (sym rule.is.commit_is))

        ends : Ends turn.commit (turn ∷ [])
        ends = record {
          own = aloft.one;
          among = aloft.among;
          number_is = aloft.number_is ∙ sym rule.is.commit_is;
          stamps = λ other one. elim one [ inl same ↦ ap (λ (t : Turn). t.stamp.0) (sym same) ∙ stamp_is | inr never ↦ absurd never ];
          over = λ up.
              false_not_true
              (sym (ap is_underway (ap (λ n. phase_of n (here.turns ++ turn ∷ [])) (sym stamp_is) ∙ (phase_on here.turns turn
              ∙ ap (next_phase (phase_of turn.stamp.0 here.turns)) rule.is.did_is)))
              ∙ up);
          last = flush_at turn;
          durable = durables_more here.turns turn rule.is.did_is;
          last_is = stamp_is;
        }

    -- two turns of a label, one after the other
    two_turns : (one other : Turn) → here.turns ++ one ∷ other ∷ [] ≡ (here.turns ++ one ∷ []) ++ other ∷ []
    two_turns one other = sym (append_assoc here.turns (one ∷ []) (other ∷ []))

    pub opened_label : (k : ℕ) (ok : Bool) (cut opened : Turn) → Is (label.Opened k ok cut opened) → Place (label.Opened k ok cut opened)
        → Behind (label.Opened k ok cut opened)
    opened_label k ok cut opened whole at = record {
      opened = λ stamp up. inl (elim (same_or_not stamp (named.stamps rule.has.work.commit)) [
        | inl same ↦
            subst (IsOneOf (stamps_under named here.opens)) (ap named.stamps aloft.number_is ∙ sym same)
            (to_map (λ (c : ReservedCommit). named.stamps c.number) here.opens aloft.one aloft.among)
        | inr apart ↦
            was_open named layout before moment first log may told stand front core back space so (label.Opened k ok cut opened) whole (λ t e. cc e) stamp
            (subst (λ p. is_underway p ≡ true)
            (others_stay here.turns (cut ∷ opened ∷ []) (named.stamps rule.has.work.commit) stamp stamps apart) up)
      ]);
      had = λ one among.
          inl (more_under named here.turns (cut ∷ opened ∷ []) (named.stamps one.number)
          (had_open named layout before moment first log may told stand front core back space so (label.Opened k ok cut opened) whole
          (record { no_note = λ t e. cc e; no_empty = λ n c o d e. cc e }) one among));
      done = ap (map (λ (f : Flush). f.stamp)) (ap durables (two_turns cut opened)
          ∙ (durables_stay (here.turns ++ cut ∷ []) opened (λ e. cc (sym rule.opened_is.did_is ∙ e))
          ∙ durables_stay here.turns cut (λ e. cc (sym rule.cut_is.did_is ∙ e)))) ∙ so.done;
    }
      where
        rule : OpenedRule layout before core.0 k cut opened here
        rule = at.owing.may.0.1

        aloft : AloftOpen named here.opens rule.has.work
        aloft = at.opens.aloft k rule.has.work rule.has.there rule.has.aloft

        stamps : (turn : Turn) → IsOneOf (cut ∷ opened ∷ []) turn → turn.stamp.0 ≡ named.stamps rule.has.work.commit
        stamps turn among = elim among [
          | inl same ↦ ap (λ (t : Turn). t.stamp.0) (sym same) ∙ (ap (λ (f : Flush). f.stamp) rule.cut_is.flush_is ∙ aloft.stamp_is)
          | inr more ↦ elim more [
            | inl same ↦ ap (λ (t : Turn). t.stamp.0) (sym same) ∙ (ap (λ (f : Flush). f.stamp) rule.opened_is.flush_is ∙ aloft.stamp_is)
            | inr never ↦ absurd never
          ]
        ]

    -- the stamp of a commit that wrote nothing
    pub freely : (fact : Label) (commit : ℕ) (cut opened durable : Turn) (o may_tell : OwesTurn)
        → TellsBeside named.stamps o may_tell (here.owns core.0) (label.Empty commit cut opened durable) → cut.stamp.0 ≡ named.stamps commit
    freely fact commit cut opened durable owes_nothing may_tell is = is
    freely fact commit cut opened durable (owes_granted n) may_tell is = absurd (cc is.is)
    freely fact commit cut opened durable (owes_given_back n) may_tell is = absurd (cc is.is)

    pub empty_label : (commit : ℕ) (cut opened durable : Turn) → Is (label.Empty commit cut opened durable) → Place (label.Empty commit cut opened durable)
        → Behind (label.Empty commit cut opened durable)
    empty_label commit cut opened durable whole at = record {
      opened = λ stamp up.
          inl (ends_opened named layout before moment first log may told stand front core back space so fact whole (λ t e. cc e) commit
          (cut ∷ opened ∷ durable ∷ []) ends stamp up);
      had = λ one among.
          let still = in_filter (is_numbered_otherwise commit) here.opens one among in
          inl (more_under named here.turns (cut ∷ opened ∷ durable ∷ []) (named.stamps one.number) (had_there one still.0 still.1));
      done = ends_done named layout before moment first log may told stand front core back space so at.lasts commit (cut ∷ opened ∷ durable ∷ []) ends;
    }
      where
        fact : Label
        fact = label.Empty commit cut opened durable

        rule : EmptyRule before core.0 commit (record { cut = cut; opened = opened; durable = durable }) here
        rule = at.owing.may.0.1

        open_one : ReservedOpen named here.opens commit (at.owing.own core.0).granted
        open_one = at.opens.reserved_open core.0 commit rule.number

        cut_stamp : cut.stamp.0 ≡ named.stamps commit
        cut_stamp =
            freely fact commit cut opened durable (at.owing.own core.0).owes (at.owing.own core.0).may
            (tells layout before named.stamps front here core fact back at.owing)

        flush_stamp : rule.flush.stamp ≡ named.stamps commit
        flush_stamp = ap (λ (f : Flush). f.stamp) (sym rule.cut_is.flush_is) ∙ cut_stamp

        durable_stamp : durable.stamp.0 ≡ named.stamps commit
        durable_stamp = ap (λ (f : Flush). f.stamp) rule.durable_is.flush_is ∙ flush_stamp

        stamps : (turn : Turn) → IsOneOf (cut ∷ opened ∷ durable ∷ []) turn → turn.stamp.0 ≡ named.stamps commit
        stamps turn among = elim among [
          | inl same ↦ ap (λ (t : Turn). t.stamp.0) (sym same) ∙ cut_stamp
          | inr more ↦ elim more [
            | inl same ↦ ap (λ (t : Turn). t.stamp.0) (sym same) ∙ (ap (λ (f : Flush). f.stamp) rule.opened_is.flush_is ∙ flush_stamp)
            | inr last ↦ elim last [ inl same ↦ ap (λ (t : Turn). t.stamp.0) (sym same) ∙ durable_stamp | inr never ↦ absurd never ]
          ]
        ]

        all_three : here.turns ++ cut ∷ opened ∷ durable ∷ [] ≡ ((here.turns ++ cut ∷ []) ++ opened ∷ []) ++ durable ∷ []
        all_three =
            sym (append_assoc (here.turns ++ cut ∷ []) (opened ∷ []) (durable ∷ []) ∙ append_assoc here.turns (cut ∷ []) (opened ∷ durable ∷ []))

        some : List Turn
        some = (here.turns ++ cut ∷ []) ++ opened ∷ []

        durable_all : durables (here.turns ++ cut ∷ opened ∷ durable ∷ []) ≡ durables here.turns ++ flush_at durable ∷ []
        durable_all =
            ap durables all_three
            ∙ (durables_more some durable rule.durable_is.did_is
            ∙ ap (λ (l : List Flush). l ++ flush_at durable ∷ [])
            (durables_stay (here.turns ++ cut ∷ []) opened (λ e. cc (sym rule.opened_is.did_is ∙ e))
            ∙ durables_stay here.turns cut (λ e. cc (sym rule.cut_is.did_is ∙ e))))

        ends : Ends commit (cut ∷ opened ∷ durable ∷ [])
        ends = record {
          own = open_one.one;
          among = open_one.among;
          number_is = open_one.number_is;
          stamps = stamps;
          over = λ up.
              false_not_true
              (sym (ap is_underway (ap (λ (p : ℕ × List Turn). phase_of p.0 p.1) (λ i. (sym durable_stamp i, all_three i))
              ∙ (phase_on some durable ∙ ap (next_phase (phase_of durable.stamp.0 some)) rule.durable_is.did_is)))
              ∙ up);
          last = flush_at durable;
          durable = durable_all;
          last_is = durable_stamp;
        }

        had_there : (one : ReservedCommit) → IsOneOf here.opens one → is_numbered_otherwise commit one ≡ true
            → HasTurnUnder named here.turns (named.stamps one.number)
        had_there one among other = elim (so.had one among) [
          | inl had ↦ had
          | inr last ↦ elim (comes_reserved named layout before moment first log may told stand front core back space so fact whole one.number last) [
            | inl its ↦ absurd (cc its.notes.is)
            | inr its ↦
                let same : commit ≡ last.one.commit = cc its.is in
                absurd (other_by_test one.number commit (not_true (nat_eq one.number commit) other) (sym last.number_is ∙ sym same))
          ]
        ]
          where
            not_true : (b : Bool) → not b ≡ true → b ≡ false
            not_true true e = absurd (false_not_true e)
            not_true false e = refl
