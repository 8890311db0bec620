-- That each front of the record is one record, through a whole history.
use Rattle.std.proofs.Common.{◌∷◌, ◌++◌, ◌≡◌, List, ℕ, [], subst, refl, inr, inl}
use Rattle.sfs_image.specs.Super.{Layout}
use Rattle.space_map.specs.Space.{Space}
use Rattle.tree_laws.specs.declared.turns.Turn.{Turn}
use Rattle.disk_nodes.specs.declared.old.OldEntry.{OldEntry}
use Rattle.cut_laws.specs.Rules.{IsOneOf}
use Rattle.cut_laws.proofs.Basics.{in_left}
use Rattle.flush_laws.specs.Volume.{Volume}
use Rattle.stamp_table.specs.declared.event.Event.{Event}
use Rattle.stamp_table.specs.declared.event.Event.TheVariants.{Told, Called}
use Rattle.slot_laws.specs.declared.label.Label.{Label}
use Rattle.slot_laws.specs.declared.label.Label.TheVariants as label
use Rattle.slot_laws.specs.Labels.{BoxPast, after_label, past_from, first_past}
use Rattle.slot_laws.specs.Grants.{SpaceGoes, GoesAlong}
use Rattle.slot_image_laws.specs.Images.{RunStart}
use Rattle.close_laws.specs.Own.{StandBeside}
use Rattle.close_laws.specs.Maps.{Numbered, FitBringings}
use Rattle.close_laws.specs.Beside.{BeginsLabels, TellAlong}
use Rattle.close_laws.proofs.Beginning.{place_step, place_first, PlaceSo}
use Rattle.close_laws.specs.Fronts.{AreOneRecord, IsOneRecord, AreTurnsOf, LabelsAreOneRecord}
use Rattle.close_laws.proofs.Words.{run_from}
use Rattle.close_laws.proofs.Flying.{FliesSo}
use Rattle.close_laws.proofs.Fronts.{record_here}
use Rattle.close_laws.proofs.Along.{front_label}

module _ (layout : Layout) (start : Volume) (entries : List OldEntry) (named : Numbered) (first : Space) (begins : BeginsLabels layout start entries first)
    (moment : ℕ) (before : ℕ) where
  abbrev run : RunStart
  run = run_from layout moment start named

  abbrev Place : List (Event Label) → BoxPast → List (Event Label) → Space → Type 0
  Place = PlaceSo layout start entries named first begins moment before

  abbrev Flies : BoxPast → Type 0
  Flies = FliesSo layout start entries named first begins moment before

  abbrev Fronts : List Turn → Type 0
  Fronts turns = AreOneRecord start named run turns

  -- a turn stays in the record
  label_keeps : (core : ℕ) (fact : Label) (past : BoxPast) (turn : Turn) → IsOneOf past.turns turn → IsOneOf (after_label layout core fact past).turns turn
  label_keeps core label.Took past turn one = one
  label_keeps core label.Gave past turn one = one
  label_keeps core (label.Noted own) past turn one = in_left past.turns (own ∷ []) turn one
  label_keeps core (label.Reserved commit seen grant) past turn one = one
  label_keeps core (label.Returned commit) past turn one = one
  label_keeps core (label.Began filling commit node stamp blocks inodes) past turn one = one
  label_keeps core (label.Filled k piece ok) past turn one = one
  label_keeps core (label.Synced now) past turn one = one
  label_keeps core (label.Opened k ok cut opened) past turn one = in_left past.turns (cut ∷ opened ∷ []) turn one
  label_keeps core (label.Settled k own) past turn one = in_left past.turns (own ∷ []) turn one
  label_keeps core (label.Learned own) past turn one = one
  label_keeps core (label.Placed k n ok) past turn one = one
  label_keeps core (label.Shut k ok) past turn one = one
  label_keeps core (label.Idled k) past turn one = one
  label_keeps core (label.Empty commit cut opened durable) past turn one = in_left past.turns (cut ∷ opened ∷ durable ∷ []) turn one

  turns_kept : (log : List (Event Label)) (past : BoxPast) (turn : Turn) → IsOneOf past.turns turn → IsOneOf (past_from layout log past).turns turn
  turns_kept [] past turn one = one
  turns_kept (Called entry ∷ log) past turn one = turns_kept log past turn one
  turns_kept (Told core fact ∷ log) past turn one = turns_kept log (after_label layout core.0 fact past) turn (label_keeps core.0 fact past turn one)

  pub fronts_along : (done rest : List (Event Label)) (past : BoxPast) (space now : Space) → Place done past rest space → Flies past → Fronts past.turns
      → SpaceGoes layout rest past space now → FitBringings named rest → TellAlong layout start named rest past
      → AreTurnsOf named (past_from layout rest past).turns → Fronts (past_from layout rest past).turns
  fronts_along done [] past space now at flies fronts goes fit tell ties = fronts
  fronts_along done (Called entry ∷ rest) past space now at flies fronts goes fit tell ties = absurd at.drawing.owing.may.0
  fronts_along done (Told core fact ∷ rest) past space now at flies fronts goes fit tell ties =
      let then = place_step layout start entries named first begins moment before done rest past core fact space goes.0.next at goes.0.does
      (fit (Told core fact) (inl refl)) tell.0 in
      let front = front_label layout start entries named first begins moment before done past core rest space goes.0.next flies fronts fact at then goes.0.does
      (λ turn one did. ties turn (turns_kept rest (after_label layout core.0 fact past) turn one) did) in
      fronts_along (done ++ Told core fact ∷ []) rest (after_label layout core.0 fact past) goes.0.next now then front.0 front.1 goes.1
      (λ event among. fit event (inr among)) tell.1 ties

  flies_first : Flies (first_past moment)
  flies_first = record {
    flown = λ number one. absurd one;
    once = tt;
    differ = tt;
    flushes = refl;
    opened = λ number one. absurd one;
    own = λ stamp one. absurd one;
  }

  pub fronts_of : (log : List (Event Label)) (now : Space) → GoesAlong layout before moment log first now → StandBeside named.stamps log
      → FitBringings named log → TellAlong layout start named log (first_past moment) → AreTurnsOf named (past_from layout log (first_past moment)).turns
      → Fronts (past_from layout log (first_past moment)).turns
  fronts_of log now along stand fit tell ties =
      let at = place_first layout start entries named first begins moment before log now along stand in
      fronts_along [] log (first_past moment) first now at flies_first
      (λ front back e. subst (IsOneRecord start named run) (nil_front front back e)
      (record_here layout start entries named first begins moment before [] (first_past moment) log first at flies_first)) along.goes fit tell ties
    where
      nil_front : (front back : List Turn) → ◌≡◌ {A = List Turn} [] (front ++ back) → ◌≡◌ {A = List Turn} [] front
      nil_front [] back e = refl
      nil_front (x ∷ front) back e = absurd (cc e)

pub labels_are_one_record : LabelsAreOneRecord
labels_are_one_record start entries named told is ties =
    fronts_of told.layout start entries named told.first is.begins told.moment told.before told.log told.now is.is.along is.is.stand is.is.fit is.tell ties
