-- That each commit begins where it may, along a history, and what parts the turns say.
use Rattle.std.proofs.Common.{◌++◌, ◌≡◌, ◌∷◌, ℕ, List, [], refl, subst, sym, append-nil, append_assoc, inl, inr}
use Rattle.std.proofs.lemmas.List.Elements.{All-nil}
use Rattle.sfs_base.specs.declared.numbers.CoreId.{CoreId}
use Rattle.sfs_image.specs.ImageOf.{InodePart}
use Rattle.sfs_image.specs.Super.{Layout}
use Rattle.space_map.specs.Space.{Space}
use Rattle.disk_nodes.specs.declared.old.OldEntry.{OldEntry}
use Rattle.flush_laws.specs.Volume.{Volume}
use Rattle.stamp_table.specs.declared.event.Event.{Event}
use Rattle.stamp_table.specs.declared.event.Event.TheVariants.{Called, Told}
use Rattle.slot_laws.specs.declared.label.Label.{Label}
use Rattle.slot_laws.specs.Labels.{BoxPast, BegunCommit, after_label, first_past, past_from}
use Rattle.slot_laws.specs.Grants.{SpaceDoes, GoesAlong, SpaceGoes}
use Rattle.slot_image_laws.specs.Images.{RunStart, disk_books}
use Rattle.slot_image_laws.specs.Commits.{IsCommitAt}
use Rattle.close_laws.specs.Maps.{Numbered, bringing_of, FitsBringing, FitBringings, Telling, past_of}
use Rattle.close_laws.specs.Beside.{BeginsLabels, stamps_under, TellsAt, TellAlong, IsToldBeside, LabelsStandBeside, CommitsBeginWell, TurnsSayParts}
use Rattle.close_laws.specs.Own.{StandBeside}
use Rattle.close_laws.proofs.AlongLabels.{through_label, drawing_first}
use Rattle.close_laws.proofs.Walking.{BesideSo, beside_label, first_so}
use Rattle.close_laws.proofs.Drawn.{Drawing}
use Rattle.close_laws.proofs.Books.{BooksSo, books_label}

module _ (layout : Layout) (start : Volume) (entries : List OldEntry) (named : Numbered) (first : Space) (begins : BeginsLabels layout start entries first)
    (moment : ℕ) (before : ℕ) where
  abbrev run : RunStart
  run = record { layout = layout; moment = moment; parts = start.parts; gives = λ number. (bringing_of named number).parts }

  abbrev gives : ℕ → List InodePart
  gives number = (bringing_of named number).parts

  -- All that is known at a place of a history.
  pub record PlaceSo (done : List (Event Label)) (past : BoxPast) (rest : List (Event Label)) (space : Space) : Type 0 where
    pub drawing : Drawing named layout before first done past rest space
    pub beside : BesideSo layout start entries named first begins (stamps_under named past.done) (stamps_under named past.opens) space
    pub books : BooksSo layout start entries named first begins moment before past

  pub place_step : (done rest : List (Event Label)) (past : BoxPast) (core : CoreId) (fact : Label) (space next : Space)
      → PlaceSo done past (Told core fact ∷ rest) space
      → SpaceDoes (Told core fact) past space next → FitsBringing named (Told core fact) → TellsAt start named (Told core fact) past
      → PlaceSo (done ++ Told core fact ∷ []) (after_label layout core.0 fact past) rest next
  place_step done rest past core fact space next at does told tells =
      let then = through_label named layout before first done past core rest space next fact at.drawing does told in
      record {
        drawing = then;
        beside = beside_label layout start entries named first begins before done past core rest space next at.beside fact at.drawing then does told tells;
        books = books_label layout start entries named first begins moment before done past core rest space at.books at.beside fact next at.drawing does told;
      }

  pub place_first : (log : List (Event Label)) (now : Space) → GoesAlong layout before moment log first now → StandBeside named.stamps log
      → PlaceSo [] (first_past moment) log first
  place_first log now along stand = record {
    drawing = drawing_first named layout before first moment log now along stand;
    beside = first_so layout start entries named first begins;
    books = record {
      base = refl;
      begun = All-nil (λ (one : BegunCommit). IsCommitAt gives layout (disk_books run one.turns).base one.slots one.work);
      empties = All-nil (λ (commit : ℕ). gives commit ≡ []);
    };
  }

  pub place_along : (done rest : List (Event Label)) (past : BoxPast) (space now : Space) → PlaceSo done past rest space → SpaceGoes layout rest past space now
      → FitBringings named rest → TellAlong layout start named rest past → PlaceSo (done ++ rest) (past_from layout rest past) [] now
  place_along done [] past space now at goes fit tell =
      subst (λ (p : List (Event Label) × Space). PlaceSo p.0 past [] p.1) (λ i. (sym (append-nil done) i, sym goes i)) at
  place_along done (Called entry ∷ rest) past space now at goes fit tell = absurd at.drawing.owing.may.0
  place_along done (Told core fact ∷ rest) past space now at goes fit tell =
      subst (λ l. PlaceSo l (past_from layout rest (after_label layout core.0 fact past)) [] now) (append_assoc done (Told core fact ∷ []) rest)
      (place_along (done ++ Told core fact ∷ []) rest (after_label layout core.0 fact past) goes.0.next now
      (place_step done rest past core fact space goes.0.next at goes.0.does (fit (Told core fact) (inl refl)) tell.0)
      goes.1 (λ event among. fit event (inr among)) tell.1)

pub place_of : (start : Volume) (entries : List OldEntry) (named : Numbered) (told : Telling) (is : IsToldBeside start entries named told)
    → PlaceSo told.layout start entries named told.first is.begins told.moment told.before told.log (past_of told) [] told.now
place_of start entries named told is =
    place_along told.layout start entries named told.first is.begins told.moment told.before [] told.log (first_past told.moment) told.first told.now
    (place_first told.layout start entries named told.first is.begins told.moment told.before told.log told.now is.is.along is.is.stand)
    is.is.along.goes is.is.fit is.tell

pub labels_stand_beside : LabelsStandBeside
labels_stand_beside start entries named told is =
    let at = place_of start entries named told is in
    record { volume = at.beside.volume; imagines = at.beside.imagines; beside = at.beside.beside; right = at.beside.right }

pub commits_begin_well : CommitsBeginWell
commits_begin_well start entries named told is =
    let at = place_of start entries named told is in record { begun = at.books.begun; empties = at.books.empties }

pub turns_say_parts : TurnsSayParts
turns_say_parts start entries named told is = record { base = (place_of start entries named told is).books.base }
