-- What a mount's end says of each place of its labels: what stands beside the volume that is imagined there, and what its turns have left open.
use Rattle.std.proofs.Common.{◌++◌, ◌∷◌, ◌≡◌, List, [], subst, sym, append-nil, append_assoc, inl, refl, inr, ℕ}
use Rattle.sfs_base.specs.declared.numbers.CoreId.{CoreId}
use Rattle.sfs_image.specs.Super.{Layout}
use Rattle.space_map.specs.Space.{Space}
use Rattle.tree_laws.specs.declared.turns.TurnAct.TheVariants as act
use Rattle.cut_laws.specs.Rules.{IsOneOf}
use Rattle.space_laws.specs.Map.{IsMapOf}
use Rattle.book_laws.specs.Along.{MapKeeping, BeginsMap}
use Rattle.stamp_table.specs.declared.event.Event.{Event}
use Rattle.stamp_table.specs.declared.event.Event.TheVariants.{Called, Told}
use Rattle.slot_laws.specs.Labels.{BoxPast, first_past, past_from, after_label}
use Rattle.slot_laws.specs.declared.label.Label.{Label}
use Rattle.slot_laws.specs.Grants.{SpaceGoes}
use Rattle.slot_laws.specs.Lasts.{Reserving, told_reserving}
use Rattle.slot_laws.specs.declared.label.Label.TheVariants as label
use Rattle.close_laws.specs.Maps.{Numbered, TurnsStand, FitBringings, ReservedAs}
use Rattle.close_laws.specs.PenLabels.{PensTold}
use Rattle.close_laws.specs.Beside.{TellAlong}
use Rattle.close_laws.specs.Own.{NotesTurn}
use Rattle.close_laws.proofs.Beginning.{place_first, PlaceSo, place_step}
use Rattle.close_laws.proofs.Owing.{turns_stand_beside}
use Rattle.end_laws.specs.Mount.{MountEnd, MountEnds, AreNamedAlong}
use Rattle.end_laws.proofs.Landed.{pens}
use Rattle.end_laws.proofs.Places.{told_labels}
use Rattle.end_laws.proofs.Telling.{named_tell_along}
use Rattle.end_laws.specs.Recorded.{kept_at}
use Rattle.end_laws.proofs.Opens.{OpensAt}
use Rattle.end_laws.proofs.Walk.{opens_at}
use Rattle.end_laws.proofs.Next.{ComesReserved, behind_reserved, behind_returned}

module _ (D : Type 0) (at : MountEnd) (named : Numbered) (ends : MountEnds D at) (are : AreNamedAlong at named) where
  abbrev pub layout : Layout
  layout = at.told.layout

  abbrev pub begun : BoxPast
  begun = first_past at.told.moment

  pub pens_told : PensTold named.stamps at.told.log
  pens_told = (pens D at named ends are).pens.pens

  pub turns_stand : TurnsStand named.stamps at.told.log
  turns_stand =
      turns_stand_beside layout at.told.before at.told.moment named.stamps at.told.log ends.along.may (told_labels D at named ends are).stand

  -- All that is known at a place.
  pub record PlaceAt (done : List (Event Label)) (past : BoxPast) (rest : List (Event Label)) : Type 0 where
    pub space : Space
    pub is : PlaceSo layout at.start at.entries named at.told.first ends.begins.labels at.told.moment at.told.before done past rest space
    pub goes : SpaceGoes layout rest past space at.told.now
    pub fit : FitBringings named rest
    pub tell : TellAlong layout at.start named rest past

  place_first_of : PlaceAt [] begun at.told.log
  place_first_of =
      let labels = told_labels D at named ends are in record {
        space = at.told.first;
        is = place_first layout at.start at.entries named at.told.first ends.begins.labels at.told.moment at.told.before at.told.log at.told.now labels.along
            labels.stand;
        goes = labels.along.goes;
        fit = labels.fit;
        tell = named_tell_along D at named ends are;
      }

  place_on : (done some rest : List (Event Label)) (past : BoxPast) → PlaceAt done past (some ++ rest)
      → PlaceAt (done ++ some) (past_from layout some past) rest
  place_on done [] rest past here = subst (λ l. PlaceAt l past rest) (sym (append-nil done)) here
  place_on done (Called entry ∷ some) rest past here = absurd here.is.drawing.owing.may.0
  place_on done (Told core fact ∷ some) rest past here =
      subst (λ l. PlaceAt l (past_from layout some (after_label layout core.0 fact past)) rest) (append_assoc done (Told core fact ∷ []) some)
      (place_on (done ++ Told core fact ∷ []) some rest (after_label layout core.0 fact past) (record {
        space = here.goes.0.next;
        is = place_step layout at.start at.entries named at.told.first ends.begins.labels at.told.moment at.told.before done (some ++ rest) past core fact
            here.space here.goes.0.next here.is here.goes.0.does (here.fit (Told core fact) (inl refl)) here.tell.0;
        goes = here.goes.1;
        fit = λ event among. here.fit event (inr among);
        tell = here.tell.1;
      }))

  -- behind each front
  pub place_there : (front back : List (Event Label)) → at.told.log ≡ front ++ back → PlaceAt front (past_from layout front begun) back
  place_there front back whole = place_on [] front back begun (subst (PlaceAt [] begun) whole place_first_of)

  pub opens_there : (front back : List (Event Label)) → at.told.log ≡ front ++ back → OpensAt named front (past_from layout front begun)
  opens_there =
      opens_at named layout at.told.before at.told.moment at.told.first at.told.log ends.along.may pens_told turns_stand
      (λ front back whole. let here = place_there front back whole in (here.space, here.is.drawing))

  pub comes_behind : (rest : List (Event Label)) (one : Reserving) (teller : CoreId) (fact : Label) (back : List (Event Label))
      → at.told.log ≡ (rest ++ told_reserving one ∷ []) ++ Told teller fact ∷ back → ComesReserved named.stamps one.commit one.grant fact
  comes_behind = behind_reserved named.stamps layout at.told.before begun at.told.log ends.along.may pens_told

  pub comes_returned : (rest : List (Event Label)) (core : CoreId) (number : ℕ) (teller : CoreId) (fact : Label) (back : List (Event Label))
      → at.told.log ≡ (rest ++ Told core (label.Returned number) ∷ []) ++ Told teller fact ∷ back → NotesTurn act.GivenBack (named.stamps number) fact
  comes_returned = behind_returned named.stamps layout at.told.before begun at.told.log ends.along.may pens_told

  -- a number that was reserved is its pair's, with what its grant serves
  pub reserved_as : (one : Reserving) → IsOneOf at.told.log (told_reserving one) → ReservedAs named one.commit one.seen.items one.grant
  reserved_as one among = (told_labels D at named ends are).fit (told_reserving one) among

  -- what the map of free space along its turns is kept from
  abbrev pub keeping_at : MapKeeping
  keeping_at = record { kept = kept_at at named; entries = at.entries; first = at.told.first }

  pub begins_map : BeginsMap keeping_at
  begins_map =
      let labels = ends.begins.labels in record {
        stands = labels.walk.stands;
        keeps = labels.keeps;
        right = subst (λ l. IsMapOf l at.entries at.told.first) (sym labels.layout_is) labels.right;
        none = record { inodes = ends.along.no_inodes; blocks = ends.along.no_blocks };
      }
