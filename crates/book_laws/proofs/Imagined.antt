-- What is so of volumes that are imagined, and that there are such.
-- an fsync that brings something leaves the blocks that are imagined
use Rattle.std.proofs.Common.{◌++◌, ◌∷◌, ◌≡◌, ◌∙◌, List, [], refl, sym, append-nil, ap, append_assoc, map, subst, inl, inr}
use Rattle.std.proofs.lemmas.List.{map-append, same_from_push}
use Rattle.commit_laws.specs.PartsMade.{store_planned}
use Rattle.flush_laws.specs.Volume.{Volume}
use Rattle.flush_laws.specs.Laws.{IsStoreLeft}
use Rattle.merge_laws.proofs.Lists.{nothing_there}
use Rattle.volume_laws.proofs.Stores.{store_left, commits_stay_standing}
use Rattle.book_laws.specs.Brings.{Bringing, Brings, brought_by}
use Rattle.book_laws.specs.Imagined.{none_brought, OnDisk, all_brought, with_brought, ImaginedAreThose, one_brought, on_disk, Imagines, AllEnd, volume_then, flush_brought}
use Rattle.book_laws.proofs.Brings.{bringings_stay}

pub left_then : (volume : Volume) (one : Bringing) (brings : Brings volume one)
    → IsStoreLeft volume (brought_by one brings) (store_planned volume.store one.plan one.grant)
left_then volume one brings = store_left volume (brought_by one brings) brings.planned

brought_more : (brought : List Bringing) (one : Bringing) (was : OnDisk) → all_brought (brought ++ one ∷ []) was ≡ with_brought one (all_brought brought was)
brought_more [] one was = refl
brought_more (first ∷ brought) one was = brought_more brought one (with_brought first was)

pub imagined_are_those : ImaginedAreThose
imagined_are_those start _ _ stands none_brought =
    record { stands = stands; first = refl; history = refl; layout = refl; flushes = sym (append-nil start.flushes); disk = refl }
imagined_are_those start _ _ stands (one_brought brought volume one imagines brings) =
    let was = imagined_are_those start volume brought stands imagines in record {
      stands =
          commits_stay_standing volume (brought_by one brings) (store_planned volume.store one.plan one.grant) was.stands brings.planned brings.comes
          (left_then volume one brings);
      first = was.first;
      history = was.history;
      layout = was.layout;
      flushes =
          ap (λ flushes. flushes ++ one.flush ∷ []) was.flushes ∙ append_assoc start.flushes (map flush_brought brought) (one.flush ∷ [])
          ∙ ap (λ flushes. start.flushes ++ flushes) (sym (map-append flush_brought brought (one ∷ [])));
      disk = ap (with_brought one) was.disk ∙ sym (brought_more brought one (on_disk start));
    }

-- where nothing was brought the imagined volume is the first one
pub first_imagined : (start volume : Volume) (brought : List Bringing) → Imagines start brought volume → brought ≡ [] → volume ≡ start
first_imagined start _ _ none_brought e = refl
first_imagined start _ _ (one_brought brought volume one imagines brings) e = absurd (not_empty brought e)
  where
    not_empty : (brought : List Bringing) → brought ++ one ∷ [] ≡ [] → ⊥
    not_empty [] e = cc
    not_empty (first ∷ rest) e = cc

pub all_end : AllEnd
all_end start volume brought [] may =
    (volume, subst (λ those. Imagines start those volume) (sym (append-nil brought)) may.imagines)
all_end start volume brought (one ∷ kept) may =
    let own = may.brings one (inl refl) in
    let rest = all_end start (volume_then volume (brought_by one own)) (brought ++ one ∷ []) kept (record {
      imagines = one_brought brought volume one may.imagines own;
      brings = λ other there. bringings_stay volume other one (store_planned volume.store one.plan one.grant)
          (record { stays = may.brings other (inr there); ends = own; apart = may.apart.0 other there; left = left_then volume one own });
      apart = may.apart.1;
    }) in
    (rest.0, subst (λ those. Imagines start those rest.0) (append_assoc brought (one ∷ []) kept) rest.1)

-- The last fsync that has brought something to an imagined volume, with the volume that there was before it.
pub record LastImagined (start : Volume) (brought : List Bringing) (one : Bringing) (volume : Volume) : Type 0 where
  pub was : Volume
  pub imagines : Imagines start brought was
  pub brings : Brings was one
  pub is : volume ≡ volume_then was (brought_by one brings)

pub last_imagined : (start volume : Volume) (all : List Bringing) → Imagines start all volume → (brought : List Bringing) (one : Bringing)
    → all ≡ brought ++ one ∷ [] → LastImagined start brought one volume
last_imagined start _ _ none_brought brought one e = absurd (nothing_there brought one [] e)
last_imagined start _ _ (one_brought before volume last imagines brings) brought one e =
    let same = same_from_push before brought last one e in
    subst (λ (l : List Bringing). LastImagined start l one (volume_then volume (brought_by last brings))) same.0
    (subst (λ (b : Bringing). LastImagined start before b (volume_then volume (brought_by last brings))) same.1
    (record { was = volume; imagines = imagines; brings = brings; is = refl }))
