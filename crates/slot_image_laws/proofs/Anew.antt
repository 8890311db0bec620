-- Commits in slots of which something else is known.
use Rattle.std.proofs.Common.{◌≡◌, ◌∙◌, if◌then◌else◌, ◌==◌, ◌≢◌, ◌<◌, ℕ, option_map, List, false, true, Bool, refl, cond, None, ap, Option, sym, Some, subst, inl, inr}
use Rattle.std.proofs.Math.Path.{fun_ext}
use Rattle.std.proofs.lemmas.Bool.{cases_lt}
use Rattle.sfs_base.proofs.BasicNumbers.{same_number, not_same}
use Rattle.sfs_image.specs.ImageOf.{InodePart, Transaction}
use Rattle.sfs_image.specs.Super.{Layout}
use Rattle.sfs_image.specs.Part.{Part}
use Rattle.sfs_image.specs.Journal.{head_of}
use Rattle.sfs_image.specs.Bytes.{part}
use Rattle.sfs_image.specs.Settled.{journal_slot, slot_count}
use Rattle.cut_laws.specs.Rules.{IsOneOf}
use Rattle.merge_laws.proofs.Blocks.{same_or_not}
use Rattle.slot_laws.specs.Slots.{Slots, SlotKnown, knowing, SlotWork, may_be_open, changed_slot}
use Rattle.slot_laws.specs.Rings.{RingsFit}
use Rattle.slot_laws.proofs.Basics.{mapped_some, at_same, at_other, none_there}
use Rattle.slot_laws.proofs.Rings.{in_slots}
use Rattle.slot_image_laws.specs.Commits.{IsCommitJob, TurnsParts, KnownFits, IsLanded, may_have, opened_in, WorksFit, WorkFits, BlocksApart, GivesPart, IsLastGiver}
use Rattle.slot_image_laws.specs.Run.{Matches}

-- of each commit in a slot something else is known
abbrev pub known_anew : Slots → (ℕ → SlotKnown → SlotKnown) → Slots
known_anew slots change k = option_map (knowing (change k)) (slots k)

pub commit_anew : (gives : ℕ → List InodePart) (layout : Layout) (change : SlotKnown → SlotKnown) (work : SlotWork) → IsCommitJob gives layout work
    → IsCommitJob gives layout (knowing change work)
commit_anew gives layout change work is = record { records = is.records; pointers = is.pointers; own = is.own }

pub parts_anew : (gives : ℕ → List InodePart) (layout : Layout) (base : ℕ → Part) (change : SlotKnown → SlotKnown) (work : SlotWork)
    → TurnsParts gives layout base work → TurnsParts gives layout base (knowing change work)
parts_anew gives layout base change work is = record { turns = is.turns; free = is.free }

-- What is known of a commit still fits it.
pub record StillFits (work : SlotWork) : Type 0 where
  pub known : KnownFits work.known
  pub gate : work.settled ≡ false → may_be_open work.known.gate_read ≡ may_be_open work.known.gate_left
  pub landed : work.settled ≡ true → IsLanded work

-- nothing, whatever is asked
pub none_either : (b : Bool) → cond {A = Option Transaction} b None None ≡ None
none_either true = refl
none_either false = refl

-- a slot is open or not, by its gate in an image
abbrev pub gate_in : Layout → List ℕ → ℕ → Bool
gate_in layout image k = (head_of (part 0 4096 (journal_slot layout image k))).gate

-- the same slots are open where those that may be are the same, of those whose gates are open
pub opened_same : (gives : ℕ → List InodePart) (layout : Layout) (slots later : Slots) (image : List ℕ)
    → ((k : ℕ) → gate_in layout image k ≡ true → may_have gives (later k) ≡ may_have gives (slots k))
    → opened_in gives layout later image ≡ opened_in gives layout slots image
opened_same gives layout slots later image same = fun_ext (λ k. by k (gate_in layout image k) refl)
  where
    by : (k : ℕ) (b : Bool) → gate_in layout image k ≡ b
        → cond (gate_in layout image k) (may_have gives (later k)) None ≡ cond (gate_in layout image k) (may_have gives (slots k)) None
    by k true is = ap (λ (may : Option Transaction). cond (gate_in layout image k) may None) (same k is)
    by k false is =
        ap (λ (b : Bool). cond b (may_have gives (later k)) None) is ∙ sym (ap (λ (b : Bool). cond b (may_have gives (slots k)) None) is)

module _ (gives : ℕ → List InodePart) (layout : Layout) (base : ℕ → Part) (slots : Slots) (change : ℕ → SlotKnown → SlotKnown) where
  -- a commit of the new slots was in the old ones
  was_there : (k : ℕ) (new : SlotWork) → known_anew slots change k ≡ Some new → (work : SlotWork) × (slots k ≡ Some work) × (knowing (change k) work ≡ new)
  was_there k new there = mapped_some (knowing (change k)) (slots k) new there

  pub works_anew : WorksFit gives layout base slots → RingsFit (known_anew slots change)
      → ((k : ℕ) (work : SlotWork) → slots k ≡ Some work → StillFits (knowing (change k) work))
      → WorksFit gives layout base (known_anew slots change)
  works_anew works rings still = record {
    beyond = λ k high. ap (option_map (knowing (change k))) (works.beyond k high);
    each = λ k new there.
        let was = was_there k new there in
        let fits = works.each k was.0 was.1 in
        let kept = still k was.0 was.1 in
        subst (WorkFits gives layout base k) was.2 (record {
          place = fits.place;
          is = fits.is;
          commit = commit_anew gives layout (change k) was.0 fits.commit;
          known = kept.known;
          aloft = λ aloft. parts_anew gives layout base (change k) was.0 (fits.aloft aloft);
          gate = kept.gate;
          landed = kept.landed;
        });
    stamps = λ j k one other here there same.
        let was = was_there j one here in
        let had = was_there k other there in
        works.stamps j k was.0 had.0 was.1 had.1
        (ap (λ (w : SlotWork). w.job.stamp) was.2 ∙ same ∙ sym (ap (λ (w : SlotWork). w.job.stamp) had.2));
    rings = rings;
    apart = λ j k one other pair.
        let was = was_there j one pair.here in
        let had = was_there k other pair.there in
        let blocks =
        works.apart j k was.0 had.0
        (in_slots pair.away was.1 had.1 (ap (λ (w : SlotWork). w.settled) was.2 ∙ pair.one_is) (ap (λ (w : SlotWork). w.settled) had.2 ∙ pair.other_is)) in
        subst (λ (w : SlotWork). BlocksApart gives w other) was.2
        (subst (BlocksApart gives (knowing (change j) was.0)) had.2 (record { blocks = blocks.blocks; reached = blocks.reached }));
    newest = λ k i new part there durable given last.
        let was = was_there k new there in
        subst
        (λ (w : SlotWork). w.settled ≡ true → GivesPart gives w i part → IsLastGiver gives (known_anew slots change) k w i → base i ≡ part) was.2
        (λ settled gave latest.
        works.newest k i was.0 part was.1 settled gave
        (λ j other p away here set g. latest j (knowing (change j) other) p away (ap (option_map (knowing (change j))) here) set g))
        durable given last;
  }

  -- and the flights are the same where none is opened or shut
  pub matches_anew : (flying : List ℕ) → Matches flying slots
      → ((k : ℕ) (work : SlotWork) → slots k ≡ Some work → work.settled ≡ false
      → may_be_open (change k work.known).gate_left ≡ may_be_open work.known.gate_left)
      → Matches flying (known_anew slots change)
  matches_anew flying matches same = record {
    once = λ j k one other here there number.
        let was = was_there j one here in
        let had = was_there k other there in
        matches.once j k was.0 had.0 was.1 had.1
        (ap (λ (w : SlotWork). w.commit) was.2 ∙ number ∙ sym (ap (λ (w : SlotWork). w.commit) had.2));
    flies = λ k new there aloft may.
        let was = was_there k new there in
        subst (λ (w : SlotWork). w.settled ≡ false → may_be_open w.known.gate_left ≡ true → IsOneOf flying w.commit) was.2
        (λ flies gated. matches.flies k was.0 was.1 flies (sym (same k was.0 was.1 flies) ∙ gated)) aloft may;
    flown = λ commit one.
        let flight = matches.flown commit one in
        record {
          slot = flight.slot;
          work = knowing (change flight.slot) flight.work;
          there = ap (option_map (knowing (change flight.slot))) flight.there;
          number = flight.number;
          aloft = flight.aloft;
          may = same flight.slot flight.work flight.there flight.aloft ∙ flight.may;
        };
  }

-- one slot's commit, of which something else is known
abbrev pub only_at : ℕ → (SlotKnown → SlotKnown) → ℕ → SlotKnown → SlotKnown
only_at k change j = if j == k then change else (λ known. known)

pub only_here : (k : ℕ) (change : SlotKnown → SlotKnown) (j : ℕ) → j ≡ k → only_at k change j ≡ change
only_here k change j same =
    ap (λ (n : ℕ). only_at k change n) same ∙ ap (λ (b : Bool). cond b change (λ known. known)) (same_number k)

pub only_off : (k : ℕ) (change : SlotKnown → SlotKnown) (j : ℕ) → j ≢ k → only_at k change j ≡ (λ known. known)
only_off k change j away = ap (λ (b : Bool). cond b change (λ known. known)) (not_same j k away)

pub changed_is : (slots : Slots) (k : ℕ) (change : SlotKnown → SlotKnown) → changed_slot slots k (knowing change) ≡ known_anew slots (only_at k change)
changed_is slots k change = fun_ext (λ j. elim (same_or_not j k) [
  | inl same ↦
      at_same slots k (option_map (knowing change) (slots k)) j same
      ∙ ap (λ (f : SlotKnown → SlotKnown). option_map (knowing f) (slots k)) (sym (only_here k change j same))
      ∙ ap (λ (n : ℕ). option_map (knowing (only_at k change j)) (slots n)) (sym same)
  | inr away ↦
      at_other slots k (option_map (knowing change) (slots k)) j away
      ∙ sym (itself (slots j))
      ∙ ap (λ (f : SlotKnown → SlotKnown). option_map (knowing f) (slots j)) (sym (only_off k change j away))
])
  where
    itself : (o : Option SlotWork) → option_map (knowing (λ known. known)) o ≡ o
    itself None = refl
    itself (Some work) = refl

-- a commit stands in a slot of the layout
pub within : (gives : ℕ → List InodePart) (layout : Layout) (base : ℕ → Part) (slots : Slots) → WorksFit gives layout base slots
    → (k : ℕ) (work : SlotWork) → slots k ≡ Some work → k < slot_count layout
within gives layout base slots works k work there = elim (cases_lt k (slot_count layout)) [
  | inl low ↦ low
  | inr high ↦ none_there (sym (works.beyond k high) ∙ there)
]
