-- A commit is durable from now on.
use Rattle.std.proofs.Common.{◌≡◌, ◌⊎◌, ◌≢◌, ◌∙◌, ◌<◌, ◌∷◌, ◌++◌, ℕ, List, false, inl, inr, Some, sym, get_or, subst, ap, [], length, find, nat_eq, None, option_map, refl, true, arith, filter, not, Option}
use Rattle.std.proofs.lemmas.List.Elements.{All-from_get_or, All-get_or, All-cons, All-nil}
use Rattle.sfs_base.proofs.BasicTruth.{not_both, not_true}
use Rattle.sfs_base.proofs.BasicNumbers.{same_number, not_same}
use Rattle.sfs_base.proofs.BasicOptions.{some_same}
use Rattle.sfs_image.specs.ImageOf.{InodePart, TurnsInto, Transaction, IsImageOf}
use Rattle.sfs_image.specs.Super.{Layout}
use Rattle.sfs_image.specs.Part.{Part, pointer_at}
use Rattle.sfs_image.proofs.ImageOfLaws.{parts_instead}
use Rattle.sfs_dev.specs.Disk.{View}
use Rattle.tree_laws.specs.declared.turns.Turn.{Turn}
use Rattle.tree_laws.specs.declared.turns.TurnAct.{TurnAct}
use Rattle.tree_laws.specs.declared.turns.TurnAct.TheVariants as act
use Rattle.cut_laws.proofs.Listed.{to_filter}
use Rattle.cut_laws.proofs.RunFacts.{in_filter}
use Rattle.merge_laws.proofs.Blocks.{same_or_not}
use Rattle.slot_laws.specs.Slots.{Slots, open_gate, SlotWork, changed_slot, settled_work, place_at, may_be_open}
use Rattle.slot_laws.specs.Rules.{HasWork}
use Rattle.slot_laws.specs.Rings.{ShareInode}
use Rattle.slot_laws.proofs.Rings.{in_slots, before_settled, is_settled, settled_fits, share_back, aloft_elsewhere}
use Rattle.slot_laws.proofs.Basics.{none_there, at_other, at_same}
use Rattle.slot_image_laws.specs.Commits.{WorksFit, parts_over, GivesPart, TurnsParts, WorkFits, IsLastGiver, may_have, opened_in}
use Rattle.slot_image_laws.specs.Run.{Matches}
use Rattle.slot_image_laws.specs.Images.{KnowsSlot, KnowsWork, DiskBooks, IsBox, Shows, disk_books, first_books, book_act}
use Rattle.slot_image_laws.specs.Laws.{SettlesKeep}
use Rattle.slot_image_laws.proofs.Shown.{over_or, found_given, over_given, shown, gates_open}
use Rattle.slot_image_laws.proofs.Records.{share_given, no_record}
use Rattle.slot_image_laws.proofs.Trails.{trail_turns, books_more}
use Rattle.slot_image_laws.proofs.Anew.{opened_same}
use Rattle.slot_image_laws.proofs.Given.{none_given}

module _ (gives : ℕ → List InodePart) (layout : Layout) (base : ℕ → Part) (slots : Slots) (k : ℕ) (has : HasWork slots k false open_gate)
    (works : WorksFit gives layout base slots) where
  abbrev work : SlotWork
  work = has.work

  abbrev later : Slots
  later = changed_slot slots k settled_work

  -- the part of an inode that the commit does not give stays
  pub base_stays : (i : ℕ) → ((part : Part) → GivesPart gives has.work i part → ⊥) → parts_over (gives has.work.commit) base i ≡ base i
  base_stays i none = elim (over_or (gives work.commit) base i) [
    | inl nothing ↦ nothing.1
    | inr some ↦ absurd (none some.0.part (found_given gives work i some.0 some.1))
  ]

  -- it gives an inode a part, or the part stays
  gives_or : (i : ℕ) → ((part : Part) × GivesPart gives has.work i part × (parts_over (gives has.work.commit) base i ≡ part))
      ⊎ (parts_over (gives has.work.commit) base i ≡ base i)
  gives_or i = elim (over_or (gives work.commit) base i) [
    | inl nothing ↦ inr nothing.1
    | inr some ↦ inl (some.0.part, found_given gives work i some.0 some.1, some.2)
  ]

  shares : (j i : ℕ) (other : SlotWork) (part part_too : Part) → slots j ≡ Some other → GivesPart gives has.work i part
      → GivesPart gives other i part_too → ShareInode has.work.job other.job
  shares j i other part part_too there given_is gave =
      share_given gives work other i part part_too (works.each k work has.there).commit.records (works.each j other there).commit.records given_is gave

  -- another commit that is not durable gives none of its inodes
  other_stays : (j i : ℕ) (other : SlotWork) (part : Part) → j ≢ k → slots j ≡ Some other → other.settled ≡ false → GivesPart gives other i part
      → parts_over (gives has.work.commit) base i ≡ base i
  other_stays j i other part away there aloft gave =
      base_stays i
      (λ part_too given_is.
      works.rings.apart k j work other (in_slots (λ same. away (sym same)) has.there there has.aloft aloft)
      (shares j i other part_too part there given_is gave))

  parts_still : (j : ℕ) (other : SlotWork) → j ≢ k → slots j ≡ Some other → other.settled ≡ false → TurnsParts gives layout base other
      → TurnsParts gives layout (parts_over (gives has.work.commit) base) other
  parts_still j other away there aloft turns = record {
    turns = All-from_get_or (λ (own : InodePart). TurnsInto other.job.fresh (parts_over (gives work.commit) base own.inode) own.part) (gives other.commit) no_part
        (λ n low.
        let own = get_or (gives other.commit) n no_part in
        subst (λ (p : Part). TurnsInto other.job.fresh p own.part) (sym (stays own.inode (gave_some n low)))
        (All-get_or (λ (own : InodePart). TurnsInto other.job.fresh (base own.inode) own.part) (gives other.commit) n no_part low turns.turns));
    free = λ i place n low few points same. elim (gives_or i) [
      | inl gave ↦
          let reached = (works.apart j k other work (in_slots away there has.there aloft has.aloft)).reached in
          reached n i place gave.0 few gave.1 (subst (λ (p : Part). pointer_at p place ≢ 0) gave.2 points)
          (same ∙ ap (λ (p : Part). pointer_at p place) gave.2)
      | inr still ↦
          turns.free i place n low few (subst (λ (p : Part). pointer_at p place ≢ 0) still points) (same ∙ ap (λ (p : Part). pointer_at p place) still)
    ];
  }
    where
      no_part : InodePart
      no_part = record { inode = 0; part = record { raw = []; tables = []; blocks = [] } }

      gave_some : (n : ℕ) → n < length (gives other.commit)
          → find (λ own. nat_eq own.inode (get_or (gives other.commit) n no_part).inode) (gives other.commit) ≢ None
      gave_some n low none = no_record (gives other.commit) (get_or (gives other.commit) n no_part).inode n no_part none low refl

      stays : (i : ℕ) → find (λ own. nat_eq own.inode i) (gives other.commit) ≢ None → parts_over (gives has.work.commit) base i ≡ base i
      stays i some = elim (over_or (gives other.commit) base i) [
        | inl none ↦ absurd (some none.0)
        | inr own ↦ other_stays j i other own.0.part away there aloft (found_given gives other i own.0 own.1)
      ]

  before : (j : ℕ) (other : SlotWork) → j ≢ k → changed_slot slots k settled_work j ≡ Some other → slots j ≡ Some other
  before j other away there = before_settled slots k j other there away

  settled_one : (j : ℕ) (other : SlotWork) → j ≡ k → changed_slot slots k settled_work j ≡ Some other → settled_work has.work ≡ other
  settled_one j other same there = is_settled slots k work has.there j other there same

  pub settled_works : WorksFit gives layout (parts_over (gives has.work.commit) base) (changed_slot slots k settled_work)
  settled_works = record {
    beyond = λ j high. elim (same_or_not j k) [
      | inl same ↦ none_there (sym (works.beyond j high) ∙ ap slots same ∙ has.there)
      | inr away ↦ at_other slots k (option_map settled_work (slots k)) j away ∙ works.beyond j high
    ];
    each = λ j other there. elim (same_or_not j k) [
      | inl same ↦
          let own = works.each k work has.there in
          subst (WorkFits gives layout (parts_over (gives work.commit) base) j) (settled_one j other same there) (record {
            place = own.place ∙ ap (place_at layout) (sym same);
            is = own.is;
            commit = record { records = own.commit.records; pointers = own.commit.pointers; own = own.commit.own };
            known = record { gates = own.known.gates; fill = λ n marked. absurd (not_both marked refl); table = own.known.table };
            aloft = λ aloft. absurd (not_both refl aloft);
            gate = λ aloft. absurd (not_both refl aloft);
            landed = λ durable. record { forgot = λ n. (refl, refl); opens = inl has.gate_is };
          })
      | inr away ↦
          let at = before j other away there in
          let its = works.each j other at in
          record {
            place = its.place;
            is = its.is;
            commit = its.commit;
            known = its.known;
            aloft = λ aloft. parts_still j other away at aloft (its.aloft aloft);
            gate = its.gate;
            landed = its.landed;
          }
    ];
    stamps = λ i j one other here there same.
        let was = settled_was i one here in
        let had = settled_was j other there in
        works.stamps i j was.0 had.0 was.1 had.1 (was.2 ∙ same ∙ sym had.2);
    rings = settled_fits slots k work works.rings has.there has.aloft;
    apart = λ i j one other pair.
        works.apart i j one other
        (in_slots pair.away (before i one (aloft_elsewhere slots k work has.there i one pair.here pair.one_is) pair.here)
        (before j other (aloft_elsewhere slots k work has.there j other pair.there pair.other_is) pair.there) pair.one_is pair.other_is);
    newest = λ j i one part there durable given_is last. elim (same_or_not j k) [
      | inl same ↦
          over_given gives work i part base (subst (λ (w : SlotWork). GivesPart gives w i part) (sym (settled_one j one same there)) given_is)
      | inr away ↦ newest_still j i one part away (before j one away there) durable given_is last
    ];
  }
    where
      settled_was : (j : ℕ) (other : SlotWork) → changed_slot slots k settled_work j ≡ Some other
          → (one : SlotWork) × (slots j ≡ Some one) × (one.job.stamp ≡ other.job.stamp)
      settled_was j other there = elim (same_or_not j k) [
        | inl same ↦ (work, ap slots same ∙ has.there, ap (λ (w : SlotWork). w.job.stamp) (settled_one j other same there))
        | inr away ↦ (other, before j other away there, refl)
      ]

      settled_there : changed_slot slots k settled_work k ≡ Some (settled_work has.work)
      settled_there = at_same slots k (option_map settled_work (slots k)) k refl ∙ ap (option_map settled_work) has.there

      newest_still : (j i : ℕ) (one : SlotWork) (part : Part) → j ≢ k → slots j ≡ Some one → one.settled ≡ true → GivesPart gives one i part
          → IsLastGiver gives (changed_slot slots k settled_work) j one i → parts_over (gives has.work.commit) base i ≡ part
      newest_still j i one part away there durable given_is last = elim (gives_or i) [
        | inl gave ↦
            let below = last k (settled_work work) gave.0 (λ same. away (sym same)) settled_there refl gave.1 in
            let above = works.rings.later j k one work (in_slots away there has.there durable has.aloft)
            (share_back work.job one.job (shares j i one gave.0 part there gave.1 given_is)) in
            absurd (omega arith)
        | inr still ↦ still
            ∙ works.newest j i one part there durable given_is
            (λ m other part_too out here settled gave. last m other part_too out (at_other slots k (option_map settled_work (slots k)) m (not_here m other here settled) ∙ here) settled gave)
      ]
        where
          not_here : (m : ℕ) (other : SlotWork) → slots m ≡ Some other → other.settled ≡ true → m ≢ k
          not_here m other here settled same =
              not_both settled (ap (λ (w : SlotWork). w.settled) (some_same (sym here ∙ ap slots same ∙ has.there)) ∙ has.aloft)

  pub settled_may : (j : ℕ) → may_have gives (changed_slot slots k settled_work j) ≡ may_have gives (slots j)
  settled_may j = elim (same_or_not j k) [
    | inl same ↦
        ap (may_have gives) (at_same slots k (option_map settled_work (slots k)) j same ∙ ap (option_map settled_work) has.there)
        ∙ sym (ap (may_have gives) (ap slots same ∙ has.there))
    | inr away ↦ ap (may_have gives) (at_other slots k (option_map settled_work (slots k)) j away)
  ]

  pub settled_matches : (flying : List ℕ) → Matches flying slots
      → Matches (filter (λ other. not (nat_eq other has.work.commit)) flying) (changed_slot slots k settled_work)
  settled_matches flying matches = record {
    once = λ i j one other here there same.
        let was = numbered i one here in
        let had = numbered j other there in
        matches.once i j was.0 had.0 was.1 had.1 (was.2 ∙ same ∙ sym had.2);
    flies = λ j other there aloft may.
        let away = aloft_elsewhere slots k work has.there j other there aloft in
        let at = before j other away there in
        to_filter (λ (other : ℕ). not (nat_eq other work.commit)) flying other.commit (matches.flies j other at aloft may)
        (ap not (not_same other.commit work.commit (λ same. away (matches.once j k other work at has.there same))));
    flown = λ commit one.
        let among = in_filter (λ (other : ℕ). not (nat_eq other work.commit)) flying commit one in
        let flight = matches.flown commit among.0 in
        let away : flight.slot ≢ k = λ same.
        not_both (same_number work.commit)
        (not_true _ (ap (λ (c : ℕ). not (nat_eq c work.commit))
        (ap (λ (w : SlotWork). w.commit) (some_same (sym has.there ∙ ap slots (sym same) ∙ flight.there)) ∙ flight.number) ∙ among.1)) in
        record {
          slot = flight.slot;
          work = flight.work;
          there = at_other slots k (option_map settled_work (slots k)) flight.slot away ∙ flight.there;
          number = flight.number;
          aloft = flight.aloft;
          may = flight.may;
        };
  }
    where
      numbered : (j : ℕ) (other : SlotWork) → changed_slot slots k settled_work j ≡ Some other
          → (one : SlotWork) × (slots j ≡ Some one) × (one.commit ≡ other.commit)
      numbered j other there = elim (same_or_not j k) [
        | inl same ↦ (work, ap slots same ∙ has.there, ap (λ (w : SlotWork). w.commit) (settled_one j other same there))
        | inr away ↦ (other, before j other away there, refl)
      ]

  pub settled_knows : (disk : View) (j : ℕ) → KnowsSlot layout j (slots j) disk → KnowsSlot layout j (changed_slot slots k settled_work j) disk
  settled_knows disk j knows = elim (same_or_not j k) [
    | inl same ↦
        let own : KnowsWork work disk = subst (λ (o : Option SlotWork). KnowsSlot layout j o disk) (ap slots same ∙ has.there) knows in
        subst (λ (o : Option SlotWork). KnowsSlot layout j o disk)
        (sym (at_same slots k (option_map settled_work (slots k)) j same ∙ ap (option_map settled_work) has.there))
        (record {
          gate_left = own.gate_left;
          gate_read = own.gate_read;
          fill_left = λ n low marked. absurd (not_both marked refl);
          fill_read = λ n low marked. absurd (not_both marked refl);
          table_left = own.table_left;
          table_read = own.table_read;
        })
    | inr away ↦
        subst (λ (o : Option SlotWork). KnowsSlot layout j o disk) (sym (at_other slots k (option_map settled_work (slots k)) j away)) knows
  ]

pub settles_keep : (disk : View) → SettlesKeep disk
settles_keep disk run turns slots k turn has did number now runs =
    record {
      box = subst (λ (b : DiskBooks). IsBox run.gives run.layout b.base later disk) (sym booked) box;
      matches = subst (λ (b : DiskBooks). Matches b.flying later) (sym booked) matches;
      trail = trail_turns run turns disk (turn ∷ [])
          (All-cons (λ (turn : Turn). turn.now ≡ disk.now) turn [] now (All-nil (λ (turn : Turn). turn.now ≡ disk.now))) runs.trail
          (λ content told counts image left.
          subst (λ (b : DiskBooks). Shows run.gives run.layout b image) (sym booked)
          (shown run.gives run.layout next later disk box content told matches image left));
    }
  where
    books : DiskBooks
    books = disk_books run turns

    later : Slots
    later = changed_slot slots k settled_work

    next : DiskBooks
    next = record { base = parts_over (run.gives has.work.commit) books.base; flying = filter (λ other. not (nat_eq other has.work.commit)) books.flying }

    booked : disk_books run (turns ++ turn ∷ []) ≡ next
    booked =
        books_more run.gives turns (turn ∷ []) (first_books run)
        ∙ ap (λ (d : TurnAct). book_act run.gives d turn.commit books) did
        ∙ ap (λ (c : ℕ). book_act run.gives act.Durable c books) number

    matches : Matches next.flying later
    matches = settled_matches run.gives run.layout books.base slots k has runs.box.works books.flying runs.matches

    box : IsBox run.gives run.layout next.base later disk
    box = record {
      large = runs.box.large;
      fits = runs.box.fits;
      works = settled_works run.gives run.layout books.base slots k has runs.box.works;
      knows = λ j low. settled_knows run.gives run.layout books.base slots k has runs.box.works disk j (runs.box.knows j low);
      stands = λ content told image left.
          subst (λ (opened : ℕ → Option Transaction). IsImageOf run.layout opened next.base image)
          (sym (opened_same run.gives run.layout slots later image (λ j gated. settled_may run.gives run.layout books.base slots k has runs.box.works j)))
          (parts_instead run.layout (opened_in run.gives run.layout slots image) books.base next.base image
          (λ i low none.
          base_stays run.gives run.layout books.base slots k has runs.box.works i
          (λ part given_is.
          none_given run.gives run.layout books.base slots image runs.box.works (gates_open run.gives run.layout books slots disk runs.box content told image left)
          (runs.box.stands content told image left) i none k has.work part
          (record {
            there = has.there;
            gate = gates_open run.gives run.layout books slots disk runs.box content told image left k has.work has.there has.gate_is;
            may = ap may_be_open has.gate_is;
          })
          given_is))
          (runs.box.stands content told image left));
    }
