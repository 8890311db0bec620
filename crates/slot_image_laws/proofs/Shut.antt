-- The gate of a slot is written shut, or that failed.
use Rattle.std.proofs.Common.{◌<◌, ◌≡◌, ◌≢◌, ◌∙◌, ◌+◌, ◌≤◌, ◌*◌, ℕ, List, true, length, Some, inl, sym, ap, Bool, inr, arith, subst, Option, get_or, None, refl, option_map, cond, false}
use Rattle.std.proofs.lemmas.List.Elements.{All-from_get_or}
use Rattle.sfs_base.proofs.BasicTruth.{not_both}
use Rattle.sfs_base.proofs.BasicOptions.{some_same}
use Rattle.sfs_image.specs.ImageOf.{InodePart, part_given, Transaction, given, with_slot, with_opened, IsImageOf}
use Rattle.sfs_image.specs.Super.{Layout}
use Rattle.sfs_image.specs.Part.{Part}
use Rattle.sfs_image.specs.Settled.{slot_count, table_record, Stamped}
use Rattle.sfs_image.specs.ImageWrites.{HasRecordsOf, MayShut}
use Rattle.sfs_image.specs.Journal.{Entry}
use Rattle.sfs_image.proofs.GateLaws.{oldest_may_shut, gate_shuts}
use Rattle.sfs_image.proofs.GivenLaws.{given_by, stamp_given, with_slot-other, with_slot-same}
use Rattle.sfs_image.proofs.NewestLaws.{newest_none}
use Rattle.sfs_image.proofs.BytesLaws.{None-option_map}
use Rattle.sfs_image.proofs.WrittenLaws.{gate_written}
use Rattle.sfs_image.proofs.ImageOfLaws.{parts_instead}
use Rattle.sfs_dev.specs.Disk.{View, images}
use Rattle.sfs_dev.specs.Ranges.{SameOutside}
use Rattle.journal_one.specs.Job.{no_entry, Place, gate_piece}
use Rattle.journal_one.proofs.Bodies.{placed_in_table}
use Rattle.journal_one.proofs.Kept.{Touches, gate_put, written_stands}
use Rattle.slot_laws.specs.Slots.{Slots, open_gate, SlotWork, may_be_open, changed_slot, knowing, known_gated, shut_gate}
use Rattle.slot_laws.specs.Rules.{HasWork}
use Rattle.slot_laws.proofs.Rings.{rings_move, marks_as, each_older}
use Rattle.slot_laws.proofs.Basics.{none_there, at_same}
use Rattle.slot_image_laws.specs.Images.{DiskBooks, IsBox, KnowsWork, KnowsSlot, disk_books}
use Rattle.slot_image_laws.specs.Commits.{WorkFits, GivesPart, StandsOpen, opened_in, work_transaction, may_have}
use Rattle.slot_image_laws.specs.Laws.{ShutsKeep}
use Rattle.slot_image_laws.specs.Run.{Matches}
use Rattle.slot_image_laws.proofs.Records.{share_given}
use Rattle.slot_image_laws.proofs.Anew.{gate_in, within}
use Rattle.slot_image_laws.proofs.Shown.{gates_open, shown}
use Rattle.slot_image_laws.proofs.Given.{open_there, open_work, given_so}
use Rattle.slot_image_laws.proofs.Regions.{low_slot, gate_lies}
use Rattle.slot_image_laws.proofs.Placed.{no_inode_part, as_many, entry_is}
use Rattle.slot_image_laws.proofs.Gated.{given_part, opened_but, same_gate_byte, gate_large, gated_knows}
use Rattle.slot_image_laws.proofs.Written.{IsElsewhere, slot_elsewhere}
use Rattle.slot_image_laws.proofs.Trails.{trail_goes}
use Rattle.slot_image_laws.proofs.Aside.{touches_by}
use Rattle.slot_image_laws.proofs.Changed.{changed_matches, changed_works, changed_knows}

module _ (gives : ℕ → List InodePart) (layout : Layout) (books : DiskBooks) (slots : Slots) (old : View) (box : IsBox gives layout books.base slots old)
    (k : ℕ) (has : HasWork slots k true open_gate) (placed : (n : ℕ) → n < length has.work.job.entries → has.work.known.table_left n ≡ true) where
  own_fits : WorkFits gives layout books.base k has.work
  own_fits = box.works.each k has.work has.there

  -- each other commit in a slot that shares an inode has a greater stamp
  oldest : (j i : ℕ) (other : SlotWork) (part part_too : Part) → j ≢ k → slots j ≡ Some other → GivesPart gives has.work i part
      → GivesPart gives other i part_too → has.work.job.stamp < other.job.stamp
  oldest j i other part part_too away there given_is gave =
      let shares = share_given gives has.work other i part part_too own_fits.commit.records (box.works.each j other there).commit.records given_is gave in
      each_older slots k box.works.rings has placed j other away there shares

  module _ (content : List ℕ) (told : old.content ≡ Some content) (was image : List ℕ) (left : images old was) where
    stood : StandsOpen gives layout books.base slots was
    stood = box.stands content told was left

    gated : gate_in layout was k ≡ true
    gated = gates_open gives layout books slots old box content told was left k has.work has.there has.gate_is

    is_open : opened_in gives layout slots was k ≡ Some (work_transaction gives has.work)
    is_open = open_there gives layout books.base slots was k has.work (record { there = has.there; gate = gated; may = ap may_be_open has.gate_is })

    low : k < slot_count layout
    low = low_slot gives layout books.base k has.work own_fits

    records_stand : HasRecordsOf layout (work_transaction gives has.work) was
    records_stand =
        All-from_get_or (λ (own : InodePart). table_record layout was own.inode ≡ own.part.raw) (gives has.work.commit) no_inode_part
        (λ n few.
        let less : n < length has.work.job.entries = omega (arith, as_many gives has.work own_fits.commit.records) in
        let knows : KnowsWork has.work old = subst (λ (o : Option SlotWork). KnowsSlot layout k o old) has.there (box.knows k low) in
        let there = placed_in_table has.work.job was n own_fits.is less (knows.table_left n less (placed n less) content told was left) in
        let own : table_record layout was (get_or has.work.job.entries n no_entry).inode ≡ (get_or has.work.job.entries n no_entry).bytes =
        subst (λ (l : Layout). table_record l was (get_or has.work.job.entries n no_entry).inode ≡ (get_or has.work.job.entries n no_entry).bytes)
        (ap (λ (place : Place). place.layout) own_fits.place) there in
        subst (λ (e : Entry). table_record layout was e.inode ≡ e.bytes) (sym (entry_is gives has.work own_fits.commit.records n less)) own)

    may_shut : MayShut layout (opened_in gives layout slots was) k was
    may_shut =
        oldest_may_shut layout (opened_in gives layout slots was) books.base k (work_transaction gives has.work) was low is_open
        (λ i j other ours below away gave mine.
        let by = given_by i (opened_in gives layout slots was j) other gave in
        let its = open_work gives layout books.base slots was j by.0 by.1 in
        let gave_it : part_given i (Some (work_transaction gives its.work)) ≡ Some other =
        ap (λ (t : Transaction). part_given i (Some t)) its.is ∙ sym (ap (part_given i) by.1) ∙ gave in
        let mine_it : part_given i (Some (work_transaction gives has.work)) ≡ Some ours = sym (ap (part_given i) is_open) ∙ mine in
        let order = oldest j i its.work ours.value other.value away its.is_open.there (given_part gives has.work i ours mine_it)
        (given_part gives its.work i other gave_it) in
        let theirs : other.stamp ≡ its.work.job.stamp = stamp_given i (work_transaction gives its.work) other gave_it in
        let own : ours.stamp ≡ has.work.job.stamp = stamp_given i (work_transaction gives has.work) ours mine_it in
        omega arith)
        (inr records_stand)

    -- where no other slot gives an inode, it has the part that the disk stands for
    base_there : (i : ℕ) → given layout (with_slot (opened_in gives layout slots was) k None) i ≡ None
        → books.base i ≡ with_opened layout (opened_in gives layout slots was) books.base i
    base_there i none =
        elim (given_so gives layout books.base slots was box.works (gates_open gives layout books slots old box content told was left) stood i) [
          | inr stays ↦ sym stays.whole
          | inl flight ↦
              let away : flight.slot ≢ k = λ at.
              not_both (ap (λ (w : SlotWork). w.settled) (some_same (sym flight.flight.is_open.there ∙ ap slots at ∙ has.there)) ∙ has.aloft) flight.flight.aloft in
              let below = within gives layout books.base slots box.works flight.slot flight.work flight.flight.is_open.there in
              let nothing =
              newest_none (λ j. part_given i (with_slot (opened_in gives layout slots was) k None j)) 0 (slot_count layout)
              (None-option_map (λ (newest : Stamped Part). newest.value) _ none) flight.slot (omega arith) (omega arith) in
              none_there
              (sym nothing
              ∙ ap (part_given i)
              (with_slot-other (opened_in gives layout slots was) k None flight.slot away
              ∙ open_there gives layout books.base slots was flight.slot flight.work flight.flight.is_open)
              ∙ flight.given_is)
        ]

    gate_shut : (done : Bool) → IsElsewhere layout slots k (gate_piece has.work.job.place 0)
        → SameOutside (gate_piece has.work.job.place 0).at (length (gate_piece has.work.job.place 0).bytes) was image
        → StandsOpen gives layout books.base (changed_slot slots k (knowing (known_gated done shut_gate))) image
    gate_shut done apart same = by (gate_in layout image k) refl
      where
        changed_there : changed_slot slots k (knowing (known_gated done shut_gate)) k ≡ Some (knowing (known_gated done shut_gate) has.work)
        changed_there =
            at_same slots k (option_map (knowing (known_gated done shut_gate)) (slots k)) k refl
            ∙ ap (option_map (knowing (known_gated done shut_gate))) has.there

        here : (b : Bool) → gate_in layout image k ≡ b → opened_in gives layout (changed_slot slots k (knowing (known_gated done shut_gate))) image k
            ≡ cond b (Some (work_transaction gives has.work)) None
        here b gate =
            ap (λ (o : Option SlotWork). cond (gate_in layout image k) (may_have gives o) None) changed_there
            ∙ ap (λ (c : Bool). cond c (Some (work_transaction gives has.work)) None) gate

        whole : (others_open : ℕ → Option Transaction)
            → opened_in gives layout (changed_slot slots k (knowing (known_gated done shut_gate))) image k ≡ others_open k
            → ((j : ℕ) → j ≢ k → others_open j ≡ opened_in gives layout slots was j) → IsImageOf layout others_open books.base image
            → StandsOpen gives layout books.base (changed_slot slots k (knowing (known_gated done shut_gate))) image
        whole others_open at others stands =
            subst (λ (f : ℕ → Option Transaction). IsImageOf layout f books.base image)
            (sym (opened_but gives layout slots k (knowing (known_gated done shut_gate)) was image others_open
            (record {
              piece = gate_piece has.work.job.place 0;
              low = λ j work there. within gives layout books.base slots box.works j work there;
              apart = apart;
              same = same;
              here = at;
              others = others;
            }))) stands

        by : (b : Bool) → gate_in layout image k ≡ b
            → StandsOpen gives layout books.base (changed_slot slots k (knowing (known_gated done shut_gate))) image
        by true gate =
            whole (opened_in gives layout slots was) (here true gate ∙ sym is_open) (λ j away. refl)
            (gate_written layout (opened_in gives layout slots was) books.base k was image stood
            (record {
              within = low;
              written = same_gate_byte gives layout books.base k 0 has.work own_fits was image same;
              gate = gate ∙ sym gated;
            }))
        by false gate =
            whole (with_slot (opened_in gives layout slots was) k None)
            (here false gate ∙ sym (with_slot-same (opened_in gives layout slots was) k None))
            (λ j away. with_slot-other (opened_in gives layout slots was) k None j away)
            (parts_instead layout (with_slot (opened_in gives layout slots was) k None)
            (with_opened layout (opened_in gives layout slots was) books.base) books.base image (λ i below none. base_there i none)
            (gate_shuts layout (opened_in gives layout slots was) books.base k was image stood
            (record {
              within = low;
              written = same_gate_byte gives layout books.base k 0 has.work own_fits was image same;
              may = may_shut;
              gate = gate;
            })).stands)

pub shuts_keep : (old new : View) → ShutsKeep old new
shuts_keep old new run turns slots k done has placed lawful is runs =
    record {
      box = box;
      matches = matches;
      trail = trail_goes run turns old new is.time (λ content told. (let was = touches.read content told in (was.0, was.1))) runs.trail
          (λ content told counts image left. shown run.gives run.layout books later new box content told matches image left);
    }
  where
    books : DiskBooks
    books = disk_books run turns

    later : Slots
    later = changed_slot slots k (knowing (known_gated done shut_gate))

    fits : WorkFits run.gives run.layout books.base k has.work
    fits = runs.box.works.each k has.work has.there

    large : (gate_piece has.work.job.place 0).at + length (gate_piece has.work.job.place 0).bytes ≤ 4096 * old.size
    large = gate_large run.gives run.layout books.base k 0 has.work fits old runs.box.large runs.box.fits

    touches : Touches (gate_piece has.work.job.place 0) old new
    touches = touches_by done (gate_piece has.work.job.place 0) old new large lawful is

    apart : IsElsewhere run.layout slots k (gate_piece has.work.job.place 0)
    apart = slot_elsewhere run.gives run.layout books.base slots runs.box.works k has.work has.there (gate_piece has.work.job.place 0)
        (gate_lies run.gives run.layout books.base k has.work fits 0)

    same_gate : may_be_open (known_gated done shut_gate has.work.known).gate_left ≡ may_be_open has.work.known.gate_left
    same_gate = sym (ap may_be_open has.gate_is)

    matches : Matches books.flying later
    matches = changed_matches run.gives run.layout books.base slots k has.work has.there (known_gated done shut_gate) same_gate books.flying runs.matches

    box : IsBox run.gives run.layout books.base later new
    box = record {
      large = omega (arith, runs.box.large, is.size);
      fits = runs.box.fits;
      works = changed_works run.gives run.layout books.base slots k has.work has.there (known_gated done shut_gate) runs.box.works
          (rings_move slots later runs.box.works.rings (marks_as slots k (known_gated done shut_gate) (λ work n mark. mark)))
          (record {
            known = record { gates = tt; fill = fits.known.fill; table = fits.known.table };
            gate = λ aloft. absurd (not_both has.aloft aloft);
            landed = λ settled. record { forgot = (fits.landed settled).forgot; opens = inr placed };
          });
      knows = changed_knows run.gives run.layout books.base slots k has.work has.there (known_gated done shut_gate) (gate_piece has.work.job.place 0) old new
          touches runs.box.works
          (gated_knows run.gives run.layout books.base k 0 has.work fits done shut_gate old new touches
          (λ ok content told.
          gate_put has.work.job.place 0 content
          (written_stands (gate_piece has.work.job.place 0) old new large (record { whole = lawful.whole; read_is_left = lawful.read_is_left }) (is.ok ok)
          content told))
          (subst (λ (o : Option SlotWork). KnowsSlot run.layout k o old) has.there
          (runs.box.knows k (low_slot run.gives run.layout books.base k has.work fits))))
          apart.gates apart.others runs.box.knows;
      stands = λ content told image left.
          let was = touches.read content told in
          let before = touches.left image left in
          gate_shut run.gives run.layout books slots old runs.box k has placed was.0 was.1 before.0 image before.1 done apart before.2;
    }
