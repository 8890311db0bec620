-- The gate of a slot is written open, or that failed.
use Rattle.std.proofs.Common.{◌≡◌, ◌≢◌, ◌∙◌, ◌<◌, ◌++◌, ◌∷◌, ◌+◌, ◌≤◌, ◌*◌, ℕ, List, false, Some, sym, ap, true, subst, Option, arith, inl, inr, All, length, get_or, Bool, refl, option_map, cond, None, []}
use Rattle.std.proofs.lemmas.List.Elements.{All-from_get_or, All-get_or, All-cons, All-nil}
use Rattle.sfs_base.proofs.BasicTruth.{not_both, true_or_false}
use Rattle.sfs_base.proofs.BasicOptions.{some_same}
use Rattle.sfs_image.specs.ImageOf.{InodePart, Transaction, HasBody, StandIn, FreshBlock, with_opened, TurnsInto, part_given, IsImageOf, with_slot, IsSlotOf}
use Rattle.sfs_image.specs.Super.{Layout}
use Rattle.sfs_image.specs.Settled.{journal_slot, image_block, slot_count}
use Rattle.sfs_image.specs.Journal.{Entry}
use Rattle.sfs_image.specs.Bytes.{part}
use Rattle.sfs_image.specs.Part.{Part, IsGathered}
use Rattle.sfs_image.specs.ImageWrites.{MayOpen}
use Rattle.sfs_image.proofs.ImageOfLaws.{fresh_make}
use Rattle.sfs_image.proofs.GivenLaws.{given_by, stamp_given, with_slot-same, with_slot-other}
use Rattle.sfs_image.proofs.GateLaws.{gate_opens}
use Rattle.sfs_image.proofs.WrittenLaws.{gate_written}
use Rattle.sfs_dev.specs.Disk.{View, images}
use Rattle.sfs_dev.specs.Ranges.{SameOutside}
use Rattle.journal_one.specs.Job.{fill_count, Place, no_block, fill_piece, Piece, gate_piece}
use Rattle.journal_one.specs.Laws.{HasPieces}
use Rattle.journal_one.specs.Known.{IsWrittenIn}
use Rattle.journal_one.proofs.Bodies.{body_of_pieces, body_read}
use Rattle.journal_one.proofs.Places.{fresh_is, fresh_whole}
use Rattle.journal_one.proofs.Kept.{Touches, gate_put, written_stands}
use Rattle.tree_laws.specs.declared.turns.Turn.{Turn}
use Rattle.tree_laws.specs.declared.turns.TurnAct.{TurnAct}
use Rattle.cut_laws.specs.Rules.{IsOneOf}
use Rattle.cut_laws.proofs.Basics.{in_right, in_left, in_either}
use Rattle.merge_laws.proofs.Blocks.{same_or_not}
use Rattle.slot_laws.specs.Slots.{Slots, shut_gate, SlotWork, may_be_open, changed_slot, knowing, known_gated, open_gate, any_gate}
use Rattle.slot_laws.specs.Rules.{HasWork, inode_of_nth}
use Rattle.slot_laws.proofs.Basics.{none_there, at_same, at_other}
use Rattle.slot_laws.proofs.Rings.{in_slots, rings_move, marks_as}
use Rattle.slot_image_laws.specs.Images.{DiskBooks, IsBox, KnowsWork, KnowsSlot, RunStart, books_from, book_act, Shows, disk_books, first_books}
use Rattle.slot_image_laws.specs.Commits.{WorkFits, work_transaction, opened_in, StandsOpen, GivesPart, may_have}
use Rattle.slot_image_laws.specs.Run.{Matches}
use Rattle.slot_image_laws.specs.Laws.{AreOpenTurns, OpensKeep}
use Rattle.slot_image_laws.proofs.Filled.{is_shut}
use Rattle.slot_image_laws.proofs.Regions.{low_slot, table_lies, gate_lies}
use Rattle.slot_image_laws.proofs.Given.{given_so, open_work}
use Rattle.slot_image_laws.proofs.Shown.{gates_open, shown}
use Rattle.slot_image_laws.proofs.Records.{share_given}
use Rattle.slot_image_laws.proofs.Placed.{no_inode_part, as_many, entry_is, gives_nth}
use Rattle.slot_image_laws.proofs.Gated.{given_part, opened_but, same_gate_byte, gate_large, gated_knows}
use Rattle.slot_image_laws.proofs.Written.{IsElsewhere, slot_elsewhere}
use Rattle.slot_image_laws.proofs.Anew.{gate_in, within}
use Rattle.slot_image_laws.proofs.Trails.{trail_more, books_more}
use Rattle.slot_image_laws.proofs.Aside.{touches_by}
use Rattle.slot_image_laws.proofs.Changed.{changed_works, changed_knows}

module _ (gives : ℕ → List InodePart) (layout : Layout) (books : DiskBooks) (slots : Slots) (old : View) (box : IsBox gives layout books.base slots old)
    (k : ℕ) (has : HasWork slots k false shut_gate) where
  own_fits : WorkFits gives layout books.base k has.work
  own_fits = box.works.each k has.work has.there

  own_transaction : Transaction
  own_transaction = work_transaction gives has.work

  -- an open commit is elsewhere
  open_away : (image : List ℕ) (j : ℕ) (one : Transaction) → opened_in gives layout slots image j ≡ Some one → j ≢ k
  open_away image j one is same =
      none_there (sym (is_shut gives layout books slots old box k has image) ∙ ap (opened_in gives layout slots image) (sym same) ∙ is)

  module _ (filled : (n : ℕ) → n < fill_count has.work.job → has.work.known.fill_left n ≡ true) (content : List ℕ) (told : old.content ≡ Some content)
      (was image : List ℕ) (left : images old was) where
    stood : StandsOpen gives layout books.base slots was
    stood = box.stands content told was left

    pieces_stand : HasPieces has.work.job was
    pieces_stand n low =
        let knows : KnowsWork has.work old = subst (λ (o : Option SlotWork). KnowsSlot layout k o old) has.there
        (box.knows k (low_slot gives layout books.base k has.work own_fits)) in
        knows.fill_left n low (filled n low) content told was left

    body_whole : HasBody layout.inodes (work_transaction gives has.work) (journal_slot layout was k)
    body_whole =
        let read = body_read has.work.job was own_fits.is (body_of_pieces has.work.job was own_fits.is pieces_stand) in
        subst (λ (place : Place). HasBody place.layout.inodes (work_transaction gives has.work) (journal_slot place.layout was place.slot)) own_fits.place
        (record {
          count = read.count;
          numbers = read.numbers;
          body = read.body ∙ ap (λ (l : List Entry). record { stamp = has.work.job.stamp; entries = l }) (sym own_fits.commit.records);
        })

    blocks_stand : StandIn (image_block was) has.work.job.fresh
    blocks_stand =
        All-from_get_or (λ (one : FreshBlock). image_block was one.block ≡ one.bytes) has.work.job.fresh no_block
        (λ n low.
        let stands : IsWrittenIn (fill_piece has.work.job n) was = pieces_stand n (omega arith) in
        let long = fresh_whole has.work.job own_fits.is n low in
        let own : part (fill_piece has.work.job n).at 4096 was ≡ (fill_piece has.work.job n).bytes =
        ap (λ (m : ℕ). part (fill_piece has.work.job n).at m was) (sym long) ∙ stands in
        subst (λ (p : Piece). part p.at 4096 was ≡ p.bytes) (fresh_is has.work.job own_fits.is n low) own)

    -- an inode that the commit gives has the part that the disk stands for
    base_there : (i : ℕ) (part : Part) → GivesPart gives has.work i part
        → with_opened layout (opened_in gives layout slots was) books.base i ≡ books.base i
    base_there i part given_is =
        elim (given_so gives layout books.base slots was box.works (gates_open gives layout books slots old box content told was left) stood i) [
          | inl flight ↦
              let away : k ≢ flight.slot = λ at.
              not_both flight.flight.is_open.may
              (ap (λ (w : SlotWork). may_be_open w.known.gate_left) (some_same (sym flight.flight.is_open.there ∙ ap slots (sym at) ∙ has.there))
              ∙ ap may_be_open has.gate_is) in
              absurd
              (box.works.rings.apart k flight.slot has.work flight.work (in_slots away has.there flight.flight.is_open.there has.aloft flight.flight.aloft)
              (share_given gives has.work flight.work i part flight.part own_fits.commit.records
              (box.works.each flight.slot flight.work flight.flight.is_open.there).commit.records given_is flight.given_is))
          | inr stays ↦ stays.whole
        ]

    parts_gathered : All (λ (own : InodePart). IsGathered (image_block was) own.part) (gives has.work.commit)
    parts_gathered =
        All-from_get_or (λ (own : InodePart). IsGathered (image_block was) own.part) (gives has.work.commit) no_inode_part
        (λ n low.
        let few : n < length has.work.job.entries = omega (arith, as_many gives has.work own_fits.commit.records) in
        let own = get_or (gives has.work.commit) n no_inode_part in
        let inode : own.inode ≡ inode_of_nth has.work.job n = ap (λ (e : Entry). e.inode) (entry_is gives has.work own_fits.commit.records n few) in
        let gave = gives_nth gives has.work own_fits.commit.records n few in
        let stays : with_opened layout (opened_in gives layout slots was) books.base own.inode ≡ books.base own.inode =
        subst (λ (i : ℕ). with_opened layout (opened_in gives layout slots was) books.base i ≡ books.base i) (sym inode)
        (base_there (inode_of_nth has.work.job n) gave.0 gave.1) in
        let turns =
        All-get_or (λ (one : InodePart). TurnsInto has.work.job.fresh (books.base one.inode) one.part) (gives has.work.commit) n no_inode_part low
        (own_fits.aloft has.aloft).turns in
        fresh_make layout (opened_in gives layout slots was) books.base was own.inode has.work.job.fresh own.part stood
        (subst (λ (i : ℕ). i < layout.inodes) (sym inode) (table_lies gives layout books.base k has.work own_fits n few).below)
        (subst (λ (p : Part). TurnsInto has.work.job.fresh p own.part) (sym stays) turns) blocks_stand)

    may_open : MayOpen layout (opened_in gives layout slots was) (work_transaction gives has.work) (image_block was)
    may_open = record {
      own = λ j other low opened same.
          let its = open_work gives layout books.base slots was j other opened in
          open_away was j other opened
          (box.works.stamps j k its.work has.work its.is_open.there has.there (ap (λ (t : Transaction). t.stamp) its.is ∙ same));
      newer = λ i j other ours low gave mine.
          let by = given_by i (opened_in gives layout slots was j) other gave in
          let its = open_work gives layout books.base slots was j by.0 by.1 in
          let away = open_away was j by.0 by.1 in
          let gave_it : part_given i (Some (work_transaction gives its.work)) ≡ Some other =
          ap (λ (t : Transaction). part_given i (Some t)) its.is ∙ sym (ap (part_given i) by.1) ∙ gave in
          let shares = share_given gives its.work has.work i other.value ours.value (box.works.each j its.work its.is_open.there).commit.records
          own_fits.commit.records (given_part gives its.work i other gave_it) (given_part gives has.work i ours mine) in
          let theirs : other.stamp ≡ its.work.job.stamp = stamp_given i (work_transaction gives its.work) other gave_it in
          let own : ours.stamp ≡ has.work.job.stamp = stamp_given i (work_transaction gives has.work) ours mine in
          elim (true_or_false its.work.settled) [
            | inl settled ↦
                let below = box.works.rings.later j k its.work has.work (in_slots away its.is_open.there has.there settled has.aloft) shares in
                omega arith
            | inr aloft ↦ absurd (box.works.rings.apart j k its.work has.work (in_slots away its.is_open.there has.there aloft has.aloft) shares)
          ];
      gathered = parts_gathered;
      pointers = own_fits.commit.pointers;
    }

    gate_opened : (done : Bool) → IsElsewhere layout slots k (gate_piece has.work.job.place 1)
        → SameOutside (gate_piece has.work.job.place 1).at (length (gate_piece has.work.job.place 1).bytes) was image
        → StandsOpen gives layout books.base (changed_slot slots k (knowing (known_gated done open_gate))) image
    gate_opened done apart same = by (gate_in layout image k) refl
      where
        low : k < slot_count layout
        low = low_slot gives layout books.base k has.work own_fits

        changed_there : changed_slot slots k (knowing (known_gated done open_gate)) k ≡ Some (knowing (known_gated done open_gate) has.work)
        changed_there =
            at_same slots k (option_map (knowing (known_gated done open_gate)) (slots k)) k refl
            ∙ ap (option_map (knowing (known_gated done open_gate))) has.there

        here : (b : Bool) → gate_in layout image k ≡ b → opened_in gives layout (changed_slot slots k (knowing (known_gated done open_gate))) image k
            ≡ cond b (Some (work_transaction gives has.work)) None
        here b gate =
            ap (λ (o : Option SlotWork). cond (gate_in layout image k) (may_have gives o) None) changed_there
            ∙ ap (λ (c : Bool). cond c (Some (work_transaction gives has.work)) None) gate

        whole : (opened : ℕ → Option Transaction)
            → opened_in gives layout (changed_slot slots k (knowing (known_gated done open_gate))) image k ≡ opened k
            → ((j : ℕ) → j ≢ k → opened j ≡ opened_in gives layout slots was j) → IsImageOf layout opened books.base image
            → StandsOpen gives layout books.base (changed_slot slots k (knowing (known_gated done open_gate))) image
        whole opened at others stands =
            subst (λ (f : ℕ → Option Transaction). IsImageOf layout f books.base image)
            (sym (opened_but gives layout slots k (knowing (known_gated done open_gate)) was image opened
            (record {
              piece = gate_piece has.work.job.place 1;
              low = λ j work there. within gives layout books.base slots box.works j work there;
              apart = apart;
              same = same;
              here = at;
              others = others;
            }))) stands

        by : (b : Bool) → gate_in layout image k ≡ b
            → StandsOpen gives layout books.base (changed_slot slots k (knowing (known_gated done open_gate))) image
        by true gate =
            whole (with_slot (opened_in gives layout slots was) k (Some (work_transaction gives has.work)))
            (here true gate ∙ sym (with_slot-same (opened_in gives layout slots was) k (Some (work_transaction gives has.work))))
            (λ j away. with_slot-other (opened_in gives layout slots was) k (Some (work_transaction gives has.work)) j away)
            (gate_opens layout (opened_in gives layout slots was) books.base k (work_transaction gives has.work) was image stood
            (record {
              within = low;
              written = same_gate_byte gives layout books.base k 1 has.work own_fits was image same;
              shut = is_shut gives layout books slots old box k has was;
              whole = body_whole;
              may = may_open;
              gate = gate;
            }))
        by false gate =
            whole (opened_in gives layout slots was) (here false gate ∙ sym (is_shut gives layout books slots old box k has was)) (λ j away. refl)
            (gate_written layout (opened_in gives layout slots was) books.base k was image stood
            (record {
              within = low;
              written = same_gate_byte gives layout books.base k 1 has.work own_fits was image same;
              gate = gate
                  ∙ sym (subst (λ (o : Option Transaction). IsSlotOf layout.inodes o (journal_slot layout was k))
                  (is_shut gives layout books slots old box k has was) (stood.slots k low));
            }))

  -- the commit flies from now on
  opened_matches : (done : Bool) → Matches books.flying slots
      → Matches (books.flying ++ has.work.commit ∷ []) (changed_slot slots k (knowing (known_gated done open_gate)))
  opened_matches done matches = record {
    once = λ i j one other here there same.
        let was = numbered i one here in
        let had = numbered j other there in
        matches.once i j was.0 had.0 was.1 had.1 (was.2 ∙ same ∙ sym had.2);
    flies = λ j other there aloft may. elim (same_or_not j k) [
      | inl same ↦
          in_right books.flying (has.work.commit ∷ []) other.commit
          (inl (ap (λ (w : SlotWork). w.commit) (gated_one j other same there)))
      | inr away ↦ in_left books.flying (has.work.commit ∷ []) other.commit (matches.flies j other (before j other away there) aloft may)
    ];
    flown = λ commit one. elim (in_either books.flying (has.work.commit ∷ []) commit one) [
      | inl among ↦
          let flight = matches.flown commit among in
          let away : flight.slot ≢ k = λ same.
          not_both flight.may
          (ap (λ (w : SlotWork). may_be_open w.known.gate_left) (some_same (sym flight.there ∙ ap slots same ∙ has.there)) ∙ ap may_be_open has.gate_is) in
          record {
            slot = flight.slot;
            work = flight.work;
            there = at_other slots k (option_map change (slots k)) flight.slot away ∙ flight.there;
            number = flight.number;
            aloft = flight.aloft;
            may = flight.may;
          }
      | inr last ↦ record {
        slot = k;
        work = knowing (known_gated done open_gate) has.work;
        there = at_same slots k (option_map change (slots k)) k refl ∙ ap (option_map change) has.there;
        number = only_one last;
        aloft = has.aloft;
        may = refl;
      }
    ];
  }
    where
      change : SlotWork → SlotWork
      change = knowing (known_gated done open_gate)

      only_one : {commit : ℕ} → IsOneOf (has.work.commit ∷ []) commit → has.work.commit ≡ commit
      only_one {commit} (inl same) = same
      only_one {commit} (inr none) = absurd none

      before : (j : ℕ) (other : SlotWork) → j ≢ k → changed_slot slots k (knowing (known_gated done open_gate)) j ≡ Some other → slots j ≡ Some other
      before j other away there = sym (at_other slots k (option_map (knowing (known_gated done open_gate)) (slots k)) j away) ∙ there

      gated_one : (j : ℕ) (other : SlotWork) → j ≡ k → changed_slot slots k (knowing (known_gated done open_gate)) j ≡ Some other
          → knowing (known_gated done open_gate) has.work ≡ other
      gated_one j other same there =
          some_same
          (sym (at_same slots k (option_map (knowing (known_gated done open_gate)) (slots k)) j same
          ∙ ap (option_map (knowing (known_gated done open_gate))) has.there) ∙ there)

      numbered : (j : ℕ) (other : SlotWork) → changed_slot slots k (knowing (known_gated done open_gate)) j ≡ Some other
          → (one : SlotWork) × (slots j ≡ Some one) × (one.commit ≡ other.commit)
      numbered j other there = elim (same_or_not j k) [
        | inl same ↦ (has.work, ap slots same ∙ has.there, ap (λ (w : SlotWork). w.commit) (gated_one j other same there))
        | inr away ↦ (other, before j other away there, refl)
      ]

opened_books : (run : RunStart) (books : DiskBooks) (cut opened : Turn) (commit moment : ℕ) → AreOpenTurns cut opened commit moment
    → books_from run.gives (cut ∷ opened ∷ []) books ≡ record { base = books.base; flying = books.flying ++ commit ∷ [] }
opened_books run books cut opened commit moment are =
    ap (λ (did : TurnAct). books_from run.gives (opened ∷ []) (book_act run.gives did cut.commit books)) are.cut_is
    ∙ ap (λ (did : TurnAct). book_act run.gives did opened.commit books) are.opened_is
    ∙ ap (λ (c : ℕ). record { base = books.base; flying = books.flying ++ c ∷ [] }) are.opened_commit

pub opens_keep : (old new : View) → OpensKeep old new
opens_keep old new run turns slots k done two has filled are lawful is runs =
    record {
      box = subst (λ (b : DiskBooks). IsBox run.gives run.layout b.base later new) (sym booked) box;
      matches = subst (λ (b : DiskBooks). Matches b.flying later) (sym booked) matches;
      trail = trail_more run turns old (two.cut ∷ two.opened ∷ []) new is.time
          (All-cons (λ (turn : Turn). turn.now ≡ new.now) two.cut (two.opened ∷ []) are.cut_now
          (All-cons (λ (turn : Turn). turn.now ≡ new.now) two.opened [] are.opened_now (All-nil (λ (turn : Turn). turn.now ≡ new.now))))
          (λ content told. (let was = touches.read content told in (was.0, was.1))) runs.trail
          (λ content told image left.
          subst (λ (b : DiskBooks). Shows run.gives run.layout b image) (sym booked)
          (shown run.gives run.layout next later new box content told matches image left));
    }
  where
    books : DiskBooks
    books = disk_books run turns

    later : Slots
    later = changed_slot slots k (knowing (known_gated done open_gate))

    next : DiskBooks
    next = record { base = books.base; flying = books.flying ++ has.work.commit ∷ [] }

    booked : disk_books run (turns ++ two.cut ∷ two.opened ∷ []) ≡ next
    booked =
        books_more run.gives turns (two.cut ∷ two.opened ∷ []) (first_books run) ∙ opened_books run books two.cut two.opened has.work.commit new.now are

    fits : WorkFits run.gives run.layout books.base k has.work
    fits = runs.box.works.each k has.work has.there

    large : (gate_piece has.work.job.place 1).at + length (gate_piece has.work.job.place 1).bytes ≤ 4096 * old.size
    large = gate_large run.gives run.layout books.base k 1 has.work fits old runs.box.large runs.box.fits

    touches : Touches (gate_piece has.work.job.place 1) old new
    touches = touches_by done (gate_piece has.work.job.place 1) old new large lawful is

    apart : IsElsewhere run.layout slots k (gate_piece has.work.job.place 1)
    apart = slot_elsewhere run.gives run.layout books.base slots runs.box.works k has.work has.there (gate_piece has.work.job.place 1)
        (gate_lies run.gives run.layout books.base k has.work fits 1)

    matches : Matches next.flying later
    matches = opened_matches run.gives run.layout books slots old runs.box k has done runs.matches

    gate_fits : (b : Bool) → may_be_open (cond b open_gate any_gate) ≡ true
    gate_fits true = refl
    gate_fits false = refl

    box : IsBox run.gives run.layout next.base later new
    box = record {
      large = omega (arith, runs.box.large, is.size);
      fits = runs.box.fits;
      works = changed_works run.gives run.layout books.base slots k has.work has.there (known_gated done open_gate) runs.box.works
          (rings_move slots later runs.box.works.rings (marks_as slots k (known_gated done open_gate) (λ work n mark. mark)))
          (record {
            known = record { gates = tt; fill = fits.known.fill; table = fits.known.table };
            gate = λ aloft. gate_fits done;
            landed = λ settled. absurd (not_both settled has.aloft);
          });
      knows = changed_knows run.gives run.layout books.base slots k has.work has.there (known_gated done open_gate) (gate_piece has.work.job.place 1) old new
          touches runs.box.works
          (gated_knows run.gives run.layout books.base k 1 has.work fits done open_gate old new touches
          (λ ok content told.
          gate_put has.work.job.place 1 content
          (written_stands (gate_piece has.work.job.place 1) old new large (record { whole = lawful.whole; read_is_left = lawful.read_is_left }) (is.ok ok)
          content told))
          (subst (λ (o : Option SlotWork). KnowsSlot run.layout k o old) has.there
          (runs.box.knows k (low_slot run.gives run.layout books.base k has.work fits))))
          apart.gates apart.others runs.box.knows;
      stands = λ content told image left.
          let was = touches.read content told in
          let before = touches.left image left in
          gate_opened run.gives run.layout books slots old runs.box k has filled was.0 was.1 before.0 image before.1 done apart before.2;
    }
