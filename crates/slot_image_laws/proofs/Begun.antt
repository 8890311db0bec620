-- A commit begins in an idle slot.
use Rattle.std.proofs.Common.{◌≢◌, ◌≡◌, ◌∙◌, List, ℕ, Some, sym, ap, inl, arith, inr, subst, refl, Option}
use Rattle.sfs_base.proofs.BasicOptions.{some_same}
use Rattle.sfs_base.proofs.BasicTruth.{not_both}
use Rattle.sfs_image.specs.ImageOf.{Transaction, IsImageOf}
use Rattle.sfs_dev.specs.Disk.{View}
use Rattle.journal_one.specs.Job.{Job, Place}
use Rattle.journal_one.specs.Known.{EachLeft, IsShutIn}
use Rattle.journal_one.proofs.Kept.{reads_from_leaves}
use Rattle.tree_laws.specs.declared.turns.Turn.{Turn}
use Rattle.cut_laws.specs.Closure.{Flush}
use Rattle.merge_laws.proofs.Blocks.{same_or_not}
use Rattle.slot_laws.specs.Slots.{Slots, SlotWork, begun_work, with_at, place_at, may_be_open}
use Rattle.slot_laws.proofs.Basics.{at_other, at_same, none_there}
use Rattle.slot_laws.proofs.Rings.{begun_fits, in_slots}
use Rattle.slot_image_laws.specs.Images.{RunStart, disk_books, KnowsSlot, KnowsWork}
use Rattle.slot_image_laws.specs.Laws.{MayBeginIn, BeginsKeep}
use Rattle.slot_image_laws.specs.Commits.{IsCommitAt, WorksFit, WorkFits, BlocksApart, may_have}
use Rattle.slot_image_laws.specs.Run.{KeepsLaws, Matches}
use Rattle.slot_image_laws.proofs.Anew.{opened_same}

module _ (run : RunStart) (turns : List Turn) (slots : Slots) (k : ℕ) (job : Job) (commit : ℕ) (flush : Flush)
    (may : MayBeginIn run.layout slots k job commit) where
  abbrev work : SlotWork
  work = begun_work job commit flush

  abbrev later : Slots
  later = with_at slots k (Some work)

  before : (j : ℕ) (one : SlotWork) → j ≢ k → later j ≡ Some one → slots j ≡ Some one
  before j one away there = sym (at_other slots k (Some work) j away) ∙ there

  begun : (j : ℕ) (one : SlotWork) → j ≡ k → later j ≡ Some one → work ≡ one
  begun j one same there = some_same (sym (at_same slots k (Some work) j same) ∙ there)

  away_from : (j : ℕ) (one : SlotWork) → slots j ≡ Some one → j ≢ k
  away_from j one there same = none_there (sym may.idle ∙ ap slots (sym same) ∙ there)

  module _ (fits : IsCommitAt run.gives run.layout (disk_books run turns).base slots (begun_work job commit flush)) where
    begun_works : WorksFit run.gives run.layout (disk_books run turns).base slots
        → WorksFit run.gives run.layout (disk_books run turns).base (with_at slots k (Some (begun_work job commit flush)))
    begun_works works = record {
      beyond = λ j high. elim (same_or_not j k) [
        | inl same ↦ let low = may.within in absurd (omega arith)
        | inr away ↦ at_other slots k (Some work) j away ∙ works.beyond j high
      ];
      each = λ j one there. elim (same_or_not j k) [
        | inl same ↦ subst (WorkFits run.gives run.layout (disk_books run turns).base j) (begun j one same there) (record {
          place = may.place ∙ ap (place_at run.layout) (sym same);
          is = may.is;
          commit = fits.commit;
          known = record { gates = refl; fill = λ n marked. absurd (not_both marked refl); table = λ n marked. absurd (not_both marked refl) };
          aloft = λ aloft. fits.parts;
          gate = λ aloft. refl;
          landed = λ durable. absurd (not_both durable refl);
        })
        | inr away ↦ works.each j one (before j one away there)
      ];
      stamps = λ i j one other here there same. elim (same_or_not i k) [
        | inl at_i ↦ elim (same_or_not j k) [
          | inl at_j ↦ at_i ∙ sym at_j
          | inr off_j ↦
              let low = may.stamp j other (before j other off_j there) in
              let is = ap (λ (w : SlotWork). w.job.stamp) (begun i one at_i here) in
              absurd (omega arith)
        ]
        | inr off_i ↦ elim (same_or_not j k) [
          | inl at_j ↦
              let low = may.stamp i one (before i one off_i here) in
              let is = ap (λ (w : SlotWork). w.job.stamp) (begun j other at_j there) in
              absurd (omega arith)
          | inr off_j ↦ works.stamps i j one other (before i one off_i here) (before j other off_j there) same
        ]
      ];
      rings = begun_fits slots k job commit flush works.rings may.stamp fits.inodes;
      apart = λ i j one other pair. elim (same_or_not i k) [
        | inl at_i ↦
            let off_j : j ≢ k = λ same. pair.away (at_i ∙ sym same) in
            subst (λ (w : SlotWork). BlocksApart run.gives w other) (begun i one at_i pair.here)
            (fits.blocks j other (before j other off_j pair.there) pair.other_is).0
        | inr off_i ↦ elim (same_or_not j k) [
          | inl at_j ↦
              subst (BlocksApart run.gives one) (begun j other at_j pair.there) (fits.blocks i one (before i one off_i pair.here) pair.one_is).1
          | inr off_j ↦
              works.apart i j one other (in_slots pair.away (before i one off_i pair.here) (before j other off_j pair.there) pair.one_is pair.other_is)
        ]
      ];
      newest = λ j i one part there durable given last. elim (same_or_not j k) [
        | inl same ↦ absurd (not_both durable (ap (λ (w : SlotWork). w.settled) (sym (begun j one same there))))
        | inr away ↦ works.newest j i one part (before j one away there) durable given
            (λ m other part_too off here settled gave.
            last m other part_too off (at_other slots k (Some work) m (away_from m other here) ∙ here) settled gave)
      ];
    }

    begun_knows : (disk : View) → KeepsLaws disk → KnowsSlot run.layout k (slots k) disk → KnowsWork (begun_work job commit flush) disk
    begun_knows disk lawful knows =
        let shut : EachLeft disk (IsShutIn (place_at run.layout k)) = subst (λ (o : Option SlotWork). KnowsSlot run.layout k o disk) may.idle knows in
        let own : EachLeft disk (IsShutIn job.place) = subst (λ (place : Place). EachLeft disk (IsShutIn place)) (sym may.place) shut in
        record {
          gate_left = own;
          gate_read = reads_from_leaves disk (IsShutIn job.place) (record { whole = lawful.whole; read_is_left = lawful.read_is_left }) own;
          fill_left = λ n low marked. absurd (not_both marked refl);
          fill_read = λ n low marked. absurd (not_both marked refl);
          table_left = λ n low marked. absurd (not_both marked refl);
          table_read = λ n low marked. absurd (not_both marked refl);
        }

    same_may : (j : ℕ) → may_have run.gives (later j) ≡ may_have run.gives (slots j)
    same_may j = elim (same_or_not j k) [
      | inl same ↦ ap (may_have run.gives) (at_same slots k (Some work) j same) ∙ sym (ap (may_have run.gives) (ap slots same ∙ may.idle))
      | inr away ↦ ap (may_have run.gives) (at_other slots k (Some work) j away)
    ]

    begun_matches : Matches (disk_books run turns).flying slots → Matches (disk_books run turns).flying (with_at slots k (Some (begun_work job commit flush)))
    begun_matches matches = record {
      once = λ i j one other here there same. elim (same_or_not i k) [
        | inl at_i ↦ elim (same_or_not j k) [
          | inl at_j ↦ at_i ∙ sym at_j
          | inr off_j ↦
              absurd
              (may.number j other (before j other off_j there) (sym same ∙ sym (ap (λ (w : SlotWork). w.commit) (begun i one at_i here))))
        ]
        | inr off_i ↦ elim (same_or_not j k) [
          | inl at_j ↦
              absurd (may.number i one (before i one off_i here) (same ∙ sym (ap (λ (w : SlotWork). w.commit) (begun j other at_j there))))
          | inr off_j ↦ matches.once i j one other (before i one off_i here) (before j other off_j there) same
        ]
      ];
      flies = λ j one there aloft open_too. elim (same_or_not j k) [
        | inl same ↦ absurd (not_both (ap (λ (w : SlotWork). may_be_open w.known.gate_left) (begun j one same there) ∙ open_too) refl)
        | inr away ↦ matches.flies j one (before j one away there) aloft open_too
      ];
      flown = λ number one.
          let flight = matches.flown number one in
          record {
            slot = flight.slot;
            work = flight.work;
            there = at_other slots k (Some work) flight.slot (away_from flight.slot flight.work flight.there) ∙ flight.there;
            number = flight.number;
            aloft = flight.aloft;
            may = flight.may;
          };
    }

pub begins_keep : (disk : View) → BeginsKeep disk
begins_keep disk run turns slots k job commit flush may fits lawful runs = record {
  box = record {
    large = runs.box.large;
    fits = runs.box.fits;
    works = begun_works run turns slots k job commit flush may fits runs.box.works;
    knows = λ j low. elim (same_or_not j k) [
      | inl same ↦
          subst (λ (o : Option SlotWork). KnowsSlot run.layout j o disk) (sym (at_same slots k (Some (begun_work job commit flush)) j same))
          (begun_knows run turns slots k job commit flush may fits disk lawful (runs.box.knows k may.within))
      | inr away ↦
          subst (λ (o : Option SlotWork). KnowsSlot run.layout j o disk) (sym (at_other slots k (Some (begun_work job commit flush)) j away))
          (runs.box.knows j low)
    ];
    stands = λ content told image left.
        subst (λ (opened : ℕ → Option Transaction). IsImageOf run.layout opened (disk_books run turns).base image)
        (sym (opened_same run.gives run.layout slots (with_at slots k (Some (begun_work job commit flush))) image
        (λ j gated. same_may run turns slots k job commit flush may fits j)))
        (runs.box.stands content told image left);
  };
  matches = begun_matches run turns slots k job commit flush may fits runs.matches;
  trail = runs.trail;
}
