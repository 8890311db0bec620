-- What an image settles of an inode: the newest record of its open slots, or the table's.
use Rattle.std.proofs.Common.{◌≡◌, ◌≢◌, ℕ, ◌<◌, Bool, true, false, cond, List, [], ◌∷◌, map, Option, None, Some, option_map, ap, ◌∙◌, arith}
use Rattle.std.specs.Prelude.{unwrap_or}
use Rattle.std.specs.List.{range_with_len}
use Rattle.sfs_image.specs.Bytes.{part}
use Rattle.sfs_image.specs.Journal.{head_of}
use Rattle.sfs_image.specs.Laws.{record_at, IsFirstFault}
use Rattle.sfs_image.specs.Settled.{SlotFault, slot_fault_of, journal_fault_of, Stamped, newest, body_in, open_body, open_bodies, record_in, held, journal_slot, slot_count, table_record, settled}
use Rattle.sfs_image.specs.Super.{Layout}
use Rattle.sfs_image.proofs.NewestLaws.{IsOnce, newest_of_pieces, newest_greatest, none_newest}
use Rattle.sfs_image.proofs.PiecesLaws.{first_of-Some}
use Rattle.sfs_image.proofs.NewestLaws.IsOnce.{nothing, once}

-- an open slot shows its body's record, and a closed one nothing
shown_once : (i inodes : ℕ) (slot : List ℕ) (gate : Bool) →
    IsOnce (record_in i) (cond gate (body_in inodes slot ∷ []) []) (cond gate (record_in i (body_in inodes slot)) None)
shown_once i inodes slot true = once (body_in inodes slot)
shown_once i inodes slot false = nothing

-- what the open slots hold of an inode, slot by slot
held_by_slots : (layout : Layout) (image : List ℕ) (i : ℕ) →
    held (open_bodies layout image) i ≡ option_map (λ newest. newest.value) (newest (map (record_at layout image i) (range_with_len 0 (slot_count layout))))
held_by_slots layout image i =
    ap (option_map (λ newest. newest.value))
    (newest_of_pieces (record_in i) (λ k. open_body layout.inodes (journal_slot layout image k)) (record_at layout image i) 0 (slot_count layout)
    (λ k low high. shown_once i layout.inodes (journal_slot layout image k) (head_of (part 0 4096 (journal_slot layout image k))).gate))

pub settled_newest : (layout : Layout) (image : List ℕ) (i k : ℕ) (ours : Stamped (List ℕ)) → k < slot_count layout → record_at layout image i k ≡ Some ours →
    ((j : ℕ) (other : Stamped (List ℕ)) → j < slot_count layout → j ≢ k → record_at layout image i j ≡ Some other → other.stamp < ours.stamp) →
    settled layout image i ≡ ours.value
settled_newest layout image i k ours within here lesser =
    ap (λ (o : Option (List ℕ)). unwrap_or o (table_record layout image i))
    (held_by_slots layout image i
    ∙ ap (option_map (λ newest. newest.value))
    (newest_greatest (record_at layout image i) 0 (slot_count layout) k ours (record {
      low = omega arith;
      high = omega arith;
      here = here;
      others = λ j other low high apart there. lesser j other (omega arith) apart there;
    })))

pub settled_tables : (layout : Layout) (image : List ℕ) (i : ℕ) → ((k : ℕ) → k < slot_count layout → record_at layout image i k ≡ None) →
    settled layout image i ≡ table_record layout image i
settled_tables layout image i none =
    ap (λ (o : Option (List ℕ)). unwrap_or o (table_record layout image i))
    (held_by_slots layout image i
    ∙ ap (option_map (λ newest. newest.value)) (none_newest (record_at layout image i) 0 (slot_count layout) (λ k low high. none k (omega arith))))

pub journal_faults_first : (layout : Layout) (image : List ℕ) (fault : SlotFault) → journal_fault_of layout image ≡ Some fault
    → (k : ℕ) × IsFirstFault layout image k fault
journal_faults_first layout image fault is =
    let first = first_of-Some (slot_count layout) (slot_fault_of layout image) fault is in
    (first.0, record { within = first.1; here = first.2; before = first.3 })
