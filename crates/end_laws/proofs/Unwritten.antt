-- A transaction that has no record: nothing differs from what the disk has.
use Rattle.std.proofs.Common.{◌≡◌, ◌++◌, ◌∷◌, ◌∙◌, ℕ, List, [], filter_map, length, Option, Some, None, refl, sym, ap, subst, arith, Contains, take, drop, zero, suc}
use Rattle.std.proofs.lemmas.List.Elements.{Contains-append_left, Contains-append_right}
use Rattle.fmt_journal.specs.declared.tx.TxRecord.{TxRecord}
use Rattle.disk_nodes.specs.declared.old.OldEntry.{OldEntry}
use Rattle.disk_change.specs.AllBuilt.{built_by, nodes_built, nodes_with_grant, numbers_with}
use Rattle.disk_change.specs.Built.{Built}
use Rattle.disk_change.specs.Planned.{Planned, blocks_taken}
use Rattle.disk_change.specs.Records.{RecordChange, record_inode, record_written, records_written, record_of_built, record_of_gone, written_of_built, written_of_gone}
use Rattle.disk_change.specs.Seated.{CommitChanges, Seated, free_inode}
use Rattle.disk_change.proofs.Differing.{only_what_differs}
use Rattle.disk_change.proofs.NumbersGiven.{further_in}
use Rattle.commit_laws.proofs.KnownDirectories.{given_is_in}
use Rattle.commit_laws.proofs.OwnInodes.{number_in_ascending}
use Rattle.slot_laws.specs.Nodes.{no_numbers}

-- nothing is in an empty list
pub nothing_in : {X : Type 0} (xs : List X) (x : X) → xs ≡ [] → Contains xs x → ⊥
nothing_in xs x none (k, within, is) = let long = ap length none in omega (arith, within, long)

-- and a list in which nothing is is empty
pub empty_of : {X : Type 0} (xs : List X) → ((x : X) → Contains xs x → ⊥) → xs ≡ []
empty_of [] none = refl
empty_of (x ∷ xs) none = absurd (none x (0, omega arith, refl))

-- what is built with no block of a node is among what is built of all
pub built_among : (changes : CommitChanges) (numbers : ℕ → Option ℕ) (seats : List Seated) (seat : Seated) → Contains seats seat
    → Contains (nodes_built changes numbers seats []) (built_by changes numbers [] seat)
built_among changes numbers [] seat there = absurd (nothing_in [] seat refl there)
built_among changes numbers (first ∷ seats) seat (zero, within, is) =
    (0, omega arith, none_taken (blocks_taken first) ∙ ap (built_by changes numbers []) is)
  where
    none_taken : (n : ℕ) → built_by changes numbers (take n []) first ≡ built_by changes numbers [] first
    none_taken zero = refl
    none_taken (suc n) = refl
built_among changes numbers (first ∷ seats) seat (suc k, within, is) =
    further_in _ _ _ (subst (λ (fresh : List ℕ). Contains (nodes_built changes numbers seats fresh) (built_by changes numbers [] seat))
    (sym (none_left (blocks_taken first))) (built_among changes numbers seats seat (k, omega arith, is)))
  where
    none_left : (n : ℕ) → drop n (let xs : List ℕ = [] in xs) ≡ []
    none_left zero = refl
    none_left (suc n) = refl

module _ (change : Planned) (none : records_written change no_numbers ≡ []) where
  abbrev records : List TxRecord
  records = filter_map written_of_built (nodes_with_grant change no_numbers) ++ filter_map written_of_gone change.gone

  no_record : (one : TxRecord) → Contains records one → ⊥
  no_record one there = let had = number_in_ascending record_inode records one there in nothing_in _ had.0 none had.1

  -- a record that is not written does not differ
  same_record : (record_change : RecordChange) → ((one : TxRecord) → record_written record_change ≡ Some one → ⊥)
      → record_change.before ≡ record_change.after
  same_record record_change unwritten = by (record_written record_change) refl
    where
      by : (o : Option TxRecord) → record_written record_change ≡ o → record_change.before ≡ record_change.after
      by None e = (only_what_differs record_change).0 e
      by (Some one) e = absurd (unwritten one e)

  -- so each node has the inode that it had
  pub built_same : (built : Built) → Contains (nodes_with_grant change no_numbers) built → built.before ≡ built.meta
  built_same built there = same_record (record_of_built built) (λ one is.
      no_record one (Contains-append_left _ _ one (given_is_in written_of_built (nodes_with_grant change no_numbers) built one there is)))

  pub seat_same : (seat : Seated) → Contains change.seats seat
      → seat.before ≡ (built_by change.changes (numbers_with change []) [] seat).meta
  seat_same seat there = built_same _ (built_among change.changes (numbers_with change []) change.seats seat there)

  -- and one that loses its own had a free one
  pub gone_free : (entry : OldEntry) → Contains change.gone entry → entry.old.kept.inode ≡ free_inode
  gone_free entry there = same_record (record_of_gone entry) (λ one is.
      no_record one (Contains-append_right (filter_map written_of_built (nodes_with_grant change no_numbers)) _ one
      (given_is_in written_of_gone change.gone entry one there is)))
