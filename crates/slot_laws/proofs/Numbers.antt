-- Numbers and commit stamps go on to fit.
use Rattle.std.proofs.Common.{◌≡◌, ◌≢◌, ◌+◌, ◌<◌, ◌≤◌, ◌∙◌, ℕ, Option, Some, None, inl, inr, refl, sym, ap, subst, arith}
use Rattle.sfs_base.proofs.BasicOptions.{some_same}
use Rattle.sfs_image.specs.Super.{Layout}
use Rattle.sfs_image.specs.Settled.{slot_count}
use Rattle.journal_one.specs.Job.{Job}
use Rattle.cut_laws.specs.Closure.{Flush}
use Rattle.merge_laws.proofs.Blocks.{same_or_not}
use Rattle.slot_laws.specs.Slots.{SlotKnown, SlotWork, settled_work, begun_work, Slots, with_at, changed_slot, synced_slots, knowing, known_synced, place_at}
use Rattle.slot_laws.specs.Labels.{SlotFlight}
use Rattle.slot_laws.specs.Fits.{NumbersFit}
use Rattle.slot_laws.proofs.Basics.{at_same, at_other, none_there}
use Rattle.slot_laws.proofs.Came.{KeepsNumbers, Came, knowing_told, told_itself, same_came, changed_came, synced_came, idled_came}

-- A commit of slots was in the same slot before, with the same job and number.
abbrev pub CameFrom : Slots → ℕ → SlotWork → Type 0
CameFrom = Came (λ (k : ℕ). KeepsNumbers)

abbrev pub SlotsCome : Slots → Slots → Type 0
SlotsCome slots later = (k : ℕ) (new : SlotWork) → later k ≡ Some new → CameFrom slots k new

same_numbers : (k : ℕ) (work : SlotWork) → KeepsNumbers work work
same_numbers k work = (told_itself work).numbers

-- of one slot's commit something else is known
pub known_come : (slots : Slots) (k : ℕ) (change : SlotKnown → SlotKnown) → SlotsCome slots (changed_slot slots k (knowing change))
known_come slots k change =
    changed_came (λ (j : ℕ). KeepsNumbers) slots same_numbers k (knowing change) (λ work there. (knowing_told change work).numbers)

pub settled_come : (slots : Slots) (k : ℕ) → SlotsCome slots (changed_slot slots k settled_work)
settled_come slots k =
    changed_came (λ (j : ℕ). KeepsNumbers) slots same_numbers k settled_work (λ work there. record { job = refl; commit = refl })

pub synced_come : (slots : Slots) → SlotsCome slots (synced_slots slots)
synced_come slots = synced_came (λ (j : ℕ). KeepsNumbers) slots (λ j work. (knowing_told known_synced work).numbers)

pub idled_come : (slots : Slots) (k : ℕ) → SlotsCome slots (with_at slots k None)
idled_come slots = idled_came (λ (j : ℕ). KeepsNumbers) slots same_numbers

pub slots_come : (slots : Slots) → SlotsCome slots slots
slots_come slots = same_came (λ (j : ℕ). KeepsNumbers) slots same_numbers

-- nothing is where nothing may be
nothing_at : {X : Type 0} (o : Option X) → ((x : X) → o ≡ Some x → ⊥) → o ≡ None
nothing_at None never = refl
nothing_at (Some x) never = absurd (never x refl)

module _ (layout : Layout) (slots : Slots) (reserved : ℕ → Option ℕ) (flights : ℕ → Option SlotFlight) (commits stamps : ℕ)
    (fits : NumbersFit layout slots reserved flights commits stamps) where
  -- the same commits, and no flight where there was none
  pub numbers_stay : (later : Slots) (flying : ℕ → Option SlotFlight) → SlotsCome slots later → ((core : ℕ) → flights core ≡ None → flying core ≡ None)
      → NumbersFit layout later reserved flying commits stamps
  numbers_stay later flying come rest = record {
    below = λ k new there. let was = come k new there in subst (λ (n : ℕ). n ≤ commits) (sym was.stays.commit) (fits.below k was.work was.there);
    stamped = λ k new there. let was = come k new there in subst (λ (job : Job). job.stamp ≤ stamps) (sym was.stays.job) (fits.stamped k was.work was.there);
    given = fits.given;
    once = fits.once;
    unused = λ core number k new is there.
        let was = come k new there in
        λ same. fits.unused core number k was.work is was.there (sym was.stays.commit ∙ same);
    rests = λ core number is. rest core (fits.rests core number is);
    beyond = λ k above. nothing_at (later k) (λ new there. let was = come k new there in none_there (sym (fits.beyond k above) ∙ was.there));
    numbered = λ j k one other here there same.
        let was = come j one here in
        let had = come k other there in
        fits.numbered j k was.work had.work was.there had.there (sym was.stays.commit ∙ same ∙ had.stays.commit);
    drawn = λ j k one other here there same.
        let was = come j one here in
        let had = come k other there in
        fits.drawn j k was.work had.work was.there had.there
        (ap (λ (job : Job). job.stamp) (sym was.stays.job) ∙ same ∙ ap (λ (job : Job). job.stamp) had.stays.job);
    place = λ k new there. let was = come k new there in ap (λ (job : Job). job.place) was.stays.job ∙ fits.place k was.work was.there;
  }

  -- a number is given back, or has served
  pub numbers_back : (core : ℕ) → NumbersFit layout slots (with_at reserved core None) flights commits stamps
  numbers_back core = record {
    below = fits.below;
    stamped = fits.stamped;
    given = λ other number is. fits.given other number (still other number is);
    once = λ other another number is also. fits.once other another number (still other number is) (still another number also);
    unused = λ other number k work is there. fits.unused other number k work (still other number is) there;
    rests = λ other number is. fits.rests other number (still other number is);
    beyond = fits.beyond;
    numbered = fits.numbered;
    drawn = fits.drawn;
    place = fits.place;
  }
    where
      still : (other number : ℕ) → with_at reserved core None other ≡ Some number → reserved other ≡ Some number
      still other number is = elim (same_or_not other core) [
        | inl same ↦ none_there (sym (at_same reserved core None other same) ∙ is)
        | inr apart ↦ sym (at_other reserved core None other apart) ∙ is
      ]

  -- the next number is reserved
  pub numbers_reserve : (core number : ℕ) → number ≡ commits + 1 → flights core ≡ None
      → NumbersFit layout slots (with_at reserved core (Some number)) flights number stamps
  numbers_reserve core number next rest = record {
    below = λ k work there. let low = fits.below k work there in omega (arith, low, next);
    stamped = fits.stamped;
    given = λ other given is. elim (same_or_not other core) [
      | inl same ↦ let e = own other given same is in omega (arith, e)
      | inr apart ↦ let low = fits.given other given (still other given apart is) in omega (arith, low, next)
    ];
    once = λ other another given is also. elim (same_or_not other core) [
      | inl same ↦ elim (same_or_not another core) [
        | inl too ↦ same ∙ sym too
        | inr apart ↦
            let e = own other given same is in
            let low = fits.given another given (still another given apart also) in
            absurd (omega (arith, e, low, next))
      ]
      | inr apart ↦ elim (same_or_not another core) [
        | inl too ↦
            let e = own another given too also in
            let low = fits.given other given (still other given apart is) in
            absurd (omega (arith, e, low, next))
        | inr away ↦ fits.once other another given (still other given apart is) (still another given away also)
      ]
    ];
    unused = λ other given k work is there. elim (same_or_not other core) [
      | inl same ↦ λ used.
          let e = own other given same is in
          let low = fits.below k work there in
          omega (arith, e, low, next, used)
      | inr apart ↦ fits.unused other given k work (still other given apart is) there
    ];
    rests = λ other given is. elim (same_or_not other core) [
      | inl same ↦ ap flights same ∙ rest
      | inr apart ↦ fits.rests other given (still other given apart is)
    ];
    beyond = fits.beyond;
    numbered = fits.numbered;
    drawn = fits.drawn;
    place = fits.place;
  }
    where
      own : (other given : ℕ) → other ≡ core → with_at reserved core (Some number) other ≡ Some given → number ≡ given
      own other given same is = some_same (sym (at_same reserved core (Some number) other same) ∙ is)

      still : (other given : ℕ) → other ≢ core → with_at reserved core (Some number) other ≡ Some given → reserved other ≡ Some given
      still other given apart is = sym (at_other reserved core (Some number) other apart) ∙ is

  -- a commit begins with a number reserved and the next commit stamp
  module _ (core k : ℕ) (job : Job) (number : ℕ) (flush : Flush) (had : reserved core ≡ Some number) (next : job.stamp ≡ stamps + 1)
      (within : k < slot_count layout) (at : job.place ≡ place_at layout k) where
    before_begun : (j : ℕ) (work : SlotWork) → with_at slots k (Some (begun_work job number flush)) j ≡ Some work → j ≢ k → slots j ≡ Some work
    before_begun j work is apart = sym (at_other slots k (Some (begun_work job number flush)) j apart) ∙ is

    the_begun : (j : ℕ) (work : SlotWork) → with_at slots k (Some (begun_work job number flush)) j ≡ Some work → j ≡ k → begun_work job number flush ≡ work
    the_begun j work is same = some_same (sym (at_same slots k (Some (begun_work job number flush)) j same) ∙ is)

    still_reserved : (other given : ℕ) → with_at reserved core None other ≡ Some given → (other ≢ core) × (reserved other ≡ Some given)
    still_reserved other given is = elim (same_or_not other core) [
      | inl same ↦ none_there (sym (at_same reserved core None other same) ∙ is)
      | inr apart ↦ (apart, sym (at_other reserved core None other apart) ∙ is)
    ]

    -- no other commit has its number, and none its stamp
    other_number : (j : ℕ) (work : SlotWork) → slots j ≡ Some work → work.commit ≢ number
    other_number j work there = fits.unused core number j work had there

    other_stamp : (j : ℕ) (work : SlotWork) → slots j ≡ Some work → work.job.stamp ≢ job.stamp
    other_stamp j work there same = let low = fits.stamped j work there in omega (arith, low, next, same)

    begun_number : (j : ℕ) (work : SlotWork) → with_at slots k (Some (begun_work job number flush)) j ≡ Some work → j ≡ k → work.commit ≡ number
    begun_number j work is same = ap (λ (w : SlotWork). w.commit) (sym (the_begun j work is same))

    begun_stamp : (j : ℕ) (work : SlotWork) → with_at slots k (Some (begun_work job number flush)) j ≡ Some work → j ≡ k → work.job.stamp ≡ job.stamp
    begun_stamp j work is same = ap (λ (w : SlotWork). w.job.stamp) (sym (the_begun j work is same))

    pub numbers_begin : (flight : Option SlotFlight) → NumbersFit layout (with_at slots k (Some (begun_work job number flush))) (with_at reserved core None)
        (with_at flights core flight) commits job.stamp
    numbers_begin flight = record {
      below = λ j work is. elim (same_or_not j k) [
        | inl same ↦ subst (λ (n : ℕ). n ≤ commits) (sym (begun_number j work is same)) (fits.given core number had)
        | inr apart ↦ fits.below j work (before_begun j work is apart)
      ];
      stamped = λ j work is. elim (same_or_not j k) [
        | inl same ↦ let e = begun_stamp j work is same in omega (arith, e)
        | inr apart ↦ let low = fits.stamped j work (before_begun j work is apart) in omega (arith, low, next)
      ];
      given = λ other given is. fits.given other given (still_reserved other given is).1;
      once = λ other another given is also. fits.once other another given (still_reserved other given is).1 (still_reserved another given also).1;
      unused = λ other given j work is there. elim (same_or_not j k) [
        | inl same ↦ λ used.
            (still_reserved other given is).0
            (fits.once other core given (still_reserved other given is).1 (had ∙ ap Some (sym (begun_number j work there same) ∙ used)))
        | inr apart ↦ fits.unused other given j work (still_reserved other given is).1 (before_begun j work there apart)
      ];
      rests = λ other given is.
          let was = still_reserved other given is in
          at_other flights core flight other was.0 ∙ fits.rests other given was.1;
      beyond = λ j above.
          let apart : j ≢ k = λ same. omega (arith, above, same, within) in
          at_other slots k (Some (begun_work job number flush)) j apart ∙ fits.beyond j above;
      numbered = λ j i one other here there same. elim (same_or_not j k) [
        | inl at_j ↦ elim (same_or_not i k) [
          | inl at_i ↦ at_j ∙ sym at_i
          | inr away ↦
              absurd (other_number i other (before_begun i other there away) (sym same ∙ begun_number j one here at_j))
        ]
        | inr apart ↦ elim (same_or_not i k) [
          | inl at_i ↦ absurd (other_number j one (before_begun j one here apart) (same ∙ begun_number i other there at_i))
          | inr away ↦ fits.numbered j i one other (before_begun j one here apart) (before_begun i other there away) same
        ]
      ];
      drawn = λ j i one other here there same. elim (same_or_not j k) [
        | inl at_j ↦ elim (same_or_not i k) [
          | inl at_i ↦ at_j ∙ sym at_i
          | inr away ↦ absurd (other_stamp i other (before_begun i other there away) (sym same ∙ begun_stamp j one here at_j))
        ]
        | inr apart ↦ elim (same_or_not i k) [
          | inl at_i ↦ absurd (other_stamp j one (before_begun j one here apart) (same ∙ begun_stamp i other there at_i))
          | inr away ↦ fits.drawn j i one other (before_begun j one here apart) (before_begun i other there away) same
        ]
      ];
      place = λ j work is. elim (same_or_not j k) [
        | inl same ↦ ap (λ (w : SlotWork). w.job.place) (sym (the_begun j work is same)) ∙ at ∙ ap (place_at layout) (sym same)
        | inr apart ↦ fits.place j work (before_begun j work is apart)
      ];
    }
