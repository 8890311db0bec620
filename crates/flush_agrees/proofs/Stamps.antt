-- There are stamps by numbers for the fsyncs of all cores, since no number is reserved twice.
use Rattle.std.proofs.Common.{◌≡◌, ◌+◌, ◌<◌, ◌∷◌, ◌∙◌, if◌then◌else◌, ◌==◌, ◌++◌, ℕ, None, Some, refl, List, [], inl, sym, ap, inr, arith, Option, Bool, nat_eq, true, eqb-true, false, eq-eqb, slice_get, zero, subst, suc}
use Rattle.sfs_base.proofs.BasicOptions.{none_some, some_same}
use Rattle.sfs_base.proofs.BasicTruth.{true_not_false}
use Rattle.sfs_image.specs.Super.{Layout}
use Rattle.cut_laws.specs.Rules.{IsOneOf}
use Rattle.cut_laws.proofs.Basics.{in_left, in_right, in_either}
use Rattle.cut_laws.proofs.RunFacts.{in_filter}
use Rattle.stamp_table.specs.declared.event.Event.{Event}
use Rattle.stamp_table.specs.declared.event.Event.TheVariants.{Called, Told}
use Rattle.stamp_table.specs.Events.{event_core}
use Rattle.stamp_table.specs.Rule.{entries_by}
use Rattle.mem_values.specs.Start.{FileState}
use Rattle.slot_laws.specs.declared.label.Label.{Label}
use Rattle.slot_laws.specs.Labels.{BoxPast, after_label, first_past}
use Rattle.slot_laws.specs.Rules.{MayLabel, MayFrom}
use Rattle.slot_laws.specs.declared.label.Label.TheVariants as label
use Rattle.disk_box.specs.declared.key.BoxKey.{BoxKey}
use Rattle.disk_box.specs.Box.{LawfulBox}
use Rattle.journal_set.specs.Numbering.{label_reserves, event_reserves, numbers_reserved}
use Rattle.fsync_gather.proofs.Rising.{from_given}
use Rattle.flush_agrees.specs.Made.{FlushMade}
use Rattle.flush_agrees.specs.Agreement.{FlushTold, MadeIsAgreed, NumbersHave}
use Rattle.flush_agrees.specs.Closing.{AgreesInPart, StampsAreGiven}

-- What a label makes of the numbers that were given: it reserves none, or the next.
data GivesNumber (fact : Label) (before after : ℕ) : Type 0 where
  gives_none : label_reserves fact ≡ None → after ≡ before → GivesNumber fact before after
  gives_next : (number : ℕ) → label_reserves fact ≡ Some number → number ≡ before + 1 → after ≡ number → GivesNumber fact before after

module _ (layout : Layout) (before : ℕ) where
  label_numbers : (core : ℕ) (fact : Label) (past : BoxPast) → MayLabel layout before core fact past
      → GivesNumber fact past.commits (after_label layout core fact past).commits
  label_numbers core label.Took past may = gives_none refl refl
  label_numbers core label.Gave past may = gives_none refl refl
  label_numbers core (label.Noted turn) past may = gives_none refl refl
  label_numbers core (label.Reserved commit seen grant) past may = gives_next commit refl may.next refl
  label_numbers core (label.Returned commit) past may = gives_none refl refl
  label_numbers core (label.Began filling commit node stamp blocks inodes) past may = gives_none refl refl
  label_numbers core (label.Filled slot piece done) past may = gives_none refl refl
  label_numbers core (label.Synced now) past may = gives_none refl refl
  label_numbers core (label.Opened slot done cut opened) past may = gives_none refl refl
  label_numbers core (label.Settled slot turn) past may = gives_none refl refl
  label_numbers core (label.Learned turn) past may = gives_none refl refl
  label_numbers core (label.Placed slot n done) past may = gives_none refl refl
  label_numbers core (label.Shut slot done) past may = gives_none refl refl
  label_numbers core (label.Idled slot) past may = gives_none refl refl
  label_numbers core (label.Empty commit cut opened durable) past may = gives_none refl refl

  -- a number that is reserved is above all of before
  number_above : (log : List (Event Label)) (past : BoxPast) → MayFrom layout before log past → (event : Event Label) (number : ℕ) → IsOneOf log event
      → event_reserves event ≡ Some number → past.commits < number
  number_above [] past may event number among is = absurd among
  number_above (Called entry ∷ log) past may event number among is = absurd may.0
  number_above (Told core fact ∷ log) past may event number among is =
      by (label_numbers core.0 fact past may.0.1) (number_above log (after_label layout core.0 fact past) may.1 event number) among
    where
      by : GivesNumber fact past.commits (after_label layout core.0 fact past).commits
          → (IsOneOf log event → event_reserves event ≡ Some number → (after_label layout core.0 fact past).commits < number)
          → IsOneOf (Told core fact ∷ log) event → past.commits < number
      by (gives_none none stays) later (inl here) = absurd (none_some (sym none ∙ (ap event_reserves here ∙ is)))
      by (gives_none none stays) later (inr there) = let low = later there is in omega (arith, low, stays)
      by (gives_next own reserves up stays) later (inl here) =
          let is_own : own ≡ number = some_same (sym reserves ∙ (ap event_reserves here ∙ is)) in omega (arith, is_own, up)
      by (gives_next own reserves up stays) later (inr there) = let low = later there is in omega (arith, low, up, stays)

  -- so it is reserved once
  reserved_once : (log : List (Event Label)) (past : BoxPast) → MayFrom layout before log past → (one other : Event Label) (number : ℕ) → IsOneOf log one
      → IsOneOf log other → event_reserves one ≡ Some number → event_reserves other ≡ Some number → event_core one ≡ event_core other
  reserved_once [] past may one other number first second is also = absurd first
  reserved_once (Called entry ∷ log) past may one other number first second is also = absurd may.0
  reserved_once (Told core fact ∷ log) past may one other number first second is also =
      by (label_numbers core.0 fact past may.0.1) (reserved_once log (after_label layout core.0 fact past) may.1 one other number)
      (number_above log (after_label layout core.0 fact past) may.1) first second
    where
      by : GivesNumber fact past.commits (after_label layout core.0 fact past).commits
          → (IsOneOf log one → IsOneOf log other → event_reserves one ≡ Some number → event_reserves other ≡ Some number → event_core one ≡ event_core other)
          → ((event : Event Label) (n : ℕ) → IsOneOf log event → event_reserves event ≡ Some n → (after_label layout core.0 fact past).commits < n)
          → IsOneOf (Told core fact ∷ log) one → IsOneOf (Told core fact ∷ log) other → event_core one ≡ event_core other
      by numbering later above (inl here) (inl there) = ap event_core (sym here ∙ there)
      by numbering later above (inr here) (inr there) = later here there is also
      by (gives_none none stays) later above (inl here) (inr there) = absurd (none_some (sym none ∙ (ap event_reserves here ∙ is)))
      by (gives_none none stays) later above (inr here) (inl there) = absurd (none_some (sym none ∙ (ap event_reserves there ∙ also)))
      by (gives_next own reserves up stays) later above (inl here) (inr there) = absurd
          (let low = above other number there also in let same_number : own ≡ number = some_same (sym reserves ∙ (ap event_reserves here ∙ is)) in
          omega (arith, low, same_number, stays))
      by (gives_next own reserves up stays) later above (inr here) (inl there) = absurd
          (let low = above one number here is in let same_number : own ≡ number = some_same (sym reserves ∙ (ap event_reserves there ∙ also)) in
          omega (arith, low, same_number, stays))

-- the stamp of the first of some fsyncs that got a number
abbrev stamp_if : Option FlushMade → ℕ → ℕ → ℕ → ℕ
stamp_if None number stamp later = later
stamp_if (Some made) number stamp later = if made.number == number then stamp else later

abbrev stamp_in : List FlushTold → ℕ → ℕ
stamp_in [] number = 0
stamp_in (one ∷ fsyncs) number = stamp_if one.made number one.flush.stamp (stamp_in fsyncs number)

-- It is that of one of them which got it.
record FindsStamp (fsyncs : List FlushTold) (number : ℕ) : Type 0 where
  one : FlushTold
  among : IsOneOf fsyncs one
  made : FlushMade
  is : one.made ≡ Some made
  number_is : made.number ≡ number
  stamp_is : stamp_in fsyncs number ≡ one.flush.stamp

finds_stamp : (fsyncs : List FlushTold) (one : FlushTold) (made : FlushMade) → IsOneOf fsyncs one → one.made ≡ Some made → FindsStamp fsyncs made.number
finds_stamp [] one made among is = absurd among
finds_stamp (first ∷ fsyncs) one made among is = by first.made refl (finds_stamp fsyncs one made) among
  where
    on : stamp_in (first ∷ fsyncs) made.number ≡ stamp_in fsyncs made.number → FindsStamp fsyncs made.number → FindsStamp (first ∷ fsyncs) made.number
    on same found = record {
      one = found.one;
      among = inr found.among;
      made = found.made;
      is = found.is;
      number_is = found.number_is;
      stamp_is = same ∙ found.stamp_is;
    }

    has : (m : FlushMade) → first.made ≡ Some m → (b : Bool) → nat_eq m.number made.number ≡ b
        → (IsOneOf fsyncs one → one.made ≡ Some made → FindsStamp fsyncs made.number) → IsOneOf (first ∷ fsyncs) one → FindsStamp (first ∷ fsyncs) made.number
    has m got true same later there = record {
      one = first;
      among = inl refl;
      made = m;
      is = got;
      number_is = eqb-true m.number made.number same;
      stamp_is = (λ i. stamp_if (got i) made.number first.flush.stamp (stamp_in fsyncs made.number))
          ∙ ap (λ b. if b then first.flush.stamp else stamp_in fsyncs made.number) same;
    }
    has m got false other later (inl here) =
        absurd (true_not_false (sym (eq-eqb m.number made.number
        (ap (λ (f : FlushMade). f.number) (some_same (sym got ∙ (ap (λ (f : FlushTold). f.made) here ∙ is))))) ∙ other))
    has m got false other later (inr there) =
        on ((λ i. stamp_if (got i) made.number first.flush.stamp (stamp_in fsyncs made.number))
        ∙ ap (λ b. if b then first.flush.stamp else stamp_in fsyncs made.number) other) (later there is)

    by : (o : Option FlushMade) → first.made ≡ o → (IsOneOf fsyncs one → one.made ≡ Some made → FindsStamp fsyncs made.number)
        → IsOneOf (first ∷ fsyncs) one → FindsStamp (first ∷ fsyncs) made.number
    by None got later (inl here) = absurd (none_some (sym got ∙ (ap (λ (f : FlushTold). f.made) here ∙ is)))
    by None got later (inr there) = on (λ i. stamp_if (got i) made.number first.flush.stamp (stamp_in fsyncs made.number)) (later there is)
    by (Some m) got later there = has m got (nat_eq m.number made.number) refl later there

-- the fsyncs of all cores
abbrev all_of : List (List FlushTold) → List FlushTold
all_of [] = []
all_of (told ∷ rest) = told ++ all_of rest

to_all : (fsyncs : List (List FlushTold)) (core : ℕ) (told : List FlushTold) (one : FlushTold) → slice_get fsyncs core ≡ Some told → IsOneOf told one
    → IsOneOf (all_of fsyncs) one
to_all [] core told one is among = absurd (none_some is)
to_all (first ∷ rest) zero told one is among = in_left first (all_of rest) one (subst (λ l. IsOneOf l one) (sym (some_same is)) among)
to_all (first ∷ rest) (suc core) told one is among = in_right first (all_of rest) one (to_all rest core told one is among)

from_all : (fsyncs : List (List FlushTold)) (one : FlushTold) → IsOneOf (all_of fsyncs) one
    → (core : ℕ) × (told : List FlushTold) × (slice_get fsyncs core ≡ Some told) × IsOneOf told one
from_all [] one among = absurd among
from_all (first ∷ rest) one among = elim (in_either first (all_of rest) one among) [
  | inl here ↦ (0, first, refl, here)
  | inr there ↦ let found = from_all rest one there in (suc found.0, found.1, found.2, found.3)
]

module _ {D : Type 0} (t : FileState) (key : BoxKey D) (labels : List (Event Label)) (fsyncs : List (List FlushTold)) (lawful : LawfulBox key labels)
    (agree : (core : ℕ) (told : List FlushTold) → slice_get fsyncs core ≡ Some told → AgreesInPart D t labels core told) where
  -- who reserved a number that was made
  reserves : (core : ℕ) (told : List FlushTold) → slice_get fsyncs core ≡ Some told → (one : FlushTold) (made : FlushMade) → IsOneOf told one
      → one.made ≡ Some made → (event : Event Label) × IsOneOf labels event × (event_reserves event ≡ Some made.number) × (event_core event ≡ core)
  reserves core told is one made among same =
      let part = agree core told is in
      let has = subst (MadeIsAgreed t part.hand part.pen one.flush) same (part.agree.each one among).made in
      let from = from_given event_reserves (entries_by event_core core labels) made.number
      (subst (λ (l : List (Event Label)). IsOneOf (numbers_reserved l) made.number) part.mine has.reserved) in
      let own = in_filter (λ (event : Event Label). nat_eq (event_core event) core) labels from.0 from.1 in
      (from.0, own.0, from.2, eqb-true (event_core from.0) core own.1)

  one_stamp : (core : ℕ) (told : List FlushTold) → slice_get fsyncs core ≡ Some told → NumbersHave (stamp_in (all_of fsyncs)) told
  one_stamp core told is one made among same =
      let found = finds_stamp (all_of fsyncs) one made (to_all fsyncs core told one is among) same in
      let other = from_all fsyncs found.one found.among in
      let mine = reserves core told is one made among same in
      let theirs = reserves other.0 other.1 other.2 found.one found.made other.3 found.is in
      let core_same : other.0 ≡ core =
      sym theirs.3
      ∙ (reserved_once key.layout key.faults labels (first_past key.start) lawful theirs.0 mine.0 made.number theirs.1 mine.1
      (theirs.2 ∙ ap Some found.number_is) mine.2 ∙ mine.3) in
      let there : slice_get fsyncs core ≡ Some other.1 = subst (λ c. slice_get fsyncs c ≡ Some other.1) core_same other.2 in
      let told_same : other.1 ≡ told = some_same (sym there ∙ is) in
      found.stamp_is
      ∙ (agree core told is).agree.numbers found.one one found.made made (subst (λ l. IsOneOf l found.one) told_same other.3)
      among found.is same found.number_is

pub stamps_are_given : (D : Type 0) → StampsAreGiven D
stamps_are_given D t key labels fsyncs lawful agree =
    record { stamps = stamp_in (all_of fsyncs); each = one_stamp t key labels fsyncs lawful agree }
