-- What a core has reserved is among the commits that are open, with its grant.
use Rattle.std.proofs.Common.{◌≡◌, ◌≢◌, ◌∷◌, ◌∙◌, ℕ, List, [], true, false, map, cond, nat_eq, Option, Some, None, inl, inr, refl, sym, ap, subst}
use Rattle.sfs_base.proofs.BasicNumbers.{same_number, not_same}
use Rattle.sfs_base.proofs.BasicOptions.{none_some, some_same}
use Rattle.sfs_image.specs.Super.{Layout}
use Rattle.space_map.specs.Space.{GrantedNumbers}
use Rattle.cut_laws.specs.Rules.{IsOneOf}
use Rattle.cut_laws.proofs.Basics.{in_left}
use Rattle.cut_laws.proofs.Listed.{to_filter}
use Rattle.merge_laws.proofs.Blocks.{same_or_not}
use Rattle.stamp_table.specs.declared.event.Event.{Event}
use Rattle.stamp_table.specs.declared.event.Event.TheVariants.{Called, Told}
use Rattle.stamp_table.specs.Events.{event_core}
use Rattle.stamp_table.specs.Rule.{entries_by}
use Rattle.stamp_table.specs.Table.{TableState}
use Rattle.slot_laws.specs.declared.label.Label.{Label}
use Rattle.slot_laws.specs.declared.label.Label.TheVariants as label
use Rattle.slot_laws.specs.Nodes.{ReservedCommit, commits_but, is_numbered_otherwise, giving_up, no_numbers}
use Rattle.slot_laws.specs.Labels.{BoxPast, after_label, first_past, past_from}
use Rattle.slot_laws.specs.Rules.{MayFrom, MayLabel, HasWork}
use Rattle.slot_laws.specs.Fits.{PastFits}
use Rattle.slot_laws.proofs.Labels.{label_fits}
use Rattle.slot_laws.proofs.Lawful.{first_fits}
use Rattle.commit_ledger.specs.Keeps.{WasGranted}
use Rattle.disk_box.specs.declared.key.BoxKey.{BoxKey}
use Rattle.disk_box.specs.Pens.{PenHand, HoldsBox, past_at}
use Rattle.disk_box.proofs.Frames.{own_after, others_after}
use Rattle.journal_set.specs.Grants.{grant_after, grant_at, grant_from}

-- one of a list whose number is another is among those with another number
kept_but : (opens : List ReservedCommit) (number other : ℕ) (grant : GrantedNumbers) → number ≢ other → WasGranted opens number grant
    → WasGranted (commits_but other opens) number grant
kept_but opens number other grant not was = record {
  commit = was.commit;
  among = to_filter (is_numbered_otherwise other) opens was.commit was.among
      (ap Rattle.std.proofs.Common.not (not_same was.commit.number other (λ e. not (sym was.number_is ∙ e))));
  number_is = was.number_is;
  grant_is = was.grant_is;
}

in_map : {X : Type 0} (f : X → X) (xs : List X) (x : X) → IsOneOf xs x → IsOneOf (map f xs) (f x)
in_map f [] x one = absurd one
in_map f (y ∷ xs) x one = elim one [ inl here ↦ inl (ap f here) | inr rest ↦ inr (in_map f xs x rest) ]

-- one that gives up something has its number and grant
giving_same : (other : ℕ) (numbers : GrantedNumbers) (commit : ReservedCommit)
    → ((giving_up other numbers commit).number ≡ commit.number) × ((giving_up other numbers commit).grant ≡ commit.grant)
giving_same other numbers commit = by (nat_eq commit.number other) where
  by : (b : Rattle.std.proofs.Common.Bool)
      → ((cond b (record commit { gives_up = numbers }) commit).number ≡ commit.number)
      × ((cond b (record commit { gives_up = numbers }) commit).grant ≡ commit.grant)
  by true = (refl, refl)
  by false = (refl, refl)

kept_giving : (opens : List ReservedCommit) (number other : ℕ) (grant : GrantedNumbers) (numbers : GrantedNumbers) → WasGranted opens number grant
    → WasGranted (map (giving_up other numbers) opens) number grant
kept_giving opens number other grant numbers was =
    let same = giving_same other numbers was.commit in
    record {
      commit = giving_up other numbers was.commit;
      among = in_map (giving_up other numbers) opens was.commit was.among;
      number_is = same.0 ∙ was.number_is;
      grant_is = same.1 ∙ was.grant_is;
    }

-- A core has reserved this number, with this grant.
pub record HasReserved (core : ℕ) (past : BoxPast) (grant : GrantedNumbers) : Type 0 where
  pub number : ℕ
  pub reserved : (past.owns core).reserved ≡ Some number
  pub was : WasGranted past.opens number grant

module _ (layout : Layout) (before core : ℕ) (grant : GrantedNumbers) where
  -- Others' labels leave it so.
  module _ (other : ℕ) (not : core ≢ other) (past : BoxPast) (fits : PastFits layout before past) (has : HasReserved core past grant) where
    reserved_still : (fact : Label) → ((after_label layout other fact past).owns core).reserved ≡ Some has.number
    reserved_still fact = ap (λ (o : Rattle.slot_laws.specs.Labels.OwnTold). o.reserved) (others_after layout other fact past core not) ∙ has.reserved

    not_in_slot : (k : ℕ) (work : HasWork past.slots k false Rattle.slot_laws.specs.Slots.open_gate) → has.number ≢ work.work.commit
    not_in_slot k work e = fits.numbers.unused core has.number k work.work has.reserved work.there (sym e)

    not_theirs : (number : ℕ) → (past.owns other).reserved ≡ Some number → has.number ≢ number
    not_theirs number theirs e = not (fits.numbers.once core other has.number has.reserved (theirs ∙ ap Some (sym e)))

    others_leave : (fact : Label) → MayLabel layout before other fact past → HasReserved core (after_label layout other fact past) grant
    others_leave label.Took rule = record { number = has.number; reserved = reserved_still label.Took; was = has.was }
    others_leave label.Gave rule = record { number = has.number; reserved = reserved_still label.Gave; was = has.was }
    others_leave (label.Noted turn) rule = record { number = has.number; reserved = reserved_still (label.Noted turn); was = has.was }
    others_leave (label.Reserved c s g) rule = record {
      number = has.number;
      reserved = reserved_still (label.Reserved c s g);
      was = record {
        commit = has.was.commit;
        among = in_left past.opens _ has.was.commit has.was.among;
        number_is = has.was.number_is;
        grant_is = has.was.grant_is;
      };
    }
    others_leave (label.Returned c) rule = record {
      number = has.number;
      reserved = reserved_still (label.Returned c);
      was = kept_but past.opens has.number c grant (not_theirs c rule) has.was;
    }
    others_leave (label.Began f c n s b i) rule = record {
      number = has.number;
      reserved = reserved_still (label.Began f c n s b i);
      was = kept_giving past.opens has.number c grant _ has.was;
    }
    others_leave (label.Filled k p d) rule = record { number = has.number; reserved = reserved_still (label.Filled k p d); was = has.was }
    others_leave (label.Synced n) rule = record { number = has.number; reserved = reserved_still (label.Synced n); was = has.was }
    others_leave (label.Opened k d u o) rule = record { number = has.number; reserved = reserved_still (label.Opened k d u o); was = has.was }
    others_leave (label.Settled k t) rule = record {
      number = has.number;
      reserved = reserved_still (label.Settled k t);
      was = kept_but past.opens has.number t.commit grant (λ e. not_in_slot k rule.has (e ∙ rule.is.commit_is)) has.was;
    }
    others_leave (label.Learned t) rule = record { number = has.number; reserved = reserved_still (label.Learned t); was = has.was }
    others_leave (label.Placed k n d) rule = record { number = has.number; reserved = reserved_still (label.Placed k n d); was = has.was }
    others_leave (label.Shut k d) rule = record { number = has.number; reserved = reserved_still (label.Shut k d); was = has.was }
    others_leave (label.Idled k) rule = record { number = has.number; reserved = reserved_still (label.Idled k); was = has.was }
    others_leave (label.Empty c u o d) rule = record {
      number = has.number;
      reserved = reserved_still (label.Empty c u o d);
      was = kept_but past.opens has.number c grant (not_theirs c rule.number) has.was;
    }

-- what a core has by its own labels, where it has it
abbrev HasIt : ℕ → BoxPast → Option GrantedNumbers → Type 0
HasIt core past had = (grant : GrantedNumbers) → had ≡ Some grant → HasReserved core past grant

module _ (layout : Layout) (before core : ℕ) (past : BoxPast) (fits : PastFits layout before past) (had : Option GrantedNumbers)
    (has : HasIt core past had) where
  own_still : (fact : Label) → (Rattle.slot_laws.specs.Labels.own_label fact (past.owns core)).reserved ≡ (past.owns core).reserved → (grant : GrantedNumbers)
      → (is : had ≡ Some grant) → ((after_label layout core fact past).owns core).reserved ≡ Some (has grant is).number
  own_still fact same grant is =
      ap (λ (o : Rattle.slot_laws.specs.Labels.OwnTold). o.reserved) (own_after layout core fact past) ∙ (same ∙ (has grant is).reserved)

  -- what a label leaves that changes neither what is reserved nor which commits are open
  has_still : (fact : Label) → (Rattle.slot_laws.specs.Labels.own_label fact (past.owns core)).reserved ≡ (past.owns core).reserved
      → past.opens ≡ (after_label layout core fact past).opens → HasIt core (after_label layout core fact past) had
  has_still fact same opens grant is = record {
    number = (has grant is).number;
    reserved = own_still fact same grant is;
    was = subst (λ l. WasGranted l (has grant is).number grant) opens (has grant is).was;
  }

  -- A core's own labels say what it has.
  own_says : (fact : Label) → MayLabel layout before core fact past → HasIt core (after_label layout core fact past) (grant_after fact had)
  own_says label.Took rule grant is = has_still label.Took refl refl grant is
  own_says label.Gave rule grant is = has_still label.Gave refl refl grant is
  own_says (label.Noted t) rule grant is = has_still (label.Noted t) refl refl grant is
  own_says (label.Reserved c s g) rule grant is = record {
    number = c;
    reserved = ap (λ (o : Rattle.slot_laws.specs.Labels.OwnTold). o.reserved) (own_after layout core (label.Reserved c s g) past);
    was = record {
      commit = record { number = c; seen = s.items; grant = g; gives_up = no_numbers };
      among = Rattle.cut_laws.proofs.Basics.in_right past.opens (record { number = c; seen = s.items; grant = g; gives_up = no_numbers } ∷ [])
          (record { number = c; seen = s.items; grant = g; gives_up = no_numbers }) (inl refl);
      number_is = refl;
      grant_is = some_same is;
    };
  }
  own_says (label.Returned c) rule grant is = absurd (none_some is)
  own_says (label.Began f c n s b i) rule grant is = absurd (none_some is)
  own_says (label.Filled k p d) rule grant is = has_still (label.Filled k p d) refl refl grant is
  own_says (label.Synced n) rule grant is = has_still (label.Synced n) refl refl grant is
  own_says (label.Opened k d u o) rule grant is = has_still (label.Opened k d u o) refl refl grant is
  own_says (label.Settled k t) rule grant is =
      let old = has grant is in
      record {
        number = old.number;
        reserved = own_still (label.Settled k t) refl grant is;
        was = kept_but past.opens old.number t.commit grant
            (λ e. fits.numbers.unused core old.number k rule.has.work old.reserved rule.has.there (sym (e ∙ rule.is.commit_is))) old.was;
      }
  own_says (label.Learned t) rule grant is = has_still (label.Learned t) refl refl grant is
  own_says (label.Placed k n d) rule grant is = has_still (label.Placed k n d) refl refl grant is
  own_says (label.Shut k d) rule grant is = has_still (label.Shut k d) refl refl grant is
  own_says (label.Idled k) rule grant is = has_still (label.Idled k) refl refl grant is
  own_says (label.Empty c u o d) rule grant is = absurd (none_some is)

-- So it is along a history.
granted_from : (layout : Layout) (before core : ℕ) (log : List (Event Label)) (past : BoxPast) (had : Option GrantedNumbers) → PastFits layout before past
    → HasIt core past had → MayFrom layout before log past
    → HasIt core (past_from layout log past) (grant_from (entries_by event_core core log) had)
granted_from layout before core [] past had fits has may = has
granted_from layout before core (Called entry ∷ log) past had fits has may = absurd may.0
granted_from layout before core (Told other fact ∷ log) past had fits has may =
    let next = label_fits layout before other.0 past fits fact may.0.1 in
    elim (same_or_not core other.0) [
      | inl same ↦
          let own : HasIt core (after_label layout other.0 fact past) (grant_after fact had) =
          subst (λ c. HasIt core (after_label layout c fact past) (grant_after fact had)) same
          (own_says layout before core past fits had has fact (subst (λ c. MayLabel layout before c fact past) (sym same) may.0.1))
          in
          subst (λ l. HasIt core (past_from layout log (after_label layout other.0 fact past)) (grant_from l had))
          (sym (ap (λ b. cond b (Told other fact ∷ entries_by event_core core log) (entries_by event_core core log))
          (ap (λ n. nat_eq n core) (sym same) ∙ same_number core)))
          (granted_from layout before core log (after_label layout other.0 fact past) (grant_after fact had) next own may.1)
      | inr not ↦
          subst (λ l. HasIt core (past_from layout log (after_label layout other.0 fact past)) (grant_from l had))
          (sym (ap (λ b. cond b (Told other fact ∷ entries_by event_core core log) (entries_by event_core core log))
          (not_same other.0 core (λ e. not (sym e)))))
          (granted_from layout before core log (after_label layout other.0 fact past) had next
          (λ grant is. others_leave layout before core grant other.0 not past fits (has grant is) fact may.0.1) may.1)
    ]

-- What a pen has been granted, by its own labels, is granted to the open commit with the number that it has reserved.
pub granted_is : (layout : Layout) (before core moment : ℕ) (log : List (Event Label)) (grant : GrantedNumbers)
    → MayFrom layout before log (first_past moment) → grant_from (entries_by event_core core log) None ≡ Some grant
    → HasReserved core (past_from layout log (first_past moment)) grant
granted_is layout before core moment log grant may is =
    granted_from layout before core log (first_past moment) None (first_fits layout before moment) (λ g e. absurd (none_some e)) may grant is

-- So it is of a pen that has the box.
pub has_reserved : {D : Type 0} (t : TableState (BoxKey D)) (pen : PenHand D) (grant : GrantedNumbers) → HoldsBox t pen → grant_at pen ≡ Some grant
    → HasReserved pen.view.core (past_at pen) grant
has_reserved t pen grant holds is =
    granted_is pen.table.given.layout pen.table.given.faults pen.view.core pen.table.given.start pen.view.seen grant holds.lawful
    (ap (λ l. grant_from l None) (sym holds.mine) ∙ is)
