-- The worked history up to where both commits have begun.
use Rattle.std.proofs.Common.{◌≡◌, ◌<◌, ◌∙◌, ◌∷◌, ◌++◌, ℕ, zero, suc, true, false, List, [], Some, None, refl, sym, ap, subst, arith, inl, Bool, option_map, cond, inr, map}
use Rattle.sfs_base.proofs.BasicNumbers.{same_number, not_same}
use Rattle.sfs_base.proofs.BasicOptions.{some_same}
use Rattle.journal_one.specs.Job.{Place}
use Rattle.journal_one.specs.declared.slot.Filling.{Filling}
use Rattle.space_map.specs.Space.{GrantedNumbers}
use Rattle.cut_laws.specs.Closure.{Flush}
use Rattle.merge_laws.proofs.Blocks.{same_or_not}
use Rattle.stamp_table.specs.declared.event.Event.{Event}
use Rattle.slot_laws.specs.declared.label.Label.{Label}
use Rattle.slot_laws.specs.declared.label.Label.TheVariants as label
use Rattle.slot_laws.specs.Slots.{place_at, begun_work, with_at, with_number}
use Rattle.slot_laws.specs.Labels.{owner, BoxPast, first_past, after_label, past_from}
use Rattle.slot_laws.specs.Rules.{MayFrom}
use Rattle.slot_laws.specs.Worked.{TWO_RINGS, BeginsIn, both_reserve, both_fill, both_land, own_begins, other_begins, seen_one}
use Rattle.slot_laws.specs.Nodes.{LastCommit, last_ended, last_seen, giving_up, no_numbers, no_last}
use Rattle.slot_laws.specs.declared.label.Seen.{Seen}
use Rattle.slot_laws.proofs.Basics.{none_there}

-- of three pieces each is marked
pub three_marked : (n : ℕ) → n < 3 → with_number (with_number (with_number (λ _. false) 0) 1) 2 n ≡ true
three_marked zero low = refl
three_marked (suc zero) low = refl
three_marked (suc (suc zero)) low = refl
three_marked (suc (suc (suc n))) low = absurd (omega (arith, low))

pub four_marked : (n : ℕ) → n < 4 → with_number (with_number (with_number (with_number (λ _. false) 0) 1) 2) 3 n ≡ true
four_marked zero low = refl
four_marked (suc zero) low = refl
four_marked (suc (suc zero)) low = refl
four_marked (suc (suc (suc zero))) low = refl
four_marked (suc (suc (suc (suc n)))) low = absurd (omega (arith, low))

pub one_marked : (n : ℕ) → n < 1 → with_number (λ _. false) 0 n ≡ true
one_marked zero low = refl
one_marked (suc n) low = absurd (omega (arith, low))

-- where one node was seen as it is, no other was seen
pub one_unmoved : (lasts : ℕ → LastCommit) (node last : ℕ) → lasts node ≡ last_ended last → (n l : ℕ) → last_seen (seen_one node last).items n ≡ Some l
    → lasts n ≡ last_ended l
one_unmoved lasts node last is n l seen = elim (same_or_not node n) [
  | inl same ↦
      let here : last_seen (seen_one node last).items node ≡ Some last =
      ap (λ (b : Bool). option_map (λ (one : Seen). one.last) (cond b (Some (record { node = record { 0 = node }; last = last })) None)) (same_number node) in
      let it : last ≡ l = some_same (sym here ∙ ap (last_seen (seen_one node last).items) same ∙ seen) in
      ap lasts (sym same) ∙ is ∙ ap last_ended it
  | inr apart ↦
      let none : last_seen (seen_one node last).items n ≡ None =
      ap (λ (b : Bool). option_map (λ (one : Seen). one.last) (cond b (Some (record { node = record { 0 = node }; last = last })) None))
      (not_same node n apart) in
      none_there (sym none ∙ seen)
]

-- what is told behind a begin, in a slot with a stamp
abbrev pub begun_past : BoxPast → ℕ → Filling → ℕ → Flush → GrantedNumbers → ℕ → ℕ → BoxPast
begun_past past core filling commit flush numbers k drawn = record past {
  slots = with_at past.slots k (Some (begun_work filling.job commit flush));
  stamps = drawn;
  begun = past.begun ++ record { turns = past.turns; slots = past.slots; work = begun_work filling.job commit flush } ∷ [];
  opens = map (giving_up commit numbers) past.opens;
  owns = with_at past.owns core (record (past.owns core) {
    reserved = None;
    flight = Some (record { slot = k; commit = commit; flush = flush; opened = false });
  });
}

-- what is told before the commits begin, behind the first one, behind both, and behind the rest
abbrev pub reserved_past : BoxPast
reserved_past = past_from TWO_RINGS both_reserve (first_past 0)

abbrev pub own_begun : Filling → ℕ → ℕ → BoxPast
own_begun own k drawn =
    after_label TWO_RINGS 0 label.Gave
    (begun_past (after_label TWO_RINGS 0 label.Took reserved_past) 0 own 1 (record { node = 1; stamp = 0 }) no_numbers k drawn)

abbrev pub both_begun : Filling → Filling → ℕ → ℕ → BoxPast
both_begun own other k drawn =
    after_label TWO_RINGS 1 label.Gave
    (begun_past (after_label TWO_RINGS 1 label.Took (own_begun own 0 1)) 1 other 2 (record { node = 0; stamp = 1 }) no_numbers k drawn)

abbrev pub filled_past : Filling → Filling → BoxPast
filled_past own other = past_from TWO_RINGS both_fill (both_begun own other 2 2)

abbrev pub landed_past : Filling → Filling → BoxPast
landed_past own other = past_from TWO_RINGS both_land (filled_past own other)

pub may_reserve : MayFrom TWO_RINGS 0 both_reserve (first_past 0)
may_reserve = (
  (refl, tt),
  (
    (refl, record { calm = refl; next = refl; none = refl; rests = refl; unmoved = one_unmoved (λ _. no_last) 1 0 refl }),
    (
      (refl, record { own = refl; no_open = λ e. cc; no_durable = λ e. cc; learned = refl; now = record { rises = omega arith; counts = refl } }),
      (
        (refl, tt),
        (
          (refl, tt),
          (
            (refl, record { calm = refl; next = refl; none = refl; rests = refl; unmoved = one_unmoved _ 0 0 refl }),
            (
              (refl, record { own = refl; no_open = λ e. cc; no_durable = λ e. cc; learned = refl; now = record { rises = omega arith; counts = refl } }),
              (
                (refl, tt),
                tt,
              ),
            ),
          ),
        ),
      ),
    ),
  ),
)

module _ (own : Filling) (begins_in : BeginsIn own 0 1 (0 ∷ [])) where
  pub own_slot : own.job.place.slot ≡ 0
  own_slot = ap (λ (p : Place). p.slot) begins_in.place

  pub own_may : MayFrom TWO_RINGS 0 (own_begins own) reserved_past
  own_may = (
    (refl, tt),
    (
      (
        refl,
        record {
          calm = refl;
          own = ap (owner TWO_RINGS) own_slot;
          within = subst (λ (k : ℕ). k < 4) (sym own_slot) (omega arith);
          place = begins_in.place ∙ ap (place_at TWO_RINGS) (sym own_slot);
          idle = refl;
          number = refl;
          stamp = begins_in.stamp;
          is = begins_in.is;
        },
      ),
      (
        (refl, tt),
        tt,
      ),
    ),
  )

  pub own_goes_on : (log : List (Event Label)) → MayFrom TWO_RINGS 0 log (own_begun own 0 1)
      → MayFrom TWO_RINGS 0 log (past_from TWO_RINGS (own_begins own) reserved_past)
  own_goes_on log may =
      subst (λ (k : ℕ). MayFrom TWO_RINGS 0 log (own_begun own k own.job.stamp)) (sym own_slot)
      (subst (λ (n : ℕ). MayFrom TWO_RINGS 0 log (own_begun own 0 n)) (sym begins_in.stamp) may)

module _ (own other : Filling) (begins_in : BeginsIn other 2 2 []) where
  pub other_slot : other.job.place.slot ≡ 2
  other_slot = ap (λ (p : Place). p.slot) begins_in.place

  pub other_may : MayFrom TWO_RINGS 0 (other_begins other) (own_begun own 0 1)
  other_may = (
    (refl, tt),
    (
      (
        refl,
        record {
          calm = refl;
          own = ap (owner TWO_RINGS) other_slot;
          within = subst (λ (k : ℕ). k < 4) (sym other_slot) (omega arith);
          place = begins_in.place ∙ ap (place_at TWO_RINGS) (sym other_slot);
          idle = ap (own_begun own 0 1).slots other_slot;
          number = refl;
          stamp = begins_in.stamp;
          is = begins_in.is;
        },
      ),
      (
        (refl, tt),
        tt,
      ),
    ),
  )

  pub other_goes_on : (log : List (Event Label)) → MayFrom TWO_RINGS 0 log (both_begun own other 2 2)
      → MayFrom TWO_RINGS 0 log
      (past_from TWO_RINGS (other_begins other) (own_begun own 0 1))
  other_goes_on log may =
      subst (λ (k : ℕ). MayFrom TWO_RINGS 0 log (both_begun own other k other.job.stamp)) (sym other_slot)
      (subst (λ (n : ℕ). MayFrom TWO_RINGS 0 log (both_begun own other 2 n)) (sym begins_in.stamp) may)
