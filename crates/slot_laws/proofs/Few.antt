-- No commit stamp is above the number of numbers that were given.
use Rattle.std.proofs.Common.{◌≡◌, ◌≢◌, ◌⊎◌, ◌+◌, ◌<◌, ◌≤◌, ◌∷◌, ◌++◌, ◌∙◌, ℕ, zero, suc, List, [], length, Option, Some, None, inl, inr, refl, sym, ap, subst, arith}
use Rattle.std.proofs.lemmas.List.{length-append}
use Rattle.sfs_image.specs.Super.{Layout}
use Rattle.cut_laws.specs.Rules.{IsOneOf}
use Rattle.merge_laws.proofs.Blocks.{same_or_not}
use Rattle.merge_laws.proofs.Lists.{stands_at, with_one}
use Rattle.merge_laws.proofs.Playing.{KeysDiffer, differ_out}
use Rattle.stamp_table.specs.declared.event.Event.{Event}
use Rattle.stamp_table.specs.declared.event.Event.TheVariants.{Called, Told}
use Rattle.slot_laws.specs.declared.label.Label.{Label}
use Rattle.slot_laws.specs.declared.label.Label.TheVariants as label
use Rattle.slot_laws.specs.Labels.{OwnTold, own_label, BoxPast, first_past, after_label, past_from}
use Rattle.slot_laws.specs.Slots.{with_at}
use Rattle.slot_laws.specs.Rules.{MayLabel, MayFrom}
use Rattle.slot_laws.specs.Fits.{PastFits}
use Rattle.slot_laws.specs.Laws.{StampsAreFew, StampsAreLeft}
use Rattle.slot_laws.proofs.Basics.{at_same, at_other, none_there}
use Rattle.slot_laws.proofs.Labels.{label_fits}
use Rattle.slot_laws.proofs.Lawful.{first_fits}

-- a number is one of a list, or not
among_or : (xs : List ℕ) (x : ℕ) → IsOneOf xs x ⊎ (IsOneOf xs x → ⊥)
among_or [] x = inr (λ one. one)
among_or (y ∷ xs) x = elim (same_or_not y x) [
  | inl same ↦ inl (inl same)
  | inr apart ↦ elim (among_or xs x) [
    | inl one ↦ inl (inr one)
    | inr none ↦ inr (λ one. elim one [ inl same ↦ apart same | inr rest ↦ none rest ])
  ]
]

-- different numbers from 1 to a bound are no more than the bound
few : (bound : ℕ) (xs : List ℕ) → KeysDiffer (λ n. n) xs → ((x : ℕ) → IsOneOf xs x → (0 < x) × (x ≤ bound)) → length xs ≤ bound
few zero [] differ within = omega arith
few zero (x ∷ xs) differ within = let is = within x (inl refl) in let low = is.0 in let high = is.1 in absurd (omega (arith, low, high))
few (suc bound) xs differ within = elim (among_or xs (suc bound)) [
  | inl one ↦
      let at = stands_at xs (suc bound) one in
      let out = differ_out (λ (n : ℕ). n) at.front (suc bound) at.back (subst (KeysDiffer (λ (n : ℕ). n)) at.whole differ) in
      let rest = few bound (at.front ++ at.back) out.0 (λ x there.
      let is = within x (subst (λ (l : List ℕ). IsOneOf l x) (sym at.whole) (with_one at.front (suc bound) at.back x there)) in
      let low = is.1 in
      let apart = out.1 x there in
      (is.0, below x low apart)) in
      let all : length xs ≡ length at.front + suc (length at.back) =
      ap length at.whole ∙ length-append at.front (suc bound ∷ at.back) in
      let both : length (at.front ++ at.back) ≡ length at.front + length at.back = length-append at.front at.back in
      omega (arith, rest, all, both)
  | inr none ↦
      let rest = few bound xs differ (λ x there.
      let is = within x there in
      (is.0, below x is.1 (λ same. none (subst (IsOneOf xs) same there)))) in
      omega (arith, rest)
]
  where
    below : (x : ℕ) → x ≤ suc bound → x ≢ suc bound → x ≤ bound
    below x low apart = elim (same_or_not x (suc bound)) [ inl same ↦ absurd (apart same) | inr away ↦ omega (arith, low, away) ]

-- The numbers of the commits that have begun: different ones, as many as commit stamps were drawn, and none that a core has reserved.
record NumbersBegun (past : BoxPast) : Type 0 where
  begun : List ℕ
  many : length begun ≡ past.stamps
  differ : KeysDiffer (λ n. n) begun
  within : (n : ℕ) → IsOneOf begun n → (0 < n) × (n ≤ past.commits)
  free : (core n : ℕ) → (past.owns core).reserved ≡ Some n → (0 < n) × (IsOneOf begun n → ⊥)

-- a core has reserved what it had, or nothing
reserved_back : (owns : ℕ → OwnTold) (core : ℕ) (own : OwnTold) → (own.reserved ≡ (owns core).reserved) ⊎ (own.reserved ≡ None) → (c n : ℕ)
    → (with_at owns core own c).reserved ≡ Some n → (owns c).reserved ≡ Some n
reserved_back owns core own which c n is = elim (same_or_not c core) [
  | inl same ↦
      let has : own.reserved ≡ Some n = sym (ap (λ (o : OwnTold). o.reserved) (at_same owns core own c same)) ∙ is in
      elim which [
        | inl had ↦ ap (λ (m : ℕ). (owns m).reserved) same ∙ sym had ∙ has
        | inr none ↦ none_there (sym none ∙ has)
      ]
  | inr apart ↦ ap (λ (o : OwnTold). o.reserved) (sym (at_other owns core own c apart)) ∙ is
]

begun_still : (past later : BoxPast) → NumbersBegun past → later.stamps ≡ past.stamps → later.commits ≡ past.commits
    → ((c n : ℕ) → (later.owns c).reserved ≡ Some n → (past.owns c).reserved ≡ Some n) → NumbersBegun later
begun_still past later fits stamps commits back = record {
  begun = fits.begun;
  many = fits.many ∙ sym stamps;
  differ = fits.differ;
  within = λ n one. let is = fits.within n one in let high = is.1 in (is.0, subst (λ (m : ℕ). n ≤ m) (sym commits) high);
  free = λ c n is. fits.free c n (back c n is);
}

module _ (layout : Layout) (before core : ℕ) (past : BoxPast) (all : PastFits layout before past) (fits : NumbersBegun past) where
  -- a label that neither reserves nor begins
  keeps : (fact : Label) → (after_label layout core fact past).stamps ≡ past.stamps → (after_label layout core fact past).commits ≡ past.commits
      → ((own_label fact (past.owns core)).reserved ≡ (past.owns core).reserved) ⊎ ((own_label fact (past.owns core)).reserved ≡ None)
      → NumbersBegun (after_label layout core fact past)
  keeps fact stamps commits which =
      begun_still past (after_label layout core fact past) fits stamps commits (reserved_back past.owns core (own_label fact (past.owns core)) which)

  begun_label : (fact : Label) → MayLabel layout before core fact past → NumbersBegun (after_label layout core fact past)
  begun_label label.Took rule = keeps label.Took refl refl (inl refl)
  begun_label label.Gave rule = keeps label.Gave refl refl (inl refl)
  begun_label (label.Noted turn) rule = keeps (label.Noted turn) refl refl (inl refl)
  begun_label (label.Reserved commit seen grant) rule = record {
    begun = fits.begun;
    many = fits.many;
    differ = fits.differ;
    within = λ n one. let is = fits.within n one in let high = is.1 in let next = rule.next in (is.0, omega (arith, high, next));
    free = λ c n is. elim (same_or_not c core) [
      | inl same ↦
          let e : commit ≡ n = own_number n (sym (ap (λ (o : OwnTold). o.reserved) (at_same past.owns core (own_label (label.Reserved commit seen grant)
          (past.owns core)) c same)) ∙ is) in
          new_number n e
      | inr apart ↦
          fits.free c n
          (sym (ap (λ (o : OwnTold). o.reserved) (at_other past.owns core (own_label (label.Reserved commit seen grant) (past.owns core)) c apart)) ∙ is)
    ];
  }
    where
      own_number : (n : ℕ) → ◌≡◌ {A = Option ℕ} (Some commit) (Some n) → commit ≡ n
      own_number n e = cc

      new_number : (n : ℕ) → commit ≡ n → (0 < n) × (IsOneOf fits.begun n → ⊥)
      new_number n e =
          let next = rule.next in
          (omega (arith, next, e), λ one. let high = (fits.within n one).1 in omega (arith, next, e, high))
  begun_label (label.Returned commit) rule = keeps (label.Returned commit) refl refl (inr refl)
  begun_label (label.Began filling commit node stamp blocks inodes) rule = record {
    begun = commit ∷ fits.begun;
    many = let many = fits.many in let drawn = rule.stamp in omega (arith, many, drawn);
    differ = (λ n one same. (fits.free core commit rule.number).1 (subst (IsOneOf fits.begun) same one), fits.differ);
    within = λ n one. elim one [
      | inl same ↦ subst (λ (m : ℕ). (0 < m) × (m ≤ past.commits)) same ((fits.free core commit rule.number).0, all.numbers.given core commit rule.number)
      | inr rest ↦ fits.within n rest
    ];
    free = λ c n is.
        let was = reserved_back past.owns core (own_label (label.Began filling commit node stamp blocks inodes) (past.owns core)) (inr refl) c n is in (
          (fits.free c n was).0,
          λ one. elim one [
            | inl same ↦
                let its = all.numbers.once c core n was (rule.number ∙ ap Some same) in
                none_there (sym (ap (λ (o : OwnTold). o.reserved) (at_same past.owns core (own_label (label.Began filling commit node stamp blocks inodes)
                (past.owns core)) c its)) ∙ is)
            | inr rest ↦ (fits.free c n was).1 rest
          ],
        );
  }
  begun_label (label.Filled k piece done) rule = keeps (label.Filled k piece done) refl refl (inl refl)
  begun_label (label.Synced now) rule = keeps (label.Synced now) refl refl (inl refl)
  begun_label (label.Opened k done cut opened) rule = keeps (label.Opened k done cut opened) refl refl (inl refl)
  begun_label (label.Settled k turn) rule = keeps (label.Settled k turn) refl refl (inl refl)
  begun_label (label.Learned turn) rule = keeps (label.Learned turn) refl refl (inl refl)
  begun_label (label.Placed k n done) rule = keeps (label.Placed k n done) refl refl (inl refl)
  begun_label (label.Shut k done) rule = keeps (label.Shut k done) refl refl (inl refl)
  begun_label (label.Idled k) rule = keeps (label.Idled k) refl refl (inl refl)
  begun_label (label.Empty commit cut opened durable) rule = keeps (label.Empty commit cut opened durable) refl refl (inr refl)

-- so it is of what was told, and it fits
begun_all : (layout : Layout) (before : ℕ) (log : List (Event Label)) (past : BoxPast) → PastFits layout before past → NumbersBegun past
    → MayFrom layout before log past → PastFits layout before (past_from layout log past) × NumbersBegun (past_from layout log past)
begun_all layout before [] past all fits may = (all, fits)
begun_all layout before (Called entry ∷ log) past all fits may = absurd may.0
begun_all layout before (Told core fact ∷ log) past all fits may =
    begun_all layout before log (after_label layout core.0 fact past) (label_fits layout before core.0 past all fact may.0.1)
    (begun_label layout before core.0 past all fits fact may.0.1) may.1

begun_told : (layout : Layout) (before : ℕ) (log : List (Event Label)) (moment : ℕ) → MayFrom layout before log (first_past moment)
    → PastFits layout before (past_from layout log (first_past moment)) × NumbersBegun (past_from layout log (first_past moment))
begun_told layout before log moment may =
    begun_all layout before log (first_past moment) (first_fits layout before moment)
    (record { begun = []; many = refl; differ = tt; within = λ n one. absurd one; free = λ core n is. none_there is }) may

pub stamps_are_few : StampsAreFew
stamps_are_few layout before log moment may =
    let past = past_from layout log (first_past moment) in
    let fits = (begun_told layout before log moment may).1 in
    let many = fits.many in
    let low = few past.commits fits.begun fits.differ fits.within in
    omega (arith, many, low)

pub stamps_are_left : StampsAreLeft
stamps_are_left layout before log moment core number may reserved =
    let past = past_from layout log (first_past moment) in
    let told = begun_told layout before log moment may in
    let fits = told.1 in
    let free = fits.free core number reserved in
    let many = fits.many in
    let low = few past.commits (number ∷ fits.begun) (λ n one same. free.1 (subst (IsOneOf fits.begun) same one), fits.differ) (λ n one. elim one [
      | inl same ↦ subst (λ (m : ℕ). (0 < m) × (m ≤ past.commits)) same (free.0, told.0.numbers.given core number reserved)
      | inr rest ↦ fits.within n rest
    ]) in
    omega (arith, many, low)
