-- What stands behind turns that reserve, and behind one that fails.
use Rattle.std.proofs.Common.{◌≡◌, ℕ, ◌+◌, ◌-◌, ◌≤◌, Bool, true, false, cond, not, List, [], ◌∷◌, ◌++◌, Option, Some, None, ◌⊎◌, inl, inr, refl, sym, ap, subst, ◌∙◌, arith, nat_eq}
use Rattle.std.specs.Prelude.{filter, sum_by}
use Rattle.std.proofs.lemmas.Bool.{cases_Bool}
use Rattle.std.proofs.lemmas.List.{append_assoc}
use Rattle.std.proofs.lemmas.List.Sums.{sum_by-append}
use borrow.Author.Tests.{eqb-true}
use Rattle.sfs_base.proofs.BasicNumbers.{zero_plus}
use Rattle.sfs_base.proofs.BasicOptions.{none_some}
use Rattle.tree_laws.specs.declared.history.Entry.{Entry}
use Rattle.tree_laws.specs.declared.turns.Turn.{Turn}
use Rattle.tree_laws.specs.declared.turns.TurnAct.{TurnAct}
use Rattle.tree_laws.specs.declared.turns.TurnAct.TheVariants as act
use Rattle.tree_laws.specs.Tree.{TreeState}
use Rattle.cut_laws.specs.Rules.{IsOneOf}
use Rattle.cut_laws.proofs.Basics.{in_left, in_right, in_either}
use Rattle.turn_laws.specs.Need.{ImageState, Amount, free_inodes, free_blocks}
use Rattle.turn_laws.specs.Books.{Grant, Waiting, Books, books_of, flush_at, waiting_for, reserved, free_in, is_other_waiting, grant_for_turn, CountsFaults, Does, IsTurn, AreTurns, no_turns, one_turn}
use Rattle.turn_laws.specs.LawsTurns.{HaltsOrGivesBack, ComesBehind, FailuresStopCommits, TakesFree, ReservedIsNotFree, IsTakenUp, GrantsAreTakenUp}
use Rattle.turn_laws.proofs.Causes.{failure}
use Rattle.cut_laws.proofs.Listed.{to_filter}

-- once the books have a failure, only these come
stops : (before most : ℕ) (o : Option ℕ) (failed : ℕ) → o ≡ Some failed → (a : TurnAct) (faults : ℕ) → CountsFaults before most o a faults → HaltsOrGivesBack a
stops before most None failed e a faults counts = absurd (none_some e)
stops before most (Some one) failed e act.Granted faults counts = absurd counts
stops before most (Some one) failed e act.GivenBack faults counts = inr refl
stops before most (Some one) failed e (act.Short kind asked have) faults counts = absurd counts
stops before most (Some one) failed e act.Halted faults counts = inl refl
stops before most (Some one) failed e act.CutAt faults counts = absurd counts
stops before most (Some one) failed e act.Opened faults counts = absurd counts
stops before most (Some one) failed e act.Durable faults counts = absurd counts
stops before most (Some one) failed e act.Fail faults counts = absurd counts

-- what halts has a failure in the books
has_failed : (before most : ℕ) (o : Option ℕ) (faults : ℕ) → CountsFaults before most o act.Halted faults → (failed : ℕ) × (o ≡ Some failed)
has_failed before most None faults counts = absurd counts
has_failed before most (Some failed) faults counts = (failed, refl)

module _ (before most : ℕ) (start : Books) where
  -- a turn keeps a failure in the books
  failure_kept : (turn : Turn) (books later : Books) (failed : ℕ) → books.failed ≡ Some failed → IsTurn before most books turn later
      → later.failed ≡ Some failed
  failure_kept turn books later failed e is = by turn.act is.does (stops before most books.failed failed e turn.act turn.faults is.faults)
    where
      other : (a : TurnAct) → HaltsOrGivesBack a → (a ≡ act.Halted → ⊥) → (a ≡ act.GivenBack → ⊥) → {P : Type 0} → P
      other a (inl halts) no_halt no_back = absurd (no_halt halts)
      other a (inr back) no_halt no_back = absurd (no_back back)

      by : (a : TurnAct) → Does a books turn later → HaltsOrGivesBack a → later.failed ≡ Some failed
      by act.Halted does stop = ap (λ (b : Books). b.failed) does ∙ e
      by act.GivenBack does stop = ap (λ (b : Books). b.failed) does.later_is ∙ e
      by act.Granted does stop = other act.Granted stop (λ e. cc) (λ e. cc)
      by (act.Short kind asked have) does stop = other (act.Short kind asked have) stop (λ e. cc) (λ e. cc)
      by act.CutAt does stop = other act.CutAt stop (λ e. cc) (λ e. cc)
      by act.Opened does stop = other act.Opened stop (λ e. cc) (λ e. cc)
      by act.Durable does stop = other act.Durable stop (λ e. cc) (λ e. cc)
      by act.Fail does stop = other act.Fail stop (λ e. cc) (λ e. cc)

  failed_in_books : {turns : List Turn} {books : Books} → AreTurns before most start turns books → (fail : Turn) → IsOneOf turns fail → fail.act ≡ act.Fail
      → (failed : ℕ) × (books.failed ≡ Some failed)
  failed_in_books no_turns = λ fail one did. absurd one
  failed_in_books (one_turn turns turn books later are is) = λ fail one did. elim (in_either turns (turn ∷ []) fail one) [
    | inl earlier ↦ let was = failed_in_books are fail earlier did in (was.0, failure_kept turn books later was.0 was.1 is)
    | inr here ↦ elim here [
      | inl same ↦
          let does = subst (λ (a : TurnAct). Does a books turn later) (ap (λ (t : Turn). t.act) same ∙ did) is.does in
          (turn.faults, ap (λ (b : Books). b.failed) does.later_is)
      | inr nothing ↦ absurd nothing
    ]
  ]

pub failures_stop_commits : FailuresStopCommits
failures_stop_commits first history image before most earlier turn books later are is = record {
  failed = λ fail one did.
      let was = failed_in_books before most (books_of first history image) are fail one did in
      stops before most books.failed was.0 was.1 turn.act turn.faults is.faults;
  halted = λ did.
      let was = has_failed before most books.failed turn.faults (subst (λ (a : TurnAct). CountsFaults before most books.failed a turn.faults) did is.faults) in
      (was.0, failure before most (books_of first history image) refl are was.0 was.1);
}

-- what is reserved with one grant more
more_reserved : (grants : List Grant) (grant : Grant)
    → ((reserved (grants ++ grant ∷ [])).inodes ≡ (reserved grants).inodes + grant.need.inodes)
    × ((reserved (grants ++ grant ∷ [])).blocks ≡ (reserved grants).blocks + grant.need.blocks)
more_reserved grants grant = (
  sum_by-append (λ (g : Grant). g.need.inodes) grants (grant ∷ []) ∙ ap (λ n. (reserved grants).inodes + n) (zero_plus grant.need.inodes),
  sum_by-append (λ (g : Grant). g.need.blocks) grants (grant ∷ []) ∙ ap (λ n. (reserved grants).blocks + n) (zero_plus grant.need.blocks),
)

less_free : (free held need more : ℕ) → need ≤ free - held → more ≡ held + need → (free - more) + need ≡ free - held
less_free free held need more fits e = omega arith

pub reserved_is_not_free : ReservedIsNotFree
reserved_is_not_free before most books turn later is did =
    let does = subst (λ (a : TurnAct). Does a books turn later) did is.does in
    let more = more_reserved books.grants (grant_for_turn books turn does.need) in
    record {
      need = does.need;
      needs = does.needs;
      inodes =
          ap (λ (b : Books). (free_in b).inodes + does.need.inodes) does.later_is
          ∙ less_free (free_inodes books.image) (reserved books.grants).inodes does.need.inodes _ does.fits.inodes more.0;
      blocks =
          ap (λ (b : Books). (free_in b).blocks + does.need.blocks) does.later_is
          ∙ less_free (free_blocks books.image) (reserved books.grants).blocks does.need.blocks _ does.fits.blocks more.1;
    }

-- A turn that reserved stands among turns, its fsync waits, and none of its core behind it is of another fsync.
record WaitsSince (turns : List Turn) (books : Books) (turn : Turn) : Type 0 where
  earlier : List Turn
  behind : List Turn
  whole : turns ≡ earlier ++ turn ∷ behind
  only : (other : Turn) → IsOneOf behind other → other.core.0 ≡ turn.core.0 → other.stamp.0 ≡ turn.stamp.0
  waits : IsOneOf books.waiting (waiting_for turn)

-- what is known of a turn that reserved
abbrev WaitsOrTaken : List Turn → Books → Turn → Type 0
WaitsOrTaken turns books turn = WaitsSince turns books turn ⊎ IsTakenUp turns turn

further : (turns : List Turn) (last turn : Turn) → IsTakenUp turns turn → IsTakenUp (turns ++ last ∷ []) turn
further turns last turn is = record {
  earlier = is.earlier;
  between = is.between;
  next = is.next;
  later = is.later ++ last ∷ [];
  whole = ap (λ (l : List Turn). l ++ last ∷ []) is.whole ∙ append_assoc (is.earlier ++ turn ∷ is.between) (is.next ∷ is.later) (last ∷ []);
  only = is.only;
  own = is.own;
  takes_up = is.takes_up;
}

module _ (before most : ℕ) (turns : List Turn) (last : Turn) (books later : Books) (is : IsTurn before most books last later) (turn : Turn)
    (since : WaitsSince turns books turn) where
  -- it goes on to wait
  still_waits : IsOneOf later.waiting (waiting_for turn) → WaitsOrTaken (turns ++ last ∷ []) later turn
  still_waits waits = inl (record {
    earlier = since.earlier;
    behind = since.behind ++ last ∷ [];
    whole = ap (λ (l : List Turn). l ++ last ∷ []) since.whole ∙ append_assoc since.earlier (turn ∷ since.behind) (last ∷ []);
    only = λ other one same. elim (in_either since.behind (last ∷ []) other one) [
      | inl there ↦ since.only other there same
      | inr here ↦ elim here [
        | inl e ↦
            let cores : turn.core.0 ≡ last.core.0 = sym same ∙ ap (λ (t : Turn). t.core.0) (sym e) in
            ap (λ (t : Turn). t.stamp.0) (sym e) ∙ sym (is.own (waiting_for turn) since.waits cores)
        | inr nothing ↦ absurd nothing
      ]
    ];
    waits = waits;
  })

  same_waiting : later.waiting ≡ books.waiting → WaitsOrTaken (turns ++ last ∷ []) later turn
  same_waiting e = still_waits (subst (λ (l : List Waiting). IsOneOf l (waiting_for turn)) (sym e) since.waits)

  -- a turn that ends the wait of its fsync
  leaves_off : later.waiting ≡ filter (is_other_waiting last.stamp.0) books.waiting → ((last.act ≡ act.CutAt) ⊎ HaltsOrGivesBack last.act)
      → WaitsOrTaken (turns ++ last ∷ []) later turn
  leaves_off e ends = elim (cases_Bool (nat_eq turn.stamp.0 last.stamp.0)) [
    | inl t ↦ inr (record {
      earlier = since.earlier;
      between = since.behind;
      next = last;
      later = [];
      whole = ap (λ (l : List Turn). l ++ last ∷ []) since.whole;
      only = since.only;
      own = sym (eqb-true turn.stamp.0 last.stamp.0 t);
      takes_up = ends;
    })
    | inr f ↦
        still_waits
        (subst (λ (l : List Waiting). IsOneOf l (waiting_for turn)) (sym e)
        (to_filter (is_other_waiting last.stamp.0) books.waiting (waiting_for turn) since.waits (ap not f)))
  ]

  by_last : (a : TurnAct) → last.act ≡ a → Does a books last later → WaitsOrTaken (turns ++ last ∷ []) later turn
  by_last act.Granted e does =
      still_waits
      (subst (λ (l : List Waiting). IsOneOf l (waiting_for turn)) (sym (ap (λ (b : Books). b.waiting) does.later_is))
      (in_left books.waiting (waiting_for last ∷ []) (waiting_for turn) since.waits))
  by_last act.GivenBack e does = leaves_off (ap (λ (b : Books). b.waiting) does.later_is) (inr (inr e))
  by_last (act.Short kind asked have) e does = same_waiting (ap (λ (b : Books). b.waiting) does.later_is)
  by_last act.Halted e does = leaves_off (ap (λ (b : Books). b.waiting) does) (inr (inl e))
  by_last act.CutAt e does = leaves_off (ap (λ (b : Books). b.waiting) does.later_is) (inl e)
  by_last act.Opened e does = same_waiting (ap (λ (b : Books). b.waiting) does.later_is)
  by_last act.Durable e does = same_waiting (ap (λ (b : Books). b.waiting) does.later_is)
  by_last act.Fail e does = same_waiting (ap (λ (b : Books). b.waiting) does.later_is)

module _ (before most : ℕ) (start : Books) where
  taken_up : {turns : List Turn} {books : Books} → AreTurns before most start turns books → (turn : Turn) → IsOneOf turns turn → turn.act ≡ act.Granted
      → WaitsOrTaken turns books turn
  taken_up no_turns = λ turn one did. absurd one
  taken_up (one_turn turns last books later are is) = λ turn one did. elim (in_either turns (last ∷ []) turn one) [
    | inl earlier ↦ elim (taken_up are turn earlier did) [
      | inl since ↦ by_last before most turns last books later is turn since last.act refl is.does
      | inr taken ↦ inr (further turns last turn taken)
    ]
    | inr here ↦ elim here [
      | inl same ↦
          let does = subst (λ (a : TurnAct). Does a books last later) (ap (λ (t : Turn). t.act) same ∙ did) is.does in
          inl (record {
            earlier = turns;
            behind = [];
            whole = ap (λ (t : Turn). turns ++ t ∷ []) same;
            only = λ other none. absurd none;
            waits = subst (λ (l : List Waiting). IsOneOf l (waiting_for turn)) (sym (ap (λ (b : Books). b.waiting) does.later_is))
                (in_right books.waiting (waiting_for last ∷ []) (waiting_for turn) (inl (ap waiting_for same)));
          })
      | inr nothing ↦ absurd nothing
    ]
  ]

pub grants_are_taken_up : GrantsAreTakenUp
grants_are_taken_up first history image from most turns turn recorded one did =
    elim (taken_up recorded.before most (books_of first history image) recorded.kept turn one did) [
      | inl since ↦ absurd (subst (λ (l : List Waiting). IsOneOf l (waiting_for turn)) recorded.settled since.waits)
      | inr taken ↦ taken
    ]
