-- The record of turns goes on to fit what cores told, and moments and counts of faults.
use Rattle.std.specs.Option.{option_or}
use Rattle.std.proofs.Common.{◌≡◌, ◌≢◌, ◌≤◌, ◌∷◌, ◌++◌, ◌∙◌, ℕ, List, [], Option, Some, None, inl, inr, refl, sym, ap, subst, arith, nat_eq}
use Rattle.std.proofs.lemmas.List.{append-nil}
use Rattle.std.proofs.lemmas.List.Elements.{filter-append}
use Rattle.sfs_base.proofs.BasicNumbers.{same_number, not_same}
use Rattle.tree_laws.specs.declared.turns.Turn.{Turn}
use Rattle.cut_laws.specs.Rules.{IsOneOf}
use Rattle.cut_laws.proofs.Basics.{in_either, filter_all, filter_none}
use Rattle.turn_laws.specs.Books.{CountsFaults}
use Rattle.merge_laws.specs.LeftByTurns.{TimesRise}
use Rattle.merge_laws.specs.Pens.{failure_by, failed_in, turns_of_core}
use Rattle.merge_laws.proofs.Blocks.{same_or_not}
use Rattle.merge_laws.proofs.Follows.{failed_more}
use Rattle.merge_laws.proofs.Lists.{joined_at, heads_are, nothing_there}
use Rattle.slot_laws.specs.Slots.{with_at}
use Rattle.slot_laws.specs.Fits.{waiting_turns, TurnsFit, TimesFit}
use Rattle.slot_laws.proofs.Basics.{at_here, at_other}

-- turns that are all of one core, behind others
own_more : (core : ℕ) (turns more : List Turn) → ((turn : Turn) → IsOneOf more turn → turn.core.0 ≡ core)
    → turns_of_core core (turns ++ more) ≡ turns_of_core core turns ++ more
own_more core turns more own =
    filter-append (λ (t : Turn). nat_eq t.core.0 core) turns more
    ∙ ap (λ (l : List Turn). turns_of_core core turns ++ l)
    (filter_all (λ (t : Turn). nat_eq t.core.0 core) more (λ turn one. ap (λ (n : ℕ). nat_eq n core) (own turn one) ∙ same_number core))

others_more : (core other : ℕ) (turns more : List Turn) → ((turn : Turn) → IsOneOf more turn → turn.core.0 ≡ core) → other ≢ core
    → turns_of_core other (turns ++ more) ≡ turns_of_core other turns
others_more core other turns more own apart =
    filter-append (λ (t : Turn). nat_eq t.core.0 other) turns more
    ∙ ap (λ (l : List Turn). turns_of_core other turns ++ l)
    (filter_none (λ (t : Turn). nat_eq t.core.0 other) more
    (λ turn one. not_same turn.core.0 other (λ same. apart (sym same ∙ own turn one))))
    ∙ append-nil (turns_of_core other turns)

-- of one turn that is a core's each is the core's
pub only_own : (core : ℕ) (turn : Turn) → turn.core.0 ≡ core → (t : Turn) → IsOneOf (turn ∷ []) t → t.core.0 ≡ core
only_own core turn own t one = elim one [ inl same ↦ ap (λ (u : Turn). u.core.0) (sym same) ∙ own | inr nothing ↦ absurd nothing ]

module _ (turns : List Turn) (waits : ℕ → Option Turn) (told : ℕ → List Turn) (fits : TurnsFit turns waits told) where
  -- a core tells turns of its own, while none waits for it
  pub turns_told : (core : ℕ) (more : List Turn) → ((turn : Turn) → IsOneOf more turn → turn.core.0 ≡ core) → waits core ≡ None
      → TurnsFit (turns ++ more) waits (with_at told core (told core ++ more))
  turns_told core more own none other = elim (same_or_not other core) [
    | inl same ↦
        subst (λ (c : ℕ). turns_of_core c (turns ++ more) ≡ with_at told core (told core ++ more) c ++ waiting_turns (waits c)) (sym same)
        (own_more core turns more own
        ∙ ap (λ (l : List Turn). l ++ more) (fits core ∙ ap (λ (o : Option Turn). told core ++ waiting_turns o) none ∙ append-nil (told core))
        ∙ sym (append-nil (told core ++ more))
        ∙ ap (λ (o : Option Turn). (told core ++ more) ++ waiting_turns o) (sym none)
        ∙ ap (λ (l : List Turn). l ++ waiting_turns (waits core)) (sym (at_here told core (told core ++ more))))
    | inr apart ↦
        others_more core other turns more own apart ∙ fits other
        ∙ ap (λ (l : List Turn). l ++ waiting_turns (waits other)) (sym (at_other told core (told core ++ more) other apart))
  ]

  -- a turn of a core waits for it
  pub turns_wait : (core : ℕ) (turn : Turn) → turn.core.0 ≡ core → waits core ≡ None
      → TurnsFit (turns ++ turn ∷ []) (with_at waits core (Some turn)) told
  turns_wait core turn own none other = elim (same_or_not other core) [
    | inl same ↦
        subst (λ (c : ℕ). turns_of_core c (turns ++ turn ∷ []) ≡ told c ++ waiting_turns (with_at waits core (Some turn) c)) (sym same)
        (own_more core turns (turn ∷ []) (only_own core turn own)
        ∙ ap (λ (l : List Turn). l ++ turn ∷ []) (fits core ∙ ap (λ (o : Option Turn). told core ++ waiting_turns o) none ∙ append-nil (told core))
        ∙ ap (λ (o : Option Turn). told core ++ waiting_turns o) (sym (at_here waits core (Some turn))))
    | inr apart ↦
        others_more core other turns (turn ∷ []) (only_own core turn own) apart ∙ fits other
        ∙ ap (λ (o : Option Turn). told other ++ waiting_turns o) (sym (at_other waits core (Some turn) other apart))
  ]

  -- and is learned of
  pub turns_learned : (core : ℕ) (turn : Turn) → waits core ≡ Some turn
      → TurnsFit turns (with_at waits core None) (with_at told core (told core ++ turn ∷ []))
  turns_learned core turn waited other = elim (same_or_not other core) [
    | inl same ↦
        subst
        (λ (c : ℕ). turns_of_core c turns ≡ with_at told core (told core ++ turn ∷ []) c ++ waiting_turns (with_at waits core None c)) (sym same)
        (fits core ∙ ap (λ (o : Option Turn). told core ++ waiting_turns o) waited ∙ sym (append-nil (told core ++ turn ∷ []))
        ∙ ap (λ (o : Option Turn). (told core ++ turn ∷ []) ++ waiting_turns o) (sym (at_here waits core None))
        ∙ ap (λ (l : List Turn). l ++ waiting_turns (with_at waits core None core)) (sym (at_here told core (told core ++ turn ∷ []))))
    | inr apart ↦
        fits other ∙ ap (λ (o : Option Turn). told other ++ waiting_turns o) (sym (at_other waits core None other apart))
        ∙ ap (λ (l : List Turn). l ++ waiting_turns (with_at waits core None other)) (sym (at_other told core (told core ++ turn ∷ []) other apart))
  ]

-- moments rise on
rise_more : (turns : List Turn) (turn : Turn) → TimesRise turns → ((earlier : Turn) → IsOneOf turns earlier → earlier.now ≤ turn.now)
    → TimesRise (turns ++ turn ∷ [])
rise_more [] turn rises low = (λ later one. absurd one, tt)
rise_more (first ∷ turns) turn rises low =
    (above, rise_more turns turn rises.1 (λ earlier one. low earlier (inr one)))
  where
    above : (later : Turn) → IsOneOf (turns ++ turn ∷ []) later → first.now ≤ later.now
    above later one = elim (in_either turns (turn ∷ []) later one) [
      | inl before ↦ rises.0 later before
      | inr last ↦ elim last [ inl same ↦ subst (λ (t : Turn). first.now ≤ t.now) same (low first (inl refl)) | inr nothing ↦ absurd nothing ]
    ]

module _ (before : ℕ) (turns : List Turn) (moment : ℕ) (failure : Option ℕ) (fits : TimesFit before turns moment failure) where
  -- one turn more
  pub times_more : (turn : Turn) → moment ≤ turn.now → CountsFaults before turn.faults failure turn.act turn.faults
      → TimesFit before (turns ++ turn ∷ []) turn.now (option_or failure (failure_by turn.act turn.faults))
  times_more turn rises right = record {
    rise = rise_more turns turn fits.rise (λ earlier one. let low = fits.latest earlier one in omega (arith, low, rises));
    latest = λ other one. elim (in_either turns (turn ∷ []) other one) [
      | inl earlier ↦ let low = fits.latest other earlier in omega (arith, low, rises)
      | inr last ↦ elim last [ inl same ↦ subst (λ (t : Turn). t.now ≤ turn.now) same (omega arith) | inr nothing ↦ absurd nothing ]
    ];
    failed = ap (λ (o : Option ℕ). option_or o (failure_by turn.act turn.faults)) fits.failed ∙ sym (failed_more turns turn);
    counts = λ front back other whole. elim (joined_at turns (turn ∷ []) front other back whole) [
      | inl there ↦ fits.counts front there.others other there.whole
      | inr here ↦ last_counts front other here.more here.back here.front_is here.whole
    ];
  }
    where
      last_counts : (front : List Turn) (other : Turn) (more back : List Turn) → front ≡ turns ++ more → turn ∷ [] ≡ more ++ other ∷ back
          → CountsFaults before other.faults (failed_in front) other.act other.faults
      last_counts front other [] back front_is whole =
          let same : turn ≡ other = (heads_are turn other [] back whole).0 in
          subst (λ (t : Turn). CountsFaults before t.faults (failed_in front) t.act t.faults) same
          (subst (λ (o : Option ℕ). CountsFaults before turn.faults o turn.act turn.faults)
          (fits.failed ∙ ap failed_in (sym (append-nil turns) ∙ sym front_is)) right)
      last_counts front other (next ∷ more) back front_is whole = absurd (nothing_there more other back (heads_are turn next []
          (more ++ other ∷ back) whole).1)
