-- One turn more of a play: what waits and what is aloft fits the phases of the fsyncs.
use Rattle.std.proofs.lemmas.List.{append-nil}
use Rattle.std.proofs.Common.{◌≡◌, ◌≢◌, ◌∷◌, ◌++◌, ◌∙◌, ℕ, Bool, true, false, List, [], inl, inr, refl, sym, ap, subst}
use Rattle.sfs_base.proofs.BasicTruth.{false_not_true}
use Rattle.cut_laws.specs.Rules.{IsOneOf}
use Rattle.cut_laws.proofs.Basics.{in_left, in_right, in_either}
use Rattle.merge_laws.specs.Phases.{Phase, no_turn_yet, has_reserved, has_begun, has_opened, is_durable, has_ended, is_stuck, flies_in}
use Rattle.merge_laws.specs.Plays.{Aloft}
use Rattle.merge_laws.proofs.Phases.{first_waits}
use Rattle.merge_laws.proofs.Lists.{among_at, with_one, but_one}
use Rattle.merge_laws.proofs.Blocks.{same_or_not}

-- No two of a list have one key.
abbrev pub KeysDiffer : {X : Type 0} → (X → ℕ) → List X → Type 0
KeysDiffer key [] = Unit {0}
KeysDiffer key (x ∷ xs) = ((y : _) → IsOneOf xs y → key y ≢ key x) × KeysDiffer key xs

module _ {X : Type 0} (key : X → ℕ) where
  pub differ_nothing : KeysDiffer key []
  differ_nothing = tt

  -- one is taken out, or put in
  pub differ_out : (before : List X) (x : X) (behind : List X) → KeysDiffer key (before ++ x ∷ behind)
      → KeysDiffer key (before ++ behind) × ((y : X) → IsOneOf (before ++ behind) y → key y ≢ key x)
  differ_out [] x behind differ = (differ.1, differ.0)
  differ_out (z ∷ before) x behind differ =
      let was = differ_out before x behind differ.1 in (
        (λ y one. differ.0 y (with_one before x behind y one), was.0),
        λ y one. elim one [
          | inl same ↦ λ e. differ.0 x (among_at before x behind) (sym e ∙ ap key (sym same))
          | inr rest ↦ was.1 y rest
        ],
      )

  pub differ_in : (before : List X) (x : X) (behind : List X) → KeysDiffer key (before ++ behind)
      → ((y : X) → IsOneOf (before ++ behind) y → key y ≢ key x) → KeysDiffer key (before ++ x ∷ behind)
  differ_in [] x behind differ apart = (apart, differ)
  differ_in (z ∷ before) x behind differ apart = (
    λ y one. elim (but_one before x behind y one) [
      | inl same ↦ λ e. apart z (inl refl) (sym e ∙ ap key (sym same))
      | inr rest ↦ differ.0 y rest
    ],
    differ_in before x behind differ.1 (λ y one. apart y (inr one)),
  )

  pub differ_more : (xs : List X) (x : X) → KeysDiffer key xs → ((y : X) → IsOneOf xs y → key y ≢ key x) → KeysDiffer key (xs ++ x ∷ [])
  differ_more xs x differ apart =
      differ_in xs x [] (subst (KeysDiffer key) (sym (append-nil xs)) differ)
      (λ y one. apart y (subst (λ (l : List X). IsOneOf l y) (append-nil xs) one))

-- a commit aloft fits a phase
abbrev pub FitsPhase : Bool → Phase → Type 0
FitsPhase opened has_begun = opened ≡ false
FitsPhase opened has_opened = opened ≡ true
FitsPhase opened is_stuck = Unit {0}
FitsPhase opened no_turn_yet = ⊥
FitsPhase opened has_reserved = ⊥
FitsPhase opened is_durable = ⊥
FitsPhase opened has_ended = ⊥

pub fits_flies : (opened : Bool) (phase : Phase) → FitsPhase opened phase → flies_in phase ≡ true
fits_flies opened has_begun fits = refl
fits_flies opened has_opened fits = refl
fits_flies opened is_stuck fits = refl
fits_flies opened no_turn_yet fits = absurd fits
fits_flies opened has_reserved fits = absurd fits
fits_flies opened is_durable fits = absurd fits
fits_flies opened has_ended fits = absurd fits

-- What waits and what is aloft fits the phases of fsyncs.
pub record FitsPhases (phase : ℕ → Phase) (waiting : List ℕ) (aloft : List Aloft) : Type 0 where
  pub waits : (stamp : ℕ) → IsOneOf waiting stamp → phase stamp ≡ has_reserved
  pub reserved : (stamp : ℕ) → phase stamp ≡ has_reserved → IsOneOf waiting stamp
  pub flies : (flight : Aloft) → IsOneOf aloft flight → FitsPhase flight.opened (phase flight.stamp)
  pub flying : (stamp : ℕ) → flies_in (phase stamp) ≡ true → (flight : Aloft) × IsOneOf aloft flight × (flight.stamp ≡ stamp)
  pub waits_once : KeysDiffer (λ stamp. stamp) waiting
  pub flies_once : KeysDiffer (λ flight. flight.stamp) aloft

pub fits_nothing : FitsPhases (λ stamp. no_turn_yet) [] []
fits_nothing = record {
  waits = λ stamp one. absurd one;
  reserved = λ stamp e. absurd (first_waits e);
  flies = λ flight one. absurd one;
  flying = λ stamp e. absurd (false_not_true e);
  waits_once = differ_nothing (λ stamp. stamp);
  flies_once = differ_nothing (λ (flight : Aloft). flight.stamp);
}

-- The phases before and behind a turn of the fsync with a stamp.
pub record MovesOn (phase later : ℕ → Phase) (stamp : ℕ) : Type 0 where
  pub others : (other : ℕ) → other ≢ stamp → later other ≡ phase other

module _ (phase later : ℕ → Phase) (stamp : ℕ) (moves : MovesOn phase later stamp) where
  -- Who waits then: as before, but for this fsync, which waits if it has reserved.
  pub record WaitingMoves (waiting new : List ℕ) : Type 0 where
    pub come : (other : ℕ) → other ≢ stamp → IsOneOf new other → IsOneOf waiting other
    pub stay : (other : ℕ) → other ≢ stamp → IsOneOf waiting other → IsOneOf new other
    pub here : IsOneOf new stamp → later stamp ≡ has_reserved
    pub there : later stamp ≡ has_reserved → IsOneOf new stamp
    pub once : KeysDiffer (λ other. other) new

  -- What is aloft then: as before, but for this fsync, which has one if its phase is such.
  pub record AloftMoves (aloft new : List Aloft) : Type 0 where
    pub come : (flight : Aloft) → flight.stamp ≢ stamp → IsOneOf new flight → IsOneOf aloft flight
    pub stay : (flight : Aloft) → flight.stamp ≢ stamp → IsOneOf aloft flight → IsOneOf new flight
    pub here : (flight : Aloft) → flight.stamp ≡ stamp → IsOneOf new flight → FitsPhase flight.opened (later stamp)
    pub there : flies_in (later stamp) ≡ true → (flight : Aloft) × IsOneOf new flight × (flight.stamp ≡ stamp)
    pub once : KeysDiffer (λ flight. flight.stamp) new

  pub fits_on : (waiting new : List ℕ) (aloft aloft_new : List Aloft) → FitsPhases phase waiting aloft → WaitingMoves waiting new
      → AloftMoves aloft aloft_new → FitsPhases later new aloft_new
  fits_on waiting new aloft aloft_new fits wait fly = record {
    waits = λ other one. elim (same_or_not other stamp) [
      | inl e ↦ ap later e ∙ wait.here (subst (IsOneOf new) e one)
      | inr apart ↦ moves.others other apart ∙ fits.waits other (wait.come other apart one)
    ];
    reserved = λ other e. elim (same_or_not other stamp) [
      | inl same ↦ subst (IsOneOf new) (sym same) (wait.there (ap later (sym same) ∙ e))
      | inr apart ↦ wait.stay other apart (fits.reserved other (sym (moves.others other apart) ∙ e))
    ];
    flies = λ flight one. elim (same_or_not flight.stamp stamp) [
      | inl same ↦ subst (λ (n : ℕ). FitsPhase flight.opened (later n)) (sym same) (fly.here flight same one)
      | inr apart ↦ subst (FitsPhase flight.opened) (sym (moves.others flight.stamp apart)) (fits.flies flight (fly.come flight apart one))
    ];
    flying = λ other e. elim (same_or_not other stamp) [
      | inl same ↦
          let its = fly.there (ap (λ (n : ℕ). flies_in (later n)) (sym same) ∙ e) in
          (its.0, its.1, its.2 ∙ sym same)
      | inr apart ↦
          let its = fits.flying other (ap flies_in (sym (moves.others other apart)) ∙ e) in
          (its.0, fly.stay its.0 (λ same. apart (sym its.2 ∙ same)) its.1, its.2)
    ];
    waits_once = wait.once;
    flies_once = fly.once;
  }

  -- the fsync did not wait, and does not
  pub waiting_same : (waiting : List ℕ) → KeysDiffer (λ other. other) waiting → (IsOneOf waiting stamp → ⊥) → (later stamp ≡ has_reserved → ⊥)
      → WaitingMoves waiting waiting
  waiting_same waiting once away never = record {
    come = λ other apart one. one;
    stay = λ other apart one. one;
    here = λ one. absurd (away one);
    there = λ e. absurd (never e);
    once = once;
  }

  -- it did not wait, and does
  pub waiting_more : (waiting : List ℕ) → KeysDiffer (λ other. other) waiting → (IsOneOf waiting stamp → ⊥) → later stamp ≡ has_reserved
      → WaitingMoves waiting (waiting ++ stamp ∷ [])
  waiting_more waiting once away is = record {
    come = λ other apart one. elim (in_either waiting (stamp ∷ []) other one) [
      | inl before ↦ before
      | inr last ↦ elim last [ inl same ↦ absurd (apart (sym same)) | inr none ↦ absurd none ]
    ];
    stay = λ other apart one. in_left waiting (stamp ∷ []) other one;
    here = λ one. is;
    there = λ e. in_right waiting (stamp ∷ []) stamp (inl refl);
    once = differ_more (λ (other : ℕ). other) waiting stamp once (λ other one same. away (subst (IsOneOf waiting) same one));
  }

  -- it waited, and does not
  pub waiting_less : (before behind : List ℕ) → KeysDiffer (λ other. other) (before ++ stamp ∷ behind) → (later stamp ≡ has_reserved → ⊥)
      → WaitingMoves (before ++ stamp ∷ behind) (before ++ behind)
  waiting_less before behind once never =
      let out = differ_out (λ (other : ℕ). other) before stamp behind once in
      record {
        come = λ other apart one. with_one before stamp behind other one;
        stay = λ other apart one. elim (but_one before stamp behind other one) [ inl same ↦ absurd (apart (sym same)) | inr rest ↦ rest ];
        here = λ one. absurd (out.1 stamp one refl);
        there = λ e. absurd (never e);
        once = out.0;
      }

  -- it had no commit aloft, and has none
  pub aloft_same : (aloft : List Aloft) → KeysDiffer (λ flight. flight.stamp) aloft → ((flight : Aloft) → IsOneOf aloft flight → flight.stamp ≢ stamp)
      → flies_in (later stamp) ≡ false → AloftMoves aloft aloft
  aloft_same aloft once away never = record {
    come = λ flight apart one. one;
    stay = λ flight apart one. one;
    here = λ flight same one. absurd (away flight one same);
    there = λ e. absurd (false_not_true (sym never ∙ e));
    once = once;
  }

  -- it had none, and has one that was not opened
  pub aloft_more : (aloft : List Aloft) → KeysDiffer (λ flight. flight.stamp) aloft → ((flight : Aloft) → IsOneOf aloft flight → flight.stamp ≢ stamp)
      → later stamp ≡ has_begun → AloftMoves aloft (aloft ++ record { stamp = stamp; opened = false } ∷ [])
  aloft_more aloft once away is = record {
    come = λ flight apart one. elim (in_either aloft (record { stamp = stamp; opened = false } ∷ []) flight one) [
      | inl before ↦ before
      | inr last ↦ elim last [ inl same ↦ absurd (apart (ap (λ (f : Aloft). f.stamp) (sym same))) | inr none ↦ absurd none ]
    ];
    stay = λ flight apart one. in_left aloft (record { stamp = stamp; opened = false } ∷ []) flight one;
    here = λ flight same one. elim (in_either aloft (record { stamp = stamp; opened = false } ∷ []) flight one) [
      | inl before ↦ absurd (away flight before same)
      | inr last ↦ elim last [
        | inl e ↦ subst (FitsPhase flight.opened) (sym is) (ap (λ (f : Aloft). f.opened) (sym e))
        | inr none ↦ absurd none
      ]
    ];
    there = λ e. (record { stamp = stamp; opened = false }, in_right aloft (record { stamp = stamp; opened = false } ∷ []) _ (inl refl), refl);
    once = differ_more (λ (flight : Aloft). flight.stamp) aloft (record { stamp = stamp; opened = false }) once away;
  }

  -- it had one, and has none
  pub aloft_less : (before : List Aloft) (opened : Bool) (behind : List Aloft)
      → KeysDiffer (λ flight. flight.stamp) (before ++ record { stamp = stamp; opened = opened } ∷ behind) → flies_in (later stamp) ≡ false
      → AloftMoves (before ++ record { stamp = stamp; opened = opened } ∷ behind) (before ++ behind)
  aloft_less before opened behind once never =
      let out = differ_out (λ (flight : Aloft). flight.stamp) before (record { stamp = stamp; opened = opened }) behind once in
      record {
        come = λ flight apart one. with_one before (record { stamp = stamp; opened = opened }) behind flight one;
        stay = λ flight apart one. elim (but_one before (record { stamp = stamp; opened = opened }) behind flight one) [
          | inl same ↦ absurd (apart (ap (λ (f : Aloft). f.stamp) (sym same)))
          | inr rest ↦ rest
        ];
        here = λ flight same one. absurd (out.1 flight one same);
        there = λ e. absurd (false_not_true (sym never ∙ e));
        once = out.0;
      }

  -- it had one, and has it with another mark
  pub aloft_marked : (before : List Aloft) (opened mark : Bool) (behind : List Aloft)
      → KeysDiffer (λ flight. flight.stamp) (before ++ record { stamp = stamp; opened = opened } ∷ behind) → FitsPhase mark (later stamp)
      → AloftMoves (before ++ record { stamp = stamp; opened = opened } ∷ behind) (before ++ record { stamp = stamp; opened = mark } ∷ behind)
  aloft_marked before opened mark behind once is =
      let out = differ_out (λ (flight : Aloft). flight.stamp) before (record { stamp = stamp; opened = opened }) behind once in
      record {
        come = λ flight apart one. elim (but_one before (record { stamp = stamp; opened = mark }) behind flight one) [
          | inl same ↦ absurd (apart (ap (λ (f : Aloft). f.stamp) (sym same)))
          | inr rest ↦ with_one before (record { stamp = stamp; opened = opened }) behind flight rest
        ];
        stay = λ flight apart one. elim (but_one before (record { stamp = stamp; opened = opened }) behind flight one) [
          | inl same ↦ absurd (apart (ap (λ (f : Aloft). f.stamp) (sym same)))
          | inr rest ↦ with_one before (record { stamp = stamp; opened = mark }) behind flight rest
        ];
        here = λ flight same one. elim (but_one before (record { stamp = stamp; opened = mark }) behind flight one) [
          | inl e ↦ subst (λ (f : Aloft). FitsPhase f.opened (later stamp)) e is
          | inr rest ↦ absurd (out.1 flight rest same)
        ];
        there = λ e. (record { stamp = stamp; opened = mark }, among_at before (record { stamp = stamp; opened = mark }) behind, refl);
        once = differ_in (λ (flight : Aloft). flight.stamp) before (record { stamp = stamp; opened = mark }) behind out.0 out.1;
      }
