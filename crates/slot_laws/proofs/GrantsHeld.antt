-- What is granted goes on to be granted to one commit.
use Rattle.std.specs.Prelude.{map, option_map}
use Rattle.std.proofs.Common.{◌≡◌, ◌∷◌, ◌∙◌, ◌≢◌, ◌++◌, List, [], inl, sym, inr, ap, Option, Some, Bool, true, false, refl, ℕ, cond, None, length, subst, nat_eq, not}
use Rattle.sfs_base.specs.Listed.{is_listed}
use Rattle.sfs_base.proofs.BasicOptions.{some_same, none_some}
use Rattle.sfs_base.proofs.BasicTruth.{true_or_false, not_both, not_true}
use Rattle.sfs_base.proofs.BasicNumbers.{not_same}
use Rattle.space_map.specs.declared.status.Status.{Status}
use Rattle.space_map.specs.declared.status.Status.TheVariants.{Granted, Free, Taken}
use Rattle.space_map.specs.Pool.{Pool, Grants, status_of, BecomeAll, Ends, released}
use Rattle.space_map.specs.Space.{GrantedNumbers}
use Rattle.space_map.proofs.Others.{free_now, ends_leave_others}
use Rattle.cut_laws.specs.Rules.{IsOneOf}
use Rattle.cut_laws.proofs.Basics.{in_left}
use Rattle.cut_laws.proofs.RunFacts.{in_filter}
use Rattle.cut_laws.proofs.Listed.{to_filter, from_map, to_map}
use Rattle.slot_laws.specs.Nodes.{ReservedCommit, commits_but, is_numbered_otherwise, giving_up, is_numbered}
use Rattle.slot_laws.specs.Lasts.{AreNumberedOnce}
use Rattle.slot_laws.specs.Grants.{AreGranted, HasGranted, IsOpenNumbered}
use Rattle.slot_laws.proofs.Numbered.{last_or_before, at_seam}
use Rattle.slot_laws.proofs.NodesTold.{giving_number, other_by_test}

-- of commits with numbers of their own two with one number are one
pub same_commit : (commits : List ReservedCommit) → AreNumberedOnce commits → (one other : ReservedCommit) → IsOneOf commits one
    → IsOneOf commits other → one.number ≡ other.number → one ≡ other
same_commit [] once one other among there same = absurd among
same_commit (first ∷ rest) once one other among there same = elim among [
  | inl is ↦ elim there [
    | inl too ↦ sym is ∙ too
    | inr later ↦ absurd (once.0 other later (sym same ∙ ap (λ (c : ReservedCommit). c.number) (sym is)))
  ]
  | inr before ↦ elim there [
    | inl too ↦ absurd (once.0 one before (same ∙ ap (λ (c : ReservedCommit). c.number) (sym too)))
    | inr later ↦ same_commit rest once.1 one other before later same
  ]
]

granted_not_free : {s : Option Status} → s ≡ Some Granted → s ≡ Some Free → ⊥
granted_not_free {s} granted free = let never : ◌≡◌ {A = Option Status} (Some Granted) (Some Free) = sym granted ∙ free in cc

-- a test that is true or leads to nothing
pub not_true_so : (b : Bool) → (b ≡ true → ⊥) → b ≡ false
not_true_so true never = absurd (never refl)
not_true_so false never = refl

-- what a grant makes of a number
module _ (old new : Pool) (count : ℕ) (numbers : List ℕ) (grants : Grants old count numbers new) (number : ℕ) where
  granted_now : is_listed numbers number ≡ true → status_of new number ≡ Some Granted
  granted_now listed =
      grants.granted number
      ∙ ap (λ (b : Bool). cond b (option_map (λ (s : Status). Granted) (status_of old number)) (status_of old number)) listed
      ∙ ap (option_map (λ (s : Status). Granted)) (free_now old count numbers new number grants listed)

  pub granted_others : is_listed numbers number ≡ false → status_of new number ≡ status_of old number
  granted_others apart =
      grants.granted number ∙ ap (λ (b : Bool). cond b (option_map (λ (s : Status). Granted) (status_of old number)) (status_of old number)) apart

-- what a return makes of one
module _ (old new : Pool) (numbers : List ℕ) (back : BecomeAll Free numbers old new) (number : ℕ) where
  returned_own : is_listed numbers number ≡ true → status_of new number ≡ Some Granted → ⊥
  returned_own listed granted =
      by (status_of old number)
      (sym
      (back number ∙ ap (λ (b : Bool). cond b (option_map (λ (s : Status). Free) (status_of old number)) (status_of old number)) listed)
      ∙ granted)
    where
      by : (o : Option Status) → option_map (λ (s : Status). Free) o ≡ Some Granted → ⊥
      by None e = none_some e
      by (Some s) e = let never : Free ≡ Granted = some_same e in cc

  pub returned_others : is_listed numbers number ≡ false → status_of new number ≡ status_of old number
  returned_others apart =
      back number ∙ ap (λ (b : Bool). cond b (option_map (λ (s : Status). Free) (status_of old number)) (status_of old number)) apart

-- what an end makes of one
module _ (old new : Pool) (granted freed : List ℕ) (end : Ends granted freed old new) (number : ℕ) where
  after_own : is_listed granted number ≡ true → status_of new number ≡ option_map (λ (s : Status). Taken) (status_of old number)
  after_own listed =
      end number
      ∙ ap (λ (b : Bool). cond b (option_map (λ (s : Status). Taken) (status_of old number))
      (cond (is_listed freed number) (option_map released (status_of old number)) (status_of old number))) listed

  after_others : is_listed granted number ≡ false
      → status_of new number ≡ cond (is_listed freed number) (option_map released (status_of old number)) (status_of old number)
  after_others apart =
      end number
      ∙ ap (λ (b : Bool). cond b (option_map (λ (s : Status). Taken) (status_of old number))
      (cond (is_listed freed number) (option_map released (status_of old number)) (status_of old number))) apart

  ended_own : is_listed granted number ≡ true → status_of new number ≡ Some Granted → ⊥
  ended_own listed is = by (status_of old number) (sym (after_own listed) ∙ is)
    where
      by : (o : Option Status) → option_map (λ (s : Status). Taken) o ≡ Some Granted → ⊥
      by None e = none_some e
      by (Some s) e = let never : Taken ≡ Granted = some_same e in cc

  ended_others : is_listed granted number ≡ false → status_of new number ≡ Some Granted → status_of old number ≡ Some Granted
  ended_others apart is = by (is_listed freed number) (status_of old number) (sym (after_others apart) ∙ is)
    where
      by : (b : Bool) (o : Option Status) → cond b (option_map released o) o ≡ Some Granted → o ≡ Some Granted
      by false o e = e
      by true None e = absurd (none_some e)
      by true (Some Granted) e = refl
      by true (Some Free) e = absurd (let never : Free ≡ Granted = some_same e in cc)
      by true (Some Taken) e = absurd (let never : Free ≡ Granted = some_same e in cc)

  -- what was taken and is not given up is taken still
  pub taken_still : is_listed freed number ≡ false → status_of old number ≡ Some Taken → status_of new number ≡ Some Taken
  taken_still kept taken = elim (true_or_false (is_listed granted number)) [
    | inl own ↦ after_own own ∙ ap (option_map (λ (s : Status). Taken)) taken
    | inr apart ↦
        after_others apart
        ∙ ap (λ (b : Bool). cond b (option_map released (status_of old number)) (status_of old number)) kept ∙ taken
  ]

module _ (part : GrantedNumbers → List ℕ) (opens : List ReservedCommit) (once : AreNumberedOnce opens) (old new : Pool)
    (fits : AreGranted part opens old) where
  -- a commit takes a grant
  module _ (commit : ReservedCommit) (other_number : (other : ReservedCommit) → IsOneOf opens other → other.number ≢ commit.number)
      (grants : Grants old (length (part commit.grant)) (part commit.grant) new) where
    not_taken : (one : ReservedCommit) (number : ℕ) → IsOneOf opens one → HasGranted part one number → is_listed (part commit.grant) number ≡ false
    not_taken one number among has =
        not_true_so (is_listed (part commit.grant) number)
        (λ listed. granted_not_free (fits.own one number among has) (free_now old (length (part commit.grant)) (part commit.grant) new number grants listed))

    pub take_fits : AreGranted part (opens ++ commit ∷ []) new
    take_fits = record {
      own = λ one number among has. elim (last_or_before opens commit one among) [
        | inl before ↦
            granted_others old new (length (part commit.grant)) (part commit.grant) grants number (not_taken one number before has)
            ∙ fits.own one number before has
        | inr same ↦
            granted_now old new (length (part commit.grant)) (part commit.grant) grants number
            (subst (λ (c : ReservedCommit). HasGranted part c number) (sym same) has)
      ];
      apart = λ one other number among there differ has. elim (last_or_before opens commit one among) [
        | inl before ↦ elim (last_or_before opens commit other there) [
          | inl too ↦ fits.apart one other number before too differ has
          | inr is ↦ subst (λ (c : ReservedCommit). is_listed (part c.grant) number ≡ false) is (not_taken one number before has)
        ]
        | inr same ↦ elim (last_or_before opens commit other there) [
          | inl too ↦
              not_true_so (is_listed (part other.grant) number)
              (λ listed. not_both (subst (λ (c : ReservedCommit). HasGranted part c number) (sym same) has) (not_taken other number too listed))
          | inr is ↦ absurd (differ (ap (λ (c : ReservedCommit). c.number) (sym same ∙ is)))
        ]
      ];
      only = λ number granted. elim (true_or_false (is_listed (part commit.grant) number)) [
        | inl listed ↦ record { commit = commit; among = at_seam opens [] commit; has = listed }
        | inr apart ↦
            let it = fits.only number
            (sym (granted_others old new (length (part commit.grant)) (part commit.grant) grants number apart) ∙ granted) in
            record { commit = it.commit; among = in_left opens (commit ∷ []) it.commit it.among; has = it.has }
      ];
    }

  -- one is taken out, whose numbers are not granted any more, and all others as they were
  module _ (number_out : ℕ) (own : IsOpenNumbered opens number_out)
      (gone : (number : ℕ) → HasGranted part own.commit number → status_of new number ≡ Some Granted → ⊥)
      (kept : (number : ℕ) → is_listed (part own.commit.grant) number ≡ false → status_of old number ≡ Some Granted → status_of new number ≡ Some Granted)
      (back : (number : ℕ) → is_listed (part own.commit.grant) number ≡ false → status_of new number ≡ Some Granted → status_of old number ≡ Some Granted)
    where
      was_one : (one : ReservedCommit) → IsOneOf (commits_but number_out opens) one → IsOneOf opens one × (one.number ≢ number_out)
      was_one one among =
          let is = in_filter (is_numbered_otherwise number_out) opens one among in
          (is.0, other_by_test one.number number_out (not_true (nat_eq one.number number_out) is.1))

      pub out_fits : AreGranted part (commits_but number_out opens) new
      out_fits = record {
        own = λ one number among has.
            let was = was_one one among in
            kept number
            (fits.apart one own.commit number was.0 own.among (λ e. was.1 (e ∙ own.number_is)) has) (fits.own one number was.0 has);
        apart = λ one other number among there differ has. fits.apart one other number (was_one one among).0 (was_one other there).0 differ has;
        only = λ number granted.
            let away = not_true_so (is_listed (part own.commit.grant) number) (λ listed. gone number listed granted) in
            let it = fits.only number (back number away granted) in
            record {
              commit = it.commit;
              among = to_filter (is_numbered_otherwise number_out) opens it.commit it.among
                  (ap not (not_same it.commit.number number_out
                  (λ e. not_both it.has
                  (subst (λ (c : ReservedCommit). is_listed (part c.grant) number ≡ false)
                  (same_commit opens once own.commit it.commit own.among it.among (own.number_is ∙ sym e)) away))));
              has = it.has;
            };
      }

  pub return_fits : (number_out : ℕ) (own : IsOpenNumbered opens number_out) → BecomeAll Free (part own.commit.grant) old new
      → AreGranted part (commits_but number_out opens) new
  return_fits number_out own back =
      out_fits number_out own (λ number has. returned_own old new (part own.commit.grant) back number has)
      (λ number away was. returned_others old new (part own.commit.grant) back number away ∙ was)
      (λ number away now. sym (returned_others old new (part own.commit.grant) back number away) ∙ now)

  pub end_fits_granted : (number_out : ℕ) (own : IsOpenNumbered opens number_out)
      → Ends (part own.commit.grant) (part own.commit.gives_up) old new → AreGranted part (commits_but number_out opens) new
  end_fits_granted number_out own end =
      out_fits number_out own (λ number has. ended_own old new (part own.commit.grant) (part own.commit.gives_up) end number has)
      (λ number away was. ends_leave_others (part own.commit.grant) (part own.commit.gives_up) old new number end away was)
      (λ number away now. ended_others old new (part own.commit.grant) (part own.commit.gives_up) end number away now)

-- a commit that gives up something was granted the same
pub giving_grant : (number : ℕ) (numbers : GrantedNumbers) (one : ReservedCommit) → (giving_up number numbers one).grant ≡ one.grant
giving_grant number numbers one = by (is_numbered number one)
  where
    by : (b : Bool) → (cond b (record one { gives_up = numbers }) one).grant ≡ one.grant
    by true = refl
    by false = refl

pub giving_fits : (part : GrantedNumbers → List ℕ) (opens : List ReservedCommit) (pool : Pool) (number : ℕ) (numbers : GrantedNumbers)
    → AreGranted part opens pool → AreGranted part (map (giving_up number numbers) opens) pool
giving_fits part opens pool number numbers fits = record {
  own = λ one n among has.
      let was = from_map (giving_up number numbers) opens one among in
      fits.own was.0 n was.1 (had was.0 one n was.2 has);
  apart = λ one other n among there differ has.
      let was = from_map (giving_up number numbers) opens one among in
      let too = from_map (giving_up number numbers) opens other there in
      subst (λ (g : GrantedNumbers). is_listed (part g) n ≡ false)
      (sym (giving_grant number numbers too.0) ∙ ap (λ (c : ReservedCommit). c.grant) too.2)
      (fits.apart was.0 too.0 n was.1 too.1
      (λ e. differ (sym (number_was was.0 one was.2) ∙ e ∙ number_was too.0 other too.2)) (had was.0 one n was.2 has));
  only = λ n granted.
      let it = fits.only n granted in
      record {
        commit = giving_up number numbers it.commit;
        among = to_map (giving_up number numbers) opens it.commit it.among;
        has = subst (λ (g : GrantedNumbers). is_listed (part g) n ≡ true) (sym (giving_grant number numbers it.commit)) it.has;
      };
}
  where
    had : (was one : ReservedCommit) (n : ℕ) → giving_up number numbers was ≡ one → HasGranted part one n → HasGranted part was n
    had was one n e has =
        subst (λ (g : GrantedNumbers). is_listed (part g) n ≡ true)
        (ap (λ (c : ReservedCommit). c.grant) (sym e) ∙ giving_grant number numbers was) has

    number_was : (was one : ReservedCommit) → giving_up number numbers was ≡ one → was.number ≡ one.number
    number_was was one e = sym (giving_number number numbers was) ∙ ap (λ (c : ReservedCommit). c.number) e
