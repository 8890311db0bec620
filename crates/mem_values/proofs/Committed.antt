-- The commits of a lawful log, as they came.
use Rattle.std.specs.List.{cons_option}
use Rattle.std.proofs.Common.{◌≡◌, ◌≤◌, ◌∷◌, ◌++◌, ◌⊎◌, ◌∙◌, ℕ, List, [], length, Option, Some, None, inl, inr, refl, sym, ap, subst, append_assoc, arith, ⊎_elim, length-append}
use Rattle.std.proofs.lemmas.List.Elements.{filter_map-append}
use Rattle.sfs_base.proofs.BasicOptions.{some_same}
use Rattle.tree_laws.specs.Tree.{TreeState}
use Rattle.disk_nodes.specs.OldKept.{OldKept}
use Rattle.cut_laws.specs.Rules.{IsOneOf}
use Rattle.cut_laws.proofs.Basics.{in_left, in_right}
use Rattle.stamp_table.specs.declared.event.Event.{Event}
use Rattle.stamp_table.specs.declared.event.Event.TheVariants.{Called, Told}
use Rattle.stamp_table.specs.Events.{called, calls_in}
use Rattle.mem_values.specs.declared.fact.Fact.{Fact}
use Rattle.mem_values.specs.declared.fact.Fact.TheVariants.{Committed, Trimmed}
use Rattle.mem_values.specs.declared.fact.HeldNode.{HeldNode}
use Rattle.mem_values.specs.Account.{Commitment, commit_told, account_of, held_by}
use Rattle.mem_values.specs.Facts.{RaisesMember, MayBeCommitted, MayStandAfter, AreLawfulBehind, IsLawfulLog}
use Rattle.mem_values.proofs.Told.{found_of, commits_of}

-- a commit came behind a beginning of a log
pub record CameBehind (given : ℕ → Option OldKept) (first : TreeState) (log : List (Event Fact)) (commit : Commitment) : Type 0 where
  pub earlier : List (Event Fact)
  pub rest : List (Event Fact)
  pub log_is : earlier ++ rest ≡ log
  pub may : MayBeCommitted given first (account_of earlier) commit

one_of_first : (o : Option Commitment) (rest : List Commitment) (commit : Commitment) → IsOneOf (cons_option o rest) commit
    → (o ≡ Some commit) ⊎ IsOneOf rest commit
one_of_first None rest commit among = inr among
one_of_first (Some c) rest commit among = elim among [ inl here ↦ inl (ap Some here) | inr there ↦ inr there ]

module _ (given : ℕ → Option OldKept) (first : TreeState) where
  -- what a commit asks, behind a log
  commit_asks : (before : List (Event Fact)) (event : Event Fact) (commit : Commitment) → MayStandAfter given first (account_of before) event
      → commit_told event ≡ Some commit → MayBeCommitted given first (account_of before) commit
  commit_asks before (Called entry) commit may is = absurd (cc (is))
  commit_asks before (Told by (Trimmed number part)) commit may is = absurd (cc (is))
  commit_asks before (Told by (Committed number node stamp members held)) commit may is = let same = some_same is in
      subst (λ c. MayBeCommitted given first (account_of before) c) same may

  came_behind : (before rest : List (Event Fact)) (commit : Commitment) → AreLawfulBehind given first before rest → IsOneOf (commits_of rest) commit
      → CameBehind given first (before ++ rest) commit
  came_behind before [] commit lawful among = absurd among
  came_behind before (event ∷ rest) commit lawful among = ⊎_elim
      (λ here. record { earlier = before; rest = event ∷ rest; log_is = refl; may = commit_asks before event commit lawful.0 here })
      (λ there. subst (λ l. CameBehind given first l commit) (append_assoc before (event ∷ []) rest)
      (came_behind (before ++ event ∷ []) rest commit lawful.1 there))
      (one_of_first (commit_told event) (commits_of rest) commit among)

  -- each commit of a lawful log came behind a beginning of it
  pub came : (log : List (Event Fact)) (commit : Commitment) → IsLawfulLog given first log → IsOneOf (commits_of log) commit → CameBehind given first log commit
  came log commit lawful among = came_behind [] log commit lawful among

  -- a cut that it wrote is not above the calls
  pub cuts_within : (log : List (Event Fact)) (commit : Commitment) (directory : ℕ) (held : HeldNode) → IsLawfulLog given first log
      → IsOneOf (commits_of log) commit → held_by commit directory ≡ Some held → held.new_cut.0 ≤ length (calls_in log)
  cuts_within log commit directory held lawful among is =
      let c = came log commit lawful among in
      let w = (c.may.holds held (found_of directory commit.held held is).0).within in
      let l = ap length (sym (filter_map-append called c.earlier c.rest) ∙ ap calls_in c.log_is) in
      let m = length-append (calls_in c.earlier) (calls_in c.rest) in omega (arith, w, l, m)

  -- it raised its members
  pub raised : (log : List (Event Fact)) (commit : Commitment) (directory : ℕ) → IsLawfulLog given first log → IsOneOf (commits_of log) commit
      → IsOneOf commit.members directory → RaisesMember commit directory
  raised log commit directory lawful among member = (came log commit lawful among).may.raises directory member

  -- a later commit of its core has another number
  fresh_behind : (before rest : List (Event Fact)) (x y : Commitment) → AreLawfulBehind given first before rest → IsOneOf (commits_of before) x
      → IsOneOf (commits_of rest) y → x.core ≡ y.core → x.number ≡ y.number → ⊥
  fresh_behind before [] x y lawful old new core number = new
  fresh_behind before (event ∷ rest) x y lawful old new core number = ⊎_elim
      (λ here. (commit_asks before event y lawful.0 here).fresh x old core number)
      (λ there. fresh_behind (before ++ event ∷ []) rest x y lawful.1
      (subst (λ l. IsOneOf l x) (sym (filter_map-append commit_told before (event ∷ []))) (in_left (commits_of before) (commits_of (event ∷ [])) x old))
      there core number)
      (one_of_first (commit_told event) (commits_of rest) y new)

  here_now : (before : List (Event Fact)) (event : Event Fact) (x : Commitment) → commit_told event ≡ Some x → IsOneOf (commits_of (before ++ event ∷ [])) x
  here_now before event x is =
      subst (λ l. IsOneOf l x) (sym (filter_map-append commit_told before (event ∷ [])))
      (in_right (commits_of before) (commits_of (event ∷ [])) x (subst (λ o. IsOneOf (cons_option o []) x) (sym is) (inl refl)))

  one_behind : (before rest : List (Event Fact)) (x y : Commitment) → AreLawfulBehind given first before rest → IsOneOf (commits_of rest) x
      → IsOneOf (commits_of rest) y → x.core ≡ y.core → x.number ≡ y.number → x ≡ y
  one_behind before [] x y lawful one two core number = absurd one
  one_behind before (event ∷ rest) x y lawful one two core number = elim (one_of_first (commit_told event) (commits_of rest) x one) [
    | inl x_here ↦ elim (one_of_first (commit_told event) (commits_of rest) y two) [
      | inl y_here ↦ some_same (sym x_here ∙ y_here)
      | inr y_there ↦ absurd (fresh_behind (before ++ event ∷ []) rest x y lawful.1 (here_now before event x x_here) y_there core number)
    ]
    | inr x_there ↦ elim (one_of_first (commit_told event) (commits_of rest) y two) [
      | inl y_here ↦ absurd (fresh_behind (before ++ event ∷ []) rest y x lawful.1 (here_now before event y y_here) x_there (sym core) (sym number))
      | inr y_there ↦ one_behind (before ++ event ∷ []) rest x y lawful.1 x_there y_there core number
    ]
  ]

  -- a core and a number name one commit of a lawful log
  pub one_commit : (log : List (Event Fact)) (x y : Commitment) → IsLawfulLog given first log → IsOneOf (commits_of log) x → IsOneOf (commits_of log) y
      → x.core ≡ y.core → x.number ≡ y.number → x ≡ y
  one_commit log x y lawful one two core number = one_behind [] log x y lawful one two core number
