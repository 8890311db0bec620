-- What follows where a ledger is what labels have told.
use Rattle.std.specs.Prelude.{find, option_map, is_some}
use Rattle.std.specs.List.{AllByRecursion}
use Rattle.std.proofs.Common.{◌≡◌, ◌∷◌, ◌<◌, ◌≤◌, ◌&&◌, ◌||◌, ◌∙◌, ℕ, Bool, true, false, cond, List, [], length, Option, Some, None, inl, inr, refl, sym, ap, subst, nat_eq}
use Rattle.std.proofs.lemmas.Bool.{eqb-true, cases_lt}
use Rattle.std.proofs.lemmas.List.{get_or_past}
use Rattle.std.proofs.lemmas.List.Elements.{All-from_recursion}
use Rattle.sfs_base.specs.Listed.{is_listed}
use Rattle.sfs_base.proofs.BasicTruth.{true_not_false, and_first, and_second, not_false}
use Rattle.sfs_base.proofs.BasicNumbers.{same_number}
use Rattle.sfs_base.proofs.BasicOptions.{none_some, some_same}
use Rattle.space_map.specs.declared.status.Status.TheVariants.{Granted}
use Rattle.space_map.specs.Pool.{Pool, status_of}
use Rattle.space_map.specs.Space.{GrantedNumbers, AllGranted}
use Rattle.cut_laws.specs.Rules.{IsOneOf}
use Rattle.slot_laws.specs.declared.label.Seen.{Seen}
use Rattle.slot_laws.specs.Nodes.{LastCommit, ReservedCommit, no_last, last_ended, last_seen}
use Rattle.slot_laws.specs.Labels.{BoxPast}
use Rattle.slot_laws.specs.Grants.{AreGranted, inodes_granted, blocks_granted}
use Rattle.slot_laws.proofs.Numbered.{find_split, at_seam}
use Rattle.slot_laws.proofs.GrantsHeld.{same_commit}
use Rattle.commit_ledger.specs.View.{DebtView, OpenView, LedgerView, last_in, open_in, is_moved, as_it_is, HaveNodePlaces}
use Rattle.commit_ledger.specs.Keeps.{LedgerKeeps, IsTold, HasDebt, Owes}
use Rattle.commit_ledger.specs.Calls.{HasOpen, IsOut}
use Rattle.commit_ledger.specs.Laws.{QuietLabelsKeepIt, UnmovedAreAsSeen, IsToldOnce, OpenOnesAreToldOnce, OpenOnesHavePlaces, GrantedMayReturn, BegunMayEnd}

pub quiet_labels_keep_it : QuietLabelsKeepIt
quiet_labels_keep_it ledger old new same keeps = record {
  commits = keeps.commits ∙ sym same.commits;
  lasts = λ node. keeps.lasts node ∙ ap (λ (l : ℕ → LastCommit). l node) (sym same.lasts);
  opens = λ core one there. subst (λ (l : List ReservedCommit). IsTold l one) (sym same.opens) (keeps.opens core one there);
  apart = keeps.apart;
  grants = rw same.opens keeps.grants;
  fits = rw (same.lasts, same.opens, same.done, same.commits) keeps.fits;
}

-- what was seen of a node that has not moved is its last commit, which has ended
module _ (ledger : LedgerView) where
  as_seen : (one : Seen) → is_moved ledger one ≡ false → last_in ledger one.node.0 ≡ last_ended one.last
  as_seen one still =
      let last = last_in ledger one.node.0 in
      let both = not_false (last.ended && nat_eq last.number one.last) still in
      let number = eqb-true last.number one.last (and_second last.ended (nat_eq last.number one.last) both) in
      let ended = and_first last.ended (nat_eq last.number one.last) both in
      λ i. record { number = number i; ended = ended i }

  all_as_seen : (seen : List Seen) → find (is_moved ledger) seen ≡ None → (node last : ℕ) → last_seen seen node ≡ Some last
      → last_in ledger node ≡ last_ended last
  all_as_seen [] none node last is = absurd (none_some is)
  all_as_seen (one ∷ rest) none node last is =
      elim (is_moved ledger one) as (λ b. is_moved ledger one ≡ b → cond b (Some one) (find (is_moved ledger) rest) ≡ None
      → last_in ledger node ≡ last_ended last) [
        | true ↦ λ moved never. absurd (none_some (sym never))
        | false ↦ λ still later.
            elim (nat_eq one.node.0 node) as (λ b. nat_eq one.node.0 node ≡ b
            → option_map (λ (s : Seen). s.last) (cond b (Some one) (find (λ (s : Seen). nat_eq s.node.0 node) rest)) ≡ Some last
            → last_in ledger node ≡ last_ended last) [
              | true ↦ λ same found.
                  subst (λ (n : ℕ). last_in ledger n ≡ last_ended last) (eqb-true one.node.0 node same)
                  (as_seen one still ∙ ap last_ended (some_same found))
              | false ↦ λ apart found. all_as_seen rest later node last found
            ] refl is
      ] refl none

-- nothing is found where nothing is made of it
none_found : (f : Seen → Seen) (o : Option Seen) → option_map f o ≡ None → o ≡ None
none_found f None e = refl
none_found f (Some one) e = absurd (none_some (sym e))

pub unmoved_are_as_seen : UnmovedAreAsSeen
unmoved_are_as_seen ledger past seen keeps none node last is =
    sym (keeps.lasts node) ∙ all_as_seen ledger seen (none_found (as_it_is ledger) (find (is_moved ledger) seen) none) node last is

-- each node of a list passes, where each that the list has passes
seen_pass : (n : ℕ) (seen : List Seen) → ((node : ℕ) → is_some (last_seen seen node) ≡ true → node < n)
    → AllByRecursion (λ (one : Seen). one.node.0 < n) seen
seen_pass n [] pass = tt
seen_pass n (one ∷ rest) pass = (
  pass one.node.0
      (ap (λ (b : Bool). is_some (option_map (λ (s : Seen). s.last) (cond b (Some one) (find (λ (s : Seen). nat_eq s.node.0 one.node.0) rest))))
      (same_number one.node.0)),
  seen_pass n rest
      (λ node held. pass node
      (elim (nat_eq one.node.0 node) as (λ b. is_some (option_map (λ (s : Seen). s.last) (cond b (Some one) (find (λ (s : Seen). nat_eq s.node.0 node) rest))) ≡ true) [
        | true ↦ refl
        | false ↦ held
      ])),
)

module _ (ledger : LedgerView) (past : BoxPast) (keeps : LedgerKeeps ledger past) (core : ℕ) (one : OpenView) (there : open_in ledger core ≡ Some one) where
  -- the open commit that was told with the number of a core's is the core's
  pub told_is : (commit : ReservedCommit) → IsOneOf past.opens commit → commit.number ≡ one.number → (keeps.opens core one there).commit ≡ commit
  told_is commit among number_is =
      let told = keeps.opens core one there in
      same_commit past.opens keeps.fits.once told.commit commit told.among among (told.number_is ∙ sym number_is)

  -- its nodes count as its own
  pub counts_own : (node : ℕ) → is_some (last_seen one.seen node) ≡ true → past.lasts node ≡ record { number = one.number; ended = false }
  counts_own node held =
      let told = keeps.opens core one there in
      keeps.fits.counts told.commit node told.among (subst (λ (seen : List Seen). is_some (last_seen seen node) ≡ true) (sym told.seen_is) held)
      ∙ ap (λ (n : ℕ). record { number = n; ended = false }) told.number_is

  open_places : HaveNodePlaces ledger.lasts one.seen
  open_places =
      All-from_recursion (λ (seen : Seen). seen.node.0 < length ledger.lasts) one.seen
      (seen_pass (length ledger.lasts) one.seen
      (λ node held. elim (cases_lt node (length ledger.lasts)) [
        | inl within ↦ within
        | inr beyond ↦
            absurd
            (true_not_false
            (ap (λ (l : LastCommit). l.ended)
            (sym (get_or_past ledger.lasts node no_last beyond) ∙ keeps.lasts node ∙ counts_own node held)))
      ]))

  abbrev has_open : HasOpen core ledger
  has_open = record { one = one; there = there; places = open_places }

  told_once : IsToldOnce one past
  told_once =
      let told = keeps.opens core one there in
      elim (find_split one.number past.opens keeps.fits.once) [
        | inl split ↦ record {
          commit = split.one;
          alone = split.own;
          seen_is =
              ap (λ (c : ReservedCommit). c.seen)
              (sym (told_is split.one
              (subst (λ (l : List ReservedCommit). IsOneOf l split.one) (sym split.whole) (at_seam split.before split.behind split.one)) split.number_is))
              ∙ told.seen_is;
          given = subst (λ (n : ℕ). n ≤ past.commits) told.number_is (keeps.fits.given told.commit told.among);
        }
        | inr lacks ↦ absurd (lacks.none told.commit told.among told.number_is)
      ]

pub open_ones_are_told_once : OpenOnesAreToldOnce
open_ones_are_told_once ledger past core one keeps there = told_once ledger past keeps core one there

pub open_ones_have_places : OpenOnesHavePlaces
open_ones_have_places ledger past core one keeps there = has_open ledger past keeps core one there

-- each number of a list passes, where each that is listed does
pub all_listed : (P : ℕ → Type 0) (numbers : List ℕ) → ((number : ℕ) → is_listed numbers number ≡ true → P number) → AllByRecursion P numbers
all_listed P [] each = tt
all_listed P (first ∷ rest) each = (
  each first (ap (λ (b : Bool). b || is_listed rest first) (same_number first)),
  all_listed P rest (λ number listed. each number
      (elim (nat_eq first number) as (λ b. (b || is_listed rest number) ≡ true) [
        | true ↦ refl
        | false ↦ listed
      ])),
)

-- what an open commit was granted is out
granted_out : (part : GrantedNumbers → List ℕ) (opens : List ReservedCommit) (pool : Pool) (commit : ReservedCommit) → AreGranted part opens pool
    → IsOneOf opens commit → AllGranted pool (part commit.grant)
granted_out part opens pool commit fits among =
    All-from_recursion (λ (number : ℕ). status_of pool number ≡ Some Granted) (part commit.grant)
    (all_listed (λ (number : ℕ). status_of pool number ≡ Some Granted) (part commit.grant) (λ number listed. fits.own commit number among listed))

is_out : (ledger : LedgerView) (past : BoxPast) (commit : ReservedCommit) → LedgerKeeps ledger past → IsOneOf past.opens commit
    → IsOut ledger.space commit.grant
is_out ledger past commit keeps among = record {
  inodes = granted_out inodes_granted past.opens ledger.space.inodes commit keeps.grants.inodes among;
  blocks = granted_out blocks_granted past.opens ledger.space.blocks commit keeps.grants.blocks among;
}

pub granted_may_return : GrantedMayReturn
granted_may_return ledger past core one grant keeps there none granted = record {
  entered = record { own = has_open ledger past keeps core one there; none = none };
  out = subst (IsOut ledger.space) granted.grant_is (is_out ledger past granted.commit keeps granted.among);
}

-- what a commit with a debt owes
pub owes_debt : (due : Option DebtView) (debt : DebtView) (commit : ReservedCommit) → due ≡ Some debt → Owes due commit → HasDebt debt commit
owes_debt due debt commit is owes = subst (λ (d : Option DebtView). Owes d commit) is owes

pub begun_may_end : BegunMayEnd
begun_may_end ledger past core one debt keeps there owes =
    let told = keeps.opens core one there in
    record {
      own = has_open ledger past keeps core one there;
      debt = debt;
      owes = owes;
      out = subst (IsOut ledger.space) (owes_debt one.debt debt told.commit owes told.owes).grant (is_out ledger past told.commit keeps told.among);
    }
