-- What a fact more adds to what a log has.
use Rattle.std.specs.Prelude.{Vec}
use Rattle.std.specs.List.{cons_option}
use Rattle.std.specs.Option.{option_or}
use Rattle.std.specs.declared.alloc.Global.{Global}
use mathlib.Core.List.{IsPrefix}
use Rattle.std.proofs.Common.{◌≡◌, ◌≤◌, ◌==◌, ◌∷◌, ◌++◌, ◌⊎◌, ◌∙◌, if◌then◌else◌, ℕ, Bool, List, [], length, filter, filter_map, Option, Some, None, inl, inr, refl, sym, ap, subst, append-nil, append_assoc, length-append, eq-eqb, arith, ⊎_elim, find, eqb-true}
use Rattle.std.proofs.lemmas.Bool.{cases_Bool}
use Rattle.std.proofs.lemmas.List.Elements.{filter_map-append}
use Rattle.sfs_base.specs.declared.numbers.NodeId.{NodeId}
use Rattle.sfs_base.specs.declared.numbers.Stamp.{Stamp}
use Rattle.sfs_base.specs.declared.numbers.CoreId.{CoreId}
use Rattle.tree_laws.specs.Tree.{TreeState}
use Rattle.disk_nodes.specs.OldKept.{OldKept}
use Rattle.cut_laws.specs.Rules.{IsOneOf}
use Rattle.cut_laws.proofs.Basics.{in_left}
use Rattle.stamp_table.specs.declared.event.Event.{Event}
use Rattle.stamp_table.specs.declared.event.Event.TheVariants.{Called, Told}
use Rattle.stamp_table.specs.Rule.{is_by, entries_by}
use Rattle.stamp_table.specs.Events.{event_core, called, calls_in}
use Rattle.mem_values.specs.declared.fact.Fact.{Fact}
use Rattle.mem_values.specs.declared.fact.Fact.TheVariants.{Committed, Trimmed}
use Rattle.mem_values.specs.declared.fact.HeldNode.{HeldNode}
use Rattle.mem_values.specs.Account.{Account, Commitment, Trimming, commit_told, trimming_told, account_of, held_by, writes_by, last_writer, is_held_of}
use Rattle.mem_values.specs.Facts.{HasFsync, MayStandAfter, AreLawfulBehind, IsLawfulLog}
use Rattle.mem_values.specs.Telling.{commit_by}

-- an account with a commit more, or a trimming more
abbrev pub with_commit : Account → Commitment → Account
with_commit account commit = record account { commits = account.commits ++ commit ∷ [] }

abbrev pub with_trimming : Account → Trimming → Account
with_trimming account trimming = record account { trimmings = account.trimmings ++ trimming ∷ [] }

pub account_committed : (log : List (Event Fact)) (core : CoreId) (number : ℕ) (node : NodeId) (stamp : Stamp) (members : Vec NodeId Global)
    (held : Vec HeldNode Global)
    → account_of (log ++ Told core (Committed number node stamp members held) ∷ [])
    ≡ with_commit (account_of log) (commit_by core.0 number node stamp members held)
account_committed log core number node stamp members held = let event : Event Fact = Told core (Committed number node stamp members held) in λ i. record {
  calls = (filter_map-append called log (event ∷ []) ∙ append-nil (calls_in log)) i;
  commits = filter_map-append commit_told log (event ∷ []) i;
  trimmings = (filter_map-append trimming_told log (event ∷ []) ∙ append-nil (filter_map trimming_told log)) i;
}

pub account_trimmed : (log : List (Event Fact)) (core : CoreId) (number : ℕ) (part : CoreId)
    → account_of (log ++ Told core (Trimmed number part) ∷ []) ≡ with_trimming (account_of log) (record { core = core.0; number = number; part = part.0 })
account_trimmed log core number part = let event : Event Fact = Told core (Trimmed number part) in λ i. record {
  calls = (filter_map-append called log (event ∷ []) ∙ append-nil (calls_in log)) i;
  commits = (filter_map-append commit_told log (event ∷ []) ∙ append-nil (filter_map commit_told log)) i;
  trimmings = filter_map-append trimming_told log (event ∷ []) i;
}

module _ {X : Type 0} where
  one_of_rest : (o : Option X) (xs : List X) (x : X) → IsOneOf xs x → IsOneOf (cons_option o xs) x
  one_of_rest None xs x among = among
  one_of_rest (Some y) xs x among = inr among

  one_of_both : (o : Option X) (xs ys : List X) (x : X) → (IsOneOf xs x → IsOneOf ys x) → IsOneOf (cons_option o xs) x → IsOneOf (cons_option o ys) x
  one_of_both None xs ys x more among = more among
  one_of_both (Some y) xs ys x more among = elim among [ inl here ↦ inl here | inr there ↦ inr (more there) ]

  -- what is found in some events is found in all of them
  pub one_of_some : (f : Event Fact → Option X) (p : Event Fact → Bool) (log : List (Event Fact)) (x : X) → IsOneOf (filter_map f (filter p log)) x
      → IsOneOf (filter_map f log) x
  one_of_some f p [] x among = among
  one_of_some f p (event ∷ log) x among = ⊎_elim
      (λ is. one_of_both (f event) (filter_map f (filter p log)) (filter_map f log) x (one_of_some f p log x)
      (subst (λ b. IsOneOf (filter_map f (Rattle.std.specs.Prelude.if◌then◌else◌ b (event ∷ filter p log) (filter p log))) x) is among))
      (λ not. one_of_rest (f event) (filter_map f log) x
      (one_of_some f p log x
      (subst (λ b. IsOneOf (filter_map f (Rattle.std.specs.Prelude.if◌then◌else◌ b (event ∷ filter p log) (filter p log))) x) not among)))
      (cases_Bool (p event))

-- an fsync among a core's own calls is one of the history
pub fsync_there : (log : List (Event Fact)) (core node stamp : ℕ) (mine : List (Event Fact)) → mine ≡ entries_by event_core core log
    → HasFsync (calls_in mine) core node stamp → HasFsync (calls_in log) core node stamp
fsync_there log core node stamp mine is fsync = record {
  entry = fsync.entry;
  among = one_of_some called (is_by event_core core) log fsync.entry (subst (λ l. IsOneOf (calls_in l) fsync.entry) is fsync.among);
  own = fsync.own;
  stamped = fsync.stamped;
  fsync = fsync.fsync;
  waits = fsync.waits;
}

-- a commit of a core stands among the core's own events
pub own_commit : (log : List (Event Fact)) (core : ℕ) (commit : Commitment) → IsOneOf (filter_map commit_told log) commit → commit.core ≡ core
    → IsOneOf (filter_map commit_told (entries_by event_core core log)) commit
own_commit [] core commit among own = among
own_commit (Called entry ∷ log) core commit among own = let r = own_commit log core commit among own in
    ⊎_elim (λ is. rw is r) (λ not. rw not r) (cases_Bool (entry.core.0 == core))
own_commit (Told by (Trimmed number part) ∷ log) core commit among own = let r = own_commit log core commit among own in
    ⊎_elim (λ is. rw is r) (λ not. rw not r) (cases_Bool (by.0 == core))
own_commit (Told by (Committed number node stamp members held) ∷ log) core commit among own = elim among [
  | inl here ↦ rw (eq-eqb by.0 core (ap (λ (c : Commitment). c.core) here ∙ own)) (inl here)
  | inr there ↦ let r = own_commit log core commit there own in ⊎_elim (λ is. rw is (inr r)) (λ not. rw not r) (cases_Bool (by.0 == core))
]

-- a longer history has as many calls at least
pub calls_grow : (seen log : List (Event Fact)) → IsPrefix seen log → length (calls_in seen) ≤ length (calls_in log)
calls_grow seen log prefix = let l = ap length (sym (filter_map-append called seen prefix.0) ∙ ap calls_in prefix.1) in
    let m = length-append (calls_in seen) (calls_in prefix.0) in omega (arith, l, m)

-- the commit of a trimming stands in a lawful log
pub record HasCommit (commits : List Commitment) (core number : ℕ) : Type 0 where
  pub commit : Commitment
  pub among : IsOneOf commits commit
  pub own : commit.core ≡ core
  pub numbered : commit.number ≡ number

abbrev pub commits_of : List (Event Fact) → List Commitment
commits_of log = filter_map commit_told log

commit_later : (before rest : List (Event Fact)) (core number : ℕ) → HasCommit (commits_of before) core number
    → HasCommit (commits_of (before ++ rest)) core number
commit_later before rest core number has = record {
  commit = has.commit;
  among =
      subst (λ l. IsOneOf l has.commit) (sym (filter_map-append commit_told before rest)) (in_left (commits_of before) (commits_of rest) has.commit has.among);
  own = has.own;
  numbered = has.numbered;
}

module _ (given : ℕ → Option OldKept) (first : TreeState) where
  -- what a trimming asks, behind a log
  trimming_asks : (before : List (Event Fact)) (event : Event Fact) (trimming : Trimming) → MayStandAfter given first (account_of before) event
      → trimming_told event ≡ Some trimming → HasCommit (commits_of before) trimming.core trimming.number
  trimming_asks before (Called entry) trimming may is = absurd (cc (is))
  trimming_asks before (Told by (Committed number node stamp members held)) trimming may is = absurd (cc (is))
  trimming_asks before (Told by (Trimmed number part)) trimming may is =
      let same : record { core = by.0; number = number; part = part.0 } ≡ trimming = cc (is) in
      record {
        commit = may.commit;
        among = may.among;
        own = may.own ∙ ap (λ (t : Trimming). t.core) same;
        numbered = may.numbered ∙ ap (λ (t : Trimming). t.number) same;
      }

  one_of_first : (o : Option Trimming) (rest : List Trimming) (trimming : Trimming) → IsOneOf (cons_option o rest) trimming
      → (o ≡ Some trimming) ⊎ IsOneOf rest trimming
  one_of_first None rest trimming among = inr among
  one_of_first (Some t) rest trimming among = elim among [ inl here ↦ inl (ap Some here) | inr there ↦ inr there ]

  commit_before : (before rest : List (Event Fact)) (trimming : Trimming) → AreLawfulBehind given first before rest
      → IsOneOf (filter_map trimming_told rest) trimming → HasCommit (commits_of (before ++ rest)) trimming.core trimming.number
  commit_before before [] trimming lawful among = absurd among
  commit_before before (event ∷ rest) trimming lawful among = ⊎_elim
      (λ here. commit_later before (event ∷ rest) trimming.core trimming.number (trimming_asks before event trimming lawful.0 here))
      (λ there. subst (λ l. HasCommit (commits_of l) trimming.core trimming.number) (append_assoc before (event ∷ []) rest)
      (commit_before (before ++ event ∷ []) rest trimming lawful.1 there))
      (one_of_first (trimming_told event) (filter_map trimming_told rest) trimming among)

  -- each trimming of a lawful log is for a commit of it
  pub trimmed_commit : (log : List (Event Fact)) (trimming : Trimming) → IsLawfulLog given first log → IsOneOf (filter_map trimming_told log) trimming
      → HasCommit (commits_of log) trimming.core trimming.number
  trimmed_commit log trimming lawful among = commit_before [] log trimming lawful among

module _ {X : Type 0} where
  or_end : (o : Option X) → option_or o None ≡ o
  or_end None = refl
  or_end (Some x) = refl

  or_more : (o p q : Option X) → option_or (option_or o p) q ≡ option_or o (option_or p q)
  or_more None p q = refl
  or_more (Some x) p q = refl

-- the last writer once a commit is added
pub last_writer-push : (node : ℕ) (commits : List Commitment) (commit : Commitment)
    → last_writer node (commits ++ commit ∷ []) ≡ option_or (writes_by commit (held_by commit node)) (last_writer node commits)
last_writer-push node [] commit = sym (or_end (writes_by commit (held_by commit node)))
last_writer-push node (c ∷ commits) commit =
    ap (λ o. option_or o (writes_by c (held_by c node))) (last_writer-push node commits commit)
    ∙ or_more (writes_by commit (held_by commit node)) (last_writer node commits) (writes_by c (held_by c node))

-- what is found by a test is one of the list
pub found_of : (node : ℕ) (held : List HeldNode) (h : HeldNode) → find (is_held_of node) held ≡ Some h → IsOneOf held h × (h.node.0 ≡ node)
found_of node [] h found = absurd (cc (found))
found_of node (x ∷ held) h found = ⊎_elim
    (λ is. let same : x ≡ h = cc (ap (λ b. if b then Some x else find (is_held_of node) held) is, found) in
    (inl same, ap (λ (z : HeldNode). z.node.0) (sym same) ∙ eqb-true x.node.0 node is))
    (λ not. let r = found_of node held h (sym (ap (λ b. if b then Some x else find (is_held_of node) held) not) ∙ found) in (inr r.0, r.1))
    (cases_Bool (is_held_of node x))
