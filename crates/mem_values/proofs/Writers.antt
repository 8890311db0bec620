-- The commits that hold one node, as they came.
use Rattle.std.specs.Option.{option_or}
use Rattle.std.specs.Prelude.{true, is_some}
use Rattle.std.proofs.Common.{◌++◌, ◌≡◌, ◌∙◌, ◌≤◌, ◌⊎◌, ◌<◌, ◌∷◌, List, ℕ, sym, ap, subst, Option, Some, length, [], inl, inr, None, arith, refl, append-nil, append_assoc}
use Rattle.std.proofs.lemmas.List.Elements.{filter_map-append}
use Rattle.sfs_base.proofs.BasicOptions.{some_same}
use Rattle.tree_laws.specs.declared.history.Entry.{Entry}
use Rattle.tree_laws.specs.Tree.{TreeState}
use Rattle.disk_nodes.specs.OldKept.{OldKept}
use Rattle.cut_laws.specs.Rules.{IsOneOf}
use Rattle.cut_laws.proofs.Basics.{in_left, in_either}
use Rattle.stamp_table.specs.Events.{calls_in, called}
use Rattle.stamp_table.specs.declared.event.Event.{Event}
use Rattle.stamp_table.specs.declared.event.Event.TheVariants.{Called, Told}
use Rattle.mem_values.specs.Facts.{HasFsync, IsBelowInodes, MayBeCommitted, MayHoldNode, MayStandAfter, AreLawfulBehind, IsLawfulLog}
use Rattle.mem_values.specs.Writers.{CommitsHaveFsyncs, Writes, WritersRise, NumbersNameWriters, EarlierWritersAreTrimmed, InodesStayBelow, RootIsKept}
use Rattle.mem_values.specs.Account.{Account, Commitment, last_writer, Trimming, held_by, writes_by, account_of}
use Rattle.mem_values.specs.declared.fact.HeldNode.{HeldNode}
use Rattle.mem_values.specs.Stands.{flushed_in, IsTrimmedFor, flushed_by, AreTrimmedFor}
use Rattle.mem_values.specs.declared.fact.Fact.{Fact}
use Rattle.mem_values.specs.declared.fact.Fact.TheVariants.{Committed, Trimmed}
use Rattle.mem_values.specs.Telling.{commit_by}
use Rattle.mem_values.proofs.Committed.{came}
use Rattle.mem_values.proofs.Told.{with_trimming, with_commit, last_writer-push, found_of, account_committed, account_trimmed}
use Rattle.mem_values.proofs.Pushes.{account_called}

pub fsync_later : (calls more : List Entry) (core node stamp : ℕ) → HasFsync calls core node stamp → HasFsync (calls ++ more) core node stamp
fsync_later calls more core node stamp has = record {
  entry = has.entry;
  among = in_left calls more has.entry has.among;
  own = has.own;
  stamped = has.stamped;
  fsync = has.fsync;
  waits = has.waits;
}

pub commits_have_fsyncs : CommitsHaveFsyncs
commits_have_fsyncs given first log commit lawful among =
    let c = came given first log commit lawful among in
    let whole : calls_in c.earlier ++ calls_in c.rest ≡ calls_in log = sym (filter_map-append called c.earlier c.rest) ∙ ap calls_in c.log_is in
    subst (λ l. HasFsync l commit.core commit.node commit.stamp) whole
    (fsync_later (calls_in c.earlier) (calls_in c.rest) commit.core commit.node commit.stamp c.may.own)

module _ (given : ℕ → Option OldKept) (first : TreeState) (node : ℕ) where
  abbrev IsBelowLast : Account → Commitment → HeldNode → Type 0
  IsBelowLast account commit held = (commit.number ≤ (flushed_in given account node).last) × (held.new_cut.0 ≤ (flushed_in given account node).cut)

  abbrev IsLastOrTrimmed : Account → Commitment → HeldNode → Type 0
  IsLastOrTrimmed account commit held = (last_writer node account.commits ≡ Some (commit, held))
      ⊎ ((member part : ℕ) → IsOneOf commit.members member → part < length first.made → IsTrimmedFor account commit part)

  -- what is so of the commits of an account that hold the node
  pub record AreSettled (account : Account) : Type 0 where
    pub rise : (commit : Commitment) (held : HeldNode) → Writes account node commit held → IsBelowLast account commit held
    pub once : (commit other : Commitment) (held theirs : HeldNode) → Writes account node commit held → Writes account node other theirs
        → commit.number ≡ other.number → commit ≡ other
    pub trimmed : (commit : Commitment) (held : HeldNode) → Writes account node commit held → IsLastOrTrimmed account commit held

  none_settled : (calls : List Entry) (trimmings : List Trimming) → AreSettled (record { calls = calls; commits = []; trimmings = trimmings })
  none_settled calls trimmings = record {
    rise = λ commit held writes. absurd writes.among;
    once = λ commit other held theirs writes too same. absurd writes.among;
    trimmed = λ commit held writes. absurd writes.among;
  }

  -- a call more changes nothing of it
  call_more : (account : Account) (calls : List Entry) → AreSettled account → AreSettled (record account { calls = calls })
  call_more account calls settled = record {
    rise = λ commit held writes. settled.rise commit held (record { among = writes.among; holds = writes.holds });
    once = λ commit other held theirs writes too same. settled.once commit other held theirs
        (record { among = writes.among; holds = writes.holds }) (record { among = too.among; holds = too.holds }) same;
    trimmed = λ commit held writes. settled.trimmed commit held (record { among = writes.among; holds = writes.holds });
  }

  -- nor does a trimming more
  trimming_more : (account : Account) (trimming : Trimming) → AreSettled account → AreSettled (with_trimming account trimming)
  trimming_more account trimming settled = record {
    rise = λ commit held writes. settled.rise commit held (record { among = writes.among; holds = writes.holds });
    once = λ commit other held theirs writes too same. settled.once commit other held theirs
        (record { among = writes.among; holds = writes.holds }) (record { among = too.among; holds = too.holds }) same;
    trimmed = λ commit held writes. elim (settled.trimmed commit held (record { among = writes.among; holds = writes.holds })) [
      | inl last ↦ inl last
      | inr all ↦ inr (λ member part has lt. in_left account.trimmings (trimming ∷ [])
          (record { core = commit.core; number = commit.number; part = part }) (all member part has lt))
    ];
  }

  module _ (account : Account) (new : Commitment) (may : MayBeCommitted given first account new) (settled : AreSettled account) where
    abbrev after : Account
    after = with_commit account new

    -- what the new commit holds of the node, if anything
    last_then : (o : Option HeldNode) → held_by new node ≡ o
        → last_writer node after.commits ≡ option_or (writes_by new o) (last_writer node account.commits)
    last_then o is = last_writer-push node account.commits new ∙ ap (λ h. option_or (writes_by new h) (last_writer node account.commits)) is

    hold_here : (h : HeldNode) → held_by new node ≡ Some h → MayHoldNode given first account new h × (h.node.0 ≡ node)
    hold_here h is = let there = found_of node new.held h is in (may.holds h there.0, there.1)

    -- the new commit's number is greater than the last one's
    above : (h : HeldNode) → held_by new node ≡ Some h
        → ((flushed_in given account node).last < new.number) × ((flushed_in given account node).cut ≤ h.new_cut.0)
    above h is = let here = hold_here h is in (
      subst (λ n. (flushed_in given account n).last < new.number) here.1 here.0.later,
      subst (λ n. (flushed_in given account n).cut ≤ h.new_cut.0) here.1 here.0.rises,
    )

    old_or_new : (commit : Commitment) (held : HeldNode) → Writes after node commit held
        → Writes account node commit held ⊎ ((commit ≡ new) × (held_by new node ≡ Some held))
    old_or_new commit held writes = elim (in_either account.commits (new ∷ []) commit writes.among) [
      | inl old ↦ inl (record { among = old; holds = writes.holds })
      | inr here ↦ elim here [
        | inl same ↦ inr (sym same, ap (λ c. held_by c node) same ∙ writes.holds)
        | inr none ↦ absurd none
      ]
    ]

    rise_by : (o : Option HeldNode) → held_by new node ≡ o → (commit : Commitment) (held : HeldNode)
        → Writes account node commit held ⊎ ((commit ≡ new) × (held_by new node ≡ Some held)) → IsBelowLast after commit held
    rise_by None is commit held (inl old) =
        subst (λ (w : Option (Commitment × HeldNode)). (commit.number ≤ (flushed_by given node w).last) × (held.new_cut.0 ≤ (flushed_by given node w).cut))
        (sym (last_then None is)) (settled.rise commit held old)
    rise_by None is commit held (inr here) = absurd (let never = sym is ∙ here.1 in cc never)
    rise_by (Some h) is commit held (inl old) =
        subst (λ (w : Option (Commitment × HeldNode)). (commit.number ≤ (flushed_by given node w).last) × (held.new_cut.0 ≤ (flushed_by given node w).cut))
        (sym (last_then (Some h) is))
        (let r = settled.rise commit held old in let a = above h is in
        ((let p = r.0 in let q = a.0 in omega (arith, p, q)), (let p = r.1 in let q = a.1 in omega (arith, p, q))))
    rise_by (Some h) is commit held (inr here) =
        let same : h ≡ held = some_same (sym is ∙ here.1) in
        subst (λ (w : Option (Commitment × HeldNode)). (commit.number ≤ (flushed_by given node w).last) × (held.new_cut.0 ≤ (flushed_by given node w).cut))
        (sym (last_then (Some h) is))
        ((let n = ap (λ (c : Commitment). c.number) here.0 in omega (arith, n)), (let n = ap (λ (x : HeldNode). x.new_cut.0) same in omega (arith, n)))

    -- one that came before has another number than the new one
    apart : (commit : Commitment) (held theirs : HeldNode) → Writes account node commit held → held_by new node ≡ Some theirs → commit.number ≡ new.number → ⊥
    apart commit held theirs old here same = let r = (settled.rise commit held old).0 in let a = (above theirs here).0 in omega (arith, r, a, same)

    trimmed_by : (o : Option HeldNode) → held_by new node ≡ o → (commit : Commitment) (held : HeldNode)
        → Writes account node commit held ⊎ ((commit ≡ new) × (held_by new node ≡ Some held)) → IsLastOrTrimmed after commit held
    trimmed_by None is commit held (inl old) = elim (settled.trimmed commit held old) [ inl last ↦ inl (last_then None is ∙ last) | inr all ↦ inr all ]
    trimmed_by None is commit held (inr here) = absurd (let never = sym is ∙ here.1 in cc never)
    trimmed_by (Some h) is commit held (inl old) = elim (settled.trimmed commit held old) [
      | inl last ↦
          let here = hold_here h is in
          inr (λ member part has lt. subst (λ n. AreTrimmedFor first account n) here.1 here.0.trimmed (commit, held) member last has part lt)
      | inr all ↦ inr all
    ]
    trimmed_by (Some h) is commit held (inr here) =
        inl (last_then (Some h) is ∙ (λ i. Some (sym here.0 i, (some_same (sym is ∙ here.1)) i)))

    commit_more : AreSettled after
    commit_more = record {
      rise = λ commit held writes. rise_by (held_by new node) refl commit held (old_or_new commit held writes);
      once = λ commit other held theirs writes too same. elim (old_or_new commit held writes) [
        | inl old ↦ elim (old_or_new other theirs too) [
          | inl older ↦ settled.once commit other held theirs old older same
          | inr here ↦ absurd (apart commit held theirs old here.1 (same ∙ ap (λ (c : Commitment). c.number) here.0))
        ]
        | inr now ↦ elim (old_or_new other theirs too) [
          | inl older ↦ absurd (apart other theirs held older now.1 (sym same ∙ ap (λ (c : Commitment). c.number) now.0))
          | inr here ↦ now.0 ∙ sym here.0
        ]
      ];
      trimmed = λ commit held writes. trimmed_by (held_by new node) refl commit held (old_or_new commit held writes);
    }

  event_more : (before : List (Event Fact)) (event : Event Fact) → MayStandAfter given first (account_of before) event → AreSettled (account_of before)
      → AreSettled (account_of (before ++ event ∷ []))
  event_more before (Called entry) may settled =
      subst AreSettled (sym (account_called before entry)) (call_more (account_of before) ((account_of before).calls ++ entry ∷ []) settled)
  event_more before (Told by (Committed number of stamp members held)) may settled =
      subst AreSettled (sym (account_committed before by number of stamp members held))
      (commit_more (account_of before) (commit_by by.0 number of stamp members held) may settled)
  event_more before (Told by (Trimmed number part)) may settled =
      subst AreSettled (sym (account_trimmed before by number part))
      (trimming_more (account_of before) (record { core = by.0; number = number; part = part.0 }) settled)

  settled_behind : (before rest : List (Event Fact)) → AreLawfulBehind given first before rest → AreSettled (account_of before)
      → AreSettled (account_of (before ++ rest))
  settled_behind before [] lawful settled = subst (λ l. AreSettled (account_of l)) (sym (append-nil before)) settled
  settled_behind before (event ∷ rest) lawful settled =
      subst (λ l. AreSettled (account_of l)) (append_assoc before (event ∷ []) rest)
      (settled_behind (before ++ event ∷ []) rest lawful.1 (event_more before event lawful.0 settled))

  are_settled : (log : List (Event Fact)) → IsLawfulLog given first log → AreSettled (account_of log)
  are_settled log lawful = settled_behind [] log lawful (none_settled [] [])

pub writers_rise : WritersRise
writers_rise given first log node commit held lawful writes = (are_settled given first node log lawful).rise commit held writes

pub numbers_name_writers : NumbersNameWriters
numbers_name_writers given first log node commit other held theirs lawful writes too same =
    (are_settled given first node log lawful).once commit other held theirs writes too same

pub earlier_writers_are_trimmed : EarlierWritersAreTrimmed
earlier_writers_are_trimmed given first log node commit held lawful writes = (are_settled given first node log lawful).trimmed commit held writes

-- the last writer of a node is one of the commits, and holds it
abbrev IsWriter : ℕ → List Commitment → Commitment × HeldNode → Type 0
IsWriter node commits writer = IsOneOf commits writer.0 × (held_by writer.0 node ≡ Some writer.1)

writer_by : (node : ℕ) (commit : Commitment) (commits : List Commitment) (writer : Commitment × HeldNode)
    → (last_writer node commits ≡ Some writer → IsWriter node commits writer) → (later : Option (Commitment × HeldNode)) → last_writer node commits ≡ later
    → (own : Option HeldNode) → held_by commit node ≡ own → option_or later (writes_by commit own) ≡ Some writer → IsWriter node (commit ∷ commits) writer
writer_by node commit commits writer behind (Some w) there own here is = let found = behind (there ∙ is) in (inr found.0, found.1)
writer_by node commit commits writer behind None there None here is = absurd (cc (is))
writer_by node commit commits writer behind None there (Some h) here is =
    let same : (commit, h) ≡ writer = some_same is in
    (inl (ap (λ (w : Commitment × HeldNode). w.0) same), subst (λ (w : Commitment × HeldNode). held_by w.0 node ≡ Some w.1) same here)

writer_holds : (node : ℕ) (commits : List Commitment) (writer : Commitment × HeldNode) → last_writer node commits ≡ Some writer
    → IsWriter node commits writer
writer_holds node [] writer is = absurd (cc (is))
writer_holds node (commit ∷ commits) writer is =
    writer_by node commit commits writer (writer_holds node commits writer) (last_writer node commits) refl (held_by commit node) refl is

pub inodes_stay_below : InodesStayBelow
inodes_stay_below given first log node begun lawful = below_by (last_writer node (account_of log).commits) refl
  where
    below_by : (writer : Option (Commitment × HeldNode)) → last_writer node (account_of log).commits ≡ writer
        → IsBelowInodes first.first (flushed_by given node writer).old
    below_by None is = begun node
    below_by (Some writer) is =
        let holds = writer_holds node (account_of log).commits writer is in
        let c = came given first log writer.0 lawful holds.0 in
        (c.may.holds writer.1 (found_of node writer.0.held writer.1 holds.1).0).below

pub root_is_kept : RootIsKept
root_is_kept given first log begun lawful = kept_by (last_writer 0 (account_of log).commits) refl
  where
    kept_by : (writer : Option (Commitment × HeldNode)) → last_writer 0 (account_of log).commits ≡ writer → is_some (flushed_by given 0 writer).old ≡ true
    kept_by None is = begun
    kept_by (Some writer) is =
        let holds = writer_holds 0 (account_of log).commits writer is in
        let c = came given first log writer.0 lawful holds.0 in
        let own = found_of 0 writer.0.held writer.1 holds.1 in (c.may.holds writer.1 own.0).root own.1
