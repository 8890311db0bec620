-- The fsync of a stamp: there is at most one, of all cores, where a mount ends.
use Rattle.std.specs.Prelude.{slice_get}
use Rattle.std.proofs.Common.{◌≡◌, ◌∙◌, ◌∷◌, ◌⊎◌, ◌≢◌, ℕ, Bool, true, false, List, [], map, inl, sym, inr, ap, Some, nat_eq, refl, eqb-true, suc, zero, subst}
use Rattle.sfs_base.proofs.BasicOptions.{none_some, some_same}
use Rattle.tree_laws.specs.Merged.{is_core}
use Rattle.tree_laws.specs.declared.history.Entry.{Entry}
use Rattle.cut_laws.specs.Rules.{IsOneOf}
use Rattle.cut_laws.specs.Closure.{Flush}
use Rattle.cut_laws.proofs.Entries.{stamps_are_once}
use Rattle.cut_laws.proofs.Listed.{to_map}
use Rattle.cut_laws.proofs.RunFacts.{in_filter}
use Rattle.merge_laws.specs.Pens.{FsyncsDiffer}
use Rattle.slot_laws.proofs.NodesTold.{other_by_test}
use Rattle.flush_agrees.specs.Agreement.{FlushTold, fsync_turns}
use Rattle.end_laws.specs.Mount.{MountEnd, MountEnds, IsFsyncAt}

-- of some fsyncs of which no two have one stamp, those of one stamp are one
pub one_of_stamp : (fsyncs : List FlushTold) → FsyncsDiffer (map fsync_turns fsyncs) → (one other : FlushTold) → IsOneOf fsyncs one → IsOneOf fsyncs other
    → one.flush.stamp ≡ other.flush.stamp → one ≡ other
one_of_stamp [] once one other here there same = absurd here
one_of_stamp (first ∷ fsyncs) once one other (inl here) (inl there) same = sym here ∙ there
one_of_stamp (first ∷ fsyncs) once one other (inl here) (inr there) same =
    absurd (once.0 (fsync_turns other) (to_map fsync_turns fsyncs other there) (sym same ∙ ap (λ (f : FlushTold). f.flush.stamp) (sym here)))
one_of_stamp (first ∷ fsyncs) once one other (inr here) (inl there) same =
    absurd (once.0 (fsync_turns one) (to_map fsync_turns fsyncs one here) (same ∙ ap (λ (f : FlushTold). f.flush.stamp) (sym there)))
one_of_stamp (first ∷ fsyncs) once one other (inr here) (inr there) same = one_of_stamp fsyncs once.1 one other here there same

-- An fsync has an entry of the history, of its core and with its stamp.
record HasEntry (at : MountEnd) (one : FlushTold) (core : ℕ) : Type 0 where
  entry : Entry
  among : IsOneOf at.logs.history entry
  stamp_is : entry.stamp.0 ≡ one.flush.stamp
  core_is : entry.core.0 ≡ core

-- One of some lists has an fsync with a stamp: which list, and which fsync.
pub record HasStamp (lists : List (List FlushTold)) (stamp : ℕ) : Type 0 where
  pub core : ℕ
  pub fsyncs : List FlushTold
  pub there : slice_get lists core ≡ Some fsyncs
  pub one : FlushTold
  pub among : IsOneOf fsyncs one
  pub is : one.flush.stamp ≡ stamp

-- one of some fsyncs has a stamp, or none has
in_list : (fsyncs : List FlushTold) (stamp : ℕ)
    → ((one : FlushTold) × IsOneOf fsyncs one × (one.flush.stamp ≡ stamp)) ⊎ ((one : FlushTold) → IsOneOf fsyncs one → one.flush.stamp ≢ stamp)
in_list [] stamp = inr (λ one never. absurd never)
in_list (first ∷ fsyncs) stamp = by (nat_eq first.flush.stamp stamp) refl (in_list fsyncs stamp)
  where
    by : (b : Bool) → nat_eq first.flush.stamp stamp ≡ b
        → (((one : FlushTold) × IsOneOf fsyncs one × (one.flush.stamp ≡ stamp)) ⊎ ((one : FlushTold) → IsOneOf fsyncs one → one.flush.stamp ≢ stamp))
        → ((one : FlushTold) × IsOneOf (first ∷ fsyncs) one × (one.flush.stamp ≡ stamp))
        ⊎ ((one : FlushTold) → IsOneOf (first ∷ fsyncs) one → one.flush.stamp ≢ stamp)
    by true same later = inl (first, inl refl, eqb-true first.flush.stamp stamp same)
    by false other (inl found) = inl (found.0, inr found.1, found.2)
    by false other (inr none) = inr (λ one among is. elim among [
      | inl here ↦ other_by_test first.flush.stamp stamp other (ap (λ (f : FlushTold). f.flush.stamp) here ∙ is)
      | inr there ↦ none one there is
    ])

-- so of some lists
pub in_lists : (lists : List (List FlushTold)) (stamp : ℕ) → HasStamp lists stamp
    ⊎ ((core : ℕ) (fsyncs : List FlushTold) (one : FlushTold) → slice_get lists core ≡ Some fsyncs → IsOneOf fsyncs one → one.flush.stamp ≢ stamp)
in_lists [] stamp = inr (λ core fsyncs one is among. absurd (none_some is))
in_lists (first ∷ lists) stamp = by (in_list first stamp) (in_lists lists stamp)
  where
    by : (((one : FlushTold) × IsOneOf first one × (one.flush.stamp ≡ stamp)) ⊎ ((one : FlushTold) → IsOneOf first one → one.flush.stamp ≢ stamp))
        → (HasStamp lists stamp
        ⊎ ((core : ℕ) (fsyncs : List FlushTold) (one : FlushTold) → slice_get lists core ≡ Some fsyncs → IsOneOf fsyncs one → one.flush.stamp ≢ stamp))
        → HasStamp (first ∷ lists) stamp
        ⊎ ((core : ℕ) (fsyncs : List FlushTold) (one : FlushTold) → slice_get (first ∷ lists) core ≡ Some fsyncs → IsOneOf fsyncs one
        → one.flush.stamp ≢ stamp)
    by (inl found) later = inl (record { core = 0; fsyncs = first; there = refl; one = found.0; among = found.1; is = found.2 })
    by (inr none) (inl found) =
        inl (record { core = suc found.core; fsyncs = found.fsyncs; there = found.there; one = found.one; among = found.among; is = found.is })
    by (inr none) (inr nowhere) = inr nobody
      where
        nobody : (core : ℕ) (fsyncs : List FlushTold) (one : FlushTold) → slice_get (first ∷ lists) core ≡ Some fsyncs → IsOneOf fsyncs one
            → one.flush.stamp ≢ stamp
        nobody zero fsyncs one is among = none one (subst (λ l. IsOneOf l one) (sym (some_same is)) among)
        nobody (suc core) fsyncs one is among = nowhere core fsyncs one is among

module _ (D : Type 0) (at : MountEnd) (ends : MountEnds D at) where
  entry_of : (one : FlushTold) (there : IsFsyncAt at one) → HasEntry at one there.core
  entry_of one there =
      let core = ends.each there.core there.fsyncs there.there in
      let was = core.agrees.each one there.among in
      record {
        entry = was.entry;
        among =
            (in_filter (is_core core.hand.view.core) at.logs.history was.entry
            (subst (λ (l : List Entry). IsOneOf l was.entry) core.reaches.entries was.entered.own.among)).0;
        stamp_is = sym (ap (λ (f : Flush). f.stamp) was.entered.flush_is);
        core_is = was.entered.core_is ∙ core.core_is;
      }

  -- two fsyncs with one stamp are one
  pub same_fsync : (one other : FlushTold) → IsFsyncAt at one → IsFsyncAt at other → one.flush.stamp ≡ other.flush.stamp → one ≡ other
  same_fsync one other here there same =
      let mine = entry_of one here in
      let theirs = entry_of other there in
      let core = ends.each here.core here.fsyncs here.there in
      let entry_same : mine.entry ≡ theirs.entry =
      stamps_are_once at.t.first at.logs.history mine.entry theirs.entry core.reaches.legal mine.among theirs.among
      (mine.stamp_is ∙ (same ∙ sym theirs.stamp_is)) in
      let core_same : there.core ≡ here.core = sym theirs.core_is ∙ (ap (λ (e : Entry). e.core.0) (sym entry_same) ∙ mine.core_is) in
      let list_same : there.fsyncs ≡ here.fsyncs =
      some_same (sym there.there ∙ (ap (slice_get at.fsyncs) core_same ∙ here.there)) in
      one_of_stamp here.fsyncs core.agrees.once one other here.among (subst (λ l. IsOneOf l other) list_same there.among) same
