-- What memory keeps of an imagined volume.
use Rattle.std.specs.Option.{option_or}
use Rattle.std.proofs.Common.{◌++◌, ◌∷◌, ◌≡◌, ◌∙◌, ◌↔◌, ◌⊎◌, List, [], refl, subst, sym, ℕ, cond, Some, None, ap, Option, Bool, Contains, false, true, inl, inr}
use Rattle.sfs_base.proofs.BasicOptions.{or_none}
use Rattle.sfs_base.proofs.BasicTruth.{not_both}
use Rattle.disk_nodes.specs.declared.old.OldEntry.{OldEntry}
use Rattle.disk_change.specs.Directory.{is_among}
use Rattle.disk_change.specs.AllBuilt.{after_commit}
use Rattle.commit_laws.specs.CommitOfPlan.{numbers_planned, change_planned}
use Rattle.flush_laws.specs.Volume.{Volume, OneFsync, parts_left}
use Rattle.flush_laws.specs.Ready.{KeepsEntries}
use Rattle.flush_laws.specs.Planned.{IsPlannedFsync}
use Rattle.flush_laws.specs.Laws.{AreEntriesAfter}
use Rattle.flush_laws.proofs.Later.{fsyncs_keep_entries}
use Rattle.book_laws.specs.Brings.{Bringing, Brings, brought_by}
use Rattle.book_laws.specs.Imagined.{none_brought, entries_once, EntriesAreKept, one_brought, last_of, EntriesAreLeft, entries_by}
use Rattle.book_laws.specs.Entries.{entries_behind}
use Rattle.book_laws.proofs.Left.{planned_with_each, left_entries}
use Rattle.book_laws.proofs.Entries.{entry_among}

pub once_more : (brought : List Bringing) (one : Bringing) (entries : List OldEntry)
    → entries_once (brought ++ one ∷ []) entries ≡ entries_behind one.nodes one.plan one.grant (entries_once brought entries)
once_more [] one entries = refl
once_more (first ∷ brought) one entries = once_more brought one (entries_behind first.nodes first.plan first.grant entries)

-- what an fsync brings to a volume of which memory keeps entries
module _ (volume : Volume) (one : Bringing) (brings : Brings volume one) (entries : List OldEntry) (keeps : KeepsEntries volume.num volume.parts entries) where
  abbrev pub with_those : OneFsync
  with_those = record (brought_by one brings) { entries = entries }

  pub planned_those : IsPlannedFsync volume with_those
  planned_those = planned_with_each volume (brought_by one brings) entries brings.planned keeps

  -- leaves these
  pub after_those : AreEntriesAfter with_those (entries_behind one.nodes one.plan one.grant entries)
  after_those = left_entries volume with_those planned_those

pub entries_are_kept : EntriesAreKept
entries_are_kept start _ _ entries keeps none_brought = keeps
entries_are_kept start _ _ entries keeps (one_brought brought volume one imagines brings) =
    let was = entries_are_kept start volume brought entries keeps imagines in
    subst (KeepsEntries (numbers_planned volume.num one.plan one.grant.inodes) (parts_left volume (brought_by one brings)))
    (sym (once_more brought one entries))
    (fsyncs_keep_entries volume (with_those volume one brings (entries_once brought entries) was)
    (entries_behind one.nodes one.plan one.grant (entries_once brought entries))
    (planned_those volume one brings (entries_once brought entries) was) (after_those volume one brings (entries_once brought entries) was))

-- the last of some and one more that concerns a node
last_more : (node : ℕ) (brought : List Bringing) (one : Bringing)
    → last_of node (brought ++ one ∷ []) ≡ option_or (cond (is_among one.nodes node) (Some one) None) (last_of node brought)
last_more node [] one = sym (or_none (cond (is_among one.nodes node) (Some one) None))
last_more node (first ∷ brought) one =
    ap (λ o. option_or o (cond (is_among first.nodes node) (Some first) None)) (last_more node brought one)
    ∙ or_joins (cond (is_among one.nodes node) (Some one) None) (last_of node brought) (cond (is_among first.nodes node) (Some first) None)
  where
    or_joins : (a b c : Option Bringing) → option_or (option_or a b) c ≡ option_or a (option_or b c)
    or_joins None b c = refl
    or_joins (Some one) b c = refl

pub entries_are_left : EntriesAreLeft
entries_are_left start _ _ entries entry keeps none_brought = ((λ there. there), (λ there. there))
entries_are_left start _ _ entries entry keeps (one_brought brought volume one imagines brings) =
    let was = entries_are_kept start volume brought entries keeps imagines in
    let after = (after_those volume one brings (entries_once brought entries) was).each entry in
    let before = entries_are_left start volume brought entries entry keeps imagines in
    let now = once_more brought one entries in
    let last = last_more entry.node.0 brought one in
    by (is_among one.nodes entry.node.0) refl was after before now last
  where
    by : (b : Bool) → is_among one.nodes entry.node.0 ≡ b → KeepsEntries volume.num volume.parts (entries_once brought entries)
        → (Contains (entries_behind one.nodes one.plan one.grant (entries_once brought entries)) entry
        ↔ (Contains (after_commit (change_planned one.plan) one.grant) entry
        ⊎ (Contains (entries_once brought entries) entry × (is_among one.nodes entry.node.0 ≡ false))))
        → (Contains (entries_once brought entries) entry ↔ Contains (entries_by entries (last_of entry.node.0 brought)) entry)
        → entries_once (brought ++ one ∷ []) entries ≡ entries_behind one.nodes one.plan one.grant (entries_once brought entries)
        → last_of entry.node.0 (brought ++ one ∷ []) ≡ option_or (cond (is_among one.nodes entry.node.0) (Some one) None) (last_of entry.node.0 brought)
        → Contains (entries_once (brought ++ one ∷ []) entries) entry ↔ Contains (entries_by entries (last_of entry.node.0 (brought ++ one ∷ []))) entry
    by true among was after before now last =
        let its : last_of entry.node.0 (brought ++ one ∷ []) ≡ Some one =
        last ∙ ap (λ b. option_or (cond b (Some one) None) (last_of entry.node.0 brought)) among in (
          (λ there. elim (after.0 (subst (λ l. Contains l entry) now there)) [
            | inl own ↦ subst (λ o. Contains (entries_by entries o) entry) (sym its) own
            | inr other ↦ absurd (not_both among other.1)
          ]),
          (λ there. subst (λ l. Contains l entry) (sym now) (after.1 (inl (subst (λ o. Contains (entries_by entries o) entry) its there)))),
        )
    by false aside was after before now last =
        let its : last_of entry.node.0 (brought ++ one ∷ []) ≡ last_of entry.node.0 brought =
        last ∙ ap (λ b. option_or (cond b (Some one) None) (last_of entry.node.0 brought)) aside in (
          (λ there. elim (after.0 (subst (λ l. Contains l entry) now there)) [
            | inl own ↦
                absurd
                (not_both
                (entry_among volume (with_those volume one brings (entries_once brought entries) was)
                (planned_those volume one brings (entries_once brought entries) was) entry own) aside)
            | inr other ↦ subst (λ o. Contains (entries_by entries o) entry) (sym its) (before.0 other.0)
          ]),
          (λ there.
              subst (λ l. Contains l entry) (sym now)
              (after.1 (inr (before.1 (subst (λ o. Contains (entries_by entries o) entry) its there), aside)))),
        )
