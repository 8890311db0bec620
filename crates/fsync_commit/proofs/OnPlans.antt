-- Planned changes are of a disk where what the disk has of their nodes is.
use Rattle.std.proofs.Common.{◌≡◌, ◌∙◌, ◌<◌, ◌≤◌, ◌+◌, ◌++◌, ◌^◌, ◌-◌, ℕ, zero, suc, Bool, true, false, List, [], ◌∷◌, length, map, filter, Option, Some, None, inl, inr, refl, sym, ap, subst, arith, Contains, count_by, fold, is_none, not}
use Rattle.std.specs.Prelude.{if◌then◌else◌}
use Rattle.std.proofs.lemmas.List.{length-map}
use Rattle.std.proofs.lemmas.List.Elements.{Contains-append_cases}
use Rattle.std.proofs.lemmas.List.Sums.{count_by-le-length}
use Rattle.sfs_base.proofs.BasicOptions.{none_some, some_same}
use Rattle.sfs_base.specs.declared.numbers.Kind.{Kind}
use Rattle.sfs_base.specs.declared.numbers.Kind.TheVariants.{File, Directory}
use Rattle.sfs_base.specs.declared.numbers.NodeId.{NodeId}
use Rattle.sfs_image.specs.Super.{Layout}
use Rattle.commit_laws.proofs.NumbersGiven.{kept_in}
use Rattle.commit_laws.proofs.OwnInodes.{mapped_is_in}
use Rattle.disk_nodes.specs.declared.old.OldEntry.{OldEntry}
use Rattle.disk_change.specs.Planned.{Planned, enters, leaves, planned, seated_entering, seated_old, staying}
use Rattle.disk_change.specs.Seated.{Begun, CommitChanges, Seated, begun_entering, begun_old, seated_as}
use Rattle.disk_change.specs.declared.directory_net.DirectoryNet.{DirectoryNet}
use Rattle.disk_change.specs.declared.enter.Enter.{Enter}
use Rattle.disk_change.specs.declared.files.FileChange.{FileChange}
use Rattle.fsync_commit.specs.Asked.{IsChangeOn}
use Rattle.fsync_commit.specs.Laws.{PlansLieOnDisks}

-- a node keeps the number that it begins with, whatever its kind
seated_number : (kind : Kind) (changes : CommitChanges) (begun : Begun) → (seated_as kind changes begun).number ≡ begun.number
seated_number File changes begun = refl
seated_number Directory changes begun = refl

old_number : (changes : CommitChanges) (entry : OldEntry) → (seated_old changes entry).number ≡ Some entry.old.number
old_number changes entry = seated_number (begun_old entry).kind changes (begun_old entry)

entering_number : (changes : CommitChanges) (one : Enter) → (seated_entering changes one).number ≡ None
entering_number changes one = seated_number one.kind changes (begun_entering one)

-- of those that stay none enters
none_enter : (changes : CommitChanges) (entries : List OldEntry) (rest : List Seated)
    → count_by enters (map (seated_old changes) entries ++ rest) ≡ count_by enters rest
none_enter changes [] rest = refl
none_enter changes (entry ∷ entries) rest =
    ap (λ (o : Option ℕ). fold (λ (a : ℕ) x. a + (if enters x then 1 else 0)) (0 + (if is_none o then 1 else 0)) (map (seated_old changes) entries ++ rest))
    (old_number changes entry)
    ∙ none_enter changes entries rest

module _ (layout : Layout) (old : List OldEntry) (nets : List DirectoryNet) (files : List FileChange) (enter : List Enter) (leave : List NodeId)
    (low : (entry : OldEntry) → Contains old entry → entry.old.number < layout.inodes) (few : length enter ≤ 2 ^ 32 - 1) where
  abbrev change : Planned
  change = planned old nets files enter leave

  own : (seat : Seated) (number : ℕ) → Contains change.seats seat → seat.number ≡ Some number → number < layout.inodes
  own seat number has is =
      elim (Contains-append_cases (map (seated_old change.changes) (staying old leave)) (map (seated_entering change.changes) enter) seat has) [
        | inl stays ↦
            let entry = mapped_is_in (seated_old change.changes) (staying old leave) seat stays in
            let same : Some entry.0.old.number ≡ Some number =
            sym (old_number change.changes entry.0) ∙ (ap (λ (s : Seated). s.number) entry.2 ∙ is) in
            subst (λ n. n < layout.inodes) (some_same same)
            (low entry.0 (kept_in (λ (e : OldEntry). not (leaves leave e)) old entry.0 entry.1).0)
        | inr comes ↦
            let one = mapped_is_in (seated_entering change.changes) enter seat comes in
            absurd (none_some (sym (entering_number change.changes one.0) ∙ (ap (λ (s : Seated). s.number) one.2 ∙ is)))
      ]

  pub plan_on : IsChangeOn layout change
  plan_on = record {
    own = own;
    gone = λ entry has. low entry (kept_in (leaves leave) old entry has).0;
    few =
        let those = none_enter change.changes (staying old leave) (map (seated_entering change.changes) enter) in
        let most = count_by-le-length enters (map (seated_entering change.changes) enter) in
        let long = length-map enter (seated_entering change.changes) in omega (arith, those, most, long, few);
  }

pub plans_lie_on_disks : PlansLieOnDisks
plans_lie_on_disks layout old nets files enter leave low few = plan_on layout old nets files enter leave low few
