-- A log that is trimmed for a commit's members stands as before, and keeps no change of theirs below the stamp.
use Rattle.std.specs.Prelude.{All, nat_le, if◌then◌else◌}
use Rattle.std.proofs.Common.{◌≡◌, ◌≤◌, ◌==◌, ℕ, Bool, true, false, List, [], ◌∷◌, ◌++◌, filter, Option, inl, inr, refl, sym, subst, eq-eqb, leb-true, ⊎_elim}
use Rattle.std.proofs.lemmas.Bool.{cases_Bool}
use Rattle.std.proofs.lemmas.List.Elements.{All-nil, All-filter}
use Rattle.tree_laws.specs.Tree.{TreeState}
use Rattle.tree_laws.specs.declared.changes.Change.{Change}
use Rattle.mem_cells.specs.Log.{is_from}
use Rattle.mem_cells.specs.Part.{CoreLog, changes_kept, IsTrimmed, IsTrimmedOrBlank}
use Rattle.disk_nodes.specs.OldKept.{OldKept}
use Rattle.cut_laws.specs.Rules.{IsOneOf}
use Rattle.stamp_table.specs.declared.event.Event.{Event}
use Rattle.mem_values.specs.declared.fact.Fact.{Fact}
use Rattle.mem_values.specs.declared.cell.PartCell.{PartCell}
use Rattle.mem_values.specs.Account.{Commitment, account_of}
use Rattle.mem_values.specs.Facts.{IsLawfulLog}
use Rattle.mem_values.specs.Stands.{KeepFrom, StandsPart}
use Rattle.mem_values.proofs.Home.{trimmed_parts_stand}
use Rattle.fsync_end.specs.Trimming.{AreTrimmedOrBlank}

-- one directory more
pub trimmed_more : (log : CoreLog) (members : List ℕ) (directory below : ℕ) (between after : CoreLog) → AreTrimmedOrBlank log members below between
    → IsTrimmedOrBlank between directory below after → AreTrimmedOrBlank log (members ++ directory ∷ []) below after
trimmed_more log [] directory below between after none one = (after, subst (λ l. IsTrimmedOrBlank l directory below after) none one, refl)
trimmed_more log (d ∷ members) directory below between after trimmed one =
    (trimmed.0, trimmed.1, trimmed_more trimmed.0 members directory below between after trimmed.2 one)

module _ (given : ℕ → Option OldKept) (first : TreeState) (log : List (Event Fact)) (core : ℕ) (commit : Commitment) (lawful : IsLawfulLog given first log)
    (among : IsOneOf (account_of log).commits commit) where
  one_stays : (directory : ℕ) (part after : PartCell) → IsOneOf commit.members directory → IsTrimmedOrBlank part.log directory commit.stamp after.log
      → after.made ≡ part.made → StandsPart first (account_of log) core part → StandsPart first (account_of log) core after
  one_stays directory part after member (inl trimmed) made stood =
      trimmed_parts_stand given first log core commit directory part after lawful among member stood trimmed made
  one_stays directory part after member (inr blank) made stood =
      subst (StandsPart first (account_of log) core) (λ i. record { log = sym blank.0 i; made = sym made i }) stood

  pub all_stay : (members : List ℕ) (part after : PartCell) → ((directory : ℕ) → IsOneOf members directory → IsOneOf commit.members directory)
      → AreTrimmedOrBlank part.log members commit.stamp after.log → after.made ≡ part.made → StandsPart first (account_of log) core part
      → StandsPart first (account_of log) core after
  all_stay [] part after among_them same made stood =
      subst (StandsPart first (account_of log) core) (λ i. record { log = sym same i; made = sym made i }) stood
  all_stay (directory ∷ members) part after among_them trimmed made stood =
      let between : PartCell = record { log = trimmed.0; made = part.made } in
      all_stay members between after (λ d there. among_them d (inr there)) trimmed.2 made
      (one_stays directory part between (among_them directory (inl refl)) trimmed.1 refl stood)

-- changes from a stamp on have that stamp at least
kept_from : (below : ℕ) (changes : List Change) → KeepFrom below (filter (is_from below) changes)
kept_from below [] = All-nil (λ (change : Change). below ≤ change.stamp.0)
kept_from below (change ∷ changes) = ⊎_elim
    (λ (is : is_from below change ≡ true). rw is (Rattle.std.proofs.lemmas.List.Elements.All-cons (λ (c : Change). below ≤ c.stamp.0) change
    (filter (is_from below) changes)
    (leb-true below change.stamp.0 is)
    (kept_from below changes)))
    (λ (not : is_from below change ≡ false). rw not (kept_from below changes))
    (cases_Bool (is_from below change))

if_kept : (b : Bool) (stamp below : ℕ) (changes : List Change) → KeepFrom stamp changes
    → KeepFrom stamp (if b then filter (is_from below) changes else changes)
if_kept true stamp below changes kept = All-filter (is_from below) (λ (change : Change). stamp ≤ change.stamp.0) changes kept
if_kept false stamp below changes kept = kept

-- trimming keeps that no change is below a stamp
one_keeps : (log after : CoreLog) (directory other stamp below : ℕ) → IsTrimmedOrBlank log directory below after → KeepFrom stamp (changes_kept log other)
    → KeepFrom stamp (changes_kept after other)
one_keeps log after directory other stamp below (inl trimmed) kept =
    subst (KeepFrom stamp) (sym (trimmed.logs.changes other)) (if_kept (other == directory) stamp below (changes_kept log other) kept)
one_keeps log after directory other stamp below (inr blank) kept = subst (λ (l : CoreLog). KeepFrom stamp (changes_kept l other)) (sym blank.0) kept

all_keep : (members : List ℕ) (log after : CoreLog) (other stamp below : ℕ) → AreTrimmedOrBlank log members below after
    → KeepFrom stamp (changes_kept log other) → KeepFrom stamp (changes_kept after other)
all_keep [] log after other stamp below same kept = subst (λ (l : CoreLog). KeepFrom stamp (changes_kept l other)) (sym same) kept
all_keep (directory ∷ members) log after other stamp below trimmed kept =
    all_keep members trimmed.0 after other stamp below trimmed.2 (one_keeps log trimmed.0 directory other stamp below trimmed.1 kept)

one_trimmed : (log after : CoreLog) (directory below : ℕ) → IsTrimmedOrBlank log directory below after → KeepFrom below (changes_kept after directory)
one_trimmed log after directory below (inl trimmed) =
    subst (KeepFrom below)
    (sym (subst (λ b. changes_kept after directory ≡ (if b then filter (is_from below) (changes_kept log directory) else changes_kept log directory))
    (eq-eqb directory directory refl) (trimmed.logs.changes directory)))
    (kept_from below (changes_kept log directory))
one_trimmed log after directory below (inr blank) =
    subst (λ (l : CoreLog). KeepFrom below (changes_kept l directory)) (sym blank.0)
    (subst (KeepFrom below) (sym blank.1) (All-nil (λ (change : Change). below ≤ change.stamp.0)))

-- of each of the directories no change is left below the stamp
pub all_trimmed : (members : List ℕ) (log after : CoreLog) (below directory : ℕ) → AreTrimmedOrBlank log members below after → IsOneOf members directory
    → KeepFrom below (changes_kept after directory)
all_trimmed [] log after below directory trimmed among = absurd among
all_trimmed (d ∷ members) log after below directory trimmed (inl here) =
    subst (λ x. KeepFrom below (changes_kept after x)) here
    (all_keep members trimmed.0 after d below below trimmed.2 (one_trimmed log trimmed.0 d below trimmed.1))
all_trimmed (d ∷ members) log after below directory trimmed (inr there) = all_trimmed members trimmed.0 after below directory trimmed.2 there
