-- How a ledger goes along the label of a commit that begins in a slot.
use Rattle.std.specs.Prelude.{map}
use Rattle.std.proofs.Common.{◌≡◌, ◌≢◌, ◌⊎◌, ◌∙◌, ℕ, Bool, true, cond, List, Some, inl, inr, refl, sym, ap, subst, nat_eq}
use Rattle.sfs_base.specs.declared.numbers.NodeId.{NodeId}
use Rattle.sfs_base.specs.declared.numbers.Stamp.{Stamp}
use Rattle.sfs_base.specs.Lists.{Roomy}
use Rattle.sfs_base.proofs.BasicNumbers.{same_number, not_same}
use Rattle.sfs_base.proofs.BasicOptions.{some_same}
use Rattle.space_map.specs.Space.{GrantedNumbers}
use Rattle.journal_one.specs.declared.slot.Filling.{Filling}
use Rattle.cut_laws.specs.Rules.{IsOneOf}
use Rattle.cut_laws.proofs.Listed.{to_map}
use Rattle.slot_laws.specs.declared.label.Label.TheVariants as label
use Rattle.slot_laws.specs.Nodes.{ReservedCommit, giving_up}
use Rattle.slot_laws.specs.Labels.{BoxPast}
use Rattle.slot_laws.specs.Grants.{inodes_granted, blocks_granted}
use Rattle.slot_laws.proofs.NodesTold.{giving_number, giving_seen}
use Rattle.slot_laws.proofs.Lasts.{changed_fits}
use Rattle.slot_laws.proofs.GrantsHeld.{giving_grant, giving_fits}
use Rattle.commit_ledger.specs.View.{DebtView, OpenView, LedgerView, last_in, open_in, number_in}
use Rattle.commit_ledger.specs.Keeps.{LedgerKeeps, IsTold, LedgerGoes, WasGranted}
use Rattle.commit_ledger.specs.Calls.{TakesDebt}
use Rattle.commit_ledger.proofs.Places.{found_within, found_after, found_put, found_kept}
use Rattle.commit_ledger.proofs.Kept.{told_is}
use Rattle.commit_ledger.proofs.EndsAlong.{number_of_open}

module _ (number : ℕ) (numbers : GrantedNumbers) where
  -- a commit with the number gives up what is told, and any other is as it was
  gives_own : (commit : ReservedCommit) → commit.number ≡ number → (giving_up number numbers commit).gives_up ≡ numbers
  gives_own commit same =
      ap (λ (b : Bool). (cond b (record commit { gives_up = numbers }) commit).gives_up)
      (subst (λ (n : ℕ). nat_eq commit.number n ≡ true) same (same_number commit.number))

  gives_other : (commit : ReservedCommit) → commit.number ≢ number → giving_up number numbers commit ≡ commit
  gives_other commit apart =
      ap (λ (b : Bool). cond b (record commit { gives_up = numbers }) commit) (not_same commit.number number apart)

-- A commit begins: its ledger is what was told, and it was granted what its debt is for.
pub record Begins (core number : ℕ) (debt : DebtView) (old new : LedgerView) (past : BoxPast) : Type 0 where
  pub keeps : LedgerKeeps old past
  pub owes : TakesDebt core debt old new
  pub number_is : number_in old core ≡ Some number
  pub granted : WasGranted past.opens number debt.grant

module _ (core number : ℕ) (debt : DebtView) (old new : LedgerView) (past : BoxPast) (does : Begins core number debt old new past) where
  abbrev told_now : List ReservedCommit
  told_now = map (giving_up number debt.gives_up) past.opens

  abbrev owing : OpenView
  owing = record does.owes.one { debt = Some debt }

  abbrev told_before : IsTold past.opens does.owes.one
  told_before = does.keeps.opens core does.owes.one does.owes.there

  owing_number : does.owes.one.number ≡ number
  owing_number = number_of_open old core does.owes.one number does.owes.there does.number_is

  owing_told : IsTold told_now owing
  owing_told =
      let told = told_before in
      let is = told_is old past does.keeps core does.owes.one does.owes.there does.granted.commit does.granted.among
      (does.granted.number_is ∙ sym owing_number) in
      record {
        commit = giving_up number debt.gives_up does.granted.commit;
        among = to_map (giving_up number debt.gives_up) past.opens does.granted.commit does.granted.among;
        number_is = giving_number number debt.gives_up does.granted.commit ∙ does.granted.number_is ∙ sym owing_number;
        seen_is = giving_seen number debt.gives_up does.granted.commit ∙ ap (λ (c : ReservedCommit). c.seen) (sym is) ∙ told.seen_is;
        owes = record {
          grant = giving_grant number debt.gives_up does.granted.commit ∙ does.granted.grant_is;
          gives_up = gives_own number debt.gives_up does.granted.commit does.granted.number_is;
        };
      }

  other_told : (other : ℕ) (two : OpenView) → other ≢ core → open_in old other ≡ Some two → IsTold told_now two
  other_told other two apart found =
      let told = does.keeps.opens other two found in
      let differs : told.commit.number ≢ number =
      λ same. apart (does.keeps.apart other core two does.owes.one found does.owes.there (sym told.number_is ∙ same ∙ sym owing_number)) in
      record {
        commit = told.commit;
        among =
            subst (λ (c : ReservedCommit). IsOneOf told_now c) (gives_other number debt.gives_up told.commit differs)
            (to_map (giving_up number debt.gives_up) past.opens told.commit told.among);
        number_is = told.number_is;
        seen_is = told.seen_is;
        owes = told.owes;
      }

  -- what is open now: the commit itself, or what was open before
  open_now : (other : ℕ) (two : OpenView) → open_in new other ≡ Some two
      → ((other ≡ core) × (owing ≡ two)) ⊎ ((other ≢ core) × (open_in old other ≡ Some two))
  open_now other two found =
      elim (found_after old.opens core (found_within old.opens core does.owes.one does.owes.there) (Some owing) other two
      (subst (λ (l : LedgerView). open_in l other ≡ Some two) does.owes.after found)) [
        | found_put same is ↦ inl (same, some_same is)
        | found_kept apart kept ↦ inr (apart, kept)
      ]

  -- before, the same core had one with the same number
  was_open : (other : ℕ) (two : OpenView) → open_in new other ≡ Some two
      → (was : OpenView) × (open_in old other ≡ Some was) × (was.number ≡ two.number)
  was_open other two found = elim (open_now other two found) [
    | inl own ↦
        (does.owes.one, subst (λ (k : ℕ). open_in old k ≡ Some does.owes.one) (sym own.0) does.owes.there, ap (λ (v : OpenView). v.number) own.1)
    | inr kept ↦ (two, kept.1, refl)
  ]

  pub owe_goes : (filling : Filling) (node : NodeId) (stamp : Stamp) (blocks inodes : Roomy ℕ)
      → debt.gives_up ≡ record { inodes = inodes.items; blocks = blocks.items }
      → LedgerGoes (label.Began filling number node stamp blocks inodes) past old new
  owe_goes filling node stamp blocks inodes gives =
      let space : new.space ≡ old.space = ap (λ (l : LedgerView). l.space) does.owes.after in
      record {
        keeps = λ layout teller. rw (← gives) (record {
          commits = ap (λ (l : LedgerView). l.commits) does.owes.after ∙ does.keeps.commits;
          lasts = λ n. ap (λ (l : LedgerView). last_in l n) does.owes.after ∙ does.keeps.lasts n;
          opens = λ other two found. elim (open_now other two found) [
            | inl own ↦ subst (IsTold told_now) own.1 owing_told
            | inr kept ↦ other_told other two kept.0 kept.1
          ];
          apart = λ first second two three found too same.
              let one = was_open first two found in
              let other = was_open second three too in
              does.keeps.apart first second one.0 other.0 one.1 other.1 (one.2 ∙ same ∙ sym other.2);
          grants = rw space (record {
            inodes = giving_fits inodes_granted past.opens old.space.inodes number debt.gives_up does.keeps.grants.inodes;
            blocks = giving_fits blocks_granted past.opens old.space.blocks number debt.gives_up does.keeps.grants.blocks;
          });
          fits =
              changed_fits past.lasts past.opens past.done past.commits does.keeps.fits (giving_up number debt.gives_up)
              (giving_number number debt.gives_up) (giving_seen number debt.gives_up);
        });
        space = λ teller. space;
      }
