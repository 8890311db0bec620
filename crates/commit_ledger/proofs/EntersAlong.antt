-- How a ledger goes along the label of a reserving.
use Rattle.std.specs.Prelude.{is_some}
use Rattle.std.proofs.Common.{◌≡◌, ◌≢◌, ◌⊎◌, ◌∷◌, ◌++◌, ◌∙◌, ℕ, false, cond, [], Some, None, inl, inr, refl, sym, ap, subst, arith}
use Rattle.sfs_base.specs.Lists.{Roomy}
use Rattle.sfs_base.proofs.BasicOptions.{some_same}
use Rattle.space_map.specs.Space.{GrantedNumbers}
use Rattle.cut_laws.specs.Rules.{IsOneOf}
use Rattle.cut_laws.proofs.Basics.{in_left}
use Rattle.slot_laws.specs.declared.label.Seen.{Seen}
use Rattle.slot_laws.specs.declared.label.Label.TheVariants as label
use Rattle.slot_laws.specs.Nodes.{LastCommit, ReservedCommit, no_numbers, last_seen, reserved_lasts}
use Rattle.slot_laws.specs.Labels.{BoxPast}
use Rattle.slot_laws.specs.Rules.{ReservedRule}
use Rattle.slot_laws.specs.Grants.{AreTheirGrants, TakesGrant, inodes_granted, blocks_granted}
use Rattle.slot_laws.proofs.Numbered.{at_seam}
use Rattle.slot_laws.proofs.Lasts.{reserve_fits}
use Rattle.slot_laws.proofs.GrantsHeld.{take_fits}
use Rattle.commit_ledger.specs.View.{OpenView, LedgerView, last_in, open_in}
use Rattle.commit_ledger.specs.Keeps.{LedgerKeeps, IsTold, LedgerGoes}
use Rattle.commit_ledger.specs.Calls.{HasTaken, MayEnter, EntersCommit}
use Rattle.commit_ledger.proofs.Places.{found_after, found_put, found_kept}

-- A reserving: a ledger as it was, one from whose map the grant was taken, and one in which the commit is open.
pub record Reserves (core number : ℕ) (seen : Roomy Seen) (grant : GrantedNumbers) (before old new : LedgerView) (past : BoxPast) : Type 0 where
  pub may : MayEnter core seen.items old
  pub enters : EntersCommit core number seen.items old new
  pub taken : HasTaken grant before old
  pub keeps : LedgerKeeps before past
  pub rule : ReservedRule core number seen.items past

module _ (core number : ℕ) (seen : Roomy Seen) (grant : GrantedNumbers) (before old new : LedgerView) (past : BoxPast)
    (does : Reserves core number seen grant before old new past) where
  abbrev own_told : ReservedCommit
  own_told = record { number = number; seen = seen.items; grant = grant; gives_up = no_numbers }

  abbrev own_open : OpenView
  own_open = record { number = number; seen = seen.items; debt = None }

  -- what is open behind it: the commit itself, or what was open before
  open_then : (other : ℕ) (two : OpenView) → open_in new other ≡ Some two
      → ((other ≡ core) × (own_open ≡ two)) ⊎ ((other ≢ core) × (open_in before other ≡ Some two))
  open_then other two there =
      elim (found_after old.opens core does.may.within (Some own_open) other two
      (rw (sym does.enters.opens) there)) [
        | found_put same is ↦ inl (same, some_same is)
        | found_kept apart kept ↦ inr (apart, rw (sym does.taken.opens) kept)
      ]

  -- a commit that was told before has another number
  told_lower : (two : OpenView) → IsTold past.opens two → two.number ≢ number
  told_lower two told same =
      let low = does.keeps.fits.given told.commit told.among in
      let next = does.rule.next in
      let is = told.number_is in
      omega arith

  told_then : (two : OpenView) → IsTold past.opens two → IsTold (past.opens ++ own_told ∷ []) two
  told_then two told = record {
    commit = told.commit;
    among = in_left past.opens (own_told ∷ []) told.commit told.among;
    number_is = told.number_is;
    seen_is = told.seen_is;
    owes = told.owes;
  }

  own_then : IsTold (past.opens ++ own_told ∷ []) own_open
  own_then = record { commit = own_told; among = at_seam past.opens [] own_told; number_is = refl; seen_is = refl; owes = refl }

  takes : TakesGrant before.space grant new.space
  takes = rw does.enters.space does.taken.space

  differs : (other : ReservedCommit) → IsOneOf past.opens other → other.number ≢ number
  differs other among same =
      let low = does.keeps.fits.given other among in
      let next = does.rule.next in
      omega arith

  lasts_then : (node : ℕ) → last_in new node ≡ reserved_lasts number seen.items past.lasts node
  lasts_then node =
      does.enters.lasts node
      ∙ ap (λ (l : LastCommit). cond (is_some (last_seen seen.items node)) (record { number = number; ended = false }) l)
      (does.taken.lasts node ∙ does.keeps.lasts node)

  grants_then : AreTheirGrants (past.opens ++ own_told ∷ []) new.space
  grants_then = record {
    inodes =
        take_fits inodes_granted past.opens does.keeps.fits.once before.space.inodes new.space.inodes does.keeps.grants.inodes own_told differs takes.inodes;
    blocks =
        take_fits blocks_granted past.opens does.keeps.fits.once before.space.blocks new.space.blocks does.keeps.grants.blocks own_told differs takes.blocks;
  }

  pub enter_goes : LedgerGoes (label.Reserved number seen grant) past before new
  enter_goes = record {
    keeps = λ layout teller. record {
      commits = does.enters.commits;
      lasts = lasts_then;
      opens = λ other two there. elim (open_then other two there) [
        | inl own ↦ subst (IsTold (past.opens ++ own_told ∷ [])) own.1 own_then
        | inr kept ↦ told_then two (does.keeps.opens other two kept.1)
      ];
      apart = λ one_core two_core one two there too same. elim (open_then one_core one there) [
        | inl own ↦ elim (open_then two_core two too) [
          | inl again ↦ own.0 ∙ sym again.0
          | inr kept ↦
              absurd
              (told_lower two (does.keeps.opens two_core two kept.1) (sym same ∙ sym (ap (λ (v : OpenView). v.number) own.1)))
        ]
        | inr kept ↦ elim (open_then two_core two too) [
          | inl own ↦
              absurd
              (told_lower one (does.keeps.opens one_core one kept.1) (same ∙ sym (ap (λ (v : OpenView). v.number) own.1)))
          | inr again ↦ does.keeps.apart one_core two_core one two kept.1 again.1 same
        ]
      ];
      grants = grants_then;
      fits =
          reserve_fits past.lasts past.opens past.done past.commits does.keeps.fits number seen.items grant does.rule.next does.rule.unmoved;
    };
    space = λ teller. takes;
  }
