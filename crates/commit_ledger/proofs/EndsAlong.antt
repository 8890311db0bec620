-- How a ledger goes along the labels of commits that end or give back.
use Rattle.std.specs.Prelude.{is_some, not}
use Rattle.std.proofs.Common.{◌≡◌, ◌≢◌, ◌∙◌, ℕ, Bool, true, false, cond, List, set, Option, Some, None, inl, inr, refl, sym, ap, subst, nat_eq}
use Rattle.std.specs.Prelude.{option_map}
use Rattle.sfs_base.proofs.BasicTruth.{true_or_false, not_both}
use Rattle.sfs_base.proofs.BasicNumbers.{same_number, not_same}
use Rattle.sfs_base.proofs.BasicOptions.{none_some, some_same}
use Rattle.space_map.specs.Pool.{BecomeAll, Ends}
use Rattle.space_map.specs.Space.{GrantedNumbers}
use Rattle.space_map.specs.declared.status.Status.TheVariants.{Free}
use Rattle.tree_laws.specs.declared.turns.Turn.{Turn}
use Rattle.cut_laws.specs.Rules.{IsOneOf}
use Rattle.cut_laws.proofs.Listed.{to_filter}
use Rattle.slot_laws.specs.declared.label.Seen.{Seen}
use Rattle.slot_laws.specs.declared.label.Label.TheVariants as label
use Rattle.slot_laws.specs.Nodes.{LastCommit, ReservedCommit, no_numbers, last_seen, last_ended, ended_lasts, returned_last, returned_lasts, commits_but, commits_numbered, is_numbered_otherwise}
use Rattle.slot_laws.specs.Labels.{BoxPast, after_label, with_end}
use Rattle.slot_laws.specs.Rules.{EmptyTurns}
use Rattle.slot_laws.specs.Grants.{IsOpenNumbered, GivesGrantBack, EndsGrant, inodes_granted, blocks_granted}
use Rattle.slot_laws.proofs.Numbered.{find_split, at_seam}
use Rattle.slot_laws.proofs.NodesTold.{ends_fit, returns_fit}
use Rattle.slot_laws.proofs.GrantsHeld.{return_fits, end_fits_granted}
use Rattle.commit_ledger.specs.View.{DebtView, OpenView, LedgerView, last_in, open_in, number_in}
use Rattle.commit_ledger.specs.Keeps.{LedgerKeeps, IsTold, Owes, LedgerGoes, WasGranted}
use Rattle.commit_ledger.specs.Calls.{Returns, EndsOpen, PaysDebt, EndsEmpty}
use Rattle.commit_ledger.proofs.Places.{found_within, found_after, found_put, found_kept, one_or_two}
use Rattle.commit_ledger.proofs.Kept.{told_is, counts_own, owes_debt, quiet_labels_keep_it}

-- the number of a core's open commit is that of the one that it has
pub number_of_open : (ledger : LedgerView) (core : ℕ) (one : OpenView) (number : ℕ) → open_in ledger core ≡ Some one → number_in ledger core ≡ Some number
    → one.number ≡ number
number_of_open ledger core one number there is =
    some_same (sym (ap (λ (o : Option OpenView). option_map (λ (v : OpenView). v.number) o) there) ∙ is)

module _ (old new : LedgerView) (past : BoxPast) (keeps : LedgerKeeps old past) (core : ℕ) (one : OpenView) (there : open_in old core ≡ Some one)
    (put_out : (other : ℕ) (two : OpenView) → open_in new other ≡ Some two → (other ≢ core) × (open_in old other ≡ Some two)) where
  -- what is open once a core's commit is out is told among the others
  others_told : (other : ℕ) (two : OpenView) → open_in new other ≡ Some two → IsTold (commits_but one.number past.opens) two
  others_told other two found =
      let kept = put_out other two found in
      let told = keeps.opens other two kept.1 in
      record {
        commit = told.commit;
        among = to_filter (is_numbered_otherwise one.number) past.opens told.commit told.among
            (ap not (not_same told.commit.number one.number
            (λ same. kept.0 (keeps.apart other core two one kept.1 there (sym told.number_is ∙ same)))));
        number_is = told.number_is;
        seen_is = told.seen_is;
        owes = told.owes;
      }

  others_apart : (first second : ℕ) (two three : OpenView) → open_in new first ≡ Some two → open_in new second ≡ Some three → two.number ≡ three.number
      → first ≡ second
  others_apart first second two three found too same =
      keeps.apart first second two three (put_out first two found).1 (put_out second three too).1 same

-- once a core's place is empty, what is open is another core's
pub out_then : (old new : LedgerView) (core : ℕ) (one : OpenView) → open_in old core ≡ Some one → new.opens ≡ set old.opens core None
    → (other : ℕ) (two : OpenView) → open_in new other ≡ Some two → (other ≢ core) × (open_in old other ≡ Some two)
out_then old new core one there emptied other two found =
    elim (found_after old.opens core (found_within old.opens core one there) None other two (rw (sym emptied) found)) [
      | found_put same is ↦ absurd (none_some is)
      | found_kept apart kept ↦ (apart, kept)
    ]

-- A commit that gives back: its ledger is what was told, and it was granted what it gives back.
pub record GivesBack (core number : ℕ) (grant : GrantedNumbers) (old new : LedgerView) (past : BoxPast) : Type 0 where
  pub keeps : LedgerKeeps old past
  pub returns : Returns core grant old new
  pub number_is : number_in old core ≡ Some number
  pub granted : WasGranted past.opens number grant

module _ (core number : ℕ) (grant : GrantedNumbers) (old new : LedgerView) (past : BoxPast) (does : GivesBack core number grant old new past) where
  abbrev giver : OpenView
  giver = does.returns.one

  giver_number : giver.number ≡ number
  giver_number = number_of_open old core giver number does.returns.there does.number_is

  abbrev given_own : IsOpenNumbered past.opens number
  given_own = record { commit = does.granted.commit; among = does.granted.among; number_is = does.granted.number_is }

  abbrev back_does : GivesGrantBack past.opens number old.space new.space
  back_does = record {
    own = given_own;
    inodes = subst (λ (g : GrantedNumbers). BecomeAll Free g.inodes old.space.inodes new.space.inodes) (sym does.granted.grant_is) does.returns.inodes;
    blocks = subst (λ (g : GrantedNumbers). BecomeAll Free g.blocks old.space.blocks new.space.blocks) (sym does.granted.grant_is) does.returns.blocks;
  }

  lasts_back : (node : ℕ) → last_in new node ≡ returned_lasts (commits_numbered number past.opens) past.lasts node
  lasts_back node = elim (find_split number past.opens does.keeps.fits.once) [
    | inr lacks ↦ absurd (lacks.none does.granted.commit does.granted.among does.granted.number_is)
    | inl split ↦
        let told = does.keeps.opens core giver does.returns.there in
        let there : IsOneOf past.opens split.one =
        subst (λ (l : List ReservedCommit). IsOneOf l split.one) (sym split.whole) (at_seam split.before split.behind split.one) in
        let is = told_is old past does.keeps core giver does.returns.there split.one there (split.number_is ∙ sym giver_number) in
        does.returns.lasts node
        ∙ ap (λ (l : LastCommit). returned_last (last_seen giver.seen node) l) (does.keeps.lasts node)
        ∙ ap (λ (s : List Seen). returned_last (last_seen s node) (past.lasts node)) (sym told.seen_is ∙ ap (λ (c : ReservedCommit). c.seen) is)
        ∙ ap (λ (l : List ReservedCommit). returned_lasts l past.lasts node) (sym split.own)
  ]

  pub return_goes : LedgerGoes (label.Returned number) past old new
  return_goes = record {
    keeps = λ layout teller.
        let out = out_then old new core giver does.returns.there does.returns.opens in
        record {
          commits = does.returns.commits ∙ does.keeps.commits;
          lasts = lasts_back;
          opens = λ other two found.
              subst (λ (n : ℕ). IsTold (commits_but n past.opens) two) giver_number
              (others_told old new past does.keeps core giver does.returns.there out other two found);
          apart = others_apart old new past does.keeps core giver does.returns.there out;
          grants = record {
            inodes =
                return_fits inodes_granted past.opens does.keeps.fits.once old.space.inodes new.space.inodes does.keeps.grants.inodes number given_own
                back_does.inodes;
            blocks =
                return_fits blocks_granted past.opens does.keeps.fits.once old.space.blocks new.space.blocks does.keeps.grants.blocks number given_own
                back_does.blocks;
          };
          fits = returns_fit past does.keeps.fits number;
        };
    space = λ teller. back_does;
  }

-- A commit that ends: its ledger is what was told, and the map has ended what it was told to have.
pub record EndsTold (core number : ℕ) (old new : LedgerView) (past : BoxPast) : Type 0 where
  pub one : OpenView
  pub keeps : LedgerKeeps old past
  pub ends : EndsOpen core one old new
  pub number_is : number_in old core ≡ Some number
  pub inodes : Ends (keeps.opens core one ends.there).commit.grant.inodes (keeps.opens core one ends.there).commit.gives_up.inodes
      old.space.inodes new.space.inodes
  pub blocks : Ends (keeps.opens core one ends.there).commit.grant.blocks (keeps.opens core one ends.there).commit.gives_up.blocks
      old.space.blocks new.space.blocks

module _ (core number : ℕ) (old new : LedgerView) (past : BoxPast) (does : EndsTold core number old new past) where
  abbrev told_end : IsTold past.opens does.one
  told_end = does.keeps.opens core does.one does.ends.there

  end_number : does.one.number ≡ number
  end_number = number_of_open old core does.one number does.ends.there does.number_is

  abbrev ended_own : IsOpenNumbered past.opens number
  ended_own = record { commit = told_end.commit; among = told_end.among; number_is = told_end.number_is ∙ end_number }

  pub end_does : EndsGrant past.opens number old.space new.space
  end_does = record { own = ended_own; inodes = does.inodes; blocks = does.blocks }

  -- the last commit of a node: of its own nodes it has ended, and no other has it as the last one that has not ended
  ended_own_node : (node : ℕ) → is_some (last_seen does.one.seen node) ≡ true → last_ended does.one.number ≡ ended_lasts number past.lasts node
  ended_own_node node held =
      let counts = counts_own old past does.keeps core does.one does.ends.there node held in
      let same : (past.lasts node).number ≡ number = ap (λ (l : LastCommit). l.number) counts ∙ end_number in
      ap last_ended end_number
      ∙ sym (ap (λ (b : Bool). cond b (last_ended number) (past.lasts node))
      (subst (λ (n : ℕ). nat_eq (past.lasts node).number n ≡ true) same (same_number (past.lasts node).number)))

  ended_other_node : (node : ℕ) → is_some (last_seen does.one.seen node) ≡ false → past.lasts node ≡ ended_lasts number past.lasts node
  ended_other_node node away = elim (one_or_two (past.lasts node).number number) [
    | inr apart ↦ sym (ap (λ (b : Bool). cond b (last_ended number) (past.lasts node)) (not_same (past.lasts node).number number apart))
    | inl same ↦
        let is : past.lasts node ≡ last_ended number = elim (true_or_false (past.lasts node).ended) [
          | inl over ↦ λ i. record { number = same i; ended = over i }
          | inr still ↦
              let it = does.keeps.fits.counted node still in
              let own = told_is old past does.keeps core does.one does.ends.there it.commit it.among (it.number_is ∙ same ∙ sym end_number) in
              absurd
              (not_both (subst (λ (c : ReservedCommit). is_some (last_seen c.seen node) ≡ true) (sym own) it.held)
              (subst (λ (s : List Seen). is_some (last_seen s node) ≡ false) (sym told_end.seen_is) away))
        ] in
        is
        ∙ sym (ap (λ (b : Bool). cond b (last_ended number) (past.lasts node))
        (subst (λ (n : ℕ). nat_eq (past.lasts node).number n ≡ true) same (same_number (past.lasts node).number)))
  ]

  lasts_end : (node : ℕ) → last_in new node ≡ ended_lasts number past.lasts node
  lasts_end node =
      does.ends.lasts node
      ∙ ap (λ (l : LastCommit). cond (is_some (last_seen does.one.seen node)) (last_ended does.one.number) l) (does.keeps.lasts node)
      ∙ elim (true_or_false (is_some (last_seen does.one.seen node))) [
        | inl held ↦ ap (λ (b : Bool). cond b (last_ended does.one.number) (past.lasts node)) held ∙ ended_own_node node held
        | inr away ↦ ap (λ (b : Bool). cond b (last_ended does.one.number) (past.lasts node)) away ∙ ended_other_node node away
      ]

  pub end_keeps : LedgerKeeps new (with_end number past)
  end_keeps =
      let out = out_then old new core does.one does.ends.there does.ends.opens in
      record {
        commits = does.ends.commits ∙ does.keeps.commits;
        lasts = lasts_end;
        opens = λ other two found.
            subst (λ (n : ℕ). IsTold (commits_but n past.opens) two) end_number
            (others_told old new past does.keeps core does.one does.ends.there out other two found);
        apart = others_apart old new past does.keeps core does.one does.ends.there out;
        grants = record {
          inodes =
              end_fits_granted inodes_granted past.opens does.keeps.fits.once old.space.inodes new.space.inodes does.keeps.grants.inodes number ended_own
              does.inodes;
          blocks =
              end_fits_granted blocks_granted past.opens does.keeps.fits.once old.space.blocks new.space.blocks does.keeps.grants.blocks number ended_own
              does.blocks;
        };
        fits = ends_fit past does.keeps.fits number;
      }

module _ (core number : ℕ) (old new : LedgerView) (past : BoxPast) (keeps : LedgerKeeps old past) (number_is : number_in old core ≡ Some number) where
  -- a commit with a debt ends what it was told to have
  pays_told : PaysDebt core old new → EndsTold core number old new past
  pays_told pays =
      let told = keeps.opens core pays.one pays.ends.there in
      let has = owes_debt pays.one.debt pays.debt told.commit pays.owes told.owes in
      record {
        one = pays.one;
        keeps = keeps;
        ends = pays.ends;
        number_is = number_is;
        inodes = rw (has.grant, has.gives_up) pays.inodes;
        blocks = rw (has.grant, has.gives_up) pays.blocks;
      }

  pub pay_goes : PaysDebt core old new → (slot : ℕ) (turn : Turn) → turn.commit ≡ number → LedgerGoes (label.Settled slot turn) past old new
  pay_goes pays slot turn same =
      let told = pays_told pays in
      record {
        keeps = λ layout teller.
            quiet_labels_keep_it new (with_end number past) (after_label layout teller (label.Settled slot turn) past)
            (rw same (record { commits = refl; lasts = refl; opens = refl; done = refl })) (end_keeps core number old new past told);
        space = λ teller. rw same (end_does core number old new past told);
      }

  -- one without has nothing to end
  empty_told : EndsEmpty core old new → WasGranted past.opens number no_numbers → EndsTold core number old new past
  empty_told empty granted =
      let told = keeps.opens core empty.one empty.ends.there in
      let same = number_of_open old core empty.one number empty.ends.there number_is in
      let is = told_is old past keeps core empty.one empty.ends.there granted.commit granted.among (granted.number_is ∙ sym same) in
      let nothing : told.commit.grant ≡ no_numbers = ap (λ (c : ReservedCommit). c.grant) is ∙ granted.grant_is in
      let nothing_up : told.commit.gives_up ≡ no_numbers = subst (λ (d : Option DebtView). Owes d told.commit) empty.none told.owes in
      record {
        one = empty.one;
        keeps = keeps;
        ends = empty.ends;
        number_is = number_is;
        inodes = rw (nothing, nothing_up, empty.space) (λ n. refl);
        blocks = rw (nothing, nothing_up, empty.space) (λ n. refl);
      }

  pub empty_goes : EndsEmpty core old new → WasGranted past.opens number no_numbers → (turns : EmptyTurns)
      → LedgerGoes (label.Empty number turns.cut turns.opened turns.durable) past old new
  empty_goes empty granted turns =
      let told = empty_told empty granted in
      record {
        keeps = λ layout teller.
            quiet_labels_keep_it new (with_end number past) (after_label layout teller (label.Empty number turns.cut turns.opened turns.durable) past)
            (record { commits = refl; lasts = refl; opens = refl; done = refl }) (end_keeps core number old new past told);
        space = λ teller. end_does core number old new past told;
      }
