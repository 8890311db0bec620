-- What a call on a ledger leaves is what the next one asks.
use Rattle.std.specs.Prelude.{option_map}
use Rattle.std.proofs.Common.{◌≡◌, ◌∙◌, ℕ, Bool, cond, List, length, Some, None, refl, sym, ap, subst}
use Rattle.std.proofs.lemmas.List.{get_or-set_same}
use Rattle.std.proofs.lemmas.List.Elements.{All-from_recursion}
use Rattle.sfs_base.proofs.BasicOptions.{some_same}
use Rattle.space_map.specs.declared.status.Status.{Status}
use Rattle.space_map.specs.declared.status.Status.TheVariants.{Granted}
use Rattle.space_map.specs.Pool.{Pool, Grants, status_of}
use Rattle.space_map.specs.Space.{GrantedNumbers, AllGranted}
use Rattle.space_map.proofs.Others.{free_now}
use Rattle.slot_laws.specs.declared.label.Seen.{Seen}
use Rattle.commit_ledger.specs.View.{DebtView, OpenView, LedgerView, HaveNodePlaces}
use Rattle.commit_ledger.specs.Calls.{HasTaken, MayEnter, EntersCommit, MayReturn, MayEnd, TakesDebt}
use Rattle.commit_ledger.proofs.Kept.{all_listed}
use Rattle.commit_ledger.proofs.Places.{found_within}

-- what was taken is out
taken_out : (old new : Pool) (count : ℕ) (numbers : List ℕ) → Grants old count numbers new → AllGranted new numbers
taken_out old new count numbers grants =
    All-from_recursion (λ (n : ℕ). status_of new n ≡ Some Granted) numbers
    (all_listed (λ (n : ℕ). status_of new n ≡ Some Granted) numbers
    (λ n listed.
    grants.granted n
    ∙ ap (λ (b : Bool). cond b (option_map (λ (s : Status). Granted) (status_of old n)) (status_of old n)) listed
    ∙ ap (option_map (λ (s : Status). Granted)) (free_now old count numbers new n grants listed)))

-- what a commit was granted as it was prepared it may return once it has entered
pub entered_may_return : (core number : ℕ) (seen : List Seen) (grant : GrantedNumbers) (before old new : LedgerView) → HasTaken grant before old
    → MayEnter core seen old → EntersCommit core number seen old new → MayReturn core grant new
entered_may_return core number seen grant before old new taken may enters =
    let own : OpenView = record { number = number; seen = seen; debt = None } in
    record {
      entered = record {
        own = record {
          one = own;
          there = rw enters.opens (get_or-set_same old.opens core (Some own) None may.within);
          places = rw enters.places may.places;
        };
        none = refl;
      };
      out = rw enters.space (record {
        inodes = taken_out before.space.inodes old.space.inodes (length grant.inodes) grant.inodes taken.space.inodes;
        blocks = taken_out before.space.blocks old.space.blocks (length grant.blocks) grant.blocks taken.space.blocks;
      });
    }

-- what it may return it may end with, once that is due
pub owing_may_end : (core : ℕ) (debt : DebtView) (old new : LedgerView) → MayReturn core debt.grant old → TakesDebt core debt old new → MayEnd core new
owing_may_end core debt old new may owes =
    let one : OpenView = record owes.one { debt = Some debt } in
    let within = found_within old.opens core owes.one owes.there in
    let own = may.entered.own in
    let same : own.one ≡ owes.one = some_same (sym own.there ∙ owes.there) in
    rw owes.after (record {
      own = record {
        one = one;
        there = get_or-set_same old.opens core (Some one) None within;
        places = subst (λ (v : OpenView). HaveNodePlaces old.lasts v.seen) same own.places;
      };
      debt = debt;
      owes = refl;
      out = may.out;
    })
