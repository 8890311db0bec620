-- What is done and open behind some labels was so before them, or has a greater number than was given then; and the turns of before are there still.
use Rattle.std.proofs.Common.{◌≡◌, ◌⊎◌, ◌≤◌, ◌++◌, ◌∙◌, ◌+◌, ◌∷◌, List, ℕ, refl, arith, inl, inr, map, sym, ap, subst, []}
use Rattle.sfs_image.specs.Super.{Layout}
use Rattle.space_map.specs.Space.{GrantedNumbers}
use Rattle.tree_laws.specs.declared.turns.Turn.{Turn}
use Rattle.cut_laws.specs.Rules.{IsOneOf}
use Rattle.cut_laws.proofs.Basics.{in_left, in_either}
use Rattle.cut_laws.proofs.RunFacts.{in_filter}
use Rattle.cut_laws.proofs.Listed.{from_map}
use Rattle.stamp_table.specs.declared.event.Event.{Event}
use Rattle.stamp_table.specs.declared.event.Event.TheVariants.{Called, Told}
use Rattle.slot_laws.specs.Nodes.{ReservedCommit, commits_but, is_numbered_otherwise, commits_numbered, is_numbered, giving_up, no_numbers}
use Rattle.slot_laws.specs.Labels.{BoxPast, after_label, past_from}
use Rattle.slot_laws.specs.declared.label.Label.{Label}
use Rattle.slot_laws.specs.Rules.{MayLabel, MayFrom}
use Rattle.slot_laws.specs.declared.label.Label.TheVariants as label
use Rattle.slot_laws.proofs.NodesTold.{giving_number}
use Rattle.slot_laws.proofs.Numbered.{last_or_before}

-- A commit among some has this number.
pub record IsNumberedIn (commits : List ReservedCommit) (number : ℕ) : Type 0 where
  pub one : ReservedCommit
  pub among : IsOneOf commits one
  pub number_is : one.number ≡ number

-- a number was a commit's that had ended, or was open
abbrev pub WasGiven : BoxPast → ℕ → Type 0
WasGiven past number = IsNumberedIn past.done number ⊎ IsNumberedIn past.opens number

-- What labels come to, from something on.
pub record GoesOnFrom (past now : BoxPast) : Type 0 where
  pub commits : past.commits ≤ now.commits
  pub done : (one : ReservedCommit) → IsOneOf now.done one → one.number ≤ past.commits → WasGiven past one.number
  pub opens : (one : ReservedCommit) → IsOneOf now.opens one → one.number ≤ past.commits → WasGiven past one.number
  pub turns : (turn : Turn) → IsOneOf past.turns turn → IsOneOf now.turns turn

pub goes_first : (past : BoxPast) → GoesOnFrom past past
goes_first past = record {
  commits = let same : past.commits ≡ past.commits = refl in omega (arith, same);
  done = λ one among low. inl (record { one = one; among = among; number_is = refl });
  opens = λ one among low. inr (record { one = one; among = among; number_is = refl });
  turns = λ turn among. among;
}

module _ (layout : Layout) (before : ℕ) (past now : BoxPast) (core : ℕ) (goes : GoesOnFrom past now) where
  abbrev Then : Label → Type 0
  Then fact = GoesOnFrom past (after_label layout core fact now)

  -- with no more than some turns
  more_turns : (more : List Turn) (turn : Turn) → IsOneOf past.turns turn → IsOneOf (now.turns ++ more) turn
  more_turns more turn among = in_left now.turns more turn (goes.turns turn among)

  fewer_open : (number : ℕ) (one : ReservedCommit) → IsOneOf (commits_but number now.opens) one → one.number ≤ past.commits → WasGiven past one.number
  fewer_open number one among low = goes.opens one (in_filter (is_numbered_otherwise number) now.opens one among).0 low

  more_done : (number : ℕ) (one : ReservedCommit) → IsOneOf (now.done ++ commits_numbered number now.opens) one → one.number ≤ past.commits
      → WasGiven past one.number
  more_done number one among low = elim (in_either now.done (commits_numbered number now.opens) one among) [
    | inl was ↦ goes.done one was low
    | inr ended ↦ goes.opens one (in_filter (is_numbered number) now.opens one ended).0 low
  ]

  given_open : (number : ℕ) (numbers : GrantedNumbers) (one : ReservedCommit) → IsOneOf (map (giving_up number numbers) now.opens) one
      → one.number ≤ past.commits → WasGiven past one.number
  given_open number numbers one among low =
      let was = from_map (giving_up number numbers) now.opens one among in
      let same : was.0.number ≡ one.number = sym (giving_number number numbers was.0) ∙ ap (λ (c : ReservedCommit). c.number) was.2 in
      subst (WasGiven past) same (goes.opens was.0 was.1 (subst (λ n. n ≤ past.commits) (sym same) low))

  new_open : (commit : ℕ) (new : ReservedCommit) → commit ≡ now.commits + 1 → new.number ≡ commit → (one : ReservedCommit)
      → IsOneOf (now.opens ++ new ∷ []) one → one.number ≤ past.commits → WasGiven past one.number
  new_open commit new next is one among low = elim (last_or_before now.opens new one among) [
    | inl was ↦ goes.opens one was low
    | inr same ↦ absurd (
        let up = goes.commits in let number = ap (λ (c : ReservedCommit). c.number) same in omega (arith, up, number, next, is, low))
  ]

  goes_label : (fact : Label) → MayLabel layout before core fact now → Then fact
  goes_label label.Took rule = record { commits = goes.commits; done = goes.done; opens = goes.opens; turns = goes.turns }
  goes_label label.Gave rule = record { commits = goes.commits; done = goes.done; opens = goes.opens; turns = goes.turns }
  goes_label (label.Noted turn) rule = record { commits = goes.commits; done = goes.done; opens = goes.opens; turns = more_turns (turn ∷ []) }
  goes_label (label.Reserved commit seen grant) rule = record {
    commits = let up = goes.commits in let next = rule.next in omega (arith, up, next);
    done = goes.done;
    opens = new_open commit (record { number = commit; seen = seen.items; grant = grant; gives_up = no_numbers }) rule.next refl;
    turns = goes.turns;
  }
  goes_label (label.Returned commit) rule = record { commits = goes.commits; done = goes.done; opens = fewer_open commit; turns = goes.turns }
  goes_label (label.Began filling commit node stamp blocks inodes) rule = record {
    commits = goes.commits;
    done = goes.done;
    opens = given_open commit (record { inodes = inodes.items; blocks = blocks.items });
    turns = goes.turns;
  }
  goes_label (label.Filled slot piece done) rule = record { commits = goes.commits; done = goes.done; opens = goes.opens; turns = goes.turns }
  goes_label (label.Synced moment) rule = record { commits = goes.commits; done = goes.done; opens = goes.opens; turns = goes.turns }
  goes_label (label.Opened slot done cut opened) rule = record {
    commits = goes.commits;
    done = goes.done;
    opens = goes.opens;
    turns = more_turns (cut ∷ opened ∷ []);
  }
  goes_label (label.Settled slot turn) rule = record {
    commits = goes.commits;
    done = more_done turn.commit;
    opens = fewer_open turn.commit;
    turns = more_turns (turn ∷ []);
  }
  goes_label (label.Learned turn) rule = record { commits = goes.commits; done = goes.done; opens = goes.opens; turns = goes.turns }
  goes_label (label.Placed slot n done) rule = record { commits = goes.commits; done = goes.done; opens = goes.opens; turns = goes.turns }
  goes_label (label.Shut slot done) rule = record { commits = goes.commits; done = goes.done; opens = goes.opens; turns = goes.turns }
  goes_label (label.Idled slot) rule = record { commits = goes.commits; done = goes.done; opens = goes.opens; turns = goes.turns }
  goes_label (label.Empty commit cut opened durable) rule = record {
    commits = goes.commits;
    done = more_done commit;
    opens = fewer_open commit;
    turns = more_turns (cut ∷ opened ∷ durable ∷ []);
  }

-- along each history that may be told
pub goes_along : (layout : Layout) (before : ℕ) (past now : BoxPast) (log : List (Event Label)) → GoesOnFrom past now → MayFrom layout before log now
    → GoesOnFrom past (past_from layout log now)
goes_along layout before past now [] goes may = goes
goes_along layout before past now (Called entry ∷ log) goes may = absurd may.0
goes_along layout before past now (Told core fact ∷ log) goes may =
    goes_along layout before past (after_label layout core.0 fact now) log (goes_label layout before past now core.0 goes fact may.0.1) may.1
