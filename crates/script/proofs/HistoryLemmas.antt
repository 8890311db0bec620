-- A history that follows a script has no more entries than the script makes calls.
use Rattle.std.proofs.Common.{◌≡◌, ℕ, zero, suc, ◌+◌, ◌<◌, ◌≤◌, true, false, cond, List, [], ◌∷◌, ◌++◌, length, Ok, inl, inr, filter, map, refl, sym, ap, ◌∙◌, sum_by, arith, nat_eq, length-append}
use borrow.Author.Tests.{eqb-true, eqb-false, ne_eqb}
use Rattle.std.proofs.lemmas.List.{map-append}
use Rattle.std.proofs.lemmas.List.Sums.{sum_by-cons}
use Rattle.tree_laws.specs.declared.history.Entry.{Entry}
use Rattle.script.specs.declared.commands.Command.{Command}
use Rattle.script.specs.declared.commands.Line.{Line}
use Rattle.script.specs.Walks.{taken, position_after, commands_of}
use Rattle.script.specs.Follows.{core_entries, replies_of, MakesBehind, Makes, IsPartOfPhase, Follows, FollowsSoFar}
use Rattle.script.specs.Limits.{most_calls, calls_left, calls_of_lines, calls_of_phases}
use Rattle.script.specs.Phases.{phases_of}
use Rattle.script.proofs.LimitLemmas.{calls_within}
use Rattle.script.proofs.EndLemmas.{calls_left-falls, calls_left-started}
use Rattle.script.proofs.FollowLemmas.{position_after-more, IsPart-whole}

-- where a worker stands after one more entry
after_entry : (commands : List Command) (before : List Entry) (entry : Entry)
    → position_after commands (replies_of (before ++ entry ∷ [])) ≡ taken (position_after commands (replies_of before)) entry.reply
after_entry commands before entry =
    ap (position_after commands) (map-append (λ e. e.reply) before (entry ∷ [])) ∙ position_after-more commands (replies_of before) entry.reply

-- entries behind others are no more than the calls left
behind-few : (commands : List Command) (before entries : List Entry) → MakesBehind commands before entries
    → length entries ≤ calls_left (position_after commands (replies_of before))
behind-few commands before [] made = omega arith
behind-few commands before (entry ∷ entries) made =
    let later = behind-few commands (before ++ entry ∷ []) entries made.1 in
    let same : calls_left (position_after commands (replies_of (before ++ entry ∷ [])))
    ≡ calls_left (taken (position_after commands (replies_of before)) entry.reply) =
    ap calls_left (after_entry commands before entry) in
    let falls = calls_left-falls (position_after commands (replies_of before)) entry.reply entry.call made.0 in
    omega (arith, later, same, falls)

-- A worker's entries are no more than its commands make calls.
pub Makes-few : (commands : List Command) (entries : List Entry) → Makes commands entries → length entries ≤ sum_by most_calls commands
Makes-few commands entries made =
    let few = behind-few commands [] entries made in
    let all = calls_left-started commands in
    omega (arith, few, all)

-- a sum over the numbers below this one
abbrev sum_to : ℕ → (ℕ → ℕ) → ℕ
sum_to zero f = 0
sum_to (suc n) f = f n + sum_to n f

sum_to-add : (n : ℕ) (f g : ℕ → ℕ) → sum_to n (λ c. f c + g c) ≡ sum_to n f + sum_to n g
sum_to-add zero f g = refl
sum_to-add (suc n) f g = let before = sum_to-add n f g in omega (arith, before)

sum_to-le : (n : ℕ) (f g : ℕ → ℕ) → ((c : ℕ) → f c ≤ g c) → sum_to n f ≤ sum_to n g
sum_to-le zero f g le = omega arith
sum_to-le (suc n) f g le = let before = sum_to-le n f g le in let here = le n in omega (arith, before, here)

sum_to-zero : (n : ℕ) → sum_to n (λ c. 0) ≡ 0
sum_to-zero zero = refl
sum_to-zero (suc n) = let before = sum_to-zero n in omega (arith, before)

-- what one number adds
abbrev at : ℕ → ℕ → ℕ → ℕ
at number amount c = cond (nat_eq number c) amount 0

sum_to-past : (n number amount : ℕ) → n ≤ number → sum_to n (at number amount) ≡ 0
sum_to-past zero number amount past = refl
sum_to-past (suc n) number amount past =
    let before = sum_to-past n number amount (omega arith) in
    let other : at number amount n ≡ 0 = ap (λ t. cond t amount 0) (ne_eqb number n (λ e. omega arith)) in
    omega (arith, before, other)

sum_to-at : (n number amount : ℕ) → number < n → sum_to n (at number amount) ≡ amount
sum_to-at zero number amount below = absurd (omega arith)
sum_to-at (suc n) number amount below =
    elim (nat_eq number n) as (λ t. nat_eq number n ≡ t → cond t amount 0 + sum_to n (at number amount) ≡ amount) [
      | true ↦ λ same. let is = eqb-true number n same in let none = sum_to-past n number amount (omega arith) in omega (arith, none)
      | false ↦ λ other. let is_not = eqb-false number n other in let before = sum_to-at n number amount (omega arith) in omega (arith, before)
    ] refl

sum_to-at-le : (n number amount : ℕ) → sum_to n (at number amount) ≤ amount
sum_to-at-le zero number amount = omega arith
sum_to-at-le (suc n) number amount =
    elim (nat_eq number n) as (λ t. nat_eq number n ≡ t → cond t amount 0 + sum_to n (at number amount) ≤ amount) [
      | true ↦ λ same. let is = eqb-true number n same in let none = sum_to-past n number amount (omega arith) in omega (arith, none)
      | false ↦ λ other. let before = sum_to-at-le n number amount in omega (arith, before)
    ] refl

-- a number above each core
abbrev above : List Entry → ℕ
above [] = 0
above (entry ∷ entries) = suc entry.core.0 + above entries

-- how many entries of a core there are, with one more
count_more : (entry : Entry) (entries : List Entry) (core : ℕ)
    → length (core_entries core (entry ∷ entries)) ≡ at entry.core.0 1 core + length (core_entries core entries)
count_more entry entries core =
    elim (nat_eq entry.core.0 core) as (λ t. length (cond t (entry ∷ core_entries core entries) (core_entries core entries))
    ≡ cond t 1 0 + length (core_entries core entries)) [
      | true ↦
          omega arith
      | false ↦ omega arith
    ]

sum_to-same : (n : ℕ) (f g : ℕ → ℕ) → ((c : ℕ) → f c ≡ g c) → sum_to n f ≡ sum_to n g
sum_to-same zero f g same = refl
sum_to-same (suc n) f g same = let before = sum_to-same n f g same in let here = same n in omega (arith, before, here)

-- each entry is one of some core
all_cores : (n : ℕ) (entries : List Entry) → above entries ≤ n → length entries ≡ sum_to n (λ core. length (core_entries core entries))
all_cores n [] below = sym (sum_to-zero n)
all_cores n (entry ∷ entries) below =
    let before = all_cores n entries (omega arith) in
    let more =
    sum_to-same n (λ core. length (core_entries core (entry ∷ entries))) (λ core. at entry.core.0 1 core + length (core_entries core entries))
    (count_more entry entries) in
    let split = sum_to-add n (at entry.core.0 1) (λ core. length (core_entries core entries)) in
    let one = sum_to-at n entry.core.0 1 (omega arith) in
    omega (arith, before, more, split, one)

-- how many calls the commands of a worker make, with one more line
calls_more : (line : Line) (lines : List Line) (worker : ℕ)
    → sum_by most_calls (commands_of worker (line ∷ lines)) ≡ at line.worker (most_calls line.command) worker + sum_by most_calls (commands_of worker lines)
calls_more line lines worker =
    let more = sum_by-cons most_calls line.command (commands_of worker lines) in
    elim (nat_eq line.worker worker) as (λ t. sum_by most_calls
    (map (λ l. l.command) (cond t (line ∷ filter (λ l. nat_eq l.worker worker) lines) (filter (λ l. nat_eq l.worker worker) lines)))
    ≡ cond t (most_calls line.command) 0 + sum_by most_calls (commands_of worker lines)) [
      | true ↦ more
      | false ↦ omega arith
    ]

-- the workers' commands together make no more calls than the lines
all_workers : (n : ℕ) (lines : List Line) → sum_to n (λ worker. sum_by most_calls (commands_of worker lines)) ≤ calls_of_lines lines
all_workers n [] = let none = sum_to-zero n in omega (arith, none)
all_workers n (line ∷ lines) =
    let before = all_workers n lines in
    let more =
    sum_to-same n (λ worker. sum_by most_calls (commands_of worker (line ∷ lines)))
    (λ worker. at line.worker (most_calls line.command) worker + sum_by most_calls (commands_of worker lines)) (calls_more line lines) in
    let split = sum_to-add n (at line.worker (most_calls line.command)) (λ worker. sum_by most_calls (commands_of worker lines)) in
    let one = sum_to-at-le n line.worker (most_calls line.command) in
    let sum = sum_by-cons (λ l. most_calls l.command) line lines in
    omega (arith, before, more, split, one, sum)

-- A part has no more entries than its phase makes calls.
pub IsPart-few : (phase : List Line) (part : List Entry) → IsPartOfPhase phase part → length part ≤ calls_of_lines phase
IsPart-few phase part made =
    let cores = all_cores (above part) part (omega arith) in
    let few =
    sum_to-le (above part) (λ core. length (core_entries core part)) (λ core. sum_by most_calls (commands_of core phase))
    (λ core. Makes-few (commands_of core phase) (core_entries core part) (made core)) in
    let all = all_workers (above part) phase in
    omega (arith, cores, few, all)

-- A history that follows phases so far has no more entries than they make calls.
pub FollowsSoFar-few : (phases : List (List Line)) (history : List Entry) → FollowsSoFar phases history → length history ≤ calls_of_phases phases
FollowsSoFar-few [] history follows = let none : length history ≡ 0 = ap length follows in omega (arith, none)
FollowsSoFar-few (phase ∷ phases) history (inl part) =
    let few = IsPart-few phase history part in
    let sum = sum_by-cons calls_of_lines phase phases in
    omega (arith, few, sum)
FollowsSoFar-few (phase ∷ phases) history (inr cut) =
    let first = IsPart-few phase cut.part (IsPart-whole phase cut.part cut.whole) in
    let later = FollowsSoFar-few phases cut.rest cut.holds in
    let sum = sum_by-cons calls_of_lines phase phases in
    let joined = ap length cut.joined in
    let both = length-append cut.part cut.rest in
    omega (arith, first, later, sum, joined, both)

-- a history that follows phases follows them so far
pub FollowsSoFar-Follows : (phases : List (List Line)) (history : List Entry) → Follows phases history → FollowsSoFar phases history
FollowsSoFar-Follows [] history follows = follows
FollowsSoFar-Follows (phase ∷ phases) history follows = inr (record {
  part = follows.part;
  rest = follows.rest;
  joined = follows.joined;
  whole = follows.whole;
  holds = FollowsSoFar-Follows phases follows.rest follows.holds;
})

-- A history that follows a script so far has no more entries than the script has bytes.
pub history_within : (text : List ℕ) (phases : List (List Line)) (history : List Entry) → phases_of text ≡ Ok phases → FollowsSoFar phases history
    → length history ≤ length text
history_within text phases history read follows =
    let few = FollowsSoFar-few phases history follows in
    let all = calls_within text phases read in
    omega (arith, few, all)
