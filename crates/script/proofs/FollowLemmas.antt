-- How a history comes to follow a script: entry by entry, and phase by phase.
use Rattle.std.proofs.Common.{◌≡◌, ℕ, true, false, cond, List, [], ◌∷◌, ◌++◌, Some, None, inl, inr, fold, refl, sym, ap, ◌∙◌, subst, nat_eq, append_assoc, append-nil}
use borrow.Author.Tests.{eqb-true}
use Rattle.std.proofs.lemmas.List.Elements.{filter-append}
use Rattle.std.proofs.lemmas.List.Sums.{fold-append}
use Rattle.tree_laws.specs.declared.history.Entry.{Entry}
use Rattle.tree_laws.specs.declared.reply.Reply.{Reply}
use Rattle.script.specs.declared.commands.Command.{Command}
use Rattle.script.specs.declared.commands.Line.{Line}
use Rattle.script.specs.Walks.{started, taken, call_of, position_after, next_call, commands_of}
use Rattle.script.specs.Follows.{core_entries, replies_of, MakesBehind, Makes, IsWholePhase, IsPartOfPhase, Follows, FollowsSoFar}

-- where a worker stands after one more reply
pub position_after-more : (commands : List Command) (replies : List Reply) (reply : Reply)
    → position_after commands (replies ++ reply ∷ []) ≡ taken (position_after commands replies) reply
position_after-more commands replies reply = fold-append taken (started commands) replies (reply ∷ [])

-- a worker with no commands makes no call
pub next_call-nothing : (replies : List Reply) → next_call [] replies ≡ None
next_call-nothing replies = ap (λ s. call_of s.walk) (stays replies)
  where
    stays : (replies : List Reply) → fold taken (started []) replies ≡ started []
    stays [] = refl
    stays (reply ∷ replies) = stays replies

-- one more entry of a worker, behind others
makes_behind : (commands : List Command) (before entries : List Entry) (entry : Entry) → MakesBehind commands before entries
    → next_call commands (replies_of (before ++ entries)) ≡ Some entry.call → MakesBehind commands before (entries ++ entry ∷ [])
makes_behind commands before [] entry made next = (ap (λ es. next_call commands (replies_of es)) (sym (append-nil before)) ∙ next, tt)
makes_behind commands before (first ∷ entries) entry made next = (
  made.0,
  makes_behind commands (before ++ first ∷ []) entries entry made.1
      (ap (λ es. next_call commands (replies_of es)) (append_assoc before (first ∷ []) entries) ∙ next),
)

-- one more entry of a worker: its next call
pub Makes-more : (commands : List Command) (entries : List Entry) (entry : Entry) → Makes commands entries
    → next_call commands (replies_of entries) ≡ Some entry.call → Makes commands (entries ++ entry ∷ [])
Makes-more commands entries entry made next = makes_behind commands [] entries entry made next

-- the entries of a core, with one more of its own
entries_own : (core : ℕ) (part : List Entry) (entry : Entry) → nat_eq entry.core.0 core ≡ true
    → core_entries core (part ++ entry ∷ []) ≡ core_entries core part ++ entry ∷ []
entries_own core part entry own = filter-append (λ e. nat_eq e.core.0 core) part (entry ∷ []) ∙ ap (λ t. core_entries core part ++ cond t (entry ∷ []) []) own

-- the entries of a core, with one more of another core
entries_other : (core : ℕ) (part : List Entry) (entry : Entry) → nat_eq entry.core.0 core ≡ false
    → core_entries core (part ++ entry ∷ []) ≡ core_entries core part
entries_other core part entry other =
    filter-append (λ e. nat_eq e.core.0 core) part (entry ∷ []) ∙ ap (λ t. core_entries core part ++ cond t (entry ∷ []) []) other
    ∙ append-nil (core_entries core part)

-- a part without entries
pub IsPart-nothing : (phase : List Line) → IsPartOfPhase phase []
IsPart-nothing phase core = tt

-- one more entry of a part: the next call of its core's worker
pub IsPart-more : (phase : List Line) (part : List Entry) (entry : Entry) → IsPartOfPhase phase part
    → next_call (commands_of entry.core.0 phase) (replies_of (core_entries entry.core.0 part)) ≡ Some entry.call → IsPartOfPhase phase (part ++ entry ∷ [])
IsPart-more phase part entry before next core =
    elim (nat_eq entry.core.0 core) as (λ t. nat_eq entry.core.0 core ≡ t → Makes (commands_of core phase) (core_entries core (part ++ entry ∷ []))) [
      | true ↦ λ own.
          let P : List Entry → Type 0 = λ es. Makes (commands_of core phase) es in
          let Q : ℕ → Type 0 = λ c. next_call (commands_of c phase) (replies_of (core_entries c part)) ≡ Some entry.call in
          subst P (sym (entries_own core part entry own))
          (Makes-more (commands_of core phase) (core_entries core part) entry (before core) (subst Q (eqb-true _ _ own) next))
      | false ↦ λ other.
          let P : List Entry → Type 0 = λ es. Makes (commands_of core phase) es in
          subst P (sym (entries_other core part entry other)) (before core)
    ] refl

-- a part in which each worker has come to its end
pub IsWhole-ended : (phase : List Line) (part : List Entry) → IsPartOfPhase phase part
    → ((core : ℕ) → next_call (commands_of core phase) (replies_of (core_entries core part)) ≡ None) → IsWholePhase phase part
IsWhole-ended phase part made ended core = record { makes = made core; ended = ended core }

-- a whole part is a part
pub IsPart-whole : (phase : List Line) (part : List Entry) → IsWholePhase phase part → IsPartOfPhase phase part
IsPart-whole phase part whole core = (whole core).makes

-- before the first phase
pub Follows-nothing : Follows [] []
Follows-nothing = refl

-- one more whole phase at the end
pub Follows-more : (phases : List (List Line)) (phase : List Line) (history part : List Entry) → Follows phases history → IsWholePhase phase part
    → Follows (phases ++ phase ∷ []) (history ++ part)
Follows-more [] phase history part before whole =
    record { part = part; rest = []; joined = ap (λ h. h ++ part) before ∙ sym (append-nil part); whole = whole; holds = refl }
Follows-more (first ∷ phases) phase history part before whole = record {
  part = before.part;
  rest = before.rest ++ part;
  joined = ap (λ h. h ++ part) before.joined ∙ append_assoc before.part before.rest part;
  whole = before.whole;
  holds = Follows-more phases phase before.rest part before.holds whole;
}

-- one more phase at the end, of which some calls have been made, and phases of which none has
pub FollowsSoFar-part : (phases : List (List Line)) (phase : List Line) (later : List (List Line)) (history part : List Entry) → Follows phases history
    → IsPartOfPhase phase part → FollowsSoFar (phases ++ phase ∷ later) (history ++ part)
FollowsSoFar-part [] phase later history part before made =
    let P : List Entry → Type 0 = λ h. IsPartOfPhase phase h in
    inl (subst P (sym (ap (λ h. h ++ part) before)) made)
FollowsSoFar-part (first ∷ phases) phase later history part before made = inr (record {
  part = before.part;
  rest = before.rest ++ part;
  joined = ap (λ h. h ++ part) before.joined ∙ append_assoc before.part before.rest part;
  whole = before.whole;
  holds = FollowsSoFar-part phases phase later before.rest part before.holds made;
})

-- whole phases, and phases of which no call has been made
pub FollowsSoFar-whole : (phases later : List (List Line)) (history : List Entry) → Follows phases history → FollowsSoFar (phases ++ later) history
FollowsSoFar-whole [] [] history before = before
FollowsSoFar-whole [] (phase ∷ later) history before =
    let P : List Entry → Type 0 = λ h. IsPartOfPhase phase h in
    inl (subst P (sym before) (IsPart-nothing phase))
FollowsSoFar-whole (first ∷ phases) later history before = inr (record {
  part = before.part;
  rest = before.rest;
  joined = before.joined;
  whole = before.whole;
  holds = FollowsSoFar-whole phases later before.rest before.holds;
})
