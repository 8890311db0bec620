-- A worker under way in its commands.
use Rattle.std.proofs.Common.{◌≡◌, ◌≤◌, ℕ, true, false, List, [], ◌∷◌, ◌++◌, Some, None, IsSome, refl, sym, ap, ◌∙◌, subst, arith, append_assoc, append-nil}
use Rattle.std.specs.Prelude.{is_some}
use Rattle.std.proofs.lemmas.List.{map-append}
use mathlib.Core.List.{IsPrefix}
use Rattle.sfs_base.proofs.BasicOptions.{some_same}
use Rattle.tree_laws.specs.Step.{IsReadable}
use Rattle.tree_laws.specs.declared.call.Call.{Call}
use Rattle.tree_laws.specs.declared.call.Call.TheVariants as call
use Rattle.tree_laws.specs.declared.history.Entry.{Entry}
use Rattle.tree_laws.specs.declared.reply.Reply.{Reply}
use Rattle.stamp_table.specs.Table.{IsBetweenCalls, IsSameCore}
use Rattle.stamp_table.proofs.Keeps.{begins_itself, begins_on}
use Rattle.mem_values.specs.Start.{FileHand, FileState}
use Rattle.mem_values.proofs.Told.{calls_grow}
use Rattle.script.specs.declared.commands.Command.{Command}
use Rattle.script.specs.Follows.{replies_of, Makes}
use Rattle.script.specs.Ready.{MayCall, IsReady, PositionReady}
use Rattle.script.specs.Walks.{WalkState, First, Second, Last, Done, Position, call_of, taken, position_after, next_call, started}
use Rattle.script.proofs.FollowLemmas.{Makes-more, position_after-more}
use Rattle.script.proofs.ReadyLemmas.{taken_ready}
use Rattle.fsync_stamp.specs.Adding.{AddsCall, calls_seen}
use Rattle.workers.specs.Keeping.{AddsNone}
use Rattle.workers.specs.Phases.{AreBefore, AreFrom}
use Rattle.workers.specs.Works.{MakesCalls, Rests, Works}
use Rattle.workers.specs.declared.worker.Worker.{Worker}
use Rattle.workers.proofs.Added.{OnlySeesMore, more_same, more_entries, more_between, same_after}
use Rattle.workers.proofs.Phases.{from_lower}

-- a call within the bounds of a script is one that may be read
pub may_read : (c : Call) → MayCall c → IsReadable c
may_read (call.Read file at count) may = may
may_read (call.Fsync node) may = tt
may_read (call.Rename d n e m) may = tt
may_read (call.Look d n) may = tt
may_read (call.Make d n k) may = tt
may_read (call.Link f d n) may = tt
may_read (call.Unlink d n) may = tt
may_read (call.Rmdir d n) may = tt
may_read (call.Write f at bytes) may = tt
may_read (call.Trunc f size) may = tt
may_read (call.Stat d) may = tt
may_read (call.List d) may = tt

-- the call at hand of a worker that is ready
pub readable_next : (walk : WalkState) (c : Call) → IsReady walk → call_of walk ≡ Some c → IsReadable c
readable_next (First command node name names) c ready is = subst IsReadable (some_same is) tt
readable_next (Second command first node name names) c ready is = subst IsReadable (some_same is) tt
readable_next (Last last) c ready is = subst IsReadable (some_same is) (may_read last ready)
readable_next Done c ready is = absurd (cc (is))

-- entries below a number are so below each higher one
pub before_higher : (low high : ℕ) → low ≤ high → (entries : List Entry) → AreBefore low entries → AreBefore high entries
before_higher low high le [] below = tt
before_higher low high le (e ∷ entries) below = ((let b = below.0 in omega (arith, b, le)), before_higher low high le entries below.1)

pub before_both : (number : ℕ) (front back : List Entry) → AreBefore number front → AreBefore number back → AreBefore number (front ++ back)
before_both number [] back below also = also
before_both number (e ∷ front) back below also = (below.0, before_both number front back below.1 also)

from_both : (number : ℕ) (front back : List Entry) → AreFrom number front → AreFrom number back → AreFrom number (front ++ back)
from_both number [] back above also = also
from_both number (e ∷ front) back above also = (above.0, from_both number front back above.1 also)

module _ {P : Type 0} (t : FileState) (agrees : FileHand → P → Type 0) (commands : List Command) where
  -- A core under way: what it has made so far, with where it stands in its commands.
  pub record IsUnderWay (before now : FileHand) (pen : P) (course : Position) : Type 0 where
    pub made : List Entry
    pub between : IsBetweenCalls t now
    pub agree : agrees now pen
    pub same : IsSameCore before now
    pub grown : now.entries ≡ before.entries ++ made
    pub makes : Makes commands made
    pub late : AreFrom (calls_seen before) made
    pub early : AreBefore (calls_seen now) made
    pub seen : IsPrefix before.view.seen now.view.seen
    pub at : course ≡ position_after commands (replies_of made)
    pub ready : PositionReady course

  -- before its first call
  pub sets_out : (before : FileHand) (pen : P) (course : Position) → IsBetweenCalls t before → agrees before pen → course ≡ started commands
      → PositionReady (started commands) → IsUnderWay before before pen course
  sets_out before pen course between agree at ready = record {
    made = [];
    between = between;
    agree = agree;
    same = record { table = refl; cores = refl; leads = refl; number = refl };
    grown = sym (append-nil before.entries);
    makes = tt;
    late = tt;
    early = tt;
    seen = begins_itself before.view.seen;
    at = at;
    ready = subst PositionReady (sym at) ready;
  }

  -- what a call leaves of a core, whether it was made or not
  pub record IsAfterCall (before after : FileHand) (pen : P) : Type 0 where
    pub between : IsBetweenCalls t after
    pub same : IsSameCore before after
    pub agree : agrees after pen

  module _ (before mid : FileHand) (pen : P) (course : Position) (way : IsUnderWay before mid pen course) where
    -- the call at hand is the next one after the replies so far
    next_is : next_call commands (replies_of way.made) ≡ call_of course.walk
    next_is = ap (λ (p : Position). call_of p.walk) (sym way.at)

    -- one call more
    pub one_more : (after : FileHand) (next : P) (c : Call) (reply : Reply) → call_of course.walk ≡ Some c → AddsCall c reply mid after
        → IsAfterCall mid after next → IsUnderWay before after next (taken course reply)
    one_more after next c reply is adds then =
        let grew = calls_grow mid.view.seen after.view.seen adds.seen in
        let earlier = calls_grow before.view.seen mid.view.seen way.seen in
        let late = adds.late in
        record {
          made = way.made ++ adds.entry ∷ [];
          between = then.between;
          agree = then.agree;
          same = same_after before mid after way.same then.same;
          grown = adds.entries ∙ (ap (λ (l : List Entry). l ++ adds.entry ∷ []) way.grown ∙ append_assoc before.entries way.made (adds.entry ∷ []));
          makes = Makes-more commands way.made adds.entry way.makes (next_is ∙ (is ∙ ap Some (sym adds.call_is)));
          late = from_both (calls_seen before) way.made (adds.entry ∷ []) way.late (omega (arith, late, earlier), tt);
          early = before_both (calls_seen after) way.made (adds.entry ∷ [])
              (before_higher (calls_seen mid) (calls_seen after) grew way.made way.early) (adds.early, tt);
          seen = begins_on before.view.seen mid.view.seen after.view.seen way.seen adds.seen;
          at = ap (λ r. taken course r) (sym adds.reply_is) ∙ (ap (λ (p : Position). taken p adds.entry.reply) way.at
              ∙ (sym (position_after-more commands (replies_of way.made) adds.entry.reply)
              ∙ ap (position_after commands) (sym (map-append (λ (e : Entry). e.reply) way.made (adds.entry ∷ [])))));
          ready = taken_ready course reply way.ready;
        }

    -- the end
    pub comes_to_end : call_of course.walk ≡ None → MakesCalls t agrees commands before mid pen false
    comes_to_end none = record {
      made = way.made;
      between = way.between;
      agree = way.agree;
      same = way.same;
      grown = way.grown;
      makes = way.makes;
      late = way.late;
      early = way.early;
      seen = way.seen;
      refused_is = sym (ap is_some (next_is ∙ none));
    }

    -- want of memory for the call at hand
    pub is_refused : (after : FileHand) (next : P) → IsSome (call_of course.walk) → AddsNone mid after → IsAfterCall mid after next
        → MakesCalls t agrees commands before after next true
    is_refused after next some none then = record {
      made = way.made;
      between = then.between;
      agree = then.agree;
      same = same_after before mid after way.same then.same;
      grown = none.entries ∙ way.grown;
      makes = way.makes;
      late = way.late;
      early = before_higher (calls_seen mid) (calls_seen after) (calls_grow mid.view.seen after.view.seen none.seen) way.made way.early;
      seen = begins_on before.view.seen mid.view.seen after.view.seen way.seen none.seen;
      refused_is = sym (ap is_some next_is ∙ some);
    }

    -- want of memory as the call is written down
    pub is_refused_at_once : IsSome (call_of course.walk) → MakesCalls t agrees commands before mid pen true
    is_refused_at_once some = is_refused mid pen some (record { entries = refl; seen = begins_itself mid.view.seen }) (record {
      between = way.between;
      same = record { table = refl; cores = refl; leads = refl; number = refl };
      agree = way.agree;
    })

  -- A worker has looked at the calls of the phases before, made calls of its commands, and looked again.
  pub record IsLookedRound (from : ℕ) (before after : Worker P) : Type 0 where
    pub looked : FileHand
    pub called : FileHand
    pub first_look : OnlySeesMore before.core looked
    pub enough : from ≤ calls_seen looked
    pub calls : MakesCalls t agrees commands looked called after.pen after.refused
    pub last_look : OnlySeesMore called after.core
    pub until_is : after.until ≡ calls_seen after.core
    pub agree : agrees after.core after.pen
    pub rests : Rests t agrees before
    pub reached : before.until ≤ from

  -- so it has worked
  pub has_worked : (from : ℕ) (before after : Worker P) → IsLookedRound from before after → Works t agrees commands from before after
  has_worked from before after round =
      let made = round.calls.made in
      let past : AreBefore from before.core.entries = before_higher before.until from round.reached before.core.entries round.rests.past in
      let grown : after.core.entries ≡ before.core.entries ++ made = more_entries round.called after.core round.last_look
      ∙ (round.calls.grown ∙ ap (λ (l : List Entry). l ++ made) (more_entries before.core round.looked round.first_look)) in
      let ahead = calls_grow round.looked.view.seen round.called.view.seen round.calls.seen in
      let further = calls_grow round.called.view.seen after.core.view.seen round.last_look.seen in
      let enough = round.enough in
      let until = round.until_is in
      record {
        made = made;
        rests = record {
          between = more_between round.called after.core round.last_look t round.calls.between;
          agree = round.agree;
          past = subst (λ l. AreBefore after.until l) (sym grown)
              (before_both after.until before.core.entries made
              (before_higher from after.until (omega (arith, ahead, further, enough, until)) before.core.entries past)
              (before_higher (calls_seen round.called) after.until (omega (arith, further, until)) made round.calls.early));
        };
        same = same_after before.core round.called after.core
            (same_after before.core round.looked round.called (more_same before.core round.looked round.first_look) round.calls.same)
            (more_same round.called after.core round.last_look);
        grown = grown;
        makes = round.calls.makes;
        past = past;
        late = from_lower from (calls_seen round.looked) enough made round.calls.late;
        refused = round.calls.refused_is;
      }
