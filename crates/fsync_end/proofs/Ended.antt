-- An fsync that tells its commit, puts in what it wrote, and has it go home.
use Rattle.std.proofs.Common.{◌≡◌, ◌<◌, ◌≤◌, ◌+◌, ◌∷◌, ◌++◌, ◌∙◌, ◌⊎◌, ℕ, zero, suc, List, [], length, reverse, map, filter_map, Option, Some, None, inl, inr, refl, sym, ap, subst, arith, append_assoc}
use mathlib.Core.List.{IsPrefix}
use Rattle.std.proofs.lemmas.Bool.Decides.{leb_tells}
use Rattle.std.proofs.lemmas.List.Elements.{filter_map-append}
use Rattle.sfs_base.specs.declared.numbers.NodeId.{NodeId}
use Rattle.sfs_base.proofs.BasicOptions.{some_same}
use Rattle.tree_laws.specs.Tree.{TreeState}
use Rattle.tree_laws.specs.History.{tree_after}
use Rattle.tree_laws.specs.Laws.{IsSoundTree}
use Rattle.tree_laws.specs.NameRow.{node_number}
use Rattle.disk_nodes.specs.OldKept.{OldKept}
use Rattle.cut_laws.specs.Rules.{IsOneOf}
use Rattle.cut_laws.proofs.Basics.{in_left, in_right}
use Rattle.stamp_table.specs.declared.event.Event.{Event}
use Rattle.stamp_table.specs.declared.view.View.{View}
use Rattle.stamp_table.specs.declared.held.HeldCell.{HeldCell}
use Rattle.stamp_table.specs.Rule.{is_by, entries_by}
use Rattle.stamp_table.specs.Events.{event_core, told_by, calls_in, IsLawful}
use Rattle.stamp_table.specs.Hand.{places_of}
use Rattle.stamp_table.specs.Ascending.{Falls}
use Rattle.stamp_table.specs.Table.{TellsFact, MayTell, Stands, EachFrom, with_values}
use Rattle.mem_values.specs.Start.{FileHand, FileState}
use Rattle.mem_values.specs.declared.cell.Cell.{Cell}
use Rattle.mem_values.specs.declared.cell.Cell.TheVariants as cell
use Rattle.mem_values.specs.declared.cell.Pending.{Pending}
use Rattle.mem_values.specs.declared.cell_id.CellId.{CellId}
use Rattle.mem_values.specs.declared.cell_id.CellId.TheVariants as id
use Rattle.mem_values.specs.declared.fact.Fact.{Fact}
use Rattle.mem_values.specs.declared.fact.Fact.TheVariants.{Committed, Trimmed}
use Rattle.mem_values.specs.Places.{node_count, cell_place, IsCell}
use Rattle.mem_values.specs.Account.{Commitment, Trimming, commit_told, trimming_told, account_of}
use Rattle.mem_values.specs.Facts.{IsLawfulLog}
use Rattle.mem_values.specs.Laws.{KnowsCell, KnowsCells}
use Rattle.mem_values.specs.Stands.{IsTrimmedFor, StandsPending, StandsForCell, StandsAt}
use Rattle.mem_values.specs.Telling.{commit_by, MayTellCommit}
use Rattle.mem_values.proofs.Places.{places_apart}
use Rattle.mem_values.proofs.Telling.{commits_may_be_told}
use Rattle.mem_values.proofs.Told.{one_of_some}
use Rattle.home_laws.proofs.Written.{written_values_stand}
use Rattle.fsync_look.proofs.Copied.{pending_of}
use Rattle.mem_calls.specs.Table.{IsFileTable}
use Rattle.mem_calls.specs.Held.{as_pending}
use Rattle.fsync_end.specs.declared.finishing.Ending.{Ending}
use Rattle.fsync_end.specs.Trimming.{IsFlushing, HasTold, trim_event, trim_events, TrimsAll, Homeward, IsHomeward}
use Rattle.fsync_end.specs.Finishing.{IsWritten, AreWritten, MayEnd}
use Rattle.fsync_end.proofs.Homewards.{commits_stay, homeward_begins}

-- a fact that tells a commit may be told where the commit may
pub may_tell_by : (given : ℕ → Option OldKept) (view : View TreeState (Event Fact)) (fact : Fact) (commit : Commitment)
    → commit_told (told_by view.core fact 0) ≡ Some commit → IsSoundTree view.first → MayTellCommit given view commit
    → MayTell (IsLawfulLog given) (StandsAt given) view fact
may_tell_by given view (Trimmed number part) commit tells sound may = absurd (cc (tells))
may_tell_by given view (Committed number node stamp members held) commit tells sound may =
    commits_may_be_told given view number node stamp members held sound (subst (MayTellCommit given view) (sym (some_same tells)) may)

-- so is the core of the commit that it tells
pub told_core : (core : ℕ) (fact : Fact) (commit : Commitment) → commit_told (told_by core fact 0) ≡ Some commit → commit.core ≡ core
told_core core (Trimmed number part) commit tells = absurd (cc (tells))
told_core core (Committed number node stamp members held) commit tells = ap (λ (c : Commitment). c.core) (sym (some_same tells))

-- there are as many new values as cells
pub same_count : (tree : TreeState) (nodes : ℕ) (commit : Commitment) (cells : List (HeldCell Cell)) (values : List Cell)
    → AreWritten tree nodes commit cells values → length values ≡ length cells
same_count tree nodes commit [] [] written = refl
same_count tree nodes commit [] (v ∷ values) written = absurd written
same_count tree nodes commit (c ∷ cells) [] written = absurd written
same_count tree nodes commit (c ∷ cells) (v ∷ values) written = ap suc (same_count tree nodes commit cells values written.1)

-- of values that are exchanged twice the last ones stay
pub with_twice : (new old : List Cell) (cells : List (HeldCell Cell)) → length new ≡ length cells → length old ≡ length cells
    → with_values new (with_values old cells) ≡ with_values new cells
with_twice new old [] news olds = ap (with_values new) (by old)
  where
    none : List (HeldCell Cell)
    none = []

    by : (l : List Cell) → with_values l none ≡ none
    by [] = refl
    by (v ∷ l) = refl
with_twice [] old (c ∷ cells) news olds = absurd (omega (arith, news))
with_twice (n ∷ new) [] (c ∷ cells) news olds = absurd (omega (arith, olds))
with_twice (n ∷ new) (o ∷ old) (c ∷ cells) news olds =
    ap (λ l. record { place = c.place; value = n } ∷ l) (with_twice new old cells (omega (arith, news)) (omega (arith, olds)))

-- of each of the first logs it was told that it is trimmed
told_there : (core number count part : ℕ) → part < count
    → IsOneOf (filter_map trimming_told (trim_events core number count)) (record { core = core; number = number; part = part })
told_there core number zero part lt = absurd (omega (arith, lt))
told_there core number (suc count) part lt =
    subst (λ l. IsOneOf l (record { core = core; number = number; part = part }))
    (sym (filter_map-append trimming_told (trim_events core number count) (trim_event core number count ∷ [])))
    (elim (leb_tells (suc part) count) [
      | inl before ↦
          in_left (filter_map trimming_told (trim_events core number count)) (record { core = core; number = number; part = count } ∷ [])
          (record { core = core; number = number; part = part }) (told_there core number count part (let lower = before.1 in omega (arith, lower)))
      | inr here ↦
          in_right (filter_map trimming_told (trim_events core number count)) (record { core = core; number = number; part = count } ∷ [])
          (record { core = core; number = number; part = part })
          (inl (let upper = here.1 in ap {B = Trimming} (λ (n : ℕ). record { core = core; number = number; part = n }) (omega (arith, upper, lt))))
    ])

-- a value of the cell of what was flushed of a node stands for it where what it is does
of_pending : (given : ℕ → Option OldKept) (first : TreeState) (log : List (Event Fact)) (node : NodeId) (value : Cell) (p : Pending) → as_pending value ≡ Some p
    → StandsPending given first (account_of log) node.0 p → StandsForCell given first (account_of log) (id.Pending node) value
of_pending given first log node (cell.Pending pending) p is stands = subst (StandsPending given first (account_of log) node.0) (sym (some_same is)) stands
of_pending given first log node (cell.Bucket bucket) p is stands = absurd (cc (is))
of_pending given first log node (cell.Lock lock) p is stands = absurd (cc (is))
of_pending given first log node (cell.Part part) p is stands = absurd (cc (is))
of_pending given first log node (cell.File file) p is stands = absurd (cc (is))

-- A table over a sound tree, a core of it as it held its cells, and what it has seen since: the commit is told, and
-- all logs are trimmed for it where it has a member.
pub record HomeGoing : Type 0 where
  pub given : ℕ → Option OldKept
  pub t : FileState
  pub nodes : ℕ
  pub way : Homeward
  pub count : ℕ
  pub held : View TreeState (Event Fact)
  pub now : View TreeState (Event Fact)

pub record MayGoHome (s : HomeGoing) : Type 0 where
  pub table : IsFileTable s.t s.nodes
  pub held_first : s.held.first ≡ s.t.first
  pub now_first : s.now.first ≡ s.t.first
  pub saw : IsPrefix s.held.seen s.now.seen
  pub home : IsHomeward s.given s.way s.count s.now
  pub all : (member : ℕ) → IsOneOf s.way.commit.members member → s.count ≡ length s.t.first.made

module _ (s : HomeGoing) (may : MayGoHome s) where
  abbrev first : TreeState
  first = s.t.first

  cells_of : (f : TreeState) → f ≡ first → (which : CellId) → IsCell s.nodes (length first.made) which → IsCell (node_count f) (length f.made) which
  cells_of f same which is = subst (λ (x : TreeState). IsCell (node_count x) (length x.made) which) (sym same)
      (subst (λ n. IsCell n (length first.made) which) may.table.counted is)

  of_cells : (f : TreeState) → f ≡ first → (which : CellId) → IsCell (node_count f) (length f.made) which → IsCell s.nodes (length first.made) which
  of_cells f same which is = subst (λ n. IsCell n (length first.made) which) (sym may.table.counted)
      (subst (λ (x : TreeState). IsCell (node_count x) (length x.made) which) same is)

  place_of : (f : TreeState) → f ≡ first → (which : CellId) → cell_place (node_count f) which ≡ cell_place s.nodes which
  place_of f same which = ap (λ n. cell_place n which) (ap node_count same ∙ sym may.table.counted)

  all_trimmed : (part : ℕ) → part < s.count → IsTrimmedFor (account_of s.now.seen) s.way.commit part
  all_trimmed part lt =
      let trimming : Trimming = record { core = s.now.core; number = s.way.commit.number; part = part } in
      subst (λ c. IsOneOf (account_of s.now.seen).trimmings (record { core = c; number = s.way.commit.number; part = part })) (sym may.home.is_own)
      (one_of_some trimming_told (is_by event_core s.now.core) s.now.seen trimming
      (subst (λ l. IsOneOf (filter_map trimming_told l) trimming) (sym may.home.mine_is ∙ may.home.own)
      (subst (λ l. IsOneOf l trimming)
      (sym (filter_map-append trimming_told (s.way.mine ++ s.way.event ∷ []) (trim_events s.now.core s.way.commit.number s.count)))
      (in_right (filter_map trimming_told (s.way.mine ++ s.way.event ∷ []))
      (filter_map trimming_told (trim_events s.now.core s.way.commit.number s.count)) trimming
      (told_there s.now.core s.way.commit.number s.count part lt)))))

  -- a new value stands for its cell
  one_home : (c : HeldCell Cell) (value : Cell) → IsWritten (tree_after first (calls_in s.held.seen)) s.nodes s.way.commit c value
      → KnowsCell s.given s.held c → StandsAt s.given s.now.first s.now.seen c.place value
  one_home c value written knows which is_cell at =
      let mine = of_cells s.now.first may.now_first which is_cell in
      let same : id.Pending written.node ≡ which =
      places_apart s.nodes (length first.made) (id.Pending written.node) which written.within mine
      (sym written.there ∙ (sym at ∙ place_of s.now.first may.now_first which)) in
      let stood = pending_of s.given s.held.first s.held.seen written.node c.value written.old written.old_is
      (knows.stood (id.Pending written.node) (cells_of s.held.first may.held_first (id.Pending written.node) written.within)
      (place_of s.held.first may.held_first (id.Pending written.node) ∙ sym written.there)) in
      subst (λ w. StandsForCell s.given s.now.first (account_of s.now.seen) w value) same
      (of_pending s.given s.now.first s.now.seen written.node value written.new written.new_is
      (subst (λ f. StandsPending s.given f (account_of s.now.seen) written.node.0 written.new) (sym may.now_first)
      (written_values_stand
      (record {
        given = s.given;
        first = first;
        seen = s.held.seen;
        later = s.now.seen;
        node = written.node.0;
        old = written.old;
        new = written.new;
        commit = s.way.commit;
        what = written.what;
      })
      (record {
        sound = may.table.sound;
        legal = subst (λ f. Rattle.tree_laws.specs.History.IsLegal f (calls_in s.now.seen)) may.now_first may.home.lawful.legal_calls;
        begins = may.saw;
        stood = subst (λ f. StandsPending s.given f (account_of s.held.seen) written.node.0 written.old) may.held_first stood;
        is_node = written.is_node;
        last = may.home.last written.node.0 written.what written.holds;
        trimmed = λ member part among lt. all_trimmed part (let n = may.all member among in omega (arith, n, lt));
        wrote = written.wrote;
        made_in = written.made_in;
      }))))

  -- and so does each
  pub all_home : (cells : List (HeldCell Cell)) (values : List Cell) → AreWritten (tree_after first (calls_in s.held.seen)) s.nodes s.way.commit cells values
      → KnowsCells s.given s.held cells
      → EachFrom 0 (Stands (IsLawfulLog s.given) (StandsAt s.given) s.now) (with_values values cells)
  all_home [] [] written knows = tt
  all_home [] (v ∷ values) written knows = absurd written
  all_home (c ∷ cells) [] written knows = absurd written
  all_home (c ∷ cells) (v ∷ values) written knows = ((λ le. one_home c v written.0 knows.0), all_home cells values written.1 knows.1)
