-- An fsync from the telling of its commit to its answer.
use Rattle.std.proofs.Common.{◌≡◌, ◌<◌, ◌+◌, ◌∷◌, ◌++◌, ◌∙◌, ℕ, List, [], length, reverse, map, filter_map, Option, Some, inl, refl, sym, ap, subst, arith, append_assoc}
use mathlib.Core.List.{IsPrefix}
use Rattle.std.proofs.lemmas.List.Elements.{filter_map-append}
use Rattle.sfs_base.specs.declared.numbers.NodeId.{NodeId}
use Rattle.sfs_base.proofs.BasicOptions.{some_same}
use Rattle.tree_laws.specs.Tree.{TreeState}
use Rattle.tree_laws.specs.History.{tree_after}
use Rattle.tree_laws.specs.Laws.{IsSoundTree}
use Rattle.tree_laws.specs.NameRow.{node_number}
use Rattle.tree_laws.specs.declared.history.Entry.{Entry}
use Rattle.tree_laws.specs.declared.reply.Reply.TheVariants as reply
use Rattle.disk_nodes.specs.OldKept.{OldKept}
use Rattle.cut_laws.specs.Rules.{IsOneOf}
use Rattle.cut_laws.proofs.Basics.{in_right}
use Rattle.stamp_table.specs.declared.event.Event.{Event}
use Rattle.stamp_table.specs.declared.view.View.{View}
use Rattle.stamp_table.specs.declared.held.HeldCell.{HeldCell}
use Rattle.stamp_table.specs.Rule.{entries_by}
use Rattle.stamp_table.specs.Events.{event_core, told_by, calls_in}
use Rattle.stamp_table.specs.Hand.{places_of}
use Rattle.stamp_table.specs.Ascending.{LiesAbove, Falls}
use Rattle.stamp_table.specs.Table.{TellsFact, MayTell, LetsGo, GivesAnswer, IsBetweenCalls, Stands, EachFrom, with_values, left_below, with_answer}
use Rattle.mem_values.specs.Start.{FileHand, FileState}
use Rattle.mem_values.specs.declared.cell.Cell.{Cell}
use Rattle.mem_values.specs.declared.fact.Fact.{Fact}
use Rattle.mem_values.specs.Account.{Commitment, commit_told}
use Rattle.mem_values.specs.Facts.{IsLawfulLog}
use Rattle.mem_values.specs.Stands.{StandsAt}
use Rattle.mem_calls.specs.Table.{IsFileTable}
use Rattle.mem_calls.proofs.Finished.{none_left}
use Rattle.fsync_end.specs.declared.finishing.Ending.{Ending}
use Rattle.fsync_end.specs.Trimming.{IsFlushing, HasTold, trim_events, TrimsAll, Homeward, IsHomeward}
use Rattle.fsync_end.specs.Finishing.{AreWritten, logs_trimmed, MayEnd, Finishes}
use Rattle.fsync_end.proofs.Homewards.{homeward_begins}
use Rattle.stamp_table.proofs.Exchanging.{places_stay, with_long}
use Rattle.fsync_end.proofs.Ended.{with_twice, may_tell_by, told_core, same_count, all_home}

-- An fsync that ends: the table and its cores, how it ends, and its core before it tells the commit, behind that, and with the new values.
pub record FsyncEnd : Type 0 where
  pub given : ℕ → Option OldKept
  pub t : FileState
  pub nodes : ℕ
  pub fact : Option Fact
  pub ending : Ending
  pub before : FileHand
  pub told : FileHand
  pub put : FileHand

pub record EndsSo (s : FsyncEnd) : Type 0 where
  pub table : IsFileTable s.t s.nodes
  pub may : MayEnd s.given s.t s.nodes s.fact s.ending s.before
  pub tells : TellsFact (IsLawfulLog s.given) (StandsAt s.given) may.told s.before s.told
  pub puts : s.put ≡ record s.told { held = with_values s.ending.values.items s.told.held }

-- the commit may be told
pub may_tell : (given : ℕ → Option OldKept) (t : FileState) (nodes : ℕ) (fact : Option Fact) (ending : Ending) (before : FileHand) → IsFileTable t nodes
    → (may : MayEnd given t nodes fact ending before) → MayTell (IsLawfulLog given) (StandsAt given) before.view may.told
may_tell given t nodes fact ending before table may =
    may_tell_by given before.view may.told may.commit may.tells.tells (subst IsSoundTree (sym may.work.first) table.sound) may.may

module _ (s : FsyncEnd) (so : EndsSo s) where
  held_told : s.told.held ≡ s.before.held
  held_told = ap (λ (h : FileHand). h.held) so.tells.frame

  -- the cells with what the core knows of them
  abbrev known : List (HeldCell Cell)
  known = with_values so.may.known s.before.held

  -- there are as many new values as cells
  count_held : length s.ending.values.items ≡ length s.before.held
  count_held =
      same_count (tree_after s.t.first (calls_in s.before.view.seen)) s.nodes so.may.commit known s.ending.values.items so.may.written
      ∙ with_long so.may.known s.before.held so.may.as_many

  pub count_told : length s.ending.values.items ≡ length s.told.held
  count_told = count_held ∙ ap length (sym held_told)

  view_put : s.put.view ≡ s.told.view
  view_put = ap (λ (h : FileHand). h.view) so.puts

  held_put : s.put.held ≡ with_values s.ending.values.items s.before.held
  held_put = ap (λ (h : FileHand). h.held) so.puts ∙ ap (with_values s.ending.values.items) held_told

  frame_told : record s.told.view { seen = s.before.view.seen; mine = s.before.view.mine } ≡ s.before.view
  frame_told = so.tells.told.2.frame

  core_put : s.put.view.core ≡ s.before.view.core
  core_put = ap (λ (v : View TreeState (Event Fact)). v.core) view_put ∙ ap (λ (v : View TreeState (Event Fact)). v.core) frame_told

  first_put : s.put.view.first ≡ s.before.view.first
  first_put = ap (λ (v : View TreeState (Event Fact)). v.first) view_put ∙ ap (λ (v : View TreeState (Event Fact)). v.first) frame_told

  pub view_held : s.put.view.held ≡ s.before.view.held
  view_held = ap (λ (v : View TreeState (Event Fact)). v.held) view_put ∙ ap (λ (v : View TreeState (Event Fact)). v.held) frame_told

  pub room_put : s.put.room ≡ s.before.room
  room_put = ap (λ (h : FileHand). h.room) so.puts ∙ ap (λ (h : FileHand). h.room) so.tells.frame

  pub flushes : IsFlushing s.t s.put
  flushes = record {
    table = ap (λ (h : FileHand). h.table) so.puts ∙ (ap (λ (h : FileHand). h.table) so.tells.frame ∙ so.may.work.table);
    first = first_put ∙ so.may.work.first;
    core = subst (λ n. n < length s.t.first.made) (sym core_put) so.may.work.core;
    places = view_held
        ∙ (so.may.work.places
        ∙ ap reverse (places_stay so.may.known s.before.held so.may.as_many
        ∙ sym (ap (λ (l : List (HeldCell Cell)). places_of l) held_put ∙ places_stay s.ending.values.items s.before.held count_held)));
    falls = subst Falls (sym view_held) so.may.work.falls;
  }

  pub has_told : HasTold s.put.view.mine s.put.view.core s.ending.number s.ending.stamp.0 (map node_number s.ending.members.items)
  has_told = record {
    commit = so.may.commit;
    among = subst (λ l. IsOneOf (filter_map commit_told l) so.may.commit)
        (sym (ap (λ (v : View TreeState (Event Fact)). v.mine) view_put ∙ so.tells.told.2.mine))
        (subst (λ l. IsOneOf l so.may.commit) (sym (filter_map-append commit_told s.before.view.mine (told_by s.before.view.core so.may.told 0 ∷ [])))
        (in_right (filter_map commit_told s.before.view.mine) (filter_map commit_told (told_by s.before.view.core so.may.told 0 ∷ [])) so.may.commit
        (subst (λ o. IsOneOf (Rattle.std.specs.List.cons_option o []) so.may.commit) (sym so.may.tells.tells) (inl refl))));
    own = told_core s.before.view.core so.may.told so.may.commit so.may.tells.tells ∙ sym core_put;
    numbered = so.may.tells.numbered;
    stamped = so.may.tells.stamped;
    members_are = so.may.tells.members_are;
  }

  abbrev way : Homeward
  way = record {
    mine = s.before.view.mine;
    event = told_by s.before.view.core so.may.told 0;
    commit = so.may.commit;
  }

  begins : IsHomeward s.given way 0 s.put.view
  begins = subst (IsHomeward s.given way 0) (sym view_put)
      (homeward_begins s.given s.before.view s.told.view so.may.told so.may.commit so.tells.told.1 so.tells.told.0 so.tells.told.2
      so.may.tells.tells
      (told_core s.before.view.core so.may.told so.may.commit so.may.tells.tells) so.may.may)

  abbrev members : List NodeId
  members = s.ending.members.items

  module _ (cores : ℕ) (trimmed : FileHand) (cores_are : cores ≡ length s.t.first.made)
      (trims : TrimsAll s.given s.ending.number (logs_trimmed members cores) s.put trimmed) where
    -- where logs are trimmed the commit has a member
    some_member : (list : List NodeId) → members ≡ list → 0 < logs_trimmed list cores → (member : ℕ) × IsOneOf so.may.commit.members member
    some_member [] is some = absurd (omega (arith, some))
    some_member (member ∷ rest) is some =
        (member.0, subst (λ (l : List ℕ). IsOneOf l member.0) (sym (so.may.tells.members_are ∙ ap (map node_number) is)) (inl refl))

    home : IsHomeward s.given way (logs_trimmed members cores) trimmed.view
    home = trims.home way so.may.tells.numbered (some_member members refl) begins

    -- and where it has one all logs are trimmed
    all_of : (list : List NodeId) → members ≡ list → (member : ℕ) → IsOneOf so.may.commit.members member → logs_trimmed list cores ≡ length s.t.first.made
    all_of [] is member among = absurd (subst (λ (l : List ℕ). IsOneOf l member) (so.may.tells.members_are ∙ ap (map node_number) is) among)
    all_of (m ∷ rest) is member among = cores_are

    first_trimmed : trimmed.view.first ≡ s.t.first
    first_trimmed = ap (λ (v : View TreeState (Event Fact)). v.first) trims.view ∙ (first_put ∙ so.may.work.first)

    saw : IsPrefix s.before.view.seen trimmed.view.seen
    saw = (
      so.tells.told.2.seen.0 ++ (told_by s.before.view.core so.may.told so.tells.told.1 ∷ trims.seen.0),
      sym (append_assoc s.before.view.seen so.tells.told.2.seen.0 (told_by s.before.view.core so.may.told so.tells.told.1 ∷ trims.seen.0))
          ∙ (ap (λ l. l ++ told_by s.before.view.core so.may.told so.tells.told.1 ∷ trims.seen.0) so.tells.told.2.seen.1
          ∙ (sym (append_assoc so.tells.told.0 (told_by s.before.view.core so.may.told so.tells.told.1 ∷ []) trims.seen.0)
          ∙ (ap (λ l. l ++ trims.seen.0) (sym (ap (λ (v : View TreeState (Event Fact)). v.seen) view_put ∙ so.tells.told.2.entry_last)) ∙ trims.seen.1))),
    )

    held_trimmed : trimmed.held ≡ with_values s.ending.values.items s.before.held
    held_trimmed = ap (λ (h : FileHand). h.held) trims.frame ∙ held_put

    -- all that it holds goes home
    pub all_go_home : EachFrom 0 (Stands (IsLawfulLog s.given) (StandsAt s.given) trimmed.view) trimmed.held
    all_go_home = subst (EachFrom 0 (Stands (IsLawfulLog s.given) (StandsAt s.given) trimmed.view))
        (with_twice s.ending.values.items so.may.known s.before.held count_held so.may.as_many ∙ sym held_trimmed)
        (all_home (record {
          given = s.given;
          t = s.t;
          nodes = s.nodes;
          way = way;
          count = logs_trimmed members cores;
          held = s.before.view;
          now = trimmed.view;
        })
        (record {
          table = so.table;
          held_first = so.may.work.first;
          now_first = first_trimmed;
          saw = saw;
          home = home;
          all = all_of members refl;
        })
        known s.ending.values.items so.may.written so.may.work.knows)

    module _ (left : FileHand) (lets : LetsGo trimmed left) (left_is : left.held ≡ left_below 0 trimmed.held)
        (places : left.view.held ≡ reverse (places_of left.held)) where
      none : left.held ≡ []
      none = left_is ∙ none_left trimmed.held

      none_held : left.view.held ≡ []
      none_held = places ∙ ap (λ (l : List (HeldCell Cell)). reverse (places_of l)) none

      -- the core still waits for its answer
      pub waits : left.waiting ≡ s.before.waiting
      waits = ap (λ (h : FileHand). h.waiting) lets.frame
          ∙ (ap (λ (h : FileHand). h.waiting) trims.frame ∙ (ap (λ (h : FileHand). h.waiting) so.puts ∙ ap (λ (h : FileHand). h.waiting) so.tells.frame))

      entries_left : left.entries ≡ s.before.entries
      entries_left = ap (λ (h : FileHand). h.entries) lets.frame
          ∙ (ap (λ (h : FileHand). h.entries) trims.frame ∙ (ap (λ (h : FileHand). h.entries) so.puts ∙ ap (λ (h : FileHand). h.entries) so.tells.frame))

      frame_left : record left { view = s.before.view; held = s.before.held; room = s.before.room } ≡ s.before
      frame_left =
          (λ i. record (lets.frame i) { view = s.before.view; held = s.before.held; room = s.before.room })
          ∙ ((λ i. record (trims.frame i) { view = s.before.view; held = s.before.held; room = s.before.room })
          ∙ ((λ i. record (so.puts i) { view = s.before.view; held = s.before.held; room = s.before.room })
          ∙ (λ i. record (so.tells.frame i) { view = s.before.view; held = s.before.held; room = s.before.room })))

      view_left : record left.view { seen = s.before.view.seen; mine = s.before.view.mine; held = s.before.view.held } ≡ s.before.view
      view_left =
          (λ i. record (lets.view i) { seen = s.before.view.seen; mine = s.before.view.mine; held = s.before.view.held })
          ∙ ((λ i. record (trims.view i) { seen = s.before.view.seen; mine = s.before.view.mine; held = s.before.view.held })
          ∙ ((λ i. record (view_put i) { seen = s.before.view.seen; mine = s.before.view.mine; held = s.before.view.held })
          ∙ (λ i. record (frame_told i) { seen = s.before.view.seen; mine = s.before.view.mine; held = s.before.view.held })))

      seen_left : left.view.seen ≡ trimmed.view.seen
      seen_left = ap (λ (v : View TreeState (Event Fact)). v.seen) lets.view

      mine_left : left.view.mine ≡ trimmed.view.mine
      mine_left = ap (λ (v : View TreeState (Event Fact)). v.mine) lets.view

      module _ (after : FileHand) (gives : GivesAnswer s.ending.stamp.0 reply.Ok (Some s.ending.ack) left after) where
        view_after : after.view ≡ left.view
        view_after = ap (λ (h : FileHand). h.view) gives.frame

        pub between : IsBetweenCalls s.t after
        between = record {
          table_is = ap (λ (h : FileHand). h.table) gives.frame ∙ (ap (λ (h : FileHand). h.table) frame_left ∙ so.may.work.table);
          first_is = ap (λ (v : View TreeState (Event Fact)). v.first) view_after
              ∙ (ap (λ (v : View TreeState (Event Fact)). v.first) view_left ∙ so.may.work.first);
          core_is = subst (λ n. n < length s.t.first.made)
              (sym (ap (λ (v : View TreeState (Event Fact)). v.core) view_after ∙ ap (λ (v : View TreeState (Event Fact)). v.core) view_left))
              so.may.work.core;
          holds_none = ap (λ (h : FileHand). h.held) gives.frame ∙ none;
          none_held = ap (λ (v : View TreeState (Event Fact)). v.held) view_after ∙ none_held;
          none_waits = gives.waiting;
        }

        pub finishes : Finishes s.given cores so.may.told s.ending s.before after
        finishes = record {
          frame =
              (λ i. record (gives.frame i) {
                view = s.before.view;
                entries = s.before.entries;
                waiting = s.before.waiting;
                held = s.before.held;
                room = s.before.room;
              })
              ∙ (λ i. record (frame_left i) { entries = s.before.entries; waiting = s.before.waiting });
          view = (λ i. record (view_after i) { seen = s.before.view.seen; mine = s.before.view.mine; held = s.before.view.held }) ∙ view_left;
          seen = (saw.0, saw.1 ∙ sym (ap (λ (v : View TreeState (Event Fact)). v.seen) view_after ∙ seen_left));
          lawful = subst (λ (z : TreeState × List (Event Fact)). Rattle.stamp_table.specs.Events.IsLawful (IsLawfulLog s.given) z.0 z.1)
              (λ i. (
                sym (ap (λ (v : View TreeState (Event Fact)). v.first) view_after ∙ ap (λ (v : View TreeState (Event Fact)). v.first) lets.view) i,
                sym (ap (λ (v : View TreeState (Event Fact)). v.seen) view_after ∙ seen_left) i,
              ))
              home.lawful;
          own = ap (λ (v : View TreeState (Event Fact)). v.mine) view_after
              ∙ (mine_left
              ∙ (home.own
              ∙ (λ i. entries_by event_core
              (sym (ap (λ (v : View TreeState (Event Fact)). v.core) view_after ∙ ap (λ (v : View TreeState (Event Fact)). v.core) lets.view) i)
              (sym (ap (λ (v : View TreeState (Event Fact)). v.seen) view_after ∙ seen_left) i))));
          mine = ap (λ (v : View TreeState (Event Fact)). v.mine) view_after
              ∙ (mine_left
              ∙ (trims.mine
              ∙ (λ i. (ap (λ (v : View TreeState (Event Fact)). v.mine) view_put ∙ so.tells.told.2.mine) i
              ++ trim_events (core_put i) s.ending.number (logs_trimmed members cores))));
          told_behind = record {
            log = so.tells.told.0;
            since = so.tells.told.2.seen;
            there = (
              trims.seen.0,
              (ap (λ l. l ++ trims.seen.0) (sym (ap (λ (v : View TreeState (Event Fact)). v.seen) view_put ∙ so.tells.told.2.entry_last)) ∙ trims.seen.1)
                  ∙ sym (ap (λ (v : View TreeState (Event Fact)). v.seen) view_after ∙ seen_left),
            );
            stood = λ place value has stands. so.tells.told.2.kept place (Some value) has stands;
          };
          answered = (
            gives.answered.0,
            gives.answered.1,
            gives.answered.2,
            sym entries_left ∙ gives.answered.3,
            gives.answered.4,
          );
        }
