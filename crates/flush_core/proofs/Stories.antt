-- What a story keeps as calls come.
use Rattle.std.proofs.Common.{◌≡◌, ◌↔◌, ℕ, ◌+◌, ◌<◌, Bool, true, false, cond, ◌&&◌, not, List, [], ◌∷◌, ◌++◌, length, take, get_or, Option, Some, None, IsSome, IsTrue, inl, inr, refl, sym, ap, subst, ◌∙◌, arith}
use Rattle.std.specs.Prelude.{filter, fold}
use Rattle.std.proofs.lemmas.List.{take_more, length-take-le, take_all}
use Rattle.sfs_base.specs.declared.numbers.CoreId.{CoreId}
use Rattle.tree_laws.specs.declared.call.Call.{Call}
use Rattle.tree_laws.specs.declared.call.Call.TheVariants as call
use Rattle.tree_laws.specs.declared.history.Entry.{Entry}
use Rattle.tree_laws.specs.declared.reply.Reply.{Reply}
use Rattle.tree_laws.specs.declared.reply.Reply.TheVariants as reply
use Rattle.tree_laws.specs.declared.reply.Code.TheVariants.{NoEntry}
use Rattle.tree_laws.specs.Tree.{TreeState, names_of}
use Rattle.tree_laws.specs.Verdict.{verdict, or_else, answered}
use Rattle.tree_laws.specs.Sound.{IsSound}
use Rattle.tree_laws.specs.Step.{IsReadable}
use Rattle.tree_laws.specs.Changes.{is_own_below, with_change, RowChange}
use Rattle.tree_laws.specs.History.{MayCome, IsLegal, IsDue, flushes, tree_after, is_ok_reply}
use Rattle.tree_laws.specs.Laws.{IsSoundTree}
use Rattle.tree_laws.proofs.Cores.{cores_stay}
use Rattle.tree_laws.proofs.Histories.{IsLegal-push}
use Rattle.tree_laws.proofs.FileHistories.{histories_keep_sound}
use Rattle.flush_core.specs.declared.past.Past.{Past}
use Rattle.cut_laws.specs.Cut.{Cut, cut_of, tree_at_cut}
use Rattle.flush_core.specs.Grows.{Grows}
use Rattle.flush_core.specs.Named.{kept_rows}
use Rattle.flush_core.specs.Past.{IsPast}
use Rattle.flush_core.specs.Story.{StoryState, end_of, answered_entry, IsStanding, IsReadyPast}
use Rattle.flush_core.specs.declared.past.OwnChange.{OwnChange}
use Rattle.cut_laws.proofs.Basics.{in_either}
use Rattle.sfs_base.proofs.BasicTruth.{not_both}
use Rattle.cut_laws.proofs.CutRows.{directories_are_cut}
use Rattle.flush_core.proofs.Grown.{grown_past}
use Rattle.flush_core.proofs.Legal.{comes_at}

-- the tree of a past that is ready is sound, and has the first tree's cores
module _ (first : TreeState) (entries : List Entry) (past : Past) (ready : IsReadyPast first entries past) where
  pub now_sound : IsSoundTree (tree_after first entries)
  now_sound = rw (take_all (length entries) entries (omega arith)) at (histories_keep_sound first entries (length entries) ready.sound ready.legal)

  pub past_sound : IsSound past.tree
  past_sound = rw ready.is_past.tree now_sound.sound

  pub past_core : (core : ℕ) → core < length first.made → core < length past.tree.made
  past_core core less = rw (ap (λ (t : TreeState). length t.made) ready.is_past.tree ∙ cores_stay first entries) less

  -- with an entry that may come it is that of one call more
  pub joined_ready : (entry : Entry) → MayCome (tree_after first entries) (length entries) entry → (new : Past) → Grows past entry new
      → IsReadyPast first (entries ++ entry ∷ []) new
  joined_ready entry may new grows = record {
    is_past = grown_past first entries entry ready.sound whole may.stamped may.core past new ready.is_past grows;
    sound = ready.sound;
    legal = whole;
  }
    where
      whole : IsLegal first (entries ++ entry ∷ [])
      whole = IsLegal-push first entries entry ready.legal may

-- the past of the first of the calls goes on by the next
module _ (first : TreeState) (entries : List Entry) (i : ℕ) (entry d : Entry) (legal : IsLegal first entries) (less : i < length entries)
    (is : entry ≡ get_or entries i d) where
  next_may : MayCome (tree_after first (take i entries)) i entry
  next_may = comes_at first entries i entry d legal less is

  there : length (take i entries) ≡ i
  there = length-take-le i entries (omega arith)

  pub next_ready : (old new : Past) → IsReadyPast first (take i entries) old → Grows old entry new → IsReadyPast first (take (i + 1) entries) new
  next_ready old new ready grows =
      subst (λ (l : List Entry). IsReadyPast first l new) (sym (take_more entries i d less ∙ ap (λ (x : Entry). take i entries ++ x ∷ []) (sym is)))
      (joined_ready first (take i entries) old ready entry (rw there next_may) new grows)

  pub next_core : (past : Past) → IsReadyPast first (take i entries) past → entry.core.0 < length past.tree.made
  next_core past ready = rw ready.is_past.tree next_may.core

-- an fsync of a live node is answered Ok
flush_ok : (tree : TreeState) (core : ℕ) (c : Call) → flushes tree c ≡ true → (verdict tree core c).reply ≡ reply.Ok
flush_ok tree core (call.Fsync node) alive =
    ap (λ b. (or_else (cond (not b) (Some NoEntry) None) (answered reply.Ok)).reply) alive
flush_ok tree core (call.Look directory name) e = absurd (not_both e refl)
flush_ok tree core (call.Make directory name kind) e = absurd (not_both e refl)
flush_ok tree core (call.Link file directory name) e = absurd (not_both e refl)
flush_ok tree core (call.Unlink directory name) e = absurd (not_both e refl)
flush_ok tree core (call.Rmdir directory name) e = absurd (not_both e refl)
flush_ok tree core (call.Rename directory name to_directory to_name) e = absurd (not_both e refl)
flush_ok tree core (call.Write file at bytes) e = absurd (not_both e refl)
flush_ok tree core (call.Read file at count) e = absurd (not_both e refl)
flush_ok tree core (call.Trunc file size) e = absurd (not_both e refl)
flush_ok tree core (call.Stat node) e = absurd (not_both e refl)
flush_ok tree core (call.List directory) e = absurd (not_both e refl)

-- a call that the table answers may come
may_come : (tree : TreeState) (stamp : ℕ) (core : CoreId) (c : Call) → core.0 < length tree.made → MayCome tree stamp (answered_entry tree stamp core c)
may_come tree stamp core c within = record {
  stamped = refl;
  core = within;
  due = due (flushes tree c) refl;
  acknowledged = known (flushes tree c) refl;
}
  where
    answer : Reply
    answer = (verdict tree core.0 c).reply

    due : (b : Bool) → flushes tree c ≡ b → IsDue b (verdict tree core.0 c).reply (verdict tree core.0 c).reply
    due true e = rw (flush_ok tree core.0 c e) tt
    due false e = refl

    known : (b : Bool) → flushes tree c ≡ b → IsSome {T = ℕ} (cond b (Some 0) None) ↔ IsTrue (b && is_ok_reply (verdict tree core.0 c).reply)
    known true e = rw (flush_ok tree core.0 c e) (λ _. refl, λ _. refl)
    known false e = (λ some. some, λ is. is)

-- so may the next call of a story
pub called : (story : StoryState) (past : Past) → IsReadyPast story.first story.history past → (core : CoreId) (c : Call) → core.0 < length story.first.made
    → (entry : Entry) → entry ≡ answered_entry past.tree (length story.history) core c → MayCome (end_of story) (length story.history) entry
called story past ready core c within entry is =
    subst (MayCome (end_of story) (length story.history)) (sym (is ∙ ap (λ (t : TreeState). answered_entry t (length story.history) core c) ready.is_past.tree))
    (may_come (end_of story) (length story.history) core c (rw (cores_stay story.first story.history) within))

-- an entry that may come joins what a story keeps
pub still_standing : (first : TreeState) (entries : List Entry) (kept : Option Past) (entry : Entry) (new : Past) → IsStanding first entries kept
    → IsReadable entry.call → IsReadyPast first (entries ++ entry ∷ []) new → IsStanding first (entries ++ entry ∷ []) (Some new)
still_standing first entries kept entry new stands own ready = record {
  sound = stands.sound;
  legal = ready.legal;
  readable = λ other one. elim (in_either entries (entry ∷ []) other one) [
    | inl was ↦ stands.readable other was
    | inr next ↦ elim next [ inl e ↦ rw e at own | inr none ↦ absurd none ]
  ];
  ready = λ past is. rw (same_some is) at ready;
}
  where
    same_some : {a b : Past} → Some a ≡ Some b → a ≡ b
    same_some e = cc

-- the rows of a directory by the changes that are kept are those of the tree at a cut
pub kept_rows_cut : (first : TreeState) (history : List Entry) (past : Past) (changes : List OwnChange) (cut : Cut) (directory : ℕ) → IsPast first history past
    → changes ≡ past.changes.items → kept_rows first changes directory (cut_of cut directory) ≡ names_of directory (tree_at_cut first history cut).rows
kept_rows_cut first history past changes cut directory is same =
    ap (λ (l : List OwnChange). kept_rows first l directory (cut_of cut directory)) same
    ∙ ap (λ (l : List RowChange). fold with_change (names_of directory first.rows) (filter (is_own_below directory (cut_of cut directory)) l)) is.changes
    ∙ sym (directories_are_cut first history cut directory)
