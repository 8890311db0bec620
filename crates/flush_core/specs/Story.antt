-- A first tree and a history from it, as a program keeps them.
use Rattle.std.specs.Prelude.{◌≡◌, ℕ, List, [], ◌∷◌, ◌++◌, length, Option, Some, None, refl, if◌then◌else◌}
use Rattle.std.specs.Coded.{Coded, code_by, coded×}
use Rattle.sfs_base.specs.declared.numbers.CoreId.{CoreId}
use Rattle.tree_laws.specs.declared.call.Call.{Call}
use Rattle.tree_laws.specs.declared.history.Entry.{Entry}
use Rattle.tree_laws.specs.Tree.{TreeState, tree_code}
use Rattle.tree_laws.specs.Verdict.{verdict}
use Rattle.tree_laws.specs.History.{tree_after, flushes, IsLegal}
use Rattle.tree_laws.specs.Laws.{IsSoundTree}
use Rattle.tree_laws.specs.Sound.{IsSound}
use Rattle.tree_laws.specs.Step.{IsReadable}
use Rattle.flush_core.specs.declared.past.Past.{Past}
use Rattle.flush_core.specs.Past.{IsPast}
use Rattle.cut_laws.specs.Rules.{IsOneOf}

-- A first tree and the calls from it on.
pub record StoryState : Type 0 where
  pub first : TreeState
  pub history : List Entry

-- how a story is stored
abbrev pub story_code : Coded (List Entry) → Coded StoryState
story_code entries_code =
    code_by (TreeState × List Entry) (coded× tree_code entries_code) (λ s. (s.first, s.history)) (λ p. record { first = p.0; history = p.1 }) (λ _. refl)

-- a story without calls
abbrev pub story_of : TreeState → StoryState
story_of first = record { first = first; history = [] }

-- the tree after a story's calls
abbrev pub end_of : StoryState → TreeState
end_of story = tree_after story.first story.history

-- when a call is acknowledged that a tree answers: an fsync of a live node at once, and no other call
abbrev pub ack_of : TreeState → Call → Option ℕ
ack_of tree call = if flushes tree call then Some 0 else None

-- a call as an entry, answered by the table
abbrev pub answered_entry : TreeState → ℕ → CoreId → Call → Entry
answered_entry tree stamp core call = record {
  stamp = record { 0 = stamp };
  core = core;
  call = call;
  reply = (verdict tree core.0 call).reply;
  ack = ack_of tree call;
}

-- the entry of a story's next call
abbrev pub next_entry : StoryState → CoreId → Call → Entry
next_entry story core call = answered_entry (end_of story) (length story.history) core call

-- a story with an entry more
abbrev pub with_entry : StoryState → Entry → StoryState
with_entry story entry = record { first = story.first; history = story.history ++ entry ∷ [] }

-- a story with a call more
abbrev pub with_call : StoryState → CoreId → Call → StoryState
with_call story core call = with_entry story (next_entry story core call)

-- Each read asks for no more than it may.
abbrev pub AreReadable : List Entry → Type 0
AreReadable entries = (entry : Entry) → IsOneOf entries entry → IsReadable entry.call

-- A past of some legal calls to which a call can be added: the first tree is sound, and its nodes have numbers that were given.
pub record IsReadyPast (first : TreeState) (entries : List Entry) (past : Past) : Type 0 where
  pub is_past : IsPast first entries past
  pub sound : IsSoundTree first
  pub legal : IsLegal first entries

-- A story as it is kept: the first tree is sound, the calls are legal, and what is kept as their past is ready.
pub record IsStanding (first : TreeState) (entries : List Entry) (kept : Option Past) : Type 0 where
  pub sound : IsSound first
  pub legal : IsLegal first entries
  pub readable : AreReadable entries
  pub ready : (past : Past) → kept ≡ Some past → IsReadyPast first entries past
