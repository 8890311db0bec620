-- What the box says of a number as it is reserved, by commits as cores made them.
use Rattle.std.proofs.Common.{◌≡◌, ◌∷◌, ◌∙◌, ◌≤◌, List, map, [], refl, ap, ℕ, subst, false, sym, arith, true, Some, inl, inr}
use Rattle.sfs_base.proofs.BasicTruth.{not_both}
use Rattle.cut_laws.specs.Rules.{IsOneOf}
use Rattle.cut_laws.proofs.Listed.{from_map, to_map}
use Rattle.beside_laws.specs.Commits.{CoreCommit}
use Rattle.beside_laws.specs.Box.{nobody, somebody, KnewLast, BoxGoesOn, NO_COMMIT, BoxState, IsUnmoved, BoxGives, with_open, here}
use Rattle.beside_laws.proofs.Boxes.{boxes_give}
use Rattle.book_laws.specs.Pairs.{commit_under}
use Rattle.slot_laws.specs.Nodes.{ReservedCommit, last_seen}
use Rattle.slot_laws.specs.Lasts.{Reserving, IsMadeAs, NamesLast, held_by_none, held_last_by, KnewItsNodes, box_of}
use Rattle.slot_laws.specs.Labels.{BoxPast}
use Rattle.slot_laws.proofs.Lasts.{seen_some}
use Rattle.close_laws.specs.Maps.{Numbered, commit_numbered}
use Rattle.close_laws.specs.Beside.{stamps_under}
use Rattle.end_laws.proofs.Later.{GoesOnFrom}

module _ (named : Numbered) where
  abbrev pub made_of : ReservedCommit → CoreCommit
  made_of one = commit_numbered named one.number

  -- each of some commits is made as it was told
  abbrev pub AreMadeSo : List ReservedCommit → Type 0
  AreMadeSo commits = (one : ReservedCommit) → IsOneOf commits one → IsMadeAs (commit_numbered named one.number) one.number one.seen

  pub commits_under : (commits : List ReservedCommit) → map (commit_under named.pairs) (stamps_under named commits) ≡ map made_of commits
  commits_under [] = refl
  commits_under (one ∷ commits) = ap (λ l. made_of one ∷ l) (commits_under commits)

  -- what names the last commit of a node is what was known of it
  knew_last : (done : List ReservedCommit) (node last : ℕ) → AreMadeSo done → NamesLast done node last → KnewLast (map made_of done) node last
  knew_last done node last are (held_by_none none nothing) =
      nobody
      (λ other among.
      let was = from_map made_of done other among in
      subst (λ (c : CoreCommit). c.holds node ≡ false) was.2 ((are was.0 was.1).holds node ∙ none was.0 was.1))
      nothing
  knew_last done node last are (held_last_by commit is is_named) =
      let own = are commit is.among in
      somebody (made_of commit)
      (record {
        among = to_map made_of done commit is.among;
        held = own.holds node ∙ is.held;
        latest = λ other among held.
            let was = from_map made_of done other among in
            let its = are was.0 was.1 in
            let low = is.latest was.0 was.1 (sym (its.holds node) ∙ ap (λ (c : CoreCommit). c.holds node) was.2 ∙ held) in
            omega (arith, low, own.number_is, its.number_is, ap (λ (c : CoreCommit). c.number) was.2);
      })
      (is_named ∙ sym own.number_is)

  -- A commit may reserve behind some labels, in a history that goes on: it is made as this reserving says, which knows its nodes.
  pub record ReservesHere (past now : BoxPast) (one : Reserving) (commit : CoreCommit) : Type 0 where
    pub knew : KnewItsNodes past one
    pub own : IsMadeAs commit one.commit one.seen.items
    pub opens_are : AreMadeSo past.opens
    pub done_are : AreMadeSo past.done
    pub then_are : AreMadeSo now.done
    pub ended : (other : ReservedCommit) → IsOneOf past.done other → other.number ≤ past.commits
    pub box : BoxGoesOn NO_COMMIT (box_of (commit_numbered named) past)
    pub goes : GoesOnFrom past now

  module _ (past now : BoxPast) (one : Reserving) (commit : CoreCommit) (is : ReservesHere past now one commit) where
    abbrev box : BoxState
    box = box_of (commit_numbered named) past

    seen_there : (node : ℕ) → commit.holds node ≡ true → (last : ℕ) × (last_seen one.seen.items node ≡ Some last)
    seen_there node held = seen_some (last_seen one.seen.items node) (sym (is.own.holds node) ∙ held)

    pub unmoved_here : IsUnmoved box commit
    unmoved_here = record {
      none_open = λ other among share.
          let was = from_map made_of past.opens other among in
          let away = is.knew.none_open was.0 share.node was.1 (sym (is.own.holds share.node) ∙ share.one) in
          not_both share.two (ap (λ (c : CoreCommit). c.holds share.node) (sym was.2) ∙ (is.opens_are was.0 was.1).holds share.node ∙ away);
      knew = λ node held.
          let last = seen_there node held in
          subst (KnewLast (map made_of past.done) node) (sym (is.own.last node last.0 last.1))
          (knew_last past.done node last.0 is.done_are (is.knew.knew node last.0 last.1));
    }

    -- so no last number that it knew of is above those that were given
    last_low : (node last : ℕ) → KnewLast box.done node last → last ≤ past.commits
    last_low node last (nobody none nothing) = omega (arith, nothing)
    last_low node last (somebody other holder last_is) =
        let was = from_map made_of past.done other holder.among in
        let low = is.ended was.0 was.1 in
        let number = (is.done_are was.0 was.1).number_is in
        let same = ap (λ (c : CoreCommit). c.number) was.2 in omega (arith, low, number, same, last_is)

    gives_done : BoxGives box box.done commit
    gives_done =
        let next = is.knew.next in let number = is.own.number_is in
        boxes_give box (with_open box commit) commit is.box (omega (arith, next, number)) unmoved_here here

    -- of what is done in the end, what shares a node with it and is not newer than the last number that it knew was done
    behind : (other : CoreCommit) (node : ℕ) → IsOneOf (map made_of now.done) other → commit.holds node ≡ true → other.holds node ≡ true
        → other.number ≤ commit.last node → IsOneOf box.done other
    behind other node among held theirs low = elim (is.goes.done was.0 was.1 below) [
      | inl ended ↦ subst (IsOneOf box.done) (ap (commit_numbered named) ended.number_is ∙ was.2) (to_map made_of past.done ended.one ended.among)
      | inr still ↦ absurd (unmoved_here.none_open other
          (subst (IsOneOf box.opens) (ap (commit_numbered named) still.number_is ∙ was.2) (to_map made_of past.opens still.one still.among))
          (record { node = node; one = held; two = theirs }))
    ]
      where
        was : (one : ReservedCommit) × IsOneOf now.done one × (made_of one ≡ other)
        was = from_map made_of now.done other among

        below : was.0.number ≤ past.commits
        below =
            let number = (is.then_are was.0 was.1).number_is in
            let same = ap (λ (c : CoreCommit). c.number) was.2 in
            let last = last_low node (commit.last node) (unmoved_here.knew node held) in omega (arith, number, same, low, last)

    pub gives_here : BoxGives box (map made_of now.done) commit
    gives_here = record {
      later = gives_done.later;
      apart = gives_done.apart;
      other_open = gives_done.other_open;
      known = gives_done.known;
      behind = behind;
    }
