-- A commit is the last one of its nodes as long as a part is not trimmed for it.
use Rattle.std.specs.Option.{option_or}
use Rattle.std.proofs.Common.{◌≡◌, ◌<◌, ◌∷◌, ◌++◌, ◌∙◌, ℕ, List, [], length, filter_map, Option, Some, None, refl, sym, ap, subst, append-nil, append_assoc}
use Rattle.std.proofs.lemmas.List.Elements.{filter_map-append}
use Rattle.tree_laws.specs.Tree.{TreeState}
use Rattle.disk_nodes.specs.OldKept.{OldKept}
use Rattle.cut_laws.specs.Rules.{IsOneOf}
use Rattle.cut_laws.proofs.Basics.{in_left}
use Rattle.stamp_table.specs.declared.event.Event.{Event}
use Rattle.stamp_table.specs.declared.event.Event.TheVariants.{Called, Told}
use Rattle.mem_values.specs.declared.fact.Fact.{Fact}
use Rattle.mem_values.specs.declared.fact.Fact.TheVariants.{Committed, Trimmed}
use Rattle.mem_values.specs.declared.fact.HeldNode.{HeldNode}
use Rattle.mem_values.specs.Account.{Commitment, Trimming, commit_told, trimming_told, account_of, held_by, writes_by, last_writer}
use Rattle.mem_values.specs.Stands.{AreTrimmedFor}
use Rattle.mem_values.specs.Facts.{MayBeCommitted, MayStandAfter, AreLawfulBehind}
use Rattle.mem_values.specs.Telling.{commit_by, CommitsStayLast}
use Rattle.mem_values.proofs.Lawful.{lawful_behind}
use Rattle.mem_values.proofs.Told.{last_writer-push, commits_of, found_of}

abbrev trimmings_of : List (Event Fact) → List Trimming
trimmings_of log = filter_map trimming_told log

trims_grow : (before rest : List (Event Fact)) (trimming : Trimming) → IsOneOf (trimmings_of before) trimming → IsOneOf (trimmings_of (before ++ rest)) trimming
trims_grow before rest trimming among =
    subst (λ l. IsOneOf l trimming) (sym (filter_map-append trimming_told before rest)) (in_left (trimmings_of before) (trimmings_of rest) trimming among)

module _ (given : ℕ → Option OldKept) (first : TreeState) (commit : Commitment) (part node : ℕ) (what : HeldNode) (known : part < length first.made)
    (member : ℕ) (has : IsOneOf commit.members member) where
  -- a further commit holds no node of this one
  holds_not : (before rest : List (Event Fact)) (other : Commitment) → MayBeCommitted given first (account_of before) other
      → last_writer node (commits_of before) ≡ Some (commit, what)
      → (IsOneOf (trimmings_of (before ++ rest)) (record { core = commit.core; number = commit.number; part = part }) → ⊥) → held_by other node ≡ None
  holds_not before rest other may last not = none_by (held_by other node) refl
    where
      none_by : (o : Option HeldNode) → held_by other node ≡ o → o ≡ None
      none_by None is = refl
      none_by (Some h) is =
          let there = found_of node other.held h is in
          let trimmed : AreTrimmedFor first (account_of before) node =
          subst (λ (n : ℕ). AreTrimmedFor first (account_of before) n) there.1 (may.holds h there.0).trimmed in
          absurd (not (trims_grow before rest (record { core = commit.core; number = commit.number; part = part })
          (trimmed (commit, what) member last has part known)))

  -- so it stays the last one as long as a part is not trimmed for it
  pub still_last : (before rest : List (Event Fact)) → AreLawfulBehind given first before rest → last_writer node (commits_of before) ≡ Some (commit, what)
      → (IsOneOf (trimmings_of (before ++ rest)) (record { core = commit.core; number = commit.number; part = part }) → ⊥)
      → last_writer node (commits_of (before ++ rest)) ≡ Some (commit, what)
  still_last before [] lawful last not = ap (λ l. last_writer node (commits_of l)) (append-nil before) ∙ last
  still_last before (event ∷ rest) lawful last not =
      ap (λ l. last_writer node (commits_of l)) (sym (append_assoc before (event ∷ []) rest))
      ∙ still_last (before ++ event ∷ []) rest lawful.1 (one_more event refl)
      (λ trimmed. not
      (subst (λ l. IsOneOf (trimmings_of l) (record { core = commit.core; number = commit.number; part = part }))
      (append_assoc before (event ∷ []) rest) trimmed))
    where
      quiet : commit_told event ≡ None → last_writer node (commits_of (before ++ event ∷ [])) ≡ Some (commit, what)
      quiet none =
          ap (last_writer node)
          (filter_map-append commit_told before (event ∷ [])
          ∙ (ap (λ o. commits_of before ++ Rattle.std.specs.List.cons_option o []) none ∙ append-nil (commits_of before)))
          ∙ last

      raised : (other : Commitment) → commit_told event ≡ Some other → MayBeCommitted given first (account_of before) other
          → last_writer node (commits_of (before ++ event ∷ [])) ≡ Some (commit, what)
      raised other is may =
          ap (last_writer node) (filter_map-append commit_told before (event ∷ []) ∙ ap (λ o. commits_of before ++ Rattle.std.specs.List.cons_option o []) is)
          ∙ (last_writer-push node (commits_of before) other
          ∙ (ap (λ o. option_or (writes_by other o) (last_writer node (commits_of before))) (holds_not before (event ∷ rest) other may last not) ∙ last))

      one_more : (e : Event Fact) → event ≡ e → last_writer node (commits_of (before ++ event ∷ [])) ≡ Some (commit, what)
      one_more (Called entry) is = quiet (ap commit_told is)
      one_more (Told by (Trimmed number p)) is = quiet (ap commit_told is)
      one_more (Told by (Committed number n stamp members held)) is =
          raised (commit_by by.0 number n stamp members held) (ap commit_told is) (subst (λ e. MayStandAfter given first (account_of before) e) is lawful.0)

pub commits_stay_last : CommitsStayLast
commits_stay_last given first before after core number node stamp members held part of member what lawful known has not holds =
    let commit : Commitment = commit_by core.0 number node stamp members held in
    let event : Event Fact = Told core (Committed number node stamp members held) in
    let begun : last_writer of (commits_of (before ++ event ∷ [])) ≡ Some (commit, what) =
    ap (last_writer of) (filter_map-append commit_told before (event ∷ []))
    ∙ (last_writer-push of (commits_of before) commit ∙ ap (λ o. option_or (writes_by commit o) (last_writer of (commits_of before))) holds) in
    ap (λ l. last_writer of (commits_of l)) (sym (append_assoc before (event ∷ []) after))
    ∙ still_last given first commit part of what known member has (before ++ event ∷ []) after
    (lawful_behind given first [] (before ++ event ∷ []) after
    (subst (λ l. AreLawfulBehind given first [] l) (sym (append_assoc before (event ∷ []) after)) lawful))
    begun
    (λ trimmed. not
    (subst (λ l. IsOneOf (trimmings_of l) (record { core = commit.core; number = commit.number; part = part }))
    (append_assoc before (event ∷ []) after) trimmed))
