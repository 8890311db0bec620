-- The last move of a directory, and what stays as long as there is no further one.
use Rattle.std.proofs.Common.{◌≡◌, ℕ, suc, ◌+◌, ◌<◌, ◌≤◌, false, List, [], ◌∷◌, ◌++◌, length, Option, Some, None, sym, refl, ap, ◌∙◌, subst, arith, ⊎_elim}
use Rattle.std.specs.Prelude.{if◌then◌else◌}
use Rattle.std.proofs.lemmas.Bool.{cases_Bool}
use Rattle.tree_laws.specs.declared.history.Entry.{Entry}
use Rattle.tree_laws.specs.Tree.{TreeState}
use Rattle.tree_laws.specs.Lock.{needs_lock, AreHolders}
use Rattle.tree_laws.specs.History.{tree_after, tree_after_entry, IsLegal, IsLegalFrom}
use Rattle.tree_laws.specs.Laws.{IsSoundTree}
use Rattle.tree_laws.proofs.Holders.{read_holders_stay}
use Rattle.tree_laws.proofs.SoundTrees.{calls_keep_sound}
use Rattle.mem_values.specs.Logs.{last_move}
use Rattle.mem_values.specs.Laws.{ToldWaysStay}

-- the tree after one history and another
pub tree_after-append : (first : TreeState) (history rest : List Entry) → tree_after first (history ++ rest) ≡ tree_after (tree_after first history) rest
tree_after-append first [] rest = refl
tree_after-append first (e ∷ history) rest = tree_after-append (tree_after_entry first e) history rest

pub last_move-append : (first : TreeState) (last : Option ℕ) (history rest : List Entry)
    → last_move first last (history ++ rest) ≡ last_move (tree_after first history) (last_move first last history) rest
last_move-append first last [] rest = refl
last_move-append first last (e ∷ history) rest =
    last_move-append (tree_after_entry first e) (if needs_lock first e.core.0 e.call then Some e.stamp.0 else last) history rest

-- a legal history goes on legally from where a beginning of it ends
pub legal_behind : (first : TreeState) (stamp : ℕ) (history rest : List Entry) → IsLegalFrom first stamp (history ++ rest)
    → IsLegalFrom (tree_after first history) (stamp + length history) rest
legal_behind first stamp [] rest legal = subst (λ s. IsLegalFrom first s rest) (omega arith) legal
legal_behind first stamp (e ∷ history) rest legal =
    subst (λ s. IsLegalFrom (tree_after first (e ∷ history)) s rest) (omega arith) (legal_behind (tree_after_entry first e) (suc stamp) history rest legal.1)

-- a beginning of a legal history is legal
pub legal_front : (first : TreeState) (stamp : ℕ) (history rest : List Entry) → IsLegalFrom first stamp (history ++ rest) → IsLegalFrom first stamp history
legal_front first stamp [] rest legal = tt
legal_front first stamp (e ∷ history) rest legal = (legal.0, legal_front (tree_after_entry first e) (suc stamp) history rest legal.1)

-- no entry moves a directory to another one
abbrev pub MovesNone : TreeState → List Entry → Type 0
MovesNone first [] = Unit {0}
MovesNone first (e ∷ history) = (needs_lock first e.core.0 e.call ≡ false) × MovesNone (tree_after_entry first e) history

-- a stamp, where there is one, lies below another
abbrev IsBelow : Option ℕ → ℕ → Type 0
IsBelow None stamp = Unit {0}
IsBelow (Some last) stamp = last < stamp

below_more : (last : Option ℕ) (stamp : ℕ) → IsBelow last stamp → IsBelow last (suc stamp)
below_more None stamp below = tt
below_more (Some x) stamp below = omega (arith, below)

-- the last move of a legal history lies below its end
below_end : (first : TreeState) (last : Option ℕ) (stamp : ℕ) (history : List Entry) → IsBelow last stamp → IsLegalFrom first stamp history
    → IsBelow (last_move first last history) (stamp + length history)
below_end first last stamp [] below legal = subst (IsBelow last) (omega arith) below
below_end first last stamp (e ∷ history) below legal =
    let next : IsBelow (if needs_lock first e.core.0 e.call then Some e.stamp.0 else last) (suc stamp) =
    ⊎_elim (λ is. rw is (let s = legal.0.stamped in omega (arith, s))) (λ is. rw is (below_more last stamp below))
    (cases_Bool (needs_lock first e.core.0 e.call)) in
    subst (IsBelow (last_move first last (e ∷ history))) (omega arith)
    (below_end (tree_after_entry first e) (if needs_lock first e.core.0 e.call then Some e.stamp.0 else last) (suc stamp) history next legal.1)

-- where there was a move, the last one does not lie below it
not_below : (first : TreeState) (x stamp : ℕ) (history : List Entry) → x ≤ stamp → IsLegalFrom first stamp history
    → (y : ℕ) × (last_move first (Some x) history ≡ Some y) × (x ≤ y)
not_below first x stamp [] le legal = (x, refl, omega arith)
not_below first x stamp (e ∷ history) le legal = ⊎_elim
    (λ is. let r = not_below (tree_after_entry first e) e.stamp.0 (suc stamp) history (let s = legal.0.stamped in omega (arith, s)) legal.1 in (
      r.0,
      ap (λ b. last_move (tree_after_entry first e) (if b then Some e.stamp.0 else Some x) history) is ∙ r.1,
      let s = legal.0.stamped in let ge = r.2 in
          omega (arith, s, ge, le),
    ))
    (λ is. let r = not_below (tree_after_entry first e) x (suc stamp) history (omega (arith, le)) legal.1 in
    (r.0, ap (λ b. last_move (tree_after_entry first e) (if b then Some e.stamp.0 else Some x) history) is ∙ r.1, r.2))
    (cases_Bool (needs_lock first e.core.0 e.call))

apart_from : (last : Option ℕ) (stamp y : ℕ) → IsBelow last stamp → stamp ≤ y → last ≡ Some y → ⊥
apart_from None stamp y below le same = cc
apart_from (Some x) stamp y below le same = let z : x ≡ y = cc (same) in omega (arith, below, le, z)

-- where the last move is the same, none came
pub no_move : (first : TreeState) (last : Option ℕ) (stamp : ℕ) (history : List Entry) → IsBelow last stamp → IsLegalFrom first stamp history
    → last ≡ last_move first last history → MovesNone first history
no_move first last stamp [] below legal same = tt
no_move first last stamp (e ∷ history) below legal same = ⊎_elim
    (λ is. let r = not_below (tree_after_entry first e) e.stamp.0 (suc stamp) history (let s = legal.0.stamped in omega (arith, s)) legal.1 in
    absurd (apart_from last stamp r.0 below (let s = legal.0.stamped in let ge = r.2 in omega (arith, s, ge))
    (same ∙ (ap (λ b. last_move (tree_after_entry first e) (if b then Some e.stamp.0 else last) history) is ∙ r.1))))
    (λ is. (
      is,
      no_move (tree_after_entry first e) last (suc stamp) history (below_more last stamp below) legal.1
          (same ∙ ap (λ b. last_move (tree_after_entry first e) (if b then Some e.stamp.0 else last) history) is),
    ))
    (cases_Bool (needs_lock first e.core.0 e.call))

-- holders that were read stay so as long as there is no move
pub holders_stay_along : (first : TreeState) (stamp : ℕ) (history : List Entry) (node : ℕ) (holders : List ℕ) → IsSoundTree first
    → IsLegalFrom first stamp history → MovesNone first history → AreHolders first node holders → AreHolders (tree_after first history) node holders
holders_stay_along first stamp [] node holders sound legal none are = are
holders_stay_along first stamp (e ∷ history) node holders sound legal none are =
    holders_stay_along (tree_after_entry first e) (suc stamp) history node holders (calls_keep_sound first e.core.0 e.call sound legal.0.core) legal.1 none.1
    (read_holders_stay first e.core.0 e.call node holders sound legal.0.core none.0 are)

-- each tree of a legal history from a sound one is sound
pub sound_after : (first : TreeState) (stamp : ℕ) (history : List Entry) → IsSoundTree first → IsLegalFrom first stamp history
    → IsSoundTree (tree_after first history)
sound_after first stamp [] sound legal = sound
sound_after first stamp (e ∷ history) sound legal =
    sound_after (tree_after_entry first e) (suc stamp) history (calls_keep_sound first e.core.0 e.call sound legal.0.core) legal.1

pub told_ways_stay : ToldWaysStay
told_ways_stay first before after node holders sound legal same are =
    let behind : IsLegalFrom (tree_after first before) (length before) after =
    subst (λ s. IsLegalFrom (tree_after first before) s after) (omega arith) (legal_behind first 0 before after legal) in
    let front : IsLegal first before = legal_front first 0 before after legal in
    subst (λ t. AreHolders t node holders) (sym (tree_after-append first before after))
    (holders_stay_along (tree_after first before) (length before) after node holders (sound_after first 0 before sound front) behind
    (no_move (tree_after first before) (last_move first None before) (length before) after
    (subst (IsBelow (last_move first None before)) (omega arith) (below_end first None 0 before tt front)) behind
    (same ∙ last_move-append first None before after))
    are)
