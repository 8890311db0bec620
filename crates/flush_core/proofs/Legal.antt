-- What a legal history says of the entry at a place.
use Rattle.std.proofs.Common.{◌≡◌, ℕ, zero, suc, ◌+◌, ◌<◌, List, [], ◌∷◌, ◌++◌, length, take, get_or, sym, ap, ◌∙◌, arith}
use Rattle.std.proofs.lemmas.List.{take_more}
use Rattle.tree_laws.specs.declared.history.Entry.{Entry}
use Rattle.tree_laws.specs.Tree.{TreeState}
use Rattle.tree_laws.specs.History.{tree_after, tree_after_entry, MayCome, IsLegalFrom, IsLegal}
use Rattle.cut_laws.proofs.Prefix.{legal_take}

comes_from : (first : TreeState) (history : List Entry) (stamp i : ℕ) (d : Entry) → IsLegalFrom first stamp history → i < length history
    → MayCome (tree_after first (take i history)) (stamp + i) (get_or history i d)
comes_from first [] stamp i d legal less = absurd (omega arith)
comes_from first (entry ∷ history) stamp zero d legal less = rw (let e : stamp ≡ stamp + 0 = omega arith in e) at legal.0
comes_from first (entry ∷ history) stamp (suc i) d legal less =
    rw (let e : suc stamp + i ≡ stamp + suc i = omega arith in e) at (comes_from (tree_after_entry first entry) history (suc stamp) i d legal.1 (omega arith))

-- it may come after those before it
pub comes_at : (first : TreeState) (history : List Entry) (i : ℕ) (entry d : Entry) → IsLegal first history → i < length history → entry ≡ get_or history i d
    → MayCome (tree_after first (take i history)) i entry
comes_at first history i entry d legal less is = rw is (rw (let e : 0 + i ≡ i = omega arith in e) at (comes_from first history 0 i d legal less))

-- with it they are legal
pub legal_with : (first : TreeState) (history : List Entry) (i : ℕ) (entry d : Entry) → IsLegal first history → i < length history → entry ≡ get_or history i d
    → IsLegal first (take i history ++ entry ∷ [])
legal_with first history i entry d legal less is =
    rw (take_more history i d less ∙ ap (λ e. take i history ++ e ∷ []) (sym is)) at (legal_take first history (i + 1) legal)
