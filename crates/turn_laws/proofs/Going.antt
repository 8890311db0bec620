-- The turns of a history with one more entry go the ways that they went, and that of the entry.
use Rattle.std.proofs.Common.{◌≡◌, ◌≢◌, ℕ, ◌<◌, ◌≤◌, Bool, true, false, cond, List, [], ◌∷◌, ◌++◌, length, inl, inr, refl, sym, ap, subst, ◌∙◌, arith, nat_eq}
use Rattle.std.specs.Prelude.{filter}
use Rattle.std.proofs.lemmas.List.{append-nil}
use Rattle.sfs_base.proofs.BasicNumbers.{same_number, not_same}
use Rattle.sfs_base.specs.declared.numbers.NodeId.{NodeId}
use Rattle.sfs_base.specs.declared.numbers.Stamp.{Stamp}
use Rattle.tree_laws.specs.declared.call.Call.TheVariants as call
use Rattle.tree_laws.specs.declared.history.Entry.{Entry}
use Rattle.tree_laws.specs.declared.turns.Turn.{Turn}
use Rattle.tree_laws.specs.History.{tree_after, IsLegal}
use Rattle.tree_laws.specs.Tree.{TreeState, is_alive}
use Rattle.cut_laws.specs.Rules.{IsOneOf}
use Rattle.turn_laws.specs.LawsWays.{NoCallGoes, GoOnBy, WaysGoOn}
use Rattle.turn_laws.specs.OneThread.{ComesNext}
use Rattle.turn_laws.specs.Recorded.{IsLiveFsync, IsOfFsync}
use Rattle.turn_laws.specs.Ways.{own_turns, GoesWay, EachGoes}
use Rattle.turn_laws.proofs.Ends.{below_end, back}

pub no_call_goes : NoCallGoes
no_call_goes first entry node is = absurd is.among

-- turns of which none has a stamp, and of which each has it
pub none_own : (stamp : ℕ) (turns : List Turn) → ((turn : Turn) → IsOneOf turns turn → turn.stamp.0 ≢ stamp) → own_turns stamp turns ≡ []
none_own stamp [] apart = refl
none_own stamp (turn ∷ turns) apart =
    ap (λ (b : Bool). cond b (turn ∷ own_turns stamp turns) (own_turns stamp turns)) (not_same turn.stamp.0 stamp (apart turn (inl refl)))
    ∙ none_own stamp turns (λ other one. apart other (inr one))

pub all_own : (stamp : ℕ) (turns : List Turn) → ((turn : Turn) → IsOneOf turns turn → turn.stamp.0 ≡ stamp) → own_turns stamp turns ≡ turns
all_own stamp [] same = refl
all_own stamp (turn ∷ turns) same =
    ap (λ (b : Bool). cond b (turn ∷ own_turns stamp turns) (own_turns stamp turns))
    (ap (λ (n : ℕ). nat_eq n stamp) (same turn (inl refl)) ∙ same_number stamp)
    ∙ ap (λ (l : List Turn). turn ∷ l) (all_own stamp turns (λ other one. same other (inr one)))

pub own_both : (stamp : ℕ) (turns more : List Turn) → own_turns stamp (turns ++ more) ≡ own_turns stamp turns ++ own_turns stamp more
own_both stamp [] more = refl
own_both stamp (turn ∷ turns) more = elim (nat_eq turn.stamp.0 stamp) as
    (λ b. cond b (turn ∷ own_turns stamp (turns ++ more)) (own_turns stamp (turns ++ more))
    ≡ cond b (turn ∷ own_turns stamp turns) (own_turns stamp turns) ++ own_turns stamp more) [
      | true ↦ ap (λ (l : List Turn). turn ∷ l) (own_both stamp turns more)
      | false ↦ own_both stamp turns more
    ]

-- what holds of the own turns of each fsync of a live node, and of the next entry's, holds over the longer history
module _ (P : List Turn → Entry → Type 0) (first : TreeState) (history : List Entry) (entry : Entry) (turns more : List Turn) (legal : IsLegal first history)
    (each : (turn : Turn) → IsOneOf turns turn → IsOfFsync first history turn) (next : ComesNext first history entry)
    (own : (turn : Turn) → IsOneOf more turn → turn.stamp.0 ≡ entry.stamp.0) where
  pub each_own_on : ((node : NodeId) → entry.call ≡ call.Fsync node → is_alive (tree_after first history) node.0 ≡ true → P more entry)
      → ((other : Entry) (node : NodeId) → IsLiveFsync first history other node → P (own_turns other.stamp.0 turns) other) → (other : Entry) (node : NodeId)
      → IsLiveFsync first (history ++ entry ∷ []) other node → P (own_turns other.stamp.0 (turns ++ more)) other
  each_own_on goes so_far other node live = elim (back first history entry next legal other node live) [
    | inl before ↦
        let low = below_end first history entry next legal other before.among in
        let stamped = next.stamped in
        let none : own_turns other.stamp.0 more ≡ [] =
        none_own other.stamp.0 more (λ turn one same. let its = own turn one in omega (arith, its, same, low, stamped)) in
        let all : own_turns other.stamp.0 (turns ++ more) ≡ own_turns other.stamp.0 turns =
        own_both other.stamp.0 turns more ∙ ap (λ (l : List Turn). own_turns other.stamp.0 turns ++ l) none ∙ append-nil (own_turns other.stamp.0 turns) in
        subst (λ (l : List Turn). P l other) (sym all) (so_far other node before)
    | inr here ↦
        let stamped = next.stamped in
        let none : own_turns entry.stamp.0 turns ≡ [] =
        none_own entry.stamp.0 turns (λ turn one same.
        let of = each turn one in
        let low = below_end first history entry next legal of.entry of.fsync.among in
        let there : turn.stamp.0 ≡ of.entry.stamp.0 = ap (λ (s : Stamp). s.0) of.stamp in
        omega (arith, low, there, same, stamped)) in
        let all : own_turns entry.stamp.0 (turns ++ more) ≡ more =
        own_both entry.stamp.0 turns more ∙ ap (λ (l : List Turn). l ++ own_turns entry.stamp.0 more) none ∙ all_own entry.stamp.0 more own in
        subst (λ (e : Entry). P (own_turns e.stamp.0 (turns ++ more)) e) here.0
        (subst (λ (l : List Turn). P l entry) (sym all) (goes node (ap (λ (e : Entry). e.call) here.0 ∙ live.asked) here.1))
  ]

pub ways_go_on : WaysGoOn
ways_go_on first history entry turns more legal each goes on =
    each_own_on (λ own entry. GoesWay own entry.reply) first history entry turns more legal each on.next on.own on.goes goes
