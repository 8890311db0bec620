-- What a call more adds to what a log has.
use Rattle.std.proofs.Common.{◌≡◌, ◌≢◌, ℕ, ◌==◌, true, false, List, [], ◌∷◌, ◌++◌, length, filter, filter_map, Option, Some, None, option_map, sym, refl, ap, ◌∙◌, append-nil, append_assoc, ⊎_elim}
use Rattle.std.specs.Prelude.{if◌then◌else◌}
use Rattle.std.specs.List.{find}
use Rattle.std.specs.Option.{option_or}
use Rattle.std.proofs.lemmas.Bool.{cases_Bool, eqb-true}
use Rattle.std.proofs.lemmas.List.Elements.{filter_map-append}
use Rattle.std.proofs.lemmas.List.Folds.{find-append}
use Rattle.sfs_base.specs.declared.numbers.Stamp.{Stamp}
use Rattle.tree_laws.specs.declared.history.Entry.{Entry}
use Rattle.tree_laws.specs.Tree.{TreeState, bytes_of}
use Rattle.tree_laws.specs.Effect.{Effect, Stays, Adds, Removes, Moves, Edit, Edits}
use Rattle.tree_laws.specs.Verdict.{verdict}
use Rattle.tree_laws.specs.History.{tree_after, tree_after_entry}
use Rattle.tree_laws.specs.Lock.{needs_lock}
use Rattle.tree_laws.specs.Merged.{is_core}
use Rattle.cut_laws.specs.Rules.{Birth, births_by, births_of}
use Rattle.cut_laws.proofs.Pushed.{births_of-push}
use Rattle.stamp_table.specs.declared.event.Event.{Event}
use Rattle.stamp_table.specs.declared.event.Event.TheVariants.{Called}
use Rattle.stamp_table.specs.Events.{called}
use Rattle.mem_values.specs.declared.fact.Fact.{Fact}
use Rattle.mem_values.specs.Account.{Account, commit_told, trimming_told, account_of}
use Rattle.mem_values.specs.Logs.{entry_logged, own_logged, last_move, last_touch, touches_block, birthplace}
use Rattle.mem_values.proofs.Moves.{last_move-append}

-- an account with a call more
abbrev pub with_call : Account → Entry → Account
with_call account entry = record account { calls = account.calls ++ entry ∷ [] }

pub account_called : (log : List (Event Fact)) (entry : Entry) → account_of (log ++ Called entry ∷ []) ≡ with_call (account_of log) entry
account_called log entry = λ i. record {
  calls = filter_map-append called log (Called entry ∷ []) i;
  commits = (filter_map-append commit_told log (Called entry ∷ []) ∙ append-nil (filter_map commit_told log)) i;
  trimmings = (filter_map-append trimming_told log (Called entry ∷ []) ∙ append-nil (filter_map trimming_told log)) i;
}

-- a call that needs no lock is not the last move
pub last_move-push : (first : TreeState) (calls : List Entry) (entry : Entry) → needs_lock (tree_after first calls) entry.core.0 entry.call ≡ false
    → last_move first None (calls ++ entry ∷ []) ≡ last_move first None calls
last_move-push first calls entry free =
    last_move-append first None calls (entry ∷ []) ∙ ap (λ b. if b then Some entry.stamp.0 else last_move first None calls) free

pub own_logged-push : (first : TreeState) (core : ℕ) (calls : List Entry) (entry : Entry)
    → own_logged first core (calls ++ entry ∷ [])
    ≡ own_logged first core calls ++ (if is_core core entry then entry_logged (tree_after first calls) entry else [])
own_logged-push first core [] entry = append-nil (if is_core core entry then entry_logged first entry else [])
own_logged-push first core (e ∷ calls) entry =
    ap (λ l. (if is_core core e then entry_logged first e else []) ++ l) (own_logged-push (tree_after_entry first e) core calls entry)
    ∙ sym
    (append_assoc (if is_core core e then entry_logged first e else []) (own_logged (tree_after_entry first e) core calls)
    (if is_core core entry then entry_logged (tree_after first (e ∷ calls)) entry else []))

-- an entry of another core logs nothing of this core's
pub own_logged-other : (first : TreeState) (core : ℕ) (calls : List Entry) (entry : Entry) → is_core core entry ≡ false
    → own_logged first core (calls ++ entry ∷ []) ≡ own_logged first core calls
own_logged-other first core calls entry other =
    own_logged-push first core calls entry
    ∙ (ap (λ b. own_logged first core calls ++ (if b then entry_logged (tree_after first calls) entry else [])) other
    ∙ append-nil (own_logged first core calls))

pub count-other : (core : ℕ) (calls : List Entry) (entry : Entry) → is_core core entry ≡ false
    → filter (is_core core) (calls ++ entry ∷ []) ≡ filter (is_core core) calls
count-other core [] entry other = rw other refl
count-other core (e ∷ calls) entry other = let r = count-other core calls entry other in
    ⊎_elim (λ is. rw is (ap (λ l. e ∷ l) r)) (λ is. rw is r) (cases_Bool (is_core core e))

pub count-own : (core : ℕ) (calls : List Entry) (entry : Entry) → is_core core entry ≡ true
    → filter (is_core core) (calls ++ entry ∷ []) ≡ filter (is_core core) calls ++ entry ∷ []
count-own core [] entry own = rw own refl
count-own core (e ∷ calls) entry own = let r = count-own core calls entry own in
    ⊎_elim (λ is. rw is (ap (λ l. e ∷ l) r)) (λ is. rw is r) (cases_Bool (is_core core e))

-- where no node is made there is no birth
pub none_born : (stamp : ℕ) (effect : Effect) → births_by stamp effect None ≡ []
none_born stamp Stays = refl
none_born stamp (Adds d n c) = refl
none_born stamp (Removes d n c) = refl
none_born stamp (Moves p n q m c) = refl
none_born stamp (Edits file edit) = refl

-- no one of some births is of this node
abbrev pub IsBornBy : ℕ → List Birth → Type 0
IsBornBy node births = find (λ (birth : Birth). birth.node == node) births ≡ None

or_none : {X : Type 0} (o p : Option X) → p ≡ None → option_or o p ≡ o
or_none None p none = none
or_none (Some x) p none = refl

-- a call that does not make the node leaves its birthplace
pub birthplace-push : (first : TreeState) (calls : List Entry) (entry : Entry) (node : ℕ)
    → IsBornBy node
    (births_by entry.stamp.0 (verdict (tree_after first calls) entry.core.0 entry.call).effect
    (verdict (tree_after first calls) entry.core.0 entry.call).makes)
    → birthplace first (calls ++ entry ∷ []) node ≡ birthplace first calls node
birthplace-push first calls entry node none =
    ap (option_map (λ (birth : Birth). birth.directory)) (ap (find (λ (birth : Birth). birth.node == node)) (births_of-push first calls entry)
    ∙ (find-append (λ (birth : Birth). birth.node == node) (births_of first calls)
    (births_by entry.stamp.0 (verdict (tree_after first calls) entry.core.0 entry.call).effect
    (verdict (tree_after first calls) entry.core.0 entry.call).makes)
    ∙ or_none (find (λ (birth : Birth). birth.node == node) (births_of first calls)) _ none))

pub last_touch-append : (first : TreeState) (last : Option Stamp) (history rest : List Entry) (node block : ℕ)
    → last_touch first last (history ++ rest) node block ≡ last_touch (tree_after first history) (last_touch first last history node block) rest node block
last_touch-append first last [] rest node block = refl
last_touch-append first last (e ∷ history) rest node block =
    last_touch-append (tree_after_entry first e)
    (if touches_block (verdict first e.core.0 e.call).effect node block (length (bytes_of first node)) then Some e.stamp else last) history rest node block

-- an effect that does not edit the file touches no block of it
no_touch : (effect : Effect) (node block before : ℕ) → ((edit : Edit) → effect ≢ Edits node edit) → touches_block effect node block before ≡ false
no_touch Stays node block before not = refl
no_touch (Adds d n c) node block before not = refl
no_touch (Removes d n c) node block before not = refl
no_touch (Moves p n q m c) node block before not = refl
no_touch (Edits file edit) node block before not =
    ⊎_elim (λ same. absurd (not edit (ap (λ (f : ℕ). Edits f edit) (eqb-true file node same)))) (λ other. rw other refl) (cases_Bool (file == node))

-- a call that does not edit the file is not the last that touched a block of it
pub last_touch-push : (first : TreeState) (calls : List Entry) (entry : Entry) (node block : ℕ)
    → ((edit : Edit) → (verdict (tree_after first calls) entry.core.0 entry.call).effect ≢ Edits node edit)
    → last_touch first None (calls ++ entry ∷ []) node block ≡ last_touch first None calls node block
last_touch-push first calls entry node block not =
    last_touch-append first None calls (entry ∷ []) node block
    ∙ ap (λ b. if b then Some entry.stamp else last_touch first None calls node block)
    (no_touch (verdict (tree_after first calls) entry.core.0 entry.call).effect node block (length (bytes_of (tree_after first calls) node)) not)
