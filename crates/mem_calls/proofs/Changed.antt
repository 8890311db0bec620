-- A call that changes some cells: what stands behind it, and its end.
use Rattle.std.proofs.Common.{◌≡◌, ◌<◌, ◌≤◌, ◌-◌, ◌^◌, ℕ, false, List, [], ◌∷◌, ◌++◌, length, reverse, Option, Some, refl, sym, ap, ◌∙◌, arith}
use Rattle.disk_nodes.specs.OldKept.{OldKept}
use Rattle.tree_laws.specs.Tree.{TreeState, made_by}
use Rattle.tree_laws.specs.declared.call.Call.{Call}
use Rattle.tree_laws.specs.declared.history.Entry.{Entry}
use Rattle.tree_laws.specs.History.{tree_after, IsLegal}
use Rattle.tree_laws.specs.Verdict.{Verdict, verdict, tree_after_call}
use Rattle.tree_laws.specs.Fits.{Fits}
use Rattle.tree_laws.specs.Laws.{IsSoundTree}
use Rattle.tree_laws.proofs.Histories.{tree_after-push}
use Rattle.tree_laws.proofs.SoundTrees.{calls_fit}
use Rattle.mem_cells.specs.Part.{IsAddedTo}
use Rattle.stamp_table.specs.declared.event.Event.{Event}
use Rattle.stamp_table.specs.declared.event.Event.TheVariants.{Called}
use Rattle.stamp_table.specs.declared.held.HeldCell.{HeldCell}
use Rattle.stamp_table.specs.Answered.{asks_fsync}
use Rattle.stamp_table.specs.Events.{calls_in}
use Rattle.stamp_table.specs.Hand.{places_of}
use Rattle.stamp_table.specs.Table.{Stamps, LetsGo, Stands, EachFrom, left_below}
use Rattle.stamp_table.proofs.Calling.{calls_snoc}
use Rattle.mem_values.specs.Start.{FileHand, FileState}
use Rattle.mem_values.specs.declared.cell.Cell.{Cell}
use Rattle.mem_values.specs.declared.cell.PartCell.{PartCell}
use Rattle.mem_values.specs.declared.cell_id.CellId.{CellId}
use Rattle.mem_values.specs.declared.cell_id.CellId.TheVariants as id
use Rattle.mem_values.specs.declared.fact.Fact.{Fact}
use Rattle.mem_values.specs.Places.{IsCell}
use Rattle.mem_values.specs.Account.{account_of}
use Rattle.mem_values.specs.Logs.{entry_logged}
use Rattle.mem_values.specs.Stands.{StandsForCell, StandsAt, StandsPart}
use Rattle.mem_values.specs.Facts.{IsLawfulLog}
use Rattle.mem_values.specs.Touches.{KeepsCell}
use Rattle.mem_values.specs.Laws.{MayMeet}
use Rattle.mem_values.proofs.Home.{parts_take_entries}
use Rattle.mem_calls.specs.Table.{IsFileTable}
use Rattle.mem_calls.specs.Held.{value_held, as_part, part_held, InEach}
use Rattle.mem_calls.specs.Working.{IsWorking}
use Rattle.mem_calls.specs.Outcome.{IsAnswered}
use Rattle.mem_calls.proofs.Edited.{stamps_back}
use Rattle.mem_calls.proofs.PartKept.{value_of_part}
use Rattle.mem_calls.proofs.Finished as finished
use Rattle.mem_calls.proofs.Stamped as stamped

-- A core that makes a call in the middle of which it has taken values out of its cells, drawn its stamp, and changes what it holds.
pub record Turn (given : ℕ → Option OldKept) (t : FileState) (nodes : ℕ) (before : FileHand) (c : Call) (v : Verdict) (number : ℕ)
    (mid : FileHand) : Type 0 where
  pub table : IsFileTable t nodes
  pub work : IsWorking given t before
  pub not : asks_fsync c ≡ false
  pub due : InEach before (λ tree. verdict tree before.view.core c ≡ v)
  pub held : List (HeldCell Cell)
  pub out : FileHand
  pub out_is : out ≡ record before { held = held }
  pub drawn : Stamps (IsLawfulLog given) (StandsAt given) c v.reply out number mid

module _ (given : ℕ → Option OldKept) (t : FileState) (nodes : ℕ) (before : FileHand) (c : Call) (v : Verdict) (number : ℕ) (mid : FileHand)
    (turn : Turn given t nodes before c v number mid) where
  abbrev mid0 : FileHand
  mid0 = record mid { held = before.held }

  abbrev pub stamps : Stamps (IsLawfulLog given) (StandsAt given) c v.reply before number mid0
  stamps = stamps_back given c v.reply before turn.out number mid turn.held turn.out_is turn.drawn

  abbrev pub S : TreeState
  S = stamped.tree given t nodes before turn.table turn.work c v.reply number mid0 stamps

  abbrev pub log : List (Event Fact)
  log = stamped.log given t nodes before turn.table turn.work c v.reply number mid0 stamps

  abbrev pub entry : Entry
  entry = stamped.entry given t nodes before turn.table turn.work c v.reply number mid0 stamps

  abbrev pub next : TreeState
  next = tree_after_call S before.view.core c

  pub mid_held : mid.held ≡ turn.held
  mid_held = ap (λ (h : FileHand). h.held) turn.drawn.frame ∙ ap (λ (h : FileHand). h.held) turn.out_is

  pub core_mid : mid.view.core ≡ before.view.core
  core_mid = finished.core_mid given t nodes before turn.table turn.work c v.reply number mid0 stamps

  pub meets : MayMeet before.view before.held S
  meets = stamped.meets given t nodes before turn.table turn.work c v.reply number mid0 stamps

  pub verdict_is : verdict S before.view.core c ≡ v
  verdict_is = turn.due S meets

  pub sound : IsSoundTree S
  sound = meets.sound

  pub core_known : before.view.core < length S.made
  core_known = let one = meets.cores in let two = stamped.core_known given t nodes before turn.table turn.work in omega (arith, one, two)

  pub fits : Fits S before.view.core (verdict S before.view.core c).effect (verdict S before.view.core c).makes
  fits = calls_fit S before.view.core c sound core_known

  pub next_is : tree_after before.view.first (calls_in (log ++ Called entry ∷ [])) ≡ next
  next_is = ap (tree_after before.view.first) (calls_snoc log entry) ∙ tree_after-push before.view.first (calls_in log) entry

  pub legal_log : IsLegal before.view.first (calls_in log)
  legal_log = stamped.legal_log given t nodes before turn.table turn.work c v.reply number mid0 stamps

  pub number_is : number ≡ length (calls_in log)
  number_is = stamped.number_is given t nodes before turn.table turn.work c v.reply number mid0 stamps

  pub stood : (which : CellId) (value : Cell) → IsCell nodes (length t.first.made) which → value_held nodes before.held which ≡ Some value
      → StandsForCell given before.view.first (account_of log) which value
  stood which value is_cell is = stamped.stood given t nodes before turn.table turn.work c v.reply number mid0 stamps which value is_cell is

  pub kept : (which : CellId) (value : Cell) → IsCell nodes (length t.first.made) which → value_held nodes before.held which ≡ Some value
      → KeepsCell S before.view.core c which
      → StandsForCell given before.view.first (account_of (log ++ Called entry ∷ [])) which value
  kept which value is_cell is keeps = stamped.kept given t nodes before turn.table turn.work c v.reply number mid0 stamps which value is_cell is keeps

  pub part_stood : (p : PartCell) → part_held nodes before.held before.view.core ≡ Some p → StandsPart before.view.first (account_of log) before.view.core p
  part_stood p is = finished.part_stood given t nodes before turn.table turn.work c v.reply number mid0 stamps p is

  pub few_entries : (p : PartCell) → part_held nodes before.held before.view.core ≡ Some p
      → length (calls_in before.view.mine) ≤ 2 ^ 50 → p.log.entries < 2 ^ 64 - 1
  few_entries p is few = finished.few_entries given t nodes before turn.table turn.work c v.reply number mid0 stamps p is few

  -- the own log goes home with what the entry logs
  pub part_home : (p after : PartCell) (value : Cell) → StandsPart before.view.first (account_of log) before.view.core p → as_part value ≡ Some after
      → IsAddedTo p.log (entry_logged S entry) after.log
      → after.made ≡ made_by next before.view.core
      → StandsForCell given before.view.first (account_of (log ++ Called entry ∷ [])) (id.Part (record { 0 = before.view.core })) value
  part_home p after value stands is added made = value_of_part given before.view.first (account_of (log ++ Called entry ∷ [])) before.view.core value after is
      (parts_take_entries given before.view.first log entry p after (stamped.legal_next given t nodes before turn.table turn.work c v.reply number mid0 stamps)
      (stamped.lawful_log given t nodes before turn.table turn.work c v.reply number mid0 stamps) stands added
      (made ∙ ap (λ (x : TreeState). made_by x before.view.core) (sym next_is)))

  module _ (final : FileHand) (held : List (HeldCell Cell)) (final_is : final ≡ record mid { held = held })
      (places : places_of held ≡ places_of before.held) where
    final_held : final.held ≡ held
    final_held = ap (λ (h : FileHand). h.held) final_is

    pub goes_home : ((which : CellId) (value : Cell) → IsCell nodes (length t.first.made) which → value_held nodes held which ≡ Some value
        → StandsForCell given before.view.first (account_of (log ++ Called entry ∷ [])) which value)
        → EachFrom 0 (Stands (IsLawfulLog given) (StandsAt given) final.view) final.held
    goes_home each = stamped.home given t nodes before turn.table turn.work c v.reply number mid0 stamps final (ap (λ (h : FileHand). h.view) final_is)
        (finished.view_held_mid given t nodes before turn.table turn.work c v.reply number mid0 stamps)
        (ap (λ (l : List (HeldCell Cell)). places_of l) final_held ∙ places)
        (λ which value is_cell is. each which value is_cell (ap (λ l. value_held nodes l which) (sym final_held) ∙ is))

    many : length final.held ≡ length before.held
    many =
        let same = ap (λ (l : List ℕ). length l) (ap (λ (l : List (HeldCell Cell)). places_of l) final_held ∙ places) in
        let one = Rattle.std.proofs.lemmas.List.length-map final.held (λ (h : HeldCell Cell). h.place) in
        let two = Rattle.std.proofs.lemmas.List.length-map before.held (λ (h : HeldCell Cell). h.place) in
        omega (arith, same, one, two)

    pub ended : (last : FileHand) → LetsGo final last → last.held ≡ left_below 0 final.held → last.view.held ≡ reverse (places_of last.held)
        → IsAnswered t c v.reply before last
    ended last lets left at = finished.ends given t nodes before turn.table turn.work c v.reply number mid0 stamps v final last turn.due refl turn.not
        (ap (λ (h : FileHand). record h { held = before.held }) final_is) many lets left at
