use Rattle.std.proofs.Common.{◌≡◌, ℕ, List, nat_eq, sym, subst, ap, ◌∙◌}
use Rattle.std.proofs.lemmas.Map.Entries.{entries_from_clone}
use Rattle.std.specs.HashMap.{spare}
use Rattle.std.specs.Map.{lookup}
use Rattle.std.specs.Option.{unwrap_or}
use Rattle.mem_cells.specs.Log.{Log}
use Rattle.mem_cells.specs.Named.{CountsNamings, naming_count}
use Rattle.mem_cells.proofs.Counts.{roomier_count}
use Rattle.mem_cells.proofs.part.LogPart.copy.Goals as goal

pub invariant_of-result : goal.invariant_of-result
invariant_of-result c =
    let cloned : c.in_ok-namings.namings.entries ≡ c.self.inside.namings.entries =
    entries_from_clone _ _ (λ x y same. same) (λ x y same. same) c.self.inside.namings.entries c.in_ok-namings.namings.entries c.in_ok-namings.ensures.cases in
    subst (λ (logs : List (ℕ × Log)). CountsNamings logs (naming_count c.reserve.new.self) (spare c.reserve.new.self) c.self.inside.kept c.self.inside.rooms)
    (sym c.in_ok-copy_logs.ensures)
    (roomier_count c.self.inside.logs.entries _ _ _ _ c.self.inside.kept c.self.inside.rooms
    (λ node. ap (λ found. unwrap_or found 0) (c.in_ok-reserve.ensures.entries.2 node ∙ ap (lookup (nat_eq node)) cloned)) c.in_ok-reserve.ensures.ok
    c.self.invariant)
