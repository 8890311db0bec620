-- How a cut is kept: each node's stamp at its number.
use Rattle.std.specs.Prelude.{ℕ, suc, List, [], ◌∷◌, ◌==◌, max, if◌then◌else◌}
use Rattle.std.specs.Coded.{Coded, coded_ℕ}
use Rattle.std.specs.FinMap.{code, from_entries}
use Rattle.cut_laws.specs.Cut.{Cut}

-- stamps by the nodes' numbers, the first of which is this one
abbrev pub stamps_from : ℕ → List ℕ → List (ℕ × ℕ)
stamps_from node [] = []
stamps_from node (stamp ∷ stamps) = (node, stamp) ∷ stamps_from (suc node) stamps

-- the cut that has them
abbrev pub by_nodes : List ℕ → Cut
by_nodes stamps = from_entries (stamps_from 0 stamps)

-- how a cut is stored
abbrev pub cut_code : Coded Cut
cut_code = code coded_ℕ coded_ℕ

-- a node's stamp, once that of one of them is this at least
abbrev pub at_least : ℕ → ℕ → (ℕ → ℕ) → ℕ → ℕ
at_least raised stamp cut node = if node == raised then max (cut node) stamp else cut node
