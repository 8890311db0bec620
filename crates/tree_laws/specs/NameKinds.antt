-- A name and a kind as a pair.
use Rattle.std.specs.Prelude.{ℕ, List}
use Rattle.sfs_base.specs.declared.numbers.Kind.{Kind}
use Rattle.tree_laws.specs.declared.listing.NameKind.{NameKind}

-- a row as the pair of its name and its kind
abbrev pub name_kind : NameKind → List ℕ × Kind
name_kind row = (row.name, row.kind)
