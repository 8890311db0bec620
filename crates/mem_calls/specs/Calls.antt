-- Which calls are made here.
use Rattle.tree_laws.specs.declared.call.Call.{Call}
use Rattle.tree_laws.specs.declared.call.Call.TheVariants as call

-- A plain call: neither a rename nor an fsync.
abbrev pub IsPlainCall : Call → Type 0
IsPlainCall (call.Rename dir name to_dir to_name) = ⊥
IsPlainCall (call.Fsync node) = ⊥
IsPlainCall _ = Unit {0}

-- A plain call that may change the tree.
abbrev pub IsPlainChange : Call → Type 0
IsPlainChange (call.Make dir name kind) = Unit {0}
IsPlainChange (call.Link file dir name) = Unit {0}
IsPlainChange (call.Unlink dir name) = Unit {0}
IsPlainChange (call.Rmdir dir name) = Unit {0}
IsPlainChange (call.Write file at bytes) = Unit {0}
IsPlainChange (call.Trunc file size) = Unit {0}
IsPlainChange _ = ⊥
