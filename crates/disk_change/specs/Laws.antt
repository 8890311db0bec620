-- The laws of records, each of which a function of the module laws proves.
use Rattle.std.specs.Prelude.{◌≡◌, ◌↔◌, None}
use Rattle.disk_change.specs.Records.{RecordChange, record_written}

-- A record is written exactly where it differs: in its kind, its link count, its size, or one of its pointers.
abbrev pub OnlyWhatDiffersIsWritten : Type 0
OnlyWhatDiffersIsWritten = (change : RecordChange) → (record_written change ≡ None) ↔ (change.before ≡ change.after)
