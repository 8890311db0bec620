-- What contracts see of an end that is made over std's reader or writer.
use Rattle.std.specs.Prelude.{ℕ, Option, List}
use Rattle.sfs_base.specs.declared.std_ends.StdSource.{StdSource}
use Rattle.sfs_base.specs.declared.std_ends.StdSink.{StdSink}

-- what a source's reader has left, where that tells it
abbrev pub source_left : {R : Type 0} → (R → Option (List ℕ)) → StdSource R → Option (List ℕ)
source_left remaining source = remaining source.inner

-- how often a source has failed
abbrev pub source_faults : {R : Type 0} → StdSource R → ℕ
source_faults source = source.faults

-- the reader of a source
abbrev pub source_inner : {R : Type 0} → StdSource R → R
source_inner source = source.inner

-- what a sink's writer holds, where that tells it
abbrev pub sink_written : {W : Type 0} → (W → Option (List ℕ)) → StdSink W → Option (List ℕ)
sink_written contents sink = contents sink.inner

-- how often a sink has failed
abbrev pub sink_faults : {W : Type 0} → StdSink W → ℕ
sink_faults sink = sink.faults

-- the writer of a sink
abbrev pub sink_inner : {W : Type 0} → StdSink W → W
sink_inner sink = sink.inner
