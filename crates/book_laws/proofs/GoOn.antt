-- A map stays right as an fsync ends beside others.
use Rattle.flush_laws.proofs.Later.{fsyncs_keep_entries}
use Rattle.space_laws.proofs.Committed.{commits_keep_maps}
use Rattle.book_laws.specs.Ending.{MapsGoOn}
use Rattle.book_laws.proofs.Gone.{grants_end}

pub maps_go_on : MapsGoOn
maps_go_on ending old new is ends = record {
  stands = ends.stands;
  keeps = fsyncs_keep_entries ending.volume ending.one ending.later ends.planned ends.keeps;
  right = commits_keep_maps ending.volume ending.one ending.later ends.tx old new ends.planned ends.keeps is.right ends.used;
  are_out =
      grants_end old new ending.front ending.back (record { stamp = ending.stamp; numbers = ending.one.grant }) is.are_out
      (record { plan = ending.one.plan; tx = ends.tx; used = ends.used });
}
