-- So a mount closes.
use Rattle.sfs_dev.specs.Disk.{View}
use Rattle.merge_laws.specs.Plays.{PensMerge}
use Rattle.merge_laws.specs.LeftByTurns.{TellInTime}
use Rattle.merge_laws.proofs.ByTurns.{durables_survive, durables_read_back}
use Rattle.merge_laws.proofs.Told.{merged_tell}
use Rattle.merge_laws.proofs.Merged.{merged_turns}
use Rattle.slot_laws.proofs.Lawful.{labels_rise, labels_merge_pens, labels_count_faults}
use Rattle.close_laws.specs.Maps.{past_of}
use Rattle.close_laws.specs.Close.{TurnsClose, TableMountsClose}
use Rattle.close_laws.proofs.Closing.{survives, reads}

pub turns_close : (disk : View) → TurnsClose disk
turns_close disk share start entries named told ends tell =
    (survives start entries named told disk ends tell share, λ none_failed. reads start entries named told disk ends tell share none_failed)

pub table_mounts_close : (disk : View) → TableMountsClose disk
table_mounts_close disk share start entries named told pens ends with_pens =
    let turns = (past_of told).turns in
    let may = ends.labels.is.along.may in
    let legal = ends.labels.begins.walk.stands.between.history_is.legal in
    let merge : PensMerge start.first start.history turns =
    merged_turns start.first start.history told.before with_pens.most turns pens legal (record {
      cores = with_pens.cores;
      each = with_pens.agrees;
      merges = labels_merge_pens told.layout told.before told.log told.moment pens may with_pens.own with_pens.is;
      counts = labels_count_faults told.layout told.before with_pens.most told.log told.moment may with_pens.few;
    }) in
    let tell : TellInTime start.history turns = record {
      tell = merged_tell start.first start.history turns legal merge;
      rise = labels_rise told.layout told.before told.log told.moment may;
    } in
    let close = turns_close disk share start entries named told ends tell in (
      durables_survive disk share told.moment start.first start.history turns legal tell close.0,
      durables_read_back disk share start.first start.history turns legal merge tell.rise close.1,
    )
